-- The lengths that are reckoned of types and constants are those of their texts, as far as 64 bits count.
use Rattle.std.proofs.Common.{◌≡◌, ◌∙◌, ◌⊎◌, ℕ, zero, suc, ◌+◌, ◌-◌, ◌*◌, ◌/◌, ◌%◌, ◌^◌, ◌<◌, ◌≤◌, ◌==◌, max, min, nat_lt, ℤ, pos, negsuc, int_lt, Bool, true, false, if◌then◌else◌, List, [], ◌∷◌, ◌++◌, length, map, fold, flat_map, get_or, codes, decimal, slice_get, slice_index_or, inl, inr, refl, sym, ap, ap₂, arith, length-append, ne_eqb}
use Rattle.std.specs.Fmt.{signed_decimal, digit_glyph, digits, digits_onto}
use Rattle.std.proofs.lemmas.Bool.{cases_lt, lt-ltb, le-ltb}
use Rattle.std.proofs.lemmas.List.{map_push}
use Rattle.clu_base.specs.declared.constants.Const.{Const}
use Rattle.clu_base.specs.declared.constants.Const.TheVariants as const
use Rattle.clu_types.specs.CluType.{CluType, null_type, CluTypes, no_types, type_and, Fields, no_fields, field_and, Signals, no_signals, signal_and, Actuals, no_actuals, actual_type, actual_const, actual_param}
use Rattle.clu_types.specs.Arena.{type_at, types_at, fields_at, signals_at, actuals_at, type_of, types_of}
use Rattle.clu_types.specs.declared.term.TypeId.{TypeId}
use Rattle.clu_types.specs.declared.term.Field.{Field}
use Rattle.clu_types.specs.declared.term.Exception.{Exception}
use Rattle.clu_types.specs.declared.term.Heading.{Heading}
use Rattle.clu_types.specs.declared.term.Actual.{Actual}
use Rattle.clu_types.specs.declared.term.Actual.TheVariants as actual
use Rattle.clu_types.specs.declared.term.Term.{Term}
use Rattle.clu_types.specs.declared.term.Term.TheVariants as term
use Rattle.clu_specs.specs.Constants.{hex_byte, constant_text}
use Rattle.clu_specs.specs.Texts.{results_word, type_text, types_text, more_types_text, closed_text, fields_text, more_fields_text, more_signals_text, all_signals_text, more_actuals_text, all_actuals_text}
use Rattle.clu_checking.specs.ConstantRules.{is_long_text}
use Rattle.clu_settle.specs.Values.{constant_at}
use Rattle.clu_head.specs.Refused.{is_set}
use Rattle.clu_name_rules.specs.Lengths.{plus, with_more, digits_in, integer_length, constant_length, length_of, with_type, types_length, with_field, fields_length, with_signal, signals_length, heading_length, with_actual, actuals_length, term_length, lengths_behind, lengths_of}

abbrev cap : ℕ → ℕ
cap n = min n (2 ^ 64 - 1)

abbrev size : List ℕ → ℕ
size text = cap (length text)

plus_few : (a b : ℕ) → plus (cap a) b ≡ cap (a + b)
plus_few a b = omega arith

more_is : (k w : ℕ) → 0 < k → with_more (cap k) w ≡ cap (k + w)
more_is k w some =
    let other : (cap k == 0) ≡ false = ne_eqb (cap k) 0 (λ e. absurd (omega (arith, some, e))) in
    ap (λ (b : Bool). if b then 0 else plus (cap k) w) other ∙ plus_few k w

-- ---- constants

pub few_digits : (k n : ℕ) → digits_in k n ≤ k
unfolding digits_in
few_digits zero n = let none : digits_in zero n ≡ 0 = refl in omega (arith, none)
few_digits (suc k) n = by (n / 10 == 0) (few_digits k (n / 10))
  where
    by : (b : Bool) → digits_in k (n / 10) ≤ k → (if b then 1 else suc (digits_in k (n / 10))) ≤ suc k
    by true le = omega arith
    by false le = omega (arith, le)

count : (k n : ℕ) (rest : List ℕ) → length (digits_onto k 10 false n rest) ≡ digits_in k n + length rest
unfolding digits_in
count zero n rest = let none : digits_in zero n ≡ 0 = refl in let same : length rest ≡ digits_in zero n + length rest = omega (arith, none) in same
count (suc k) n rest = by (n / 10 == 0) (count k (n / 10) (digit_glyph false (n % 10) ∷ rest))
  where
    by : (b : Bool) → length (digits_onto k 10 false (n / 10) (digit_glyph false (n % 10) ∷ rest)) ≡ digits_in k (n / 10) + suc (length rest)
        → length (if b then digit_glyph false (n % 10) ∷ rest else digits_onto k 10 false (n / 10) (digit_glyph false (n % 10) ∷ rest)) ≡ (if b then 1 else suc (digits_in k (n / 10))) + length rest
    by true more = omega arith
    by false more = omega (arith, more)

unfolded : (n : ℕ) → digits_onto 64 10 false n [] ≡ decimal n
unfolding digits
unfolded n = refl

pub decimal_is : (n : ℕ) → length (decimal n) ≡ digits_in 64 n
decimal_is n = ap length (sym (unfolded n)) ∙ count 64 n [] ∙ omega arith

number_is : (n : ℕ) → digits_in 64 n ≡ size (decimal n)
number_is n = let few : digits_in 64 n ≤ 64 = few_digits 64 n in let same : length (decimal n) ≡ digits_in 64 n = decimal_is n in omega (arith, few, same)

behind_mark : (mark n : ℕ) → plus (digits_in 64 n) 1 ≡ size (mark ∷ decimal n)
behind_mark mark n = let same : length (decimal n) ≡ digits_in 64 n = decimal_is n in omega (arith, same)

below_zero : (n : ℕ) → int_lt (pos n) (pos 0) ≡ false
below_zero n = le-ltb n 0 (omega arith)

integer_is : (n : ℤ) → integer_length n ≡ size (signed_decimal n)
integer_is (pos n) = ap (λ (b : Bool). if b then plus (digits_in 64 n) 1 else digits_in 64 n) (below_zero n) ∙ number_is n
integer_is (negsuc n) = behind_mark 45 (suc n)

hex_is : (bytes : List ℕ) → length (flat_map hex_byte bytes) ≡ length bytes * 2
hex_is [] = refl
hex_is (b ∷ bytes) = let more : length (flat_map hex_byte bytes) ≡ length bytes * 2 = hex_is bytes in omega (arith, more)

constant_is : (c : Const) → constant_length c ≡ size (constant_text c)
constant_is const.Null = refl
constant_is (const.Bool true) = refl
constant_is (const.Bool false) = refl
constant_is (const.Int n) = integer_is n
constant_is (const.Char b) = refl
constant_is (const.Str bytes) =
    let digits : length (flat_map hex_byte bytes) ≡ length bytes * 2 = hex_is bytes in
    let text : length (flat_map hex_byte bytes ++ 34 ∷ []) ≡ length (flat_map hex_byte bytes) + 1 = length-append (flat_map hex_byte bytes) (34 ∷ []) in
    omega (arith, digits, text)

-- ---- lists, with one mark after each item

abbrev marked_types : CluTypes → ℕ
marked_types no_types = 0
marked_types (type_and t ts) = suc (length (type_text t)) + marked_types ts

abbrev marked_fields : Fields → ℕ
marked_fields no_fields = 0
marked_fields (field_and name t fs) = (length name + (2 + length (type_text t))) + marked_fields fs

abbrev marked_signals : Signals → ℕ
marked_signals no_signals = 0
marked_signals (signal_and name ts ss) = (length name + (1 + length (closed_text (40 ∷ []) ts))) + marked_signals ss

abbrev marked_actuals : Actuals → ℕ
marked_actuals no_actuals = 0
marked_actuals (actual_type t rest) = suc (length (type_text t)) + marked_actuals rest
marked_actuals (actual_const c rest) = suc (length (constant_text c)) + marked_actuals rest
marked_actuals (actual_param n rest) = suc (length (37 ∷ decimal n)) + marked_actuals rest

more_types : (ts : CluTypes) → length (more_types_text ts) ≡ marked_types ts
more_types no_types = refl
more_types (type_and t ts) = let more : length (more_types_text ts) ≡ marked_types ts = more_types ts in omega (arith, length-append (type_text t) (more_types_text ts), more)

types_closed : (ts : CluTypes) → max (cap (marked_types ts)) 1 ≡ cap (suc (length (types_text ts)))
types_closed no_types = refl
types_closed (type_and t ts) = let more : length (more_types_text ts) ≡ marked_types ts = more_types ts in omega (arith, length-append (type_text t) (more_types_text ts), more)

closed : (word : List ℕ) (ts : CluTypes) → with_more (cap (marked_types ts)) (length word) ≡ size (closed_text word ts)
closed word no_types = refl
closed word (type_and t ts) =
    let more : length (more_types_text ts) ≡ marked_types ts = more_types ts in
    let all : length (closed_text word (type_and t ts)) ≡ marked_types (type_and t ts) + length word =
    omega (arith, length-append word ((type_text t ++ more_types_text ts) ++ 41 ∷ []), length-append (type_text t ++ more_types_text ts) (41 ∷ []), length-append (type_text t) (more_types_text ts), more) in
    more_is (marked_types (type_and t ts)) (length word) (omega arith) ∙ ap cap (sym all)

more_fields : (fs : Fields) → length (more_fields_text fs) ≡ marked_fields fs
more_fields no_fields = refl
more_fields (field_and name t fs) =
    let more : length (more_fields_text fs) ≡ marked_fields fs = more_fields fs in
    omega (arith, length-append (name ++ 58 ∷ type_text t) (more_fields_text fs), length-append name (58 ∷ type_text t), more)

fields_closed : (fs : Fields) → max (cap (marked_fields fs)) 1 ≡ cap (suc (length (fields_text fs)))
fields_closed no_fields = refl
fields_closed (field_and name t fs) =
    let more : length (more_fields_text fs) ≡ marked_fields fs = more_fields fs in
    omega (arith, length-append (name ++ 58 ∷ type_text t) (more_fields_text fs), length-append name (58 ∷ type_text t), more)

more_signals : (ss : Signals) → length (more_signals_text ss) ≡ marked_signals ss
more_signals no_signals = refl
more_signals (signal_and name ts ss) =
    let more : length (more_signals_text ss) ≡ marked_signals ss = more_signals ss in
    omega (arith, length-append (name ++ closed_text (40 ∷ []) ts) (more_signals_text ss), length-append name (closed_text (40 ∷ []) ts), more)

signals_closed : (ss : Signals) → with_more (cap (marked_signals ss)) 8 ≡ size (all_signals_text ss)
signals_closed no_signals = refl
signals_closed (signal_and name ts ss) =
    let more : length (more_signals_text ss) ≡ marked_signals ss = more_signals ss in
    let all : length (all_signals_text (signal_and name ts ss)) ≡ marked_signals (signal_and name ts ss) + 8 =
    omega (arith, length-append ((name ++ closed_text (40 ∷ []) ts) ++ more_signals_text ss) (41 ∷ []), length-append (name ++ closed_text (40 ∷ []) ts) (more_signals_text ss), length-append name (closed_text (40 ∷ []) ts), more) in
    more_is (marked_signals (signal_and name ts ss)) 8 (omega arith) ∙ ap cap (sym all)

more_actuals : (given : Actuals) → length (more_actuals_text given) ≡ marked_actuals given
more_actuals no_actuals = refl
more_actuals (actual_type t rest) = let more : length (more_actuals_text rest) ≡ marked_actuals rest = more_actuals rest in omega (arith, length-append (type_text t) (more_actuals_text rest), more)
more_actuals (actual_const c rest) = let more : length (more_actuals_text rest) ≡ marked_actuals rest = more_actuals rest in omega (arith, length-append (constant_text c) (more_actuals_text rest), more)
more_actuals (actual_param n rest) = let more : length (more_actuals_text rest) ≡ marked_actuals rest = more_actuals rest in omega (arith, length-append (37 ∷ decimal n) (more_actuals_text rest), more)

-- the first text, and the rest behind it
bracketed : (text : List ℕ) (rest : Actuals) (marked : ℕ) → marked ≡ suc (length text) + marked_actuals rest → with_more (cap marked) 1 ≡ size (91 ∷ ((text ++ more_actuals_text rest) ++ 93 ∷ []))
bracketed text rest marked e =
    let more : length (more_actuals_text rest) ≡ marked_actuals rest = more_actuals rest in
    let all : length (91 ∷ ((text ++ more_actuals_text rest) ++ 93 ∷ [])) ≡ marked + 1 = omega (arith, length-append (text ++ more_actuals_text rest) (93 ∷ []), length-append text (more_actuals_text rest), more, e) in
    more_is marked 1 (omega (arith, e)) ∙ ap cap (sym all)

actuals_closed : (given : Actuals) → with_more (cap (marked_actuals given)) 1 ≡ size (all_actuals_text given)
actuals_closed no_actuals = refl
actuals_closed (actual_type t rest) = bracketed (type_text t) rest (marked_actuals (actual_type t rest)) refl
actuals_closed (actual_const c rest) = bracketed (constant_text c) rest (marked_actuals (actual_const c rest)) refl
actuals_closed (actual_param n rest) = bracketed (37 ∷ decimal n) rest (marked_actuals (actual_param n rest)) refl

-- ---- types over those before them

abbrev sizes : List CluType → List ℕ
sizes types = map (λ (t : CluType). size (type_text t)) types

module _ (types : List CluType) where
  place_is : (ts : List CluType) (i : ℕ) → get_or (sizes ts) i 4 ≡ size (type_text (slice_index_or ts i null_type))
  place_is [] i = refl
  place_is (t ∷ ts) zero = refl
  place_is (t ∷ ts) (suc i) = place_is ts i

  one_is : (id : TypeId) → length_of (sizes types) id ≡ size (type_text (type_at types id))
  one_is id = place_is types id.0

  types_from : (n : ℕ) (ids : List TypeId) → fold (with_type (sizes types)) (cap n) ids ≡ cap (n + marked_types (types_at types ids))
  types_from n [] = omega arith
  types_from n (id ∷ ids) =
      let one : with_type (sizes types) (cap n) id ≡ cap (n + suc (length (type_text (type_at types id)))) = omega (arith, one_is id) in
      ap (λ (k : ℕ). fold (with_type (sizes types)) k ids) one
      ∙ types_from (n + suc (length (type_text (type_at types id)))) ids
      ∙ omega arith

  types_are : (ids : List TypeId) → types_length (sizes types) ids ≡ cap (marked_types (types_at types ids))
  types_are ids = types_from 0 ids ∙ omega arith

  fields_from : (n : ℕ) (fs : List Field) → fold (with_field (sizes types)) (cap n) fs ≡ cap (n + marked_fields (fields_at types fs))
  fields_from n [] = omega arith
  fields_from n (f ∷ fs) =
      let one : with_field (sizes types) (cap n) f ≡ cap (n + (length f.name + (2 + length (type_text (type_at types f.of))))) = omega (arith, one_is f.of) in
      ap (λ (k : ℕ). fold (with_field (sizes types)) k fs) one
      ∙ fields_from (n + (length f.name + (2 + length (type_text (type_at types f.of))))) fs
      ∙ omega arith

  fields_are : (fs : List Field) → fields_length (sizes types) fs ≡ cap (suc (length (fields_text (fields_at types fs))))
  fields_are fs =
      let all : fold (with_field (sizes types)) 0 fs ≡ cap (marked_fields (fields_at types fs)) = fields_from 0 fs ∙ omega arith in
      ap (λ (k : ℕ). max k 1) all ∙ fields_closed (fields_at types fs)

  signals_from : (n : ℕ) (ss : List Exception) → fold (with_signal (sizes types)) (cap n) ss ≡ cap (n + marked_signals (signals_at types ss))
  signals_from n [] = omega arith
  signals_from n (s ∷ ss) =
      let objects : with_more (types_length (sizes types) s.objects) 1 ≡ size (closed_text (40 ∷ []) (types_at types s.objects)) =
      ap (λ (k : ℕ). with_more k 1) (types_are s.objects) ∙ closed (40 ∷ []) (types_at types s.objects) in
      let one : with_signal (sizes types) (cap n) s ≡ cap (n + (length s.name + (1 + length (closed_text (40 ∷ []) (types_at types s.objects))))) = omega (arith, objects) in
      ap (λ (k : ℕ). fold (with_signal (sizes types)) k ss) one
      ∙ signals_from (n + (length s.name + (1 + length (closed_text (40 ∷ []) (types_at types s.objects))))) ss
      ∙ omega arith

  signals_are : (ss : List Exception) → signals_length (sizes types) ss ≡ size (all_signals_text (signals_at types ss))
  signals_are ss =
      let all : fold (with_signal (sizes types)) 0 ss ≡ cap (marked_signals (signals_at types ss)) = signals_from 0 ss ∙ omega arith in
      ap (λ (k : ℕ). with_more k 8) all ∙ signals_closed (signals_at types ss)

  actuals_from : (n : ℕ) (given : List Actual) → fold (with_actual (sizes types)) (cap n) given ≡ cap (n + marked_actuals (actuals_at types given))
  actuals_from n [] = omega arith
  actuals_from n (actual.Of id ∷ rest) =
      let one : with_actual (sizes types) (cap n) (actual.Of id) ≡ cap (n + suc (length (type_text (type_at types id)))) = omega (arith, one_is id) in
      ap (λ (k : ℕ). fold (with_actual (sizes types)) k rest) one ∙ actuals_from (n + suc (length (type_text (type_at types id)))) rest ∙ omega arith
  actuals_from n (actual.Const c ∷ rest) =
      let one : with_actual (sizes types) (cap n) (actual.Const c) ≡ cap (n + suc (length (constant_text c))) = omega (arith, constant_is c) in
      ap (λ (k : ℕ). fold (with_actual (sizes types)) k rest) one ∙ actuals_from (n + suc (length (constant_text c))) rest ∙ omega arith
  actuals_from n (actual.ConstParam p ∷ rest) =
      let one : with_actual (sizes types) (cap n) (actual.ConstParam p) ≡ cap (n + suc (length (37 ∷ decimal p))) = omega (arith, behind_mark 37 p) in
      ap (λ (k : ℕ). fold (with_actual (sizes types)) k rest) one ∙ actuals_from (n + suc (length (37 ∷ decimal p))) rest ∙ omega arith

  actuals_are : (given : List Actual) → actuals_length (sizes types) given ≡ size (all_actuals_text (actuals_at types given))
  actuals_are given =
      let all : fold (with_actual (sizes types)) 0 given ≡ cap (marked_actuals (actuals_at types given)) = actuals_from 0 given ∙ omega arith in
      ap (λ (k : ℕ). with_more k 1) all ∙ actuals_closed (actuals_at types given)

  -- a word with `[`, what stands in brackets, and `]`
  in_brackets : (word inner : List ℕ) (n : ℕ) → n ≡ length word + 1 → cap (length inner + n) ≡ size (word ++ (inner ++ 93 ∷ []))
  in_brackets word inner n e = omega (arith, length-append word (inner ++ 93 ∷ []), length-append inner (93 ∷ []), e)

  list_is : (word : List ℕ) (id : TypeId) (n : ℕ) → n ≡ length word + 1 → plus (length_of (sizes types) id) n ≡ size (word ++ (type_text (type_at types id) ++ 93 ∷ []))
  list_is word id n e = ap (λ (k : ℕ). plus k n) (one_is id) ∙ plus_few (length (type_text (type_at types id))) n ∙ in_brackets word (type_text (type_at types id)) n e

  composed_is : (word : List ℕ) (fs : List Field) (n : ℕ) → n ≡ length word → plus (fields_length (sizes types) fs) n ≡ size (word ++ (fields_text (fields_at types fs) ++ 93 ∷ []))
  composed_is word fs n e =
      ap (λ (k : ℕ). plus k n) (fields_are fs)
      ∙ omega (arith, length-append word (fields_text (fields_at types fs) ++ 93 ∷ []), length-append (fields_text (fields_at types fs)) (93 ∷ []), e)

  heading_is : (word returned : List ℕ) (h : Heading) (n : ℕ) → length word ≡ 8 → n ≡ length returned →
      heading_length (sizes types) n h ≡ size (word ++ (40 ∷ (types_text (types_at types h.args) ++ 41 ∷ (closed_text returned (types_at types h.results) ++ all_signals_text (signals_at types h.signals)))))
  heading_is word returned h n eight e =
      let args : max (types_length (sizes types) h.args) 1 ≡ cap (suc (length (types_text (types_at types h.args)))) = ap (λ (k : ℕ). max k 1) (types_are h.args) ∙ types_closed (types_at types h.args) in
      let results : with_more (types_length (sizes types) h.results) n ≡ size (closed_text returned (types_at types h.results)) =
      ap₂ with_more (types_are h.results) e ∙ closed returned (types_at types h.results) in
      let text : length (word ++ (40 ∷ (types_text (types_at types h.args) ++ 41 ∷ (closed_text returned (types_at types h.results) ++ all_signals_text (signals_at types h.signals))))) ≡
      8 + suc (length (types_text (types_at types h.args)) + suc (length (closed_text returned (types_at types h.results)) + length (all_signals_text (signals_at types h.signals)))) =
      omega (
        arith,
        eight,
        length-append word (40 ∷ (types_text (types_at types h.args) ++ 41 ∷ (closed_text returned (types_at types h.results) ++ all_signals_text (signals_at types h.signals)))),
        length-append (types_text (types_at types h.args)) (41 ∷ (closed_text returned (types_at types h.results) ++ all_signals_text (signals_at types h.signals))),
        length-append (closed_text returned (types_at types h.results)) (all_signals_text (signals_at types h.signals)),
      ) in
      omega (arith, args, results, signals_are h.signals, text)

  term_is : (t : Term) → term_length (sizes types) t ≡ size (type_text (type_of types t))
  term_is term.Null = refl
  term_is term.Bool = refl
  term_is term.Int = refl
  term_is term.Char = refl
  term_is term.Str = refl
  term_is term.Any = refl
  term_is term.Stream = refl
  term_is (term.Array of) = list_is (codes "array[") of 7 refl
  term_is (term.Sequence of) = list_is (codes "sequence[") of 10 refl
  term_is (term.Record fs) = composed_is (codes "record[") fs 7 refl
  term_is (term.Struct fs) = composed_is (codes "struct[") fs 7 refl
  term_is (term.Oneof fs) = composed_is (codes "oneof[") fs 6 refl
  term_is (term.Variant fs) = composed_is (codes "variant[") fs 8 refl
  term_is (term.Proc h) = heading_is (codes "proctype") (results_word false) h 8 refl refl
  term_is (term.Iter h) = heading_is (codes "itertype") (results_word true) h 7 refl refl
  term_is (term.Cluster name given) =
      ap (plus (length name)) (actuals_are given) ∙ omega (arith, length-append name (all_actuals_text (actuals_at types given)))
  term_is (term.Param n) = behind_mark 35 n

-- ---- all types of an arena

behind : (terms : List Term) (types : List CluType) → lengths_behind (sizes types) terms ≡ sizes (fold (λ types t. types ++ type_of types t ∷ []) types terms)
behind [] types = refl
behind (t ∷ terms) types =
    let one : sizes types ++ term_length (sizes types) t ∷ [] ≡ sizes (types ++ type_of types t ∷ []) =
    ap (λ (n : ℕ). sizes types ++ n ∷ []) (term_is types t) ∙ sym (map_push (λ (t : CluType). size (type_text t)) types (type_of types t)) in
    ap (λ (ls : List ℕ). lengths_behind ls terms) one ∙ behind terms (types ++ type_of types t ∷ [])

all_are : (terms : List Term) → lengths_of terms ≡ sizes (types_of terms)
unfolding types_of
all_are terms = behind terms []

many_behind : (terms : List Term) (types : List CluType) → length (fold (λ types t. types ++ type_of types t ∷ []) types terms) ≡ length types + length terms
many_behind [] types = omega arith
many_behind (t ∷ terms) types = many_behind terms (types ++ type_of types t ∷ []) ∙ omega (arith, length-append types (type_of types t ∷ []))

as_many : (terms : List Term) → length (types_of terms) ≡ length terms
unfolding types_of
as_many terms = many_behind terms [] ∙ omega arith

-- ---- which are too long

long_is : (n : ℕ) → nat_lt 65536 (cap n) ≡ nat_lt 65536 n
long_is n = by (cases_lt n (2 ^ 64 - 1))
  where
    by : (n < 2 ^ 64 - 1) ⊎ (2 ^ 64 - 1 ≤ n) → nat_lt 65536 (cap n) ≡ nat_lt 65536 n
    by (inl below) = let same : cap n ≡ n = omega (arith, below) in ap (nat_lt 65536) same
    by (inr above) = lt-ltb 65536 (cap n) (omega (arith, above)) ∙ sym (lt-ltb 65536 n (omega (arith, above)))

bits_of_types : (types : List CluType) (i : ℕ) → i < length types → is_set (slice_get (map (nat_lt 65536) (sizes types)) i) ≡ is_long_text (type_text (slice_index_or types i null_type))
bits_of_types [] i less = absurd (omega (arith, less))
bits_of_types (t ∷ types) zero less = long_is (length (type_text t))
bits_of_types (t ∷ types) (suc i) less = bits_of_types types i (omega (arith, less))

pub long_types_told : (terms : List Term) (bits : List Bool) → bits ≡ map (nat_lt 65536) (lengths_of terms) → (id : TypeId) → id.0 < length terms → is_set (slice_get bits id.0) ≡ is_long_text (type_text (type_at (types_of terms) id))
long_types_told terms bits e id less =
    ap (λ (bs : List Bool). is_set (slice_get bs id.0)) (e ∙ ap (map (nat_lt 65536)) (all_are terms))
    ∙ bits_of_types (types_of terms) id.0 (omega (arith, less, as_many terms))

bits_of_constants : (cs : List Const) (k : ℕ) → k < length cs → is_set (slice_get (map (λ c. nat_lt 65536 (constant_length c)) cs) k) ≡ is_long_text (constant_text (constant_at cs k))
bits_of_constants [] k less = absurd (omega (arith, less))
bits_of_constants (c ∷ cs) zero less = ap (nat_lt 65536) (constant_is c) ∙ long_is (length (constant_text c))
bits_of_constants (c ∷ cs) (suc k) less = bits_of_constants cs k (omega (arith, less))

pub long_constants_told : (cs : List Const) (bits : List Bool) → bits ≡ map (λ c. nat_lt 65536 (constant_length c)) cs → (k : ℕ) → k < length cs → is_set (slice_get bits k) ≡ is_long_text (constant_text (constant_at cs k))
long_constants_told cs bits e k less = ap (λ (bs : List Bool). is_set (slice_get bs k)) e ∙ bits_of_constants cs k less
