-- Actual parameters: what is written of them is read again, where this is so of the types among them.
use Rattle.std.proofs.Common.{◌≡◌, ℕ, zero, suc, ◌+◌, ◌≤◌, ℤ, pos, negsuc, true, false, ◌==◌, nat_le, List, [], ◌∷◌, ◌++◌, length, codes, decimal, flat_map, Option, Some, None, Ok, refl, sym, ap, ◌∙◌, arith, length-append, append_assoc, inl, inr}
use Rattle.std.specs.Fmt.{signed_decimal}
use Rattle.std.specs.Char.{is_ascii_digit, is_ascii_lowercase}
use Rattle.std.specs.Str.{bytes_eq}
use Rattle.std.proofs.lemmas.Bool.{both_ways, false_from_ne_true, and_parts, and_left, and_right, or_cases, ne_eqb, le-leb, lt-leb, leb-true, eqb-true}
use Rattle.std.proofs.lemmas.Fmt.{decimal_digit}
use Rattle.std.proofs.lemmas.Slice.Eq.{bytes_eq-Decides}
use Rattle.clu_base.specs.declared.constants.Const.{Const}
use Rattle.clu_base.specs.declared.constants.Const.TheVariants as const
use Rattle.clu_types.specs.CluType.{CluType, null_type, bool_type, int_type, char_type, string_type, any_type, stream_type, array_of, sequence_of, record_of, struct_of, oneof_of, variant_of, proc_of, iter_of, cluster_of, parameter, Actuals, no_actuals, actual_type, actual_const, actual_param}
use Rattle.clu_specs.specs.declared.actuals.Lead.TheVariants as lead
use Rattle.clu_specs.specs.declared.scope.Sort.{Sort}
use Rattle.clu_specs.specs.declared.scope.Sort.TheVariants as sort
use Rattle.clu_specs.specs.declared.scope.Scope.{Scope}
use Rattle.clu_specs.specs.Reading.{Read, behind, literal_at, several}
use Rattle.clu_specs.specs.Names.{begins_name, word_len, first_word, is_reserved}
use Rattle.clu_specs.specs.Scopes.{names, last_in}
use Rattle.clu_specs.specs.Constants.{hex_byte, constant_text, word_constant, integer_at, string_at}
use Rattle.clu_specs.specs.Texts.{type_text, fields_text, heading_text, more_actuals_text, all_actuals_text}
use Rattle.clu_specs.specs.TypeReading.{Reader, actuals_joined, lead_of, word_actual_by, marked_actual_read, actual_by, actual_read, actuals_step, actuals_read, all_actuals_by, all_actuals_read}
use Rattle.clu_specs.specs.Grammar.{IsParameter, IsInteger, IsConstant, IsType, AreActuals}
use Rattle.clu_specs.proofs.Words.{word_first, word_behind}
use Rattle.clu_specs.proofs.Decimals.{ended, parameter_again, byte_again, string_again, integer_again, led}
use Rattle.clu_specs.proofs.Heads.{is_stop, stop_word, stop_bracket, actuals_joined_assoc, actuals_joined_none, behind_item, item, is_head, Head, head_of, head_differs}
use Rattle.clu_specs.proofs.Lists.{Again}

head_no_digit : (b : ℕ) → is_head b ≡ true → is_ascii_digit b ≡ false
head_no_digit b h = elim (or_cases (begins_name b) (b == 35) h) [
  | inl name ↦ elim (or_cases (is_ascii_lowercase b) (b == 95) name) [
    | inl letter ↦ and_right (nat_le 48 b) (nat_le b 57) (lt-leb b 57 (omega (arith, leb-true 97 b (and_parts (nat_le 97 b) (nat_le b 122) letter).0)))
    | inr e ↦ and_right (nat_le 48 b) (nat_le b 57) (lt-leb b 57 (omega (arith, eqb-true b 95 e)))
  ]
  | inr e ↦ and_left (nat_le 48 b) (nat_le b 57) (lt-leb 48 b (omega (arith, eqb-true b 35 e)))
]

-- a type's first byte shows no constant
head_lead : (bytes : List ℕ) → Head bytes → lead_of bytes ≡ lead.Word
head_lead bytes h =
    ap lead_of h.whole
    ∙ rw (head_differs h.first 37 h.is refl, head_differs h.first 39 h.is refl, head_differs h.first 34 h.is refl, head_differs h.first 45 h.is refl, head_no_digit h.first h.is) refl

-- a word that is no constant's
reserved_nil : is_reserved (codes "nil") ≡ true
unfolding is_reserved
reserved_nil = refl

reserved_true : is_reserved (codes "true") ≡ true
unfolding is_reserved
reserved_true = refl

reserved_false : is_reserved (codes "false") ≡ true
unfolding is_reserved
reserved_false = refl

pub differs_from : (name word : List ℕ) → is_reserved name ≡ false → is_reserved word ≡ true → bytes_eq name word ≡ false
differs_from name word free reserved =
    false_from_ne_true (bytes_eq name word) (λ same. both_ways (is_reserved name) free (ap is_reserved ((bytes_eq-Decides name word).0 same) ∙ reserved))

name_no_constant : (name : List ℕ) → is_reserved name ≡ false → word_constant name ≡ None
unfolding word_constant
name_no_constant name free = rw (differs_from name (codes "nil") free reserved_nil, differs_from name (codes "true") free reserved_true, differs_from name (codes "false") free reserved_false) refl

worded : (word rest : List ℕ) → word_len word ≡ length word → word_len rest ≡ 0 → word_constant word ≡ None → word_constant (first_word (word ++ rest)) ≡ None
worded word rest w r e = ap word_constant (word_first word rest w r) ∙ e

pub actuals_stop : (given : Actuals) (rest : List ℕ) → is_stop rest ≡ true → word_len (all_actuals_text given ++ rest) ≡ 0
actuals_stop no_actuals rest stop = stop_word rest stop
actuals_stop (actual_type t given) rest stop = refl
actuals_stop (actual_const c given) rest stop = refl
actuals_stop (actual_param n given) rest stop = refl

more_stop : (given : Actuals) (rest : List ℕ) → is_stop (more_actuals_text given ++ 93 ∷ rest) ≡ true
more_stop no_actuals rest = refl
more_stop (actual_type t given) rest = refl
more_stop (actual_const c given) rest = refl
more_stop (actual_param n given) rest = refl

module _ (scope : Scope) (part : Reader CluType) (has : (of : Sort) (n : ℕ) → names scope of n ≡ true → nat_le 1 (last_in scope of) ≡ true) where
  -- a type's word is no constant
  type_no_constant : (t : CluType) (rest : List ℕ) → IsType scope t → is_stop rest ≡ true → word_constant (first_word (type_text t ++ rest)) ≡ None
  unfolding word_constant
  type_no_constant null_type rest h stop = worded (codes "null") rest refl (stop_word rest stop) refl
  type_no_constant bool_type rest h stop = worded (codes "bool") rest refl (stop_word rest stop) refl
  type_no_constant int_type rest h stop = worded (codes "int") rest refl (stop_word rest stop) refl
  type_no_constant char_type rest h stop = worded (codes "char") rest refl (stop_word rest stop) refl
  type_no_constant string_type rest h stop = worded (codes "string") rest refl (stop_word rest stop) refl
  type_no_constant any_type rest h stop = worded (codes "any") rest refl (stop_word rest stop) refl
  type_no_constant stream_type rest h stop = worded (codes "stream") rest refl (stop_word rest stop) refl
  type_no_constant (array_of t) rest h stop = worded (codes "array") (91 ∷ ((type_text t ++ 93 ∷ []) ++ rest)) refl refl refl
  type_no_constant (sequence_of t) rest h stop = worded (codes "sequence") (91 ∷ ((type_text t ++ 93 ∷ []) ++ rest)) refl refl refl
  type_no_constant (record_of fs) rest h stop = worded (codes "record") (91 ∷ ((fields_text fs ++ 93 ∷ []) ++ rest)) refl refl refl
  type_no_constant (struct_of fs) rest h stop = worded (codes "struct") (91 ∷ ((fields_text fs ++ 93 ∷ []) ++ rest)) refl refl refl
  type_no_constant (oneof_of fs) rest h stop = worded (codes "oneof") (91 ∷ ((fields_text fs ++ 93 ∷ []) ++ rest)) refl refl refl
  type_no_constant (variant_of fs) rest h stop = worded (codes "variant") (91 ∷ ((fields_text fs ++ 93 ∷ []) ++ rest)) refl refl refl
  type_no_constant (proc_of args results signals) rest h stop = worded (codes "proctype") (heading_text false args results signals ++ rest) refl refl refl
  type_no_constant (iter_of args results signals) rest h stop = worded (codes "itertype") (heading_text true args results signals ++ rest) refl refl refl
  type_no_constant (cluster_of name given) rest h stop =
      ap (λ (x : List ℕ). word_constant (first_word x)) (append_assoc name (all_actuals_text given) rest)
      ∙ worded name (all_actuals_text given ++ rest) h.0.goes_on (actuals_stop given rest stop) (name_no_constant name h.0.free)
  type_no_constant (parameter n) rest h stop = refl

  type_actual : (t : CluType) (rest : List ℕ) → IsType scope t → Again scope part t → is_stop rest ≡ true → actual_read scope part (type_text t ++ rest) ≡ Ok (actual_type t no_actuals, rest)
  unfolding actual_by word_actual_by
  type_actual t rest is again stop = rw (head_lead (type_text t ++ rest) (head_of scope t rest is), type_no_constant t rest is stop, again rest stop) refl

  word_actual : (word rest : List ℕ) (c : Const) → lead_of (word ++ rest) ≡ lead.Word → word_len word ≡ length word → word_len rest ≡ 0 → word_constant word ≡ Some c → actual_read scope part (word ++ rest) ≡ Ok (actual_const c no_actuals, rest)
  unfolding actual_by word_actual_by
  word_actual word rest c l w r e =
      let first : word_constant (first_word (word ++ rest)) ≡ Some c = ap word_constant (word_first word rest w r) ∙ e in
      rw (l, first, word_behind word rest w r) refl

  integer_actual : (bytes rest more : List ℕ) (first : ℕ) (n : ℤ) → bytes ≡ first ∷ more → lead_of (first ∷ more) ≡ lead.Integer → integer_at bytes ≡ Ok (n, rest) → actual_read scope part bytes ≡ Ok (actual_const (const.Int n) no_actuals, rest)
  unfolding actual_by marked_actual_read
  integer_actual bytes rest more first n e l r =
      let read : integer_at (first ∷ more) ≡ Ok (n, rest) = ap integer_at (sym e) ∙ r in
      rw (e, l, read) refl

  digit_lead : (first : ℕ) (more : List ℕ) → 48 ≤ first → first ≤ 57 → lead_of (first ∷ more) ≡ lead.Integer
  digit_lead first more low high =
      rw (
        ne_eqb first 37 (λ e. absurd (omega (arith, e, high, low))),
        ne_eqb first 39 (λ e. absurd (omega (arith, e, low))),
        ne_eqb first 34 (λ e. absurd (omega (arith, e, low))),
        ne_eqb first 45 (λ e. absurd (omega (arith, e, low))),
        le-leb 48 first low,
        le-leb first 57 high,
      ) refl

  int_actual : (n : ℤ) (rest : List ℕ) → IsInteger n → is_stop rest ≡ true → actual_read scope part (signed_decimal n ++ rest) ≡ Ok (actual_const (const.Int n) no_actuals, rest)
  int_actual (pos zero) rest h stop =
      integer_actual (decimal 0 ++ rest) rest rest 48 (pos 0) (ap (λ (x : List ℕ). x ++ rest) (decimal_digit 0 (omega arith))) (digit_lead 48 rest (omega arith) (omega arith)) (integer_again (pos 0) rest h (ended rest (stop_word rest stop)))
  int_actual (pos (suc n)) rest h stop =
      let p = led (suc n) (omega (arith, h)) (omega arith) in
      integer_actual (decimal (suc n) ++ rest) rest (p.1 ++ rest) p.0 (pos (suc n)) (ap (λ (x : List ℕ). x ++ rest) p.2) (digit_lead p.0 (p.1 ++ rest) (omega (arith, p.3)) p.4)
      (integer_again (pos (suc n)) rest h (ended rest (stop_word rest stop)))
  int_actual (negsuc n) rest h stop =
      integer_actual (signed_decimal (negsuc n) ++ rest) rest (decimal (suc n) ++ rest) 45 (negsuc n) refl refl (integer_again (negsuc n) rest h (ended rest (stop_word rest stop)))

  digits_longer : (bytes : List ℕ) → length bytes ≤ length (flat_map hex_byte bytes)
  digits_longer [] = omega arith
  digits_longer (b ∷ bytes) = omega (arith, digits_longer bytes)

  string_by : (bytes : List ℕ) (made rest : List ℕ) → string_at (length bytes) [] bytes ≡ Ok (made, rest) → actual_read scope part (34 ∷ bytes) ≡ Ok (actual_const (const.Str made) no_actuals, rest)
  unfolding actual_by marked_actual_read
  string_by bytes made rest r = rw r refl

  const_actual : (c : Const) (rest : List ℕ) → IsConstant c → is_stop rest ≡ true → actual_read scope part (constant_text c ++ rest) ≡ Ok (actual_const c no_actuals, rest)
  unfolding word_constant actual_by marked_actual_read
  const_actual const.Null rest h stop = word_actual (codes "nil") rest const.Null refl refl (stop_word rest stop) refl
  const_actual (const.Bool true) rest h stop = word_actual (codes "true") rest (const.Bool true) refl refl (stop_word rest stop) refl
  const_actual (const.Bool false) rest h stop = word_actual (codes "false") rest (const.Bool false) refl refl (stop_word rest stop) refl
  const_actual (const.Int n) rest h stop = int_actual n rest h stop
  const_actual (const.Char b) rest h stop = rw (byte_again b rest h) refl
  const_actual (const.Str bytes) rest h stop =
      let text : List ℕ = flat_map hex_byte bytes ++ 34 ∷ rest in
      let grouped : (flat_map hex_byte bytes ++ 34 ∷ []) ++ rest ≡ text = append_assoc (flat_map hex_byte bytes) (34 ∷ []) rest in
      ap (λ (x : List ℕ). actual_read scope part (34 ∷ x)) grouped
      ∙ string_by text bytes rest (string_again bytes [] rest (length text) h (omega (arith, digits_longer bytes, length-append (flat_map hex_byte bytes) (34 ∷ rest))))

  param_actual : (n : ℕ) (rest : List ℕ) → IsParameter scope sort.Constant n → is_stop rest ≡ true → actual_read scope part ((37 ∷ decimal n) ++ rest) ≡ Ok (actual_param n no_actuals, rest)
  unfolding actual_by marked_actual_read
  param_actual n rest is stop = rw (parameter_again scope sort.Constant n (37 ∷ (decimal n ++ rest)) rest is (has sort.Constant n is.named) (ended rest (stop_word rest stop))) refl

  abbrev pub AllActuals : Actuals → Type 0
  AllActuals no_actuals = Unit {0}
  AllActuals (actual_type t given) = Again scope part t × AllActuals given
  AllActuals (actual_const c given) = AllActuals given
  AllActuals (actual_param n given) = AllActuals given

  abbrev comma : Actuals → List ℕ → Option (List ℕ)
  comma made rest = behind 44 rest

  abbrev actuals_behind : ℕ → Actuals → List ℕ → Read Actuals
  actuals_behind n made bytes = behind_item (actuals_step scope part) comma n made bytes

  -- an item, and those after it
  actual_then : (n : ℕ) (made one given : Actuals) (text rest : List ℕ) → actual_read scope part (text ++ (more_actuals_text given ++ 93 ∷ rest)) ≡ Ok (one, more_actuals_text given ++ 93 ∷ rest)
      → actuals_behind n (actuals_joined made one) (more_actuals_text given ++ 93 ∷ rest) ≡ Ok (actuals_joined (actuals_joined made one) given, 93 ∷ rest)
      → several (actuals_step scope part) comma (suc n) made ((text ++ more_actuals_text given) ++ 93 ∷ rest) ≡ Ok (actuals_joined made (actuals_joined one given), 93 ∷ rest)
  actual_then n made one given text rest read more =
      let bytes : List ℕ = (text ++ more_actuals_text given) ++ 93 ∷ rest in
      let first : actual_read scope part bytes ≡ Ok (one, more_actuals_text given ++ 93 ∷ rest) = ap (actual_read scope part) (append_assoc text (more_actuals_text given) (93 ∷ rest)) ∙ read in
      let step : actuals_step scope part made bytes ≡ Ok (actuals_joined made one, more_actuals_text given ++ 93 ∷ rest) = rw first refl in
      item (actuals_step scope part) comma n made (actuals_joined made one) bytes (more_actuals_text given ++ 93 ∷ rest) step
      ∙ more ∙ ap (λ (x : Actuals). Ok (x, 93 ∷ rest)) (actuals_joined_assoc made one given)

  actuals_row : (given : Actuals) → AreActuals scope given → AllActuals given → (n : ℕ) (made : Actuals) (rest : List ℕ) → length (more_actuals_text given) ≤ n
      → actuals_behind n made (more_actuals_text given ++ 93 ∷ rest) ≡ Ok (actuals_joined made given, 93 ∷ rest)
  actuals_row no_actuals are all n made rest le = ap (λ (x : Actuals). Ok (x, 93 ∷ rest)) (sym (actuals_joined_none made))
  actuals_row (actual_type t given) are all zero made rest le = absurd (omega (arith, le))
  actuals_row (actual_const c given) are all zero made rest le = absurd (omega (arith, le))
  actuals_row (actual_param p given) are all zero made rest le = absurd (omega (arith, le))
  actuals_row (actual_type t given) are all (suc n) made rest le =
      actual_then n made (actual_type t no_actuals) given (type_text t) rest (type_actual t (more_actuals_text given ++ 93 ∷ rest) are.0 all.0 (more_stop given rest))
      (actuals_row given are.1 all.1 n (actuals_joined made (actual_type t no_actuals)) rest (omega (arith, le, length-append (type_text t) (more_actuals_text given))))
  actuals_row (actual_const c given) are all (suc n) made rest le =
      actual_then n made (actual_const c no_actuals) given (constant_text c) rest (const_actual c (more_actuals_text given ++ 93 ∷ rest) are.0 (more_stop given rest))
      (actuals_row given are.1 all n (actuals_joined made (actual_const c no_actuals)) rest (omega (arith, le, length-append (constant_text c) (more_actuals_text given))))
  actuals_row (actual_param p given) are all (suc n) made rest le =
      actual_then n made (actual_param p no_actuals) given (37 ∷ decimal p) rest (param_actual p (more_actuals_text given ++ 93 ∷ rest) are.0 (more_stop given rest))
      (actuals_row given are.1 all n (actuals_joined made (actual_param p no_actuals)) rest (omega (arith, le, length-append (37 ∷ decimal p) (more_actuals_text given))))

  brackets_by : (text rest : List ℕ) (given : Actuals) (n : ℕ) → length (text ++ 93 ∷ rest) ≡ n → several (actuals_step scope part) comma n no_actuals (text ++ 93 ∷ rest) ≡ Ok (given, 93 ∷ rest)
      → all_actuals_read scope part (91 ∷ ((text ++ 93 ∷ []) ++ rest)) ≡ Ok (given, rest)
  unfolding all_actuals_by actuals_read literal_at
  brackets_by text rest given n e r =
      let read : actuals_read scope part (text ++ 93 ∷ rest) ≡ Ok (given, 93 ∷ rest) = rw e r in
      let grouped : actuals_read scope part ((text ++ 93 ∷ []) ++ rest) ≡ Ok (given, 93 ∷ rest) = ap (actuals_read scope part) (append_assoc text (93 ∷ []) rest) ∙ read in
      rw grouped refl

  first_by : (one given : Actuals) (text rest : List ℕ) → AreActuals scope given → AllActuals given → actual_read scope part (text ++ (more_actuals_text given ++ 93 ∷ rest)) ≡ Ok (one, more_actuals_text given ++ 93 ∷ rest)
      → all_actuals_read scope part (91 ∷ (((text ++ more_actuals_text given) ++ 93 ∷ []) ++ rest)) ≡ Ok (actuals_joined one given, rest)
  first_by one given text rest are all read =
      let whole : List ℕ = text ++ more_actuals_text given in
      let n : ℕ = length whole + length rest in
      brackets_by whole rest (actuals_joined one given) (suc n) (omega (arith, length-append whole (93 ∷ rest)))
      (actual_then n no_actuals one given text rest read (actuals_row given are all n one rest (omega (arith, length-append text (more_actuals_text given)))))

  pub all_actuals_again : (given : Actuals) (rest : List ℕ) → AreActuals scope given → AllActuals given → is_stop rest ≡ true → all_actuals_read scope part (all_actuals_text given ++ rest) ≡ Ok (given, rest)
  unfolding all_actuals_by
  all_actuals_again no_actuals rest are all stop = rw (stop_bracket rest stop) refl
  all_actuals_again (actual_type t given) rest are all stop = first_by (actual_type t no_actuals) given (type_text t) rest are.1 all.1 (type_actual t (more_actuals_text given ++ 93 ∷ rest) are.0 all.0 (more_stop given rest))
  all_actuals_again (actual_const c given) rest are all stop = first_by (actual_const c no_actuals) given (constant_text c) rest are.1 all (const_actual c (more_actuals_text given ++ 93 ∷ rest) are.0 (more_stop given rest))
  all_actuals_again (actual_param p given) rest are all stop = first_by (actual_param p no_actuals) given (37 ∷ decimal p) rest are.1 all (param_actual p (more_actuals_text given ++ 93 ∷ rest) are.0 (more_stop given rest))
