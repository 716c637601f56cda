-- Names: where one is refused, the bytes before that begin a name that can stand there. 95 is _, 122 is z.
use Rattle.std.proofs.Common.{◌≡◌, ℕ, zero, suc, ◌-◌, ◌<◌, ◌≤◌, ◌⊎◌, ◌==◌, min, not, ◌&&◌, Bool, true, false, nat_lt, List, [], ◌∷◌, ◌++◌, length, take, drop, codes, Option, Some, None, unwrap_or, is_some, Ok, Err, if◌then◌else◌, refl, sym, ap, subst, ◌∙◌, arith, length-append, append_assoc, append-nil, inl, inr}
use Rattle.std.specs.Char.{to_ascii_lowercase}
use Rattle.std.specs.Str.{bytes_eq}
use Rattle.std.proofs.lemmas.Bool.{cases_Bool, cases_lt, both_ways, eqb-true, eq-eqb, ne_eqb, ltb-true, ltb-false, lt-ltb, le-ltb, not-true, not-false, and_parts, false_from_ne_true}
use Rattle.std.proofs.lemmas.List.{take-append-drop, length-take}
use Rattle.std.proofs.lemmas.Option.{same_Some}
use Rattle.clu_base.proofs.Lists.{same_bytes}
use Rattle.clu_lexer.specs.declared.symbols.Symbol.{Symbol}
use Rattle.clu_lexer.specs.declared.symbols.Symbol.TheVariants as symbol
use Rattle.clu_lexer.specs.Symbols.{spells, symbol_named}
use Rattle.clu_lexer.specs.Words.{words}
use Rattle.clu_specs.specs.declared.keywords.Simple.TheVariants as simple
use Rattle.clu_specs.specs.declared.keywords.Listing.TheVariants as listing
use Rattle.clu_specs.specs.declared.keywords.Selecting.TheVariants as selecting
use Rattle.clu_specs.specs.declared.keywords.Keyword.{Keyword}
use Rattle.clu_specs.specs.declared.keywords.Keyword.TheVariants as keyword
use Rattle.clu_specs.specs.Names.{word_len, first_word, behind_word, is_word, is_named, is_reserved, is_before, common, below_z, last_below_z, shared_with_later, has_later, name_after}
use Rattle.clu_specs.specs.Keywords.{keyword_of}
use Rattle.clu_specs.specs.TypeReading.{signal_name_after}
use Rattle.clu_specs.specs.Grammar.{IsName}
use Rattle.clu_specs.proofs.Outcomes.{either, found}
use Rattle.clu_specs.proofs.Words.{word_goes_on, take_all}
use Rattle.clu_specs.proofs.Spelled.{name_read, first_goes_on, word_spelled, keyword_text, keyword_spelled}
use Rattle.clu_specs.proofs.LocalNames.{word_over, word_take}
use Rattle.clu_specs.proofs.Fronts.{Front, Fronts, same_left, never, at_once, front_as, and_fails, shown_before}

abbrev last_byte : ℕ → List ℕ → ℕ
last_byte b [] = b
last_byte b (c ∷ bytes) = last_byte c bytes

last_appended : (b : ℕ) (text : List ℕ) (x : ℕ) → last_byte b (text ++ x ∷ []) ≡ x
last_appended b [] x = refl
last_appended b (c ∷ text) x = last_appended c text x

-- short, and without _ at the end
abbrev is_plain : List ℕ → Bool
is_plain word = nat_lt (length word) 20 && not (last_byte 0 word == 95)

abbrev Plain : List ℕ → Type 0
Plain text = (length text < 20) × (last_byte 0 text ≡ 95 → ⊥)

plain_by : (text : List ℕ) → is_plain text ≡ true → Plain text
plain_by text e =
    let p = and_parts (nat_lt (length text) 20) (not (last_byte 0 text == 95)) e in
    (ltb-true (length text) 20 p.0, λ z. both_ways (last_byte 0 text == 95) (not-true (last_byte 0 text == 95) p.1) (eq-eqb (last_byte 0 text) 95 z))

-- reserved words
abbrev all_plain : List (List ℕ × Symbol) → Bool
all_plain [] = true
all_plain (entry ∷ table) = is_plain entry.0 && all_plain table

spelled_length : (word text : List ℕ) → spells word text ≡ true → length text ≡ length word
spelled_length [] [] e = refl
spelled_length [] (t ∷ text) e = absurd (cc)
spelled_length (w ∷ word) [] e = absurd (cc)
spelled_length (w ∷ word) (t ∷ text) e = let p = and_parts (w == to_ascii_lowercase t) (spells word text) e in ap suc (spelled_length word text p.1)

spelled_last : (word text : List ℕ) (b c : ℕ) → b ≡ to_ascii_lowercase c → spells word text ≡ true → last_byte b word ≡ to_ascii_lowercase (last_byte c text)
spelled_last [] [] b c s e = s
spelled_last [] (t ∷ text) b c s e = absurd (cc)
spelled_last (w ∷ word) [] b c s e = absurd (cc)
spelled_last (w ∷ word) (t ∷ text) b c s e = let p = and_parts (w == to_ascii_lowercase t) (spells word text) e in spelled_last word text w t (eqb-true w (to_ascii_lowercase t) p.0) p.1

named_plain : (table : List (List ℕ × Symbol)) (text : List ℕ) → all_plain table ≡ true → is_some (symbol_named table text) ≡ true → Plain text
named_plain [] text all e = absurd (cc)
named_plain (entry ∷ table) text all e =
    let p = and_parts (is_plain entry.0) (all_plain table) all in
    elim (cases_Bool (spells entry.0 text)) [
      | inl holds ↦ (let plain = plain_by entry.0 p.0 in (omega (arith, plain.0, spelled_length entry.0 text holds), λ z. plain.1 (spelled_last entry.0 text 0 0 refl holds ∙ ap to_ascii_lowercase z)))
      | inr fails ↦ named_plain table text p.1 (rw fails at e)
    ]

reserved_some : (o : Option Symbol) → is_word (unwrap_or o symbol.Unknown) ≡ true → is_some o ≡ true
reserved_some None e = absurd (cc)
reserved_some (Some x) e = refl

words_plain : all_plain words ≡ true
words_plain = refl

reserved_plain : (text : List ℕ) → is_reserved text ≡ true → Plain text
unfolding is_reserved
reserved_plain text e = named_plain words text words_plain (reserved_some (symbol_named words text) e)

free_long : (text : List ℕ) → 20 ≤ length text → is_reserved text ≡ false
free_long text le = false_from_ne_true (is_reserved text) (λ e. let plain = reserved_plain text e in absurd (omega (arith, le, plain.0)))

free_low : (text : List ℕ) → is_reserved (text ++ 95 ∷ []) ≡ false
free_low text = false_from_ne_true (is_reserved (text ++ 95 ∷ [])) (λ e. (reserved_plain (text ++ 95 ∷ []) e).1 (last_appended 0 text 95))

-- a name after another goes on from the bytes
pub record NameBegun (previous : List ℕ) (limit : ℕ) (q : List ℕ) : Type 0 where
  pub name : List ℕ
  pub rest : List ℕ
  pub is : IsName limit name
  pub after : is_before previous name ≡ true
  pub spelled : name ≡ q ++ rest

-- a name, or none, after which another can come
pub record Earlier (previous : List ℕ) : Type 0 where
  pub letters : word_len previous ≡ length previous
  pub begins : is_named (previous ++ 95 ∷ []) ≡ true
  pub short : length previous ≤ 200
  pub later : has_later previous ≡ true

named_more : (name more : List ℕ) → is_named name ≡ true → is_named (name ++ more) ≡ true
named_more [] more e = absurd (cc)
named_more (b ∷ name) more e = e

pub earlier_none : Earlier []
unfolding shared_with_later
earlier_none = record { letters = refl; begins = refl; short = omega arith; later = refl }

pub earlier_name : (name : List ℕ) → IsName 200 name → has_later name ≡ true → Earlier name
earlier_name name n l = record { letters = n.goes_on; begins = named_more name (95 ∷ []) n.begins; short = n.short; later = l }

before_longer : (a : List ℕ) (x : ℕ) → is_before a (a ++ x ∷ []) ≡ true
before_longer [] x = refl
before_longer (b ∷ a) x = rw (eq-eqb b b refl) (before_longer a x)

before_more : (a b c : List ℕ) → is_before a b ≡ true → is_before a (b ++ c) ≡ true
before_more a [] c e = absurd (cc)
before_more [] (y ∷ b) c e = refl
before_more (x ∷ a) (y ∷ b) c e = elim (cases_Bool (x == y)) [ inl holds ↦ rw holds (before_more a b c (rw holds at e)) | inr fails ↦ rw fails (rw fails at e) ]

before_replaced : (w : List ℕ) (x z : ℕ) (a b : List ℕ) → x < z → is_before (w ++ x ∷ a) (w ++ z ∷ b) ≡ true
before_replaced [] x z a b lt = rw (ne_eqb x z (λ e. absurd (omega (arith, e, lt)))) (lt-ltb x z lt)
before_replaced (c ∷ w) x z a b lt = rw (eq-eqb c c refl) (before_replaced w x z a b lt)

low_goes : (text : List ℕ) → word_len text ≡ length text → word_len (text ++ 95 ∷ []) ≡ length (text ++ 95 ∷ [])
low_goes text e = word_over text (95 ∷ []) e ∙ sym (length-append text (95 ∷ []))

-- the last byte that a greater one can replace
record Replaced (name : List ℕ) (i : ℕ) : Type 0 where
  pub before : List ℕ
  pub byte : ℕ
  pub others : List ℕ
  pub whole : name ≡ before ++ byte ∷ others
  pub at : length before ≡ i
  pub low : byte < 122

below_found : (b : ℕ) (o : Option ℕ) (i : ℕ) → below_z b o ≡ Some i → ((b < 122) × (i ≡ 0)) ⊎ ((j : ℕ) × (o ≡ Some j) × (i ≡ suc j))
below_found b None i e = let h = found (nat_lt b 122) 0 i e in inl (ltb-true b 122 h.0, sym h.1)
below_found b (Some j) i e = inr (j, refl, sym (same_Some (suc j) i e))

replaced : (name : List ℕ) (i : ℕ) → last_below_z name ≡ Some i → Replaced name i
replaced [] i e = absurd (cc)
replaced (b ∷ name) i e = elim (below_found b (last_below_z name) i e) [
  | inl h ↦ record { before = []; byte = b; others = name; whole = refl; at = sym h.1; low = h.0 }
  | inr h ↦ (let r = replaced name h.0 h.1 in record { before = b ∷ r.before; byte = r.byte; others = r.others; whole = ap (λ (x : List ℕ). b ∷ x) r.whole; at = ap suc r.at ∙ sym h.2; low = r.low })
]

prefix_within : (q r w v : List ℕ) → q ++ r ≡ w ++ v → length q ≤ length w → (m : List ℕ) × (w ≡ q ++ m)
prefix_within [] r w v e le = (w, refl)
prefix_within (b ∷ q) r [] v e le = absurd (omega (arith, le))
prefix_within (b ∷ q) r (c ∷ w) v e le =
    let more : q ++ r ≡ w ++ v = cc in
    let first : b ≡ c = cc in
    let h = prefix_within q r w v more (omega (arith, le)) in
    let same : w ≡ q ++ h.0 = h.1 in
    (h.0, cc)

some_is : (o : Option ℕ) → is_some o ≡ true → o ≡ Some (unwrap_or o 0)
some_is None e = absurd (cc)
some_is (Some i) e = refl

shared_last : (name : List ℕ) → 200 ≤ length name → has_later name ≡ true → last_below_z name ≡ Some (unwrap_or (shared_with_later name) 0)
unfolding shared_with_later
shared_last name long l =
    let same : shared_with_later name ≡ last_below_z name = rw (le-ltb (length name) 200 long) refl in
    sym same ∙ some_is (shared_with_later name) l

replaced_named : (w : List ℕ) (x : ℕ) (v : List ℕ) → is_named ((w ++ x ∷ v) ++ 95 ∷ []) ≡ true → is_named (w ++ 122 ∷ v) ≡ true
replaced_named [] x v e = refl
replaced_named (b ∷ w) x v e = e

replaced_goes : (w : List ℕ) (x : ℕ) (v : List ℕ) → word_len (w ++ x ∷ v) ≡ length (w ++ x ∷ v) → word_len (w ++ 122 ∷ v) ≡ length (w ++ 122 ∷ v)
replaced_goes [] x v e = let h = word_goes_on x v e in ap suc h.1
replaced_goes (b ∷ w) x v e =
    let h = word_goes_on b (w ++ x ∷ v) e in
    let more = replaced_goes w x v h.1 in
    rw h.0 (ap suc more)

-- a name comes later with as many bytes of this one as a later name may share
pub later_name : (previous : List ℕ) (limit : ℕ) (q r : List ℕ) → Earlier previous → 200 ≤ limit → previous ≡ q ++ r → length q ≤ unwrap_or (shared_with_later previous) 0 → NameBegun previous limit q
later_name previous limit q r p large e le = elim (cases_lt (length previous) 200) [
  | inl short ↦ record {
    name = previous ++ 95 ∷ [];
    rest = r ++ 95 ∷ [];
    is = record { begins = p.begins; goes_on = low_goes previous p.letters; short = omega (arith, length-append previous (95 ∷ []), short, large); free = free_low previous };
    after = before_longer previous 95;
    spelled = ap (λ (x : List ℕ). x ++ 95 ∷ []) e ∙ append_assoc q r (95 ∷ []);
  }
  | inr long ↦ (let f = replaced previous (unwrap_or (shared_with_later previous) 0) (shared_last previous long p.later) in
      let within = prefix_within q r f.before (f.byte ∷ f.others) (sym e ∙ f.whole) (omega (arith, le, f.at)) in
      let name : List ℕ = f.before ++ 122 ∷ f.others in
      let size : length name ≡ length previous = length-append f.before (122 ∷ f.others) ∙ sym (ap length f.whole ∙ length-append f.before (f.byte ∷ f.others)) in
      record {
        name = name;
        rest = within.0 ++ 122 ∷ f.others;
        is = record {
          begins = replaced_named f.before f.byte f.others (subst (λ (x : List ℕ). is_named (x ++ 95 ∷ []) ≡ true) f.whole p.begins);
          goes_on = replaced_goes f.before f.byte f.others (subst (λ (x : List ℕ). word_len x ≡ length x) f.whole p.letters);
          short = omega (arith, size, p.short, large);
          free = free_long name (omega (arith, size, long));
        };
        after = subst (λ (x : List ℕ). is_before x name ≡ true) (sym f.whole) (before_replaced f.before f.byte 122 f.others f.others f.low);
        spelled = ap (λ (x : List ℕ). x ++ 122 ∷ f.others) within.1 ∙ append_assoc q within.0 (122 ∷ f.others);
      })
]

-- which of four tests refused
refused_by : {A : Type 0} (n b l r : Bool) (a0 b0 c0 d0 left : ℕ) (x : A) (Goal : Type 0) → (n ≡ true → a0 ≡ left → Goal) → (n ≡ false → b ≡ true → b0 ≡ left → Goal) → (n ≡ false → b ≡ false → l ≡ true → c0 ≡ left → Goal)
    → (n ≡ false → b ≡ false → l ≡ false → r ≡ true → d0 ≡ left → Goal) → (if n then Err a0 else if b then Err b0 else if l then Err c0 else if r then Err d0 else Ok x) ≡ Err left → Goal
refused_by {A} true b l r a0 b0 c0 d0 left x Goal f g h k e = f refl (same_left {A = A} (Err a0) a0 left refl e)
refused_by {A} false true l r a0 b0 c0 d0 left x Goal f g h k e = g refl refl (same_left {A = A} (Err b0) b0 left refl e)
refused_by {A} false false true r a0 b0 c0 d0 left x Goal f g h k e = h refl refl refl (same_left {A = A} (Err c0) c0 left refl e)
refused_by {A} false false false true a0 b0 c0 d0 left x Goal f g h k e = k refl refl refl refl (same_left {A = A} (Err d0) d0 left refl e)
refused_by false false false false a0 b0 c0 d0 left x Goal f g h k e = absurd (never x left e)

record Shared (a b : List ℕ) (i : ℕ) : Type 0 where
  pub front : List ℕ
  pub one : List ℕ
  pub two : List ℕ
  pub first : a ≡ front ++ one
  pub second : b ≡ front ++ two
  pub many : length front ≡ i

-- what two texts share
shared : (a b : List ℕ) (i : ℕ) → i ≤ common a b → Shared a b i
shared a b zero le = record { front = []; one = a; two = b; first = refl; second = refl; many = refl }
shared a [] (suc i) le = absurd (omega (arith, le))
shared [] (y ∷ b) (suc i) le = absurd (omega (arith, le))
shared (x ∷ a) (y ∷ b) (suc i) le = elim (cases_Bool (x == y)) [
  | inl holds ↦ (let now : suc i ≤ suc (common a b) = rw holds at le in
      let h = shared a b i (omega (arith, now)) in
      let same : x ≡ y = eqb-true x y holds in
      let other : b ≡ h.front ++ h.two = h.second in
      record { front = x ∷ h.front; one = h.one; two = h.two; first = ap (λ (z : List ℕ). x ∷ z) h.first; second = cc; many = ap suc h.many })
  | inr fails ↦ absurd (let now : suc i ≤ 0 = rw fails at le in omega (arith, now))
]

named_take : (word : List ℕ) (k : ℕ) → is_named word ≡ true → 0 < k → is_named (take k word) ≡ true
named_take [] k e some = absurd (cc)
named_take (b ∷ word) zero e some = absurd (omega (arith, some))
named_take (b ∷ word) (suc k) e some = e

module _ (previous : List ℕ) (limit : ℕ) (large : 200 ≤ limit) (p : Earlier previous) where
  order_front : (bytes : List ℕ) (left : ℕ) → length bytes - min (common previous (take limit (first_word bytes))) (unwrap_or (shared_with_later previous) 0) ≡ left → Front (NameBegun previous limit) bytes left
  order_front bytes left same =
      let i : ℕ = min (common previous (take limit (first_word bytes))) (unwrap_or (shared_with_later previous) 0) in
      let h = shared previous (take limit (first_word bytes)) i (omega arith) in
      let tail : List ℕ = h.two ++ (drop limit (first_word bytes) ++ behind_word bytes) in
      let text : bytes ≡ h.front ++ tail =
      word_spelled bytes ∙ ap (λ (x : List ℕ). x ++ behind_word bytes) (sym (take-append-drop limit (first_word bytes)) ∙ ap (λ (x : List ℕ). x ++ drop limit (first_word bytes)) h.second) ∙ simp append_assoc in
      record {
        front = h.front;
        back = tail;
        whole = text;
        rest = omega (arith, same, ap length text, length-append h.front tail, h.many);
        begun = later_name previous limit h.front h.one p large h.first (omega (arith, h.many));
      }

  long_front : (bytes : List ℕ) (left : ℕ) → is_named (first_word bytes) ≡ true → is_before previous (take limit (first_word bytes)) ≡ true → limit < length (first_word bytes) → length bytes - limit ≡ left → Front (NameBegun previous limit) bytes left
  long_front bytes left n b l same =
      let word : List ℕ = first_word bytes in
      let size : length (take limit word) ≡ limit = omega (arith, length-take limit word, l) in
      let tail : List ℕ = drop limit word ++ behind_word bytes in
      let text : bytes ≡ take limit word ++ tail = word_spelled bytes ∙ ap (λ (x : List ℕ). x ++ behind_word bytes) (sym (take-append-drop limit word)) ∙ append_assoc (take limit word) (drop limit word) (behind_word bytes) in
      record {
        front = take limit word;
        back = tail;
        whole = text;
        rest = omega (arith, same, ap length text, length-append (take limit word) tail, size);
        begun = record {
          name = take limit word;
          rest = [];
          is = record { begins = named_take word limit n (omega (arith, large)); goes_on = word_take word limit (first_goes_on bytes); short = omega (arith, size); free = free_long (take limit word) (omega (arith, size, large)) };
          after = b;
          spelled = sym (append-nil (take limit word));
        };
      }

  reserved_front : (bytes : List ℕ) (left : ℕ) → is_named (first_word bytes) ≡ true → is_before previous (take limit (first_word bytes)) ≡ true → length (first_word bytes) ≤ limit → is_reserved (first_word bytes) ≡ true → length (behind_word bytes) ≡ left
      → Front (NameBegun previous limit) bytes left
  reserved_front bytes left n b fits r same =
      let word : List ℕ = first_word bytes in
      let plain = reserved_plain word r in
      let whole : take limit word ≡ word = take_all limit word fits in
      let before : is_before previous word ≡ true = subst (λ (x : List ℕ). is_before previous x ≡ true) whole b in
      record {
        front = word;
        back = behind_word bytes;
        whole = word_spelled bytes;
        rest = same;
        begun = record {
          name = word ++ 95 ∷ [];
          rest = 95 ∷ [];
          is = record { begins = named_more word (95 ∷ []) n; goes_on = low_goes word (first_goes_on bytes); short = omega (arith, length-append word (95 ∷ []), plain.0, large); free = free_low word };
          after = before_more previous word (95 ∷ []) before;
          spelled = refl;
        };
      }

  pub name_front : Fronts (NameBegun previous limit) (name_after previous limit)
  unfolding name_after
  name_front bytes left e =
      refused_by (not (is_named (first_word bytes))) (not (is_before previous (take limit (first_word bytes)))) (nat_lt limit (length (first_word bytes))) (is_reserved (first_word bytes))
      (length bytes) (length bytes - min (common previous (take limit (first_word bytes))) (unwrap_or (shared_with_later previous) 0)) (length bytes - limit) (length (behind_word bytes)) left (first_word bytes, behind_word bytes) (Front (NameBegun previous limit) bytes left)
      (λ n same. at_once bytes left same (later_name previous limit [] previous p large refl (omega arith)))
      (λ n b same. order_front bytes left same)
      (λ n b l same. long_front bytes left (not-false (is_named (first_word bytes)) n) (not-false (is_before previous (take limit (first_word bytes))) b) (ltb-true limit (length (first_word bytes)) l) same)
      (λ n b l r same. reserved_front bytes left (not-false (is_named (first_word bytes)) n) (not-false (is_before previous (take limit (first_word bytes))) b) (ltb-false limit (length (first_word bytes)) l) r same)
      e

-- the name with _ after it
longer : (limit : ℕ) (name : List ℕ) → IsName limit name → length name < limit → IsName limit (name ++ 95 ∷ [])
longer limit name n lt = record { begins = named_more name (95 ∷ []) n.begins; goes_on = low_goes name n.goes_on; short = omega (arith, length-append name (95 ∷ []), lt); free = free_low name }

longer_begun : (previous q : List ℕ) (n : NameBegun previous 200 q) → length n.name < 200 → NameBegun previous 200 q
longer_begun previous q n lt = record {
  name = n.name ++ 95 ∷ [];
  rest = n.rest ++ 95 ∷ [];
  is = longer 200 n.name n.is lt;
  after = before_more previous n.name (95 ∷ []) n.after;
  spelled = shown_before n.name (95 ∷ []) q n.rest n.spelled;
}

-- one that is not a certain word
pub record OtherBegun (word previous q : List ℕ) : Type 0 where
  pub begun : NameBegun previous 200 q
  pub other : bytes_eq begun.name word ≡ false

pub avoiding : (word previous q : List ℕ) → length word < 200 → NameBegun previous 200 q → OtherBegun word previous q
unfolding longer_begun
avoiding word previous q short n = elim (cases_Bool (bytes_eq n.name word)) [
  | inl holds ↦ (let same : length n.name ≡ length word = ap length (same_bytes n.name word holds) in
      record {
        begun = longer_begun previous q n (omega (arith, same, short));
        other = false_from_ne_true (bytes_eq (n.name ++ 95 ∷ []) word) (λ e. absurd (omega (arith, same, ap length (same_bytes (n.name ++ 95 ∷ []) word e), length-append n.name (95 ∷ []))));
      })
  | inr fails ↦ record { begun = n; other = fails }
]

-- a name that was read
pub read_begun : (previous : List ℕ) (limit : ℕ) (bytes name rest : List ℕ) → name_after previous limit bytes ≡ Ok (name, rest) → NameBegun previous limit name
read_begun previous limit bytes name rest e =
    let read = name_read previous limit bytes name rest e in
    record { name = name; rest = []; is = read.is; after = read.after; spelled = sym (append-nil name) }

-- the name of a signal
pub signal_front : (previous : List ℕ) → Earlier previous → Fronts (OtherBegun (codes "failure") previous) (signal_name_after previous)
unfolding signal_name_after
signal_front previous p bytes left e =
    elim (and_fails (name_after previous 200 bytes) (λ (x : List ℕ × List ℕ). if bytes_eq x.0 (codes "failure") then Err (length x.1) else Ok x) left e) [
      | inl h ↦ front_as bytes left (name_front previous 200 (omega arith) p bytes left h) (λ q n. avoiding (codes "failure") previous q (omega arith) n)
      | inr h ↦ elim (either (bytes_eq h.0.0 (codes "failure")) (Err (length h.0.1)) (Ok h.0) (Err left) h.2) [
        | inl g ↦ (let read = name_read previous 200 bytes h.0.0 h.0.1 h.1 in
            record {
              front = h.0.0;
              back = h.0.1;
              whole = read.spelled;
              rest = same_left (Err (length h.0.1)) (length h.0.1) left refl g.1;
              begun = avoiding (codes "failure") previous h.0.0 (omega arith) (read_begun previous 200 bytes h.0.0 h.0.1 h.1);
            })
        | inr g ↦ absurd (never h.0 left g.1)
      ]
    ]

-- the words of types
keyword_plain : (k : Keyword) → is_plain (keyword_text k) ≡ true
keyword_plain (keyword.Simple simple.Null) = refl
keyword_plain (keyword.Simple simple.Bool) = refl
keyword_plain (keyword.Simple simple.Int) = refl
keyword_plain (keyword.Simple simple.Char) = refl
keyword_plain (keyword.Simple simple.Str) = refl
keyword_plain (keyword.Simple simple.Any) = refl
keyword_plain (keyword.Simple simple.Stream) = refl
keyword_plain (keyword.Listing listing.Array) = refl
keyword_plain (keyword.Listing listing.Sequence) = refl
keyword_plain (keyword.Selecting selecting.Record) = refl
keyword_plain (keyword.Selecting selecting.Struct) = refl
keyword_plain (keyword.Selecting selecting.Oneof) = refl
keyword_plain (keyword.Selecting selecting.Variant) = refl
keyword_plain (keyword.Routine false) = refl
keyword_plain (keyword.Routine true) = refl

word_plain : (text : List ℕ) (k : Keyword) → keyword_of text ≡ Some k → Plain text
word_plain text k e = plain_by text (ap is_plain (keyword_spelled text k e) ∙ keyword_plain k)

low_by : (text : List ℕ) (o : Option Keyword) → keyword_of (text ++ 95 ∷ []) ≡ o → o ≡ None
low_by text None e = refl
low_by text (Some k) e = absurd ((word_plain (text ++ 95 ∷ []) k e).1 (last_appended 0 text 95))

low_free : (text : List ℕ) → keyword_of (text ++ 95 ∷ []) ≡ None
low_free text = low_by text (keyword_of (text ++ 95 ∷ [])) refl

-- one that is no word of types
pub record FreeBegun (q : List ℕ) : Type 0 where
  pub begun : NameBegun [] 200 q
  pub free : keyword_of begun.name ≡ None

freed_by : (q : List ℕ) (n : NameBegun [] 200 q) (o : Option Keyword) → keyword_of n.name ≡ o → FreeBegun q
unfolding longer_begun
freed_by q n None e = record { begun = n; free = e }
freed_by q n (Some k) e =
    let plain = word_plain n.name k e in
    record { begun = longer_begun [] q n (omega (arith, plain.0)); free = low_free n.name }

pub freed : (q : List ℕ) → NameBegun [] 200 q → FreeBegun q
freed q n = freed_by q n (keyword_of n.name) refl
