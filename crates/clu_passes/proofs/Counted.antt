-- A node at or below another one is refused just if the counts before and after these differ.
use Rattle.std.proofs.Common.{◌≡◌, ◌∙◌, ℕ, zero, suc, ◌+◌, ◌-◌, ◌<◌, ◌≤◌, Bool, true, false, ◌&&◌, ◌||◌, if◌then◌else◌, nat_lt, nat_le, List, [], ◌∷◌, ◌++◌, length, get_or, Option, Some, refl, sym, ap, subst, inl, inr, arith, add-one, length-append, lt-ltb, le-ltb, le-leb}
use Rattle.std.specs.Prelude.{slice_get, filter}
use Rattle.std.specs.List.{list_any, range_with_len}
use Rattle.std.proofs.lemmas.Bool.{cases_eq, or_cases, and_parts, leb-true, true≢false}
use Rattle.std.proofs.lemmas.Option.{slice_get-get_or, get_or_from_slice_get}
use Rattle.std.proofs.Math.ListN.{get_or-append}
use Rattle.std.proofs.Math.Seq.{get_or-append_seam}
use Rattle.clu_syntax.specs.declared.round.Round.{Round}
use Rattle.clu_syntax.specs.Rounds.{round_at, outside}
use Rattle.clu_checking.specs.Files.{File, is_refused, stands_below}
use Rattle.clu_head.specs.Refused.{is_set, count_before, counts_to, number_in, grows_in}
use Rattle.clu_passes.specs.Counted.{AreRefused}

-- ---- counts

abbrev one_if : Bool → ℕ
one_if b = if b then 1 else 0

and_none : (x : ℕ) → x ≡ x + 0
and_none x = omega arith

one_more : (x : ℕ) (b : Bool) → (if b then x + 1 else x) ≡ x + one_if b
one_more x true = refl
one_more x false = and_none x

count_next : (bits : List Bool) (n : ℕ) → count_before bits (n + 1) ≡ count_before bits n + one_if (is_set (slice_get bits n))
unfolding count_before
count_next bits n = ap (count_before bits) (add-one n) ∙ one_more (count_before bits n) (is_set (slice_get bits n))

-- ---- their list

counts_length : (bits : List Bool) (k : ℕ) → length (counts_to bits k) ≡ k + 1
unfolding counts_to
counts_length bits zero = refl
counts_length bits (suc k) =
    let before : length (counts_to bits k) ≡ k + 1 = counts_length bits k in
    omega (arith, before, length-append (counts_to bits k) (count_before bits (suc k) ∷ []))

counts_at : (bits : List Bool) (k m : ℕ) → m ≤ k → get_or (counts_to bits k) m 0 ≡ count_before bits m
unfolding counts_to
counts_at bits zero m least =
    let none : 0 ≡ m = omega (arith, least) in
    subst (λ (x : ℕ). get_or (counts_to bits 0) x 0 ≡ count_before bits x) none refl
counts_at bits (suc k) m least = elim (cases_eq m (suc k)) [
  | inl last ↦
      let end : length (counts_to bits k) ≡ m = counts_length bits k ∙ add-one k ∙ sym last in
      subst (λ (x : ℕ). get_or (counts_to bits k ++ count_before bits (suc k) ∷ []) x 0 ≡ count_before bits (suc k)) end (get_or-append_seam (counts_to bits k) (count_before bits (suc k)) [] 0)
      ∙ ap (count_before bits) (sym last)
  | inr apart ↦
      let size : length (counts_to bits k) ≡ k + 1 = counts_length bits k in
      get_or-append (counts_to bits k) (count_before bits (suc k) ∷ []) 0 m (omega (arith, size, least, apart)) ∙ counts_at bits k m (omega (arith, least, apart))
]

number_at : (bits : List Bool) (m : ℕ) → m ≤ length bits → number_in (slice_get (counts_to bits (length bits)) m) ≡ count_before bits m
number_at bits m least =
    let size : length (counts_to bits (length bits)) ≡ length bits + 1 = counts_length bits (length bits) in
    ap number_in (slice_get-get_or (counts_to bits (length bits)) m 0 (omega (arith, size, least))) ∙ counts_at bits (length bits) m least

module _ (bits : List Bool) where
  abbrev bit : ℕ → Bool
  bit n = is_set (slice_get bits n)

  count_same : (m n : ℕ) → m ≡ n → count_before bits m ≡ count_before bits n
  count_same m n e = ap (count_before bits) e

  counts_grow : (m n : ℕ) → count_before bits n ≤ count_before bits (n + m)
  counts_grow zero n = let same : count_before bits (n + 0) ≡ count_before bits n = count_same (n + 0) n (omega arith) in omega (arith, same)
  counts_grow (suc m) n =
      let same : count_before bits (n + suc m) ≡ count_before bits (n + m + 1) = count_same (n + suc m) (n + m + 1) (omega arith) in
      let next : count_before bits (n + m + 1) ≡ count_before bits (n + m) + one_if (bit (n + m)) = count_next bits (n + m) in
      let more : count_before bits n ≤ count_before bits (n + m) = counts_grow m n in
      omega (arith, same, next, more)

  any_counted : (m n : ℕ) → list_any bit (range_with_len n m) ≡ nat_lt (count_before bits n) (count_before bits (n + m))
  any_counted zero n =
      let same : count_before bits (n + 0) ≡ count_before bits n = count_same (n + 0) n (omega arith) in
      sym (le-ltb (count_before bits n) (count_before bits (n + 0)) (omega (arith, same)))
  any_counted (suc m) n = by (any_counted m (n + 1)) (bit n) refl
    where
      next : count_before bits (n + 1) ≡ count_before bits n + one_if (bit n)
      next = count_next bits n

      by : list_any bit (range_with_len (n + 1) m) ≡ nat_lt (count_before bits (n + 1)) (count_before bits (n + 1 + m)) → (b : Bool) → bit n ≡ b → (b || list_any bit (range_with_len (n + 1) m)) ≡ nat_lt (count_before bits n) (count_before bits (n + suc m))
      by rest true is =
          let one : count_before bits (n + 1) ≡ count_before bits n + 1 = next ∙ ap (λ (b : Bool). count_before bits n + one_if b) is in
          let grown : count_before bits (n + 1) ≤ count_before bits (n + 1 + m) = counts_grow m (n + 1) in
          let same : count_before bits (n + 1 + m) ≡ count_before bits (n + suc m) = count_same (n + 1 + m) (n + suc m) (omega arith) in
          sym (lt-ltb (count_before bits n) (count_before bits (n + suc m)) (omega (arith, one, grown, same)))
      by rest false is =
          let none : count_before bits (n + 1) ≡ count_before bits n + 0 = next ∙ ap (λ (b : Bool). count_before bits n + one_if b) is in
          let kept : count_before bits (n + 1) ≡ count_before bits n = omega (arith, none) in
          rest
          ∙ ap (λ (x : ℕ). nat_lt x (count_before bits (n + 1 + m))) kept
          ∙ ap (λ (x : ℕ). nat_lt (count_before bits n) x) (count_same (n + 1 + m) (n + suc m) (omega arith))

-- ---- what passes in a part of a range

pub any_filtered : (p q : ℕ → Bool) (xs : List ℕ) → list_any p (filter q xs) ≡ list_any (λ n. q n && p n) xs
any_filtered p q [] = refl
any_filtered p q (x ∷ xs) = by (any_filtered p q xs) (q x)
  where
    by : list_any p (filter q xs) ≡ list_any (λ n. q n && p n) xs → (b : Bool) → list_any p (if b then x ∷ filter q xs else filter q xs) ≡ ((b && p x) || list_any (λ n. q n && p n) xs)
    by rest true = ap (λ (b : Bool). p x || b) rest
    by rest false = rest

pub range_in : (f : ℕ → Bool) (count from n : ℕ) → from ≤ n → n < from + count → f n ≡ true → list_any f (range_with_len from count) ≡ true
range_in f zero from n l m h = absurd (omega (arith, l, m))
range_in f (suc count) from n l m h = elim (cases_eq n from) [
  | inl same ↦ ap (λ (b : Bool). b || list_any f (range_with_len (from + 1) count)) (sym (ap f same) ∙ h)
  | inr apart ↦ or_true (f from) (range_in f count (from + 1) n (omega (arith, l, apart)) (omega (arith, m)) h)
]
  where
    or_true : (b : Bool) → list_any f (range_with_len (from + 1) count) ≡ true → (b || list_any f (range_with_len (from + 1) count)) ≡ true
    or_true true h = refl
    or_true false h = h

record InRange (f : ℕ → Bool) (from count : ℕ) : Type 0 where
  number : ℕ
  least : from ≤ number
  most : number < from + count
  passes : f number ≡ true

range_out : (f : ℕ → Bool) (count from : ℕ) → list_any f (range_with_len from count) ≡ true → InRange f from count
range_out f zero from e = absurd (true≢false (sym e))
range_out f (suc count) from e = elim (or_cases (f from) (list_any f (range_with_len (from + 1) count)) e) [
  | inl here ↦ record { number = from; least = omega arith; most = omega arith; passes = here }
  | inr rest ↦
      let more = range_out f count (from + 1) rest in
      let least : from + 1 ≤ more.number = more.least in
      let most : more.number < from + 1 + count = more.most in
      record { number = more.number; least = omega (arith, least); most = omega (arith, most); passes = more.passes }
]

both_true : (a b c : Bool) → a ≡ true → b ≡ true → c ≡ true → (a && (b && c)) ≡ true
both_true true true true e f g = refl
both_true true true false e f g = g
both_true true false c e f g = f
both_true false b c e f g = e

module _ (f : File) (bits : List Bool) (are : AreRefused f bits) (n : ℕ) (inside : n < length bits) (ordered : (round_at f.rounds n).first ≤ n) where
  abbrev first : ℕ
  first = (round_at f.rounds n).first

  abbrev below : ℕ → Bool
  below m = bit bits m && stands_below f m n

  part : list_any below (range_with_len 0 (length bits)) ≡ true → list_any (bit bits) (range_with_len first (suc n - first)) ≡ true
  part h =
      let r = range_out below (length bits) 0 h in
      let p = and_parts (bit bits r.number) (stands_below f r.number n) r.passes in
      let q = and_parts (nat_le first r.number) (nat_le r.number n) p.1 in
      let least : first ≤ r.number = leb-true first r.number q.0 in
      let most : r.number ≤ n = leb-true r.number n q.1 in
      range_in (bit bits) (suc n - first) first r.number least (omega (arith, ordered, most)) p.0

  whole : list_any (bit bits) (range_with_len first (suc n - first)) ≡ true → list_any below (range_with_len 0 (length bits)) ≡ true
  whole h =
      let r = range_out (bit bits) (suc n - first) first h in
      let least : first ≤ r.number = r.least in
      let most : r.number < first + (suc n - first) = r.most in
      let upto : r.number ≤ n = omega (arith, ordered, most) in
      range_in below (length bits) 0 r.number (omega arith) (omega (arith, upto, inside)) (both_true (bit bits r.number) (nat_le first r.number) (nat_le r.number n) r.passes (le-leb first r.number least) (le-leb r.number n upto))

  alike : (a b : Bool) → (a ≡ true → b ≡ true) → (b ≡ true → a ≡ true) → a ≡ b
  alike true b to from = sym (to refl)
  alike false true to from = from refl
  alike false false to from = refl

  pub refused_below : is_refused f n ≡ list_any (bit bits) (range_with_len first (suc n - first))
  refused_below =
      ap (λ (ns : List ℕ). list_any (λ m. stands_below f m n) ns) are
      ∙ any_filtered (λ m. stands_below f m n) (bit bits) (range_with_len 0 (length bits))
      ∙ alike (list_any below (range_with_len 0 (length bits))) (list_any (bit bits) (range_with_len first (suc n - first))) part whole

  counted_is : is_refused f n ≡ nat_lt (count_before bits first) (count_before bits (suc n))
  counted_is =
      let end : first + (suc n - first) ≡ suc n = omega (arith, ordered) in
      refused_below
      ∙ any_counted bits (suc n - first) first
      ∙ ap (λ (m : ℕ). nat_lt (count_before bits first) (count_before bits m)) end

pub refused_is : (f : File) (bits : List Bool) → AreRefused f bits → (n : ℕ) (round : Round) → n < length bits → slice_get f.rounds n ≡ Some round → round.first ≤ n → is_refused f n ≡ grows_in (counts_to bits (length bits)) (slice_get f.rounds n) n
refused_is f bits are n round inside there ordered =
    let from : (round_at f.rounds n).first ≡ round.first = ap (λ (r : Round). r.first) (get_or_from_slice_get f.rounds n round outside there) in
    counted_is f bits are n inside (omega (arith, from, ordered))
    ∙ ap (λ (m : ℕ). nat_lt (count_before bits m) (count_before bits (suc n))) from
    ∙ ap (λ (count : ℕ). nat_lt count (count_before bits (suc n))) (sym (number_at bits round.first (omega (arith, inside, ordered))))
    ∙ ap (λ (count : ℕ). nat_lt (number_in (slice_get (counts_to bits (length bits)) round.first)) count) (ap (count_before bits) (sym (add-one n)) ∙ sym (number_at bits (n + 1) (omega (arith, inside))))
    ∙ ap (λ (o : Option Round). grows_in (counts_to bits (length bits)) o n) (sym there)
