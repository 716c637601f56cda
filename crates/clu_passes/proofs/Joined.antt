-- What a table by number has at a place, and what stands together in one that is joined of lists.
use Rattle.std.proofs.Common.{◌≡◌, ◌∙◌, ◌⊎◌, ℕ, zero, suc, ◌+◌, ◌-◌, ◌<◌, ◌≤◌, ◌&&◌, Bool, if◌then◌else◌, List, [], ◌∷◌, ◌++◌, length, take, drop, Option, Some, None, slice_get, refl, ap, sym, inl, inr, arith, add-one, append-nil, append_assoc, length-append}
use Rattle.std.proofs.Math.Seq.{take-append_seam, drop-append_seam}
use Rattle.std.proofs.lemmas.Option.{slice_get_past}
use Rattle.std.proofs.lemmas.Bool.{cases_lt}
use Rattle.clu_base.proofs.Lists.{get_before, get_last}
use Rattle.clu_names.specs.Denotes.{end_in, end_of}
use Rattle.clu_bindings.specs.Tables.{between, items_at, table_to, joined_to}
use Rattle.clu_passes.proofs.Tables.{between_is}

-- ---- tables

module _ {A : Type 0} (f : ℕ → A) where
  table_suc : (n : ℕ) → table_to f (suc n) ≡ table_to f n ++ f n ∷ []
  unfolding table_to
  table_suc n = refl

  pub table_size : (n : ℕ) → length (table_to f n) ≡ n
  unfolding table_to
  table_size zero = refl
  table_size (suc n) = let before : length (table_to f n) ≡ n = table_size n in length-append (table_to f n) (f n ∷ []) ∙ omega (arith, before)

  pub table_at : (m n : ℕ) → n < m → slice_get (table_to f m) n ≡ Some (f n)
  table_at zero n l = absurd (omega (arith, l))
  table_at (suc m) n l =
      let size : length (table_to f m) ≡ m = table_size m in
      ap (λ (xs : List A). slice_get xs n) (table_suc m) ∙ elim (cases_lt n m) [
        | inl less ↦ get_before (table_to f m) (f m) n (omega (arith, less, size)) ∙ table_at m n less
        | inr more ↦
            (let same : n ≡ m = omega (arith, l, more) in
            ap (slice_get (table_to f m ++ f m ∷ [])) (same ∙ sym size) ∙ get_last (table_to f m) (f m) ∙ ap (λ (k : ℕ). Some (f k)) (sym same))
      ]

-- ---- lists one behind the other

module _ {A : Type 0} (f : ℕ → List A) where
  pub joined_suc : (n : ℕ) → joined_to f (suc n) ≡ joined_to f n ++ f n
  unfolding joined_to
  joined_suc n = refl

  -- the table has where each of them begins
  pub record AreStarts (starts : List ℕ) (m : ℕ) : Type 0 where
    pub size : length starts ≡ m
    pub at : (n : ℕ) → n < m → slice_get starts n ≡ Some (length (joined_to f n))

  pub begins_with : (n k : ℕ) → (rest : List A) × (joined_to f (n + k) ≡ joined_to f n ++ rest)
  begins_with n zero = ([], ap (joined_to f) (omega arith) ∙ sym (append-nil (joined_to f n)))
  begins_with n (suc k) =
      let before = begins_with n k in (
        before.0 ++ f (n + k),
        ap (joined_to f) (omega arith) ∙ joined_suc (n + k) ∙ ap (λ (xs : List A). xs ++ f (n + k)) before.1 ∙ append_assoc (joined_to f n) before.0 (f (n + k)),
      )

  more : (n : ℕ) → length (joined_to f (suc n)) ≡ length (joined_to f n) + length (f n)
  more n = ap length (joined_suc n) ∙ length-append (joined_to f n) (f n)

  cut_is : (starts : List ℕ) (m from to n : ℕ) → end_in (slice_get starts n) (length (joined_to f m)) ≡ from → end_of starts (length (joined_to f m)) n ≡ to → items_at (joined_to f m) starts n ≡ between (joined_to f m) from to
  unfolding items_at
  cut_is starts m from to n a b = ap (λ (k : ℕ). between (joined_to f m) k (end_of starts (length (joined_to f m)) n)) a ∙ ap (λ (k : ℕ). between (joined_to f m) from k) b

  end_at : (starts : List ℕ) (m n : ℕ) → AreStarts starts m → n < m → end_of starts (length (joined_to f m)) n ≡ length (joined_to f (suc n))
  end_at starts m n are l = by (cases_lt (suc n) m)
    where
      by : (suc n < m) ⊎ (m ≤ suc n) → end_of starts (length (joined_to f m)) n ≡ length (joined_to f (suc n))
      by (inl less) = ap (λ (k : ℕ). end_in (slice_get starts k) (length (joined_to f m))) (add-one n) ∙ ap (λ (o : Option ℕ). end_in o (length (joined_to f m))) (are.at (suc n) less)
      by (inr late) =
          let same : m ≡ suc n = omega (arith, l, late) in
          let size : length starts ≡ m = are.size in
          ap (λ (k : ℕ). end_in (slice_get starts k) (length (joined_to f m))) (add-one n)
          ∙ ap (λ (o : Option ℕ). end_in o (length (joined_to f m))) (slice_get_past starts (suc n) (omega (arith, size, same)))
          ∙ ap (λ (k : ℕ). length (joined_to f k)) same

  pub joined_at : (starts : List ℕ) (m n : ℕ) → AreStarts starts m → n < m → items_at (joined_to f m) starts n ≡ f n
  joined_at starts m n are l =
      let rest = begins_with (suc n) (m - suc n) in
      let all : joined_to f m ≡ joined_to f (suc n) ++ rest.0 = ap (joined_to f) (omega (arith, l)) ∙ rest.1 in
      let whole : joined_to f m ≡ joined_to f n ++ (f n ++ rest.0) = all ∙ ap (λ (xs : List A). xs ++ rest.0) (joined_suc n) ∙ append_assoc (joined_to f n) (f n) rest.0 in
      let size : length (joined_to f m) ≡ length (joined_to f (suc n)) + length rest.0 = ap length all ∙ length-append (joined_to f (suc n)) rest.0 in
      let next : length (joined_to f (suc n)) ≡ length (joined_to f n) + length (f n) = more n in
      let own : length (joined_to f (suc n)) - length (joined_to f n) ≡ length (f n) = omega (arith, next) in
      cut_is starts m (length (joined_to f n)) (length (joined_to f (suc n))) n (ap (λ (o : Option ℕ). end_in o (length (joined_to f m))) (are.at n l)) (end_at starts m n are l)
      ∙ between_is (joined_to f m) (length (joined_to f n)) (length (joined_to f (suc n))) (omega (arith, next)) (omega (arith, size))
      ∙ ap (λ (xs : List A). take (length (joined_to f (suc n)) - length (joined_to f n)) (drop (length (joined_to f n)) xs)) whole
      ∙ ap (take (length (joined_to f (suc n)) - length (joined_to f n))) (drop-append_seam (joined_to f n) (f n ++ rest.0))
      ∙ ap (λ (k : ℕ). take k (f n ++ rest.0)) own
      ∙ take-append_seam (f n) rest.0

  pub joined_past : (starts : List ℕ) (m n : ℕ) → AreStarts starts m → m ≤ n → items_at (joined_to f m) starts n ≡ []
  joined_past starts m n are late =
      let size : length starts ≡ m = are.size in
      let none : length (joined_to f m) - length (joined_to f m) ≡ 0 = omega arith in
      cut_is starts m (length (joined_to f m)) (length (joined_to f m)) n
      (ap (λ (o : Option ℕ). end_in o (length (joined_to f m))) (slice_get_past starts n (omega (arith, size, late))))
      (ap (λ (o : Option ℕ). end_in o (length (joined_to f m))) (slice_get_past starts (n + 1) (omega (arith, size, late))))
      ∙ between_is (joined_to f m) (length (joined_to f m)) (length (joined_to f m)) (omega arith) (omega arith)
      ∙ ap (λ (k : ℕ). take k (drop (length (joined_to f m)) (joined_to f m))) none
