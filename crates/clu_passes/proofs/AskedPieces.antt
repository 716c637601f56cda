-- What a node asks stands together in the list of all that is asked.
use Rattle.std.proofs.Common.{◌≡◌, ◌∙◌, ◌⊎◌, ℕ, zero, suc, ◌+◌, ◌-◌, ◌<◌, ◌≤◌, ◌&&◌, Bool, nat_le, if◌then◌else◌, List, [], ◌∷◌, ◌++◌, length, map, take, drop, Some, refl, sym, ap, inl, inr, arith, add-one, append_assoc, length-append, le-leb}
use Rattle.std.specs.Prelude.{slice_get}
use Rattle.std.proofs.Math.Seq.{take-append_seam, drop-append_seam}
use Rattle.std.proofs.lemmas.Bool.{cases_lt}
use Rattle.std.proofs.lemmas.List.{append-nil, take-map, drop-map, length-map}
use Rattle.std.proofs.lemmas.Option.{slice_get_past}
use Rattle.clu_base.proofs.Lists.{get_before, get_last}
use Rattle.clu_head.specs.declared.head.Demanded.{Demanded}
use Rattle.clu_head.specs.Asked.{demands_to, starts_to, start_in, between, demands_of}
use Rattle.clu_head.specs.Asking.{untyped}

-- ---- lists

module _ (of : ℕ → List Demanded) where
  abbrev so_far : ℕ → ℕ
  so_far n = length (demands_to of n)

  pub demands_next : (n : ℕ) → demands_to of (suc n) ≡ demands_to of n ++ of n
  unfolding demands_to
  demands_next n = refl

  starts_next : (n : ℕ) → starts_to of (suc n) ≡ starts_to of n ++ so_far n ∷ []
  unfolding starts_to
  starts_next n = refl

  pub starts_size : (n : ℕ) → length (starts_to of n) ≡ n
  unfolding starts_to
  starts_size zero = refl
  starts_size (suc n) = length-append (starts_to of n) (so_far n ∷ []) ∙ omega (arith, starts_size n)

  start_at : (n k : ℕ) → k < n → slice_get (starts_to of n) k ≡ Some (so_far k)
  start_at zero k l = absurd (omega (arith, l))
  start_at (suc n) k l = by (cases_lt k n) (λ less. start_at n k less)
    where
      size : length (starts_to of n) ≡ n
      size = starts_size n

      by : (k < n) ⊎ (n ≤ k) → (k < n → slice_get (starts_to of n) k ≡ Some (so_far k)) → slice_get (starts_to of (suc n)) k ≡ Some (so_far k)
      by (inl less) before = ap (λ (xs : List ℕ). slice_get xs k) (starts_next n) ∙ get_before (starts_to of n) (so_far n) k (omega (arith, size, less)) ∙ before less
      by (inr more) before =
          let same : k ≡ n = omega (arith, l, more) in
          ap (λ (xs : List ℕ). slice_get xs k) (starts_next n)
          ∙ ap (slice_get (starts_to of n ++ so_far n ∷ [])) (same ∙ sym size)
          ∙ get_last (starts_to of n) (so_far n)
          ∙ ap (λ (x : ℕ). Some (so_far x)) (sym same)

  pub begins_with : (n k : ℕ) → (rest : List Demanded) × (demands_to of (n + k) ≡ demands_to of n ++ rest)
  begins_with n zero = ([], ap (demands_to of) (omega arith) ∙ sym (append-nil (demands_to of n)))
  begins_with n (suc k) =
      let before = begins_with n k in (
        before.0 ++ of (n + k),
        ap (demands_to of) (omega arith) ∙ demands_next (n + k) ∙ ap (λ (xs : List Demanded). xs ++ of (n + k)) before.1 ∙ append_assoc (demands_to of n) before.0 (of (n + k)),
      )

  module _ (size : ℕ) (demands : List Demanded) (all : map untyped demands ≡ demands_to of size) where
    many : length demands ≡ so_far size
    many = sym (length-map demands untyped) ∙ ap length all

    start_is : (n : ℕ) → n ≤ size → start_in (length demands) (slice_get (starts_to of size) n) ≡ so_far n
    start_is n within = by (cases_lt n size)
      where
        by : (n < size) ⊎ (size ≤ n) → start_in (length demands) (slice_get (starts_to of size) n) ≡ so_far n
        by (inl less) = ap (start_in (length demands)) (start_at size n less)
        by (inr more) =
            let same : size ≡ n = omega (arith, within, more) in
            ap (start_in (length demands)) (slice_get_past (starts_to of size) n (omega (arith, starts_size size, more))) ∙ many ∙ ap so_far same

    between_is : (from to : ℕ) → from ≤ to → to ≤ length demands → between demands from to ≡ take (to - from) (drop from demands)
    between_is from to ordered within =
        ap (λ (b : Bool). if b && nat_le to (length demands) then take (to - from) (drop from demands) else []) (le-leb from to ordered)
        ∙ ap (λ (b : Bool). if b then take (to - from) (drop from demands) else []) (le-leb to (length demands) within)

    -- what the node n asks, by how much is asked before it
    pub of_node : (n : ℕ) → n < size → demands_of demands (starts_to of size) n ≡ take (so_far (suc n) - so_far n) (drop (so_far n) demands)
    unfolding demands_of
    of_node n less =
        let rest = begins_with (suc n) (size - suc n) in
        let whole : so_far size ≡ so_far (suc n) + length rest.0 = ap so_far (omega (arith, less)) ∙ ap length rest.1 ∙ length-append (demands_to of (suc n)) rest.0 in
        let own : so_far (suc n) ≡ so_far n + length (of n) = ap length (demands_next n) ∙ length-append (demands_to of n) (of n) in
        let all_of : length demands ≡ so_far size = many in
        let from : start_in (length demands) (slice_get (starts_to of size) n) ≡ so_far n = start_is n (omega (arith, less)) in
        let to : start_in (length demands) (slice_get (starts_to of size) (n + 1)) ≡ so_far (suc n) = start_is (n + 1) (omega (arith, less)) ∙ ap so_far (add-one n) in
        ap (λ (x : ℕ). between demands x (start_in (length demands) (slice_get (starts_to of size) (n + 1)))) from
        ∙ ap (λ (x : ℕ). between demands (so_far n) x) to
        ∙ between_is (so_far n) (so_far (suc n)) (omega (arith, own)) (omega (arith, own, whole, all_of))

    pub piece : (n : ℕ) → n < size → map untyped (demands_of demands (starts_to of size) n) ≡ of n
    piece n less =
        let rest = begins_with (suc n) (size - suc n) in
        let whole : demands_to of size ≡ demands_to of n ++ (of n ++ rest.0) =
        ap (demands_to of) (omega (arith, less)) ∙ rest.1 ∙ ap (λ (xs : List Demanded). xs ++ rest.0) (demands_next n) ∙ append_assoc (demands_to of n) (of n) rest.0 in
        let own : so_far (suc n) ≡ so_far n + length (of n) = ap length (demands_next n) ∙ length-append (demands_to of n) (of n) in
        let count : so_far (suc n) - so_far n ≡ length (of n) = omega (arith, own) in
        ap (map untyped) (of_node n less)
        ∙ sym (take-map untyped (so_far (suc n) - so_far n) (drop (so_far n) demands))
        ∙ ap (take (so_far (suc n) - so_far n)) (sym (drop-map untyped (so_far n) demands) ∙ ap (drop (so_far n)) (all ∙ whole) ∙ drop-append_seam (demands_to of n) (of n ++ rest.0))
        ∙ ap (λ (x : ℕ). take x (of n ++ rest.0)) count
        ∙ take-append_seam (of n) rest.0
