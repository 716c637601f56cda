-- The names of one node stand together in the list of all.
use Rattle.std.proofs.Common.{◌≡◌, ◌∙◌, ◌++◌, ◌⊎◌, ℕ, zero, suc, ◌+◌, ◌-◌, ◌<◌, ◌≤◌, List, [], ◌∷◌, length, take, drop, get_or, Option, Some, refl, ap, sym, inl, inr, arith, add-one, append_assoc, length-append}
use Rattle.std.specs.Prelude.{slice_get}
use Rattle.std.proofs.Math.Seq.{take-append_seam, drop-append_seam}
use Rattle.std.proofs.lemmas.List.{append-nil}
use Rattle.std.proofs.lemmas.Option.{slice_get_past, get_or_from_slice_get}
use Rattle.std.proofs.lemmas.Bool.{cases_lt}
use Rattle.clu_base.proofs.Lists.{get_before, get_last}
use Rattle.clu_tree.specs.declared.node.Node.{Node}
use Rattle.clu_names.specs.declared.scopes.Declared.{Declared}
use Rattle.clu_names.specs.Denotes.{bound_at, bound_to, starts_to, end_of, end_in}

bound_suc : (nodes : List Node) (ds : List Declared) (n : ℕ) → bound_to nodes ds (suc n) ≡ bound_to nodes ds n ++ bound_at ds n (slice_get nodes n)
unfolding bound_to
bound_suc nodes ds n = refl

starts_suc : (nodes : List Node) (ds : List Declared) (n : ℕ) → starts_to nodes ds (suc n) ≡ starts_to nodes ds n ++ length (bound_to nodes ds n) ∷ []
unfolding starts_to
starts_suc nodes ds n = refl

pub starts_size : (nodes : List Node) (ds : List Declared) (n : ℕ) → length (starts_to nodes ds n) ≡ n
unfolding starts_to
starts_size nodes ds zero = refl
starts_size nodes ds (suc n) = length-append (starts_to nodes ds n) (length (bound_to nodes ds n) ∷ []) ∙ omega (arith, starts_size nodes ds n)

pub start_at : (nodes : List Node) (ds : List Declared) (n k : ℕ) → k < n → slice_get (starts_to nodes ds n) k ≡ Some (length (bound_to nodes ds k))
start_at nodes ds zero k l = absurd (omega arith)
start_at nodes ds (suc n) k l = by (cases_lt k n) (λ less. start_at nodes ds n k less)
  where
    size : length (starts_to nodes ds n) ≡ n
    size = starts_size nodes ds n

    by : (k < n) ⊎ (n ≤ k) → (k < n → slice_get (starts_to nodes ds n) k ≡ Some (length (bound_to nodes ds k))) → slice_get (starts_to nodes ds (suc n)) k ≡ Some (length (bound_to nodes ds k))
    by (inl less) before =
        ap (λ (xs : List ℕ). slice_get xs k) (starts_suc nodes ds n) ∙ get_before (starts_to nodes ds n) (length (bound_to nodes ds n)) k (omega (arith, size)) ∙ before less
    by (inr more) before =
        let same : k ≡ n = omega arith in
        ap (λ (xs : List ℕ). slice_get xs k) (starts_suc nodes ds n)
        ∙ ap (slice_get (starts_to nodes ds n ++ length (bound_to nodes ds n) ∷ [])) (same ∙ sym size)
        ∙ get_last (starts_to nodes ds n) (length (bound_to nodes ds n))
        ∙ ap (λ (x : ℕ). Some (length (bound_to nodes ds x))) (sym same)

-- all of it begins with the names of the first nodes
pub begins_with : (nodes : List Node) (ds : List Declared) (n k : ℕ) → (rest : List (Option ℕ)) × (bound_to nodes ds (n + k) ≡ bound_to nodes ds n ++ rest)
begins_with nodes ds n zero = ([], ap (bound_to nodes ds) (omega arith) ∙ sym (append-nil (bound_to nodes ds n)))
begins_with nodes ds n (suc k) =
    let before = begins_with nodes ds n k in (
      before.0 ++ bound_at ds (n + k) (slice_get nodes (n + k)),
      ap (bound_to nodes ds) (omega arith) ∙ bound_suc nodes ds (n + k) ∙ ap (λ (xs : List (Option ℕ)). xs ++ bound_at ds (n + k) (slice_get nodes (n + k))) before.1
          ∙ append_assoc (bound_to nodes ds n) before.0 (bound_at ds (n + k) (slice_get nodes (n + k))),
    )

pub end_at : (nodes : List Node) (ds : List Declared) (n m all : ℕ) → n < m → all ≡ length (bound_to nodes ds m) → end_of (starts_to nodes ds m) all n ≡ length (bound_to nodes ds (suc n))
end_at nodes ds n m all l is = by (cases_lt (suc n) m)
  where
    by : (suc n < m) ⊎ (m ≤ suc n) → end_of (starts_to nodes ds m) all n ≡ length (bound_to nodes ds (suc n))
    by (inl less) = ap (λ (k : ℕ). end_in (slice_get (starts_to nodes ds m) k) all) (add-one n) ∙ ap (λ (o : Option ℕ). end_in o all) (start_at nodes ds m (suc n) less)
    by (inr more) =
        let same : m ≡ suc n = omega arith in
        ap (λ (k : ℕ). end_in (slice_get (starts_to nodes ds m) k) all) (add-one n)
        ∙ ap (λ (o : Option ℕ). end_in o all) (slice_get_past (starts_to nodes ds m) (suc n) (omega (arith, starts_size nodes ds m)))
        ∙ is ∙ ap (λ (k : ℕ). length (bound_to nodes ds k)) same

pub within : (nodes : List Node) (ds : List Declared) (n m : ℕ) → n < m → (length (bound_to nodes ds n) ≤ length (bound_to nodes ds (suc n))) × (length (bound_to nodes ds (suc n)) ≤ length (bound_to nodes ds m))
within nodes ds n m l =
    let rest = begins_with nodes ds (suc n) (m - suc n) in
    let all : length (bound_to nodes ds (suc n + (m - suc n))) ≡ length (bound_to nodes ds m) = ap (λ (k : ℕ). length (bound_to nodes ds k)) (omega arith) in
    let size : length (bound_to nodes ds (suc n + (m - suc n))) ≡ length (bound_to nodes ds (suc n)) + length rest.0 = ap length rest.1 ∙ length-append (bound_to nodes ds (suc n)) rest.0 in
    let more : length (bound_to nodes ds (suc n)) ≡ length (bound_to nodes ds n) + length (bound_at ds n (slice_get nodes n)) = ap length (bound_suc nodes ds n) ∙ length-append (bound_to nodes ds n) (bound_at ds n (slice_get nodes n)) in
    (omega (arith, more), omega (arith, size, all))

pub piece : (nodes : List Node) (ds : List Declared) (n m : ℕ) → n < m → take (length (bound_to nodes ds (suc n)) - length (bound_to nodes ds n)) (drop (length (bound_to nodes ds n)) (bound_to nodes ds m)) ≡ bound_at ds n (slice_get nodes n)
piece nodes ds n m l =
    let rest = begins_with nodes ds (suc n) (m - suc n) in
    let own : List (Option ℕ) = bound_at ds n (slice_get nodes n) in
    let front : List (Option ℕ) = bound_to nodes ds n in
    let whole : bound_to nodes ds m ≡ front ++ (own ++ rest.0) =
    ap (bound_to nodes ds) (omega arith) ∙ rest.1 ∙ ap (λ (xs : List (Option ℕ)). xs ++ rest.0) (bound_suc nodes ds n) ∙ append_assoc front own rest.0 in
    let size : length (bound_to nodes ds (suc n)) - length front ≡ length own = let more : length (bound_to nodes ds (suc n)) ≡ length front + length own = ap length (bound_suc nodes ds n) ∙ length-append front own in omega (arith, more) in
    ap (λ (xs : List (Option ℕ)). take (length (bound_to nodes ds (suc n)) - length front) (drop (length front) xs)) whole
    ∙ ap (take (length (bound_to nodes ds (suc n)) - length front)) (drop-append_seam front (own ++ rest.0))
    ∙ ap (λ (k : ℕ). take k (own ++ rest.0)) size
    ∙ take-append_seam own rest.0

from_at : (nodes : List Node) (ds : List Declared) (n m : ℕ) (starts : List ℕ) → n < m → starts ≡ starts_to nodes ds m → get_or starts n 0 ≡ length (bound_to nodes ds n)
from_at nodes ds n m starts l e = ap (λ (xs : List ℕ). get_or xs n 0) e ∙ get_or_from_slice_get (starts_to nodes ds m) n (length (bound_to nodes ds n)) 0 (start_at nodes ds m n l)

to_at : (nodes : List Node) (ds : List Declared) (n m to : ℕ) (starts : List ℕ) (bound : List (Option ℕ)) → n < m → starts ≡ starts_to nodes ds m → bound ≡ bound_to nodes ds m → to ≡ end_of starts (length bound) n → to ≡ length (bound_to nodes ds (suc n))
to_at nodes ds n m to starts bound l e b is = is ∙ ap (λ (xs : List ℕ). end_of xs (length bound) n) e ∙ end_at nodes ds n m (length bound) l (ap length b)

pub piece_at : (nodes : List Node) (ds : List Declared) (n m to : ℕ) (starts : List ℕ) (bound : List (Option ℕ)) → n < m → starts ≡ starts_to nodes ds m → bound ≡ bound_to nodes ds m → to ≡ end_of starts (length bound) n →
    take (to - get_or starts n 0) (drop (get_or starts n 0) bound) ≡ bound_at ds n (slice_get nodes n)
piece_at nodes ds n m to starts bound l e b is =
    let f : get_or starts n 0 ≡ length (bound_to nodes ds n) = from_at nodes ds n m starts l e in
    let t : to ≡ length (bound_to nodes ds (suc n)) = to_at nodes ds n m to starts bound l e b is in
    ap (λ (k : ℕ). take (k - get_or starts n 0) (drop (get_or starts n 0) bound)) t
    ∙ ap (λ (k : ℕ). take (length (bound_to nodes ds (suc n)) - k) (drop k bound)) f
    ∙ ap (λ (xs : List (Option ℕ)). take (length (bound_to nodes ds (suc n)) - length (bound_to nodes ds n)) (drop (length (bound_to nodes ds n)) xs)) b
    ∙ piece nodes ds n m l

pub no_gap : (nodes : List Node) (ds : List Declared) (n m to : ℕ) (starts : List ℕ) (bound : List (Option ℕ)) → n < m → starts ≡ starts_to nodes ds m → bound ≡ bound_to nodes ds m → to ≡ end_of starts (length bound) n →
    (to < get_or starts n 0) ⊎ (length bound < to) → ⊥
no_gap nodes ds n m to starts bound l e b is (inl early) =
    let f : get_or starts n 0 ≡ length (bound_to nodes ds n) = from_at nodes ds n m starts l e in
    let t : to ≡ length (bound_to nodes ds (suc n)) = to_at nodes ds n m to starts bound l e b is in
    let w : length (bound_to nodes ds n) ≤ length (bound_to nodes ds (suc n)) = (within nodes ds n m l).0 in
    omega (arith, f, t, w, early)
no_gap nodes ds n m to starts bound l e b is (inr late) =
    let t : to ≡ length (bound_to nodes ds (suc n)) = to_at nodes ds n m to starts bound l e b is in
    let w : length (bound_to nodes ds (suc n)) ≤ length (bound_to nodes ds m) = (within nodes ds n m l).1 in
    let s : length bound ≡ length (bound_to nodes ds m) = ap length b in
    omega (arith, t, w, s, late)
