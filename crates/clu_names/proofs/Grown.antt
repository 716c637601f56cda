-- What the names of one more node denote.
use Rattle.std.proofs.Common.{◌≡◌, ◌∙◌, ◌++◌, ℕ, suc, ◌+◌, List, [], ◌∷◌, length, map, Option, Some, refl, ap, sym, add-one}
use Rattle.std.specs.Prelude.{slice_get}
use Rattle.clu_tree.specs.declared.node.Node.{Node}
use Rattle.clu_names.specs.declared.scopes.Declared.{Declared}
use Rattle.clu_names.specs.Denotes.{found, names_in, bound_at, bound_to, starts_to}

pub bound_next : (nodes : List Node) (ds : List Declared) (n : ℕ) (node : Node) (old new : List (Option ℕ)) → slice_get nodes n ≡ Some node → old ≡ bound_to nodes ds n → new ≡ old ++ map (λ name. found ds name n) (names_in node.kind node) → new ≡ bound_to nodes ds (n + 1)
unfolding bound_to
bound_next nodes ds n node old new at is grown =
    let whole : bound_to nodes ds (suc n) ≡ bound_to nodes ds n ++ bound_at ds n (Some node) = ap (λ (o : Option Node). bound_to nodes ds n ++ bound_at ds n o) at in
    grown ∙ ap (λ (xs : List (Option ℕ)). xs ++ map (λ name. found ds name n) (names_in node.kind node)) is ∙ sym whole ∙ ap (bound_to nodes ds) (sym (add-one n))

pub starts_next : (nodes : List Node) (ds : List Declared) (n k : ℕ) (old new : List ℕ) (bound : List (Option ℕ)) → old ≡ starts_to nodes ds n → bound ≡ bound_to nodes ds n → k ≡ length bound → new ≡ old ++ k ∷ [] → new ≡ starts_to nodes ds (n + 1)
unfolding starts_to
starts_next nodes ds n k old new bound is bound_is size grown =
    let at : k ≡ length (bound_to nodes ds n) = size ∙ ap length bound_is in
    let whole : starts_to nodes ds (suc n) ≡ starts_to nodes ds n ++ length (bound_to nodes ds n) ∷ [] = refl in
    grown ∙ ap (λ (xs : List ℕ). xs ++ k ∷ []) is ∙ ap (λ (x : ℕ). starts_to nodes ds n ++ x ∷ []) at ∙ sym whole ∙ ap (starts_to nodes ds) (sym (add-one n))
