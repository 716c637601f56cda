-- Each node adds what it leads to.
use Rattle.std.proofs.Common.{◌≡◌, ◌∙◌, ℕ, ◌+◌, List, [], ◌∷◌, ◌++◌, length, Option, ap, sym, subst, add-one}
use Rattle.clu_tree.specs.declared.node.Node.{Node}
use Rattle.clu_names.specs.declared.scopes.Declared.{Declared}
use Rattle.clu_circles.specs.declared.states.Span.{Span}
use Rattle.clu_settle.specs.declared.meanings.Meaning.{Meaning}
use Rattle.clu_settle.specs.Graph.{targets_at, targets_to, spans_to, unfolded_at, unfolded_to}

pub targets_next : (nodes : List Node) (ms : List Meaning) (n : ℕ) (old new : List (Option ℕ)) → old ≡ targets_to nodes ms n → new ≡ old ++ targets_at nodes ms n → new ≡ targets_to nodes ms (n + 1)
unfolding targets_to
targets_next nodes ms n old new e f = subst (λ (x : ℕ). new ≡ targets_to nodes ms x) (sym (add-one n)) (f ∙ ap (λ (xs : List (Option ℕ)). xs ++ targets_at nodes ms n) e)

pub spans_next : (nodes : List Node) (ms : List Meaning) (n from to : ℕ) (olds news : List (Option ℕ)) (old new : List Span) → old ≡ spans_to nodes ms n → olds ≡ targets_to nodes ms n → news ≡ olds ++ targets_at nodes ms n → from ≡ length olds → to ≡ length news → new ≡ old ++ record { from = from; to = to } ∷ [] → new ≡ spans_to nodes ms (n + 1)
unfolding spans_to
spans_next nodes ms n from to olds news old new e f g h i j =
    let a : from ≡ length (targets_to nodes ms n) = h ∙ ap length f in
    let b : to ≡ length (targets_to nodes ms n ++ targets_at nodes ms n) = i ∙ ap length g ∙ ap (λ (xs : List (Option ℕ)). length (xs ++ targets_at nodes ms n)) f in
    subst (λ (x : ℕ). new ≡ spans_to nodes ms x) (sym (add-one n))
    (j ∙ ap (λ (xs : List Span). xs ++ record { from = from; to = to } ∷ []) e
    ∙ ap (λ (z : ℕ). spans_to nodes ms n ++ record { from = z; to = to } ∷ []) a
    ∙ ap (λ (z : ℕ). spans_to nodes ms n ++ record { from = length (targets_to nodes ms n); to = z } ∷ []) b)

pub unfolded_next : (nodes : List Node) (ds : List Declared) (n : ℕ) (old new : List (Option ℕ)) → old ≡ unfolded_to nodes ds n → new ≡ old ++ unfolded_at nodes ds n → new ≡ unfolded_to nodes ds (n + 1)
unfolding unfolded_to
unfolded_next nodes ds n old new e f = subst (λ (x : ℕ). new ≡ unfolded_to nodes ds x) (sym (add-one n)) (f ∙ ap (λ (xs : List (Option ℕ)). xs ++ unfolded_at nodes ds n) e)
