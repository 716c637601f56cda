-- What stands after the modules' own specifications makes no difference to them.
use Rattle.std.proofs.Common.{◌≡◌, ℕ, List, ◌++◌, length, map, take, Option, Some, sym, ap, ◌∙◌}
use Rattle.std.proofs.lemmas.List.{length-map}
use Rattle.std.proofs.Math.Seq.{take-append_seam}
use Rattle.clu_tree.specs.declared.node.Node.{Node}
use Rattle.clu_tree.specs.Nodes.{modules}
use Rattle.clu_types.specs.declared.spec.Spec.{Spec}
use Rattle.clu_check_mod.specs.Modules.{AreOf, BeginWithOwn, name_of}

pub BeginWithOwn_behind : (nodes : List Node) (own others : List Spec) → AreOf nodes (modules nodes) own → BeginWithOwn nodes (own ++ others)
BeginWithOwn_behind nodes own others had =
    let many : length (modules nodes) ≡ length own = sym (length-map (modules nodes) (name_of nodes)) ∙ ap (λ (xs : List (Option (List ℕ))). length xs) had ∙ length-map own (λ (x : Spec). Some x.name) in
    let front : take (length (modules nodes)) (own ++ others) ≡ own = ap (λ (n : ℕ). take n (own ++ others)) many ∙ take-append_seam own others in
    had ∙ ap (λ (xs : List Spec). map (λ (x : Spec). Some x.name) xs) (sym front)

pub kept_behind : (own others : List Spec) → take (length own) (own ++ others) ≡ own
kept_behind own others = take-append_seam own others
