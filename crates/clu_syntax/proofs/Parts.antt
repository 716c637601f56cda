-- The modules of a tree are nodes of their kind.
use Rattle.std.proofs.Common.{◌≡◌, ◌∙◌, ℕ, suc, ◌+◌, ◌<◌, List, [], ◌∷◌, ◌++◌, length, slice_get, Some, refl, ap, subst, arith}
use Rattle.std.specs.Prelude.{All}
use Rattle.std.proofs.lemmas.List.Elements.{All-nil, All-cons}
use Rattle.std.proofs.lemmas.Option.{slice_get_within}
use Rattle.clu_tree.specs.declared.node.Node.{Node}
use Rattle.clu_tree.specs.declared.node.NodeKind.{NodeKind}
use Rattle.clu_tree.specs.declared.node.NodeKind.TheVariants as k
use Rattle.clu_tree.specs.Nodes.{module_at, modules_from, modules}
use Rattle.clu_syntax.specs.Kinds.{kind_of, kind_at}
use Rattle.clu_syntax.specs.Parts.{AreOf}

one_more : (P : ℕ → Type 0) (at : ℕ) (kind : NodeKind) (rest : List ℕ) → (kind ≡ k.Module → P at) → All P rest → All P (module_at at kind ++ rest)
one_more P at k.Module rest h all = All-cons P at rest (h refl) all
one_more P at _ rest h all = all

-- what is so of the number of each node that is a module is so of all of them
all_modules : (P : ℕ → Type 0) (at : ℕ) (ns : List Node) → ((i : ℕ) (n : Node) → slice_get ns i ≡ Some n → n.kind ≡ k.Module → P (at + i)) → All P (modules_from at ns)
all_modules P at [] h = All-nil P
all_modules P at (n ∷ ns) h =
    let here : at + 0 ≡ at = omega arith in
    one_more P at n.kind (modules_from (at + 1) ns) (λ is. subst P here (h 0 n refl is))
    (all_modules P (at + 1) ns (λ i m e is. let later : at + suc i ≡ at + 1 + i = omega arith in subst P later (h (suc i) m e is)))

pub modules_are : (nodes : List Node) → AreOf nodes k.Module (length nodes) (modules nodes)
modules_are nodes = (
  all_modules (λ c. c < length nodes) 0 nodes (λ i n e is. let less : i < length nodes = slice_get_within nodes i n e in omega (arith, less)),
  all_modules (λ c. kind_at nodes c ≡ k.Module) 0 nodes (λ i n e is.
      let here : i ≡ 0 + i = omega arith in
      subst (λ (j : ℕ). kind_at nodes j ≡ k.Module) here (ap kind_of e ∙ is)),
)
