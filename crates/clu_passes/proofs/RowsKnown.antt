-- What the pass over the nodes says of rows, as the laws on rows ask for it.
use Rattle.std.proofs.Common.{◌≡◌, ℕ, ◌<◌, Bool, if◌then◌else◌, List, [], ◌∷◌, slice_get, Option, Some, None, refl, subst}
use Rattle.std.specs.Prelude.{All}
use Rattle.std.specs.List.{AllByRecursion}
use Rattle.std.proofs.lemmas.List.Elements.{All-head, All-tail}
use Rattle.clu_types.specs.declared.term.Term.{Term}
use Rattle.clu_types.specs.declared.term.TypeId.{TypeId}
use Rattle.clu_tree.specs.Nodes.{IsTree}
use Rattle.clu_tree.specs.declared.node.Node.{Node}
use Rattle.clu_tree.specs.declared.node.NodeKind.{NodeKind}
use Rattle.clu_tree.specs.declared.node.NodeKind.TheVariants as kind
use Rattle.clu_syntax.specs.Items.{Item}
use Rattle.clu_syntax.specs.Splits.{children_of}
use Rattle.clu_bindings.specs.declared.file.Headed.{Headed}
use Rattle.clu_bindings.specs.Readers.{kind_in}
use Rattle.clu_operations.specs.declared.finding.Finding.{Finding}
use Rattle.clu_typing.specs.declared.applied.Applied.{Applied}
use Rattle.clu_typing.specs.Found.{IsAppliedTold}
use Rattle.clu_typing.specs.Pass.{AreOrdered}
use Rattle.clu_typing.specs.Stands.{expression_stands, for_nothing, stands_as, stands_at}
use Rattle.clu_passes.specs.RowsTold.{StandsElsewhere}

-- in a tree the children of a node stand before it
pub ordered : (h : Headed) → IsTree h.file.syntax.now → AreOrdered h
ordered h tree n = by (slice_get h.file.syntax.now n) refl
  where
    each : (cs : List ℕ) → All (λ c. c < n) cs → AllByRecursion (λ c. c < n) cs
    each [] all = tt
    each (c ∷ cs) all = (All-head (λ c. c < n) c cs all, each cs (All-tail (λ c. c < n) c cs all))

    by : (o : Option Node) → slice_get h.file.syntax.now n ≡ o → AllByRecursion (λ c. c < n) (children_of o)
    by (Some node) e = each node.children (tree.below n node e)
    by None e = tt

-- what is no expression stands for nothing, but where a component or an item is changed
module _ (h : Headed) (terms : List Term) (f : Finding) (known : List (Option TypeId)) (n : ℕ) (items : ℕ → Item) (its : Applied) where
  elsewhere_as : (k : NodeKind) → IsAppliedTold h terms f n (stands_as h.file known n items k) its → StandsElsewhere k its
  unfolding stands_as
  elsewhere_as kind.SetField t = tt
  elsewhere_as kind.SetIndex t = tt
  elsewhere_as k t = λ is. subst (λ (b : Bool). IsAppliedTold h terms f n (if b then expression_stands h.file known n items else for_nothing) its) is t

  pub elsewhere : IsAppliedTold h terms f n (stands_at h.file known n items) its → StandsElsewhere (kind_in h.file n) its
  elsewhere t = elsewhere_as (kind_in h.file n) t
