-- The children and names at a node of a file.
use Rattle.std.proofs.Common.{◌≡◌, ℕ, Option, Some, None, refl}
use Rattle.std.specs.Prelude.{slice_get}
use Rattle.clu_tree.specs.declared.node.Node.{Node}
use Rattle.clu_syntax.specs.Splits.{children_of}
use Rattle.clu_settle.specs.Names.{names_of}
use Rattle.clu_checking.specs.Files.{File, children, names, node_names, node_children}

module _ (f : File) where
  pub kids_are : (n : ℕ) → children_of (slice_get f.nodes n) ≡ children f n
  kids_are n = by (slice_get f.nodes n)
    where
      by : (o : Option Node) → children_of o ≡ node_children f o
      by None = refl
      by (Some node) = refl

  pub names_are : (n : ℕ) → names_of (slice_get f.nodes n) ≡ names f n
  names_are n = by (slice_get f.nodes n)
    where
      by : (o : Option Node) → names_of o ≡ node_names f o
      by None = refl
      by (Some node) = refl
