-- Of which nodes the row that is read from tables is the one of the definitions.
use Rattle.std.specs.Prelude.{◌≡◌, false}
use Rattle.clu_tree.specs.declared.node.NodeKind.{NodeKind}
use Rattle.clu_tree.specs.declared.node.NodeKind.TheVariants as kind
use Rattle.clu_syntax.specs.Kinds.{is_expression}
use Rattle.clu_typing.specs.declared.applied.Applied.{Applied}
use Rattle.clu_typing.specs.declared.applied.Applied.TheVariants as applied

-- what is no expression stands for no operation, but where a component or an item is changed
abbrev pub StandsElsewhere : NodeKind → Applied → Type 0
StandsElsewhere kind.SetField its = Unit {0}
StandsElsewhere kind.SetIndex its = Unit {0}
StandsElsewhere k its = is_expression k ≡ false → its ≡ applied.Nothing
