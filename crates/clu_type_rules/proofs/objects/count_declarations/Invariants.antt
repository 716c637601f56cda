use Rattle.std.proofs.Common.{◌≡◌, ◌+◌, length}
use Rattle.clu_tree.specs.declared.node.NodeKind.TheVariants as kind
use Rattle.clu_syntax.specs.Splits.{leading}
use Rattle.clu_type_rules.proofs.objects.count_declarations.Given as goal

abbrev pub invariant-loop-rest : goal.invariant-loop-rest
invariant-loop-rest l =
    (leading l.f.syntax.now kind.Decl l.rest + l.count ≡ leading l.f.syntax.now kind.Decl l.children) × (l.count + length l.rest ≡ length l.children)

abbrev pub decreases-loop-rest : goal.decreases-loop-rest
decreases-loop-rest l = length l.rest
