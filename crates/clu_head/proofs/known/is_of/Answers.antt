use Rattle.std.proofs.Common.{◌∙◌, sym, rules}
use Rattle.clu_tree.specs.contracts.node.NodeKind.{the_type}
use Rattle.clu_head.proofs.known.is_of.Goals as goal
use denote.Enum.Bare.{same_true}

pub returns-clause-kind : goal.returns-clause-kind
returns-clause-kind c = λ h. same_true the_type (search rules) c.args.other c.args.kind (sym c.eq.ensures ∙ h)
