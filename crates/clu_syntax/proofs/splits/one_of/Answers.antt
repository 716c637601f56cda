use Rattle.std.proofs.Common.{◌∙◌, ◌<◌, ap, sym, rules, arith}
use Rattle.std.proofs.lemmas.List.Elements.{All-get_or}
use Rattle.clu_tree.specs.contracts.node.NodeKind.{the_type as kind_type}
use Rattle.clu_syntax.specs.Kinds.{kind_of}
use Rattle.clu_syntax.proofs.splits.one_of.Goals as goal
use denote.Enum.Bare.{sameb, same_true}

pub returns-then-is_of-clause-parts : goal.returns-then-is_of-clause-parts
returns-then-is_of-clause-parts c = (
  All-get_or (λ x. x < c.args.n) c.args.children.now 0 0 (omega (arith, c.in-len1-up.len_at_least)) c.requires.below,
  ap kind_of c.node.ensures.node ∙ same_true kind_type (search rules) c.node.result.now.kind c.args.kind (sym c.is_of.ensures ∙ c.if-is_of.true),
)
