use Rattle.std.proofs.Common.{◌∙◌, ◌++◌, Option, ap, sym, arith}
use Rattle.std.proofs.lemmas.List.{append-nil}
use Rattle.std.proofs.lemmas.Option.{slice_get_past}
use Rattle.clu_tree.specs.declared.node.Node.{Node}
use Rattle.clu_head.specs.ParameterKinds.{kinds_at}
use Rattle.clu_head.proofs.parameter_kinds.push_kinds.Goals as goal

pub returns-else-n-len : goal.returns-else-n-len
returns-else-n-len c =
    sym (append-nil c.args.kinds.now.items)
    ∙ ap (λ (its : Option Node). c.args.kinds.now.items ++ kinds_at c.args.types.now c.args.values.now c.args.tree.now its) (sym (slice_get_past c.args.tree.now c.args.n (omega (arith, c.len.ensures.len, c.if-n-len.false))))
