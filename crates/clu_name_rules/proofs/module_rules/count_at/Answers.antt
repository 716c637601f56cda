use Rattle.std.proofs.Common.{◌≡◌, ◌∙◌, List, length, sym, ap, arith}
use Rattle.std.proofs.lemmas.List.{get_or_past}
use Rattle.clu_tree.specs.Count.{counts}
use Rattle.clu_tree.specs.declared.node.Node.{Node}
use Rattle.clu_tree.proofs.Rows.{length-counts}
use Rattle.clu_name_rules.proofs.module_rules.count_at.Goals as goal

pub returns-else-n-len : goal.returns-else-n-len
returns-else-n-len c =
    let size : c.len.result ≡ length c.args.f.syntax.now = c.len.ensures.len ∙ ap (λ (ns : List Node). length ns) c.tree.ensures.same in
    sym (get_or_past (counts c.args.f.syntax.now) c.args.n 0 (omega (arith, size, length-counts c.args.f.syntax.now, c.if-n-len.false)))
