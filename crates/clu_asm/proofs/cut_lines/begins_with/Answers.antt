use Rattle.std.proofs.Common.{ap, ◌∙◌}
use Rattle.clu_asm.specs.CutLines.{kinds_of}
use Rattle.clu_asm.proofs.CutLemmas.{with_past, with_within}
use Rattle.clu_asm.proofs.cut_lines.begins_with.Goals as goal

pub returns-in-Some : goal.returns-in-Some
returns-in-Some c =
    with_past c.args.m c.name-name.result.now c.args.cut.now c.in-Some.operands.now c.kinds.result.now c.begins.result c.name-name.ensures (c.kinds.ensures ∙ ap kinds_of c.form.ensures)
    (c.in-Some.ensures {u = tt}) c.begins.ensures

pub returns-in-None : goal.returns-in-None
returns-in-None c = with_within c.args.m c.name-name.result.now c.args.cut.now c.is_front.result c.name-name.ensures (c.in-None.ensures {u = tt}) c.is_front.ensures
