use Rattle.std.proofs.Common.{subst, sym}
use Rattle.clu_wir.specs.Value.{Value}
use Rattle.rv_select.specs.Evaluation.{jump_of, part_of}
use Rattle.laws_selection.specs.Evaluating.{Turned}
use Rattle.laws_selection.proofs.Checking.{turns_of}
use Rattle.laws_selection.proofs.Expressions.{evaluates}
use Rattle.laws_selection.proofs.Landing.{stood}
use Rattle.laws_selection.proofs.Meaning.{said_is}
use Rattle.laws_selection.proofs.laws.conditions_turn.Goals as goal

pub returns : goal.returns
returns c = λ view code base all hole trap_address stands traps bounded e sized sense target scope bound before s place scoped here front there low.
    let st = stood all code base hole stands in
    let x = evaluates view code base all hole st trap_address stands.few bounded traps e sized in
    subst (λ (v : Value). Turned view code base hole trap_address scope.kept before (jump_of (part_of e) sense target scope before) s sense place v) (sym (said_is view e bound))
    (turns_of view code base all hole st trap_address stands.few (part_of e) x.good x.jumps sense target scope bound before s place scoped here front there low)
