use Rattle.std.proofs.Common.{false, subst, sym}
use Rattle.clu_wir.specs.Value.{Value}
use Rattle.rv_select.specs.Evaluation.{at_of, onto_of, part_of}
use Rattle.laws_selection.specs.Evaluating.{Outcome}
use Rattle.laws_selection.proofs.Expressions.{evaluates}
use Rattle.laws_selection.proofs.Landing.{stood}
use Rattle.laws_selection.proofs.Meaning.{said_is}
use Rattle.laws_selection.proofs.Parts.{gives_of}
use Rattle.laws_selection.proofs.laws.expressions_evaluate.Goals as goal

pub returns : goal.returns
returns c = λ view code base all hole trap_address stands traps bounded e sized scope bound before s scoped here front.
    let there = stood all code base hole stands in
    subst (λ (x : Value). Outcome view code base hole false trap_address scope.kept before (onto_of (part_of e) scope before) s (at_of (part_of e) scope) x) (sym (said_is view e bound))
    (gives_of view code base all hole there false trap_address (part_of e) (evaluates view code base all hole there trap_address stands.few bounded traps e sized).good scope bound before s scoped here front)
