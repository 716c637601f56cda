use Rattle.clu_types.specs.Arena.{Grows}
use Rattle.clu_type_rules.specs.Askers.{AreAskers, Keeps}
use Rattle.clu_type_rules.specs.Needs.{world, Setting, IsPlace}
use Rattle.clu_type_rules.proofs.Unmeeting.{Asking}
use Rattle.clu_type_rules.proofs.unmet.unmet_by_all.Given as goal

abbrev pub invariant-loop-found : goal.invariant-loop-found
invariant-loop-found l =
    Grows l.fn.types l.types
    × ((s : Setting) → IsPlace l.place → Keeps l.place.headed s (world l.fn.types l.fn.finding) l.fn.meeting → AreAskers (world l.fn.types l.fn.finding) l.askers
    → Asking l.place.headed s (world l.fn.types l.fn.finding) l.place.clauses l.askers (world l.types l.finding) l.meeting l.all l.found-index)
