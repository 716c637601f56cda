use Rattle.std.specs.Prelude.{◌≤◌}
use Rattle.clu_types.specs.Arena.{Grows}
use Rattle.clu_type_rules.specs.Needs.{world, Setting, IsPlace, Stands, AreUnder, AreAnswered}
use Rattle.clu_type_rules.proofs.Needing.{GoesOn}
use Rattle.clu_type_rules.proofs.unmet.are_met_from.Given as goal

abbrev pub invariant-loop-at : goal.invariant-loop-at
invariant-loop-at l =
    Grows l.fn.types l.types
    × ((s : Setting) → IsPlace l.place → Stands l.place.headed s (world l.fn.types l.fn.finding) l.fn.met.keys → l.before ≤ 9223372036854775808 → AreUnder l.place.clauses l.fn.met.keys l.before → AreAnswered s (world l.fn.types l.fn.finding) l.fn.met.keys l.before
    → GoesOn l.place.headed s (world l.fn.types l.fn.finding) l.fn.met.keys l.before l.place.clauses (world l.types l.finding) l.met.keys l.at)
