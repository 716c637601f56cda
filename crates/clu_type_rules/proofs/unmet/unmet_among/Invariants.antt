use Rattle.std.specs.Prelude.{map}
use Rattle.clu_types.specs.Arena.{Grows}
use Rattle.clu_type_rules.specs.Needs.{world, need_of, Setting, IsPlace, AreThere, Rests}
use Rattle.clu_type_rules.proofs.Unmeeting.{Among}
use Rattle.clu_type_rules.proofs.unmet.unmet_among.Given as goal

abbrev pub invariant-loop-one : goal.invariant-loop-one
invariant-loop-one l =
    Grows l.fn.types l.types
    × ((s : Setting) → IsPlace l.place → Rests l.place.headed s (world l.fn.types l.fn.finding) l.fn.met.keys → AreThere (world l.fn.types l.fn.finding) (map (need_of l.place.clauses) l.asked)
    → Among l.place.headed s (world l.fn.types l.fn.finding) l.place.clauses l.asked (world l.types l.finding) l.met.keys l.unmet l.one-index)
