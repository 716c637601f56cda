use Rattle.std.specs.Prelude.{◌≡◌, ℕ, length}
use Rattle.clu_types.specs.Arena.{Grows}
use Rattle.clu_typing.specs.Facts.{askers_at}
use Rattle.clu_type_rules.specs.Askers.{AreAskers, Keeps}
use Rattle.clu_type_rules.specs.Needs.{world, Setting}
use Rattle.clu_type_rules.proofs.Unmeeting.{Nodes}
use Rattle.clu_type_rules.proofs.unmet.unmet_of_nodes.Given as goal

abbrev pub invariant-loop-n : goal.invariant-loop-n
invariant-loop-n l =
    Grows l.fn.types l.types × (length l.all.items ≡ l.n)
    × ((s : Setting) → Keeps l.headed s (world l.fn.types l.fn.finding) l.fn.meeting → ((n : ℕ) → AreAskers (world l.fn.types l.fn.finding) (askers_at l.invocations n))
    → Nodes l.headed s (world l.fn.types l.fn.finding) l.invocations (world l.types l.finding) l.meeting l.all.items)
