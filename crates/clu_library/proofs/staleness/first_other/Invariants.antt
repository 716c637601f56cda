use Rattle.std.proofs.Common.{◌≡◌, drop}
use Rattle.std.specs.Option.{option_copied}
use Rattle.clu_library.specs.Resting.{with_changed}
use Rattle.clu_library.specs.Staleness.{first_other}
use Rattle.clu_library.proofs.staleness.first_other.Given as goal

abbrev pub invariant-loop-change : goal.invariant-loop-change
invariant-loop-change l =
    first_other (with_changed l.specs (option_copied l.changed)) (drop l.change-index l.changes) l.own l.checked ≡ first_other (with_changed l.specs (option_copied l.changed)) l.changes l.own l.checked
