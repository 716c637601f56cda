use Rattle.std.proofs.Common.{◌≡◌, ◌≤◌}
use Rattle.clu_parser.specs.Levels.{level_at, IsLow}
use Rattle.clu_parser.proofs.levels.first_too_deep.Given as goal

abbrev pub invariant-loop-at : goal.invariant-loop-at
invariant-loop-at l = (l.level ≡ level_at l.symbols l.at) × (l.level ≤ 200) × IsLow l.symbols l.at
