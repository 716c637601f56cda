use Rattle.std.proofs.Common.{◌≡◌, ◌≤◌, ◌-◌, ℕ, fold}
use Rattle.std.specs.List.{range_with_len}
use Rattle.clu_syntax.specs.Items.{Item}
use Rattle.clu_syntax.specs.Rounds.{round_at}
use Rattle.clu_type_rules.specs.Walking.{looked, looked_inside}
use Rattle.clu_check_mod.specs.Bad.{AscendIn, fault_by, file_by, state}
use Rattle.clu_check_mod.proofs.bad.Asking.ask_inside.Given as goal

-- what is left to look at, after what was looked at so far, is all of it; no bit changes meanwhile, and what is looked at stands in
-- the node
abbrev pub invariant-loop-inside : goal.invariant-loop-inside
invariant-loop-inside l =
    (l.self.bad.items ≡ l.initial.self.bad.items)
    × ((round_at (file_by l.by).rounds.now l.n).first ≤ l.inside)
    × ((items : ℕ → Item) → AscendIn l.by l.n → fold (looked (fault_by items l.by) l.initial.self.bad.items) (record { faulty = l.self.faulty.items; found = l.is_bad }) (range_with_len l.inside (l.n - l.inside)) ≡ looked_inside (file_by l.by).rounds.now (fault_by items l.by) (state l.initial.self) l.n)
