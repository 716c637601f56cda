use Rattle.std.proofs.Common.{◌≡◌, ◌-◌, ℕ, fold, length}
use Rattle.std.specs.List.{range_with_len}
use Rattle.clu_syntax.specs.Items.{Item}
use Rattle.clu_check_mod.specs.Bad.{AscendBy, arms_by, file_by, state}
use Rattle.clu_check_mod.proofs.bad.Asking.settle_arms.Given as goal

abbrev pub invariant-loop-n : goal.invariant-loop-n
invariant-loop-n l =
    (items : ℕ → Item) → AscendBy l.by → fold (arms_by l.by items) (state l.self) (range_with_len l.n (length (file_by l.by).syntax.now - l.n)) ≡ fold (arms_by l.by items) (state l.initial.self) (range_with_len 0 (length (file_by l.by).syntax.now))
