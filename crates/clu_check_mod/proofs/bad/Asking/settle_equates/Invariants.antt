use Rattle.std.proofs.Common.{◌≡◌, ℕ, drop, fold}
use Rattle.clu_syntax.specs.Items.{Item}
use Rattle.clu_check_mod.specs.Bad.{AscendBy, equates_by, state}
use Rattle.clu_check_mod.proofs.bad.Asking.settle_equates.Given as goal

abbrev pub invariant-loop-place : goal.invariant-loop-place
invariant-loop-place l = (items : ℕ → Item) → AscendBy l.by → fold (equates_by l.by items l.declared) (state l.self) (drop l.place-index l.order) ≡ fold (equates_by l.by items l.declared) (state l.initial.self) l.order
