use Rattle.std.proofs.Common.{◌≡◌, drop, fold}
use Rattle.clu_wir.specs.Rooms.{constant_bytes, plus, table_bytes}
use Rattle.clu_wir.proofs.routine.WRoutine.tables.Given as goal

-- the constants that are left decide
abbrev pub invariant-loop-constant : goal.invariant-loop-constant
invariant-loop-constant l =
    fold (λ n c. plus n (constant_bytes c)) l.«data» (drop l.constant-index l.constant-items) ≡ table_bytes l.self
