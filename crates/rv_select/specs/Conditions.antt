-- Jumps that depend on a comparison.
use Rattle.std.specs.Prelude.{ℕ, Bool, true, false, not, if◌then◌else◌, [], ◌∷◌}
use Rattle.clu_wir.specs.declared.expression.WOp.{WOp}
use Rattle.clu_wir.specs.declared.expression.WOp.TheVariants as operation
use Rattle.rv_isa.specs.declared.op.Op.{Op}
use Rattle.rv_isa.specs.declared.op.Op.TheVariants as op
use Rattle.rv_select.specs.declared.conditions.Comparison.{Comparison}
use Rattle.rv_select.specs.declared.conditions.Target.{Target}
use Rattle.rv_select.specs.declared.operand.Scope.{Scope}
use Rattle.rv_select.specs.declared.register.Register.{Register}
use Rattle.rv_select.specs.Combining.{left_at, registers_onto, right_at}
use Rattle.rv_select.specs.Written.{Onto, branch_onto, go_onto, go_unless_onto, in_turn}

abbrev pub near : ℕ → Target
near label = record { label = label; is_near = true }

abbrev pub far : ℕ → Target
far label = record { label = label; is_near = false }

abbrev pub always_onto : Target → Bool → Onto
always_onto t is_so w = if is_so then go_onto t.label w else w

-- the branch where a comparison holds, if so, else where it doesn't hold
abbrev pub branching : WOp → Bool → Op
branching operation.Slt true = op.Blt
branching operation.Slt false = op.Bge
branching operation.Sltu true = op.Bltu
branching operation.Sltu false = op.Bgeu
branching _ true = op.Beq
branching _ false = op.Bne

abbrev pub jump_onto : WOp → Register → Register → Bool → Target → Onto
jump_onto o left right sense t w =
    if t.is_near then branch_onto (branching o sense) left right t.label w else go_unless_onto (branching o (not sense)) left right t.label w

-- goes on at the target where the comparison holds, if so, else where it doesn't hold
unfoldable pub compared_onto : Comparison → Bool → Target → Scope → Onto
compared_onto c sense t s =
    in_turn (registers_onto c.left c.right s ∷ jump_onto c.op (left_at c.left c.right s) (right_at c.left c.right s) sense t ∷ [])
