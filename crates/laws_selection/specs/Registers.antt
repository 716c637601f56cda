-- The registers that an evaluation leaves as they are.
use Rattle.std.specs.Prelude.{ℕ, ◌==◌, Bool, true, false, not, bit_and}
use Rattle.rv_select.specs.declared.register.Register.{Register}
use Rattle.rv_select.specs.declared.register.Register.TheVariants as register
use Rattle.rv_select.specs.Operands.{bit}

-- the registers in which expressions work
abbrev pub is_work : Register → Bool
is_work register.First = true
is_work register.Second = true
is_work register.T3 = true
is_work register.T4 = true
is_work register.T5 = true
is_work register.A2 = true
is_work register.A3 = true
is_work register.A4 = true
is_work register.A5 = true
is_work register.A6 = true
is_work register.S3 = true
is_work register.S4 = true
is_work register.S5 = true
is_work register.S6 = true
is_work register.S7 = true
is_work register.S8 = true
is_work register.S9 = true
is_work register.S10 = true
is_work register.S11 = true
is_work _ = false

abbrev pub is_far : Register → Bool
is_far register.Far = true
is_far _ = false

abbrev pub has_bit : ℕ → Register → Bool
has_bit kept r = not (bit_and kept (bit r) == 0)

abbrev pub stays_by : Bool → Bool → Bool → Bool
stays_by true far kept = kept
stays_by false far kept = not far

-- whether an evaluation in a scope that keeps these leaves the register
unfoldable pub stays : ℕ → Register → Bool
stays kept r = stays_by (is_work r) (is_far r) (has_bit kept r)
