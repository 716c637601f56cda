-- The registers that say where a program stands.
use Rattle.std.specs.Prelude.{ℕ}
use Rattle.clu_trace.specs.declared.registers.Register.{Register}
use Rattle.clu_trace.specs.declared.registers.Register.TheVariants as register

abbrev pub number_of : Register → ℕ
number_of register.Top = 2
number_of register.Table = 9
number_of register.Frame = 18
