-- Steps of the machine, one after the other, and what they leave as it is.
use Rattle.std.specs.Prelude.{◌≡◌, ℕ, zero, suc, ◌-◌, ◌/◌, true, false, List, length, slice_get, Option, Some, nat_lt}
use Rattle.rv_isa.specs.declared.instr.Instr.{Instr}
use Rattle.rv_machine.specs.State.{State, image_start, register}
use Rattle.rv_machine.specs.Steps.{Next, Goes, Stops, next}
use Rattle.rv_select.specs.declared.register.Register.{Register}
use Rattle.rv_select.specs.Registers.{register_number}
use Rattle.laws_selection.specs.Registers.{stays}

abbrev pub Code : Type 0
Code = List (Option Instr)

-- the instruction at an address
pub record At (code : Code) (a : ℕ) (i : Instr) : Type 0 where
  pub inside : nat_lt a image_start ≡ false
  pub found : slice_get code ((a - image_start) / 4) ≡ Some (Some i)

abbrev pub then_next : Next → (State → Next) → Next
then_next (Goes s) f = f s
then_next (Stops t s) f = Stops t s

unfoldable pub run : ℕ → State → Next
run zero s = Goes s
run (suc n) s = then_next (next s) (run n)

pub record Reaches (s t : State) : Type 0 where
  pub steps : ℕ
  pub come : run steps s ≡ Goes t

-- What an evaluation leaves as it is: memory, and the registers that stay.

pub record Same (s t : State) : Type 0 where
  pub code : t.code ≡ s.code
  pub image : t.image ≡ s.image
  pub store : t.store ≡ s.store
  pub stack : t.stack ≡ s.stack
  pub start : t.data_start ≡ s.data_start
  pub registers : length t.registers ≡ length s.registers

pub record Done (kept : ℕ) (s t : State) : Type 0 where
  pub same : Same s t
  pub stays : (r : Register) → stays kept r ≡ true → register t (register_number r) ≡ register s (register_number r)
