-- The machine in the part that searches for an arm, by the numbers of its words.
use Rattle.std.specs.Prelude.{◌≡◌, ℕ, suc, ℤ, ◌%◌, true, false, List, [], ◌∷◌, slice_get, Some}
use Rattle.rv_isa.specs.declared.instr.Instr.{Instr}
use Rattle.rv_isa.specs.declared.instr.Instr.TheVariants as instr
use Rattle.rv_isa.specs.declared.op.Op.TheVariants as op
use Rattle.rv_machine.specs.State.{State}
use Rattle.rv_machine.specs.Steps.{Goes}
use Rattle.rv_machine.specs.Values.{sum, unsigned}
use Rattle.clu_flat_meaning.specs.Image.{Image}
use Rattle.rv_select.specs.declared.parts.Part.TheVariants as part
use Rattle.laws_selection.specs.Standing.{Standing}
use Rattle.laws_selection.specs.Running.{At, Code, run}
use Rattle.laws_selection.specs.Growing.{address}
use Rattle.laws_parts.specs.Search.{is_hole, search_code}

-- The registers, by name; x0 is 0.
pub record Regs : Type 0 where
  pub x1 : ℕ
  pub x2 : ℕ
  pub x3 : ℕ
  pub x4 : ℕ
  pub x5 : ℕ
  pub x6 : ℕ
  pub x7 : ℕ
  pub x8 : ℕ
  pub x9 : ℕ
  pub x10 : ℕ
  pub x11 : ℕ
  pub x12 : ℕ
  pub x13 : ℕ
  pub x14 : ℕ
  pub x15 : ℕ
  pub x16 : ℕ
  pub x17 : ℕ
  pub x18 : ℕ
  pub x19 : ℕ
  pub x20 : ℕ
  pub x21 : ℕ
  pub x22 : ℕ
  pub x23 : ℕ
  pub x24 : ℕ
  pub x25 : ℕ
  pub x26 : ℕ
  pub x27 : ℕ
  pub x28 : ℕ
  pub x29 : ℕ
  pub x30 : ℕ
  pub x31 : ℕ

abbrev pub listed : Regs → List ℕ
listed r = 0 ∷ r.x1 ∷ r.x2 ∷ r.x3 ∷ r.x4 ∷ r.x5 ∷ r.x6 ∷ r.x7 ∷ r.x8 ∷ r.x9 ∷ r.x10 ∷ r.x11 ∷ r.x12 ∷ r.x13 ∷ r.x14 ∷ r.x15 ∷ r.x16 ∷ r.x17 ∷ r.x18 ∷ r.x19 ∷ r.x20 ∷ r.x21 ∷ r.x22 ∷ r.x23 ∷ r.x24 ∷ r.x25 ∷ r.x26 ∷ r.x27 ∷ r.x28 ∷ r.x29 ∷ r.x30 ∷ r.x31 ∷ []

-- so many steps from one state to another
pub record Runs (n : ℕ) (s t : State) : Type 0 where
  pub come : run n s ≡ Goes t

-- The part stands in the code from an address on; the words of holes have the address of the runtime's table.
pub record Stood (code : Code) (base table : ℕ) : Type 0 where
  pub aligned : base % 4 ≡ 0
  pub plain : (k : ℕ) (i : Instr) → slice_get search_code k ≡ Some i → is_hole k ≡ false → At code (address base k) i
  pub high : ℕ → ℤ
  pub low : ℕ → ℤ
  pub upper : (k : ℕ) → is_hole k ≡ true → is_hole (suc k) ≡ true → At code (address base k) (instr.Upper op.Lui 5 (high k))
  pub adds : (k : ℕ) → is_hole k ≡ true → is_hole (suc k) ≡ true → At code (address base (suc k)) (instr.Imm op.Addi 5 5 (low k))
  pub whole : (k : ℕ) → sum (unsigned (high k)) (unsigned (low k)) ≡ table

-- the part of an image that the linker places stands so
abbrev pub SearchStands : Type 0
SearchStands = (image : Image) (m : State) (standing : Standing image m) → Stood m.code (standing.part part.Search) standing.runtime

-- a state of this memory at a word of the part
abbrev pub place : State → ℕ → ℕ → List ℕ → State
place m base k xs = record m { pc = address base k; registers = xs }
