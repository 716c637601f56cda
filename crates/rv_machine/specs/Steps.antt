-- One step of the hart, up to a call of the environment: one definition for each form of instruction.
-- A step that is stopped changes nothing. RISC-V unprivileged ISA, chapters "RV32I", "RV64I" and "M".
use Rattle.std.specs.Prelude.{ℕ, ◌-◌, ◌/◌, ◌%◌, ◌^◌, ℤ, Bool, true, false, ◌==◌, nat_lt, if◌then◌else◌, slice_get, Option, Some, None, Result, Ok, Err}
use Rattle.std.specs.Option.{option_map}
use Rattle.std.specs.Int.{cast_signed, w8, w16, w32, w64}
use Rattle.rv_isa.specs.declared.instr.Instr.{Instr}
use Rattle.rv_isa.specs.declared.instr.Instr.TheVariants as instr
use Rattle.rv_isa.specs.declared.op.Op.{Op}
use Rattle.rv_isa.specs.declared.op.Op.TheVariants as op
use Rattle.rv_machine.specs.declared.trap.Trap.{Trap}
use Rattle.rv_machine.specs.declared.trap.Trap.TheVariants as trap
use Rattle.rv_machine.specs.State.{State, image_start, register, with_register, read_at, written_at}
use Rattle.rv_machine.specs.Values.{sum, unsigned, value_of, is_taken}

-- the hart goes on in the next state, or is stopped in a state
pub data Next : Type 0 where
  Goes : State → Next
  Stops : Trap → State → Next

abbrev pub at_pc : ℕ → State → State
at_pc pc s = record s { pc = pc }

-- what a step from this pc did, by its answer and the state that it left, whose own pc doesn't count
abbrev pub next_at : ℕ → Result ℕ Trap → State → Next
next_at pc (Ok pc') s = Goes (at_pc pc' s)
next_at pc (Err t) s = Stops t (at_pc pc s)

-- the address of the next instruction; sums wrap
abbrev pub next_pc : State → ℕ
next_pc s = sum s.pc 4

abbrev pub advanced : State → State
advanced s = record s { pc = next_pc s }

-- an immediate, as a 64-bit number
abbrev pub word_of : ℤ → ℕ
word_of imm = unsigned imm

-- the result goes to the register rd
abbrev pub put : State → ℕ → ℕ → Next
put s rd n = Goes (advanced (with_register s rd n))

-- JAL, JALR: the address of the next instruction goes to rd
abbrev pub jump : State → ℕ → ℕ → Next
jump s rd target = if target % 4 == 0 then Goes (record (with_register s rd (next_pc s)) { pc = target }) else Stops (trap.Jump target) s

-- of JALR: the register's number and the immediate, with bit 0 cleared
abbrev pub jalr_target : State → ℕ → ℕ → ℕ
jalr_target s rs1 imm = let target = sum (register s rs1) imm in target - target % 2

abbrev pub branch : State → Bool → ℕ → Next
branch s true target = if target % 4 == 0 then Goes (record s { pc = target }) else Stops (trap.Jump target) s
branch s false target = Goes (advanced s)

-- the value of a load, extended by its sign or by zeros
abbrev pub loaded : Op → State → ℕ → Option ℕ
loaded op.Lb s at = option_map (λ n. unsigned (cast_signed w8 n)) (read_at w8 s at)
loaded op.Lh s at = option_map (λ n. unsigned (cast_signed w16 n)) (read_at w16 s at)
loaded op.Lw s at = option_map (λ n. unsigned (cast_signed w32 n)) (read_at w32 s at)
loaded op.Ld s at = read_at w64 s at
loaded op.Lbu s at = read_at w8 s at
loaded op.Lhu s at = read_at w16 s at
loaded op.Lwu s at = read_at w32 s at
loaded other s at = None

abbrev pub put_loaded : State → ℕ → ℕ → Option ℕ → Next
put_loaded s rd at (Some n) = put s rd n
put_loaded s rd at None = Stops (trap.Access at) s

-- a store of the low bytes of n
abbrev pub saved : Op → State → ℕ → ℕ → Option State
saved op.Sb s at n = written_at w8 s at (n % 2 ^ 8)
saved op.Sh s at n = written_at w16 s at (n % 2 ^ 16)
saved op.Sw s at n = written_at w32 s at (n % 2 ^ 32)
saved op.Sd s at n = written_at w64 s at n
saved other s at n = None

abbrev pub put_saved : State → ℕ → Option State → Next
put_saved s at (Some after) = Goes (advanced after)
put_saved s at None = Stops (trap.Access at) s

unfoldable pub executed : Instr → State → Next
executed (instr.Upper op rd imm) s = put s rd (value_of op s.pc (word_of imm))
executed (instr.Jal rd imm) s = jump s rd (sum s.pc (word_of imm))
executed (instr.Jalr rd rs1 imm) s = jump s rd (jalr_target s rs1 (word_of imm))
executed (instr.Branch op rs1 rs2 imm) s = branch s (is_taken op (register s rs1) (register s rs2)) (sum s.pc (word_of imm))
executed (instr.Load op rd rs1 imm) s = let at = sum (register s rs1) (word_of imm) in put_loaded s rd at (loaded op s at)
executed (instr.Save op rs1 rs2 imm) s = let at = sum (register s rs1) (word_of imm) in put_saved s at (saved op s at (register s rs2))
executed (instr.Imm op rd rs1 imm) s = put s rd (value_of op (register s rs1) (word_of imm))
executed (instr.Three op rd rs1 rs2) s = put s rd (value_of op (register s rs1) (register s rs2))
executed (instr.Fence rd rs1 imm) s = Goes (advanced s)
executed instr.Ecall s = Stops trap.Call s
executed instr.Ebreak s = Stops (trap.Instruction s.pc) s

-- the instruction at the pc, where the pc is in the code part and the word there decodes
abbrev pub fetched : Option (Option Instr) → State → Next
fetched None s = Stops (trap.Jump s.pc) s
fetched (Some None) s = Stops (trap.Instruction s.pc) s
fetched (Some (Some i)) s = executed i s

-- one instruction
unfoldable pub next : State → Next
next s = if nat_lt s.pc image_start then Stops (trap.Jump s.pc) s else fetched (slice_get s.code ((s.pc - image_start) / 4)) s
