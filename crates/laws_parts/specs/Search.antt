-- The words of the part of the runtime that searches for an arm, in the end.
use Rattle.std.specs.Prelude.{ℕ, ℤ, pos, negsuc, ◌==◌, Bool, ◌||◌, List, [], ◌∷◌}
use Rattle.rv_isa.specs.declared.instr.Instr.{Instr}
use Rattle.rv_isa.specs.declared.instr.Instr.TheVariants as instr
use Rattle.rv_isa.specs.declared.op.Op.TheVariants as op

abbrev pub jump : ℤ → Instr
jump bytes = instr.Jal 0 bytes

abbrev pub search_code : List Instr
search_code =
    instr.Imm op.Addi 0 0 (pos 0)
    -- 1 search
    ∷ instr.Branch op.Bne 18 0 (pos 8) ∷ jump (pos 224) ∷ instr.Imm op.Addi 5 1 (negsuc 3) ∷ instr.Load op.Ld 6 9 (pos 0) ∷ instr.Load op.Ld 28 6 (pos 0) ∷ instr.Imm op.Addi 6 6 (pos 8) ∷ instr.Imm op.Addi 12 0 (pos 1)
    -- 8 bisect
    ∷ instr.Branch op.Bltu 12 28 (pos 8) ∷ jump (pos 48) ∷ instr.Imm op.Srli 29 28 (pos 1) ∷ instr.Imm op.Slli 30 29 (pos 4) ∷ instr.Three op.Add 30 30 6 ∷ instr.Load op.Ld 13 30 (pos 0)
    ∷ instr.Branch op.Bgeu 5 13 (pos 8) ∷ jump (pos 16) ∷ instr.Imm op.Addi 6 30 (pos 0) ∷ instr.Three op.Sub 28 28 29 ∷ jump (negsuc 39)
    -- 19 lower
    ∷ instr.Imm op.Addi 28 29 (pos 0) ∷ jump (negsuc 47)
    -- 21 bisected
    ∷ instr.Load op.Ld 6 6 (pos 8)
    -- 22 region
    ∷ instr.Branch op.Bne 6 0 (pos 8) ∷ jump (pos 76) ∷ instr.Load op.Ld 5 6 (pos 8) ∷ instr.Load op.Ld 28 6 (pos 16)
    -- 26 arm
    ∷ instr.Branch op.Bne 5 28 (pos 8) ∷ jump (pos 32) ∷ instr.Load op.Ld 29 5 (pos 0) ∷ instr.Branch op.Bne 29 0 (pos 8) ∷ jump (pos 28) ∷ instr.Branch op.Bne 29 10 (pos 8) ∷ jump (pos 20)
    ∷ instr.Imm op.Addi 5 5 (pos 24) ∷ jump (negsuc 31)
    -- 35 arms
    ∷ instr.Load op.Ld 6 6 (pos 0) ∷ jump (negsuc 55)
    -- 37 take
    ∷ instr.Load op.Ld 6 5 (pos 8) ∷ instr.Load op.Ld 28 5 (pos 16) ∷ instr.Three op.Add 28 28 18 ∷ instr.Load op.Ld 2 28 (pos 0) ∷ instr.Jalr 0 6 (pos 0)
    -- 42 outward
    ∷ instr.Upper op.Lui 5 (pos 0) ∷ instr.Imm op.Addi 5 5 (pos 0) ∷ instr.Load op.Ld 6 5 (pos 0) ∷ instr.Branch op.Bne 10 6 (pos 8) ∷ jump (pos 32) ∷ instr.Jal 30 (pos 100)
    ∷ instr.Load op.Ld 1 18 (pos 0) ∷ instr.Imm op.Addi 11 18 (pos 0) ∷ instr.Load op.Ld 9 18 (pos 16) ∷ instr.Load op.Ld 18 18 (pos 8) ∷ instr.Save op.Sd 11 12 (pos 0) ∷ jump (negsuc 207)
    -- 54 leave
    ∷ instr.Load op.Ld 1 18 (pos 0) ∷ instr.Load op.Ld 9 18 (pos 16) ∷ instr.Load op.Ld 18 18 (pos 8) ∷ jump (negsuc 223)
    -- 58 bottom
    ∷ instr.Upper op.Lui 5 (pos 0) ∷ instr.Imm op.Addi 5 5 (pos 0) ∷ instr.Load op.Ld 6 5 (pos 0) ∷ instr.Branch op.Beq 10 6 (pos 8) ∷ jump (pos 12) ∷ instr.Load op.Ld 12 11 (pos 0) ∷ jump (pos 16)
    -- 65 unhandled
    ∷ instr.Upper op.Lui 3 (pos 0x2000_0000) ∷ instr.Imm op.Addi 4 8 (pos 0) ∷ instr.Jal 30 (pos 20)
    -- 68 halt
    ∷ instr.Load op.Ld 11 12 (pos 0) ∷ instr.Imm op.Addi 10 12 (pos 8) ∷ instr.Imm op.Addi 17 0 (pos 1) ∷ instr.Ecall
    -- 72 text
    ∷ instr.Load op.Ld 5 5 (pos 8) ∷ instr.Load op.Ld 28 5 (pos 0) ∷ instr.Load op.Ld 29 10 (pos 0) ∷ instr.Three op.Add 13 28 29
    ∷ instr.Imm op.Addi 14 13 (pos 15) ∷ instr.Imm op.Andi 14 14 (negsuc 7) ∷ instr.Three op.Sub 15 4 3 ∷ instr.Branch op.Bgeu 15 14 (pos 12) ∷ instr.Imm op.Addi 17 0 (pos 2) ∷ instr.Ecall
    ∷ instr.Imm op.Addi 12 3 (pos 0) ∷ instr.Three op.Add 3 3 14 ∷ instr.Save op.Sd 12 13 (pos 0) ∷ instr.Imm op.Addi 14 12 (pos 8)
    ∷ instr.Imm op.Addi 5 5 (pos 8) ∷ instr.Three op.Add 28 28 5
    -- 88 prefix
    ∷ instr.Branch op.Bne 5 28 (pos 8) ∷ jump (pos 24) ∷ instr.Load op.Lbu 15 5 (pos 0) ∷ instr.Save op.Sb 14 15 (pos 0) ∷ instr.Imm op.Addi 5 5 (pos 1) ∷ instr.Imm op.Addi 14 14 (pos 1) ∷ jump (negsuc 23)
    -- 95 prefixed
    ∷ instr.Imm op.Addi 10 10 (pos 8) ∷ instr.Three op.Add 29 29 10
    -- 97 name
    ∷ instr.Branch op.Bne 10 29 (pos 8) ∷ jump (pos 24) ∷ instr.Load op.Lbu 15 10 (pos 0) ∷ instr.Save op.Sb 14 15 (pos 0) ∷ instr.Imm op.Addi 10 10 (pos 1) ∷ instr.Imm op.Addi 14 14 (pos 1) ∷ jump (negsuc 23)
    -- 104 named
    ∷ instr.Imm op.Addi 10 6 (pos 0) ∷ instr.Jalr 0 30 (pos 0) ∷ []

-- the words that the linker fills in
abbrev pub is_hole : ℕ → Bool
is_hole k = k == 42 || (k == 43 || (k == 58 || k == 59))
