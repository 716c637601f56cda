-- The operands of instructions are those of their forms, and all of these.

use Rattle.std.proofs.Common.{◌≡◌, ℕ, zero, suc, ◌+◌, ◌-◌, ◌*◌, ◌/◌, ◌%◌, ◌^◌, ◌<◌, ◌≤◌, ℤ, pos, negsuc, ◌-ℤ◌, List, [], ◌∷◌, ◌++◌, decimal, refl, sym, ap, subst, ◌∙◌, arith, append_assoc, append-nil}
use Rattle.std.specs.Fmt.{signed_decimal}
use Rattle.std.specs.Int.{w32, cast_unsigned}
use Rattle.std.proofs.lemmas.Int.{ints}
use Rattle.rv_isa.specs.declared.op.Op.{Op}
use Rattle.rv_isa.specs.declared.op.Op.TheVariants as op
use Rattle.rv_isa.specs.declared.instr.Instr.{Instr}
use Rattle.rv_isa.specs.declared.instr.Instr.TheVariants.{Upper, Jal, Jalr, Branch, Load, Save, Imm, Three, Fence, Ecall, Ebreak}
use Rattle.rv_isa.specs.Table.{row_of}
use Rattle.rv_isa.specs.Valid.{IsInstr, IsValid, IsWithin, IsDistance, IsUpper, IsAmount, FitsForm}
use Rattle.clu_asm.specs.declared.mnemonics.Mnemonic.{Mnemonic}
use Rattle.clu_asm.specs.declared.mnemonics.Mnemonic.TheVariants as mnemonic
use Rattle.clu_asm.specs.declared.mnemonics.Form.{Form}
use Rattle.clu_asm.specs.declared.mnemonics.Form.TheVariants as form
use Rattle.clu_asm.specs.declared.cut_lines.Kind.{Kind}
use Rattle.clu_asm.specs.declared.cut_lines.Kind.TheVariants as kind
use Rattle.clu_asm.specs.Mnemonics.{mnemonic_of, op_form, form_of}
use Rattle.clu_asm.specs.AssemblyText.{register, number, operands}
use Rattle.clu_asm.specs.CutLines.{count_of, step_of, low_of, number_at, number_text, operand_text, AreOperands, kinds_of}
use Rattle.clu_asm.proofs.GuessLemmas.{upper_form, branch_form, load_form, save_form, three_form}

-- ---- the numbers of a kind

-- the numbers that fit where an operand of this kind stands
abbrev pub IsOf : Kind → ℤ → Type 0
IsOf kind.Register z = IsAmount 32 z
IsOf kind.Immediate z = IsWithin (2 ^ 11) z
IsOf kind.Amount z = IsAmount 64 z
IsOf kind.WordAmount z = IsAmount 32 z
IsOf kind.Branch z = IsDistance (2 ^ 12) z
IsOf kind.Jump z = IsDistance (2 ^ 20) z
IsOf kind.Upper z = IsUpper z

abbrev pub HasNumber : Kind → ℤ → Type 0
HasNumber k z = (n : ℕ) × (n < count_of k) × (number_at k n ≡ z)

amount_at : (limit : ℕ) (z : ℤ) → IsAmount limit z → (n : ℕ) × (n < limit) × ((pos (n * 1) -ℤ pos 0) ≡ z)
amount_at limit (pos m) h = (m, omega (arith, ints, h.0, h.1), omega (arith, ints))
amount_at limit (negsuc m) h = absurd (omega (arith, ints, h.0, h.1))

within_at : (z : ℤ) → IsWithin (2 ^ 11) z → HasNumber kind.Immediate z
within_at (pos m) h = (m + 2 ^ 11, omega (arith, ints, h.0, h.1), omega (arith, ints))
within_at (negsuc m) h = (2 ^ 11 - suc m, omega (arith, ints, h.0, h.1), omega (arith, ints, h.0, h.1))

branch_at : (z : ℤ) → IsDistance (2 ^ 12) z → HasNumber kind.Branch z
branch_at (pos m) h = ((m + 2 ^ 12) / 2, omega (arith, ints, h.0.0, h.0.1, h.1), omega (arith, ints, h.1))
branch_at (negsuc m) h = ((2 ^ 12 - suc m) / 2, omega (arith, ints, h.0.0, h.0.1, h.1), omega (arith, ints, h.0.0, h.0.1, h.1))

jump_at : (z : ℤ) → IsDistance (2 ^ 20) z → HasNumber kind.Jump z
jump_at (pos m) h = ((m + 2 ^ 20) / 2, omega (arith, ints, h.0.0, h.0.1, h.1), omega (arith, ints, h.1))
jump_at (negsuc m) h = ((2 ^ 20 - suc m) / 2, omega (arith, ints, h.0.0, h.0.1, h.1), omega (arith, ints, h.0.0, h.0.1, h.1))

upper_at : (z : ℤ) → IsUpper z → HasNumber kind.Upper z
upper_at (pos m) h = ((m + 2 ^ 31) / 2 ^ 12, omega (arith, ints, h.0.0, h.0.1, h.1), omega (arith, ints, h.1))
upper_at (negsuc m) h = ((2 ^ 31 - suc m) / 2 ^ 12, omega (arith, ints, h.0.0, h.0.1, h.1), omega (arith, ints, h.0.0, h.0.1, h.1))

-- each number that fits is one of the kind's
index : (k : Kind) (z : ℤ) → IsOf k z → HasNumber k z
index kind.Register z h = amount_at 32 z h
index kind.Immediate z h = within_at z h
index kind.Amount z h = amount_at 64 z h
index kind.WordAmount z h = amount_at 32 z h
index kind.Branch z h = branch_at z h
index kind.Jump z h = jump_at z h
index kind.Upper z h = upper_at z h

amount_of : (limit n : ℕ) (z : ℤ) → n < limit → (pos (n * 1) -ℤ pos 0) ≡ z → IsAmount limit z
amount_of limit n z h e = (omega (arith, ints, e), omega (arith, ints, e, h))

within_of : (half width m : ℕ) (z : ℤ) → width ≡ 2 * half → m < width → (pos m -ℤ pos half) ≡ z → IsWithin half z
within_of half width m z w h e = (omega (arith, ints, e), omega (arith, ints, e, h, w))

branch_even : (n : ℕ) (z : ℤ) → n < 2 ^ 12 → (pos (n * 2) -ℤ pos (2 ^ 12)) ≡ z → cast_unsigned w32 z % 2 ≡ 0
branch_even n (pos a) h e = omega (arith, ints, e)
branch_even n (negsuc a) h e = omega (arith, ints, e, h)

jump_even : (n : ℕ) (z : ℤ) → n < 2 ^ 20 → (pos (n * 2) -ℤ pos (2 ^ 20)) ≡ z → cast_unsigned w32 z % 2 ≡ 0
jump_even n (pos a) h e = omega (arith, ints, e)
jump_even n (negsuc a) h e = omega (arith, ints, e, h)

upper_low : (n : ℕ) (z : ℤ) → n < 2 ^ 20 → (pos (n * 2 ^ 12) -ℤ pos (2 ^ 31)) ≡ z → cast_unsigned w32 z % 2 ^ 12 ≡ 0
upper_low n (pos a) h e = omega (arith, ints, e)
upper_low n (negsuc a) h e = omega (arith, ints, e, h)

-- and each of these fits
within : (k : Kind) (n : ℕ) → n < count_of k → IsOf k (number_at k n)
within kind.Register n h = amount_of 32 n (number_at kind.Register n) h refl
within kind.Immediate n h = within_of (2 ^ 11) (2 ^ 12) (n * 1) (number_at kind.Immediate n) refl (omega (arith, h)) refl
within kind.Amount n h = amount_of 64 n (number_at kind.Amount n) h refl
within kind.WordAmount n h = amount_of 32 n (number_at kind.WordAmount n) h refl
within kind.Branch n h =
    (within_of (2 ^ 12) (2 ^ 13) (n * 2) (number_at kind.Branch n) refl (omega (arith, h)) refl, branch_even n (number_at kind.Branch n) h refl)
within kind.Jump n h =
    (within_of (2 ^ 20) (2 ^ 21) (n * 2) (number_at kind.Jump n) refl (omega (arith, h)) refl, jump_even n (number_at kind.Jump n) h refl)
within kind.Upper n h =
    (within_of (2 ^ 31) (2 ^ 32) (n * 2 ^ 12) (number_at kind.Upper n) refl (omega (arith, h)) refl, upper_low n (number_at kind.Upper n) h refl)

pub register_text : (r : ℕ) → number_text kind.Register r ≡ decimal r
register_text r = let e : number_at kind.Register r ≡ pos r = omega (arith, ints) in ap signed_decimal e

-- ---- operands, one after the other

pub no_operands : (mark : ℕ) → AreOperands [] mark []
unfolding AreOperands
no_operands mark = refl

pub nothing : (mark : ℕ) (text : List ℕ) → AreOperands [] mark text → text ≡ []
unfolding AreOperands
nothing mark text h = h

pub operand_and : (k : Kind) (kinds : List Kind) (mark n : ℕ) (others text : List ℕ) → n < count_of k → AreOperands kinds 44 others → text ≡ mark ∷ (operand_text k n ++ others) → AreOperands (k ∷ kinds) mark text
unfolding AreOperands
operand_and k kinds mark n others text lt h e = (n, others, lt, h, e)

abbrev pub FirstOperand : Kind → List Kind → ℕ → List ℕ → Type 0
FirstOperand k kinds mark text =
    (n : ℕ) × (others : List ℕ) × (n < count_of k) × AreOperands kinds 44 others × (text ≡ mark ∷ (operand_text k n ++ others))

pub first_operand : (k : Kind) (kinds : List Kind) (mark : ℕ) (text : List ℕ) → AreOperands (k ∷ kinds) mark text → FirstOperand k kinds mark text
unfolding AreOperands
first_operand k kinds mark text h = h

-- operands of any kinds exist
pub some_operands : (kinds : List Kind) (mark : ℕ) → (text : List ℕ) × AreOperands kinds mark text
some_operands [] mark = ([], no_operands mark)
some_operands (k ∷ kinds) mark =
    let others = some_operands kinds 44 in
    (mark ∷ (operand_text k 0 ++ others.0), operand_and k kinds mark 0 others.0 (mark ∷ (operand_text k 0 ++ others.0)) (counted k) others.1 refl)
  where
    counted : (k : Kind) → 0 < count_of k
    counted kind.Register = omega arith
    counted kind.Immediate = omega arith
    counted kind.Amount = omega arith
    counted kind.WordAmount = omega arith
    counted kind.Branch = omega arith
    counted kind.Jump = omega arith
    counted kind.Upper = omega arith

-- no register
abbrev pub IsNumber : Kind → Type 0
IsNumber k = (n : ℕ) → operand_text k n ≡ number_text k n

-- ---- from an instruction to its operands

register_then : (mark r : ℕ) (kinds : List Kind) (others : List ℕ) → r < 32 → AreOperands kinds 44 others → AreOperands (kind.Register ∷ kinds) mark (register mark r ++ others)
register_then mark r kinds others lt h =
    operand_and kind.Register kinds mark r others (register mark r ++ others) lt h (ap (λ (t : List ℕ). mark ∷ 120 ∷ (t ++ others)) (sym (register_text r)))

last_number : (k : Kind) (z : ℤ) → IsNumber k → IsOf k z → AreOperands (k ∷ []) 44 (number z)
last_number k z plain h =
    let n = index k z h in
    let text : operand_text k n.0 ++ [] ≡ signed_decimal z = append-nil (operand_text k n.0) ∙ plain n.0 ∙ ap signed_decimal n.2 in
    operand_and k [] 44 n.0 [] (number z) n.1 (no_operands 44) (ap (λ (t : List ℕ). 44 ∷ t) (sym text))

last_register : (r : ℕ) → r < 32 → AreOperands (kind.Register ∷ []) 44 (register 44 r)
last_register r lt = subst (AreOperands (kind.Register ∷ []) 44) (append-nil (register 44 r)) (register_then 44 r [] [] lt (no_operands 44))

one_operands : (k : Kind) (r : ℕ) (z : ℤ) → IsNumber k → r < 32 → IsOf k z → AreOperands (kind.Register ∷ k ∷ []) 32 (register 32 r ++ number z)
one_operands k r z plain lt h = register_then 32 r (k ∷ []) (number z) lt (last_number k z plain h)

two_operands : (k : Kind) (r s : ℕ) (z : ℤ) → IsNumber k → r < 32 → s < 32 → IsOf k z → AreOperands (kind.Register ∷ kind.Register ∷ k ∷ []) 32 (register 32 r ++ register 44 s ++ number z)
two_operands k r s z plain lr ls h =
    subst (AreOperands (kind.Register ∷ kind.Register ∷ k ∷ []) 32) (sym (append_assoc (register 32 r) (register 44 s) (number z)))
    (register_then 32 r (kind.Register ∷ k ∷ []) (register 44 s ++ number z) lr (register_then 44 s (k ∷ []) (number z) ls (last_number k z plain h)))

three_operands : (r s t : ℕ) → r < 32 → s < 32 → t < 32 → AreOperands (kind.Register ∷ kind.Register ∷ kind.Register ∷ []) 32 (register 32 r ++ register 44 s ++ register 44 t)
three_operands r s t lr ls lt =
    subst (AreOperands (kind.Register ∷ kind.Register ∷ kind.Register ∷ []) 32) (sym (append_assoc (register 32 r) (register 44 s) (register 44 t)))
    (register_then 32 r (kind.Register ∷ kind.Register ∷ []) (register 44 s ++ register 44 t) lr (register_then 44 s (kind.Register ∷ []) (register 44 t) ls (last_register t lt)))

imm_operands : (o : Op) (r s : ℕ) (z : ℤ) → IsValid (Imm o r s z) → r < 32 → s < 32 → AreOperands (kinds_of (op_form o)) 32 (register 32 r ++ register 44 s ++ number z)
imm_operands op.Addi r s z h lr ls = two_operands kind.Immediate r s z (λ n. refl) lr ls h
imm_operands op.Slti r s z h lr ls = two_operands kind.Immediate r s z (λ n. refl) lr ls h
imm_operands op.Sltiu r s z h lr ls = two_operands kind.Immediate r s z (λ n. refl) lr ls h
imm_operands op.Xori r s z h lr ls = two_operands kind.Immediate r s z (λ n. refl) lr ls h
imm_operands op.Ori r s z h lr ls = two_operands kind.Immediate r s z (λ n. refl) lr ls h
imm_operands op.Andi r s z h lr ls = two_operands kind.Immediate r s z (λ n. refl) lr ls h
imm_operands op.Addiw r s z h lr ls = two_operands kind.Immediate r s z (λ n. refl) lr ls h
imm_operands op.Slli r s z h lr ls = two_operands kind.Amount r s z (λ n. refl) lr ls h
imm_operands op.Srli r s z h lr ls = two_operands kind.Amount r s z (λ n. refl) lr ls h
imm_operands op.Srai r s z h lr ls = two_operands kind.Amount r s z (λ n. refl) lr ls h
imm_operands op.Slliw r s z h lr ls = two_operands kind.WordAmount r s z (λ n. refl) lr ls h
imm_operands op.Srliw r s z h lr ls = two_operands kind.WordAmount r s z (λ n. refl) lr ls h
imm_operands op.Sraiw r s z h lr ls = two_operands kind.WordAmount r s z (λ n. refl) lr ls h
imm_operands _ r s z h lr ls = absurd h

pub instr_operands : (i : Instr) → IsInstr i → AreOperands (kinds_of (form_of (mnemonic_of i))) 32 (operands i)
unfolding operands
instr_operands (Upper o rd imm) h = rw (upper_form o rd imm h.valid) (one_operands kind.Upper rd imm (λ n. refl) h.registers h.valid.1)
instr_operands (Jal rd imm) h = one_operands kind.Jump rd imm (λ n. refl) h.registers h.valid
instr_operands (Jalr rd rs1 imm) h = two_operands kind.Immediate rd rs1 imm (λ n. refl) h.registers.0 h.registers.1 h.valid
instr_operands (Branch o rs1 rs2 imm) h = rw (branch_form o rs1 rs2 imm h.valid) (two_operands kind.Branch rs1 rs2 imm (λ n. refl) h.registers.0 h.registers.1 h.valid.1)
instr_operands (Load o rd rs1 imm) h = rw (load_form o rd rs1 imm h.valid) (two_operands kind.Immediate rd rs1 imm (λ n. refl) h.registers.0 h.registers.1 h.valid.1)
instr_operands (Save o rs1 rs2 imm) h = rw (save_form o rs1 rs2 imm h.valid) (two_operands kind.Immediate rs1 rs2 imm (λ n. refl) h.registers.0 h.registers.1 h.valid.1)
instr_operands (Imm o rd rs1 imm) h = imm_operands o rd rs1 imm h.valid h.registers.0 h.registers.1
instr_operands (Three o rd rs1 rs2) h = rw (three_form o rd rs1 rs2 h.valid) (three_operands rd rs1 rs2 h.registers.0 h.registers.1 h.registers.2)
instr_operands (Fence rd rs1 imm) h = two_operands kind.Immediate rd rs1 imm (λ n. refl) h.registers.0 h.registers.1 h.valid
instr_operands Ecall h = no_operands 32
instr_operands Ebreak h = no_operands 32

-- ---- from operands to an instruction

register_is : (mark n : ℕ) (others text : List ℕ) → text ≡ mark ∷ (operand_text kind.Register n ++ others) → text ≡ register mark n ++ others
register_is mark n others text e = e ∙ ap (λ (t : List ℕ). mark ∷ 120 ∷ (t ++ others)) (register_text n)

read_number : (k : Kind) (text : List ℕ) → IsNumber k → AreOperands (k ∷ []) 44 text → (n : ℕ) × (n < count_of k) × (text ≡ number (number_at k n))
read_number k text plain h =
    let x = first_operand k [] 44 text h in
    let none : x.1 ≡ [] = nothing 44 x.1 x.3 in
    (x.0, x.2, x.4 ∙ ap (λ (t : List ℕ). 44 ∷ (operand_text k x.0 ++ t)) none ∙ ap (λ (t : List ℕ). 44 ∷ t) (append-nil (operand_text k x.0) ∙ plain x.0))

read_register : (text : List ℕ) → AreOperands (kind.Register ∷ []) 44 text → (n : ℕ) × (n < 32) × (text ≡ register 44 n)
read_register text h =
    let x = first_operand kind.Register [] 44 text h in
    let none : x.1 ≡ [] = nothing 44 x.1 x.3 in
    (x.0, x.2, register_is 44 x.0 x.1 text x.4 ∙ ap (λ (t : List ℕ). register 44 x.0 ++ t) none ∙ append-nil (register 44 x.0))

one_read : (k : Kind) (text : List ℕ) → IsNumber k → AreOperands (kind.Register ∷ k ∷ []) 32 text
    → (r : ℕ) × (n : ℕ) × (r < 32) × (n < count_of k) × (text ≡ register 32 r ++ number (number_at k n))
one_read k text plain h =
    let x = first_operand kind.Register (k ∷ []) 32 text h in
    let y = read_number k x.1 plain x.3 in
    (x.0, y.0, x.2, y.1, register_is 32 x.0 x.1 text x.4 ∙ ap (λ (t : List ℕ). register 32 x.0 ++ t) y.2)

two_read : (k : Kind) (text : List ℕ) → IsNumber k → AreOperands (kind.Register ∷ kind.Register ∷ k ∷ []) 32 text
    → (r : ℕ) × (s : ℕ) × (n : ℕ) × (r < 32) × (s < 32) × (n < count_of k) × (text ≡ register 32 r ++ register 44 s ++ number (number_at k n))
two_read k text plain h =
    let x = first_operand kind.Register (kind.Register ∷ k ∷ []) 32 text h in
    let y = first_operand kind.Register (k ∷ []) 44 x.1 x.3 in
    let z = read_number k y.1 plain y.3 in
    let second : x.1 ≡ register 44 y.0 ++ number (number_at k z.0) = register_is 44 y.0 y.1 x.1 y.4 ∙ ap (λ (t : List ℕ). register 44 y.0 ++ t) z.2 in (
      x.0,
      y.0,
      z.0,
      x.2,
      y.2,
      z.1,
      register_is 32 x.0 x.1 text x.4 ∙ ap (λ (t : List ℕ). register 32 x.0 ++ t) second ∙ sym (append_assoc (register 32 x.0) (register 44 y.0) (number (number_at k z.0))),
    )

three_read : (text : List ℕ) → AreOperands (kind.Register ∷ kind.Register ∷ kind.Register ∷ []) 32 text
    → (r : ℕ) × (s : ℕ) × (t : ℕ) × (r < 32) × (s < 32) × (t < 32) × (text ≡ register 32 r ++ register 44 s ++ register 44 t)
three_read text h =
    let x = first_operand kind.Register (kind.Register ∷ kind.Register ∷ []) 32 text h in
    let y = first_operand kind.Register (kind.Register ∷ []) 44 x.1 x.3 in
    let z = read_register y.1 y.3 in
    let second : x.1 ≡ register 44 y.0 ++ register 44 z.0 = register_is 44 y.0 y.1 x.1 y.4 ∙ ap (λ (t : List ℕ). register 44 y.0 ++ t) z.2 in (
      x.0,
      y.0,
      z.0,
      x.2,
      y.2,
      z.1,
      register_is 32 x.0 x.1 text x.4 ∙ ap (λ (t : List ℕ). register 32 x.0 ++ t) second ∙ sym (append_assoc (register 32 x.0) (register 44 y.0) (register 44 z.0)),
    )

-- an operation of each form of the table
abbrev sample : Form → Op
sample form.Upper = op.Lui
sample form.Branch = op.Beq
sample form.Load = op.Lb
sample form.Save = op.Sb
sample form.Imm = op.Addi
sample form.Shift = op.Slli
sample form.ShiftWord = op.Slliw
sample _ = op.Add

-- operations of one form here are of one form in the instruction table
same_form : (o : Op) → (row_of o).form ≡ (row_of (sample (op_form o))).form
same_form op.Lui = refl
same_form _ = refl

table_form : (o : Op) (f : Form) → op_form o ≡ f → (row_of o).form ≡ (row_of (sample f)).form
table_form o f e = same_form o ∙ ap (λ (g : Form). (row_of (sample g)).form) e

no_jump : (o : Op) → op_form o ≡ form.Jump → ⊥
no_jump op.Lui e = absurd (cc (e))
no_jump _ e = absurd (cc (e))

not_alone : (o : Op) → op_form o ≡ form.Alone → ⊥
not_alone op.Lui e = absurd (cc (e))
not_alone _ e = absurd (cc (e))

-- an instruction with these operands
abbrev pub InstrOf : Mnemonic → List ℕ → Type 0
InstrOf m text = (i : Instr) × IsInstr i × (mnemonic_of i ≡ m) × (text ≡ operands i)

imm_instr : (o : Op) (k : Kind) (f : Form) (text : List ℕ) → op_form o ≡ f → ((z : ℤ) → IsOf k z → FitsForm (row_of (sample f)).form z) → IsNumber k → AreOperands (kind.Register ∷ kind.Register ∷ k ∷ []) 32 text → InstrOf (mnemonic.Table o) text
unfolding operands
imm_instr o k f text e fits plain h =
    let x = two_read k text plain h in
    let valid : FitsForm (row_of o).form (number_at k x.2) = rw (table_form o f e) (fits (number_at k x.2) (within k x.2 x.5)) in
    (Imm o x.0 x.1 (number_at k x.2), record { valid = valid; registers = (x.3, x.4) }, refl, x.6)

table_instr : (o : Op) (f : Form) (text : List ℕ) → op_form o ≡ f → AreOperands (kinds_of f) 32 text → InstrOf (mnemonic.Table o) text
unfolding operands
table_instr o form.Upper text e h =
    let x = one_read kind.Upper text (λ n. refl) h in
    (Upper o x.0 (number_at kind.Upper x.1), record { valid = (table_form o form.Upper e, within kind.Upper x.1 x.3); registers = x.2 }, refl, x.4)
table_instr o form.Jump text e h = absurd (no_jump o e)
table_instr o form.Branch text e h =
    let x = two_read kind.Branch text (λ n. refl) h in
    (Branch o x.0 x.1 (number_at kind.Branch x.2), record { valid = (table_form o form.Branch e, within kind.Branch x.2 x.5); registers = (x.3, x.4) }, refl, x.6)
table_instr o form.Load text e h =
    let x = two_read kind.Immediate text (λ n. refl) h in
    (Load o x.0 x.1 (number_at kind.Immediate x.2), record { valid = (table_form o form.Load e, within kind.Immediate x.2 x.5); registers = (x.3, x.4) }, refl, x.6)
table_instr o form.Save text e h =
    let x = two_read kind.Immediate text (λ n. refl) h in
    (Save o x.0 x.1 (number_at kind.Immediate x.2), record { valid = (table_form o form.Save e, within kind.Immediate x.2 x.5); registers = (x.3, x.4) }, refl, x.6)
table_instr o form.Imm text e h = imm_instr o kind.Immediate form.Imm text e (λ z w. w) (λ n. refl) h
table_instr o form.Shift text e h = imm_instr o kind.Amount form.Shift text e (λ z w. w) (λ n. refl) h
table_instr o form.ShiftWord text e h = imm_instr o kind.WordAmount form.ShiftWord text e (λ z w. w) (λ n. refl) h
table_instr o form.Three text e h =
    let x = three_read text h in
    (Three o x.0 x.1 x.2, record { valid = table_form o form.Three e; registers = (x.3, x.4, x.5) }, refl, x.6)
table_instr o form.Alone text e h = absurd (not_alone o e)

pub operands_instr : (m : Mnemonic) (text : List ℕ) → AreOperands (kinds_of (form_of m)) 32 text → InstrOf m text
unfolding operands
operands_instr (mnemonic.Table o) text h = table_instr o (op_form o) text refl h
operands_instr mnemonic.Jal text h =
    let x = one_read kind.Jump text (λ n. refl) h in
    (Jal x.0 (number_at kind.Jump x.1), record { valid = within kind.Jump x.1 x.3; registers = x.2 }, refl, x.4)
operands_instr mnemonic.Jalr text h =
    let x = two_read kind.Immediate text (λ n. refl) h in
    (Jalr x.0 x.1 (number_at kind.Immediate x.2), record { valid = within kind.Immediate x.2 x.5; registers = (x.3, x.4) }, refl, x.6)
operands_instr mnemonic.Fence text h =
    let x = two_read kind.Immediate text (λ n. refl) h in
    (Fence x.0 x.1 (number_at kind.Immediate x.2), record { valid = within kind.Immediate x.2 x.5; registers = (x.3, x.4) }, refl, x.6)
operands_instr mnemonic.Ecall text h = (Ecall, record { valid = tt; registers = tt }, refl, nothing 32 text h)
operands_instr mnemonic.Ebreak text h = (Ebreak, record { valid = tt; registers = tt }, refl, nothing 32 text h)
