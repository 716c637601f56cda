-- What is written of a routine so far, and what each method of the assembler adds.
use Rattle.std.specs.Prelude.{Bool, true, ℕ, ℤ, pos, List, [], ◌∷◌, ◌++◌, length, map, slice_set, Option, Some, None}
use Rattle.clu_wir.specs.declared.hole.HoleKind.{HoleKind}
use Rattle.clu_wir.specs.Numbers.{kind_number}
use Rattle.clu_object.specs.declared.object.Hole.{Hole}
use Rattle.rv_isa.specs.declared.op.Op.{Op}
use Rattle.rv_isa.specs.declared.op.Op.TheVariants as op
use Rattle.rv_isa.specs.declared.instr.Instr.{Instr}
use Rattle.rv_isa.specs.declared.instr.Instr.TheVariants as instr
use Rattle.rv_select.specs.Instructions.{read}
use Rattle.rv_select.specs.declared.register.Register.{Register}
use Rattle.rv_select.specs.declared.register.Register.TheVariants.{Service, Zero}
use Rattle.rv_select.specs.declared.words.Reference.{Reference}
use Rattle.rv_select.specs.declared.words.Words.{Words}
use Rattle.rv_select.specs.Registers.{register_number}

pub record Written : Type 0 where
  -- the instructions of the words
  pub code : List Instr
  pub holes : List Hole
  -- for each label the number of the word at which it stands
  pub labels : List (Option ℕ)
  -- the instructions whose distance to a label is still 0
  pub references : List Reference
  -- whether there was a free register wherever one was taken, room for each word that was bound, and each distance is reached
  pub fits : Bool

abbrev pub written : Words → Written
written w = record { code = map read w.code.items; holes = w.holes.items; labels = w.labels.items; references = w.references.items; fits = true }

abbrev pub Onto : Type 0
Onto = Written → Written

-- one after the other
abbrev pub in_turn : List Onto → Onto
in_turn [] w = w
in_turn (first ∷ rest) w = in_turn rest (first w)

-- An instruction, a hole of the next two words, a label that stands at the next word, a label more, and that the next word
-- names a label.

unfoldable pub emitted : Instr → Onto
emitted i w = record w { code = w.code ++ i ∷ [] }

unfoldable pub holed : HoleKind → ℕ → Onto
holed kind number w = record w { holes = w.holes ++ record { at = length w.code; kind = kind_number kind; number = number } ∷ [] }

unfoldable pub placed : ℕ → Onto
placed label w = record w { labels = slice_set w.labels label (Some (length w.code)) }

unfoldable pub fresh : Onto
fresh w = record w { labels = w.labels ++ None ∷ [] }

unfoldable pub noted : Instr → ℕ → Onto
noted i label w = record w { references = w.references ++ record { at = length w.code; label = label; instr = i } ∷ [] }

-- Instructions.

abbrev pub load_onto : Op → Register → Register → ℤ → Onto
load_onto o to base distance = emitted (instr.Load o (register_number to) (register_number base) distance)

abbrev pub ld_onto : Register → Register → ℤ → Onto
ld_onto = load_onto op.Ld

abbrev pub save_onto : Op → Register → Register → ℤ → Onto
save_onto o from base distance = emitted (instr.Save o (register_number base) (register_number from) distance)

abbrev pub sd_onto : Register → Register → ℤ → Onto
sd_onto = save_onto op.Sd

abbrev pub imm_onto : Op → Register → Register → ℤ → Onto
imm_onto o to from number = emitted (instr.Imm o (register_number to) (register_number from) number)

abbrev pub addi_onto : Register → Register → ℤ → Onto
addi_onto = imm_onto op.Addi

abbrev pub copy_onto : Register → Register → Onto
copy_onto to from = addi_onto to from (pos 0)

abbrev pub three_onto : Op → Register → Register → Register → Onto
three_onto o to left right = emitted (instr.Three o (register_number to) (register_number left) (register_number right))

abbrev pub upper_onto : Op → Register → ℤ → Onto
upper_onto o to number = emitted (instr.Upper o (register_number to) number)

abbrev pub jalr_onto : Register → Register → ℤ → Onto
jalr_onto link base distance = emitted (instr.Jalr (register_number link) (register_number base) distance)

abbrev pub service_onto : ℤ → Onto
service_onto number = in_turn (addi_onto Service Zero number ∷ emitted instr.Ecall ∷ [])

abbrev pub hole_onto : Register → HoleKind → ℕ → Onto
hole_onto to kind number = in_turn (holed kind number ∷ upper_onto op.Lui to (pos 0) ∷ copy_onto to to ∷ [])

-- Instructions that name labels.

abbrev pub referred : Instr → ℕ → Onto
referred i label = in_turn (noted i label ∷ emitted i ∷ [])

abbrev pub jal_onto : Register → ℕ → Onto
jal_onto link label = referred (instr.Jal (register_number link) (pos 0)) label

abbrev pub go_onto : ℕ → Onto
go_onto = jal_onto Zero

abbrev pub branch_onto : Op → Register → Register → ℕ → Onto
branch_onto o left right label = referred (instr.Branch o (register_number left) (register_number right) (pos 0)) label

abbrev pub address_onto : Register → ℕ → Onto
address_onto to label =
    in_turn (upper_onto op.Auipc to (pos 0) ∷ referred (instr.Imm op.Addi (register_number to) (register_number to) (pos 0)) label ∷ [])

-- where the comparison doesn't hold: a label after it stands at the word behind
abbrev pub unless_onto : Op → Register → Register → Onto → Onto
unless_onto o left right onto w =
    in_turn (fresh ∷ branch_onto o left right (length w.labels) ∷ onto ∷ placed (length w.labels) ∷ []) w

abbrev pub service_unless_onto : Op → Register → Register → ℤ → Onto
service_unless_onto o left right number = unless_onto o left right (service_onto number)

abbrev pub go_unless_onto : Op → Register → Register → ℕ → Onto
go_unless_onto o left right label = unless_onto o left right (go_onto label)
