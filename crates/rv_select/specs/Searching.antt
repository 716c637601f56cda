-- What the part of the runtime that searches for an arm becomes.
use Rattle.std.specs.Prelude.{ℕ, ℤ, pos, negsuc, [], ◌∷◌}
use Rattle.clu_wir.specs.declared.hole.HoleKind.TheVariants as kind
use Rattle.rv_isa.specs.declared.op.Op.TheVariants as op
use Rattle.rv_select.specs.declared.register.Register.{Register}
use Rattle.rv_select.specs.declared.register.Register.TheVariants.{A2, A3, A4, A5, Back, First, Frame, Second, StackEnd, Store, StoreEnd, T3, T4, T5, Table, Top, Value, Words, Zero}
use Rattle.rv_select.specs.Steps.{caller_onto}
use Rattle.rv_select.specs.Written.{Onto, addi_onto, copy_onto, go_onto, go_unless_onto, hole_onto, imm_onto, in_turn, jal_onto, jalr_onto, ld_onto, load_onto, placed, save_onto, sd_onto, service_onto, service_unless_onto, three_onto, upper_onto}

-- The labels, by the numbers of `Goal`.
abbrev pub goal_search : ℕ
goal_search = 0

abbrev pub goal_bisect : ℕ
goal_bisect = 1

abbrev pub goal_lower : ℕ
goal_lower = 2

abbrev pub goal_bisected : ℕ
goal_bisected = 3

abbrev pub goal_region : ℕ
goal_region = 4

abbrev pub goal_arm : ℕ
goal_arm = 5

abbrev pub goal_arms : ℕ
goal_arms = 6

abbrev pub goal_take : ℕ
goal_take = 7

abbrev pub goal_outward : ℕ
goal_outward = 8

abbrev pub goal_leave : ℕ
goal_leave = 9

abbrev pub goal_bottom : ℕ
goal_bottom = 10

abbrev pub goal_unhandled : ℕ
goal_unhandled = 11

abbrev pub goal_halt : ℕ
goal_halt = 12

abbrev pub goal_text : ℕ
goal_text = 13

abbrev pub goal_prefix : ℕ
goal_prefix = 14

abbrev pub goal_prefixed : ℕ
goal_prefixed = 15

abbrev pub goal_name : ℕ
goal_name = 16

abbrev pub goal_named : ℕ
goal_named = 17

abbrev pub halve_onto : Onto
halve_onto = in_turn
    (imm_onto op.Srli T4 T3 (pos 1) ∷ imm_onto op.Slli T5 T4 (pos 4) ∷ three_onto op.Add T5 T5 Second ∷ ld_onto A3 T5 (pos 0) ∷ go_unless_onto op.Bgeu First A3 goal_lower
    ∷ copy_onto Second T5 ∷ three_onto op.Sub T3 T3 T4 ∷ go_onto goal_bisect ∷ placed goal_lower ∷ copy_onto T3 T4 ∷ go_onto goal_bisect ∷ [])

abbrev pub bisect_onto : Onto
bisect_onto = in_turn
    (copy_onto Zero Zero ∷ placed goal_search ∷ go_unless_onto op.Bne Frame Zero goal_bottom ∷ addi_onto First Back (negsuc 3) ∷ ld_onto Second Table (pos 0) ∷ ld_onto T3 Second (pos 0)
    ∷ addi_onto Second Second (pos 8) ∷ addi_onto A2 Zero (pos 1) ∷ placed goal_bisect ∷ go_unless_onto op.Bltu A2 T3 goal_bisected ∷ halve_onto ∷ placed goal_bisected ∷ ld_onto Second Second (pos 8) ∷ [])

abbrev pub regions_onto : Onto
regions_onto = in_turn
    (placed goal_region ∷ go_unless_onto op.Bne Second Zero goal_outward ∷ ld_onto First Second (pos 8) ∷ ld_onto T3 Second (pos 16) ∷ placed goal_arm ∷ go_unless_onto op.Bne First T3 goal_arms
    ∷ ld_onto T4 First (pos 0) ∷ go_unless_onto op.Bne T4 Zero goal_take ∷ go_unless_onto op.Bne T4 Value goal_take ∷ addi_onto First First (pos 24) ∷ go_onto goal_arm ∷ placed goal_arms
    ∷ ld_onto Second Second (pos 0) ∷ go_onto goal_region ∷ [])

abbrev pub take_arm_onto : Onto
take_arm_onto = in_turn (placed goal_take ∷ ld_onto Second First (pos 8) ∷ ld_onto T3 First (pos 16) ∷ three_onto op.Add T3 T3 Frame ∷ ld_onto Top T3 (pos 0) ∷ jalr_onto Zero Second (pos 0) ∷ [])

abbrev pub load_failure_onto : Onto
load_failure_onto = in_turn (hole_onto First kind.Regions 0 ∷ ld_onto Second First (pos 0) ∷ [])

abbrev pub outward_onto : Onto
outward_onto = in_turn
    (placed goal_outward ∷ load_failure_onto ∷ go_unless_onto op.Bne Value Second goal_leave ∷ jal_onto T5 goal_text ∷ ld_onto Back Frame (pos 0) ∷ copy_onto Words Frame ∷ caller_onto
    ∷ sd_onto A2 Words (pos 0) ∷ go_onto goal_search ∷ placed goal_leave ∷ ld_onto Back Frame (pos 0) ∷ caller_onto ∷ go_onto goal_search ∷ [])

abbrev pub bottom_onto : Onto
bottom_onto = in_turn
    (placed goal_bottom ∷ load_failure_onto ∷ go_unless_onto op.Beq Value Second goal_unhandled ∷ ld_onto A2 Words (pos 0) ∷ go_onto goal_halt ∷ placed goal_unhandled
    ∷ upper_onto op.Lui Store (pos 0x2000_0000) ∷ copy_onto StoreEnd StackEnd ∷ jal_onto T5 goal_text ∷ placed goal_halt ∷ ld_onto Words A2 (pos 0) ∷ addi_onto Value A2 (pos 8) ∷ service_onto (pos 1) ∷ [])

abbrev pub take_store_onto : Onto
take_store_onto = in_turn
    (addi_onto A4 A3 (pos 15) ∷ imm_onto op.Andi A4 A4 (negsuc 7) ∷ three_onto op.Sub A5 StoreEnd Store ∷ service_unless_onto op.Bgeu A5 A4 (pos 2) ∷ copy_onto A2 Store ∷ three_onto op.Add Store Store A4 ∷ [])

abbrev pub copy_bytes_onto : Register → Register → ℕ → ℕ → Onto
copy_bytes_onto string count next done = in_turn
    (addi_onto string string (pos 8) ∷ three_onto op.Add count count string ∷ placed next ∷ go_unless_onto op.Bne string count done ∷ load_onto op.Lbu A5 string (pos 0) ∷ save_onto op.Sb A5 A4 (pos 0)
    ∷ addi_onto string string (pos 1) ∷ addi_onto A4 A4 (pos 1) ∷ go_onto next ∷ placed done ∷ [])

abbrev pub text_onto : Onto
text_onto = in_turn
    (placed goal_text ∷ ld_onto First First (pos 8) ∷ ld_onto T3 First (pos 0) ∷ ld_onto T4 Value (pos 0) ∷ three_onto op.Add A3 T3 T4 ∷ take_store_onto ∷ sd_onto A3 A2 (pos 0) ∷ addi_onto A4 A2 (pos 8)
    ∷ copy_bytes_onto First T3 goal_prefix goal_prefixed ∷ copy_bytes_onto Value T4 goal_name goal_named ∷ copy_onto Value Second ∷ jalr_onto Zero T5 (pos 0) ∷ [])

unfoldable pub search_onto : Onto
search_onto = in_turn (bisect_onto ∷ regions_onto ∷ take_arm_onto ∷ outward_onto ∷ bottom_onto ∷ text_onto ∷ [])
