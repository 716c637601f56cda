-- What the other parts of the runtime become, and routines without a frame.
use Rattle.std.specs.Prelude.{◌≡◌, ℕ, pos, true, IsTrue, List, [], ◌∷◌, length, map}
use Rattle.clu_wir.specs.Plain.{expr_of}
use Rattle.clu_wir.specs.declared.hole.HoleKind.TheVariants as kind
use Rattle.clu_wir.specs.declared.routine.WDeed.{WDeed}
use Rattle.clu_wir.specs.declared.routine.WDeed.TheVariants as deed
use Rattle.clu_wir.specs.declared.trap.Trap.{Trap}
use Rattle.clu_wir.specs.declared.trap.TheConstants.{TRAPS}
use Rattle.clu_object.specs.declared.object.ObjRoutine.{ObjRoutine}
use Rattle.rv_isa.specs.declared.op.Op.TheVariants as op
use Rattle.rv_select.specs.declared.parts.Part.TheVariants as part
use Rattle.rv_select.specs.declared.register.Register.TheVariants.{A2, Back, Caller, First, Frame, Second, Store, StoreEnd, T3, Table, Top, Value, Words, Zero}
use Rattle.rv_select.specs.Evaluation.{Part, at_of, onto_of, part_of, trap_distance}
use Rattle.rv_select.specs.Finished.{finished, is_landed}
use Rattle.rv_select.specs.Instructions.{read}
use Rattle.rv_select.specs.Operands.{put_onto, unbound}
use Rattle.rv_select.specs.Selection.{store_onto}
use Rattle.rv_select.specs.Steps.{part_onto}
use Rattle.rv_select.specs.Written.{Onto, Written, addi_onto, copy_onto, fresh, go_onto, go_unless_onto, hole_onto, imm_onto, in_turn, jalr_onto, ld_onto, placed, sd_onto, service_onto, service_unless_onto, three_onto}

-- the words and holes of an object are those that were written; each label that is named has a place, and all fits
pub record HasWords (w : Written) (object : ObjRoutine) : Type 0 where
  pub code : map read object.code ≡ finished w
  pub filled : object.holes ≡ w.holes
  pub landed : IsTrue (is_landed w)
  pub fits : IsTrue w.fits

-- The start of a program.
abbrev pub start_onto : Onto
start_onto =
    in_turn
    (copy_onto Frame Zero ∷ hole_onto First kind.Regions 0 ∷ ld_onto First First (pos 16) ∷ copy_onto Value Top ∷ copy_onto Caller Zero
    ∷ ld_onto Table First (pos 16) ∷ ld_onto First First (pos 0) ∷ jalr_onto Back First (pos 0) ∷ service_onto (pos 0) ∷ [])

-- Traps: two words for each, and what they have in common.
abbrev pub trap_row_onto : ℕ → Trap → Onto
trap_row_onto raise t = in_turn (addi_onto First Zero (trap_distance t (pos 24) (pos 16)) ∷ go_onto raise ∷ [])

abbrev pub trap_rows_onto : ℕ → List Trap → Onto
trap_rows_onto raise [] w = w
trap_rows_onto raise (t ∷ ts) w = trap_rows_onto raise ts (trap_row_onto raise t w)

abbrev pub raising_trap_onto : ℕ → Onto
raising_trap_onto raise =
    in_turn
    (placed raise ∷ hole_onto Second kind.Regions 0 ∷ three_onto op.Add Second Second First ∷ ld_onto Value Second (pos 0) ∷ addi_onto Words Second (pos 8)
    ∷ part_onto First part.Search ∷ jalr_onto Zero First (pos 0) ∷ [])

abbrev pub traps_onto : Onto
traps_onto w = in_turn (fresh ∷ trap_rows_onto (length w.labels) TRAPS ∷ raising_trap_onto (length w.labels) ∷ []) w

-- Objects of type any.
abbrev pub own_type_onto : Onto
own_type_onto =
    in_turn
    (go_unless_onto op.Beq Value Zero 0 ∷ copy_onto Value Words ∷ jalr_onto Zero Second (pos 0) ∷ placed 0 ∷ imm_onto op.Andi A2 Value (pos 1)
    ∷ go_unless_onto op.Bne A2 Zero 1 ∷ ld_onto Value Words (pos 8) ∷ placed 1 ∷ [])

abbrev pub pair_onto : Onto
pair_onto =
    in_turn
    (addi_onto T3 Zero (pos 16) ∷ three_onto op.Sub A2 StoreEnd Store ∷ service_unless_onto op.Bgeu A2 T3 (pos 2) ∷ sd_onto Value Store (pos 0)
    ∷ sd_onto Words Store (pos 8) ∷ copy_onto Value Store ∷ addi_onto Store Store (pos 16) ∷ jalr_onto Zero Second (pos 0) ∷ [])

abbrev pub binding_onto : Onto
binding_onto = in_turn (own_type_onto ∷ pair_onto ∷ [])

-- Routines without a frame.
abbrev pub answer_onto : Part → Onto
answer_onto p = in_turn (onto_of p (unbound true) ∷ put_onto (at_of p (unbound true)) Value ∷ [])

abbrev pub deed_onto : WDeed → Onto
deed_onto (deed.Value given) = answer_onto (part_of (expr_of given))
deed_onto (deed.Put address bytes given) = store_onto (part_of (expr_of address)) (pos bytes) (part_of (expr_of given)) (unbound true)

abbrev pub followed_onto : WDeed → Onto
followed_onto d = in_turn (deed_onto d ∷ copy_onto Table Caller ∷ jalr_onto Zero Back (pos 0) ∷ [])
