-- What each step of flat code becomes.
use Rattle.std.specs.Prelude.{ℕ, ℤ, pos, false, [], ◌∷◌, slice_get}
use Rattle.clu_wir.specs.Numbers.{primitives}
use Rattle.clu_frames.specs.Plain.{Step}
use Rattle.clu_frames.specs.Plain as flat
use Rattle.rv_select.specs.declared.operand.Operand.TheVariants.{At}
use Rattle.rv_select.specs.declared.operand.Scope.{Scope}
use Rattle.rv_select.specs.declared.parts.Part.TheVariants as part
use Rattle.rv_select.specs.declared.register.Register.TheVariants.{Back, Caller, First, Second, Table, Value, Words}
use Rattle.rv_select.specs.Conditions.{far}
use Rattle.rv_select.specs.Evaluation.{Part, at_of, in_register_at, in_register_onto, jump_of, onto_of, part_of, right_scope}
use Rattle.rv_select.specs.Operands.{keeping, put_onto, unbound}
use Rattle.rv_select.specs.Slots.{save_at_onto, save_slot_onto, slot_address_onto}
use Rattle.rv_select.specs.Steps.{cut_onto, enter_onto, leave_onto, numbered_onto, part_onto, pass_onto, raise_onto, result_onto, resume_onto, signal_onto, take_onto, yield_onto}
use Rattle.rv_select.specs.Written.{Onto, copy_onto, go_onto, in_turn, jalr_onto, ld_onto, placed}

abbrev pub set_onto : ℕ → Part → Scope → Onto
set_onto to word s = in_turn (in_register_onto word s ∷ save_slot_onto (in_register_at word s) to ∷ [])

abbrev pub beside : Part → Scope → Scope
beside word s = keeping (At (in_register_at word s)) s

-- the word is evaluated before its address
abbrev pub store_onto : Part → ℤ → Part → Scope → Onto
store_onto address distance word s =
    in_turn
    (in_register_onto word s ∷ in_register_onto address (beside word s)
    ∷ save_at_onto (in_register_at word s) (in_register_at address (beside word s)) distance ∷ [])

abbrev pub bind_onto : Part → Part → ℕ → Scope → Onto
bind_onto number word to s =
    in_turn
    (onto_of number s ∷ onto_of word (right_scope number s) ∷ put_onto (at_of number s) Value ∷ put_onto (at_of word (right_scope number s)) Words
    ∷ part_onto First part.Bind ∷ jalr_onto Second First (pos 0) ∷ save_slot_onto Value to ∷ [])

abbrev pub invoke_onto : Part → ℕ → Scope → Onto
invoke_onto routine slot s =
    in_turn
    (in_register_onto routine s ∷ slot_address_onto Value slot ∷ copy_onto Caller Table ∷ ld_onto Table (in_register_at routine s) (pos 16)
    ∷ ld_onto First (in_register_at routine s) (pos 0) ∷ jalr_onto Back First (pos 0) ∷ [])

-- a step of a routine whose frame has so many slots
abbrev pub step_onto : ℕ → Step → Onto
step_onto frame (flat.Set to value) w = set_onto to (part_of value) (unbound false) w
step_onto frame (flat.Put address distance value) w = store_onto (part_of address) distance (part_of value) (unbound false) w
step_onto frame (flat.Label label) w = placed label w
step_onto frame (flat.Jump label) w = go_onto label w
step_onto frame (flat.Branch condition sense label) w = jump_of (part_of condition) sense (far label) (unbound false) w
step_onto frame (flat.Enter arguments) w = enter_onto arguments frame w
step_onto frame (flat.Bind number value to) w = bind_onto (part_of number) (part_of value) to (unbound false) w
step_onto frame (flat.Invoke routine slot) w = invoke_onto (part_of routine) slot (unbound false) w
step_onto frame (flat.Yield slot count) w = yield_onto slot count w
step_onto frame (flat.Resume slot) w = resume_onto slot w
step_onto frame (flat.Take to) w = take_onto to w
step_onto frame (flat.Result to number) w = result_onto to number w
step_onto frame (flat.Cut mark) w = cut_onto mark w
step_onto frame (flat.Leave slot count) w = leave_onto slot count w
step_onto frame (flat.Raise slot) w = raise_onto slot w
step_onto frame (flat.Signal slot) w = signal_onto slot w
step_onto frame flat.Pass w = pass_onto w
step_onto frame (flat.Prim number slot) w = numbered_onto (slice_get primitives number) slot w
