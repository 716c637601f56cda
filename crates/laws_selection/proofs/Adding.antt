-- What each step adds, but for labels.
use Rattle.std.proofs.Common.{◌≡◌, ℕ, zero, suc, ℤ, pos, ◌^◌, ◌<◌, ◌==◌, Bool, true, false, length, slice_get, Option, Some, None, arith}
use Rattle.std.specs.Prelude.{◌&&◌, if◌then◌else◌, nat_lt, nat_le}
use Rattle.clu_wir.specs.Numbers.{primitives}
use Rattle.clu_wir.specs.Plain.{Expr}
use Rattle.clu_wir.specs.Value.{View}
use Rattle.clu_wir.specs.declared.hole.HoleKind.{HoleKind}
use Rattle.clu_wir.specs.declared.hole.HoleKind.TheVariants as kind
use Rattle.clu_wir.specs.declared.primitive.Primitive.{Primitive}
use Rattle.clu_wir.specs.declared.primitive.Primitive.TheVariants as primitive
use Rattle.clu_wir.specs.declared.trap.Trap.{Trap}
use Rattle.clu_frames.specs.Plain.{Step}
use Rattle.clu_frames.specs.Plain as flat
use Rattle.rv_isa.specs.declared.op.Op.{Op}
use Rattle.rv_isa.specs.declared.op.Op.TheVariants as op
use Rattle.rv_select.specs.declared.operand.Operand.{Operand}
use Rattle.rv_select.specs.declared.operand.Operand.TheVariants.{At as In, Known}
use Rattle.rv_select.specs.declared.operand.Scope.{Scope}
use Rattle.rv_select.specs.declared.parts.Part.{Part}
use Rattle.rv_select.specs.declared.parts.Part.TheVariants as part
use Rattle.rv_select.specs.declared.register.Register.{Register}
use Rattle.rv_select.specs.declared.register.Register.TheVariants as name
use Rattle.rv_select.specs.Conditions.{far}
use Rattle.rv_select.specs.Evaluation.{at_of, in_register_at, in_register_onto, jump_of, onto_of, part_of, right_scope}
use Rattle.rv_select.specs.Operands.{free, put_onto, register_onto, unbound}
use Rattle.rv_select.specs.Parts.{part_number}
use Rattle.rv_select.specs.Registers.{register_number}
use Rattle.rv_select.specs.Selection.{beside, bind_onto, invoke_onto, set_onto, step_onto, store_onto}
use Rattle.rv_select.specs.Slots.{address_at_onto, load_at_onto, next_slot, save_at_onto, slot_distance, word_distance}
use Rattle.rv_select.specs.Steps.{argument_onto, arguments_onto, caller_onto, enter_onto, exception_onto, left_onto, numbered_onto, part_onto, pass_onto, primitive_onto, read_onto, results_onto, resume_onto, room_onto, yield_onto, yielded_onto}
use Rattle.rv_select.specs.Written.{Onto, Written, address_onto, branch_onto, copy_onto, fresh, service_onto, unless_onto}
use Rattle.laws_selection.specs.Evaluating.{Bounded, Traps}
use Rattle.laws_selection.specs.Fitting.{step_fits, value_fits}
use Rattle.laws_selection.specs.Growing.{Adds}
use Rattle.laws_selection.specs.Running.{Code}
use Rattle.laws_selection.specs.Sized.{is_sized}
use Rattle.laws_selection.proofs.Checking.{jump_of_adds}
use Rattle.laws_selection.proofs.Combining.{register_adds}
use Rattle.laws_selection.proofs.Evaluating.{load_at_adds, near_adds}
use Rattle.laws_selection.proofs.Expressions.{evaluates}
use Rattle.laws_selection.proofs.Growing.{Stood, adds_same, adds_then, and_true, emitted_adds, fresh_adds, hole_adds, placed_adds, referred_adds, taking_adds}
use Rattle.laws_selection.proofs.Known.{number_adds, numbers}
use Rattle.laws_selection.proofs.Parts.{adds_of}

-- an expression that sees nothing
abbrev pub blind : View
blind = record { slot = λ n. None; hole = λ k n. None; word = λ a. None; byte = λ a. None }

blind_bounded : Bounded blind
blind_bounded = record { slot = λ n v e. absurd (cc); hole = λ k n v e. absurd (cc); word = λ a v e. absurd (cc); byte = λ a v e. absurd (cc) }

pub after : {u w v : Written} → Adds u w → Adds w v → Adds u v
after {u} {w} {v} a b = adds_then u w v a b

abbrev Adding : Onto → Type 0
Adding onto = (w : Written) → Adds w (onto w)

pub put_adds : (o : Operand) (to : Register) (w : Written) → Adds w (put_onto o to w)
unfolding put_onto
put_adds (In r) to w = by (register_number r == register_number to)
  where
    by : (b : Bool) → Adds w (if b then w else copy_onto to r w)
    by true = adds_same w
    by false = emitted_adds _ w
put_adds (Known n) to w = number_adds to n w

pub service_adds : (number : ℤ) → Adding (service_onto number)
service_adds number w = after (emitted_adds _ w) (emitted_adds _ _)

pub unless_adds : (o : Op) (a b : Register) (onto : Onto) → Adding onto → Adding (unless_onto o a b onto)
unless_adds o a b onto adds w =
    let l = length w.labels in
    let w1 = fresh w in
    let w2 = branch_onto o a b l w1 in
    placed_adds w (onto w2) l (after (fresh_adds w) (after (referred_adds _ l w1) (adds w2))) (omega arith)

pub address_onto_adds : (to : Register) (label : ℕ) → Adding (address_onto to label)
address_onto_adds to label w = after (emitted_adds _ w) (referred_adds _ label _)

pub room_adds : Adding room_onto
room_adds w = unless_adds op.Bgeu name.StackEnd name.Second (service_onto (pos 3)) (service_adds (pos 3)) w

pub part_adds : (to : Register) (p : Part) → Adding (part_onto to p)
part_adds to p w = hole_adds to kind.Runtime (part_number p) w

pub caller_adds : Adding caller_onto
caller_adds w = after (emitted_adds _ w) (emitted_adds _ _)

pub left_adds : (to : Register) → Adding (left_onto to)
left_adds to w = after (emitted_adds _ w) (after (emitted_adds _ _) (after (caller_adds _) (emitted_adds _ _)))

module _ (code : Code) (base : ℕ) (W : Written) (hole : HoleKind → ℕ → ℕ) (stands : Stood W code base hole) (trap_address : Trap → ℕ) (few : length W.code < 2 ^ 32) (traps : Traps hole trap_address) where
  pub save_adds : (from to : Register) (d : ℤ) → Adding (save_at_onto from to d)
  save_adds from to d w = after (near_adds blind code base W hole stands false to d w) (emitted_adds _ _)

  pub address_at_adds : (to from : Register) (d : ℤ) → Adding (address_at_onto to from d)
  address_at_adds to from d w = after (near_adds blind code base W hole stands false from d w) (emitted_adds _ _)

  pub load_adds : (to from : Register) (d : ℤ) → Adding (load_at_onto to from d)
  load_adds to from d w = load_at_adds blind code base W hole stands false to from d w

  pub value_adds : (e : Expr) → is_sized e ≡ true → (sc : Scope) → Adding (onto_of (part_of e) sc)
  value_adds e sized sc w = adds_of blind code base W hole stands false trap_address (part_of e) (evaluates blind code base W hole stands trap_address few blind_bounded traps e sized).good sc w

  pub into_adds : (e : Expr) (sc : Scope) (w : Written) → Adds w (register_onto (at_of (part_of e) sc) (free sc) w)
  into_adds e sc w = register_adds blind code base W hole stands false (numbers blind code base W hole stands false) number_adds (at_of (part_of e) sc) (free sc) w

  pub in_register_adds : (e : Expr) → is_sized e ≡ true → (sc : Scope) → Adding (in_register_onto (part_of e) sc)
  in_register_adds e sized sc w = after (value_adds e sized sc w) (after (taking_adds sc _) (into_adds e sc _))

  pub branch_adds : (e : Expr) → is_sized e ≡ true → (sense : Bool) (label : ℕ) (sc : Scope) → Adding (jump_of (part_of e) sense (far label) sc)
  branch_adds e sized sense label sc w = jump_of_adds blind code base W hole stands trap_address few (part_of e) (evaluates blind code base W hole stands trap_address few blind_bounded traps e sized).jumps sense (far label) sc w

  pub set_adds : (to : ℕ) (e : Expr) → is_sized e ≡ true → (sc : Scope) → Adding (set_onto to (part_of e) sc)
  set_adds to e sized sc w = after (in_register_adds e sized sc w) (save_adds (in_register_at (part_of e) sc) name.Frame (slot_distance to) _)

  pub store_adds : (address : Expr) (distance : ℤ) (e : Expr) → is_sized address ≡ true → is_sized e ≡ true → (sc : Scope) → Adding (store_onto (part_of address) distance (part_of e) sc)
  store_adds address distance e sized sized' sc w =
      after (in_register_adds e sized' sc w) (after (in_register_adds address sized (beside (part_of e) sc) _)
      (save_adds (in_register_at (part_of e) sc) (in_register_at (part_of address) (beside (part_of e) sc)) distance _))

  bind_adds : (number e : Expr) → is_sized number ≡ true → is_sized e ≡ true → (to : ℕ) (sc : Scope) → Adding (bind_onto (part_of number) (part_of e) to sc)
  bind_adds number e sized sized' to sc w =
      after (value_adds number sized sc w) (after (value_adds e sized' (right_scope (part_of number) sc) _)
      (after (put_adds (at_of (part_of number) sc) name.Value _) (after (put_adds (at_of (part_of e) (right_scope (part_of number) sc)) name.Words _)
      (after (part_adds name.First part.Bind _) (after (emitted_adds _ _) (save_adds name.Value name.Frame (slot_distance to) _))))))

  invoke_adds : (e : Expr) → is_sized e ≡ true → (slot : ℕ) (sc : Scope) → Adding (invoke_onto (part_of e) slot sc)
  invoke_adds e sized slot sc w =
      after (in_register_adds e sized sc w) (after (address_at_adds name.Value name.Frame (slot_distance slot) _)
      (after (emitted_adds _ _) (after (emitted_adds _ _) (after (emitted_adds _ _) (emitted_adds _ _)))))

  pub argument_adds : (n : ℕ) → Adding (argument_onto n)
  argument_adds n w = after (load_adds name.First name.Value (word_distance n) w) (save_adds name.First name.Frame (slot_distance n) _)

  pub arguments_adds : (n : ℕ) → Adding (arguments_onto n)
  arguments_adds zero w = adds_same w
  arguments_adds (suc n) w = after (arguments_adds n w) (argument_adds n _)

  enter_adds : (arguments frame : ℕ) → Adding (enter_onto arguments frame)
  enter_adds arguments frame w =
      after (address_at_adds name.Second name.Top (slot_distance frame) w) (after (room_adds _) (after (emitted_adds _ _) (after (emitted_adds _ _) (after (emitted_adds _ _)
      (after (emitted_adds _ _) (after (emitted_adds _ _) (after (emitted_adds _ _) (arguments_adds arguments _))))))))

  pub exception_adds : (slot : ℕ) → Adding (exception_onto slot)
  exception_adds slot w = after (load_adds name.Value name.Frame (slot_distance slot) w) (address_at_adds name.Words name.Frame (slot_distance (next_slot slot)) _)

  pub pass_adds : Adding pass_onto
  pass_adds w = after (part_adds name.First part.Search w) (left_adds name.First _)

  pub results_adds : (slot count : ℕ) → Adding (results_onto slot count)
  results_adds slot zero w = adds_same w
  results_adds slot (suc zero) w = load_adds name.Value name.Frame (slot_distance slot) w
  results_adds slot (suc (suc more)) w = address_at_adds name.Words name.Frame (slot_distance slot) w

  yielded_adds : (slot count : ℕ) → Adding (yielded_onto slot count)
  yielded_adds slot zero w = adds_same w
  yielded_adds slot (suc more) w = address_at_adds name.Words name.Frame (slot_distance slot) w

  yield_adds : (slot count : ℕ) → Adding (yield_onto slot count)
  yield_adds slot count w =
      placed_adds w _ (length w.labels)
      (after (fresh_adds w) (after (emitted_adds _ _) (after (room_adds _) (after (yielded_adds slot count _) (after (address_onto_adds name.First (length w.labels) _)
      (after (emitted_adds _ _) (after (emitted_adds _ _) (after (emitted_adds _ _) (after (emitted_adds _ _) (after (emitted_adds _ _) (after (emitted_adds _ _)
      (after (caller_adds _) (emitted_adds _ _)))))))))))))
      (omega arith)

  resume_adds : (slot : ℕ) → Adding (resume_onto slot)
  resume_adds slot w =
      after (load_adds name.First name.Frame (slot_distance slot) w) (after (emitted_adds _ _) (after (emitted_adds _ _) (after (emitted_adds _ _) (after (emitted_adds _ _) (emitted_adds _ _)))))

  read_adds : (service : ℤ) (slot : ℕ) → Adding (read_onto service slot)
  read_adds service slot w = after (service_adds service w) (save_adds name.Value name.Frame (slot_distance slot) _)

  primitive_adds : (p : Primitive) (slot : ℕ) → Adding (primitive_onto p slot)
  primitive_adds primitive.Allocate slot w =
      after (load_adds name.First name.Frame (slot_distance slot) w) (after (emitted_adds _ _) (after (emitted_adds _ _)
      (after (unless_adds op.Bgeu name.Second name.First (service_onto (pos 2)) (service_adds (pos 2)) _)
      (after (save_adds name.Store name.Frame (slot_distance slot) _) (after (emitted_adds _ _) (emitted_adds _ _))))))
  primitive_adds primitive.Write slot w =
      after (load_adds name.Value name.Frame (slot_distance slot) w) (after (load_adds name.Words name.Frame (slot_distance (next_slot slot)) _) (service_adds (pos 4) _))
  primitive_adds primitive.TakeByte slot w = read_adds (pos 5) slot w
  primitive_adds primitive.PeekByte slot w = read_adds (pos 6) slot w
  primitive_adds primitive.SaveByte slot w =
      after (load_adds name.First name.Frame (slot_distance slot) w) (after (load_adds name.Second name.Frame (slot_distance (next_slot slot)) _) (emitted_adds _ _))

  numbered_adds : (o : Option Primitive) (slot : ℕ) → Adding (numbered_onto o slot)
  numbered_adds None slot w = adds_same w
  numbered_adds (Some p) slot w = primitive_adds p slot w

  -- whether labels other than its own stay as they are
  abbrev pub AddsUnless : ℕ → Step → Written → Type 0
  AddsUnless frame (flat.Label label) w = Unit {0}
  AddsUnless frame step w = Adds w (step_onto frame step w)

  sized_in : (frame : ℕ) (e : Expr) → value_fits frame e ≡ true → is_sized e ≡ true
  sized_in frame e h = (and_true _ (is_sized e) h).1

  pub step_adds : (frame : ℕ) (step : Step) (w : Written) → step_fits frame step ≡ true → AddsUnless frame step w
  step_adds frame (flat.Set to e) w h = set_adds to e (sized_in frame e (and_true (nat_lt to frame) (value_fits frame e) h).1) (unbound false) w
  step_adds frame (flat.Put address distance e) w h =
      let both = and_true (value_fits frame address) (value_fits frame e) h in
      store_adds address distance e (sized_in frame address both.0) (sized_in frame e both.1) (unbound false) w
  step_adds frame (flat.Label label) w h = tt
  step_adds frame (flat.Jump label) w h = referred_adds _ label w
  step_adds frame (flat.Branch e sense label) w h = branch_adds e (sized_in frame e h) sense label (unbound false) w
  step_adds frame (flat.Enter arguments) w h = enter_adds arguments frame w
  step_adds frame (flat.Bind number e to) w h =
      let both = and_true (value_fits frame number) (value_fits frame e && nat_lt to frame) h in
      bind_adds number e (sized_in frame number both.0) (sized_in frame e (and_true (value_fits frame e) (nat_lt to frame) both.1).0) to (unbound false) w
  step_adds frame (flat.Invoke e slot) w h = invoke_adds e (sized_in frame e (and_true (value_fits frame e) (nat_le slot frame) h).0) slot (unbound false) w
  step_adds frame (flat.Yield slot count) w h = yield_adds slot count w
  step_adds frame (flat.Resume slot) w h = resume_adds slot w
  step_adds frame (flat.Take to) w h = save_adds name.Value name.Frame (slot_distance to) w
  step_adds frame (flat.Result to number) w h = after (load_adds name.First name.Words (word_distance number) w) (save_adds name.First name.Frame (slot_distance to) _)
  step_adds frame (flat.Cut mark) w h = load_adds name.Top name.Frame (word_distance mark) w
  step_adds frame (flat.Leave slot count) w h = after (results_adds slot count w) (left_adds name.Back _)
  step_adds frame (flat.Raise slot) w h = after (exception_adds slot w) (after (part_adds name.First part.Search _) (emitted_adds _ _))
  step_adds frame (flat.Signal slot) w h = after (exception_adds slot w) (pass_adds _)
  step_adds frame flat.Pass w h = pass_adds w
  step_adds frame (flat.Prim number slot) w h = numbered_adds (slice_get primitives number) slot w
