-- What is asked of the code of a routine, and of the machine of flat code, so that its words can do its steps.
use Rattle.std.specs.Prelude.{◌≡◌, ℕ, zero, suc, ◌+◌, ◌-◌, ◌<◌, ◌^◌, ◌==◌, Bool, true, false, not, ◌&&◌, ◌||◌, List, [], ◌∷◌, drop, length, nat_lt, nat_le, slice_get, Option, Some, None}
use Rattle.clu_wir.specs.Numbers.{primitives}
use Rattle.clu_wir.specs.Plain.{Expr, Exprs}
use Rattle.clu_wir.specs.Plain as tree
use Rattle.clu_wir.specs.declared.primitive.Primitive.{Primitive}
use Rattle.clu_wir.specs.declared.primitive.Primitive.TheVariants as primitive
use Rattle.clu_frames.specs.Plain.{Step}
use Rattle.clu_frames.specs.Plain as flat
use Rattle.clu_flat_meaning.specs.Image.{Body, Entry, Image, at_step}
use Rattle.clu_flat_meaning.specs.Machine.{Machine, number_at, place_of}
use Rattle.laws_selection.specs.Sized.{is_sized}
use Rattle.laws_selection.specs.Standing.{Standing}
use Rattle.rv_machine.specs.State.{State}

-- Slots of the frame alone.

abbrev mutual
  pub is_inside : ℕ → Expr → Bool
  is_inside frame (tree.slot n) = nat_lt n frame
  is_inside frame (tree.word n) = true
  is_inside frame (tree.hole kind n) = true
  is_inside frame (tree.load address bytes) = is_inside frame address
  is_inside frame (tree.byte address) = is_inside frame address
  is_inside frame (tree.binary o left right) = is_inside frame left && is_inside frame right
  is_inside frame (tree.choice condition first other) = is_inside frame condition && (is_inside frame first && is_inside frame other)
  is_inside frame (tree.check condition trap value) = is_inside frame condition && is_inside frame value
  is_inside frame (tree.binding values body) = are_inside frame values && is_inside frame body
  is_inside frame (tree.bound n) = true

  pub are_inside : ℕ → Exprs → Bool
  are_inside frame tree.no_exprs = true
  are_inside frame (tree.expr_and e es) = is_inside frame e && are_inside frame es

-- an expression of a frame with so many slots
abbrev pub value_fits : ℕ → Expr → Bool
value_fits frame e = is_inside frame e && is_sized e

-- the slots that a primitive takes and fills
abbrev pub slots_of : Option Primitive → ℕ
slots_of None = 0
slots_of (Some primitive.Allocate) = 1
slots_of (Some primitive.Write) = 2
slots_of (Some primitive.TakeByte) = 1
slots_of (Some primitive.PeekByte) = 1
slots_of (Some primitive.SaveByte) = 2

abbrev pub step_fits : ℕ → Step → Bool
step_fits frame (flat.Set to value) = nat_lt to frame && value_fits frame value
step_fits frame (flat.Put address bytes value) = value_fits frame address && value_fits frame value
step_fits frame (flat.Label label) = true
step_fits frame (flat.Jump label) = true
step_fits frame (flat.Branch condition sense label) = value_fits frame condition
step_fits frame (flat.Enter arguments) = nat_le arguments frame
step_fits frame (flat.Bind number value to) = value_fits frame number && (value_fits frame value && nat_lt to frame)
step_fits frame (flat.Invoke routine slot) = value_fits frame routine && nat_le slot frame
step_fits frame (flat.Yield slot count) = nat_le slot frame
step_fits frame (flat.Resume slot) = nat_lt slot frame
step_fits frame (flat.Take to) = nat_lt to frame
step_fits frame (flat.Result to number) = nat_lt to frame
step_fits frame (flat.Cut mark) = nat_lt mark (4 + frame)
step_fits frame (flat.Leave slot zero) = true
step_fits frame (flat.Leave slot (suc zero)) = nat_lt slot frame
step_fits frame (flat.Leave slot (suc (suc more))) = nat_le slot frame
step_fits frame (flat.Raise slot) = nat_lt slot frame
step_fits frame (flat.Signal slot) = nat_lt slot frame
step_fits frame flat.Pass = true
step_fits frame (flat.Prim number slot) = nat_le (slot + slots_of (slice_get primitives number)) frame

-- What travels from one place to another: a value, and the address of words.
pub data Travels : Type 0 where
  the_value the_words : Travels

abbrev pub is_value : Travels → Bool
is_value the_value = true
is_value the_words = false

-- it is read from here on before a step gives another
abbrev pub is_read : Travels → List Step → Bool
is_read t [] = false
is_read t (flat.Take to ∷ rest) = is_value t || is_read t rest
is_read t (flat.Result to number ∷ rest) = not (is_value t) || is_read t rest
is_read t (flat.Enter arguments ∷ rest) = is_value t
is_read t (flat.Pass ∷ rest) = true
is_read t (flat.Set to value ∷ rest) = is_read t rest
is_read t (flat.Put address bytes value ∷ rest) = is_read t rest
is_read t (flat.Label label ∷ rest) = is_read t rest
is_read t (flat.Cut mark ∷ rest) = is_read t rest
is_read t (flat.Branch condition sense label ∷ rest) = is_read t rest
is_read t _ = false

-- at the place of a label
abbrev pub is_read_at : Travels → List Step → ℕ → Bool
is_read_at t code label = is_read t (drop (place_of code label) code)

-- it isn't read after a step that leaves other words in these registers, nor where a jump goes
abbrev pub goes_unread : Travels → List Step → Step → List Step → Bool
goes_unread t code (flat.Prim number slot) rest = not (is_read t rest)
goes_unread t code (flat.Bind number value to) rest = not (is_read t rest)
goes_unread t code (flat.Enter arguments) rest = not (is_read t rest)
goes_unread t code (flat.Jump label) rest = not (is_read_at t code label)
goes_unread t code (flat.Branch condition sense label) rest = not (is_read_at t code label)
goes_unread t code _ rest = true

-- results of so many give it
abbrev pub is_left : ℕ → Travels → Bool
is_left zero t = false
is_left (suc zero) t = is_value t
is_left (suc (suc n)) t = not (is_value t)

abbrev pub is_enter : Step → Bool
is_enter (flat.Enter arguments) = true
is_enter _ = false

abbrev pub is_label_of : ℕ → Option Step → Bool
is_label_of label (Some (flat.Label n)) = n == label
is_label_of label _ = false

-- a label that a step names is placed
abbrev pub is_labelled : List Step → Step → Bool
is_labelled code (flat.Jump label) = is_label_of label (slice_get code (place_of code label))
is_labelled code (flat.Branch condition sense label) = is_label_of label (slice_get code (place_of code label))
is_labelled code _ = true

abbrev pub is_step : Option Entry → Bool
is_step (Some (at_step body step)) = true
is_step _ = false

-- The code of a routine fits its frame.
pub record Fits (b : Body) : Type 0 where
  pub frame : b.frame < 2 ^ 28
  pub step : (n : ℕ) (step : Step) → slice_get b.code n ≡ Some step → step_fits b.frame step ≡ true
  -- labels are numbered from 0 and stand once
  pub numbered : (n label : ℕ) → slice_get b.code n ≡ Some (flat.Label label) → label < length b.code
  pub once : (n k label : ℕ) → slice_get b.code n ≡ Some (flat.Label label) → slice_get b.code k ≡ Some (flat.Label label) → n ≡ k
  pub labelled : (n : ℕ) (step : Step) → slice_get b.code n ≡ Some step → is_labelled b.code step ≡ true
  -- a routine makes its frame first, and then no more
  pub begins : (step : Step) → slice_get b.code 0 ≡ Some step → is_enter step ≡ true
  pub enters : (n : ℕ) (step : Step) → slice_get b.code n ≡ Some step → is_enter step ≡ true → n ≡ 0
  pub unread : (t : Travels) (n : ℕ) (step : Step) → slice_get b.code n ≡ Some step →
      goes_unread t b.code step (drop (suc n) b.code) ≡ true

-- What runs of flat code keep, by laws on such runs.
pub record Lawful (image : Image) (m : State) (standing : Standing image m) (c : Machine) : Type 0 where
  -- the running instance is one of the image
  pub instance : standing.is_instance c.who.body c.who.table ≡ true
  -- where a routine was called, what travels is read only if its results gave it
  pub left : (b other : Body) (slot count number step : ℕ) → image.body c.who.body ≡ Some b →
      slice_get b.code c.pc ≡ Some (flat.Leave slot count) → image.entry (c.stack c.fp) ≡ Some (at_step number step) →
      image.body number ≡ Some other → (t : Travels) → is_left count t ≡ false → is_read t (drop step other.code) ≡ false
  -- where an iterator yielded, nothing that travels is read
  pub resumed : (b other : Body) (slot number step : ℕ) → image.body c.who.body ≡ Some b →
      slice_get b.code c.pc ≡ Some (flat.Resume slot) →
      image.entry (c.stack (number_at (c.stack (c.fp + 4 + slot)) - 3)) ≡ Some (at_step number step) →
      image.body number ≡ Some other → (t : Travels) → is_read t (drop step other.code) ≡ false
  -- no frame is round the first call
  pub outer : is_step (image.entry (c.stack c.fp)) ≡ false → c.stack (c.fp + 1) ≡ 0
