-- What the machine has where an expression is evaluated, and where its words lead.
use Rattle.std.specs.Prelude.{◌≡◌, ◌≢◌, ℕ, suc, ℤ, pos, ◌-◌, ◌%◌, ◌^◌, ◌<◌, ◌≤◌, ◌==◌, Bool, not, if◌then◌else◌, true, false, List, length, slice_get, Some}
use Rattle.std.specs.Int.{w64, w8}
use Rattle.clu_wir.specs.declared.hole.HoleKind.{HoleKind}
use Rattle.clu_wir.specs.declared.hole.HoleKind.TheVariants as kind
use Rattle.clu_wir.specs.declared.trap.Trap.{Trap}
use Rattle.rv_machine.specs.State.{State, read_at, register}
use Rattle.rv_machine.specs.Values.{sum, unsigned}
use Rattle.rv_select.specs.declared.operand.Operand.{Operand}
use Rattle.rv_select.specs.declared.operand.Operand.TheVariants.{At as In, Known}
use Rattle.rv_select.specs.declared.operand.Scope.{Scope}
use Rattle.rv_select.specs.declared.register.Register.{Register}
use Rattle.rv_select.specs.declared.register.Register.TheVariants as name
use Rattle.rv_select.specs.declared.parts.TheConstants.{TRAP_ENTRY}
use Rattle.rv_select.specs.Evaluation.{same as as_told, trap_distance}
use Rattle.rv_select.specs.Registers.{register_number}
use Rattle.rv_select.specs.Slots.{slot_distance, word_distance}
use Rattle.rv_select.specs.Written.{Written}
use Rattle.clu_wir.specs.Value.{Gives, Raises, Stuck, Value, View}
use Rattle.laws_selection.specs.Registers.{is_far, stays}
use Rattle.laws_selection.specs.Running.{Code, Done, Reaches, Same}
use Rattle.laws_selection.specs.Growing.{Sound, address}

-- where a slot is
abbrev pub slot_base : Bool → Register
slot_base true = name.Value
slot_base false = name.Frame

abbrev pub slot_at : Bool → ℕ → ℤ
slot_at true n = word_distance n
slot_at false n = slot_distance n

-- what the linker knows is the number of the hole itself, the address of a cell of the link table, or in a cell
abbrev pub IsCell : HoleKind → ℕ → State → ℕ → Type 0
IsCell kind.Regions hole s v = hole ≡ v
IsCell kind.Runtime hole s v = hole ≡ v
IsCell kind.Code hole s v = hole ≡ v
IsCell kind.TypeCell hole s v = sum hole (register s 9) ≡ v
IsCell _ hole s v = read_at w64 s (sum hole (register s 9)) ≡ Some v

-- what is seen is words and bytes
pub record Bounded (view : View) : Type 0 where
  pub slot : (n v : ℕ) → view.slot n ≡ Some v → v < 2 ^ 64
  pub hole : (kind : HoleKind) (n v : ℕ) → view.hole kind n ≡ Some v → v < 2 ^ 64
  pub word : (n v : ℕ) → view.word n ≡ Some v → v < 2 ^ 64
  pub byte : (n v : ℕ) → view.byte n ≡ Some v → v < 2 ^ 8

-- where the part that raises traps is entered
pub record Traps (hole : HoleKind → ℕ → ℕ) (trap_address : Trap → ℕ) : Type 0 where
  pub aligned : (t : Trap) → (trap_address t % 4 == 0) ≡ true
  pub lands : (t : Trap) → (let a = sum (hole kind.Runtime 3) (unsigned (trap_distance t (pos 0) TRAP_ENTRY)) in a - a % 2) ≡ trap_address t

-- the machine has what the expression sees
pub record Sees (view : View) (image : Code) (hole : HoleKind → ℕ → ℕ) (is_leaf : Bool) (s : State) : Type 0 where
  pub code : s.code ≡ image
  pub registers : length s.registers ≡ 32
  pub zero : register s 0 ≡ 0
  pub slot : (n v : ℕ) → view.slot n ≡ Some v → read_at w64 s (sum (register s (register_number (slot_base is_leaf))) (unsigned (slot_at is_leaf n))) ≡ Some v
  pub word : (a v : ℕ) → view.word a ≡ Some v → read_at w64 s a ≡ Some v
  pub byte : (a v : ℕ) → view.byte a ≡ Some v → read_at w8 s a ≡ Some v
  pub cell : (kind : HoleKind) (number v : ℕ) → view.hole kind number ≡ Some v → IsCell kind (hole kind number) s v

-- the machine comes to what is written next
pub record Here (view : View) (image : Code) (base : ℕ) (hole : HoleKind → ℕ → ℕ) (is_leaf : Bool) (w : Written) (s : State) : Type 0 where
  pub sound : Sound w
  pub pc : s.pc ≡ address base (length w.code)
  pub sees : Sees view image hole is_leaf s

abbrev pub HoldsWord : Operand → State → ℕ → Type 0
HoldsWord (In r) s n = register s (register_number r) ≡ n
HoldsWord (Known k) s n = k ≡ n

-- an operand is in a register that may be kept, or known
abbrev pub IsPlaced : Operand → Type 0
IsPlaced (In r) = is_far r ≡ false
IsPlaced (Known k) = k < 2 ^ 64

-- the words that are bound are where the scope says
pub record Scoped (is_leaf : Bool) (sc : Scope) (bound : List ℕ) (s : State) : Type 0 where
  pub leaf : sc.is_leaf ≡ is_leaf
  pub small : (n v : ℕ) → slice_get bound n ≡ Some v → v < 2 ^ 64
  pub placed : (n : ℕ) (o : Operand) → slice_get sc.bound n ≡ Some o → IsPlaced o
  pub held : (n v : ℕ) → slice_get bound n ≡ Some v →
      (o : Operand) × (slice_get sc.bound n ≡ Some o) × HoldsWord o s v × IsPlaced o × ((r : Register) → o ≡ In r → stays sc.kept r ≡ true)

-- the machine goes on behind what was written, with a word where it is said, and leaves the rest
pub record Gave (view : View) (image : Code) (base : ℕ) (hole : HoleKind → ℕ → ℕ) (is_leaf : Bool) (kept : ℕ) (v : Written) (s : State) (o : Operand) (n : ℕ) : Type 0 where
  pub state : State
  pub reaches : Reaches s state
  pub here : Here view image base hole is_leaf v state
  pub done : Done kept s state
  pub holds : HoldsWord o state n
  pub placed : IsPlaced o

-- the machine is where a trap is raised, and the return address is behind one of the words that were written
pub record Raised (base : ℕ) (trap_address : Trap → ℕ) (w v : Written) (s : State) (trap : Trap) : Type 0 where
  pub state : State
  pub reaches : Reaches s state
  pub same : Same s state
  pub stays : (r : Register) → stays 0 r ≡ true → register_number r ≢ 1 → register state (register_number r) ≡ register s (register_number r)
  pub pc : state.pc ≡ trap_address trap
  pub word : ℕ
  pub low : length w.code ≤ word
  pub high : word < length v.code
  pub back : register state 1 ≡ address base (suc word)

-- what a word of the meaning is on the machine
abbrev pub Outcome : View → Code → ℕ → (HoleKind → ℕ → ℕ) → Bool → (Trap → ℕ) → ℕ → Written → Written → State → Operand → Value → Type 0
Outcome view image base hole is_leaf trap_address kept w v s o (Gives n) = Gave view image base hole is_leaf kept v s o n
Outcome view image base hole is_leaf trap_address kept w v s o (Raises t) = Raised base trap_address w v s t
Outcome view image base hole is_leaf trap_address kept w v s o Stuck = Unit {0}

-- Conditions.

abbrev pub is_so : ℕ → Bool
is_so n = not (n == 0)

-- at the place of a label where so, else behind what was written
pub record Went (view : View) (image : Code) (base : ℕ) (hole : HoleKind → ℕ → ℕ) (is_leaf : Bool) (kept : ℕ) (v : Written) (s : State) (so : Bool) (place : ℕ) : Type 0 where
  pub state : State
  pub reaches : Reaches s state
  pub done : Done kept s state
  pub sees : Sees view image hole is_leaf state
  pub pc : state.pc ≡ address base (if so then place else length v.code)

-- what a jump on a word of the meaning is on the machine
abbrev pub Turned : View → Code → ℕ → (HoleKind → ℕ → ℕ) → (Trap → ℕ) → ℕ → Written → Written → State → Bool → ℕ → Value → Type 0
Turned view image base hole trap_address kept w v s sense place (Gives c) = Went view image base hole false kept v s (as_told sense (is_so c)) place
Turned view image base hole trap_address kept w v s sense place (Raises t) = Raised base trap_address w v s t
Turned view image base hole trap_address kept w v s sense place Stuck = Unit {0}
