-- What code that makes or changes a mutable object by steps does beside what the operation does.
use Rattle.std.specs.Prelude.{◌≡◌, ℕ, ◌+◌, ◌*◌, ◌^◌, ◌<◌, ◌≤◌, List, [], ◌∷◌, ◌++◌, length, Some, codes}
use Rattle.clu_types.specs.CluType.{CluType, CluTypes, Fields, no_types, type_and, array_of, variant_of}
use Rattle.clu_builtin.specs.Table.{operation}
use Rattle.clu_layout.specs.Objects.{Cell, Object}
use Rattle.clu_layout.specs.Actions.{World, Outcome, returned, signalled, wrong}
use Rattle.clu_layout.specs.Primitive.{prim}
use Rattle.clu_wir.specs.Plain.{Expr, Stmt, Stmts, binary, leave_with, load, no_stmts, put, slot, stmt_and, stmts_of, word}
use Rattle.clu_wir.specs.declared.expression.WOp.TheVariants as op
use Rattle.clu_wir.specs.declared.hole.HoleKind.TheVariants as kind
use Rattle.clu_wir.specs.Plain as plain
use Rattle.clu_word_meaning.specs.Words.{Linked, State, ended, exec_all, view}
use Rattle.clu_word_meaning.specs.Words as meaning
use Rattle.clu_representation.specs.Layout.{Extends, Image, Layout, of_cell}
use Rattle.clu_representation.specs.Held.{Heap}
use Rattle.clu_representation.specs.Shown.{Bare, IsString, place_of_field, type_of_field}
use Rattle.clu_representation.specs.Stored.{Stored}
use Rattle.laws_operations.specs.Comes.{InSlots, Untouched}
use Rattle.laws_operations.specs.Rows.{args_of, results_of}
use Rattle.laws_operations.specs.Steps.{HasRoom, Made, Place, StepRow}

-- Each word of a cell is of a cell that there is, so that a new one has no word yet. Each operation here leaves it so.
abbrev pub AreThere : Layout → List Cell → Type 0
AreThere map cells = (a c : ℕ) → map.owner a ≡ of_cell c → c < length cells

-- ---- an exception is signalled

-- the words show the objects, one each
abbrev pub Words : Image → Layout → List Object → List ℕ → Type 0
Words image map [] [] = Unit {0}
Words image map (o ∷ os) (v ∷ vs) = Bare image map o v × Words image map os vs
Words image map _ _ = ⊥

-- the code signals the exception with words that show its objects, and neither it nor the operation has changed anything
pub record Signals (image : Image) (map : Layout) (place : Place) (code : Stmts) (st : State) (name : List ℕ) (os : List Object) (w after : World) : Type 0 where
  pub used : ℕ
  pub now : State
  pub vs : List ℕ
  pub goes : (k : ℕ) → exec_all place.linked place.entries place.body place.live code (used + k) st ≡ ended (meaning.signalled name vs) k now
  pub shown : Words image map os vs
  pub world_kept : now.world ≡ st.world
  pub untouched : Untouched w after
  pub steps : now.meters.steps + 256 * w.work ≤ st.meters.steps + 256 * after.work
  pub most : now.meters.most ≡ st.meters.most

-- ---- a mutable object is made

-- the object is made, and each word of a cell is of a cell that there is
abbrev pub CellMadeOf : Image → Layout → CluTypes → Place → Stmts → State → List Object → World → World → Type 0
CellMadeOf image map (type_and t no_types) place code st (o ∷ []) w after =
    (made : Made image map t place code st o w after) × AreThere made.later after.cells
CellMadeOf image map _ place code st os w after = ⊥

abbrev pub MakesCell : Image → Layout → CluTypes → Place → Stmts → State → World → Outcome → Type 0
MakesCell image map types place code st w (returned os after) = CellMadeOf image map types place code st os w after
MakesCell image map types place code st w (signalled name os after) = Signals image map place code st name os w after
MakesCell image map types place code st w wrong = Unit {0}

-- The operation of this name of a type makes a mutable object or signals, and so does the code, in every state whose slots show its arguments.
abbrev pub MakesCellRight : CluType → StepRow → Type 0
MakesCellRight T row = (image : Image) (map : Layout) (place : Place) (os : List Object) (w : World) (st : State) (s : Stored map st.world) → Heap image map w.cells →
    AreThere map w.cells → ((n v : ℕ) → st.slots n ≡ Some v → v < 2 ^ 64) → InSlots image map (view place.linked st.slots st.world) (args_of (operation T row.name)) 0 os →
    HasRoom s.limit st w (prim T row.name os w) → MakesCell image map (results_of (operation T row.name)) place row.code st w (prim T row.name os w)

-- ---- variants: three words, the number of the tag, the word of the value, and one that is not used

abbrev pub variant_code : ℕ → Stmts
variant_code n = stmts_of (plain.prim 0 (word 3 ∷ []) (1 ∷ []) ∷ put (slot 1) 0 (word n) ∷ put (slot 1) 8 (slot 0) ∷ leave_with (slot 1 ∷ []) ∷ [])

-- make_s of variants
abbrev pub make_variant_row : Fields → List ℕ → StepRow
make_variant_row fs s = record { name = codes "make_" ++ s; code = variant_code (place_of_field fs s) }

abbrev pub MakesVariants : Type 0
MakesVariants = (fs : Fields) (s : List ℕ) (t : CluType) → type_of_field fs s ≡ Some t → place_of_field fs s < 2 ^ 64 → MakesCellRight (variant_of fs) (make_variant_row fs s)

-- ---- empty arrays: six words, of which all but the low bound are 0

abbrev pub empty_code : Expr → Stmts
empty_code low = stmts_of (plain.prim 0 (word 6 ∷ []) (1 ∷ []) ∷ put (slot 1) 0 low ∷ leave_with (slot 1 ∷ []) ∷ [])

abbrev pub new_row : StepRow
new_row = record { name = codes "new"; code = empty_code (word 1) }

-- The linker's word of a constant shows its text. Of each routine that signals a text the linker has to give it.
abbrev pub ShowsText : Linked → Layout → ℕ → List ℕ → Type 0
ShowsText linked map k text = (u : ℕ) × (linked.hole kind.Constant k ≡ Some u) × IsString map text u

-- the bounds of an array would leave the ints: the failure with this text, the constant of this number
abbrev pub out_of_range : List ℕ
out_of_range = codes "bounds out of range"

abbrev pub fails_where : Expr → ℕ → Stmt
fails_where test k = plain.choose test (stmts_of (plain.signal_name (codes "failure") (plain.hole kind.Constant k ∷ []) ∷ [])) no_stmts

-- whether an int is the least one
abbrev pub is_least : Expr → Expr
is_least low = binary op.Equal low (word (2 ^ 63))

abbrev pub create_code : ℕ → Stmts
create_code k = stmt_and (fails_where (is_least (slot 0)) k) (empty_code (slot 0))

-- an operation of this name of arrays that makes an empty one, where a constant has the text
abbrev pub CreatesAs : List ℕ → Type 0
CreatesAs name = (t : CluType) (k : ℕ) (image : Image) (map : Layout) (place : Place) (os : List Object) (w : World) (st : State) (s : Stored map st.world) → Heap image map w.cells →
    AreThere map w.cells → ((n v : ℕ) → st.slots n ≡ Some v → v < 2 ^ 64) → ShowsText place.linked map k out_of_range →
    InSlots image map (view place.linked st.slots st.world) (args_of (operation (array_of t) name)) 0 os → HasRoom s.limit st w (prim (array_of t) name os w) →
    MakesCell image map (results_of (operation (array_of t) name)) place (create_code k) st w (prim (array_of t) name os w)

abbrev pub CreatesRight : Type 0
CreatesRight = CreatesAs (codes "create")

-- predict has a second argument, which is not used
abbrev pub PredictsRight : Type 0
PredictsRight = CreatesAs (codes "predict")

-- ---- a mutable object is changed

-- The code returns nothing, in a store that has all that was there and the cells as the operation leaves them; it takes no words
-- of the store, and at most 256 steps for each unit of the operation's work.
pub record Changed (image : Image) (map : Layout) (place : Place) (code : Stmts) (st : State) (w after : World) : Type 0 where
  pub used : ℕ
  pub now : State
  pub later : Layout
  pub goes : (k : ℕ) → exec_all place.linked place.entries place.body place.live code (used + k) st ≡ ended (meaning.returned []) k now
  pub extends : Extends map later
  pub stored : Stored later now.world
  pub heap : Heap image later after.cells
  pub there : AreThere map w.cells → AreThere later after.cells
  pub input_kept : now.world.input ≡ st.world.input
  pub output_kept : now.world.output ≡ st.world.output
  pub input_same : after.input ≡ w.input
  pub output_same : after.output ≡ w.output
  pub next : now.world.next ≡ st.world.next
  pub words : w.words ≤ after.words
  pub steps : now.meters.steps + 256 * w.work ≤ st.meters.steps + 256 * after.work
  pub most : now.meters.most ≡ st.meters.most

abbrev pub Changes : Image → Layout → Place → Stmts → State → World → Outcome → Type 0
Changes image map place code st w (returned [] after) = Changed image map place code st w after
Changes image map place code st w (returned (o ∷ os) after) = ⊥
Changes image map place code st w (signalled name os after) = Signals image map place code st name os w after
Changes image map place code st w wrong = Unit {0}

-- The operation of this name of a type changes a mutable object or signals, and so does the code, in every state whose slots show
-- its arguments.
abbrev pub ChangesRight : CluType → StepRow → Type 0
ChangesRight T row = (image : Image) (map : Layout) (place : Place) (os : List Object) (w : World) (st : State) → Stored map st.world → Heap image map w.cells →
    ((n v : ℕ) → st.slots n ≡ Some v → v < 2 ^ 64) → InSlots image map (view place.linked st.slots st.world) (args_of (operation T row.name)) 0 os →
    Changes image map place row.code st w (prim T row.name os w)

abbrev pub change_code : ℕ → Stmts
change_code n = stmts_of (put (slot 0) 0 (word n) ∷ put (slot 0) 8 (slot 1) ∷ leave_with [] ∷ [])

-- change_s of variants
abbrev pub change_row : Fields → List ℕ → StepRow
change_row fs s = record { name = codes "change_" ++ s; code = change_code (place_of_field fs s) }

abbrev pub ChangesVariants : Type 0
ChangesVariants = (fs : Fields) (s : List ℕ) (t : CluType) → type_of_field fs s ≡ Some t → place_of_field fs s < 2 ^ 64 → ChangesRight (variant_of fs) (change_row fs s)

-- set_low of arrays: the place after the last element, counted from 1 below the low bound, wraps just where it leaves the ints
abbrev pub is_past : Expr
is_past = binary op.Slt (binary op.Sub (binary op.Add (slot 1) (load (slot 0) 8)) (word 1)) (binary op.Sub (slot 1) (word 1))

abbrev pub set_low_code : ℕ → Stmts
set_low_code k = stmt_and (fails_where (is_least (slot 1)) k) (stmt_and (fails_where is_past k) (stmts_of (put (slot 0) 0 (slot 1) ∷ leave_with [] ∷ [])))

-- where a constant has the text
abbrev pub SetsLowRight : Type 0
SetsLowRight = (t : CluType) (k : ℕ) (image : Image) (map : Layout) (place : Place) (os : List Object) (w : World) (st : State) → Stored map st.world → Heap image map w.cells →
    ((n v : ℕ) → st.slots n ≡ Some v → v < 2 ^ 64) → ShowsText place.linked map k out_of_range →
    InSlots image map (view place.linked st.slots st.world) (args_of (operation (array_of t) (codes "set_low"))) 0 os →
    Changes image map place (set_low_code k) st w (prim (array_of t) (codes "set_low") os w)
