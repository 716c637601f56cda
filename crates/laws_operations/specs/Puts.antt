-- What the code of an operation that puts a word comes to beside what the operation comes to.
use Rattle.std.specs.Prelude.{◌≡◌, ℕ, ◌+◌, ◌*◌, ◌%◌, ◌^◌, ◌<◌, ◌≤◌, List, [], ◌∷◌, ◌++◌, Some, codes}
use Rattle.clu_types.specs.CluType.{CluType, Fields, record_of}
use Rattle.clu_builtin.specs.Table.{operation}
use Rattle.clu_layout.specs.Objects.{Object}
use Rattle.clu_layout.specs.Actions.{World, Outcome, returned, signalled, wrong}
use Rattle.clu_layout.specs.Primitive.{prim}
use Rattle.clu_wir.specs.Plain.{Expr, slot, word, binary}
use Rattle.clu_wir.specs.Plain as plain
use Rattle.clu_wir.specs.declared.expression.WOp.TheVariants as op
use Rattle.clu_wir.specs.Value.{View, Gives, value}
use Rattle.clu_word_meaning.specs.Levels.{arguments, bare, entered}
use Rattle.clu_word_meaning.specs.Words.{Body, Entry, Linked, State, counted, normal, with_slots, with_world}
use Rattle.clu_word_meaning.specs.Words as meaning
use Rattle.clu_word_meaning.specs.World.{put_word}
use Rattle.clu_word_meaning.specs.World as world
use Rattle.clu_representation.specs.Layout.{Image, Layout, of_cell, with_word}
use Rattle.clu_representation.specs.Held.{Heap}
use Rattle.clu_representation.specs.Shown.{place_of_field, type_of_field}
use Rattle.laws_operations.specs.Comes.{Exception, InSlots, Untouched}
use Rattle.laws_operations.specs.LoadCodes.{at_index}
use Rattle.laws_operations.specs.Rows.{Around, args_of}

-- the code of an operation that puts a word so many bytes after an address
pub record PutRow : Type 0 where
  pub name : List ℕ
  pub address : Expr
  pub bytes : ℕ
  pub put : Expr

-- The word is put into a cell: with it there, each mutable object lies in the words of its cell again, as the operation leaves
-- them; else the operation changes nothing, and takes no words.
pub record Put (image : Image) (map : Layout) (view : View) (row : PutRow) (w after : World) : Type 0 where
  pub a : ℕ
  pub v : ℕ
  pub p : ℕ
  pub c : ℕ
  pub address_is : value view row.address ≡ Gives a
  pub word_is : value view row.put ≡ Gives v
  pub at : (a + row.bytes) % 2 ^ 64 ≡ p
  pub mine : map.owner p ≡ of_cell c
  pub heap : Heap image (with_word map p v) after.cells
  pub input : after.input ≡ w.input
  pub output : after.output ≡ w.output
  pub words : w.words ≤ after.words
  pub work : w.work < after.work

abbrev pub PutComes : Image → Layout → View → PutRow → World → Outcome → Type 0
PutComes image map view row w (returned [] after) = Put image map view row w after
PutComes image map view row w (returned (o ∷ os) after) = ⊥
PutComes image map view row w (signalled name os after) = Exception name os (value view row.address) × Untouched w after
PutComes image map view row w wrong = Unit {0}

-- the operation of this name of a type, and the code
abbrev pub PutRight : CluType → PutRow → Type 0
PutRight T row = (image : Image) (map : Layout) (view : View) (os : List Object) (w : World) → Around image map view w.cells →
    InSlots image map view (args_of (operation T row.name)) 0 os → PutComes image map view row w (prim T row.name os w)

-- ---- the two operations

-- store of arrays: the element at an index
abbrev pub store_row : PutRow
store_row = record { name = codes "store"; address = at_index; bytes = 0; put = slot 2 }

-- set_s of records
abbrev pub set_row : Fields → List ℕ → PutRow
set_row fs s = record { name = codes "set_" ++ s; address = binary op.Add (slot 0) (word ((place_of_field fs s + 1) * 8)); bytes = 0; put = slot 1 }

-- ---- entered

-- A routine without a frame that puts a word, entered with these words, puts it in two steps and no turn.
abbrev pub PutsInTwoSteps : Type 0
PutsInTwoSteps = (l : Linked) (entries : ℕ → Entry) (address put : Expr) (bytes : ℕ) (live : ℕ) (body : Body) (ws : List ℕ) (turns : ℕ) (st : State) (a v : ℕ) (after : world.World) →
    value (meaning.view l (arguments ws) st.world) put ≡ Gives v → value (meaning.view l (arguments ws) st.world) address ≡ Gives a → put_word st.world ((a + bytes) % 2 ^ 64) v ≡ Some after →
    entered entries (Some (bare l (plain.puts_word address bytes put))) live body ws turns st ≡ normal [] turns (with_world after (counted 1 (counted 1 (with_slots (λ slots. arguments ws) st))))

-- of each selector
abbrev pub SetsRight : Type 0
SetsRight = (fs : Fields) (s : List ℕ) (t : CluType) → type_of_field fs s ≡ Some t → PutRight (record_of fs) (set_row fs s)
