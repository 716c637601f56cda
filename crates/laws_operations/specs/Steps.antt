-- What the code of an operation with steps does beside what the operation does.
use Rattle.std.specs.Prelude.{◌≡◌, ℕ, ◌+◌, ◌*◌, ◌^◌, ◌<◌, ◌≤◌, List, [], ◌∷◌, ◌++◌, Some, codes}
use Rattle.clu_types.specs.CluType.{CluType, CluTypes, Fields, no_types, oneof_of, type_and}
use Rattle.clu_builtin.specs.Table.{operation}
use Rattle.clu_layout.specs.Objects.{Object}
use Rattle.clu_layout.specs.Actions.{World, Outcome, returned, signalled, wrong}
use Rattle.clu_layout.specs.Primitive.{prim}
use Rattle.clu_wir.specs.Plain.{Stmts, leave_with, put, slot, stmts_of, word}
use Rattle.clu_wir.specs.Plain as plain
use Rattle.clu_word_meaning.specs.Words.{Body, Entry, Linked, State, ended, exec_all, view}
use Rattle.clu_word_meaning.specs.Words as meaning
use Rattle.clu_representation.specs.Layout.{Extends, Image, Layout}
use Rattle.clu_representation.specs.Held.{Heap}
use Rattle.clu_representation.specs.Shown.{At, place_of_field, type_of_field}
use Rattle.clu_representation.specs.Stored.{Stored}
use Rattle.laws_operations.specs.Comes.{InSlots}
use Rattle.laws_operations.specs.Rows.{args_of, results_of}

-- an operation that does steps
pub record StepRow : Type 0 where
  pub name : List ℕ
  pub code : Stmts

-- where code of an operation stands: the routine's links, what it yields to, the words that are live
pub record Place : Type 0 where
  pub linked : Linked
  pub entries : ℕ → Entry
  pub body : Body
  pub live : ℕ

-- The code returns a word that shows the object, in a store that has all that was there and the cells as the operation leaves
-- them; it takes no more words than the operation, and at most 256 steps for each unit of its work.
pub record Made (image : Image) (map : Layout) (t : CluType) (place : Place) (code : Stmts) (st : State) (o : Object) (w after : World) : Type 0 where
  pub used : ℕ
  pub now : State
  pub v : ℕ
  pub later : Layout
  pub goes : (k : ℕ) → exec_all place.linked place.entries place.body place.live code (used + k) st ≡ ended (meaning.returned (v ∷ [])) k now
  pub extends : Extends map later
  pub stored : Stored later now.world
  pub heap : Heap image later after.cells
  pub shown : At image later t o v
  pub input_kept : now.world.input ≡ st.world.input
  pub output_kept : now.world.output ≡ st.world.output
  pub input_same : after.input ≡ w.input
  pub output_same : after.output ≡ w.output
  pub store : now.world.next + 8 * w.words ≤ st.world.next + 8 * after.words
  pub steps : now.meters.steps + 256 * w.work ≤ st.meters.steps + 256 * after.work
  pub most : now.meters.most ≡ st.meters.most

-- the results of one object
abbrev pub MadeOf : Image → Layout → CluTypes → Place → Stmts → State → List Object → World → World → Type 0
MadeOf image map (type_and t no_types) place code st (o ∷ []) w after = Made image map t place code st o w after
MadeOf image map _ place code st os w after = ⊥

abbrev pub Makes : Image → Layout → CluTypes → Place → Stmts → State → World → Outcome → Type 0
Makes image map types place code st w (returned os after) = MadeOf image map types place code st os w after
Makes image map types place code st w (signalled name os after) = ⊥
Makes image map types place code st w wrong = Unit {0}

-- the store has room for the words that the operation takes
abbrev pub HasRoom : ℕ → State → World → Outcome → Type 0
HasRoom limit st w (returned os after) = st.world.next + 8 * after.words ≤ limit + 8 * w.words
HasRoom limit st w _ = Unit {0}

-- The operation of this name of a type makes an object, and so does the code, in every state whose slots show its arguments.
abbrev pub MakesRight : CluType → StepRow → Type 0
MakesRight T row = (image : Image) (map : Layout) (place : Place) (os : List Object) (w : World) (st : State) (s : Stored map st.world) → Heap image map w.cells →
    ((n v : ℕ) → st.slots n ≡ Some v → v < 2 ^ 64) → InSlots image map (view place.linked st.slots st.world) (args_of (operation T row.name)) 0 os →
    HasRoom s.limit st w (prim T row.name os w) → Makes image map (results_of (operation T row.name)) place row.code st w (prim T row.name os w)

-- ---- objects of two words: of c2s and e2s the first is 1, of a oneof it is the number of the tag

abbrev pub pair_code : ℕ → Stmts
pair_code n = stmts_of (plain.prim 0 (word 2 ∷ []) (1 ∷ []) ∷ put (slot 1) 0 (word n) ∷ put (slot 1) 8 (slot 0) ∷ leave_with (slot 1 ∷ []) ∷ [])

abbrev pub c2s_row : StepRow
c2s_row = record { name = codes "c2s"; code = pair_code 1 }

abbrev pub e2s_row : StepRow
e2s_row = record { name = codes "e2s"; code = pair_code 1 }

-- make_s of oneofs
abbrev pub make_row : Fields → List ℕ → StepRow
make_row fs s = record { name = codes "make_" ++ s; code = pair_code (place_of_field fs s) }

abbrev pub MakesOneofs : Type 0
MakesOneofs = (fs : Fields) (s : List ℕ) (t : CluType) → type_of_field fs s ≡ Some t → place_of_field fs s < 2 ^ 64 → MakesRight (oneof_of fs) (make_row fs s)
