-- Rows of operations that do steps in a frame, and what it is that such a row is right: for operations that only read.
use Rattle.std.specs.Prelude.{◌≡◌, ℕ, ◌+◌, ◌*◌, ◌≤◌, max, List, [], ◌∷◌, length, Some}
use Rattle.clu_types.specs.CluType.{CluType, CluTypes}
use Rattle.clu_builtin.specs.Table.{operation}
use Rattle.clu_layout.specs.Objects.{Object}
use Rattle.clu_layout.specs.Actions.{World, Outcome, returned, signalled, wrong}
use Rattle.clu_layout.specs.Primitive.{prim}
use Rattle.clu_wir.specs.Plain.{Stmts}
use Rattle.clu_wir.specs.Value as value
use Rattle.clu_word_meaning.specs.Levels.{WordRoutine, arguments, entered, framed, inside}
use Rattle.clu_word_meaning.specs.Words as of
use Rattle.clu_word_meaning.specs.Words.{Body, Computation, Entry, Linked, Slots, State, ended, normal, raised, view}
use Rattle.clu_representation.specs.Layout.{Image, Layout}
use Rattle.laws_operations.specs.Comes.{InSlots, Result, Untouched}
use Rattle.laws_operations.specs.Rows.{Around, args_of, results_of}

-- the code of an operation: what it does in a frame of so many slots, of which the first are the arguments
pub record StepsRow : Type 0 where
  pub name : List ℕ
  pub args : ℕ
  pub slots : ℕ
  pub body : Stmts

abbrev pub routine_of : StepsRow → Linked → WordRoutine
routine_of row l = record { args = row.args; slots = row.slots; nodes = 0; body = row.body; linked = l }

-- after so many turns and steps, with so many words live: nothing but the routine's slots has changed
abbrev pub left_by : State → (now used n : ℕ) → Slots → State
left_by st now used n slots = record {
  slots = slots;
  outer = st.outer;
  world = st.world;
  meters = record { most = max st.meters.most now; store = st.meters.store; steps = n + st.meters.steps; spent = used + st.meters.spent };
}

-- A routine that is entered comes to an end after so many turns, whatever further turns there are: at most 32 turns, and 64 steps, for
-- each unit of work.
pub record Ran (f : Computation (List ℕ)) (st : State) (now work : ℕ) (last : ℕ → State → of.Result (List ℕ)) : Type 0 where
  pub used : ℕ
  pub n : ℕ
  pub slots : Slots
  pub is : (k : ℕ) → f (used + k) st ≡ last k (left_by st now used n slots)
  pub turns : used ≤ 32 * work
  pub steps : n ≤ 64 * work

-- it gives a word that shows the object, and the operation leaves all else as it is
pub record GivesObject (image : Image) (map : Layout) (types : CluTypes) (f : Computation (List ℕ)) (st : State) (now : ℕ) (w : World) (o : Object) (after : World) : Type 0 where
  pub v : ℕ
  pub work : ℕ
  pub shown : Result image map (o ∷ []) (value.Gives v) types
  pub ran : Ran f st now work (λ k s. normal (v ∷ []) k s)
  pub untouched : Untouched w after
  pub worked : work + w.work ≤ after.work

-- it raises the exception, and the operation leaves all else as it is
pub record RaisesName (f : Computation (List ℕ)) (st : State) (now : ℕ) (w : World) (name : List ℕ) (after : World) : Type 0 where
  pub work : ℕ
  pub ran : Ran f st now work (λ k s. ended (raised name []) k s)
  pub untouched : Untouched w after
  pub worked : work + w.work ≤ after.work

-- what an operation comes to, and what its routine comes to
abbrev pub StepsCome : Image → Layout → CluTypes → Computation (List ℕ) → State → ℕ → World → Outcome → Type 0
StepsCome image map types f st now w (returned (o ∷ []) after) = GivesObject image map types f st now w o after
StepsCome image map types f st now w (signalled name [] after) = RaisesName f st now w name after
StepsCome image map types f st now w wrong = Unit {0}
StepsCome image map types f st now w _ = ⊥

-- The operation of this name of a type, and its routine as it is entered with words that show the arguments, come to the same. That
-- there are as many words as arguments, the call says.
abbrev pub StepsRight : CluType → StepsRow → Type 0
StepsRight T row = (image : Image) (map : Layout) (l : Linked) (entries : ℕ → Entry) (live : ℕ) (body : Body) (ws : List ℕ) (st : State) (os : List Object) (w : World) →
    Around image map (view l (arguments ws) st.world) w.cells → InSlots image map (view l (arguments ws) st.world) (args_of (operation T row.name)) 0 os → length ws ≡ row.args →
    StepsCome image map (results_of (operation T row.name)) (entered entries (Some (framed (routine_of row l))) live body ws) st (inside live (routine_of row l)) w (prim T row.name os w)

-- each row of a table
abbrev pub EachSteps : CluType → List StepsRow → Type 0
EachSteps T [] = Unit {0}
EachSteps T (r ∷ rs) = StepsRight T r × EachSteps T rs
