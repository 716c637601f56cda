-- Computations, and what they are put together from. A computation begins with so many turns left, in a state, and has a
-- result. Only `either_way` and `and_then` look at results, and only `spends_a_turn` at the turns.
use Rattle.std.specs.Prelude.{ℕ, zero, suc, ◌+◌, Bool, true, false, List, [], ◌∷◌, Option, None, Some, codes}
use Rattle.clu_layout.specs.Objects.{Object, bool_object, routine_object, Routine, string_object}
use Rattle.clu_layout.specs.Actions.{World, Action}
use Rattle.clu_layout.specs.Actions as layout
use Rattle.clu_layout.specs.Primitive.{done_in}
use Rattle.clu_meaning.specs.State.{Instance, Frame, Owns, Stack, State, deeper, entered, as_before}

-- How a statement ends if it doesn't end normally. An exception is signalled by the routine that ends with it, and raised
-- where that routine was invoked. `through` is what the body of a for statement ended with, while it passes the iterators
-- that the loop had called.
pub data Ending : Type 0 where
  broken continued : Ending
  returned : List Object → Ending
  signalled raised exited : List ℕ → List Object → Ending
  through : Ending → Ending
  wrong : Ending

pub data Result (A : Type 0) : Type 0 where
  normal : A → ℕ → State → Result A
  ended : Ending → ℕ → State → Result A
  out_of_turns : State → Result A

abbrev pub Computation : Type 0 → Type 0
Computation A = ℕ → State → Result A

-- ---- results

unfoldable pub gives : {A : Type 0} → A → Computation A
gives a turns st = normal a turns st

unfoldable pub ends : {A : Type 0} → Ending → Computation A
ends e turns st = ended e turns st

-- no case applies
abbrev pub goes_wrong : {A : Type 0} → Computation A
goes_wrong = ends wrong

unfoldable pub continue_with : {A B : Type 0} → (A → Computation B) → Result A → Result B
continue_with f (normal a turns st) = f a turns st
continue_with f (ended e turns st) = ended e turns st
continue_with f (out_of_turns st) = out_of_turns st

-- a computation, and then another with what it gives
unfoldable pub and_then : {A B : Type 0} → Computation A → (A → Computation B) → Computation B
and_then first rest turns st = continue_with rest (first turns st)

unfoldable pub continue_either_way : {A B : Type 0} → (A → Computation B) → (Ending → Computation B) → Result A → Result B
continue_either_way f g (normal a turns st) = f a turns st
continue_either_way f g (ended e turns st) = g e turns st
continue_either_way f g (out_of_turns st) = out_of_turns st

-- a computation, and then one of two others, by how it ends
unfoldable pub either_way : {A B : Type 0} → Computation A → (A → Computation B) → (Ending → Computation B) → Computation B
either_way first f g turns st = continue_either_way f g (first turns st)

-- ---- turns

-- each call of a routine that has a text, each turn of a while statement and each yield
unfoldable pub spends_a_turn : {A : Type 0} → Computation A → Computation A
spends_a_turn rest zero st = out_of_turns st
spends_a_turn rest (suc turns) st = rest turns st

-- ---- what must hold, and what must be there, for a case to apply

unfoldable pub need : {A : Type 0} → Bool → Computation A → Computation A
need true rest = rest
need false rest = goes_wrong

unfoldable pub needed : {A B : Type 0} → Option A → (A → Computation B) → Computation B
needed (Some x) rest = rest x
needed None rest = goes_wrong

unfoldable pub with_one : {A : Type 0} → List Object → (Object → Computation A) → Computation A
with_one (o ∷ []) rest = rest o
with_one _ rest = goes_wrong

unfoldable pub with_bool : {A : Type 0} → Object → (Bool → Computation A) → Computation A
with_bool (bool_object b) rest = rest b
with_bool _ rest = goes_wrong

unfoldable pub with_routine : {A : Type 0} → Object → (Routine → Computation A) → Computation A
with_routine (routine_object r heading) rest = rest r
with_routine _ rest = goes_wrong

-- ---- choices

-- the first if the test holds, else the second
unfoldable pub either : {A : Type 0} → Bool → Computation A → Computation A → Computation A
either true first second = first
either false first second = second

-- the first with what is there, else the second
unfoldable pub if_there : {A B : Type 0} → Option A → (A → Computation B) → Computation B → Computation B
if_there (Some x) first second = first x
if_there None first second = second

-- ---- what a computation sees of the state

unfoldable pub sees_frame : {A : Type 0} → (Frame → Computation A) → Computation A
sees_frame rest turns st = rest st.frame turns st

unfoldable pub sees_world : {A : Type 0} → (World → Computation A) → Computation A
sees_world rest turns st = rest st.world turns st

unfoldable pub sees_owns : {A : Type 0} → (Owns → Computation A) → Computation A
sees_owns rest turns st = rest st.owns turns st

unfoldable pub sees_stack : {A : Type 0} → (Stack → Computation A) → Computation A
sees_stack rest turns st = rest st.stack turns st

-- ---- what it changes

unfoldable pub with_frame : {A : Type 0} → (Frame → Frame) → Computation A → Computation A
with_frame f rest turns st = rest turns (record st { frame = f st.frame })

unfoldable pub with_owns : {A : Type 0} → (Owns → Owns) → Computation A → Computation A
with_owns f rest turns st = rest turns (record st { owns = f st.owns })

-- an instance begins, with so many live words, each of which is a unit of work
unfoldable pub enters : {A : Type 0} → Instance → ℕ → Computation A → Computation A
enters i n rest turns st =
    rest turns (record st { stack = entered i n st.stack; world = record st.world { work = st.world.work + n } })

-- so many words more are live
unfoldable pub goes_deeper : {A : Type 0} → ℕ → Computation A → Computation A
goes_deeper n rest turns st = rest turns (record st { stack = deeper n st.stack })

-- what was live before is live again
unfoldable pub leaves : {A : Type 0} → Stack → Computation A → Computation A
leaves saved rest turns st = rest turns (record st { stack = as_before saved st.stack })

-- so many units of work
unfoldable pub counts : {A : Type 0} → ℕ → Computation A → Computation A
counts n rest turns st = rest turns (record st { world = record st.world { work = st.world.work + n } })

-- a node is evaluated
abbrev pub node : {A : Type 0} → Computation A → Computation A
node = counts 1

-- so many words of store, each of which is a unit of work
unfoldable pub takes : {A : Type 0} → ℕ → Computation A → Computation A
takes n rest turns st =
    rest turns (record st { world = record st.world { words = st.world.words + n; work = st.world.work + n } })

-- the live instances are the trace
unfoldable pub traced : {A : Type 0} → Computation A → Computation A
traced rest turns st = rest turns (record st { trace = st.stack.live })

-- ---- raises

-- what a raise counts in each routine that it meets
abbrev pub raise_count : ℕ
raise_count = 8

-- an exception is raised in the running routine
abbrev pub raises : {A : Type 0} → List ℕ → List Object → Computation A
raises name os = counts raise_count (traced (ends (raised name os)))

abbrev pub fails : {A : Type 0} → List ℕ → Computation A
fails text = raises (codes "failure") (string_object text ∷ [])

-- ---- operations

unfoldable pub outcome : layout.Outcome → Computation (List Object)
outcome (layout.returned os w) turns st = normal os turns (record st { world = w })
outcome (layout.signalled name os w) turns st = raises name os turns (record st { world = w })
outcome layout.wrong turns st = ended wrong turns st

-- what a primitive operation or a constructor does. An exception that it signals is raised here
unfoldable pub does : Action → Computation (List Object)
does action turns st = outcome (done_in st.world action) turns st
