-- The state of a running program.
use Rattle.std.specs.Prelude.{ℕ, ◌+◌, max, Bool, true, false, ◌&&◌, ◌==◌, List, [], ◌∷◌, Option, None, Some, if◌then◌else◌, bytes_eq}
use Rattle.clu_types.specs.CluType.{Actuals}
use Rattle.clu_layout.specs.Objects.{Routine, Object}
use Rattle.clu_layout.specs.SameType.{same_routine, same_actuals}
use Rattle.clu_layout.specs.Actions.{World}

-- what is called: a routine, and the setting up of a cluster's own variables, by the cluster's name and actuals
pub data Instance : Type 0 where
  of_routine : Routine → Instance
  own_set_up : List ℕ → Actuals → Instance

abbrev pub same_instance : Instance → Instance → Bool
same_instance (of_routine r) (of_routine s) = same_routine r s
same_instance (own_set_up c xs) (own_set_up d ys) = bytes_eq c d && same_actuals xs ys
same_instance _ _ = false

-- the object that each variable names, by the number of its declaration; a variable that names none is absent
abbrev pub Variables : Type 0
Variables = ℕ → Option Object

-- the variables of the running routine; and if this is an iterator, those of the routine whose loop called it, and if that
-- is an iterator, of the next one, and so on
pub record Frame : Type 0 where
  pub variables : Variables
  pub outer : List Variables

-- the own variables of each instance, and whether they have been set up
pub record Owns : Type 0 where
  pub is_set_up : Instance → Bool
  pub variables : Instance → Variables

-- the live instances, the latest first, which are all that was called and has not ended; the live words; and the most of
-- these so far
pub record Stack : Type 0 where
  pub live : List Instance
  pub words : ℕ
  pub most : ℕ

-- beside the world of primitive operations, which has the cells, the streams, and the meters of store and work; the trace
-- is the live instances at the last raise, but for raises of an unhandled exception
pub record State : Type 0 where
  pub frame : Frame
  pub world : World
  pub owns : Owns
  pub stack : Stack
  pub trace : List Instance

-- ---- variables

abbrev pub no_variables : Variables
no_variables n = None

abbrev pub with_variable : Variables → ℕ → Option Object → Variables
with_variable vars n o = λ m. if m == n then o else vars m

abbrev pub first_of : List Variables → Variables
first_of [] = no_variables
first_of (vars ∷ rest) = vars

abbrev pub rest_of : List Variables → List Variables
rest_of [] = []
rest_of (vars ∷ rest) = rest

-- of a routine that begins: no variable names an object
abbrev pub new_frame : Frame
new_frame = record { variables = no_variables; outer = [] }

-- of an iterator that a loop of this routine calls
abbrev pub called_from : Frame → Frame
called_from frame = record { variables = no_variables; outer = frame.variables ∷ frame.outer }

-- of the routine whose loop called the iterator, and back again with the variables that the iterator had
abbrev pub caller_of : Frame → Frame
caller_of frame = record { variables = first_of frame.outer; outer = rest_of frame.outer }

abbrev pub back_to : Variables → Frame → Frame
back_to vars frame = record { variables = vars; outer = frame.variables ∷ frame.outer }

-- ---- own variables

abbrev pub with_set_up : Owns → Instance → Owns
with_set_up owns i = record owns { is_set_up = λ j. if same_instance j i then true else owns.is_set_up j }

abbrev pub with_own : Owns → Instance → ℕ → Object → Owns
with_own owns i n o =
    record owns { variables = λ j. if same_instance j i then with_variable (owns.variables i) n (Some o) else owns.variables j }

-- ---- the stack

-- so many words more are live
abbrev pub deeper : ℕ → Stack → Stack
deeper n stack = record { live = stack.live; words = stack.words + n; most = max stack.most (stack.words + n) }

-- the same for an instance that begins
abbrev pub entered : Instance → ℕ → Stack → Stack
entered i n stack = record { live = i ∷ stack.live; words = stack.words + n; most = max stack.most (stack.words + n) }

-- what was live before is live again; the most stays
abbrev pub as_before : Stack → Stack → Stack
as_before saved stack = record { live = saved.live; words = saved.words; most = stack.most }
