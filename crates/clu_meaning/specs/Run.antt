-- The run of a program: what it has written after so many turns, how it ended, and its meters.
use Rattle.std.specs.Prelude.{ℕ, zero, suc, Bool, false, not, ◌&&◌, ◌==◌, List, [], ◌∷◌}
use Rattle.clu_types.specs.CluType.{no_actuals}
use Rattle.clu_layout.specs.Objects.{module_routine, Object, string_object}
use Rattle.clu_layout.specs.Places.{is_empty}
use Rattle.clu_meaning.specs.Programs.{RoutineDefinition, Program}
use Rattle.clu_meaning.specs.State.{Instance, State, no_variables, new_frame}
use Rattle.clu_meaning.specs.Computations.{Ending, returned, signalled, raised, Result, normal, ended, out_of_turns, Computation, gives, goes_wrong, either_way, spends_a_turn, need, needed, enters}
use Rattle.clu_meaning.specs.Binding.{Running}
use Rattle.clu_meaning.specs.Operations.{defined}
use Rattle.clu_meaning.specs.Calls.{in_procedure, Level, call_words, executes}
use Rattle.clu_meaning.specs.Statements.{exec_all}
use Rattle.clu_meaning.specs.Unhandled.{failure_objects, unhandled}

-- Execution at each level. Whatever goes on at the level below has spent a turn, so that no more levels are wanted than
-- there are turns.
unfoldable pub level : Program → ℕ → Level
level program zero round body turns st = out_of_turns st
level program (suc n) round body turns st = exec_all program (level program n) round body turns st

-- ---- the start

-- the live words before the first call
abbrev pub first_words : ℕ
first_words = 64

abbrev pub first_state : List ℕ → State
first_state input = record {
  frame = new_frame;
  world = record { cells = []; input = input; output = []; words = 0; work = 0 };
  owns = record { is_set_up = λ i. false; variables = λ i. no_variables };
  stack = record { live = []; words = first_words; most = first_words };
  trace = [];
}

-- a program begins at a procedure without parameters, arguments and results
abbrev pub may_start : RoutineDefinition → Bool
may_start r = not r.is_iterator && r.parameters == 0 && is_empty r.formals && is_empty r.results

-- how far a program has come: it still runs, it has returned, it has failed with a text, or no case applied
pub data Progress : Type 0 where
  still_running returned_normally went_wrong : Progress
  failure_with : List ℕ → Progress

unfoldable pub fails_with : List Object → Computation Progress
fails_with (string_object text ∷ []) = gives (failure_with text)
fails_with _ = goes_wrong

-- the system handles no exception. What the start signals takes no words there, since no routine makes its text
unfoldable pub start_ending : Ending → Computation Progress
start_ending (returned os) = gives returned_normally
start_ending (signalled name os) = fails_with (failure_objects name os)
start_ending (raised name os) = unhandled name os fails_with
start_ending _ = goes_wrong

abbrev pub starts : Level → Running → Computation Progress
starts low r =
    need (may_start r.definition) (spends_a_turn (either_way
    (enters r.instance (call_words r.definition.count) (executes low (in_procedure r) []))
    (λ done. gives returned_normally)
    start_ending))

-- the module of this name is the start
abbrev pub begins : Program → Level → List ℕ → Computation Progress
begins program low start = needed (defined program (module_routine start no_actuals)) (starts low)

abbrev pub result_of_run : Program → List ℕ → List ℕ → ℕ → Result Progress
result_of_run program start input turns = begins program (level program turns) start turns (first_state input)

-- ---- what is seen of it

-- the output, the words of store, the most live words, the units of work, and the trace
pub record Seen : Type 0 where
  pub progress : Progress
  pub output : List ℕ
  pub store : ℕ
  pub stack : ℕ
  pub work : ℕ
  pub trace : List Instance

abbrev pub seen : Progress → State → Seen
seen progress st = record { progress = progress; output = st.world.output; store = st.world.words; stack = st.stack.most; work = st.world.work; trace = st.trace }

abbrev pub seen_of : Result Progress → Seen
seen_of (normal progress turns st) = seen progress st
seen_of (ended e turns st) = seen went_wrong st
seen_of (out_of_turns st) = seen still_running st

-- a program that begins at this module, with so many turns
abbrev pub run : Program → List ℕ → List ℕ → ℕ → Seen
run program start input turns = seen_of (result_of_run program start input turns)
