-- Calls of routines that have definitions, with the setting up of own variables; and yields.
use Rattle.std.specs.Prelude.{ℕ, ◌+◌, ◌*◌, false, not, List, [], ◌∷◌, Option, None, Some, codes}
use Rattle.clu_layout.specs.Objects.{Object}
use Rattle.clu_layout.specs.Places.{is_empty}
use Rattle.clu_meaning.specs.Programs.{Variable, Statements, no_statements, HeadingType, Declaration, RoutineDefinition, ClusterDefinition}
use Rattle.clu_meaning.specs.State.{Instance, new_frame, called_from, caller_of, back_to, with_set_up}
use Rattle.clu_meaning.specs.Computations.{Ending, broken, continued, returned, signalled, raised, through, wrong, Computation, gives, ends, goes_wrong, and_then, either_way, spends_a_turn, need, either, sees_frame, sees_owns, sees_stack, with_frame, with_owns, enters, goes_deeper, leaves, counts, raise_count, raises, fails}
use Rattle.clu_meaning.specs.Binding.{Running, argued, assigned, handed_out, cluster_instance}
use Rattle.clu_meaning.specs.Unhandled.{failure, unhandled}

-- Where statements stand: in a procedure, or the setting up of own variables; or in an iterator, with the body of the for
-- statement that called it, how many variables that declares, its variables, and where that statement stands.
pub data Round : Type 0 where
  in_procedure : Running → Round
  in_iterator : Running → (body : Statements) → (declared : ℕ) → (variables : List Variable) → (caller : Round) → Round

abbrev pub here : Round → Running
here (in_procedure r) = r
here (in_iterator r body declared xs caller) = r

-- statements at a place; a level says how deep calls, turns of loops and yields may go on in it
abbrev pub Level : Type 0
Level = Round → Statements → Computation (Unit {0})

-- the live words of a call
abbrev pub call_words : ℕ → ℕ
call_words count = 16 + 2 * count

-- the live words of a loop that is suspended in its iterator
abbrev pub loop_words : ℕ
loop_words = 16

-- ---- how a routine ends

-- an exception that was signalled is raised where the routine was invoked, and so is failure for one that it didn't handle
abbrev pub raises_unhandled : {A : Type 0} → List ℕ → List Object → Computation A
raises_unhandled name os = unhandled name os (λ text. counts raise_count (ends (raised failure text)))

-- a procedure that reaches its end
abbrev pub without_return : List HeadingType → Computation (List Object)
without_return results = either (is_empty results) (gives []) (fails (codes "no return values"))

unfoldable pub procedure_ending : Ending → Computation (List Object)
procedure_ending (returned os) = gives os
procedure_ending (signalled name os) = raises name os
procedure_ending (raised name os) = raises_unhandled name os
procedure_ending _ = goes_wrong

-- the setting up of own variables returns and signals nothing
unfoldable pub set_up_ending : Ending → Computation (Unit {0})
set_up_ending (raised name os) = raises_unhandled name os
set_up_ending _ = goes_wrong

-- an iterator that a for statement called: what the loop's body ended with passed it
unfoldable pub loop_ending : Ending → Computation (Unit {0})
loop_ending (returned os) = gives tt
loop_ending (signalled name os) = raises name os
loop_ending (raised name os) = raises_unhandled name os
loop_ending (through broken) = gives tt
loop_ending (through e) = ends e
loop_ending _ = goes_wrong

-- the body of a for statement at a yield
unfoldable pub body_ending : Ending → Computation (Unit {0})
body_ending continued = gives tt
body_ending wrong = goes_wrong
body_ending e = ends (through e)

-- ---- own variables

-- the setting up of the own variables of a cluster, as a call of its own
abbrev pub set_up_definition : ClusterDefinition → RoutineDefinition
set_up_definition cluster = record { name = codes "own"; is_iterator = false; parameters = 0; formals = []; results = []; signals = []; locals = []; owns = []; set_up = no_statements; body = cluster.set_up; count = cluster.set_up_count }

abbrev pub setting_up : Running → ClusterDefinition → Running
setting_up r cluster = record { instance = cluster_instance r; given = r.given; home = Some cluster; definition = set_up_definition cluster }

-- own variables of an instance that has some are set up once; that they are is known before they are set up
abbrev pub once : List Declaration → Instance → Computation (Unit {0}) → Computation (Unit {0})
once [] instance set_up = gives tt
once (d ∷ ds) instance set_up =
    sees_owns (λ owns. either (owns.is_set_up instance) (gives tt) (with_owns (λ o. with_set_up o instance) set_up))

module _ (low : Level) where
  abbrev pub calls_set_up : Running → Computation (Unit {0})
  calls_set_up r =
      spends_a_turn (sees_frame (λ frame. sees_stack (λ stack.
      either_way
      (enters r.instance (call_words r.definition.count) (with_frame (λ f. new_frame) (low (in_procedure r) r.definition.body)))
      (λ done. with_frame (λ f. frame) (leaves stack (gives tt)))
      (λ e. with_frame (λ f. frame) (leaves stack (set_up_ending e))))))

  abbrev pub cluster_set_up : Option ClusterDefinition → Running → Computation (Unit {0})
  cluster_set_up None r = gives tt
  cluster_set_up (Some cluster) r = once cluster.owns (cluster_instance r) (calls_set_up (setting_up r cluster))

  abbrev pub routine_set_up : Round → Computation (Unit {0})
  routine_set_up round = once (here round).definition.owns (here round).instance (low round (here round).definition.set_up)

  -- ---- calls

  -- the arguments are bound, then own variables are set up, those of the cluster first, and then the body is executed
  abbrev pub executes : Round → List Object → Computation (Unit {0})
  executes round os =
      argued (here round) os
      (and_then (cluster_set_up (here round).home (here round)) (λ done.
      and_then (routine_set_up round) (λ done.
      low round (here round).definition.body)))

  abbrev pub calls : Running → List Object → Computation (List Object)
  calls r os =
      need (not r.definition.is_iterator) (spends_a_turn (sees_frame (λ frame. sees_stack (λ stack.
      either_way
      (enters r.instance (call_words r.definition.count) (with_frame (λ f. new_frame) (executes (in_procedure r) os)))
      (λ done. with_frame (λ f. frame) (leaves stack (without_return r.definition.results)))
      (λ e. with_frame (λ f. frame) (leaves stack (procedure_ending e)))))))

  -- ---- iterators

  -- a for statement of `caller` calls an iterator
  abbrev pub iterates : Running → List Object → (body : Statements) → (declared : ℕ) → (variables : List Variable) → (caller : Round) → Computation (Unit {0})
  iterates r os body declared xs caller =
      need r.definition.is_iterator (spends_a_turn (sees_stack (λ stack.
      either_way
      (enters r.instance (call_words r.definition.count) (with_frame called_from (executes (in_iterator r body declared xs caller) os)))
      (λ done. with_frame caller_of (leaves stack (gives tt)))
      (λ e. with_frame caller_of (leaves stack (loop_ending e))))))

  -- the body of the loop that called the iterator is executed, with the variables of the routine in which it stands
  abbrev pub runs_body : (body : Statements) → (declared : ℕ) → (variables : List Variable) → (caller : Round) → List Object → Computation (Unit {0})
  runs_body body declared xs caller os = counts declared (assigned (here caller) xs os (low caller body))

  unfoldable pub yields : Round → List Object → Computation (Unit {0})
  yields (in_procedure r) os = goes_wrong
  yields (in_iterator r body declared xs caller) os =
      handed_out r r.definition.results os (λ handed.
      spends_a_turn (sees_frame (λ frame. sees_stack (λ stack.
      either_way
      (goes_deeper loop_words (with_frame caller_of (runs_body body declared xs caller handed)))
      (λ done. with_frame (back_to frame.variables) (leaves stack (gives tt)))
      (λ e. with_frame (back_to frame.variables) (leaves stack (body_ending e)))))))
