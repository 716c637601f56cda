-- Binding, calls, iterators and yields keep the law.
use Rattle.std.proofs.Common.{ℕ, suc, List, [], ◌∷◌, Option, None, Some}
use Rattle.clu_types.specs.CluType.{CluTypes}
use Rattle.clu_layout.specs.Objects.{Object}
use Rattle.clu_meaning.specs.Programs.{Variable, local, own_of_routine, own_of_cluster, Statements, HeadingType, Declaration, ClusterDefinition}
use Rattle.clu_meaning.specs.State.{caller_of, back_to, Instance}
use Rattle.clu_meaning.specs.Computations.{Ending, broken, continued, returned, signalled, raised, through, wrong, Computation, raise_count}
use Rattle.clu_meaning.specs.Binding.{Running, bound, names, names_each, assigned, forgets, handed_out, argued}
use Rattle.clu_meaning.specs.Unhandled.{failure, unhandled}
use Rattle.clu_meaning.specs.Calls.{Round, in_procedure, in_iterator, here, Level, loop_words, raises_unhandled, without_return, procedure_ending, set_up_ending, loop_ending, body_ending, calls_set_up, once, cluster_set_up, routine_set_up, executes, calls, iterates, runs_body, yields}
use Rattle.clu_meaning.proofs.Combining.{Goes, goes_sooner, goes_gives, goes_ends, goes_and_then, goes_either_way, goes_spends, goes_need, goes_needed, goes_either, goes_sees_frame, goes_sees_owns, goes_sees_stack, goes_with_frame, goes_with_owns, goes_enters, goes_goes_deeper, goes_leaves, goes_counts, goes_takes, goes_raises}

-- ---- binding

pub goes_bound : {A : Type 0} {k b : ℕ} {m m' : Computation A} (types : CluTypes) (os : List Object) → Goes k b m m' → Goes k b (bound types os m) (bound types os m')
goes_bound types os g = goes_need _ (goes_takes _ g)

pub goes_names : {A : Type 0} {k b : ℕ} {m m' : Computation A} (r : Running) (x : Variable) (o : Object) → Goes k b m m' → Goes k b (names r x o m) (names r x o m')
unfolding names
goes_names r (local n) o g = goes_with_frame _ g
goes_names r (own_of_routine n) o g = goes_with_owns _ g
goes_names r (own_of_cluster n) o g = goes_with_owns _ g

pub goes_names_each : {A : Type 0} {k b : ℕ} {m m' : Computation A} (r : Running) (xs : List Variable) (os : List Object) → Goes k b m m' →
    Goes k b (names_each r xs os m) (names_each r xs os m')
unfolding names_each
goes_names_each r (x ∷ xs) (o ∷ os) g = goes_names r x o (goes_names_each r xs os g)
goes_names_each r [] [] g = g
goes_names_each r _ _ g = goes_ends _

pub goes_assigned : {A : Type 0} {k b : ℕ} {m m' : Computation A} (r : Running) (xs : List Variable) (os : List Object) → Goes k b m m' →
    Goes k b (assigned r xs os m) (assigned r xs os m')
goes_assigned r xs os g = goes_needed _ (λ types. goes_bound types os (goes_names_each r xs os g))

pub goes_forgets : {A : Type 0} {k b : ℕ} {m m' : Computation A} (xs : List Variable) → Goes k b m m' → Goes k b (forgets xs m) (forgets xs m')
unfolding forgets
goes_forgets [] g = g
goes_forgets (local n ∷ xs) g = goes_with_frame _ (goes_forgets xs g)
goes_forgets (own_of_routine n ∷ xs) g = goes_forgets xs g
goes_forgets (own_of_cluster n ∷ xs) g = goes_forgets xs g

pub goes_handed_out : {A : Type 0} {k b : ℕ} {f f' : List Object → Computation A} (r : Running) (types : List HeadingType) (os : List Object) →
    ((handed : List Object) → Goes k b (f handed) (f' handed)) → Goes k b (handed_out r types os f) (handed_out r types os f')
goes_handed_out r types os g = goes_bound _ os (g _)

pub goes_argued : {A : Type 0} {k b : ℕ} {m m' : Computation A} (r : Running) (os : List Object) → Goes k b m m' → Goes k b (argued r os m) (argued r os m')
goes_argued r os g = goes_bound _ os (goes_needed _ (λ opened. goes_names_each r _ opened g))

-- ---- endings

pub goes_unhandled : {A : Type 0} {k b : ℕ} {f f' : List Object → Computation A} (name : List ℕ) (os : List Object) →
    ((text : List Object) → Goes k b (f text) (f' text)) → Goes k b (unhandled name os f) (unhandled name os f')
goes_unhandled name os g = goes_takes _ (g _)

goes_raises_unhandled : {A : Type 0} {k b : ℕ} (name : List ℕ) (os : List Object) → Goes {A = A} k b (raises_unhandled name os) (raises_unhandled name os)
goes_raises_unhandled name os = goes_unhandled name os (λ text. goes_counts raise_count (goes_ends (raised failure text)))

goes_without_return : {k b : ℕ} (results : List HeadingType) → Goes k b (without_return results) (without_return results)
goes_without_return results = goes_either _ (goes_gives _) (goes_raises _ _)

goes_procedure_ending : {k b : ℕ} (e : Ending) → Goes k b (procedure_ending e) (procedure_ending e)
unfolding procedure_ending
goes_procedure_ending (returned os) = goes_gives _
goes_procedure_ending (signalled name os) = goes_raises _ _
goes_procedure_ending (raised name os) = goes_raises_unhandled name os
goes_procedure_ending _ = goes_ends _

goes_set_up_ending : {k b : ℕ} (e : Ending) → Goes k b (set_up_ending e) (set_up_ending e)
unfolding set_up_ending
goes_set_up_ending (raised name os) = goes_raises_unhandled name os
goes_set_up_ending _ = goes_ends _

goes_loop_ending : {k b : ℕ} (e : Ending) → Goes k b (loop_ending e) (loop_ending e)
unfolding loop_ending
goes_loop_ending (returned os) = goes_gives _
goes_loop_ending (signalled name os) = goes_raises _ _
goes_loop_ending (raised name os) = goes_raises_unhandled name os
goes_loop_ending (through broken) = goes_gives _
goes_loop_ending (through _) = goes_ends _
goes_loop_ending _ = goes_ends _

goes_body_ending : {k b : ℕ} (e : Ending) → Goes k b (body_ending e) (body_ending e)
unfolding body_ending
goes_body_ending continued = goes_gives _
goes_body_ending wrong = goes_ends _
goes_body_ending _ = goes_ends _

-- ---- levels

abbrev pub AllGo : ℕ → ℕ → Level → Level → Type 0
AllGo k b low low' = (round : Round) (body : Statements) → Goes k b (low round body) (low' round body)

goes_once : {k b : ℕ} {m m' : Computation (Unit {0})} (owns : List Declaration) (i : Instance) → Goes k b m m' → Goes k b (once owns i m) (once owns i m')
goes_once [] i g = goes_gives _
goes_once (d ∷ ds) i g = goes_sees_owns (λ owns. goes_either _ (goes_gives _) (goes_with_owns _ g))

module _ (k b : ℕ) (low low' : Level) (lows : AllGo k b low low') where
  goes_calls_set_up : (r : Running) → Goes k (suc b) (calls_set_up low r) (calls_set_up low' r)
  goes_calls_set_up r = goes_spends (goes_sees_frame (λ frame. goes_sees_stack (λ stack.
      goes_either_way (goes_enters _ _ (goes_with_frame _ (lows _ _)))
      (λ done. goes_with_frame _ (goes_leaves _ (goes_gives _)))
      (λ e. goes_with_frame _ (goes_leaves _ (goes_set_up_ending e))))))

  goes_cluster_set_up : (home : Option ClusterDefinition) (r : Running) → Goes k (suc b) (cluster_set_up low home r) (cluster_set_up low' home r)
  goes_cluster_set_up None r = goes_gives _
  goes_cluster_set_up (Some cluster) r = goes_once cluster.owns _ (goes_calls_set_up _)

  goes_routine_set_up : (round : Round) → Goes k b (routine_set_up low round) (routine_set_up low' round)
  goes_routine_set_up round = goes_once _ _ (lows _ _)

  pub goes_executes : (round : Round) (os : List Object) → Goes k b (executes low round os) (executes low' round os)
  goes_executes round os = goes_argued (here round) os
      (goes_and_then (goes_sooner (goes_cluster_set_up _ _)) (λ done. goes_and_then (goes_routine_set_up round) (λ done. lows _ _)))

  pub goes_calls : (r : Running) (os : List Object) → Goes k (suc b) (calls low r os) (calls low' r os)
  goes_calls r os = goes_need _ (goes_spends (goes_sees_frame (λ frame. goes_sees_stack (λ stack.
      goes_either_way (goes_enters _ _ (goes_with_frame _ (goes_executes (in_procedure r) os)))
      (λ done. goes_with_frame _ (goes_leaves _ (goes_without_return _)))
      (λ e. goes_with_frame _ (goes_leaves _ (goes_procedure_ending e)))))))

  pub goes_iterates : (r : Running) (os : List Object) (body : Statements) (declared : ℕ) (xs : List Variable) (caller : Round) →
      Goes k (suc b) (iterates low r os body declared xs caller) (iterates low' r os body declared xs caller)
  goes_iterates r os body declared xs caller = goes_need _ (goes_spends (goes_sees_stack (λ stack.
      goes_either_way (goes_enters _ _ (goes_with_frame _ (goes_executes (in_iterator r body declared xs caller) os)))
      (λ done. goes_with_frame _ (goes_leaves _ (goes_gives _)))
      (λ e. goes_with_frame _ (goes_leaves _ (goes_loop_ending e))))))

  goes_runs_body : (body : Statements) (declared : ℕ) (xs : List Variable) (caller : Round) (os : List Object) →
      Goes k b (runs_body low body declared xs caller os) (runs_body low' body declared xs caller os)
  goes_runs_body body declared xs caller os = goes_counts _ (goes_assigned (here caller) xs os (lows _ _))

  pub goes_yields : (round : Round) (os : List Object) → Goes k (suc b) (yields low round os) (yields low' round os)
  unfolding yields
  goes_yields (in_procedure r) os = goes_ends _
  goes_yields (in_iterator r body declared xs caller) os = goes_handed_out r _ os (λ handed.
      goes_spends (goes_sees_frame (λ frame. goes_sees_stack (λ stack.
      goes_either_way (goes_goes_deeper loop_words (goes_with_frame caller_of (goes_runs_body body declared xs caller handed)))
      (λ done. goes_with_frame (back_to frame.variables) (goes_leaves stack (goes_gives tt)))
      (λ e. goes_with_frame (back_to frame.variables) (goes_leaves stack (goes_body_ending e)))))))
