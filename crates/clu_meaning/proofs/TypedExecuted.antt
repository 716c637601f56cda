-- Statements leave a state typed, if the level below does.
use Rattle.std.proofs.Common.{◌≡◌, ℕ, Bool, true, false, List, [], ◌∷◌, Option, None, Some, refl, subst}
use Rattle.std.specs.Prelude.{slice_get, bytes_eq, cond}
use Rattle.clu_layout.specs.Objects.{Routine, Object, string_object, oneof_object, reference, Cell, variant_cell}
use Rattle.clu_layout.specs.Openers.{variant_in, tagged_in}
use Rattle.clu_layout.proofs.CellLaws.{Longer, longer_refl, longer_trans}
use Rattle.clu_meaning.specs.Programs.{Variable, HeadingType, Exception, Taken, named, dropped, Statement, declaration, initialisation, assignment, assignment_of_results, update, call_statement, while_statement, for_statement, if_statement, tagcase_statement, return_statement, yield_statement, signal_statement, exit_statement, break_statement, continue_statement, begin_statement, resignal_statement, except_statement, Statements, no_statements, statement_and, Clauses, no_clauses, clause_and, Otherwise, nothing_else, otherwise, TagArms, no_tag_arms, tag_arm_and, Whens, no_whens, when_and, Others, no_others, others, ClusterDefinition, Expression, Expressions, Program}
use Rattle.clu_meaning.specs.Computations.{Ending, broken, continued, returned, signalled, raised, exited, through, wrong, Computation, gives, sees_world, needed}
use Rattle.clu_meaning.specs.Binding.{assigned, signal_types}
use Rattle.clu_meaning.specs.Operations.{defined}
use Rattle.clu_meaning.specs.Calls.{Round, here, Level}
use Rattle.clu_meaning.specs.Unhandled.{failure}
use Rattle.clu_meaning.specs.Expressions.{eval, eval_all}
use Rattle.clu_meaning.specs.Statements.{turn_ending, handled, exits_on, raises_on, types_of_signal, arm, arm_if_named, taken_by, returns, signals, resignals, exec, exec_all, exec_clauses, exec_otherwise, exec_tag_arms, exec_whens, exec_others}
use Rattle.clu_meaning.specs.Typed.{IsTyped, AllTyped, EachFits, EndingFits}
use Rattle.clu_meaning.specs.Headings.{TypesStand, ExceptionsStand, HeadingsStand}
use Rattle.clu_meaning.proofs.TypedFacts.{typed_on, all_on}
use Rattle.clu_meaning.proofs.TypedElements.{IfThere, if_found}
use Rattle.clu_meaning.proofs.FittingLaws.{cell_found}
use Rattle.clu_meaning.proofs.TypedComputing.{Stays, Objects, good_from, stays_gives, stays_ends, stays_wrong, stays_need, stays_needed, stays_with_routine, stays_either, stays_spends, stays_counts, stays_and_then, stays_either_way, stays_assigned, stays_forgets}
use Rattle.clu_meaning.proofs.TypedHeadings.{stays_handed_out}
use Rattle.clu_meaning.proofs.TypedFine.{Stands, fine_here, fine_defined}
use Rattle.clu_meaning.proofs.TypedCalls.{Done, LevelStays, stays_ends_on, stays_iterates, stays_yields}
use Rattle.clu_meaning.proofs.TypedEvaluating.{stays_value, stays_condition, stays_operates, stays_eval, stays_eval_all}

-- ---- tags

module _ (program : Program) (lawful : Routine → Type 0) (cells : List Cell) (each : EachFits program lawful cells cells) where
  abbrev TaggedTyped : Option (List ℕ × Object) → Type 0
  TaggedTyped None = Unit {0}
  TaggedTyped (Some found) = IsTyped program lawful cells found.1

  variant_typed : (c : ℕ) (cell : Option Cell) → slice_get cells c ≡ cell → TaggedTyped (variant_in cell)
  variant_typed c (Some (variant_cell fs tag o)) e = (cell_found program lawful cells cells c (variant_cell fs tag o) each e).0
  variant_typed c _ e = tt

  tagged_typed : (o : Object) → IsTyped program lawful cells o → TaggedTyped (tagged_in cells o)
  tagged_typed (oneof_object fs tag x) t = t.0
  tagged_typed (reference u c) t = variant_typed c (slice_get cells c) refl
  tagged_typed _ t = tt

-- ---- signals

chosen_stands : (home : Option ClusterDefinition) (b : Bool) (types : List HeadingType) (later : Option (List HeadingType)) → TypesStand home types → IfThere (TypesStand home) later →
    IfThere (TypesStand home) (cond b (Some types) later)
chosen_stands home true types later h k = h
chosen_stands home false types later h k = k

signal_stands : (home : Option ClusterDefinition) (es : List Exception) (name : List ℕ) → ExceptionsStand home es → IfThere (TypesStand home) (signal_types es name)
signal_stands home [] name h = tt
signal_stands home (e ∷ es) name h = chosen_stands home (bytes_eq e.name name) e.objects (signal_types es name) h.0 (signal_stands home es name h.1)

module _ (program : Program) (lawful : Routine → Type 0) (round : Round) (stands : Stands program round) where
  module _ (base : List Cell) where
    stays_arm : (xs : List Variable) (os : List Object) (body : Computation (Unit {0})) → AllTyped program lawful base os → Stays program lawful round base Done body →
        Stays program lawful round base Done (arm (here round) xs os body)
    stays_arm xs os body t h = stays_counts program lawful round base Done _ _ (stays_assigned program lawful round (fine_here program round stands).belongs base Done body h xs os t)

    stays_arm_if_named : (xs : List Variable) (o : Object) (body : Computation (Unit {0})) → IsTyped program lawful base o → Stays program lawful round base Done body →
        Stays program lawful round base Done (arm_if_named (here round) xs o body)
    unfolding arm_if_named
    stays_arm_if_named [] o body t h = h
    stays_arm_if_named (x ∷ xs) o body t h = stays_arm (x ∷ xs) (o ∷ []) body (t, tt) h

    stays_taken_by : (taken : Taken) (os : List Object) (body : Computation (Unit {0})) → AllTyped program lawful base os → Stays program lawful round base Done body →
        Stays program lawful round base Done (taken_by (here round) taken os body)
    unfolding taken_by
    stays_taken_by (named xs) os body t h = stays_arm xs os body t h
    stays_taken_by dropped os body t h = h

    stays_returns : (os : List Object) → AllTyped program lawful base os → Stays program lawful round base Done (returns (here round) os)
    stays_returns os t = stays_either program lawful round base Done _ _ _
        (stays_need program lawful round base Done _ _ (λ empty. stays_ends program lawful round base Done (returned []) (λ cells l. tt)))
        (stays_handed_out program lawful round (fine_here program round stands).home base Done (here round).definition.results os _ (fine_here program round stands).heading.results t (λ handed all.
        stays_ends program lawful round base Done (returned handed) (λ cells l. all_on program lawful base cells l handed all)))

    stays_signals : (name : List ℕ) (os : List Object) → AllTyped program lawful base os → Stays program lawful round base Done (signals (here round) name os)
    stays_signals name os t = stays_needed program lawful round base Done (types_of_signal (here round) name) _ (λ types e.
        stays_handed_out program lawful round (fine_here program round stands).home base Done types os _
        (if_found (TypesStand (here round).home) (types_of_signal (here round) name) types e
        (chosen_stands (here round).home (bytes_eq name failure) _ (signal_types (here round).definition.signals name) (tt, tt)
        (signal_stands (here round).home (here round).definition.signals name (fine_here program round stands).heading.signals))) t (λ handed all.
        stays_ends program lawful round base Done (signalled name handed) (λ cells l. all_on program lawful base cells l handed all)))

    stays_raises_on : (name : List ℕ) (os : List Object) → AllTyped program lawful base os → Stays program lawful round base Done (raises_on name os)
    stays_raises_on name os t = stays_ends_on program lawful round base Done (raised name os) t

    stays_exits_on : (name : List ℕ) (os : List Object) → AllTyped program lawful base os → Stays program lawful round base Done (exits_on name os)
    stays_exits_on name os t = stays_ends_on program lawful round base Done (exited name os) t

    stays_resignals : (names : List (List ℕ)) (name : List ℕ) (os : List Object) → AllTyped program lawful base os → Stays program lawful round base Done (resignals (here round) names name os)
    stays_resignals names name os t = stays_counts program lawful round base Done _ _ (stays_either program lawful round base Done _ _ _ (stays_signals name os t) (stays_raises_on name os t))

    stays_turn_ending : (again : Computation (Unit {0})) (e : Ending) → Stays program lawful round base Done again → EndingFits program lawful base e → Stays program lawful round base Done (turn_ending again e)
    unfolding turn_ending
    stays_turn_ending again broken h t = stays_gives program lawful round base Done tt (λ cells l. tt)
    stays_turn_ending again continued h t = h
    stays_turn_ending again (returned os) h t = stays_ends_on program lawful round base Done (returned os) t
    stays_turn_ending again (signalled name os) h t = stays_ends_on program lawful round base Done (signalled name os) t
    stays_turn_ending again (raised name os) h t = stays_ends_on program lawful round base Done (raised name os) t
    stays_turn_ending again (exited name os) h t = stays_ends_on program lawful round base Done (exited name os) t
    stays_turn_ending again (through e) h t = stays_ends_on program lawful round base Done (through e) t
    stays_turn_ending again wrong h t = stays_ends_on program lawful round base Done wrong t

    stays_handled : (raise exit : List ℕ → List Object → Computation (Unit {0})) (e : Ending) → EndingFits program lawful base e →
        ((name : List ℕ) (os : List Object) → AllTyped program lawful base os → Stays program lawful round base Done (raise name os)) →
        ((name : List ℕ) (os : List Object) → AllTyped program lawful base os → Stays program lawful round base Done (exit name os)) → Stays program lawful round base Done (handled raise exit e)
    unfolding handled
    stays_handled raise exit (raised name os) t h k = h name os t
    stays_handled raise exit (exited name os) t h k = k name os t
    stays_handled raise exit broken t h k = stays_ends_on program lawful round base Done broken t
    stays_handled raise exit continued t h k = stays_ends_on program lawful round base Done continued t
    stays_handled raise exit (returned os) t h k = stays_ends_on program lawful round base Done (returned os) t
    stays_handled raise exit (signalled name os) t h k = stays_ends_on program lawful round base Done (signalled name os) t
    stays_handled raise exit (through e) t h k = stays_ends_on program lawful round base Done (through e) t
    stays_handled raise exit wrong t h k = stays_ends_on program lawful round base Done wrong t

    stays_done : Stays program lawful round base Done (gives tt)
    stays_done = stays_gives program lawful round base Done tt (λ cells l. tt)

    -- what is found of a tag, in the cells of then
    stays_tagged : (o : Object) (f : List ℕ × Object → Computation (Unit {0})) → IsTyped program lawful base o →
        ((cells : List Cell) → Longer base cells → (found : List ℕ × Object) → IsTyped program lawful cells found.1 → Stays program lawful round cells Done (f found)) →
        Stays program lawful round base Done (sees_world (λ w. needed (tagged_in w.cells o) f))
    unfolding sees_world
    stays_tagged o f t h = record {
      at = λ turns st ts l. good_from program lawful round Done base st.world.cells _ l ((stays_needed program lawful round st.world.cells Done (tagged_in st.world.cells o) f (λ found e.
          h st.world.cells l found (subst (TaggedTyped program lawful st.world.cells ts.cells) e
          (tagged_typed program lawful st.world.cells ts.cells o (typed_on program lawful base st.world.cells l o t))))).at turns st ts (longer_refl st.world.cells));
    }

module _ (program : Program) (lawful : Routine → Type 0) (every_lawful : (r : Routine) → lawful r) (stand : HeadingsStand program) (low : Level) (lows : LevelStays program lawful low) (round : Round) (stands : Stands program round) where
  abbrev Leaves : List Cell → Computation (Unit {0}) → Type 0
  Leaves base m = Stays program lawful round base Done m

  one : (e : Expression) (base : List Cell) → Stays program lawful round base (Objects program lawful round) (eval program low round e)
  one e base = stays_eval program lawful every_lawful stand low lows round stands e base

  every : (es : Expressions) (base : List Cell) → Stays program lawful round base (Objects program lawful round) (eval_all program low round es)
  every es base = stays_eval_all program lawful every_lawful stand low lows round stands es base

  -- the objects are bound to the variables, and that is all
  bound_done : (xs : List Variable) (base : List Cell) (os : List Object) → AllTyped program lawful base os → Leaves base (assigned (here round) xs os (gives tt))
  bound_done xs base os t = stays_assigned program lawful round (fine_here program round stands).belongs base Done _ (stays_done program lawful round stands base) xs os t

  mutual
    unfolding exec

    pub stays_exec : (s : Statement) (base : List Cell) → Leaves base (exec program low round s)
    stays_exec (declaration xs) base = stays_counts program lawful round base Done _ _ (stays_counts program lawful round base Done _ _ (stays_forgets program lawful round base Done _ (stays_done program lawful round stands base) xs))
    stays_exec (initialisation xs e) base = stays_counts program lawful round base Done _ _ (stays_counts program lawful round base Done _ _ (stays_forgets program lawful round base Done _
        (stays_and_then program lawful round base (Objects program lawful round) Done _ _ (one e base) (λ a l os t. bound_done xs a os t)) xs))
    stays_exec (assignment xs es) base = stays_counts program lawful round base Done _ _ (stays_and_then program lawful round base (Objects program lawful round) Done _ _ (every es base) (λ a l os t. bound_done xs a os t))
    stays_exec (assignment_of_results xs e) base = stays_counts program lawful round base Done _ _ (stays_and_then program lawful round base (Objects program lawful round) Done _ _ (one e base) (λ a l os t. bound_done xs a os t))
    stays_exec (update name e es) base = stays_counts program lawful round base Done _ _ (stays_value program lawful round base Done _ _ (one e base) (λ a l o t.
        stays_and_then program lawful round a (Objects program lawful round) Done _ _ (every es a) (λ b k os ts.
        stays_and_then program lawful round b (Objects program lawful round) Done _ _ (stays_operates program lawful every_lawful stand low lows round stands b name (o ∷ os) (typed_on program lawful a b k o t, ts)) (λ c m results all.
        stays_done program lawful round stands c))))
    stays_exec (call_statement e) base = stays_counts program lawful round base Done _ _ (stays_and_then program lawful round base (Objects program lawful round) Done _ _ (one e base) (λ a l os t. stays_done program lawful round stands a))
    stays_exec (while_statement e body) base = stays_counts program lawful round base Done _ _ (stays_condition program lawful round base Done _ _ (one e base) (λ a l b.
        stays_either program lawful round a Done b _ _ (stays_spends program lawful round a Done _ (stays_either_way program lawful round a Done Done _ _ _ (stays_exec_all body a)
        (λ c k done d. lows round stands _ c) (λ c k ending t. stays_turn_ending program lawful round stands c _ ending (lows round stands _ c) t))) (stays_done program lawful round stands a)))
    stays_exec (for_statement declared xs e es body) base = stays_counts program lawful round base Done _ _ (stays_counts program lawful round base Done _ _ (stays_value program lawful round base Done _ _ (one e base) (λ a l o t.
        stays_and_then program lawful round a (Objects program lawful round) Done _ _ (every es a) (λ b k os ts. stays_with_routine program lawful round b Done o _ (λ r.
        stays_needed program lawful round b Done (defined program r) _ (λ callee found.
        stays_iterates program lawful low lows round stands callee (fine_defined program stand r callee found) b os body declared xs ts))))))
    stays_exec (if_statement clauses other) base = stays_counts program lawful round base Done _ _ (stays_exec_clauses clauses base (λ a l. stays_exec_otherwise other a (stays_done program lawful round stands a)))
    stays_exec (tagcase_statement e arms other) base = stays_counts program lawful round base Done _ _ (stays_value program lawful round base Done _ _ (one e base) (λ a l o t.
        stays_tagged program lawful round stands a o _ t (λ b k found typed. stays_exec_tag_arms arms found.0 found.1 b typed (stays_exec_otherwise other b (stays_wrong program lawful round b Done)))))
    stays_exec (return_statement es) base = stays_counts program lawful round base Done _ _ (stays_and_then program lawful round base (Objects program lawful round) Done _ _ (every es base) (λ a l os t. stays_returns program lawful round stands a os t))
    stays_exec (yield_statement es) base = stays_counts program lawful round base Done _ _ (stays_and_then program lawful round base (Objects program lawful round) Done _ _ (every es base) (λ a l os t. stays_yields program lawful low lows round stands a os t))
    stays_exec (signal_statement name es) base = stays_counts program lawful round base Done _ _ (stays_and_then program lawful round base (Objects program lawful round) Done _ _ (every es base) (λ a l os t. stays_signals program lawful round stands a name os t))
    stays_exec (exit_statement name es) base = stays_counts program lawful round base Done _ _ (stays_and_then program lawful round base (Objects program lawful round) Done _ _ (every es base) (λ a l os t. stays_exits_on program lawful round stands a name os t))
    stays_exec break_statement base = stays_counts program lawful round base Done _ _ (stays_ends program lawful round base Done broken (λ cells l. tt))
    stays_exec continue_statement base = stays_counts program lawful round base Done _ _ (stays_ends program lawful round base Done continued (λ cells l. tt))
    stays_exec (begin_statement body) base = stays_counts program lawful round base Done _ _ (stays_exec_all body base)
    stays_exec (resignal_statement s names) base = stays_counts program lawful round base Done _ _ (stays_either_way program lawful round base Done Done _ _ _ (stays_exec s base) (λ a l done d. stays_done program lawful round stands a)
        (λ a l ending t. stays_handled program lawful round stands a _ _ ending t (stays_resignals program lawful round stands a names) (stays_exits_on program lawful round stands a)))
    stays_exec (except_statement s whens other) base = stays_counts program lawful round base Done _ _ (stays_either_way program lawful round base Done Done _ _ _ (stays_exec s base) (λ a l done d. stays_done program lawful round stands a)
        (λ a l ending t. stays_handled program lawful round stands a _ _ ending t
        (λ name os ts. stays_counts program lawful round a Done _ _ (stays_exec_whens whens name os a ts (stays_exec_others other name a (stays_raises_on program lawful round stands a name os ts))))
        (λ name os ts. stays_exec_whens whens name os a ts (stays_exits_on program lawful round stands a name os ts))))

    pub stays_exec_all : (ss : Statements) (base : List Cell) → Leaves base (exec_all program low round ss)
    stays_exec_all no_statements base = stays_done program lawful round stands base
    stays_exec_all (statement_and s rest) base = stays_and_then program lawful round base Done Done _ _ (stays_exec s base) (λ a l done d. stays_exec_all rest a)

    stays_exec_clauses : {m : Computation (Unit {0})} (cs : Clauses) (base : List Cell) → ((cells : List Cell) → Longer base cells → Leaves cells m) → Leaves base (exec_clauses program low round cs m)
    stays_exec_clauses no_clauses base h = h base (longer_refl base)
    stays_exec_clauses (clause_and e body clauses) base h = stays_condition program lawful round base Done _ _ (one e base) (λ a l b.
        stays_either program lawful round a Done b _ _ (stays_exec_all body a) (stays_exec_clauses clauses a (λ cells k. h cells (longer_trans base a cells l k))))

    stays_exec_otherwise : {m : Computation (Unit {0})} (o : Otherwise) (base : List Cell) → Leaves base m → Leaves base (exec_otherwise program low round o m)
    stays_exec_otherwise nothing_else base h = h
    stays_exec_otherwise (otherwise body) base h = stays_exec_all body base

    stays_exec_tag_arms : {m : Computation (Unit {0})} (arms : TagArms) (tag : List ℕ) (o : Object) (base : List Cell) → IsTyped program lawful base o → Leaves base m →
        Leaves base (exec_tag_arms program low round arms tag o m)
    stays_exec_tag_arms no_tag_arms tag o base t h = h
    stays_exec_tag_arms (tag_arm_and tags xs body arms) tag o base t h = stays_either program lawful round base Done _ _ _
        (stays_arm_if_named program lawful round stands base xs o _ t (stays_exec_all body base)) (stays_exec_tag_arms arms tag o base t h)

    stays_exec_whens : {m : Computation (Unit {0})} (ws : Whens) (name : List ℕ) (os : List Object) (base : List Cell) → AllTyped program lawful base os → Leaves base m →
        Leaves base (exec_whens program low round ws name os m)
    stays_exec_whens no_whens name os base t h = h
    stays_exec_whens (when_and names taken body whens) name os base t h = stays_either program lawful round base Done _ _ _
        (stays_taken_by program lawful round stands base taken os _ t (stays_exec_all body base)) (stays_exec_whens whens name os base t h)

    stays_exec_others : {m : Computation (Unit {0})} (o : Others) (name : List ℕ) (base : List Cell) → Leaves base m → Leaves base (exec_others program low round o name m)
    stays_exec_others no_others name base h = h
    stays_exec_others (others xs body) name base h = stays_arm_if_named program lawful round stands base xs (string_object name) _ tt (stays_exec_all body base)
