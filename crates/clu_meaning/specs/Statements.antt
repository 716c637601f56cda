-- How statements are executed.
use Rattle.std.specs.Prelude.{ℕ, ◌+◌, List, [], ◌∷◌, length, Option, Some, if◌then◌else◌, bytes_eq}
use Rattle.clu_types.specs.CluType.{string_type}
use Rattle.clu_layout.specs.Objects.{Object, string_object}
use Rattle.clu_layout.specs.Openers.{tagged_in}
use Rattle.clu_layout.specs.Places.{is_empty}
use Rattle.clu_meaning.specs.Lists.{is_among, names_before}
use Rattle.clu_meaning.specs.Programs.{Variable, HeadingType, plain, Taken, named, dropped, Statement, declaration, initialisation, assignment, assignment_of_results, update, call_statement, while_statement, for_statement, if_statement, tagcase_statement, return_statement, yield_statement, signal_statement, exit_statement, break_statement, continue_statement, begin_statement, resignal_statement, except_statement, Statements, no_statements, statement_and, Clauses, no_clauses, clause_and, Otherwise, nothing_else, otherwise, TagArms, no_tag_arms, tag_arm_and, Whens, no_whens, when_and, Others, no_others, others, Program}
use Rattle.clu_meaning.specs.Computations.{Ending, broken, continued, returned, signalled, raised, exited, Computation, gives, ends, goes_wrong, and_then, either_way, spends_a_turn, need, needed, with_routine, either, sees_world, counts, node}
use Rattle.clu_meaning.specs.Binding.{Running, assigned, forgets, handed_out, signal_types}
use Rattle.clu_meaning.specs.Operations.{defined}
use Rattle.clu_meaning.specs.Calls.{Round, here, Level, iterates, yields}
use Rattle.clu_meaning.specs.Expressions.{value, condition, operates, eval, eval_all}
use Rattle.clu_meaning.specs.Unhandled.{failure}

-- ---- names of arms

-- how many names an exception passes before the arm that takes it; all of them if none does
abbrev pub names_passed : Whens → List ℕ → ℕ
names_passed no_whens name = 0
names_passed (when_and names taken body whens) name =
    names_before names name + (if is_among names name then 0 else names_passed whens name)

-- ---- what is done at an ending

-- a turn of a while statement
unfoldable pub turn_ending : Computation (Unit {0}) → Ending → Computation (Unit {0})
turn_ending again broken = gives tt
turn_ending again continued = again
turn_ending again e = ends e

-- an exception by its name and objects; an exit likewise; and any other ending as it is
unfoldable pub handled : (List ℕ → List Object → Computation (Unit {0})) → (List ℕ → List Object → Computation (Unit {0})) → Ending → Computation (Unit {0})
handled raise exit (raised name os) = raise name os
handled raise exit (exited name os) = exit name os
handled raise exit e = ends e

abbrev pub exits_on : List ℕ → List Object → Computation (Unit {0})
exits_on name os = ends (exited name os)

abbrev pub raises_on : List ℕ → List Object → Computation (Unit {0})
raises_on name os = ends (raised name os)

-- the types of an exception's objects in the heading; failure has a string
abbrev pub types_of_signal : Running → List ℕ → Option (List HeadingType)
types_of_signal r name = if bytes_eq name failure then Some (plain string_type ∷ []) else signal_types r.definition.signals name

-- ---- variables of arms, which are declared anew

abbrev pub arm : Running → List Variable → List Object → Computation (Unit {0}) → Computation (Unit {0})
arm r xs os body = counts (length xs) (assigned r xs os body)

-- one that an arm may do without
unfoldable pub arm_if_named : Running → List Variable → Object → Computation (Unit {0}) → Computation (Unit {0})
arm_if_named r [] o body = body
arm_if_named r (x ∷ xs) o body = arm r (x ∷ xs) (o ∷ []) body

unfoldable pub taken_by : Running → Taken → List Object → Computation (Unit {0}) → Computation (Unit {0})
taken_by r (named xs) os body = arm r xs os body
taken_by r dropped os body = body

-- ---- ends of routines

-- an iterator returns no objects
abbrev pub returns : Running → List Object → Computation (Unit {0})
returns r os =
    either r.definition.is_iterator
    (need (is_empty os) (ends (returned [])))
    (handed_out r r.definition.results os (λ handed. ends (returned handed)))

abbrev pub signals : Running → List ℕ → List Object → Computation (Unit {0})
signals r name os = needed (types_of_signal r name) (λ types. handed_out r types os (λ handed. ends (signalled name handed)))

abbrev pub resignals : Running → List (List ℕ) → List ℕ → List Object → Computation (Unit {0})
resignals r names name os =
    counts (names_before names name) (either (is_among names name) (signals r name os) (raises_on name os))

module _ (program : Program) (low : Level) (round : Round) where
  unfoldable mutual
    pub exec : Statement → Computation (Unit {0})
    exec (declaration xs) = node (counts (length xs) (forgets xs (gives tt)))
    exec (initialisation xs e) = node (counts (length xs) (forgets xs (and_then (eval program low round e) (λ os. assigned (here round) xs os (gives tt)))))
    exec (assignment xs es) = node (and_then (eval_all program low round es) (λ os. assigned (here round) xs os (gives tt)))
    exec (assignment_of_results xs e) = node (and_then (eval program low round e) (λ os. assigned (here round) xs os (gives tt)))
    exec (update name e es) = node (value (eval program low round e) (λ o. and_then (eval_all program low round es) (λ os. and_then (operates program low round name (o ∷ os)) (λ results. gives tt))))
    exec (call_statement e) = node (and_then (eval program low round e) (λ results. gives tt))
    exec (while_statement e body) =
        let again : Computation (Unit {0}) = low round (statement_and (while_statement e body) no_statements) in
        node (condition (eval program low round e) (λ b. either b (spends_a_turn (either_way (exec_all body) (λ done. again) (turn_ending again))) (gives tt)))
    exec (for_statement declared xs e es body) =
        node (node (value (eval program low round e) (λ o. and_then (eval_all program low round es) (λ os. with_routine o (λ r. needed (defined program r) (λ callee. iterates low callee os body declared xs round))))))
    exec (if_statement clauses other) = node (exec_clauses clauses (exec_otherwise other (gives tt)))
    exec (tagcase_statement e arms other) =
        node (value (eval program low round e) (λ o. sees_world (λ w. needed (tagged_in w.cells o) (λ found. exec_tag_arms arms found.0 found.1 (exec_otherwise other goes_wrong)))))
    exec (return_statement es) = node (and_then (eval_all program low round es) (returns (here round)))
    exec (yield_statement es) = node (and_then (eval_all program low round es) (yields low round))
    exec (signal_statement name es) = node (and_then (eval_all program low round es) (signals (here round) name))
    exec (exit_statement name es) = node (and_then (eval_all program low round es) (exits_on name))
    exec break_statement = node (ends broken)
    exec continue_statement = node (ends continued)
    exec (begin_statement body) = node (exec_all body)
    exec (resignal_statement s names) = node (either_way (exec s) gives (handled (resignals (here round) names) exits_on))
    exec (except_statement s whens other) =
        node (either_way (exec s) gives (handled
        (λ name os. counts (names_passed whens name) (exec_whens whens name os (exec_others other name (raises_on name os))))
        (λ name os. exec_whens whens name os (exits_on name os))))

    pub exec_all : Statements → Computation (Unit {0})
    exec_all no_statements = gives tt
    exec_all (statement_and s rest) = and_then (exec s) (λ done. exec_all rest)

    -- the body of the first condition that holds, or else the rest
    pub exec_clauses : Clauses → Computation (Unit {0}) → Computation (Unit {0})
    exec_clauses no_clauses rest = rest
    exec_clauses (clause_and e body clauses) rest = condition (eval program low round e) (λ b. either b (exec_all body) (exec_clauses clauses rest))

    pub exec_otherwise : Otherwise → Computation (Unit {0}) → Computation (Unit {0})
    exec_otherwise nothing_else rest = rest
    exec_otherwise (otherwise body) rest = exec_all body

    pub exec_tag_arms : TagArms → List ℕ → Object → Computation (Unit {0}) → Computation (Unit {0})
    exec_tag_arms no_tag_arms tag o rest = rest
    exec_tag_arms (tag_arm_and tags xs body arms) tag o rest =
        either (is_among tags tag) (arm_if_named (here round) xs o (exec_all body)) (exec_tag_arms arms tag o rest)

    -- the first arm of the name, or else the rest
    pub exec_whens : Whens → List ℕ → List Object → Computation (Unit {0}) → Computation (Unit {0})
    exec_whens no_whens name os rest = rest
    exec_whens (when_and names taken body whens) name os rest =
        either (is_among names name) (taken_by (here round) taken os (exec_all body)) (exec_whens whens name os rest)

    pub exec_others : Others → List ℕ → Computation (Unit {0}) → Computation (Unit {0})
    exec_others no_others name rest = rest
    exec_others (others xs body) name rest = arm_if_named (here round) xs (string_object name) (exec_all body)
