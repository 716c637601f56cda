-- Statements keep the law.
use Rattle.std.proofs.Common.{ℕ, suc, List, [], ◌∷◌}
use Rattle.clu_layout.specs.Objects.{Object}
use Rattle.clu_meaning.specs.Programs.{Variable, Taken, named, dropped, Statement, declaration, initialisation, assignment, assignment_of_results, update, call_statement, while_statement, for_statement, if_statement, tagcase_statement, return_statement, yield_statement, signal_statement, exit_statement, break_statement, continue_statement, begin_statement, resignal_statement, except_statement, Statements, no_statements, statement_and, Clauses, no_clauses, clause_and, Otherwise, nothing_else, otherwise, TagArms, no_tag_arms, tag_arm_and, Whens, no_whens, when_and, Others, no_others, others, Program}
use Rattle.clu_meaning.specs.Computations.{Ending, broken, continued, returned, signalled, raised, exited, Computation}
use Rattle.clu_meaning.specs.Binding.{Running}
use Rattle.clu_meaning.specs.Calls.{Round, here, Level}
use Rattle.clu_meaning.specs.Statements.{turn_ending, handled, arm, arm_if_named, taken_by, returns, signals, resignals, exec, exec_all, exec_clauses, exec_otherwise, exec_tag_arms, exec_whens, exec_others}
use Rattle.clu_meaning.proofs.Combining.{Goes, goes_sooner, goes_gives, goes_ends, goes_and_then, goes_either_way, goes_spends, goes_need, goes_needed, goes_with_routine, goes_either, goes_sees_world, goes_counts}
use Rattle.clu_meaning.proofs.Going.{AllGo, goes_assigned, goes_forgets, goes_handed_out, goes_iterates, goes_yields}
use Rattle.clu_meaning.proofs.Evaluating.{goes_value, goes_condition, goes_operates, goes_eval, goes_eval_all}

goes_turn_ending : {k b : ℕ} {m m' : Computation (Unit {0})} (e : Ending) → Goes k b m m' → Goes k b (turn_ending m e) (turn_ending m' e)
unfolding turn_ending
goes_turn_ending broken g = goes_gives _
goes_turn_ending continued g = g
goes_turn_ending _ g = goes_ends _

goes_handled : {k b : ℕ} {f f' g g' : List ℕ → List Object → Computation (Unit {0})} (e : Ending) →
    ((name : List ℕ) (os : List Object) → Goes k b (f name os) (f' name os)) → ((name : List ℕ) (os : List Object) → Goes k b (g name os) (g' name os)) →
    Goes k b (handled f g e) (handled f' g' e)
unfolding handled
goes_handled (raised name os) h i = h name os
goes_handled (exited name os) h i = i name os
goes_handled _ h i = goes_ends _

goes_arm : {k b : ℕ} {m m' : Computation (Unit {0})} (r : Running) (xs : List Variable) (os : List Object) → Goes k b m m' → Goes k b (arm r xs os m) (arm r xs os m')
goes_arm r xs os g = goes_counts _ (goes_assigned r xs os g)

goes_arm_if_named : {k b : ℕ} {m m' : Computation (Unit {0})} (r : Running) (xs : List Variable) (o : Object) → Goes k b m m' → Goes k b (arm_if_named r xs o m) (arm_if_named r xs o m')
unfolding arm_if_named
goes_arm_if_named r [] o g = g
goes_arm_if_named r (x ∷ xs) o g = goes_arm r (x ∷ xs) (o ∷ []) g

goes_taken_by : {k b : ℕ} {m m' : Computation (Unit {0})} (r : Running) (taken : Taken) (os : List Object) → Goes k b m m' → Goes k b (taken_by r taken os m) (taken_by r taken os m')
unfolding taken_by
goes_taken_by r (named xs) os g = goes_arm r xs os g
goes_taken_by r dropped os g = g

goes_returns : {k b : ℕ} (r : Running) (os : List Object) → Goes k b (returns r os) (returns r os)
goes_returns r os = goes_either _ (goes_need _ (goes_ends _)) (goes_handed_out r _ os (λ handed. goes_ends (returned handed)))

goes_signals : {k b : ℕ} (r : Running) (name : List ℕ) (os : List Object) → Goes k b (signals r name os) (signals r name os)
goes_signals r name os = goes_needed _ (λ types. goes_handed_out r types os (λ handed. goes_ends (signalled name handed)))

goes_resignals : {k b : ℕ} (r : Running) (names : List (List ℕ)) (name : List ℕ) (os : List Object) → Goes k b (resignals r names name os) (resignals r names name os)
goes_resignals r names name os = goes_counts _ (goes_either _ (goes_signals r name os) (goes_ends _))

module _ (program : Program) (k b : ℕ) (low low' : Level) (lows : AllGo k b low low') (round : Round) where
  mutual
    unfolding exec

    pub goes_exec : (s : Statement) → Goes k (suc b) (exec program low round s) (exec program low' round s)
    goes_exec (declaration xs) = goes_counts _ (goes_counts _ (goes_forgets xs (goes_gives _)))
    goes_exec (initialisation xs e) = goes_counts _ (goes_counts _ (goes_forgets xs (goes_and_then (goes_eval program k b low low' lows round e) (λ os. goes_assigned (here round) xs os (goes_gives _)))))
    goes_exec (assignment xs es) = goes_counts _ (goes_and_then (goes_eval_all program k b low low' lows round es) (λ os. goes_assigned (here round) xs os (goes_gives _)))
    goes_exec (assignment_of_results xs e) = goes_counts _ (goes_and_then (goes_eval program k b low low' lows round e) (λ os. goes_assigned (here round) xs os (goes_gives _)))
    goes_exec (update name e es) = goes_counts _ (goes_value (goes_eval program k b low low' lows round e) (λ o. goes_and_then (goes_eval_all program k b low low' lows round es) (λ os. goes_and_then (goes_operates program k b low low' lows round name (o ∷ os)) (λ results. (goes_gives _)))))
    goes_exec (call_statement e) = goes_counts _ (goes_and_then (goes_eval program k b low low' lows round e) (λ results. (goes_gives _)))
    goes_exec (while_statement e body) = goes_counts _ (goes_condition (goes_eval program k b low low' lows round e) (λ b. goes_either b
        (goes_spends (goes_either_way (goes_sooner (goes_exec_all body)) (λ done. lows round _) (λ ending. goes_turn_ending ending (lows round _)))) (goes_gives _)))
    goes_exec (for_statement declared xs e es body) = goes_counts _ (goes_counts _ (goes_value (goes_eval program k b low low' lows round e) (λ o. goes_and_then (goes_eval_all program k b low low' lows round es) (λ os.
        goes_with_routine o (λ r. goes_needed _ (λ callee. goes_iterates k b low low' lows callee os body declared xs round))))))
    goes_exec (if_statement clauses other) = goes_counts _ (goes_exec_clauses clauses (goes_exec_otherwise other (goes_gives _)))
    goes_exec (tagcase_statement e arms other) = goes_counts _ (goes_value (goes_eval program k b low low' lows round e) (λ o. goes_sees_world (λ w. goes_needed _ (λ found. goes_exec_tag_arms arms _ _ (goes_exec_otherwise other (goes_ends _))))))
    goes_exec (return_statement es) = goes_counts _ (goes_and_then (goes_eval_all program k b low low' lows round es) (goes_returns (here round)))
    goes_exec (yield_statement es) = goes_counts _ (goes_and_then (goes_eval_all program k b low low' lows round es) (goes_yields k b low low' lows round))
    goes_exec (signal_statement name es) = goes_counts _ (goes_and_then (goes_eval_all program k b low low' lows round es) (goes_signals (here round) name))
    goes_exec (exit_statement name es) = goes_counts _ (goes_and_then (goes_eval_all program k b low low' lows round es) (λ os. (goes_ends _)))
    goes_exec break_statement = goes_counts _ (goes_ends _)
    goes_exec continue_statement = goes_counts _ (goes_ends _)
    goes_exec (begin_statement body) = goes_counts _ (goes_exec_all body)
    goes_exec (resignal_statement s names) = goes_counts _ (goes_either_way (goes_exec s) (λ done. (goes_gives _)) (λ e. goes_handled e (goes_resignals (here round) names) (λ name os. (goes_ends _))))
    goes_exec (except_statement s whens other) = goes_counts _ (goes_either_way (goes_exec s) (λ done. (goes_gives _)) (λ e. goes_handled e
        (λ name os. goes_counts _ (goes_exec_whens whens name os (goes_exec_others other name (goes_ends _))))
        (λ name os. goes_exec_whens whens name os (goes_ends _))))

    pub goes_exec_all : (ss : Statements) → Goes k (suc b) (exec_all program low round ss) (exec_all program low' round ss)
    goes_exec_all no_statements = goes_gives _
    goes_exec_all (statement_and s rest) = goes_and_then (goes_exec s) (λ done. goes_exec_all rest)

    goes_exec_clauses : {m m' : Computation (Unit {0})} (cs : Clauses) → Goes k (suc b) m m' → Goes k (suc b) (exec_clauses program low round cs m) (exec_clauses program low' round cs m')
    goes_exec_clauses no_clauses g = g
    goes_exec_clauses (clause_and e body clauses) g = goes_condition (goes_eval program k b low low' lows round e) (λ b. goes_either b (goes_exec_all body) (goes_exec_clauses clauses g))

    goes_exec_otherwise : {m m' : Computation (Unit {0})} (o : Otherwise) → Goes k (suc b) m m' → Goes k (suc b) (exec_otherwise program low round o m) (exec_otherwise program low' round o m')
    goes_exec_otherwise nothing_else g = g
    goes_exec_otherwise (otherwise body) g = goes_exec_all body

    goes_exec_tag_arms : {m m' : Computation (Unit {0})} (arms : TagArms) (tag : List ℕ) (o : Object) → Goes k (suc b) m m' →
        Goes k (suc b) (exec_tag_arms program low round arms tag o m) (exec_tag_arms program low' round arms tag o m')
    goes_exec_tag_arms no_tag_arms tag o g = g
    goes_exec_tag_arms (tag_arm_and tags xs body arms) tag o g = goes_either _ (goes_arm_if_named (here round) xs o (goes_exec_all body)) (goes_exec_tag_arms arms tag o g)

    goes_exec_whens : {m m' : Computation (Unit {0})} (ws : Whens) (name : List ℕ) (os : List Object) → Goes k (suc b) m m' →
        Goes k (suc b) (exec_whens program low round ws name os m) (exec_whens program low' round ws name os m')
    goes_exec_whens no_whens name os g = g
    goes_exec_whens (when_and names taken body whens) name os g = goes_either _ (goes_taken_by (here round) taken os (goes_exec_all body)) (goes_exec_whens whens name os g)

    goes_exec_others : {m m' : Computation (Unit {0})} (o : Others) (name : List ℕ) → Goes k (suc b) m m' → Goes k (suc b) (exec_others program low round o name m) (exec_others program low' round o name m')
    goes_exec_others no_others name g = g
    goes_exec_others (others xs body) name g = goes_arm_if_named (here round) xs _ (goes_exec_all body)
