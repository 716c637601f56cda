-- Expressions keep the law.
use Rattle.std.proofs.Common.{ℕ, suc, Bool, List, [], ◌∷◌, Option, codes}
use Rattle.clu_types.specs.CluType.{CluType, array_of, sequence_of, struct_of, record_of}
use Rattle.clu_layout.specs.Objects.{Routine, operation_of, Object, int_object, own_type}
use Rattle.clu_meaning.specs.Programs.{Variable, local, own_of_routine, own_of_cluster, Expression, constant, constant_parameter, variable, routine, parenthesized, operator, negated, cand, cor, call, fields, elements, elements_from, up, down, besides, Expressions, no_expressions, expression_and, Components, no_components, component_and, Program}
use Rattle.clu_meaning.specs.Computations.{Computation}
use Rattle.clu_meaning.specs.Binding.{Running}
use Rattle.clu_meaning.specs.Calls.{Round, here, Level}
use Rattle.clu_meaning.specs.Expressions.{makes_fields, makes_elements, makes_elements_from, value, condition, gives_named, uses, names_routine, invokes, operates, operates_not, seals_here, opens_here, eval, eval_all, eval_components}
use Rattle.clu_meaning.proofs.Combining.{Goes, goes_gives, goes_ends, goes_and_then, goes_need, goes_needed, goes_with_one, goes_with_bool, goes_with_routine, goes_either, goes_if_there, goes_sees_frame, goes_sees_owns, goes_counts, goes_raises, goes_does}
use Rattle.clu_meaning.proofs.Going.{AllGo, goes_calls}

-- ---- constructors

goes_makes_fields : {k b : ℕ} (t : CluType) (named : List (List ℕ × Object)) → Goes k b (makes_fields t named) (makes_fields t named)
unfolding makes_fields
goes_makes_fields (struct_of fs) named = goes_needed _ (λ os. (goes_does _))
goes_makes_fields (record_of fs) named = goes_needed _ (λ os. (goes_does _))
goes_makes_fields _ named = goes_ends _

goes_makes_elements : {k b : ℕ} (t : CluType) (os : List Object) → Goes k b (makes_elements t os) (makes_elements t os)
unfolding makes_elements
goes_makes_elements (array_of t) os = goes_does _
goes_makes_elements (sequence_of t) os = goes_does _
goes_makes_elements _ os = goes_ends _

goes_makes_elements_from : {k b : ℕ} (t : CluType) (o : Object) (os : List Object) → Goes k b (makes_elements_from t o os) (makes_elements_from t o os)
unfolding makes_elements_from
goes_makes_elements_from (array_of t) (int_object low) os = goes_does _
goes_makes_elements_from _ _ os = goes_ends _

-- ---- one object

pub goes_value : {A : Type 0} {k b : ℕ} {m m' : Computation (List Object)} {f f' : Object → Computation A} → Goes k b m m' →
    ((o : Object) → Goes k b (f o) (f' o)) → Goes k b (value m f) (value m' f')
goes_value g h = goes_and_then g (λ os. goes_with_one os h)

pub goes_condition : {A : Type 0} {k b : ℕ} {m m' : Computation (List Object)} {f f' : Bool → Computation A} → Goes k b m m' →
    ((c : Bool) → Goes k b (f c) (f' c)) → Goes k b (condition m f) (condition m' f')
goes_condition g h = goes_value g (λ o. goes_with_bool o h)

goes_gives_named : {k b : ℕ} (o : Option Object) → Goes k b (gives_named o) (gives_named o)
goes_gives_named o = goes_if_there o (λ named. (goes_gives _)) (goes_raises _ _)

goes_uses : {k b : ℕ} (r : Running) (x : Variable) → Goes k b (uses r x) (uses r x)
unfolding uses
goes_uses r (local n) = goes_sees_frame (λ frame. goes_gives_named _)
goes_uses r (own_of_routine n) = goes_sees_owns (λ owns. goes_gives_named _)
goes_uses r (own_of_cluster n) = goes_sees_owns (λ owns. goes_gives_named _)

goes_seals_here : {k b : ℕ} (r : Running) (o : Object) → Goes k b (seals_here r o) (seals_here r o)
goes_seals_here r o = goes_needed _ (λ cluster. goes_need _ (goes_gives _))

goes_opens_here : {k b : ℕ} (r : Running) (o : Object) → Goes k b (opens_here r o) (opens_here r o)
goes_opens_here r o = goes_needed _ (λ cluster. goes_needed _ (λ inside. (goes_gives _)))

module _ (program : Program) (k b : ℕ) (low low' : Level) (lows : AllGo k b low low') (round : Round) where
  goes_names_routine : (r : Routine) → Goes k (suc b) (names_routine program low round r) (names_routine program low' round r)
  goes_names_routine r = goes_need _ (goes_needed _ (λ heading. (goes_gives _)))

  pub goes_invokes : (r : Routine) (os : List Object) → Goes k (suc b) (invokes program low round r os) (invokes program low' round r os)
  goes_invokes r os = goes_if_there _ (λ callee. goes_calls k b low low' lows callee os) (goes_does _)

  pub goes_operates : (name : List ℕ) (os : List Object) → Goes k (suc b) (operates program low round name os) (operates program low' round name os)
  unfolding operates
  goes_operates name [] = goes_ends _
  goes_operates name (o ∷ os) = goes_need _ (goes_invokes (operation_of (own_type o) name) (o ∷ os))

  goes_operates_not : (os : List Object) → Goes k (suc b) (operates_not program low round os) (operates_not program low' round os)
  goes_operates_not os = goes_with_one os (λ o. goes_operates (codes "not") (o ∷ []))

  mutual
    unfolding eval

    pub goes_eval : (e : Expression) → Goes k (suc b) (eval program low round e) (eval program low' round e)
    goes_eval (constant c) = goes_counts _ (goes_gives _)
    goes_eval (constant_parameter n) = goes_counts _ (goes_needed _ (λ c. (goes_gives _)))
    goes_eval (variable x) = goes_counts _ (goes_uses (here round) x)
    goes_eval (routine r) = goes_counts _ (goes_names_routine _)
    goes_eval (parenthesized e) = goes_counts _ (goes_value (goes_eval e) (λ o. (goes_gives _)))
    goes_eval (operator name e es) = goes_counts _ (goes_value (goes_eval e) (λ o. goes_and_then (goes_eval_all es) (λ os. goes_operates name (o ∷ os))))
    goes_eval (negated name e es) = goes_counts _ (goes_value (goes_eval e) (λ o. goes_and_then (goes_eval_all es) (λ os. goes_and_then (goes_operates name (o ∷ os)) goes_operates_not)))
    goes_eval (cand e f) = goes_counts _ (goes_condition (goes_eval e) (λ b. goes_either b (goes_condition (goes_eval f) (λ c. (goes_gives _))) (goes_gives _)))
    goes_eval (cor e f) = goes_counts _ (goes_condition (goes_eval e) (λ b. goes_either b (goes_gives _) (goes_condition (goes_eval f) (λ c. (goes_gives _)))))
    goes_eval (call e es) = goes_counts _ (goes_value (goes_eval e) (λ o. goes_and_then (goes_eval_all es) (λ os. goes_with_routine o (λ r. goes_invokes r os))))
    goes_eval (fields t components) = goes_counts _ (goes_and_then (goes_eval_components components) (λ named. goes_makes_fields _ named))
    goes_eval (elements t es) = goes_counts _ (goes_and_then (goes_eval_all es) (λ os. goes_makes_elements _ os))
    goes_eval (elements_from t e es) = goes_counts _ (goes_value (goes_eval e) (λ o. goes_and_then (goes_eval_all es) (λ os. goes_makes_elements_from _ o os)))
    goes_eval (up e) = goes_counts _ (goes_value (goes_eval e) (goes_seals_here (here round)))
    goes_eval (down e) = goes_counts _ (goes_value (goes_eval e) (goes_opens_here (here round)))
    goes_eval (besides n e) = goes_and_then (goes_eval e) (λ os. goes_counts _ (goes_gives _))

    pub goes_eval_all : (es : Expressions) → Goes k (suc b) (eval_all program low round es) (eval_all program low' round es)
    goes_eval_all no_expressions = goes_gives _
    goes_eval_all (expression_and e es) = goes_value (goes_eval e) (λ o. goes_and_then (goes_eval_all es) (λ os. (goes_gives _)))

    pub goes_eval_components : (cs : Components) → Goes k (suc b) (eval_components program low round cs) (eval_components program low' round cs)
    goes_eval_components no_components = goes_gives _
    goes_eval_components (component_and names e components) = goes_value (goes_eval e) (λ o. goes_and_then (goes_eval_components components) (λ named. (goes_gives _)))
