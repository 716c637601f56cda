-- Expressions give objects that are typed, and leave a state typed.
use Rattle.std.proofs.Common.{ℕ, Bool, true, false, List, [], ◌∷◌, ◌++◌}
use Rattle.std.specs.Prelude.{codes}
use Rattle.clu_base.specs.declared.constants.Const.{Const}
use Rattle.clu_base.specs.declared.constants.Const.TheVariants as constant_of
use Rattle.clu_types.specs.Substituted.{substituted}
use Rattle.clu_layout.specs.Objects.{Routine, operation_of, Object, bool_object, routine_object, Cell, own_type, object_of, routine_substituted}
use Rattle.clu_layout.proofs.CellLaws.{Longer, longer_trans}
use Rattle.clu_meaning.specs.Programs.{Expression, constant, constant_parameter, variable, routine, parenthesized, operator, negated, cand, cor, call, fields, elements, elements_from, up, down, besides, Expressions, no_expressions, expression_and, Components, no_components, component_and, Program}
use Rattle.clu_meaning.specs.Computations.{Computation, gives}
use Rattle.clu_meaning.specs.Operations.{headed, defined, undefined}
use Rattle.clu_meaning.specs.Calls.{Round, here, Level}
use Rattle.clu_meaning.specs.Expressions.{constant_at, each_with, value, condition, names_routine, invokes, operates, operates_not, eval, eval_all, eval_components}
use Rattle.clu_meaning.specs.Typed.{IsTyped, AllTyped}
use Rattle.clu_meaning.specs.Headings.{HeadingsStand}
use Rattle.clu_meaning.proofs.TypedFacts.{typed_on, all_on}
use Rattle.clu_meaning.proofs.TypedComputing.{Stays, Objects, stays_gives, stays_wrong, stays_need, stays_needed, stays_with_one, stays_with_bool, stays_with_routine, stays_if_there, stays_either, stays_counts, stays_and_then, stays_uses}
use Rattle.clu_meaning.proofs.TypedMaking.{NamedTyped, each_with_typed, stays_does, stays_makes_fields, stays_makes_elements, stays_makes_elements_from}
use Rattle.clu_meaning.proofs.FittingInvoked.{undefined_fits}
use Rattle.clu_meaning.proofs.TypedHeadings.{stays_seals_here, stays_opens_here}
use Rattle.clu_meaning.proofs.TypedFine.{Stands, fine_here, fine_defined}
use Rattle.clu_meaning.proofs.TypedCalls.{LevelStays, stays_calls}

module _ (program : Program) (lawful : Routine → Type 0) (round : Round) where
  -- the object that is given, and then the rest, which may begin with more cells
  module _ {A : Type 0} (base : List Cell) (Q : List Cell → A → Type 0) where
    pub stays_value : (m : Computation (List Object)) (f : Object → Computation A) → Stays program lawful round base (Objects program lawful round) m →
        ((cells : List Cell) → Longer base cells → (o : Object) → IsTyped program lawful cells o → Stays program lawful round cells Q (f o)) → Stays program lawful round base Q (value m f)
    stays_value m f g h = stays_and_then program lawful round base (Objects program lawful round) Q m _ g (λ cells l os t. stays_with_one program lawful round cells Q os f t (λ o typed. h cells l o typed))

    pub stays_condition : (m : Computation (List Object)) (f : Bool → Computation A) → Stays program lawful round base (Objects program lawful round) m →
        ((cells : List Cell) → Longer base cells → (b : Bool) → Stays program lawful round cells Q (f b)) → Stays program lawful round base Q (condition m f)
    stays_condition m f g h = stays_value m _ g (λ cells l o t. stays_with_bool program lawful round cells Q o f (h cells l))

constant_typed : (program : Program) (lawful : Routine → Type 0) (cells : List Cell) (c : Const) → IsTyped program lawful cells (object_of c)
constant_typed program lawful cells constant_of.Null = tt
constant_typed program lawful cells (constant_of.Bool b) = tt
constant_typed program lawful cells (constant_of.Int n) = tt
constant_typed program lawful cells (constant_of.Char c) = tt
constant_typed program lawful cells (constant_of.Str bytes) = tt

module _ (program : Program) (lawful : Routine → Type 0) (every_lawful : (r : Routine) → lawful r) (stand : HeadingsStand program) (low : Level) (lows : LevelStays program lawful low) (round : Round) (stands : Stands program round) where
  -- ---- routines

  stays_names_routine : (base : List Cell) (r : Routine) → Stays program lawful round base (Objects program lawful round) (names_routine program low round r)
  stays_names_routine base r = stays_need program lawful round base (Objects program lawful round) _ _ (λ may. stays_needed program lawful round base (Objects program lawful round) (headed program r) _ (λ heading e.
      stays_gives program lawful round base (Objects program lawful round) (routine_object r heading ∷ []) (λ cells l. ((e, every_lawful r), tt))))

  pub stays_invokes : (base : List Cell) (r : Routine) (os : List Object) → AllTyped program lawful base os → Stays program lawful round base (Objects program lawful round) (invokes program low round r os)
  stays_invokes base r os typed = stays_if_there program lawful round base (Objects program lawful round) (defined program r) _ _
      (λ callee e. stays_calls program lawful low lows round callee (fine_defined program stand r callee e) base os typed)
      (stays_does program lawful round base (undefined r os) (λ cells l. undefined_fits program lawful cells os (all_on program lawful base cells l os typed) r))

  pub stays_operates : (base : List Cell) (name : List ℕ) (os : List Object) → AllTyped program lawful base os → Stays program lawful round base (Objects program lawful round) (operates program low round name os)
  unfolding operates
  stays_operates base name [] typed = stays_wrong program lawful round base (Objects program lawful round)
  stays_operates base name (o ∷ os) typed = stays_need program lawful round base (Objects program lawful round) _ _ (λ may. stays_invokes base (operation_of (own_type o) name) (o ∷ os) typed)

  stays_operates_not : (base : List Cell) (os : List Object) → AllTyped program lawful base os → Stays program lawful round base (Objects program lawful round) (operates_not program low round os)
  stays_operates_not base os typed = stays_with_one program lawful round base (Objects program lawful round) os _ typed (λ o t. stays_operates base (codes "not") (o ∷ []) (t, tt))

  -- the object and those after it, in the cells of then
  and_those : (a b : List Cell) (o : Object) (os : List Object) → Longer a b → IsTyped program lawful a o → AllTyped program lawful b os → AllTyped program lawful b (o ∷ os)
  and_those a b o os l t ts = (typed_on program lawful a b l o t, ts)

  abbrev GivesObjects : List Cell → Computation (List Object) → Type 0
  GivesObjects base m = Stays program lawful round base (Objects program lawful round) m

  gives_bool : (base : List Cell) (b : Bool) → GivesObjects base (gives (bool_object b ∷ []))
  gives_bool base b = stays_gives program lawful round base (Objects program lawful round) (bool_object b ∷ []) (λ cells l. (tt, tt))

  abbrev Named : List Cell → List (List ℕ × Object) → Type 0
  Named cells named = NamedTyped program lawful cells named

  named_on : (a b : List Cell) (named : List (List ℕ × Object)) → Longer a b → NamedTyped program lawful a named → NamedTyped program lawful b named
  named_on a b [] l h = tt
  named_on a b (named ∷ rest) l h = (typed_on program lawful a b l named.1 h.0, named_on a b rest l h.1)

  -- ---- expressions

  mutual
    unfolding eval

    pub stays_eval : (e : Expression) (base : List Cell) → GivesObjects base (eval program low round e)
    stays_eval (constant c) base = stays_counts program lawful round base _ _ _ (stays_gives program lawful round base (Objects program lawful round) (object_of c ∷ []) (λ cells l. (constant_typed program lawful cells c, tt)))
    stays_eval (constant_parameter n) base = stays_counts program lawful round base _ _ _ (stays_needed program lawful round base (Objects program lawful round) (constant_at (here round).given n) _ (λ c e.
        stays_gives program lawful round base (Objects program lawful round) (object_of c ∷ []) (λ cells l. (constant_typed program lawful cells c, tt))))
    stays_eval (variable x) base = stays_counts program lawful round base _ _ _ (stays_uses program lawful round base x)
    stays_eval (routine r) base = stays_counts program lawful round base _ _ _ (stays_names_routine base (routine_substituted (here round).given r))
    stays_eval (parenthesized e) base = stays_counts program lawful round base _ _ _ (stays_value program lawful round base (Objects program lawful round) _ _ (stays_eval e base) (λ a l o t.
        stays_gives program lawful round a (Objects program lawful round) (o ∷ []) (λ cells k. (typed_on program lawful a cells k o t, tt))))
    stays_eval (operator name e es) base = stays_counts program lawful round base _ _ _ (stays_value program lawful round base (Objects program lawful round) _ _ (stays_eval e base) (λ a l o t.
        stays_and_then program lawful round a (Objects program lawful round) (Objects program lawful round) _ _ (stays_eval_all es a) (λ b k os ts. stays_operates b name (o ∷ os) (and_those a b o os k t ts))))
    stays_eval (negated name e es) base = stays_counts program lawful round base _ _ _ (stays_value program lawful round base (Objects program lawful round) _ _ (stays_eval e base) (λ a l o t.
        stays_and_then program lawful round a (Objects program lawful round) (Objects program lawful round) _ _ (stays_eval_all es a) (λ b k os ts.
        stays_and_then program lawful round b (Objects program lawful round) (Objects program lawful round) _ _ (stays_operates b name (o ∷ os) (and_those a b o os k t ts)) (λ c m given all. stays_operates_not c given all))))
    stays_eval (cand e f) base = stays_counts program lawful round base _ _ _ (stays_condition program lawful round base (Objects program lawful round) _ _ (stays_eval e base) (λ a l x.
        stays_either program lawful round a (Objects program lawful round) x _ _ (stays_condition program lawful round a (Objects program lawful round) _ _ (stays_eval f a) (λ b k y. gives_bool b y)) (gives_bool a false)))
    stays_eval (cor e f) base = stays_counts program lawful round base _ _ _ (stays_condition program lawful round base (Objects program lawful round) _ _ (stays_eval e base) (λ a l x.
        stays_either program lawful round a (Objects program lawful round) x _ _ (gives_bool a true) (stays_condition program lawful round a (Objects program lawful round) _ _ (stays_eval f a) (λ b k y. gives_bool b y))))
    stays_eval (call e es) base = stays_counts program lawful round base _ _ _ (stays_value program lawful round base (Objects program lawful round) _ _ (stays_eval e base) (λ a l o t.
        stays_and_then program lawful round a (Objects program lawful round) (Objects program lawful round) _ _ (stays_eval_all es a) (λ b k os ts.
        stays_with_routine program lawful round b (Objects program lawful round) o _ (λ r. stays_invokes b r os ts))))
    stays_eval (fields t components) base = stays_counts program lawful round base _ _ _ (stays_and_then program lawful round base Named (Objects program lawful round) _ _ (stays_eval_components components base) (λ a l named ts.
        stays_makes_fields program lawful round a (substituted (here round).given t) named ts))
    stays_eval (elements t es) base = stays_counts program lawful round base _ _ _ (stays_and_then program lawful round base (Objects program lawful round) (Objects program lawful round) _ _ (stays_eval_all es base) (λ a l os ts.
        stays_makes_elements program lawful round a (substituted (here round).given t) os ts))
    stays_eval (elements_from t e es) base = stays_counts program lawful round base _ _ _ (stays_value program lawful round base (Objects program lawful round) _ _ (stays_eval e base) (λ a l o to.
        stays_and_then program lawful round a (Objects program lawful round) (Objects program lawful round) _ _ (stays_eval_all es a) (λ b k os ts.
        stays_makes_elements_from program lawful round b (substituted (here round).given t) o os ts)))
    stays_eval (up e) base = stays_counts program lawful round base _ _ _ (stays_value program lawful round base (Objects program lawful round) _ _ (stays_eval e base) (λ a l o t.
        stays_seals_here program lawful round a (fine_here program round stands).home o t))
    stays_eval (down e) base = stays_counts program lawful round base _ _ _ (stays_value program lawful round base (Objects program lawful round) _ _ (stays_eval e base) (λ a l o t.
        stays_opens_here program lawful round a o t))
    stays_eval (besides n e) base = stays_and_then program lawful round base (Objects program lawful round) (Objects program lawful round) _ _ (stays_eval e base) (λ a l os ts.
        stays_counts program lawful round a _ _ _ (stays_gives program lawful round a (Objects program lawful round) os (λ cells k. all_on program lawful a cells k os ts)))

    pub stays_eval_all : (es : Expressions) (base : List Cell) → GivesObjects base (eval_all program low round es)
    stays_eval_all no_expressions base = stays_gives program lawful round base (Objects program lawful round) [] (λ cells l. tt)
    stays_eval_all (expression_and e es) base = stays_value program lawful round base (Objects program lawful round) _ _ (stays_eval e base) (λ a l o t.
        stays_and_then program lawful round a (Objects program lawful round) (Objects program lawful round) _ _ (stays_eval_all es a) (λ b k os ts.
        stays_gives program lawful round b (Objects program lawful round) (o ∷ os) (λ cells m. all_on program lawful b cells m (o ∷ os) (and_those a b o os k t ts))))

    stays_eval_components : (cs : Components) (base : List Cell) → Stays program lawful round base Named (eval_components program low round cs)
    stays_eval_components no_components base = stays_gives program lawful round base Named [] (λ cells l. tt)
    stays_eval_components (component_and names e components) base = stays_value program lawful round base Named _ _ (stays_eval e base) (λ a l o t.
        stays_and_then program lawful round a Named Named _ _ (stays_eval_components components a) (λ b k named ts.
        stays_gives program lawful round b Named (each_with names o ++ named) (λ cells m.
        each_with_typed program lawful cells names o named (typed_on program lawful a cells (longer_trans a b cells k m) o t) (named_on b cells named m ts))))
