-- An expression that has types gives objects of these, if the routines that it calls do.
use Rattle.std.proofs.Common.{◌≡◌, ℕ, Bool, true, false, List, [], ◌∷◌, ◌++◌, Option, None, Some, refl, sym, ap, subst, ◌∙◌, inl, inr}
use Rattle.std.specs.Prelude.{codes, cond}
use Rattle.std.proofs.lemmas.Bool.{false≢true, and_parts, and_from}
use Rattle.clu_base.specs.declared.constants.Const.{Const}
use Rattle.clu_base.specs.declared.constants.Const.TheVariants as constant_of
use Rattle.clu_types.specs.CluType.{CluType, bool_type, int_type, proc_of, iter_of, CluTypes, no_types, type_and, Signals, no_signals, signal_and}
use Rattle.clu_types.specs.Substituted.{substituted}
use Rattle.clu_types.specs.Included.{IsNarrowerProc, IsNarrowerIter, Included, HasSignal, AreAmong}
use Rattle.clu_builtin.specs.Operation.{one}
use Rattle.clu_layout.specs.Objects.{Routine, operation_of, Object, bool_object, routine_object, sealed, Cell, own_type, own_types, object_of, routine_substituted}
use Rattle.clu_layout.specs.SameType.{is_routine_type, fits, all_fit}
use Rattle.clu_layout.proofs.SameTypeLaws.{fits_included, type_same}
use Rattle.clu_layout.proofs.CellLaws.{Longer, longer_trans}
use Rattle.clu_meaning.specs.Programs.{Expression, constant, constant_parameter, variable, routine, parenthesized, operator, negated, cand, cor, call, fields, elements, elements_from, up, down, besides, Expressions, no_expressions, expression_and, Components, no_components, component_and, ClusterDefinition, Program}
use Rattle.clu_meaning.specs.Computations.{Ending, raised, Computation, gives, need, needed, with_one, with_bool, with_routine}
use Rattle.clu_meaning.specs.Binding.{opened}
use Rattle.clu_meaning.specs.Operations.{headed, may_name}
use Rattle.clu_meaning.specs.Calls.{Round, here, Level}
use Rattle.clu_meaning.specs.Expressions.{constant_at, each_with, value, condition, cluster_type, seals_here, opens_here, invokes, operates, eval, eval_all, eval_components}
use Rattle.clu_meaning.specs.Typed.{representation_of, fits_in, IsTyped, AllTyped}
use Rattle.clu_meaning.proofs.TypedFacts.{typed_on, all_on}
use Rattle.clu_meaning.proofs.TypedComputing.{Belongs}
use Rattle.clu_meaning.proofs.TypedHeadings.{HomeIs}
use Rattle.laws_sound.specs.Raises.{Raise, Takes, Covers, failing, listed, raised_by}
use Rattle.laws_sound.specs.WellTyped.{NamedTypes, each_of_type, HasOperation, Names, Seals, Opens, HasTypes, HaveTypes, ComponentsHave}
use Rattle.laws_sound.proofs.Safe.{Sound, sound_as, sound_gives, sound_need, sound_needed, sound_either, sound_counts, sound_and_then, AreOf, IsOf}
use Rattle.laws_sound.proofs.Shapes.{fits_itself, included_is, included_routine, bool_is, routine_is, sealed_is}
use Rattle.laws_sound.proofs.Moves.{OnlyRaises, sound_uses}
use Rattle.laws_sound.proofs.Transitive.{trans_all}
use Rattle.laws_sound.proofs.Invoking.{sound_compared}
use Rattle.laws_sound.proofs.Constructing.{NamedAre, no_named, each_named, named_and, named_on, sound_makes_elements, sound_makes_from, sound_makes_fields}

-- ---- constants

object_typed : (program : Program) (lawful : Routine → Type 0) (cells : List Cell) (c : Const) → IsTyped program lawful cells (object_of c)
object_typed program lawful cells constant_of.Null = tt
object_typed program lawful cells (constant_of.Bool b) = tt
object_typed program lawful cells (constant_of.Int n) = tt
object_typed program lawful cells (constant_of.Char c) = tt
object_typed program lawful cells (constant_of.Str s) = tt

-- ---- routine types

has_takes : (n : List ℕ) (ts : CluTypes) (many : Signals) (name : List ℕ) (os : List Object) → HasSignal n ts many → (n ≡ name) × (all_fit (own_types os) ts ≡ true) → Takes (listed many) name os
has_takes n ts no_signals name os h k = absurd h
has_takes n ts (signal_and m us later) name os (inl h) k = inl (h.0 ∙ k.0, subst (λ v. all_fit (own_types os) v ≡ true) (sym h.1) k.1)
has_takes n ts (signal_and m us later) name os (inr h) k = inr (has_takes n ts later name os h k)

among_takes : (few many : Signals) (name : List ℕ) (os : List Object) → AreAmong few many → Takes (listed few) name os → Takes (listed many) name os
among_takes no_signals many name os a h = absurd h
among_takes (signal_and n ts rest) many name os a (inl h) = has_takes n ts many name os a.0 h
among_takes (signal_and n ts rest) many name os a (inr h) = among_takes rest many name os a.1 h

among_same : (ss : Signals) (more : Signals) → ((name : List ℕ) (os : CluTypes) → HasSignal name os ss → HasSignal name os more) → AreAmong ss more
among_same no_signals more h = tt
among_same (signal_and n ts rest) more h = (h n ts (inl (refl, refl)), among_same rest more (λ name os k. h name os (inr k)))

pub among_itself : (ss : Signals) → AreAmong ss ss
among_itself ss = among_same ss ss (λ name os h. h)

-- an object whose type is a proctype has it with fewer signals
pub proc_fits : (own : CluType) (args results : CluTypes) (many : Signals) → fits own (proc_of args results many) ≡ true → (few : Signals) × (own ≡ proc_of args results few) × AreAmong few many
proc_fits own args results many e = by own (fits_included own (proc_of args results many) e)
  where
    narrower : (own : CluType) → IsNarrowerProc args results many own → (few : Signals) × (own ≡ proc_of args results few) × AreAmong few many
    narrower (proc_of args' results' few) h = (few, rw (h.0, h.1) refl, h.2)
    narrower _ h = absurd h

    by : (own : CluType) → Included own (proc_of args results many) → (few : Signals) × (own ≡ proc_of args results few) × AreAmong few many
    by own (inl e) = (many, e, among_itself many)
    by own (inr h) = narrower own h

pub iter_fits : (own : CluType) (args results : CluTypes) (many : Signals) → fits own (iter_of args results many) ≡ true → (few : Signals) × (own ≡ iter_of args results few) × AreAmong few many
iter_fits own args results many e = by own (fits_included own (iter_of args results many) e)
  where
    narrower : (own : CluType) → IsNarrowerIter args results many own → (few : Signals) × (own ≡ iter_of args results few) × AreAmong few many
    narrower (iter_of args' results' few) h = (few, rw (h.0, h.1) refl, h.2)
    narrower _ h = absurd h

    by : (own : CluType) → Included own (iter_of args results many) → (few : Signals) × (own ≡ iter_of args results few) × AreAmong few many
    by own (inl e) = (many, e, among_itself many)
    by own (inr h) = narrower own h

-- what a routine with fewer signals raises is covered
pub fewer_covered : (few many : Signals) (rs : List Raise) → AreAmong few many → Covers (raised_by many) rs → Covers (raised_by few) rs
fewer_covered few many rs a c = record { at = λ name os h. c.at name os (by name os h) }
  where
    by : (name : List ℕ) (os : List Object) → Takes (raised_by few) name os → Takes (raised_by many) name os
    by name os (inl h) = inl h
    by name os (inr h) = inr (among_takes few many name os a h)

-- ---- what routines that are called do: the hypothesis of the step

pub record CalledWell (program : Program) (lawful : Routine → Type 0) (low : Level) : Type 0 where
  pub calls : (r : Routine) (args results : CluTypes) (ss : Signals) → headed program r ≡ Some (proc_of args results ss) → lawful r → (round : Round) (base : List Cell) (os : List Object) → AllTyped program lawful base os →
      all_fit (own_types os) args ≡ true → Sound program lawful round base (AreOf program lawful results) (OnlyRaises program lawful (raised_by ss)) (invokes program low round r os)

module _ (program : Program) (lawful : Routine → Type 0) (round : Round) where
  -- ---- one object of a type, and then anything

  module _ {A : Type 0} (base : List Cell) (P : List Cell → A → Type 0) (Q : List Cell → Ending → Type 0) where
    with_one_sound : (t : CluType) (os : List Object) (f : Object → Computation A) → AreOf program lawful (one t) base os →
        ((o : Object) → IsOf program lawful t base o → Sound program lawful round base P Q (f o)) → Sound program lawful round base P Q (with_one os f)
    unfolding with_one
    with_one_sound t (o ∷ []) f h k = k o (h.0.0, (and_parts (fits (own_type o) t) true h.1).0)
    with_one_sound t [] f h k = absurd (false≢true h.1)
    with_one_sound t (o ∷ p ∷ os) f h k = absurd (false≢true (and_parts (fits (own_type o) t) false h.1).1)

    with_bool_sound : (o : Object) (f : Bool → Computation A) → IsOf program lawful bool_type base o → ((b : Bool) → Sound program lawful round base P Q (f b)) → Sound program lawful round base P Q (with_bool o f)
    unfolding with_bool
    with_bool_sound o f t h =
        let is = bool_is program lawful base o t.0 (included_is (own_type o) bool_type refl refl t.1) in
        subst (λ x. Sound program lawful round base P Q (with_bool x f)) (sym is.1) (h is.0)

  module _ {A : Type 0} (base : List Cell) (P : List Cell → A → Type 0) (Q : List Cell → Ending → Type 0) where
    pub sound_value : (t : CluType) (m : Computation (List Object)) (f : Object → Computation A) → Sound program lawful round base (AreOf program lawful (one t)) Q m →
        ((cells : List Cell) → Longer base cells → (o : Object) → IsOf program lawful t cells o → Sound program lawful round cells P Q (f o)) → Sound program lawful round base P Q (value m f)
    sound_value t m f g h = sound_and_then program lawful round base (AreOf program lawful (one t)) P Q m _ g (λ cells l os typed. with_one_sound cells P Q t os f typed (h cells l))

    pub sound_condition : (m : Computation (List Object)) (f : Bool → Computation A) → Sound program lawful round base (AreOf program lawful (one bool_type)) Q m →
        ((cells : List Cell) → Longer base cells → (b : Bool) → Sound program lawful round cells P Q (f b)) → Sound program lawful round base P Q (condition m f)
    sound_condition m f g h = sound_value bool_type m _ g (λ cells l o t. with_bool_sound cells P Q o f t (h cells l))

  -- ---- objects of these types, or one of these exceptions

  abbrev pub Gives : CluTypes → List Raise → List Cell → Computation (List Object) → Type 0
  Gives ts rs base m = Sound program lawful round base (AreOf program lawful ts) (OnlyRaises program lawful rs) m

  pub raised_more : (few many : List Raise) → Covers few many → (cells : List Cell) (e : Ending) → OnlyRaises program lawful few cells e → OnlyRaises program lawful many cells e
  raised_more few many c cells (raised name os) h = (h.0, c.at name os h.1)
  raised_more few many c cells _ h = absurd h.1

  gives_more : (ts : CluTypes) (few many : List Raise) (base : List Cell) (m : Computation (List Object)) → Covers few many → Gives ts few base m → Gives ts many base m
  gives_more ts few many base m c h = sound_as program lawful round base _ _ (OnlyRaises program lawful few) (OnlyRaises program lawful many) m (λ cells a k. k) (raised_more few many c) h

  one_of : (o : Object) (t : CluType) → fits (own_type o) t ≡ true → all_fit (own_types (o ∷ [])) (one t) ≡ true
  one_of o t h = and_from (fits (own_type o) t) true h refl

  gives_object : (o : Object) (t : CluType) (rs : List Raise) (base : List Cell) → ((cells : List Cell) → Longer base cells → IsTyped program lawful cells o) → fits (own_type o) t ≡ true → Gives (one t) rs base (gives (o ∷ []))
  gives_object o t rs base typed fit = sound_gives program lawful round base _ _ (o ∷ []) (λ cells l. ((typed cells l, tt), one_of o t fit))

  as_types : (ts us : CluTypes) (rs : List Raise) (base : List Cell) (m : Computation (List Object)) → ts ≡ us → Gives us rs base m → Gives ts rs base m
  as_types ts us rs base m e h = subst (λ vs. Gives vs rs base m) (sym e) h

  -- ---- a routine object that is called

  pub with_proc : {A : Type 0} (base : List Cell) (P : List Cell → A → Type 0) (Q : List Cell → Ending → Type 0) (args results : CluTypes) (many : Signals) (o : Object) (g : Routine → Computation A) → IsOf program lawful (proc_of args results many) base o →
      ((r : Routine) (few : Signals) → headed program r ≡ Some (proc_of args results few) → lawful r → AreAmong few many → Sound program lawful round base P Q (g r)) → Sound program lawful round base P Q (with_routine o g)
  unfolding with_routine
  with_proc base P Q args results many o g t h =
      let is = proc_fits (own_type o) args results many t.1 in
      let r = routine_is program lawful base o t.0 (ap is_routine_type is.1) in
      subst (λ x. Sound program lawful round base P Q (with_routine x g)) (sym r.1) (h r.0 is.0 (r.2 ∙ ap Some is.1) r.3 is.2)

  pub with_iter : {A : Type 0} (base : List Cell) (P : List Cell → A → Type 0) (Q : List Cell → Ending → Type 0) (args results : CluTypes) (many : Signals) (o : Object) (g : Routine → Computation A) → IsOf program lawful (iter_of args results many) base o →
      ((r : Routine) (few : Signals) → headed program r ≡ Some (iter_of args results few) → lawful r → AreAmong few many → Sound program lawful round base P Q (g r)) → Sound program lawful round base P Q (with_routine o g)
  unfolding with_routine
  with_iter base P Q args results many o g t h =
      let is = iter_fits (own_type o) args results many t.1 in
      let r = routine_is program lawful base o t.0 (ap is_routine_type is.1) in
      subst (λ x. Sound program lawful round base P Q (with_routine x g)) (sym r.1) (h r.0 is.0 (r.2 ∙ ap Some is.1) r.3 is.2)

-- ---- the step

module _ (program : Program) (lawful : Routine → Type 0) (low : Level) (called : CalledWell program lawful low) (round : Round) (belongs : Belongs program (here round)) (home : HomeIs program (here round).home) where
  pub sound_operation : (rs : List Raise) (name : List ℕ) (t : CluType) (us ts : CluTypes) → HasOperation program lawful (here round) rs name t us ts → (base : List Cell) (o : Object) (os : List Object) →
      IsOf program lawful t base o → AreOf program lawful us base os → Gives program lawful round ts rs base (operates program low round name (o ∷ os))
  unfolding operates
  sound_operation rs name t us ts (inl i) base o os ho hos =
      let own = included_is (own_type o) t i.object i.plain ho.1 in
      subst (λ T. Gives program lawful round ts rs base (need (may_name program (here round).home (operation_of T name)) (invokes program low round (operation_of T name) (o ∷ os)))) (sym own)
      (sound_need program lawful round base _ _ _ _ i.may
      (gives_more program lawful round ts (raised_by i.signals) rs base _ i.raises
      (called.calls (operation_of t name) i.args ts i.signals i.heading i.law round base (o ∷ os) (ho.0, hos.0)
      (trans_all (own_types (o ∷ os)) (type_and t us) i.args (and_from (fits (own_type o) t) (all_fit (own_types os) us) ho.1 hos.1) i.fit))))
  sound_operation rs name t us ts (inr i) base o os ho hos =
      as_types program lawful round ts (one bool_type) rs base _ i.results
      (subst (λ n. Gives program lawful round (one bool_type) rs base (need (may_name program (here round).home (operation_of (own_type o) n)) (invokes program low round (operation_of (own_type o) n) (o ∷ os)))) (sym i.is_equal)
      (gives_more program lawful round (one bool_type) (failing ∷ []) rs base _ i.raises
      (sound_compared program lawful low round base o os ho.0 (included_routine (own_type o) t i.first ho.1) i.other i.second hos.0 (subst (λ vs. all_fit (own_types os) vs ≡ true) i.rest hos.1))))

  sound_named : (p : Routine) (rs : List Raise) (ts : CluTypes) → Names program lawful (here round) p ts → (base : List Cell) →
      Gives program lawful round ts rs base (need (may_name program (here round).home p) (needed (headed program p) (λ heading. gives (routine_object p heading ∷ []))))
  sound_named p rs ts n base = as_types program lawful round ts (one n.heading) rs base _ n.is (sound_need program lawful round base _ _ _ _ n.may
      (sound_needed program lawful round base _ _ (headed program p) _ n.heading n.there (gives_object program lawful round (routine_object p n.heading) n.heading rs base (λ cells l. (n.there, n.law)) (fits_itself n.heading))))

  -- ---- up and down

  sound_seals : (u : CluType) (ts : CluTypes) (rs : List Raise) (base : List Cell) (o : Object) → Seals program lawful (here round) u ts → IsOf program lawful u base o → Gives program lawful round ts rs base (seals_here (here round) o)
  sound_seals u ts rs base o s ho =
      let fit = (and_parts (fits (own_type o) (substituted (here round).given s.cluster.representation)) true
      (trans_all (own_types (o ∷ [])) (one u) (one (substituted (here round).given s.cluster.representation)) (one_of program lawful round o u ho.1) (and_from (fits u (substituted (here round).given s.cluster.representation)) true s.fit refl))).0 in
      let is : HomeIs program (Some s.cluster) = subst (HomeIs program) s.here home in
      as_types program lawful round ts (one (cluster_type s.cluster (here round).given)) rs base _ s.is
      (sound_needed program lawful round base _ _ (here round).home _ s.cluster s.here (sound_need program lawful round base _ _ _ _ fit
      (gives_object program lawful round (sealed s.cluster.name (here round).given o) (cluster_type s.cluster (here round).given) rs base
      (λ cells l. (typed_on program lawful base cells l o ho.0, subst (λ m. fits_in (representation_of (here round).given m) o ≡ true) (sym is) fit)) (fits_itself (cluster_type s.cluster (here round).given)))))

  sound_opens : (u : CluType) (ts : CluTypes) (rs : List Raise) (base : List Cell) (o : Object) → Opens program lawful (here round) u ts → IsOf program lawful u base o → Gives program lawful round ts rs base (opens_here (here round) o)
  sound_opens u ts rs base o s ho =
      let T : CluType = cluster_type s.cluster (here round).given in
      let own : own_type o ≡ T = included_is (own_type o) T refl refl (subst (λ v. fits (own_type o) v ≡ true) s.sealed ho.1) in
      let is = sealed_is program lawful base o s.cluster.name (here round).given ho.0 own in
      let typed : IsTyped program lawful base (sealed s.cluster.name (here round).given is.0) = subst (IsTyped program lawful base) is.1 ho.0 in
      let m : HomeIs program (Some s.cluster) = subst (HomeIs program) s.here home in
      let fit : fits (own_type is.0) (substituted (here round).given s.cluster.representation) ≡ true = subst (λ found. fits_in (representation_of (here round).given found) is.0 ≡ true) m typed.1 in
      as_types program lawful round ts (one (substituted (here round).given s.cluster.representation)) rs base _ s.is
      (sound_needed program lawful round base _ _ (here round).home _ s.cluster s.here
      (sound_needed program lawful round base _ _ _ _ is.0 (ap (unsealed_of s.cluster) is.1 ∙ ap (λ b. found_inside b is.0) (type_same T))
      (gives_object program lawful round is.0 (substituted (here round).given s.cluster.representation) rs base (λ cells l. typed_on program lawful base cells l is.0 typed.0) fit)))
    where
      unsealed_of : ClusterDefinition → Object → Option Object
      unsealed_of cluster x = opened (cluster_type cluster (here round).given) x

      found_inside : Bool → Object → Option Object
      found_inside b x = cond b (Some x) None

  -- ---- expressions

  mutual
    unfolding eval eval_all eval_components

    pub sound_expression : (rs : List Raise) (e : Expression) (ts : CluTypes) → HasTypes program lawful (here round) rs e ts → (base : List Cell) → Gives program lawful round ts rs base (eval program low round e)
    sound_expression rs (constant c) ts h base = as_types program lawful round ts (one (own_type (object_of c))) rs base _ h (sound_counts program lawful round base _ _ 1 _
        (gives_object program lawful round (object_of c) (own_type (object_of c)) rs base (λ cells l. object_typed program lawful cells c) (fits_itself (own_type (object_of c)))))
    sound_expression rs (constant_parameter n) ts (c, there, is) base = as_types program lawful round ts (one (own_type (object_of c))) rs base _ is (sound_counts program lawful round base _ _ 1 _
        (sound_needed program lawful round base _ _ (constant_at (here round).given n) _ c there
        (gives_object program lawful round (object_of c) (own_type (object_of c)) rs base (λ cells l. object_typed program lawful cells c) (fits_itself (own_type (object_of c))))))
    sound_expression rs (variable x) ts (t, declared, is, fails) base = as_types program lawful round ts (one t) rs base _ is (sound_counts program lawful round base _ _ 1 _
        (sound_uses program lawful round (OnlyRaises program lawful rs) base x t belongs declared (λ cells l text. ((tt, tt), fails.at _ _ (inl (refl, refl))))))
    sound_expression rs (routine p) ts h base = sound_counts program lawful round base _ _ 1 _ (sound_named (routine_substituted (here round).given p) rs ts h base)
    sound_expression rs (parenthesized e) ts (t, h, is) base = as_types program lawful round ts (one t) rs base _ is (sound_counts program lawful round base _ _ 1 _
        (sound_value program lawful round base _ _ t _ _ (sound_expression rs e (one t) h base) (λ cells l o ho. gives_object program lawful round o t rs cells (λ more k. typed_on program lawful cells more k o ho.0) ho.1)))
    sound_expression rs (operator name e es) ts (t, us, he, hes, i) base = sound_counts program lawful round base _ _ 1 _
        (sound_value program lawful round base _ _ t _ _ (sound_expression rs e (one t) he base) (λ cells l o ho.
        sound_and_then program lawful round cells (AreOf program lawful us) _ _ _ _ (sound_expressions rs es us hes cells) (λ more k os hos.
        sound_operation rs name t us ts i more o os (typed_on program lawful cells more k o ho.0, ho.1) hos)))
    sound_expression rs (negated name e es) ts (t, us, v, he, hes, i, j) base = sound_counts program lawful round base _ _ 1 _
        (sound_value program lawful round base _ _ t _ _ (sound_expression rs e (one t) he base) (λ cells l o ho.
        sound_and_then program lawful round cells (AreOf program lawful us) _ _ _ _ (sound_expressions rs es us hes cells) (λ more k os hos.
        sound_value program lawful round more _ _ v _ _ (sound_operation rs name t us (one v) i more o os (typed_on program lawful cells more k o ho.0, ho.1) hos) (λ last m x hx.
        sound_operation rs (codes "not") v no_types ts j last x [] hx (tt, refl)))))
    sound_expression rs (cand e f) ts (he, hf, is) base = as_types program lawful round ts (one bool_type) rs base _ is (sound_counts program lawful round base _ _ 1 _
        (sound_condition program lawful round base _ _ _ _ (sound_expression rs e (one bool_type) he base) (λ cells l b. sound_either program lawful round cells _ _ b _ _
        (λ yes. sound_condition program lawful round cells _ _ _ _ (sound_expression rs f (one bool_type) hf cells) (λ more k c. gives_object program lawful round (bool_object c) bool_type rs more (λ last m. tt) refl))
        (λ no_. gives_object program lawful round (bool_object false) bool_type rs cells (λ more k. tt) refl))))
    sound_expression rs (cor e f) ts (he, hf, is) base = as_types program lawful round ts (one bool_type) rs base _ is (sound_counts program lawful round base _ _ 1 _
        (sound_condition program lawful round base _ _ _ _ (sound_expression rs e (one bool_type) he base) (λ cells l b. sound_either program lawful round cells _ _ b _ _
        (λ yes. gives_object program lawful round (bool_object true) bool_type rs cells (λ more k. tt) refl)
        (λ no_. sound_condition program lawful round cells _ _ _ _ (sound_expression rs f (one bool_type) hf cells) (λ more k c. gives_object program lawful round (bool_object c) bool_type rs more (λ last m. tt) refl)))))
    sound_expression rs (call e es) ts (args, ss, us, he, hes, c) base = sound_counts program lawful round base _ _ 1 _
        (sound_value program lawful round base _ _ (proc_of args ts ss) _ _ (sound_expression rs e (one (proc_of args ts ss)) he base) (λ cells l o ho.
        sound_and_then program lawful round cells (AreOf program lawful us) _ _ _ _ (sound_expressions rs es us hes cells) (λ more k os hos.
        with_proc program lawful round more _ _ args ts ss o _ (typed_on program lawful cells more k o ho.0, ho.1) (λ r few headed_here law among.
        gives_more program lawful round ts (raised_by few) rs more _ (fewer_covered few ss rs among c.raises)
        (called.calls r args ts few headed_here law round more os hos.0 (trans_all (own_types os) us args hos.1 c.fit))))))
    sound_expression rs (fields t cs) ts (named, hcs, fit, is) base = as_types program lawful round ts (one (substituted (here round).given t)) rs base _ is (sound_counts program lawful round base _ _ 1 _
        (sound_and_then program lawful round base (λ cells found. NamedAre program lawful cells found named) _ _ _ _ (sound_components rs cs named hcs base) (λ cells l found are.
        sound_makes_fields program lawful round cells (substituted (here round).given t) rs found named are fit)))
    sound_expression rs (elements t es) ts (us, hes, fit, is, fails) base = as_types program lawful round ts (one (substituted (here round).given t)) rs base _ is (sound_counts program lawful round base _ _ 1 _
        (sound_and_then program lawful round base (AreOf program lawful us) _ _ _ _ (sound_expressions rs es us hes base) (λ cells l os hos.
        sound_makes_elements program lawful round cells (substituted (here round).given t) rs us os hos fit fails)))
    sound_expression rs (elements_from t e es) ts (us, he, hes, fit, is, fails) base = as_types program lawful round ts (one (substituted (here round).given t)) rs base _ is (sound_counts program lawful round base _ _ 1 _
        (sound_value program lawful round base _ _ int_type _ _ (sound_expression rs e (one int_type) he base) (λ cells l o ho.
        sound_and_then program lawful round cells (AreOf program lawful us) _ _ _ _ (sound_expressions rs es us hes cells) (λ more k os hos.
        sound_makes_from program lawful round more (substituted (here round).given t) rs us o os (typed_on program lawful cells more k o ho.0, ho.1) hos fit fails))))
    sound_expression rs (up e) ts (u, he, s) base = sound_counts program lawful round base _ _ 1 _
        (sound_value program lawful round base _ _ u _ _ (sound_expression rs e (one u) he base) (λ cells l o ho. sound_seals u ts rs cells o s ho))
    sound_expression rs (down e) ts (u, he, s) base = sound_counts program lawful round base _ _ 1 _
        (sound_value program lawful round base _ _ u _ _ (sound_expression rs e (one u) he base) (λ cells l o ho. sound_opens u ts rs cells o s ho))
    sound_expression rs (besides n e) ts h base = sound_and_then program lawful round base (AreOf program lawful ts) _ _ _ _ (sound_expression rs e ts h base) (λ cells l os hos.
        sound_counts program lawful round cells _ _ n _ (sound_gives program lawful round cells _ _ os (λ more k. (all_on program lawful cells more k os hos.0, hos.1))))

    pub sound_expressions : (rs : List Raise) (es : Expressions) (ts : CluTypes) → HaveTypes program lawful (here round) rs es ts → (base : List Cell) → Gives program lawful round ts rs base (eval_all program low round es)
    sound_expressions rs no_expressions no_types h base = sound_gives program lawful round base _ _ [] (λ cells l. (tt, refl))
    sound_expressions rs (expression_and e es) (type_and t ts) h base = sound_value program lawful round base _ _ t _ _ (sound_expression rs e (one t) h.0 base) (λ cells l o ho.
        sound_and_then program lawful round cells (AreOf program lawful ts) _ _ _ _ (sound_expressions rs es ts h.1 cells) (λ more k os hos.
        sound_gives program lawful round more _ _ (o ∷ os) (λ last m. ((typed_on program lawful cells last (longer_trans cells more last k m) o ho.0, all_on program lawful more last m os hos.0), and_from (fits (own_type o) t) (all_fit (own_types os) ts) ho.1 hos.1))))
    sound_expressions rs no_expressions (type_and t ts) h base = absurd h
    sound_expressions rs (expression_and e es) no_types h base = absurd h

    sound_components : (rs : List Raise) (cs : Components) (named : NamedTypes) → ComponentsHave program lawful (here round) rs cs named → (base : List Cell) →
        Sound program lawful round base (λ cells found. NamedAre program lawful cells found named) (OnlyRaises program lawful rs) (eval_components program low round cs)
    sound_components rs no_components named h base = sound_gives program lawful round base _ _ [] (λ cells l. no_named program lawful cells named h)
    sound_components rs (component_and names e cs) named (u, rest, he, hcs, is) base = sound_value program lawful round base _ _ u _ _ (sound_expression rs e (one u) he base) (λ cells l o ho.
        sound_and_then program lawful round cells (λ last found. NamedAre program lawful last found rest) _ _ _ _ (sound_components rs cs rest hcs cells) (λ more k found are.
        sound_gives program lawful round more _ _ _ (λ last m. subst (λ ns. NamedAre program lawful last (each_with names o ++ found) ns) (sym is)
        (named_and program lawful last (each_with names o) found (each_of_type names u) rest (each_named program lawful last names o u (typed_on program lawful cells last (longer_trans cells more last k m) o ho.0, ho.1))
        (named_on program lawful more last m found rest are)))))
