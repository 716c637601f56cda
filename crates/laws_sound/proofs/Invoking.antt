-- Invocations of primitive operations don't go wrong.
use Rattle.std.proofs.Common.{◌≡◌, ℕ, Bool, true, false, List, [], ◌∷◌, Option, None, Some, refl, sym, ap, subst, ◌∙◌, inl, inr}
use Rattle.std.specs.Prelude.{◌&&◌, bytes_eq, codes, cond}
use Rattle.std.proofs.lemmas.Bool.{false≢true, true≢false, and_parts, and_from, or_cases, or_left, or_right}
use Rattle.clu_base.proofs.Lists.{same_bytes}
use Rattle.clu_types.specs.CluType.{CluType, bool_type, string_type, any_type, proc_of, iter_of, cluster_of, CluTypes, no_types, type_and, Signals, no_signals, signal_and}
use Rattle.clu_builtin.specs.Operation.{Operation, one, two}
use Rattle.clu_builtin.specs.Table.{Table, named, operation}
use Rattle.clu_layout.specs.Objects.{Routine, operation_of, force_of, Object, bool_object, Cell, own_type, own_types}
use Rattle.clu_layout.specs.SameType.{same_type, same_types, fits, all_fit, has_signal, is_routine_type}
use Rattle.clu_layout.specs.Actions.{World, Outcome, Action, Primitive}
use Rattle.clu_layout.specs.Actions as layout
use Rattle.clu_layout.specs.PlainOperations.{Primitives, routine_equal}
use Rattle.clu_layout.specs.Primitive.{primitives, primitive, may_be_argument, may_be_arguments, gives_results, invoked, invocation, forcing, force_invocation, before, outcome_in, done_in, prim}
use Rattle.clu_layout.specs.Primitive as layout_primitive
use Rattle.clu_layout.proofs.SameTypeLaws.{lists_are, type_same}
use Rattle.clu_layout.proofs.ListedLaws.{IsListed, SignalsOnly, only_gives, only_signals, only_either, only_need, only_and_then, only_counts, only_takes, only_one}
use Rattle.clu_layout.proofs.SignalsListed.{prim_signals}
use Rattle.clu_meaning.specs.Programs.{RoutineDefinition, Program}
use Rattle.clu_meaning.specs.Texts.{text_of, text_given}
use Rattle.clu_meaning.specs.Computations.{need, if_there}
use Rattle.clu_meaning.specs.Operations.{with_definition, of_type, may_name}
use Rattle.clu_meaning.specs.Calls.{Round, here, Level}
use Rattle.clu_meaning.specs.Expressions.{invokes}
use Rattle.clu_meaning.specs.Typed.{IsTyped, AllTyped}
use Rattle.clu_meaning.proofs.TypedFacts.{typed_on, all_on}
use Rattle.clu_meaning.proofs.FittingInvoked.{undefined_fits}
use Rattle.laws_sound.proofs.Safe.{Sound, sound_need, sound_if_there, AreOf}
use Rattle.laws_sound.specs.Raises.{Raise, Takes, failing, listed, raised_by}
use Rattle.laws_sound.proofs.Works.{Done, Works, works_need, works_needed, works_takes, works_counts, works_one, works_routine, works_gives, works_signals, works_same}
use Rattle.laws_sound.proofs.Shapes.{fits_itself, included_routine}
use Rattle.laws_sound.proofs.PlainWorks.{WorksHeaded, AllWork}
use Rattle.laws_sound.proofs.Moves.{sound_does, OnlyRaises}

-- ---- lists of types

pub fit_same : (ts : CluTypes) → all_fit ts ts ≡ true
fit_same no_types = refl
fit_same (type_and t ts) = and_from (fits t t) (all_fit ts ts) (or_left _ _ (or_left _ _ (type_same t))) (fit_same ts)

same_fit : (ts us : CluTypes) → same_types ts us ≡ true → all_fit us ts ≡ true
same_fit ts us e = subst (λ vs. all_fit vs ts ≡ true) (lists_are ts us e) (fit_same ts)

may_be_all : (T : CluType) (ts us : CluTypes) → all_fit ts us ≡ true → may_be_arguments T ts us ≡ true
may_be_all T no_types no_types h = refl
may_be_all T (type_and t ts) (type_and u us) h =
    let parts = and_parts (fits t u) (all_fit ts us) h in
    and_from (may_be_argument T t u) (may_be_arguments T ts us) (or_left (fits t u) _ parts.0) (may_be_all T ts us parts.1)
may_be_all T no_types (type_and u us) h = absurd (false≢true h)
may_be_all T (type_and t ts) no_types h = absurd (false≢true h)

-- ---- signals of a heading as raises

signal_takes : (ss : Signals) (name : List ℕ) (os : List Object) → has_signal name (own_types os) ss ≡ true → Takes (listed ss) name os
signal_takes no_signals name os h = absurd (false≢true h)
signal_takes (signal_and n ts rest) name os h = elim (or_cases (bytes_eq n name && same_types ts (own_types os)) (has_signal name (own_types os) rest) h) [
  | inl first ↦
      let parts = and_parts (bytes_eq n name) (same_types ts (own_types os)) first in
      inl (same_bytes n name parts.0, same_fit ts (own_types os) parts.1)
  | inr later ↦ inr (signal_takes rest name os later)
]

-- what an action may signal
abbrev pub ListedIn : List Raise → Outcome → Type 0
ListedIn raisable (layout.returned os w) = Unit {0}
ListedIn raisable (layout.signalled name os w) = Takes raisable name os
ListedIn raisable layout.wrong = Unit {0}

pub listed_in : (ss : Signals) (o : Outcome) → IsListed ss o → ListedIn (raised_by ss) o
listed_in ss (layout.returned os w) h = tt
listed_in ss (layout.signalled name os w) h = signal_takes (signal_and (codes "failure") (type_and string_type no_types) ss) name os h
listed_in ss layout.wrong h = tt

-- ---- which operations are primitive

abbrev pub Covered : Option RoutineDefinition → Option Primitive → Type 0
Covered None None = ⊥
Covered _ _ = Unit {0}

abbrev pub Rows : CluType → Table → Type 0
Rows T [] = Unit {0}
Rows T ((name, h) ∷ rest) = Covered (text_of T name) (primitive T name) × Rows T rest

no_some : {A : Type 0} {x : A} → None ≡ Some x → ⊥
no_some e = subst is_none e tt
  where
    is_none : {A : Type 0} → Option A → Type 0
    is_none None = Unit {0}
    is_none (Some x) = ⊥

row_by : (T : CluType) (name : List ℕ) (x : Operation) (found : Option Operation) (op : List ℕ) (h : Operation) (b : Bool) → bytes_eq name op ≡ b → Covered (text_of T name) (primitive T name) →
    cond (bytes_eq name op) (Some x) found ≡ Some h → (found ≡ Some h → Covered (text_of T op) (primitive T op)) → Covered (text_of T op) (primitive T op)
row_by T name x found op h true is c e later = subst (λ n. Covered (text_of T n) (primitive T n)) (same_bytes name op is) c
row_by T name x found op h false is c e later = later (sym (ap (λ b. cond b (Some x) found) is) ∙ e)

pub row_named : (T : CluType) (table : Table) → Rows T table → (op : List ℕ) (h : Operation) → named table op ≡ Some h → Covered (text_of T op) (primitive T op)
row_named T [] rows op h e = absurd (no_some e)
row_named T ((name, x) ∷ rest) rows op h e = row_by T name x (named rest op) op h (bytes_eq name op) refl rows.0 e (λ k. row_named T rest rows.1 op h k)

-- ---- an operation of a type whose primitive operations work

module _ (program : Program) (lawful : Routine → Type 0) where
  abbrev WorksIfThere : Option Operation → Option Primitive → Type 0
  WorksIfThere h None = Unit {0}
  WorksIfThere h (Some p) = WorksHeaded program lawful h p

  chosen_works : (heading : List ℕ → Option Operation) (name op : List ℕ) (p : Primitive) (found : Option Primitive) (b : Bool) → bytes_eq name op ≡ b → WorksHeaded program lawful (heading name) p → WorksIfThere (heading op) found →
      WorksIfThere (heading op) (cond b (Some p) found)
  chosen_works heading name op p found true e f g = subst (λ n. WorksHeaded program lawful (heading n) p) (same_bytes name op e) f
  chosen_works heading name op p found false e f g = g

  named_works : (heading : List ℕ → Option Operation) (ps : Primitives) → AllWork program lawful heading ps → (op : List ℕ) → WorksIfThere (heading op) (layout_primitive.named ps op)
  named_works heading [] f op = tt
  named_works heading ((name, p) ∷ rest) f op = chosen_works heading name op p (layout_primitive.named rest op) (bytes_eq name op) refl f.0 (named_works heading rest f.1 op)

  module _ (base : List Cell) where
    given_done : (results : CluTypes) (o : Outcome) → Done results o → Done results (layout.continued (gives_results results) o)
    unfolding layout.continued layout.need layout.takes layout.gives_all
    given_done results (layout.returned os w) d = subst (λ b. Done results (layout.need b (layout.takes (layout_primitive.words_for_all results) (layout.gives_all os)) w)) (sym d) d
    given_done results (layout.signalled name os w) d = tt
    given_done results layout.wrong d = d

    given_works : (results : CluTypes) (action : Action) → Works program lawful base results action → Works program lawful base results (layout.and_then action (gives_results results))
    unfolding layout.and_then
    given_works results action h = record { at = λ w e l. given_done results (action w) (h.at w e l) }

    invoked_works : (T : CluType) (h : Operation) (p : Primitive) (os : List Object) → AllTyped program lawful base os → all_fit (own_types os) h.args ≡ true → WorksHeaded program lawful (Some h) p →
        Works program lawful base h.results (invoked T h p os)
    unfolding layout.takes layout.counts
    invoked_works T h p os typed fit f = works_need program lawful base h.results _ _ (may_be_all T (own_types os) h.args fit)
        (let w = given_works h.results (p os) (f base os typed fit) in record { at = λ world e l. w.at _ e l })

    invocation_works : (T : CluType) (op : List ℕ) (h : Operation) (p : Primitive) (os : List Object) → operation T op ≡ Some h → primitive T op ≡ Some p → AllTyped program lawful base os → all_fit (own_types os) h.args ≡ true →
        WorksHeaded program lawful (Some h) p → Works program lawful base h.results (invocation T op os)
    unfolding layout.needed
    invocation_works T op h p os e k typed fit f = subst (λ found. Works program lawful base h.results (layout.needed found (λ heading. layout.needed (primitive T op) (λ q. invoked T heading q os)))) (sym e)
        (subst (λ found. Works program lawful base h.results (layout.needed found (λ q. invoked T h q os))) (sym k) (invoked_works T h p os typed fit f))

  -- ---- as computations

  abbrev is_cluster : CluType → Bool
  is_cluster (cluster_of c given) = true
  is_cluster _ = false

  none_defined : (r : Routine) (T : CluType) (op : List ℕ) → is_cluster T ≡ false → text_of T op ≡ None → of_type program r T op ≡ None
  none_defined r (cluster_of c given) op n e = absurd (true≢false n)
  none_defined r T op n e = ap (with_definition r (text_given T) None) e

  none_some : {A : Type 0} {x : A} → None ≡ Some x → ⊥
  none_some e = subst is_none e tt
    where
      is_none : {A : Type 0} → Option A → Type 0
      is_none None = Unit {0}
      is_none (Some x) = ⊥

  some_is : {A : Type 0} (o : Option A) → (o ≡ None → ⊥) → (x : A) × (o ≡ Some x)
  some_is (Some x) h = (x, refl)
  some_is None h = absurd (h refl)

  covered_some : (T : CluType) (op : List ℕ) → text_of T op ≡ None → Covered (text_of T op) (primitive T op) → (p : Primitive) × (primitive T op ≡ Some p)
  covered_some T op none h = some_is (primitive T op) (λ e. subst (λ p. Covered None p) e (subst (λ t. Covered t (primitive T op)) none h))

  module _ (low : Level) (round : Round) where
    -- an operation of a type whose primitive operations work, where no text defines it
    pub sound_primitive : (T : CluType) (op : List ℕ) (h : Operation) (base : List Cell) (os : List Object) → is_cluster T ≡ false → text_of T op ≡ None → operation T op ≡ Some h →
        AllWork program lawful (operation T) (primitives T) → Covered (text_of T op) (primitive T op) → AllTyped program lawful base os → all_fit (own_types os) h.args ≡ true →
        Sound program lawful round base (AreOf program lawful h.results) (OnlyRaises program lawful (raised_by h.signals)) (invokes program low round (operation_of T op) os)
    unfolding prim
    sound_primitive T op h base os plain none e works covered typed fit =
        let p = covered_some T op none covered in
        let f : WorksHeaded program lawful (Some h) p.0 = subst (λ x. WorksHeaded program lawful x p.0) e (subst (WorksIfThere (operation T op)) p.1 (named_works (operation T) (primitives T) works op)) in
        sound_if_there program lawful round base (AreOf program lawful h.results) (OnlyRaises program lawful (raised_by h.signals)) (of_type program (operation_of T op) T op) _ _
        (λ callee found. absurd (none_some (sym (none_defined (operation_of T op) T op plain none) ∙ found)))
        (λ undefined_here. sound_does program lawful round h.results (raised_by h.signals) base (invocation T op os)
        (λ cells l. undefined_fits program lawful cells os (all_on program lawful base cells l os typed) (operation_of T op))
        (λ cells l. invocation_works cells T op h p.0 os e p.1 (all_on program lawful base cells l os typed) fit f)
        (λ w. listed_in h.signals (done_in w (invocation T op os)) (prim_signals T op os w h e)))

    -- ---- equal of two routines, whose own types may differ

    none_for_routines : (T : CluType) (op : List ℕ) → is_routine_type T ≡ true → (is_cluster T ≡ false) × (text_of T op ≡ None)
    none_for_routines (proc_of ts rs ss) op r = (refl, refl)
    none_for_routines (iter_of ts rs ss) op r = (refl, refl)
    none_for_routines _ op r = absurd (false≢true r)

    compared_heading : (T : CluType) → is_routine_type T ≡ true → operation T (codes "equal") ≡ Some (record { iter = false; args = two T T; results = one bool_type; signals = no_signals; needs = [] })
    compared_heading (proc_of ts rs ss) r = refl
    compared_heading (iter_of ts rs ss) r = refl
    compared_heading _ r = absurd (false≢true r)

    compared_primitive : (T : CluType) → is_routine_type T ≡ true → primitive T (codes "equal") ≡ Some routine_equal
    compared_primitive (proc_of ts rs ss) r = refl
    compared_primitive (iter_of ts rs ss) r = refl
    compared_primitive _ r = absurd (false≢true r)

    may_compare : (T u : CluType) → is_routine_type T ≡ true → is_routine_type u ≡ true → may_be_arguments T (two T u) (two T T) ≡ true
    may_compare T u r k = and_from (may_be_argument T T T) (may_be_arguments T (one u) (one T)) (or_left (fits T T) _ (fits_itself T))
        (and_from (may_be_argument T u T) true (or_right (fits u T) _ (and_from (is_routine_type T && is_routine_type u) (is_routine_type T) (and_from (is_routine_type T) (is_routine_type u) r k) r)) refl)

    compared_works : (base : List Cell) (T : CluType) (o p : Object) → is_routine_type T ≡ true → IsTyped program lawful base o → own_type o ≡ T → IsTyped program lawful base p → is_routine_type (own_type p) ≡ true →
        Works program lawful base (one bool_type) (invocation T (codes "equal") (o ∷ p ∷ []))
    unfolding layout.with_two layout.takes layout.counts
    compared_works base T o p r to own tp k =
        works_needed program lawful base (one bool_type) _ _ _ (compared_heading T r) (works_needed program lawful base (one bool_type) _ _ routine_equal (compared_primitive T r)
        (works_need program lawful base (one bool_type) _ _ (subst (λ U. may_be_arguments T (two U (own_type p)) (two T T) ≡ true) (sym own) (may_compare T (own_type p) r k))
        (works_takes program lawful base (one bool_type) _ _ (works_counts program lawful base (one bool_type) 1 _ (given_works base (one bool_type) (routine_equal (o ∷ p ∷ []))
        (works_routine program lawful base (one bool_type) o _ to (ap is_routine_type own ∙ r) (λ f. works_routine program lawful base (one bool_type) p _ tp k (λ g.
        works_gives program lawful base (one bool_type) (bool_object _ ∷ []) refl))))))))

    pub sound_compared : (base : List Cell) (o : Object) (os : List Object) → IsTyped program lawful base o → is_routine_type (own_type o) ≡ true → (other : CluType) → is_routine_type other ≡ true → AllTyped program lawful base os → all_fit (own_types os) (one other) ≡ true →
        Sound program lawful round base (AreOf program lawful (one bool_type)) (OnlyRaises program lawful (failing ∷ [])) (need (may_name program (here round).home (operation_of (own_type o) (codes "equal"))) (invokes program low round (operation_of (own_type o) (codes "equal")) (o ∷ os)))
    unfolding prim
    sound_compared base o (p ∷ []) to r other k typed fit =
        let T : CluType = own_type o in
        let routine : is_routine_type (own_type p) ≡ true = included_routine (own_type p) other k (and_parts (fits (own_type p) other) true fit).0 in
        let none = none_for_routines T (codes "equal") r in
        sound_need program lawful round base _ _ _ _ (routine_named T r)
        (sound_if_there program lawful round base (AreOf program lawful (one bool_type)) (OnlyRaises program lawful (failing ∷ [])) (of_type program (operation_of T (codes "equal")) T (codes "equal")) _ _
        (λ callee found. absurd (none_some (sym (none_defined (operation_of T (codes "equal")) T (codes "equal") none.0 none.1) ∙ found)))
        (λ undefined_here. sound_does program lawful round (one bool_type) (failing ∷ []) base (invocation T (codes "equal") (o ∷ p ∷ []))
        (λ cells l. undefined_fits program lawful cells (o ∷ p ∷ []) (all_on program lawful base cells l (o ∷ p ∷ []) (to, typed)) (operation_of T (codes "equal")))
        (λ cells l. compared_works cells T o p r (typed_on program lawful base cells l o to) refl (typed_on program lawful base cells l p typed.0) routine)
        (λ w. listed_in no_signals (done_in w (invocation T (codes "equal") (o ∷ p ∷ []))) (prim_signals T (codes "equal") (o ∷ p ∷ []) w _ (compared_heading T r)))))
      where
        routine_named : (T : CluType) → is_routine_type T ≡ true → may_name program (here round).home (operation_of T (codes "equal")) ≡ true
        routine_named (proc_of ts rs ss) r = refl
        routine_named (iter_of ts rs ss) r = refl
        routine_named _ r = absurd (false≢true r)
    sound_compared base o [] to r other k typed fit = absurd (false≢true fit)
    sound_compared base o (p ∷ q ∷ os) to r other k typed fit = absurd (false≢true (and_parts (fits (own_type p) other) false fit).1)

    -- ---- force

    forcing_works : (base : List Cell) (t : CluType) (os : List Object) → AllTyped program lawful base os → all_fit (own_types os) (one any_type) ≡ true → Works program lawful base (one t) (forcing t os)
    unfolding layout.either
    forcing_works base t os typed fit = works_one program lawful base (one t) any_type os _ typed fit (λ o to fo. by o (same_type (own_type o) t) refl)
      where
        by : (o : Object) (b : Bool) → same_type (own_type o) t ≡ b → Works program lawful base (one t) (layout.either (same_type (own_type o) t) (layout.gives o) (layout.signals_with (codes "wrong_type") []))
        by o true e = subst (λ b. Works program lawful base (one t) (layout.either b (layout.gives o) (layout.signals_with (codes "wrong_type") []))) (sym e)
            (works_same program lawful base t o (or_left _ _ (or_left _ _ e)))
        by o false e = subst (λ b. Works program lawful base (one t) (layout.either b (layout.gives o) (layout.signals_with (codes "wrong_type") []))) (sym e)
            (works_signals program lawful base (one t) (codes "wrong_type") [])

    force_only : (t : CluType) (os : List Object) → SignalsOnly (signal_and (codes "wrong_type") no_types no_signals) (force_invocation t os)
    unfolding layout.takes layout.counts
    force_only t os = only_need ss _ _ (only_takes ss _ _ (only_counts ss 1 _ (only_and_then ss (forcing t os) _ (only_one ss os _ (λ o. only_either ss _ _ _ (only_gives ss (o ∷ [])) (only_signals ss (codes "wrong_type") [] refl)))
        (λ given. only_need ss _ _ (only_takes ss _ _ (only_gives ss given))))))
      where
        ss : Signals
        ss = signal_and (codes "wrong_type") no_types no_signals

    pub sound_force : (t : CluType) (base : List Cell) (os : List Object) → AllTyped program lawful base os → all_fit (own_types os) (one any_type) ≡ true →
        Sound program lawful round base (AreOf program lawful (one t)) (OnlyRaises program lawful (raised_by (signal_and (codes "wrong_type") no_types no_signals))) (invokes program low round (force_of t) os)
    unfolding layout.takes layout.counts done_in if_there
    sound_force t base os typed fit = sound_does program lawful round (one t) (raised_by (signal_and (codes "wrong_type") no_types no_signals)) base (force_invocation t os)
        (λ cells l. undefined_fits program lawful cells os (all_on program lawful base cells l os typed) (force_of t))
        (λ cells l. works_need program lawful cells (one t) _ _ (may_be_all any_type (own_types os) (one any_type) fit) (works_takes program lawful cells (one t) _ _ (works_counts program lawful cells (one t) 1 _
        (given_works cells (one t) (forcing t os) (forcing_works cells t os (all_on program lawful base cells l os typed) fit)))))
        (λ w. listed_in (signal_and (codes "wrong_type") no_types no_signals) (done_in w (force_invocation t os)) (done_listed w (force_invocation t os (before w)) ((force_only t os).at (before w))))
      where
        done_listed : (w : World) (o : Outcome) → IsListed (signal_and (codes "wrong_type") no_types no_signals) o → IsListed (signal_and (codes "wrong_type") no_types no_signals) (outcome_in w o)
        done_listed w (layout.returned os made) h = h
        done_listed w (layout.signalled name os made) h = h
        done_listed w layout.wrong h = h
