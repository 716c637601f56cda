-- What computations are put together from leaves a state typed, and the cells with the types that they had.
use Rattle.std.proofs.Common.{◌≡◌, ℕ, zero, suc, Bool, true, false, List, [], ◌∷◌, Option, None, Some, refl, sym, ap, subst}
use Rattle.std.proofs.lemmas.Bool.{false≢true, and_parts}
use Rattle.clu_types.specs.CluType.{CluType, CluTypes, no_types, type_and}
use Rattle.clu_layout.specs.Objects.{Object, bool_object, routine_object, Routine, string_object, Cell, own_type, own_types}
use Rattle.clu_layout.specs.SameType.{fits, all_fit}
use Rattle.clu_layout.proofs.CellLaws.{Longer, longer_refl, longer_trans}
use Rattle.clu_meaning.specs.Programs.{Variable, local, own_of_routine, own_of_cluster, Program}
use Rattle.clu_meaning.specs.State.{Instance, Frame, Stack, State}
use Rattle.clu_meaning.specs.Computations.{Ending, raised, wrong, Result, normal, ended, out_of_turns, Computation, gives, ends, goes_wrong, continue_with, and_then, continue_either_way, either_way, spends_a_turn, need, needed, with_one, with_bool, with_routine, either, if_there, sees_frame, sees_owns, with_frame, with_owns, enters, goes_deeper, leaves, counts, takes, traced, raises, fails}
use Rattle.clu_meaning.specs.Binding.{Running, declared_in, owns_of, term_of, put_in, type_after, types_of, cluster_instance, names, names_each, assigned, forgets}
use Rattle.clu_meaning.specs.Calls.{Round, in_procedure, in_iterator, here}
use Rattle.clu_meaning.specs.Expressions.{gives_named, uses}
use Rattle.clu_meaning.specs.Run.{first_state}
use Rattle.clu_meaning.specs.Typed.{local_type, own_type_of, fits_in, IsTyped, AllTyped, SlotFits, FrameFits, EndingFits, Typed}
use Rattle.clu_meaning.proofs.TypedFacts.{typed_on, all_on, frame_named, own_named}

-- The own variables of a running routine are those of its instance, and of the instance of its cluster.
pub record Belongs (program : Program) (r : Running) : Type 0 where
  pub own : (n : ℕ) (t : CluType) → put_in r (declared_in r.definition.owns n) ≡ Some t → own_type_of program r.instance n ≡ Some t
  pub shared : (n : ℕ) (t : CluType) → put_in r (declared_in (owns_of r.home) n) ≡ Some t → own_type_of program (cluster_instance r) n ≡ Some t

module _ (program : Program) (lawful : Routine → Type 0) (round : Round) where
  -- ---- results: the state is typed, the cells that there were have kept their types, and what is given or carried fits

  abbrev pub Good : {A : Type 0} → List Cell → (List Cell → A → Type 0) → Result A → Type 0
  Good base P (normal a turns st) = Typed program lawful round st × Longer base st.world.cells × P st.world.cells a
  Good base P (ended e turns st) = Typed program lawful round st × Longer base st.world.cells × EndingFits program lawful st.world.cells e
  Good base P (out_of_turns st) = Unit {0}

  pub good_from : {A : Type 0} (P : List Cell → A → Type 0) (a b : List Cell) (r : Result A) → Longer a b → Good b P r → Good a P r
  good_from P a b (normal x turns st) l g = (g.0, longer_trans a b st.world.cells l g.1, g.2)
  good_from P a b (ended e turns st) l g = (g.0, longer_trans a b st.world.cells l g.1, g.2)
  good_from P a b (out_of_turns st) l g = tt

  -- ---- the law, for a computation that begins with the cells of `base` at least

  pub record Stays {A : Type 0} (base : List Cell) (P : List Cell → A → Type 0) (m : Computation A) : Type 0 where
    pub at : (turns : ℕ) (st : State) → Typed program lawful round st → Longer base st.world.cells → Good base P (m turns st)

  module _ {A : Type 0} (base : List Cell) (P : List Cell → A → Type 0) where
    pub stays_gives : (a : A) → ((cells : List Cell) → Longer base cells → P cells a) → Stays base P (gives a)
    unfolding gives
    stays_gives a p = record { at = λ turns st t l. (t, l, p st.world.cells l) }

    pub stays_ends : (e : Ending) → ((cells : List Cell) → Longer base cells → EndingFits program lawful cells e) → Stays base P (ends e)
    unfolding ends
    stays_ends e p = record { at = λ turns st t l. (t, l, p st.world.cells l) }

    pub stays_wrong : Stays base P goes_wrong
    stays_wrong = stays_ends wrong (λ cells l. tt)

    -- ---- tests, openings and choices

    pub stays_need : (b : Bool) (rest : Computation A) → (b ≡ true → Stays base P rest) → Stays base P (need b rest)
    unfolding need
    stays_need true rest h = h refl
    stays_need false rest h = stays_wrong

    pub stays_needed : {X : Type 0} (found : Option X) (rest : X → Computation A) → ((x : X) → found ≡ Some x → Stays base P (rest x)) → Stays base P (needed found rest)
    unfolding needed
    stays_needed (Some x) rest h = h x refl
    stays_needed None rest h = stays_wrong

    pub stays_with_one : (os : List Object) (rest : Object → Computation A) → AllTyped program lawful base os → ((o : Object) → IsTyped program lawful base o → Stays base P (rest o)) →
        Stays base P (with_one os rest)
    unfolding with_one
    stays_with_one (o ∷ []) rest t h = h o t.0
    stays_with_one [] rest t h = stays_wrong
    stays_with_one (o ∷ p ∷ os) rest t h = stays_wrong

    pub stays_with_bool : (o : Object) (rest : Bool → Computation A) → ((b : Bool) → Stays base P (rest b)) → Stays base P (with_bool o rest)
    unfolding with_bool
    stays_with_bool (bool_object b) rest h = h b
    stays_with_bool _ rest h = stays_wrong

    pub stays_with_routine : (o : Object) (rest : Routine → Computation A) → ((r : Routine) → Stays base P (rest r)) → Stays base P (with_routine o rest)
    unfolding with_routine
    stays_with_routine (routine_object r heading) rest h = h r
    stays_with_routine _ rest h = stays_wrong

    pub stays_if_there : {X : Type 0} (found : Option X) (first : X → Computation A) (second : Computation A) → ((x : X) → found ≡ Some x → Stays base P (first x)) → Stays base P second →
        Stays base P (if_there found first second)
    unfolding if_there
    stays_if_there (Some x) first second f g = f x refl
    stays_if_there None first second f g = g

    pub stays_either : (b : Bool) (first second : Computation A) → Stays base P first → Stays base P second → Stays base P (either b first second)
    unfolding either
    stays_either true first second f g = f
    stays_either false first second f g = g

    -- ---- turns and meters

    spent_stays : (rest : Computation A) → Stays base P rest → (turns : ℕ) (st : State) → Typed program lawful round st → Longer base st.world.cells →
        Good base P (spends_a_turn rest turns st)
    unfolding spends_a_turn
    spent_stays rest h zero st t l = tt
    spent_stays rest h (suc turns) st t l = h.at turns st t l

    pub stays_spends : (rest : Computation A) → Stays base P rest → Stays base P (spends_a_turn rest)
    stays_spends rest h = record { at = spent_stays rest h }

    pub stays_counts : (n : ℕ) (rest : Computation A) → Stays base P rest → Stays base P (counts n rest)
    unfolding counts
    stays_counts n rest h = record { at = λ turns st t l. h.at turns _ (record { cells = t.cells; frame = t.frame; owns = t.owns }) l }

    pub stays_takes : (n : ℕ) (rest : Computation A) → Stays base P rest → Stays base P (takes n rest)
    unfolding takes
    stays_takes n rest h = record { at = λ turns st t l. h.at turns _ (record { cells = t.cells; frame = t.frame; owns = t.owns }) l }

    pub stays_enters : (i : Instance) (n : ℕ) (rest : Computation A) → Stays base P rest → Stays base P (enters i n rest)
    unfolding enters
    stays_enters i n rest h = record { at = λ turns st t l. h.at turns _ (record { cells = t.cells; frame = t.frame; owns = t.owns }) l }

    pub stays_goes_deeper : (n : ℕ) (rest : Computation A) → Stays base P rest → Stays base P (goes_deeper n rest)
    unfolding goes_deeper
    stays_goes_deeper n rest h = record { at = λ turns st t l. h.at turns _ (record { cells = t.cells; frame = t.frame; owns = t.owns }) l }

    pub stays_leaves : (stack : Stack) (rest : Computation A) → Stays base P rest → Stays base P (leaves stack rest)
    unfolding leaves
    stays_leaves stack rest h = record { at = λ turns st t l. h.at turns _ (record { cells = t.cells; frame = t.frame; owns = t.owns }) l }

    pub stays_traced : (rest : Computation A) → Stays base P rest → Stays base P (traced rest)
    unfolding traced
    stays_traced rest h = record { at = λ turns st t l. h.at turns _ (record { cells = t.cells; frame = t.frame; owns = t.owns }) l }

    -- ---- raises

    pub stays_raises : (name : List ℕ) (os : List Object) → AllTyped program lawful base os → Stays base P (raises name os)
    stays_raises name os t = stays_counts _ _ (stays_traced _ (stays_ends (raised name os) (λ cells l. all_on program lawful base cells l os t)))

    pub stays_fails : (text : List ℕ) → Stays base P (fails text)
    stays_fails text = stays_raises _ (string_object text ∷ []) (tt, tt)

  -- ---- one computation and then another

  module _ {A B : Type 0} (base : List Cell) (P : List Cell → A → Type 0) (Q : List Cell → B → Type 0) where
    continued_good : (f : A → Computation B) (r : Result A) → Good base P r → ((cells : List Cell) → Longer base cells → (a : A) → P cells a → Stays cells Q (f a)) →
        Good base Q (continue_with f r)
    unfolding continue_with
    continued_good f (normal a turns st) g h =
        good_from Q base st.world.cells (f a turns st) g.1 ((h st.world.cells g.1 a g.2).at turns st g.0 (longer_refl st.world.cells))
    continued_good f (ended e turns st) g h = g
    continued_good f (out_of_turns st) g h = tt

    pub stays_and_then : (m : Computation A) (f : A → Computation B) → Stays base P m →
        ((cells : List Cell) → Longer base cells → (a : A) → P cells a → Stays cells Q (f a)) → Stays base Q (and_then m f)
    unfolding and_then
    stays_and_then m f g h = record { at = λ turns st t l. continued_good f (m turns st) (g.at turns st t l) h }

    either_good : (f : A → Computation B) (u : Ending → Computation B) (r : Result A) → Good base P r →
        ((cells : List Cell) → Longer base cells → (a : A) → P cells a → Stays cells Q (f a)) →
        ((cells : List Cell) → Longer base cells → (e : Ending) → EndingFits program lawful cells e → Stays cells Q (u e)) → Good base Q (continue_either_way f u r)
    unfolding continue_either_way
    either_good f u (normal a turns st) g h i =
        good_from Q base st.world.cells (f a turns st) g.1 ((h st.world.cells g.1 a g.2).at turns st g.0 (longer_refl st.world.cells))
    either_good f u (ended e turns st) g h i =
        good_from Q base st.world.cells (u e turns st) g.1 ((i st.world.cells g.1 e g.2).at turns st g.0 (longer_refl st.world.cells))
    either_good f u (out_of_turns st) g h i = tt

    pub stays_either_way : (m : Computation A) (f : A → Computation B) (u : Ending → Computation B) → Stays base P m →
        ((cells : List Cell) → Longer base cells → (a : A) → P cells a → Stays cells Q (f a)) →
        ((cells : List Cell) → Longer base cells → (e : Ending) → EndingFits program lawful cells e → Stays cells Q (u e)) → Stays base Q (either_way m f u)
    unfolding either_way
    stays_either_way m f u g h i = record { at = λ turns st t l. either_good f u (m turns st) (g.at turns st t l) h i }

  -- ---- binding to variables

  -- what is included in the type that the routine declares is included in the type that its instance has
  fits_like : (a b : Option CluType) (o : Object) → ((t : CluType) → a ≡ Some t → b ≡ Some t) → fits_in a o ≡ true → fits_in b o ≡ true
  fits_like (Some t) b o h k = subst (λ x. fits_in x o ≡ true) (sym (h t refl)) k
  fits_like None b o h k = absurd (false≢true k)

  module _ (belongs : Belongs program (here round)) {A : Type 0} (base : List Cell) (P : List Cell → A → Type 0) (rest : Computation A) (stays : Stays base P rest) where
    pub stays_names : (x : Variable) (o : Object) → IsTyped program lawful base o → fits_in (put_in (here round) (term_of (here round) x)) o ≡ true →
        Stays base P (names (here round) x o rest)
    unfolding names with_frame with_owns
    stays_names (local n) o h k = record {
      at = λ turns st t l. stays.at turns _ (record {
        cells = t.cells;
        frame = frame_named program lawful st.world.cells round st.frame n (Some o) t.frame (typed_on program lawful base st.world.cells l o h, k);
        owns = t.owns;
      }) l;
    }
    stays_names (own_of_routine n) o h k = record {
      at = λ turns st t l. stays.at turns _ (record {
        cells = t.cells;
        frame = t.frame;
        owns = own_named program lawful st.world.cells st.owns (here round).instance n o t.owns (
          typed_on program lawful base st.world.cells l o h,
          fits_like (put_in (here round) (declared_in (here round).definition.owns n)) (own_type_of program (here round).instance n) o (belongs.own n) k,
        );
      }) l;
    }
    stays_names (own_of_cluster n) o h k = record {
      at = λ turns st t l. stays.at turns _ (record {
        cells = t.cells;
        frame = t.frame;
        owns = own_named program lawful st.world.cells st.owns (cluster_instance (here round)) n o t.owns (
          typed_on program lawful base st.world.cells l o h,
          fits_like (put_in (here round) (declared_in (owns_of (here round).home) n)) (own_type_of program (cluster_instance (here round)) n) o (belongs.shared n) k,
        );
      }) l;
    }

  -- a variable that is forgotten
  module _ {A : Type 0} (base : List Cell) (P : List Cell → A → Type 0) (rest : Computation A) (stays : Stays base P rest) where
    pub stays_forgets : (xs : List Variable) → Stays base P (forgets xs rest)
    unfolding forgets with_frame
    stays_forgets [] = stays
    stays_forgets (local n ∷ xs) = record {
      at = λ turns st t l. (stays_forgets xs).at turns _ (record {
        cells = t.cells;
        frame = frame_named program lawful st.world.cells round st.frame n None t.frame tt;
        owns = t.owns;
      }) l;
    }
    stays_forgets (own_of_routine n ∷ xs) = stays_forgets xs
    stays_forgets (own_of_cluster n ∷ xs) = stays_forgets xs

  -- ---- as many variables as objects

  none_some : {X : Type 0} {x : X} → None ≡ Some x → ⊥
  none_some e = subst is_none e tt
    where
      is_none : {X : Type 0} → Option X → Type 0
      is_none None = Unit {0}
      is_none (Some x) = ⊥

  abbrev types_in : Option CluTypes → CluTypes
  types_in (Some ts) = ts
  types_in None = no_types

  -- each object is included in the type that is declared for the variable at its place
  abbrev pub AllBind : List Variable → List Object → Type 0
  AllBind (x ∷ xs) (o ∷ os) = (fits_in (put_in (here round) (term_of (here round) x)) o ≡ true) × AllBind xs os
  AllBind _ _ = Unit {0}

  first_binds : (a : Option CluType) (b : Option CluTypes) (o : Object) (os : List Object) (types : CluTypes) → type_after a b ≡ Some types →
      all_fit (type_and (own_type o) (own_types os)) types ≡ true → (fits_in a o ≡ true) × ((ts : CluTypes) × (b ≡ Some ts) × (all_fit (own_types os) ts ≡ true))
  first_binds (Some t) (Some ts) o os types e h =
      let parts = and_parts (fits (own_type o) t) (all_fit (own_types os) ts) (subst (λ us. all_fit (type_and (own_type o) (own_types os)) us ≡ true) (sym (ap types_in e)) h) in
      (parts.0, (ts, refl, parts.1))
  first_binds (Some t) None o os types e h = absurd (none_some e)
  first_binds None b o os types e h = absurd (none_some e)

  all_bind : (xs : List Variable) (os : List Object) (types : CluTypes) → types_of (here round) xs ≡ Some types → all_fit (own_types os) types ≡ true → AllBind xs os
  all_bind (x ∷ xs) (o ∷ os) types e h =
      let first = first_binds (put_in (here round) (term_of (here round) x)) (types_of (here round) xs) o os types e h in
      (first.0, all_bind xs os first.1.0 first.1.1 first.1.2)
  all_bind [] os types e h = tt
  all_bind (x ∷ xs) [] types e h = tt

  module _ (belongs : Belongs program (here round)) {A : Type 0} (base : List Cell) (P : List Cell → A → Type 0) (rest : Computation A) (stays : Stays base P rest) where
    pub stays_names_each : (xs : List Variable) (os : List Object) → AllTyped program lawful base os → AllBind xs os → Stays base P (names_each (here round) xs os rest)
    unfolding names_each
    stays_names_each (x ∷ xs) (o ∷ os) t h =
        stays_names belongs base P (names_each (here round) xs os rest) (stays_names_each xs os t.1 h.1) x o t.0 h.0
    stays_names_each [] [] t h = stays
    stays_names_each [] (o ∷ os) t h = stays_wrong base P
    stays_names_each (x ∷ xs) [] t h = stays_wrong base P

    pub stays_assigned : (xs : List Variable) (os : List Object) → AllTyped program lawful base os → Stays base P (assigned (here round) xs os rest)
    stays_assigned xs os t = stays_needed base P (types_of (here round) xs) _ (λ types e. stays_need base P (all_fit (own_types os) types) _ (λ h.
        stays_takes base P _ _ (stays_names_each xs os t (all_bind xs os types e h))))

  -- ---- what variables name

  abbrev pub Objects : List Cell → List Object → Type 0
  Objects cells os = AllTyped program lawful cells os

  frame_slot : (cells : List Cell) (place : Round) (frame : Frame) → FrameFits program lawful cells place frame → (n : ℕ) → SlotFits program lawful cells (local_type (here place) n) (frame.variables n)
  frame_slot cells (in_procedure r) frame h n = h n
  frame_slot cells (in_iterator r body declared xs caller) frame h n = h.0 n

  stays_gives_named : (base : List Cell) (t : Option CluType) (o : Option Object) → SlotFits program lawful base t o → Stays base Objects (gives_named o)
  unfolding if_there
  stays_gives_named base t (Some o) h = stays_gives base Objects (o ∷ []) (λ cells l. (typed_on program lawful base cells l o h.0, tt))
  stays_gives_named base t None h = stays_fails base Objects _

  pub stays_uses : (base : List Cell) (x : Variable) → Stays base Objects (uses (here round) x)
  unfolding uses sees_frame sees_owns
  stays_uses base (local n) = record {
    at = λ turns st t l. good_from Objects base st.world.cells _ l
        ((stays_gives_named st.world.cells (local_type (here round) n) (st.frame.variables n) (frame_slot st.world.cells round st.frame t.frame n)).at turns st t (longer_refl st.world.cells));
  }
  stays_uses base (own_of_routine n) = record {
    at = λ turns st t l. good_from Objects base st.world.cells _ l
        ((stays_gives_named st.world.cells (own_type_of program (here round).instance n) (st.owns.variables (here round).instance n) (t.owns (here round).instance n)).at turns st t (longer_refl st.world.cells));
  }
  stays_uses base (own_of_cluster n) = record {
    at = λ turns st t l. good_from Objects base st.world.cells _ l
        ((stays_gives_named st.world.cells (own_type_of program (cluster_instance (here round)) n) (st.owns.variables (cluster_instance (here round)) n) (t.owns (cluster_instance (here round)) n)).at turns st t (longer_refl st.world.cells));
  }

-- ---- the state in which a program begins is typed

pub first_typed : (program : Program) (lawful : Routine → Type 0) (r : Running) (input : List ℕ) → Typed program lawful (in_procedure r) (first_state input)
first_typed program lawful r input = record { cells = tt; frame = λ n. tt; owns = λ i n. tt }
