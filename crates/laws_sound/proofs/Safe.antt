-- Computations that don't go wrong: what they give, and how they end, is as the types say; and a state stays typed.
use Rattle.std.proofs.Common.{◌≡◌, ℕ, zero, suc, Bool, true, false, List, [], ◌∷◌, Option, None, Some, refl, sym, subst}
use Rattle.std.proofs.lemmas.Bool.{false≢true, and_parts}
use Rattle.clu_types.specs.CluType.{CluType, CluTypes, no_types, type_and}
use Rattle.clu_layout.specs.Objects.{Object, Routine, Cell, own_type, own_types}
use Rattle.clu_layout.specs.SameType.{fits, all_fit}
use Rattle.clu_layout.proofs.CellLaws.{Longer, longer_refl, longer_trans}
use Rattle.clu_meaning.specs.Programs.{Program}
use Rattle.clu_meaning.specs.State.{State}
use Rattle.clu_meaning.specs.Computations.{Ending, raised, Result, normal, ended, out_of_turns, Computation, gives, ends, continue_with, and_then, continue_either_way, either_way, spends_a_turn, need, needed, either, if_there, counts, takes, traced, raises}
use Rattle.clu_meaning.specs.Calls.{Round}
use Rattle.clu_meaning.specs.Typed.{IsTyped, AllTyped, EndingFits, Typed}
use Rattle.clu_meaning.proofs.TypedComputing.{Good, Stays}

module _ (program : Program) (lawful : Routine → Type 0) (round : Round) where
  abbrev pub Well : {A : Type 0} → List Cell → (List Cell → A → Type 0) → (List Cell → Ending → Type 0) → Result A → Type 0
  Well base P Q (normal a turns st) = Typed program lawful round st × Longer base st.world.cells × P st.world.cells a
  Well base P Q (ended e turns st) = Typed program lawful round st × Longer base st.world.cells × Q st.world.cells e
  Well base P Q (out_of_turns st) = Unit {0}

  pub record Sound {A : Type 0} (base : List Cell) (P : List Cell → A → Type 0) (Q : List Cell → Ending → Type 0) (m : Computation A) : Type 0 where
    pub at : (turns : ℕ) (st : State) → Typed program lawful round st → Longer base st.world.cells → Well base P Q (m turns st)

  -- ---- what is known to leave a state typed, and besides not to go wrong

  abbrev pub Fair : {A : Type 0} → (A → Type 0) → (Ending → Type 0) → Result A → Type 0
  Fair P Q (normal a turns st) = P a
  Fair P Q (ended e turns st) = Q e
  Fair P Q (out_of_turns st) = Unit {0}

  pub record Safe {A : Type 0} (base : List Cell) (P : A → Type 0) (Q : Ending → Type 0) (m : Computation A) : Type 0 where
    pub at : (turns : ℕ) (st : State) → Typed program lawful round st → Longer base st.world.cells → Fair P Q (m turns st)

  joined : {A : Type 0} (base : List Cell) (P : List Cell → A → Type 0) (P' : A → Type 0) (Q : Ending → Type 0) (r : Result A) → Good program lawful round base P r → Fair P' Q r →
      Well base (λ cells a. P cells a × P' a) (λ cells e. EndingFits program lawful cells e × Q e) r
  joined base P P' Q (normal a turns st) g f = (g.0, g.1, (g.2, f))
  joined base P P' Q (ended e turns st) g f = (g.0, g.1, (g.2, f))
  joined base P P' Q (out_of_turns st) g f = tt

  pub both : {A : Type 0} (base : List Cell) (P : List Cell → A → Type 0) (P' : A → Type 0) (Q : Ending → Type 0) (m : Computation A) → Stays program lawful round base P m → Safe base P' Q m →
      Sound base (λ cells a. P cells a × P' a) (λ cells e. EndingFits program lawful cells e × Q e) m
  both base P P' Q m s f = record { at = λ turns st t l. joined base P P' Q (m turns st) (s.at turns st t l) (f.at turns st t l) }

  pub well_from : {A : Type 0} (P : List Cell → A → Type 0) (Q : List Cell → Ending → Type 0) (a b : List Cell) (r : Result A) → Longer a b → Well b P Q r → Well a P Q r
  well_from P Q a b (normal x turns st) l g = (g.0, longer_trans a b st.world.cells l g.1, g.2)
  well_from P Q a b (ended e turns st) l g = (g.0, longer_trans a b st.world.cells l g.1, g.2)
  well_from P Q a b (out_of_turns st) l g = tt

  -- ---- another place's endings

  well_as : {A : Type 0} (base : List Cell) (P P' : List Cell → A → Type 0) (Q Q' : List Cell → Ending → Type 0) (r : Result A) →
      ((cells : List Cell) (a : A) → P cells a → P' cells a) → ((cells : List Cell) (e : Ending) → Q cells e → Q' cells e) → Well base P Q r → Well base P' Q' r
  well_as base P P' Q Q' (normal a turns st) f g w = (w.0, w.1, f st.world.cells a w.2)
  well_as base P P' Q Q' (ended e turns st) f g w = (w.0, w.1, g st.world.cells e w.2)
  well_as base P P' Q Q' (out_of_turns st) f g w = tt

  pub sound_as : {A : Type 0} (base : List Cell) (P P' : List Cell → A → Type 0) (Q Q' : List Cell → Ending → Type 0) (m : Computation A) →
      ((cells : List Cell) (a : A) → P cells a → P' cells a) → ((cells : List Cell) (e : Ending) → Q cells e → Q' cells e) → Sound base P Q m → Sound base P' Q' m
  sound_as base P P' Q Q' m f g h = record { at = λ turns st t l. well_as base P P' Q Q' (m turns st) f g (h.at turns st t l) }

  module _ {A : Type 0} (base : List Cell) (P : List Cell → A → Type 0) (Q : List Cell → Ending → Type 0) where
    pub sound_gives : (a : A) → ((cells : List Cell) → Longer base cells → P cells a) → Sound base P Q (gives a)
    unfolding gives
    sound_gives a p = record { at = λ turns st t l. (t, l, p st.world.cells l) }

    pub sound_ends : (e : Ending) → ((cells : List Cell) → Longer base cells → Q cells e) → Sound base P Q (ends e)
    unfolding ends
    sound_ends e p = record { at = λ turns st t l. (t, l, p st.world.cells l) }

    pub sound_need : (b : Bool) (rest : Computation A) → b ≡ true → Sound base P Q rest → Sound base P Q (need b rest)
    unfolding need
    sound_need true rest e h = h
    sound_need false rest e h = absurd (false≢true e)

    pub sound_needed : {X : Type 0} (found : Option X) (rest : X → Computation A) (x : X) → found ≡ Some x → Sound base P Q (rest x) → Sound base P Q (needed found rest)
    unfolding needed
    sound_needed found rest x e h = subst (λ o. Sound base P Q (needed o rest)) (sym e) h

    pub sound_if_there : {X : Type 0} (found : Option X) (first : X → Computation A) (second : Computation A) → ((x : X) → found ≡ Some x → Sound base P Q (first x)) →
        (found ≡ None → Sound base P Q second) → Sound base P Q (if_there found first second)
    unfolding if_there
    sound_if_there (Some x) first second f g = f x refl
    sound_if_there None first second f g = g refl

    pub sound_either : (b : Bool) (first second : Computation A) → (b ≡ true → Sound base P Q first) → (b ≡ false → Sound base P Q second) → Sound base P Q (either b first second)
    unfolding either
    sound_either true first second f g = f refl
    sound_either false first second f g = g refl

    spent_well : (rest : Computation A) → Sound base P Q rest → (turns : ℕ) (st : State) → Typed program lawful round st → Longer base st.world.cells → Well base P Q (spends_a_turn rest turns st)
    unfolding spends_a_turn
    spent_well rest h zero st t l = tt
    spent_well rest h (suc turns) st t l = h.at turns st t l

    pub sound_spends : (rest : Computation A) → Sound base P Q rest → Sound base P Q (spends_a_turn rest)
    sound_spends rest h = record { at = spent_well rest h }

    pub sound_counts : (n : ℕ) (rest : Computation A) → Sound base P Q rest → Sound base P Q (counts n rest)
    unfolding counts
    sound_counts n rest h = record { at = λ turns st t l. h.at turns _ (record { cells = t.cells; frame = t.frame; owns = t.owns }) l }

    pub sound_takes : (n : ℕ) (rest : Computation A) → Sound base P Q rest → Sound base P Q (takes n rest)
    unfolding takes
    sound_takes n rest h = record { at = λ turns st t l. h.at turns _ (record { cells = t.cells; frame = t.frame; owns = t.owns }) l }

    pub sound_traced : (rest : Computation A) → Sound base P Q rest → Sound base P Q (traced rest)
    unfolding traced
    sound_traced rest h = record { at = λ turns st t l. h.at turns _ (record { cells = t.cells; frame = t.frame; owns = t.owns }) l }

    pub sound_raises : (name : List ℕ) (os : List Object) → ((cells : List Cell) → Longer base cells → Q cells (raised name os)) → Sound base P Q (raises name os)
    sound_raises name os q = sound_counts _ _ (sound_traced _ (sound_ends (raised name os) q))

  -- ---- one computation and then another

  module _ {A B : Type 0} (base : List Cell) (P : List Cell → A → Type 0) (P' : List Cell → B → Type 0) (Q Q' : List Cell → Ending → Type 0) where
    either_well : (f : A → Computation B) (u : Ending → Computation B) (r : Result A) → Well base P Q r →
        ((cells : List Cell) → Longer base cells → (a : A) → P cells a → Sound cells P' Q' (f a)) →
        ((cells : List Cell) → Longer base cells → (e : Ending) → Q cells e → Sound cells P' Q' (u e)) → Well base P' Q' (continue_either_way f u r)
    unfolding continue_either_way
    either_well f u (normal a turns st) g h i =
        well_from P' Q' base st.world.cells (f a turns st) g.1 ((h st.world.cells g.1 a g.2).at turns st g.0 (longer_refl st.world.cells))
    either_well f u (ended e turns st) g h i =
        well_from P' Q' base st.world.cells (u e turns st) g.1 ((i st.world.cells g.1 e g.2).at turns st g.0 (longer_refl st.world.cells))
    either_well f u (out_of_turns st) g h i = tt

    pub sound_either_way : (m : Computation A) (f : A → Computation B) (u : Ending → Computation B) → Sound base P Q m →
        ((cells : List Cell) → Longer base cells → (a : A) → P cells a → Sound cells P' Q' (f a)) →
        ((cells : List Cell) → Longer base cells → (e : Ending) → Q cells e → Sound cells P' Q' (u e)) → Sound base P' Q' (either_way m f u)
    unfolding either_way
    sound_either_way m f u g h i = record { at = λ turns st t l. either_well f u (m turns st) (g.at turns st t l) h i }

  module _ {A B : Type 0} (base : List Cell) (P : List Cell → A → Type 0) (P' : List Cell → B → Type 0) (Q : List Cell → Ending → Type 0) where
    continued_well : (f : A → Computation B) (r : Result A) → Well base P Q r →
        ((cells : List Cell) → Longer base cells → (a : A) → P cells a → Sound cells P' Q (f a)) → Well base P' Q (continue_with f r)
    unfolding continue_with
    continued_well f (normal a turns st) g h =
        well_from P' Q base st.world.cells (f a turns st) g.1 ((h st.world.cells g.1 a g.2).at turns st g.0 (longer_refl st.world.cells))
    continued_well f (ended e turns st) g h = g
    continued_well f (out_of_turns st) g h = tt

    pub sound_and_then : (m : Computation A) (f : A → Computation B) → Sound base P Q m →
        ((cells : List Cell) → Longer base cells → (a : A) → P cells a → Sound cells P' Q (f a)) → Sound base P' Q (and_then m f)
    unfolding and_then
    sound_and_then m f g h = record { at = λ turns st t l. continued_well f (m turns st) (g.at turns st t l) h }

-- ---- objects of types

-- they fit, and are of these types
abbrev pub AreOf : Program → (Routine → Type 0) → CluTypes → List Cell → List Object → Type 0
AreOf program lawful types cells os = AllTyped program lawful cells os × (all_fit (own_types os) types ≡ true)

-- an object of a type
abbrev pub IsOf : Program → (Routine → Type 0) → CluType → List Cell → Object → Type 0
IsOf program lawful t cells o = IsTyped program lawful cells o × (fits (own_type o) t ≡ true)

abbrev pub one : CluType → CluTypes
one t = type_and t no_types

pub single : (os : List Object) (t : CluType) → all_fit (own_types os) (one t) ≡ true → (o : Object) × ((os ≡ o ∷ []) × (fits (own_type o) t ≡ true))
single (o ∷ []) t e = (o, (refl, (and_parts (fits (own_type o) t) true e).0))
single [] t e = absurd (false≢true e)
single (o ∷ p ∷ os) t e = absurd (false≢true (and_parts (fits (own_type o) t) false e).1)
