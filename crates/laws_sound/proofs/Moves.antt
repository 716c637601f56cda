-- Binding, what variables name, and primitive operations, as computations that don't go wrong.
use Rattle.std.proofs.Common.{◌≡◌, ℕ, true, List, [], ◌∷◌, ◌++◌, Option, None, Some, refl, sym, ap, subst, ◌∙◌, inl, inr}
use Rattle.std.specs.Prelude.{codes}
use Rattle.std.proofs.lemmas.Bool.{false≢true, and_parts, and_from}
use Rattle.clu_types.specs.CluType.{CluType, CluTypes, no_types, type_and}
use Rattle.clu_layout.specs.Objects.{Routine, Object, string_object, Cell, own_type, own_types}
use Rattle.clu_layout.specs.SameType.{fits, all_fit}
use Rattle.clu_layout.specs.Actions.{World, Outcome, Action}
use Rattle.clu_layout.specs.Actions as layout
use Rattle.clu_layout.specs.Primitive.{before, outcome_in, done_in}
use Rattle.clu_layout.proofs.CellLaws.{Longer, longer_refl, longer_trans}
use Rattle.clu_meaning.specs.Programs.{Variable, local, own_of_routine, own_of_cluster, Program}
use Rattle.clu_meaning.specs.State.{Frame, State}
use Rattle.clu_meaning.specs.Computations.{Ending, raised, Result, Computation, if_there, sees_frame, sees_owns, with_frame, with_owns, outcome, does, counts, traced, ends}
use Rattle.clu_meaning.specs.Binding.{declared_in, owns_of, term_of, put_in, type_after, types_of, cluster_instance, names, names_each, assigned, forgets}
use Rattle.clu_meaning.specs.Calls.{Round, in_procedure, in_iterator, here}
use Rattle.clu_meaning.specs.Expressions.{gives_named, uses}
use Rattle.clu_meaning.specs.Typed.{local_type, own_type_of, fits_in, IsTyped, AllTyped, SlotFits, FrameFits, EndingFits}
use Rattle.clu_meaning.proofs.TypedFacts.{typed_on, frame_named, own_named}
use Rattle.clu_meaning.proofs.TypedComputing.{Belongs, Objects}
use Rattle.clu_meaning.proofs.TypedMaking.{stays_does}
use Rattle.clu_meaning.proofs.FittingLaws.{Fitting}
use Rattle.laws_sound.specs.Raises.{Raise, Takes}
use Rattle.laws_sound.specs.WellTyped.{AreDeclared}
use Rattle.laws_sound.proofs.Safe.{Well, well_from, Sound, Safe, Fair, both, sound_gives, sound_need, sound_needed, sound_takes, sound_raises, AreOf, one}
use Rattle.laws_sound.proofs.Works.{Done, Works}

-- ---- what may be raised

pub takes_left : (rs ss : List Raise) (name : List ℕ) (os : List Object) → Takes rs name os → Takes (rs ++ ss) name os
takes_left [] ss name os h = absurd h
takes_left (r ∷ rs) ss name os (inl h) = inl h
takes_left (r ∷ rs) ss name os (inr h) = inr (takes_left rs ss name os h)

pub takes_right : (rs ss : List Raise) (name : List ℕ) (os : List Object) → Takes ss name os → Takes (rs ++ ss) name os
takes_right [] ss name os h = h
takes_right (r ∷ rs) ss name os h = inr (takes_right rs ss name os h)

-- of endings these raises alone
abbrev pub Raised : List Raise → Ending → Type 0
Raised raisable (raised name os) = Takes raisable name os
Raised raisable _ = ⊥

abbrev pub OnlyRaises : Program → (Routine → Type 0) → List Raise → List Cell → Ending → Type 0
OnlyRaises program lawful raisable cells e = EndingFits program lawful cells e × Raised raisable e

module _ (program : Program) (lawful : Routine → Type 0) (round : Round) where
  -- a frame of the running routine that names an object
  module _ (belongs : Belongs program (here round)) {A : Type 0} (base : List Cell) (P : List Cell → A → Type 0) (Q : List Cell → Ending → Type 0) (rest : Computation A) (sound : Sound program lawful round base P Q rest) where
    like : (a b : Option CluType) (o : Object) → ((t : CluType) → a ≡ Some t → b ≡ Some t) → fits_in a o ≡ true → fits_in b o ≡ true
    like (Some t) b o h k = subst (λ x. fits_in x o ≡ true) (sym (h t refl)) k
    like None b o h k = absurd (false≢true k)

    pub sound_names : (x : Variable) (o : Object) → IsTyped program lawful base o → fits_in (put_in (here round) (term_of (here round) x)) o ≡ true → Sound program lawful round base P Q (names (here round) x o rest)
    unfolding names with_frame with_owns
    sound_names (local n) o h k = record {
      at = λ turns st t l. sound.at turns _ (record {
        cells = t.cells;
        frame = frame_named program lawful st.world.cells round st.frame n (Some o) t.frame (typed_on program lawful base st.world.cells l o h, k);
        owns = t.owns;
      }) l;
    }
    sound_names (own_of_routine n) o h k = record {
      at = λ turns st t l. sound.at turns _ (record {
        cells = t.cells;
        frame = t.frame;
        owns = own_named program lawful st.world.cells st.owns (here round).instance n o t.owns (
          typed_on program lawful base st.world.cells l o h,
          like (put_in (here round) (declared_in (here round).definition.owns n)) (own_type_of program (here round).instance n) o (belongs.own n) k,
        );
      }) l;
    }
    sound_names (own_of_cluster n) o h k = record {
      at = λ turns st t l. sound.at turns _ (record {
        cells = t.cells;
        frame = t.frame;
        owns = own_named program lawful st.world.cells st.owns (cluster_instance (here round)) n o t.owns (
          typed_on program lawful base st.world.cells l o h,
          like (put_in (here round) (declared_in (owns_of (here round).home) n)) (own_type_of program (cluster_instance (here round)) n) o (belongs.shared n) k,
        );
      }) l;
    }

  -- ---- variables of these types

  pub types_declared : (xs : List Variable) (ts : CluTypes) → AreDeclared program lawful (here round) xs ts → types_of (here round) xs ≡ Some ts
  types_declared [] no_types h = refl
  types_declared (x ∷ xs) (type_and t ts) h =
      ap (λ a. type_after a (types_of (here round) xs)) h.0 ∙ ap (type_after (Some t)) (types_declared xs ts h.1)
  types_declared [] (type_and t ts) h = absurd h
  types_declared (x ∷ xs) no_types h = absurd h

  module _ (belongs : Belongs program (here round)) {A : Type 0} (base : List Cell) (P : List Cell → A → Type 0) (Q : List Cell → Ending → Type 0) (rest : Computation A) (sound : Sound program lawful round base P Q rest) where
    pub sound_names_each : (xs : List Variable) (os : List Object) (ts : CluTypes) → AreDeclared program lawful (here round) xs ts → AllTyped program lawful base os → all_fit (own_types os) ts ≡ true →
        Sound program lawful round base P Q (names_each (here round) xs os rest)
    unfolding names_each
    sound_names_each (x ∷ xs) (o ∷ os) (type_and t ts) d h fit =
        let parts = and_parts (fits (own_type o) t) (all_fit (own_types os) ts) fit in
        sound_names belongs base P Q (names_each (here round) xs os rest) (sound_names_each xs os ts d.1 h.1 parts.1) x o h.0
        (subst (λ found. fits_in found o ≡ true) (sym d.0) parts.0)
    sound_names_each [] [] ts d h fit = sound
    sound_names_each [] (o ∷ os) no_types d h fit = absurd (false≢true fit)
    sound_names_each [] (o ∷ os) (type_and t ts) d h fit = absurd d
    sound_names_each (x ∷ xs) [] (type_and t ts) d h fit = absurd (false≢true fit)
    sound_names_each (x ∷ xs) os no_types d h fit = absurd d

    pub sound_assigned : (xs : List Variable) (os : List Object) (ts : CluTypes) → AreDeclared program lawful (here round) xs ts → AllTyped program lawful base os → all_fit (own_types os) ts ≡ true →
        Sound program lawful round base P Q (assigned (here round) xs os rest)
    sound_assigned xs os ts d h fit = sound_needed program lawful round base P Q (types_of (here round) xs) _ ts (types_declared xs ts d)
        (sound_need program lawful round base P Q (all_fit (own_types os) ts) _ fit (sound_takes program lawful round base P Q _ _ (sound_names_each xs os ts d h fit)))

  -- ---- a variable that isn't own becomes absent

  module _ {A : Type 0} (base : List Cell) (P : List Cell → A → Type 0) (Q : List Cell → Ending → Type 0) (rest : Computation A) (sound : Sound program lawful round base P Q rest) where
    pub sound_forgets : (xs : List Variable) → Sound program lawful round base P Q (forgets xs rest)
    unfolding forgets with_frame
    sound_forgets [] = sound
    sound_forgets (local n ∷ xs) = record {
      at = λ turns st t l. (sound_forgets xs).at turns _ (record { cells = t.cells; frame = frame_named program lawful st.world.cells round st.frame n None t.frame tt; owns = t.owns }) l;
    }
    sound_forgets (own_of_routine n ∷ xs) = sound_forgets xs
    sound_forgets (own_of_cluster n ∷ xs) = sound_forgets xs

  -- ---- what a variable names

  -- failure with one string
  abbrev Fails : (List Cell → Ending → Type 0) → List Cell → Type 0
  Fails Q base = (cells : List Cell) → Longer base cells → (text : List ℕ) → Q cells (raised (codes "failure") (string_object text ∷ []))

  frame_slot : (cells : List Cell) (place : Round) (frame : Frame) → FrameFits program lawful cells place frame → (n : ℕ) → SlotFits program lawful cells (local_type (here place) n) (frame.variables n)
  frame_slot cells (in_procedure r) frame h n = h n
  frame_slot cells (in_iterator r body declared xs caller) frame h n = h.0 n

  given_well : (Q : List Cell → Ending → Type 0) (base : List Cell) (t : CluType) (found : Option CluType) (o : Option Object) → found ≡ Some t → SlotFits program lawful base found o → Fails Q base →
      Sound program lawful round base (AreOf program lawful (one t)) Q (gives_named o)
  unfolding if_there
  given_well Q base t found (Some o) e h q = sound_gives program lawful round base (AreOf program lawful (one t)) Q (o ∷ []) (λ cells l.
      ((typed_on program lawful base cells l o h.0, tt), and_from (fits (own_type o) t) true (subst (λ x. fits_in x o ≡ true) e h.1) refl))
  given_well Q base t found None e h q = sound_raises program lawful round base (AreOf program lawful (one t)) Q _ _ (λ cells l. q cells l _)

  from : (Q : List Cell → Ending → Type 0) (a b : List Cell) (ts : CluTypes) (r : Result (List Object)) → Longer a b → Well program lawful round b (AreOf program lawful ts) Q r → Well program lawful round a (AreOf program lawful ts) Q r
  from Q a b ts r l w = well_from program lawful round (AreOf program lawful ts) Q a b r l w

  pub sound_uses : (Q : List Cell → Ending → Type 0) (base : List Cell) (x : Variable) (t : CluType) → Belongs program (here round) → put_in (here round) (term_of (here round) x) ≡ Some t → Fails Q base →
      Sound program lawful round base (AreOf program lawful (one t)) Q (uses (here round) x)
  unfolding uses sees_frame sees_owns
  sound_uses Q base (local n) t belongs e q = record {
    at = λ turns st ty l. from Q base st.world.cells (one t) _ l ((given_well Q st.world.cells t (local_type (here round) n) (st.frame.variables n) e (frame_slot st.world.cells round st.frame ty.frame n)
        (λ cells k text. q cells (longer_trans base st.world.cells cells l k) text)).at turns st ty (longer_refl st.world.cells));
  }
  sound_uses Q base (own_of_routine n) t belongs e q = record {
    at = λ turns st ty l. from Q base st.world.cells (one t) _ l ((given_well Q st.world.cells t (own_type_of program (here round).instance n) (st.owns.variables (here round).instance n) (belongs.own n t e) (ty.owns (here round).instance n)
        (λ cells k text. q cells (longer_trans base st.world.cells cells l k) text)).at turns st ty (longer_refl st.world.cells));
  }
  sound_uses Q base (own_of_cluster n) t belongs e q = record {
    at = λ turns st ty l. from Q base st.world.cells (one t) _ l ((given_well Q st.world.cells t (own_type_of program (cluster_instance (here round)) n) (st.owns.variables (cluster_instance (here round)) n) (belongs.shared n t e) (ty.owns (cluster_instance (here round)) n)
        (λ cells k text. q cells (longer_trans base st.world.cells cells l k) text)).at turns st ty (longer_refl st.world.cells));
  }

  -- ---- what actions do

  module _ (results : CluTypes) (raisable : List Raise) where
    abbrev pub Listed : layout.Outcome → Type 0
    Listed (layout.returned os w) = Unit {0}
    Listed (layout.signalled name os w) = Takes raisable name os
    Listed layout.wrong = Unit {0}

    outcome_fair : (turns : ℕ) (st : State) (o : layout.Outcome) → Done results o → Listed o → Fair program lawful round (λ os. all_fit (own_types os) results ≡ true) (Raised raisable) (outcome o turns st)
    unfolding outcome counts traced ends
    outcome_fair turns st (layout.returned os w) d l = d
    outcome_fair turns st (layout.signalled name os w) d l = l
    outcome_fair turns st layout.wrong d l = absurd d

    made_done : (w : World) (o : layout.Outcome) → Done results o → Done results (outcome_in w o)
    made_done w (layout.returned os made) d = d
    made_done w (layout.signalled name os made) d = d
    made_done w layout.wrong d = d

    pub does_safe : (base : List Cell) (action : Action) → ((cells : List Cell) → Longer base cells → Works program lawful cells results action) → ((w : World) → Listed (done_in w action)) →
        Safe program lawful round base (λ os. all_fit (own_types os) results ≡ true) (Raised raisable) (does action)
    unfolding does done_in
    does_safe base action h listed = record {
      at = λ turns st t l. outcome_fair turns st (outcome_in st.world (action (before st.world)))
          (made_done st.world (action (before st.world)) ((h st.world.cells l).at (before st.world) t.cells (longer_refl st.world.cells))) (listed st.world);
    }

    pub sound_does : (base : List Cell) (action : Action) → ((cells : List Cell) → Longer base cells → Fitting program lawful cells action) →
        ((cells : List Cell) → Longer base cells → Works program lawful cells results action) → ((w : World) → Listed (done_in w action)) →
        Sound program lawful round base (λ cells os. AllTyped program lawful cells os × (all_fit (own_types os) results ≡ true)) (λ cells e. EndingFits program lawful cells e × Raised raisable e) (does action)
    sound_does base action f h listed = both program lawful round base (Objects program lawful round) (λ os. all_fit (own_types os) results ≡ true) (Raised raisable) (does action)
        (stays_does program lawful round base action f) (does_safe base action h listed)
