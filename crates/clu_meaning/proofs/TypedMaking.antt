-- Constructors make objects that fit, and actions that are fitting leave a state typed.
use Rattle.std.proofs.Common.{◌≡◌, ℕ, Bool, true, false, cond, List, [], ◌∷◌, ◌++◌, length, Option, None, Some, sym, subst, arith, ◌≤◌}
use Rattle.std.specs.Prelude.{ℤ, pos, nat_eq, bytes_eq}
use Rattle.clu_types.specs.CluType.{CluType, Fields, no_fields, field_and, array_of, sequence_of, struct_of, record_of}
use Rattle.clu_builtin.specs.Table.{parts_of}
use Rattle.clu_layout.specs.Objects.{Routine, Object, int_object, sequence_object, struct_object, inside, Cell, array_cell, record_cell, own_types}
use Rattle.clu_layout.specs.SameType.{all_fit}
use Rattle.clu_layout.specs.Actions.{World, Outcome, returned, signalled, wrong, Action, fresh_array, makes_array, makes_sequence, makes_struct, makes_record}
use Rattle.clu_layout.specs.Primitive.{same_for_each, before, outcome_in, done_in, array_construction, sequence_construction, struct_construction, record_construction}
use Rattle.clu_layout.proofs.Laws.{listed_inside}
use Rattle.clu_layout.proofs.CellLaws.{Longer, longer_refl, longer_trans}
use Rattle.clu_meaning.specs.Lists.{selectors, in_front}
use Rattle.clu_meaning.specs.Programs.{Program}
use Rattle.clu_meaning.specs.State.{State}
use Rattle.clu_meaning.specs.Computations.{outcome, does}
use Rattle.clu_meaning.specs.Calls.{Round}
use Rattle.clu_meaning.specs.Expressions.{each_with, object_named, arranged, arranged_exactly, makes_fields, makes_elements, makes_elements_from}
use Rattle.clu_meaning.specs.Typed.{IsTyped, AllTyped, Typed}
use Rattle.clu_meaning.proofs.TypedFacts.{all_on, frame_on, owns_on}
use Rattle.clu_meaning.proofs.TypedElements.{IfThere, if_found, inside_typed}
use Rattle.clu_meaning.proofs.FittingLaws.{Makes, Fitting, fitting_gives, fitting_or_fails, fitting_takes, fitting_makes, fitting_binds}
use Rattle.clu_meaning.proofs.TypedComputing.{Objects, Good, Stays, good_from, stays_wrong, stays_needed, stays_raises}

-- ---- constructors

module _ (program : Program) (lawful : Routine → Type 0) (base : List Cell) where
  struct_fits : (fs : Fields) (os : List Object) → AllTyped program lawful base os → Fitting program lawful base (struct_construction fs os)
  struct_fits fs os t = fitting_binds program lawful base (parts_of fs) os (makes_struct fs os) (λ fit. fitting_takes program lawful base _ _ (fitting_gives program lawful base (struct_object fs (inside os) ∷ [])
      ((inside_typed program lawful base os t, subst (λ xs. all_fit (own_types xs) (parts_of fs) ≡ true) (sym (listed_inside os)) fit), tt)))

  sequence_fits : (t : CluType) (os : List Object) → AllTyped program lawful base os → Fitting program lawful base (sequence_construction t os)
  sequence_fits t os h = fitting_binds program lawful base (same_for_each t os) os (makes_sequence t os) (λ fit. fitting_takes program lawful base _ _ (fitting_gives program lawful base (sequence_object t (inside os) ∷ [])
      ((inside_typed program lawful base os h, subst (λ xs. all_fit (own_types xs) (same_for_each t xs) ≡ true) (sym (listed_inside os)) fit), tt)))

  record_fits : (fs : Fields) (os : List Object) → AllTyped program lawful base os → Fitting program lawful base (record_construction fs os)
  record_fits fs os t = fitting_binds program lawful base (parts_of fs) os (makes_record fs os) (λ fit. fitting_takes program lawful base _ _ (fitting_makes program lawful base (record_cell fs os) (t, fit)))

  same_room : (n : ℕ) → n ≤ n
  same_room n = omega arith

  array_fits : (t : CluType) (low : ℤ) (os : List Object) → AllTyped program lawful base os → Fitting program lawful base (array_construction t low os)
  array_fits t low os h = fitting_binds program lawful base (same_for_each t os) os (makes_array t low os) (λ fit. fitting_or_fails program lawful base _ _ _ (λ bounds. fitting_takes program lawful base _ _
      (fitting_makes program lawful base (array_cell (fresh_array t low os)) (h, fit, bounds, same_room (length os)))))

-- ---- objects by selectors

module _ (program : Program) (lawful : Routine → Type 0) (cells : List Cell) where
  abbrev pub NamedTyped : List (List ℕ × Object) → Type 0
  NamedTyped [] = Unit {0}
  NamedTyped (named ∷ rest) = IsTyped program lawful cells named.1 × NamedTyped rest

  pub each_with_typed : (names : List (List ℕ)) (o : Object) (rest : List (List ℕ × Object)) → IsTyped program lawful cells o → NamedTyped rest → NamedTyped (each_with names o ++ rest)
  each_with_typed [] o rest h k = k
  each_with_typed (name ∷ names) o rest h k = (h, each_with_typed names o rest h k)

  chosen_typed : (b : Bool) (o : Object) (others : Option Object) → IsTyped program lawful cells o → IfThere (IsTyped program lawful cells) others →
      IfThere (IsTyped program lawful cells) (cond b (Some o) others)
  chosen_typed true o others h k = h
  chosen_typed false o others h k = k

  found_typed : (named : List (List ℕ × Object)) (name : List ℕ) → NamedTyped named → IfThere (IsTyped program lawful cells) (object_named named name)
  found_typed [] name h = tt
  found_typed (named ∷ rest) name h = chosen_typed (bytes_eq named.0 name) named.1 (object_named rest name) h.0 (found_typed rest name h.1)

  in_front_typed : (o : Option Object) (os : Option (List Object)) → IfThere (IsTyped program lawful cells) o → IfThere (AllTyped program lawful cells) os →
      IfThere (AllTyped program lawful cells) (in_front o os)
  in_front_typed (Some o) (Some os) h k = (h, k)
  in_front_typed (Some o) None h k = tt
  in_front_typed None os h k = tt

  arranged_typed : (fs : Fields) (named : List (List ℕ × Object)) → NamedTyped named → IfThere (AllTyped program lawful cells) (arranged fs named)
  arranged_typed no_fields named h = tt
  arranged_typed (field_and name t rest) named h = in_front_typed (object_named named name) (arranged rest named) (found_typed named name h) (arranged_typed rest named h)

  tested_typed : (b : Bool) (found : Option (List Object)) → IfThere (AllTyped program lawful cells) found → IfThere (AllTyped program lawful cells) (cond b found None)
  tested_typed true found h = h
  tested_typed false found h = tt

  exactly_typed : (fs : Fields) (named : List (List ℕ × Object)) → NamedTyped named → IfThere (AllTyped program lawful cells) (arranged_exactly fs named)
  exactly_typed fs named h = tested_typed (nat_eq (length named) (selectors fs)) (arranged fs named) (arranged_typed fs named h)

-- ---- as computations

module _ (program : Program) (lawful : Routine → Type 0) (round : Round) where
  outcome_good : (base : List Cell) (turns : ℕ) (st : State) (o : Outcome) → Typed program lawful round st → Longer base st.world.cells → Makes program lawful st.world.cells o →
      Good program lawful round base (Objects program lawful round) (outcome o turns st)
  unfolding outcome
  outcome_good base turns st (returned os w) t l h = (
    record { cells = h.0; frame = frame_on program lawful st.world.cells w.cells h.1 round st.frame t.frame; owns = owns_on program lawful st.world.cells w.cells h.1 st.owns t.owns },
    longer_trans base st.world.cells w.cells l h.1,
    h.2,
  )
  outcome_good base turns st (signalled name os w) t l h =
      good_from program lawful round (Objects program lawful round) base w.cells _ (longer_trans base st.world.cells w.cells l h.1) ((stays_raises program lawful round w.cells (Objects program lawful round) name os h.2).at turns (record st { world = w })
      (record { cells = h.0; frame = frame_on program lawful st.world.cells w.cells h.1 round st.frame t.frame; owns = owns_on program lawful st.world.cells w.cells h.1 st.owns t.owns })
      (longer_refl w.cells))
  outcome_good base turns st wrong t l h = (t, l, tt)

  made_in : (base : List Cell) (w : World) (o : Outcome) → Makes program lawful base o → Makes program lawful base (outcome_in w o)
  made_in base w (returned os made) h = h
  made_in base w (signalled name os made) h = h
  made_in base w wrong h = tt

  -- an action that is fitting whatever cells there are more
  pub stays_does : (base : List Cell) (action : Action) → ((cells : List Cell) → Longer base cells → Fitting program lawful cells action) →
      Stays program lawful round base (Objects program lawful round) (does action)
  unfolding does done_in
  stays_does base action h = record {
    at = λ turns st t l. outcome_good base turns st (outcome_in st.world (action (before st.world))) t l
        (made_in st.world.cells st.world (action (before st.world)) ((h st.world.cells l).at (before st.world) t.cells (longer_refl st.world.cells)));
  }

  pub stays_makes_elements : (base : List Cell) (t : CluType) (os : List Object) → AllTyped program lawful base os →
      Stays program lawful round base (Objects program lawful round) (makes_elements t os)
  unfolding makes_elements
  stays_makes_elements base (array_of t) os h = stays_does base _ (λ cells l. array_fits program lawful cells t (pos 1) os (all_on program lawful base cells l os h))
  stays_makes_elements base (sequence_of t) os h = stays_does base _ (λ cells l. sequence_fits program lawful cells t os (all_on program lawful base cells l os h))
  stays_makes_elements base _ os h = stays_wrong program lawful round base (Objects program lawful round)

  pub stays_makes_elements_from : (base : List Cell) (t : CluType) (low : Object) (os : List Object) → AllTyped program lawful base os →
      Stays program lawful round base (Objects program lawful round) (makes_elements_from t low os)
  unfolding makes_elements_from
  stays_makes_elements_from base (array_of t) (int_object low) os h = stays_does base _ (λ cells l. array_fits program lawful cells t low os (all_on program lawful base cells l os h))
  stays_makes_elements_from base _ _ os h = stays_wrong program lawful round base (Objects program lawful round)

  pub stays_makes_fields : (base : List Cell) (t : CluType) (named : List (List ℕ × Object)) → NamedTyped program lawful base named →
      Stays program lawful round base (Objects program lawful round) (makes_fields t named)
  unfolding makes_fields
  stays_makes_fields base (struct_of fs) named h = stays_needed program lawful round base (Objects program lawful round) (arranged_exactly fs named) _ (λ os e. stays_does base _ (λ cells l. struct_fits program lawful cells fs os
      (all_on program lawful base cells l os (if_found (AllTyped program lawful base) _ os e (exactly_typed program lawful base fs named h)))))
  stays_makes_fields base (record_of fs) named h = stays_needed program lawful round base (Objects program lawful round) (arranged_exactly fs named) _ (λ os e. stays_does base _ (λ cells l. record_fits program lawful cells fs os
      (all_on program lawful base cells l os (if_found (AllTyped program lawful base) _ os e (exactly_typed program lawful base fs named h)))))
  stays_makes_fields base _ named h = stays_wrong program lawful round base (Objects program lawful round)
