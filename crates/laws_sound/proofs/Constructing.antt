-- Constructors of arrays, sequences, structs and records give objects of their type.
use Rattle.std.proofs.Common.{◌≡◌, ℕ, suc, Bool, true, false, List, [], ◌∷◌, ◌++◌, Option, None, Some, refl, sym, ap, ap₂, subst, ◌∙◌, cond}
use Rattle.std.specs.Prelude.{ℤ, pos, length, nat_eq, bytes_eq}
use Rattle.std.proofs.lemmas.Bool.{false≢true, and_parts, and_from}
use Rattle.clu_types.specs.CluType.{CluType, int_type, array_of, sequence_of, record_of, struct_of, CluTypes, no_types, type_and, Fields, no_fields, field_and, no_signals}
use Rattle.clu_builtin.specs.Operation.{one}
use Rattle.clu_builtin.specs.Table.{parts_of}
use Rattle.clu_layout.specs.Objects.{Routine, Object, int_object, sequence_object, struct_object, inside, Cell, array_cell, record_cell, own_type, own_types}
use Rattle.clu_layout.specs.SameType.{fits, all_fit}
use Rattle.clu_layout.specs.Actions.{World, Outcome, Action, fresh_array, makes, gives_all}
use Rattle.clu_layout.specs.Actions as layout
use Rattle.clu_layout.specs.Primitive.{before, outcome_in, done_in, same_for_each, array_construction, sequence_construction, struct_construction, record_construction}
use Rattle.clu_layout.proofs.CellLaws.{Longer, longer_trans}
use Rattle.clu_layout.proofs.ListedLaws.{IsListed, SignalsOnly, only_need, only_takes, only_or_fails, only_makes}
use Rattle.clu_meaning.specs.Lists.{selectors, in_front}
use Rattle.clu_meaning.specs.Programs.{Program}
use Rattle.clu_meaning.specs.Computations.{Computation, does, needed}
use Rattle.clu_meaning.specs.Calls.{Round}
use Rattle.clu_meaning.specs.Expressions.{each_with, object_named, arranged, arranged_exactly, makes_fields, makes_elements, makes_elements_from}
use Rattle.clu_meaning.proofs.TypedFacts.{typed_on}
use Rattle.clu_meaning.proofs.TypedComputing.{Objects, Stays}
use Rattle.clu_meaning.proofs.TypedMaking.{NamedTyped, stays_makes_elements, stays_makes_elements_from, stays_makes_fields}
use Rattle.laws_sound.specs.Raises.{Raise, Covers, failing}
use Rattle.laws_sound.specs.WellTyped.{are_each, ElementsFit, ElementsFrom, NamedTypes, each_of_type, type_named, ComponentsFit, FieldsFit}
use Rattle.laws_sound.proofs.Safe.{Sound, Safe, both, AreOf, IsOf}
use Rattle.laws_sound.proofs.Shapes.{fits_itself, included_is, int_is}
use Rattle.laws_sound.proofs.Works.{Works, works_need, works_takes, works_or_fails, works_makes, works_gives}
use Rattle.laws_sound.proofs.Moves.{Raised, OnlyRaises, does_safe}
use Rattle.laws_sound.proofs.Invoking.{ListedIn, listed_in}
use Rattle.laws_sound.proofs.Transitive.{trans_fits}

-- ---- objects with selectors, of these types

module _ (program : Program) (lawful : Routine → Type 0) (cells : List Cell) where
  abbrev pub NamedAre : List (List ℕ × Object) → NamedTypes → Type 0
  NamedAre [] [] = Unit {0}
  NamedAre (x ∷ xs) (t ∷ ts) = (x.0 ≡ t.0) × IsOf program lawful t.1 cells x.1 × NamedAre xs ts
  NamedAre _ _ = ⊥

  pub no_named : (named : NamedTypes) → named ≡ [] → NamedAre [] named
  no_named named e = subst (NamedAre []) (sym e) tt

  pub each_named : (names : List (List ℕ)) (o : Object) (u : CluType) → IsOf program lawful u cells o → NamedAre (each_with names o) (each_of_type names u)
  each_named [] o u h = tt
  each_named (n ∷ ns) o u h = (refl, h, each_named ns o u h)

  pub named_and : (xs ys : List (List ℕ × Object)) (ts us : NamedTypes) → NamedAre xs ts → NamedAre ys us → NamedAre (xs ++ ys) (ts ++ us)
  named_and [] ys [] us h k = k
  named_and (x ∷ xs) ys (t ∷ ts) us h k = (h.0, h.1, named_and xs ys ts us h.2 k)
  named_and [] ys (t ∷ ts) us h k = absurd h
  named_and (x ∷ xs) ys [] us h k = absurd h

  named_typed : (xs : List (List ℕ × Object)) (ts : NamedTypes) → NamedAre xs ts → NamedTyped program lawful cells xs
  named_typed [] [] h = tt
  named_typed (x ∷ xs) (t ∷ ts) h = (h.1.0, named_typed xs ts h.2)
  named_typed [] (t ∷ ts) h = absurd h
  named_typed (x ∷ xs) [] h = absurd h

  same_length : (xs : List (List ℕ × Object)) (ts : NamedTypes) → NamedAre xs ts → length xs ≡ length ts
  same_length [] [] h = refl
  same_length (x ∷ xs) (t ∷ ts) h = ap suc (same_length xs ts h.2)
  same_length [] (t ∷ ts) h = absurd h
  same_length (x ∷ xs) [] h = absurd h

  abbrev Found : Option Object → Option CluType → Type 0
  Found (Some o) (Some t) = fits (own_type o) t ≡ true
  Found None None = Unit {0}
  Found _ _ = ⊥

  found_chosen : (b : Bool) (o : Object) (t : CluType) (os : Option Object) (ts : Option CluType) → fits (own_type o) t ≡ true → Found os ts → Found (cond b (Some o) os) (cond b (Some t) ts)
  found_chosen true o t os ts h k = h
  found_chosen false o t os ts h k = k

  found_named : (xs : List (List ℕ × Object)) (ts : NamedTypes) (s : List ℕ) → NamedAre xs ts → Found (object_named xs s) (type_named ts s)
  found_named [] [] s h = tt
  found_named (x ∷ xs) (t ∷ ts) s h = subst (λ n. Found (cond (bytes_eq x.0 s) (Some x.1) (object_named xs s)) (cond (bytes_eq n s) (Some t.1) (type_named ts s))) h.0
      (found_chosen (bytes_eq x.0 s) x.1 t.1 (object_named xs s) (type_named ts s) h.1.1 (found_named xs ts s h.2))
  found_named [] (t ∷ ts) s h = absurd h
  found_named (x ∷ xs) [] s h = absurd h

  there : (found : Option Object) (t : CluType) → Found found (Some t) → (o : Object) × (found ≡ Some o) × (fits (own_type o) t ≡ true)
  there (Some o) t h = (o, refl, h)
  there None t h = absurd h

  -- the objects in the order of the selectors
  arranged_there : (fs : Fields) (xs : List (List ℕ × Object)) (ts : NamedTypes) → NamedAre xs ts → ComponentsFit fs ts → (os : List Object) × (arranged fs xs ≡ Some os) × (all_fit (own_types os) (parts_of fs) ≡ true)
  arranged_there no_fields xs ts h c = ([], refl, refl)
  arranged_there (field_and s t rest) xs ts h c =
      let found = there (object_named xs s) c.0.0 (subst (Found (object_named xs s)) c.0.1 (found_named xs ts s h)) in
      let later = arranged_there rest xs ts h c.1 in
      (found.0 ∷ later.0, ap₂ in_front found.1 later.1, and_from (fits (own_type found.0) t) (all_fit (own_types later.0) (parts_of rest)) (trans_fits (own_type found.0) c.0.0 t found.2 c.0.2) later.2)

  pub exactly_there : (fs : Fields) (xs : List (List ℕ × Object)) (ts : NamedTypes) → NamedAre xs ts → nat_eq (length ts) (selectors fs) ≡ true → ComponentsFit fs ts →
      (os : List Object) × (arranged_exactly fs xs ≡ Some os) × (all_fit (own_types os) (parts_of fs) ≡ true)
  exactly_there fs xs ts h n c =
      let found = arranged_there fs xs ts h c in
      (found.0, ap (λ b. cond b (arranged fs xs) None) (ap (λ k. nat_eq k (selectors fs)) (same_length xs ts h) ∙ n) ∙ found.1, found.2)

pub named_on : (program : Program) (lawful : Routine → Type 0) (a b : List Cell) → Longer a b → (xs : List (List ℕ × Object)) (ts : NamedTypes) → NamedAre program lawful a xs ts → NamedAre program lawful b xs ts
named_on program lawful a b l [] [] h = tt
named_on program lawful a b l (x ∷ xs) (t ∷ ts) h = (h.0, (typed_on program lawful a b l x.1 h.1.0, h.1.1), named_on program lawful a b l xs ts h.2)
named_on program lawful a b l [] (t ∷ ts) h = absurd h
named_on program lawful a b l (x ∷ xs) [] h = absurd h

-- ---- elements

each_fits : (t : CluType) (us : CluTypes) (os : List Object) → are_each t us ≡ true → all_fit (own_types os) us ≡ true → all_fit (own_types os) (same_for_each t os) ≡ true
each_fits t no_types [] e h = refl
each_fits t (type_and u us) (o ∷ os) e h =
    let p = and_parts (fits (own_type o) u) (all_fit (own_types os) us) h in
    let q = and_parts (fits u t) (are_each t us) e in
    and_from (fits (own_type o) t) (all_fit (own_types os) (same_for_each t os)) (trans_fits (own_type o) u t p.0 q.0) (each_fits t us os q.1 p.1)
each_fits t no_types (o ∷ os) e h = absurd (false≢true h)
each_fits t (type_and u us) [] e h = absurd (false≢true h)

-- ---- actions that signal nothing

abbrev Quiet : Outcome → Type 0
Quiet (layout.returned os w) = Unit {0}
Quiet (layout.signalled name os w) = ⊥
Quiet layout.wrong = Unit {0}

record SignalsNothing (action : Action) : Type 0 where
  at : (w : World) → Quiet (action w)

nothing_need : (b : Bool) (rest : Action) → SignalsNothing rest → SignalsNothing (layout.need b rest)
unfolding layout.need layout.no_case
nothing_need true rest h = h
nothing_need false rest h = record { at = λ w. tt }

nothing_takes : (n : ℕ) (rest : Action) → SignalsNothing rest → SignalsNothing (layout.takes n rest)
unfolding layout.takes
nothing_takes n rest h = record { at = λ w. h.at _ }

nothing_gives : (os : List Object) → SignalsNothing (gives_all os)
unfolding gives_all
nothing_gives os = record { at = λ w. tt }

nothing_makes : (cell : Cell) → SignalsNothing (makes cell)
unfolding makes
nothing_makes cell = record { at = λ w. tt }

quiet_listed : (rs : List Raise) (w : World) (o : Outcome) → Quiet o → ListedIn rs (outcome_in w o)
quiet_listed rs w (layout.returned os made) h = tt
quiet_listed rs w (layout.signalled name os made) h = absurd h
quiet_listed rs w layout.wrong h = tt

failing_listed : (rs : List Raise) → Covers (failing ∷ []) rs → (w : World) (o : Outcome) → IsListed no_signals o → ListedIn rs (outcome_in w o)
failing_listed rs c w (layout.returned os made) h = tt
failing_listed rs c w (layout.signalled name os made) h = c.at name os (listed_in no_signals (layout.signalled name os made) h)
failing_listed rs c w layout.wrong h = tt

-- ---- constructors

module _ (program : Program) (lawful : Routine → Type 0) (round : Round) (base : List Cell) where
  abbrev Gives : CluTypes → List Raise → Computation (List Object) → Type 0
  Gives ts rs m = Sound program lawful round base (AreOf program lawful ts) (OnlyRaises program lawful rs) m

  made : (T : CluType) (rs : List Raise) (m : Computation (List Object)) (action : Action) → Stays program lawful round base (Objects program lawful round) m → m ≡ does action →
      Works program lawful base (one T) action → ((w : World) → ListedIn rs (done_in w action)) → Gives (one T) rs m
  made T rs m action s e works listed = both program lawful round base (Objects program lawful round) (λ os. all_fit (own_types os) (one T) ≡ true) (Raised rs) m s
      (subst (Safe program lawful round base (λ os. all_fit (own_types os) (one T) ≡ true) (Raised rs)) (sym e)
      (does_safe program lawful round (one T) rs base action (λ cells l. record { at = λ w each k. works.at w each (longer_both l k) }) listed))
    where
      longer_both : {cells more : List Cell} → Longer base cells → Longer cells more → Longer base more
      longer_both {cells} {more} l k = longer_trans base cells more l k

  array_works : (t : CluType) (low : ℤ) (os : List Object) → all_fit (own_types os) (same_for_each t os) ≡ true → Works program lawful base (one (array_of t)) (array_construction t low os)
  array_works t low os fit = works_need program lawful base (one (array_of t)) _ _ fit (works_takes program lawful base (one (array_of t)) _ _ (works_or_fails program lawful base (one (array_of t)) _ _ _
      (works_takes program lawful base (one (array_of t)) _ _ (works_makes program lawful base (one (array_of t)) (array_cell (fresh_array t low os)) (single (array_of t))))))
    where
      single : (T : CluType) → all_fit (one T) (one T) ≡ true
      single T = and_from (fits T T) true (fits_itself T) refl

  array_listed : (t : CluType) (low : ℤ) (os : List Object) → SignalsOnly no_signals (array_construction t low os)
  array_listed t low os = only_need no_signals _ _ (only_takes no_signals _ _ (only_or_fails no_signals _ _ _ (only_takes no_signals _ _ (only_makes no_signals (array_cell (fresh_array t low os))))))

  array_made : (t : CluType) (rs : List Raise) (low : ℤ) (us : CluTypes) (os : List Object) (m : Computation (List Object)) → Stays program lawful round base (Objects program lawful round) m → m ≡ does (array_construction t low os) →
      are_each t us ≡ true → all_fit (own_types os) us ≡ true → Covers (failing ∷ []) rs → Gives (one (array_of t)) rs m
  unfolding done_in
  array_made t rs low us os m s e each fit c = made (array_of t) rs m (array_construction t low os) s e (array_works t low os (each_fits t us os each fit))
      (λ w. failing_listed rs c w (array_construction t low os (before w)) ((array_listed t low os).at (before w)))

  pub sound_makes_elements : (T : CluType) (rs : List Raise) (us : CluTypes) (os : List Object) → AreOf program lawful us base os → ElementsFit T us → Covers (failing ∷ []) rs → Gives (one T) rs (makes_elements T os)
  unfolding makes_elements done_in
  sound_makes_elements (array_of t) rs us os h e c = array_made t rs (pos 1) us os (makes_elements (array_of t) os) (stays_makes_elements program lawful round base (array_of t) os h.0) refl e h.1 c
  sound_makes_elements (sequence_of t) rs us os h e c = made (sequence_of t) rs (makes_elements (sequence_of t) os) (sequence_construction t os) (stays_makes_elements program lawful round base (sequence_of t) os h.0) refl
      (works_need program lawful base (one (sequence_of t)) _ _ (each_fits t us os e h.1) (works_takes program lawful base (one (sequence_of t)) _ _ (works_takes program lawful base (one (sequence_of t)) _ _
      (works_gives program lawful base (one (sequence_of t)) (sequence_object t (inside os) ∷ []) (and_from (fits (sequence_of t) (sequence_of t)) true (fits_itself (sequence_of t)) refl)))))
      (λ w. quiet_listed rs w (sequence_construction t os (before w)) ((nothing_need _ _ (nothing_takes _ _ (nothing_takes _ _ (nothing_gives (sequence_object t (inside os) ∷ []))))).at (before w)))
  sound_makes_elements _ rs us os h e c = absurd e

  -- with a low bound
  pub sound_makes_from : (T : CluType) (rs : List Raise) (us : CluTypes) (low : Object) (os : List Object) → IsOf program lawful int_type base low → AreOf program lawful us base os → ElementsFrom T us → Covers (failing ∷ []) rs →
      Gives (one T) rs (makes_elements_from T low os)
  unfolding makes_elements_from
  sound_makes_from (array_of t) rs us low os l h e c =
      let is = int_is program lawful base low l.0 (included_is (own_type low) int_type refl refl l.1) in
      subst (λ x. Gives (one (array_of t)) rs (makes_elements_from (array_of t) x os)) (sym is.1)
      (array_made t rs is.0 us os (makes_elements_from (array_of t) (int_object is.0) os) (stays_makes_elements_from program lawful round base (array_of t) (int_object is.0) os h.0) refl e h.1 c)
  sound_makes_from _ rs us low os l h e c = absurd e

  pub sound_makes_fields : (T : CluType) (rs : List Raise) (named : List (List ℕ × Object)) (types : NamedTypes) → NamedAre program lawful base named types → FieldsFit T types → Gives (one T) rs (makes_fields T named)
  unfolding makes_fields needed done_in
  sound_makes_fields (struct_of fs) rs named types h f =
      let found = exactly_there program lawful base fs named types h f.0 f.1 in
      made (struct_of fs) rs (makes_fields (struct_of fs) named) (struct_construction fs found.0) (stays_makes_fields program lawful round base (struct_of fs) named (named_typed program lawful base named types h))
      (ap (λ o. needed o (λ os. does (struct_construction fs os))) found.1)
      (works_need program lawful base (one (struct_of fs)) _ _ found.2 (works_takes program lawful base (one (struct_of fs)) _ _ (works_takes program lawful base (one (struct_of fs)) _ _
      (works_gives program lawful base (one (struct_of fs)) (struct_object fs (inside found.0) ∷ []) (and_from (fits (struct_of fs) (struct_of fs)) true (fits_itself (struct_of fs)) refl)))))
      (λ w. quiet_listed rs w (struct_construction fs found.0 (before w)) ((nothing_need _ _ (nothing_takes _ _ (nothing_takes _ _ (nothing_gives (struct_object fs (inside found.0) ∷ []))))).at (before w)))
  sound_makes_fields (record_of fs) rs named types h f =
      let found = exactly_there program lawful base fs named types h f.0 f.1 in
      made (record_of fs) rs (makes_fields (record_of fs) named) (record_construction fs found.0) (stays_makes_fields program lawful round base (record_of fs) named (named_typed program lawful base named types h))
      (ap (λ o. needed o (λ os. does (record_construction fs os))) found.1)
      (works_need program lawful base (one (record_of fs)) _ _ found.2 (works_takes program lawful base (one (record_of fs)) _ _ (works_takes program lawful base (one (record_of fs)) _ _
      (works_makes program lawful base (one (record_of fs)) (record_cell fs found.0) (and_from (fits (record_of fs) (record_of fs)) true (fits_itself (record_of fs)) refl)))))
      (λ w. quiet_listed rs w (record_construction fs found.0 (before w)) ((nothing_need _ _ (nothing_takes _ _ (nothing_takes _ _ (nothing_makes (record_cell fs found.0))))).at (before w)))
  sound_makes_fields _ rs named types h f = absurd f
