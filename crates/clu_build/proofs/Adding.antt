-- What is kept of specifications as they are entered, one after the other.
use Rattle.std.proofs.Common.{◌≡◌, ◌≢◌, ◌⊎◌, inl, inr, ℕ, ◌+◌, ◌<◌, ◌≤◌, Bool, true, false, List, Contains, length, take, slice_get, Option, Some, None, IsSome, Result, Ok, Err, OnOk, refl, sym, ap, ◌∙◌, subst, true≢false}
use Rattle.std.specs.Str.{bytes_eq}
use Rattle.clu_base.proofs.Lists.{same_bytes, as_bytes, place_in, is_there}
use Rattle.clu_library.specs.Contents.{Contents, KeepsFirst, entered_by, spec_of, with_entered}
use Rattle.clu_types.specs.declared.spec.Spec.{Spec}
use Rattle.clu_build.specs.Entering.{AreAdded, AreEntered, AreSame, IsOneEntered, IsOneEnteredIf, IsSameOf}
use Rattle.clu_build.specs.Numbering.{AreNumbered, number_of}
use Rattle.clu_build.proofs.Lists.{IsEntry, cases, in_all, none_some, none_there, some_same}
use Rattle.clu_build.proofs.Numbering.{apart_of, entry_of}

-- the first n entries were entered
pub record AreAdding (before library : Contents) (specs : List Spec) (entries : List (List ℕ × ℕ)) (n : ℕ) : Type 0 where
  pub kept : (name : List ℕ) (s : Spec) → spec_of before name ≡ Some s → spec_of library name ≡ Some s
  pub new : (name : List ℕ) (s : Spec) → spec_of before name ≡ None → spec_of library name ≡ Some s → (i : ℕ) × (number_of entries name ≡ Some i) × (slice_get specs i ≡ Some s)
  pub done : (name : List ℕ) (i : ℕ) → Contains (take n entries) (name, i) → IsSome (spec_of library name)
  pub rest : library ≡ record before { specs = library.specs }

pub adding_none : (before : Contents) (specs : List Spec) (entries : List (List ℕ × ℕ)) → AreAdding before before specs entries 0
adding_none before specs entries = record {
  kept = λ name s e. e;
  new = λ name s none e. absurd (none_some (sym none ∙ e));
  done = λ name i h. absurd (none_there (name, i) h);
  rest = refl;
}

module _ (before library new : Contents) (specs : List Spec) (entries : List (List ℕ × ℕ)) (n : ℕ) (name : List ℕ) (i : ℕ) (s : Spec) (r : AreAdding before library specs entries n) (numbered : AreNumbered specs entries)
    (at : slice_get entries n ≡ Some (name, i)) (number : number_of entries name ≡ Some i) (spec : slice_get specs i ≡ Some s) (entered : new ≡ with_entered library s) (first : KeepsFirst library new s) where
  same : s.name ≡ name
  same = let it = numbered.of name i number in ap (λ (x : Spec). x.name) (some_same (sym spec ∙ it.1)) ∙ it.2

  -- what is found of a name, if something was, or if it is the one that was entered, or if it is another one
  found_kept : (q : List ℕ) (x : Spec) → spec_of library q ≡ Some x → spec_of new q ≡ Some x
  found_kept q x e = first.of_name q ∙ rw e refl

  found_new : (q : List ℕ) → spec_of library q ≡ None → bytes_eq s.name q ≡ true → spec_of new q ≡ Some s
  found_new q e this = first.of_name q ∙ rw e (rw this refl)

  found_none : (q : List ℕ) → spec_of library q ≡ None → bytes_eq s.name q ≡ false → spec_of new q ≡ None
  found_none q e other = first.of_name q ∙ rw e (rw other refl)

  some_of : (o : Option Spec) (x : Spec) → o ≡ Some x → IsSome o
  some_of o x e = let P : Option Spec → Type 0 = λ y. IsSome y in subst P (sym e) refl

  still : (q : List ℕ) → IsSome (spec_of library q) → IsSome (spec_of new q)
  still q h = by (spec_of library q) refl h
    where
      by : (o : Option Spec) → spec_of library q ≡ o → IsSome o → IsSome (spec_of new q)
      by None e h = absurd (true≢false (sym h))
      by (Some x) e h = some_of (spec_of new q) x (found_kept q x e)

  there : IsSome (spec_of new name)
  there = by (spec_of library name) refl
    where
      by : (o : Option Spec) → spec_of library name ≡ o → IsSome (spec_of new name)
      by None e = some_of (spec_of new name) s (found_new name e (as_bytes s.name name same))
      by (Some x) e = some_of (spec_of new name) x (found_kept name x e)

  is_new : (q : List ℕ) (x : Spec) → spec_of before q ≡ None → spec_of new q ≡ Some x → (j : ℕ) × (number_of entries q ≡ Some j) × (slice_get specs j ≡ Some x)
  is_new q x none e = by (spec_of library q) refl
    where
      by_name : spec_of library q ≡ None → (b : Bool) → bytes_eq s.name q ≡ b → (j : ℕ) × (number_of entries q ≡ Some j) × (slice_get specs j ≡ Some x)
      by_name empty true this =
          let is : s ≡ x = some_same (sym (found_new q empty this) ∙ e) in
          (i, ap (number_of entries) (sym (same_bytes s.name q this) ∙ same) ∙ number, spec ∙ ap Some is)
      by_name empty false other = absurd (none_some (sym (found_none q empty other) ∙ e))

      by : (o : Option Spec) → spec_of library q ≡ o → (j : ℕ) × (number_of entries q ≡ Some j) × (slice_get specs j ≡ Some x)
      by None empty = by_name empty (bytes_eq s.name q) refl
      by (Some y) held =
          let is : y ≡ x = some_same (sym (found_kept q y held) ∙ e) in
          r.new q x none (held ∙ ap Some is)

  rest_more : (o : Option Spec) → new ≡ entered_by library s o → new ≡ record before { specs = new.specs }
  rest_more None is = is ∙ ap (λ (c : Contents). record c { specs = (entered_by library s None).specs }) r.rest ∙ ap (λ (c : Contents). record before { specs = c.specs }) (sym is)
  rest_more (Some x) is = is ∙ r.rest ∙ ap (λ (c : Contents). record before { specs = c.specs }) (sym is)

  pub adding_more : AreAdding before new specs entries (n + 1)
  adding_more = record {
    kept = λ q x e. found_kept q x (r.kept q x e);
    new = is_new;
    done = λ q j h. by q j (cases entries n (name, i) at (q, j) h);
    rest = rest_more (spec_of library s.name) entered;
  }
    where
      by : (q : List ℕ) (j : ℕ) → Contains (take n entries) (q, j) ⊎ IsEntry (name, i) (q, j) → IsSome (spec_of new q)
      by q j (inl h) = still q (r.done q j h)
      by q j (inr e) = let P : List ℕ × ℕ → Type 0 = λ p. IsSome (spec_of new p.0) in subst P e there

pub adding_next : (before library new : Contents) (specs : List Spec) (entries : List (List ℕ × ℕ)) (n : ℕ) (name : List ℕ) (i : ℕ) → AreAdding before library specs entries n → AreNumbered specs entries
    → slice_get entries n ≡ Some (name, i) → number_of entries name ≡ Some i → IsOneEnteredIf library new (slice_get specs i) → AreAdding before new specs entries (n + 1)
adding_next before library new specs entries n name i r numbered at number entered =
    let it = numbered.of name i number in
    let one : IsOneEntered library new it.0 = subst (IsOneEnteredIf library new) it.1 entered in
    adding_more before library new specs entries n name i it.0 r numbered at number it.1 one.0 one.1

pub one_entered : {X E : Type 0} (r : Result X E) (before after : Contents) (specs : List Spec) (n : ℕ) (s : Spec) → slice_get specs n ≡ Some s → OnOk r (IsOneEntered before after s) → OnOk r (IsOneEnteredIf before after (slice_get specs n))
one_entered (Ok x) before after specs n s at is = subst (IsOneEnteredIf before after) (sym at) is
one_entered (Err e) before after specs n s at is = tt

pub adding_all : (before library : Contents) (specs : List Spec) (entries : List (List ℕ × ℕ)) (n : ℕ) → AreNumbered specs entries → length entries ≤ n → AreAdding before library specs entries n → AreAdded before library specs
adding_all before library specs entries n numbered le r = record { kept = r.kept; new = new; none = none; rest = r.rest }
  where
    new : (s : Spec) → Contains specs s → spec_of before s.name ≡ None → spec_of library s.name ≡ Some s
    new s h empty = by (spec_of library s.name) refl (r.done s.name place.0 (in_all entries n le (s.name, place.0) (entry_of specs entries numbered place.0 s place.2)))
      where
        place : (i : ℕ) × (i < length specs) × (slice_get specs i ≡ Some s)
        place = place_in specs s h

        by : (o : Option Spec) → spec_of library s.name ≡ o → IsSome o → o ≡ Some s
        by None e some = absurd (true≢false (sym some))
        by (Some t) e some =
            let it = r.new s.name t empty e in
            let one : it.0 ≡ place.0 = some_same (sym it.1 ∙ numbered.all place.0 s place.2) in
            sym it.2 ∙ ap (slice_get specs) one ∙ place.2

    none : (name : List ℕ) → spec_of before name ≡ None → ((s : Spec) → Contains specs s → s.name ≢ name) → spec_of library name ≡ None
    none name empty never = by (spec_of library name) refl
      where
        by : (o : Option Spec) → spec_of library name ≡ o → o ≡ None
        by None e = refl
        by (Some t) e =
            let it = r.new name t empty e in
            let its = numbered.of name it.0 it.1 in
            let is : its.0 ≡ t = some_same (sym its.1 ∙ it.2) in
            absurd (never t (is_there specs it.0 t it.2) (ap (λ (x : Spec). x.name) (sym is) ∙ its.2))

pub entered_of : (before after : Contents) (specs : List Spec) (entries : List (List ℕ × ℕ)) → AreSame before specs → AreNumbered specs entries → AreAdded before after specs → AreEntered before after specs
entered_of before after specs entries same numbered added = record { apart = apart_of specs entries numbered; same = same; added = added }

-- each of the first n has the text of what is kept
pub same_none : (library : Contents) (specs : List Spec) → AreSame library (take 0 specs)
same_none library specs s h = absurd (none_there s h)

pub same_more : (library : Contents) (specs : List Spec) (n : ℕ) (s : Spec) → slice_get specs n ≡ Some s → AreSame library (take n specs) → IsSameOf library s → AreSame library (take (n + 1) specs)
same_more library specs n s at before this t h = by (cases specs n s at t h)
  where
    by : Contains (take n specs) t ⊎ (s ≡ t) → IsSameOf library t
    by (inl h) = before t h
    by (inr e) = subst (IsSameOf library) e this

pub same_all : (library : Contents) (specs : List Spec) (n : ℕ) → length specs ≤ n → AreSame library (take n specs) → AreSame library specs
same_all library specs n le all s h = all s (in_all specs n le s h)
