-- The change that makes a body stale.
use Rattle.std.proofs.Common.{◌≡◌, ◌≢◌, ◌<◌, ◌&&◌, ℕ, List, [], ◌∷◌, Bool, true, false, not, Contains, Option, Some, None, Result, Ok, Err, IfOk, find, is_some, IsSome, refl, sym, ap, subst, ◌∙◌, true≢false, arith}
use borrow.Author.Tests.{ltb-true, ltb-false}
use Rattle.std.proofs.Math.Dec.{ltb}
use Rattle.std.proofs.lemmas.Bool.{and_from, and_parts}
use Rattle.std.specs.List.{list_any}
use Rattle.std.specs.Str.{bytes_eq}
use Rattle.std.specs.declared.cmp.Ordering.{Ordering}
use Rattle.std.specs.declared.cmp.Ordering.TheVariants.{Less}
use Rattle.std.proofs.lemmas.Option.{none-some}
use Rattle.std.proofs.lemmas.Slice.Eq.{bytes_eq-Decides}
use Rattle.indexmap.proofs.CallerLemmas.{Contains-list_any}
use Rattle.clu_base.specs.declared.errors.Memory.{Memory}
use Rattle.clu_types.specs.Specs.{name_order}
use Rattle.clu_types.specs.declared.spec.Spec.{Spec}
use Rattle.clu_library.specs.ByName.{AreAscending}
use Rattle.clu_library.specs.Contents.{Contents, body_of, revision_of}
use Rattle.clu_library.specs.Resting.{RestsOn, IsClosure, IsWay}
use Rattle.clu_library.specs.Staleness.{changed_in, MakesStale, IsStaleBody, IsCause, Tells, IsFirstChange, IsChangeOf, comes_after, first_other, first_among, IsFirstReached}
use Rattle.clu_library.specs.declared.body.Body.{Body}
use Rattle.clu_library.specs.declared.body.Change.{Change}
use Rattle.clu_library.specs.declared.staleness.StaleBy.{StaleBy}
use Rattle.clu_library.proofs.Firsts.{found_passes, some_found, found_by_name, found_least}
use Rattle.clu_library.proofs.Closing.{listed}

module _ (specs : List Spec) (revision : ℕ) (c : Change) where
  abbrev IsLate : Type 0
  IsLate = IsSome (find (λ s. bytes_eq s.name c.name) specs) × (revision < c.revision)

  late : comes_after specs revision c ≡ true → IsLate
  late e =
      let parts = and_parts (ltb revision c.revision) (is_some (find (λ s. bytes_eq s.name c.name) specs)) e in
      (parts.1, ltb-true revision c.revision parts.0)

  comes : IsLate → comes_after specs revision c ≡ true
  comes h = by (ltb revision c.revision) refl
    where
      by : (b : Bool) → ltb revision c.revision ≡ b → (b && is_some (find (λ s. bytes_eq s.name c.name) specs)) ≡ true
      by true e = h.0
      by false e = absurd (omega (arith, ltb-false))

module _ (specs : List Spec) (changes : List Change) (own : List ℕ) (body : Body) (test : Change → Bool) (ascending : AreAscending (λ (c : Change). c.name) changes)
    (sound : (c : Change) → test c ≡ true → RestsOn specs own body.names c.name × (comes_after specs body.checked c ≡ true))
    (complete : (c : Change) → RestsOn specs own body.names c.name → comes_after specs body.checked c ≡ true → test c ≡ true) where
  -- the change of a module that makes the body stale passes
  passes : (m : List ℕ) → MakesStale specs changes own body m → (c : Change) × (find (λ c. bytes_eq c.name m) changes ≡ Some c) × (test c ≡ true)
  passes m made = by (find (λ c. bytes_eq c.name m) changes) refl
    where
      by : (o : Option Change) → find (λ c. bytes_eq c.name m) changes ≡ o → (c : Change) × (find (λ c. bytes_eq c.name m) changes ≡ Some c) × (test c ≡ true)
      by None e = absurd (omega (arith, made.1.1, ap revision_of e))
      by (Some c) e =
          let named : c.name ≡ m = (bytes_eq-Decides c.name m).0 (found_passes (λ c. bytes_eq c.name m) changes c e) in
          let Rests : List ℕ → Type 0 = λ n. RestsOn specs own body.names n in
          let Kept : List ℕ → Type 0 = λ n. IsSome (find (λ s. bytes_eq s.name n) specs) in
          let late : body.checked < c.revision = omega (arith, made.1.1, ap revision_of e) in
          (c, e, complete c (subst Rests (sym named) made.0) (comes specs body.checked c (subst Kept (sym named) made.1.0, late)))

  pub first_change : (o : Option Change) → o ≡ find test changes → IsChangeOf specs changes own body o
  first_change None none = λ stale. let p = passes stale.0 stale.1 in some_found (λ c. bytes_eq c.name stale.0) test changes p.0 p.1 p.2 (sym none)
  first_change (Some c) some = record { makes = (parts.0, (when.0, is_later)); least = λ m made. let p = passes m made in found_least (λ (c : Change). c.name) test m changes c p.0 ascending (sym some) p.1 p.2; revision = at }
    where
      parts : RestsOn specs own body.names c.name × (comes_after specs body.checked c ≡ true)
      parts = sound c (found_passes test changes c (sym some))

      when : IsSome (find (λ s. bytes_eq s.name c.name) specs) × (body.checked < c.revision)
      when = late specs body.checked c parts.1

      at : changed_in changes c.name ≡ c.revision
      at = ap revision_of (found_by_name (λ (c : Change). c.name) test changes c ascending (sym some))

      is_later : body.checked < changed_in changes c.name
      is_later = omega (arith, at, when.1)

-- a body rests on other modules alone
pub rests_other : (specs : List Spec) (own : List ℕ) (names : Option (List (List ℕ))) (m : List ℕ) → RestsOn specs own names m → m ≢ own
rests_other specs own None m h = h
rests_other specs own (Some names) m h = by h.0 h.1
  where
    by : (way : List (List ℕ)) → IsWay specs own names m way → m ≢ own
    by [] h = h.0
    by (before ∷ way) h = h.0

not_own : (m own : List ℕ) → not (bytes_eq m own) ≡ true → m ≢ own
not_own m own e is = true≢false (sym e ∙ ap not ((bytes_eq-Decides m own).1 is))

is_other : (m own : List ℕ) → m ≢ own → not (bytes_eq m own) ≡ true
is_other m own other = by (bytes_eq m own) refl
  where
    by : (b : Bool) → bytes_eq m own ≡ b → not b ≡ true
    by true e = absurd (other ((bytes_eq-Decides m own).0 e))
    by false e = refl

module _ (specs : List Spec) (changes : List Change) (own : List ℕ) (body : Body) (o : Option Change) where
  -- where the body has all names, the first of another module
  pub other_first : AreAscending (λ (c : Change). c.name) changes → body.names ≡ None → o ≡ first_other specs changes own body.checked → IsChangeOf specs changes own body o
  other_first ascending all is = first_change specs changes own body (λ c. comes_after specs body.checked c && not (bytes_eq c.name own)) ascending sound complete o is
    where
      sound : (c : Change) → (comes_after specs body.checked c && not (bytes_eq c.name own)) ≡ true → RestsOn specs own body.names c.name × (comes_after specs body.checked c ≡ true)
      sound c e =
          let parts = and_parts (comes_after specs body.checked c) (not (bytes_eq c.name own)) e in
          let P : Option (List (List ℕ)) → Type 0 = λ names. RestsOn specs own names c.name in
          (subst P (sym all) (not_own c.name own parts.1), parts.0)

      complete : (c : Change) → RestsOn specs own body.names c.name → comes_after specs body.checked c ≡ true → (comes_after specs body.checked c && not (bytes_eq c.name own)) ≡ true
      complete c rests e = and_from (comes_after specs body.checked c) (not (bytes_eq c.name own)) e (is_other c.name own (rests_other specs own body.names c.name rests))

  -- where they are listed, the first of a module that was reached
  pub reached_first : AreAscending (λ (c : Change). c.name) changes → (names : List (List ℕ)) → body.names ≡ Some names → IsFirstReached specs changes own names body.checked o → IsChangeOf specs changes own body o
  reached_first ascending names listing reached = first_change specs changes own body (λ c. comes_after specs body.checked c && list_any (bytes_eq c.name) reached.0) ascending sound complete o reached.2
    where
      sound : (c : Change) → (comes_after specs body.checked c && list_any (bytes_eq c.name) reached.0) ≡ true → RestsOn specs own body.names c.name × (comes_after specs body.checked c ≡ true)
      sound c e =
          let parts = and_parts (comes_after specs body.checked c) (list_any (bytes_eq c.name) reached.0) e in
          let P : Option (List (List ℕ)) → Type 0 = λ names. RestsOn specs own names c.name in
          (subst P (sym listing) (reached.1.rests c.name (Contains-list_any bytes_eq (λ m n. (bytes_eq-Decides m n).0) reached.0 c.name parts.1)), parts.0)

      complete : (c : Change) → RestsOn specs own body.names c.name → comes_after specs body.checked c ≡ true → (comes_after specs body.checked c && list_any (bytes_eq c.name) reached.0) ≡ true
      complete c rests e =
          let P : Option (List (List ℕ)) → Type 0 = λ names. RestsOn specs own names c.name in
          and_from (comes_after specs body.checked c) (list_any (bytes_eq c.name) reached.0) e (listed reached.0 c.name (reached.1.all c.name (subst P listing rests)))

-- where no other module changed later, none on which the body rests did
pub none_other : (specs : List Spec) (changes : List Change) (own : List ℕ) (body : Body) → None ≡ first_other specs changes own body.checked → IsChangeOf specs changes own body None
none_other specs changes own body none stale = by (find (λ c. bytes_eq c.name stale.0) changes) refl
  where
    by : (o : Option Change) → find (λ c. bytes_eq c.name stale.0) changes ≡ o → ⊥
    by None e = omega (arith, stale.1.1.1, ap revision_of e)
    by (Some c) e =
        let named : c.name ≡ stale.0 = (bytes_eq-Decides c.name stale.0).0 (found_passes (λ c. bytes_eq c.name stale.0) changes c e) in
        let Kept : List ℕ → Type 0 = λ n. IsSome (find (λ s. bytes_eq s.name n) specs) in
        let late : body.checked < c.revision = omega (arith, stale.1.1.1, ap revision_of e) in
        let other : c.name ≢ own = λ is. rests_other specs own body.names stale.0 stale.1.0 (sym named ∙ is) in
        some_found (λ c. bytes_eq c.name stale.0) (λ c. comes_after specs body.checked c && not (bytes_eq c.name own)) changes c e
        (and_from (comes_after specs body.checked c) (not (bytes_eq c.name own)) (comes specs body.checked c (subst Kept (sym named) stale.1.1.0, late)) (is_other c.name own other)) (sym none)

pub ruleset causes = (other_first, reached_first, none_other)

-- what is told of the change
pub cause_told : (library : Contents) (own : List ℕ) (body : Body) (change : Change) (by : List ℕ) → IsFirstChange library.specs library.changes own body change → by ≡ change.name
    → IsCause library own body (record { by = by; changed = change.revision; checked = body.checked })
cause_told library own body change by first is =
    let P : List ℕ → Type 0 = λ name. IsCause library own body (record { by = name; changed = change.revision; checked = body.checked }) in
    subst P (sym is) (record { by = first.makes; least = first.least; changed = sym first.revision; checked = refl })

pub told_kept : (library : Contents) (name : List ℕ) (body : Body) (r : Result (Option StaleBy) Memory) → Some body ≡ body_of library name → IfOk r (Tells library name (Some body)) → IfOk r (Tells library name (body_of library name))
told_kept library name body r is told = let P : Option Body → Type 0 = λ o. IfOk r (Tells library name o) in subst P is told

pub told_none : (library : Contents) (name : List ℕ) → None ≡ body_of library name → Tells library name (body_of library name) None
told_none library name is = let P : Option Body → Type 0 = λ o. Tells library name o None in subst P is tt

pub ruleset tellings = (cause_told, told_kept, told_none)
