-- Where the revisions of a table are bounds, no body is stale whose names have lower ones.
use Rattle.std.proofs.Common.{◌≡◌, ◌≤◌, ◌<◌, ℕ, suc, zero, List, [], ◌∷◌, Bool, true, false, cond, Contains, length, get_or, Option, Some, None, find, refl, sym, ap, subst, ◌∙◌, arith}
use borrow.Author.Tests.{leb-true}
use Rattle.std.proofs.Math.Dec.{leb}
use Rattle.std.proofs.lemmas.Bool.{and_parts}
use Rattle.std.specs.List.{list_all}
use Rattle.std.specs.Str.{bytes_eq}
use Rattle.std.proofs.lemmas.Option.{none-some, same_Some}
use Rattle.std.proofs.lemmas.Slice.Eq.{bytes_eq-Decides}
use Rattle.clu_types.specs.declared.spec.Spec.{Spec}
use Rattle.clu_library.specs.Bounds.{AreBounds, bounds_spec, bounds_change, passes_if, at_most}
use Rattle.clu_library.specs.Contents.{revision_of}
use Rattle.clu_library.specs.Resting.{names, names_of, IsWay, RestsOn, with_changed}
use Rattle.clu_library.specs.Staleness.{changed_in, IsStaleBody}
use Rattle.clu_library.specs.declared.body.Body.{Body}
use Rattle.clu_library.specs.declared.body.Change.{Change}
use Rattle.clu_library.proofs.Firsts.{found_passes}
use Rattle.clu_library.proofs.Placed.{named, found_other, found_this}

-- what all pass, each passes
pub all_found : {X : Type 0} (t p : X → Bool) (xs : List X) (y : X) → list_all t xs ≡ true → find p xs ≡ Some y → t y ≡ true
all_found t p [] y all e = absurd (none-some y e)
all_found {X} t p (x ∷ xs) y all e = by (p x) e (all_found t p xs y (and_parts (t x) (list_all t xs) all).1)
  where
    by : (b : Bool) → cond b (Some x) (find p xs) ≡ Some y → (find p xs ≡ Some y → t y ≡ true) → t y ≡ true
    by true e further = ap t (sym (same_Some x y e)) ∙ (and_parts (t x) (list_all t xs) all).0
    by false e further = further e

all_listed : {X : Type 0} (t : X → Bool) (xs : List X) (y : X) → list_all t xs ≡ true → Contains xs y → t y ≡ true
all_listed t [] y all h = absurd (omega (arith, h.1))
all_listed {X} t (x ∷ xs) y all h = by h.0 h.1 h.2 (all_listed t xs y (and_parts (t x) (list_all t xs) all).1)
  where
    by : (k : ℕ) → k < length (x ∷ xs) → get_or (x ∷ xs) k y ≡ y → (Contains xs y → t y ≡ true) → t y ≡ true
    by zero lt is further = ap t (sym is) ∙ (and_parts (t x) (list_all t xs) all).0
    by (suc k) lt is further = further (k, omega arith, is)

-- a test that all specifications pass, with one in the place of that of its module
pub each_passes : (test : Spec → Bool) (specs : List Spec) (o : Option Spec) → passes_if test o ≡ true → list_all test specs ≡ true → (name : List ℕ) (s : Spec) → named name (with_changed specs o) ≡ Some s → (test s ≡ true) × (s.name ≡ name)
each_passes test specs o this all name s found = (by o this found, (bytes_eq-Decides s.name name).0 (found_passes (λ s. bytes_eq s.name name) (with_changed specs o) s found))
  where
    kept : named name specs ≡ Some s → test s ≡ true
    kept there = all_found test (λ s. bytes_eq s.name name) specs s all there

    by : (o : Option Spec) → passes_if test o ≡ true → named name (with_changed specs o) ≡ Some s → test s ≡ true
    by None this found = kept found
    by (Some x) this found = at (bytes_eq x.name name) refl
      where
        at : (b : Bool) → bytes_eq x.name name ≡ b → test s ≡ true
        at true e = ap test (sym (same_Some x s (sym (found_this name specs x e) ∙ found))) ∙ this
        at false e = kept (sym (found_other name specs x e) ∙ found)

-- the bounds, by the tests
pub are_bounds : (specs : List Spec) (o : Option Spec) (changes : List Change) (bound : List ℕ → ℕ) → passes_if (bounds_spec bound) o ≡ true → list_all (bounds_spec bound) specs ≡ true
    → list_all (bounds_change bound) changes ≡ true → AreBounds (with_changed specs o) changes bound
are_bounds specs o changes bound this all replaced = record { named = λ name m h. of_found name m (named name (with_changed specs o)) refl h; changed = λ name. of_change name (find (λ c. bytes_eq c.name name) changes) refl }
  where
    of_found : (name m : List ℕ) (found : Option Spec) → named name (with_changed specs o) ≡ found → Contains (names_of found) m → bound m ≤ bound name
    of_found name m None e h = absurd (omega (arith, h.1))
    of_found name m (Some s) e h =
        let passes = each_passes (bounds_spec bound) specs o this all name s e in
        let P : List ℕ → Type 0 = λ n. bound m ≤ bound n in
        subst P passes.1 (leb-true (bound m) (bound s.name) (all_listed (λ m. leb (bound m) (bound s.name)) (names s) m passes.0 h))

    of_change : (name : List ℕ) (o : Option Change) → find (λ c. bytes_eq c.name name) changes ≡ o → revision_of (find (λ c. bytes_eq c.name name) changes) ≤ bound name
    of_change name None e = omega (arith, ap revision_of e)
    of_change name (Some c) e =
        let P : List ℕ → Type 0 = λ n. c.revision ≤ bound n in
        let passes = all_found (bounds_change bound) (λ c. bytes_eq c.name name) changes c replaced e in
        let most : c.revision ≤ bound name = subst P ((bytes_eq-Decides c.name name).0 (found_passes (λ c. bytes_eq c.name name) changes c e)) (leb-true c.revision (bound c.name) passes) in
        omega (arith, ap revision_of e, most)

-- then a body whose names have at most the revision at which it was checked isn't stale
pub not_stale : (specs : List Spec) (changes : List Change) (bound : List ℕ → ℕ) (own : List ℕ) (body : Body) (names : List (List ℕ)) → AreBounds specs changes bound
    → body.names ≡ Some names → at_most bound body.checked names ≡ true → IsStaleBody specs changes own body → ⊥
not_stale specs changes bound own body names bounds listing most stale = omega (arith, stale.1.1.1, bounds.changed stale.0, along stale.0 rests.0 rests.1)
  where
    along : (m : List ℕ) (way : List (List ℕ)) → IsWay specs own names m way → bound m ≤ body.checked
    along m [] h = leb-true (bound m) body.checked (all_listed (λ m. leb (bound m) body.checked) names m most h.1)
    along m (before ∷ way) h = omega (arith, along before way h.2, bounds.named before m h.1)

    rests : (way : List (List ℕ)) × IsWay specs own names stale.0 way
    rests = let P : Option (List (List ℕ)) → Type 0 = λ names. RestsOn specs own names stale.0 in subst P listing stale.1.0
