-- Where the revisions of a table are reached, a body is stale one of whose names leads to a later one than that at which it was checked.
use Rattle.std.proofs.Common.{◌≡◌, ◌≢◌, ◌≤◌, ◌<◌, ◌+◌, ◌⊎◌, inl, inr, ◌&&◌, ◌||◌, ℕ, suc, zero, List, [], ◌∷◌, Bool, true, false, Contains, Option, Some, None, IsTrue, IsSome, find, is_some, refl, sym, ap, subst, true≢false, arith}
use Rattle.std.proofs.lemmas.Bool.{leb-true, ltb-true, or_cases, and_parts}
use Rattle.std.proofs.Math.Dec.{leb, ltb}
use Rattle.std.specs.List.{list_all, list_any}
use Rattle.std.specs.Str.{bytes_eq}
use Rattle.std.proofs.lemmas.List.Elements.{Contains-append_right}
use Rattle.clu_types.specs.declared.spec.Spec.{Spec}
use Rattle.clu_library.specs.Bounds.{AreReached, leads, passes_if, reaches_spec}
use Rattle.clu_library.specs.Resting.{names, names_of, named_by, IsWay, RestsOn, with_changed}
use Rattle.clu_library.specs.Staleness.{changed_in, IsStaleBody}
use Rattle.clu_library.specs.declared.body.Body.{Body}
use Rattle.clu_library.specs.declared.body.Change.{Change}
use Rattle.clu_library.proofs.Bounding.{each_passes}
use Rattle.clu_library.proofs.Placed.{named}

-- what one of a list passes
pub any_listed : (t : List ℕ → Bool) (xs : List (List ℕ)) → list_any t xs ≡ true → (x : List ℕ) × Contains xs x × (t x ≡ true)
any_listed t [] e = absurd (true≢false (sym e))
any_listed t (x ∷ xs) e = by (t x) refl e (any_listed t xs)
  where
    further : (y : List ℕ) × Contains xs y × (t y ≡ true) → (y : List ℕ) × Contains (x ∷ xs) y × (t y ≡ true)
    further h = (h.0, Contains-append_right (x ∷ []) xs h.0 h.1, h.2)

    by : (b : Bool) → t x ≡ b → (b || list_any t xs) ≡ true → (list_any t xs ≡ true → (y : List ℕ) × Contains xs y × (t y ≡ true)) → (y : List ℕ) × Contains (x ∷ xs) y × (t y ≡ true)
    by true is e behind = (x, (0, omega arith, refl), is)
    by false is e behind = further (behind e)

module _ (specs : List Spec) (changes : List Change) (bound rank : List ℕ → ℕ) where
  -- what a module is that leads on
  abbrev Leads : List ℕ → ℕ → List ℕ → Type 0
  Leads own least m = (least ≤ bound m) × (rank m < rank own) × IsSome (find (λ s. bytes_eq s.name m) specs)

  leading : (own : List ℕ) (least : ℕ) (m : List ℕ) → leads specs bound rank own least m ≡ true → Leads own least m
  leading own least m e =
      let outer = and_parts (leb least (bound m) && ltb (rank m) (rank own)) (is_some (find (λ s. bytes_eq s.name m) specs)) e in
      let inner = and_parts (leb least (bound m)) (ltb (rank m) (rank own)) outer.0 in
      (leb-true least (bound m) inner.0, ltb-true (rank m) (rank own) inner.1, outer.1)

  -- of a module that leads on, by the test of its specification
  abbrev IsReached : List (List ℕ) → List ℕ → Type 0
  IsReached named name = (bound name ≤ changed_in changes name) ⊎ ((m : List ℕ) × Contains named m × IsTrue (leads specs bound rank name (bound name) m))

  reached_spec : (s : Spec) (name : List ℕ) → reaches_spec specs changes bound rank s ≡ true → s.name ≡ name → IsReached (names s) name
  reached_spec s name passes is = let P : List ℕ → Type 0 = λ n. IsReached (names s) n in subst P is (by (or_cases (leb (bound s.name) (changed_in changes s.name)) (list_any (leads specs bound rank s.name (bound s.name)) (names s)) passes))
    where
      by : (leb (bound s.name) (changed_in changes s.name) ≡ true) ⊎ (list_any (leads specs bound rank s.name (bound s.name)) (names s) ≡ true) → IsReached (names s) s.name
      by (inl here) = inl (leb-true (bound s.name) (changed_in changes s.name) here)
      by (inr on) = inr (any_listed (leads specs bound rank s.name (bound s.name)) (names s) on)

  module _ (reached : AreReached specs changes bound rank) (own : List ℕ) (first : List (List ℕ)) (least : ℕ) where
    -- a module on which the body rests, and which was replaced from a revision on
    abbrev Later : Type 0
    Later = (x : List ℕ) × ((way : List (List ℕ)) × IsWay specs own first x way) × IsSome (find (λ s. bytes_eq s.name x) specs) × (least ≤ changed_in changes x)

    other : (m : List ℕ) → rank m < rank own → m ≢ own
    other m before is = omega (arith, before, ap rank is)

    -- on and on, to modules that were reached before
    onward : (n : ℕ) (m : List ℕ) (way : List (List ℕ)) → rank m < n → Leads own least m → IsWay specs own first m way → Later
    onward zero m way lt here is = absurd (omega (arith, lt))
    onward (suc n) m way lt here is = by (reached.reached m here.2) (onward n)
      where
        by : IsReached (named_by specs m) m → ((m : List ℕ) (way : List (List ℕ)) → rank m < n → Leads own least m → IsWay specs own first m way → Later) → Later
        by (inl changed) further = (m, (way, is), here.2, omega (arith, here.0, changed))
        by (inr step) further = on (leading m (bound m) step.0 step.2)
          where
            on : Leads m (bound m) step.0 → Later
            on next =
                let too : Leads own least step.0 = (omega (arith, here.0, next.0), omega (arith, here.1, next.1), next.2) in
                further step.0 (m ∷ way) (omega (arith, lt, next.1)) too (other step.0 too.1, step.1, is)

-- the bounds are reached, by the tests
pub are_reached : (specs : List Spec) (o : Option Spec) (changes : List Change) (bound rank : List ℕ → ℕ) → passes_if (reaches_spec (with_changed specs o) changes bound rank) o ≡ true
    → list_all (reaches_spec (with_changed specs o) changes bound rank) specs ≡ true → AreReached (with_changed specs o) changes bound rank
are_reached specs o changes bound rank this all = record { reached = λ name kept. of_found name (named name (with_changed specs o)) refl kept }
  where
    of_found : (name : List ℕ) (found : Option Spec) → named name (with_changed specs o) ≡ found → IsSome found → IsReached (with_changed specs o) changes bound rank (names_of found) name
    of_found name None e some = absurd (true≢false (sym some))
    of_found name (Some s) e some =
        let passes = each_passes (reaches_spec (with_changed specs o) changes bound rank) specs o this all name s e in
        reached_spec (with_changed specs o) changes bound rank s name passes.0 passes.1

-- then a body is stale one of whose names leads to a later revision
pub stale_by_rank : (specs : List Spec) (changes : List Change) (bound rank : List ℕ → ℕ) (own : List ℕ) (body : Body) (names : List (List ℕ)) → AreReached specs changes bound rank
    → body.names ≡ Some names → list_any (leads specs bound rank own (body.checked + 1)) names ≡ true → IsStaleBody specs changes own body
stale_by_rank specs changes bound rank own body names reached listing passes =
    let found = any_listed (leads specs bound rank own (body.checked + 1)) names passes in
    let here = leading specs changes bound rank own (body.checked + 1) found.0 found.2 in
    let later = onward specs changes bound rank reached own names (body.checked + 1) (rank own) found.0 [] here.1 here (other specs changes bound rank reached own names (body.checked + 1) found.0 here.1, found.1) in
    let P : Option (List (List ℕ)) → Type 0 = λ o. RestsOn specs own o later.0 in
    (later.0, (subst P (sym listing) later.1, (later.2, omega (arith, later.3))))
