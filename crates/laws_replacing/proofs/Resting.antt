-- A body that isn't stale once a specification took the place of another rests on what it rested on.
use Rattle.std.proofs.Common.{◌≡◌, ◌≢◌, ◌↔◌, ℕ, ◌+◌, ◌≤◌, true, List, [], ◌∷◌, Contains, Option, Some, None, find, is_some, refl, sym, ap, subst, arith}
use Rattle.std.specs.Str.{bytes_eq}
use Rattle.std.proofs.lemmas.Slice.Eq.{bytes_eq-Decides}
use Rattle.clu_types.specs.Specs.{with_spec}
use Rattle.clu_types.specs.declared.spec.Spec.{Spec}
use Rattle.clu_library.specs.Contents.{Contents, revision_of}
use Rattle.clu_library.specs.Replacing.{with_change, with_replaced}
use Rattle.clu_library.specs.Resting.{IsWay, RestsOn, named_by, names_of}
use Rattle.clu_library.specs.Staleness.{ChangedAfter, IsStaleBody, changed_in}
use Rattle.clu_library.specs.declared.body.Body.{Body}
use Rattle.clu_library.specs.declared.body.Change.{Change}
use Rattle.clu_library.proofs.Placed.{found_other, found_this}
use Rattle.laws_replacing.specs.Laws.{RestsAsBefore}
use Rattle.laws_replacing.proofs.Found.{differs, found_item}

module _ (before : Contents) (s : Spec) where
  itself : bytes_eq s.name s.name ≡ true
  itself = (bytes_eq-Decides s.name s.name).1 refl

  -- the module that is replaced was changed after every revision so far
  changed : (checked : ℕ) → checked ≤ before.revision → ChangedAfter (with_replaced before s).specs (with_replaced before s).changes checked s.name
  changed checked l =
      let kept : find (λ t. bytes_eq t.name s.name) (with_spec before.specs s) ≡ Some s = found_this s.name before.specs s itself in
      let change : Change = record { name = s.name; revision = before.revision + 1 } in
      let found : find (λ (c : Change). bytes_eq c.name s.name) (with_change before.changes s.name before.revision) ≡ Some change = found_item (λ (c : Change). c.name) s.name before.changes change itself in
      let revision : changed_in (with_change before.changes s.name before.revision) s.name ≡ before.revision + 1 = ap revision_of found in
      (ap is_some kept, omega (arith, revision, l))

  module _ (own : List ℕ) (b : Body) (checked : b.checked ≤ before.revision) (fresh : IsStaleBody (with_replaced before s).specs (with_replaced before s).changes own b → ⊥) where
    other : (m : List ℕ) → RestsOn (with_replaced before s).specs own b.names m → m ≢ s.name
    other m r e = fresh (s.name, (subst (λ (n : List ℕ). RestsOn (with_replaced before s).specs own b.names n) e r, changed b.checked checked))

    same_spec : (m : List ℕ) → m ≢ s.name → find (λ t. bytes_eq t.name m) (with_spec before.specs s) ≡ find (λ t. bytes_eq t.name m) before.specs
    same_spec m d = found_other m before.specs s (differs s.name m (λ e. d (sym e)))

    same_named : (m : List ℕ) → m ≢ s.name → named_by (with_spec before.specs s) m ≡ named_by before.specs m
    same_named m d = ap names_of (same_spec m d)

    module _ (names : List (List ℕ)) (are : b.names ≡ Some names) where
      of_way : (m : List ℕ) (way : List (List ℕ)) → IsWay (with_spec before.specs s) own names m way → m ≢ s.name
      of_way m way w = other m (subst (λ (o : Option (List (List ℕ))). RestsOn (with_spec before.specs s) own o m) (sym are) (way, w))

      back : (m : List ℕ) (way : List (List ℕ)) → IsWay (with_spec before.specs s) own names m way → IsWay before.specs own names m way
      back m [] w = w
      back m (x ∷ way) w = (w.0, subst (λ (ns : List (List ℕ)). Contains ns m) (same_named x (of_way x way w.2)) w.1, back x way w.2)

      onward : (m : List ℕ) (way : List (List ℕ)) → IsWay before.specs own names m way → IsWay (with_spec before.specs s) own names m way
      onward m [] w = w
      onward m (x ∷ way) w =
          let there : IsWay (with_spec before.specs s) own names x way = onward x way w.2 in
          (w.0, subst (λ (ns : List (List ℕ)). Contains ns m) (sym (same_named x (of_way x way there))) w.1, there)

    same_rest : (o : Option (List (List ℕ))) → b.names ≡ o → (m : List ℕ) → RestsOn (with_spec before.specs s) own o m ↔ RestsOn before.specs own o m
    same_rest None are m = ((λ r. r), (λ r. r))
    same_rest (Some names) are m = ((λ r. (r.0, back names are m r.0 r.1)), (λ r. (r.0, onward names are m r.0 r.1)))

    pub rests_as_before : RestsAsBefore before (with_replaced before s) own b.names
    rests_as_before = record { same = λ m. same_rest b.names refl m; specs = λ m r. same_spec m (other m r) }
