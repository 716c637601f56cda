-- That the routines of a program, and so their modules, keep to the library.
use Rattle.std.proofs.Common.{◌≡◌, ◌↔◌, ℕ, Bool, true, false, All, Contains, IsTrue, List, [], ◌∷◌, ◌++◌, Option, Some, None, get_or, if◌then◌else◌, refl, ◌∙◌, subst, sym, true≢false}
use Rattle.std.proofs.lemmas.List.Elements.{All-cons, All-head, All-tail, All-push}
use Rattle.std.proofs.lemmas.List.Folds.{list_any_at}
use Rattle.std.proofs.lemmas.List.Filters.{All-dedup, dedup_is}
use Rattle.std.proofs.lemmas.List.Sorted.{All-permutation}
use Rattle.std.proofs.lemmas.Map.Views.{Contains-from_any}
use Rattle.std.proofs.lemmas.Slice.Eq.{bytes_eq-Decides}
use Rattle.std.specs.List.{list_any}
use Rattle.std.specs.List.Retain.{DiffersFromLast, IsFiltered}
use Rattle.std.specs.List.Sorted.{IsPermutation}
use Rattle.std.specs.Map.{keys_of}
use Rattle.std.specs.Str.{bytes_eq}
use Rattle.indexmap.specs.IndexMap.{insert_entry}
use Rattle.clu_library.specs.Contents.{Contents, body_of}
use Rattle.clu_library.specs.Staleness.{AreStale, IsCause, IsStale, IsStaleIf, Tells}
use Rattle.clu_library.specs.declared.body.Body.{Body}
use Rattle.clu_library.specs.declared.staleness.StaleBy.{StaleBy}
use Rattle.clu_reach.specs.Causes.{HasBody, HaveBodies}
use Rattle.clu_reach.specs.Found.{AreKept, IsKept, IsStaleModule}
use Rattle.clu_reach.specs.declared.reaching.RoutineName.{RoutineName}

module _ {K V : Type 0} (eq : K → K → Bool) (P : K → Type 0) (k : K) (v : V) (is : P k) where
  all_inserted : (es : List (K × V)) → All P (keys_of es) → All P (keys_of (insert_entry eq es k v))
  all_inserted [] all = All-cons P k [] is all
  all_inserted (e ∷ es) all = by (eq k e.0) (all_inserted es (All-tail P e.0 (keys_of es) all))
    where
      by : (b : Bool) → All P (keys_of (insert_entry eq es k v)) → All P (keys_of (if b then (e.0, v) ∷ es else e ∷ insert_entry eq es k v))
      by true rest = all
      by false rest = All-cons P e.0 (keys_of (insert_entry eq es k v)) (All-head P e.0 (keys_of es) all) rest

-- with a routine more
pub kept_with : {V : Type 0} (library : Contents) (eq : RoutineName → RoutineName → Bool) (name : RoutineName) (code : V) (before after : List (RoutineName × V))
    → after ≡ insert_entry eq before name code → IsKept library name → AreKept library (keys_of before) → AreKept library (keys_of after)
kept_with library eq name code before after is one all =
    subst (λ es. AreKept library (keys_of es)) (sym is) (all_inserted eq (IsKept library) name code one before all)

-- the first of some, and the others
pub first_kept : (library : Contents) (names rest : List RoutineName) (name : RoutineName) → names ≡ name ∷ rest → AreKept library names → IsKept library name
first_kept library names rest name is all = All-head (IsKept library) name rest (subst (AreKept library) is all)

pub rest_kept : (library : Contents) (names rest : List RoutineName) (name : RoutineName) → names ≡ name ∷ rest → AreKept library names → AreKept library rest
rest_kept library names rest name is all = All-tail (IsKept library) name rest (subst (AreKept library) is all)

-- with a module more
pub bodies_with : (library : Contents) (modules new : List (List ℕ)) (module_name : List ℕ) → new ≡ modules ++ module_name ∷ [] → HasBody library module_name → HaveBodies library modules → HaveBodies library new
bodies_with library modules new module_name is one all = subst (HaveBodies library) (sym is) (All-push (HasBody library) modules module_name all one)

-- in another order, each once
pub bodies_sorted : (library : Contents) (modules sorted : List (List ℕ)) → IsPermutation modules sorted → HaveBodies library modules → HaveBodies library sorted
bodies_sorted library modules sorted moved all = All-permutation (HasBody library) modules sorted moved all

pub bodies_once : (library : Contents) (same : List ℕ → List ℕ → Bool) (sorted once : List (List ℕ)) → IsFiltered (DiffersFromLast same) [] sorted once → HaveBodies library sorted → HaveBodies library once
bodies_once library same sorted once is all = subst (HaveBodies library) (sym (dedup_is same sorted once is)) (All-dedup same (HasBody library) sorted all)

pub ruleset keepings = (kept_with, bodies_with, bodies_sorted, bodies_once)

-- one of those that are stale is listed, and the other way round
pub stale_if : (library : Contents) (keys : List (List ℕ)) (m : List ℕ) (b : Bool) → AreStale library keys → b ≡ list_any (bytes_eq m) keys → IsTrue b ↔ IsStale library m
stale_if library keys m b are is =
    ((λ t. are.stale m (Contains-from_any {eq = bytes_eq} (λ x y. (bytes_eq-Decides x y).0) m keys (sym is ∙ t))), (λ stale. is ∙ listed (are.all m stale)))
  where
    listed : Contains keys m → list_any (bytes_eq m) keys ≡ true
    listed h = list_any_at (bytes_eq m) keys h.0 m h.1 ((bytes_eq-Decides m (get_or keys h.0 m)).1 (sym h.2))

-- a body that was found, and isn't stale
pub has_body : (library : Contents) (name : List ℕ) (b : Body) (stale : Bool) → Some b ≡ body_of library name → stale ≡ false → (IsTrue stale ↔ IsStale library name) → HasBody library name
has_body library name b stale is fresh both = (b, sym is, λ s. true≢false (sym (both.1 (let P : Option Body → Type 0 = λ o. IsStaleIf library name o in subst P is s)) ∙ fresh))

-- what is told of a module that is stale
pub told : (library : Contents) (name : List ℕ) (cause : StaleBy) → Tells library name (body_of library name) (Some cause) → IsStaleModule library (record { name = name; by = cause })
told library name cause tells = by (body_of library name) refl tells
  where
    by : (o : Option Body) → body_of library name ≡ o → Tells library name o (Some cause) → (b : Body) × (body_of library name ≡ Some b) × IsCause library name b cause
    by None is t = elim t [ ]
    by (Some b) is t = (b, is, t)

pub ruleset causes = (stale_if, has_body, told)
