-- What a specification keeps of a head, while its arena grows.
use Rattle.std.proofs.Common.{cond, ◌≡◌, ◌∙◌, ◌⊎◌, inl, inr, ℕ, ◌+◌, ◌<◌, ◌≤◌, Bool, true, false, List, [], ◌∷◌, ◌++◌, length, take, get_or, Option, Some, None, Result, Ok, Err, IfOk, IfSome, refl, ap, sym, subst, arith, take_all}
use Rattle.std.specs.List.{AllZip, filter}
use Rattle.std.proofs.lemmas.List.{take_more, append-nil}
use Rattle.std.proofs.lemmas.List.Elements.{filter-append}
use Rattle.clu_types.specs.CluType.{CluType, no_actuals}
use Rattle.clu_types.specs.Arena.{Grows, type_at, type_of, types_of, HeadingBelow, PartsBelow}
use Rattle.clu_types.specs.Substituted.{substituted}
use Rattle.clu_types.specs.declared.spec.Demand.{Demand}
use Rattle.clu_types.specs.declared.spec.OpSpec.{OpSpec}
use Rattle.clu_types.specs.declared.spec.Form.{Form}
use Rattle.clu_types.specs.declared.spec.Form.TheVariants as kept
use Rattle.clu_types.specs.declared.term.TypeId.{TypeId}
use Rattle.clu_types.specs.declared.term.Heading.{Heading}
use Rattle.clu_types.specs.declared.term.Term.{Term}
use Rattle.clu_types.specs.declared.term.Term.TheVariants as term
use Rattle.clu_types.proofs.Arenas.{types_grown}
use Rattle.clu_types.proofs.Carrying.{length_grows}
use Rattle.clu_types.proofs.Identity.{substituted-none}
use Rattle.clu_types.proofs.Parts.{parts_more, type_same}
use Rattle.clu_head.specs.declared.head.Demanded.{Demanded}
use Rattle.clu_head.specs.declared.head.RoutineHead.{RoutineHead}
use Rattle.clu_head.specs.declared.head.HeadForm.TheVariants as form
use Rattle.clu_head.specs.Adding.{Adds}
use Rattle.clu_head.specs.Kept.{IsHeadingOf, IsMoved, AreMovedParts, IsDemandOf, AreDemandsOf, IsRoutineOf, AreRoutinesOf, IsFormOf}
use Rattle.clu_head.proofs.Adding.{zip_wider, adds_behind, adds_one}

carried : (from to : List Term) (t id : TypeId) → id.0 < length to → type_at (types_of to) id ≡ substituted no_actuals (type_at (types_of from) t) → IsMoved from to (Some t) id
unfolding IsMoved
carried from to t id within is = (within, is ∙ substituted-none (type_at (types_of from) t))

pub type_carried : (from to : List Term) (of : Option TypeId) (t id : TypeId) → of ≡ Some t → id.0 < length to → type_at (types_of to) id ≡ substituted no_actuals (type_at (types_of from) t) → IsMoved from to of id
type_carried from to of t id same within is = subst (λ (o : Option TypeId). IsMoved from to o id) (sym same) (carried from to t id within is)

-- the parts of a type that was moved, by its term there
parts_by : (from to : List Term) (of : Option TypeId) (id : TypeId) (whole : Term) (h : Heading) → IsMoved from to of id → PartsBelow id.0 whole → type_at (types_of to) id ≡ type_of (types_of to) whole → (whole ≡ term.Proc h) ⊎ (whole ≡ term.Iter h) → AreMovedParts from to of h
unfolding IsMoved AreMovedParts
parts_by from to None id whole h is below read so = absurd is
parts_by from to (Some t) id whole h is below read (inl e) =
    let within : id.0 ≤ length to = omega (arith, is.0) in
    let parts : PartsBelow (length to) (term.Proc h) = parts_more id.0 (length to) within (term.Proc h) (subst (PartsBelow id.0) e below) in
    (parts, inl (sym is.1 ∙ read ∙ ap (type_of (types_of to)) e))
parts_by from to (Some t) id whole h is below read (inr e) =
    let within : id.0 ≤ length to = omega (arith, is.0) in
    let parts : PartsBelow (length to) (term.Iter h) = parts_more id.0 (length to) within (term.Iter h) (subst (PartsBelow id.0) e below) in
    (parts, inr (sym is.1 ∙ read ∙ ap (type_of (types_of to)) e))

part_moved : (from to : List Term) (of : Option TypeId) (id : TypeId) (whole : Term) (h : Heading) → IsMoved from to of id → PartsBelow id.0 whole → type_at (types_of to) id ≡ type_of (types_of to) whole → IsHeadingOf whole h → AreMovedParts from to of h
unfolding IsHeadingOf
part_moved from to of id whole h is below read so = parts_by from to of id whole h is below read so

-- what is found of the parts of a term
pub parts_moved : {E : Type 0} (from to : List Term) (of : Option TypeId) (id : TypeId) (whole : Term) → IsMoved from to of id → PartsBelow id.0 whole → type_at (types_of to) id ≡ type_of (types_of to) whole
    → (r : Result (Option Heading) E) → IfOk r (λ found. IfSome found (IsHeadingOf whole)) → IfOk r (λ found. IfSome found (AreMovedParts from to of))
parts_moved from to of id whole is below read (Ok (Some h)) so = part_moved from to of id whole h is below read so
parts_moved from to of id whole is below read (Ok None) so = tt
parts_moved from to of id whole is below read (Err e) so = tt

-- ---- in an arena that is longer then

module _ (from to later : List Term) (grows : Grows to later) where
  moved_wider : (of : Option TypeId) (id : TypeId) → IsMoved from to of id → IsMoved from later of id
  unfolding IsMoved
  moved_wider (Some t) id is = let more = length_grows to later grows in (omega (arith, more, is.0), types_grown to later grows id is.0 ∙ is.1)
  moved_wider None id is = is

  term_later : (t : Term) → PartsBelow (length to) t → type_of (types_of later) t ≡ type_of (types_of to) t
  term_later t below = type_same (types_of later) (types_of to) (length to) (types_grown to later grows) t below

  pub parts_wider : (of : Option TypeId) (h : Heading) → AreMovedParts from to of h → AreMovedParts from later of h
  unfolding AreMovedParts
  parts_wider (Some t) h are = (parts_more (length to) (length later) (length_grows to later grows) (term.Proc h) are.0, by are.1)
    where
      by : ((type_at (types_of from) t ≡ type_of (types_of to) (term.Proc h)) ⊎ (type_at (types_of from) t ≡ type_of (types_of to) (term.Iter h)))
          → (type_at (types_of from) t ≡ type_of (types_of later) (term.Proc h)) ⊎ (type_at (types_of from) t ≡ type_of (types_of later) (term.Iter h))
      by (inl e) = inl (e ∙ sym (term_later (term.Proc h) are.0))
      by (inr e) = inr (e ∙ sym (term_later (term.Iter h) are.0))
  parts_wider None h are = are

  demand_wider : (d : Demanded) (made : Demand) → IsDemandOf from to d made → IsDemandOf from later d made
  demand_wider d made is = record { param = is.param; op = is.op; wanted = moved_wider d.wanted made.wanted is.wanted }

  pub demands_wider : (ds : List Demanded) (made : List Demand) → AreDemandsOf from to ds made → AreDemandsOf from later ds made
  unfolding AreDemandsOf
  demands_wider ds made are = zip_wider (IsDemandOf from to) (IsDemandOf from later) demand_wider ds made are

  routine_wider : (r : RoutineHead) (made : OpSpec) → IsRoutineOf from to r made → IsRoutineOf from later r made
  routine_wider r made is = record {
    name = is.name;
    iter = is.iter;
    heading = parts_wider r.of_type made.heading is.heading;
    demands = demands_wider r.demands made.demands is.demands;
  }

-- ---- one after the other

module _ (from old new : List Term) (grows : Grows old new) where
  pub demands_next : (ds : List Demanded) (i : ℕ) (d : Demanded) → i < length ds → d ≡ get_or ds i d → (made more : List Demand) → AllZip (IsDemandOf from old) (take i ds) made → Adds (IsDemandOf from new) (d ∷ []) made more
      → AllZip (IsDemandOf from new) (take (i + 1) ds) more
  demands_next ds i d inside is made more so_far add =
      let whole : take (i + 1) ds ≡ take i ds ++ d ∷ [] = take_more ds i d inside ∙ ap (λ (x : Demanded). take i ds ++ x ∷ []) (sym is) in
      subst (λ (xs : List Demanded). AllZip (IsDemandOf from new) xs more) (sym whole)
      (adds_behind (IsDemandOf from old) (IsDemandOf from new) (IsDemandOf from new) (demand_wider from old new grows) (λ x y r. r) (take i ds) (d ∷ []) made more so_far add)

  abbrev exported : List RoutineHead → List RoutineHead
  exported rs = filter (λ (r : RoutineHead). r.exported) rs

  pub routines_next : (rs : List RoutineHead) (i : ℕ) (r : RoutineHead) → i < length rs → r ≡ get_or rs i r → (made more : List OpSpec) → AllZip (IsRoutineOf from old) (exported (take i rs)) made → Adds (IsRoutineOf from new) (exported (r ∷ [])) made more
      → AllZip (IsRoutineOf from new) (exported (take (i + 1) rs)) more
  routines_next rs i r inside is made more so_far add =
      let whole : take (i + 1) rs ≡ take i rs ++ r ∷ [] = take_more rs i r inside ∙ ap (λ (x : RoutineHead). take i rs ++ x ∷ []) (sym is) in
      let parts : exported (take (i + 1) rs) ≡ exported (take i rs) ++ exported (r ∷ []) = ap exported whole ∙ filter-append (λ (r : RoutineHead). r.exported) (take i rs) (r ∷ []) in
      subst (λ (xs : List RoutineHead). AllZip (IsRoutineOf from new) xs more) (sym parts)
      (adds_behind (IsRoutineOf from old) (IsRoutineOf from new) (IsRoutineOf from new) (routine_wider from old new grows) (λ x y r. r) (exported (take i rs)) (exported (r ∷ [])) made more so_far add)

pub demands_all : (from to : List Term) (ds : List Demanded) (i : ℕ) (made all : List Demand) → length ds ≤ i → all ≡ made → AllZip (IsDemandOf from to) (take i ds) made → AreDemandsOf from to ds all
unfolding AreDemandsOf
demands_all from to ds i made all past is are = subst (λ (xs : List Demanded). AllZip (IsDemandOf from to) xs all) (take_all i ds past) (subst (AllZip (IsDemandOf from to) (take i ds)) (sym is) are)

pub routines_all : (from to : List Term) (rs : List RoutineHead) (i : ℕ) (made all : List OpSpec) → length rs ≤ i → all ≡ made → AllZip (IsRoutineOf from to) (filter (λ (r : RoutineHead). r.exported) (take i rs)) made → AreRoutinesOf from to rs all
unfolding AreRoutinesOf
routines_all from to rs i made all past is are =
    subst (λ (xs : List RoutineHead). AllZip (IsRoutineOf from to) (filter (λ (r : RoutineHead). r.exported) xs) all) (take_all i rs past)
    (subst (AllZip (IsRoutineOf from to) (filter (λ (r : RoutineHead). r.exported) (take i rs))) (sym is) are)

pub cluster_kept : (from mid to : List Term) → Grows mid to → (ds : List Demanded) (rs : List RoutineHead) (demands : List Demand) (ops : List OpSpec) (f : Form) → AreDemandsOf from mid ds demands → AreRoutinesOf from to rs ops → f ≡ kept.Cluster demands ops
    → IsFormOf from to (form.Cluster ds rs) f
unfolding IsFormOf
cluster_kept from mid to grows ds rs demands ops f asks are is = subst (IsFormOf from to (form.Cluster ds rs)) (sym is) (demands_wider from mid to grows ds demands asks, are)

-- what is found is so in other words
pub found_so : {X E : Type 0} (P Q : X → Type 0) (r : Result (Option X) E) → IfOk r (λ found. IfSome found P) → ((x : X) → P x → Q x) → IfOk r (λ found. IfSome found Q)
found_so P Q (Ok (Some x)) so more = more x so
found_so P Q (Ok None) so more = tt
found_so P Q (Err e) so more = tt

-- a routine that is exported, and one that is not
pub exported_one : (R : RoutineHead → OpSpec → Type 0) (r : RoutineHead) (op : OpSpec) (old new : List OpSpec) → r.exported ≡ true → new ≡ old ++ op ∷ [] → R r op → Adds R (filter (λ (r : RoutineHead). r.exported) (r ∷ [])) old new
unfolding Adds
exported_one R r op old new is e so =
    subst (λ (rs : List RoutineHead). Adds R rs old new) (sym (ap (λ (b : Bool). cond b (r ∷ []) []) is)) (adds_one R r op old new e so)

pub exported_none : (R : RoutineHead → OpSpec → Type 0) (r : RoutineHead) (old : List OpSpec) → r.exported ≡ false → Adds R (filter (λ (r : RoutineHead). r.exported) (r ∷ [])) old old
unfolding Adds
exported_none R r old is = rw is ([], sym (append-nil old), tt)
