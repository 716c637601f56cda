-- Types that are put together in one, and found there again by their places.
use Rattle.std.proofs.Common.{◌≡◌, ◌∙◌, ℕ, zero, suc, ◌+◌, ◌<◌, ◌≤◌, List, [], ◌∷◌, ◌++◌, length, take, get_or, slice_get, unwrap_or, option_map, true≢false, Option, Some, None, Result, Ok, Err, IfOk, IfSome, IsSome, refl, sym, ap, subst, arith, ap₂}
use Rattle.std.proofs.lemmas.List.{take_more, take_all, append-nil}
use Rattle.std.proofs.lemmas.Option.{same_Some}
use Rattle.clu_base.specs.declared.errors.Memory.{Memory}
use Rattle.clu_base.proofs.Lists.{none_is_not}
use Rattle.clu_types.specs.CluType.{CluType, null_type, proc_of, CluTypes, no_types, type_and, no_actuals}
use Rattle.clu_types.specs.Arena.{type_at, types_at, types_of, type_of, AreBelow, PartsBelow, Grows}
use Rattle.clu_types.specs.Substituted.{substituted}
use Rattle.clu_types.specs.declared.term.TypeId.{TypeId}
use Rattle.clu_types.specs.declared.term.Term.{Term}
use Rattle.clu_types.specs.declared.term.Term.TheVariants as term
use Rattle.clu_types.proofs.Arenas.{types_grown}
use Rattle.clu_types.proofs.Carrying.{grows_on, length_grows}
use Rattle.clu_types.proofs.Identity.{substituted-none}
use Rattle.clu_types.proofs.Parts.{ids_more, types_same}
use Rattle.clu_head.specs.declared.head.Demanded.{Demanded}
use Rattle.clu_head.specs.declared.head.RoutineHead.{RoutineHead}
use Rattle.clu_head.specs.declared.head.HeadForm.{HeadForm}
use Rattle.clu_demands.proofs.Bringing.{typed_as, snoc, types_at-push, below-push}
use Rattle.clu_operations.specs.declared.bundles.Shown.{Shown}
use Rattle.clu_operations.specs.Finding.{IsBelowIf}
use Rattle.clu_operations.specs.Modules.{Shows, of_routine, whole, routines_in}
use Rattle.clu_operations.specs.Bundles.{in_bundle, wanted_or, part_ids, type_or_null, bundle_type, wanted_types, part_type, routine_types, form_type, nth_type, HasAll, WantedBelow, PartBelow, RoutinesBelow, FormBelow}

-- ---- what stands in a bundle

abbrev args_of : CluType → Option CluTypes
args_of (proc_of args results _) = Some args
args_of _ = None

args_there : (types : List CluType) (t : Term) (all : CluTypes) → args_of (type_of types t) ≡ Some all → types_at types (in_bundle t) ≡ all
args_there types (term.Proc h) all e = same_Some _ _ e
args_there types _ all e = none_is_not all e

nth_at : (types : List CluType) (ids : List TypeId) (at : ℕ) → option_map (type_at types) (slice_get ids at) ≡ nth_type (types_at types ids) at
nth_at types [] at = refl
nth_at types (id ∷ ids) zero = refl
nth_at types (id ∷ ids) (suc at) = nth_at types ids at

pub bundled_type : (types : List CluType) (t : Term) (all : CluTypes) (at : ℕ) → type_of types t ≡ bundle_type all → option_map (type_at types) (slice_get (in_bundle t) at) ≡ nth_type all at
bundled_type types t all at e = nth_at types (in_bundle t) at ∙ ap (λ (x : CluTypes). nth_type x at) (args_there types t all (ap args_of e))

nth_below : (m n : ℕ) → m < n → (ids : List TypeId) (at : ℕ) → AreBelow m ids → IsBelowIf n (slice_get ids at)
nth_below m n lt [] at b = tt
nth_below m n lt (id ∷ ids) zero b = omega (arith, b.0)
nth_below m n lt (id ∷ ids) (suc at) b = nth_below m n lt ids at b.1

pub bundled_within : (m n : ℕ) → m < n → (t : Term) (at : ℕ) → PartsBelow m t → IsBelowIf n (slice_get (in_bundle t) at)
bundled_within m n lt (term.Proc h) at b = nth_below m n lt h.args at b.0
bundled_within m n lt _ at b = tt

pub nth_routine : (types : List CluType) (routines : List RoutineHead) (place : ℕ) → nth_type (routine_types types routines) place ≡ option_map (part_type types) (option_map of_routine (slice_get routines place))
nth_routine types [] place = refl
nth_routine types (r ∷ routines) zero = refl
nth_routine types (r ∷ routines) (suc place) = nth_routine types routines place

-- ---- while the arena grows

pub option_more : (m n : ℕ) → m ≤ n → (o : Option TypeId) → IsBelowIf m o → IsBelowIf n o
option_more m n le (Some id) lt = omega (arith, lt)
option_more m n le None lt = tt

pub wanted_more : (m n : ℕ) → m ≤ n → (demands : List Demanded) → WantedBelow m demands → WantedBelow n demands
wanted_more m n le [] b = tt
wanted_more m n le (d ∷ demands) b = (option_more m n le d.wanted b.0, wanted_more m n le demands b.1)

pub part_more : (m n : ℕ) → m ≤ n → (shows : Shows) → PartBelow m shows → PartBelow n shows
part_more m n le shows b = (wanted_more m n le shows.demands b.0, option_more m n le shows.of b.1)

routines_more : (m n : ℕ) → m ≤ n → (routines : List RoutineHead) → RoutinesBelow m routines → RoutinesBelow n routines
routines_more m n le [] b = tt
routines_more m n le (r ∷ routines) b = (part_more m n le (of_routine r) b.0, routines_more m n le routines b.1)

pub form_more : (m n : ℕ) → m ≤ n → (form : HeadForm) → FormBelow m form → FormBelow n form
form_more m n le form b = (part_more m n le (whole form) b.0, routines_more m n le (routines_in form) b.1)

module _ (old new : List Term) (g : Grows old new) where
  option_same : (o : Option TypeId) → IsBelowIf (length old) o → type_or_null (types_of new) o ≡ type_or_null (types_of old) o
  option_same (Some id) lt = types_grown old new g id lt
  option_same None lt = refl

  wanted_same : (demands : List Demanded) (a b : CluTypes) → WantedBelow (length old) demands → a ≡ b → wanted_types (types_of new) demands a ≡ wanted_types (types_of old) demands b
  wanted_same [] a b below e = e
  wanted_same (d ∷ demands) a b below e = ap₂ type_and (option_same d.wanted below.0) (wanted_same demands a b below.1 e)

  pub part_same : (shows : Shows) → PartBelow (length old) shows → part_type (types_of new) shows ≡ part_type (types_of old) shows
  part_same shows b = ap bundle_type (wanted_same shows.demands _ _ b.0 (ap (λ (t : CluType). type_and t no_types) (option_same shows.of b.1)))

  routines_same : (routines : List RoutineHead) → RoutinesBelow (length old) routines → routine_types (types_of new) routines ≡ routine_types (types_of old) routines
  routines_same [] b = refl
  routines_same (r ∷ routines) b = ap₂ type_and (part_same (of_routine r) b.0) (routines_same routines b.1)

  pub form_same : (form : HeadForm) → FormBelow (length old) form → form_type (types_of new) form ≡ form_type (types_of old) form
  form_same form b =
      ap bundle_type (ap₂ type_and (part_same (whole form) b.0) (ap (λ (t : CluTypes). type_and (bundle_type t) no_types) (routines_same (routines_in form) b.1)))

-- ---- the bundle of a part

module _ (old now : List Term) (g : Grows old now) (null : TypeId) (null_in : null.0 < length now) (null_is : type_at (types_of now) null ≡ null_type) where
  or_below : (o : Option TypeId) → IsBelowIf (length old) o → (unwrap_or o null).0 < length now
  or_below (Some id) lt = omega (arith, lt, length_grows old now g)
  or_below None lt = null_in

  or_type : (o : Option TypeId) → IsBelowIf (length old) o → type_at (types_of now) (unwrap_or o null) ≡ type_or_null (types_of old) o
  or_type (Some id) lt = types_grown old now g id lt
  or_type None lt = null_is

  ids_below : (demands : List Demanded) (of : Option TypeId) → WantedBelow (length old) demands → IsBelowIf (length old) of → AreBelow (length now) (wanted_or null demands ++ unwrap_or of null ∷ [])
  ids_below [] of b lt = (or_below of lt, tt)
  ids_below (d ∷ demands) of b lt = (or_below d.wanted b.0, ids_below demands of b.1 lt)

  ids_type : (demands : List Demanded) (of : Option TypeId) → WantedBelow (length old) demands → IsBelowIf (length old) of
      → types_at (types_of now) (wanted_or null demands ++ unwrap_or of null ∷ []) ≡ wanted_types (types_of old) demands (type_and (type_or_null (types_of old) of) no_types)
  ids_type [] of b lt = ap (λ (t : CluType). type_and t no_types) (or_type of lt)
  ids_type (d ∷ demands) of b lt = ap₂ type_and (or_type d.wanted b.0) (ids_type demands of b.1 lt)

pub part_bundled : (r : Result TypeId Memory) (old mid new : List Term) (ids : List TypeId) (null : TypeId) (shows : Shows) → Grows old mid → null.0 < length mid → type_at (types_of mid) null ≡ null_type → ids ≡ part_ids null shows
    → (AreBelow (length mid) ids → IfOk r (λ id. type_at (types_of new) id ≡ bundle_type (types_at (types_of mid) ids))) → PartBelow (length old) shows → IfOk r (λ id. type_at (types_of new) id ≡ part_type (types_of old) shows)
part_bundled r old mid new ids null shows g null_in null_is is made below =
    let ids_in : AreBelow (length mid) ids = subst (AreBelow (length mid)) (sym is) (ids_below old mid g null null_in null_is shows.demands shows.of below.0 below.1) in
    let typed : types_at (types_of mid) ids ≡ wanted_types (types_of old) shows.demands (type_and (type_or_null (types_of old) shows.of) no_types) =
    ap (types_at (types_of mid)) is ∙ ids_type old mid g null null_in null_is shows.demands shows.of below.0 below.1 in
    typed_as r (types_of new) _ _ (ap bundle_type typed) (made ids_in)

-- ---- the bundles of routines

routines-push : (types : List CluType) (routines : List RoutineHead) (r : RoutineHead) → routine_types types (routines ++ r ∷ []) ≡ snoc (routine_types types routines) (part_type types (of_routine r))
routines-push types [] r = refl
routines-push types (x ∷ routines) r = ap (type_and (part_type types (of_routine x))) (routines-push types routines r)

below_at : (n : ℕ) (routines : List RoutineHead) (i : ℕ) (d : RoutineHead) → RoutinesBelow n routines → i < length routines → PartBelow n (of_routine (get_or routines i d))
below_at n [] i d b lt = absurd (omega arith)
below_at n (x ∷ routines) zero d b lt = b.0
below_at n (x ∷ routines) (suc i) d b lt = below_at n routines i d b.1 (omega arith)

-- of all routines these were brought into the arena
pub record AreBundled (old : List Term) (all : List RoutineHead) (now : List Term) (done : List RoutineHead) (made : List TypeId) : Type 0 where
  pub grows : Grows old now
  pub within : AreBelow (length now) made
  pub types : RoutinesBelow (length old) all → types_at (types_of now) made ≡ routine_types (types_of old) done

pub bundled_first : (old : List Term) (all : List RoutineHead) → AreBundled old all old [] []
bundled_first old all = record { grows = ([], sym (append-nil old)); within = tt; types = λ b. refl }

pub bundled_more : (old now newer : List Term) (all : List RoutineHead) (made : List TypeId) (i : ℕ) (r : RoutineHead) (seen : Shows) (id : TypeId) → i < length all → r ≡ get_or all i r → seen ≡ of_routine r → AreBundled old all now (take i all) made
    → Grows now newer → id.0 < length newer → (PartBelow (length now) seen → type_at (types_of newer) id ≡ part_type (types_of now) seen) → AreBundled old all newer (take (i + 1) all) (made ++ id ∷ [])
bundled_more old now newer all made i r seen id lt is seen_is so_far g within of_type = record {
  grows = grows_on old now newer so_far.grows g;
  within = below-push (length newer) made id (ids_more (length now) (length newer) (length_grows now newer g) made so_far.within) within;
  types = types;
}
  where
    types : RoutinesBelow (length old) all → types_at (types_of newer) (made ++ id ∷ []) ≡ routine_types (types_of old) (take (i + 1) all)
    types b =
        let here : PartBelow (length old) (of_routine r) = subst (λ (x : RoutineHead). PartBelow (length old) (of_routine x)) (sym is) (below_at (length old) all i r b lt) in
        let this : PartBelow (length old) seen = subst (PartBelow (length old)) (sym seen_is) here in
        let now_in : PartBelow (length now) seen = part_more (length old) (length now) (length_grows old now so_far.grows) seen this in
        let typed : type_at (types_of newer) id ≡ part_type (types_of old) (of_routine r) = of_type now_in ∙ part_same old now so_far.grows seen this ∙ ap (part_type (types_of old)) seen_is in
        let kept : types_at (types_of newer) made ≡ types_at (types_of now) made = types_same (types_of newer) (types_of now) (length now) (types_grown now newer g) made so_far.within in
        let longer : take (i + 1) all ≡ take i all ++ r ∷ [] = take_more all i r lt ∙ ap (λ (x : RoutineHead). take i all ++ x ∷ []) (sym is) in
        types_at-push (types_of newer) made id ∙ ap₂ snoc (kept ∙ so_far.types b) typed ∙ sym (ap (routine_types (types_of old)) longer ∙ routines-push (types_of old) (take i all) r)

pub bundled_all : (old now : List Term) (all : List RoutineHead) (made : List TypeId) (i : ℕ) → length all ≤ i → AreBundled old all now (take i all) made → AreBundled old all now all made
bundled_all old now all made i le h = subst (λ (rs : List RoutineHead). AreBundled old all now rs made) (take_all i all le) h

-- ---- all of them in one

pub parts_bundled : (r : Result TypeId Memory) (old a b new : List Term) (form : HeadForm) (seen : Shows) (all : List RoutineHead) (own routines : TypeId) (ids : List TypeId) → Grows old a → Grows a b → seen ≡ whole form → all ≡ routines_in form
    → own.0 < length a → routines.0 < length b → ids ≡ own ∷ routines ∷ [] → (PartBelow (length old) seen → type_at (types_of a) own ≡ part_type (types_of old) seen)
    → (RoutinesBelow (length a) all → type_at (types_of b) routines ≡ bundle_type (routine_types (types_of a) all)) → (AreBelow (length b) ids → IfOk r (λ id. type_at (types_of new) id ≡ bundle_type (types_at (types_of b) ids)))
    → FormBelow (length old) form → IfOk r (λ id. type_at (types_of new) id ≡ form_type (types_of old) form)
parts_bundled r old a b new form seen all own routines ids ga gb seen_is all_is own_in routines_in_b ids_is own_type routines_type made below =
    let own_here : PartBelow (length old) seen = subst (PartBelow (length old)) (sym seen_is) below.0 in
    let all_here : RoutinesBelow (length old) all = subst (RoutinesBelow (length old)) (sym all_is) below.1 in
    let all_now : RoutinesBelow (length a) all = routines_more (length old) (length a) (length_grows old a ga) all all_here in
    let typed_own : type_at (types_of b) own ≡ part_type (types_of old) (whole form) = types_grown a b gb own own_in ∙ own_type own_here ∙ ap (part_type (types_of old)) seen_is in
    let typed_all : type_at (types_of b) routines ≡ bundle_type (routine_types (types_of old) (routines_in form)) =
    routines_type all_now ∙ ap bundle_type (routines_same old a ga all all_here ∙ ap (routine_types (types_of old)) all_is) in
    let ids_in : AreBelow (length b) ids = subst (AreBelow (length b)) (sym ids_is) (omega (arith, own_in, length_grows a b gb), (routines_in_b, tt)) in
    let typed : types_at (types_of b) ids ≡ type_and (part_type (types_of old) (whole form)) (type_and (bundle_type (routine_types (types_of old) (routines_in form))) no_types) =
    ap (types_at (types_of b)) ids_is ∙ ap₂ type_and typed_own (ap (λ (t : CluType). type_and t no_types) typed_all) in
    typed_as r (types_of new) _ _ (ap bundle_type typed) (made ids_in)

-- ---- in an arena of their own

pub has_all : (terms : List Term) (parts : Option TypeId) (t : CluType) → IsSome parts → IfSome parts (λ p. type_at (types_of terms) p ≡ substituted no_actuals t) → IsBelowIf (length terms) parts → HasAll t (record { types = terms; parts = parts })
has_all terms (Some p) t some typed within = record { all = p; parts = refl; within = within; type = typed ∙ substituted-none t }
has_all terms None t some typed within = absurd (true≢false (sym some))

pub all_within : (shown : Shown) (parts : TypeId) (t : CluType) → shown.parts ≡ Some parts → HasAll t shown → parts.0 < length shown.types
all_within shown parts t is h = subst (λ (p : TypeId). p.0 < length shown.types) (same_Some _ _ (sym h.parts ∙ is)) h.within

pub all_type : (shown : Shown) (parts : TypeId) (t : CluType) → shown.parts ≡ Some parts → HasAll t shown → type_at (types_of shown.types) parts ≡ t
all_type shown parts t is h = subst (λ (p : TypeId). type_at (types_of shown.types) p ≡ t) (same_Some _ _ (sym h.parts ∙ is)) h.type

-- what is put in has the type that is told of it
pub put_typed : (r : Result (Option TypeId) Memory) (types : List CluType) (f : CluType → CluType) (t : CluType) (o : Option CluType) → Some t ≡ o → IfOk r IsSome → IfOk r (λ put. IfSome put (λ p. type_at types p ≡ f t))
    → IfOk r (λ put. option_map (type_at types) put ≡ option_map f o)
put_typed (Ok (Some p)) types f t o e some typed = ap Some typed ∙ ap (option_map f) e
put_typed (Ok None) types f t o e some typed = absurd (true≢false (sym some))
put_typed (Err m) types f t o e some typed = tt
