-- What was found, and what is told of it, stays while types, names and what was found grow.
use Rattle.std.proofs.Common.{◌≡◌, ◌∙◌, ℕ, zero, suc, ◌+◌, ◌-◌, ◌<◌, ◌≤◌, ◌&&◌, ◌||◌, nat_le, Bool, true, false, if◌then◌else◌, List, [], ◌∷◌, ◌++◌, length, map, take, drop, flat_map, slice_get, option_map, option_and_then, Option, Some, None, IfSome, refl, sym, ap, arith, leb-true, le-leb, length-append, length-drop, ap₂}
use Rattle.std.proofs.lemmas.List.{take-append-le, drop-append-le}
use Rattle.clu_types.specs.CluType.{CluType, Actuals}
use Rattle.clu_types.specs.Arena.{type_at, types_of, Grows}
use Rattle.clu_types.specs.Substituted.{substituted}
use Rattle.clu_types.specs.declared.term.Term.{Term}
use Rattle.clu_types.specs.declared.term.TypeId.{TypeId}
use Rattle.clu_types.proofs.Arenas.{types_grown}
use Rattle.clu_head.specs.declared.head.Demanded.{Demanded}
use Rattle.clu_head.specs.declared.head.RoutineHead.{RoutineHead}
use Rattle.clu_bindings.specs.Tables.{between}
use Rattle.clu_bindings.specs.declared.file.Headed.{Headed}
use Rattle.clu_bindings.specs.declared.meaning.ModuleId.{ModuleId}
use Rattle.clu_operations.specs.declared.finding.Finding.{Finding}
use Rattle.clu_operations.specs.declared.found.Asked.{Asked}
use Rattle.clu_operations.specs.declared.found.Found.{Found}
use Rattle.clu_operations.specs.declared.found.FoundId.{FoundId}
use Rattle.clu_operations.specs.declared.found.View.{View}
use Rattle.clu_operations.specs.declared.found.View.TheVariants as view
use Rattle.clu_operations.specs.declared.found.Wished.{Wished}
use Rattle.clu_operations.specs.declared.words.NameId.{NameId}
use Rattle.clu_operations.specs.Builtins.{operation_if, builtin_told}
use Rattle.clu_operations.specs.Bundles.{WantedBelow, PartBelow, RoutinesBelow}
use Rattle.clu_operations.specs.ByName.{is_named, first_named}
use Rattle.clu_operations.specs.Finding.{found_or_none, found_at, asked_by, IsBelowIf, IsNameBelow, AreAskedBelow, IsFoundBelow, AreFoundBelow, AreWithin, Extends, Follows}
use Rattle.clu_operations.specs.Found.{ModuleBelow}
use Rattle.clu_operations.specs.Modules.{Module, own, kept, Shows, known_of, routines_in, routine_name, if_seen, routine_named, of_routine, whole}
use Rattle.clu_operations.specs.Told.{Ask, Told, ask_told, told, asked_of, type_given, demand_told, part_told}
use Rattle.clu_operations.specs.Wished.{cluster_given, told_in, told_by, told_of, builtin_by, told_as, wished_told}
use Rattle.clu_operations.proofs.Asks.{asks_stay}
use Rattle.clu_operations.proofs.Naming.{extends_self, extends_on}
use Rattle.clu_operations.proofs.Once.{item_extends}
use Rattle.clu_operations.proofs.Pushing.{option_stays}

-- ---- what was found, and what it asks

found_below : (n p : ℕ) (founds : List Found) (k : ℕ) → k < length founds → AreFoundBelow n p founds → IsFoundBelow n p (found_or_none (slice_get founds k))
found_below n p [] k lt b = absurd (omega (arith, lt))
found_below n p (x ∷ founds) zero lt b = b.0
found_below n p (x ∷ founds) (suc k) lt b = found_below n p founds k (omega (arith, lt)) b.1

between_stays : {A : Type 0} (items more : List A) (from to : ℕ) → to ≤ length items → between (items ++ more) from to ≡ between items from to
between_stays {A} items more from to le = by (nat_le from to) refl
  where
    longer : to ≤ length (items ++ more)
    longer = omega (arith, le, length-append items more)

    by : (b : Bool) → nat_le from to ≡ b → (if b && nat_le to (length (items ++ more)) then take (to - from) (drop from (items ++ more)) else []) ≡ (if b && nat_le to (length items) then take (to - from) (drop from items) else [])
    by true e =
        let ordered : from ≤ to = omega (arith, leb-true) in
        let here : drop from (items ++ more) ≡ drop from items ++ more = drop-append-le from items more (omega (arith, le, ordered)) in
        let count : to - from ≤ length (drop from items) = omega (arith, le, length-drop from items) in
        ap (λ (b : Bool). if b then take (to - from) (drop from (items ++ more)) else []) (le-leb to (length (items ++ more)) longer)
        ∙ ap (λ (l : List A). take (to - from) l) here
        ∙ take-append-le (to - from) (drop from items) more count
        ∙ ap (λ (b : Bool). if b then take (to - from) (drop from items) else []) (sym (le-leb to (length items) le))
    by false e = refl

asked_drop : (n p : ℕ) (k : ℕ) (asked : List Asked) → AreAskedBelow n p asked → AreAskedBelow n p (drop k asked)
asked_drop n p zero asked b = b
asked_drop n p (suc k) [] b = tt
asked_drop n p (suc k) (a ∷ asked) b = asked_drop n p k asked b.1

asked_take : (n p : ℕ) (k : ℕ) (asked : List Asked) → AreAskedBelow n p asked → AreAskedBelow n p (take k asked)
asked_take n p zero asked b = tt
asked_take n p (suc k) [] b = tt
asked_take n p (suc k) (a ∷ asked) b = (b.0, asked_take n p k asked b.1)

asked_between : (n p : ℕ) (asked : List Asked) (from to : ℕ) → AreAskedBelow n p asked → AreAskedBelow n p (between asked from to)
asked_between n p asked from to b = by (nat_le from to && nat_le to (length asked))
  where
    by : (t : Bool) → AreAskedBelow n p (if t then take (to - from) (drop from asked) else [])
    by true = asked_take n p (to - from) (drop from asked) (asked_drop n p from asked b)
    by false = tt

-- what it asks, and its type, are of numbers that are there
pub asks_below : (n : ℕ) (f : Finding) → AreWithin n f → (id : FoundId) → AreAskedBelow n (length f.words) (asked_by f id)
asks_below n f within id = asked_between n (length f.words) f.asked.items (found_at f.founds.items id).from (found_at f.founds.items id).to within.asked

pub type_below : (n : ℕ) (f : Finding) → AreWithin n f → (id : FoundId) → id.0 < length f.founds.items → IsBelowIf n (found_at f.founds.items id).of
type_below n f within id there = (found_below n (length f.asked.items) f.founds.items id.0 there within.founds).0

-- what was found tells the same later
pub told_stays : (old new : List Term) → Grows old new → (f g : Finding) → Follows f g → AreWithin (length old) f → (id : FoundId) → id.0 < length f.founds.items → told (types_of new) g id ≡ told (types_of old) f id
told_stays old new grows f g follows within id there =
    let found : found_at g.founds.items id ≡ found_at f.founds.items id = ap found_or_none (item_extends f.founds.items g.founds.items follows.founds id.0 there) in
    let below : IsFoundBelow (length old) (length f.asked.items) (found_at f.founds.items id) = found_below (length old) (length f.asked.items) f.founds.items id.0 there within.founds in
    let asks : asked_by g id ≡ asked_by f id =
    ap (λ (x : Found). between g.asked.items x.from x.to) found
    ∙ ap (λ (l : List Asked). between l (found_at f.founds.items id).from (found_at f.founds.items id).to) follows.asked.1
    ∙ between_stays f.asked.items follows.asked.0 (found_at f.founds.items id).from (found_at f.founds.items id).to below.1 in
    ap₂ (λ (t : Option CluType) (a : List Ask). let it : Told = record { type = t; asks = a } in it)
    (ap (λ (x : Found). option_map (type_at (types_of new)) x.of) found ∙ option_stays old new grows (found_at f.founds.items id).of below.0)
    (ap (λ (l : List Asked). map (ask_told (types_of new) g.words) l) asks ∙ asks_stay old new grows f.words g.words follows.words (asked_by f id) (asks_below (length old) f within id))

pub told_if : (old new : List Term) → Grows old new → (f g : Finding) → Follows f g → AreWithin (length old) f → (found : Option FoundId) → IfSome found (λ id. id.0 < length f.founds.items)
    → option_map (told (types_of new) g) found ≡ option_map (told (types_of old) f) found
told_if old new grows f g follows within (Some id) there = ap Some (told_stays old new grows f g follows within id there)
told_if old new grows f g follows within None there = refl

-- ---- one search after the other

pub follows_self : (f : Finding) → Follows f f
follows_self f = record { words = extends_self f.words; once = λ once. once; founds = extends_self f.founds.items; asked = extends_self f.asked.items; given = refl }

pub follows_on : (f g h : Finding) → Follows f g → Follows g h → Follows f h
follows_on f g h first second = record {
  words = extends_on f.words g.words h.words first.words second.words;
  once = λ once. second.once (first.once once);
  founds = extends_on f.founds.items g.founds.items h.founds.items first.founds second.founds;
  asked = extends_on f.asked.items g.asked.items h.asked.items first.asked second.asked;
  given = second.given ∙ first.given;
}

-- ---- what modules tell

routine_below : (n : ℕ) (inside : Bool) (name : List ℕ) (routines : List RoutineHead) → RoutinesBelow n routines → IfSome (routine_named inside name routines) (λ r. PartBelow n (of_routine r))
routine_below n inside name routines b = seen (first_named routine_name name routines) (among routines b)
  where
    among : (rs : List RoutineHead) → RoutinesBelow n rs → IfSome (first_named routine_name name rs) (λ r. PartBelow n (of_routine r))
    among [] b = tt
    among (r ∷ rs) b = by (is_named routine_name name r) (among rs b.1)
      where
        by : (t : Bool) → IfSome (first_named routine_name name rs) (λ r. PartBelow n (of_routine r)) → IfSome (if t then Some r else first_named routine_name name rs) (λ r. PartBelow n (of_routine r))
        by true rest = b.0
        by false rest = rest

    seen : (o : Option RoutineHead) → IfSome o (λ r. PartBelow n (of_routine r)) → IfSome (if_seen inside o) (λ r. PartBelow n (of_routine r))
    seen None b = tt
    seen (Some r) b = by (inside || r.exported)
      where
        by : (t : Bool) → IfSome (if t then Some r else None) (λ r. PartBelow n (of_routine r))
        by true = b
        by false = tt

module _ (old new : List Term) (grows : Grows old new) where
  given_stays : (given : Actuals) (of : Option TypeId) → IsBelowIf (length old) of → type_given (types_of new) given of ≡ type_given (types_of old) given of
  given_stays given (Some id) lt = ap (λ (t : CluType). Some (substituted given t)) (types_grown old new grows id lt)
  given_stays given None lt = refl

  demands_stay : (given : Actuals) (demands : List Demanded) → WantedBelow (length old) demands → flat_map (demand_told (types_of new) given) demands ≡ flat_map (demand_told (types_of old) given) demands
  demands_stay given [] b = refl
  demands_stay given (d ∷ demands) b =
      ap₂ (λ (xs ys : List Ask). xs ++ ys) (ap (asked_of given d.parameter d.operation d.in_set) (given_stays given d.wanted b.0)) (demands_stay given demands b.1)

  part_stays : (given : Actuals) (shows : Shows) → PartBelow (length old) shows → part_told (types_of new) given shows ≡ part_told (types_of old) given shows
  part_stays given shows b = ap₂ (λ (t : Option CluType) (a : List Ask). let it : Told = record { type = t; asks = a } in it) (given_stays given shows.of b.1) (demands_stay given shows.demands b.0)

  routine_stays : (given : Actuals) (o : Option RoutineHead) → IfSome o (λ r. PartBelow (length old) (of_routine r))
      → option_map (λ (r : RoutineHead). part_told (types_of new) given (of_routine r)) o ≡ option_map (λ (r : RoutineHead). part_told (types_of old) given (of_routine r)) o
  routine_stays given (Some r) b = ap Some (part_stays given (of_routine r) b)
  routine_stays given None b = refl

  in_stays : (inside : Bool) (its : Module) → ModuleBelow (length old) its → (name : Option (List ℕ)) (given : Actuals) → told_in (types_of new) inside its name given ≡ told_in (types_of old) inside its name given
  in_stays inside (own head) b None given = ap Some (part_stays given (whole head.form) b.0)
  in_stays inside (own head) b (Some name) given = routine_stays given (routine_named inside name (routines_in head.form)) (routine_below (length old) inside name (routines_in head.form) b.1)
  in_stays inside (kept spec) b None given = refl
  in_stays inside (kept spec) b (Some name) given = refl

  module _ (names newer : List (List ℕ)) (more : Extends names newer) where
    by_stays : (inside : Bool) (its : Module) → ModuleBelow (length old) its → (operation : Option NameId) → IsNameBelow (length names) operation → (given : Actuals)
        → told_by (types_of new) inside its newer operation given ≡ told_by (types_of old) inside its names operation given
    by_stays inside its b None there given = in_stays inside its b None given
    by_stays inside its b (Some id) there given =
        ap (option_and_then (λ (name : List ℕ). told_in (types_of new) inside its (Some name) given)) (item_extends names newer more id.0 there) ∙ same (slice_get names id.0)
      where
        same : (o : Option (List ℕ)) → option_and_then (λ (name : List ℕ). told_in (types_of new) inside its (Some name) given) o ≡ option_and_then (λ (name : List ℕ). told_in (types_of old) inside its (Some name) given) o
        same (Some name) = in_stays inside its b (Some name) given
        same None = refl

    builtin_stays : (t : CluType) (operation : Option NameId) → IsNameBelow (length names) operation → builtin_by t newer operation ≡ builtin_by t names operation
    builtin_stays t None there = refl
    builtin_stays t (Some id) there = ap (λ (o : Option (List ℕ)). option_map builtin_told (operation_if t o)) (item_extends names newer more id.0 there)

    module _ (headed : Headed) (below : (id : ModuleId) (its : Module) → known_of headed id ≡ Some its → ModuleBelow (length old) its) (w : Wished) (of : w.of.0 < length old) (there : IsNameBelow (length names) w.operation) where
      of_stays : (id : ModuleId) (inside : Bool) → told_of headed (types_of new) newer id inside w ≡ told_of headed (types_of old) names id inside w
      of_stays id inside = by (known_of headed id) refl
        where
          over : (its : Module) → ModuleBelow (length old) its → (o : Option Actuals) → option_and_then (told_by (types_of new) inside its newer w.operation) o ≡ option_and_then (told_by (types_of old) inside its names w.operation) o
          over its b (Some given) = by_stays inside its b w.operation there given
          over its b None = refl

          by : (o : Option Module) → known_of headed id ≡ o
              → option_and_then (λ (its : Module). option_and_then (told_by (types_of new) inside its newer w.operation) (cluster_given (type_at (types_of new) w.of))) o
              ≡ option_and_then (λ (its : Module). option_and_then (told_by (types_of old) inside its names w.operation) (cluster_given (type_at (types_of old) w.of))) o
          by (Some its) e =
              ap (λ (t : CluType). option_and_then (told_by (types_of new) inside its newer w.operation) (cluster_given t)) (types_grown old new grows w.of of) ∙ over its (below id its e) (cluster_given (type_at (types_of old) w.of))
          by None e = refl

      as_stays : (v : View) → told_as headed (types_of new) newer w v ≡ told_as headed (types_of old) names w v
      as_stays view.Builtin = ap (λ (t : CluType). builtin_by t newer w.operation) (types_grown old new grows w.of of) ∙ builtin_stays (type_at (types_of old) w.of) w.operation there
      as_stays (view.Inside id) = of_stays id true
      as_stays (view.Outside id) = of_stays id false

      pub wished_stays : wished_told headed (types_of new) newer w ≡ wished_told headed (types_of old) names w
      unfolding wished_told
      wished_stays = as_stays w.view
