-- Types that are put together as the arguments of one routine type.
use Rattle.std.specs.Prelude.{◌≡◌, ◌<◌, ◌⊎◌, ℕ, zero, suc, List, [], ◌∷◌, ◌++◌, map, length, unwrap_or, Box, box_value, option_map, Bool, true, false, Option, Some, None}
use Rattle.std.specs.HashMap.{HashMap, get}
use Rattle.clu_types.specs.CluType.{CluType, null_type, proc_of, CluTypes, no_types, type_and, no_signals, Actuals}
use Rattle.clu_types.specs.Arena.{type_at, types_of}
use Rattle.clu_types.specs.Substituted.{substituted}
use Rattle.clu_types.specs.declared.term.Actual.{Actual}
use Rattle.clu_types.specs.declared.term.TypeId.{TypeId}
use Rattle.clu_types.specs.declared.term.Term.{Term}
use Rattle.clu_types.specs.declared.term.Term.TheVariants as term
use Rattle.clu_head.specs.declared.head.Demanded.{Demanded}
use Rattle.clu_head.specs.declared.head.RoutineHead.{RoutineHead}
use Rattle.clu_head.specs.declared.head.HeadForm.{HeadForm}
use Rattle.clu_bindings.specs.declared.meaning.ModuleId.{ModuleId}
use Rattle.clu_bindings.specs.contracts.meaning.ModuleIdPartialEq.TheImpl as ids
use Rattle.clu_operations.specs.declared.bundles.Shown.{Shown}
use Rattle.clu_operations.specs.Finding.{IsBelowIf}
use Rattle.clu_operations.specs.Modules.{Shows, of_routine, whole, routines_in}

-- the types that are put together in one
abbrev pub in_bundle : Term → List TypeId
in_bundle (term.Proc heading) = heading.args
in_bundle _ = []

-- what demands want, and then the part's own type; one type stands for what is refused
abbrev pub wanted_or : TypeId → List Demanded → List TypeId
wanted_or other demands = map (λ d. unwrap_or d.wanted other) demands

abbrev pub part_ids : TypeId → Shows → List TypeId
part_ids null shows = wanted_or null shows.demands ++ unwrap_or shows.of null ∷ []

-- ---- the types that a module shows, and of which it has all in one

-- null stands for what is refused
abbrev pub type_or_null : List CluType → Option TypeId → CluType
type_or_null types (Some id) = type_at types id
type_or_null types None = null_type

abbrev pub bundle_type : CluTypes → CluType
bundle_type types = proc_of types no_types no_signals

abbrev pub wanted_types : List CluType → List Demanded → CluTypes → CluTypes
wanted_types types [] behind = behind
wanted_types types (d ∷ demands) behind = type_and (type_or_null types d.wanted) (wanted_types types demands behind)

-- what the demands of a part want, and behind these its own type
abbrev pub part_type : List CluType → Shows → CluType
part_type types shows = bundle_type (wanted_types types shows.demands (type_and (type_or_null types shows.of) no_types))

abbrev pub routine_types : List CluType → List RoutineHead → CluTypes
routine_types types [] = no_types
routine_types types (routine ∷ routines) = type_and (part_type types (of_routine routine)) (routine_types types routines)

-- the module itself, and behind it all routines
abbrev pub form_types : List CluType → HeadForm → CluTypes
form_types types form = type_and (part_type types (whole form)) (type_and (bundle_type (routine_types types (routines_in form))) no_types)

abbrev pub form_type : List CluType → HeadForm → CluType
form_type types form = bundle_type (form_types types form)

-- the type at a place of a bundle
abbrev pub nth_type : CluTypes → ℕ → Option CluType
nth_type no_types at = None
nth_type (type_and t types) zero = Some t
nth_type (type_and t types) (suc at) = nth_type types at

-- this type stands in an arena of its own
pub record HasAll (t : CluType) (shown : Shown) : Type 0 where
  pub all : TypeId
  pub parts : shown.parts ≡ Some all
  pub within : all.0 < length shown.types
  pub type : type_at (types_of shown.types) all ≡ t

-- it is what the module shows
abbrev pub IsShown : List CluType → Shown → HeadForm → Type 0
IsShown types shown form = HasAll (form_type types form) shown

-- ---- the numbers that stand in a head

abbrev pub WantedBelow : ℕ → List Demanded → Type 0
WantedBelow n [] = Unit {0}
WantedBelow n (d ∷ demands) = IsBelowIf n d.wanted × WantedBelow n demands

abbrev pub PartBelow : ℕ → Shows → Type 0
PartBelow n shows = WantedBelow n shows.demands × IsBelowIf n shows.of

abbrev pub RoutinesBelow : ℕ → List RoutineHead → Type 0
RoutinesBelow n [] = Unit {0}
RoutinesBelow n (routine ∷ routines) = PartBelow n (of_routine routine) × RoutinesBelow n routines

abbrev pub FormBelow : ℕ → HeadForm → Type 0
FormBelow n form = PartBelow n (whole form) × RoutinesBelow n (routines_in form)

-- ---- what is kept of the modules of a file

abbrev pub same_module : ModuleId → ModuleId → Bool
same_module = (ids.ghosts).eq

module _ {Z S : Type 0} where
  abbrev pub shown_in : HashMap ModuleId (Box Shown Z) S → ModuleId → Option Shown
  shown_in kept id = option_map box_value (get same_module kept id)

  -- what is kept of this module is what it shows
  abbrev pub IsShownIn : List CluType → HashMap ModuleId (Box Shown Z) S → ModuleId → HeadForm → Type 0
  IsShownIn types kept id form = (shown : Shown) → shown_in kept id ≡ Some shown → IsShown types shown form

  -- nothing is kept more but what this module shows
  abbrev pub ShowsMore : List CluType → HashMap ModuleId (Box Shown Z) S → HashMap ModuleId (Box Shown Z) S → ModuleId → HeadForm → Type 0
  ShowsMore types old new id form = (m : ModuleId) (shown : Shown) → shown_in new m ≡ Some shown → (shown_in old m ≡ Some shown) ⊎ ((m ≡ id) × IsShown types shown form)

-- ---- a part with actual parameters

-- the bundle has what the part shows, with these put in
pub record IsPut (terms : List Term) (given : Actuals) (types : List CluType) (shows : Shows) (bundle : Option TypeId) : Type 0 where
  pub within : IsBelowIf (length terms) bundle
  pub type : option_map (type_at (types_of terms)) bundle ≡ Some (substituted given (part_type types shows))

-- what is refused has no type
abbrev pub unless_refused : Option TypeId → Option CluType → Option CluType
unless_refused (Some id) t = t
unless_refused None t = None

abbrev pub are_none : List Actual → Bool
are_none [] = true
are_none (a ∷ actuals) = false
