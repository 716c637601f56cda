-- What an operation of a type is, or a module with the actual parameters of a type, by the tables of a file.
use Rattle.std.specs.Prelude.{◌≡◌, ◌<◌, ◌≤◌, ℕ, Bool, true, false, List, [], length, slice_get, option_map, option_and_then, IfSome, Option, Some, None}
use Rattle.std.specs.HashMap.{get}
use Rattle.clu_types.specs.CluType.{CluType, cluster_of, Actuals}
use Rattle.clu_types.specs.Arena.{type_at, types_of}
use Rattle.clu_types.specs.declared.term.Term.{Term}
use Rattle.clu_types.specs.declared.term.TypeId.{TypeId}
use Rattle.clu_bindings.specs.declared.file.Headed.{Headed}
use Rattle.clu_bindings.specs.declared.meaning.ModuleId.{ModuleId}
use Rattle.clu_operations.specs.declared.finding.Finding.{Finding}
use Rattle.clu_operations.specs.declared.found.FoundId.{FoundId}
use Rattle.clu_operations.specs.declared.found.View.{View}
use Rattle.clu_operations.specs.declared.found.View.TheVariants as view
use Rattle.clu_operations.specs.declared.found.Given.{Given}
use Rattle.clu_operations.specs.declared.found.Wished.{Wished}
use Rattle.clu_operations.specs.declared.shapes.Shape.{Shape}
use Rattle.clu_operations.specs.declared.shapes.Shape.TheVariants as shape
use Rattle.clu_operations.specs.declared.words.NameId.{NameId}
use Rattle.clu_operations.specs.contracts.found.WishedPartialEq.TheImpl as keys
use Rattle.clu_operations.specs.Builtins.{ComponentsAscend, operation_if, builtin_told}
use Rattle.clu_operations.specs.Bundles.{WantedBelow, shown_in}
use Rattle.clu_operations.specs.ByName.{first_named}
use Rattle.clu_operations.specs.Clauses.{same}
use Rattle.clu_operations.specs.Finding.{IsNameBelow, AreWithin, Follows}
use Rattle.clu_operations.specs.Found.{ModuleBelow, IsModuleShown}
use Rattle.clu_operations.specs.Given.{asked_in, told_round, AreGiven}
use Rattle.clu_operations.specs.Modules.{Module, own, kept, known_of, routines_in, operations_in, operation_name, routine_named, of_routine, whole, HasAscending}
use Rattle.clu_operations.specs.Operations.{view_at}
use Rattle.clu_operations.specs.Shapes.{shape_of}
use Rattle.clu_operations.specs.Told.{Told, told, part_told, routine_told, kept_told}
use Rattle.clu_operations.specs.Words.{AreOnce}
use Rattle.clu_operations.specs.declared.modules.Part.TheVariants as part

-- the actual parameters of a cluster type
abbrev pub cluster_given : CluType → Option Actuals
cluster_given (cluster_of name given) = Some given
cluster_given _ = None

-- the routine of this name, or the module itself without a name
abbrev pub told_in : List CluType → Bool → Module → Option (List ℕ) → Actuals → Option Told
told_in types inside (own head) None given = Some (part_told types given (whole head.form))
told_in types inside (own head) (Some name) given = option_map (λ routine. part_told types given (of_routine routine)) (routine_named inside name (routines_in head.form))
told_in types inside (kept spec) None given = Some (kept_told spec given part.Itself)
told_in types inside (kept spec) (Some name) given = option_map (λ op. routine_told (types_of spec.types) given (Some op) op.demands) (first_named operation_name name (operations_in spec.form))

-- the same of a name by its number
abbrev pub told_by : List CluType → Bool → Module → List (List ℕ) → Option NameId → Actuals → Option Told
told_by types inside its names None given = told_in types inside its None given
told_by types inside its names (Some id) given = option_and_then (λ name. told_in types inside its (Some name) given) (slice_get names id.0)

-- in the module of this number
abbrev pub told_of : Headed → List CluType → List (List ℕ) → ModuleId → Bool → Wished → Option Told
told_of headed types names id inside w =
    option_and_then (λ its. option_and_then (told_by types inside its names w.operation) (cluster_given (type_at types w.of))) (known_of headed id)

-- the operation of a built-in type by the number of its name
abbrev pub builtin_by : CluType → List (List ℕ) → Option NameId → Option Told
builtin_by t names (Some id) = option_map builtin_told (operation_if t (slice_get names id.0))
builtin_by t names None = None

-- ---- what is found where it is looked for

module _ (headed : Headed) where
  abbrev pub told_as : List CluType → List (List ℕ) → Wished → View → Option Told
  told_as types names w view.Builtin = builtin_by (type_at types w.of) names w.operation
  told_as types names w (view.Inside id) = told_of headed types names id true w
  told_as types names w (view.Outside id) = told_of headed types names id false w

  unfoldable pub wished_told : List CluType → List (List ℕ) → Wished → Option Told
  wished_told types names w = told_as types names w w.view

  module _ (terms : List Term) (names : List (List ℕ)) where
    abbrev pub told_view : TypeId → Option NameId → Option View → Option Told
    told_view of operation (Some v) = wished_told (types_of terms) names (record { of = of; operation = operation; view = v })
    told_view of operation None = None

    -- an operation or a module, as it is seen at a node or from outside
    unfoldable pub told_seen : Option ℕ → TypeId → Option NameId → Option Told
    told_seen n of operation = told_view of operation (view_at headed.file terms n of)

    abbrev pub told_shape : ℕ → TypeId → NameId → Shape → Option Told
    told_shape n of operation (shape.Parameter number) = option_and_then (told_round headed (types_of terms) n number) (slice_get names operation.0)
    told_shape n of operation _ = told_seen (Some n) of (Some operation)

    -- the operation of this name that a type has at a node
    unfoldable pub told_at : ℕ → TypeId → NameId → Option Told
    told_at n of operation = told_shape n of operation (shape_of terms of)

-- ---- the modules of a file, by the arena of types and what was found

pub record IsReady (terms : List Term) (finding : Finding) (id : ModuleId) (its : Module) : Type 0 where
  pub below : ModuleBelow (length terms) its
  pub ascending : HasAscending its
  pub shown : IsModuleShown (types_of terms) finding id its

abbrev pub AreReady : Headed → List Term → Finding → Type 0
AreReady headed terms finding = (id : ModuleId) (its : Module) → known_of headed id ≡ Some its → IsReady terms finding id its

-- what stands in the heads are numbers of types and routines by name; what is no node asks nothing
pub record AreHeads (headed : Headed) (types : ℕ) : Type 0 where
  pub below : (id : ModuleId) (its : Module) → known_of headed id ≡ Some its → ModuleBelow types its
  pub ascending : (id : ModuleId) (its : Module) → known_of headed id ≡ Some its → HasAscending its
  pub asked : (n : ℕ) → WantedBelow types (asked_in headed n)
  pub past : (n : ℕ) → length headed.file.syntax.now ≤ n → asked_in headed n ≡ []

-- ---- what was looked for

abbrev pub same_wished : Wished → Wished → Bool
same_wished = (keys.ghosts).eq

-- of a built-in type it is said where its components ascend
pub record IsWished (headed : Headed) (terms : List Term) (finding : Finding) (w : Wished) (found : Option FoundId) : Type 0 where
  pub of : w.of.0 < length terms
  pub name : IsNameBelow (length finding.words) w.operation
  pub there : IfSome found (λ id. id.0 < length finding.founds.items)
  pub tells : ComponentsAscend (type_at (types_of terms) w.of) → option_map (told (types_of terms) finding) found ≡ wished_told headed (types_of terms) finding.words w

abbrev pub AreWished : Headed → List Term → Finding → Type 0
AreWished headed terms finding = (w : Wished) (found : Option FoundId) → get same_wished finding.wished w ≡ Some found → IsWished headed terms finding w found

-- all that was found of a file so far is what is looked for
pub record IsFinding (headed : Headed) (terms : List Term) (finding : Finding) : Type 0 where
  pub within : AreWithin (length terms) finding
  pub once : AreOnce finding.words
  pub ready : AreReady headed terms finding
  pub asked : (n : ℕ) → WantedBelow (length terms) (asked_in headed n)
  pub given : AreGiven headed (types_of terms) finding
  pub wished : AreWished headed terms finding

-- nothing was found yet; names may be kept
pub record FindsNothing (finding : Finding) : Type 0 where
  pub once : AreOnce finding.words
  pub founds : finding.founds.items ≡ []
  pub asked : finding.asked.items ≡ []
  pub wished : (w : Wished) → get same_wished finding.wished w ≡ None
  pub given : (key : Given) → get same finding.given key ≡ None
  pub shown : (id : ModuleId) → shown_in finding.shown id ≡ None

-- This was found of a type, told by the terms of now, if the components of the type ascend. What was found before stays.
pub record FindsOf (headed : Headed) (old terms : List Term) (before after : Finding) (of : TypeId) (it : Option Told) (found : Option FoundId) : Type 0 where
  pub tells : ComponentsAscend (type_at (types_of old) of) → option_map (told (types_of terms) after) found ≡ it
  pub there : IfSome found (λ id. id.0 < length after.founds.items)
  pub follows : Follows before after
  pub finding : IsFinding headed terms after
