-- By which operation a type meets what is asked of it, by the definitions, and when what is told of operations is that.
use Rattle.std.specs.Prelude.{◌≡◌, ◌⊎◌, ℕ, List, [], ◌∷◌, map, if◌then◌else◌, Option, Some, None}
use Rattle.std.specs.Option.{option_map, option_or}
use Rattle.clu_types.specs.CluType.{CluType, array_of, sequence_of, record_of, struct_of, oneof_of, variant_of, cluster_of, parameter, Fields, no_fields, field_and}
use Rattle.clu_builtin.specs.Table.{operation}
use Rattle.clu_syntax.specs.Syntax.{Identifier}
use Rattle.clu_checking.specs.Specifications.{Demand, Specification}
use Rattle.clu_checking.specs.Operations.{Asked, Found, given_of, builtin_found, routine_found, may_fit, exported_operation}
use Rattle.clu_operations.specs.Told.{Ask, Told}

-- ---- the types of which a type's built-in operations ask

abbrev pub IsComponent : Fields → CluType → Type 0
IsComponent no_fields = λ of. ⊥
IsComponent (field_and selector t fields) = λ of. (t ≡ of) ⊎ IsComponent fields of

abbrev pub IsPartOf : CluType → CluType → Type 0
IsPartOf (array_of t) = λ of. t ≡ of
IsPartOf (sequence_of t) = λ of. t ≡ of
IsPartOf (record_of fields) = IsComponent fields
IsPartOf (struct_of fields) = IsComponent fields
IsPartOf (oneof_of fields) = IsComponent fields
IsPartOf (variant_of fields) = IsComponent fields
IsPartOf _ = λ of. ⊥

-- ---- the operation of a type that counts for what is asked

-- what is given asks nothing itself
abbrev pub given_counted : Demand → Found
given_counted d = record { type = d.wanted; asks = [] }

abbrev pub fitting : CluType → Option Demand → Option Demand
fitting wanted (Some d) = if may_fit d.wanted wanted then Some d else None
fitting wanted None = None

-- of several where clauses the first that gives it of a type that is included in the wanted one
abbrev pub given_for : List (List Demand) → ℕ → Identifier → CluType → Option Demand
given_for [] k name wanted = None
given_for (given ∷ clauses) k name wanted = option_or (fitting wanted (given_of given k name)) (given_for clauses k name wanted)

module _ (clauses : List (List Demand)) (specified : Identifier → Option Specification) where
  abbrev pub counted : CluType → Identifier → CluType → Option Found
  counted (cluster_of c actuals) name wanted = option_map (routine_found actuals) (exported_operation name (specified c))
  counted (parameter k) name wanted = option_map given_counted (given_for clauses k name wanted)
  counted t name wanted = option_map builtin_found (operation t name)

-- ---- what is told

abbrev pub asked_told : Ask → Asked
asked_told a = record { of = a.of; operation = a.operation; wanted = a.wanted; in_set = a.in_set }

abbrev pub found_told : Told → Found
found_told it = record { type = it.type; asks = map asked_told it.asks }

-- what is found of types by their names tells the operations that count
abbrev pub TellCounted : List (List Demand) → (Identifier → Option Specification) → (CluType → List ℕ → CluType → Option Told) → Type 0
TellCounted clauses specified found = (t : CluType) (name : List ℕ) (wanted : CluType) → option_map found_told (found t name wanted) ≡ counted clauses specified t name wanted
