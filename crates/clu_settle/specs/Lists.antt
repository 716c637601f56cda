-- Lists of types, of selectors, of exceptions and of actual parameters, by the values of their nodes; each with what came
-- before. None if one of them is lost.
use Rattle.std.specs.Prelude.{ℕ, Bool, true, false, List, [], ◌∷◌, ◌++◌, map, slice_get, bytes_eq, codes, if◌then◌else◌, Option, Some, None}
use Rattle.std.specs.Option.{option_and_then, option_map}
use Rattle.std.specs.Ordering.{is_lt, nat_cmp}
use Rattle.std.specs.Cmp.Lexicographic.{slice_cmp}
use Rattle.clu_base.specs.declared.constants.Const.{Const}
use Rattle.clu_tree.specs.declared.node.Node.{Node}
use Rattle.clu_syntax.specs.Splits.{first_name}
use Rattle.clu_types.specs.declared.term.TypeId.{TypeId}
use Rattle.clu_types.specs.declared.term.Field.{Field}
use Rattle.clu_types.specs.declared.term.Exception.{Exception}
use Rattle.clu_types.specs.declared.term.Actual.{Actual}
use Rattle.clu_types.specs.declared.term.Actual.TheVariants as actual
use Rattle.clu_settle.specs.declared.value.Value.{Value}
use Rattle.clu_settle.specs.declared.value.Value.TheVariants as value
use Rattle.clu_settle.specs.Values.{value_in, constant_at}

abbrev pub if_known : {A : Type 0} → Bool → A → Option A
if_known true x = Some x
if_known false x = None

abbrev pub type_id : Value → Option TypeId
type_id (value.Type id) = Some id
type_id _ = None

-- ---- what one node gives

abbrev pub fields_named : TypeId → List (List ℕ) → List Field
fields_named of names = map (λ name. record { name = name; of = of }) names

-- failure belongs to every routine and isn't listed
abbrev pub exception_with : List ℕ → List TypeId → List Exception
exception_with name ids = if bytes_eq name (codes "failure") then [] else record { name = name; objects = ids } ∷ []

-- what is neither a constant nor a type is left out
abbrev pub actual_in : List Const → Value → Option (List Actual)
actual_in constants (value.Type id) = Some (actual.Of id ∷ [])
actual_in constants (value.Constant k) = Some (actual.Const (constant_at constants k) ∷ [])
actual_in constants (value.Parameter k) = Some (actual.ConstParam k ∷ [])
actual_in constants value.Nothing = Some []
actual_in constants value.Lost = None

-- ---- in order: a comes before b

abbrev pub field_before : Field → Field → Bool
field_before a b = is_lt (slice_cmp nat_cmp a.name b.name)

abbrev pub exception_before : Exception → Exception → Bool
exception_before a b = is_lt (slice_cmp nat_cmp a.name b.name)

module _ (values : List Value) where
  abbrev pub value_of : ℕ → Value
  value_of n = value_in (slice_get values n)

  abbrev pub ids_behind : List TypeId → List ℕ → Option (List TypeId)
  ids_behind ids [] = Some ids
  ids_behind ids (n ∷ ns) = option_and_then (λ id. ids_behind (ids ++ id ∷ []) ns) (type_id (value_of n))

  -- ---- of the node FieldT, and of several

  abbrev pub first_value : List ℕ → Value
  first_value [] = value.Lost
  first_value (c ∷ cs) = value_of c

  abbrev pub selectors_in : Node → Option (List Field)
  selectors_in node = option_map (λ of. fields_named of node.names) (type_id (first_value node.children))

  abbrev pub selectors_at : Option Node → Option (List Field)
  selectors_at (Some node) = selectors_in node
  selectors_at None = None

  abbrev pub selectors_behind : List Node → List Field → List ℕ → Option (List Field)
  selectors_behind nodes fields [] = Some fields
  selectors_behind nodes fields (n ∷ ns) = option_and_then (λ all. selectors_behind nodes all ns) (option_map (λ more. fields ++ more) (selectors_at (slice_get nodes n)))

  -- ---- of the node Exc, and of several

  abbrev pub exceptions_in : Node → Option (List Exception)
  exceptions_in node = option_map (exception_with (first_name node.names)) (ids_behind [] node.children)

  abbrev pub exceptions_at : Option Node → Option (List Exception)
  exceptions_at (Some node) = exceptions_in node
  exceptions_at None = None

  abbrev pub signals_behind : List Node → List Exception → List ℕ → Option (List Exception)
  signals_behind nodes signals [] = Some signals
  signals_behind nodes signals (n ∷ ns) = option_and_then (λ all. signals_behind nodes all ns) (option_map (λ more. signals ++ more) (exceptions_at (slice_get nodes n)))

  -- ---- actual parameters

  abbrev pub actuals_behind : List Const → List Actual → List ℕ → Option (List Actual)
  actuals_behind constants actuals [] = Some actuals
  actuals_behind constants actuals (n ∷ ns) = option_and_then (λ all. actuals_behind constants all ns) (option_map (λ more. actuals ++ more) (actual_in constants (value_of n)))
