-- What is wanted where a node stands, and the instances of modules that names with actuals are.
use Rattle.std.specs.Prelude.{ℕ, suc, ◌==◌, ◌&&◌, Bool, true, false, List, [], ◌∷◌, slice_get, if◌then◌else◌, Option, Some, None}
use Rattle.std.specs.Option.{option_and_then}
use Rattle.clu_base.specs.declared.constants.Const.{Const}
use Rattle.clu_base.specs.declared.constants.Const.TheVariants as constant
use Rattle.clu_types.specs.declared.spec.ParamKind.{ParamKind}
use Rattle.clu_types.specs.declared.spec.ParamKind.TheVariants as param
use Rattle.clu_types.specs.contracts.spec.ParamKind.{the_type}
use denote.Enum.Bare.{sameb}
use Rattle.clu_tree.specs.declared.node.NodeKind.{NodeKind}
use Rattle.clu_tree.specs.declared.node.NodeKind.TheVariants as kind
use Rattle.clu_syntax.specs.declared.round.Role.{Role}
use Rattle.clu_syntax.specs.declared.round.Role.TheVariants as role
use Rattle.clu_syntax.specs.Splits.{first_name}
use Rattle.clu_syntax.specs.Roles.{has_no_name}
use Rattle.clu_syntax.specs.Syntax.{Identifier, Expression, a_name, an_index, Constants, no_constants, constant_and, TypeExpression, a_named_type}
use Rattle.clu_meaning.specs.Settling.{Value, settled_type, settled_constant, settled_parameter, unsettled}
use Rattle.clu_checking.specs.Settled.{value_settled}
use Rattle.clu_checking.specs.Specifications.{Specification}
use Rattle.clu_checking.specs.Files.{File, item, kind_in, round, parent, children, children_at, names, is_kind, is_kind_at, is_of_module}
use Rattle.clu_checking.specs.Headings.{parameter_type, kind_of_type, specification}
use Rattle.clu_checking.specs.Typing.{takes_actuals}

-- one object; any number of them, for several variables or a call statement; the invocation of a loop; a constant or
-- type, as the right side of an equate or an actual; a type; the name before actuals; none of these
pub data Wanted : Type 0 where
  an_object some_objects a_loop_call a_constant a_type a_name_with_actuals nothing : Wanted

abbrev pub as_role : Role → Wanted
as_role role.Part = nothing
as_role role.Object = an_object
as_role role.Constant = a_constant
as_role role.Type = a_type
as_role role.Instance = an_object
as_role role.Results = some_objects
as_role role.LoopCall = a_loop_call

-- a name with its node and the actuals in brackets after it
pub record Named : Type 0 where
  pub node : ℕ
  pub name : Identifier
  pub constants : Constants

abbrev pub kind_of_constant : Const → ParamKind
kind_of_constant constant.Null = param.Null
kind_of_constant (constant.Bool b) = param.Bool
kind_of_constant (constant.Int n) = param.Int
kind_of_constant (constant.Char c) = param.Char
kind_of_constant (constant.Str bytes) = param.Str

-- a parameter of no legal type takes every actual
abbrev pub same_kind : Option ParamKind → Option ParamKind → Bool
same_kind (Some wanted) (Some given) = sameb the_type wanted given
same_kind (Some wanted) None = false
same_kind None given = true

abbrev pub kinds_of : Option Specification → List (Option ParamKind)
kinds_of (Some s) = s.kinds
kinds_of None = []

module _ (f : File) where
  -- ---- brackets

  abbrev pub first_name_at : ℕ → Identifier
  first_name_at n = first_name (names f n)

  -- the first child of the Index is a name whose brackets hold actuals
  abbrev pub begins_instance : List ℕ → Bool
  begins_instance [] = false
  begins_instance (c ∷ cs) = is_kind f kind.Name c && takes_actuals f c (first_name_at c)

  abbrev pub wanted_in_brackets : Bool → Bool → Wanted
  wanted_in_brackets true true = a_name_with_actuals
  wanted_in_brackets true false = a_constant
  wanted_in_brackets false is_first = an_object

  abbrev pub is_first_of : List ℕ → ℕ → Bool
  is_first_of [] n = false
  is_first_of (c ∷ cs) n = c == n

  abbrev pub wanted_by : Bool → ℕ → Wanted
  wanted_by true n = wanted_in_brackets (begins_instance (children_at f (parent f n))) (is_first_of (children_at f (parent f n)) n)
  wanted_by false n = as_role (round f n).role

  abbrev pub wanted : ℕ → Wanted
  wanted n = wanted_by (is_kind_at f kind.Index (parent f n)) n

  -- ---- where a type is wanted, and not another constant

  -- so many stand before the node in the list
  abbrev pub place_in : List ℕ → ℕ → ℕ
  place_in [] n = 0
  place_in (c ∷ cs) n = if c == n then 0 else suc (place_in cs n)

  abbrev pub is_type_kind : Option (Option ParamKind) → Bool
  is_type_kind (Some (Some k)) = sameb the_type param.OfType k
  is_type_kind _ = false

  abbrev pub wants_type_as : List ℕ → ℕ → Identifier → ℕ → Bool
  wants_type_as siblings m name n = is_of_module f m name && is_type_kind (slice_get (kinds_of (specification f name)) (place_in siblings n))

  abbrev pub wants_type_in : NodeKind → ℕ → List ℕ → ℕ → Bool
  wants_type_in kind.Equate p siblings n = has_no_name (names f p)
  wants_type_in kind.NameT p siblings n = wants_type_as siblings p (first_name_at p) n
  wants_type_in kind.Index p (b ∷ siblings) n = wants_type_as siblings b (first_name_at b) n
  wants_type_in _ p siblings n = false

  abbrev pub wants_type_at : Option ℕ → ℕ → Bool
  wants_type_at (Some p) n = wants_type_in (kind_in f p) p (children f p) n
  wants_type_at None n = false

  -- `rep` is equated to a type, and a type parameter takes one
  abbrev pub wants_type : ℕ → Bool
  wants_type n = wants_type_at (parent f n) n

  -- ---- names with actuals

  abbrev pub named_by : Expression → List Named
  named_by (a_name n name) = record { node = n; name = name; constants = no_constants } ∷ []
  named_by (an_index n (a_name m name) cs) = if takes_actuals f m name then record { node = m; name = name; constants = cs } ∷ [] else []
  named_by _ = []

  abbrev pub named_by_type : TypeExpression → List Named
  named_by_type (a_named_type n name cs) = record { node = n; name = name; constants = cs } ∷ []
  named_by_type _ = []

  abbrev pub named_as : NodeKind → Wanted → ℕ → List Named
  named_as kind.Name a_name_with_actuals n = []
  named_as kind.Name w n = named_by (item f n).expression
  named_as kind.Index w n = named_by (item f n).expression
  named_as kind.NameT w n = named_by_type (item f n).type
  named_as _ w n = []

  -- the name at a node with its actuals, if it is one
  abbrev pub named_at : ℕ → List Named
  named_at n = named_as (kind_in f n) (wanted n) n

  abbrev pub value_kind : ℕ → Value → Option ParamKind
  value_kind n (settled_type t) = Some param.OfType
  value_kind n (settled_constant c) = Some (kind_of_constant c)
  value_kind n (settled_parameter k) = option_and_then kind_of_type (parameter_type f n k)
  value_kind n unsettled = None

  -- as many actuals as kinds, each of its kind
  abbrev pub kinds_fit : ℕ → List (Option ParamKind) → Constants → Bool
  kinds_fit n [] no_constants = true
  kinds_fit n (k ∷ ks) (constant_and c cs) = same_kind k (value_kind n (value_settled f.scope c)) && kinds_fit n ks cs
  kinds_fit n _ _ = false

  abbrev pub has_fitting_kinds : Named → Bool
  has_fitting_kinds x = kinds_fit x.node (kinds_of (specification f x.name)) x.constants
