-- Names with actual parameters, and where a type is wanted and not another constant, by the tables of a file.
use Rattle.std.specs.Prelude.{ℕ, ◌-◌, ◌&&◌, Bool, true, false, List, [], ◌∷◌, slice_get, if◌then◌else◌, Option, Some, None}
use Rattle.clu_base.specs.declared.constants.Const.{Const}
use Rattle.clu_base.specs.declared.constants.Const.TheVariants as constant
use Rattle.clu_constants.specs.declared.outline.Outline.{Outline}
use Rattle.clu_constants.specs.declared.outline.Outline.TheVariants as outline
use Rattle.clu_types.specs.declared.spec.ParamKind.{ParamKind}
use Rattle.clu_types.specs.declared.spec.ParamKind.TheVariants as param
use Rattle.clu_types.specs.contracts.spec.ParamKind.{the_type}
use denote.Enum.Bare.{sameb}
use Rattle.clu_types.specs.declared.term.TypeId.{TypeId}
use Rattle.clu_types.specs.declared.term.Term.{Term}
use Rattle.clu_tree.specs.declared.node.NodeKind.{NodeKind}
use Rattle.clu_tree.specs.declared.node.NodeKind.TheVariants as kind
use Rattle.clu_syntax.specs.Roles.{has_no_name}
use Rattle.clu_settle.specs.declared.value.Value.{Value}
use Rattle.clu_settle.specs.declared.value.Value.TheVariants as value
use Rattle.clu_settle.specs.Lists.{type_id}
use Rattle.clu_settle.specs.Names.{names_of}
use Rattle.clu_head.specs.ParameterKinds.{kind_of_type}
use Rattle.clu_bindings.specs.declared.file.File.{File}
use Rattle.clu_bindings.specs.declared.wanted.Wanted.{Wanted}
use Rattle.clu_bindings.specs.declared.wanted.Wanted.TheVariants as wanted
use Rattle.clu_bindings.specs.Tables.{optional}
use Rattle.clu_bindings.specs.Readers.{kind_in, round_in, children_in, place_in, value_in, wanted_in, takes_actuals, module_in, kinds_in, declared_parameter}

abbrev pub kind_of_constant : Const → ParamKind
kind_of_constant constant.Null = param.Null
kind_of_constant (constant.Bool b) = param.Bool
kind_of_constant (constant.Int n) = param.Int
kind_of_constant (constant.Char c) = param.Char
kind_of_constant (constant.Str bytes) = param.Str

-- the same without its text
abbrev pub kind_of_outline : Outline → ParamKind
kind_of_outline outline.Null = param.Null
kind_of_outline (outline.Bool b) = param.Bool
kind_of_outline (outline.Int n) = param.Int
kind_of_outline (outline.Char c) = param.Char
kind_of_outline (outline.Str n) = param.Str

abbrev pub kind_of_place : Option Const → Option ParamKind
kind_of_place (Some c) = Some (kind_of_constant c)
kind_of_place None = None

-- a parameter of no legal type takes every actual
abbrev pub same_kind : Option ParamKind → Option ParamKind → Bool
same_kind (Some asked) (Some given) = sameb the_type asked given
same_kind (Some asked) None = false
same_kind None given = true

abbrev pub is_type_kind : Option ParamKind → Bool
is_type_kind (Some param.OfType) = true
is_type_kind _ = false

abbrev pub legal_type : Option TypeId → Option ParamKind → Option TypeId
legal_type of (Some k) = of
legal_type of None = None

-- before brackets with actuals a Name is none by itself
abbrev pub named_alone : Wanted → ℕ → Option (ℕ × List ℕ)
named_alone wanted.NameWithActuals n = None
named_alone _ n = Some (n, [])

module _ (f : File) where
  -- ---- names with actual parameters

  abbrev pub named_before : List ℕ → Option (ℕ × List ℕ)
  named_before [] = None
  named_before (c ∷ cs) = if takes_actuals f c then Some (c, cs) else None

  abbrev pub named_by : NodeKind → ℕ → Option (ℕ × List ℕ)
  named_by kind.Name n = named_alone (wanted_in f n) n
  named_by kind.Index n = named_before (children_in f n)
  named_by kind.NameT n = Some (n, children_in f n)
  named_by _ n = None

  -- the node of a name, and the nodes of the actuals after it
  abbrev pub named_in : ℕ → Option (ℕ × List ℕ)
  named_in n = named_by (kind_in f n) n

  -- ---- where a type is wanted

  -- by the module that is named at the node m, at this place among its actuals
  abbrev pub takes_type : ℕ → ℕ → Bool
  takes_type m place = is_type_kind (optional (slice_get (kinds_in f (module_in f m)) place))

  abbrev pub takes_type_before : List ℕ → ℕ → Bool
  takes_type_before [] n = false
  takes_type_before (c ∷ cs) n = takes_type c (place_in f n - 1)

  abbrev pub wants_type_in : NodeKind → ℕ → ℕ → Bool
  wants_type_in kind.Equate parent n = has_no_name (names_of (slice_get f.syntax.now parent))
  wants_type_in kind.NameT parent n = takes_type parent (place_in f n)
  wants_type_in kind.Index parent n = takes_type_before (children_in f parent) n
  wants_type_in _ parent n = false

  abbrev pub wants_type_at : Option ℕ → ℕ → Bool
  wants_type_at (Some parent) n = wants_type_in (kind_in f parent) parent n
  wants_type_at None n = false

  abbrev pub wants_type : ℕ → Bool
  wants_type n = wants_type_at (round_in f n).parent n

  module _ (types : List Term) where
    -- ---- constant parameters

    abbrev pub type_of_parameter : Option ℕ → Option TypeId
    type_of_parameter (Some t) = legal_type (type_id (value_in f t)) (kind_of_type types (type_id (value_in f t)))
    type_of_parameter None = None

    -- the type of one of the module round a node, if it has one that parameters may have
    abbrev pub parameter_type : ℕ → ℕ → Option TypeId
    parameter_type n number = type_of_parameter (declared_parameter f n number)

    -- ---- kinds of actual parameters

    -- of a value that stands in the module round a node
    abbrev pub value_kind : ℕ → Value → Option ParamKind
    value_kind n (value.Type id) = Some param.OfType
    value_kind n (value.Constant place) = kind_of_place (slice_get f.constants.now place)
    value_kind n (value.Parameter number) = kind_of_type types (parameter_type n number)
    value_kind n _ = None

    -- as many actuals as kinds, each of its kind
    abbrev pub kinds_fit : ℕ → List (Option ParamKind) → List ℕ → Bool
    kinds_fit n [] [] = true
    kinds_fit n (k ∷ ks) (c ∷ cs) = same_kind k (value_kind n (value_in f c)) && kinds_fit n ks cs
    kinds_fit n _ _ = false

    -- the actuals are those of the module that the node names
    abbrev pub has_fitting_kinds : ℕ → List ℕ → Bool
    has_fitting_kinds n cs = kinds_fit n (kinds_in f (module_in f n)) cs
