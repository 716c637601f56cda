-- The kinds of constants that parameters take.
use Rattle.std.specs.Prelude.{ℕ, if◌then◌else◌, List, [], ◌∷◌, ◌++◌, slice_get, Option, Some, None}
use Rattle.clu_tree.specs.declared.node.Node.{Node}
use Rattle.clu_tree.specs.declared.node.NodeKind.TheVariants as kind
use Rattle.clu_syntax.specs.Splits.{is_of, type_of}
use Rattle.clu_settle.specs.declared.value.Value.{Value}
use Rattle.clu_settle.specs.Lists.{type_id, value_of}
use Rattle.clu_types.specs.declared.spec.ParamKind.{ParamKind}
use Rattle.clu_types.specs.declared.spec.ParamKind.TheVariants as param
use Rattle.clu_types.specs.declared.term.TypeId.{TypeId}
use Rattle.clu_types.specs.declared.term.Term.{Term}
use Rattle.clu_types.specs.declared.term.Term.TheVariants as term
use Rattle.clu_head.specs.Outside.{times}

-- by the term of the parameter's type
abbrev pub kind_of_term : Term → Option ParamKind
kind_of_term term.Null = Some param.Null
kind_of_term term.Bool = Some param.Bool
kind_of_term term.Int = Some param.Int
kind_of_term term.Char = Some param.Char
kind_of_term term.Str = Some param.Str
kind_of_term _ = None

abbrev pub kind_in : Option Term → Option ParamKind
kind_in (Some t) = kind_of_term t
kind_in None = None

-- by its type, if that is known
abbrev pub kind_of_type : List Term → Option TypeId → Option ParamKind
kind_of_type types (Some id) = kind_in (slice_get types id.0)
kind_of_type types None = None

module _ (types : List Term) (values : List Value) where
  -- of a parameter that is declared with the type at a node, if it is no type parameter
  abbrev pub kind_declared : Option ℕ → Option ParamKind
  kind_declared (Some n) = kind_of_type types (type_id (value_of values n))
  kind_declared None = Some param.OfType

  module _ (nodes : List Node) where
    -- those of a Parm, and of several
    abbrev pub kinds_in : Node → List (Option ParamKind)
    kinds_in node = if is_of kind.Parm node.kind then times (kind_declared (type_of nodes node.children)) node.names else []

    abbrev pub kinds_at : Option Node → List (Option ParamKind)
    kinds_at (Some node) = kinds_in node
    kinds_at None = []

    unfoldable pub kinds_of : List ℕ → List (Option ParamKind)
    kinds_of [] = []
    kinds_of (n ∷ ns) = kinds_at (slice_get nodes n) ++ kinds_of ns
