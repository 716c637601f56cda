-- What each declaration of a file declares, and so what the name of each node stands for.
use Rattle.std.specs.Prelude.{◌+◌, ◌-◌, ◌^◌, ◌==◌, ℕ, zero, suc, min, if◌then◌else◌, List, [], ◌∷◌, ◌++◌, length, slice_get, Option, Some, None}
use Rattle.clu_tree.specs.declared.node.Node.{Node}
use Rattle.clu_tree.specs.declared.node.NodeKind.{NodeKind}
use Rattle.clu_tree.specs.declared.node.NodeKind.TheVariants as kind
use Rattle.clu_syntax.specs.declared.round.Round.{Round}
use Rattle.clu_syntax.specs.Kinds.{kind_at}
use Rattle.clu_syntax.specs.Splits.{children_of}
use Rattle.clu_syntax.specs.Syntax.{TypeExpression}
use Rattle.clu_syntax.specs.Nodes.{item_at}
use Rattle.clu_names.specs.declared.scopes.Declared.{Declared}
use Rattle.clu_names.specs.Denotes.{bound_at}
use Rattle.clu_names.specs.Scopes.{next}
use Rattle.clu_settle.specs.declared.meanings.Meaning.{Meaning}
use Rattle.clu_settle.specs.declared.meanings.Meaning.TheVariants as meaning
use Rattle.clu_settle.specs.Names.{meaning_in}
use Rattle.clu_settle.specs.Graph.{if_used}
use Rattle.clu_settle.specs.Parameters.{counted_in, number_at}

-- an equate, by the node of its right side; no constant is a type set
abbrev pub equated_by : NodeKind → ℕ → Meaning
equated_by kind.TypeSet c = meaning.Other
equated_by _ c = meaning.Equate c

abbrev pub right_of : List Node → List ℕ → Meaning
right_of nodes (c ∷ cs) = equated_by (kind_at nodes c) c
right_of nodes [] = meaning.Other

-- a parameter with a type is a constant
abbrev pub parameter_as : Option TypeExpression → ℕ → Meaning
parameter_as None number = meaning.TypeParameter number
parameter_as (Some t) number = meaning.ConstantParameter number

-- no parameter has the number 0
abbrev pub parameter_in : Option TypeExpression → ℕ → Meaning
parameter_in t number = if number == 0 then meaning.Module else parameter_as t number

-- the variable of the type set n is a parameter after so many of its module, of a number that no other set has
abbrev pub variable_in : ℕ → ℕ → Meaning
variable_in n count = meaning.TypeParameter (min (next n + count) (2 ^ 32 - 1))

-- a routine of a cluster, or a module
abbrev pub definition_in : Option ℕ → Meaning
definition_in (Some unit) = meaning.Other
definition_in None = meaning.Module

-- what the node n of this kind declares in a module with so many parameters; a parameter has this number
abbrev pub declared_in : List Node → NodeKind → ℕ → Option ℕ → ℕ → ℕ → Meaning
declared_in nodes kind.Equate n unit count number = right_of nodes (children_of (slice_get nodes n))
declared_in nodes kind.Parm n unit count number = parameter_in (item_at nodes n).parameter.type number
declared_in nodes kind.TypeSet n unit count number = variable_in n count
declared_in nodes kind.Routine n unit count number = definition_in unit
declared_in nodes kind.Cluster n unit count number = definition_in unit
declared_in nodes _ n unit count number = meaning.Other

module _ (nodes : List Node) (rounds : List Round) (ds : List Declared) where
  abbrev pub declared_at : ℕ → Option Declared → Meaning
  declared_at p (Some d) = declared_in nodes (kind_at nodes d.node) d.node d.unit (counted_in nodes rounds ds d.unit (length ds)) (number_at nodes rounds ds p (Some d))
  declared_at p None = meaning.Other

  -- what the first p declarations declare
  unfoldable pub declared_to : ℕ → List Meaning
  declared_to zero = []
  declared_to (suc p) = declared_to p ++ declared_at p (slice_get ds p) ∷ []

-- a name that is bound to no declaration is that of a module
abbrev pub bound_to_one : List Meaning → Option ℕ → Meaning
bound_to_one declared (Some place) = meaning_in (slice_get declared place)
bound_to_one declared None = meaning.Module

module _ (nodes : List Node) (ds : List Declared) (declared : List Meaning) where
  abbrev pub first_of : List (Option ℕ) → Meaning
  first_of (bound ∷ bounds) = bound_to_one declared bound
  first_of [] = meaning.Other

  abbrev pub meant_at : ℕ → Meaning
  meant_at n = first_of (if_used (kind_at nodes n) (bound_at ds n (slice_get nodes n)))

  -- what the names of the first n nodes stand for, if the declarations declare this
  unfoldable pub meant_to : ℕ → List Meaning
  meant_to zero = []
  meant_to (suc n) = meant_to n ++ meant_at n ∷ []

-- what the name of each node stands for
abbrev pub meanings_of : List Node → List Round → List Declared → List Meaning
meanings_of nodes rounds ds = meant_to nodes ds (declared_to nodes rounds ds (length ds)) (length nodes)
