-- What each declaration of a file declares, and so what the names of each node denote.
use Rattle.std.specs.Prelude.{◌==◌, ◌+◌, ◌-◌, ◌^◌, ℕ, min, if◌then◌else◌, List, [], ◌∷◌, drop, get_or, length, slice_get, Option, Some, None}
use Rattle.clu_tree.specs.declared.node.Node.{Node}
use Rattle.clu_tree.specs.declared.node.NodeKind.{NodeKind}
use Rattle.clu_tree.specs.declared.node.NodeKind.TheVariants as kind
use Rattle.clu_syntax.specs.declared.round.Round.{Round}
use Rattle.clu_syntax.specs.Kinds.{kind_at}
use Rattle.clu_syntax.specs.Rounds.{round_at}
use Rattle.clu_syntax.specs.Splits.{children_of, type_of}
use Rattle.clu_syntax.specs.Syntax.{Identifier}
use Rattle.clu_names.specs.declared.binding.Names.{Names}
use Rattle.clu_names.specs.declared.scopes.Declared.{Declared}
use Rattle.clu_names.specs.Scopes.{next, kind_at_parent}
use Rattle.clu_settle.specs.Names.{names_of}
use Rattle.clu_settle.specs.Parameters.{count_in}
use Rattle.clu_bindings.specs.declared.meaning.Meaning.{Meaning}
use Rattle.clu_bindings.specs.declared.meaning.Meaning.TheVariants as meaning
use Rattle.clu_bindings.specs.declared.meaning.ModuleId.{ModuleId}
use Rattle.clu_bindings.specs.Files.{bound_in}
use Rattle.clu_bindings.specs.Tables.{table_to, joined_to}

-- what is no declaration
abbrev pub nothing : Meaning
nothing = meaning.Module None

-- an equate, by the node of its right side
abbrev pub equated_by : NodeKind → ℕ → Meaning
equated_by kind.TypeSet c = meaning.TypeSet
equated_by _ c = meaning.Equate c

abbrev pub right_of : List Node → List ℕ → Meaning
right_of nodes [] = nothing
right_of nodes (c ∷ cs) = equated_by (kind_at nodes c) c

-- a parameter with a type is a constant
abbrev pub parameter_as : Option ℕ → ℕ → Meaning
parameter_as None number = meaning.TypeParameter number
parameter_as (Some t) number = meaning.ConstantParameter number

-- no parameter has the number 0
abbrev pub parameter_in : Option ModuleId → Option ℕ → ℕ → Meaning
parameter_in its t number = if number == 0 then meaning.Module its else parameter_as t number

-- the variable of the type set n is a parameter after so many of its module, of a number that no other set has
abbrev pub variable_in : ℕ → ℕ → Meaning
variable_in n count = meaning.TypeParameter (min (next n + count) (2 ^ 32 - 1))

-- a routine of a cluster, or a module
abbrev pub definition_in : Option ModuleId → Option ℕ → Meaning
definition_in its (Some unit) = meaning.RoutineOfCluster
definition_in its None = meaning.Module its

-- variables, by the node of their type, which is the first child
abbrev pub local_in : List ℕ → Meaning
local_in [] = nothing
local_in (c ∷ cs) = meaning.Local c

-- own variables, of a routine or of a cluster
abbrev pub owned_by : Option ℕ → ℕ → Meaning
owned_by (Some routine) c = meaning.OwnOfRoutine c
owned_by None c = meaning.OwnOfCluster c

abbrev pub own_in : Option ℕ → List ℕ → Meaning
own_in routine [] = nothing
own_in routine (c ∷ cs) = owned_by routine c

-- those of a Decl, by the kind of its parent
abbrev pub variables_in : NodeKind → Option ℕ → List ℕ → Meaning
variables_in kind.Own routine cs = own_in routine cs
variables_in _ routine cs = local_in cs

abbrev pub outer_kind : List Node → List Round → ℕ → NodeKind
outer_kind nodes rounds n = kind_at_parent nodes (round_at rounds n).parent

-- `named` has the module of each name, `counts` how many parameters each Module has
module _ (nodes : List Node) (rounds : List Round) (named : Identifier → Option ModuleId) (counts : List ℕ) where
  abbrev pub declared_in : NodeKind → List ℕ → Declared → ℕ → Meaning
  declared_in kind.Equate cs d number = right_of nodes cs
  declared_in kind.Parm cs d number = parameter_in (named d.name) (type_of nodes cs) number
  declared_in kind.TypeSet cs d number = variable_in d.node (count_in counts d.unit)
  declared_in kind.Routine cs d number = definition_in (named d.name) d.unit
  declared_in kind.Cluster cs d number = definition_in (named d.name) d.unit
  declared_in kind.Decl cs d number = variables_in (outer_kind nodes rounds d.node) (round_at rounds d.node).routine cs
  declared_in kind.Init cs d number = local_in cs
  declared_in kind.Own cs d number = own_in (round_at rounds d.node).routine cs
  declared_in kind.TagArm cs d number = local_in cs
  declared_in kind.Others cs d number = local_in cs
  declared_in _ cs d number = nothing

  -- what a declaration declares; a parameter has this number
  abbrev pub declared_at : ℕ → Option Declared → Meaning
  declared_at number (Some d) = declared_in (kind_at nodes d.node) (children_of (slice_get nodes d.node)) d number
  declared_at number None = nothing

  -- what these declarations declare, which have these numbers
  abbrev pub declared_of : List ℕ → List Declared → List Meaning
  declared_of numbers ds = table_to (λ p. declared_at (get_or numbers p 0) (slice_get ds p)) (length ds)

-- a name that is bound to no declaration is that of a module; the word `rep` then denotes nothing
abbrev pub unbound : (Identifier → Option ModuleId) → Option Identifier → Meaning
unbound named (Some name) = meaning.Module (named name)
unbound named None = nothing

module _ (named : Identifier → Option ModuleId) (declared : List Meaning) where
  abbrev pub meant_by : Option ℕ → Option Identifier → Meaning
  meant_by (Some place) name = get_or declared place nothing
  meant_by None name = unbound named name

  -- what these names denote that are bound so
  unfoldable pub meant_of : List (Option ℕ) → List Identifier → List Meaning
  meant_of [] names = []
  meant_of (bound ∷ bounds) names = meant_by bound (slice_get names 0) ∷ meant_of bounds (drop 1 names)

  module _ (nodes : List Node) (names : Names) where
    abbrev pub meant_at : ℕ → List Meaning
    meant_at n = meant_of (bound_in names n) (names_of (slice_get nodes n))

    -- what the names of all nodes denote
    abbrev pub meanings_of : List Meaning
    meanings_of = joined_to meant_at (length nodes)
