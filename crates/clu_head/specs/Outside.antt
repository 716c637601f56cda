-- The types of a heading as callers see them, by the values of their nodes; each list with what came before. None if one of
-- them is lost.
use Rattle.std.specs.Prelude.{ℕ, List, [], ◌∷◌, ◌++◌, map, slice_get, Option, Some, None}
use Rattle.std.specs.Option.{option_and_then, option_map}
use Rattle.clu_tree.specs.declared.node.Node.{Node}
use Rattle.clu_syntax.specs.Splits.{first_name}
use Rattle.clu_syntax.specs.Nodes.{item_at}
use Rattle.clu_types.specs.declared.term.TypeId.{TypeId}
use Rattle.clu_types.specs.declared.term.Exception.{Exception}
use Rattle.clu_types.specs.declared.term.Heading.{Heading}
use Rattle.clu_settle.specs.declared.value.Value.{Value}
use Rattle.clu_settle.specs.Inserted.{in_order}
use Rattle.clu_settle.specs.Lists.{value_of, exception_with, exception_before}
use Rattle.clu_head.specs.Seen.{seen_type}

-- once for each name
abbrev pub times : {A : Type 0} → A → List (List ℕ) → List A
times a names = map (λ name. a) names

module _ (own : Option TypeId) (nodes : List Node) (values : List Value) where
  -- the type at a node
  unfoldable pub type_outside : ℕ → Option TypeId
  type_outside n = seen_type own (item_at nodes n).type (value_of values n)

  abbrev pub types_behind : List TypeId → List ℕ → Option (List TypeId)
  types_behind ids [] = Some ids
  types_behind ids (n ∷ ns) = option_and_then (λ id. types_behind (ids ++ id ∷ []) ns) (type_outside n)

  -- ---- what a Decl declares, and several

  abbrev pub first_type : List ℕ → Option TypeId
  first_type [] = None
  first_type (c ∷ cs) = type_outside c

  abbrev pub declared_in : Node → Option (List TypeId)
  declared_in node = option_map (λ of. times of node.names) (first_type node.children)

  abbrev pub declared_at : Option Node → Option (List TypeId)
  declared_at (Some node) = declared_in node
  declared_at None = None

  abbrev pub arguments_behind : List TypeId → List ℕ → Option (List TypeId)
  arguments_behind ids [] = Some ids
  arguments_behind ids (n ∷ ns) = option_and_then (λ all. arguments_behind all ns) (option_map (λ more. ids ++ more) (declared_at (slice_get nodes n)))

  -- ---- the exception of an Exc, and of several

  abbrev pub exceptions_in : Node → Option (List Exception)
  exceptions_in node = option_map (exception_with (first_name node.names)) (types_behind [] node.children)

  abbrev pub exceptions_at : Option Node → Option (List Exception)
  exceptions_at (Some node) = exceptions_in node
  exceptions_at None = None

  abbrev pub signals_behind : List Exception → List ℕ → Option (List Exception)
  signals_behind signals [] = Some signals
  signals_behind signals (n ∷ ns) = option_and_then (λ all. signals_behind all ns) (option_map (λ more. signals ++ more) (exceptions_at (slice_get nodes n)))

  -- ---- all of a heading

  abbrev pub signals_outside : List ℕ → Option (List Exception)
  signals_outside exceptions = option_map (in_order exception_before) (signals_behind [] exceptions)

  abbrev pub heading_outside : List ℕ → List ℕ → List ℕ → Option Heading
  heading_outside arguments results exceptions =
      option_and_then (λ args. option_and_then (λ types. option_map (λ signals. record { args = args; results = types; signals = signals }) (signals_outside exceptions)) (types_behind [] results)) (arguments_behind [] arguments)
