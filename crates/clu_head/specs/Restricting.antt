-- What each Restrict restricts: the type parameter that its first name denotes, and the type set that it has, or for which its
-- second name stands.
use Rattle.std.specs.Prelude.{ℕ, zero, suc, if◌then◌else◌, List, [], ◌∷◌, ◌++◌, slice_get, Option, Some, None}
use Rattle.std.specs.Option.{option_and_then}
use Rattle.clu_tree.specs.declared.node.Node.{Node}
use Rattle.clu_tree.specs.declared.node.NodeKind.TheVariants as kind
use Rattle.clu_syntax.specs.Splits.{children_of, type_of}
use Rattle.clu_names.specs.declared.scopes.Declared.{Declared}
use Rattle.clu_names.specs.Denotes.{bound_at}
use Rattle.clu_head.specs.declared.restricted.Restricted.{Restricted}
use Rattle.clu_head.specs.Asking.{no_restriction}
use Rattle.clu_head.specs.Sets.{first_in, second_in, kept_at}
use Rattle.clu_head.specs.There.{is_there}

-- a parameter with a type takes constants
abbrev pub number_of : Option ℕ → Option ℕ → Option ℕ
number_of None number = number
number_of (Some t) number = None

module _ (nodes : List Node) (numbers : List ℕ) where
  -- that of the declaration at a place, if a Parm declares it without a type
  unfoldable pub type_parameter : ℕ → Declared → Option ℕ
  type_parameter place d = if is_there kind.Parm (slice_get nodes d.node) then number_of (type_of nodes (children_of (slice_get nodes d.node))) (slice_get numbers place) else None

  abbrev pub parameter_in : ℕ → Option Declared → Option ℕ
  parameter_in place (Some d) = type_parameter place d
  parameter_in place None = None

  abbrev pub parameter_of : List Declared → Option ℕ → Option ℕ
  parameter_of declared (Some place) = parameter_in place (slice_get declared place)
  parameter_of declared None = None

module _ (nodes : List Node) (declared : List Declared) (sets : List (Option ℕ)) where
  -- the set for which the second name of the node n stands
  abbrev pub set_of_name : ℕ → Option ℕ
  set_of_name n = option_and_then (kept_at sets) (second_in (bound_at declared n (slice_get nodes n)))

  abbrev pub set_among : ℕ → List ℕ → Option ℕ
  set_among n [] = set_of_name n
  set_among n (c ∷ cs) = if is_there kind.TypeSet (slice_get nodes c) then Some c else set_of_name n

  module _ (numbers : List ℕ) where
    unfoldable pub restricted_at : ℕ → Restricted
    restricted_at n =
        if is_there kind.Restrict (slice_get nodes n) then
        record { parameter = parameter_of nodes numbers declared (first_in (bound_at declared n (slice_get nodes n))); set = set_among n (children_of (slice_get nodes n)) }
        else no_restriction

    unfoldable pub restricted_to : ℕ → List Restricted
    restricted_to zero = []
    restricted_to (suc n) = restricted_to n ++ restricted_at n ∷ []
