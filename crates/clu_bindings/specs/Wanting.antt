-- What is wanted at each node, and after which names brackets hold actual parameters.
use Rattle.std.specs.Prelude.{◌==◌, ◌&&◌, ◌||◌, ℕ, Bool, true, false, if◌then◌else◌, is_some, List, [], ◌∷◌, length, slice_get, Option, Some, None}
use Rattle.clu_tree.specs.declared.node.Node.{Node}
use Rattle.clu_tree.specs.declared.node.NodeKind.TheVariants as kind
use Rattle.clu_syntax.specs.declared.round.Round.{Round}
use Rattle.clu_syntax.specs.declared.round.Role.{Role}
use Rattle.clu_syntax.specs.declared.round.Role.TheVariants as role
use Rattle.clu_syntax.specs.Rounds.{round_at}
use Rattle.clu_syntax.specs.Splits.{children_of}
use Rattle.clu_names.specs.declared.binding.Names.{Names}
use Rattle.clu_settle.specs.declared.value.Value.{Value}
use Rattle.clu_settle.specs.declared.value.Value.TheVariants as value
use Rattle.clu_head.specs.There.{is_there}
use Rattle.clu_head.specs.Refused.{is_set}
use Rattle.clu_bindings.specs.declared.meaning.Meaning.{Meaning}
use Rattle.clu_bindings.specs.declared.meaning.Meaning.TheVariants as meaning
use Rattle.clu_bindings.specs.declared.wanted.Wanted.{Wanted}
use Rattle.clu_bindings.specs.declared.wanted.Wanted.TheVariants as wanted
use Rattle.clu_bindings.specs.Tables.{optional, items_at, table_to}
use Rattle.clu_bindings.specs.Files.{bound_in}

-- ---- after which names brackets hold actual parameters

abbrev pub is_type : Option Value → Bool
is_type (Some (value.Type id)) = true
is_type _ = false

abbrev pub stands_for_set : List (Option ℕ) → Option ℕ → Bool
stands_for_set sets (Some place) = is_some (optional (slice_get sets place))
stands_for_set sets None = false

module _ (values : List Value) (sets : List (Option ℕ)) where
  -- after a name that means this and is bound so: it is a module's, or stands for a type or a type set
  abbrev pub takes_actuals : Meaning → Option ℕ → Bool
  takes_actuals (meaning.Equate right) bound = is_type (slice_get values right) || stands_for_set sets bound
  takes_actuals meaning.TypeSet bound = true
  takes_actuals (meaning.TypeParameter k) bound = true
  takes_actuals (meaning.Module its) bound = true
  takes_actuals _ bound = false

  abbrev pub takes_first : List Meaning → List (Option ℕ) → Bool
  takes_first (m ∷ ms) (b ∷ bs) = takes_actuals m b
  takes_first _ _ = false

  module _ (nodes : List Node) (names : Names) (meanings : List Meaning) where
    -- the node is a Name, and brackets after it do
    abbrev pub is_taker : ℕ → Bool
    is_taker n = is_there kind.Name (slice_get nodes n) && takes_first (items_at meanings names.starts.items n) (bound_in names n)

    abbrev pub takers_of : List Bool
    takers_of = table_to is_taker (length nodes)

-- ---- what is wanted

abbrev pub wanted_by_role : Role → Wanted
wanted_by_role role.Part = wanted.Nothing
wanted_by_role role.Object = wanted.Object
wanted_by_role role.Constant = wanted.Constant
wanted_by_role role.Type = wanted.Type
wanted_by_role role.Instance = wanted.Object
wanted_by_role role.Results = wanted.Objects
wanted_by_role role.LoopCall = wanted.LoopCall

module _ (takers : List Bool) where
  -- of the child n of an Index with these children
  abbrev pub wanted_in_brackets : List ℕ → ℕ → Wanted
  wanted_in_brackets [] n = wanted.Object
  wanted_in_brackets (c ∷ cs) n =
      if is_set (slice_get takers c) then (if c == n then wanted.NameWithActuals else wanted.Constant)
      else wanted.Object

  module _ (nodes : List Node) where
    abbrev pub wanted_below : Option ℕ → Role → ℕ → Wanted
    wanted_below (Some parent) role n =
        if is_there kind.Index (slice_get nodes parent) then wanted_in_brackets (children_of (slice_get nodes parent)) n
        else wanted_by_role role
    wanted_below None role n = wanted_by_role role

    module _ (rounds : List Round) where
      abbrev pub wanted_at : ℕ → Wanted
      wanted_at n = wanted_below (round_at rounds n).parent (round_at rounds n).role n

      abbrev pub wanted_of : List Wanted
      wanted_of = table_to wanted_at (length nodes)
