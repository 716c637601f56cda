-- The rules on the tags of a Tagcase over the tables that they read: V22 TagMissingOrTwice, and of V15 AssignType what is asked
-- of arms.
use Rattle.std.specs.Prelude.{◌≡◌, ℕ, ◌&&◌, ◌||◌, not, length, Bool, true, false, List, [], ◌∷◌, slice_get, Option, Some, None}
use Rattle.std.specs.List.{list_all}
use Rattle.clu_tree.specs.declared.node.NodeKind.{NodeKind}
use Rattle.clu_tree.specs.declared.node.NodeKind.TheVariants as kind
use Rattle.clu_syntax.specs.Items.{Item}
use Rattle.clu_syntax.specs.Nodes.{item_with}
use Rattle.clu_syntax.specs.Rounds.{round_at}
use Rattle.clu_syntax.specs.Splits.{type_of}
use Rattle.clu_syntax.specs.Syntax.{Statement, a_tagcase, Otherwise, nothing_else, otherwise}
use Rattle.clu_types.specs.declared.term.TypeId.{TypeId}
use Rattle.clu_types.specs.declared.term.Field.{Field}
use Rattle.clu_head.specs.Refused.{is_set}
use Rattle.clu_bindings.specs.Inside.{type_inside}
use Rattle.clu_name_rules.specs.Components.{AreAscending, component_type, is_selector_of, leaves_some}
use Rattle.clu_name_rules.specs.Repeated.{tags_at}
use Rattle.clu_type_rules.specs.declared.known.Known.{Known}
use Rattle.clu_type_rules.specs.Included.{may_be}
use Rattle.clu_type_rules.specs.Known.{nodes, kind_in, children}
use Rattle.clu_type_rules.specs.StatementRules.{tags_by}

-- a Tagcase has no `others`
abbrev pub has_no_others : Statement → Bool
has_no_others (a_tagcase n e arms nothing_else) = true
has_no_others _ = false

module _ (k : Known) where
  abbrev pub tags_by_parent : Option ℕ → Option (List Field)
  tags_by_parent (Some p) = tags_by k p
  tags_by_parent None = None

  -- the tags of the type on which the Tagcase round the node selects
  abbrev pub tags_round : ℕ → Option (List Field)
  tags_round n = tags_by_parent (round_at k.tables.file.rounds.now n).parent

  -- they ascend by name
  abbrev pub TagsAscend : ℕ → Type 0
  TagsAscend n = (fields : List Field) → tags_round n ≡ Some fields → AreAscending fields

  -- ---- V15 of arms: the variable may not name the object of a tag

  abbrev pub takes_tags : Option TypeId → List Field → List (List ℕ) → Bool
  takes_tags wanted fields tags = list_all (λ tag. may_be k.tables.types.now (component_type fields tag) wanted) tags

  module _ (items : ℕ → Item) where
    -- the type of the variable stands at a node of its own
    abbrev pub arm_misfits_by : ℕ → ℕ → Option (List Field) → Bool
    arm_misfits_by n declared (Some fields) = not (takes_tags (type_inside k.tables.file items n declared) fields (tags_at (nodes k) n))
    arm_misfits_by n declared None = false

    abbrev pub arm_misfits_if : ℕ → Option ℕ → Bool
    arm_misfits_if n (Some declared) = arm_misfits_by n declared (tags_round n)
    arm_misfits_if n None = false

    abbrev pub arm_misfits : NodeKind → ℕ → Bool
    arm_misfits kind.TagArm n = arm_misfits_if n (type_of (nodes k) (children k n))
    arm_misfits _ n = false

  -- ---- V22: an arm names a foreign tag or one that stands before it, or a tag is left without others

  abbrev pub names_bad_tag : ℕ → List Field → Bool
  names_bad_tag n fields = not (list_all (is_selector_of fields) (tags_at (nodes k) n)) || is_set (slice_get k.tables.items.now.repeated.items n)

  abbrev pub has_bad_tag : ℕ → Option (List Field) → Bool
  has_bad_tag n (Some fields) = names_bad_tag n fields
  has_bad_tag n None = false

  -- a foreign tag and one that stands twice are refused at their arm; so none is left if the arms name as many
  abbrev pub leaves_tag : ℕ → Option (List Field) → Bool
  leaves_tag n (Some fields) = leaves_some (tags_at (nodes k)) (length fields) (children k n)
  leaves_tag n None = false

  module _ (items : ℕ → Item) where
    abbrev pub has_no_others_at : ℕ → Bool
    has_no_others_at n = has_no_others (item_with items (nodes k) n (slice_get (nodes k) n)).statement

    abbrev pub v22_at : NodeKind → ℕ → Bool
    v22_at kind.TagArm n = has_bad_tag n (tags_round n)
    v22_at kind.Tagcase n = has_no_others_at n && leaves_tag n (tags_by k n)
    v22_at _ n = false

    abbrev pub v22 : ℕ → Bool
    v22 n = v22_at (kind_in k n) n
