-- How a file that is checked is told, and what comes of it.
use Rattle.std.specs.Prelude.{◌≡◌, ℕ, zero, suc, List, [], length, replicate, slice_get, Option, Some, None}
use Rattle.std.specs.Fmt.{digits}
use Rattle.clu_base.specs.declared.rules.Rule.{Rule}
use Rattle.clu_tree.specs.declared.node.Node.{Node}
use Rattle.clu_tree.specs.declared.node.NodeKind.{NodeKind}
use Rattle.clu_syntax.specs.declared.round.Round.{Round}
use Rattle.clu_syntax.specs.Bodies.{after_heads, last_of_items, last_of_body}
use Rattle.clu_syntax.specs.Splits.{leading, leading_types, leading_items, leading_before}
use Rattle.clu_syntax.specs.Words.{are_digits}
use Rattle.clu_syntax.specs.Nodes.{item_to}
use Rattle.clu_syntax.specs.Rounds.{rounds_in, set_all, rounds_of, round_at, outside}
use Rattle.clu_names.specs.Scopes.{declared_to}
use Rattle.clu_literal.specs.Literal.{with_byte}
use Rattle.clu_layout.specs.Computing.{computing}
use Rattle.clu_meaning.specs.Settling.{unfolded_to}
use Rattle.clu_checking.specs.Specifications.{Specification}
use Rattle.clu_checking.specs.Equates.{leads_far, can_go_on, leads_to_cvt, set_in}
use Rattle.clu_checking.specs.Refusals.{is_bad_by, checked_file, refusal}

-- a node: its kind, its place, its first and last token, its children, names and value, and the token of the value
abbrev pub n : NodeKind → ℕ → ℕ → ℕ → ℕ → List ℕ → List (List ℕ) → List ℕ → Option ℕ → Node
n kind line col first last children names value token = record { kind = kind; place = record { line = line; col = col }; first = first; last = last; children = children; names = names; value = value; value_token = token }

-- what surrounds the nodes: each says it of its children, from the last one down
abbrev pub with_children : List Node → ℕ → Option Node → List Round → List Round
with_children nodes k (Some node) rounds = set_all rounds node.children (rounds_of nodes k node (round_at rounds k))
with_children nodes k None rounds = rounds

abbrev pub rounds_from : List Node → ℕ → List Round → List Round
rounds_from nodes zero rounds = rounds
rounds_from nodes (suc k) rounds = rounds_from nodes k (with_children nodes k (slice_get nodes k) rounds)

abbrev pub surroundings : List Node → List Round
surroundings nodes = rounds_from nodes (length nodes) (replicate (length nodes) outside)

-- a file under these specifications is refused by this rule at this place, or accepted
abbrev pub IsRefusedUnder : List Specification → List Node → Rule → ℕ → ℕ → Type 0
IsRefusedUnder library nodes rule line col = refusal (checked_file nodes (surroundings nodes) library) ≡ Some (record { rule = rule; place = record { line = line; col = col } })

abbrev pub IsFineUnder : List Specification → List Node → Type 0
IsFineUnder library nodes = refusal (checked_file nodes (surroundings nodes) library) ≡ None

-- the same without a library
abbrev pub IsRefused : List Node → Rule → ℕ → ℕ → Type 0
IsRefused nodes rule line col = IsRefusedUnder [] nodes rule line col

abbrev pub IsFine : List Node → Type 0
IsFine nodes = IsFineUnder [] nodes

-- all that doesn't unfold by itself
unfoldable pub checking : Unit {0}
unfolding after_heads last_of_items last_of_body leading leading_types leading_items leading_before are_digits item_to rounds_in set_all declared_to with_byte computing unfolded_to leads_far can_go_on leads_to_cvt set_in is_bad_by digits
checking = tt
