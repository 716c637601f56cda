-- What the walks over a file show of it.
use Rattle.std.specs.Prelude.{◌≡◌, ◌<◌, ℕ, Bool, List, Option, Some, None, IsTrue, IsFalse, find, length, slice_get}
use Rattle.clu_base.specs.declared.rules.Refused.{Refused}
use Rattle.clu_base.specs.declared.rules.Rule.{Rule}
use Rattle.clu_base.specs.declared.rules.Rule.TheVariants as rule
use Rattle.clu_tree.specs.declared.node.Node.{Node}
use Rattle.clu_tree.specs.declared.node.NodeKind.{NodeKind}
use Rattle.clu_tree.specs.Nodes.{modules}
use Rattle.clu_syntax.specs.Items.{Item}
use Rattle.clu_syntax.specs.Kinds.{kind_at}
use Rattle.clu_syntax.specs.Rounds.{round_at}
use Rattle.clu_types.specs.declared.spec.Spec.{Spec}
use Rattle.clu_name_rules.specs.Closed.{IsClosed, ends_as_named, has_long_name, is_definition}
use Rattle.clu_type_rules.specs.Asked.{rules_of_headings, rules_of_rest}
use Rattle.clu_type_rules.specs.declared.known.Known.{Known}
use Rattle.clu_check_mod.specs.Asking.{RulesAscend, is_violated}
use Rattle.clu_type_rules.specs.Walking.{first_fault, first_of}
use Rattle.clu_check_mod.specs.Modules.{AreOf}
use Rattle.clu_check_mod.specs.declared.rules.Walk.{Walk}
use Rattle.clu_check_mod.specs.declared.rules.Walk.TheVariants as walk
use Rattle.clu_check_mod.specs.declared.walk.Extent.{Extent}
use Rattle.clu_check_mod.specs.declared.walk.Extent.TheVariants as extent

-- what is known of a node that doesn't violate the rule
abbrev pub IsPassed : Node → Rule → Type 0
IsPassed node rule.LiteralRange = IsFalse (has_long_name node)
IsPassed node rule.EndName = IsTrue (is_definition node.kind) → IsTrue (ends_as_named node)
IsPassed node _ = Unit {0}

-- neither V4 nor V34 is violated at the node n, if it is a routine or cluster
abbrev pub IsClosedNode : List Node → ℕ → Type 0
IsClosedNode nodes n = (node : Node) → slice_get nodes n ≡ Some node → IsTrue (is_definition node.kind) → IsClosed node

-- at no routine or cluster
abbrev pub AreClosed : List Node → Type 0
AreClosed nodes = (n : ℕ) → IsClosedNode nodes n

-- what a check finds: one specification for each module, and if it asks the whole file, V4 and V34 are violated at no routine or
-- cluster
abbrev pub IsFound : List Node → Extent → List Spec → Type 0
IsFound nodes asked own = AreOf nodes (modules nodes) own × (asked ≡ extent.Whole → AreClosed nodes)

-- which rules a walk asks at a node of this kind, which belongs to a heading or doesn't
abbrev pub rules_of : Walk → NodeKind → Bool → List Rule
rules_of walk.Headings = rules_of_headings
rules_of walk.Rest = rules_of_rest

module _ (k : Known) (bad : List Bool) (items : ℕ → Item) where
  -- the least rule that the node violates of those that the walk asks there
  abbrev pub fault_at : Walk → ℕ → Option Rule
  fault_at w n = find (is_violated k bad items n) (rules_of w (kind_at k.tables.file.syntax.now n) (round_at k.tables.file.rounds.now n).heading)

  -- the first fault on a walk
  abbrev pub first_on : Walk → Option Refused
  first_on w = first_fault (fault_at w) 0 k.tables.file.syntax.now

  -- of so much of the file
  abbrev pub first_in : Extent → Option Refused
  first_in extent.Headings = first_on walk.Headings
  first_in extent.Whole = first_of (first_on walk.Headings) (first_on walk.Rest)

  -- ---- what the rules on a walk look for by its name ascends, at each node before which the walk finds nothing

  abbrev pub NoneBefore : Walk → ℕ → Type 0
  NoneBefore w n = (m : ℕ) → m < n → fault_at w m ≡ None

  abbrev pub WalkAscends : Walk → Type 0
  WalkAscends w = (n : ℕ) → n < length k.tables.file.syntax.now → NoneBefore w n → RulesAscend k n (rules_of w (kind_at k.tables.file.syntax.now n) (round_at k.tables.file.rounds.now n).heading)

  -- on so much of the file: the rest is gone over if nothing is found in the headings
  abbrev pub WalksAscend : Extent → Type 0
  WalksAscend asked = WalkAscends walk.Headings × (asked ≡ extent.Whole → first_on walk.Headings ≡ None → WalkAscends walk.Rest)
