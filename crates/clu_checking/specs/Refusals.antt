-- The refusal of a file: the first node, on the walk over the headings and then on the walk over the rest, at which a rule
-- is violated, with the least such rule.
use Rattle.std.specs.Prelude.{◌≡◌, ℕ, zero, suc, ◌-◌, Bool, true, false, List, [], ◌∷◌, length, filter, slice_get, is_some, not, if◌then◌else◌, Option, Some, None}
use Rattle.std.specs.List.{list_any, range_with_len}
use Rattle.clu_base.specs.declared.rules.Rule.{Rule}
use Rattle.clu_base.specs.declared.rules.Rule.TheVariants as rule
use Rattle.clu_base.specs.declared.rules.Refused.{Refused}
use Rattle.clu_tree.specs.declared.node.Node.{Node}
use Rattle.clu_tree.specs.declared.node.NodeKind.{NodeKind}
use Rattle.clu_tree.specs.declared.node.NodeKind.TheVariants as kind
use Rattle.clu_syntax.specs.declared.round.Round.{Round}
use Rattle.clu_checking.specs.Specifications.{Specification}
use Rattle.clu_checking.specs.Files.{File, plain_file, numbers, kind_in, round, below}
use Rattle.clu_checking.specs.Rules.{violates, all_rules, least}

-- the walk over the headings, and the walk over the rest
pub data Walk : Type 0 where
  headings rest : Walk

-- at the node of a module, routine or cluster the first walk asks of names and exports alone
abbrev pub is_of_names : Rule → Bool
is_of_names rule.DefinedTwice = true
is_of_names rule.ExportMissing = true
is_of_names _ = false

abbrev pub of_definition : Walk → List Rule
of_definition headings = filter is_of_names all_rules
of_definition rest = filter (λ r. not (is_of_names r)) all_rules

abbrev pub of_part : Walk → Bool → List Rule
of_part headings true = all_rules
of_part headings false = []
of_part rest true = []
of_part rest false = all_rules

abbrev pub rules_by : NodeKind → Walk → Bool → List Rule
rules_by kind.Module walk in_heading = of_definition walk
rules_by kind.Routine walk in_heading = of_definition walk
rules_by kind.Cluster walk in_heading = of_definition walk
rules_by _ walk in_heading = of_part walk in_heading

-- a fault at a node
abbrev pub Fault : Type 0
Fault = ℕ × Rule

-- the first of the nodes at which there is a fault
abbrev pub first_among : (ℕ → Option Rule) → List ℕ → Option Fault
first_among fault [] = None
first_among fault (n ∷ ns) = elim (fault n) [ Some r ↦ Some (n, r) | None ↦ first_among fault ns ]

module _ (f : File) where
  -- ---- bad equates: a rule is violated in the right side, where the name of a bad equate violates one

  abbrev pub right_side : ℕ → List ℕ
  right_side e = range_with_len (round f e).first (e - (round f e).first)

  unfoldable pub is_bad_by : List Rule → ℕ → ℕ → Bool
  is_bad_by rules zero e = false
  is_bad_by rules (suc steps) e = list_any (λ n. is_some (least (violates f (is_bad_by rules steps) n) rules)) (right_side e)

  -- by these rules; no chain of equates is longer than there are declarations
  abbrev pub is_bad_of : List Rule → ℕ → Bool
  is_bad_of rules e = is_bad_by rules (length f.scope.declarations) e

  abbrev pub is_bad : ℕ → Bool
  is_bad e = is_bad_of all_rules e

  -- ---- types that are refused where they stand, by rules that ask nothing of the types of names

  abbrev pub rules_of_types : List Rule
  rules_of_types =
      rule.LiteralRange ∷ rule.UnknownName ∷ rule.CircularEquate ∷ rule.NotConstant ∷ rule.NotType ∷ rule.Real ∷ rule.Selectors ∷
      rule.ParameterKind ∷ rule.CvtPlace ∷ []

  abbrev pub is_no_type_at : ℕ → Bool
  is_no_type_at n = is_some (least (violates f (is_bad_of rules_of_types) n) rules_of_types)

  abbrev pub refused_nodes : List ℕ
  refused_nodes = filter is_no_type_at (numbers f.nodes)

  -- ---- the first fault

  abbrev pub rules_asked : Walk → ℕ → List Rule
  rules_asked walk n = rules_by (kind_in f n) walk (round f n).heading

  -- the least rule that the node violates of those that the walk asks there
  abbrev pub fault_at : Walk → ℕ → Option Rule
  fault_at walk n = least (violates f is_bad n) (rules_asked walk n)

  -- nodes come after their children, in the order of the text
  abbrev pub first_on : Walk → Option Fault
  first_on walk = first_among (fault_at walk) (numbers f.nodes)

  abbrev pub first_fault : Option Fault
  first_fault = elim (first_on headings) [ Some fault ↦ Some fault | None ↦ first_on rest ]

  -- ---- as it is told

  abbrev pub refused_by : Rule → Option Node → Option Refused
  refused_by r (Some node) = Some (record { rule = r; place = node.place })
  refused_by r None = None

  abbrev pub refused_at : Option Fault → Option Refused
  refused_at (Some fault) = refused_by fault.1 (slice_get f.nodes fault.0)
  refused_at None = None

  -- the refusal of the file, if there is one
  abbrev pub refusal : Option Refused
  refusal = refused_at first_fault

  -- no rule is violated
  abbrev pub IsAccepted : Type 0
  IsAccepted = refusal ≡ None

  -- the same of the headings alone, by which specifications are entered
  abbrev pub heading_refusal : Option Refused
  heading_refusal = refused_at (first_on headings)

  -- of what stands at or below a node, on the walk that goes over it
  abbrev pub walk_over : ℕ → Walk
  walk_over n = if (round f n).heading then headings else rest

  abbrev pub refusal_below : ℕ → Option Refused
  refusal_below n = refused_at (first_among (fault_at (walk_over n)) (below f n))

  -- and of the heading of one module alone, which is this node
  abbrev pub heading_refusal_of : ℕ → Option Refused
  heading_refusal_of n = refused_at (first_among (fault_at headings) (below f n))

-- the file of a tree
abbrev pub with_refused : File → File
with_refused f = record f { refused = refused_nodes f }

abbrev pub checked_file : List Node → List Round → List Specification → File
checked_file nodes rounds library = with_refused (plain_file nodes rounds library)
