-- Nodes at which something is lost, so that rules over tables may say there what the definitions don't: a type is refused below the node,
-- or before it in the brackets in which it or its parent stands, or the node is itself no type, constant or name that could be read. So
-- is `cvt`, which has another type at each node that sees it, and what stands over it.
use Rattle.std.specs.Prelude.{ℕ, ◌-◌, ◌&&◌, ◌||◌, if◌then◌else◌, is_some, Bool, true, false, List, [], ◌∷◌, Option, Some, None}
use Rattle.std.specs.List.{list_any, range_with_len}
use Rattle.clu_base.specs.declared.rules.Rule.{Rule}
use Rattle.clu_base.specs.declared.rules.Rule.TheVariants as rule
use Rattle.clu_tree.specs.declared.node.NodeKind.{NodeKind}
use Rattle.clu_tree.specs.declared.node.NodeKind.TheVariants as kind
use Rattle.clu_syntax.specs.declared.words.SimpleType.TheVariants as simple
use Rattle.clu_checking.specs.Files.{File, is_kind, item, parent, parent_of, round}
use Rattle.clu_checking.specs.ConstantRules.{is_word}
use Rattle.clu_checking.specs.Rules.{least, violates}
use Rattle.clu_checking.specs.Refusals.{is_bad_of, is_no_type_at, rules_of_types}

-- the rules of types but those on selectors and actual parameters: where only these are violated the type is known nevertheless
abbrev pub rules_of_values : List Rule
rules_of_values = rule.LiteralRange ∷ rule.UnknownName ∷ rule.CircularEquate ∷ rule.NotConstant ∷ rule.NotType ∷ rule.Real ∷ rule.CvtPlace ∷ []

-- nodes over which `cvt` may stand
abbrev pub holds_cvt : NodeKind → Bool
holds_cvt kind.File = true
holds_cvt kind.Module = true
holds_cvt kind.Cluster = true
holds_cvt kind.Routine = true
holds_cvt kind.Decl = true
holds_cvt kind.Results = true
holds_cvt kind.Signals = true
holds_cvt kind.Exc = true
holds_cvt _ = false

module _ (f : File) where
  abbrev pub is_lost_itself : ℕ → Bool
  is_lost_itself n = is_some (least (violates f (is_bad_of f (rules_of_types f)) n) rules_of_values)

  abbrev pub is_cvt_at : ℕ → Bool
  is_cvt_at n = is_kind f kind.Simple n && is_word simple.Cvt (item f n).type

  -- nothing is known over such a node
  abbrev pub is_gone : ℕ → Bool
  is_gone n = is_no_type_at f n || is_cvt_at n

  -- at or behind the number, or the first node of the Index
  abbrev pub first_in : Option ℕ → ℕ → ℕ
  first_in (Some p) low = if is_kind f kind.Index p then (round f p).first else low
  first_in None low = low

  -- the first node that stands below the node, in the brackets in which it stands, or in those in which its parent does
  abbrev pub first_read : ℕ → ℕ
  first_read n = first_in (parent_of f (parent f n)) (first_in (parent f n) (round f n).first)

  abbrev pub is_lost_before : ℕ → Bool
  is_lost_before n = list_any is_gone (range_with_len (first_read n) (n - first_read n))

  unfoldable pub lost : ℕ → Bool
  lost n = is_lost_before n || is_lost_itself n || is_cvt_at n
