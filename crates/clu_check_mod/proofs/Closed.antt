-- V4 and V34 are violated at no module, if they are violated at no routine or cluster.
use Rattle.std.proofs.Common.{◌≡◌, ◌<◌, ◌≤◌, ◌+◌, ◌-◌, ◌⊎◌, ℕ, zero, suc, List, [], ◌∷◌, ◌++◌, length, take, All, get_or, Option, Some, None, Bool, true, false, refl, sym, ap, ◌∙◌, subst, arith, inl, inr, IfSome, IsTrue, IsFalse}
use Rattle.std.proofs.lemmas.Bool.{cases_lt}
use Rattle.std.proofs.lemmas.List.{take_all, take_more}
use Rattle.std.proofs.lemmas.List.Elements.{All-append}
use Rattle.std.proofs.lemmas.Option.{get_or_from_slice_get, slice_get_within}
use Rattle.std.specs.Prelude.{slice_get, option_and_then}
use Rattle.clu_base.specs.declared.rules.Rule.{Rule}
use Rattle.clu_base.specs.declared.rules.Rule.TheVariants as rule
use Rattle.clu_parser.specs.Shape.{HaveForms}
use Rattle.clu_tree.specs.declared.node.Node.{Node}
use Rattle.clu_tree.specs.declared.node.NodeKind.{NodeKind}
use Rattle.clu_tree.specs.declared.node.NodeKind.TheVariants as k
use Rattle.clu_tree.specs.Nodes.{modules}
use Rattle.clu_syntax.specs.Kinds.{kind_at, kind_of}
use Rattle.clu_syntax.specs.Splits.{last_child}
use Rattle.clu_syntax.proofs.Classes.{defined_kind}
use Rattle.clu_name_rules.specs.Closed.{IsClosed, ends_as_named, has_long_name, is_definition}
use Rattle.clu_type_rules.specs.Asked.{rules_of_rest}
use Rattle.clu_check_mod.specs.Modules.{IsClosedAt, definition_of}
use Rattle.clu_check_mod.specs.declared.rules.Walk.{Walk}
use Rattle.clu_check_mod.specs.declared.rules.Walk.TheVariants as walk
use Rattle.clu_check_mod.specs.Walks.{AreClosed, IsClosedNode, IsPassed, rules_of}
use Rattle.clu_check_mod.proofs.Modules.{IsModule, are_modules}

one_passed : (node : Node) (r : Rule) → (r ≡ rule.LiteralRange → IsFalse (has_long_name node)) → (r ≡ rule.EndName → IsTrue (is_definition node.kind) → IsTrue (ends_as_named node)) → IsPassed node r
one_passed node rule.LiteralRange lengths end = lengths refl
one_passed node rule.EndName lengths end = end refl
one_passed node _ lengths end = tt

alone : (node : Node) (r : Rule) → IsPassed node r → All (IsPassed node) (r ∷ [])
alone node r passed zero d lt = passed
alone node r passed (suc i) d lt = absurd (omega arith)

-- one rule more
pub passed_more : (node : Node) (rules : List Rule) (i : ℕ) (d : Rule) → i < length rules → All (IsPassed node) (take i rules)
    → (get_or rules i d ≡ rule.LiteralRange → IsFalse (has_long_name node)) → (get_or rules i d ≡ rule.EndName → IsTrue (is_definition node.kind) → IsTrue (ends_as_named node)) → All (IsPassed node) (take (i + 1) rules)
passed_more node rules i d lt had lengths end =
    let r : Rule = get_or rules i d in
    subst (λ (xs : List Rule). All (IsPassed node) xs) (sym (take_more rules i d lt)) (All-append (IsPassed node) (take i rules) (r ∷ []) had (alone node r (one_passed node r lengths end)))

-- all of them
pub passed_all : (node : Node) (rules : List Rule) (i : ℕ) → length rules ≤ i → All (IsPassed node) (take i rules) → All (IsPassed node) rules
passed_all node rules i le had = subst (λ (xs : List Rule). All (IsPassed node) xs) (take_all i rules le) had

-- the rules that are asked at a routine and at a cluster
pub closed_routine : (node : Node) (rules : List Rule) → rules ≡ rule.LiteralRange ∷ rule.EndName ∷ rule.RoutineTooLarge ∷ [] → All (IsPassed node) rules → IsTrue (is_definition node.kind) → IsClosed node
closed_routine node rules are passed is =
    let all : All (IsPassed node) (rule.LiteralRange ∷ rule.EndName ∷ rule.RoutineTooLarge ∷ []) = subst (λ rs. All (IsPassed node) rs) are passed in
    record { lengths = all 0 rule.Token (omega arith); end = all 1 rule.Token (omega arith) is }

pub closed_cluster : (node : Node) (rules : List Rule) → rules ≡ rule.LiteralRange ∷ rule.CvtPlace ∷ rule.EndName ∷ rule.RoutineTooLarge ∷ [] → All (IsPassed node) rules → IsTrue (is_definition node.kind) → IsClosed node
closed_cluster node rules are passed is =
    let all : All (IsPassed node) (rule.LiteralRange ∷ rule.CvtPlace ∷ rule.EndName ∷ rule.RoutineTooLarge ∷ []) = subst (λ rs. All (IsPassed node) rs) are passed in
    record { lengths = all 0 rule.Token (omega arith); end = all 2 rule.Token (omega arith) is }

-- so the walk over the rest leaves a node, where it finds nothing
pub closed_node : (nodes : List Node) (n : ℕ) (node : Node) (w : Walk) (in_heading : Bool) (rules : List Rule) → slice_get nodes n ≡ Some node → w ≡ walk.Rest → rules ≡ rules_of w node.kind in_heading → All (IsPassed node) rules → IsClosedNode nodes n
closed_node nodes n node w in_heading rules at rest has passed m found is = let this : node ≡ m = cc in subst IsClosed this (by node.kind refl (subst (λ (x : Node). IsTrue (is_definition x.kind)) (sym this) is))
  where
    are : rules ≡ rules_of_rest node.kind in_heading
    are = has ∙ ap (λ (x : Walk). rules_of x node.kind in_heading) rest

    by : (kind : NodeKind) → node.kind ≡ kind → IsTrue (is_definition kind) → IsClosed node
    by k.Routine e is = closed_routine node rules (are ∙ ap (λ (j : NodeKind). rules_of_rest j in_heading) e) passed (ap is_definition e)
    by k.Cluster e is = closed_cluster node rules (are ∙ ap (λ (j : NodeKind). rules_of_rest j in_heading) e) passed (ap is_definition e)
    by _ e is = cc

-- one node more
pub closed_more : (nodes : List Node) (n : ℕ) → ((m : ℕ) → m < n → IsClosedNode nodes m) → IsClosedNode nodes n → (m : ℕ) → m < n + 1 → IsClosedNode nodes m
closed_more nodes n had this m lt = by (cases_lt m n)
  where
    by : (m < n) ⊎ (n ≤ m) → IsClosedNode nodes m
    by (inl before) = had m before
    by (inr behind) = subst (IsClosedNode nodes) (omega (arith, lt, behind)) this

-- all of them
pub closed_all : (nodes : List Node) (n : ℕ) → length nodes ≤ n → ((m : ℕ) → m < n → IsClosedNode nodes m) → AreClosed nodes
closed_all nodes n le had m node at is = let within : m < length nodes = slice_get_within nodes m node at in had m (omega (arith, le, within)) node at is

is_defined : (kind : NodeKind) → (kind ≡ k.Routine) ⊎ (kind ≡ k.Cluster) → IsTrue (is_definition kind)
is_defined kind (inl e) = ap is_definition e
is_defined kind (inr e) = ap is_definition e

module _ (nodes : List Node) (shaped : HaveForms nodes) (closed : AreClosed nodes) where
  defined : (n c : ℕ) (m : Node) → slice_get nodes n ≡ Some m → m.kind ≡ k.Module → last_child m ≡ c → (o : Option Node) → slice_get nodes c ≡ o → IfSome o IsClosed
  defined n c m at is last None found = tt
  defined n c m at is last (Some d) found =
      let kinds : (kind_at nodes c ≡ k.Routine) ⊎ (kind_at nodes c ≡ k.Cluster) = subst (λ x. (kind_at nodes x ≡ k.Routine) ⊎ (kind_at nodes x ≡ k.Cluster)) last (defined_kind nodes shaped n m at is) in
      let own : (d.kind ≡ k.Routine) ⊎ (d.kind ≡ k.Cluster) = subst (λ (o : Option Node). (kind_of o ≡ k.Routine) ⊎ (kind_of o ≡ k.Cluster)) found kinds in
      closed c d found (is_defined d.kind own)

  child : (n : ℕ) (m : Node) → slice_get nodes n ≡ Some m → m.kind ≡ k.Module → (o : Option ℕ) → slice_get m.children (length m.children - 1) ≡ o → IfSome (option_and_then (slice_get nodes) o) IsClosed
  child n m at is None last = tt
  child n m at is (Some c) last = defined n c m at is (get_or_from_slice_get m.children (length m.children - 1) c 0 last) (slice_get nodes c) refl

  of_module : (n : ℕ) (o : Option Node) → slice_get nodes n ≡ o → kind_of o ≡ k.Module → IfSome (option_and_then (λ (m : Node). option_and_then (slice_get nodes) (slice_get m.children (length m.children - 1))) o) IsClosed
  of_module n None at is = tt
  of_module n (Some m) at is = child n m at is (slice_get m.children (length m.children - 1)) refl

  pub closed_modules : All (IsClosedAt nodes) (modules nodes)
  closed_modules i d lt = let n : ℕ = get_or (modules nodes) i d in of_module n (slice_get nodes n) refl (are_modules nodes i d lt)
