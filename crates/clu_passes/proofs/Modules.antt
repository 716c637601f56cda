-- V34 and V35 by nodes.
use Rattle.std.proofs.Common.{◌≡◌, ◌∙◌, ℕ, ◌+◌, ◌-◌, ◌<◌, nat_lt, Bool, true, false, ◌&&◌, ◌||◌, not, if◌then◌else◌, List, [], ◌∷◌, length, map, fold, filter, slice_get, bytes_eq, Option, Some, None, refl, sym, ap, arith}
use Rattle.std.proofs.lemmas.Bool.{true≢false}
use Rattle.std.proofs.lemmas.Option.{slice_get-get_or}
use Rattle.clu_tree.specs.declared.node.Node.{Node}
use Rattle.clu_tree.specs.declared.node.NodeKind.{NodeKind}
use Rattle.clu_tree.specs.declared.node.NodeKind.TheVariants as kind
use Rattle.clu_syntax.specs.Kinds.{kind_of, kind_at}
use Rattle.clu_syntax.specs.Splits.{is_of, name_at, first_name, last_name, children_of}
use Rattle.clu_syntax.specs.Syntax.{Identifier}
use Rattle.clu_checking.specs.Files.{File, is_kind, children, node_names}
use Rattle.clu_checking.specs.ModuleRules as rules_of
use Rattle.clu_checking.specs.ModuleRules.{v34, v35}
use Rattle.clu_head.specs.There.{is_there}
use Rattle.clu_name_rules.specs.Closed.{same_names, ends_as_named, is_definition}
use Rattle.clu_name_rules.specs.ModuleRules.{is_ended_otherwise, count_at, own_count, count_owns, size_of, is_too_large}
use Rattle.clu_passes.proofs.AtNodes.{kids_are}
use Rattle.clu_passes.proofs.OwnPlaces.{there_is}

-- ---- V34

definition_is : (k : NodeKind) → (is_of kind.Routine k || is_of kind.Cluster k) ≡ is_definition k
definition_is kind.Routine = refl
definition_is kind.Cluster = refl
definition_is _ = refl

both_some : (a b : Identifier) (o : Option Identifier) → o ≡ Some b → bytes_eq a b ≡ same_names (Some a) o
both_some a b o is = ap (λ (p : Option Identifier). same_names (Some a) p) (sym is)

ends_same : (names : List Identifier) → bytes_eq (first_name names) (last_name names) ≡ same_names (slice_get names 0) (slice_get names (length names - 1))
ends_same [] = refl
ends_same (name ∷ names) =
    both_some name (name_at (length (name ∷ names) - 1) (name ∷ names)) (slice_get (name ∷ names) (length (name ∷ names) - 1))
    (slice_get-get_or (name ∷ names) (length (name ∷ names) - 1) [] (omega arith))

pub v34_is : (f : File) (n : ℕ) → v34 f n ≡ is_ended_otherwise (slice_get f.nodes n)
v34_is f n = by (slice_get f.nodes n)
  where
    by : (o : Option Node) → ((is_of kind.Routine (kind_of o) || is_of kind.Cluster (kind_of o)) && not (bytes_eq (first_name (node_names f o)) (last_name (node_names f o)))) ≡ is_ended_otherwise o
    by None = refl
    by (Some node) =
        ap (λ (b : Bool). b && not (bytes_eq (first_name node.names) (last_name node.names))) (definition_is node.kind)
        ∙ ap (λ (b : Bool). is_definition node.kind && not b) (ends_same node.names)

-- ---- V35

module _ (f : File) where
  abbrev its : List ℕ → List ℕ
  its cs = map (rules_of.count_at f) (filter (is_kind f kind.Own) cs)

  sum_is : (cs : List ℕ) (so_far : ℕ) → fold (λ a b. a + b) so_far (its cs) ≡ so_far + count_owns f.nodes cs
  sum_is [] so_far = omega arith
  sum_is (c ∷ cs) so_far = by (sum_is cs) (is_kind f kind.Own c) (is_there kind.Own (slice_get f.nodes c)) (there_is kind.Own refl (slice_get f.nodes c))
    where
      by : ((k : ℕ) → fold (λ a b. a + b) k (its cs) ≡ k + count_owns f.nodes cs) → (a b : Bool) → a ≡ b →
          fold (λ a b. a + b) so_far (map (rules_of.count_at f) (if a then c ∷ filter (is_kind f kind.Own) cs else filter (is_kind f kind.Own) cs)) ≡ so_far + ((if b then count_at f.nodes c else 0) + count_owns f.nodes cs)
      by rest true true e = rest (so_far + count_at f.nodes c) ∙ omega arith
      by rest false false e = rest so_far ∙ omega arith
      by rest true false e = absurd (true≢false e)
      by rest false true e = absurd (true≢false (sym e))

  size_is : (k : NodeKind) (n : ℕ) → rules_of.size_of f k n ≡ size_of f.nodes k n
  size_is kind.Routine n = refl
  size_is kind.Cluster n = sum_is (children f n) 0 ∙ ap (λ (cs : List ℕ). 0 + count_owns f.nodes cs) (sym (kids_are f n)) ∙ omega arith
  size_is _ n = refl

  pub v35_is : (n : ℕ) → v35 f n ≡ is_too_large f.nodes (kind_at f.nodes n) n
  v35_is n = ap (nat_lt 4000) (size_is (kind_at f.nodes n) n)
