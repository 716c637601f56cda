-- Where nothing is lost at a node no type is refused before it, and so it is at its children; what is refused at a node alone matters to
-- its own value.
use Rattle.std.proofs.Common.{◌≡◌, ◌∙◌, ℕ, ◌-◌, ◌<◌, ◌≤◌, ◌||◌, if◌then◌else◌, Bool, true, false, List, [], ◌∷◌, ◌++◌, length, is_some, Option, Some, None, inl, inr, refl, sym, ap, subst, arith}
use Rattle.std.specs.Prelude.{slice_get}
use Rattle.std.specs.List.{AllByRecursion}
use Rattle.std.proofs.lemmas.Bool.{true≢false, or_parts}
use Rattle.std.proofs.lemmas.Option.{none-some, same_Some}
use Rattle.clu_base.specs.declared.rules.Rule.{Rule}
use Rattle.clu_base.specs.declared.rules.Rule.TheVariants as rule
use Rattle.clu_tree.specs.declared.node.Node.{Node}
use Rattle.clu_tree.specs.declared.node.NodeKind.{NodeKind}
use Rattle.clu_tree.specs.declared.node.NodeKind.TheVariants as kind
use Rattle.clu_syntax.specs.Splits.{is_of}
use Rattle.clu_checking.specs.Files.{File, children, is_kind, kind_in, node_children, parent, parent_of, round}
use Rattle.clu_checking.specs.Rules.{least, violates}
use Rattle.clu_checking.specs.Refusals.{is_bad_of, is_no_type_at, rules_of_types}
use Rattle.clu_declares.proofs.Around.{there}
use Rattle.clu_declares.proofs.Below.{same_kind}
use Rattle.clu_declares.proofs.Parents.{IsIn}
use Rattle.clu_passes.specs.Clear.{IsClear, IsFrom}
use Rattle.clu_passes.specs.Lost.{first_in, first_read, is_cvt_at, is_gone, is_lost_before, is_lost_itself, lost, rules_of_values}
use Rattle.clu_passes.specs.Notes.{HaveParents, has}
use Rattle.clu_passes.specs.Trees.{IsFileOfTree}
use Rattle.clu_passes.proofs.BadEquates.{none_in}
use Rattle.clu_passes.proofs.Chains.{none_ranged}
use Rattle.clu_passes.proofs.CvtPlaces.{parent_told}
use Rattle.clu_passes.proofs.LostRefused.{bad_named, bad_there, circle_there, no_constant, no_type, some_least}
use Rattle.clu_passes.proofs.OfParents.{is_in}
use Rattle.clu_passes.proofs.Subtrees.{is_subtree}
use Rattle.clu_passes.proofs.ValuesKnown.{IsBelow, all_by, child_below}
use Rattle.clu_passes.proofs.WhyLost.{IsOdd, NamesOdd}
use Rattle.clu_passes.proofs.Within.{forest_goes_on}

-- ---- tests

-- ---- lists of rules

module _ (v : Rule → Bool) where
  first_out : (r : Rule) (rs : List Rule) → is_some (least v (r ∷ rs)) ≡ false → is_some (least v rs) ≡ false
  first_out r rs e = by (v r) e
    where
      by : (b : Bool) → is_some (elim b [ true ↦ Some r | false ↦ least v rs ]) ≡ false → is_some (least v rs) ≡ false
      by true e = absurd (true≢false e)
      by false e = e

  behind_both : (rs xs ys : List Rule) → (is_some (least v xs) ≡ false → is_some (least v ys) ≡ false) → is_some (least v (rs ++ xs)) ≡ false → is_some (least v (rs ++ ys)) ≡ false
  behind_both [] xs ys goes e = goes e
  behind_both (r ∷ rs) xs ys goes e = by (v r) e (behind_both rs xs ys goes)
    where
      by : (b : Bool) → is_some (elim b [ true ↦ Some r | false ↦ least v (rs ++ xs) ]) ≡ false → (is_some (least v (rs ++ xs)) ≡ false → is_some (least v (rs ++ ys)) ≡ false) → is_some (elim b [ true ↦ Some r | false ↦ least v (rs ++ ys) ]) ≡ false
      by true e further = e
      by false e further = further e

module _ (f : File) where
  -- where no type is refused at the node nothing is lost by the node itself
  pub plain_itself : (n : ℕ) → is_no_type_at f n ≡ false → is_lost_itself f n ≡ false
  plain_itself n e =
      let v : Rule → Bool = violates f (is_bad_of f (rules_of_types f)) n in
      behind_both v (rule.LiteralRange ∷ rule.UnknownName ∷ rule.CircularEquate ∷ rule.NotConstant ∷ rule.NotType ∷ rule.Real ∷ []) (rule.Selectors ∷ rule.ParameterKind ∷ rule.CvtPlace ∷ []) (rule.CvtPlace ∷ [])
      (λ h. first_out v rule.ParameterKind (rule.CvtPlace ∷ []) (first_out v rule.Selectors (rule.ParameterKind ∷ rule.CvtPlace ∷ []) h)) e

  pub fine_itself : (n : ℕ) → lost f n ≡ false → is_lost_itself f n ≡ false
  unfolding lost
  fine_itself n e = (or_parts (is_lost_before f n) (is_lost_itself f n) (or_parts (is_lost_before f n || is_lost_itself f n) (is_cvt_at f n) e).0).1

  pub no_cvt : (n : ℕ) → lost f n ≡ false → is_cvt_at f n ≡ false
  unfolding lost
  no_cvt n e = (or_parts (is_lost_before f n || is_lost_itself f n) (is_cvt_at f n) e).1

  -- before it nothing is gone
  pub none_gone : (n : ℕ) → lost f n ≡ false → (m : ℕ) → first_read f n ≤ m → m < n → is_gone f m ≡ false
  unfolding lost
  none_gone n e m low less =
      none_in (is_gone f) (first_read f n) (n - first_read f n) (or_parts (is_lost_before f n) (is_lost_itself f n) (or_parts (is_lost_before f n || is_lost_itself f n) (is_cvt_at f n) e).0).0 m low (omega (arith, low, less))

module _ (f : File) (of : IsFileOfTree f) where
  -- ---- a name of a bad or circular equate is lost itself

  pub odd_itself : (n : ℕ) → NamesOdd f of n → is_lost_itself f n ≡ true
  odd_itself n x = by x.why
    where
      by : IsOdd f of x.its.equate → is_lost_itself f n ≡ true
      by (inl circle) = some_least (violates f (is_bad_of f (rules_of_types f)) n) rules_of_values 2 rule.CircularEquate refl (circle_there f of (kind_in f n) n x.right x.its refl circle)
      by (inr bad) = elim (bad_there f of (kind_in f n) n x.right x.its refl (bad_named f of n x.right x.its bad.0 bad.1)) [
        | inl its_type ↦ some_least (violates f (is_bad_of f (rules_of_types f)) n) rules_of_values 4 rule.NotType refl (no_type f of n its_type)
        | inr its_constant ↦ some_least (violates f (is_bad_of f (rules_of_types f)) n) rules_of_values 3 rule.NotConstant refl (no_constant f of n its_constant)
      ]

  module _ (parents : HaveParents f) where
    pub under : (c p : ℕ) → parent f c ≡ Some p → (node : Node) × (slice_get f.nodes p ≡ Some node) × IsIn c node.children
    under c p up = by (slice_get f.nodes p) refl
      where
        by : (o : Option Node) → slice_get f.nodes p ≡ o → (node : Node) × (slice_get f.nodes p ≡ Some node) × IsIn c node.children
        by None at = absurd (true≢false (sym (parents.below p c up) ∙ ap (λ (o : Option Node). has c (node_children f o)) at))
        by (Some node) at = (node, at, is_in c node.children (sym (ap (λ (o : Option Node). has c (node_children f o)) at) ∙ parents.below p c up))

    parent_first : (c p : ℕ) → parent f c ≡ Some p → (round f p).first ≤ (round f c).first
    parent_first c p up = let x = under c p up in (child_below f of p x.0 x.1 c x.2).first

    -- ---- the first node that is read

    at_most : (o : Option ℕ) (low : ℕ) → ((p : ℕ) → o ≡ Some p → (round f p).first ≤ low) → first_in f o low ≤ low
    at_most None low before = omega arith
    at_most (Some p) low before = by (is_kind f kind.Index p)
      where
        by : (b : Bool) → (if b then (round f p).first else low) ≤ low
        by true = before p refl
        by false = omega arith

    of_index : (o : Option ℕ) (low p : ℕ) → o ≡ Some p → kind_in f p ≡ kind.Index → first_in f o low ≡ (round f p).first
    of_index o low p e is = ap (λ (o : Option ℕ). first_in f o low) e ∙ ap (λ (k : NodeKind). if is_of kind.Index k then (round f p).first else low) is

    module _ (n : ℕ) where
      abbrev inner : ℕ
      inner = first_in f (parent f n) (round f n).first

      above_inner : (o : Option ℕ) → parent f n ≡ o → (q : ℕ) → parent_of f o ≡ Some q → (round f q).first ≤ first_in f o (round f n).first
      above_inner None up q e = absurd (none-some q e)
      above_inner (Some p) up q e = by (is_kind f kind.Index p)
        where
          by : (b : Bool) → (round f q).first ≤ (if b then (round f p).first else (round f n).first)
          by true = parent_first p q e
          by false =
              let outer : (round f q).first ≤ (round f p).first = parent_first p q e in
              let own : (round f p).first ≤ (round f n).first = parent_first n p up in
              omega (arith, outer, own)

      from_first : IsFrom f (first_read f n) n
      from_first =
          let own : inner ≤ (round f n).first = at_most (parent f n) (round f n).first (λ p e. parent_first n p e) in
          let least : first_read f n ≤ inner = at_most (parent_of f (parent f n)) inner (λ q e. above_inner (parent f n) refl q e) in
          record {
            own = omega (arith, own, least);
            brackets = λ p up is. let same : inner ≡ (round f p).first = of_index (parent f n) (round f n).first p up is in omega (arith, same, least);
            above = λ p q up over is.
                let same : first_read f n ≡ (round f q).first = of_index (parent_of f (parent f n)) inner q (ap (parent_of f) up ∙ over) is in
                omega (arith, same);
          }

      -- nothing begins later
      module _ (low : ℕ) (from : IsFrom f low n) where
        inner_from : (o : Option ℕ) → parent f n ≡ o → low ≤ first_in f o (round f n).first
        inner_from None up = from.own
        inner_from (Some p) up = by (is_kind f kind.Index p) refl
          where
            by : (b : Bool) → is_kind f kind.Index p ≡ b → low ≤ (if b then (round f p).first else (round f n).first)
            by true hit = from.brackets p up (same_kind kind.Index (kind_in f p) hit)
            by false hit = from.own

        outer_from : (o q : Option ℕ) → parent f n ≡ o → parent_of f o ≡ q → low ≤ first_in f q inner
        outer_from o None up over = inner_from (parent f n) refl
        outer_from None (Some q) up over = absurd (none-some q over)
        outer_from (Some p) (Some q) up over = by (is_kind f kind.Index q) refl
          where
            by : (b : Bool) → is_kind f kind.Index q ≡ b → low ≤ (if b then (round f q).first else inner)
            by true hit = from.above p q up over (same_kind kind.Index (kind_in f q) hit)
            by false hit = inner_from (parent f n) refl

        pub not_later : low ≤ first_read f n
        not_later = outer_from (parent f n) (parent_of f (parent f n)) refl refl

    -- ---- nothing is lost at a node just if nothing is gone before it, nor by itself its value

    pub clear_there : (n : ℕ) → lost f n ≡ false → IsClear f n
    clear_there n e = record { low = first_read f n; from = from_first n; clear = λ m low less. (or_parts (is_no_type_at f m) (is_cvt_at f m) (none_gone f n e m low less)).0 }

    pub not_lost : (n : ℕ) → ((m : ℕ) → first_read f n ≤ m → m < n → is_gone f m ≡ false) → is_lost_itself f n ≡ false → is_cvt_at f n ≡ false → lost f n ≡ false
    unfolding lost
    not_lost n none itself cvt =
        ap (λ (b : Bool). b || is_lost_itself f n || is_cvt_at f n)
        (none_ranged (is_gone f) (first_read f n) (n - first_read f n) (λ m low less. none m low (omega (arith, low, less))))
        ∙ ap (λ (b : Bool). b || is_cvt_at f n) itself
        ∙ cvt

    -- where no type is refused before a node, and no `cvt` stands at it nor there
    pub clear_kept : (n : ℕ) → n < length f.nodes → IsClear f n → ((m : ℕ) → first_read f n ≤ m → m ≤ n → is_cvt_at f m ≡ false) → is_lost_itself f n ≡ false → lost f n ≡ false
    clear_kept n inside clear plain itself =
        let x = there f.nodes n inside in
        let begins : clear.low ≤ first_read f n = not_later n clear.low clear.from in
        let own : (round f n).first ≤ n = forest_goes_on f.nodes (round f n).first n x.0.children (is_subtree f.nodes f.rounds of.tree of.surrounded of.ordered n x.0 x.1) in
        let least : first_read f n ≤ (round f n).first = (from_first n).own in
        not_lost n
        (λ m low less. ap (λ (b : Bool). b || is_cvt_at f m) (clear.clear m (omega (arith, low, begins)) less) ∙ plain m low (omega (arith, less)))
        itself (plain n (omega (arith, own, least)) (omega arith))

    -- so it is at each child
    module _ (n : ℕ) (e : lost f n ≡ false) (node : Node) (at : slice_get f.nodes n ≡ Some node) (c : ℕ) (i : IsIn c node.children) where
      abbrev b : IsBelow f of n c
      b = child_below f of n node at c i

      child_from : IsFrom f (first_read f n) c
      child_from =
          let its : parent f c ≡ Some n = parent_told f of c (record { parent = n; node = node; at = at; child = i }) in
          let from : IsFrom f (first_read f n) n = from_first n in
          let own : first_read f n ≤ (round f n).first = from.own in
          let first : (round f n).first ≤ (round f c).first = b.first in
          record {
            own = omega (arith, own, first);
            brackets = λ p up is. subst (λ (m : ℕ). first_read f n ≤ (round f m).first) (same_Some n p (sym its ∙ up)) own;
            above = λ p q up over is. from.brackets q (ap (parent f) (same_Some n p (sym its ∙ up)) ∙ over) is;
          }

      child_kept : lost f c ≡ false
      child_kept =
          let own : first_read f n ≤ (round f n).first = (from_first n).own in
          let least : (round f n).first ≤ c = b.least in
          let less : c < n = b.less in
          let begins : first_read f n ≤ first_read f c = not_later c (first_read f n) child_from in
          let itself : is_gone f c ≡ false = none_gone f n e c (omega (arith, own, least)) less in
          not_lost c (λ m low before. none_gone f n e m (omega (arith, begins, low)) (omega (arith, before, less)))
          (plain_itself f c (or_parts (is_no_type_at f c) (is_cvt_at f c) itself).0) (or_parts (is_no_type_at f c) (is_cvt_at f c) itself).1

    pub lost_below : (n : ℕ) → lost f n ≡ false → AllByRecursion (λ c. lost f c ≡ false) (children f n)
    lost_below n e = by (slice_get f.nodes n) refl
      where
        by : (o : Option Node) → slice_get f.nodes n ≡ o → AllByRecursion (λ (c : ℕ). lost f c ≡ false) (node_children f o)
        by None at = tt
        by (Some node) at = all_by (λ (c : ℕ). lost f c ≡ false) node.children (λ c i. child_kept n e node at c i)
