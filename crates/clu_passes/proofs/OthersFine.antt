-- At what stands in no brackets and before which its walk finds no fault: where no type is refused.
use Rattle.std.proofs.Common.{◌≡◌, ◌∙◌, ◌⊎◌, ℕ, zero, suc, ◌+◌, ◌<◌, ◌≤◌, ◌||◌, Bool, true, false, List, [], ◌∷◌, length, is_some, Option, Some, None, inl, inr, refl, sym, ap, subst, arith}
use Rattle.std.specs.Prelude.{slice_get}
use Rattle.std.specs.List.{AllByRecursion, list_any, range_with_len}
use Rattle.std.proofs.lemmas.Bool.{true≢false, cases_lt, or_parts}
use Rattle.std.proofs.lemmas.Option.{none-some, same_Some, slice_get_within}
use Rattle.clu_base.specs.declared.rules.Rule.{Rule}
use Rattle.clu_base.specs.declared.rules.Rule.TheVariants as rule
use Rattle.clu_tree.specs.declared.node.Node.{Node}
use Rattle.clu_tree.specs.declared.node.NodeKind.{NodeKind}
use Rattle.clu_tree.specs.declared.node.NodeKind.TheVariants as kind
use Rattle.clu_syntax.specs.Kinds.{is_expression, is_type, kind_of}
use Rattle.clu_checking.specs.Files.{File, kind_in, node_children, parent, round}
use Rattle.clu_checking.specs.Rules.{all_rules, least, violates}
use Rattle.clu_checking.specs.Refusals.{Fault, Walk, fault_at, first_among, first_on, headings, is_bad_of, is_no_type_at, rest, rules_of_types}
use Rattle.clu_declares.proofs.Parents.{IsIn, of_all}
use Rattle.clu_type_rules.specs.Asked.{is_asked}
use Rattle.clu_passes.specs.Clear.{IsFrom, IsClear, IsOutside}
use Rattle.clu_passes.specs.Losing.{is_plain, walk_of}
use Rattle.clu_passes.specs.Notes.{HaveParents, has}
use Rattle.clu_passes.specs.Right.{IsFirst}
use Rattle.clu_passes.specs.Trees.{IsFileOfTree, is_of_constant}
use Rattle.clu_passes.proofs.ByKinds.{not_elsewhere}
use Rattle.clu_passes.proofs.InEquates.{children_pass}
use Rattle.clu_passes.proofs.OfParents.{is_in}
use Rattle.clu_passes.proofs.RefusedBelow.{walk_same}
use Rattle.clu_passes.proofs.RefusedFaults.{refused_faulty}

-- ---- kinds

pub no_constant : (k : NodeKind) → is_of_constant k ≡ false → (is_expression k || is_type k) ≡ false
no_constant kind.FieldE e = absurd (true≢false e)
no_constant kind.FieldT e = absurd (true≢false e)
no_constant kind.Results e = absurd (true≢false e)
no_constant kind.Signals e = absurd (true≢false e)
no_constant kind.Exc e = absurd (true≢false e)
no_constant kind.TypeSet e = absurd (true≢false e)
no_constant kind.Oper e = absurd (true≢false e)
no_constant kind.Equate e = absurd (true≢false e)
no_constant kind.File e = e
no_constant _ e = e

pub no_type : (k : NodeKind) → is_of_constant k ≡ false → is_type k ≡ false
no_type k e = (or_parts (is_expression k) (is_type k) (no_constant k e)).1

-- ---- the first that is found

none_from : (fault : ℕ → Option Rule) (len a : ℕ) → first_among fault (range_with_len a len) ≡ None → (m : ℕ) → a ≤ m → m < a + len → fault m ≡ None
none_from fault zero a e m low high = absurd (omega (arith, low, high))
none_from fault (suc len) a e m low high = by (fault a) refl e (λ later more. none_from fault len (a + 1) later m more (omega (arith, high)))
  where
    by : (o : Option Rule) → fault a ≡ o → ◌≡◌ {A = Option Fault} (elim o [ Some r ↦ Some (a, r) | None ↦ first_among fault (range_with_len (a + 1) len) ]) None → (first_among fault (range_with_len (a + 1) len) ≡ None → a + 1 ≤ m → fault m ≡ None) → fault m ≡ None
    by None is e goes = elim (cases_lt a m) [
      | inl more ↦ goes e (omega (arith, more))
      | inr back ↦ let same : a ≡ m = omega (arith, low, back) in ap fault (sym same) ∙ is
    ]
    by (Some r) is e goes = absurd (none-some (a, r) (sym e))

-- ---- none of some rules is violated

pub none_least : (violated : Rule → Bool) (rs : List Rule) → AllByRecursion (λ (r : Rule). violated r ≡ false) rs → least violated rs ≡ None
none_least violated [] all = refl
none_least violated (r ∷ rs) all =
    ap (λ (b : Bool). elim b [ true ↦ Some r | false ↦ least violated rs ]) all.0 ∙ none_least violated rs all.1

-- and so none of them
pub least_none : (violated : Rule → Bool) (rs : List Rule) (i : ℕ) (r : Rule) → slice_get rs i ≡ Some r → least violated rs ≡ None → violated r ≡ false
least_none violated [] i r at none = absurd (none-some r at)
least_none violated (x ∷ rs) zero r at none = by (violated x) refl none
  where
    by : (b : Bool) → violated x ≡ b → ◌≡◌ {A = Option Rule} (elim b [ true ↦ Some x | false ↦ least violated rs ]) None → violated r ≡ false
    by true is e = absurd (none-some x (sym e))
    by false is e = ap violated (sym (same_Some x r at)) ∙ is
least_none violated (x ∷ rs) (suc i) r at none = by (violated x) none (least_none violated rs i r at)
  where
    by : (b : Bool) → ◌≡◌ {A = Option Rule} (elim b [ true ↦ Some x | false ↦ least violated rs ]) None → (least violated rs ≡ None → violated r ≡ false) → violated r ≡ false
    by true e goes = absurd (none-some x (sym e))
    by false e goes = goes e

-- ---- at what kinds of nodes

-- rules by which types are refused, but for those of names
abbrev pub of_values : List Rule
of_values = rule.CircularEquate ∷ rule.NotConstant ∷ rule.NotType ∷ rule.Real ∷ rule.Selectors ∷ rule.ParameterKind ∷ rule.CvtPlace ∷ []

-- one of them is asked
abbrev pub asks_values : NodeKind → Bool
asks_values k = list_any (is_asked k) of_values

module _ (f : File) (of : IsFileOfTree f) (parents : HaveParents f) where
  -- ---- in no brackets

  child_there : (n p : ℕ) → parent f n ≡ Some p → is_of_constant (kind_in f p) ≡ true → is_of_constant (kind_in f n) ≡ true
  child_there n p up const = by (slice_get f.nodes p) refl
    where
      by : (o : Option Node) → slice_get f.nodes p ≡ o → is_of_constant (kind_in f n) ≡ true
      by None at = absurd (true≢false (sym (parents.below p n up) ∙ ap (λ (o : Option Node). has n (node_children f o)) at))
      by (Some node) at =
          of_all (λ (c : ℕ). is_of_constant (kind_in f c) ≡ true) n node.children
          (children_pass f.nodes of.shaped p node at (sym (ap (λ (o : Option Node). is_of_constant (kind_of o)) at) ∙ const))
          (is_in n node.children (sym (ap (λ (o : Option Node). has n (node_children f o)) at) ∙ parents.below p n up))

  -- what is no constant stands in no constant
  pub no_constant_round : (n p : ℕ) → is_of_constant (kind_in f n) ≡ false → parent f n ≡ Some p → (b : Bool) → is_of_constant (kind_in f p) ≡ b → is_of_constant (kind_in f p) ≡ false
  no_constant_round n p apart up true is = absurd (true≢false (sym (child_there n p up is) ∙ apart))
  no_constant_round n p apart up false is = is

  not_index : (p : ℕ) → is_of_constant (kind_in f p) ≡ false → kind_in f p ≡ kind.Index → ⊥
  not_index p apart is = true≢false (sym (ap is_of_constant is) ∙ apart)

  pub outside_of : (n : ℕ) → is_of_constant (kind_in f n) ≡ false → IsOutside f n
  outside_of n apart = record {
    beside = λ p up is. not_index p (no_constant_round n p apart up (is_of_constant (kind_in f p)) refl) is;
    above = λ p q up over is.
        let its : is_of_constant (kind_in f p) ≡ false = no_constant_round n p apart up (is_of_constant (kind_in f p)) refl in
        not_index q (no_constant_round p q its over (is_of_constant (kind_in f q)) refl) is;
  }

  -- ---- by rules of types

  none_violated : (n : ℕ) (rs : List Rule) → list_any (is_asked (kind_in f n)) rs ≡ false → AllByRecursion (λ (r : Rule). violates f (is_bad_of f (rules_of_types f)) n r ≡ false) rs
  none_violated n [] none = tt
  none_violated n (r ∷ rs) none = (
    not_elsewhere f of (is_bad_of f (rules_of_types f)) n r (or_parts (is_asked (kind_in f n) r) (list_any (is_asked (kind_in f n)) rs) none).0,
    none_violated n rs (or_parts (is_asked (kind_in f n) r) (list_any (is_asked (kind_in f n)) rs) none).1,
  )

  -- where no name of it is refused
  pub fine_here : (n : ℕ) (k : NodeKind) → kind_in f n ≡ k → asks_values k ≡ false → violates f (is_bad_of f (rules_of_types f)) n rule.LiteralRange ≡ false → violates f (is_bad_of f (rules_of_types f)) n rule.UnknownName ≡ false → is_no_type_at f n ≡ false
  fine_here n k is asks range known =
      ap is_some
      (none_least (violates f (is_bad_of f (rules_of_types f)) n) (rules_of_types f)
      (range, (known, none_violated n of_values (ap asks_values is ∙ asks))))

  -- ---- before the node

  no_fault : (m : ℕ) → fault_at f (walk_of f m) m ≡ None → is_no_type_at f m ≡ false
  no_fault m none = by (is_no_type_at f m) refl
    where
      by : (b : Bool) → is_no_type_at f m ≡ b → is_no_type_at f m ≡ false
      by true hit = absurd (true≢false (sym (refused_faulty f m hit) ∙ ap is_some none))
      by false miss = miss

  module _ (n : ℕ) (first : IsFirst f n) where
    fine_with : (m : ℕ) → m < n → walk_of f m ≡ walk_of f n → is_no_type_at f m ≡ false
    fine_with m less same = no_fault m (ap (λ (w : Walk). fault_at f w m) same ∙ first.before m less)

    -- below it
    pub fine_below : (node : Node) → slice_get f.nodes n ≡ Some node → is_plain node.kind ≡ true → (m : ℕ) → (round f n).first ≤ m → m < n → is_no_type_at f m ≡ false
    fine_below node at plain m low less = fine_with m less (walk_same f of n node at plain m low less)

    pub is_clear : (node : Node) → slice_get f.nodes n ≡ Some node → is_plain node.kind ≡ true → is_of_constant (kind_in f n) ≡ false → IsClear f n
    is_clear node at plain apart =
        let outside : IsOutside f n = outside_of n apart in
        record {
          low = (round f n).first;
          from = record {
            own = omega arith;
            brackets = λ p up is. absurd (outside.beside p up is);
            above = λ p q up over is. absurd (outside.above p q up over is);
          };
          clear = fine_below node at plain;
        }

    -- if it is no part of a heading
    module _ (in_rest : walk_of f n ≡ rest) where
      in_headings : (m : ℕ) → m < length f.nodes → walk_of f m ≡ headings → is_no_type_at f m ≡ false
      in_headings m inside is =
          no_fault m (ap (λ (w : Walk). fault_at f w m) is ∙ none_from (fault_at f headings) (length f.nodes) 0 (first.headed in_rest) m (omega arith) (omega (arith, inside)))

      pub fine_before : (m : ℕ) → m < length f.nodes → m < n → is_no_type_at f m ≡ false
      fine_before m inside less = by (walk_of f m) refl
        where
          by : (w : Walk) → walk_of f m ≡ w → is_no_type_at f m ≡ false
          by headings is = in_headings m inside is
          by rest is = fine_with m less (is ∙ sym in_rest)

      -- or in a heading
      pub fine_seen : (t : ℕ) → t < length f.nodes → ((m : ℕ) → (round f t).first ≤ m → m ≤ t → (m < n) ⊎ (walk_of f m ≡ headings)) → (m : ℕ) → (round f t).first ≤ m → m ≤ t → is_no_type_at f m ≡ false
      fine_seen t inside placed m low high = elim (placed m low high) [
        | inl less ↦ fine_before m (omega (arith, high, inside)) less
        | inr headed ↦ in_headings m (omega (arith, high, inside)) headed
      ]
