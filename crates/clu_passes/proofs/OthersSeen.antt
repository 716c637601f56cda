-- Of what a rule reads at a statement, or at what else stands in routines and clusters, nothing is lost, if its walk finds no fault
-- before it.
use Rattle.std.proofs.Common.{◌≡◌, ◌∙◌, ℕ, ◌<◌, ◌≤◌, Bool, true, false, List, [], ◌∷◌, length, Option, Some, inl, inr, refl, sym, ap, subst, arith}
use Rattle.std.specs.Prelude.{slice_get}
use Rattle.std.specs.List.{AllByRecursion}
use Rattle.std.proofs.lemmas.Bool.{true≢false, cases_lt, and_parts}
use Rattle.std.proofs.lemmas.Option.{slice_get_within}
use Rattle.clu_base.specs.declared.rules.Rule.{Rule}
use Rattle.clu_base.specs.declared.rules.Rule.TheVariants as rule
use Rattle.clu_tree.specs.declared.node.Node.{Node}
use Rattle.clu_tree.specs.declared.node.NodeKind.{NodeKind}
use Rattle.clu_tree.specs.declared.node.NodeKind.TheVariants as kind
use Rattle.clu_syntax.specs.declared.words.SimpleType.TheVariants as simple
use Rattle.clu_syntax.specs.Kinds.{kind_of}
use Rattle.clu_syntax.specs.Syntax.{Identifier}
use Rattle.clu_names.specs.declared.binding.Names.{Names}
use Rattle.clu_checking.specs.Files.{File, children, is_kind, item, kind_in, parent, round}
use Rattle.clu_checking.specs.NameRules.{v4, v5}
use Rattle.clu_checking.specs.ConstantRules.{is_of_heading, is_word, v31}
use Rattle.clu_checking.specs.Rules.{violates}
use Rattle.clu_checking.specs.Refusals.{is_bad, is_bad_of, is_no_type_at, rest, rules_of_types}
use Rattle.clu_bindings.specs.declared.meaning.Meaning.{Meaning}
use Rattle.clu_bindings.specs.declared.meaning.Meaning.TheVariants as meant
use Rattle.clu_declares.proofs.Around.{there}
use Rattle.clu_declares.proofs.Below.{same_kind}
use Rattle.clu_declares.proofs.Facts as facts
use Rattle.clu_declares.proofs.Facts.{There}
use Rattle.clu_type_rules.specs.declared.known.Known.{Known}
use Rattle.clu_type_rules.specs.Asked.{is_asked}
use Rattle.clu_type_rules.specs.Known as its_known
use Rattle.clu_type_rules.specs.Bindings.{meanings}
use Rattle.clu_type_rules.specs.ExceptionRules.{arm_declarations, exception_named}
use Rattle.clu_type_rules.specs.Objects.{names}
use Rattle.clu_type_rules.specs.StatementRules.{results_round}
use Rattle.clu_passes.specs.Bound.{IsArmKnown, IsExceptionKnown, IsFirstKnown, IsVariableKnown, is_assigning}
use Rattle.clu_passes.specs.Clear.{IsClear, IsOutside}
use Rattle.clu_passes.specs.FactTables.{IsResultKnown}
use Rattle.clu_passes.specs.Losing.{is_plain, walk_of}
use Rattle.clu_passes.specs.Lost.{is_cvt_at}
use Rattle.clu_passes.specs.Notes.{HaveParents}
use Rattle.clu_passes.specs.OthersKnown.{AreOthersKnown, ArePlaced, IsArmDecl, IsArmType, IsBare, IsFine, IsTypeFine, IsTypeSeen, IsVariableSeen, is_in_headings}
use Rattle.clu_passes.specs.Refusing.{IsOrder}
use Rattle.clu_passes.specs.Right.{IsFirst}
use Rattle.clu_passes.specs.Trees.{IsFileOfTree, is_of_constant}
use Rattle.clu_passes.proofs.ByKinds.{not_elsewhere}
use Rattle.clu_passes.proofs.CvtPlaces.{misplaced_at}
use Rattle.clu_passes.proofs.LostRefused.{refused_by}
use Rattle.clu_passes.proofs.OthersArms.{decl_fine}
use Rattle.clu_passes.proofs.OthersFine.{asks_values, fine_before, fine_below, fine_here, fine_seen, is_clear, outside_of}
use Rattle.clu_passes.proofs.OthersFirsts.{IsNodeSeen, first_seen}
use Rattle.clu_passes.proofs.OthersRounds.{bare_below, headed, in_rest, no_part_bare}
use Rattle.clu_passes.proofs.Subtrees.{is_subtree}
use Rattle.clu_passes.proofs.Within.{forest_goes_on}

module _ (f : File) (of : IsFileOfTree f) (parents : HaveParents f) (k : Known) (lost : ℕ → Bool) (known : AreOthersKnown f k lost) (placed : ArePlaced f k)
    (n : ℕ) (inside : n < length f.nodes) (plain : is_plain (kind_in f n) ≡ true) (apart : is_of_constant (kind_in f n) ≡ false) (first : IsFirst f n) where
  record HasNode : Type 0 where
    node : Node
    at : slice_get f.nodes n ≡ Some node
    its_plain : is_plain node.kind ≡ true

  has_node : HasNode
  has_node = let m = there f.nodes n inside in record { node = m.0; at = m.1; its_plain = sym (ap (λ (o : Option Node). is_plain (kind_of o)) m.1) ∙ plain }

  pub outside : IsOutside f n
  outside = outside_of f of parents n apart

  pub clear : IsClear f n
  clear = is_clear f of parents n first has_node.node has_node.at has_node.its_plain apart

  -- ---- `cvt` that is not refused stands in a heading

  well_placed : (m : ℕ) → is_no_type_at f m ≡ false → (b : Bool) → v31 f m ≡ b → v31 f m ≡ false
  well_placed m good true hit = absurd (true≢false (sym (refused_by f of m 8 rule.CvtPlace refl hit) ∙ good))
  well_placed m good false miss = miss

  no_cvt : (m : ℕ) → is_no_type_at f m ≡ false → (round f m).heading ≡ false → is_cvt_at f m ≡ false
  no_cvt m good bare = by (is_cvt_at f m) refl
    where
      at_cvt : (is_kind f kind.Simple m ≡ true) × (is_word simple.Cvt (item f m).type ≡ true) → (b : Bool) → is_of_heading f (parent f m) ≡ b → ⊥
      at_cvt is true hit = true≢false (sym (headed f of parents m hit) ∙ bare)
      at_cvt is false none = misplaced_at f m none (record { of_word = same_kind kind.Simple (kind_in f m) is.0; word = is.1; placed = well_placed m good (v31 f m) refl })

      by : (b : Bool) → is_cvt_at f m ≡ b → is_cvt_at f m ≡ false
      by true hit = absurd (at_cvt (and_parts (is_kind f kind.Simple m) (is_word simple.Cvt (item f m).type) hit) (is_of_heading f (parent f m)) refl)
      by false miss = miss

  -- ---- in no heading

  module _ (asks : is_in_headings (kind_in f n) ≡ false) where
    its_rest : walk_of f n ≡ rest
    its_rest = in_rest f of parents n apart asks

    is_bare : IsBare f n
    is_bare = record { inside = inside; apart = apart; plain = plain; bare = no_part_bare f of parents n apart asks; no_part = asks }

    fine_upto : is_no_type_at f n ≡ false → (m : ℕ) → (round f n).first ≤ m → m ≤ n → is_no_type_at f m ≡ false
    fine_upto here m low high = elim (cases_lt m n) [
      | inl less ↦ fine_below f of parents n first has_node.node has_node.at has_node.its_plain m low less
      | inr more ↦ let same : n ≡ m = omega (arith, high, more) in subst (λ (x : ℕ). is_no_type_at f x ≡ false) same here
    ]

    fine : is_no_type_at f n ≡ false → IsFine f n
    fine here = record {
      outside = outside;
      below = fine_upto here;
      plain = λ m low high. no_cvt m (fine_upto here m low high) (bare_below f of parents n has_node.node has_node.at has_node.its_plain is_bare.bare m low high);
    }

    unasked : (j : NodeKind) → kind_in f n ≡ j → (r : Rule) → is_asked j r ≡ false → violates f (is_bad_of f (rules_of_types f)) n r ≡ false
    unasked j is r not_asked = not_elsewhere f of (is_bad_of f (rules_of_types f)) n r (ap (λ (i : NodeKind). is_asked i r) is ∙ not_asked)

    -- nothing is lost of the node, if none of its names is refused
    pub here_if : (j : NodeKind) → kind_in f n ≡ j → asks_values j ≡ false → v4 f n ≡ false → v5 f n ≡ false → lost n ≡ false
    here_if j is values range names = known.kept n inside (fine (fine_here f of parents n j is values range names))

    pub here_named : (j : NodeKind) → kind_in f n ≡ j → asks_values j ≡ false → is_asked j rule.UnknownName ≡ false → v4 f n ≡ false → lost n ≡ false
    here_named j is values five range = here_if j is values range (unasked j is rule.UnknownName five)

    pub here_always : (j : NodeKind) → kind_in f n ≡ j → asks_values j ≡ false → is_asked j rule.LiteralRange ≡ false → is_asked j rule.UnknownName ≡ false → lost n ≡ false
    here_always j is values four five = here_named j is values five (unasked j is rule.LiteralRange four)

    -- ---- what stands first

    pub node_known : (c : ℕ) → IsNodeSeen f of parents n c → lost c ≡ false
    node_known c seen =
        let less : c < n = seen.less in
        known.kept c (omega (arith, less, inside)) (record {
          outside = seen.outside;
          below = λ m low high. fine_before f of parents n first its_rest m (omega (arith, high, less, inside)) (omega (arith, high, less));
          plain = λ m low high. no_cvt m (fine_before f of parents n first its_rest m (omega (arith, high, less, inside)) (omega (arith, high, less))) (seen.bare m low high);
        })

    pub first_known : lost n ≡ false → IsFirstKnown f lost n
    first_known here p c cs up arms begins = elim (first_seen f of parents n p c cs outside is_bare.bare up arms begins) [
      | inl same ↦ ap lost same ∙ here
      | inr seen ↦ node_known c seen
    ]

    -- ---- types that are declared before

    type_fine : (t : ℕ) → IsTypeSeen f n t → IsTypeFine f n t
    type_fine t seen =
        let below : (m : ℕ) → (round f t).first ≤ m → m ≤ t → is_no_type_at f m ≡ false = fine_seen f of parents n first its_rest t seen.inside seen.below in
        let node = there f.nodes t seen.inside in
        let begun : (round f t).first ≤ t = forest_goes_on f.nodes (round f t).first t node.0.children (is_subtree f.nodes f.rounds of.tree of.surrounded of.ordered t node.0 node.1) in
        let good : v31 f t ≡ false = well_placed t (below t begun (omega arith)) (v31 f t) refl in
        record {
          typed = seen.typed;
          inside = seen.inside;
          outside = seen.outside;
          below = below;
          home = λ is. seen.home is good;
          rep = λ is e m named low less. let before : e < n = seen.rep is good e named in fine_before f of parents n first its_rest m (omega (arith, less, before, inside)) (omega (arith, less, before));
        }

    variable_known : (m : Meaning) → IsVariableSeen f n m → IsVariableKnown f k n m
    variable_known (meant.Local t) seen = known.variables n t inside (type_fine t seen)
    variable_known (meant.OwnOfRoutine t) seen = known.variables n t inside (type_fine t seen)
    variable_known (meant.OwnOfCluster t) seen = known.variables n t inside (type_fine t seen)
    variable_known meant.TypeSet seen = tt
    variable_known _ seen = tt

    all_variables : (ms : List Meaning) → AllByRecursion (IsVariableSeen f n) ms → AllByRecursion (IsVariableKnown f k n) ms
    all_variables [] all = tt
    all_variables (m ∷ ms) all = (variable_known m all.0, all_variables ms all.1)

    pub variables_known : is_assigning (kind_in f n) ≡ true → AllByRecursion (IsVariableKnown f k n) (meanings k n)
    variables_known assigns = all_variables (meanings k n) (placed.variables n is_bare assigns)

    -- ---- headings

    all_given : (ts : List ℕ) → AllByRecursion (IsTypeSeen f n) ts → AllByRecursion (IsResultKnown f k n) ts
    all_given [] all = tt
    all_given (t ∷ ts) all = let seen : IsTypeSeen f n t = all.0 in (known.given n t inside (type_fine t seen), all_given ts all.1)

    pub results_known : AllByRecursion (IsResultKnown f k n) (results_round k n)
    results_known = all_given (results_round k n) (placed.results n is_bare)

    each_known : (its : List Identifier) → AllByRecursion (λ (name : Identifier). (c : ℕ) → exception_named k n name ≡ Some c → AllByRecursion (IsTypeSeen f n) (its_known.children k c)) its → AllByRecursion (IsExceptionKnown f k n) its
    each_known [] all = tt
    each_known (name ∷ its) all = (λ c named. all_given (its_known.children k c) (all.0 c named), each_known its all.1)

    pub exceptions_known : AllByRecursion (IsExceptionKnown f k n) (names k n)
    exceptions_known = each_known (names k n) (placed.exceptions n is_bare)

    -- ---- the arm of an exit

    module _ (table : Names) (order : List ℕ) (circular : List Bool) (its_order : IsOrder f table order circular) where
      declared_here : (d : ℕ) → kind_in f d ≡ kind.Decl → is_bad f d ≡ false → (ts : List ℕ) → AllByRecursion (IsArmType f d) ts → AllByRecursion (λ (t : ℕ). lost t ≡ false) ts
      declared_here d is good [] all = tt
      declared_here d is good (t ∷ ts) all =
          let x : IsArmType f d t = all.0 in
          let decl : There f.nodes d kind.Decl = facts.there f.nodes d kind.Decl refl is in
          let its_inside : d < length f.nodes = slice_get_within f.nodes d decl.node decl.at in
          let low : (round f d).first ≤ (round f t).first = x.first in
          let high : t < d = x.less in (
            known.kept t (omega (arith, high, its_inside)) (record {
              outside = x.outside;
              below = λ m from upto. decl_fine f of table order circular its_order d is good m (omega (arith, low, from)) (omega (arith, high, upto));
              plain = λ m from upto. no_cvt m (decl_fine f of table order circular its_order d is good m (omega (arith, low, from)) (omega (arith, high, upto))) (x.bare m from upto);
            }),
            declared_here d is good ts all.1,
          )

      all_declared : (ds : List ℕ) → AllByRecursion (IsArmDecl f k) ds → AllByRecursion (λ (d : ℕ). is_bad f d ≡ false → AllByRecursion (λ (t : ℕ). lost t ≡ false) (its_known.children k d)) ds
      all_declared [] all = tt
      all_declared (d ∷ ds) all = let decl : IsArmDecl f k d = all.0 in (λ good. declared_here d decl.is good (its_known.children k d) decl.types, all_declared ds all.1)

      pub arm_known : kind_in f n ≡ kind.Exit → IsArmKnown k lost (is_bad f) n
      arm_known is c arm = all_declared (arm_declarations k c) (placed.arms n is_bare is c arm)
