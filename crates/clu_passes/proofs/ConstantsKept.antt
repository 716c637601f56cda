-- What is known at a node before which no rule is violated: its brackets, and that nothing is lost at it if it violates none of the rules
-- by which a value is lost.
use Rattle.std.proofs.Common.{◌≡◌, ◌∙◌, ℕ, ◌<◌, ◌≤◌, ◌&&◌, ◌||◌, Bool, true, false, List, [], ◌∷◌, length, drop, is_some, Option, Some, None, inl, inr, refl, sym, ap, subst, arith}
use Rattle.std.specs.Prelude.{slice_get}
use Rattle.std.specs.List.{AllByRecursion}
use Rattle.std.proofs.lemmas.Bool.{true≢false, or_right, or_left}
use Rattle.clu_base.specs.declared.rules.Rule.{Rule}
use Rattle.clu_base.specs.declared.rules.Rule.TheVariants as rule
use Rattle.clu_tree.specs.declared.node.Node.{Node}
use Rattle.clu_tree.specs.declared.node.NodeKind.{NodeKind}
use Rattle.clu_tree.specs.declared.node.NodeKind.TheVariants as kind
use Rattle.clu_tree.specs.Nodes.{IsTree}
use Rattle.clu_parser.specs.Shape.{HaveForms}
use Rattle.clu_parser.specs.Trees.{Text}
use Rattle.clu_syntax.specs.declared.words.SimpleType.TheVariants as simple
use Rattle.clu_syntax.specs.Kinds.{is_expression, is_type, kind_at}
use Rattle.clu_syntax.specs.Slots.{any, slots}
use Rattle.clu_syntax.specs.Splits.{child, children_of, is_of}
use Rattle.clu_settle.proofs.Shapes.{first_part}
use Rattle.clu_checking.specs.Specifications.{Specification}
use Rattle.clu_checking.specs.Files.{File, is_kind, item, kind_in, parent, round}
use Rattle.clu_checking.specs.ConstantRules.{is_of_heading, is_word}
use Rattle.clu_checking.specs.Rules.{least, violates}
use Rattle.clu_checking.specs.Refusals.{is_bad_of, is_no_type_at, rules_of_types}
use Rattle.clu_declares.proofs.Facts.{There, there}
use Rattle.clu_declares.proofs.Parents.{IsIn}
use Rattle.clu_bindings.specs.declared.file.File.{File as Read}
use Rattle.clu_bindings.specs.Readers.{children_in, meaning_in}
use Rattle.clu_type_rules.specs.declared.known.Known.{Known}
use Rattle.clu_type_rules.specs.Asked.{is_asked}
use Rattle.clu_passes.specs.Bound.{IsNameKnown}
use Rattle.clu_passes.specs.Clear.{IsClear}
use Rattle.clu_passes.specs.ConstantsKnown.{AreConstantsKnown, file_of}
use Rattle.clu_passes.specs.ConstantTables.{AreBracketsKnown, IsEquateKnown, IsFirstKnown, IsKnown, IsWantedKnown}
use Rattle.clu_passes.specs.Constructed.{IsTyped}
use Rattle.clu_passes.specs.Lost.{is_lost_itself, lost, rules_of_values}
use Rattle.clu_passes.specs.Notes.{HaveParents}
use Rattle.clu_passes.specs.Refusing.{is_of_types}
use Rattle.clu_passes.specs.Right.{AreTypesBad, IsQuiet}
use Rattle.clu_passes.specs.Trees.{IsFileOfTree}
use Rattle.clu_passes.proofs.ByKinds.{not_elsewhere}
use Rattle.clu_passes.proofs.CvtPlaces.{no_part, parent_told}
use Rattle.clu_passes.proofs.LostNodes.{odd_itself}
use Rattle.clu_passes.proofs.NamedEquates.{expression_led}
use Rattle.clu_passes.proofs.NoCvt.{kept_there}
use Rattle.clu_passes.proofs.TypesBad.{clear_there, not_sooner}
use Rattle.clu_passes.proofs.ValuesKnown as at
use Rattle.clu_passes.proofs.WhyLost.{NamesOdd}

-- ---- kinds of nodes of which the rules read facts

abbrev pub reads_facts : NodeKind → Bool
reads_facts kind.NameT = true
reads_facts k = is_expression k

constant_of : (k : NodeKind) → reads_facts k ≡ true → (is_expression k || is_type k) ≡ true
constant_of kind.NameT e = refl
constant_of kind.File e = absurd (true≢false (sym e))
constant_of k e = or_left (is_expression k) (is_type k) e

no_simple : (k : NodeKind) → reads_facts k ≡ true → is_of kind.Simple k ≡ false
no_simple kind.Simple e = absurd (true≢false (sym e))
no_simple kind.File e = refl
no_simple _ e = refl

-- ---- rules

none_first : (v : Rule → Bool) (rs : List Rule) → AllByRecursion (λ (r : Rule). v r ≡ false) rs → is_some (least v rs) ≡ false
none_first v [] all = refl
none_first v (r ∷ rs) all = ap (λ (b : Bool). is_some (elim b [ true ↦ Some r | false ↦ least v rs ])) all.0 ∙ none_first v rs all.1

module _ (t : Text) (k : Known) (library : List Specification) (refused : List ℕ) (its : AreConstantsKnown t k library refused)
    (bad : ℕ → Bool) (bad_are : AreTypesBad (file_of k library refused) bad) (n : ℕ) (inside : n < length k.tables.file.syntax.now) (quiet : IsQuiet (file_of k library refused) bad n) where
  abbrev r : Read
  r = k.tables.file

  abbrev nodes : List Node
  nodes = k.tables.file.syntax.now

  abbrev f : File
  f = file_of k library refused

  abbrev of_file : IsFileOfTree f
  of_file = at.of_tree t k.tables library refused its.whole.made its.whole.lost

  parents : HaveParents f
  parents = at.parents t k.tables library refused its.whole.made its.whole.lost

  shaped : HaveForms nodes
  shaped = its.whole.made.file.parsed.forms

  tree : IsTree nodes
  tree = its.whole.made.file.parsed.tree

  pub clear : IsClear f n
  clear = clear_there f bad bad_are of_file n quiet

  below : (m : ℕ) → (round f n).first ≤ m → m < n → is_no_type_at f m ≡ false
  below = at.below t k.tables library refused its.whole.made its.whole.lost n inside clear

  -- ---- rules that are not violated at the node

  abbrev pub Missed : Rule → Type 0
  Missed x = violates f bad n x ≡ false

  -- one that isn't asked there
  pub unasked : (j : NodeKind) → kind_in f n ≡ j → (x : Rule) → is_asked j x ≡ false → Missed x
  unasked j is x e = not_elsewhere f of_file bad n x (ap (λ (j : NodeKind). is_asked j x) is ∙ e)

  abbrev MissedByTypes : Rule → Type 0
  MissedByTypes x = violates f (is_bad_of f (rules_of_types f)) n x ≡ false

  -- so nothing is lost by the node itself
  pub fine_itself : Missed rule.LiteralRange → Missed rule.UnknownName → Missed rule.CircularEquate → Missed rule.NotConstant → Missed rule.NotType → Missed rule.Real → Missed rule.CvtPlace → is_lost_itself f n ≡ false
  fine_itself range unknown circle constant type real place =
      none_first (violates f (is_bad_of f (rules_of_types f)) n) rules_of_values
      (sooner rule.LiteralRange refl range, (sooner rule.UnknownName refl unknown, (sooner rule.CircularEquate refl circle, (sooner rule.NotConstant refl constant, (sooner rule.NotType refl type, (sooner rule.Real refl real, (sooner rule.CvtPlace refl place, tt)))))))
    where
      sooner : (x : Rule) → is_of_types x ≡ true → Missed x → MissedByTypes x
      sooner x is miss = not_sooner f bad bad_are n x is miss

  -- ---- brackets

  -- a type doesn't stand before some
  pub round_of_type : is_expression (kind_in f n) ≡ false → IsWantedKnown r n
  round_of_type apart = elim (at.round_known t k.tables library refused its.whole.made its.whole.lost n inside clear) [
    | inl first ↦ absurd (true≢false (sym first.expression ∙ apart))
    | inr known ↦ known
  ]

  module _ (fine : is_lost_itself f n ≡ false) where
    pub here : reads_facts (kind_in f n) ≡ true → lost f n ≡ false
    here reads = kept_there f of_file parents n inside clear (constant_of (kind_in f n) reads) (ap (λ (b : Bool). b && is_word simple.Cvt (item f n).type) (no_simple (kind_in f n) reads)) fine

    no_odd : NamesOdd f of_file n → ⊥
    no_odd odd = true≢false (sym (odd_itself f of_file n odd) ∙ fine)

    pub brackets : AreBracketsKnown r n
    brackets = record {
      own = at.own_known t k.tables library refused its.whole.made its.whole.lost n inside clear;
      round = elim (at.round_known t k.tables library refused its.whole.made its.whole.lost n inside clear) [
        | inl first ↦ absurd (no_odd first.odd)
        | inr known ↦ known
      ];
      above = at.above_known t k.tables library refused its.whole.made its.whole.lost n inside clear;
    }

    -- ---- names

    equate_known : is_expression (kind_at nodes n) ≡ true → IsEquateKnown r (meaning_in r n)
    equate_known is = elim (at.equate_or_odd t k.tables library refused its.whole.made its.whole.lost n (λ right e.
        expression_led t r library refused its.whole.made.file.parsed its.whole.made.file.rounds its.whole.made.file.few its.whole.made.file.names its.whole.made.file.bindings of_file n right is e)) [
          | inl odd ↦ absurd (no_odd odd)
          | inr known ↦ known
        ]

    as_name : (cs : List ℕ) → IsFirstKnown r cs → IsNameKnown r kind.Index n cs
    as_name [] first = tt
    as_name (c ∷ cs) first = first

    name_by : (j : NodeKind) → kind_in f n ≡ j → IsNameKnown r j n (children_in r n)
    name_by kind.Name is = equate_known (ap is_expression is)
    name_by kind.Index is = as_name (children_in r n) (brackets.own is)
    name_by kind.File is = tt
    name_by _ is = tt

    pub name_known : IsNameKnown r (kind_in f n) n (children_in r n)
    name_known = name_by (kind_in f n) refl

  -- ---- the type of a constructor, which stands first

  type_there : (j : NodeKind) → kind_at nodes n ≡ j → is_kind f kind.Decl n ≡ false → is_kind f kind.Results n ≡ false → is_kind f kind.Exc n ≡ false → (c : ℕ) → IsIn c (children_in r n) → is_type (kind_at nodes c) ≡ true → IsKnown r c
  type_there j is decl results exception c i typed = by (slice_get nodes n) refl i
    where
      by : (o : Option Node) → slice_get nodes n ≡ o → IsIn c (children_of o) → IsKnown r c
      by None at_n i = absurd i
      by (Some node) at_n i =
          let b : at.IsBelow f of_file n c = at.child_below f of_file n node at_n c i in
          let first : (round f n).first ≤ (round f c).first = b.first in
          let less : c < n = b.less in
          let there_is : c < length nodes = omega (arith, less, inside) in
          let up : parent f c ≡ Some n = parent_told f of_file c (record { parent = n; node = node; at = at_n; child = i }) in
          at.found_known t k.tables library refused its.whole.made its.whole.lost c there_is
          (at.found_there t k.tables library refused its.whole.made its.whole.lost c there_is (or_right (is_expression (kind_at nodes c)) (is_type (kind_at nodes c)) typed)
          (ap (is_of_heading f) up ∙ no_part f n decl results exception)
          (λ m low high. below m (omega (arith, low, first)) (omega (arith, high, less))))

  typed_by : (j : NodeKind) → kind_in f n ≡ j → IsTyped k.tables j (children_in r n)
  typed_by kind.Fields is =
      let x : There nodes n kind.Fields = there nodes n kind.Fields refl is in
      let first = first_part nodes tree shaped is_type (any (is_of kind.FieldE) ∷ []) n x.node x.at (ap slots x.is) in
      let whole : children_in r n ≡ child 0 x.node ∷ drop 1 x.node.children = ap children_of x.at ∙ first.is in
      subst (IsTyped k.tables kind.Fields) (sym whole)
      (type_there kind.Fields is (ap (is_of kind.Decl) is) (ap (is_of kind.Results) is) (ap (is_of kind.Exc) is) (child 0 x.node) (subst (IsIn (child 0 x.node)) (sym whole) (inl refl)) first.first.1)
  typed_by kind.Elems is =
      let x : There nodes n kind.Elems = there nodes n kind.Elems refl is in
      let first = first_part nodes tree shaped is_type (any is_expression ∷ []) n x.node x.at (ap slots x.is) in
      let whole : children_in r n ≡ child 0 x.node ∷ drop 1 x.node.children = ap children_of x.at ∙ first.is in
      subst (IsTyped k.tables kind.Elems) (sym whole)
      (type_there kind.Elems is (ap (is_of kind.Decl) is) (ap (is_of kind.Results) is) (ap (is_of kind.Exc) is) (child 0 x.node) (subst (IsIn (child 0 x.node)) (sym whole) (inl refl)) first.first.1)
  typed_by kind.File is = tt
  typed_by _ is = tt

  pub typed : IsTyped k.tables (kind_in f n) (children_in r n)
  typed = typed_by (kind_in f n) refl
