-- The types of an exception in a heading, as callers see them, where no type is refused before it.
use Rattle.std.proofs.Common.{◌≡◌, ◌∙◌, ℕ, ◌<◌, ◌≤◌, ◌&&◌, ◌||◌, not, if◌then◌else◌, Bool, true, false, List, length, is_some, Option, Some, None, inl, inr, refl, sym, ap, subst, arith}
use Rattle.std.specs.Prelude.{slice_get}
use Rattle.std.specs.List.{AllByRecursion}
use Rattle.std.proofs.lemmas.Bool.{true≢false, and_parts, cases_lt, or_right}
use Rattle.clu_base.specs.declared.rules.Rule.TheVariants as rule
use Rattle.clu_tree.specs.declared.node.Node.{Node}
use Rattle.clu_tree.specs.declared.node.NodeKind.{NodeKind}
use Rattle.clu_tree.specs.declared.node.NodeKind.TheVariants as kind
use Rattle.clu_parser.specs.Trees.{Text}
use Rattle.clu_types.specs.CluType.{CluType}
use Rattle.clu_types.specs.declared.term.TypeId.{TypeId}
use Rattle.clu_types.specs.declared.term.Term.{Term}
use Rattle.clu_parts.specs.Slots.{AreParts, IsPart}
use Rattle.clu_parts.proofs.Fitting.{children_before}
use Rattle.clu_settle.proofs.Shapes.{all_parts}
use Rattle.clu_syntax.specs.declared.words.SimpleType.{SimpleType}
use Rattle.clu_syntax.specs.declared.words.SimpleType.TheVariants as simple
use Rattle.clu_syntax.specs.Kinds.{is_expression, is_type, kind_at, kind_of}
use Rattle.clu_syntax.specs.Items.{Item}
use Rattle.clu_syntax.specs.Nodes.{before, item_at, item_with, type_expression_of}
use Rattle.clu_syntax.specs.Slots.{slots}
use Rattle.clu_syntax.specs.Splits.{children_of}
use Rattle.clu_syntax.specs.Syntax.{TypeExpression, a_simple_type}
use Rattle.clu_syntax.specs.Words.{simple_type, symbol_in}
use Rattle.clu_meaning.specs.Scoping.{Scope}
use Rattle.clu_meaning.specs.Settling.{type_settled}
use Rattle.clu_meaning.specs.Resolving.{Place, heading_type, type_or}
use Rattle.clu_checking.specs.Specifications.{Specification}
use Rattle.clu_checking.specs.Files.{File, cluster_at, item, kind_in, round, scope_in}
use Rattle.clu_checking.specs.Headings as headings
use Rattle.clu_checking.specs.Headings.{for_callers, place_at, place_in}
use Rattle.clu_checking.specs.ConstantRules.{is_cluster_round, is_of_heading, is_word, v31, v31_at}
use Rattle.clu_checking.specs.Refusals.{is_no_type_at}
use Rattle.clu_declares.proofs.Around.{IsAround, around}
use Rattle.clu_declares.proofs.Below.{item_there}
use Rattle.clu_declares.proofs.Facts.{There, further, there}
use Rattle.clu_declares.proofs.Parents.{IsIn, of_all}
use Rattle.clu_syntax.specs.Rounds.{cluster_in}
use Rattle.clu_bindings.specs.declared.file.File.{File as Read}
use Rattle.clu_bindings.specs.Inside.{is_cvt, is_cvt_type, is_cvt_word, own_type, settled_type}
use Rattle.clu_type_rules.specs.declared.known.Known.{Known}
use Rattle.clu_type_rules.specs.Known as known
use Rattle.clu_passes.specs.Clear.{IsClear}
use Rattle.clu_passes.specs.ConstantsKnown.{file_of}
use Rattle.clu_passes.specs.ConstantTables.{AreTables, IsKnown}
use Rattle.clu_passes.specs.FactTables.{IsType}
use Rattle.clu_passes.specs.Losing.{HasReason, IsWholeCvt}
use Rattle.clu_passes.specs.Made.{IsWhole}
use Rattle.clu_passes.specs.SeenTypes.{IsOutsideKnown}
use Rattle.clu_passes.specs.Trees.{IsFileOfTree}
use Rattle.clu_passes.proofs.Actuals as actuals
use Rattle.clu_passes.proofs.ByNodes.{type_there}
use Rattle.clu_passes.proofs.CvtPlaces.{constant_top, cvt_refused}
use Rattle.clu_passes.proofs.LostRefused.{reason_there, refused_by}
use Rattle.clu_passes.proofs.TablesMade.{tables_are}
use Rattle.clu_passes.proofs.ValuesKnown as at

-- ---- `cvt` by the word

word_same : (n : ℕ) (w : SimpleType) → is_cvt_word w ≡ true → is_word simple.Cvt (a_simple_type n w) ≡ true
word_same n simple.Cvt e = refl
word_same n _ e = absurd (true≢false (sym e))

not_word : (t : TypeExpression) → is_cvt_type t ≡ false → is_word simple.Cvt t ≡ false
not_word (a_simple_type n simple.Cvt) e = absurd (true≢false e)
not_word (a_simple_type n _) e = refl
not_word _ e = refl

-- whatever is known of other nodes
word_there : (some others : ℕ → Item) (nodes : List Node) (n : ℕ) (node : Node) (k : NodeKind) → is_type k ≡ true → is_cvt_type (type_expression_of some nodes n node k) ≡ is_cvt_type (type_expression_of others nodes n node k)
word_there some others nodes n node kind.Simple e = refl
word_there some others nodes n node kind.ListT e = refl
word_there some others nodes n node kind.FieldsT e = refl
word_there some others nodes n node kind.RoutineT e = refl
word_there some others nodes n node kind.NameT e = refl
word_there some others nodes n node kind.File e = absurd (true≢false (sym e))
word_there some others nodes n node _ e = absurd (true≢false (sym e))

no_word : (some : ℕ → Item) (nodes : List Node) (n : ℕ) (node : Node) (k : NodeKind) → is_type k ≡ true → is_cvt_type (type_expression_of some nodes n node k) ≡ true → k ≡ kind.Simple
no_word some nodes n node kind.Simple e hit = refl
no_word some nodes n node kind.ListT e hit = absurd (true≢false (sym hit))
no_word some nodes n node kind.FieldsT e hit = absurd (true≢false (sym hit))
no_word some nodes n node kind.RoutineT e hit = absurd (true≢false (sym hit))
no_word some nodes n node kind.NameT e hit = absurd (true≢false (sym hit))
no_word some nodes n node kind.File e hit = absurd (true≢false (sym e))
no_word some nodes n node _ e hit = absurd (true≢false (sym e))

-- the first of two that is not
first_not : (a b c : Bool) → a ≡ true → ((a && not b) || c) ≡ false → b ≡ true
first_not true true c is e = refl
first_not true false c is e = absurd (true≢false e)
first_not false b c is e = absurd (true≢false (sym is))

-- ---- a type by its form

module _ (terms : List Term) (place : Place) (own its : Option TypeId) where
  own_seen : (t : TypeExpression) (home : Option CluType) → IsType terms own home → is_some home ≡ true → IsType terms own (Some (for_callers (type_or place home (type_settled place.scope t))))
  own_seen t None is there = absurd (true≢false (sym there))
  own_seen t (Some c) is there = is

  seen_so : (t : TypeExpression) → (is_cvt_type t ≡ true → IsType terms own place.home × (is_some place.home ≡ true)) → (is_cvt_type t ≡ false → IsType terms its (Some (type_settled place.scope t))) →
      IsType terms (if is_cvt_type t then own else its) (Some (for_callers (heading_type place t)))
  seen_so (a_simple_type n simple.Cvt) cvt other = let c = cvt refl in own_seen (a_simple_type n simple.Cvt) place.home c.0 c.1
  seen_so _ cvt other = other refl

module _ (t : Text) (k : Known) (library : List Specification) (refused : List ℕ) (whole : IsWhole t k.tables library refused)
    (own : (n : ℕ) → IsType k.tables.types.now (own_type k.tables.file n) (headings.own_type (file_of k library refused) n)) where
  abbrev r : Read
  r = k.tables.file

  abbrev nodes : List Node
  nodes = k.tables.file.syntax.now

  abbrev scope : Scope
  scope = scope_in k.tables.file.syntax.now k.tables.file.rounds.now

  abbrev f : File
  f = file_of k library refused

  abbrev terms : List Term
  terms = k.tables.types.now

  abbrev of_file : IsFileOfTree f
  of_file = at.of_tree t k.tables library refused whole.made whole.lost

  are : AreTables f k.tables
  are = tables_are t k.tables library refused whole.made

  -- ---- one type

  module _ (n : ℕ) (node : Node) (at_n : slice_get nodes n ≡ Some node) (is : node.kind ≡ kind.Exc) (inside : n < length nodes) (clear : IsClear f n) (c : ℕ) (i : IsIn c node.children) (typed : is_type (kind_at nodes c) ≡ true) where
    abbrev b : at.IsBelow f of_file n c
    b = at.child_below f of_file n node at_n c i

    there_is : c < length nodes
    there_is = let less : c < n = b.less in omega (arith, less, inside)

    fine : (m : ℕ) → (round f c).first ≤ m → m ≤ c → is_no_type_at f m ≡ false
    fine m low high =
        let own : clear.low ≤ (round f n).first = clear.from.own in
        let first : (round f n).first ≤ (round f c).first = b.first in
        let less : c < n = b.less in
        clear.clear m (omega (arith, own, first, low)) (omega (arith, high, less))

    its_node : There nodes c (kind_at nodes c)
    its_node = by (slice_get nodes c) refl
      where
        by : (o : Option Node) → slice_get nodes c ≡ o → There nodes c (kind_at nodes c)
        by None at_c = absurd (true≢false (sym typed ∙ ap (λ (o : Option Node). is_type (kind_of o)) at_c))
        by (Some its) at_c = record { node = its; at = at_c; is = sym (ap kind_of at_c) }

    -- a value that is not that of `cvt`
    value_known : is_word simple.Cvt (item f c).type ≡ false → IsKnown r c
    value_known plain = elim (reason_there f of_file c there_is) [
      | inl x ↦ absurd (by x)
      | inr found ↦ at.found_known t k.tables library refused whole.made whole.lost c there_is found
    ]
      where
        under : (d : ℕ) → (round f c).first ≤ d → d < c → IsWholeCvt f d → ⊥
        under d low less x =
            cvt_refused f of_file c its_node.node its_node.at (constant_top its_node.node.kind (ap (λ (j : NodeKind). is_expression j || is_type j) its_node.is ∙ or_right (is_expression (kind_at nodes c)) (is_type (kind_at nodes c)) typed)) d low less x

        by : HasReason f c → ⊥
        by x = elim x.reason [
          | inl hit ↦ true≢false (sym hit ∙ fine x.node x.first x.upto)
          | inr cvt ↦ elim (cases_lt x.node c) [
            | inl less ↦ under x.node x.first less cvt
            | inr back ↦
                let upto : x.node ≤ c = x.upto in
                let same : x.node ≡ c = omega (arith, upto, back) in
                let whole_there : IsWholeCvt f c = subst (IsWholeCvt f) same cvt in
                true≢false (sym whole_there.word ∙ plain)
          ]
        ]

    -- the cluster round both
    same_cluster : (round f c).cluster ≡ (round f n).cluster
    same_cluster =
        let its : IsAround f.rounds n node c =
        of_all (IsAround f.rounds n node) c node.children
        (around f.nodes f.rounds n node of_file.surrounded at_n (further n (length f.nodes) node.children (omega (arith, inside)) (children_before f.nodes of_file.tree n node at_n))) i in
        its.cluster ∙ ap (λ (j : NodeKind). cluster_in j n (round f n)) is

    home_there : kind_in f c ≡ kind.Simple → is_word simple.Cvt (item f c).type ≡ true → is_some (place_at f n).home ≡ true
    home_there its_kind word = by (round f n).cluster (sym (ap is_some same_cluster) ∙ (and_parts (is_cluster_round f c) (is_of_heading f (round f c).parent) stands).0)
      where
        placed : v31 f c ≡ false
        placed = told (v31 f c) refl
          where
            told : (b : Bool) → v31 f c ≡ b → b ≡ false
            told true hit =
                let least : (round f n).first ≤ c = b.least in
                let own : clear.low ≤ (round f n).first = clear.from.own in
                absurd (true≢false (sym (refused_by f of_file c 8 rule.CvtPlace refl hit) ∙ clear.clear c (omega (arith, least, own)) b.less))
            told false miss = refl

        stands : (is_cluster_round f c && is_of_heading f (round f c).parent) ≡ true
        stands =
            first_not (is_word simple.Cvt (item f c).type) (is_cluster_round f c && is_of_heading f (round f c).parent) (is_word simple.Rep (item f c).type && not (is_cluster_round f c)) word
            (sym (ap (λ (j : NodeKind). v31_at f j c) its_kind) ∙ placed)

        by : (o : Option ℕ) → is_some o ≡ true → is_some (place_in f (cluster_at f o)).home ≡ true
        by None e = absurd (true≢false (sym e))
        by (Some m) e = refl

    same_scope : (o : Option ℕ) → (place_in f (cluster_at f o)).scope ≡ f.scope
    same_scope None = refl
    same_scope (Some m) = refl

    abbrev form : TypeExpression
    form = type_expression_of (before c (item_at nodes)) nodes c its_node.node (kind_at nodes c)

    form_is : (item f c).type ≡ form
    form_is =
        ap (λ (i : Item). i.type) (item_there nodes c its_node.node its_node.at)
        ∙ ap (λ (j : NodeKind). type_expression_of (before c (item_at nodes)) nodes c its_node.node j) its_node.is

    cvt_there : (others : ℕ → Item) → is_cvt others nodes c ≡ is_cvt_type (item f c).type
    cvt_there others =
        ap (λ (o : Option Node). is_cvt_type (item_with others nodes c o).type) its_node.at
        ∙ ap (λ (j : NodeKind). is_cvt_type (type_expression_of others nodes c its_node.node j)) its_node.is
        ∙ word_there others (before c (item_at nodes)) nodes c its_node.node (kind_at nodes c) typed
        ∙ sym (ap is_cvt_type form_is)

    of_cvt : is_cvt_type (item f c).type ≡ true → IsType terms (own_type r n) (place_at f n).home × (is_some (place_at f n).home ≡ true)
    of_cvt hit =
        let its_kind : kind_at nodes c ≡ kind.Simple = no_word (before c (item_at nodes)) nodes c its_node.node (kind_at nodes c) typed (sym (ap is_cvt_type form_is) ∙ hit) in
        let told : (item f c).type ≡ a_simple_type c (simple_type (symbol_in its_node.node.value)) = type_there f of_file.shaped c its_node.node its_node.at (its_node.is ∙ its_kind) in
        (own n, home_there its_kind (ap (is_word simple.Cvt) told ∙ word_same c (simple_type (symbol_in its_node.node.value)) (sym (ap is_cvt_type told) ∙ hit)))

    of_other : is_cvt_type (item f c).type ≡ false → IsType terms (settled_type r c) (Some (type_settled (place_at f n).scope (item f c).type))
    of_other miss =
        let x : actuals.Known k.tables scope library refused of_file.shaped of_file.tree are c = actuals.type_known k.tables scope library refused of_file.shaped of_file.tree are c typed (value_known (not_word (item f c).type miss)) in
        subst (λ (its : Scope). IsType terms (settled_type r c) (Some (type_settled its (item f c).type))) (sym (same_scope (round f n).cluster))
        (subst (λ (o : Option TypeId). IsType terms o (Some (type_settled scope (item f c).type))) (sym x.value) (x.less, x.type))

    outside : IsOutsideKnown f k n c
    outside others =
        subst (λ (b : Bool). IsType terms (if b then own_type r n else settled_type r c) (Some (for_callers (heading_type (place_at f n) (item f c).type)))) (sym (cvt_there others))
        (seen_so terms (place_at f n) (own_type r n) (settled_type r c) (item f c).type of_cvt of_other)

  pub failures_known : (n : ℕ) → n < length nodes → kind_in f n ≡ kind.Exc → IsClear f n → AllByRecursion (IsOutsideKnown f k n) (known.children k n)
  failures_known n inside is clear =
      let x : There nodes n kind.Exc = there nodes n kind.Exc refl is in
      let ps : AreParts nodes is_type n x.node.children = all_parts nodes of_file.tree of_file.shaped is_type n x.node x.at (ap slots x.is) in
      subst (AllByRecursion (IsOutsideKnown f k n)) (sym (ap children_of x.at))
      (at.all_by (IsOutsideKnown f k n) x.node.children (λ c i. outside n x.node x.at x.is inside clear c i (of_all (IsPart nodes is_type n) c x.node.children ps i).1))
