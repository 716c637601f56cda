-- V10 and V31 by tables: literals and words, and the equates of `rep` among the children of a cluster.
use Rattle.std.proofs.Common.{◌≡◌, ◌∙◌, ℕ, ◌+◌, Bool, true, false, ◌&&◌, ◌||◌, if◌then◌else◌, List, [], ◌∷◌, ◌++◌, Option, Some, None, refl, sym, ap, arith}
use Rattle.std.specs.Prelude.{◌==◌, not, is_none, slice_get}
use Rattle.std.specs.List.{AllByRecursion}
use Rattle.std.proofs.lemmas.Bool.{eqb-true, eq-eqb, false_from_ne_true}
use Rattle.clu_base.proofs.Bools.{same_truth}
use Rattle.clu_tree.specs.declared.node.Node.{Node}
use Rattle.clu_tree.specs.declared.node.NodeKind.{NodeKind}
use Rattle.clu_tree.specs.declared.node.NodeKind.TheVariants as kind
use Rattle.clu_tree.specs.Nodes.{IsTree}
use Rattle.clu_parser.specs.Shape.{HaveForms}
use Rattle.clu_syntax.specs.declared.words.SimpleType.TheVariants as simple
use Rattle.clu_syntax.specs.Kinds.{kind_at}
use Rattle.clu_syntax.specs.Rounds.{round_at}
use Rattle.clu_syntax.specs.Roles.{has_no_name}
use Rattle.clu_syntax.specs.Splits.{child, children_of, is_of, run, after_run, after_one, one_of}
use Rattle.clu_syntax.specs.Syntax.{Identifier}
use Rattle.clu_syntax.specs.Items.{Item, equates_at}
use Rattle.clu_syntax.specs.Nodes.{before, item_at, equate_name, equated, equate_of, cluster_of}
use Rattle.clu_parts.specs.Parts.{list_of, owns_parts, equates_parts, cluster_parts, parts_of}
use Rattle.clu_parts.proofs.Gathered.{all_gathered}
use Rattle.clu_meaning.specs.Scoping.{Scope}
use Rattle.clu_checking.specs.Specifications.{Specification}
use Rattle.clu_checking.specs.Files as checking
use Rattle.clu_checking.specs.Files.{File, item, parent}
use Rattle.clu_checking.specs.ConstantRules as rules_of
use Rattle.clu_settle.specs.Names.{names_of}
use Rattle.clu_settle.proofs.Parts.{before_is}
use Rattle.clu_settle.proofs.Shapes.{IsPart, AreParts, AreBefore, run_parts, before_dropped, before_after_one, children_before}
use Rattle.clu_head.specs.There.{is_there}
use Rattle.clu_bindings.specs.declared.file.File.{File as Read}
use Rattle.clu_bindings.specs.Files.{is_there_at}
use Rattle.clu_name_rules.specs.ConstantRules as of_tables
use Rattle.clu_passes.specs.ConstantTables.{file_with}
use Rattle.clu_declares.proofs.Below.{same_kind}
use Rattle.clu_declares.proofs.Facts.{there}
use Rattle.clu_passes.proofs.ConstantNodes.{its_item}
use Rattle.clu_passes.proofs.Constants.{real_is, word_is}
use Rattle.clu_passes.proofs.OwnPlaces.{there_is}

equated_rep : (items : ℕ → Item) (nodes : List Node) (n : ℕ) (name : Option Identifier) (k : NodeKind) (c : ℕ) → rules_of.is_rep (equated items nodes n name k c) ≡ is_none name
equated_rep items nodes n None kind.TypeSet c = refl
equated_rep items nodes n (Some name) kind.TypeSet c = refl
equated_rep items nodes n None _ c = refl
equated_rep items nodes n (Some name) _ c = refl

one_more : (k : ℕ) → (k == 0) ≡ ((1 + k) == 1)
one_more k =
    same_truth (k == 0) ((1 + k) == 1)
    (λ h. let zero : k ≡ 0 = eqb-true k 0 h in eq-eqb (1 + k) 1 (omega (arith, zero)))
    (λ h. let one : 1 + k ≡ 1 = eqb-true (1 + k) 1 h in eq-eqb k 0 (omega (arith, one)))

none_more : (k : ℕ) → false ≡ ((1 + k) == 0)
none_more k = sym (false_from_ne_true ((1 + k) == 0) (λ h. let none : 1 + k ≡ 0 = eqb-true (1 + k) 0 h in omega (arith, none)))

unnamed : (names : List Identifier) → is_none (equate_name names) ≡ has_no_name names
unnamed [] = refl
unnamed (name ∷ names) = refl

module _ (r : Read) where
  abbrev nodes : List Node
  nodes = r.syntax.now

  -- ---- lists in which no node is an equate of `rep`

  abbrev HasNone : List ℕ → Type 0
  HasNone es = AllByRecursion (λ e. of_tables.is_rep r e ≡ false) es

  none_first : (known : Bool) (xs ys : List ℕ) → HasNone xs → of_tables.has_one_rep r known (xs ++ ys) ≡ of_tables.has_one_rep r known ys
  none_first known [] ys none = refl
  none_first known (x ∷ xs) ys none =
      ap (λ (b : Bool). if b then not known && of_tables.has_one_rep r true (xs ++ ys) else of_tables.has_one_rep r known (xs ++ ys)) none.0
      ∙ none_first known xs ys none.1

  none_alone : (known : Bool) (xs : List ℕ) → HasNone xs → of_tables.has_one_rep r known xs ≡ known
  none_alone known [] none = refl
  none_alone known (x ∷ xs) none =
      ap (λ (b : Bool). if b then not known && of_tables.has_one_rep r true xs else of_tables.has_one_rep r known xs) none.0
      ∙ none_alone known xs none.1

  none_last : (known : Bool) (xs ys : List ℕ) → HasNone ys → of_tables.has_one_rep r known (xs ++ ys) ≡ of_tables.has_one_rep r known xs
  none_last known [] ys none = none_alone known ys none
  none_last known (x ∷ xs) ys none =
      ap (λ (b : Bool). if of_tables.is_rep r x then not known && b else of_tables.has_one_rep r known (xs ++ ys)) (none_last true xs ys none)
      ∙ ap (λ (b : Bool). if of_tables.is_rep r x then not known && of_tables.has_one_rep r true xs else b) (none_last known xs ys none)

  none_both : (xs ys : List ℕ) → HasNone xs → HasNone ys → HasNone (xs ++ ys)
  none_both [] ys a b = b
  none_both (x ∷ xs) ys a b = (a.0, none_both xs ys a.1 b)

  other_kind : (k : NodeKind) → is_of kind.Equate k ≡ false → (e : ℕ) → is_of k (kind_at nodes e) ≡ true → of_tables.is_rep r e ≡ false
  other_kind k other e is =
      ap (λ (b : Bool). b && has_no_name (names_of (slice_get nodes e)))
      (sym (there_is kind.Equate refl (slice_get nodes e)) ∙ ap (is_of kind.Equate) (same_kind k (kind_at nodes e) is) ∙ other)

  none_of : (k : NodeKind) → is_of kind.Equate k ≡ false → (n : ℕ) (es : List ℕ) → AreParts nodes (is_of k) n es → HasNone es
  none_of k other n [] all = tt
  none_of k other n (e ∷ es) all = (other_kind k other e all.0.1, none_of k other n es all.1)

  none_one : (k : NodeKind) → is_of kind.Equate k ≡ false → (cs : List ℕ) → HasNone (list_of (one_of nodes k cs))
  none_one k other [] = tt
  none_one k other (c ∷ cs) = by (is_of k (kind_at nodes c)) refl
    where
      by : (b : Bool) → is_of k (kind_at nodes c) ≡ b → HasNone (list_of (if b then Some c else None))
      by true is = (other_kind k other c is, tt)
      by false is = tt

  -- ---- equates

  rep_is : (n e : ℕ) → IsPart nodes (is_of kind.Equate) n e → rules_of.is_rep (before n (item_at nodes) e).equate ≡ of_tables.is_rep r e
  rep_is n e part =
      let x = there nodes e kind.Equate refl (same_kind kind.Equate (kind_at nodes e) part.1) in
      ap (λ (i : Item). rules_of.is_rep i.equate) (before_is nodes n e part.0 ∙ its_item nodes e kind.Equate x)
      ∙ ap (λ (k : NodeKind). rules_of.is_rep (equate_of (before e (item_at nodes)) nodes e x.node k)) x.is
      ∙ equated_rep (before e (item_at nodes)) nodes e (equate_name x.node.names) (kind_at nodes (child 0 x.node)) (child 0 x.node)
      ∙ unnamed x.node.names
      ∙ ap (λ (k : NodeKind). is_of kind.Equate k && has_no_name x.node.names) (sym x.is)
      ∙ ap (λ (its : Option Node). is_there kind.Equate its && has_no_name (names_of its)) (sym x.at)

  -- one among them, or none
  record Counts (n : ℕ) (es : List ℕ) : Type 0 where
    pub one : of_tables.has_one_rep r false es ≡ (rules_of.rep_number (equates_at (before n (item_at nodes)) es) == 1)
    pub none : of_tables.has_one_rep r true es ≡ (rules_of.rep_number (equates_at (before n (item_at nodes)) es) == 0)

  counted : (n : ℕ) (es : List ℕ) → AreParts nodes (is_of kind.Equate) n es → Counts n es
  counted n [] all = record { one = refl; none = refl }
  counted n (e ∷ es) all =
      let rest = counted n es all.1 in
      by (of_tables.is_rep r e) refl rest.one rest.none
    where
      by : (b : Bool) → of_tables.is_rep r e ≡ b → of_tables.has_one_rep r false es ≡ (rules_of.rep_number (equates_at (before n (item_at nodes)) es) == 1) → of_tables.has_one_rep r true es ≡ (rules_of.rep_number (equates_at (before n (item_at nodes)) es) == 0) → Counts n (e ∷ es)
      by true is one none = record {
        one =
            ap (λ (b : Bool). if b then not false && of_tables.has_one_rep r true es else of_tables.has_one_rep r false es) is
            ∙ none
            ∙ one_more (rules_of.rep_number (equates_at (before n (item_at nodes)) es))
            ∙ ap (λ (b : Bool). (if b then 1 + rules_of.rep_number (equates_at (before n (item_at nodes)) es) else rules_of.rep_number (equates_at (before n (item_at nodes)) es)) == 1) (sym (rep_is n e all.0 ∙ is));
        none =
            ap (λ (b : Bool). if b then not true && of_tables.has_one_rep r true es else of_tables.has_one_rep r true es) is
            ∙ none_more (rules_of.rep_number (equates_at (before n (item_at nodes)) es))
            ∙ ap (λ (b : Bool). (if b then 1 + rules_of.rep_number (equates_at (before n (item_at nodes)) es) else rules_of.rep_number (equates_at (before n (item_at nodes)) es)) == 0) (sym (rep_is n e all.0 ∙ is));
      }
      by false is one none = record {
        one =
            ap (λ (b : Bool). if b then not false && of_tables.has_one_rep r true es else of_tables.has_one_rep r false es) is
            ∙ one
            ∙ ap (λ (b : Bool). (if b then 1 + rules_of.rep_number (equates_at (before n (item_at nodes)) es) else rules_of.rep_number (equates_at (before n (item_at nodes)) es)) == 1) (sym (rep_is n e all.0 ∙ is));
        none =
            ap (λ (b : Bool). if b then not true && of_tables.has_one_rep r true es else of_tables.has_one_rep r true es) is
            ∙ none
            ∙ ap (λ (b : Bool). (if b then 1 + rules_of.rep_number (equates_at (before n (item_at nodes)) es) else rules_of.rep_number (equates_at (before n (item_at nodes)) es)) == 0) (sym (rep_is n e all.0 ∙ is));
      }

  module _ (shaped : HaveForms nodes) (tree : IsTree nodes) where
    one_rep : (n : ℕ) → kind_at nodes n ≡ kind.Cluster → (rules_of.rep_number (item_at nodes n).cluster.equates == 1) ≡ of_tables.has_one_rep r false (children_of (slice_get nodes n))
    one_rep n is =
        let x = there nodes n kind.Cluster refl is in
        let cs : List ℕ = x.node.children in
        let first : List ℕ = after_run nodes kind.Parm cs in
        let later : List ℕ = after_one nodes kind.Where first in
        let last : List ℕ = after_run nodes kind.Equate later in
        let all_before : AreBefore n cs = children_before nodes tree shaped n x.node x.at in
        let first_before = before_dropped nodes n _ cs all_before in
        let later_before = before_after_one nodes kind.Where n first first_before in
        let last_before = before_dropped nodes n _ later later_before in
        let owns_before = before_dropped nodes n _ last last_before in
        let parms : HasNone (run nodes kind.Parm cs) = none_of kind.Parm refl n (run nodes kind.Parm cs) (run_parts nodes kind.Parm n cs all_before) in
        let owns : HasNone (owns_parts nodes last) = none_both (run nodes kind.Own last) (run nodes kind.Routine (after_run nodes kind.Own last)) (none_of kind.Own refl n (run nodes kind.Own last) (run_parts nodes kind.Own n last last_before)) (none_of kind.Routine refl n (run nodes kind.Routine (after_run nodes kind.Own last)) (run_parts nodes kind.Routine n (after_run nodes kind.Own last) owns_before)) in
        let whole : parts_of nodes x.node kind.Cluster ≡ cs = ap (parts_of nodes x.node) (sym x.is) ∙ all_gathered nodes tree n x.node x.at (shaped n x.node x.at) (λ other. absurd (let no : kind.Cluster ≡ kind.If = sym x.is ∙ other in cc)) in
        ap (λ (i : Item). rules_of.rep_number i.cluster.equates == 1) (its_item nodes n kind.Cluster x)
        ∙ ap (λ (k : NodeKind). rules_of.rep_number (cluster_of (before n (item_at nodes)) nodes n x.node k).equates == 1) x.is
        ∙ sym (counted n (run nodes kind.Equate later) (run_parts nodes kind.Equate n later later_before)).one
        ∙ sym (none_last false (run nodes kind.Equate later) (owns_parts nodes last) owns)
        ∙ sym (none_first false (list_of (one_of nodes kind.Where first)) (equates_parts nodes later) (none_one kind.Where refl first))
        ∙ sym (none_first false (run nodes kind.Parm cs) (cluster_parts nodes first) parms)
        ∙ ap (of_tables.has_one_rep r false) whole
        ∙ ap (λ (its : Option Node). of_tables.has_one_rep r false (children_of its)) (sym x.at)

  -- ---- the rules

  module _ (scope : Scope) (library : List Specification) (refused : List ℕ) where
    abbrev f : File
    f = file_with r scope library refused

    v10_by : (items : ℕ → Item) (n : ℕ) (k : NodeKind) → kind_at nodes n ≡ k → rules_of.is_real f k n ≡ of_tables.is_real r items k n
    v10_by items n kind.Simple is = word_is items nodes n is simple.Real
    v10_by items n kind.Literal is = real_is items nodes n
    v10_by items n _ is = refl

    pub v10_is : (items : ℕ → Item) (n : ℕ) → rules_of.v10 f n ≡ of_tables.v10 r items n
    v10_is items n = v10_by items n (kind_at nodes n) refl

    -- ---- places of `cvt`

    stands_same : (k : NodeKind) → is_of k kind.File ≡ false → (o : Option ℕ) → checking.is_kind_at f k o ≡ is_there_at nodes k o
    stands_same k other None = refl
    stands_same k other (Some p) = there_is k other (slice_get nodes p)

    in_routine : (o : Option ℕ) → checking.is_kind_at f kind.Routine (checking.parent_of f o) ≡ of_tables.is_in_routine r o
    in_routine None = refl
    in_routine (Some p) = stands_same kind.Routine refl (round_at r.rounds.now p).parent

    or_false : (b : Bool) → (b || false) ≡ b
    or_false true = refl
    or_false false = refl

    or_both : (b : Bool) → (b || false || false) ≡ b
    or_both true = refl
    or_both false = refl

    heading_part : (p : ℕ) (k : NodeKind) →
        ((is_of kind.Decl k && checking.stands_in f kind.Routine p) || (is_of kind.Results k && checking.stands_in f kind.Routine p) || (is_of kind.Exc k && checking.is_kind_at f kind.Routine (checking.parent_of f (parent f p)))) ≡ of_tables.is_heading_part r k p
    heading_part p kind.Decl = or_both (checking.stands_in f kind.Routine p) ∙ in_routine (Some p)
    heading_part p kind.Results = or_false (checking.stands_in f kind.Routine p) ∙ in_routine (Some p)
    heading_part p kind.Exc = in_routine (parent f p)
    heading_part p _ = refl

    of_heading : (o : Option ℕ) → rules_of.is_of_heading f o ≡ of_tables.is_of_heading r o
    of_heading None = refl
    of_heading (Some p) = heading_part p (kind_at nodes p)

    misplaced : (items : ℕ → Item) (n : ℕ) → kind_at nodes n ≡ kind.Simple → rules_of.is_misplaced_word f n ≡ of_tables.is_misplaced_word r items n
    misplaced items n is =
        ap (λ (b : Bool). (b && not (rules_of.is_cluster_round f n && rules_of.is_of_heading f (parent f n))) || (rules_of.is_word simple.Rep (item f n).type && not (rules_of.is_cluster_round f n))) (word_is items nodes n is simple.Cvt)
        ∙ ap (λ (b : Bool). (of_tables.is_word_at r items simple.Cvt n && not (rules_of.is_cluster_round f n && b)) || (rules_of.is_word simple.Rep (item f n).type && not (rules_of.is_cluster_round f n))) (of_heading (parent f n))
        ∙ ap (λ (b : Bool). (of_tables.is_word_at r items simple.Cvt n && not (of_tables.is_of_cluster r n && of_tables.is_of_heading r (parent f n))) || (b && not (of_tables.is_of_cluster r n))) (word_is items nodes n is simple.Rep)

    v31_by : HaveForms nodes → IsTree nodes → (items : ℕ → Item) (n : ℕ) (k : NodeKind) → kind_at nodes n ≡ k → rules_of.v31_at f k n ≡ of_tables.v31_at r items k n
    v31_by shaped tree items n kind.Simple is = misplaced items n is
    v31_by shaped tree items n kind.Cluster is = ap not (one_rep shaped tree n is)
    v31_by shaped tree items n _ is = refl

    pub v31_is : HaveForms nodes → IsTree nodes → (items : ℕ → Item) (n : ℕ) → rules_of.v31 f n ≡ of_tables.v31 r items n
    v31_is shaped tree items n = v31_by shaped tree items n (kind_at nodes n) refl
