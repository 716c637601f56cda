-- What is known at a node at which nothing is lost: the equates that are named there and before the brackets round it, and its own value, if
-- it is not `cvt`.
use Rattle.std.proofs.Common.{◌≡◌, ◌∙◌, ◌⊎◌, ℕ, ◌<◌, ◌&&◌, ◌||◌, Bool, true, false, List, [], ◌∷◌, length, drop, get_or, Option, Some, None, inl, inr, refl, sym, ap, ap₂, subst, arith}
use Rattle.std.specs.Prelude.{slice_get}
use Rattle.std.proofs.lemmas.Bool.{true≢false}
use Rattle.std.proofs.lemmas.Option.{none-some, slice_get_within}
use Rattle.clu_base.specs.declared.rules.Rule.TheVariants as rule
use Rattle.clu_tree.specs.declared.node.Node.{Node}
use Rattle.clu_tree.specs.declared.node.NodeKind.{NodeKind}
use Rattle.clu_tree.specs.declared.node.NodeKind.TheVariants as kind
use Rattle.clu_parser.specs.Trees.{Text}
use Rattle.clu_syntax.specs.declared.words.SimpleType.{SimpleType}
use Rattle.clu_syntax.specs.declared.words.SimpleType.TheVariants as simple
use Rattle.clu_syntax.specs.Kinds.{is_expression, is_type, kind_at, kind_of}
use Rattle.clu_syntax.specs.Splits.{child, is_of}
use Rattle.clu_syntax.specs.Syntax.{a_simple_type}
use Rattle.clu_syntax.specs.Words.{simple_type, symbol_in}
use Rattle.clu_checking.specs.Specifications.{Specification}
use Rattle.clu_checking.specs.Files.{File, children, item, node_children, parent, scope_in}
use Rattle.clu_checking.specs.ConstantRules.{is_word}
use Rattle.clu_checking.specs.Refusals.{is_bad_of, rules_of_types}
use Rattle.clu_checking.specs.Rules.{violates}
use Rattle.clu_settle.specs.Lost.{is_cvt, is_lost_word, is_source}
use Rattle.clu_settle.specs.Names.{is_constant}
use Rattle.clu_bindings.specs.declared.file.File.{File as Read}
use Rattle.clu_bindings.specs.declared.meaning.Meaning.TheVariants as meant
use Rattle.clu_bindings.specs.Readers.{meaning_in, round_in, value_in}
use Rattle.clu_name_rules.specs.declared.tables.Tables.{Tables}
use Rattle.clu_passes.specs.Clear.{IsClear}
use Rattle.clu_passes.specs.ConstantTables.{AreBracketsKnown, AreWantedKnown, IsEquateKnown, IsIndexKnown, IsIndexKnownAt, IsKnown, IsWantedKnown, file_with}
use Rattle.clu_passes.specs.Lost.{lost, rules_of_values}
use Rattle.clu_passes.specs.Made.{IsWhole}
use Rattle.clu_passes.specs.Notes.{HaveParents}
use Rattle.clu_passes.specs.Trees.{IsFileOfTree}
use Rattle.clu_passes.proofs.ByNodes.{type_there as word_there}
use Rattle.clu_passes.proofs.LostNodes.{clear_there, fine_itself, no_cvt, odd_itself, under}
use Rattle.clu_passes.proofs.LostRefused.{HasEquate, literal_told, some_least}
use Rattle.clu_passes.proofs.NamedEquates.{expression_led, rep_led, type_led}
use Rattle.clu_passes.proofs.ValuesKnown as at
use Rattle.clu_passes.proofs.WhyLost.{NamesOdd, why_lost}

cvt_word : (n : ℕ) (w : SimpleType) → is_cvt w ≡ true → is_word simple.Cvt (a_simple_type n w) ≡ true
cvt_word n simple.Cvt e = refl
cvt_word n _ e = absurd (true≢false (sym e))

module _ (t : Text) (its : Tables) (library : List Specification) (refused : List ℕ) (whole : IsWhole t its library refused) where
  abbrev r : Read
  r = its.file

  abbrev nodes : List Node
  nodes = its.file.syntax.now

  abbrev f : File
  f = file_with its.file (scope_in its.file.syntax.now its.file.rounds.now) library refused

  abbrev of : IsFileOfTree f
  of = at.of_tree t its library refused whole.made whole.lost

  abbrev parents : HaveParents f
  parents = at.parents t its library refused whole.made whole.lost

  -- `cvt`, which stands for no type by itself
  abbrev pub IsCvt : ℕ → Type 0
  IsCvt n = (kind_at nodes n ≡ kind.Simple) × (is_word simple.Cvt (item f n).type ≡ true)

  module _ (n : ℕ) (fine : lost f n ≡ false) where
    clear : IsClear f n
    clear = clear_there f of parents n fine

    not_odd : NamesOdd f of n → ⊥
    not_odd x = true≢false (sym (odd_itself f of n x) ∙ fine_itself f n fine)

    -- ---- names

    by_led : ((right : ℕ) → meaning_in r n ≡ meant.Equate right → HasEquate f of n right) → IsEquateKnown r (meaning_in r n)
    by_led led = elim (at.equate_or_odd t its library refused whole.made whole.lost n led) [
      | inl odd ↦ absurd (not_odd odd)
      | inr known ↦ known
    ]

    pub name_known : is_expression (kind_at nodes n) ≡ true → IsEquateKnown r (meaning_in r n)
    name_known is =
        by_led (λ right e. expression_led t r library refused whole.made.file.parsed whole.made.file.rounds whole.made.file.few whole.made.file.names whole.made.file.bindings of n right is e)

    pub type_name_known : kind_at nodes n ≡ kind.NameT → IsEquateKnown r (meaning_in r n)
    type_name_known is =
        by_led (λ right e. type_led t r library refused whole.made.file.parsed whole.made.file.rounds whole.made.file.few whole.made.file.names whole.made.file.bindings of n right is e)

    pub rep_known : kind_at nodes n ≡ kind.Simple → is_word simple.Rep (item f n).type ≡ true → IsEquateKnown r (meaning_in r n)
    rep_known is word =
        by_led (λ right e. rep_led t r library refused whole.made.file.parsed whole.made.file.rounds whole.made.file.few whole.made.file.names whole.made.file.bindings of n right is word e)

    -- ---- its own value

    module _ (inside : n < length nodes) (const : is_constant nodes n ≡ true) where
      word_by : (k : NodeKind) (node : Node) → slice_get nodes n ≡ Some node → node.kind ≡ k → is_lost_word k node.value ≡ true → IsCvt n
      word_by kind.Literal node here is e =
          absurd (true≢false (sym (some_least (violates f (is_bad_of f (rules_of_types f)) n) rules_of_values 0 rule.LiteralRange refl (literal_told f of n node here is e)) ∙ fine_itself f n fine))
      word_by kind.Simple node here is e =
          (ap kind_of here ∙ is, ap (is_word simple.Cvt) (word_there f whole.made.file.parsed.forms n node here is) ∙ cvt_word n (simple_type (symbol_in node.value)) e)
      word_by kind.File node here is e = absurd (true≢false (sym e))
      word_by _ node here is e = absurd (true≢false (sym e))

      word_at : (o : Option Node) → slice_get nodes n ≡ o → is_source o ≡ true → IsCvt n
      word_at None here e = absurd (true≢false (sym const ∙ ap (λ (o : Option Node). is_expression (kind_of o) || is_type (kind_of o)) here))
      word_at (Some node) here e = word_by node.kind node here refl e

      pub known_or_cvt : IsKnown r n ⊎ IsCvt n
      known_or_cvt = elim (at.known_or_lost t its library refused whole.made whole.lost n) [
        | inl known ↦ inl known
        | inr gone ↦ elim (why_lost f of n inside (at.parts_found t its library refused whole.made whole.lost n inside clear const) (at.gone_at t its library refused whole.made whole.lost n inside gone)) [
          | inl word ↦ inr (word_at (slice_get nodes n) refl word)
          | inr odd ↦ absurd (not_odd odd)
        ]
      ]

    -- ---- brackets

    pub index_known : n < length nodes → IsIndexKnown r n
    index_known inside = at.own_known t its library refused whole.made whole.lost n inside clear

    pub wanted_known : IsWantedKnown r n
    wanted_known = by (parent f n) refl
      where
        by : (o : Option ℕ) → parent f n ≡ o → IsIndexKnownAt r o
        by None up = tt
        by (Some p) up = subst (IsIndexKnownAt r) up (unless_odd (at.round_known t its library refused whole.made whole.lost n inside clear))
          where
            inside : n < length nodes
            inside =
                let x = under f of parents n p up in
                let less : n < p = (at.child_below f of p x.0 x.1 n x.2).less in
                let there : p < length nodes = slice_get_within nodes p x.0 x.1 in
                omega (arith, less, there)

            unless_odd : at.IsOddFirst t its library refused whole.made whole.lost n inside clear ⊎ IsWantedKnown r n → IsWantedKnown r n
            unless_odd (inl first) = absurd (not_odd first.odd)
            unless_odd (inr known) = known

    pub brackets_known : n < length nodes → AreBracketsKnown r n
    brackets_known inside = record {
      own = index_known inside;
      round = wanted_known;
      above = at.above_known t its library refused whole.made whole.lost n inside clear;
    }

  -- ---- of all such nodes

  pub wanted_there : AreWantedKnown r (lost f)
  wanted_there n fine = wanted_known n fine

  pub expression_value : (n : ℕ) → lost f n ≡ false → is_expression (kind_at nodes n) ≡ true → IsKnown r n
  expression_value n fine is = by (slice_get nodes n) refl
    where
      by : (o : Option Node) → slice_get nodes n ≡ o → IsKnown r n
      by None here = absurd (true≢false (sym is ∙ ap (λ (o : Option Node). is_expression (kind_of o)) here))
      by (Some node) here = elim (known_or_cvt n fine (slice_get_within nodes n node here) (ap (λ (b : Bool). b || is_type (kind_at nodes n)) is)) [
        | inl known ↦ known
        | inr cvt ↦ absurd (true≢false (sym is ∙ ap is_expression cvt.0))
      ]

  pub type_value : (n : ℕ) → lost f n ≡ false → is_type (kind_at nodes n) ≡ true → IsKnown r n
  type_value n fine is = by (slice_get nodes n) refl
    where
      or_type : (a b : Bool) → b ≡ true → (a || b) ≡ true
      or_type true b e = refl
      or_type false b e = e

      by : (o : Option Node) → slice_get nodes n ≡ o → IsKnown r n
      by None here = absurd (true≢false (sym is ∙ ap (λ (o : Option Node). is_type (kind_of o)) here))
      by (Some node) here = elim (known_or_cvt n fine (slice_get_within nodes n node here) (or_type (is_expression (kind_at nodes n)) (is_type (kind_at nodes n)) is)) [
        | inl known ↦ known
        | inr cvt ↦ absurd (true≢false (sym (ap₂ (λ (k : NodeKind) (b : Bool). is_of kind.Simple k && b) cvt.0 cvt.1) ∙ no_cvt f n fine))
      ]
