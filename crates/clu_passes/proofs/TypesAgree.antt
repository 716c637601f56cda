-- At a node before which no type is refused the rules by which types are refused say the same by tables as by the definitions, up to the first
-- that is violated.
use Rattle.std.proofs.Common.{◌≡◌, ◌∙◌, ◌⊎◌, ℕ, suc, ◌<◌, ◌≤◌, ◌&&◌, ◌||◌, not, Bool, true, false, List, [], ◌∷◌, length, drop, codes, Option, Some, None, inl, inr, refl, sym, ap, subst, arith}
use Rattle.std.specs.Prelude.{slice_get}
use Rattle.std.specs.List.{AllByRecursion, list_any}
use Rattle.std.proofs.Math.Bool.{and-false}
use Rattle.std.proofs.lemmas.Bool.{true≢false, or_right}
use Rattle.clu_base.specs.declared.rules.Rule.{Rule}
use Rattle.clu_base.specs.declared.rules.Rule.TheVariants as rule
use Rattle.clu_tree.specs.declared.node.Node.{Node}
use Rattle.clu_tree.specs.declared.node.NodeKind.{NodeKind}
use Rattle.clu_tree.specs.declared.node.NodeKind.TheVariants as kind
use Rattle.clu_parser.specs.Shape.{HaveForms}
use Rattle.clu_parser.specs.Trees.{Text}
use Rattle.clu_tree.specs.Nodes.{IsTree}
use Rattle.clu_syntax.specs.declared.words.SimpleType.{SimpleType}
use Rattle.clu_syntax.specs.declared.words.SimpleType.TheVariants as simple
use Rattle.clu_syntax.specs.Items.{Item}
use Rattle.clu_syntax.specs.Kinds.{kind_at, kind_of, is_expression, is_type}
use Rattle.clu_syntax.specs.Slots.{any, is_constant as is_constant_kind, slots}
use Rattle.clu_syntax.specs.Splits.{child, children_of, first_name, is_of}
use Rattle.clu_syntax.specs.Syntax.{Identifier, Constant, Literal, a_simple_type}
use Rattle.clu_syntax.specs.Words.{simple_type, symbol_in}
use Rattle.clu_names.specs.Scopes.{declarations}
use Rattle.clu_meaning.specs.Scoping.{Scope}
use Rattle.clu_checking.specs.Settled.{value_settled}
use Rattle.clu_checking.specs.Specifications.{Specification}
use Rattle.clu_checking.specs.Files.{File, scope_in, item, kind_in, is_kind, names, node_children, children, parent, round}
use Rattle.clu_checking.specs.Equates.{equates_at, equates_named, is_bad_name, is_circular, is_circular_at, names_unfolded}
use Rattle.clu_checking.specs.NameRules.{leads_to_circle, stands_twice, v7}
use Rattle.clu_checking.specs.ConstantRules as rules_of
use Rattle.clu_checking.specs.ConstantRules.{is_of_heading, is_word}
use Rattle.clu_checking.specs.ExpressionRules.{v17}
use Rattle.clu_checking.specs.Typing as typing
use Rattle.clu_checking.specs.Wanted as wants
use Rattle.clu_checking.specs.Wanted.{first_name_at, wanted}
use Rattle.clu_checking.specs.Rules as definition
use Rattle.clu_checking.specs.Refusals.{is_bad_of, is_no_type_at, rules_of_types}
use Rattle.clu_settle.specs.declared.value.Value.{Value}
use Rattle.clu_settle.specs.declared.value.Value.TheVariants as value
use Rattle.clu_settle.specs.Lists.{value_of}
use Rattle.clu_settle.specs.Lost.{IsLost, is_cvt, is_lost_word, is_source}
use Rattle.clu_settle.specs.Meant.{meanings_of}
use Rattle.clu_settle.specs.Names.{is_constant}
use Rattle.clu_settle.proofs.Parts.{constant_is}
use Rattle.clu_settle.proofs.Shapes.{first_part}
use Rattle.clu_declares.proofs.Each.{are_meanings}
use Rattle.clu_declares.proofs.Facts.{There, there}
use Rattle.clu_declares.proofs.Parents.{IsIn}
use Rattle.clu_bindings.specs.declared.file.File.{File as Read}
use Rattle.clu_bindings.specs.declared.meaning.Meaning.TheVariants as meant_as
use Rattle.clu_bindings.specs.declared.wanted.Wanted.{Wanted as WantedThere}
use Rattle.clu_bindings.specs.declared.wanted.Wanted.TheVariants as wanted_as
use Rattle.clu_bindings.specs.Readers.{children_in, meaning_in, value_in, wanted_in}
use Rattle.clu_name_rules.specs.declared.tables.Tables.{Tables}
use Rattle.clu_name_rules.specs.Components.{fields_in}
use Rattle.clu_name_rules.specs.ConstantRules as of_tables
use Rattle.clu_name_rules.specs.Constructors as constructors
use Rattle.clu_name_rules.specs.NameRules.{leads_to_mark}
use Rattle.clu_type_rules.specs.Asked.{is_asked, rules_at}
use Rattle.clu_type_rules.specs.Rules.{violates_of_types}
use Rattle.clu_passes.specs.Clear.{IsClear}
use Rattle.clu_passes.specs.ConstantTables.{file_with, AreBad, AreBracketsKnown, AreTables, IsEquateKnown, IsKnown, IsOperatorKnown, IsTypeNameKnown, IsWantedKnown}
use Rattle.clu_passes.specs.Constructed.{HasEachOnce, IsTyped}
use Rattle.clu_passes.specs.Counting.{names_of_fields}
use Rattle.clu_passes.specs.Made.{AreMade}
use Rattle.clu_passes.specs.Notes.{AreRepeated}
use Rattle.clu_passes.specs.Refusing.{AgreeOn, of_types}
use Rattle.clu_passes.specs.Tables.{AreMeanings, TellStrings}
use Rattle.clu_passes.specs.Trees.{IsFileOfTree}
use Rattle.clu_passes.proofs.Actuals.{v19_is}
use Rattle.clu_passes.proofs.ValuesKnown as at
use Rattle.clu_passes.proofs.ValuesKnown.{all_by, is_over_constants}
use Rattle.clu_passes.proofs.Constants.{IsTypeWantedSame, bad_constant, bad_rep, bad_rep_by, bad_type, too_long_constant, too_long_type, type_wanted, v8_by, v8_of_bad, v9_by, v9_of_bad}
use Rattle.clu_passes.proofs.Constructed.{v17_is}
use Rattle.clu_passes.proofs.FaultsFound.{agree_at}
use Rattle.clu_passes.proofs.FoundStrings.{found_strings}
use Rattle.clu_passes.proofs.ByNodes.{type_there as word_there}
use Rattle.clu_passes.proofs.CvtPlaces.{no_part, parent_told}
use Rattle.clu_passes.proofs.Literals.{v4_is}
use Rattle.clu_passes.proofs.LostRefused.{HasEquate, bad_named, circle_there, literal_told, refused_by, word_first}
use Rattle.clu_passes.proofs.Marked.{v7_is}
use Rattle.clu_passes.proofs.NamedEquates.{rep_led, type_led}
use Rattle.clu_passes.proofs.OnceThere.{once}
use Rattle.clu_passes.proofs.SettledStrings.{lost_short}
use Rattle.clu_passes.proofs.Strings.{strings_told}
use Rattle.clu_passes.proofs.Tables.{bound_is}
use Rattle.clu_passes.proofs.TablesMade.{tables_are}
use Rattle.clu_passes.proofs.Units.{declare_modules}
use Rattle.clu_passes.proofs.Unknown.{v5_is}
use Rattle.clu_passes.proofs.WantedSaid.{first_asked, first_said}
use Rattle.clu_passes.proofs.WhyLost.{NamesOdd, why_lost}
use Rattle.clu_passes.proofs.Words.{v10_is, v31_is}

-- ---- kinds

-- V19 is asked where all children are expressions and types
asked_over : (k : NodeKind) → is_asked k rule.ParameterKind ≡ true → is_over_constants k ≡ true
unfolding is_over_constants
asked_over kind.Parm e = refl
asked_over kind.NameT e = refl
asked_over kind.Name e = refl
asked_over kind.Index e = refl
asked_over kind.File e = absurd (true≢false (sym e))
asked_over kind.Infix e = refl
asked_over kind.Prefix e = refl
asked_over kind.Paren e = refl
asked_over _ e = absurd (true≢false (sym e))

pub no_operator : (r : Read) (k : NodeKind) (n : ℕ) → is_constant_kind k ≡ false → IsOperatorKnown r k n
no_operator r kind.Infix n e = absurd (true≢false e)
no_operator r kind.Prefix n e = absurd (true≢false e)
no_operator r kind.Paren n e = absurd (true≢false e)
no_operator r kind.File n e = tt
no_operator r _ n e = tt

an_operator : (r : Read) (k : NodeKind) (n : ℕ) → IsKnown r n → IsOperatorKnown r k n
an_operator r kind.Infix n known = known
an_operator r kind.Prefix n known = known
an_operator r kind.Paren n known = known
an_operator r kind.File n known = tt
an_operator r _ n known = tt

pub no_type_name : (r : Read) (k : NodeKind) (n : ℕ) → is_constant_kind k ≡ false → IsTypeNameKnown r k n
no_type_name r kind.NameT n e = absurd (true≢false e)
no_type_name r kind.Simple n e = absurd (true≢false e)
no_type_name r kind.File n e = tt
no_type_name r _ n e = tt

-- ---- tests

or_second : (a b c : Bool) → b ≡ true → (a || b || c) ≡ true
or_second true b c e = refl
or_second false b c e = ap (λ (x : Bool). x || c) e

or_fourth : (a b c d e : Bool) → d ≡ true → (a || b || c || d || e) ≡ true
or_fourth true b c d e h = refl
or_fourth false true c d e h = refl
or_fourth false false true d e h = refl
or_fourth false false false d e h = ap (λ (x : Bool). x || e) h

no_more : {A : Type 0} (name : Identifier) (others : List Identifier) → [] ≡ name ∷ others → A
no_more name others e = let size : 0 ≡ suc (length others) = ap length e in absurd (omega (arith, size))

cvt_alone : (n : ℕ) (w : SimpleType) → is_cvt w ≡ true → is_word simple.Rep (a_simple_type n w) ≡ false
cvt_alone n simple.Cvt e = refl
cvt_alone n simple.Null e = absurd (true≢false (sym e))
cvt_alone n simple.Bool e = absurd (true≢false (sym e))
cvt_alone n simple.Int e = absurd (true≢false (sym e))
cvt_alone n simple.Real e = absurd (true≢false (sym e))
cvt_alone n simple.Char e = absurd (true≢false (sym e))
cvt_alone n simple.String e = absurd (true≢false (sym e))
cvt_alone n simple.Any e = absurd (true≢false (sym e))
cvt_alone n simple.Rep e = absurd (true≢false (sym e))

cvt_there : (n : ℕ) (w : SimpleType) → is_cvt w ≡ true → is_word simple.Cvt (a_simple_type n w) ≡ true
cvt_there n simple.Cvt e = refl
cvt_there n _ e = absurd (true≢false (sym e))

module _ (t : Text) (its : Tables) (library : List Specification) (refused : List ℕ) (all : AreMade t its library refused)
    (lost : (n : ℕ) → n < length its.file.syntax.now → value_of its.file.values.now n ≡ value.Lost → IsLost its.file.syntax.now (meanings_of its.file.syntax.now its.file.rounds.now (declarations its.file.syntax.now its.file.rounds.now)) n)
    (meant : AreMeanings (file_with its.file (scope_in its.file.syntax.now its.file.rounds.now) library refused) its.file.names.now its.file.bindings.now.meanings.items)
    (repeated : AreRepeated (file_with its.file (scope_in its.file.syntax.now its.file.rounds.now) library refused) its.items.now.repeated.items)
    (items : ℕ → Item) (bits : List Bool) (bad : ℕ → Bool) (are_bad : AreBad (file_with its.file (scope_in its.file.syntax.now its.file.rounds.now) library refused) bits bad) where
  abbrev r : Read
  r = its.file

  abbrev nodes : List Node
  nodes = its.file.syntax.now

  abbrev scope : Scope
  scope = scope_in its.file.syntax.now its.file.rounds.now

  abbrev f : File
  f = file_with its.file (scope_in its.file.syntax.now its.file.rounds.now) library refused

  abbrev of_file : IsFileOfTree f
  of_file = at.of_tree t its library refused all lost

  are : AreTables f its
  are = tables_are t its library refused all

  shaped : HaveForms nodes
  shaped = all.file.parsed.forms

  its_tree : IsTree nodes
  its_tree = all.file.parsed.tree

  abbrev types_bad : ℕ → Bool
  types_bad = is_bad_of f (rules_of_types f)

  abbrev found : ℕ → Rule → Bool
  found n = violates_of_types its bits items n

  abbrev violated : ℕ → Rule → Bool
  violated n = of_types (definition.violates f bad n)

  -- ---- rules that are the same wherever they are asked

  strings : TellStrings f r.values.now
  strings = strings_told f its.types.now r.constants.now r.values.now all.file.values (found_strings f shaped its_tree r.values.now lost)

  same_range : (n : ℕ) → found n rule.LiteralRange ≡ violated n rule.LiteralRange
  same_range n = sym (v4_is f r.values.now strings items n)

  same_unknown : (n : ℕ) → found n rule.UnknownName ≡ violated n rule.UnknownName
  same_unknown n = sym (v5_is f r.names.now are.names r.bindings.now.meanings.items meant n)

  same_circle : (n : ℕ) → found n rule.CircularEquate ≡ violated n rule.CircularEquate
  same_circle n = sym (v7_is f shaped its.circular.now are.marks n ∙ ap (λ (bounds : List (Option ℕ)). leads_to_mark its.circular.now (kind_at f.nodes n) bounds) (sym (bound_is f r.names.now are.names n)))

  same_real : (n : ℕ) → found n rule.Real ≡ violated n rule.Real
  same_real n = sym (v10_is r scope library refused items n)

  same_place : (n : ℕ) → found n rule.CvtPlace ≡ violated n rule.CvtPlace
  same_place n = sym (v31_is r scope library refused shaped its_tree items n)

  -- ---- texts that are too long

  no_side : (n : ℕ) → is_constant nodes n ≡ false → rules_of.is_right_side f n ≡ false
  no_side n apart = by (rules_of.is_right_side f n) refl
    where
      by : (b : Bool) → rules_of.is_right_side f n ≡ b → b ≡ false
      by true side = absurd (true≢false (sym (are.sides n side) ∙ apart))
      by false side = refl

  long_constant : (n : ℕ) → n < length nodes → rules_of.is_too_long f rules_of.is_long_constant n ≡ (of_tables.is_right_side r n && of_tables.is_long_constant its.long_constants.now (value_in r n))
  long_constant n inside = elim (at.known_or_lost t its library refused all lost n) [
    | inl known ↦ too_long_constant its scope library refused shaped its_tree are n (λ const. known)
    | inr gone ↦ by (is_constant nodes n) refl gone ∙ sym (ap (λ (v : Value). of_tables.is_right_side r n && of_tables.is_long_constant its.long_constants.now v) gone ∙ and-false (of_tables.is_right_side r n))
  ]
    where
      by : (b : Bool) → is_constant nodes n ≡ b → value_in r n ≡ value.Lost → rules_of.is_too_long f rules_of.is_long_constant n ≡ false
      by true const gone =
          ap (λ (b : Bool). rules_of.is_right_side f n && (not (rules_of.is_cvt (item f n).constant) && b))
          (lost_short f of_file (are_meanings t nodes r.rounds.now all.file.parsed all.file.rounds all.file.few) n inside const (at.gone_at t its library refused all lost n inside gone))
          ∙ ap (λ (b : Bool). rules_of.is_right_side f n && b) (and-false (not (rules_of.is_cvt (item f n).constant)))
          ∙ and-false (rules_of.is_right_side f n)
      by false apart gone = ap (λ (b : Bool). b && (not (rules_of.is_cvt (item f n).constant) && rules_of.is_long_constant (value_settled scope (item f n).constant))) (no_side n apart)

  abbrev IsTypeLongSame : ℕ → Type 0
  IsTypeLongSame n = rules_of.is_too_long f rules_of.is_long_type n ≡ (of_tables.is_right_side r n && of_tables.is_long_type its.long_types.now (value_in r n))

  long_type : (n : ℕ) → (is_constant nodes n ≡ true → IsKnown r n) → IsTypeLongSame n
  long_type n known = too_long_type its scope library refused shaped its_tree are n known

  -- of `cvt` no length is asked
  long_cvt : (n : ℕ) → rules_of.is_cvt (item f n).constant ≡ true → value_in r n ≡ value.Lost → IsTypeLongSame n
  long_cvt n cvt gone =
      ap (λ (b : Bool). rules_of.is_right_side f n && (not b && rules_of.is_long_type (value_settled scope (item f n).constant))) cvt
      ∙ and-false (rules_of.is_right_side f n)
      ∙ sym (ap (λ (v : Value). of_tables.is_right_side r n && of_tables.is_long_type its.long_types.now v) gone ∙ and-false (of_tables.is_right_side r n))

  module _ (n : ℕ) (inside : n < length nodes) (clear : IsClear f n)
      (read : AllByRecursion (λ (name : Identifier). is_bad_name f types_bad n name ≡ true → is_bad_name f bad n name ≡ true) (names_unfolded f (kind_in f n) n)) where
    abbrev Agree : NodeKind → Type 0
    Agree k = AgreeOn (found n) (violated n) (rules_at k)

    as_kind : (k : NodeKind) → kind_in f n ≡ k → Agree k → Agree (kind_in f n)
    as_kind k is agree = subst Agree (sym is) agree

    below : (m : ℕ) → (round f n).first ≤ m → m < n → is_no_type_at f m ≡ false
    below = at.below t its library refused all lost n inside clear

    -- ---- the name of a circle: V7 is violated by both

    no_circle_there : (k : NodeKind) → kind_in f n ≡ k → leads_to_circle f k n ≡ list_any (is_circular_at f) (equates_named f n) → names_unfolded f k n ≡ [] → v7 f n ≡ true → Agree k
    no_circle_there k is leads no_names seven =
        absurd (true≢false (sym seven ∙ ap (λ (j : NodeKind). leads_to_circle f j n) is ∙ leads ∙ ap (λ (j : NodeKind). list_any (is_circular_at f) (equates_at f n (names_unfolded f j n))) is
        ∙ ap (λ (its : List Identifier). list_any (is_circular_at f) (equates_at f n its)) no_names))

    circle_by : (k : NodeKind) → kind_in f n ≡ k → v7 f n ≡ true → Agree k
    circle_by kind.Name is seven = (same_range n, λ a. (same_unknown n, λ b. (same_circle n, λ c. absurd (true≢false (sym seven ∙ c)))))
    circle_by kind.NameT is seven = (same_range n, λ a. (same_unknown n, λ b. (same_circle n, λ c. absurd (true≢false (sym seven ∙ c)))))
    circle_by kind.Simple is seven = (same_circle n, λ c. absurd (true≢false (sym seven ∙ c)))
    circle_by kind.Restrict is seven = (same_range n, λ a. (same_unknown n, λ b. (refl, λ c. (same_circle n, λ d. absurd (true≢false (sym seven ∙ d))))))
    circle_by kind.File is seven = no_circle_there kind.File is refl refl seven
    circle_by _ is seven = no_circle_there _ is refl refl seven

    -- ---- the name of an equate in which a type is refused: V8 or V9 is violated by both

    module _ (seven : v7 f n ≡ false) (x : NamesOdd f of_file n) where
      straight : is_bad_of f (rules_of_types f) x.its.equate ≡ true
      straight = elim x.why [
        | inl circle ↦ absurd (true≢false (sym (circle_there f of_file (kind_in f n) n x.right x.its refl circle) ∙ seven))
        | inr odd ↦ odd.1
      ]

      no_circle : is_circular f x.its.equate ≡ false
      no_circle = elim x.why [
        | inl circle ↦ absurd (true≢false (sym (circle_there f of_file (kind_in f n) n x.right x.its refl circle) ∙ seven))
        | inr odd ↦ odd.0
      ]

      bad_there : is_bad_name f bad n x.its.name ≡ true
      bad_there =
          (subst (AllByRecursion (λ (name : Identifier). is_bad_name f types_bad n name ≡ true → is_bad_name f bad n name ≡ true)) x.its.listed read).0
          (bad_named f of_file n x.right x.its no_circle straight)

      first_is : (k : NodeKind) → kind_in f n ≡ k → ((m : ℕ) → names_unfolded f k m ≡ names f m) → first_name_at f n ≡ x.its.name
      first_is k is unfolded = ap first_name (sym (ap (λ (k : NodeKind). names_unfolded f k n) is ∙ unfolded n) ∙ x.its.listed)

      named_bad : kind_in f n ≡ kind.Name → is_bad_name f bad n (first_name_at f n) ≡ true
      named_bad is = ap (is_bad_name f bad n) (first_is kind.Name is (λ m. refl)) ∙ bad_there

      -- a Name where no type is wanted alone
      name_hit : kind_in f n ≡ kind.Name → rules_of.is_type_wanted f bad (wanted f n) n ≡ false → rules_of.has_bad_constant f bad (kind_in f n) n ≡ true
      name_hit is wants_it =
          ap (λ (k : NodeKind). rules_of.has_bad_constant f bad k n) is ∙ ap (λ (b : Bool). is_bad_name f bad n (first_name_at f n) && not b) wants_it ∙ ap (λ (b : Bool). b && true) (named_bad is)

    type_hit : rules_of.has_bad_type f bad (kind_in f n) n ≡ true → rules_of.v9 f bad n ≡ true
    type_hit e =
        or_fourth (rules_of.is_neither f n && wants.wants_type f n) (rules_of.is_bad_rep f n) (rules_of.is_no_type f (kind_in f n) n) (rules_of.has_bad_type f bad (kind_in f n) n)
        (rules_of.is_too_long f rules_of.is_long_type n) e

    constant_hit : rules_of.has_bad_constant f bad (kind_in f n) n ≡ true → rules_of.v8 f bad n ≡ true
    constant_hit e =
        or_second (rules_of.is_neither f n && not (wants.wants_type f n)) (rules_of.has_bad_constant f bad (kind_in f n) n) (rules_of.is_too_long f rules_of.is_long_constant n) e

    module _ (same : IsTypeWantedSame its scope library refused shaped its_tree are bits bad are_bad n) where
      both_types : rules_of.has_bad_type f bad (kind_in f n) n ≡ true → found n rule.NotType ≡ violated n rule.NotType
      both_types e =
          v9_of_bad its scope library refused shaped its_tree are bits bad are_bad items n (sym (bad_type its scope library refused shaped its_tree are bits bad are_bad n same (kind_at nodes n) refl) ∙ e)
          ∙ sym (type_hit e)

      both_constants : rules_of.has_bad_constant f bad (kind_in f n) n ≡ true → found n rule.NotConstant ≡ violated n rule.NotConstant
      both_constants e =
          v8_of_bad its scope library refused shaped its_tree are bits bad are_bad n (sym (bad_constant its scope library refused shaped its_tree are bits bad are_bad n same (kind_at nodes n) refl) ∙ e)
          ∙ sym (constant_hit e)

      odd_constant : rules_of.has_bad_constant f bad (kind_in f n) n ≡ true → Agree kind.Name
      odd_constant hit = (same_range n, λ a. (same_unknown n, λ b. (same_circle n, λ c. (both_constants hit, λ d. absurd (true≢false (sym (constant_hit hit) ∙ d))))))

    -- before brackets no type is wanted, so it is V8

    first_agree : v7 f n ≡ false → at.IsOddFirst t its library refused all lost n inside clear → Agree (kind_in f n)
    first_agree seven x = as_kind kind.Name named (odd_constant wanted_same (name_hit seven x.odd named (none_asked (wanted f n) asked)))
      where
        none_asked : (w : wants.Wanted) → rules_of.is_constant_wanted w ≡ false → rules_of.is_type_wanted f bad w n ≡ false
        none_asked wants.a_constant e = absurd (true≢false e)
        none_asked wants.an_object e = refl
        none_asked wants.some_objects e = refl
        none_asked wants.a_loop_call e = refl
        none_asked wants.a_type e = refl
        none_asked wants.a_name_with_actuals e = refl
        none_asked wants.nothing e = refl

        none_there : (w : WantedThere) → of_tables.is_constant_wanted w ≡ false → of_tables.is_type_wanted r w n ≡ false
        none_there wanted_as.Constant e = absurd (true≢false e)
        none_there wanted_as.Object e = refl
        none_there wanted_as.Objects e = refl
        none_there wanted_as.LoopCall e = refl
        none_there wanted_as.Type e = refl
        none_there wanted_as.NameWithActuals e = refl
        none_there wanted_as.Nothing e = refl

        asked : rules_of.is_constant_wanted (wanted f n) ≡ false
        asked = first_asked r scope library refused n x.index x.others x.up x.is x.begins

        wanted_same : IsTypeWantedSame its scope library refused shaped its_tree are bits bad are_bad n
        wanted_same = none_asked (wanted f n) asked ∙ sym (none_there (wanted_in r n) (first_said r scope library refused n x.index x.others x.up x.is x.begins all.file.bindings inside))

        names_some : (k : NodeKind) → kind_in f n ≡ k → is_expression k ≡ true → kind_in f n ≡ kind.Name
        names_some kind.Name is expression = is
        names_some kind.NameT is expression = absurd (true≢false (sym expression))
        names_some kind.Simple is expression = absurd (true≢false (sym expression))
        names_some kind.File is expression = absurd (true≢false (sym expression))
        names_some _ is expression = no_more x.odd.its.name x.odd.its.others (sym (ap (λ (k : NodeKind). names_unfolded f k n) is) ∙ x.odd.its.listed)

        named : kind_in f n ≡ kind.Name
        named = names_some (kind_in f n) refl x.expression

    -- ---- where brackets are known

    module _ (beside : IsWantedKnown r n) where
      brackets : AreBracketsKnown r n
      brackets = record {
        own = at.own_known t its library refused all lost n inside clear;
        round = beside;
        above = at.above_known t its library refused all lost n inside clear;
      }

      -- ---- constructors

      type_there : (k : NodeKind) → kind_at nodes n ≡ k → is_kind f kind.Decl n ≡ false → is_kind f kind.Results n ≡ false → is_kind f kind.Exc n ≡ false → (c : ℕ) → IsIn c (children_in r n) → is_type (kind_at nodes c) ≡ true → IsKnown r c × (stands_twice (names_of_fields (fields_in (constructors.term_at its c))) ≡ false)
      type_there k is decl results exception c i typed = by (slice_get nodes n) refl i
        where
          by : (o : Option Node) → slice_get nodes n ≡ o → IsIn c (children_of o) → IsKnown r c × (stands_twice (names_of_fields (fields_in (constructors.term_at its c))) ≡ false)
          by None here i = absurd i
          by (Some node) here i =
              let b : at.IsBelow f of_file n c = at.child_below f of_file n node here c i in
              let first : (round f n).first ≤ (round f c).first = b.first in
              let least : (round f n).first ≤ c = b.least in
              let less : c < n = b.less in
              let there_is : c < length nodes = omega (arith, less, inside) in
              let up : parent f c ≡ Some n = parent_told f of_file c (record { parent = n; node = node; at = here; child = i }) in (
                at.found_known t its library refused all lost c there_is
                    (at.found_there t its library refused all lost c there_is (or_right (is_expression (kind_at nodes c)) (is_type (kind_at nodes c)) typed)
                    (ap (is_of_heading f) up ∙ no_part f n decl results exception)
                    (λ m low high. below m (omega (arith, low, first)) (omega (arith, high, less)))),
                once t its library refused all lost c typed (λ m low high. below m (omega (arith, low, first)) (omega (arith, high, less))) (below c least less),
              )

      abbrev IsFit : NodeKind → List ℕ → Type 0
      IsFit k cs = IsTyped its k cs × HasEachOnce its k cs

      fields_fit : kind_at nodes n ≡ kind.Fields → IsFit kind.Fields (children_in r n)
      fields_fit is =
          let x : There nodes n kind.Fields = there nodes n kind.Fields refl is in
          let first = first_part nodes its_tree shaped is_type (any (is_of kind.FieldE) ∷ []) n x.node x.at (ap slots x.is) in
          let whole : children_in r n ≡ child 0 x.node ∷ drop 1 x.node.children = ap children_of x.at ∙ first.is in
          subst (IsFit kind.Fields) (sym whole)
          (type_there kind.Fields is (ap (is_of kind.Decl) is) (ap (is_of kind.Results) is) (ap (is_of kind.Exc) is) (child 0 x.node) (subst (IsIn (child 0 x.node)) (sym whole) (inl refl)) first.first.1)

      elements_fit : kind_at nodes n ≡ kind.Elems → IsFit kind.Elems (children_in r n)
      elements_fit is =
          let x : There nodes n kind.Elems = there nodes n kind.Elems refl is in
          let first = first_part nodes its_tree shaped is_type (any is_expression ∷ []) n x.node x.at (ap slots x.is) in
          let whole : children_in r n ≡ child 0 x.node ∷ drop 1 x.node.children = ap children_of x.at ∙ first.is in
          subst (IsFit kind.Elems) (sym whole)
          ((type_there kind.Elems is (ap (is_of kind.Decl) is) (ap (is_of kind.Results) is) (ap (is_of kind.Exc) is) (child 0 x.node) (subst (IsIn (child 0 x.node)) (sym whole) (inl refl)) first.first.1).0, tt)

      fits : (k : NodeKind) → kind_at nodes n ≡ k → IsFit k (children_in r n)
      fits kind.Fields is = fields_fit is
      fits kind.Elems is = elements_fit is
      fits kind.File is = (tt, tt)
      fits _ is = (tt, tt)

      once_below : AllByRecursion (λ (c : ℕ). v17 f c ≡ false) (children f n)
      once_below = by (slice_get nodes n) refl
        where
          none_at : (c : ℕ) → is_no_type_at f c ≡ false → (b : Bool) → v17 f c ≡ b → v17 f c ≡ false
          none_at c fine true hit = absurd (true≢false (sym (refused_by f of_file c 6 rule.Selectors refl hit) ∙ fine))
          none_at c fine false miss = miss

          by : (o : Option Node) → slice_get nodes n ≡ o → AllByRecursion (λ (c : ℕ). v17 f c ≡ false) (node_children f o)
          by None here = tt
          by (Some node) here = all_by (λ (c : ℕ). v17 f c ≡ false) node.children (λ c i. let b : at.IsBelow f of_file n c = at.child_below f of_file n node here c i in none_at c (below c b.least b.less) (v17 f c) refl)

      same_selectors : found n rule.Selectors ≡ violated n rule.Selectors
      same_selectors =
          let fit = fits (kind_at nodes n) refl in
          sym (v17_is its scope library refused shaped its_tree are (at.parents t its library refused all lost) (declare_modules t f all.file.parsed all.file.rounds refl) repeated items n brackets.round fit.0 fit.1 once_below)

      same_kinds : is_over_constants (kind_at nodes n) ≡ true → found n rule.ParameterKind ≡ violated n rule.ParameterKind
      same_kinds over = sym (v19_is its scope library refused shaped its_tree are n (at.children_known t its library refused all lost n inside clear over) brackets)

      -- ---- where what V8 and V9 read is known

      same_constant : IsOperatorKnown r (kind_at nodes n) n → found n rule.NotConstant ≡ violated n rule.NotConstant
      same_constant operator = sym (v8_by its scope library refused shaped its_tree are bits bad are_bad n operator brackets (long_constant n inside))

      module _ (operator : IsOperatorKnown r (kind_at nodes n) n) (type_name : IsTypeNameKnown r (kind_at nodes n) n) (rep_side : rules_of.is_bad_rep f n ≡ of_tables.is_bad_rep r items n) (long : IsTypeLongSame n) where
        same_type : found n rule.NotType ≡ violated n rule.NotType
        same_type = sym (v9_by its scope library refused shaped its_tree are bits bad are_bad items n operator type_name brackets rep_side long)

        same_at : (x : Rule) → is_asked (kind_in f n) x ≡ true → found n x ≡ violated n x
        same_at rule.LiteralRange asked = same_range n
        same_at rule.UnknownName asked = same_unknown n
        same_at rule.CircularEquate asked = same_circle n
        same_at rule.NotConstant asked = same_constant operator
        same_at rule.NotType asked = same_type
        same_at rule.Real asked = same_real n
        same_at rule.Selectors asked = same_selectors
        same_at rule.ParameterKind asked = same_kinds (asked_over (kind_in f n) asked)
        same_at rule.CvtPlace asked = same_place n
        same_at _ asked = refl

        known_agree : Agree (kind_in f n)
        known_agree = agree_at (found n) (violated n) (kind_in f n) same_at

      -- ---- the name of an equate in which a type is refused

      module _ (seven : v7 f n ≡ false) (x : NamesOdd f of_file n) where
        wanted_same : IsTypeWantedSame its scope library refused shaped its_tree are bits bad are_bad n
        wanted_same = type_wanted its scope library refused shaped its_tree are bits bad are_bad n brackets

        odd_name : kind_in f n ≡ kind.Name → Agree kind.Name
        odd_name is = by (rules_of.is_type_wanted f bad (wanted f n) n) refl
          where
            by : (b : Bool) → rules_of.is_type_wanted f bad (wanted f n) n ≡ b → Agree kind.Name
            by true wants_it =
                let hit : rules_of.has_bad_type f bad (kind_in f n) n ≡ true =
                ap (λ (k : NodeKind). rules_of.has_bad_type f bad k n) is ∙ ap (λ (b : Bool). is_bad_name f bad n (first_name_at f n) && b) wants_it ∙ ap (λ (b : Bool). b && true) (named_bad seven x is) in
                (same_range n, λ a. (same_unknown n, λ b. (same_circle n, λ c. (same_constant (subst (λ (k : NodeKind). IsOperatorKnown r k n) (sym is) tt), λ d. (both_types wanted_same hit, λ e. absurd (true≢false (sym (type_hit hit) ∙ e)))))))
            by false wants_it = odd_constant wanted_same (name_hit seven x is wants_it)

        odd_type : kind_in f n ≡ kind.NameT → Agree kind.NameT
        odd_type is =
            let hit : rules_of.has_bad_type f bad (kind_in f n) n ≡ true =
            ap (λ (k : NodeKind). rules_of.has_bad_type f bad k n) is ∙ ap (is_bad_name f bad n) (first_is seven x kind.NameT is (λ m. refl)) ∙ bad_there seven x in
            (same_range n, λ a. (same_unknown n, λ b. (same_circle n, λ c. (both_types wanted_same hit, λ d. absurd (true≢false (sym (type_hit hit) ∙ d))))))

        odd_rep : kind_in f n ≡ kind.Simple → Agree kind.Simple
        odd_rep is =
            let word = word_first f of_file (item f n).type x.its.name x.its.others (sym (ap (λ (k : NodeKind). names_unfolded f k n) is) ∙ x.its.listed) in
            let hit : rules_of.has_bad_type f bad (kind_in f n) n ≡ true =
            ap (λ (k : NodeKind). rules_of.has_bad_type f bad k n) is
            ∙ ap (λ (b : Bool). b && is_bad_name f bad n (codes "rep")) word.0
            ∙ ap (is_bad_name f bad n) (sym word.1) ∙ bad_there seven x in
            (same_circle n, λ a. (both_types wanted_same hit, λ b. absurd (true≢false (sym (type_hit hit) ∙ b))))

        odd_by : (k : NodeKind) → kind_in f n ≡ k → Agree k
        odd_by kind.Name is = odd_name is
        odd_by kind.NameT is = odd_type is
        odd_by kind.Simple is = odd_rep is
        odd_by kind.File is = no_more x.its.name x.its.others (sym (ap (λ (k : NodeKind). names_unfolded f k n) is) ∙ x.its.listed)
        odd_by _ is = no_more x.its.name x.its.others (sym (ap (λ (k : NodeKind). names_unfolded f k n) is) ∙ x.its.listed)

        pub odd_agree : Agree (kind_in f n)
        odd_agree = odd_by (kind_in f n) refl

      -- ---- a word that is lost

      word_agree : (k : NodeKind) (node : Node) → slice_get nodes n ≡ Some node → node.kind ≡ k → is_lost_word k node.value ≡ true → value_in r n ≡ value.Lost → Agree (kind_in f n)
      word_agree kind.Literal node here is e gone =
          as_kind kind.Literal (ap kind_of here ∙ is) (same_range n, λ a. absurd (true≢false (sym (literal_told f of_file n node here is e) ∙ a)))
      word_agree kind.Simple node here is e gone =
          known_agree (subst (λ (k : NodeKind). IsOperatorKnown r k n) (sym its_kind) tt)
          (subst (λ (k : NodeKind). IsTypeNameKnown r k n) (sym its_kind) (λ word. absurd (true≢false (sym word ∙ no_rep))))
          (bad_rep_by its scope library refused shaped its_tree are items n (λ const. side ∙ sym side_too))
          (long_cvt n its_cvt gone)
        where
          its_kind : kind_in f n ≡ kind.Simple
          its_kind = ap kind_of here ∙ is

          its_cvt : rules_of.is_cvt (item f n).constant ≡ true
          its_cvt =
              ap rules_of.is_cvt (constant_is nodes n true (ap is_type its_kind))
              ∙ ap (is_word simple.Cvt) (word_there f shaped n node here is) ∙ cvt_there n (simple_type (symbol_in node.value)) e

          no_rep : is_word simple.Rep (item f n).type ≡ false
          no_rep = ap (is_word simple.Rep) (word_there f shaped n node here is) ∙ cvt_alone n (simple_type (symbol_in node.value)) e

          side : rules_of.is_no_type_side f (kind_in f n) n ≡ false
          side =
              ap (λ (k : NodeKind). rules_of.is_no_type_side f k n) its_kind
              ∙ ap (λ (c : Constant). not (typing.is_type_value (value_settled scope c)) && not (rules_of.is_real_literal (item f n).expression)) (constant_is nodes n true (ap is_type its_kind))

          side_too : of_tables.is_no_type_side r items (kind_at nodes n) n ≡ false
          side_too =
              ap (λ (k : NodeKind). of_tables.is_no_type_side r items k n) its_kind
              ∙ ap (λ (v : Value). not (of_tables.is_type_value v) && not (of_tables.is_real_literal (of_tables.item_in r items n).expression)) gone
      word_agree kind.File node here is e gone = absurd (true≢false (sym e))
      word_agree _ node here is e gone = absurd (true≢false (sym e))

      -- ---- whatever is lost

      equate_or_odd : ((right : ℕ) → meaning_in r n ≡ meant_as.Equate right → HasEquate f of_file n right) → NamesOdd f of_file n ⊎ IsEquateKnown r (meaning_in r n)
      equate_or_odd led = at.equate_or_odd t its library refused all lost n led

      type_name_or_odd : (k : NodeKind) → kind_at nodes n ≡ k → NamesOdd f of_file n ⊎ IsTypeNameKnown r k n
      type_name_or_odd kind.NameT is = equate_or_odd (λ right e. type_led t r library refused all.file.parsed all.file.rounds all.file.few all.file.names all.file.bindings of_file n right is e)
      type_name_or_odd kind.Simple is = by (is_word simple.Rep (item f n).type) refl
        where
          by : (b : Bool) → is_word simple.Rep (item f n).type ≡ b → NamesOdd f of_file n ⊎ IsTypeNameKnown r kind.Simple n
          by true word = elim (equate_or_odd (λ right e. rep_led t r library refused all.file.parsed all.file.rounds all.file.few all.file.names all.file.bindings of_file n right is word e)) [
            | inl odd ↦ inl odd
            | inr known ↦ inr (λ again. known)
          ]
          by false word = inr (λ again. absurd (true≢false (sym again ∙ word)))
      type_name_or_odd kind.File is = inr tt
      type_name_or_odd _ is = inr tt

      constant_agree : v7 f n ≡ false → is_constant nodes n ≡ true → Agree (kind_in f n)
      constant_agree seven const = elim (at.known_or_lost t its library refused all lost n) [
        | inl known ↦ elim (type_name_or_odd (kind_at nodes n) refl) [
          | inl odd ↦ odd_agree seven odd
          | inr type_name ↦ known_agree (an_operator r (kind_at nodes n) n known) type_name (bad_rep its scope library refused shaped its_tree are items n (λ const. known)) (long_type n (λ const. known))
        ]
        | inr gone ↦ elim (why_lost f of_file n inside (at.parts_found t its library refused all lost n inside clear const) (at.gone_at t its library refused all lost n inside gone)) [
          | inl word ↦ by (slice_get nodes n) refl word gone
          | inr odd ↦ odd_agree seven odd
        ]
      ]
        where
          by : (o : Option Node) → slice_get nodes n ≡ o → is_source o ≡ true → value_in r n ≡ value.Lost → Agree (kind_in f n)
          by None here word gone = absurd (true≢false (sym const ∙ ap (λ (o : Option Node). is_expression (kind_of o) || is_type (kind_of o)) here))
          by (Some node) here word gone = word_agree node.kind node here refl word gone

      other_agree : is_constant nodes n ≡ false → Agree (kind_in f n)
      other_agree apart =
          known_agree (no_operator r (kind_at nodes n) n apart) (no_type_name r (kind_at nodes n) n apart)
          (bad_rep its scope library refused shaped its_tree are items n (λ const. absurd (true≢false (sym const ∙ apart))))
          (long_type n (λ const. absurd (true≢false (sym const ∙ apart))))

      straight_agree : v7 f n ≡ false → Agree (kind_in f n)
      straight_agree seven = by (is_constant nodes n) refl
        where
          by : (b : Bool) → is_constant nodes n ≡ b → Agree (kind_in f n)
          by true const = constant_agree seven const
          by false apart = other_agree apart

    pub types_agree : AgreeOn (violates_of_types its bits items n) (of_types (definition.violates f bad n)) (rules_at (kind_in f n))
    types_agree = by (v7 f n) refl
      where
        by : (b : Bool) → v7 f n ≡ b → Agree (kind_in f n)
        by true seven = circle_by (kind_in f n) refl seven
        by false seven = elim (at.round_known t its library refused all lost n inside clear) [
          | inl first ↦ first_agree seven first
          | inr beside ↦ straight_agree beside seven
        ]
