-- The components and tags of the types that rules look at ascend by name.
use Rattle.std.proofs.Common.{◌≡◌, ◌∙◌, ℕ, Bool, true, false, List, [], Option, Some, None, slice_get, option_map, option_and_then, refl, sym, ap, subst}
use Rattle.std.proofs.lemmas.Option.{none-some, same_Some}
use Rattle.clu_tree.specs.Nodes.{IsTree}
use Rattle.clu_parser.specs.Shape.{HaveForms}
use Rattle.clu_types.specs.CluType.{CluType, oneof_of, variant_of, Fields}
use Rattle.clu_types.specs.declared.term.Field.{Field}
use Rattle.clu_types.specs.declared.term.Term.{Term}
use Rattle.clu_types.specs.declared.term.TypeId.{TypeId}
use Rattle.clu_types.specs.Arena.{IsArena, fields_at, type_at, types_of}
use Rattle.clu_syntax.specs.Nodes.{item_at}
use Rattle.clu_syntax.specs.Syntax.{Statement, a_tagcase}
use Rattle.clu_meaning.specs.Scoping.{Scope}
use Rattle.clu_meaning.specs.Settling.{settled, value_of_constant}
use Rattle.clu_checking.specs.Specifications.{Specification}
use Rattle.clu_checking.specs.Files.{File, item, parent}
use Rattle.clu_checking.specs.StatementRules as statements
use Rattle.clu_settle.specs.declared.value.Value.{Value}
use Rattle.clu_settle.specs.declared.value.Value.TheVariants as value
use Rattle.clu_settle.specs.Lists.{type_id, value_of}
use Rattle.clu_settle.specs.Names.{is_constant}
use Rattle.clu_settle.specs.Settled.{AreSettled}
use Rattle.clu_settle.specs.Values.{told, Agrees}
use Rattle.clu_bindings.specs.Readers.{value_in}
use Rattle.clu_name_rules.specs.declared.tables.Tables.{Tables}
use Rattle.clu_name_rules.specs.Components.{AreAscending, fields_in}
use Rattle.clu_name_rules.specs.Constructors.{ValuesAscend, term_of}
use Rattle.clu_type_rules.specs.declared.known.Known.{Known}
use Rattle.clu_type_rules.specs.Tags.{TagsAscend, tags_round}
use Rattle.clu_passes.specs.Ascending.{Ascends, AscendsIf, FieldsAscend, SpecificationsAscend}
use Rattle.clu_passes.specs.Bound.{IsFirstKnown}
use Rattle.clu_passes.specs.ConstantTables.{AreTables}
use Rattle.clu_passes.specs.FactTables.{AreFacts}
use Rattle.clu_passes.proofs.ExpressionsAscend.{expression_up}
use Rattle.clu_passes.proofs.FactNodes as so
use Rattle.clu_passes.proofs.SettledAscend.{ValueAscends, value_settled_ascends}
use Rattle.clu_passes.proofs.Strings.{value_same}
use Rattle.clu_passes.proofs.TagsRound.{TagsTold, round_told}
use Rattle.clu_passes.proofs.TermsAscend.{arena_ascends, sorted}

-- ---- of values

module _ (t : Tables) (scope : Scope) (known : AreSettled t.file.syntax.now scope t.types.now t.file.constants.now t.file.values.now) (arena : IsArena t.types.now) where
  of_none : AreAscending (fields_in (term_of t.types.now None))
  of_none = sorted (types_of t.types.now) [] tt

  -- a constant that is known
  of_constant : (n : ℕ) → is_constant t.file.syntax.now n ≡ true → (v : Value) → value_of t.file.values.now n ≡ v → AreAscending (fields_in (term_of t.types.now (type_id v)))
  of_constant n is (value.Type id) at =
      let agrees : Agrees (told (types_of t.types.now) t.file.constants.now (value.Type id)) (value_of_constant scope (settled scope) (item_at t.file.syntax.now n).constant) =
      subst (λ (v : Value). Agrees (told (types_of t.types.now) t.file.constants.now v) (value_of_constant scope (settled scope) (item_at t.file.syntax.now n).constant)) at (known.each n is) in
      arena_ascends t.types.now arena id (subst ValueAscends agrees (value_settled_ascends scope (item_at t.file.syntax.now n).constant))
  of_constant n is value.Nothing at = of_none
  of_constant n is value.Lost at = of_none
  of_constant n is (value.Constant k) at = of_none
  of_constant n is (value.Parameter k) at = of_none

  pub values_ascend : ((n : ℕ) → is_constant t.file.syntax.now n ≡ false → type_id (value_in t.file n) ≡ None) → ValuesAscend t
  values_ascend others n = by (is_constant t.file.syntax.now n) refl
    where
      by : (b : Bool) → is_constant t.file.syntax.now n ≡ b → AreAscending (fields_in (term_of t.types.now (type_id (value_in t.file n))))
      by true is =
          subst (λ (v : Value). AreAscending (fields_in (term_of t.types.now (type_id v)))) (sym (value_same t.file.values.now n)) (of_constant n is (value_of t.file.values.now n) refl)
      by false is = subst (λ (o : Option TypeId). AreAscending (fields_in (term_of t.types.now o))) (sym (others n is)) of_none

-- ---- of tags

of_type : (t : CluType) → Ascends t → (fields : Fields) → statements.tags_of t ≡ Some fields → FieldsAscend fields
of_type (oneof_of its) up fields e = subst FieldsAscend (same_Some its fields e) up
of_type (variant_of its) up fields e = subst FieldsAscend (same_Some its fields e) up
of_type _ up fields e = absurd (none-some fields e)

of_tags : (t : Option CluType) → AscendsIf t → (fields : Fields) → option_and_then statements.tags_of t ≡ Some fields → FieldsAscend fields
of_tags None up fields e = absurd (none-some fields e)
of_tags (Some t) up fields e = of_type t up fields e

module _ (f : File) (library : SpecificationsAscend f.library) where
  tagged_up : (s : Statement) → AscendsIf (statements.tagged_by f s)
  tagged_up (a_tagcase n e arms other) = expression_up f library e
  tagged_up _ = tt

  round_up : (o : Option ℕ) → AscendsIf (statements.tagged_at f o)
  round_up None = tt
  round_up (Some p) = tagged_up (item f p).statement

module _ (k : Known) (scope : Scope) (library : List Specification) (refused : List ℕ) (shaped : HaveForms k.tables.file.syntax.now) (tree : IsTree k.tables.file.syntax.now) where
  abbrev f : File
  f = so.f k scope library refused

  abbrev terms : List Term
  terms = k.tables.types.now

  pub tags_ascend : AreTables f k.tables → (lost : ℕ → Bool) → AreFacts f terms k.facts.now lost → SpecificationsAscend library → (n : ℕ) → IsFirstKnown f lost n → TagsAscend k n
  tags_ascend are lost facts up n here fields e =
      let told : TagsTold k scope library refused (tags_round k n) (statements.tags_round f n) = round_told k scope library refused shaped tree are lost facts n here in
      sorted (types_of terms) fields (of_tags (statements.tagged_at f (parent f n)) (round_up f up (parent f n)) (fields_at (types_of terms) fields) (told.is ∙ ap (option_map (fields_at (types_of terms))) e))
