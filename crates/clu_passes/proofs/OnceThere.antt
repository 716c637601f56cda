-- No selector of the type that is known of a node stands twice, if no type is refused at the node or below.
use Rattle.std.proofs.Common.{◌≡◌, ◌∙◌, ℕ, ◌<◌, ◌≤◌, true, false, List, length, Option, Some, None, inl, inr, refl, sym, ap, arith}
use Rattle.std.specs.Prelude.{slice_get}
use Rattle.std.proofs.lemmas.Bool.{true≢false, cases_lt}
use Rattle.clu_tree.specs.declared.node.Node.{Node}
use Rattle.clu_parser.specs.Trees.{Text}
use Rattle.clu_types.specs.Arena.{types_of}
use Rattle.clu_types.specs.CluType.{CluType}
use Rattle.clu_types.specs.declared.term.Term.{Term}
use Rattle.clu_syntax.specs.declared.words.SimpleType.{SimpleType}
use Rattle.clu_syntax.specs.Kinds.{kind_at, kind_of, is_type}
use Rattle.clu_syntax.specs.Syntax.{a_simple_type}
use Rattle.clu_names.specs.Scopes.{declarations}
use Rattle.clu_meaning.specs.Scoping.{Scope}
use Rattle.clu_checking.specs.Specifications.{Specification}
use Rattle.clu_checking.specs.Files.{File, round, scope_in}
use Rattle.clu_checking.specs.NameRules.{stands_twice}
use Rattle.clu_checking.specs.Refusals.{is_no_type_at}
use Rattle.clu_settle.specs.declared.value.Value.{Value}
use Rattle.clu_settle.specs.declared.value.Value.TheVariants as value
use Rattle.clu_settle.specs.Lists.{type_id, value_of}
use Rattle.clu_settle.specs.Lost.{IsLost}
use Rattle.clu_settle.specs.Meant.{meanings_of}
use Rattle.clu_settle.specs.Standing.{is_cvt_type}
use Rattle.clu_declares.proofs.Each.{are_meanings}
use Rattle.clu_name_rules.specs.declared.tables.Tables.{Tables}
use Rattle.clu_name_rules.specs.Components.{fields_in}
use Rattle.clu_name_rules.specs.Constructors.{term_at, term_of}
use Rattle.clu_passes.specs.ConstantTables.{file_with, AreTables, IsKnown}
use Rattle.clu_passes.specs.Counting.{names_of_fields}
use Rattle.clu_passes.specs.Made.{AreMade}
use Rattle.clu_passes.proofs.ByNodes.{type_there}
use Rattle.clu_passes.proofs.Constructed.{TermKnown, term_known}
use Rattle.clu_passes.proofs.FieldsOnce.{names_in_type, term_named}
use Rattle.clu_passes.proofs.SettledOnce.{IsFine, IsNoCvt, type_settled_once}
use Rattle.clu_passes.proofs.TablesMade.{tables_are}
use Rattle.clu_passes.proofs.ValuesKnown as at

module _ (t : Text) (its : Tables) (library : List Specification) (refused : List ℕ) (all : AreMade t its library refused)
    (lost : (n : ℕ) → n < length its.file.syntax.now → value_of its.file.values.now n ≡ value.Lost → IsLost its.file.syntax.now (meanings_of its.file.syntax.now its.file.rounds.now (declarations its.file.syntax.now its.file.rounds.now)) n) where
  abbrev nodes : List Node
  nodes = its.file.syntax.now

  abbrev scope : Scope
  scope = scope_in its.file.syntax.now its.file.rounds.now

  abbrev f : File
  f = file_with its.file (scope_in its.file.syntax.now its.file.rounds.now) library refused

  abbrev types : List CluType
  types = types_of its.types.now

  are : AreTables f its
  are = tables_are t its library refused all

  module _ (c : ℕ) (typed : is_type (kind_at nodes c) ≡ true) (below : (m : ℕ) → (round f c).first ≤ m → m < c → is_no_type_at f m ≡ false) (here : is_no_type_at f c ≡ false) where
    fine : IsFine f (at.of_tree t its library refused all lost) (at.parents t its library refused all lost) (are_meanings t nodes its.file.rounds.now all.file.parsed all.file.rounds all.file.few) c
    fine m low high = elim (cases_lt m c) [
      | inl less ↦ below m low less
      | inr more ↦ let same : c ≡ m = omega (arith, high, more) in sym (ap (is_no_type_at f) same) ∙ here
    ]

    -- what is known is not that of `cvt`
    no_cvt : IsKnown its.file c → IsNoCvt f (at.of_tree t its library refused all lost) (at.parents t its library refused all lost) (are_meanings t nodes its.file.rounds.now all.file.parsed all.file.rounds all.file.few) c
    no_cvt known node there is cvt =
        known (are.cvt c typed (ap is_cvt_type (type_there f all.file.parsed.forms c node there is) ∙ ap (λ (w : SimpleType). is_cvt_type (a_simple_type c w)) cvt))

    known_once : IsKnown its.file c → stands_twice (names_of_fields (fields_in (term_at its c))) ≡ false
    known_once known = by (slice_get nodes c) refl
      where
        k : TermKnown its scope library refused all.file.parsed.forms all.file.parsed.tree are c
        k = term_known its scope library refused all.file.parsed.forms all.file.parsed.tree are c typed known

        by : (o : Option Node) → slice_get nodes c ≡ o → stands_twice (names_of_fields (fields_in (term_at its c))) ≡ false
        by None there = absurd (true≢false (sym typed ∙ ap (λ (o : Option Node). is_type (kind_of o)) there))
        by (Some node) there =
            ap (λ (o : Option Term). stands_twice (names_of_fields (fields_in o))) k.known
            ∙ ap stands_twice (sym (term_named types k.its))
            ∙ ap (λ (t : CluType). stands_twice (names_in_type t)) (sym k.type)
            ∙ type_settled_once f (at.of_tree t its library refused all lost) (at.parents t its library refused all lost) (are_meanings t nodes its.file.rounds.now all.file.parsed all.file.rounds all.file.few) c node there typed fine (no_cvt known)

    pub once : stands_twice (names_of_fields (fields_in (term_at its c))) ≡ false
    once = elim (at.known_or_lost t its library refused all lost c) [
      | inl known ↦ known_once known
      | inr gone ↦ ap (λ (v : Value). stands_twice (names_of_fields (fields_in (term_of its.types.now (type_id v))))) gone
    ]
