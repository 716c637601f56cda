-- V26 of a Signal and of a Resignal.
use Rattle.std.proofs.Common.{◌≡◌, ◌∙◌, ℕ, Bool, true, false, filter, List, [], ◌∷◌, length, map, Option, inl, inr, refl, sym, ap, subst}
use Rattle.std.specs.Prelude.{slice_get, not}
use Rattle.std.specs.List.{AllByRecursion, list_all}
use Rattle.std.proofs.lemmas.Bool.{and_parts}
use Rattle.clu_tree.specs.declared.node.Node.{Node}
use Rattle.clu_tree.specs.declared.node.NodeKind.{NodeKind}
use Rattle.clu_tree.specs.declared.node.NodeKind.TheVariants as kind
use Rattle.clu_tree.specs.Nodes.{IsTree}
use Rattle.clu_parser.specs.Shape.{HaveForms}
use Rattle.clu_types.specs.declared.term.Term.{Term}
use Rattle.clu_syntax.specs.Kinds.{kind_at, is_expression}
use Rattle.clu_syntax.specs.Slots.{slots}
use Rattle.clu_syntax.specs.Splits.{first_name, children_of}
use Rattle.clu_syntax.specs.Syntax.{Identifier}
use Rattle.clu_syntax.specs.Items.{Item, expressions_at}
use Rattle.clu_syntax.specs.Nodes.{before, item_at, statement_of}
use Rattle.clu_settle.specs.Names.{names_of}
use Rattle.clu_settle.proofs.Shapes.{all_parts}
use Rattle.clu_meaning.specs.Scoping.{Scope}
use Rattle.clu_checking.specs.Specifications.{Specification}
use Rattle.clu_checking.specs.Files.{File, item}
use Rattle.clu_checking.specs.Invocations as invoking
use Rattle.clu_checking.specs.Raising as definition
use Rattle.clu_checking.specs.ExceptionRules as checking
use Rattle.clu_checking.specs.ExceptionRules.{v26, v26_in}
use Rattle.clu_checking.specs.StatementRules.{as_list, known}
use Rattle.clu_declares.proofs.Below.{item_there}
use Rattle.clu_declares.proofs.Facts.{There, there}
use Rattle.clu_name_rules.specs.Words.{words_to}
use Rattle.clu_type_rules.specs.declared.known.Known.{Known}
use Rattle.clu_type_rules.specs.Known as tables
use Rattle.clu_type_rules.specs.Known.{type_at}
use Rattle.clu_type_rules.specs.Objects.{names}
use Rattle.clu_type_rules.specs.ExceptionRules as of_tables
use Rattle.clu_type_rules.specs.ExceptionRules.{raised_objects, heading_takes_raise, takes_all}
use Rattle.clu_typing.specs.declared.raising.Raise.{Raise}
use Rattle.clu_passes.specs.Bound.{IsExceptionKnown}
use Rattle.clu_passes.specs.ConstantTables.{AreTables}
use Rattle.clu_passes.specs.FactTables.{AreTypes, AreFacts}
use Rattle.clu_passes.specs.Firsts.{AreItems}
use Rattle.clu_passes.specs.TableRaises.{IsAmong, IsRaise, AreRaises}
use Rattle.clu_passes.specs.Routines.{StandInRoutines, AreParts as AreRoutineParts}
use Rattle.clu_passes.proofs.ArmTypes.{FirstStatement, in_resignal, takes_same}
use Rattle.clu_passes.proofs.Bound.{values_known}
use Rattle.clu_passes.proofs.FactNodes as so
use Rattle.clu_passes.proofs.Known.{is_known, are_known}
use Rattle.clu_passes.proofs.Listed.{names_known}
use Rattle.clu_passes.proofs.OneName.{OneName, signal_name}
use Rattle.clu_passes.proofs.Signalled.{fits_same}

known_among : (all names : List Identifier) → are_known all names ≡ true → (name : Identifier) → IsAmong name names → is_known all name ≡ true
known_among all [] known name i = absurd i
known_among all (other ∷ names) known name (inl e) = ap (is_known all) e ∙ (and_parts (is_known all other) (are_known all names) known).0
known_among all (other ∷ names) known name (inr i) = known_among all names (and_parts (is_known all other) (are_known all names) known).1 name i

each_among : (P : Identifier → Type 0) (names : List Identifier) → AllByRecursion P names → (name : Identifier) → IsAmong name names → P name
each_among P [] ps name i = absurd i
each_among P (other ∷ names) ps name (inl e) = subst P (sym e) ps.0
each_among P (other ∷ names) ps name (inr i) = each_among P names ps.1 name i

module _ (k : Known) (scope : Scope) (library : List Specification) (refused : List ℕ) where
  abbrev nodes : List Node
  nodes = k.tables.file.syntax.now

  abbrev f : File
  f = so.f k scope library refused

  abbrev terms : List Term
  terms = k.tables.types.now

  abbrev words : List Identifier
  words = words_to nodes (length nodes)

  abbrev items : ℕ → ℕ → Item
  items n = before n (item_at nodes)

  module _ (shaped : HaveForms nodes) (tree : IsTree nodes) (are : AreTables f k.tables) (firsts : AreItems f k.tables) (stand : StandInRoutines f) (routines : AreRoutineParts f k.routines.now.parts.items) (lost : ℕ → Bool) (facts : AreFacts f terms k.facts.now lost) where
    statement_at : (bad : ℕ → Bool) (j : NodeKind) (n : ℕ) (x : There nodes n j) → checking.has_other_types f bad n (item f n).statement ≡ checking.has_other_types f bad n (statement_of (items n) nodes n x.node j)
    statement_at bad j n x =
        ap (λ (i : Item). checking.has_other_types f bad n i.statement) (item_there nodes n x.node x.at)
        ∙ ap (λ (j : NodeKind). checking.has_other_types f bad n (statement_of (items n) nodes n x.node j)) x.is

    -- the names of a node that are known each
    known_name : (j : NodeKind) (n : ℕ) → There nodes n j → (name : Identifier) → IsAmong name (names k n) → is_known words name ≡ true
    known_name j n x name i = known_among words (names k n) (names_known k scope library refused shaped tree firsts stand routines j n x) name i

    signal_is : (bad : ℕ → Bool) (others : ℕ → Item) (n : ℕ) → kind_at nodes n ≡ kind.Signal → lost n ≡ false → AllByRecursion (IsExceptionKnown f k n) (names k n) → v26_in f bad kind.Signal n ≡ of_tables.signals_other k others n (names k n)
    signal_is bad others n is here all =
        let x : There nodes n kind.Signal = there nodes n kind.Signal refl is in
        let one : OneName nodes n = signal_name nodes shaped n is in
        let here_is : IsAmong one.its (names k n) = subst (IsAmong one.its) (sym one.is) (inl refl) in
        let name : first_name x.node.names ≡ one.its = ap (λ (its : Option Node). first_name (names_of its)) (sym x.at) ∙ ap first_name one.is in
        let kids : tables.children k n ≡ x.node.children = ap children_of x.at in
        let values : AreTypes terms (map (type_at k) x.node.children) (invoking.types_of f (expressions_at (items n) x.node.children)) =
        values_known k scope library refused shaped tree are lost facts n x.node.children (all_parts nodes tree shaped is_expression n x.node x.at (ap slots x.is))
        (subst (AllByRecursion (λ c. lost c ≡ false)) (so.children_same k scope library refused (slice_get nodes n) ∙ kids) (facts.below n here)) in
        statement_at bad kind.Signal n x
        ∙ ap (λ (its : Identifier). not (checking.fits_heading f n its (invoking.types_of f (expressions_at (items n) x.node.children)))) name
        ∙ ap not (fits_same k scope library refused shaped tree firsts stand routines are.arena others n one.its (known_name kind.Signal n x one.its here_is) (each_among (IsExceptionKnown f k n) (names k n) all one.its here_is)
        (map (type_at k) x.node.children) (invoking.types_of f (expressions_at (items n) x.node.children)) values)
        ∙ ap (λ (cs : List ℕ). not (of_tables.fits_heading k others n one.its (map (type_at k) cs))) (sym kids)
        ∙ ap (of_tables.signals_other k others n) (sym one.is)

    module _ (raises : AreRaises f k lost) where
      resignal_is : (bad : ℕ → Bool) (others : ℕ → Item) (n : ℕ) → kind_at nodes n ≡ kind.Resignal → lost n ≡ false → AllByRecursion (IsExceptionKnown f k n) (names k n) → v26_in f bad kind.Resignal n ≡ not (takes_all k (heading_takes_raise k others n) n (names k n))
      resignal_is bad others n is here all =
          let x : There nodes n kind.Resignal = there nodes n kind.Resignal refl is in
          let s : FirstStatement k scope library refused shaped tree n = in_resignal k scope library refused shaped tree n is in
          let its : lost s.first ≡ false = (subst (AllByRecursion (λ c. lost c ≡ false)) (so.children_same k scope library refused (slice_get nodes n) ∙ s.kids) (facts.below n here)).0 in
          let raised : checking.guarded f (item f n).statement ≡ checking.guarded f (statement_of (items n) nodes n x.node kind.Resignal) =
          ap (λ (i : Item). checking.guarded f i.statement) (item_there nodes n x.node x.at) ∙ ap (λ (j : NodeKind). checking.guarded f (statement_of (items n) nodes n x.node j)) x.is in
          statement_at bad kind.Resignal n x
          ∙ ap (λ (xs : List definition.Raise). not (list_all (checking.raise_fits f bad n) (filter (definition.is_named x.node.names) xs))) (sym raised)
          ∙ ap (λ (xs : List Identifier). not (list_all (checking.raise_fits f bad n) (filter (definition.is_named xs) (checking.guarded f (item f n).statement)))) (ap names_of (sym x.at))
          ∙ ap not (takes_same k scope library refused shaped tree n s (raises s.first s.is its) (names k n) (heading_takes_raise k others n) (checking.raise_fits f bad n)
          (λ name among r y raise named. raise_same name among r y raise named (known_name kind.Resignal n x name among)))
        where
          raise_same : (name : Identifier) → IsAmong name (names k n) → (r : Raise) (y : definition.Raise) → IsRaise k r y → y.0 ≡ name → is_known words name ≡ true → checking.raise_fits f bad n y ≡ heading_takes_raise k others n name r
          raise_same name among r y raise named known_is =
              ap (λ (its : Identifier). checking.fits_heading f n its (known (as_list y.1))) named
              ∙ fits_same k scope library refused shaped tree firsts stand routines are.arena others n name known_is (each_among (IsExceptionKnown f k n) (names k n) all name among) (raised_objects k r) (known (as_list y.1)) raise.1

    pub of_signals : (bits : List Bool) (bad : ℕ → Bool) (others : ℕ → Item) (n : ℕ) → kind_at nodes n ≡ kind.Signal → lost n ≡ false → AllByRecursion (IsExceptionKnown f k n) (names k n) → v26 f bad n ≡ of_tables.v26 k others bits n
    of_signals bits bad others n is here all = ap (λ (j : NodeKind). v26_in f bad j n) is ∙ signal_is bad others n is here all ∙ ap (λ (j : NodeKind). of_tables.v26_at k others bits j n) (sym is)

    pub of_resignals : AreRaises f k lost → (bits : List Bool) (bad : ℕ → Bool) (others : ℕ → Item) (n : ℕ) → kind_at nodes n ≡ kind.Resignal → lost n ≡ false → AllByRecursion (IsExceptionKnown f k n) (names k n) → v26 f bad n ≡ of_tables.v26 k others bits n
    of_resignals raises bits bad others n is here all = ap (λ (j : NodeKind). v26_in f bad j n) is ∙ resignal_is raises bad others n is here all ∙ ap (λ (j : NodeKind). of_tables.v26_at k others bits j n) (sym is)
