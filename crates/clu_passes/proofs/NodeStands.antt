-- For which operation a node stands, where the types of its children and what its names stand for are so.
use Rattle.std.proofs.Common.{◌≡◌, ◌∙◌, ◌≤◌, ◌+◌, ◌++◌, ℕ, Bool, true, false, if◌then◌else◌, List, [], ◌∷◌, codes, length, Option, refl, sym, ap, subst, arith}
use Rattle.std.proofs.lemmas.Bool.{true≢false}
use Rattle.clu_tree.specs.declared.node.Node.{Node}
use Rattle.clu_tree.specs.declared.node.NodeKind.{NodeKind}
use Rattle.clu_tree.specs.declared.node.NodeKind.TheVariants as kind
use Rattle.clu_parser.specs.Trees.{Text}
use Rattle.clu_types.specs.CluType.{CluType}
use Rattle.clu_types.specs.Arena.{IsArena, types_of}
use Rattle.clu_types.specs.declared.term.Term.{Term}
use Rattle.clu_types.specs.declared.term.TypeId.{TypeId}
use Rattle.clu_syntax.specs.Enough.{least_names}
use Rattle.clu_syntax.specs.Items.{Item}
use Rattle.clu_syntax.specs.Kinds.{is_expression}
use Rattle.clu_syntax.specs.Nodes.{before as before_node, item_at, statement_of}
use Rattle.clu_syntax.specs.Splits.{child, first_name}
use Rattle.clu_syntax.specs.Syntax.{Expression, Statement, a_set_field}
use Rattle.clu_syntax.proofs.Enough.{enough}
use Rattle.clu_meaning.specs.Scoping.{Scope}
use Rattle.clu_settle.specs.Names.{names_of}
use Rattle.clu_declares.specs.Declares.{IsParsed}
use Rattle.clu_declares.proofs.Below.{item_there}
use Rattle.clu_declares.proofs.Facts.{There, there}
use Rattle.clu_checking.specs.Specifications.{Specification}
use Rattle.clu_checking.specs.Files.{File, children, item, kind_in}
use Rattle.clu_checking.specs.Typing as typing
use Rattle.clu_bindings.specs.declared.file.Headed.{Headed}
use Rattle.clu_bindings.specs.Readers.{children_in}
use Rattle.clu_operations.specs.Finding.{AreWithin}
use Rattle.clu_typing.specs.declared.applied.Applied.{Applied}
use Rattle.clu_typing.specs.declared.facts.Facts.{Facts}
use Rattle.clu_typing.specs.Found.{IsAppliedTold, IsInvokedTold}
use Rattle.clu_typing.specs.Nodes.{first_type}
use Rattle.clu_typing.specs.Stands.{Stands, for_nothing, expression_stands, field_stands, stands_as, stands_at, stands_by}
use Rattle.clu_passes.specs.Ascending.{SpecificationsAscend}
use Rattle.clu_passes.specs.ConstantTables.{file_with}
use Rattle.clu_passes.specs.FactTables.{AreTypes, IsType}
use Rattle.clu_passes.specs.FoundTold.{TellHeads}
use Rattle.clu_passes.specs.NamesKnown.{HasTypes}
use Rattle.clu_passes.specs.NotedLists.{types_given}
use Rattle.clu_passes.specs.StandsFor.{AreOperands, AreOperandsOf, IsSugar, NodeStandsFor, StandsFor, StatementStandsFor, operands_of_statement}
use Rattle.clu_passes.proofs.AppliedFound.{first_is, stands_so, sugar}
use Rattle.clu_passes.proofs.AtNodes.{kids_are}
use Rattle.clu_passes.proofs.ExpressionsAscend.{expression_up}
use Rattle.clu_passes.proofs.OperandsGiven.{Typed, operands_given}
use Rattle.clu_passes.proofs.Shells.{number_at, stands_at_node}
use Rattle.clu_passes.proofs.TypesNoted.{names_so}

-- ---- by kinds

stands_expression : (h : Headed) (known : List (Option TypeId)) (n : ℕ) (items : ℕ → Item) (k : NodeKind) → is_expression k ≡ true → stands_as h.file known n items k ≡ expression_stands h.file known n items
unfolding stands_as
stands_expression h known n items kind.SetField e = absurd (true≢false (sym e))
stands_expression h known n items kind.SetIndex e = absurd (true≢false (sym e))
stands_expression h known n items kind.File e = absurd (true≢false (sym e))
stands_expression h known n items _ e = ap (λ (b : Bool). if b then expression_stands h.file known n items else for_nothing) e

pub operands_at : (f : File) (terms : List Term) (ids : List (Option TypeId)) (n : ℕ) (k : NodeKind) → is_expression k ≡ true → AreOperands f terms ids k n → AreOperandsOf f terms ids (item f n).expression
operands_at f terms ids n kind.SetField e given = absurd (true≢false (sym e))
operands_at f terms ids n kind.SetIndex e given = absurd (true≢false (sym e))
operands_at f terms ids n _ e given = given e

module _ (t : Text) (h : Headed) (scope : Scope) (library : List Specification) (refused : List ℕ) (parsed : IsParsed t h.file.syntax.now) (up : SpecificationsAscend library) (items : ℕ → Item) (terms : List Term) (arena : IsArena terms)
    (tell : TellHeads h (file_with h.file scope library refused) (types_of terms)) (facts : Facts) (within : AreWithin (length terms) facts.finding) (known : List (Option TypeId)) (n : ℕ) (its : Applied) (stood : IsAppliedTold h terms facts.finding n (stands_at h.file known n items) its)
    (kids : Typed (file_with h.file scope library refused) n terms known (children (file_with h.file scope library refused) n))
    (types : is_expression (kind_in (file_with h.file scope library refused) n) ≡ true → HasTypes (file_with h.file scope library refused) h items terms n (item (file_with h.file scope library refused) n).expression) where
  abbrev f : File
  f = file_with h.file scope library refused

  abbrev nodes : List Node
  nodes = h.file.syntax.now

  pub node_given : AreOperands f terms (types_given known (children_in h.file n)) (kind_in f n) n
  node_given = subst (λ (cs : List ℕ). AreOperands f terms (types_given known cs) (kind_in f n) n) (sym (kids_are f n)) (operands_given f n terms known t parsed kids)

  pub node_told : is_expression (kind_in f n) ≡ true → IsAppliedTold h terms facts.finding n (stands_by h.file known n (item f n).expression) its
  node_told expressed =
      subst (λ (s : Stands). IsAppliedTold h terms facts.finding n s its)
      (stands_expression h known n items (kind_in f n) expressed ∙ stands_at_node items nodes n expressed h.file known) stood

  -- ---- for which operation it stands

  abbrev parts : ℕ → Item
  parts = before_node n (item_at nodes)

  told_as : (k : NodeKind) → kind_in f n ≡ k → IsAppliedTold h terms facts.finding n (stands_as h.file known n items k) its
  told_as k at = subst (λ (k : NodeKind). IsAppliedTold h terms facts.finding n (stands_as h.file known n items k) its) at stood

  given_as : (k : NodeKind) → kind_in f n ≡ k → AreOperands f terms (types_given known (children_in h.file n)) k n
  given_as k at = subst (λ (k : NodeKind). AreOperands f terms (types_given known (children_in h.file n)) k n) at node_given

  its_statement : (k : NodeKind) (x : There nodes n k) → (item f n).statement ≡ statement_of parts nodes n x.node k
  its_statement k x = ap (λ (i : Item). i.statement) (item_there nodes n x.node x.at) ∙ ap (λ (k : NodeKind). statement_of parts nodes n x.node k) x.is

  first_so : (a : Expression) (ts : List (Option CluType)) → AreTypes terms (types_given known (children_in h.file n)) (typing.type_of f a ∷ ts) → IsType terms (first_type h.file known n) (typing.type_of f a)
  first_so a ts all = first_is h scope library refused terms arena tell up facts within known (children_in h.file n) (typing.type_of f a) ts all

  sugared : (name : List ℕ) (a : Expression) → IsType terms (first_type h.file known n) (typing.type_of f a) → IsInvokedTold h terms facts.finding n (first_type h.file known n) name false its
      → IsSugar f terms facts false n name (typing.type_of f a) its
  sugared name a is u = sugar h scope library refused terms arena tell up facts within false n name (first_type h.file known n) (typing.type_of f a) is (expression_up f up a) its u

  field_so : (a b : Expression) (names : List (List ℕ)) → 1 ≤ length names → IsType terms (first_type h.file known n) (typing.type_of f a) → IsAppliedTold h terms facts.finding n (field_stands names (first_type h.file known n)) its
      → StatementStandsFor f terms facts (a_set_field n a (first_name names) b) its
  field_so a b [] le is u = absurd (omega (arith, le))
  field_so a b (name ∷ names) le is u = sugared (codes "set_" ++ name) a is u

  set_field : kind_in f n ≡ kind.SetField → StatementStandsFor f terms facts (item f n).statement its
  unfolding stands_as
  set_field at =
      let x = there nodes n kind.SetField refl at in
      let enough_names : least_names x.node.kind ≤ length x.node.names = (enough nodes parsed.forms n x.node x.at).names in
      let least : 1 ≤ length x.node.names = subst (λ (k : NodeKind). least_names k ≤ length x.node.names) x.is enough_names in
      let all : AreTypes terms (types_given known (children_in h.file n)) (operands_of_statement f (statement_of parts nodes n x.node kind.SetField)) =
      subst (λ (s : Statement). AreTypes terms (types_given known (children_in h.file n)) (operands_of_statement f s)) (its_statement kind.SetField x) (given_as kind.SetField at) in
      subst (λ (s : Statement). StatementStandsFor f terms facts s its) (sym (its_statement kind.SetField x))
      (field_so (parts (child 0 x.node)).expression (parts (child 1 x.node)).expression x.node.names least (first_so (parts (child 0 x.node)).expression _ all)
      (subst (λ (o : Option Node). IsAppliedTold h terms facts.finding n (field_stands (names_of o) (first_type h.file known n)) its) x.at (told_as kind.SetField at)))

  set_index : kind_in f n ≡ kind.SetIndex → StatementStandsFor f terms facts (item f n).statement its
  unfolding stands_as
  set_index at =
      let x = there nodes n kind.SetIndex refl at in
      let all : AreTypes terms (types_given known (children_in h.file n)) (operands_of_statement f (statement_of parts nodes n x.node kind.SetIndex)) =
      subst (λ (s : Statement). AreTypes terms (types_given known (children_in h.file n)) (operands_of_statement f s)) (its_statement kind.SetIndex x) (given_as kind.SetIndex at) in
      subst (λ (s : Statement). StatementStandsFor f terms facts s its) (sym (its_statement kind.SetIndex x))
      (sugared (codes "store") (parts (child 0 x.node)).expression (first_so (parts (child 0 x.node)).expression _ all) (told_as kind.SetIndex at))

  expression_so : (k : NodeKind) → kind_in f n ≡ k → is_expression k ≡ true → StandsFor f terms facts (item f n).expression its
  expression_so k at e =
      let expressed : is_expression (kind_in f n) ≡ true = ap is_expression at ∙ e in
      stands_so h scope library refused terms arena tell up facts within known n (item f n).expression (number_at nodes n expressed) (operands_at f terms (types_given known (children_in h.file n)) n (kind_in f n) expressed node_given)
      (names_so f h items terms n (item f n).expression (types expressed)) its (node_told expressed)

  by_kind : (k : NodeKind) → kind_in f n ≡ k → NodeStandsFor f terms facts k n its
  by_kind kind.SetField at = set_field at
  by_kind kind.SetIndex at = set_index at
  by_kind _ at = λ e. expression_so _ at e

  pub node_stands : NodeStandsFor f terms facts (kind_in f n) n its
  node_stands = by_kind (kind_in f n) refl
