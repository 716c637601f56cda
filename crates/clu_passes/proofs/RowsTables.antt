-- What the row of a node reads of tables that are right.
use Rattle.std.proofs.Common.{◌≡◌, ◌∙◌, ◌&&◌, ◌⊎◌, ℕ, Bool, false, List, ◌∷◌, drop, get_or, Option, refl, sym, ap, subst, inl, inr}
use Rattle.std.proofs.lemmas.Bool.{true≢false}
use Rattle.clu_tree.specs.declared.node.Node.{Node}
use Rattle.clu_tree.specs.declared.node.NodeKind.{NodeKind}
use Rattle.clu_tree.specs.declared.node.NodeKind.TheVariants as kind
use Rattle.clu_parser.specs.Shape as shape
use Rattle.clu_parser.specs.Shape.{is_child}
use Rattle.clu_parser.specs.Trees.{Text}
use Rattle.clu_syntax.specs.Kinds.{is_expression, kind_at}
use Rattle.clu_syntax.specs.Items.{Item, constants_at}
use Rattle.clu_syntax.specs.Nodes.{before, expression_of, item_at}
use Rattle.clu_syntax.specs.Splits.{children_of}
use Rattle.clu_syntax.specs.Syntax.{Constants, Expression, a_name, an_index}
use Rattle.clu_parts.specs.Slots.{just}
use Rattle.clu_parts.proofs.Fitting.{Slot, Stand, on_head}
use Rattle.clu_meaning.specs.Scoping.{Scope}
use Rattle.clu_declares.specs.Declares.{IsParsed}
use Rattle.clu_declares.proofs.Below.{before_is, item_there}
use Rattle.clu_declares.proofs.Facts.{there}
use Rattle.clu_checking.specs.Specifications.{Specification}
use Rattle.clu_checking.specs.Files.{File, item, meaning}
use Rattle.clu_checking.specs.Typing as typing
use Rattle.clu_checking.specs.Wanted.{first_name_at}
use Rattle.clu_bindings.specs.declared.file.File.{File as Read}
use Rattle.clu_bindings.specs.Readers as tables
use Rattle.clu_bindings.specs.Readers.{children_in, kind_in, meaning_in}
use Rattle.clu_name_rules.specs.declared.tables.Tables.{Tables}
use Rattle.clu_typing.specs.declared.applied.Applied.{Applied}
use Rattle.clu_typing.specs.declared.facts.Facts.{Facts}
use Rattle.clu_typing.specs.Nodes as read
use Rattle.clu_typing.specs.Raises.{raised_told, row_told}
use Rattle.clu_typing.specs.Sets.{HaveSame}
use Rattle.clu_passes.specs.ConstantTables.{file_with, AreTables, IsEquateKnown, IsFirstKnown, IsIndexKnown}
use Rattle.clu_passes.specs.NotedLists.{types_given}
use Rattle.clu_passes.specs.Raised.{has_actuals, row_of}
use Rattle.clu_passes.specs.RowsTold.{StandsElsewhere}
use Rattle.clu_passes.specs.StandsFor.{AreOperands, NodeStandsFor}
use Rattle.clu_passes.proofs.ConstantNodes.{AName, NoName, is_name, name_or_none}
use Rattle.clu_passes.proofs.RowsPassed.{stands}
use Rattle.clu_passes.proofs.RowsSaid.{name_told, row_said}

same_child : (j : NodeKind) → is_child shape.expression j ≡ is_expression j
same_child kind.File = refl
same_child _ = refl

module _ (t : Text) (its_tables : Tables) (scope : Scope) (library : List Specification) (refused : List ℕ) (parsed : IsParsed t its_tables.file.syntax.now) (are : AreTables (file_with its_tables.file scope library refused) its_tables) where
  abbrev r : Read
  r = its_tables.file

  abbrev nodes : List Node
  nodes = r.syntax.now

  abbrev f : File
  f = file_with r scope library refused

  -- brackets behind another expression hold no actual parameters
  no_actuals : (n : ℕ) (e : Expression) (cs : Constants) → is_name e ≡ false → has_actuals f (an_index n e cs) ≡ false
  unfolding is_name
  no_actuals n (a_name m name) cs is = absurd (true≢false is)
  no_actuals n _ cs is = refl

  first_actuals : (n c : ℕ) (cs : Constants) → IsEquateKnown r (meaning_in r c) → AName its_tables scope library refused c ⊎ NoName its_tables scope library refused c → tables.takes_actuals r c ≡ has_actuals f (an_index n (item f c).expression cs)
  first_actuals n c cs known (inl x) =
      are.takers c known
      ∙ ap (λ (b : Bool). b && typing.takes_actuals f c (first_name_at f c)) x.is
      ∙ sym (ap (λ (e : Expression). has_actuals f (an_index n e cs)) x.expression)
  first_actuals n c cs known (inr x) =
      are.takers c known
      ∙ ap (λ (b : Bool). b && typing.takes_actuals f c (first_name_at f c)) x.is
      ∙ sym (no_actuals n (item f c).expression cs x.expression)

  index_actuals : (n : ℕ) (ss : List Slot) (more : List ℕ → Constants) (cs : List ℕ) → IsFirstKnown r cs → Stand nodes n (just (is_child shape.expression) ∷ ss) cs → read.first_takes_actuals r cs ≡ has_actuals f (an_index n (before n (item_at nodes) (get_or cs 0 0)).expression (more cs))
  index_actuals n ss more cs known s =
      on_head nodes n (λ (cs : List ℕ). IsFirstKnown r cs → read.first_takes_actuals r cs ≡ has_actuals f (an_index n (before n (item_at nodes) (get_or cs 0 0)).expression (more cs))) (is_child shape.expression) ss
      (λ c rest is s known.
      first_actuals n c (more (c ∷ rest)) known (name_or_none its_tables scope library refused c (sym (same_child (kind_at nodes c)) ∙ is.1))
      ∙ sym (ap (λ (i : Item). has_actuals f (an_index n i.expression (more (c ∷ rest)))) (before_is nodes n c is.0))) cs s known

  actuals_said : (n : ℕ) → IsIndexKnown r n → kind_at nodes n ≡ kind.Index → read.has_actuals r n ≡ has_actuals f (item f n).expression
  actuals_said n known is =
      let x = there nodes n kind.Index refl is in
      let own : children_in r n ≡ x.node.children = ap (λ (o : Option Node). children_of o) x.at in
      ap (λ (cs : List ℕ). read.first_takes_actuals r cs) own
      ∙ index_actuals n _ (λ cs. constants_at (before n (item_at nodes)) (drop 1 cs)) x.node.children (subst (λ (cs : List ℕ). IsFirstKnown r cs) own (known is)) (stands t nodes parsed n kind.Index x _ refl)
      ∙ sym (ap (λ (e : Expression). has_actuals f e) (ap (λ (i : Item). i.expression) (item_there nodes n x.node x.at) ∙ ap (λ (k : NodeKind). expression_of (before n (item_at nodes)) nodes n x.node k) x.is))

  pub row_by_tables : (facts : Facts) (n : ℕ) (its : Applied) → IsIndexKnown r n → NodeStandsFor f its_tables.types.now facts (kind_in r n) n its → StandsElsewhere (kind_in r n) its → AreOperands f its_tables.types.now (types_given facts.types.items (children_in r n)) (kind_in r n) n
      → HaveSame (row_told r its_tables.types.now facts its n) (row_of f (raised_told its_tables.types.now facts) n)
  row_by_tables facts n its known stand elsewhere given =
      row_said r scope library refused t parsed its_tables.types.now facts n its stand elsewhere given
      (λ is. name_told nodes (meaning_in r n) (meaning f n (first_name_at f n)) (are.named n is).means)
      (actuals_said n known)
