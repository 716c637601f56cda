-- What the nodes of a file ask is right in the tables of which a check answers, and so are the bits of demands that disagree, which V6 reads.
use Rattle.std.proofs.Common.{◌≡◌, ◌∙◌, ◌+◌, ◌-◌, ◌^◌, ◌<◌, ℕ, Bool, false, List, [], length, map, replicate, Option, sym, ap, ap₂, subst}
use Rattle.clu_base.specs.declared.rules.Refused.{Refused}
use Rattle.clu_tree.specs.declared.node.Node.{Node}
use Rattle.clu_tree.specs.Nodes.{modules}
use Rattle.clu_parser.specs.Trees.{Text}
use Rattle.clu_types.specs.declared.spec.Spec.{Spec}
use Rattle.clu_types.specs.Arena.{Grows, types_of}
use Rattle.clu_types.proofs.Carrying.{grows_on}
use Rattle.clu_syntax.specs.declared.round.Round.{Round}
use Rattle.clu_syntax.specs.Kinds.{kind_at}
use Rattle.clu_syntax.specs.Nodes.{item_at}
use Rattle.clu_syntax.specs.Splits.{child}
use Rattle.clu_checking.specs.Specifications.{Specification, specification_told}
use Rattle.clu_checking.specs.Files.{File, plain_file, scope_in}
use Rattle.clu_checking.specs.NameRules.{disagrees_at}
use Rattle.clu_checking.specs.Refusals.{refused_nodes, with_refused}
use Rattle.clu_settle.specs.Lists.{value_of}
use Rattle.clu_settle.specs.Lost.{IsLost}
use Rattle.clu_settle.specs.Meant.{meanings_of}
use Rattle.clu_settle.specs.declared.value.Value.TheVariants as value
use Rattle.clu_names.specs.Scopes.{declarations}
use Rattle.clu_declares.specs.Declares.{AreFew, IsParsed}
use Rattle.clu_head.specs.Refused.{counts_to}
use Rattle.clu_head.specs.declared.asked.Asked.{Asked}
use Rattle.clu_bindings.specs.declared.file.File.{File as Read}
use Rattle.clu_bindings.specs.declared.file.Headed.{Headed}
use Rattle.clu_name_rules.specs.NameRules.{disagrees_by}
use Rattle.clu_type_rules.specs.Disagreeing.{with_clauses}
use Rattle.clu_type_rules.specs.declared.known.Known.{Known}
use Rattle.clu_passes.specs.Bound.{AreOfModules}
use Rattle.clu_passes.specs.ConstantTables.{AreBad}
use Rattle.clu_passes.specs.Demands.{TellAsked}
use Rattle.clu_passes.specs.DemandsTold.{AreOpersCounted, AreOpersLost}
use Rattle.clu_passes.specs.Made.{IsWhole}
use Rattle.clu_passes.specs.Trees.{IsFileOfTree}
use Rattle.clu_passes.proofs.AskedTells.{tells}
use Rattle.clu_passes.proofs.ClustersRound.{of_kinds}
use Rattle.clu_passes.proofs.Disagreed.{disagrees_same}
use Rattle.clu_passes.proofs.OfParents.{have_parents}
use Rattle.clu_passes.proofs.OpersLost.{is_child, opers_lost, type_inside}
use Rattle.clu_passes.proofs.OutsideBrackets.{outside_oper}
use Rattle.clu_passes.proofs.TablesMade.{tables_are}
use Rattle.clu_check_mod.specs.Answered.{IsFirst}
use Rattle.clu_check_mod.specs.declared.walk.Extent.{Extent}
use Rattle.clu_checked.specs.Checked.{file, known, tables}
use Rattle.clu_checked.proofs.TypesRight.{refused_right}
use Rattle.clu_checked.proofs.Whole.{file_made, file_parsed, file_surrounded, first_arena, headed_arena, types_whole, whole}

module _ (t : Text) (nodes : List Node) (parsed : IsParsed t nodes) (library : List Spec) (asked : Extent) (first : Option Refused) (is : IsFirst nodes library asked first)
    (few : AreFew nodes is.rounds) (few_modules : length (modules nodes) + length library < 2 ^ 32 - 1) (parms : AreOfModules nodes is.rounds) where
  abbrev pub specs : List Specification
  specs = map specification_told library

  abbrev pub r : Read
  r = is.is.file

  abbrev k : Known
  k = known nodes library asked first is

  -- ---- the file of which these tables are, where types are refused by the definition

  abbrev pub of_nodes : List Node → List Round → File
  of_nodes ns rs = with_refused (plain_file ns rs specs)

  abbrev pub of_file : Read → File
  of_file g = of_nodes g.syntax.now g.rounds.now

  abbrev pub plain_of : Read → File
  plain_of g = plain_file g.syntax.now g.rounds.now specs

  pub same_file : of_nodes nodes is.rounds ≡ of_file r
  same_file = ap₂ of_nodes (sym is.is.nodes_are) (sym is.is.rounds_are)

  tables_file : k.tables.file ≡ r
  tables_file = is.is.is.is.is.tables.file_is ∙ is.is.is.file_is

  -- what is so of the tree and its surroundings is so of those of the file
  pub to_file : (Q : List Node → List Round → Type 0) → Q nodes is.rounds → Q r.syntax.now r.rounds.now
  to_file Q q = subst (λ (ns : List Node). Q ns r.rounds.now) (sym is.is.nodes_are) (subst (Q nodes) (sym is.is.rounds_are) q)

  of_tree : IsFileOfTree (plain_of r)
  of_tree =
      let its = file_parsed t nodes parsed library asked first is few few_modules in
      record { shaped = its.forms; ordered = its.order; tree = its.tree; surrounded = file_surrounded t nodes parsed library asked first is few few_modules }

  -- ---- the types of Opers

  pub grown_first : Grows is.settled.types is.is.types
  grown_first = is.is.grows

  grown_heads : Grows is.settled.types is.is.is.terms
  grown_heads = grows_on is.settled.types is.is.types is.is.is.terms is.is.grows is.is.is.grows

  pub lost_there : (n : ℕ) → n < length r.syntax.now → value_of r.values.now n ≡ value.Lost → IsLost r.syntax.now (meanings_of r.syntax.now r.rounds.now (declarations r.syntax.now r.rounds.now)) n
  lost_there =
      subst (λ (g : Read). (n : ℕ) → n < length g.syntax.now → value_of g.values.now n ≡ value.Lost → IsLost g.syntax.now (meanings_of g.syntax.now g.rounds.now (declarations g.syntax.now g.rounds.now)) n) is.is.is.tables.file_is
      (types_whole t nodes parsed library asked first is few few_modules []).lost

  lost : AreOpersLost (of_file r) r.values.now
  lost = opers_lost (plain_of r) of_tree is.is.types r.constants.now r.values.now (file_made t nodes parsed library asked first is few few_modules is.is.types grown_first (first_arena t nodes parsed library asked first is few few_modules) []).values lost_there

  pub counts_are : k.headed.refused.now ≡ counts_to is.is.is.refused (length is.is.is.refused)
  counts_are = ap (λ (h : Headed). h.refused.now) is.is.is.is.is.headed_is ∙ is.is.is.counts

  counted : AreOpersCounted (of_file r) (counts_to is.is.is.refused (length is.is.is.refused))
  counted = subst (AreOpersCounted (of_file r)) counts_are (to_file (λ ns rs. AreOpersCounted (of_nodes ns rs) k.headed.refused.now) at_nodes)
    where
      whole_tree : IsFileOfTree (of_nodes nodes is.rounds)
      whole_tree = record { shaped = parsed.forms; ordered = parsed.order; tree = parsed.tree; surrounded = is.surrounded }

      at_nodes : AreOpersCounted (of_nodes nodes is.rounds) k.headed.refused.now
      at_nodes c node at of_oper =
          refused_right t nodes parsed library asked first is few few_modules (item_at nodes) (child 0 node)
          (type_inside (of_nodes nodes is.rounds) whole_tree c node at of_oper)
          (outside_oper (of_nodes nodes is.rounds) whole_tree (have_parents t (of_nodes nodes is.rounds) parsed is.surrounded) c node at (child 0 node) (is_child (of_nodes nodes is.rounds) whole_tree c node at of_oper) of_oper)

  -- ---- what is asked

  abbrev TellsOf : File → Asked → Type 0
  TellsOf f its = TellAsked f (types_of is.is.is.terms) its

  pub told_file : TellsOf (of_file r) is.is.is.headed.heads.now.asked
  told_file =
      tells t r specs (refused_nodes (plain_of r)) is.is.types
      (file_made t nodes parsed library asked first is few few_modules is.is.types grown_first (first_arena t nodes parsed library asked first is few few_modules) (refused_nodes (plain_of r)))
      (to_file (λ ns rs. AreOfModules ns rs) parms) is.is.is.terms is.is.is.grows
      (file_made t nodes parsed library asked first is few few_modules is.is.is.terms grown_heads (headed_arena t nodes parsed library asked first is few few_modules) (refused_nodes (plain_of r))).values
      is.is.is.refused is.is.is.headed.heads.now is.is.is.heads counted lost

  -- of the file as the definitions have it
  pub told : TellsOf (file nodes library asked first is specs) k.headed.heads.now.asked
  told =
      subst (λ (f : File). TellsOf f k.headed.heads.now.asked) (sym same_file)
      (subst (λ (h : Headed). TellsOf (of_file r) h.heads.now.asked) (sym is.is.is.is.is.headed_is) told_file)

  -- and as the rules read its tables
  pub told_tables : TellsOf (of_file k.tables.file) k.headed.heads.now.asked
  told_tables =
      subst (λ (g : Read). TellsOf (of_file g) k.headed.heads.now.asked) (sym tables_file)
      (subst (λ (h : Headed). TellsOf (of_file r) h.heads.now.asked) (sym is.is.is.is.is.headed_is) told_file)

  -- ---- demands that disagree

  pub bits : k.disagrees.now ≡ with_clauses k.headed.heads.now.asked (length k.tables.file.syntax.now) (replicate (length k.tables.file.syntax.now) false)
  bits =
      is.is.is.is.is.asks.disagrees
      ∙ ap (λ (h : Headed). with_clauses h.heads.now.asked (length h.file.syntax.now) (replicate (length h.file.syntax.now) false)) (sym is.is.is.is.is.headed_is)
      ∙ ap (λ (g : Read). with_clauses k.headed.heads.now.asked (length g.syntax.now) (replicate (length g.syntax.now) false)) (headed_file ∙ sym tables_file)
    where
      headed_file : k.headed.file ≡ r
      headed_file = ap (λ (h : Headed). h.file) is.is.is.is.is.headed_is ∙ is.is.is.file_is

  its_whole : IsWhole t k.tables specs (refused_nodes (plain_of k.tables.file))
  its_whole = whole t nodes parsed library asked first is few few_modules (refused_nodes (plain_of k.tables.file))

  -- V6 of demands by these bits
  pub disagrees_right : (marks : List Bool) (bad : ℕ → Bool) → AreBad (of_file k.tables.file) marks bad → (n : ℕ) →
      disagrees_at (of_file k.tables.file) bad (kind_at k.tables.file.syntax.now n) n ≡ disagrees_by k.tables.file.syntax.now k.tables.file.names.now k.tables.circular.now marks k.disagrees.now (kind_at k.tables.file.syntax.now n) n
  disagrees_right marks bad are_bad n =
      let made = its_whole.made.file in
      disagrees_same k.tables (scope_in k.tables.file.syntax.now k.tables.file.rounds.now) specs (refused_nodes (plain_of k.tables.file)) made.parsed.forms made.parsed.tree
      (tables_are t k.tables specs (refused_nodes (plain_of k.tables.file)) its_whole.made) marks bad are_bad is.is.is.terms (headed_arena t nodes parsed library asked first is few few_modules) k.headed.heads.now.asked told_tables
      (of_kinds (of_file k.tables.file) made.parsed.tree made.rounds) n
      ∙ ap (λ (its : List Bool). disagrees_by k.tables.file.syntax.now k.tables.file.names.now k.tables.circular.now marks its (kind_at k.tables.file.syntax.now n) n) (sym bits)
