-- What the rules read of the tables of which a check answers is known.
use Rattle.std.proofs.Common.{◌≡◌, ◌∙◌, ◌+◌, ◌-◌, ◌^◌, ◌<◌, ℕ, List, length, map, Option, refl, sym, ap, ap₂, subst}
use Rattle.clu_base.specs.declared.rules.Refused.{Refused}
use Rattle.clu_tree.specs.declared.node.Node.{Node}
use Rattle.clu_tree.specs.Nodes.{modules}
use Rattle.clu_parser.specs.Trees.{Text}
use Rattle.clu_syntax.specs.declared.round.Round.{Round}
use Rattle.clu_syntax.specs.Nodes.{item_at}
use Rattle.clu_types.specs.declared.spec.Spec.{Spec}
use Rattle.clu_types.specs.declared.term.Term.{Term}
use Rattle.clu_types.specs.Arena.{Grows, types_of}
use Rattle.clu_checking.specs.Specifications.{Specification, specification_told}
use Rattle.clu_checking.specs.Files.{File, plain_file, scope_in}
use Rattle.clu_checking.specs.Refusals.{checked_file, refused_nodes}
use Rattle.clu_declares.specs.Declares.{AreFew, IsParsed}
use Rattle.clu_bindings.specs.declared.file.File.{File as Read}
use Rattle.clu_bindings.specs.declared.file.Headed.{Headed}
use Rattle.clu_operations.specs.Wished.{AreHeads}
use Rattle.clu_type_rules.specs.declared.known.Known.{Known}
use Rattle.clu_type_rules.specs.declared.routines.Routines.{Routines}
use Rattle.clu_type_rules.specs.Routines.{parts_to}
use Rattle.clu_passes.specs.ConstantTables.{file_with}
use Rattle.clu_passes.specs.FactTables.{AreOwnTypes}
use Rattle.clu_passes.specs.FoundTold.{TellHeads}
use Rattle.clu_passes.specs.Lost.{lost}
use Rattle.clu_passes.specs.OthersKnown.{AreOthersKnown}
use Rattle.clu_passes.specs.Reps.{AreReps}
use Rattle.clu_passes.specs.Routines.{AreParts}
use Rattle.clu_passes.specs.RulesKnown.{AreDemandsKnown, AreRulesKnown, AreUnmetBits}
use Rattle.clu_passes.proofs.RepsOfTree.{reps_of_tree}
use Rattle.clu_check_mod.specs.Answered.{IsFirst}
use Rattle.clu_check_mod.specs.declared.walk.Extent.{Extent}
use Rattle.clu_checked.specs.Checked.{IsLibrary, IsOfGrammar, file, headed, headed_file, known, tabled}
use Rattle.clu_checked.proofs.DemandsRight as demands
use Rattle.clu_checked.proofs.FactsRight as facts
use Rattle.clu_checked.proofs.HeadsRight.{found_right}
use Rattle.clu_checked.proofs.Told.{nodes_said, of_tree}
use Rattle.clu_checked.proofs.UnmetRight.{modules_right, unmet_known}
use Rattle.clu_checked.proofs.Whole.{headed_arena}

module _ (t : Text) (nodes : List Node) (parsed : IsParsed t nodes) (library : List Spec) (asked : Extent) (first : Option Refused) (is : IsFirst nodes library asked first)
    (few : AreFew nodes is.rounds) (few_modules : length (modules nodes) + length library < 2 ^ 32 - 1) (grammar : IsOfGrammar nodes is.rounds) (kept : IsLibrary library) where
  abbrev k : Known
  k = known nodes library asked first is

  abbrev specs : List Specification
  specs = map specification_told library

  abbrev f : File
  f = tabled nodes library asked first is (map specification_told library)

  -- ---- the file with its headings

  abbrev h : Headed
  h = headed nodes library asked first is

  abbrev with_heads : File
  with_heads = headed_file nodes library asked first is (map specification_told library)

  same : file nodes library asked first is specs ≡ headed_file nodes library asked first is specs
  same =
      ap₂ (λ (ns : List Node) (rs : List Round). checked_file ns rs specs)
      (sym (ap (λ (r : Read). r.syntax.now) is.is.is.file_is ∙ is.is.nodes_are)) (sym (ap (λ (r : Read). r.rounds.now) is.is.is.file_is ∙ is.is.rounds_are))

  -- by what `rep` is declared
  pub home_reps : AreReps with_heads
  home_reps =
      subst AreReps same
      (reps_of_tree t (file nodes library asked first is specs) parsed (of_tree t nodes parsed library asked first is specs) refl grammar.reps)

  pub heads : AreHeads h (length is.is.is.terms)
  heads = facts.heads_there t nodes parsed library asked first is few few_modules kept.operations

  pub told : (later : List Term) → Grows is.is.is.terms later → TellHeads h (headed_file nodes library asked first is specs) (types_of later)
  told later more = subst (λ (g : File). TellHeads h g (types_of later)) same (found_right t nodes parsed library asked first is few few_modules grammar.parameters later more)

  -- ---- of the tables with which the rules are asked

  -- what nodes ask, and the demands that disagree
  demands_known : AreDemandsKnown f k
  demands_known = record {
    terms = is.is.is.terms;
    arena = headed_arena t nodes parsed library asked first is few few_modules;
    told = demands.told_tables t nodes parsed library asked first is few few_modules grammar.parameters;
    bits = demands.bits t nodes parsed library asked first is few few_modules grammar.parameters;
  }

  abbrev gone_in : Read → List ℕ
  gone_in r = refused_nodes (plain_file r.syntax.now r.rounds.now specs)

  abbrev UnmetBy : List ℕ → Type 0
  UnmetBy refused = AreUnmetBits (file_with k.tables.file (scope_in k.tables.file.syntax.now k.tables.file.rounds.now) specs refused) k (lost (file_with k.tables.file (scope_in k.tables.file.syntax.now k.tables.file.rounds.now) specs refused))

  unmet : AreUnmetBits f k (lost f)
  unmet =
      subst (λ (r : Read). UnmetBy (gone_in r)) (sym is.is.is.is.is.tables.file_is)
      (unmet_known t nodes parsed library asked first is few few_modules (item_at nodes) (gone_in h.file)
      (facts.known_file t nodes parsed library asked first is few few_modules home_reps heads told kept.components (item_at nodes)))

  rules_known : AreRulesKnown f k (lost f)
  rules_known = record {
    facts = facts.facts_right t nodes parsed library asked first is few few_modules home_reps heads told kept.components (item_at nodes);
    wanted = facts.wanted_right t nodes parsed library asked first is few few_modules home_reps heads told kept.components (item_at nodes);
    modules = modules_right t nodes parsed library asked first is few few_modules (gone_in k.tables.file);
    unmet = unmet;
    demands = demands_known;
  }

  -- the parts of routines
  pub parts : AreParts f k.routines.now.parts.items
  parts items =
      ap (λ (r : Routines). r.parts.items) is.is.is.is.is.routines
      ∙ is.is.lists_are.routines items
      ∙ ap (λ (ns : List Node). parts_to items ns (length ns)) (sym (nodes_said t nodes parsed library asked first is specs))

  pub own : AreOwnTypes f k (lost f)
  own = facts.own_right t nodes parsed library asked first is few few_modules home_reps heads told kept.components (item_at nodes)

  pub others_known : AreOthersKnown f k (lost f)
  others_known = record {
    rules = rules_known;
    inside = facts.inside_right t nodes parsed library asked first is few few_modules home_reps heads told kept.components (item_at nodes);
    raises = facts.raises_right t nodes parsed library asked first is few few_modules home_reps heads told kept.components (item_at nodes);
    parts = parts;
    kept = facts.kept_right t nodes parsed library asked first is few few_modules home_reps heads told kept.components (item_at nodes);
    variables = facts.variables_right t nodes parsed library asked first is few few_modules home_reps heads told kept.components (item_at nodes);
    given = facts.results_right t nodes parsed library asked first is few few_modules home_reps heads told kept.components (item_at nodes);
  }
