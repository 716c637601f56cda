-- No cluster has more parameters than 32 bits count.
use Rattle.std.proofs.Common.{◌≡◌, ◌∙◌, ℕ, ◌+◌, ◌-◌, ◌<◌, ◌≤◌, ◌^◌, Bool, true, false, List, [], ◌∷◌, ◌++◌, length, Option, Some, None, inl, inr, refl, sym, ap, subst, arith}
use Rattle.std.specs.Prelude.{slice_get}
use Rattle.std.proofs.lemmas.Bool.{true≢false, cases_lt}
use Rattle.std.proofs.lemmas.Option.{same_Some, slice_get_within}
use Rattle.clu_tree.specs.declared.node.Node.{Node}
use Rattle.clu_tree.specs.declared.node.NodeKind.{NodeKind}
use Rattle.clu_tree.specs.declared.node.NodeKind.TheVariants as kind
use Rattle.clu_parser.specs.Trees.{Text}
use Rattle.clu_syntax.specs.declared.round.Round.{Round}
use Rattle.clu_syntax.specs.Kinds.{kind_at, kind_of}
use Rattle.clu_syntax.specs.Nodes.{item_at}
use Rattle.clu_syntax.specs.Rounds.{AreRounds}
use Rattle.clu_syntax.specs.Splits.{is_of, run}
use Rattle.clu_syntax.specs.Syntax.{Module}
use Rattle.clu_names.specs.Scopes.{declarations}
use Rattle.clu_meaning.specs.Scoping.{parameter_number}
use Rattle.clu_settle.specs.Parameters.{counted}
use Rattle.clu_parts.proofs.Fitting.{children_before}
use Rattle.clu_checking.specs.Files.{parameters_in}
use Rattle.clu_declares.specs.Declares.{AreFew, IsParsed}
use Rattle.clu_declares.proofs.Below.{same_kind}
use Rattle.clu_declares.proofs.Facts.{There, ModuleIs, module_at, run_kinds, there}
use Rattle.clu_declares.proofs.Numbered.{count_is}
use Rattle.clu_declares.proofs.Parents.{HasParent, IsIn, has_parent, in_either, module_of_cluster}
use Rattle.clu_parts.proofs.Fitting.{AreParts}
use Rattle.clu_passes.proofs.HeadsSaid.{counted_small}

module _ (t : Text) (nodes : List Node) (rounds : List Round) (parsed : IsParsed t nodes) (are : AreRounds nodes rounds) (few : AreFew nodes rounds) where
  module_few : (u : ℕ) (node : Node) → slice_get nodes u ≡ Some node → node.kind ≡ kind.Module → parameter_number (parameters_in (item_at nodes u).module_) ≤ 4294967295
  module_few u node at is =
      let all : counted nodes rounds (declarations nodes rounds) u (length (declarations nodes rounds)) ≡ parameter_number (parameters_in (item_at nodes u).module_) = count_is t nodes rounds parsed are (omega (arith, few)) u node at is in
      let small : counted nodes rounds (declarations nodes rounds) u (length (declarations nodes rounds)) ≤ 4294967295 = counted_small nodes rounds (declarations nodes rounds) u (length (declarations nodes rounds)) in
      omega (arith, all, small)

  -- none of them is of the kind
  none_in : (k : NodeKind) (n m : ℕ) (cs : List ℕ) → AreParts nodes (is_of k) n cs → IsIn m cs → is_of k (kind_at nodes m) ≡ true
  none_in k n m [] parts i = absurd i
  none_in k n m (c ∷ cs) parts (inl same) = ap (λ (i : ℕ). is_of k (kind_at nodes i)) (sym same) ∙ parts.0.1
  none_in k n m (c ∷ cs) parts (inr more) = none_in k n m cs parts.1 more

  module _ (m : ℕ) (is : kind_at nodes m ≡ kind.Cluster) where
    its_node : There nodes m kind.Cluster
    its_node = there nodes m kind.Cluster refl is

    -- the last node is the file
    inside : m < length nodes - 1
    inside = elim (cases_lt m (length nodes - 1)) [
      | inl less ↦ less
      | inr more ↦
          let there_is : m < length nodes = slice_get_within nodes m its_node.node its_node.at in
          let same : m ≡ length nodes - 1 = omega (arith, more, there_is) in
          absurd (true≢false (sym (ap (is_of kind.File) (ap (kind_at nodes) same ∙ ap kind_of parsed.file.1 ∙ parsed.file.2)) ∙ ap (is_of kind.File) is))
    ]

    up : HasParent nodes m
    up = has_parent nodes parsed.order m inside

    above : up.node.kind ≡ kind.Module
    above = same_kind kind.Module up.node.kind (module_of_cluster nodes parsed.tree up.parent up.node up.at (parsed.forms up.parent up.node up.at) m up.child is)

    abbrev facts : ModuleIs t nodes rounds parsed are up.parent up.node
    facts = module_at t nodes rounds parsed are up.parent up.node up.at above

    last_is : m ≡ facts.last
    last_is = elim (in_either m (run nodes kind.Equate up.node.children) (facts.last ∷ []) (subst (IsIn m) (sym facts.is_last) up.child)) [
      | inl i ↦
          absurd (true≢false (sym (none_in kind.Equate up.parent m (run nodes kind.Equate up.node.children)
          (run_kinds nodes kind.Equate up.parent up.node.children (children_before nodes parsed.tree up.parent up.node up.at)) i)
          ∙ ap (is_of kind.Equate) is))
      | inr (inl same) ↦ sym same
      | inr (inr never) ↦ absurd never
    ]

    pub few_parameters : parameter_number (item_at nodes m).cluster.parameters ≤ 4294967295
    few_parameters = elim facts.defines [
      | inl r ↦ absurd (true≢false (sym (ap (is_of kind.Cluster) (sym (ap (kind_at nodes) last_is) ∙ is)) ∙ ap (is_of kind.Cluster) r.0))
      | inr c ↦
          let small : parameter_number (parameters_in (item_at nodes up.parent).module_) ≤ 4294967295 = module_few up.parent up.node up.at above in
          subst (λ (i : ℕ). parameter_number (item_at nodes i).cluster.parameters ≤ 4294967295) (sym last_is)
          (subst (λ (x : Module). parameter_number (parameters_in x) ≤ 4294967295) c.1 small)
    ]
