-- What is known of the nodes of a file is so while there are more types and more is found.
use Rattle.std.proofs.Common.{◌≡◌, ◌<◌, ◌≤◌, ◌⊎◌, inl, inr, ◌++◌, ℕ, Bool, false, List, [], length, map, refl, sym, ap, subst}
use Rattle.std.proofs.lemmas.Bool.{cases_lt}
use Rattle.std.proofs.lemmas.Option.{slice_get_past}
use Rattle.clu_tree.specs.declared.node.Node.{Node}
use Rattle.clu_tree.specs.declared.node.NodeKind.{NodeKind}
use Rattle.clu_tree.specs.declared.node.NodeKind.TheVariants as kind
use Rattle.clu_parser.specs.Trees.{Text}
use Rattle.clu_types.specs.Arena.{Grows, IsArena}
use Rattle.clu_types.specs.declared.term.Term.{Term}
use Rattle.clu_syntax.specs.Items.{Item}
use Rattle.clu_syntax.specs.Kinds.{kind_of}
use Rattle.clu_meaning.specs.Scoping.{Scope}
use Rattle.clu_checking.specs.Specifications.{Specification}
use Rattle.clu_checking.specs.Files.{File, kind_in}
use Rattle.clu_checking.specs.Invocations as invoking
use Rattle.clu_bindings.specs.declared.file.Headed.{Headed}
use Rattle.clu_operations.specs.declared.finding.Finding.{Finding}
use Rattle.clu_operations.specs.Finding.{AreWithin, Follows}
use Rattle.clu_typing.specs.declared.facts.Facts.{Facts}
use Rattle.clu_typing.specs.declared.facts.Invocation.{Invocation}
use Rattle.clu_typing.specs.declared.facts.Operation.{Operation}
use Rattle.clu_typing.specs.Facts as tables
use Rattle.clu_typing.specs.Facts.{type_of}
use Rattle.clu_typing.specs.Invoking.{lists_of}
use Rattle.clu_typing.specs.Pass.{AreKnown}
use Rattle.clu_typing.proofs.Passing.{known_sound}
use Rattle.clu_type_rules.specs.Askers.{with_finding}
use Rattle.clu_passes.specs.ConstantTables.{file_with}
use Rattle.clu_passes.specs.FactTables.{AreFacts, AreFound, AreInvocations, typed}
use Rattle.clu_passes.specs.NotedLists.{Noted, AreNoted}
use Rattle.clu_passes.specs.PassNoted.{IsKnownFile}
use Rattle.clu_passes.proofs.NodeSaid.{found_alone, node_read}
use Rattle.clu_passes.proofs.NodeTyped.{type_grown}
use Rattle.clu_passes.proofs.NodesNoted as pass

module _ (t : Text) (h : Headed) (scope : Scope) (library : List Specification) (refused : List ℕ) (items : ℕ → Item) (first : List Term) (lost : ℕ → Bool) (file : IsKnownFile t h (file_with h.file scope library refused) items first lost)
    (terms : List Term) (facts : Facts) (arena : IsArena terms) (known : AreKnown h items first (length h.file.syntax.now) terms facts) (new : List Term) (grows : Grows terms new) (finding : Finding) (follows : Follows facts.finding finding) where
  abbrev f : File
  f = file_with h.file scope library refused

  abbrev nodes : List Node
  nodes = h.file.syntax.now

  abbrev now : Facts
  now = with_finding facts finding

  abbrev noted : ℕ → Noted
  noted = pass.noted_at t h scope library refused file.parsed file.library items first file.types file.heads lost file.below file.names (length nodes) terms facts known

  follow : pass.FollowAll t h scope library refused file.parsed file.library items first file.types file.heads lost file.below file.names noted (length nodes) terms facts known
  follow = pass.follow_at t h scope library refused file.parsed file.library items first file.types file.heads lost file.below file.names noted (length nodes) terms facts known (λ m lt. refl)

  lists : AreNoted noted (lists_of facts.invocations) (length nodes)
  lists = pass.lists_noted t h scope library refused file.parsed file.library items first file.types file.heads lost file.below file.names noted (length nodes) terms facts known follow

  within : AreWithin (length terms) facts.finding
  within = (known_sound h items first (length nodes) terms facts known arena file.types).finding.within

  node_at : (n : ℕ) → n < length nodes → pass.IsNodeNoted t h scope library refused file.parsed file.library items first file.types file.heads lost file.below file.names noted new now n
  node_at n lt =
      pass.node_later_noted t h scope library refused file.parsed file.library items first file.types file.heads lost file.below file.names noted terms new facts now n grows within follows
      (pass.all_noted t h scope library refused file.parsed file.library items first file.types file.heads lost file.below file.names noted (length nodes) terms facts arena known follow n lt)

  abbrev Read : ℕ → Type 0
  Read n = AreInvocations new now (tables.invocations now n) (invoking.invocations f n) × AreFound new now (tables.operations_at now n) (invoking.operations_at f n)

  read_at : (n : ℕ) → n < length nodes → lost n ≡ false → Read n
  read_at n lt here =
      let one = node_at n lt in
      let read = node_read h.file scope library refused new now one.ids n one.its (file.wanted n here) noted (length nodes) lists lt one.noted (one.stands here) (one.given here) in
      (read.0, found_alone new now (tables.operations_at now n) (invoking.operations_at f n) read.1)

  -- what is no node invokes nothing
  none_at : (n : ℕ) → length nodes ≤ n → Read n
  none_at n past =
      let none : (tables.invocations facts n ≡ []) × (tables.operations_at facts n ≡ []) =
      pass.none_read t h scope library refused file.parsed file.library items first file.types file.heads lost file.below file.names file.wanted terms facts arena known n past in
      let no_node : kind.File ≡ kind_in f n = sym (ap kind_of (slice_get_past nodes n past)) in (
        subst (λ (xs : List Invocation). AreInvocations new now xs (invoking.invocations f n)) (sym none.0) (subst (λ (k : NodeKind). AreInvocations new now [] (invoking.invocations_by f k n)) no_node tt),
        subst (λ (xs : List Operation). AreFound new now xs (invoking.operations_at f n)) (sym none.1)
            (subst (λ (k : NodeKind). AreFound new now [] (map (λ (i : invoking.Invocation). i.invoked) (invoking.invocations_by f k n) ++ invoking.operations_by f k n)) no_node tt),
      )

  both : (n : ℕ) → lost n ≡ false → (n < length nodes) ⊎ (length nodes ≤ n) → Read n
  both n here (inl lt) = read_at n lt here
  both n here (inr past) = none_at n past

  pub facts_later : AreFacts f new now lost
  facts_later = record {
    below = file.below;
    types = λ n here.
        type_grown terms new grows (type_of facts n) (typed f n) (pass.types_told t h scope library refused file.parsed file.library items first file.types file.heads lost file.below file.names terms facts arena known n here);
    invoked = λ n here. (both n here (cases_lt n (length nodes))).0;
    operations = λ n here. (both n here (cases_lt n (length nodes))).1;
  }
