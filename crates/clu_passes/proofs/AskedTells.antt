-- The table of what the nodes of a file ask is right, where heads are made of the file: it tells what the definition asks, its types are
-- of their arena, and each demand stands in its clause.
use Rattle.std.proofs.Common.{◌≡◌, ◌∙◌, ℕ, ◌+◌, ◌<◌, Bool, List, [], ◌∷◌, Contains, length, Option, Some, None, IfSome, inl, inr, sym, ap, subst, arith, length-append}
use Rattle.clu_base.specs.declared.constants.Const.{Const}
use Rattle.clu_base.proofs.Lists.{head_or_tail, in_none}
use Rattle.clu_parser.specs.Trees.{Text}
use Rattle.clu_tree.specs.declared.node.Node.{Node}
use Rattle.clu_types.specs.Arena.{Grows, types_of}
use Rattle.clu_types.specs.declared.term.Term.{Term}
use Rattle.clu_types.specs.declared.term.TypeId.{TypeId}
use Rattle.clu_types.proofs.Arenas.{length-types_of}
use Rattle.clu_syntax.specs.declared.round.Round.{Round}
use Rattle.clu_syntax.specs.Rounds.{AreRounds}
use Rattle.clu_names.specs.declared.scopes.Declared.{Declared}
use Rattle.clu_names.specs.Scopes.{declarations}
use Rattle.clu_checking.specs.Specifications.{Specification}
use Rattle.clu_checking.specs.Files.{File, scope_in}
use Rattle.clu_settle.specs.Settled.{AreSettled}
use Rattle.clu_settle.specs.Values.{AreWithin}
use Rattle.clu_settle.specs.declared.value.Value.{Value}
use Rattle.clu_declares.specs.Declares.{AreFew, IsParsed}
use Rattle.clu_head.specs.declared.head.Demanded.{Demanded}
use Rattle.clu_head.specs.declared.heads.Heads.{Heads}
use Rattle.clu_head.specs.declared.known.Known.{Known}
use Rattle.clu_head.specs.Asked.{demands_of}
use Rattle.clu_head.specs.Modules.{AreHeadsOf, AreKnown, AreOf}
use Rattle.clu_head.specs.Refused.{counts_to}
use Rattle.clu_bindings.specs.declared.file.File.{File as Read}
use Rattle.clu_operations.specs.Finding.{IsBelowIf}
use Rattle.clu_passes.specs.Bound.{AreOfModules}
use Rattle.clu_passes.specs.ConstantTables.{file_with}
use Rattle.clu_passes.specs.Demands.{TellAsked}
use Rattle.clu_passes.specs.DemandsTold.{AreOpersCounted, AreOpersLost}
use Rattle.clu_passes.specs.Heads.{file_known}
use Rattle.clu_passes.specs.Made.{IsMade}
use Rattle.clu_passes.proofs.AskedInside.{inside}
use Rattle.clu_passes.proofs.AskedWhole.{table_told}
use Rattle.clu_passes.proofs.DemandsEach.{Each, each_of}
use Rattle.clu_passes.proofs.HeadNumbers.{asked_below}

-- ---- types

below_some : (n : ℕ) (o : Option TypeId) → IsBelowIf n o → IfSome o (λ id. id.0 < n)
below_some n (Some id) is = is
below_some n None is = tt

each_below : (n : ℕ) (ds : List Demanded) → Each (IsBelowIf n) ds → (d : Demanded) → Contains ds d → IfSome d.wanted (λ id. id.0 < n)
each_below n [] all d h = in_none d h
each_below n (x ∷ ds) all d h = elim (head_or_tail x ds d h) [
  | inl is ↦ subst (λ (y : Demanded). IfSome y.wanted (λ id. id.0 < n)) is (below_some n x.wanted all.0)
  | inr there ↦ each_below n ds all.1 d there
]

-- ---- where the tables of which heads are made are those of the file

module _ (t : Text) (k : Known) (library : List Specification) (refused : List ℕ) (parsed : IsParsed t k.syntax.now) (surrounded : AreRounds k.syntax.now k.rounds.now) (few : AreFew k.syntax.now k.rounds.now) (parms : AreOfModules k.syntax.now k.rounds.now) where
  abbrev own : File
  own = file_known k (scope_in k.syntax.now k.rounds.now) library refused

  own_tell : AreOpersCounted own k.refused.now → (bits : List Bool) → AreKnown k.syntax.now k.rounds.now (declarations k.syntax.now k.rounds.now) k.values.now bits k → (old new : List Term) → Grows old new → (many : ℕ) → AreWithin (length old) many k.values.now
      → (constants : List Const) → AreSettled k.syntax.now (scope_in k.syntax.now k.rounds.now) new constants k.values.now → AreOpersLost own k.values.now → (heads : Heads) → AreOf k old new heads → TellAsked own (types_of new) heads.asked
  own_tell counted bits made old new grows many within constants known lost heads all =
      let size : length new ≡ length old + length grows.0 = ap length grows.1 ∙ length-append old grows.0 in
      let below : Each (IsBelowIf (length new)) heads.asked.demands.items = asked_below k (length old) many within old new (omega (arith, size)) (length k.syntax.now) heads.asked.demands.items all.asked in
      record {
        told = table_told t k library refused parsed surrounded few parms counted bits made old new many within constants known lost heads all;
        within = λ c d h.
            subst (λ (n : ℕ). IfSome d.wanted (λ id. id.0 < n)) (sym (length-types_of new))
            (each_below (length new) (demands_of heads.asked.demands.items heads.asked.starts.items c) (each_of (IsBelowIf (length new)) heads.asked.demands.items heads.asked.starts.items c below) d h);
        inside = λ c d h. inside t own parsed surrounded k.counts.now k.restricted.now heads.asked all.starts all.demands c d h;
      }

module _ (t : Text) (r : Read) (library : List Specification) (refused : List ℕ) (types : List Term) (is : IsMade t r library refused types) (parms : AreOfModules r.syntax.now r.rounds.now) (terms : List Term) (grows : Grows types terms)
    (settled : AreSettled r.syntax.now (scope_in r.syntax.now r.rounds.now) terms r.constants.now r.values.now) (bits : List Bool) (heads : Heads) where
  abbrev made_of : List Node → List Round → File
  made_of nodes rounds = record { nodes = nodes; rounds = rounds; scope = scope_in nodes rounds; library = library; refused = refused }

  module _ (k : Known) (made : AreKnown r.syntax.now r.rounds.now r.names.now.declared.items r.values.now bits k) where
    -- what is so of the tree, its surroundings and values is so of those of which heads are made, and back
    module _ (Q : List Node → List Round → List Value → Type 0) where
      to_known : Q r.syntax.now r.rounds.now r.values.now → Q k.syntax.now k.rounds.now k.values.now
      to_known q =
          subst (λ (nodes : List Node). Q nodes k.rounds.now k.values.now) (sym made.tree)
          (subst (λ (rounds : List Round). Q r.syntax.now rounds k.values.now) (sym made.round)
          (subst (λ (values : List Value). Q r.syntax.now r.rounds.now values) (sym made.value) q))

      from_known : Q k.syntax.now k.rounds.now k.values.now → Q r.syntax.now r.rounds.now r.values.now
      from_known q =
          subst (λ (nodes : List Node). Q nodes r.rounds.now r.values.now) made.tree
          (subst (λ (rounds : List Round). Q k.syntax.now rounds r.values.now) made.round
          (subst (λ (values : List Value). Q k.syntax.now k.rounds.now values) made.value q))

    of_declared : AreKnown r.syntax.now r.rounds.now (declarations r.syntax.now r.rounds.now) r.values.now bits k
    of_declared = subst (λ (ds : List Declared). AreKnown r.syntax.now r.rounds.now ds r.values.now bits k) is.names.declared made

    of_known : AreOf k types terms heads → AreOpersCounted (made_of r.syntax.now r.rounds.now) (counts_to bits (length bits)) → AreOpersLost (made_of r.syntax.now r.rounds.now) r.values.now → TellAsked (made_of r.syntax.now r.rounds.now) (types_of terms) heads.asked
    of_known all counted lost =
        from_known (λ nodes rounds values. TellAsked (made_of nodes rounds) (types_of terms) heads.asked)
        (own_tell t k library refused
        (to_known (λ nodes rounds values. IsParsed t nodes) is.parsed)
        (to_known (λ nodes rounds values. AreRounds nodes rounds) is.rounds)
        (to_known (λ nodes rounds values. AreFew nodes rounds) is.few)
        (to_known (λ nodes rounds values. AreOfModules nodes rounds) parms)
        (subst (AreOpersCounted (made_of k.syntax.now k.rounds.now)) (sym made.counted) (to_known (λ nodes rounds values. AreOpersCounted (made_of nodes rounds) (counts_to bits (length bits))) counted))
        bits
        (to_known (λ nodes rounds values. AreKnown nodes rounds (declarations nodes rounds) values bits k) of_declared)
        types terms grows (length r.constants.now)
        (to_known (λ nodes rounds values. AreWithin (length types) (length r.constants.now) values) is.values.within)
        r.constants.now
        (to_known (λ nodes rounds values. AreSettled nodes (scope_in nodes rounds) terms r.constants.now values) settled)
        (to_known (λ nodes rounds values. AreOpersLost (made_of nodes rounds) values) lost)
        heads all)

  pub tells : AreHeadsOf r.syntax.now r.rounds.now r.names.now.declared.items r.values.now bits types terms heads → AreOpersCounted (file_with r (scope_in r.syntax.now r.rounds.now) library refused) (counts_to bits (length bits)) → AreOpersLost (file_with r (scope_in r.syntax.now r.rounds.now) library refused) r.values.now
      → TellAsked (file_with r (scope_in r.syntax.now r.rounds.now) library refused) (types_of terms) heads.asked
  unfolding AreHeadsOf
  tells are counted lost = of_known are.0 are.1 are.2 counted lost
