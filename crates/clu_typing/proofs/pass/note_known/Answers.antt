use Rattle.std.proofs.Common.{◌∙◌, List, [], ◌∷◌, ◌++◌, length, Option, refl, ap, subst}
use Rattle.clu_types.specs.declared.term.TypeId.{TypeId}
use Rattle.clu_operations.specs.Wished.{IsFinding}
use Rattle.clu_typing.specs.declared.facts.Invoked.{Invoked}
use Rattle.clu_typing.specs.Found.{FindsMore, HaveOperands, IsAppliedTold}
use Rattle.clu_typing.specs.Invoked.{invoked_at}
use Rattle.clu_typing.specs.Invoking.{NotesModule, begun, lists_of, module_at, noted}
use Rattle.clu_typing.specs.Stands.{IsApplied, stands_at}
use Rattle.clu_typing.specs.Typing.{IsNodeType}
use Rattle.clu_typing.proofs.pass.note_known.Goals as goal

-- each call reads what the table holds by then
pub returns-clause-noted : goal.returns-clause-noted
returns-clause-noted c = λ items.
    let h = c.args.headed in
    let n = c.args.n in
    let before = c.args.facts.now in
    let its = c.in_ok-applied.applied in
    let of = c.in_ok-of.of in
    record {
      of = of;
      applied_terms = c.applied_at.new.types;
      typed_terms = c.node_type.new.types;
      applied_finding = c.applied_at.new.finding;
      typed_finding = c.node_type.new.finding;
      applied_grows = c.in_ok-applied.ensures.kept;
      typed_grows = c.in_ok-of.ensures.kept;
      grows = c.in_ok-note_invocations.ensures.kept;
      applied = subst (λ (known : List (Option TypeId)). IsApplied before.finding.words (stands_at h.file known n items) its) c.as_slice.ensures.value (c.in_ok-applied.ensures.stands items);
      applied_found =
          subst (λ (known : List (Option TypeId)). HaveOperands h.file known (length c.args.types.now) → IsFinding h c.args.types.now before.finding
          → FindsMore h c.applied_at.new.types before.finding c.applied_at.new.finding × IsAppliedTold h c.applied_at.new.types c.applied_at.new.finding n (stands_at h.file known n items) its)
          c.as_slice.ensures.value (c.in_ok-applied.ensures.found items);
      typed = subst (λ (known : List (Option TypeId)). IsNodeType c.applied_at.new.types c.node_type.new.types c.applied_at.new.finding c.node_type.new.finding h n its known items of) c.as_slice-2.ensures.value (c.in_ok-of.ensures.of_type items);
      typed_found = c.in_ok-of.ensures.found;
      types = c.in_ok-push.ensures.items;
      lists =
          subst (λ (known : List (Option TypeId)). NotesModule h c.node_type.new.types c.note_invocations.new.types c.node_type.new.finding c.note_invocations.new.finding (module_at h.file c.node_type.new.types n)
          (noted h.file known c.node_type.new.finding its n (begun (lists_of before.invocations))) (lists_of c.note_invocations.new.list))
          c.as_slice-3.ensures.value c.in_ok-note_invocations.ensures.lists;
      module_found = c.in_ok-note_invocations.ensures.found;
      invoked =
          c.in_ok-push-2.ensures.items
          ∙ ap (λ (one : Option Invoked). before.invoked.items ++ one ∷ []) (c.invoked_at-invoked.ensures ∙ ap (λ (invoked : List (Option Invoked)). invoked_at h.file c.note_invocations.new.types invoked its n) c.as_slice-4.ensures.value);
      raises = refl;
      raising = refl;
    }
