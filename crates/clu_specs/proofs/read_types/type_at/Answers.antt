use Rattle.std.proofs.Common.{◌+◌, ◌*◌, ◌<◌, ℕ, List, length, refl, sym, subst, arith, Bor}
use Rattle.std.proofs.lemmas.Result.{err_from_is_err_and}
use Rattle.clu_types.specs.Arena.{types_of}
use Rattle.clu_specs.specs.declared.pending.Found.{Found}
use Rattle.clu_specs.proofs.Depths.{type_read_none}
use Rattle.clu_specs.proofs.Stack.{weight_of}
use Rattle.clu_specs.proofs.Comes.{comes_first, first_fails, popped_below, comes_resumed, resumed_fails, comes_entered, entered_fails, deeper_fails, comes_item, items_fail, comes_signal, signals_fail, entered_less, resumed_less, item_less, signal_less, comes_at}
use Rattle.clu_specs.proofs.read_types.type_at.Goals.{in-Whole+in-Some+in_ok-resume-in-Some, in-Inside+else-depth-len+in_ok-push-in-Inside+in_ok-begin_type-in-Inside, in-Item+in_ok-begin_item-in-Item, in-Signal+in_ok-next-in-Signal}
use Rattle.clu_specs.proofs.read_types.type_at.Goals as goal

pub returns-then-depth-eq0-clause-reads : goal.returns-then-depth-eq0-clause-reads
returns-then-depth-eq0-clause-reads c = rw c.fault.ensures (type_read_none _ _ _ c.if-depth-eq0.true)

pub returns-in_err-found-clause-reads : goal.returns-in_err-found-clause-reads
returns-in_err-found-clause-reads c =
    let p = err_from_is_err_and c.from_residual.result c.from_residual.ensures.1 in
    rw (p.1, p.2) (first_fails c.args.scope.now c.args.depth c.args.bytes.now c.in_err-found.field-0.0 (omega (arith, c.if-depth-eq0.false)) c.in_err-found.ensures.reads)

pub loop-found-init : goal.loop-found-init
loop-found-init c =
    rw c.new-pending.ensures.items
    (comes_first c.args.scope.now c.args.depth c.args.bytes.now c.args.types.now c.begin_type.new.types c.in_ok-found.found c.in_ok-found.rest.now (omega (arith, c.if-depth-eq0.false)) c.in_ok-found.ensures.kept c.in_ok-found.ensures.within c.in_ok-found.ensures.reads)

pub resume-requires-clause-pending : goal.resume-requires-clause-pending
resume-requires-clause-pending c =
    (popped_below _ _ _ _ _ c.pop.new.self.items c.in-Some.begun c.in-Whole.id _ (comes_at _ _ _ _ _ _ _ _ _ _ c.loop-found.invariant c.in-Whole.is c.in-Some.ensures.items)).1

pub returns-in_err-resume-in-Some-clause-reads : goal.returns-in_err-resume-in-Some-clause-reads
returns-in_err-resume-in-Some-clause-reads c =
    let p = err_from_is_err_and c.from_residual-in_err-resume-in-Some.result c.from_residual-in_err-resume-in-Some.ensures.1 in
    rw (p.1, p.2)
    (resumed_fails _ _ _ _ _ c.pop.new.self.items c.in-Some.begun c.in-Whole.id _ (comes_at _ _ _ _ _ _ _ _ _ _ c.loop-found.invariant c.in-Whole.is c.in-Some.ensures.items) c.in_err-resume-in-Some.field-0.0 c.in_err-resume-in-Some.ensures.reads)

pub returns-then-depth-len-clause-reads : goal.returns-then-depth-len-clause-reads
returns-then-depth-len-clause-reads c =
    rw c.fault-then-depth-len.ensures
    (deeper_fails _ _ _ _ _ c.loop-found.pending.items c.in-Inside.begun _ (comes_at _ _ _ _ _ _ _ _ _ _ c.loop-found.invariant c.in-Inside.is refl) (omega (arith, c.if-depth-len.true, c.len.ensures, c.loop-found.pending.ok.0)))

pub returns-in_err-begin_type-in-Inside-clause-reads : goal.returns-in_err-begin_type-in-Inside-clause-reads
returns-in_err-begin_type-in-Inside-clause-reads c =
    let p = err_from_is_err_and c.from_residual-in_err-begin_type-in-Inside.result c.from_residual-in_err-begin_type-in-Inside.ensures.1 in
    rw (p.1, p.2)
    (entered_fails _ _ _ _ _ c.loop-found.pending.items c.in-Inside.begun _ (comes_at _ _ _ _ _ _ _ _ _ _ c.loop-found.invariant c.in-Inside.is refl) c.in_err-begin_type-in-Inside.field-0.0 (omega (arith, c.if-depth-len.false, c.len.ensures, c.loop-found.pending.ok.0)) c.in_err-begin_type-in-Inside.ensures.reads)

pub returns-in_err-begin_item-in-Item-clause-reads : goal.returns-in_err-begin_item-in-Item-clause-reads
returns-in_err-begin_item-in-Item-clause-reads c =
    let p = err_from_is_err_and c.from_residual-in_err-begin_item-in-Item.result c.from_residual-in_err-begin_item-in-Item.ensures.1 in
    rw (p.1, p.2) (items_fail _ _ _ _ _ c.loop-found.pending.items c.in-Item.begun _ (comes_at _ _ _ _ _ _ _ _ _ _ c.loop-found.invariant c.in-Item.is refl) c.in_err-begin_item-in-Item.field-0.0 c.in_err-begin_item-in-Item.ensures.reads)

pub returns-in_err-next-in-Signal-clause-reads : goal.returns-in_err-next-in-Signal-clause-reads
returns-in_err-next-in-Signal-clause-reads c =
    let p = err_from_is_err_and c.from_residual-in_err-next-in-Signal.result c.from_residual-in_err-next-in-Signal.ensures.1 in
    rw (p.1, p.2) (signals_fail _ _ _ _ _ c.loop-found.pending.items c.in-Signal.signals _ (comes_at _ _ _ _ _ _ _ _ _ _ c.loop-found.invariant c.in-Signal.is refl) c.in_err-next-in-Signal.field-0.0 c.in_err-next-in-Signal.ensures.reads)

pub loop-found-smaller : goal.loop-found-smaller
loop-found-smaller c =
    let less : Found × Bor (List ℕ) → Type 0 = λ x. 2 * length x.1.now + weight_of x.0 < 2 * length c.loop-found.rest.now + weight_of c.loop-found.found in
    elim c.match-found.branch [
      | in-Whole+in-Some+in_ok-resume-in-Some w ↦ subst less (sym w.next-is) (resumed_less (types_of w.resume.new.types) _ _ _ _ (types_of c.loop-found.types) w.in-Some.begun _ w.in-Whole.id w.in-Whole.is w.in_ok-resume-in-Some.ensures.reads)
      | in-Inside+else-depth-len+in_ok-push-in-Inside+in_ok-begin_type-in-Inside w ↦ subst less (sym w.next-is) (entered_less (types_of w.begin_type-in-Inside.new.types) _ _ _ _ c.args.scope.now w.in-Inside.begun w.in-Inside.is w.in_ok-begin_type-in-Inside.ensures.reads)
      | in-Item+in_ok-begin_item-in-Item w ↦ subst less (sym w.next-is) (item_less (types_of w.begin_item.new.types) _ _ _ _ c.args.scope.now (types_of c.loop-found.types) w.in-Item.begun w.in-Item.is w.in_ok-begin_item-in-Item.ensures.reads)
      | in-Signal+in_ok-next-in-Signal w ↦ subst less (sym w.next-is) (signal_less (types_of w.begin_signal.new.types) _ _ _ _ (types_of c.loop-found.types) w.in-Signal.signals w.in-Signal.is w.in_ok-next-in-Signal.ensures.reads)
    ]

pub loop-found-preserved : goal.loop-found-preserved
loop-found-preserved c = elim c.match-found.branch [
  | in-Whole+in-Some+in_ok-resume-in-Some w ↦
      rw (w.next-is, w.types-is, w.pending-is)
      (comes_resumed _ _ _ _ _ w.pop.new.self.items w.in-Some.begun w.in-Whole.id _ (comes_at _ _ _ _ _ _ _ _ _ _ c.loop-found.invariant w.in-Whole.is w.in-Some.ensures.items) w.resume.new.types _ _ w.in_ok-resume-in-Some.ensures.kept w.in_ok-resume-in-Some.ensures.within w.in_ok-resume-in-Some.ensures.reads)
  | in-Inside+else-depth-len+in_ok-push-in-Inside+in_ok-begin_type-in-Inside w ↦
      rw (w.next-is, w.types-is, w.pending-is, w.in_ok-push-in-Inside.ensures.items)
      (comes_entered _ _ _ _ _ c.loop-found.pending.items w.in-Inside.begun _ (comes_at _ _ _ _ _ _ _ _ _ _ c.loop-found.invariant w.in-Inside.is refl) w.begin_type-in-Inside.new.types _ _ (omega (arith, w.if-depth-len.false, w.len.ensures, c.loop-found.pending.ok.0)) w.in_ok-begin_type-in-Inside.ensures.kept w.in_ok-begin_type-in-Inside.ensures.within w.in_ok-begin_type-in-Inside.ensures.reads)
  | in-Item+in_ok-begin_item-in-Item w ↦
      rw (w.next-is, w.types-is, w.pending-is)
      (comes_item _ _ _ _ _ c.loop-found.pending.items w.in-Item.begun _ (comes_at _ _ _ _ _ _ _ _ _ _ c.loop-found.invariant w.in-Item.is refl) w.begin_item.new.types _ _ w.in_ok-begin_item-in-Item.ensures.kept w.in_ok-begin_item-in-Item.ensures.within w.in_ok-begin_item-in-Item.ensures.reads)
  | in-Signal+in_ok-next-in-Signal w ↦
      rw (w.next-is, w.types-is, w.pending-is)
      (comes_signal _ _ _ _ _ c.loop-found.pending.items w.in-Signal.signals _ (comes_at _ _ _ _ _ _ _ _ _ _ c.loop-found.invariant w.in-Signal.is refl) w.begin_signal.new.types _ _ w.in_ok-next-in-Signal.ensures.kept w.in_ok-next-in-Signal.ensures.within w.in_ok-next-in-Signal.ensures.reads)
]
