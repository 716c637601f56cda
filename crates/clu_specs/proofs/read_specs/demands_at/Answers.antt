use Rattle.std.proofs.Common.{length, map, sym, refl}
use Rattle.std.proofs.lemmas.Result.{err_from_is_err_and}
use Rattle.clu_types.specs.Arena.{types_of}
use Rattle.clu_specs.specs.TypeReading.{type_read}
use Rattle.clu_specs.specs.Seen.{demand_seen}
use Rattle.clu_specs.specs.SpecReading.{demands_step, demands_next, demands_read}
use Rattle.clu_specs.specs.Specifications.{DemandsBelow}
use Rattle.clu_specs.proofs.Growing.{Makes, demands_turn}
use Rattle.clu_specs.proofs.Rows.{row_on, row_end, row_fails, fails_on, row_out}
use Rattle.clu_specs.proofs.SpecRows.{demands_made}
use Rattle.clu_specs.proofs.read_specs.demands_at.Goals as goal

pub loop-preserved : goal.loop-preserved
loop-preserved c =
    let part = type_read c.args.scope.now c.args.depth in
    record {
      makes = rw c.in_ok-push.ensures.items (demands_turn _ _ _ _ _ c.loop.invariant.makes c.in_ok-demand.ensures.kept (c.in_ok-demand.ensures.within, tt));
      so_far =
          rw c.in_ok-push.ensures.items
          (row_on (demands_step c.args.scope.now part) (demands_next c.args.scope.now part) (length c.args.bytes.now) c.loop.counter (map (demand_seen (types_of c.loop.types)) c.loop.made.items, c.loop.param, c.loop.previous.now) _ c.loop.rest.now c.in_ok-demand.after.now c.in-Some.next.now _ c.loop-test.true
          (demands_made c.loop.types c.demand_at.new.types c.in_ok-demand.ensures.kept c.args.scope.now part c.loop.made.items c.in_ok-demand.demand c.loop.param c.loop.previous.now c.in_ok-demand.name.now c.loop.rest.now c.in_ok-demand.after.now c.in_ok-demand.ensures.name c.loop.invariant.makes.within c.in_ok-demand.ensures.reads) (sym c.in-Some.ensures) c.loop.invariant.so_far);
    }

pub returns-in-None-clause-within : goal.returns-in-None-clause-within
returns-in-None-clause-within c =
    let made : Makes DemandsBelow c.args.types.now c.demand_at.new.types c.push.new.self.items =
    rw c.in_ok-push.ensures.items (demands_turn _ _ _ _ _ c.loop.invariant.makes c.in_ok-demand.ensures.kept (c.in_ok-demand.ensures.within, tt)) in
    rw c.from_vec.ensures made.within

pub returns-in-None-clause-reads : goal.returns-in-None-clause-reads
unfolding demands_read
returns-in-None-clause-reads c =
    let part = type_read c.args.scope.now c.args.depth in
    let read = row_end (demands_step c.args.scope.now part) (demands_next c.args.scope.now part) (length c.args.bytes.now) c.loop.counter (map (demand_seen (types_of c.loop.types)) c.loop.made.items, c.loop.param, c.loop.previous.now) _ c.loop.rest.now c.in_ok-demand.after.now _ c.loop-test.true
    (demands_made c.loop.types c.demand_at.new.types c.in_ok-demand.ensures.kept c.args.scope.now part c.loop.made.items c.in_ok-demand.demand c.loop.param c.loop.previous.now c.in_ok-demand.name.now c.loop.rest.now c.in_ok-demand.after.now c.in_ok-demand.ensures.name c.loop.invariant.makes.within c.in_ok-demand.ensures.reads) (sym c.in-None.ensures) c.loop.invariant.so_far in
    rw (c.from_vec.ensures, c.in_ok-push.ensures.items) (rw read refl)

pub returns-clause-reads : goal.returns-clause-reads
unfolding demands_read
returns-clause-reads c =
    let part = type_read c.args.scope.now c.args.depth in
    let read = row_out (demands_step c.args.scope.now part) (demands_next c.args.scope.now part) (length c.args.bytes.now) c.loop.counter (map (demand_seen (types_of c.loop.types)) c.loop.made.items, c.loop.param, c.loop.previous.now) c.loop.rest.now _ c.loop-test.false c.loop.invariant.so_far in
    rw c.fault.ensures (rw read refl)

pub returns-in_err-demand-clause-reads : goal.returns-in_err-demand-clause-reads
unfolding demands_read
returns-in_err-demand-clause-reads c =
    let part = type_read c.args.scope.now c.args.depth in
    let p = err_from_is_err_and c.from_residual.result c.from_residual.ensures.1 in
    rw (p.1, p.2) (fails_on c.in_err-demand.field-0.0 _ _ (row_fails (demands_step c.args.scope.now part) (demands_next c.args.scope.now part) c.in_err-demand.field-0.0 (length c.args.bytes.now) c.loop.counter (map (demand_seen (types_of c.loop.types)) c.loop.made.items, c.loop.param, c.loop.previous.now) c.loop.rest.now _ c.loop-test.true (fails_on c.in_err-demand.field-0.0 _ _ c.in_err-demand.ensures.reads) c.loop.invariant.so_far))
