use Rattle.std.proofs.Common.{◌≡◌, ◌∙◌, ◌+◌, ◌≤◌, None, Some, length, refl, ap, sym, arith}
use Rattle.rv_machine.proofs.Runs.{begun, enough, one_more}
use Rattle.clu_trace.specs.Traces.{Watched}
use Rattle.clu_trace.proofs.StackKept.{kept_by}
use Rattle.clu_trace.proofs.Walking.{looked_map, looked_stack}
use Rattle.clu_trace.proofs.trace.Trace.run.Goals as goal

pub loop-done-init : goal.loop-done-init
loop-done-init g c = record {
  live = c.requires.live;
  did = begun c.args.machine.now _ _;
  map = refl;
  stack = c.requires.stack;
  reads = omega arith;
  writes = omega arith;
}

pub loop-done-preserved : goal.loop-done-preserved
loop-done-preserved g c =
    let live : c.step.new.self.ended ≡ None = sym c.step.ensures.answer ∙ c.in_default.is in
    let kept = kept_by c.loop-done.machine c.step.new.self _ _ _ _ c.step.ensures.did live in
    record {
      live = live;
      did = one_more c.loop-done.done c.args.machine.now c.loop-done.machine c.step.new.self _ _ _ _ _ _ c.loop-done.invariant.live c.loop-done.invariant.did c.step.ensures.did;
      map = ap (λ (t : Watched). t.map) c.watch.ensures ∙ looked_map c.loop-done.self c.loop-done.machine.state ∙ c.loop-done.invariant.map;
      stack = omega (arith, kept, ap (λ (t : Watched). t.stack) c.watch.ensures ∙ looked_stack c.loop-done.self c.loop-done.machine.state, c.loop-done.invariant.stack);
      reads = omega (arith, c.loop-done.invariant.reads, c.step.ensures.reads);
      writes = omega (arith, c.loop-done.invariant.writes, c.step.ensures.writes);
    }

pub returns-in-Some-clause-did : goal.returns-in-Some-clause-did
returns-in-Some-clause-did g c =
    let within : c.loop-done.done + 1 ≤ c.args.steps = omega arith in
    enough (c.loop-done.done + 1) c.args.steps c.args.machine.now c.step.new.self _ _ _ _ c.in-Some.ending within (sym c.step.ensures.answer ∙ c.in-Some.is)
    (one_more c.loop-done.done c.args.machine.now c.loop-done.machine c.step.new.self _ _ _ _ _ _ c.loop-done.invariant.live c.loop-done.invariant.did c.step.ensures.did)

pub returns-clause-did : goal.returns-clause-did
returns-clause-did g c =
    let all : c.loop-done.done ≡ c.args.steps = omega arith in
    rw (← all) c.loop-done.invariant.did
