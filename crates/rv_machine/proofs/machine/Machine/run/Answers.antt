use Rattle.std.proofs.Common.{◌≡◌, ◌∙◌, ◌+◌, ◌≤◌, ap, sym, arith}
use Rattle.rv_machine.specs.Snapshot.{Snapshot, from_pc}
use Rattle.rv_machine.specs.Steps.{at_pc}
use Rattle.rv_machine.proofs.machine.Machine.run.Goals as goal
use Rattle.rv_machine.proofs.Runs.{over, begun_at, one_more, enough, put_back}

pub returns-in-Some-clause-did : goal.returns-in-Some-clause-did
returns-in-Some-clause-did g c = over c.args.steps c.args.self.now _ _ c.in-Some.ending (ap (λ (m : Snapshot). m.ended) (sym c.self.view_is) ∙ c.in-Some.is)

pub loop-done-init : goal.loop-done-init
loop-done-init g c = record {
  live = ap (λ (m : Snapshot). m.ended) (sym c.self.view_is) ∙ c.in_default.is;
  did = begun_at c.args.self.now c.pc-pc.result _ _ (c.pc-pc.ensures ∙ ap (λ (m : Snapshot). m.state.pc) c.self.view_is);
  reads = omega arith;
  writes = omega arith;
}

pub loop-done-preserved : goal.loop-done-preserved
loop-done-preserved g c = record {
  live = c.in-Ok.ensures.goes_on;
  did = one_more c.loop-done.done c.args.self.now (from_pc c.loop-done.pc c.loop-done.self) (from_pc c.in-Ok.next c.go.new.self) _ _ _ _ _ _ c.loop-done.invariant.live c.loop-done.invariant.did c.in-Ok.ensures.did;
  reads = omega (arith, c.loop-done.invariant.reads, c.in-Ok.ensures.reads);
  writes = omega (arith, c.loop-done.invariant.writes, c.in-Ok.ensures.writes);
}

pub returns-in-Err-clause-did : goal.returns-in-Err-clause-did
returns-in-Err-clause-did g c =
    let within : c.loop-done.done + 1 ≤ c.args.steps = omega arith in
    enough (c.loop-done.done + 1) c.args.steps c.args.self.now c.go.new.self _ _ _ _ c.in-Err.ending within c.in-Err.ensures.ended
    (one_more c.loop-done.done c.args.self.now (from_pc c.loop-done.pc c.loop-done.self) c.go.new.self _ _ _ _ _ _ c.loop-done.invariant.live c.loop-done.invariant.did c.in-Err.ensures.did)

pub returns-clause-did : goal.returns-clause-did
returns-clause-did g c =
    let all : c.loop-done.done ≡ c.args.steps = omega arith in
    put_back _ c.args.self.now c.loop-done.self _ c.loop-done.pc _ _ _ _
    (c.set_pc.ensures ∙ ap (λ (m : Snapshot). at_pc c.loop-done.pc m.state) c.self-2.view_is)
    (ap (λ (m : Snapshot). m.kept) c.self-2.view_is) (ap (λ (m : Snapshot). m.ended) c.self-2.view_is)
    (rw (← all) c.loop-done.invariant.did)
