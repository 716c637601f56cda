use Rattle.std.proofs.Common.{ap}
use Rattle.rv_machine.specs.declared.call.Call.TheVariants as call
use Rattle.rv_machine.specs.declared.ending.Ending.TheVariants as ending
use Rattle.rv_machine.specs.Snapshot.{Snapshot}
use Rattle.rv_machine.proofs.machine.Machine.call.Goals as goal
use Rattle.rv_machine.proofs.Runs.{call_is, ends, quiet, by_reading, by_writing}

pub returns-in-Return-clause-did : goal.returns-in-Return-clause-did
returns-in-Return-clause-did g c =
    let v = ap (λ (m : Snapshot). m.state) c.self.view_is in
    rw (call_is c.self.inside.hart c.args.self.now.state c.x.result c.of.result call.Return v c.x.ensures c.of.ensures c.in-Return.is) (ends c.args.self.now _ _ _ ending.Returned c.end.ensures.ended)

pub returns-in-StoreFull-clause-did : goal.returns-in-StoreFull-clause-did
returns-in-StoreFull-clause-did g c =
    let v = ap (λ (m : Snapshot). m.state) c.self.view_is in
    rw (call_is c.self.inside.hart c.args.self.now.state c.x.result c.of.result call.StoreFull v c.x.ensures c.of.ensures c.in-StoreFull.is) (ends c.args.self.now _ _ _ ending.StoreFull c.end-in-StoreFull.ensures.ended)

pub returns-in-StackFull-clause-did : goal.returns-in-StackFull-clause-did
returns-in-StackFull-clause-did g c =
    let v = ap (λ (m : Snapshot). m.state) c.self.view_is in
    rw (call_is c.self.inside.hart c.args.self.now.state c.x.result c.of.result call.StackFull v c.x.ensures c.of.ensures c.in-StackFull.is) (ends c.args.self.now _ _ _ ending.StackFull c.end-in-StackFull.ensures.ended)

pub returns-in-Unknown-clause-did : goal.returns-in-Unknown-clause-did
returns-in-Unknown-clause-did g c =
    let v = ap (λ (m : Snapshot). m.state) c.self.view_is in
    rw (call_is c.self.inside.hart c.args.self.now.state c.x.result c.of.result (call.Unknown c.in-Unknown.number) v c.x.ensures c.of.ensures c.in-Unknown.is) (ends c.args.self.now _ _ _ (ending.BadEcall c.in-Unknown.number) c.end-in-Unknown.ensures.ended)

pub returns-in-Fail-clause-did : goal.returns-in-Fail-clause-did
returns-in-Fail-clause-did g c =
    let v = ap (λ (m : Snapshot). m.state) c.self.view_is in
    rw (call_is c.self.inside.hart c.args.self.now.state c.x.result c.of.result call.Fail v c.x.ensures c.of.ensures c.in-Fail.is) (quiet _ c.args.self.now _ _ _ c.fail.ensures.did c.fail.ensures.kept)

pub returns-in-Write-clause-did : goal.returns-in-Write-clause-did
returns-in-Write-clause-did g c =
    let v = ap (λ (m : Snapshot). m.state) c.self.view_is in
    rw (call_is c.self.inside.hart c.args.self.now.state c.x.result c.of.result call.Write v c.x.ensures c.of.ensures c.in-Write.is) (by_writing _ c.args.self.now _ _ _ _ c.write.ensures.did c.write.ensures.kept)

pub returns-in-Take-clause-did : goal.returns-in-Take-clause-did
returns-in-Take-clause-did g c =
    let v = ap (λ (m : Snapshot). m.state) c.self.view_is in
    rw (call_is c.self.inside.hart c.args.self.now.state c.x.result c.of.result call.Take v c.x.ensures c.of.ensures c.in-Take.is) (by_reading _ c.args.self.now _ _ _ _ c.take.ensures.did)

pub returns-in-Peek-clause-did : goal.returns-in-Peek-clause-did
returns-in-Peek-clause-did g c =
    let v = ap (λ (m : Snapshot). m.state) c.self.view_is in
    rw (call_is c.self.inside.hart c.args.self.now.state c.x.result c.of.result call.Peek v c.x.ensures c.of.ensures c.in-Peek.is) (by_reading _ c.args.self.now _ _ _ _ c.peek.ensures.did)
