use Rattle.std.proofs.Common.{◌≡◌, ◌∙◌, ap}
use Rattle.rv_machine.specs.Snapshot.{Snapshot}
use Rattle.rv_machine.specs.State.{State, register}
use Rattle.rv_machine.proofs.machine.Machine.write.Goals as goal
use Rattle.rv_machine.proofs.Runs.{range_is, writes_nothing, writes_part}

pub returns-in-Err-clause-did : goal.returns-in-Err-clause-did
returns-in-Err-clause-did g c =
    let v : c.self.inside.hart ≡ c.args.self.now.state = ap (λ (m : Snapshot). m.state) c.self.view_is in
    writes_part c.args.self.now _ _ _ c.in-Some.bytes.now (range_is c.self.inside.hart c.args.self.now.state _ _ _ v c.x-at.ensures c.x-count.ensures c.in-Some.ensures) c.in-Err.ensures.part c.end.ensures.ended

pub returns-in-None-clause-did : goal.returns-in-None-clause-did
returns-in-None-clause-did g c =
    let v : c.self.inside.hart ≡ c.args.self.now.state = ap (λ (m : Snapshot). m.state) c.self.view_is in
    writes_nothing c.args.self.now _ _ c.x-at.result (range_is c.self.inside.hart c.args.self.now.state _ _ _ v c.x-at.ensures c.x-count.ensures c.in-None.ensures) (c.x-at.ensures ∙ ap (λ (s : State). register s 10) v) c.end-in-None.ensures.ended
