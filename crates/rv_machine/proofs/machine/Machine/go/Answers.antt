use Rattle.std.proofs.Common.{◌≡◌, ◌∙◌, ap}
use Rattle.rv_machine.specs.Snapshot.{Snapshot, from_pc, gone}
use Rattle.rv_machine.specs.State.{State}
use Rattle.rv_machine.specs.Steps.{at_pc, Stops, next}
use Rattle.rv_machine.proofs.machine.Machine.go.Goals as goal
use Rattle.rv_machine.proofs.machine.Machine.go.Goals.{in-None, in-Some}
use Rattle.rv_machine.proofs.Runs.{goes, stops, gone-pc, gone-ended}

pub returns-in-Ok-clause-did : goal.returns-in-Ok-clause-did
returns-in-Ok-clause-did g c =
    let v : c.self.inside.hart ≡ c.args.self.now.state = ap (λ (m : Snapshot). m.state) c.self.view_is in
    goes (from_pc c.args.pc c.args.self.now) _ _ _ c.requires (c.in-Ok.ensures ∙ ap (λ (s : State). next (at_pc c.args.pc s)) v)
    (ap (λ (m : Snapshot). m.kept) c.self.view_is) (ap (λ (m : Snapshot). m.ended) c.self.view_is)

pub returns-after-trapped-clause-did : goal.returns-after-trapped-clause-did
returns-after-trapped-clause-did g c =
    let v : c.self.inside.hart ≡ c.args.self.now.state = ap (λ (m : Snapshot). m.state) c.self.view_is in
    let same : gone c.match-trapped.result c.trapped.new.self ≡ c.trapped.new.self =
    elim c.match-trapped.branch [
      | in-None w ↦ gone-pc c.trapped.new.self c.match-trapped.result w.pc.result w.result-is (w.pc.ensures ∙ ap (λ (m : Snapshot). m.state.pc) c.self-in-Err.view_is)
      | in-Some w ↦ gone-ended c.trapped.new.self c.match-trapped.result w.in-Some.ending w.result-is
    ] in
    rw same (stops (from_pc c.args.pc c.args.self.now) _ c.trapped.new.self _ _ _ _ c.in-Err.trap c.requires
    (ap (Stops c.in-Err.trap) c.set_pc.ensures ∙ c.in-Err.ensures ∙ ap (λ (s : State). next (at_pc c.args.pc s)) v)
    (ap (λ (m : Snapshot). m.kept) c.self.view_is) (ap (λ (m : Snapshot). m.ended) c.self.view_is) c.trapped.ensures.did)
