use Rattle.std.proofs.Common.{◌∙◌, ap, sym}
use Rattle.rv_machine.specs.Snapshot.{Snapshot, from_pc}
use Rattle.rv_machine.specs.Steps.{at_pc}
use Rattle.rv_machine.proofs.machine.Machine.step.Goals as goal
use Rattle.rv_machine.proofs.Runs.{over, from_own, put_back}

pub returns-in-Some-clause-did : goal.returns-in-Some-clause-did
returns-in-Some-clause-did g c = over 1 c.args.self.now _ _ c.in-Some.ending (ap (λ (m : Snapshot). m.ended) (sym c.self.view_is) ∙ c.in-Some.is)

pub returns-in-Ok-clause-did : goal.returns-in-Ok-clause-did
returns-in-Ok-clause-did g c =
    put_back _ c.args.self.now c.go.new.self _ c.in-Ok.next _ _ _ _
    (c.set_pc.ensures ∙ ap (λ (m : Snapshot). at_pc c.in-Ok.next m.state) c.self-2.view_is)
    (ap (λ (m : Snapshot). m.kept) c.self-2.view_is) (ap (λ (m : Snapshot). m.ended) c.self-2.view_is)
    (from_own c.args.self.now (from_pc c.in-Ok.next c.go.new.self) c.pc-pc.result _ _ _ _ (c.pc-pc.ensures ∙ ap (λ (m : Snapshot). m.state.pc) c.self.view_is) c.in-Ok.ensures.did)

pub returns-in-Err-clause-did : goal.returns-in-Err-clause-did
returns-in-Err-clause-did g c =
    from_own c.args.self.now c.go.new.self c.pc-pc.result _ _ _ _ (c.pc-pc.ensures ∙ ap (λ (m : Snapshot). m.state.pc) c.self.view_is) c.in-Err.ensures.did
