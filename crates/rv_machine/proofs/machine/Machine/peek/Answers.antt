use Rattle.std.proofs.Common.{◌≡◌, ap, sym, refl}
use Rattle.rv_machine.specs.Snapshot.{Snapshot}
use Rattle.rv_machine.proofs.machine.Machine.peek.Goals as goal
use Rattle.rv_machine.proofs.Runs.{peeks_byte, peeks_end}

pub returns-in-Some-clause-did : goal.returns-in-Some-clause-did
returns-in-Some-clause-did g c =
    let v : c.self.inside.hart ≡ c.args.self.now.state = ap (λ (m : Snapshot). m.state) c.self.view_is in
    let ended : c.self.inside.ended ≡ c.args.self.now.ended = ap (λ (m : Snapshot). m.ended) c.self.view_is in
    let same = rw (ap (λ (m : Snapshot). m.kept) c.self.view_is) at c.in-Ok.ensures.same in
    peeks_byte c.args.self.now _ c.fill.new.self (g.S.Source.left c.args.input.now) (g.S.Source.left c.fill.new.input) c.self.inside.hart v ended same c.in-Some.byte (sym c.in-Some.ensures) c.answer.ensures refl

pub returns-in-None-clause-did : goal.returns-in-None-clause-did
returns-in-None-clause-did g c =
    let v : c.self.inside.hart ≡ c.args.self.now.state = ap (λ (m : Snapshot). m.state) c.self.view_is in
    let ended : c.self.inside.ended ≡ c.args.self.now.ended = ap (λ (m : Snapshot). m.ended) c.self.view_is in
    let same = rw (ap (λ (m : Snapshot). m.kept) c.self.view_is) at c.in-Ok.ensures.same in
    peeks_end c.args.self.now _ c.fill.new.self (g.S.Source.left c.args.input.now) (g.S.Source.left c.fill.new.input) c.self.inside.hart v ended same (sym c.in-None.ensures) c.in-Ok.ensures.filled c.answer-in-None.ensures refl
