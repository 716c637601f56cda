use Rattle.std.proofs.Common.{◌≡◌, ◌<◌, ◌-◌, length, take, refl, ap, arith}
use Rattle.std.proofs.lemmas.Grind.{common_steps}
use Rattle.std.specs.Vec.{with_items}
use Rattle.rv_machine.proofs.intake.Intake.read.Goals as goal
use Rattle.rv_machine.proofs.Pieces.{read_piece}

pub returns-clause-same : goal.returns-clause-same
returns-clause-same g c =
    let room : 0 < length c.deref_mut.result.now = omega arith in
    let filled : (with_items c.self.inside.piece c.read.new.buf).items ≡ c.read.new.buf = grind (arith, common_steps) in
    read_piece c.args.self.now _ (g.S.Source.left c.args.input.now) (g.S.Source.left c.read.new.self) c.read.new.buf c.in_ok-count.count c.requires.empty c.requires.goes_on c.in_ok-count.ensures.took (λ e. c.in_ok-count.ensures.end e room) (ap (take (c.in_ok-count.count - 0)) filled) refl
