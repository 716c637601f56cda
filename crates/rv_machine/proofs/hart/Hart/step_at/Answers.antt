use Rattle.std.proofs.Common.{◌≡◌, ◌∙◌, length, ap, sym, rules, w32, FitsSigned}
use Rattle.std.proofs.lemmas.Int.{to_z-of_z}
use Rattle.rv_machine.specs.State.{State}
use Rattle.rv_machine.proofs.hart.Hart.step_at.Goals as goal
use Rattle.rv_machine.proofs.Fetch.{next_is}

pub returns : goal.returns
returns c =
    let fits : FitsSigned w32 c.index-row.result.now.imm = search rules in
    let count : c.len.result ≡ length c.self.inside.rows.items = search rules in
    (rw (to_z-of_z w32 c.index-row.result.now.imm fits) at c.execute.ensures) ∙ sym (next_is c.args.self.now c.self.inside.rows.items c.len.result c.args.pc c.index-row.result.now (ap (λ (s : State). s.code) (sym c.self.view_is)) count c.self.invariant.code c.ranges.pc.fits c.if-place-len.false c.index-row.ensures)
