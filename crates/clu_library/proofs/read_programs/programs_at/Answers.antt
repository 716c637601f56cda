use Rattle.std.proofs.Common.{ap}
use Rattle.std.proofs.lemmas.Result.{err_from_is_err_and}
use Rattle.clu_library.specs.LibraryReading.{next_program_kept, beside}
use Rattle.clu_library.proofs.Stepping.{step_on, step_fails, all_stepped, beside_fails}
use Rattle.clu_library.proofs.read_programs.programs_at.Goals as goal

pub loop-preserved : goal.loop-preserved
loop-preserved c =
    step_on next_program_kept c.args.count c.loop.counter (c.loop.previous.now, c.loop.programs) (c.in_ok-name.name.now, c.next_program_at.new.programs) c.loop.rest.now c.in_ok-name.after.now _
    c.loop-test.true c.in_ok-name.ensures c.loop.invariant

pub returns-in_err-name : goal.returns-in_err-name
returns-in_err-name c =
    let p = err_from_is_err_and c.from_residual.result c.from_residual.ensures.1 in
    rw (p.1, p.2)
    (beside_fails c.in_err-name.field-0.0 _
    (step_fails next_program_kept c.in_err-name.field-0.0 c.args.count c.loop.counter (c.loop.previous.now, c.loop.programs) c.loop.rest.now _ c.loop-test.true c.in_err-name.ensures c.loop.invariant))

pub returns : goal.returns
returns c = ap beside (all_stepped next_program_kept c.args.count c.loop.counter (c.loop.previous.now, c.loop.programs) c.loop.rest.now _ c.loop-test.false c.loop.invariant)
