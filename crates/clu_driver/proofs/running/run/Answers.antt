use Rattle.std.proofs.Common.{◌∙◌, rules, ap}
use Rattle.clu_words.specs.Command.{seen_limits}
use Rattle.rv_machine.specs.Snapshot.{fresh}
use Rattle.clu_driver.proofs.Runs.{has_text, run_shows, shown}
use Rattle.clu_driver.proofs.running.run.Goals as goal

pub outcome-requires : goal.outcome-requires
outcome-requires g c =
    let start = c.in-Ok.ensures ∙ ap (fresh c.args.image.now) c.sizes.ensures in
    has_text c.args.image.now (seen_limits c.args.limits) c.in-Ok.machine c.run-ending.new.self _ _ _ _ c.run-ending.result start c.run-ending.ensures.did c.run-ending.ensures.answer

pub returns-in-Ok : goal.returns-in-Ok
returns-in-Ok g c =
    let start = c.in-Ok.ensures ∙ ap (fresh c.args.image.now) c.sizes.ensures in
    let ran = run_shows c.args.image.now (seen_limits c.args.limits) c.in-Ok.machine c.run-ending.new.self _ _ c.run-ending.result c.outcome.result start
    c.run-ending.ensures.did c.run-ending.ensures.answer c.run-ending.ensures.spent
    (c.run-ending.ensures.read_fault (search rules)) (c.run-ending.ensures.write_fault (search rules)) c.outcome.ensures in
    record { told = record { how = c.outcome.result; shown = shown _ _ _ _ _ ran; told = c.report.ensures.told } }
