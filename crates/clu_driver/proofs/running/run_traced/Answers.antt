use Rattle.std.proofs.Common.{◌∙◌, ap}
use Rattle.clu_words.specs.Command.{seen_limits}
use Rattle.rv_machine.specs.Snapshot.{fresh}
use Rattle.clu_driver.specs.Shows.{untraced}
use Rattle.clu_driver.proofs.Runs.{has_text, run_shows, shown}
use Rattle.clu_driver.proofs.running.run_traced.Goals as goal

pub traced-requires : goal.traced-requires
traced-requires g c =
    let start = c.in-Ok.ensures ∙ ap (fresh c.args.image.now) c.sizes.ensures in
    has_text c.args.image.now (seen_limits c.args.limits) c.in-Ok.machine c.run-ending.new.machine _ _ _ _ c.run-ending.result start c.run-ending.ensures.did c.run-ending.ensures.answer

pub returns-in-Ok-new : goal.returns-in-Ok-new
returns-in-Ok-new g c =
    let start = c.in-Ok.ensures ∙ ap (fresh c.args.image.now) c.sizes.ensures in
    let ran = run_shows c.args.image.now (seen_limits c.args.limits) c.in-Ok.machine c.run-ending.new.machine _ _ c.run-ending.result (untraced c.traced.result) start
    c.run-ending.ensures.did c.run-ending.ensures.answer c.run-ending.ensures.spent
    c.run-ending.ensures.read_fault c.run-ending.ensures.write_fault c.traced.ensures.meant in
    record { told = record { how = c.traced.result; shown = (c.traced.ensures.asked, shown _ _ _ _ _ ran); told = c.report.ensures.told } }
