use Rattle.std.specs.Option.{option_copied}
use Rattle.clu_library.specs.Bounds.{in_table, rank_in}
use Rattle.clu_library.specs.Resting.{with_changed}
use Rattle.clu_library.proofs.Losing.{excluded, included}
use Rattle.clu_library.proofs.replacing.is_stale.Goals as goal

pub returns-then-excludes : goal.returns-then-excludes
returns-then-excludes c =
    excluded (with_changed c.args.specs.now (option_copied c.args.changed)) c.args.changes.now (in_table c.args.latest.now.table) c.args.kept.now.name c.args.kept.now.body c.args.latest.now.are_bounds c.requires.bounds
    (c.excludes.ensures c.if-excludes.true)

pub returns-then-includes : goal.returns-then-includes
returns-then-includes c =
    included (with_changed c.args.specs.now (option_copied c.args.changed)) c.args.changes.now (in_table c.args.latest.now.table) (rank_in c.args.latest.now.table) c.args.kept.now.name c.args.kept.now.body c.args.latest.now.are_reached c.requires.reached
    (c.includes.ensures c.if-includes.true)
