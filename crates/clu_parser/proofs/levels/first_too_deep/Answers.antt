use Rattle.std.proofs.Common.{◌<◌, arith}
use Rattle.clu_parser.proofs.Heights.{level_more, low_more}
use Rattle.clu_parser.proofs.levels.first_too_deep.Goals as goal

pub returns-then-level-gt-DEEPEST : goal.returns-then-level-gt-DEEPEST
returns-then-level-gt-DEEPEST c =
    let is = level_more c.args.symbols.now c.loop-at.at _ c.loop-at.level c.level_behind-level.result c.loop-at-test.true c.loop-at.invariant.0 c.level_behind-level.ensures in
    let high : 200 < c.level_behind-level.result = omega (arith, c.if-level-gt-DEEPEST.true) in
    record { within = c.loop-at-test.true; low = c.loop-at.invariant.2; high = omega (arith, is, high) }

pub loop-at-preserved : goal.loop-at-preserved
loop-at-preserved c =
    let is = level_more c.args.symbols.now c.loop-at.at _ c.loop-at.level c.level_behind-level.result c.loop-at-test.true c.loop-at.invariant.0 c.level_behind-level.ensures in
    (is, c.if-level-gt-DEEPEST.false, low_more c.args.symbols.now c.loop-at.at c.loop-at.invariant.2 (omega (arith, is, c.if-level-gt-DEEPEST.false)))
