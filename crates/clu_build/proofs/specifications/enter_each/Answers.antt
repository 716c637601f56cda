use Rattle.std.proofs.Common.{arith, sym}
use Rattle.clu_build.proofs.Adding.{adding_all, adding_next}
use Rattle.clu_build.proofs.Lists.{past}
use Rattle.clu_build.proofs.Numbering.{number_within}
use Rattle.clu_build.proofs.specifications.enter_each.Goals as goal
use Rattle.clu_build.proofs.specifications.enter_each.Goals.{else-loop-at-test, then-loop-at-test+in_default}

pub enter_nth-requires : goal.enter_nth-requires
enter_nth-requires c = number_within c.args.specs.now c.args.numbers.now.entries c.requires _ c.in-Some.number.now c.in-Some.ensures.value

pub loop-at-preserved : goal.loop-at-preserved
loop-at-preserved c =
    adding_next c.args.library.now c.loop-at.library c.enter_nth.new.library c.args.specs.now c.args.numbers.now.entries c.loop-at.at _ c.in-Some.number.now c.loop-at.invariant c.requires (sym c.in-Some.ensures.entry) c.in-Some.ensures.value c.in_ok-enter_nth.ensures.entered

pub returns-clause-added : goal.returns-clause-added
returns-clause-added c = elim c.loop-at-test.branch [
  | else-loop-at-test w ↦ adding_all c.args.library.now c.loop-at.library c.args.specs.now c.args.numbers.now.entries c.loop-at.at c.requires (omega (arith, w.loop-at-test.false, c.len-at-end.ensures.len)) c.loop-at.invariant
  | then-loop-at-test+in_default w ↦ adding_all c.args.library.now c.loop-at.library c.args.specs.now c.args.numbers.now.entries c.loop-at.at c.requires (past c.args.numbers.now.entries c.loop-at.at (sym w.in_default.ensures.entry)) c.loop-at.invariant
]
