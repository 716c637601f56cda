use Rattle.std.proofs.Common.{arith, sym}
use Rattle.clu_build.specs.Entering.{own_of, text_at}
use Rattle.clu_build.proofs.Compiling.{compiled_all, compiling_more, compiling_none}
use Rattle.clu_build.proofs.Lists.{past}
use Rattle.clu_build.proofs.entering.enter_each.Goals as goal
use Rattle.clu_build.proofs.entering.enter_each.Goals.{else-loop-at-test, then-loop-at-test+in_default}

pub loop-at-init : goal.loop-at-init
loop-at-init c = compiling_none c.args.library.now (text_at c.args.bodies.text.bytes.now c.args.bodies.text.tokens.now c.args.bodies.checked.now.syntax) c.args.modules.now.entries

pub loop-at-preserved : goal.loop-at-preserved
loop-at-preserved c =
    compiling_more c.args.library.now c.loop-at.library c.enter_nth.new.library (text_at c.args.bodies.text.bytes.now c.args.bodies.text.tokens.now c.args.bodies.checked.now.syntax) c.args.modules.now.entries c.loop-at.at
    c.in-Some.name.now c.in-Some.number.now c.args.bodies.stale.now.keys c.loop-at.invariant c.requires.stale (sym c.in-Some.ensures.entry) c.in-Some.ensures.value c.in_ok-enter_nth.ensures.entered

pub returns-clause-compiled : goal.returns-clause-compiled
returns-clause-compiled c =
    let texts = text_at c.args.bodies.text.bytes.now c.args.bodies.text.tokens.now c.args.bodies.checked.now.syntax in
    let own = own_of c.args.bodies.checked.now in
    elim c.loop-at-test.branch [
      | else-loop-at-test w ↦ compiled_all c.args.library.now c.loop-at.library own texts c.args.modules.now.entries c.loop-at.at c.requires.numbered (omega (arith, w.loop-at-test.false, c.len-at-end.ensures.len)) c.loop-at.invariant
      | then-loop-at-test+in_default w ↦ compiled_all c.args.library.now c.loop-at.library own texts c.args.modules.now.entries c.loop-at.at c.requires.numbered (past c.args.modules.now.entries c.loop-at.at (sym w.in_default.ensures.entry)) c.loop-at.invariant
    ]
