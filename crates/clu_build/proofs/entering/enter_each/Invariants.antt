use Rattle.clu_build.specs.Entering.{text_at}
use Rattle.clu_build.proofs.Compiling.{AreCompiling}
use Rattle.clu_build.proofs.entering.enter_each.Given as goal

abbrev pub invariant-loop-at : goal.invariant-loop-at
invariant-loop-at l = AreCompiling l.initial.library l.library (text_at l.bodies.text.bytes.now l.bodies.text.tokens.now l.bodies.checked.now.syntax) l.modules.entries l.at
