use Rattle.indexmap.specs.IndexMap.{keys}
use Rattle.clu_library.specs.Contents.{Contents}
use Rattle.clu_reach.specs.Causes.{HaveBodies}
use Rattle.clu_reach.specs.Found.{AreKept}
use Rattle.clu_reach.proofs.modules.all_modules_of.Given as goal

-- the routines that are left are kept, and the modules so far have bodies
abbrev pub invariant-loop-routine : goal.invariant-loop-routine
invariant-loop-routine l = (library : Contents) → AreKept library (keys l.routines) → AreKept library l.routine-iterator × HaveBodies library l.modules.items
