use Rattle.std.specs.Str.{bytes_eq}
use Rattle.indexmap.specs.IndexMap.{get}
use Rattle.clu_names.specs.Latest.{AreModules}
use Rattle.clu_names.proofs.latest.note_modules.Given as goal

abbrev pub invariant-loop-place : goal.invariant-loop-place
invariant-loop-place l = AreModules l.fn.declared l.place (get bytes_eq l.modules)
