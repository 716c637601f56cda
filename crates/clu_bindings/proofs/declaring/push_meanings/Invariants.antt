use Rattle.std.proofs.Common.{◌≡◌, ◌++◌, length}
use Rattle.clu_bindings.specs.Modules.{named}
use Rattle.clu_bindings.specs.Declaring.{meant_of}
use Rattle.clu_bindings.proofs.declaring.push_meanings.Given as goal

abbrev pub invariant-loop-bounds : goal.invariant-loop-bounds
invariant-loop-bounds l = l.all.items ++ meant_of (named l.modules) l.declared l.bounds l.names ≡ l.initial.all.items ++ meant_of (named l.modules) l.declared l.initial.bounds l.initial.names

abbrev pub decreases-loop-bounds : goal.decreases-loop-bounds
decreases-loop-bounds l = length l.bounds
