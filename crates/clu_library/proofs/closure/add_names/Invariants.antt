use Rattle.std.proofs.Common.{◌≡◌, drop, fold}
use Rattle.clu_library.specs.Growing.{with_name}
use Rattle.clu_library.proofs.closure.add_names.Given as goal

abbrev pub invariant-loop-name : goal.invariant-loop-name
invariant-loop-name l = fold (with_name l.own) l.found.keys (drop l.name-index l.names) ≡ fold (with_name l.own) l.initial.found.keys l.names
