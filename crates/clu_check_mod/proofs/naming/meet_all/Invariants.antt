use Rattle.std.proofs.Common.{◌≡◌, ◌-◌, fold}
use Rattle.std.specs.List.{range_with_len}
use Rattle.clu_check_mod.specs.Naming.{with_named, with_other}
use Rattle.clu_check_mod.proofs.naming.meet_all.Given as goal

-- with what is left to note, it is all
abbrev pub invariant-loop-n : goal.invariant-loop-n
invariant-loop-n l =
    fold (with_other l.tree l.names.declared.items l.first l.last) l.found.keys (range_with_len l.n (l.last - l.n)) ≡ with_named l.tree l.names.declared.items l.first l.last l.initial.found.keys
