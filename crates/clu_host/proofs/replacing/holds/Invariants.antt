use Rattle.clu_host.proofs.replacing.holds.Given as goal

abbrev pub invariant-loop-wanted : goal.invariant-loop-wanted
invariant-loop-wanted g l =
    (goal.iterator-loop-wanted g).can_next l.wanted-iterator ×
    (goal.iterator-loop-wanted g).is_finite l.wanted-iterator
