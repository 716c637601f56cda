use Rattle.std.proofs.Common.{◌≡◌, length}
use Rattle.std.specs.List.{list_any}
use Rattle.clu_head.specs.Terms.{is_refused_part}
use Rattle.clu_head.proofs.heading.is_refused_in.Given as goal

abbrev pub invariant-loop-children : goal.invariant-loop-children
invariant-loop-children l = list_any (is_refused_part l.known.syntax.now l.known.refused.now l.known.rounds.now) l.children ≡ list_any (is_refused_part l.known.syntax.now l.known.refused.now l.known.rounds.now) l.initial.children

abbrev pub decreases-loop-children : goal.decreases-loop-children
decreases-loop-children l = length l.children
