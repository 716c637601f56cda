use Rattle.clu_reach.specs.Found.{IsOf}
use Rattle.clu_reach.specs.Walked.{Walked}
use Rattle.clu_reach.specs.declared.member.Member.{Member}
use Rattle.clu_reach.proofs.reaching.Work.visit_all.Given as goal

-- what was reached so far is of the library, and what the walk came to
abbrev pub invariant-loop-n : goal.invariant-loop-n
invariant-loop-n l = IsOf l.lib l.self × ((first : Member) → Walked l.lib first 0 l.fn.self → Walked l.lib first l.n l.self)
