use Rattle.std.proofs.Common.{◌≡◌, ◌++◌, [], ◌∷◌, drop, fold}
use Rattle.clu_typing.specs.Facts.{raised_at}
use Rattle.clu_typing.proofs.raises.push_raised.Given as goal

-- what is left, behind those so far, is the whole
abbrev pub invariant-loop-n : goal.invariant-loop-n
invariant-loop-n l = fold (λ made n. made ++ raised_at l.facts n ∷ []) l.list.items (drop l.n-index l.nodes) ≡ fold (λ made n. made ++ raised_at l.facts n ∷ []) l.initial.list.items l.nodes
