use Rattle.std.proofs.Common.{◌≡◌, take, map}
use Rattle.clu_parser.specs.Trees.{text, spelling_at}
use Rattle.clu_parser.proofs.nodes.names.Given as goal

abbrev pub invariant-loop-n : goal.invariant-loop-n
invariant-loop-n l = l.names.items ≡ map (spelling_at (text l.source)) (take l.n-index l.tokens)
