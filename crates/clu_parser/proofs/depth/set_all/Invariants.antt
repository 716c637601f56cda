use Rattle.std.proofs.Common.{◌≡◌, drop, length}
use Rattle.clu_parser.specs.Depths.{set_all}
use Rattle.clu_parser.proofs.depth.set_all.Given as goal

abbrev pub invariant-loop-n : goal.invariant-loop-n
invariant-loop-n l = (set_all l.depths.items (drop l.n-index l.nodes) l.depth ≡ set_all l.initial.depths.items l.nodes l.depth) × (length l.depths.items ≡ length l.initial.depths.items)
