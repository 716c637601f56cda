use Rattle.std.specs.Str.{bytes_eq}
use Rattle.clu_reach.proofs.Keeping.{bodies_sorted, bodies_once}
use Rattle.clu_reach.proofs.modules.modules_of.Goals as goal

pub returns : goal.returns
returns c =
    λ library all. bodies_once library bytes_eq c.sort.new.self.items c.dedup.new.self.items c.dedup.ensures.filtered
    (bodies_sorted library c.in_ok-modules.modules.items c.sort.new.self.items c.in_ok-sort.ensures.permutation (c.in_ok-modules.ensures library all))
