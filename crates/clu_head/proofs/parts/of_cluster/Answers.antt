use Rattle.std.proofs.Common.{slice_get}
use Rattle.clu_head.proofs.Labels.{label, cluster_restricts}
use Rattle.clu_head.proofs.parts.of_cluster.Goals as goal

pub returns : goal.returns
returns c = cluster_restricts c.args.syntax.now c.args.n c.cluster.result (slice_get c.args.syntax.now c.args.n) c.requires.kind (c.cluster.ensures.told label)
