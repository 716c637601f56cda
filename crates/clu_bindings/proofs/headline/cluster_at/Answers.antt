use Rattle.std.proofs.Common.{slice_get}
use Rattle.clu_bindings.proofs.Labelled.{label, cluster_headline}
use Rattle.clu_bindings.proofs.headline.cluster_at.Goals as goal

pub returns : goal.returns
returns c = cluster_headline c.args.syntax.now c.args.n c.cluster-cluster.result (slice_get c.args.syntax.now c.args.n) c.requires.kind (c.cluster-cluster.ensures.told label)
