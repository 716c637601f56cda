use Rattle.std.proofs.Common.{subst, sym}
use Rattle.clu_sound.specs.Visiting.{TermDemandsNothing}
use Rattle.clu_sound.proofs.sound.is_demanding.Goals as goal

pub returns-in-Cluster : goal.returns-in-Cluster
returns-in-Cluster c = λ none. subst (TermDemandsNothing c.args.specs.now) (sym c.in-Cluster.is) (c.is_named_demanding.ensures none)
