use Rattle.clu_passes.proofs.NotedCore.{noted_more, noted_still}
use Rattle.clu_passes.proofs.noted_lists.nodes_noted.Goals as goal

pub returns : goal.returns
returns c = record { node = noted_more; asker = noted_still }
