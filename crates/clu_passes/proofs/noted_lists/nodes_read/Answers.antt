use Rattle.clu_passes.proofs.NotedRead.{invocations_read, operations_read}
use Rattle.clu_passes.proofs.noted_lists.nodes_read.Goals as goal

pub returns : goal.returns
returns c = record { invocations = invocations_read; operations = operations_read }
