use Rattle.clu_representation.proofs.Whole.{component_put, element_put, low_changed, variant_changed}
use Rattle.clu_representation.proofs.laws.puts_keep_the_heap.Goals as goal

pub returns : goal.returns
returns c = record { component = component_put; variant = variant_changed; element = element_put; low = low_changed }
