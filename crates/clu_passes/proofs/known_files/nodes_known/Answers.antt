use Rattle.clu_passes.proofs.InsideTold.{facts_there, raises_there}
use Rattle.clu_passes.proofs.known_files.nodes_known.Goals as goal

pub returns-clause-facts : goal.returns-clause-facts
returns-clause-facts c = λ t h its library refused is first grows heads told ascending items last facts arena noted. facts_there t h its library refused is first grows heads told ascending items last facts arena noted

pub returns-clause-raises : goal.returns-clause-raises
returns-clause-raises c = λ t h its library refused is first grows heads told ascending items last facts arena noted whole later sound n less fine. raises_there t h its library refused is first grows heads told ascending items last facts arena noted whole later sound n less fine
