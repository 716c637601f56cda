use Rattle.std.proofs.Common.{rules}
use Rattle.clu_frames.specs.Flattening.{made}
use Rattle.clu_frames.proofs.Nested.{regions_nest}
use Rattle.clu_frames.proofs.routine.made_of.Goals as goal

pub returns-clause-regions : goal.returns-clause-regions
returns-clause-regions c = regions_nest c.args.r.now (made c.push-2.new.self) (search rules)
