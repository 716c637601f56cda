use Rattle.std.proofs.Common.{refl}
use Rattle.clu_specs.proofs.Growing.{heading_grown}
use Rattle.clu_specs.proofs.SpecRows.{operation_made}
use Rattle.clu_specs.proofs.read_specs.operation_at.Goals as goal

pub returns-clause-within : goal.returns-clause-within
returns-clause-within c = (heading_grown _ _ c.in_ok-demands.ensures.kept _ c.in_ok-heading.ensures.within, c.in_ok-demands.ensures.within)

pub returns-clause-reads : goal.returns-clause-reads
returns-clause-reads c =
    operation_made c.heading_at.new.types c.all_demands_at.new.types c.in_ok-demands.ensures.kept _ _ _ _ _ _ _ _ c.in_ok-name.ensures refl c.in_ok-heading.ensures.within c.in_ok-heading.ensures.reads c.in_ok-demands.ensures.reads
