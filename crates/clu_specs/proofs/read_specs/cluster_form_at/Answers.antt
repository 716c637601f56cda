use Rattle.clu_specs.proofs.Growing.{demands_grown}
use Rattle.clu_specs.proofs.SpecRows.{form_made}
use Rattle.clu_specs.proofs.read_specs.cluster_form_at.Goals as goal

pub returns-clause-within : goal.returns-clause-within
returns-clause-within c = (demands_grown _ _ c.in_ok-ops.ensures.kept _ c.in_ok-demands.ensures.within, c.in_ok-ops.ensures.within)

pub returns-clause-reads : goal.returns-clause-reads
returns-clause-reads c =
    form_made c.all_demands_at.new.types c.operations_at.new.types c.in_ok-ops.ensures.kept _ _ _ _ _ _ _ _ c.in_ok-demands.ensures.within c.in_ok-demands.ensures.reads c.in_ok-rest.ensures c.in_ok-ops.ensures.reads
