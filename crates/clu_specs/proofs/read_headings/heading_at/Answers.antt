use Rattle.clu_types.proofs.Carrying.{grows_on}
use Rattle.clu_specs.proofs.Growing.{ids_grown}
use Rattle.clu_specs.proofs.Rows.{heading_made}
use Rattle.clu_specs.proofs.read_headings.heading_at.Goals as goal

pub returns-clause-within : goal.returns-clause-within
returns-clause-within c = (
  ids_grown _ _ (grows_on _ _ _ c.in_ok-results.ensures.kept c.in_ok-signals.ensures.kept) _ c.in_ok-args.ensures.within,
  ids_grown _ _ c.in_ok-signals.ensures.kept _ c.in_ok-results.ensures.within,
  c.in_ok-signals.ensures.within,
)

pub returns-clause-reads : goal.returns-clause-reads
returns-clause-reads c =
    heading_made _ _ _ _ _ _ c.arguments_at.new.types c.results_at.new.types c.all_signals_at.new.types _ _ _ c.in_ok-results.ensures.kept c.in_ok-signals.ensures.kept c.in_ok-args.ensures.within c.in_ok-results.ensures.within
    c.in_ok-args.ensures.reads c.in_ok-results.ensures.reads c.in_ok-signals.ensures.reads
