use Rattle.std.proofs.Common.{fold}
use Rattle.std.specs.List.{filter_map}
use Rattle.clu_library.specs.Growing.{with_name}
use Rattle.clu_library.specs.Resting.{cluster_name}
use Rattle.clu_library.proofs.Terms.{term_added}
use Rattle.clu_library.proofs.closure.add_named.Goals as goal

pub loop-n-preserved : goal.loop-n-preserved
loop-n-preserved c =
    let own = c.args.own.now in
    term_added own c.args.types.now c.loop-n.n c.view.result.now c.loop-n.found.keys c.add_term.new.found.keys
    (fold (with_name own) c.args.found.now.keys (filter_map cluster_name c.args.types.now)) c.view.ensures.term c.in_ok-add_term.ensures c.loop-n.invariant
