use Rattle.clu_head.proofs.Wanting.{named_so}
use Rattle.clu_head.proofs.clauses.push_oper.Goals as goal

pub returns-clause-named : goal.returns-clause-named
returns-clause-named c =
    named_so c.args.known c.args.types.now c.wanted_by.new.types c.args.asking c.args.oper.now c.args.demands.now.items c.push_names.new.demands.items c.as_slice.result.now c.as_slice-2.result.now c.first_wanted-of.result c.in_ok-wanted.wanted
    c.as_slice.ensures c.as_slice-2.ensures c.first_wanted-of.ensures c.in_ok-wanted.ensures.wanted c.in_ok-push_names.ensures
