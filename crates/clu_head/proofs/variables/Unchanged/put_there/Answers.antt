use Rattle.std.proofs.Common.{◌≤◌, List, length, sym, subst}
use Rattle.clu_types.specs.declared.term.Actual.{Actual}
use Rattle.clu_head.specs.Unchanged.{AreUnchanged}
use Rattle.clu_head.proofs.Constants.{put_in}
use Rattle.clu_head.proofs.variables.Unchanged.put_there.Goals as goal

pub returns-clause-put : goal.returns-clause-put
returns-clause-put c =
    put_in c.args.types.now c.intern.new.self c.put_at.new.types c.intern.ensures.kept c.put_at.ensures.kept c.deref_mut.result.now (subst (AreUnchanged 0) (sym c.deref_mut.ensures.value) c.fill.ensures.unchanged) c.args.variable c.args.parameter c.requires.first (subst (λ (xs : List Actual). c.args.variable ≤ length xs) (sym c.deref_mut.ensures.value) c.in_ok-fill.ensures.many)
    c.in_ok-of.of c.args.t c.in_ok-made.made c.in_ok-of.ensures.of_type c.requires.t_in c.in_ok-made.ensures.within c.in_ok-made.ensures.of_type
