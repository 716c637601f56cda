use Rattle.std.proofs.Common.{◌∙◌, List, [], ap, subst, sym}
use Rattle.indexmap.specs.IndexMap.{keys}
use Rattle.clu_reach.specs.Found.{AreFaults, AreKept}
use Rattle.clu_reach.specs.Reach.{with_one}
use Rattle.clu_reach.specs.Walked.{AreFirst}
use Rattle.clu_reach.specs.declared.faults.Faults.{Faults}
use Rattle.clu_reach.specs.declared.member.Member.{Member}
use Rattle.clu_reach.proofs.Steps.{started}
use Rattle.clu_reach.specs.declared.reaching.Reached.{Reached}
use Rattle.clu_reach.proofs.reaching.Work.new.Goals as goal

pub returns-clause-of : goal.returns-clause-of
returns-clause-of c = record {
  faults = subst (AreFaults c.args.lib.now) (sym c.in_ok-new-2.ensures.ok) (c.new-3.ensures.faults c.args.lib.now c.in_ok-stale.ensures);
  routines = subst (λ (r : Reached). AreKept c.args.lib.now (keys r.routines)) (sym c.in_ok-new.ensures.ok) (c.new.ensures.kept c.args.lib.now);
}

pub returns-clause-walked : goal.returns-clause-walked
returns-clause-walked c =
    started c.args.lib.now c.args.first (record { reached = c.in_ok-new.field-0; faults = c.in_ok-new-2.field-0 })
    (ap (λ (r : Reached). r.members.keys) c.in_ok-new.ensures.ok ∙ ap (λ s. s.keys) c.new.ensures.members ∙ c.in_ok-insert.ensures.keys
    ∙ ap (λ (ks : List Member). with_one ks c.args.first) c.new-members.ensures.empty)
    (subst (λ (f : Faults). AreFirst [] f) (sym c.in_ok-new-2.ensures.ok) c.new-3.ensures.first)
