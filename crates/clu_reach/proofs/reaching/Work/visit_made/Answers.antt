use Rattle.std.proofs.Common.{◌∙◌, List, ap, subst, sym}
use Rattle.indexmap.specs.IndexMap.{keys}
use Rattle.clu_types.specs.Arena.{Grows}
use Rattle.clu_types.specs.declared.term.Term.{Term}
use Rattle.clu_reach.specs.Found.{AreFaults, AreKept}
use Rattle.clu_reach.specs.Reach.{taken, with_all}
use Rattle.clu_reach.specs.Walked.{IsNoted, instances_of}
use Rattle.clu_reach.specs.declared.faults.Faults.{Faults}
use Rattle.clu_reach.specs.declared.reaching.Reached.{Reached}
use Rattle.clu_reach.proofs.reaching.Work.visit_made.Goals as goal

pub returns-in-Some-clause-of : goal.returns-in-Some-clause-of
returns-in-Some-clause-of c =
    let before = subst (λ (r : Reached). AreKept c.args.lib.now (keys r.routines)) (sym c.deref_mut.ensures.value) c.requires.so_far.routines in record {
      faults = c.add_weight.ensures.faults c.args.lib.now (subst (AreFaults c.args.lib.now) (sym c.deref_mut-in-Some.ensures.value) c.requires.so_far.faults);
      routines = c.in_ok-add-in-Some.ensures.kept c.args.lib.now c.requires.named (subst (λ (r : Reached). AreKept c.args.lib.now (keys r.routines)) (sym c.deref_mut-in-Some-2.ensures.value) before);
    }

pub returns-in-Some-clause-step : goal.returns-in-Some-clause-step
returns-in-Some-clause-step c =
    let us = instances_of c.in-Some.parts.uses.items in
    let fate = taken c.weight.result us in record {
      fate = fate;
      has = tt;
      noted = subst (λ (f : Faults). IsNoted fate f c.add_weight.new.self) c.deref_mut-in-Some.ensures.value (c.add_weight.ensures.noted us);
      members = c.in_ok-add-in-Some.ensures.members ∙ ap (λ (r : Reached). with_all r.members.keys us) c.deref_mut-in-Some-2.ensures.value ∙ ap (λ (r : Reached). with_all r.members.keys us) c.deref_mut.ensures.value;
      grown =
          let there = subst (λ (r : Reached). Grows r.types c.parts_of.new.types) c.deref_mut.ensures.value c.in_ok-parts.ensures in
          subst (λ (ts : List Term). Grows c.args.self.now.reached.value.types ts) (sym (c.in_ok-add-in-Some.ensures.types ∙ ap (λ (r : Reached). r.types) c.deref_mut-in-Some-2.ensures.value)) there;
    }
