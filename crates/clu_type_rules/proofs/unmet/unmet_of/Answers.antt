use Rattle.std.proofs.Common.{◌≡◌, ◌∙◌, None, refl, ap}
use Rattle.std.specs.HashMap.{get}
use Rattle.clu_type_rules.specs.declared.unmet.Asker.{Asker}
use Rattle.clu_type_rules.specs.declared.unmet.Meeting.{Meeting}
use Rattle.clu_type_rules.specs.Askers.{same_asker}
use Rattle.clu_type_rules.specs.Needs.{world}
use Rattle.clu_type_rules.proofs.Unmeeting.{keeps_first}
use Rattle.clu_type_rules.proofs.unmet.unmet_of.Goals as goal

pub returns-clause-unmet : goal.returns-clause-unmet
returns-clause-unmet c = λ s looks start finding askers.
    let same = c.deref_mut.ensures.value ∙ c.in_ok-meeting.ensures.ok in
    let nobody : (q : Asker) → get same_asker c.new-2.result q ≡ None = λ q. rw c.new-2.ensures.empty refl in
    c.unmet_of_nodes.ensures.unmet s
    (keeps_first c.args.headed s (world c.args.types.now c.args.facts.now.finding) looks start finding c.deref_mut.result.now (ap (λ (m : Meeting). m.met.keys) same ∙ c.new.ensures.empty)
    (λ q. ap (λ (m : Meeting). get same_asker m.askers q) same ∙ nobody q)) askers

pub returns-clause-later : goal.returns-clause-later
returns-clause-later c = λ s looks start finding askers.
    let same = c.deref_mut.ensures.value ∙ c.in_ok-meeting.ensures.ok in
    let nobody : (q : Asker) → get same_asker c.new-2.result q ≡ None = λ q. rw c.new-2.ensures.empty refl in
    c.unmet_of_nodes.ensures.later s
    (keeps_first c.args.headed s (world c.args.types.now c.args.facts.now.finding) looks start finding c.deref_mut.result.now (ap (λ (m : Meeting). m.met.keys) same ∙ c.new.ensures.empty)
    (λ q. ap (λ (m : Meeting). get same_asker m.askers q) same ∙ nobody q)) askers
