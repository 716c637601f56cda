use Rattle.std.proofs.Common.{◌↔◌, IsTrue, List, subst}
use Rattle.clu_types.specs.declared.spec.Spec.{Spec}
use Rattle.clu_library.specs.Unmet.{IsAmiss}
use Rattle.clu_library.proofs.Amiss.{least_next, none_at_all, none_next}
use Rattle.clu_library.proofs.library.Library.unmet.Goals as goal

pub returns-in_default : goal.returns-in_default
returns-in_default c = none_at_all c.args.self.now c.args.besides.now c.loop-n.n c.in_default.ensures.nth c.loop-n.invariant

pub returns-then-is_next : goal.returns-then-is_next
returns-then-is_next c =
    let P : List Spec → Type 0 = λ specs. IsTrue c.in_ok-is_next.is_next ↔ IsAmiss specs c.args.besides.now c.in-Some.spec.now in
    let is = subst P c.specs.ensures c.in_ok-is_next.ensures in
    least_next c.args.self.now c.args.besides.now c.loop-n.n c.in-Some.spec.now c.in_ok-is_next.is_next c.in_ok-copy.field-0 c.nth_spec.ensures.ascending c.in-Some.ensures.nth is c.if-is_next.true c.loop-n.invariant c.in_ok-copy.ensures

pub loop-n-preserved : goal.loop-n-preserved
loop-n-preserved c =
    let P : List Spec → Type 0 = λ specs. IsTrue c.in_ok-is_next.is_next ↔ IsAmiss specs c.args.besides.now c.in-Some.spec.now in
    let is = subst P c.specs.ensures c.in_ok-is_next.ensures in
    none_next c.args.self.now c.args.besides.now c.loop-n.n c.in-Some.spec.now c.in_ok-is_next.is_next c.in-Some.ensures.nth is c.if-is_next.false c.loop-n.invariant
