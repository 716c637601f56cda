use Rattle.std.proofs.Common.{◌≡◌, ◌∙◌, ◌≤◌, ◌||◌, Bool, ap, arith, sym}
use Rattle.clu_syntax.specs.Rounds.{round_at}
use Rattle.clu_type_rules.specs.Walking.{looked_inside}
use Rattle.clu_check_mod.specs.Bad.{fault_by, file_by, state}
use Rattle.clu_check_mod.proofs.Ascending.{at_inside}
use Rattle.clu_check_mod.proofs.Looking.{looked_next}
use Rattle.clu_check_mod.proofs.bad.Asking.ask_inside.Goals.{then-ask, else-ask}
use Rattle.clu_check_mod.proofs.bad.Asking.ask_inside.Goals as goal

pub loop-inside-preserved : goal.loop-inside-preserved
loop-inside-preserved c =
    let is : c.if-ask.is_bad ≡ (c.ask.result || c.loop-inside.is_bad) = elim c.if-ask.branch [
      | then-ask w ↦ w.is_bad-is ∙ sym (ap (λ (b : Bool). b || c.loop-inside.is_bad) w.if-ask.true)
      | else-ask w ↦ w.is_bad-is ∙ sym (ap (λ (b : Bool). b || c.loop-inside.is_bad) w.if-ask.false)
    ] in (
      c.ask.ensures.bad ∙ c.loop-inside.invariant.0,
      (let l : (round_at (file_by c.args.by).rounds.now c.args.n).first ≤ c.loop-inside.inside = c.loop-inside.invariant.1 in omega (arith, l)),
      λ items ascending.
          looked_next (fault_by items c.args.by) c.args.self.now.bad.items c.loop-inside.self.bad.items c.loop-inside.self.faulty.items c.ask.new.self.faulty.items c.loop-inside.is_bad c.ask.result c.if-ask.is_bad c.loop-inside.inside c.args.n
          (looked_inside (file_by c.args.by).rounds.now (fault_by items c.args.by) (state c.args.self.now) c.args.n) c.loop-inside-test.true c.loop-inside.invariant.0
          (c.ask.ensures.found items (at_inside c.args.by c.args.n c.loop-inside.inside c.loop-inside.invariant.1 c.loop-inside-test.true ascending))
          (c.ask.ensures.faulty items (at_inside c.args.by c.args.n c.loop-inside.inside c.loop-inside.invariant.1 c.loop-inside-test.true ascending)) is (c.loop-inside.invariant.2 items ascending),
    )
