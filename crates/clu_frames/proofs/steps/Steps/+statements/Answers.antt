use Rattle.std.proofs.Common.{◌≡◌, ◌∙◌, List, map, sym, ap, rules}
use Rattle.std.proofs.lemmas.Result.{on_ok_weaker}
use Rattle.clu_wir.specs.declared.statement.WStmt.TheViews.{the_lemmas}
use Rattle.clu_wir.specs.Plain.{Stmt, arm_of, arms_of, body_of, stmt_of}
use Rattle.clu_wir.specs.Plain as plain
use Rattle.clu_frames.specs.Flattening.{Onto, all_onto, arms_onto, guard_onto, guarding_of, made, onto, round_of, slots_of}
use Rattle.clu_frames.proofs.Arms.{guard_made, onto_guard, stmt_out, stmt_roll}
use Rattle.clu_frames.proofs.steps.Steps.+statements.Goals as goal

pub statement-returns-in_ok-guarded-in-Guard : goal.statement-returns-in_ok-guarded-in-Guard
statement-returns-in_ok-guarded-in-Guard t c =
    let is : stmt_of c.args.statement.now ≡ plain.guard (body_of c.in-Guard.body.items) (arms_of (map arm_of c.in-Guard.arms.items)) = search (rules, the_lemmas, stmt_roll, stmt_out) in
    let guard = rw c.as_slice-in-Guard.ensures.value at c.in_ok-guard-in-Guard.ensures.guard in
    let last = rw c.as_slice-in-Guard.ensures.value at c.in_ok-guard-in-Guard.ensures.end in
    let number = c.in_ok-guard-in-Guard.ensures.region in
    let begun = rw c.as_slice-in-Guard.ensures.value at c.in_ok-guard-in-Guard.ensures.made in
    let inside = rw c.as_slice-in-Guard-2.ensures.value at c.in_ok-guarded-in-Guard.ensures.made in
    let after = rw c.as_slice-in-Guard-3.ensures.value at c.arms.ensures.made in
    record {
      made = on_ok_weaker c.arms.result
          (λ e. guard_made (all_onto (body_of c.in-Guard.body.items)) c.in-Guard.arms.items (round_of c.args.round) (made c.args.self.now)
          (made c.begin_guard.new.self) (made c.guarded.new.self) (made c.arms.new.self)
          (guarding_of c.in_ok-guard-in-Guard.guard) c.in_ok-guard-in-Guard.guard.end c.in_ok-guard-in-Guard.guard.region guard last number begun inside e
          ∙ sym (onto_guard (body_of c.in-Guard.body.items) (arms_of (map arm_of c.in-Guard.arms.items)) (round_of c.args.round) (made c.args.self.now))
          ∙ sym (ap (λ (s : Stmt). onto s (round_of c.args.round) (made c.args.self.now)) is))
          after;
    }
