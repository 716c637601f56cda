use Rattle.std.proofs.Common.{◌≡◌, ◌+◌, get_or, refl, sym, ap, ◌∙◌}
use Rattle.clu_lexer.specs.Scanner.{next}
use Rattle.clu_lexer.proofs.Walk.{best_none, best_kept, best_new, class_after, state_more, answer_stopped, state_after}
use Rattle.clu_lexer.proofs.scanner.longest.Goals as goal
use Rattle.clu_lexer.proofs.scanner.longest.Goals.{in-Some, in-None}

pub loop-at-init : goal.loop-at-init
loop-at-init c = (refl, best_none c.args.bytes.now)

pub returns-in-Stop : goal.returns-in-Stop
returns-in-Stop c =
    answer_stopped c.args.bytes.now c.loop-at.at c.loop-at.best c.loop-at.invariant.1 c.loop-at-test.true
    (ap (λ s. next s (get_or c.args.bytes.now c.loop-at.at 0)) (sym c.loop-at.invariant.0) ∙ sym c.next-state.ensures ∙ c.in-Stop.is)

pub loop-at-preserved : goal.loop-at-preserved
loop-at-preserved c =
    let state_is : state_after c.args.bytes.now (c.loop-at.at + 1) ≡ c.next-state.result =
    state_more c.args.bytes.now c.loop-at.at c.loop-at-test.true ∙
    ap (λ s. next s (get_or c.args.bytes.now c.loop-at.at 0)) (sym c.loop-at.invariant.0) ∙ sym c.next-state.ensures
    in
    let kind_is = class_after c.args.bytes.now (c.loop-at.at + 1) c.next-state.result state_is ∙ sym c.accepts.ensures in (
      sym state_is,
      elim c.match-accepts.branch [
        | in-Some w ↦ rw w.best-is (best_new c.args.bytes.now c.loop-at.at w.in-Some.kind (kind_is ∙ w.in-Some.is))
        | in-None w ↦ rw w.best-is (best_kept c.args.bytes.now c.loop-at.at c.loop-at.best c.loop-at.invariant.1 (kind_is ∙ w.in-None.is))
      ],
    )
