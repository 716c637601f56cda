use Rattle.std.proofs.Common.{◌∙◌, ◌++◌, ◌∷◌, [], ℕ, All, List, Some, length, append_assoc, ap, sym, subst, arith}
use Rattle.clu_constants.specs.Held.{HasBytes, listed, steps_left, text_at, text_in, text_left}
use Rattle.clu_constants.proofs.Listed.{joined_at, none_at, whole_at}
use Rattle.clu_constants.proofs.Writing.{two_fewer, two_left, two_some}
use Rattle.clu_constants.proofs.held.write_next.Goals as goal

pub returns-in_ok-write_text-in-Some-Whole-clause-written : goal.returns-in_ok-write_text-in-Some-Whole-clause-written
returns-in_ok-write_text-in-Some-Whole-clause-written c =
    ap (λ (l : List ℕ). l ++ text_left (listed c.args.held.now) c.args.left.now.items)
    (c.in_ok-write_text-in-Some-Whole.ensures ∙ ap (λ (l : List ℕ). c.args.bytes.now.items ++ l) (sym (ap text_in (whole_at c.args.held.now c.requires.held c.args.next _ (sym c.in-Some-Whole.ensures ∙ ap Some c.in-Some-Whole.field-0-is)))))

pub returns-in_ok-push-in-Some-Joined-2-clause-written : goal.returns-in_ok-push-in-Some-Joined-2-clause-written
returns-in_ok-push-in-Some-Joined-2-clause-written c =
    let j = joined_at c.args.held.now c.requires.held c.args.next _ _ _ (sym c.in-Some-Joined.ensures ∙ ap Some c.in-Some-Joined.field-0-is) in
    let is = c.in_ok-push-in-Some-Joined-2.ensures.items ∙ ap (λ (l : List ℕ). l ++ c.in-Some-Joined.first ∷ []) c.in_ok-push-in-Some-Joined.ensures.items in
    ap (λ (l : List ℕ). c.args.bytes.now.items ++ l)
    (ap (text_left (listed c.args.held.now)) is ∙ two_left (listed c.args.held.now) c.args.next c.in-Some-Joined.first c.in-Some-Joined.second (ap text_in j.is) j.join.some_left j.join.some_right c.args.left.now.items)
    ∙ sym (append_assoc c.args.bytes.now.items (text_at (listed c.args.held.now) c.args.next) (text_left (listed c.args.held.now) c.args.left.now.items))

pub returns-in_ok-push-in-Some-Joined-2-clause-fewer : goal.returns-in_ok-push-in-Some-Joined-2-clause-fewer
returns-in_ok-push-in-Some-Joined-2-clause-fewer c =
    let j = joined_at c.args.held.now c.requires.held c.args.next _ _ _ (sym c.in-Some-Joined.ensures ∙ ap Some c.in-Some-Joined.field-0-is) in
    let is = c.in_ok-push-in-Some-Joined-2.ensures.items ∙ ap (λ (l : List ℕ). l ++ c.in-Some-Joined.first ∷ []) c.in_ok-push-in-Some-Joined.ensures.items in
    omega (arith, ap {B = ℕ} (steps_left (listed c.args.held.now)) is, two_fewer (listed c.args.held.now) c.args.next c.in-Some-Joined.first c.in-Some-Joined.second (ap text_in j.is) j.join.some_left j.join.some_right c.args.left.now.items)

pub returns-in_ok-push-in-Some-Joined-2-clause-some : goal.returns-in_ok-push-in-Some-Joined-2-clause-some
returns-in_ok-push-in-Some-Joined-2-clause-some c =
    let j = joined_at c.args.held.now c.requires.held c.args.next _ _ _ (sym c.in-Some-Joined.ensures ∙ ap Some c.in-Some-Joined.field-0-is) in
    let is = c.in_ok-push-in-Some-Joined-2.ensures.items ∙ ap (λ (l : List ℕ). l ++ c.in-Some-Joined.first ∷ []) c.in_ok-push-in-Some-Joined.ensures.items in
    λ all. subst (All (HasBytes (listed c.args.held.now))) (sym is) (two_some (listed c.args.held.now) c.args.next c.in-Some-Joined.first c.in-Some-Joined.second (ap text_in j.is) j.join.some_left j.join.some_right c.args.left.now.items all)

pub returns-in-None-clause-written : goal.returns-in-None-clause-written
returns-in-None-clause-written c = absurd (omega (arith, c.requires.some, ap {B = ℕ} (λ o. length (text_in o)) (none_at c.args.held.now c.requires.held c.args.next (sym c.in-None.ensures))))
