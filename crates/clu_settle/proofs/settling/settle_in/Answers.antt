use Rattle.std.proofs.Common.{◌≡◌, ◌∙◌, ℕ, List, length, replicate, ap, sym, subst}
use Rattle.std.proofs.lemmas.List.{take_at}
use Rattle.clu_tree.specs.Nodes.{IsTree}
use Rattle.clu_settle.specs.declared.value.Value.{Value}
use Rattle.clu_settle.specs.declared.value.Value.TheVariants as value
use Rattle.clu_settle.specs.Steps.{ArePassed}
use Rattle.clu_settle.specs.Lost.{AreLost}
use Rattle.clu_settle.proofs.Passing.{length_replicate, none_passed, all_passed}
use Rattle.clu_settle.proofs.Reading.{read_after}
use Rattle.clu_settle.proofs.Lasting.{none_lost, lost_after}
use Rattle.clu_settle.proofs.settling.settle_in.Goals as goal

pub settle_all-requires-clause-known : goal.settle_all-requires-clause-known
settle_all-requires-clause-known c =
    let size : c.len-len.result ≡ length c.args.asked.syntax.now = c.len-len.ensures.len ∙ ap length c.tree.ensures.same in
    none_passed c.args.asked.syntax.now c.args.asked.meanings.now c.args.order.now _ _ _ (subst IsTree c.tree.ensures.same c.len-len.ensures.tree) c.tree.ensures.forms
    (c.deref_mut.ensures.value ∙ c.in_ok-values.ensures ∙ ap (λ (k : ℕ). replicate k value.Lost) size)

pub settle_all-requires-clause-lost : goal.settle_all-requires-clause-lost
settle_all-requires-clause-lost c =
    let size : c.len-len.result ≡ length c.args.asked.syntax.now = c.len-len.ensures.len ∙ ap length c.tree.ensures.same in
    none_lost c.args.asked.syntax.now c.args.asked.meanings.now (subst IsTree c.tree.ensures.same c.len-len.ensures.tree) c.tree.ensures.forms c.args.order.now _
    (c.deref_mut.ensures.value ∙ c.in_ok-values.ensures ∙ ap (λ (k : ℕ). replicate k value.Lost) size)

pub returns-clause-known : goal.returns-clause-known
returns-clause-known c = λ scope meant.
    let ensured = c.in_ok-settle_all.ensures {u = tt} in
    let passed = ensured.known in
    let size : c.len-len.result ≡ length c.args.asked.syntax.now = c.len-len.ensures.len ∙ ap length c.tree.ensures.same in
    let all : length c.settle_all.new.values ≡ c.in_ok-values.values.len = passed.size ∙ sym (c.in_ok-values.values.ok.0 ∙ ap length c.in_ok-values.ensures ∙ length_replicate c.len-len.result value.Lost ∙ size) in
    all_passed c.args.asked.syntax.now c.args.asked.meanings.now c.args.order.now c.settle_all.new.types c.settle_all.new.constants _ c.requires.distinct
    (subst (λ (values : List Value). ArePassed c.args.asked.syntax.now c.args.asked.meanings.now c.args.order.now (length c.args.order.now) c.settle_all.new.types c.settle_all.new.constants values)
    (sym (take_at c.settle_all.new.values _ c.in_ok-values.values.len all)) passed) scope meant

pub returns-clause-lost : goal.returns-clause-lost
returns-clause-lost c =
    let ensured = c.in_ok-settle_all.ensures {u = tt} in
    let passed = ensured.known in
    let size : c.len-len.result ≡ length c.args.asked.syntax.now = c.len-len.ensures.len ∙ ap length c.tree.ensures.same in
    let all : length c.settle_all.new.values ≡ c.in_ok-values.values.len = passed.size ∙ sym (c.in_ok-values.values.ok.0 ∙ ap length c.in_ok-values.ensures ∙ length_replicate c.len-len.result value.Lost ∙ size) in
    lost_after c.args.asked.syntax.now c.args.asked.meanings.now c.args.order.now _ c.requires.order
    (subst (λ (values : List Value). AreLost c.args.asked.syntax.now c.args.asked.meanings.now c.args.order.now (length c.args.order.now) values)
    (sym (take_at c.settle_all.new.values _ c.in_ok-values.values.len all)) ensured.lost)

pub returns-clause-read : goal.returns-clause-read
returns-clause-read c =
    let ensured = c.in_ok-settle_all.ensures {u = tt} in
    let passed = ensured.known in
    let size : c.len-len.result ≡ length c.args.asked.syntax.now = c.len-len.ensures.len ∙ ap length c.tree.ensures.same in
    let all : length c.settle_all.new.values ≡ c.in_ok-values.values.len = passed.size ∙ sym (c.in_ok-values.values.ok.0 ∙ ap length c.in_ok-values.ensures ∙ length_replicate c.len-len.result value.Lost ∙ size) in
    let final = (subst (λ (values : List Value). AreLost c.args.asked.syntax.now c.args.asked.meanings.now c.args.order.now (length c.args.order.now) values)
    (sym (take_at c.settle_all.new.values _ c.in_ok-values.values.len all)) ensured.lost) in
    read_after c.args.asked.syntax.now c.args.asked.meanings.now c.args.order.now c.requires.order _ final.read
