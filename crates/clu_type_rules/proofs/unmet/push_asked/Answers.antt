use Rattle.std.proofs.Common.{◌∙◌, false, refl, sym}
use Rattle.clu_operations.specs.declared.found.Asked.{Asked}
use Rattle.clu_type_rules.proofs.Needing.{with_next, with_all}
use Rattle.clu_type_rules.proofs.unmet.push_asked.Goals as goal

pub loop-one-init : goal.loop-one-init
loop-one-init c = refl

pub loop-one-preserved : goal.loop-one-preserved
loop-one-preserved c =
    let none : Asked = record { of = record { 0 = 0 }; operation = record { 0 = 0 }; wanted = record { 0 = 0 }; in_set = false } in
    with_next c.args.under c.args.asked.now c.loop-one.one-index none c.loop-one-test.true c.loop-one.met.keys c.insert.new.self.keys c.need_of.result c.in_ok-insert.ensures.keys c.need_of.ensures
    ∙ c.loop-one.invariant

pub returns : goal.returns
returns c = sym (with_all c.args.under c.args.asked.now c.loop-one.one-index c.loop-one.met.keys c.loop-one-test.false) ∙ c.loop-one.invariant
