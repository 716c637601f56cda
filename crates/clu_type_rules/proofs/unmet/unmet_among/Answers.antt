use Rattle.std.proofs.Common.{false, get_or, ap}
use Rattle.std.proofs.lemmas.List.{drop_more}
use Rattle.std.proofs.lemmas.List.Elements.{Contains-get_or}
use Rattle.clu_types.proofs.Carrying.{grows_on}
use Rattle.clu_operations.specs.declared.found.Asked.{Asked}
use Rattle.clu_type_rules.specs.declared.unmet.Need.{Need}
use Rattle.clu_type_rules.specs.Needs.{world}
use Rattle.clu_type_rules.proofs.Needing.{grows_self}
use Rattle.clu_type_rules.proofs.Unmeeting.{among_first, among_is_there, among_next, among_all}
use Rattle.clu_type_rules.proofs.unmet.unmet_among.Goals as goal

pub loop-one-init : goal.loop-one-init
loop-one-init c = (
  grows_self c.args.types.now,
  λ s place rests there.
      among_first c.args.place.headed s (world c.args.types.now c.args.finding.now) c.args.place.clauses c.args.asked.now c.args.met.now.keys rests there,
)

pub loop-one-preserved : goal.loop-one-preserved
loop-one-preserved c = (
  grows_on c.args.types.now c.loop-one.types c.is_met.new.types c.loop-one.invariant.0 c.in_ok-met_one.ensures.kept,
  λ s place rests there.
      (let among = c.loop-one.invariant.1 s place rests there in
      let none : Asked = record { of = record { 0 = 0 }; operation = record { 0 = 0 }; wanted = record { 0 = 0 }; in_set = false } in
      let one : Asked = get_or c.args.asked.now c.loop-one.one-index none in
      let at = drop_more c.args.asked.now c.loop-one.one-index none c.loop-one-test.true in
      let has = Contains-get_or c.args.asked.now c.loop-one.one-index none c.loop-one-test.true in
      among_next c.args.place.headed s (world c.args.types.now c.args.finding.now) c.args.place.clauses c.args.asked.now (world c.loop-one.types c.loop-one.finding) c.loop-one.met.keys c.loop-one.unmet c.loop-one.one-index among one at has
      c.need_of.result c.need_of.ensures (world c.is_met.new.types c.is_met.new.finding) c.is_met.new.met.keys c.in_ok-met_one.met_one
      (c.in_ok-met_one.ensures.asked s place (ap (λ (x : Need). x.under) c.need_of.ensures) among.rests
      (among_is_there c.args.place.headed s (world c.args.types.now c.args.finding.now) c.args.place.clauses c.args.asked.now (world c.loop-one.types c.loop-one.finding) c.loop-one.met.keys c.loop-one.unmet c.loop-one.one-index among one at has c.need_of.result c.need_of.ensures))
      c.unmet_one.result c.unmet_one.ensures c.either-unmet.result c.either-unmet.ensures),
)

pub returns : goal.returns
returns c = record {
  asked = λ s place rests there.
      among_all c.args.place.headed s (world c.args.types.now c.args.finding.now) c.args.place.clauses c.args.asked.now (world c.loop-one.types c.loop-one.finding) c.loop-one.met.keys c.loop-one.unmet c.loop-one.one-index c.loop-one-test.false
      (c.loop-one.invariant.1 s place rests there);
  kept = c.loop-one.invariant.0;
}

pub returns-in_err-met_one-clause-kept : goal.returns-in_err-met_one-clause-kept
returns-in_err-met_one-clause-kept c = grows_on c.args.types.now c.loop-one.types c.is_met.new.types c.loop-one.invariant.0 c.in_err-met_one.ensures.kept
