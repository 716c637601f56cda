use Rattle.std.proofs.Common.{get_or}
use Rattle.std.proofs.lemmas.List.{drop_more}
use Rattle.std.proofs.lemmas.List.Elements.{Contains-get_or}
use Rattle.clu_types.proofs.Carrying.{grows_on}
use Rattle.clu_operations.specs.declared.found.FoundId.{FoundId}
use Rattle.clu_type_rules.specs.Needs.{world}
use Rattle.clu_type_rules.proofs.Needing.{grows_self}
use Rattle.clu_type_rules.proofs.Unmeeting.{asking_first, asking_one, asking_next, asking_all}
use Rattle.clu_type_rules.proofs.unmet.unmet_by_all.Goals as goal

pub loop-found-init : goal.loop-found-init
loop-found-init c = (
  grows_self c.args.types.now,
  λ s place keeps askers.
      asking_first c.args.place.headed s (world c.args.types.now c.args.finding.now) c.args.place.clauses c.args.askers.now c.args.meeting.now keeps askers,
)

pub loop-found-preserved : goal.loop-found-preserved
loop-found-preserved c = (
  grows_on c.args.types.now c.loop-found.types c.unmet_by.new.types c.loop-found.invariant.0 c.in_ok-unmet.ensures.kept,
  λ s place keeps askers.
      (let asking = c.loop-found.invariant.1 s place keeps askers in
      let none : FoundId = record { 0 = 0 } in
      let id : FoundId = get_or c.args.askers.now c.loop-found.found-index none in
      let at = drop_more c.args.askers.now c.loop-found.found-index none c.loop-found-test.true in
      let has = Contains-get_or c.args.askers.now c.loop-found.found-index none c.loop-found-test.true in
      asking_next c.args.place.headed s (world c.args.types.now c.args.finding.now) c.args.place.clauses c.args.askers.now (world c.loop-found.types c.loop-found.finding) c.loop-found.meeting c.loop-found.all c.loop-found.found-index asking id at has
      (world c.unmet_by.new.types c.unmet_by.new.finding) c.unmet_by.new.meeting c.in_ok-unmet.unmet
      (c.in_ok-unmet.ensures.asked s place asking.keeps
      (asking_one c.args.place.headed s (world c.args.types.now c.args.finding.now) c.args.place.clauses c.args.askers.now (world c.loop-found.types c.loop-found.finding) c.loop-found.meeting c.loop-found.all c.loop-found.found-index asking id at has))
      c.either-all.result c.either-all.ensures),
)

pub returns : goal.returns
returns c = record {
  asked = λ s place keeps askers.
      asking_all c.args.place.headed s (world c.args.types.now c.args.finding.now) c.args.place.clauses c.args.askers.now (world c.loop-found.types c.loop-found.finding) c.loop-found.meeting c.loop-found.all c.loop-found.found-index c.loop-found-test.false
      (c.loop-found.invariant.1 s place keeps askers);
  kept = c.loop-found.invariant.0;
}

pub returns-in_err-unmet-clause-kept : goal.returns-in_err-unmet-clause-kept
returns-in_err-unmet-clause-kept c = grows_on c.args.types.now c.loop-found.types c.unmet_by.new.types c.loop-found.invariant.0 c.in_err-unmet.ensures.kept
