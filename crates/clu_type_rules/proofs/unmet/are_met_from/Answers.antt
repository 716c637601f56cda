use Rattle.std.proofs.Common.{Bool, arith, subst}
use Rattle.clu_base.proofs.Lists.{some_at}
use Rattle.clu_types.proofs.Carrying.{grows_on}
use Rattle.clu_type_rules.specs.Needs.{world, Steps}
use Rattle.clu_type_rules.proofs.Needing.{grows_self, goes_first, goes_stands, goes_under, goes_more, goes_all, goes_none}
use Rattle.clu_type_rules.proofs.unmet.are_met_from.Goals as goal

pub loop-at-init : goal.loop-at-init
loop-at-init c = (
  grows_self c.args.types.now,
  λ s place stands few under answered.
      goes_first c.args.place.headed s (world c.args.types.now c.args.finding.now) c.args.met.now.keys c.args.before c.args.place.clauses stands few under answered,
)

pub returns-then-at-len : goal.returns-then-at-len
returns-then-at-len c = record {
  asked = λ s place stands few under answered.
      goes_all c.args.place.headed s (world c.args.types.now c.args.finding.now) c.args.met.now.keys c.args.before c.args.place.clauses (world c.loop-at.types c.loop-at.finding) c.loop-at.met.keys c.loop-at.at (c.loop-at.invariant.1 s place stands few under answered)
      (omega (arith, c.if-at-len.true, c.len.ensures.len));
  kept = c.loop-at.invariant.0;
}

pub returns-then-not-is_answered : goal.returns-then-not-is_answered
returns-then-not-is_answered c = record {
  asked = λ s place stands few under answered.
      (let goes = c.loop-at.invariant.1 s place stands few under answered in
      let next = some_at c.loop-at.met.keys c.loop-at.at (omega (arith, c.if-at-len.false, c.len.ensures.len)) in
      let here = goes_stands c.args.place.headed s (world c.args.types.now c.args.finding.now) c.args.met.now.keys c.args.before c.args.place.clauses (world c.loop-at.types c.loop-at.finding) c.loop-at.met.keys c.loop-at.at goes in
      let mine = goes_under c.args.place.headed s (world c.args.types.now c.args.finding.now) c.args.met.now.keys c.args.before c.args.place.clauses (world c.loop-at.types c.loop-at.finding) c.loop-at.met.keys c.loop-at.at goes next.0 next.1 in
      goes_none c.args.place.headed s (world c.args.types.now c.args.finding.now) c.args.met.now.keys c.args.before c.args.place.clauses (world c.loop-at.types c.loop-at.finding) c.loop-at.met.keys c.loop-at.at goes next.0 next.1
      (world c.ask.new.types c.ask.new.finding) c.ask.new.met.keys
      (subst (λ (b : Bool). Steps c.args.place.headed s (world c.loop-at.types c.loop-at.finding) (world c.ask.new.types c.ask.new.finding) c.loop-at.met.keys c.ask.new.met.keys next.0 b) c.if-not-is_answered.true
      (c.in_ok-is_answered.ensures.asked s place here next.0 next.1 mine)));
  kept = grows_on c.args.types.now c.loop-at.types c.ask.new.types c.loop-at.invariant.0 c.in_ok-is_answered.ensures.kept;
}

pub loop-at-preserved : goal.loop-at-preserved
loop-at-preserved c = (
  grows_on c.args.types.now c.loop-at.types c.ask.new.types c.loop-at.invariant.0 c.in_ok-is_answered.ensures.kept,
  λ s place stands few under answered.
      (let goes = c.loop-at.invariant.1 s place stands few under answered in
      let next = some_at c.loop-at.met.keys c.loop-at.at (omega (arith, c.if-at-len.false, c.len.ensures.len)) in
      let here = goes_stands c.args.place.headed s (world c.args.types.now c.args.finding.now) c.args.met.now.keys c.args.before c.args.place.clauses (world c.loop-at.types c.loop-at.finding) c.loop-at.met.keys c.loop-at.at goes in
      let mine = goes_under c.args.place.headed s (world c.args.types.now c.args.finding.now) c.args.met.now.keys c.args.before c.args.place.clauses (world c.loop-at.types c.loop-at.finding) c.loop-at.met.keys c.loop-at.at goes next.0 next.1 in
      goes_more c.args.place.headed s (world c.args.types.now c.args.finding.now) c.args.met.now.keys c.args.before c.args.place.clauses (world c.loop-at.types c.loop-at.finding) c.loop-at.met.keys c.loop-at.at goes next.0 next.1
      (omega (arith, c.if-at-len.false, c.len.ensures.len, c.len.ensures.small)) (world c.ask.new.types c.ask.new.finding) c.ask.new.met.keys
      (subst (λ (b : Bool). Steps c.args.place.headed s (world c.loop-at.types c.loop-at.finding) (world c.ask.new.types c.ask.new.finding) c.loop-at.met.keys c.ask.new.met.keys next.0 b) c.if-not-is_answered.false
      (c.in_ok-is_answered.ensures.asked s place here next.0 next.1 mine))),
)

pub returns : goal.returns
returns c = record {
  asked = λ s place stands few under answered. (let goes = c.loop-at.invariant.1 s place stands few under answered in absurd (omega (arith, c.loop-at-test.false, goes.few)));
  kept = c.loop-at.invariant.0;
}

pub returns-in_err-is_answered-clause-kept : goal.returns-in_err-is_answered-clause-kept
returns-in_err-is_answered-clause-kept c = grows_on c.args.types.now c.loop-at.types c.ask.new.types c.loop-at.invariant.0 c.in_err-is_answered.ensures.kept
