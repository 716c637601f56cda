use Rattle.std.proofs.Common.{map, true≢false, length, arith, refl, sym, subst, ◌∙◌}
use Rattle.clu_types.specs.Arena.{types_of}
use Rattle.clu_types.proofs.Carrying.{grows_on, length_grows}
use Rattle.clu_specs.specs.Seen.{demand_seen}
use Rattle.clu_demands.specs.Asking.{AreBelowAll, IsFrontOf}
use Rattle.clu_demands.proofs.Seen.{more_below}
use Rattle.clu_demands.proofs.Closing.{asking_first, asking_more, asking_all, asking_none, asked_from, none_from, given_below}
use Rattle.clu_demands.proofs.meeting.are_met_from.Goals as goal

pub loop-n-init : goal.loop-n-init
loop-n-init c = asking_first (map (demand_seen (types_of c.args.types.now)) c.args.given.now) c.args.specs.now c.args.types.now c.args.met.now.keys c.args.before c.requires.few c.requires.met_in c.requires.answered

pub ask-requires-clause-given_in : goal.ask-requires-clause-given_in
ask-requires-clause-given_in c = given_below c.args.given.now c.args.types.now c.loop-n.types c.loop-n.invariant.grows c.requires.given_in

pub ask-requires-clause-met_in : goal.ask-requires-clause-met_in
ask-requires-clause-met_in c = c.loop-n.invariant.within

pub returns-then-n-len : goal.returns-then-n-len
returns-then-n-len c = record {
  all = λ e. asking_all (map (demand_seen (types_of c.args.types.now)) c.args.given.now) c.args.specs.now c.args.types.now c.args.met.now.keys c.args.before c.loop-n.types c.loop-n.met.keys c.loop-n.n c.loop-n.invariant (omega (arith, c.if-n-len.true, c.len.ensures.len));
  none = λ e. absurd (true≢false e);
  front = c.loop-n.invariant.front;
  within = c.loop-n.invariant.within;
  kept = c.loop-n.invariant.grows;
}

pub returns-then-not-is_answered : goal.returns-then-not-is_answered
returns-then-not-is_answered c =
    let no = c.if-not-is_answered.true in
    let same = c.in_ok-is_answered.ensures.same no in
    record {
      all = λ e. absurd (true≢false (sym e));
      none = λ e. asking_none (map (demand_seen (types_of c.args.types.now)) c.args.given.now) c.args.specs.now c.args.types.now c.args.met.now.keys c.args.before c.loop-n.types c.loop-n.met.keys c.loop-n.n c.loop-n.invariant (omega (arith, c.if-n-len.false, c.len.ensures.len))
          (none_from c.args.given.now c.args.specs.now c.args.types.now c.loop-n.types c.loop-n.invariant.grows c.requires.given_in c.loop-n.met.keys c.loop-n.n (c.in_ok-is_answered.ensures.none no));
      front = subst (IsFrontOf c.args.met.now.keys) (sym same) c.loop-n.invariant.front;
      within = subst (AreBelowAll (length c.ask.new.types)) (sym same) (more_below _ _ (length_grows _ _ c.in_ok-is_answered.ensures.kept) _ c.loop-n.invariant.within);
      kept = grows_on _ _ _ c.loop-n.invariant.grows c.in_ok-is_answered.ensures.kept;
    }

pub loop-n-preserved : goal.loop-n-preserved
loop-n-preserved c =
    let yes = c.if-not-is_answered.false in
    asking_more (map (demand_seen (types_of c.args.types.now)) c.args.given.now) c.args.specs.now c.args.types.now c.args.met.now.keys c.args.before c.loop-n.types c.loop-n.met.keys c.loop-n.n c.loop-n.invariant (omega (arith, c.if-n-len.false, c.len.ensures.len)) (omega (arith, c.if-n-len.false, c.len.ensures.small)) c.ask.new.types c.ask.new.met.keys c.in_ok-is_answered.ensures.kept
    (asked_from c.args.given.now c.args.specs.now c.args.types.now c.loop-n.types c.ask.new.types c.loop-n.invariant.grows c.requires.given_in c.loop-n.met.keys c.ask.new.met.keys c.loop-n.n (c.in_ok-is_answered.ensures.more yes))

pub returns : goal.returns
returns c = absurd (omega (arith, c.loop-n-test.false, c.loop-n.invariant.few))
