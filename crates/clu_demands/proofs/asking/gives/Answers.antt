use Rattle.std.proofs.Common.{◌∙◌, true≢false, length, refl, sym}
use Rattle.clu_types.specs.Arena.{type_at, types_of}
use Rattle.clu_demands.proofs.Answering.{demand_below, gives_first, gives_here, gives_more, gives_none}
use Rattle.clu_demands.proofs.asking.gives.Goals as goal

pub loop-demand-init : goal.loop-demand-init
loop-demand-init c = gives_first (types_of c.args.types.now) c.args.given.now c.args.n c.args.op.now (type_at (types_of c.args.types.now) c.args.wanted)

pub is_given-requires-clause-demand_in : goal.is_given-requires-clause-demand_in
is_given-requires-clause-demand_in c = demand_below (length c.args.types.now) c.args.given.now c.loop-demand.demand-index c.demand-item.result c.requires.given_in c.loop-demand-test.true c.demand-item.is

pub returns-then-is_given : goal.returns-then-is_given
returns-then-is_given c = (
  λ t. gives_here (types_of c.args.types.now) c.args.given.now c.args.n c.args.op.now (type_at (types_of c.args.types.now) c.args.wanted) c.loop-demand.demand-index c.demand-item.result c.loop-demand-test.true c.demand-item.is (c.is_given.ensures.0 c.if-is_given.true),
  λ g. refl,
)

pub loop-demand-preserved : goal.loop-demand-preserved
loop-demand-preserved c =
    gives_more (types_of c.args.types.now) c.args.given.now c.args.n c.args.op.now (type_at (types_of c.args.types.now) c.args.wanted) c.loop-demand.demand-index c.demand-item.result c.loop-demand-test.true c.demand-item.is
    (λ h. true≢false (sym (c.is_given.ensures.1 h) ∙ c.if-is_given.false)) c.loop-demand.invariant

pub returns : goal.returns
returns c = (
  λ t. absurd (true≢false (sym t)),
  λ g. absurd (gives_none (types_of c.args.types.now) c.args.given.now c.args.n c.args.op.now (type_at (types_of c.args.types.now) c.args.wanted) c.loop-demand.demand-index c.loop-demand-test.false c.loop-demand.invariant g),
)
