use Rattle.clu_types.specs.Numbering.{numbers_of}
use Rattle.clu_types.proofs.Needing.{needed_first, needed_step, needed_all}
use Rattle.clu_types.proofs.arena.TypeArena.needed.Goals as goal

pub types-init : goal.types-init
types-init c = needed_first c.args.self.now c.args.t.0 (numbers_of c.new-table.result) _ c.new-table.ensures c.in_ok-need_parts.ensures

pub types-preserved : goal.types-preserved
types-preserved c =
    needed_step c.args.self.now c.args.t.0 c.types.least c.in-Some.n (numbers_of c.types.table) _ c.in-Some.ensures c.in_ok-need_parts-2.ensures c.types.invariant

pub returns : goal.returns
returns c = needed_all c.args.self.now c.args.t.0 c.types.least (numbers_of c.types.table) c.in_default.ensures c.types.invariant
