use Rattle.clu_types.specs.Numbering.{numbers_of}
use Rattle.clu_types.proofs.Carrying.{given_more}
use Rattle.clu_types.proofs.Tables.{part_made, whole_made, made_next}
use Rattle.clu_types.proofs.arena.TypeArena.make_needed.Goals as goal

pub make-requires-clause-actuals_in : goal.make-requires-clause-actuals_in
make-requires-clause-actuals_in c = given_more _ _ c.types.invariant.grows _ c.requires.actuals_in

pub make-requires-clause-parts : goal.make-requires-clause-parts
make-requires-clause-parts c =
    part_made c.args.from.now c.args.actuals.now c.args.self.now c.types.self (numbers_of c.args.table.now) (numbers_of c.types.table) c.types.next c.requires.actuals_in c.types.invariant c.args.t.0 c.in-Some.n c.requires.needed
    c.in-Some.ensures

pub types-preserved : goal.types-preserved
types-preserved c =
    made_next c.args.from.now c.args.actuals.now c.args.self.now c.types.self (numbers_of c.args.table.now) (numbers_of c.types.table) c.types.next c.requires.actuals_in c.types.invariant c.in-Some.n c.make.new.self c.in_ok-made.made
    (numbers_of c.put.new.self) c.in-Some.ensures c.in_ok-put.ensures c.in_ok-made.ensures.kept c.in_ok-made.ensures.within c.in_ok-made.ensures.of_type

pub returns-clause-made : goal.returns-clause-made
returns-clause-made c =
    whole_made c.args.from.now c.args.actuals.now c.args.self.now c.types.self (numbers_of c.args.table.now) (numbers_of c.types.table) c.types.next c.requires.actuals_in c.types.invariant c.args.t.0 c.requires.needed
    c.in_default.ensures
