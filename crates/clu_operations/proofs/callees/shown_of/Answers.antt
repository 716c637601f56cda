use Rattle.std.proofs.Common.{◌∙◌, length, sym}
use Rattle.clu_types.specs.Arena.{types_of, actuals_at}
use Rattle.clu_operations.specs.Modules.{part_seen, own_part}
use Rattle.clu_operations.proofs.Showing.{none_shown, own_below, none_given, whole_put, put_as}
use Rattle.clu_operations.proofs.callees.shown_of.Goals as goal

pub returns-in_ok-bundle-clause-put : goal.returns-in_ok-bundle-clause-put
returns-in_ok-bundle-clause-put c = λ is below right given.
    whole_put c.args.types.now c.part_bundle.new.types c.in_ok-bundle.bundle c.args.callee.actuals.now (part_seen c.args.part) (none_given c.args.callee.actuals.now (sym c.are_none.ensures ∙ c.if-are_none.true))
    (c.in_ok-bundle.ensures.of_type (own_below (length c.args.types.now) c.args.head.now.form c.args.callee.part (part_seen c.args.part) below is)) c.in_ok-bundle.ensures.within

pub returns-in_ok-bundle-clause-shown : goal.returns-in_ok-bundle-clause-shown
returns-in_ok-bundle-clause-shown c = λ below. none_shown (types_of c.args.types.now) c.args.kept.now c.args.callee.id c.args.head.now.form

pub returns-else-are_none-clause-put : goal.returns-else-are_none-clause-put
returns-else-are_none-clause-put c = λ is below right given.
    put_as c.entered_part.result c.entered_part.new.types (actuals_at (types_of c.args.types.now) c.args.callee.actuals.now) (types_of c.args.types.now) (part_seen c.args.part) (own_part c.args.head.now.form c.args.callee.part) is
    (c.entered_part.ensures.put below right given) c.entered_part.ensures.within
