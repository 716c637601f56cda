use Rattle.std.proofs.Common.{◌≡◌, IfOk, option_map, subst}
use Rattle.clu_types.specs.CluType.{Actuals}
use Rattle.clu_types.specs.Arena.{type_at, types_of}
use Rattle.clu_types.specs.Substituted.{substituted}
use Rattle.clu_types.proofs.Carrying.{grows_on, given_grown, given_more}
use Rattle.clu_operations.specs.Bundles.{part_type}
use Rattle.clu_operations.specs.Modules.{own_part}
use Rattle.clu_operations.proofs.Showing.{more_shown}
use Rattle.clu_operations.proofs.callees.entered_part.Goals as goal

pub returns-clause-put : goal.returns-clause-put
returns-clause-put c = λ below right given.
    subst
    (λ (a : Actuals). IfOk c.kept_part.result (λ put. option_map (type_at (types_of c.kept_part.new.types)) put ≡ option_map (substituted a) (option_map (part_type (types_of c.args.types.now)) (own_part c.args.head.now.form c.args.callee.part))))
    (given_grown c.args.types.now c.enter_shown.new.types c.in_ok-enter_shown.ensures.kept c.args.callee.actuals.now given)
    (c.kept_part.ensures.put (types_of c.args.types.now) c.args.head.now.form c.in_ok-enter_shown.ensures.there
    (more_shown (types_of c.args.types.now) c.args.kept.now c.enter_shown.new.kept c.args.callee.id c.args.head.now.form right (c.in_ok-enter_shown.ensures.shown below))
    (given_more c.args.types.now c.enter_shown.new.types c.in_ok-enter_shown.ensures.kept c.args.callee.actuals.now given))

pub returns-clause-kept : goal.returns-clause-kept
returns-clause-kept c = grows_on _ _ _ c.in_ok-enter_shown.ensures.kept c.kept_part.ensures.kept
