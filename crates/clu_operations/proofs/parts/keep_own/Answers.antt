use Rattle.std.proofs.Common.{◌∙◌, ℕ, ap}
use Rattle.clu_types.specs.CluType.{no_types, type_and}
use Rattle.clu_types.specs.Arena.{types_of, actuals_at}
use Rattle.clu_types.specs.Substituted.{types_substituted}
use Rattle.clu_operations.specs.Bundles.{type_or_null, wanted_types, nth_type, unless_refused, IsPut}
use Rattle.clu_operations.specs.Modules.{part_seen}
use Rattle.clu_operations.proofs.Pushing.{put_kept, shown_own}
use Rattle.clu_operations.proofs.Founds.{found_in, shown_stays}
use Rattle.clu_operations.proofs.parts.keep_own.Goals as goal

pub returns-clause-found : goal.returns-clause-found
returns-clause-found c = λ source below put.
    let later : IsPut c.push_own.new.types (actuals_at (types_of c.args.types.now) c.args.actuals.now) source (part_seen c.args.part) c.args.shown =
    put_kept c.args.types.now c.push_own.new.types c.in_ok-push_own.ensures.kept (actuals_at (types_of c.args.types.now) c.args.actuals.now) source (part_seen c.args.part) c.args.shown put in
    found_in c.keep.result c.args.types.now c.push_own.new.types c.in_ok-push_own.ensures.kept c.args.finding.now c.push_own.new.finding c.keep.new.self _ c.shown_at-of.result c.asked_count-from.result _ c.asked_count-from.ensures
    (c.in_ok-push_own.ensures.asks source c.args.part.of below put)
    (c.shown_at-of.ensures.of_type (types_substituted (actuals_at (types_of c.args.types.now) c.args.actuals.now) (wanted_types source c.args.part.demands.now (type_and (type_or_null source c.args.part.of) no_types))) later.within later.type
    ∙ ap (λ (n : ℕ). unless_refused c.args.part.of (nth_type (types_substituted (actuals_at (types_of c.args.types.now) c.args.actuals.now) (wanted_types source c.args.part.demands.now (type_and (type_or_null source c.args.part.of) no_types))) n)) c.count_of.ensures
    ∙ shown_own source (actuals_at (types_of c.args.types.now) c.args.actuals.now) (part_seen c.args.part))
    c.shown_at-of.ensures.within c.keep.ensures

pub returns-clause-shown : goal.returns-clause-shown
returns-clause-shown c = λ source below put.
    shown_stays c.keep.result c.push_own.new.types c.args.finding.now c.push_own.new.finding c.keep.new.self _ c.shown_at-of.result c.asked_count-from.result (c.in_ok-push_own.ensures.asks source c.args.part.of below put) c.keep.ensures
