use Rattle.std.proofs.Common.{◌∙◌, length}
use Rattle.clu_types.proofs.Carrying.{grows_on, length_grows}
use Rattle.clu_operations.specs.Modules.{kept_demands}
use Rattle.clu_operations.proofs.Bundling.{option_more}
use Rattle.clu_operations.proofs.Pushing.{kept_asks, demands_whole, option_stays}
use Rattle.clu_operations.proofs.Founds.{found_in, shown_stays}
use Rattle.clu_operations.proofs.parts.kept_found.Goals as goal

pub returns-clause-found : goal.returns-clause-found
returns-clause-found c = λ whole below.
    found_in c.keep.result c.args.types.now c.push_all_kept.new.types (grows_on _ _ _ c.in_ok-of.ensures.kept c.in_ok-push_all_kept.ensures.kept) c.args.finding.now c.push_all_kept.new.finding c.keep.new.self _ c.in_ok-of.of c.asked_count-from.result _
    c.asked_count-from.ensures
    (kept_asks c.args.spec.now.types c.args.types.now c.kept_type.new.types c.push_all_kept.new.types c.in_ok-of.ensures.kept c.args.finding.now c.push_all_kept.new.finding c.args.actuals.now below c.kept_demands-demands.result.now
    (kept_demands c.args.spec.now.form c.args.part) c.kept_demands-demands.ensures (demands_whole _ c.args.spec.now.form c.args.part whole) c.in_ok-push_all_kept.ensures.asks)
    (option_stays c.kept_type.new.types c.push_all_kept.new.types c.in_ok-push_all_kept.ensures.kept c.in_ok-of.of c.in_ok-of.ensures.within ∙ c.in_ok-of.ensures.of_type whole below)
    (option_more (length c.kept_type.new.types) (length c.push_all_kept.new.types) (length_grows c.kept_type.new.types c.push_all_kept.new.types c.in_ok-push_all_kept.ensures.kept) c.in_ok-of.of c.in_ok-of.ensures.within) c.keep.ensures

pub returns-clause-shown : goal.returns-clause-shown
returns-clause-shown c = λ whole below.
    shown_stays c.keep.result c.push_all_kept.new.types c.args.finding.now c.push_all_kept.new.finding c.keep.new.self _ c.in_ok-of.of c.asked_count-from.result
    (kept_asks c.args.spec.now.types c.args.types.now c.kept_type.new.types c.push_all_kept.new.types c.in_ok-of.ensures.kept c.args.finding.now c.push_all_kept.new.finding c.args.actuals.now below c.kept_demands-demands.result.now
    (kept_demands c.args.spec.now.form c.args.part) c.kept_demands-demands.ensures (demands_whole _ c.args.spec.now.form c.args.part whole) c.in_ok-push_all_kept.ensures.asks) c.keep.ensures

pub returns-clause-kept : goal.returns-clause-kept
returns-clause-kept c = grows_on _ _ _ c.in_ok-of.ensures.kept c.in_ok-push_all_kept.ensures.kept
