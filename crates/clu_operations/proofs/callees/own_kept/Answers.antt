use Rattle.std.proofs.Common.{refl}
use Rattle.clu_types.proofs.Carrying.{grows_on}
use Rattle.clu_operations.specs.declared.finding.Finding.{Finding}
use Rattle.clu_operations.specs.Modules.{part_seen}
use Rattle.clu_operations.proofs.Keeping.{own_kept, own_kept_shown}
use Rattle.clu_operations.proofs.callees.own_kept.Goals as goal

pub returns-clause-found : goal.returns-clause-found
returns-clause-found c = λ is below right given.
    let now : Finding = record {
      words = c.args.finding.now.words;
      founds = c.args.finding.now.founds;
      asked = c.args.finding.now.asked;
      wished = c.args.finding.now.wished;
      given = c.args.finding.now.given;
      shown = c.shown_of.new.kept;
    } in
    own_kept c.keep_own.result c.args.types.now c.shown_of.new.types c.keep_own.new.types c.in_ok-shown.ensures.kept c.args.finding.now now c.keep_own.new.finding refl refl refl refl refl c.args.callee.actuals.now given
    (part_seen c.args.part) c.in_ok-shown.shown (c.in_ok-shown.ensures.put is below right given) c.keep_own.ensures.found

pub returns-clause-shown : goal.returns-clause-shown
returns-clause-shown c = λ is below right given.
    own_kept_shown c.keep_own.result c.args.types.now c.shown_of.new.types c.in_ok-shown.ensures.kept c.args.finding.now.shown c.shown_of.new.kept c.keep_own.new.finding.shown c.args.callee.actuals.now given
    (part_seen c.args.part) c.in_ok-shown.shown c.args.callee.id c.args.head.now.form (c.in_ok-shown.ensures.put is below right given) (c.in_ok-shown.ensures.shown below) c.keep_own.ensures.shown

pub returns-clause-kept : goal.returns-clause-kept
returns-clause-kept c = grows_on _ _ _ c.in_ok-shown.ensures.kept c.keep_own.ensures.kept
