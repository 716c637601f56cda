use Rattle.std.proofs.Common.{refl}
use Rattle.clu_types.specs.Arena.{types_of, actuals_at}
use Rattle.clu_operations.specs.declared.finding.Finding.{Finding}
use Rattle.clu_operations.proofs.Asks.{asks_one}
use Rattle.clu_operations.proofs.parts.push_wanted.Goals as goal

pub returns-clause-asks : goal.returns-clause-asks
returns-clause-asks c = λ below lt.
    let now : Finding = record {
      words = c.push_asked.new.words;
      founds = c.args.finding.now.founds;
      asked = c.push_asked.new.asked;
      wished = c.args.finding.now.wished;
      given = c.args.finding.now.given;
      shown = c.args.finding.now.shown;
    } in
    asks_one c.push_asked.result c.args.types.now c.put_of.new.types c.args.finding.now now c.in_ok-of.of c.args.wanted c.args.operation.now c.args.in_set c.args.parameter (actuals_at (types_of c.args.types.now) c.args.actuals.now)
    c.in_ok-of.ensures.kept refl refl refl refl c.in_ok-of.ensures.of_type (c.in_ok-of.ensures.within below) lt c.push_asked.ensures
