use Rattle.std.proofs.Common.{◌∙◌, slice_get, ap}
use Rattle.std.specs.Prelude.{nat_lt}
use Rattle.clu_name_rules.proofs.Outlined.{long_found, long_missing}
use Rattle.clu_name_rules.proofs.lengths.is_long.Goals as goal

pub returns-in-Some : goal.returns-in-Some
returns-in-Some c = ap (nat_lt 65536) c.of_constant.ensures ∙ long_found (slice_get c.args.constants.now c.args.place) c.in-Some.constant c.in-Some.ensures

pub returns-in-None : goal.returns-in-None
returns-in-None c = long_missing (slice_get c.args.constants.now c.args.place) c.in-None.ensures
