use Rattle.std.proofs.Common.{◌∙◌, ap, Option}
use Rattle.clu_head.specs.declared.head.RoutineHead.{RoutineHead}
use Rattle.clu_operations.specs.Modules.{routine_name, if_seen}
use Rattle.clu_operations.proofs.Ascending.{found_at}
use Rattle.clu_operations.proofs.modules.own_named.Goals as goal

pub returns : goal.returns
returns c up =
    c.own_if_named.ensures ∙ ap (λ (r : Option RoutineHead). if_seen c.args.inside r) (found_at routine_name c.args.routines.now c.args.name.now c.place_among.result up (c.place_among.ensures up))
