use Rattle.std.proofs.Common.{◌∙◌, Some, refl, ap}
use Rattle.clu_types.specs.Arena.{type_of, types_of}
use Rattle.clu_operations.proofs.Founds.{found_in, shown_stays}
use Rattle.clu_operations.proofs.InPlace.{routine_below}
use Rattle.clu_operations.proofs.Needs.{routine_type, needs_asked}
use Rattle.clu_operations.proofs.builtins.keep.Goals as goal

pub intern-requires : goal.intern-requires
intern-requires c = rw c.routine_term.ensures (routine_below _ c.args.builtin.iter c.args.builtin.heading c.requires.0)

pub returns-clause-found : goal.returns-clause-found
returns-clause-found c =
    let more = needs_asked c.args.types.now c.intern.new.self c.in_ok-of.ensures.kept c.args.finding.now _ c.as_slice.result.now c.args.builtin.needs c.as_slice.ensures c.requires.1 c.in_ok-push_needs.ensures refl refl refl refl in
    let type =
    c.in_ok-of.ensures.of_type ∙ ap (type_of (types_of c.args.types.now)) c.routine_term.ensures ∙ routine_type (types_of c.args.types.now) c.args.builtin.iter c.args.builtin.heading c.args.builtin.needs in
    found_in c.keep.result c.args.types.now c.intern.new.self c.in_ok-of.ensures.kept c.args.finding.now _ c.keep.new.self _ (Some c.in_ok-of.of) c.asked_count-from.result _ c.asked_count-from.ensures more
    (ap Some type) c.in_ok-of.ensures.within c.keep.ensures

pub returns-clause-shown : goal.returns-clause-shown
returns-clause-shown c =
    let more = needs_asked c.args.types.now c.intern.new.self c.in_ok-of.ensures.kept c.args.finding.now _ c.as_slice.result.now c.args.builtin.needs c.as_slice.ensures c.requires.1 c.in_ok-push_needs.ensures refl refl refl refl in
    shown_stays c.keep.result c.intern.new.self c.args.finding.now _ c.keep.new.self _ (Some c.in_ok-of.of) c.asked_count-from.result more c.keep.ensures
