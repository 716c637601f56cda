use Rattle.std.proofs.Common.{◌<◌, length, get_or, arith, refl, ◌∙◌}
use Rattle.clu_types.specs.declared.term.TypeId.{TypeId}
use Rattle.clu_builtin.specs.declared.needs.Need.{Need}
use Rattle.clu_types.proofs.Carrying.{id_below, length_grows}
use Rattle.clu_builtin.proofs.Grown.{asks_more}
use Rattle.clu_builtin.proofs.needs.each_needs.Goals as goal

pub wanted-requires : goal.wanted-requires
wanted-requires c =
    let d : TypeId = record { 0 = 0 } in
    let here : (get_or c.args.parts.now c.loop-part.part-index d).0 < length c.args.types.now = id_below _ _ _ d c.requires c.loop-part-test.true in
    let longer = length_grows _ _ c.loop-part.invariant.grows in
    omega arith

pub loop-part-preserved : goal.loop-part-preserved
loop-part-preserved c =
    let d : TypeId = record { 0 = 0 } in
    let x : Need = record { of = get_or c.args.parts.now c.loop-part.part-index d; op = c.in_ok-from_slice.field-0; wanted = c.in_ok-wanted.wanted } in
    rw c.in_ok-push.ensures.items
    (asks_more _ _ _ _ _ _ _ _ d x c.loop-part-test.true c.requires c.loop-part.invariant c.in_ok-wanted.ensures.kept refl
    (c.in_ok-from_slice.ensures ∙ c.as_bytes.ensures.value ∙ c.need_op.ensures) c.in_ok-wanted.ensures.within c.in_ok-wanted.ensures.of_type)
