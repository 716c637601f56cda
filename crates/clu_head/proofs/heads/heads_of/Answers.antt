use Rattle.std.proofs.Common.{◌∙◌, refl}
use Rattle.clu_settle.proofs.Made.{ok_more}
use Rattle.clu_head.proofs.OfFile.{heads_made, numbered_so, restricted_so}
use Rattle.clu_head.proofs.heads.heads_of.Goals as goal

pub returns-clause-heads : goal.returns-clause-heads
returns-clause-heads c =
    let declared = c.args.names.now.declared.items in
    ok_more _ _ c.of_file.result c.of_file.ensures.heads
    (λ heads are. heads_made c.args.syntax.now c.args.rounds.now declared c.args.values.now c.args.refused.now c.args.types.now c.of_file.new.types heads _ are c.in_ok-parameters.parameters c.in_ok-sets.sets.items refl refl refl
    (c.as_slice-refused.ensures.value ∙ c.in_ok-counted.ensures)
    (numbered_so c.args.syntax.now c.tree.result.now c.args.rounds.now declared c.as_slice-declared.result.now c.in_ok-parameters.parameters c.tree.ensures.same c.as_slice-declared.ensures.value c.in_ok-parameters.ensures)
    c.as_slice-counts.ensures.value c.in_ok-sets.ensures
    (restricted_so c.args.syntax.now declared c.in_ok-sets.sets.items c.as_slice-led.result.now c.in_ok-parameters.parameters.numbers.items c.as_slice-numbers.result.now c.as_slice-restricted.result.now c.in_ok-all.all.items
    c.as_slice-restricted.ensures.value c.in_ok-all.ensures c.as_slice-led.ensures.value c.as_slice-numbers.ensures.value))
