use Rattle.std.proofs.Common.{◌∙◌, [], ap, List, sym}
use Rattle.clu_base.specs.declared.constants.Const.{Const}
use Rattle.clu_settle.specs.Values.{constant_at, told}
use Rattle.clu_settle.proofs.Made.{ok_more, agrees_as}
use Rattle.clu_settle.proofs.Telling.{agrees_so}
use Rattle.clu_settle.proofs.Found.{told_there, beside_lost}
use Rattle.clu_settle.proofs.Folded.{prefixed_as, one_told}
use Rattle.clu_settle.proofs.operators.prefix_value.Goals as goal

pub returns-in_ok-operand-in-Constant-clause-known : goal.returns-in_ok-operand-in-Constant-clause-known
returns-in_ok-operand-in-Constant-clause-known c = ok_more _ _ c.keep.result c.keep.ensures.known (λ v p types s a.
    agrees_as (told types c.keep.new.constants v) _ _ (agrees_so _ _ (p types))
    (sym (one_told types c.args.constants.now c.args.sign c.args.operand c.in-Constant.a s _ c.in-Constant.is
    (prefixed_as c.args.sign c.prefix_by.result c.in_ok-operand-in-Constant.operand (constant_at c.args.constants.now c.in-Constant.a) c.fold_prefix.result c.prefix_by.ensures
    c.in_ok-operand-in-Constant.ensures c.fold_prefix.ensures) a)))

pub returns-in_ok-operand-in-Constant-clause-lost : goal.returns-in_ok-operand-in-Constant-clause-lost
returns-in_ok-operand-in-Constant-clause-lost c = ok_more _ _ c.keep.result c.keep.ensures.known (λ v p lost. absurd (told_there [] c.keep.new.constants v _ (p []) lost))

pub returns-in_default-clause-lost : goal.returns-in_default-clause-lost
returns-in_default-clause-lost c = λ lost. beside_lost c.args.operand (sym c.nothing_beside.ensures ∙ lost)
