use Rattle.std.proofs.Common.{◌∙◌, ℕ, ap}
use Rattle.clu_syntax.specs.Items.{Item}
use Rattle.clu_syntax.specs.Nodes.{before, item_to}
use Rattle.clu_lower_types.specs.Types.{is_cvt_type}
use Rattle.clu_lower_types.proofs.types.is_cvt.Goals as goal

pub returns : goal.returns
unfolding item_to
returns c =
    let items : ℕ → Item = before c.args.n (item_to c.args.syntax.now c.args.n) in
    c.is_cvt_type.ensures items c.args.n ∙ ap is_cvt_type (c.type_expression.ensures.told items)
