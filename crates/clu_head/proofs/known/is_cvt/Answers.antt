use Rattle.std.proofs.Common.{◌≡◌, ◌∙◌, ◌≤◌, ℕ, false, List, length, Option, ap, sym, arith}
use Rattle.std.proofs.lemmas.Option.{slice_get_past}
use Rattle.clu_tree.specs.declared.node.Node.{Node}
use Rattle.clu_syntax.specs.Items.{Item}
use Rattle.clu_syntax.specs.Nodes.{before, item_to, item_with, item_at}
use Rattle.clu_head.specs.Seen.{is_cvt}
use Rattle.clu_head.proofs.known.is_cvt.Goals as goal

pub returns-then-n-len : goal.returns-then-n-len
unfolding item_to
returns-then-n-len c =
    let items : ℕ → Item = before c.args.n (item_to c.args.syntax.now c.args.n) in
    c.is_cvt_type.ensures items c.args.n ∙ ap is_cvt (c.type_expression.ensures.told items)

-- what is not there is no type
no_cvt : (nodes : List Node) (n : ℕ) → length nodes ≤ n → false ≡ is_cvt (item_at nodes n).type
unfolding item_to
no_cvt nodes n past = ap (λ (its : Option Node). is_cvt (item_with (before n (item_to nodes n)) nodes n its).type) (sym (slice_get_past nodes n past))

pub returns-else-n-len : goal.returns-else-n-len
returns-else-n-len c =
    let size : length c.tree.result.now ≡ length c.args.syntax.now = ap length c.tree.ensures.same in
    no_cvt c.args.syntax.now c.args.n (omega (arith, size, c.len.ensures.len, c.if-n-len.false))
