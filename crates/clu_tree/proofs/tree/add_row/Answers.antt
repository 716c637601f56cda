use Rattle.std.proofs.Common.{◌≡◌, ◌++◌, ◌∷◌, [], length, ap, ◌∙◌, arith, rules}
use Rattle.clu_tree.specs.Count.{count_with}
use Rattle.clu_tree.specs.Nodes.{module_at}
use Rattle.clu_tree.proofs.Rows.{length-counts, kept-push}
use Rattle.clu_tree.proofs.tree.add_row.Goals as goal

pub count_with-count-requires-clause-below : goal.count_with-count-requires-clause-below
count_with-count-requires-clause-below c k d below =
    omega (arith, c.requires.fits.below k d below, ap length c.as_slice.ensures.value, ap length c.requires.kept.counts_are, length-counts c.args.nodes.now.items)

pub count_with-count-requires-clause-small : goal.count_with-count-requires-clause-small
count_with-count-requires-clause-small c = rw (c.as_slice.ensures.value, c.requires.kept.counts_are) c.requires.fits.small

pub returns-clause-kept : goal.returns-clause-kept
returns-clause-kept c =
    let nodes = c.push_reserved-2.ensures.items ∙ ap (λ ns. ns ++ c.args.node ∷ []) c.in_ok-reserve.ensures.items in
    let kept = c.push_reserved.ensures.items ∙ ap (λ ks. ks ++ c.count_with-count.result ∷ []) c.in_ok-reserve-2.ensures.items in
    let numbers = c.note_module.ensures ∙ ap (λ ms. ms ++ module_at c.len-n.result c.args.node.kind) c.in_ok-reserve-3.ensures.items in
    let count = c.count_with-count.ensures ∙ ap (λ ks. count_with ks c.args.node) c.as_slice.ensures.value in
    let n_is : c.len-n.result ≡ length c.args.nodes.now.items = search rules in
    rw (nodes, kept, numbers, n_is)
    (kept-push c.args.nodes.now.items c.args.counts.now.items c.args.modules.now.items c.args.node c.count_with-count.result c.requires.kept c.requires.fits count)
