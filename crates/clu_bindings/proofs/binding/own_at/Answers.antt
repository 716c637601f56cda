use Rattle.std.proofs.Common.{◌∙◌, List, false, option_map, slice_get, sym, ap, subst}
use Rattle.std.proofs.lemmas.Bool.{true≢false}
use Rattle.std.proofs.lemmas.Option.{same_Some}
use Rattle.clu_tree.specs.declared.node.Node.{Node}
use Rattle.clu_tree.specs.declared.node.NodeKind.TheVariants as kind
use Rattle.clu_syntax.specs.Splits.{is_of}
use Rattle.clu_head.specs.There.{is_there}
use Rattle.clu_settle.proofs.Made.{ok_more}
use Rattle.clu_bindings.specs.Headlines.{Headline, headline_of}
use Rattle.clu_bindings.specs.Owned.{IsOwned}
use Rattle.clu_bindings.proofs.binding.own_at.Goals as goal

pub returns-then-is_at-clause-own : goal.returns-then-is_at-clause-own
returns-then-is_at-clause-own c = ok_more _ _ c.own_headed.result c.own_headed.ensures.own (λ found own node at is.
    subst (λ (h : Headline). IsOwned c.own_headed.new.types c.args.values.now c.args.syntax.now h found)
    (same_Some _ _ (sym c.cluster_at.ensures ∙ ap (option_map (headline_of c.args.syntax.now false)) at)) own)

pub returns-else-is_at-clause-own : goal.returns-else-is_at-clause-own
returns-else-is_at-clause-own c = λ node at is. absurd (true≢false (sym (sym c.if-is_at.false ∙ c.is_at.ensures.exact
    ∙ ap (is_there kind.Cluster) (ap (λ (nodes : List Node). slice_get nodes c.args.n) c.tree.ensures.same ∙ at) ∙ ap (is_of kind.Cluster) is)))
