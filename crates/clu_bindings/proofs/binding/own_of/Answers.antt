use Rattle.std.proofs.Common.{◌∙◌, ℕ, length, ap, subst}
use Rattle.clu_settle.proofs.Made.{ok_more}
use Rattle.clu_bindings.specs.Owned.{AreOwned}
use Rattle.clu_bindings.proofs.binding.own_of.Goals as goal

pub returns-clause-own : goal.returns-clause-own
returns-clause-own c = ok_more _ _ c.own_to.result c.own_to.ensures.own (λ all own.
    subst (λ (count : ℕ). AreOwned c.own_to.new.types c.args.values.now c.args.syntax.now count all.items) (c.len.ensures.len ∙ ap length c.tree.ensures.same) own)
