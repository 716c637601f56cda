use Rattle.std.proofs.Common.{◌∙◌, ℕ, drop, ap, sym}
use Rattle.clu_syntax.proofs.Runs.{clauses_from, no_clause}
use Rattle.clu_syntax.proofs.statements.clause_in.Goals as goal

pub returns-in-empty-clause-told : goal.returns-in-empty-clause-told
returns-in-empty-clause-told c = λ items.
    no_clause items c.args.tree.now c.args.clauses.rest.now c.split_at.result.1.now c.in-empty.len_below
    (sym (c.split_at.ensures.back ∙ ap (λ (m : ℕ). drop m c.args.clauses.rest.now) c.leading_items.ensures.count))

pub returns-in-len1-up-clause-told : goal.returns-in-len1-up-clause-told
returns-in-len1-up-clause-told c = λ items.
    c.clause_at.ensures.told items
    ∙ clauses_from items c.args.tree.now c.args.clauses.rest.now c.split_at.result.1.now c.in-len1-up.len_at_least
    (sym (c.split_at.ensures.back ∙ ap (λ (m : ℕ). drop m c.args.clauses.rest.now) c.leading_items.ensures.count))
