-- What is not there is no expression.
use Rattle.std.proofs.Common.{◌≡◌, ◌∙◌, ℕ, true, List, Option, None, sym, ap}
use Rattle.std.specs.Prelude.{slice_get}
use Rattle.std.proofs.lemmas.Bool.{true≢false}
use Rattle.clu_tree.specs.declared.node.Node.{Node}
use Rattle.clu_syntax.specs.Kinds.{is_expression, kind_of, kind_at}

pub no_expression : (nodes : List Node) (n : ℕ) → slice_get nodes n ≡ None → is_expression (kind_at nodes n) ≡ true → ⊥
no_expression nodes n none is = true≢false (sym is ∙ ap (λ (its : Option Node). is_expression (kind_of its)) none)
