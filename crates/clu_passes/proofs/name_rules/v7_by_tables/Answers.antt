use Rattle.std.proofs.Common.{◌∙◌, ℕ, List, Option, sym, ap}
use Rattle.clu_syntax.specs.Kinds.{kind_at}
use Rattle.clu_name_rules.specs.NameRules.{leads_to_mark}
use Rattle.clu_passes.proofs.Marked.{v7_is}
use Rattle.clu_passes.proofs.Tables.{bound_is}
use Rattle.clu_passes.proofs.name_rules.v7_by_tables.Goals as goal

pub returns : goal.returns
returns c = λ f shaped names are marks bits n. v7_is f shaped marks bits n ∙ ap (λ (bounds : List (Option ℕ)). leads_to_mark marks (kind_at f.nodes n) bounds) (sym (bound_is f names are n))
