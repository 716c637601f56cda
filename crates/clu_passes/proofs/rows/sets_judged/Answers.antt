use Rattle.std.proofs.Common.{List, subst}
use Rattle.clu_checking.specs.Raising.{Raise}
use Rattle.clu_typing.specs.Facts.{raised_at}
use Rattle.clu_typing.specs.Raises.{raised_told}
use Rattle.clu_typing.specs.Sets.{HaveSame}
use Rattle.clu_checking.specs.Files.{item}
use Rattle.clu_checking.specs.Raising.{by_statement}
use Rattle.clu_passes.proofs.RowsSets.{set_judged, statement_raises}
use Rattle.clu_passes.proofs.rows.sets_judged.Goals as goal

pub returns : goal.returns
returns c = λ k right f n is there same.
    set_judged k right (raised_at k.facts.now n) there (by_statement f (item f n).statement)
    (subst (λ (xs : List Raise). HaveSame (raised_told k.tables.types.now k.facts.now n) xs) (statement_raises f n is) same)
