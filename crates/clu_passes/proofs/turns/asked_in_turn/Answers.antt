use Rattle.std.proofs.Common.{◌≡◌, Some, subst, sym}
use Rattle.std.specs.List.{list_any}
use Rattle.std.proofs.lemmas.Option.{slice_get_within}
use Rattle.clu_type_rules.specs.Walking.{Asked}
use Rattle.clu_passes.specs.Turns.{bit, nodes_in}
use Rattle.clu_passes.proofs.AskedOnce.{asked_all}
use Rattle.clu_passes.proofs.turns.asked_in_turn.Goals as goal

pub returns : goal.returns
returns c = λ rounds fault es reads apart size within a is p e there.
    subst (λ (x : Asked). bit x.bad e ≡ list_any (fault x.bad) (nodes_in rounds e)) (sym is)
    ((asked_all rounds fault es (λ n m. reads n ≡ Some m) apart size within).done p e (slice_get_within es p (Some e) there) there)
