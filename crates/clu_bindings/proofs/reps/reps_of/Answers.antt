use Rattle.std.proofs.Common.{◌∙◌, List, Option, ℕ, ap}
use Rattle.clu_bindings.specs.Reps.{reached_of}
use Rattle.clu_bindings.proofs.Outlasting.{reps_found}
use Rattle.clu_bindings.proofs.reps.reps_of.Goals as goal

pub returns : goal.returns
returns c =
    c.in_ok-reps.ensures
    ∙ ap (λ (begun : List (Option ℕ)). reached_of c.args.declared.now begun c.args.nodes) (c.as_slice.ensures.value ∙ c.in_ok-begun.ensures)
    ∙ reps_found c.args.declared.now c.args.nodes
