-- One argument more is copied.
use Rattle.std.proofs.Common.{◌≡◌, ◌∙◌, ℕ, suc, ◌+◌, ap, arith, sym}
use Rattle.rv_select.specs.Steps.{argument_onto, arguments_onto}
use Rattle.rv_select.specs.Written.{Written}

pub more_arguments : (n : ℕ) (start old new : Written) → old ≡ arguments_onto n start → new ≡ argument_onto n old → new ≡ arguments_onto (n + 1) start
more_arguments n start old new e f =
    let one : suc n ≡ n + 1 = omega arith in
    f ∙ ap (argument_onto n) e ∙ ap (λ (k : ℕ). arguments_onto k start) one
