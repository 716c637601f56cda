use Rattle.std.proofs.Common.{◌≡◌, drop}
use Rattle.std.specs.List.{list_all}
use Rattle.std.specs.Option.{is_some}
use Rattle.clu_reach.specs.Parameters.{constant_of}
use Rattle.clu_reach.proofs.bounds.are_constants_known.Given as goal

-- the constants that are left decide
abbrev pub invariant-loop-constant : goal.invariant-loop-constant
invariant-loop-constant l =
    list_all (λ c. is_some (constant_of l.actuals c)) l.constants ≡ list_all (λ c. is_some (constant_of l.actuals c)) (drop l.constant-index l.constants)
