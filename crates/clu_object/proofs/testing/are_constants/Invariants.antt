use Rattle.std.proofs.Common.{◌≡◌, drop}
use Rattle.std.specs.List.{list_all}
use Rattle.clu_object.specs.Objects.{is_constant}
use Rattle.clu_object.proofs.testing.are_constants.Given as goal

-- those that are left decide
abbrev pub invariant-loop-constant : goal.invariant-loop-constant
invariant-loop-constant l = list_all is_constant l.constants ≡ list_all is_constant (drop l.constant-index l.constants)
