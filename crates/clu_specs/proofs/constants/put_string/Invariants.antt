use Rattle.std.proofs.Common.{◌≡◌, ◌++◌, ◌∷◌, take}
use Rattle.std.specs.List.{flat_map}
use Rattle.clu_specs.specs.Constants.{hex_byte}
use Rattle.clu_specs.proofs.constants.put_string.Given as goal

abbrev pub invariant-loop-b : goal.invariant-loop-b
invariant-loop-b l = l.out.items ≡ l.fn.out.items ++ 34 ∷ flat_map hex_byte (take l.b-index l.bytes)
