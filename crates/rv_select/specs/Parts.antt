-- The parts of the runtime by their numbers.
use Rattle.std.specs.Prelude.{ℕ}
use Rattle.rv_select.specs.declared.parts.Part.{Part}
use Rattle.rv_select.specs.declared.parts.Part.TheVariants as part

-- the number by which a hole names a part
abbrev pub part_number : Part → ℕ
part_number part.Start = 0
part_number part.Search = 1
part_number part.Bind = 2
part_number part.Trap = 3
