-- The arms of a region by their names.
use Rattle.std.specs.Prelude.{ℕ, List, [], Option, Some, None}
use Rattle.std.specs.List.{position}
use Rattle.std.specs.Str.{bytes_eq}
use Rattle.clu_wir.specs.declared.region.Arm.{Arm}

abbrev pub or_else : Option ℕ → Option ℕ → Option ℕ
or_else (Some n) other = Some n
or_else None other = other

abbrev pub named : List ℕ → List Arm → Option ℕ
named name arms = position (λ (a : Arm). bytes_eq a.name name) arms

-- the arm that takes a name: one of this name before one for all others, which has no name
abbrev pub arm_for : List Arm → List ℕ → Option ℕ
arm_for arms name = or_else (named name arms) (named [] arms)
