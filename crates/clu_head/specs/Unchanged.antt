-- Actual parameters by which nothing is changed: in each place stands the constant parameter of its number, which changes no
-- type parameter. With a type in one of the places only the type parameter of that number is changed.
use Rattle.std.specs.Prelude.{◌≡◌, ℕ, zero, suc, ◌-◌, List, [], ◌∷◌}
use Rattle.clu_types.specs.CluType.{CluType, Actuals, no_actuals, actual_type, actual_param}
use Rattle.clu_types.specs.declared.term.Actual.{Actual}
use Rattle.clu_types.specs.declared.term.Actual.TheVariants as actual

abbrev pub IsUnchanged : ℕ → Actual → Type 0
IsUnchanged place (actual.Of id) = ⊥
IsUnchanged place (actual.Const c) = ⊥
IsUnchanged place (actual.ConstParam n) = n ≡ suc place

-- from a place on
abbrev pub AreUnchanged : ℕ → List Actual → Type 0
AreUnchanged place [] = Unit {0}
AreUnchanged place (a ∷ rest) = IsUnchanged place a × AreUnchanged (suc place) rest

-- so many places from one on, and behind them a type
abbrev pub behind_unchanged : ℕ → ℕ → CluType → Actuals
behind_unchanged place zero t = actual_type t no_actuals
behind_unchanged place (suc many) t = actual_param (suc place) (behind_unchanged (suc place) many t)

-- the type is put in for the type parameter of this number alone
abbrev pub only : ℕ → CluType → Actuals
only number t = behind_unchanged 0 (number - 1) t
