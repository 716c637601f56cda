-- Actual parameters by number, from 1.
use Rattle.std.specs.Prelude.{ℕ, zero, suc, List, Option, None, slice_get}
use Rattle.clu_types.specs.declared.term.Actual.{Actual}

abbrev pub nth : List Actual → ℕ → Option Actual
nth actuals zero = None
nth actuals (suc i) = slice_get actuals i
