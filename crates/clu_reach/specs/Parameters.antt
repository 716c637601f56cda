-- What stands for the parameters of a routine.
use Rattle.std.specs.Prelude.{ℕ, zero, suc, List, slice_get, Option, Some, None}
use Rattle.clu_base.specs.declared.constants.Const.{Const}
use Rattle.clu_base.specs.declared.constants.ObjConst.{ObjConst}
use Rattle.clu_base.specs.declared.constants.ObjConst.TheVariants as named
use Rattle.clu_types.specs.declared.term.Actual.{Actual}
use Rattle.clu_types.specs.declared.term.Actual.TheVariants as actual

-- the actual parameter of a number, from 1
abbrev pub nth : List Actual → ℕ → Option Actual
nth actuals zero = None
nth actuals (suc n) = slice_get actuals n

abbrev pub constant_in : Actual → Option Const
constant_in (actual.Const value) = Some value
constant_in (actual.Of id) = None
constant_in (actual.ConstParam n) = None

abbrev pub constant_by : Option Actual → Option Const
constant_by (Some a) = constant_in a
constant_by None = None

-- a constant of a routine, where it is known
abbrev pub constant_of : List Actual → ObjConst → Option Const
constant_of actuals (named.Value value) = Some value
constant_of actuals (named.Param n) = constant_by (nth actuals n)
