-- What a value tells of a constant or type, where the types of an arena and the list of constants are known.
use Rattle.std.specs.Prelude.{◌≡◌, ◌<◌, ◌++◌, ℕ, List, All, slice_index_or, Option, Some, None}
use Rattle.clu_base.specs.declared.constants.Const.{Const}
use Rattle.clu_base.specs.declared.constants.Const.TheVariants as constant
use Rattle.clu_types.specs.CluType.{CluType}
use Rattle.clu_types.specs.Arena.{type_at}
use Rattle.clu_meaning.specs.Settling.{Value as Settled, settled_type, settled_constant, settled_parameter, unsettled}
use Rattle.clu_settle.specs.declared.value.Value.{Value}
use Rattle.clu_settle.specs.declared.value.Value.TheVariants as value

abbrev pub constant_at : List Const → ℕ → Const
constant_at constants k = slice_index_or constants k constant.Null

-- None if it is lost
abbrev pub told : List CluType → List Const → Value → Option Settled
told types constants value.Nothing = Some unsettled
told types constants value.Lost = None
told types constants (value.Type id) = Some (settled_type (type_at types id))
told types constants (value.Constant k) = Some (settled_constant (constant_at constants k))
told types constants (value.Parameter k) = Some (settled_parameter k)

-- what is known is so
abbrev pub Agrees : Option Settled → Settled → Type 0
Agrees None v = Unit {0}
Agrees (Some known) v = v ≡ known

abbrev pub value_in : Option Value → Value
value_in (Some v) = v
value_in None = value.Lost

-- the type is one of so many
abbrev pub TypeWithin : ℕ → Value → Type 0
TypeWithin n (value.Type id) = id.0 < n
TypeWithin n _ = Unit {0}

-- the constant is one of so many
abbrev pub ConstantWithin : ℕ → Value → Type 0
ConstantWithin n (value.Constant k) = k < n
ConstantWithin n _ = Unit {0}

abbrev pub IsWithin : ℕ → ℕ → Value → Type 0
IsWithin types constants v = TypeWithin types v × ConstantWithin constants v

abbrev pub AreWithin : ℕ → ℕ → List Value → Type 0
AreWithin types constants values = All (TypeWithin types) values × All (ConstantWithin constants) values

-- constants stay, and more may come after them
abbrev pub Kept : List Const → List Const → Type 0
Kept old new = (more : List Const) × (new ≡ old ++ more)
