-- Constants: what literals denote, and what operators give for constants.
use Rattle.std.specs.Prelude.{ℕ, ◌+◌, ◌*◌, ◌-◌, pos, true, false, List, [], ◌∷◌, codes, Option, None, Some}
use Rattle.std.specs.Option.{option_map, option_and_then}
use Rattle.clu_base.specs.declared.constants.Const.{Const}
use Rattle.clu_base.specs.declared.constants.Const.TheVariants as constant
use Rattle.clu_literal.specs.Literal.{string_denoted, char_denoted}
use Rattle.clu_syntax.specs.Syntax as syntax
use Rattle.clu_syntax.specs.declared.words.Operator.{Operator}
use Rattle.clu_syntax.specs.declared.words.Operator.TheVariants as op
use Rattle.clu_syntax.specs.declared.words.Sign.{Sign}
use Rattle.clu_syntax.specs.declared.words.Sign.TheVariants as sign
use Rattle.clu_layout.specs.Objects.{object_of, Object, null_object, bool_object, int_object, char_object, string_object, own_type}
use Rattle.clu_layout.specs.Actions.{World, Outcome, returned}
use Rattle.clu_layout.specs.Primitive.{prim}

-- ---- constants that are objects

abbrev pub constant_of : Object → Option Const
constant_of null_object = Some constant.Null
constant_of (bool_object b) = Some (constant.Bool b)
constant_of (int_object n) = Some (constant.Int n)
constant_of (char_object c) = Some (constant.Char c)
constant_of (string_object bytes) = Some (constant.Str bytes)
constant_of _ = None

-- ---- literals

-- what decimal digits write after a number
abbrev pub number_after : ℕ → List ℕ → ℕ
number_after n [] = n
number_after n (digit ∷ digits) = number_after (10 * n + (digit - 48)) digits

-- real literals are none of this profile
abbrev pub denoted : syntax.Literal → Option Const
denoted syntax.nil = Some constant.Null
denoted syntax.true_literal = Some (constant.Bool true)
denoted syntax.false_literal = Some (constant.Bool false)
denoted (syntax.integer digits) = Some (constant.Int (pos (number_after 0 digits)))
denoted (syntax.real text) = None
denoted (syntax.character text) = option_map constant.Char (char_denoted text)
denoted (syntax.string text) = option_map constant.Str (string_denoted text)

-- ---- operators

-- an operator is cand or cor, or the name of an operation, to whose result not may be applied
pub data Sugar : Type 0 where
  is_cand is_cor : Sugar
  is_operation is_negated : List ℕ → Sugar

abbrev pub sugar : Operator → Sugar
sugar op.Power = is_operation (codes "power")
sugar op.Multiply = is_operation (codes "mul")
sugar op.Divide = is_operation (codes "div")
sugar op.Remainder = is_operation (codes "mod")
sugar op.Add = is_operation (codes "add")
sugar op.Subtract = is_operation (codes "sub")
sugar op.Concatenate = is_operation (codes "concat")
sugar op.Less = is_operation (codes "lt")
sugar op.AtMost = is_operation (codes "le")
sugar op.Equal = is_operation (codes "equal")
sugar op.AtLeast = is_operation (codes "ge")
sugar op.Greater = is_operation (codes "gt")
sugar op.NotLess = is_negated (codes "lt")
sugar op.NotAtMost = is_negated (codes "le")
sugar op.NotEqual = is_negated (codes "equal")
sugar op.NotAtLeast = is_negated (codes "ge")
sugar op.NotGreater = is_negated (codes "gt")
sugar op.And = is_operation (codes "and")
sugar op.Or = is_operation (codes "or")
sugar op.Cand = is_cand
sugar op.Cor = is_cor

abbrev pub prefix_name : Sign → List ℕ
prefix_name sign.Not = codes "not"
prefix_name sign.Minus = codes "minus"

-- ---- operators over constants: what the operation gives, if it gives a constant and signals nothing

abbrev pub no_world : World
no_world = record { cells = []; input = []; output = []; words = 0; work = 0 }

abbrev pub given_by : Outcome → Option Const
given_by (returned (o ∷ []) w) = constant_of o
given_by _ = None

-- the operation of the first one's type
abbrev pub applied : List ℕ → List Object → Option Const
applied name [] = None
applied name (o ∷ os) = given_by (prim (own_type o) name (o ∷ os) no_world)

abbrev pub negation : Const → Option Const
negation c = applied (codes "not") (object_of c ∷ [])

abbrev pub both : Const → Const → Option Const
both (constant.Bool true) (constant.Bool b) = Some (constant.Bool b)
both (constant.Bool false) (constant.Bool b) = Some (constant.Bool false)
both _ _ = None

abbrev pub either_of : Const → Const → Option Const
either_of (constant.Bool true) (constant.Bool b) = Some (constant.Bool true)
either_of (constant.Bool false) (constant.Bool b) = Some (constant.Bool b)
either_of _ _ = None

abbrev pub folded : Sugar → Const → Const → Option Const
folded is_cand a b = both a b
folded is_cor a b = either_of a b
folded (is_operation name) a b = applied name (object_of a ∷ object_of b ∷ [])
folded (is_negated name) a b = option_and_then negation (applied name (object_of a ∷ object_of b ∷ []))

abbrev pub prefixed : Sign → Const → Option Const
prefixed s c = applied (prefix_name s) (object_of c ∷ [])
