-- The operations for which operators stand, and the types of literals and constants, case by case.
use Rattle.std.proofs.Common.{◌≡◌, refl}
use Rattle.clu_base.specs.declared.constants.Const.{Const}
use Rattle.clu_base.specs.declared.constants.Const.TheVariants as constant
use Rattle.clu_syntax.specs.declared.words.Operator.{Operator}
use Rattle.clu_syntax.specs.declared.words.Operator.TheVariants as op
use Rattle.clu_syntax.specs.declared.words.Sign.{Sign}
use Rattle.clu_syntax.specs.declared.words.Sign.TheVariants as sign
use Rattle.clu_syntax.specs.Syntax.{Literal, nil}
use Rattle.clu_meaning.specs.Constants.{sugar, prefix_name}
use Rattle.clu_checking.specs.Typing as typing
use Rattle.clu_typing.specs.Operators.{infix_operation, is_negated, prefix_operation}
use Rattle.clu_typing.specs.Typing.{literal_type, constant_type}
use Rattle.clu_passes.specs.Sugar.{operation_of, negates}

pub infix_said : (o : Operator) → infix_operation o ≡ operation_of (sugar o)
unfolding infix_operation
infix_said op.Power = refl
infix_said _ = refl

pub negated_said : (o : Operator) → is_negated o ≡ negates (sugar o)
negated_said op.Power = refl
negated_said _ = refl

pub prefix_said : (s : Sign) → prefix_operation s ≡ prefix_name s
unfolding prefix_operation
prefix_said sign.Not = refl
prefix_said sign.Minus = refl

pub literals_said : (l : Literal) → literal_type l ≡ typing.literal_type l
literals_said nil = refl
literals_said _ = refl

pub constants_said : (c : Const) → constant_type c ≡ typing.constant_type c
constants_said constant.Null = refl
constants_said _ = refl
