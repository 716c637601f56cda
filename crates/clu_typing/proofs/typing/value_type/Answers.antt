use Rattle.std.proofs.Common.{None, slice_get, refl, subst, sym}
use Rattle.clu_settle.proofs.Made.{ok_more}
use Rattle.clu_settle.specs.declared.value.Value.{Value}
use Rattle.clu_typing.specs.Typing.{IsValueType}
use Rattle.clu_typing.proofs.Outlined.{type_found, type_missing}
use Rattle.clu_typing.proofs.typing.value_type.Goals as goal

pub returns-in-Some-clause-of_type : goal.returns-in-Some-clause-of_type
returns-in-Some-clause-of_type c = ok_more _ _ c.constant_type.result c.constant_type.ensures.of_type (λ of is.
    subst (λ (v : Value). IsValueType c.args.types.now c.constant_type.new.types c.args.headed.file c.args.n v of) (sym c.in-Constant.is)
    (type_found c.constant_type.new.types of (slice_get c.args.headed.file.constants.now c.in-Constant.place) c.in-Some.constant c.in-Some.ensures is))

pub returns-in-None-clause-of_type : goal.returns-in-None-clause-of_type
returns-in-None-clause-of_type c = subst (λ (v : Value). IsValueType c.args.types.now c.args.types.now c.args.headed.file c.args.n v None) (sym c.in-Constant.is)
    (type_missing c.args.types.now None (slice_get c.args.headed.file.constants.now c.in-Constant.place) c.in-None.ensures refl)
