use Rattle.std.proofs.Common.{◌≡◌, ◌∙◌, ◌+◌, length, IfOk, Some, ap, sym, subst, arith, length-append}
use Rattle.clu_types.specs.CluType.{CluType}
use Rattle.clu_types.specs.declared.term.Term.{Term}
use Rattle.clu_types.specs.declared.term.TypeId.{TypeId}
use Rattle.clu_types.specs.Arena.{type_of, types_of, PartsBelow}
use Rattle.clu_typing.specs.Typing.{IsType}
use Rattle.clu_typing.proofs.Forced.{force_parts, force_typed}
use Rattle.clu_typing.proofs.typing.force_known.Goals as goal

pub type_of-requires : goal.type_of-requires
type_of-requires c =
    let kept = c.in_ok-any.ensures.kept in
    let more : length c.intern.new.self ≡ length c.args.types.now + length kept.0 = ap length kept.1 ∙ length-append c.args.types.now kept.0 in
    subst (PartsBelow (length c.intern.new.self)) (sym c.in_ok-term.ensures) (force_parts (length c.intern.new.self) c.in_ok-any.any c.args.to c.in_ok-any.ensures.within (omega (arith, c.requires, more)))

pub returns-clause-of_type : goal.returns-clause-of_type
returns-clause-of_type c =
    subst (λ (t : CluType). IfOk c.type_of.result (λ of. IsType c.type_of.new.types of (Some t)))
    (ap (type_of (types_of c.intern.new.self)) c.in_ok-term.ensures ∙ force_typed c.args.types.now c.intern.new.self c.in_ok-any.ensures.kept c.in_ok-any.any c.args.to c.in_ok-any.ensures.of_type c.requires)
    c.type_of.ensures.of_type
