use Rattle.std.proofs.Common.{◌≡◌, IfOk, length, subst}
use Rattle.clu_types.specs.CluType.{CluType}
use Rattle.clu_types.specs.Arena.{type_at, types_of}
use Rattle.clu_operations.proofs.Narrowing.{type_by_term, within_by_term}
use Rattle.clu_operations.proofs.builtins.type_with.Goals as goal

pub returns-clause-of_type : goal.returns-clause-of_type
returns-clause-of_type c up =
    subst (λ (t : CluType). IfOk c.number_or.result (λ id. type_at (types_of c.number_or.new.types) id ≡ t))
    (type_by_term (types_of c.args.types.now) (type_at (types_of c.args.types.now) c.args.of) c.view.result.now c.args.selector.now c.in_ok-term.term c.view.ensures.of_type c.in_ok-term.ensures up)
    (c.number_or.ensures.of_type (within_by_term c.args.of.0 (length c.args.types.now) (types_of c.args.types.now) (type_at (types_of c.args.types.now) c.args.of) c.view.result.now c.args.selector.now
    c.in_ok-term.term c.requires c.view.ensures.parts c.view.ensures.of_type c.in_ok-term.ensures up))
