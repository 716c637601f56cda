use Rattle.std.proofs.Common.{◌∙◌, sym, true≢false}
use Rattle.clu_types.specs.Arena.{type_at, types_of}
use Rattle.clu_operations.proofs.Wishing.{instance_given, instance_within, no_given}
use Rattle.clu_operations.proofs.operations.instance.Goals as goal

pub returns-then-contains-clause-given : goal.returns-then-contains-clause-given
returns-then-contains-clause-given c = instance_given c.instance_of.result (types_of c.args.types.now) (type_at (types_of c.args.types.now) c.args.of) c.view.result.now c.view.ensures.of_type c.instance_of.ensures

pub returns-then-contains-clause-within : goal.returns-then-contains-clause-within
returns-then-contains-clause-within c = instance_within c.instance_of.result _ _ c.view.result.now (c.contains.ensures.0 c.if-contains.true) c.view.ensures.parts c.instance_of.ensures

pub returns-else-contains-clause-given : goal.returns-else-contains-clause-given
returns-else-contains-clause-given c = no_given c.args.types.now c.args.of (λ lt. true≢false (sym (c.contains.ensures.1 lt) ∙ c.if-contains.false))
