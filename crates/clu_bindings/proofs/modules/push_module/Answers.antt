use Rattle.std.proofs.Common.{refl}
use Rattle.clu_bindings.specs.Headlines.{headline_told}
use Rattle.clu_bindings.proofs.Appending.{none_headed, some_headed}
use Rattle.clu_bindings.proofs.modules.push_module.Goals as goal

pub returns-in_ok-push_own-in-Some : goal.returns-in_ok-push_own-in-Some
returns-in_ok-push_own-in-Some c =
    some_headed c.args.types.now c.args.values.now c.args.syntax.now c.args.modules.now _ _ _ (headline_told c.in-Some.headline) c.in-Some.ensures c.in_ok-push_own-in-Some.ensures refl refl

pub returns-in-None : goal.returns-in-None
returns-in-None c = none_headed c.args.types.now c.args.values.now c.args.syntax.now c.args.modules.now _ c.in-None.ensures
