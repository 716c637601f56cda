use Rattle.std.proofs.Common.{◌∙◌, refl, ap}
use Rattle.clu_settle.proofs.Made.{ok_more}
use Rattle.clu_tree.specs.Nodes.{modules}
use Rattle.clu_bindings.proofs.Appending.{whole_modules}
use Rattle.clu_bindings.proofs.modules.modules_of.Goals as goal

pub returns-clause-known : goal.returns-clause-known
returns-clause-known c = ok_more _ _ c.numbered.result c.numbered.ensures.modules (λ all same.
    same _ (whole_modules c.args.types.now c.args.values.now c.args.syntax.now c.no_modules-modules.result c.push_modules.new.modules _ _ c.args.library.now c.modules-nodes.result.now (c.modules-nodes.ensures ∙ ap modules c.tree.ensures.same) c.no_modules-modules.ensures
    c.in_ok-push_modules.ensures refl refl c.in_ok-push_library.ensures))
