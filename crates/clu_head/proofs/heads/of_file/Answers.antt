use Rattle.std.proofs.Common.{◌∙◌, List, ℕ, ap, subst}
use Rattle.clu_tree.specs.Nodes.{modules}
use Rattle.clu_head.specs.Modules.{AreOfModules}
use Rattle.clu_head.proofs.OfFile.{of_file_made}
use Rattle.clu_head.proofs.heads.of_file.Goals as goal

pub returns-clause-heads : goal.returns-clause-heads
returns-clause-heads c =
    of_file_made c.args.known c.args.types.now c.asked_of.new.types c.of_modules.new.types c.asked_of.ensures.kept c.of_modules.ensures.kept _ c.in_ok-asked.ensures.starts c.in_ok-asked.ensures.demands c.in_ok-asked.ensures.asked
    (subst (λ (ns : List ℕ). AreOfModules c.args.known c.in_ok-asked.asked c.asked_of.new.types c.of_modules.new.types ns c.in_ok-modules.modules.items) (c.modules.ensures ∙ ap modules c.tree.ensures.same) c.in_ok-modules.ensures.modules)
