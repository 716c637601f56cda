use Rattle.std.proofs.Common.{None, length, take}
use Rattle.clu_tree.specs.Nodes.{modules}
use Rattle.clu_check_mod.specs.declared.walk.Extent.TheVariants as extent
use Rattle.clu_checked.proofs.Sources.{first_told, handed_told}
use Rattle.clu_driver.proofs.ByCheck.{refused_told, specified}
use Rattle.clu_driver.proofs.checking.checked.Goals as goal

pub returns-in-Ok-clause-accepted : goal.returns-in-Ok-clause-accepted
returns-in-Ok-clause-accepted c = (c.in-Ok.ensures.closed, first_told c.args.syntax c.args.specs.now c.requires.source c.requires.specs extent.Whole None c.in-Ok.ensures.first)

pub returns-in-Ok-clause-specs : goal.returns-in-Ok-clause-specs
returns-in-Ok-clause-specs c =
    specified c.args.syntax c.args.specs.now c.requires.source c.requires.specs extent.Whole (take (length (modules c.args.syntax)) c.in-Ok.checked.value.specs.items) c.in-Ok.ensures.made

pub returns-in-Ok-clause-handed : goal.returns-in-Ok-clause-handed
returns-in-Ok-clause-handed c = handed_told c.args.syntax c.args.specs.now c.requires.source c.requires.specs c.in-Ok.checked.value c.in-Ok.ensures.noted

pub returns-in-Err-clause-refused : goal.returns-in-Err-clause-refused
returns-in-Err-clause-refused c =
    refused_told c.args.syntax c.args.specs.now c.requires.source c.requires.specs extent.Whole c.in-Err.error c.refusal.result c.args.name.now c.refusal.ensures c.in-Err.ensures.refused c.in-Err.ensures.first
