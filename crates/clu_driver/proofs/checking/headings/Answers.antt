use Rattle.std.proofs.Common.{None}
use Rattle.clu_check_mod.specs.declared.walk.Extent.TheVariants as extent
use Rattle.clu_checked.proofs.Sources.{first_told}
use Rattle.clu_driver.proofs.ByCheck.{refused_told, specified}
use Rattle.clu_driver.proofs.checking.headings.Goals as goal

pub returns-in-Ok-clause-accepted : goal.returns-in-Ok-clause-accepted
returns-in-Ok-clause-accepted c = first_told c.args.syntax.now c.args.specs.now c.requires.source c.requires.specs extent.Headings None c.in-Ok.ensures.first

pub returns-in-Ok-clause-own : goal.returns-in-Ok-clause-own
returns-in-Ok-clause-own c = specified c.args.syntax.now c.args.specs.now c.requires.source c.requires.specs extent.Headings c.in-Ok.own.items c.in-Ok.ensures.made

pub returns-in-Err-clause-refused : goal.returns-in-Err-clause-refused
returns-in-Err-clause-refused c =
    refused_told c.args.syntax.now c.args.specs.now c.requires.source c.requires.specs extent.Headings c.in-Err.error c.refusal.result c.args.name.now c.refusal.ensures c.in-Err.ensures.refused c.in-Err.ensures.first
