use Rattle.std.proofs.Common.{◌∙◌, length, refl, arith}
use Rattle.std.specs.Str.{bytes_eq}
use Rattle.indexmap.specs.IndexMap.{get}
use Rattle.clu_names.proofs.Counts.{denotes}
use Rattle.clu_names.proofs.latest.denoted.Goals as goal

pub returns : goal.returns
returns c = c.chosen.ensures ∙ denotes c.args.declared.now c.args.n (length c.args.declared.now) (length c.args.declared.now) c.args.name.now (get bytes_eq c.args.locals.now) (get bytes_eq c.args.modules.now) refl (omega arith) c.requires.locals c.requires.modules
