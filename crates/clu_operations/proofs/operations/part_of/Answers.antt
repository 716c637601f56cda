use Rattle.std.proofs.Common.{◌≡◌, option_and_then, sym, subst, Option, Some}
use Rattle.clu_operations.specs.declared.modules.Part.TheVariants as part
use Rattle.clu_operations.specs.declared.words.NameId.{NameId}
use Rattle.clu_operations.specs.Modules.{module_seen}
use Rattle.clu_operations.specs.Told.{module_told}
use Rattle.clu_operations.specs.Wished.{told_by}
use Rattle.clu_operations.proofs.Wishing.{itself_told}
use Rattle.clu_operations.proofs.operations.part_of.Goals as goal

pub returns-in-None : goal.returns-in-None
returns-in-None c = λ up types given.
    subst
    (λ (o : Option NameId). option_and_then (module_told types given (module_seen c.args.known)) (Some part.Itself) ≡ told_by types c.args.inside (module_seen c.args.known) c.args.finding.now.words o given)
    (sym c.in-None.is) (itself_told types given (module_seen c.args.known) c.args.inside)
