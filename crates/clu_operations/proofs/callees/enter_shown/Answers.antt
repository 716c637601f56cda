use Rattle.std.proofs.Common.{◌∙◌, sym}
use Rattle.clu_types.specs.Arena.{types_of}
use Rattle.clu_operations.proofs.Showing.{none_shown, kept_there}
use Rattle.clu_operations.proofs.callees.enter_shown.Goals as goal

pub returns-then-contains_key-clause-there : goal.returns-then-contains_key-clause-there
returns-then-contains_key-clause-there c = kept_there c.args.kept.now c.args.id (sym c.contains_key.ensures ∙ c.if-contains_key.true)

pub returns-then-contains_key-clause-shown : goal.returns-then-contains_key-clause-shown
returns-then-contains_key-clause-shown c = λ below. none_shown (types_of c.args.types.now) c.args.kept.now c.args.id c.args.head.now.form
