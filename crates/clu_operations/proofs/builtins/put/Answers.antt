use Rattle.clu_types.specs.Arena.{types_of}
use Rattle.clu_operations.proofs.InPlace.{put_one, put_below}
use Rattle.clu_operations.proofs.builtins.put.Goals as goal

pub returns-clause-put : goal.returns-clause-put
returns-clause-put c = rw c.put_if.ensures (put_one (types_of c.args.types.now) c.args.part c.args.of c.args.id c.equal.result c.equal.ensures)

pub returns-clause-within : goal.returns-clause-within
returns-clause-within c = rw c.put_if.ensures (put_below _ c.args.of c.args.id c.equal.result c.requires.of_in c.requires.id_in)
