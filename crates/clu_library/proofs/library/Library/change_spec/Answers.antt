use Rattle.clu_library.proofs.Replaced.{replaced_of}
use Rattle.clu_library.proofs.library.Library.change_spec.Goals as goal

pub returns-clause-replaced : goal.returns-clause-replaced
returns-clause-replaced c = replaced_of c.args.self.now c.put_changed.new.self c.args.s c.in_ok-lost.lost.keys c.in_ok-lost.ensures c.in_ok-put_changed.ensures.put
