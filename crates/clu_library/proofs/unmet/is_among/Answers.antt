use Rattle.clu_library.proofs.Amiss.{among}
use Rattle.clu_library.proofs.unmet.is_among.Goals as goal

pub returns : goal.returns
returns c = among c.args.names.now c.args.name.now _ c.holds.ensures
