use Rattle.clu_library.proofs.Closing.{start_other}
use Rattle.clu_library.proofs.closure.fill.Goals as goal

pub add_reached-requires : goal.add_reached-requires
add_reached-requires c = start_other c.args.own.now c.args.names.now c.args.found.now.keys c.add_names.new.found.keys c.requires c.in_ok-add_names.ensures
