use Rattle.clu_image.proofs.ReadLaws.{are_bytes, file_read, every_file_read}
use Rattle.clu_image.proofs.loading.load.Goals as goal

pub returns-clause-file : goal.returns-clause-file
returns-clause-file c =
    file_read c.args.b.now c.read.result (are_bytes c.args.b.now c.type_inv.b) c.read.ensures.good

pub returns-clause-every_file : goal.returns-clause-every_file
returns-clause-every_file c = every_file_read c.args.b.now c.read.result c.read.ensures.good c.read.ensures.refused
