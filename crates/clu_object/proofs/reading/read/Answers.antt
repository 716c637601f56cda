use Rattle.std.proofs.Common.{length}
use Rattle.clu_object.specs.ObjectReading.{object_read}
use Rattle.clu_object.proofs.Objects.{object_spelled}
use Rattle.clu_object.proofs.ReadLaws.{are_bytes, offset_fails, same_object, not_refused}
use Rattle.clu_object.proofs.reading.read.Goals as goal

pub returns-in-Ok-clause-written : goal.returns-in-Ok-clause-written
returns-in-Ok-clause-written c = (object_spelled c.args.b.now c.in-Ok.object (are_bytes c.args.b.now c.type_inv.b) c.in-Ok.ensures).0

pub returns-in-Ok-clause-object : goal.returns-in-Ok-clause-object
returns-in-Ok-clause-object c = (object_spelled c.args.b.now c.in-Ok.object (are_bytes c.args.b.now c.type_inv.b) c.in-Ok.ensures).1

pub returns-in-Ok-clause-every_object : goal.returns-in-Ok-clause-every_object
returns-in-Ok-clause-every_object c = λ o is e. same_object c.args.b.now c.in-Ok.object o c.in-Ok.ensures is e

pub returns-in-Err-clause-reads : goal.returns-in-Err-clause-reads
returns-in-Err-clause-reads c = rw c.at_offset.ensures (offset_fails c.in-Err.error (object_read c.args.b.now) (length c.args.b.now) c.in-Err.ensures)

pub returns-in-Err-clause-every_object : goal.returns-in-Err-clause-every_object
returns-in-Err-clause-every_object c = λ o is e. rw c.at_offset.ensures (not_refused c.in-Err.error c.args.b.now o (length c.args.b.now) c.in-Err.ensures is e)
