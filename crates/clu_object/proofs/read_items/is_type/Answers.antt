use Rattle.std.proofs.Common.{sym}
use Rattle.clu_types.specs.Arena.{type_at, types_of}
use Rattle.clu_object.proofs.Texts.{type_accepted, type_not}
use Rattle.clu_object.proofs.read_items.is_type.Goals as goal

pub returns-in-Ok : goal.returns-in-Ok
returns-in-Ok c = sym (type_accepted (type_at (types_of c.read_type.new.types) c.in-Ok.field-0) c.args.text.now c.in-Ok.ensures.spelled c.in-Ok.ensures.grammar)

pub returns-in-Err-Bad : goal.returns-in-Err-Bad
returns-in-Err-Bad c = sym (type_not c.args.text.now c.in-Err-Bad.field-0 c.in-Err-Bad.field-0-0 c.in-Err-Bad.field-0-is c.in-Err-Bad.ensures.complete)
