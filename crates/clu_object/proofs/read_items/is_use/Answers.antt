use Rattle.std.proofs.Common.{sym}
use Rattle.clu_types.specs.Arena.{types_of}
use Rattle.clu_specs.specs.Seen.{target_seen}
use Rattle.clu_object.proofs.Texts.{use_accepted, use_not}
use Rattle.clu_object.proofs.read_items.is_use.Goals as goal

pub returns-in-Ok : goal.returns-in-Ok
returns-in-Ok c = sym (use_accepted (target_seen (types_of c.read_use.new.types) c.in-Ok.target) c.args.text.now c.in-Ok.ensures.spelled c.in-Ok.ensures.grammar)

pub returns-in-Err-Bad : goal.returns-in-Err-Bad
returns-in-Err-Bad c = sym (use_not c.args.text.now c.in-Err-Bad.field-0 c.in-Err-Bad.field-0-0 c.in-Err-Bad.field-0-is c.in-Err-Bad.ensures.complete)
