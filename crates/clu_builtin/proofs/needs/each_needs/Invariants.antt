use Rattle.std.proofs.Common.{take}
use Rattle.clu_builtin.specs.Rows.{need_name, need_type}
use Rattle.clu_builtin.proofs.Grown.{Asks}
use Rattle.clu_builtin.proofs.needs.each_needs.Given as goal

abbrev pub invariant-loop-part : goal.invariant-loop-part
invariant-loop-part l = Asks (need_name l.asked) (need_type l.asked) l.fn.types l.types (take l.part-index l.parts) l.needs.items
