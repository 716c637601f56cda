use Rattle.std.proofs.Common.{◌≡◌, drop}
use Rattle.clu_builtin.specs.Rows.{row_selected}
use Rattle.clu_builtin.proofs.select.selector_row.Given as goal

abbrev pub invariant-loop-field : goal.invariant-loop-field
invariant-loop-field l = row_selected l.rows l.fields l.op ≡ row_selected l.rows (drop l.field-index l.fields) l.op
