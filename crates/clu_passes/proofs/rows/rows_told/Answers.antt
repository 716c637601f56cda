use Rattle.clu_passes.proofs.RowsTables.{row_by_tables}
use Rattle.clu_passes.proofs.rows.rows_told.Goals as goal

pub returns : goal.returns
returns c = λ t tables scope library refused parsed are facts n its known stand elsewhere given. row_by_tables t tables scope library refused parsed are facts n its known stand elsewhere given
