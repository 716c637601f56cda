use Rattle.clu_passes.proofs.Constructed.{v17_is}
use Rattle.clu_passes.proofs.expression_rules.v17_by_tables.Goals as goal

pub returns : goal.returns
returns c = λ t scope library refused shaped tree are parents modules repeated items n known typed once fine. v17_is t scope library refused shaped tree are parents modules repeated items n known typed once fine
