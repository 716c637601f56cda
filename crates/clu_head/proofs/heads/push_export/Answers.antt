use Rattle.clu_head.proofs.OfModules.{exported_more}
use Rattle.clu_head.proofs.heads.push_export.Goals as goal

pub returns : goal.returns
returns c = λ x. exported_more x c.args.exports.now.keys c.insert.new.self.keys c.args.name.now _ c.in_ok-copy.ensures c.in_ok-insert.ensures.keys
