use Rattle.laws_accepted.proofs.Accepting.{accepted_keeps}
use Rattle.laws_accepted.proofs.laws.accepted_files_keep_rules.Goals as goal

pub returns : goal.returns
returns c = λ f accepted n there. accepted_keeps f accepted n there
