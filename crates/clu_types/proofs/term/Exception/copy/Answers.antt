use Rattle.std.proofs.Common.{◌≡◌, IfOk, subst}
use Rattle.clu_types.specs.declared.term.Exception.{Exception}
use Rattle.clu_types.specs.Numbering.{numbers_of}
use Rattle.clu_types.proofs.Copying.{signal_stays}
use Rattle.clu_types.proofs.term.Exception.copy.Goals as goal

pub returns : goal.returns
returns c = subst (λ (x : Exception). IfOk c.signal.result (λ copied. copied ≡ x)) (signal_stays (numbers_of c.new.result) c.new.ensures c.args.self.now) c.signal.ensures
