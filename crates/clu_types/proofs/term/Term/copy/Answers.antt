use Rattle.std.proofs.Common.{◌≡◌, IfOk, subst}
use Rattle.clu_types.specs.declared.term.Term.{Term}
use Rattle.clu_types.specs.Numbering.{numbers_of}
use Rattle.clu_types.proofs.Copying.{term_stays}
use Rattle.clu_types.proofs.term.Term.copy.Goals as goal

pub returns : goal.returns
returns c = subst (λ (x : Term). IfOk c.renumbered.result (λ copied. copied ≡ x)) (term_stays (numbers_of c.new.result) c.new.ensures c.args.self.now) c.renumbered.ensures
