use Rattle.std.proofs.Common.{◌≡◌, IfOk, subst}
use Rattle.clu_types.specs.declared.term.Heading.{Heading}
use Rattle.clu_types.specs.Numbering.{numbers_of}
use Rattle.clu_types.proofs.Copying.{heading_stays}
use Rattle.clu_types.proofs.term.Heading.copy.Goals as goal

pub returns : goal.returns
returns c = subst (λ (x : Heading). IfOk c.heading.result (λ copied. copied ≡ x)) (heading_stays (numbers_of c.new.result) c.new.ensures c.args.self.now) c.heading.ensures
