use Rattle.std.proofs.Common.{List, subst, sym}
use Rattle.clu_settle.specs.declared.meanings.Meaning.{Meaning}
use Rattle.clu_settle.specs.Names.{AreMeanings}
use Rattle.clu_settle.specs.Lost.{IsLost}
use Rattle.clu_settle.proofs.Reading.{read_as}
use Rattle.clu_settle.proofs.settling.settle.Goals as goal

pub returns-clause-known : goal.returns-clause-known
returns-clause-known c = λ scope meant. c.in_ok-types.ensures.known scope (subst (AreMeanings c.args.syntax.now scope) (sym c.as_slice.ensures.value) meant)

pub returns-clause-lost : goal.returns-clause-lost
returns-clause-lost c = λ n inside lost. subst (λ (meanings : List Meaning). IsLost c.args.syntax.now meanings n) c.as_slice.ensures.value (c.in_ok-types.ensures.lost n inside lost)

pub returns-clause-read : goal.returns-clause-read
returns-clause-read c = read_as _ _ _ _ c.as_slice.ensures.value c.in_ok-types.ensures.read
