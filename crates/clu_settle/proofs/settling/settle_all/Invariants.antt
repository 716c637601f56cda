use Rattle.clu_settle.specs.Steps.{ArePassed}
use Rattle.clu_settle.specs.Lost.{AreLost}
use Rattle.clu_settle.proofs.settling.settle_all.Given as goal

abbrev pub invariant-loop-place : goal.invariant-loop-place
invariant-loop-place l = record {
  known : ArePassed l.asked.syntax.now l.asked.meanings.now l.fn.order l.place-index l.types l.constants l.values;
  lost : AreLost l.asked.syntax.now l.asked.meanings.now l.fn.order l.place-index l.values;
}
