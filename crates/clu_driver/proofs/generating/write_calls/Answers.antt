use Rattle.std.proofs.Common.{rules}
use Rattle.clu_driver.specs.Generated.{call_text}
use Rattle.clu_driver.proofs.Repeated.{grew_next, none_written, on_err, one_more}
use Rattle.clu_driver.proofs.generating.write_calls.Goals as goal

pub loop-k-init : goal.loop-k-init
loop-k-init g c = record { grew = none_written call_text _; counts = search rules }

pub loop-k-preserved : goal.loop-k-preserved
loop-k-preserved g c = record { grew = one_more call_text c.loop-k.k _ _ _ c.loop-k.invariant.grew (search rules); counts = search (rules, c.loop-k.invariant.counts) }

pub returns-in_err-write_call-clause-part : goal.returns-in_err-write_call-clause-part
returns-in_err-write_call-clause-part g c = let grew = grew_next call_text c.loop-k.k c.args.procedures _ _ _ (search rules) c.loop-k.invariant.grew (search rules) in on_err c.from_residual.result _ grew
