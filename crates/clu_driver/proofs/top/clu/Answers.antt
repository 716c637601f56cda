use Rattle.clu_driver.proofs.ByStatus.{quiet, refused, usage_always, usage_only}
use Rattle.clu_driver.proofs.top.clu.Goals as goal

pub returns-clause-usage_only : goal.returns-clause-usage_only
returns-clause-usage_only g c = usage_only _ _ _ _ _ _ _ _ c.called.ensures.told

pub returns-clause-usage_always : goal.returns-clause-usage_always
returns-clause-usage_always g c = usage_always _ _ _ _ _ _ _ _ c.called.ensures.told

pub returns-clause-quiet : goal.returns-clause-quiet
returns-clause-quiet g c = quiet _ _ _ _ _ _ c.called.ensures.told

pub returns-clause-refused : goal.returns-clause-refused
returns-clause-refused g c = refused _ _ _ _ _ _ _ _ c.called.ensures.told
