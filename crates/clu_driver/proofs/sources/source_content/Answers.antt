use Rattle.std.proofs.Common.{refl, rules}
use Rattle.clu_driver.proofs.Found.{found_large, found_whole}
use Rattle.clu_driver.proofs.sources.source_content.Goals as goal

pub returns-then-len-gt-SOURCE_LIMIT-clause-refused : goal.returns-then-len-gt-SOURCE_LIMIT-clause-refused
returns-then-len-gt-SOURCE_LIMIT-clause-refused g c = (refl, found_large _ c.args.name.now c.in_ok-bytes.bytes.items 1048576 c.in_ok-bytes.ensures.found (search rules))

pub returns-clause-found : goal.returns-clause-found
returns-clause-found g c = found_whole _ c.args.name.now c.in_ok-bytes.bytes.items 1048576 c.in_ok-bytes.ensures.found (search rules)
