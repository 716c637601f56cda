use Rattle.clu_driver.proofs.Found.{found_source, refused_source}
use Rattle.clu_driver.proofs.sources.parse_file.Goals as goal

pub returns-clause-found : goal.returns-clause-found
returns-clause-found g c = found_source c.source.result _ _ _ c.in_ok-bytes.ensures.found c.source.ensures.same

pub returns-clause-refused : goal.returns-clause-refused
returns-clause-refused g c = refused_source c.source.result _ _ _ _ _ c.in_ok-bytes.ensures.found c.source.ensures.refused
