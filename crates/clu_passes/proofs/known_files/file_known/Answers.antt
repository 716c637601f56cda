use Rattle.clu_passes.proofs.FileKnown as files
use Rattle.clu_passes.proofs.known_files.file_known.Goals as goal

pub returns : goal.returns
returns c = λ t h its library refused is first grows heads told ascending items. files.file_known t h its library refused is first grows heads told ascending items
