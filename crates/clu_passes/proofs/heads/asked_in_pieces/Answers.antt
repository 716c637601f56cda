use Rattle.clu_passes.proofs.AskedPieces.{piece}
use Rattle.clu_passes.proofs.heads.asked_in_pieces.Goals as goal

pub returns : goal.returns
returns c = piece
