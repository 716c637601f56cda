use Rattle.clu_representation.proofs.Reading.{seen_in}
use Rattle.clu_representation.proofs.Taking.{words_taken}
use Rattle.clu_representation.proofs.Writing.{put_stored}
use Rattle.clu_representation.proofs.laws.seen_as_stored.Goals as goal

pub returns : goal.returns
returns c = record { read = seen_in; put = put_stored; taken = words_taken }
