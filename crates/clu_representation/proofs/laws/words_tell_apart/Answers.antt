use Rattle.clu_representation.proofs.Apart.{same_cell_word, same_int, same_number, same_word_cell}
use Rattle.clu_representation.proofs.laws.words_tell_apart.Goals as goal

pub returns : goal.returns
returns c = record {
  ints = λ m n w v r s. (same_int m n w v r s, same_number m n w v r s);
  cells = λ map s t c d w v q r. (same_word_cell map s t c d w v q r, same_cell_word map s t c d w v q r);
}
