use Rattle.std.proofs.Common.{◌≡◌, ◌+◌, drop}
use Rattle.clu_specs.specs.Names.{word_len}
use Rattle.clu_specs.proofs.keywords.split_word.Given as goal

abbrev pub invariant-loop-i : goal.invariant-loop-i
invariant-loop-i l = l.i + word_len (drop l.i l.bytes) ≡ word_len l.bytes
