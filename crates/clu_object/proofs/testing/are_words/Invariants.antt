use Rattle.std.proofs.Common.{◌≡◌, drop}
use Rattle.std.specs.List.{list_all}
use Rattle.clu_object.specs.Objects.{is_number}
use Rattle.clu_object.proofs.testing.are_words.Given as goal

-- those that are left decide
abbrev pub invariant-loop-word : goal.invariant-loop-word
invariant-loop-word l = list_all is_number l.words ≡ list_all is_number (drop l.word-index l.words)
