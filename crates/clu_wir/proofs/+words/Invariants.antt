use Rattle.std.proofs.Common.{◌≡◌, drop, fold, map}
use Rattle.clu_wir.specs.Rooms.{all_words_of, plus, words_of}
use Rattle.clu_wir.proofs.+words.Given as goal

-- the values that are left decide
abbrev pub invariant-room::all_words-loop-value : goal.invariant-room::all_words-loop-value
invariant-room::all_words-loop-value l =
    fold plus l.code (map words_of (drop l.value-index l.values)) ≡ all_words_of (map words_of l.values)
