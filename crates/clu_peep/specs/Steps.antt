-- What a step says to its neighbours.
use Rattle.std.specs.Prelude.{ℕ, Bool, true, false, ◌==◌, ◌&&◌, Option, Some, None}
use Rattle.clu_wir.specs.Plain.{Expr}
use Rattle.clu_wir.specs.Plain as plain
use Rattle.clu_frames.specs.Plain.{Step}
use Rattle.clu_frames.specs.Plain as flat
use Rattle.clu_peep.specs.declared.steps.Move.{Move}

-- `Move(to, from)` gives a slot the word of another
abbrev pub from_slot : ℕ → Expr → Option Move
from_slot to (plain.slot from) = Some (record { to = to; from = from })
from_slot to _ = None

abbrev pub move_of : Step → Option Move
move_of (flat.Set to value) = from_slot to value
move_of _ = None

-- `Word(to, word)` gives a slot a word that is known
abbrev pub with_word : ℕ → Expr → Option ℕ
with_word to (plain.word word) = Some to
with_word to _ = None

abbrev pub word_slot : Step → Option ℕ
word_slot (flat.Set to value) = with_word to value
word_slot _ = None

-- whether a move changes nothing
abbrev pub is_idle : Option Move → Bool
is_idle None = false
is_idle (Some m) = m.to == m.from

-- whether the first move goes the way of the second one back
abbrev pub is_back : Option Move → Option Move → Bool
is_back None second = false
is_back (Some first) None = false
is_back (Some first) (Some second) = first.to == second.from && first.from == second.to
