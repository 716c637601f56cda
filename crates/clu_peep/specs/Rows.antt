-- The rows: which of two neighbouring places goes.
--
--   Move(a, a)                 goes alone
--   Move(a, b), Move(b, a)     the second goes, if no arm begins there
--   Jump(l), Label(l)          the first goes
--   Word(a, v), Word(a, w)     the first goes, if no arm begins at the second
use Rattle.std.specs.Prelude.{Bool, not, ◌&&◌, ◌||◌}
use Rattle.clu_frames.specs.Plain.{step_of}
use Rattle.clu_frames.specs.Labels.{jump_of, label_of, same}
use Rattle.clu_peep.specs.declared.places.Place.{Place}
use Rattle.clu_peep.specs.Steps.{is_back, is_idle, move_of, word_slot}

abbrev pub goes_alone : Place → Bool
goes_alone x = is_idle (move_of (step_of x.step))

abbrev pub goes_second : Place → Place → Bool
goes_second x y = not y.is_target && is_back (move_of (step_of y.step)) (move_of (step_of x.step))

abbrev pub goes_first : Place → Place → Bool
goes_first x y = same (label_of (step_of y.step)) (jump_of (step_of x.step)) || (not y.is_target && same (word_slot (step_of y.step)) (word_slot (step_of x.step)))
