-- What a trace is seen as, and what a look at the machine makes of it.
use Rattle.std.specs.Prelude.{ℕ, Bool, not, ◌&&◌, ◌==◌, if◌then◌else◌, List, []}
use Rattle.clu_trace.specs.Walk.{walk}
use Rattle.clu_trace.specs.declared.map.TraceMap.{TraceMap}
use Rattle.clu_trace.specs.declared.place.Place.{Place}
use Rattle.rv_machine.specs.State.{State, register}

-- what it knows of the image, the bytes of the stack, for how many entries there is room, and the numbers of the names of the instances
-- that were live at the last raise, the latest begun first
pub record Watched : Type 0 where
  pub map : TraceMap
  pub stack : ℕ
  pub room : ℕ
  pub entries : List ℕ

-- an exception is raised at the frame whose place is in x18, with the instance whose link table is in x9. Its part of the stack goes
-- up to x2, to which a routine that signals has cut it
abbrev pub raised_at : State → Place
raised_at s = record { frame = register s 18; top = register s 2; table = register s 9 }

-- where the search part is entered, in a frame
abbrev pub is_raised : Watched → State → Bool
is_raised t s = (s.pc == t.map.search) && not (register s 18 == 0)

abbrev pub raised : Watched → State → Watched
raised t s = record t { entries = walk t.room t.map t.stack s t.room [] (raised_at s) }

abbrev pub watched : Watched → State → Watched
watched t s = if is_raised t s then raised t s else t
