-- What a routine in word code hands on to its flat code, and how much that takes.
use Rattle.std.specs.Prelude.{◌≡◌, ◌≤◌, IsTrue}
use Rattle.clu_wir.specs.Rooms.{routine_room}
use Rattle.clu_wir.specs.Widths.{routine_width}
use Rattle.clu_wir.specs.declared.routine.WRoutine.{WRoutine}
use Rattle.clu_frames.specs.declared.flat.FlatRoutine.{FlatRoutine}
use Rattle.clu_frames.specs.Steps.{code_words}
use Rattle.clu_frames.specs.Within.{are_within}

-- all but its steps: the name, the number of nodes, what holes name, and its width, which is the size of its frame
pub record HandsOn (word : WRoutine) (flat : FlatRoutine) : Type 0 where
  pub name : flat.name ≡ word.name
  pub frame : flat.frame ≡ routine_width word
  pub nodes : flat.nodes ≡ word.nodes
  pub uses : flat.uses.items ≡ word.uses.items
  pub constants : flat.constants.items ≡ word.constants.items
  pub types : flat.types.items ≡ word.types.items

-- the steps take no more words of code than the routine may take, and name slots of its frame alone
pub record HasRoom (word : WRoutine) (flat : FlatRoutine) : Type 0 where
  pub words : code_words flat.code.items ≤ (routine_room word).code
  pub within : IsTrue (are_within flat.frame flat.code.items)
