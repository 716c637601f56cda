-- What a lowered routine is, and how much of a frame and of an image it may take.
use Rattle.std.specs.Prelude.{◌≡◌, ◌≤◌, ◌*◌, ◌/◌, ℕ, IsTrue, List, fold, length}
use Rattle.clu_base.specs.declared.constants.Const.TheVariants as constant
use Rattle.clu_base.specs.declared.constants.ObjConst.{ObjConst}
use Rattle.clu_base.specs.declared.constants.ObjConst.TheVariants as named
use Rattle.clu_wir.specs.Formed.{is_formed}
use Rattle.clu_wir.specs.Rooms.{plus, times, routine_room}
use Rattle.clu_wir.specs.Widths.{routine_width}
use Rattle.clu_wir.specs.declared.routine.WRoutine.{WRoutine}

-- its name, how many arguments it takes and how many nodes it counts
pub record IsNamed (name : List ℕ) (args nodes : ℕ) (r : WRoutine) : Type 0 where
  pub named : r.name ≡ name
  pub takes : r.args ≡ args
  pub counts : r.nodes ≡ nodes

-- the nodes that a constant counts: one for each 64 bytes of a string
abbrev pub string_nodes : ObjConst → ℕ
string_nodes (named.Value (constant.Str bytes)) = length bytes / 64
string_nodes _ = 0

-- the nodes of a routine and of its constants
abbrev pub weight : WRoutine → ℕ
weight r = fold (λ n c. plus n (string_nodes c)) r.nodes r.constants.items

-- it is well formed, and takes at most two words of its frame and 64 words of code for each of its nodes, and 256 bytes for
-- each of these and of its constants'
pub record IsBounded (r : WRoutine) : Type 0 where
  pub formed : IsTrue (is_formed r)
  pub width : routine_width r ≤ 2 * r.nodes
  pub code : (routine_room r).code ≤ 64 * r.nodes
  pub bytes : (routine_room r).«data» ≤ times 256 (weight r)
