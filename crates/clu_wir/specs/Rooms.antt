-- What a routine may take of an image. A number above 64 bits counts as the greatest of 64 bits.
use Rattle.std.specs.Prelude.{ℕ, ◌+◌, ◌*◌, ◌-◌, ◌^◌, min, List, fold, map, length}
use Rattle.clu_base.specs.declared.constants.Const.TheVariants as constant
use Rattle.clu_base.specs.declared.constants.ObjConst.{ObjConst}
use Rattle.clu_base.specs.declared.constants.ObjConst.TheVariants as named
use Rattle.clu_wir.specs.Costs.{cost_words, known_words}
use Rattle.clu_wir.specs.declared.cost.Cost.{Cost}
use Rattle.clu_wir.specs.declared.cost.Cost.TheVariants as cost
use Rattle.clu_wir.specs.declared.expression.WExpr.{WExpr, WExpr-F, fold-WExpr}
use Rattle.clu_wir.specs.declared.statement.WStmt.{WStmt, WStmt-F, fold-WStmt}
use Rattle.clu_wir.specs.declared.statement.WArm.{WArm, WArm-F, fold-WArm}
use Rattle.clu_wir.specs.declared.room.Room.{Room}
use Rattle.clu_wir.specs.declared.routine.WRoutine.{WRoutine}

abbrev pub plus : ℕ → ℕ → ℕ
plus a b = min (a + b) (2 ^ 64 - 1)

abbrev pub times : ℕ → ℕ → ℕ
times a b = min (a * b) (2 ^ 64 - 1)

abbrev pub both : Room → Room → Room
both a b = record { code = plus a.code b.code; «data» = plus a.«data» b.«data» }

abbrev pub code_room : ℕ → Room
code_room code = record { code = code; «data» = 0 }

abbrev pub data_room : ℕ → Room
data_room bytes = record { code = 0; «data» = bytes }

abbrev pub all_words_of : List ℕ → ℕ
all_words_of words = fold plus 0 words

-- the words of an evaluation into a register, with those of each expression inside in its place
abbrev pub words_step : WExpr-F ℕ → ℕ
words_step (WExpr-F.Slot slot) = 3
words_step (WExpr-F.Word word) = known_words word
words_step (WExpr-F.Hole kind number) = 4
words_step (WExpr-F.Load address bytes) = plus address.value 3
words_step (WExpr-F.Byte address) = plus address.value 1
words_step (WExpr-F.Binary op left right) = plus (plus left.value right.value) 2
words_step (WExpr-F.If condition then other) = plus (plus (plus condition.value then.value) other.value) 5
words_step (WExpr-F.Check condition trap value) = plus (plus condition.value value.value) 5
words_step (WExpr-F.With values body) = plus (all_words_of values.items) body.value
words_step (WExpr-F.Bound number) = 1

abbrev pub words_of : WExpr → ℕ
words_of = fold-WExpr ℕ words_step

-- two expressions, and a step over their words
abbrev pub two_room : WExpr → WExpr → Cost → Room
two_room first second c = both (both (code_room (words_of first)) (code_room (words_of second))) (code_room (cost_words c))

-- values that go into slots side by side
abbrev pub row_room : List WExpr → Room
row_room values = both (code_room (all_words_of (map words_of values))) (code_room (times 3 (length values)))

abbrev pub call_room : WExpr → List WExpr → Room
call_room routine values = both (both (row_room values) (code_room (words_of routine))) (code_room (cost_words cost.Invoke))

-- the name of an exception and its objects, in slots side by side
abbrev pub exception_room : List WExpr → Room
exception_room objects = both (both (row_room objects) (code_room 4)) (code_room (cost_words cost.Save))

abbrev pub results_room : ℕ → Room
results_room count = code_room (times (cost_words cost.Result) count)

abbrev pub costs : Cost → Room
costs c = code_room (cost_words c)

abbrev pub all_of : List Room → Room
all_of rooms = fold both (code_room 0) rooms

-- what a statement takes, with what each statement and arm inside it takes in its place
abbrev pub room_step : WStmt-F Room Room → Room
room_step (WStmt-F.Set slot value) = both (code_room (words_of value)) (costs cost.Save)
room_step (WStmt-F.Put address bytes value) = two_room address value cost.Save
room_step (WStmt-F.Call routine values results) = both (call_room routine values.items) (results_room (length results.items))
room_step (WStmt-F.Prim number values results) =
    both (both (row_room values.items) (costs cost.Primitive)) (results_room (length results.items))
room_step (WStmt-F.Bind number value slot) = two_room number value cost.Bind
room_step (WStmt-F.If condition then other) =
    both (both (both (both (code_room (words_of condition)) (costs cost.Branch)) (costs cost.Jump)) (all_of then.items)) (all_of other.items)
room_step (WStmt-F.Loop body) = both (costs cost.Jump) (all_of body.items)
room_step WStmt-F.Break = both (costs cost.Cut) (costs cost.Jump)
room_step WStmt-F.Continue = costs cost.Jump
room_step (WStmt-F.Iterate routine values items body) =
    both (both (both (both (both (call_room routine values.items) (results_room (length items.items))) (costs cost.Jump)) (costs cost.Take)) (costs cost.Resume)) (all_of body.items)
room_step (WStmt-F.Yield words) = both (row_room words.items) (costs cost.Yield)
room_step (WStmt-F.Raise name objects) = both (exception_room objects.items) (costs cost.Raise)
room_step (WStmt-F.Signal name objects) = both (exception_room objects.items) (costs cost.Signal)
room_step (WStmt-F.Exit inside arm words) =
    both (both (both (row_room words.items) (results_room (length words.items))) (costs cost.Cut)) (costs cost.Jump)
room_step (WStmt-F.Guard body arms) =
    both (both (record { code = 1; «data» = 56 }) (all_of body.items)) (all_of arms.items)
room_step (WStmt-F.Resignal body names) =
    both (both (record { code = 8; «data» = 56 }) (all_of body.items)) (data_room (times 24 (length names.items)))
room_step (WStmt-F.Return results) = both (row_room results.items) (costs cost.Leave)

-- what an arm takes besides its statements: a step for each slot, the jump to the end of the guard, and a row of the table
-- for each name and for all others
abbrev pub arm_room : ℕ → ℕ → Room
arm_room slots names = record { code = plus (times (cost_words cost.Result) slots) (cost_words cost.Jump); «data» = plus (times 24 names) 24 }

abbrev pub arm_step : WArm-F Room Room → Room
arm_step arm = both (arm_room (length arm.slots.items) (length arm.names.items)) (all_of arm.body.items)

abbrev pub room_of : WStmt → Room
room_of = fold-WStmt Room Room room_step arm_step

abbrev pub arm_room_of : WArm → Room
arm_room_of = fold-WArm Room Room room_step arm_step

-- the bytes of a constant: its cell, and of a string its size and its bytes, in whole words
abbrev pub constant_bytes : ObjConst → ℕ
constant_bytes (named.Value (constant.Str bytes)) = plus (times 1 (length bytes)) 23
constant_bytes _ = 8

-- the bytes of the tables of a routine
abbrev pub table_bytes : WRoutine → ℕ
table_bytes r =
    fold (λ n c. plus n (constant_bytes c)) (plus (plus 56 (times 40 (length r.uses.items))) (times 8 (length r.types.items))) r.constants.items

abbrev pub routine_room : WRoutine → Room
routine_room r =
    both (both (both (both (all_of (map room_of r.body.items)) (code_room (times (cost_words cost.Argument) r.args))) (costs cost.Enter)) (costs cost.Leave)) (data_room (table_bytes r))
