-- How many words of its frame word code works with. A number above 32 bits counts as the greatest of 32 bits.
use Rattle.std.specs.Prelude.{ℕ, ◌+◌, ◌-◌, ◌^◌, min, max, List, fold, map, length}
use Rattle.clu_wir.specs.declared.expression.WExpr.{WExpr, WExpr-F, fold-WExpr}
use Rattle.clu_wir.specs.declared.statement.WStmt.{WStmt, WStmt-F, fold-WStmt}
use Rattle.clu_wir.specs.declared.statement.WArm.{WArm, WArm-F, fold-WArm}
use Rattle.clu_wir.specs.declared.routine.WRoutine.{WRoutine}

abbrev pub plus : ℕ → ℕ → ℕ
plus a b = min (a + b) (2 ^ 32 - 1)

abbrev pub count_of : ℕ → ℕ
count_of items = min items (2 ^ 32 - 1)

abbrev pub greatest : List ℕ → ℕ
greatest ns = fold max 0 ns

-- how many slots there must be for those that an expression names, with the number of each expression inside in its place
abbrev pub slots_step : WExpr-F ℕ → ℕ
slots_step (WExpr-F.Slot slot) = slot + 1
slots_step (WExpr-F.Word word) = 0
slots_step (WExpr-F.Hole kind number) = 0
slots_step (WExpr-F.Load address bytes) = address.value
slots_step (WExpr-F.Byte address) = address.value
slots_step (WExpr-F.Binary op left right) = max left.value right.value
slots_step (WExpr-F.If condition then other) = max (max condition.value then.value) other.value
slots_step (WExpr-F.Check condition trap value) = max condition.value value.value
slots_step (WExpr-F.With values body) = max (greatest values.items) body.value
slots_step (WExpr-F.Bound number) = 0

abbrev pub slots_of : WExpr → ℕ
slots_of = fold-WExpr ℕ slots_step

-- the words of a statement, with those of each statement and arm inside it in its place
abbrev pub width_step : WStmt-F ℕ ℕ → ℕ
width_step (WStmt-F.Set slot value) = 0
width_step (WStmt-F.Put address bytes value) = 0
width_step (WStmt-F.Call routine values results) = count_of (length values.items)
width_step (WStmt-F.Prim number values results) = max (count_of (length values.items)) (count_of (length results.items))
width_step (WStmt-F.Bind number value slot) = 0
width_step (WStmt-F.If condition then other) = max (greatest then.items) (greatest other.items)
width_step (WStmt-F.Loop body) = greatest body.items
width_step WStmt-F.Break = 0
width_step WStmt-F.Continue = 0
width_step (WStmt-F.Iterate routine values items body) = plus (max (count_of (length values.items)) (greatest body.items)) 1
width_step (WStmt-F.Yield words) = count_of (length words.items)
width_step (WStmt-F.Raise name objects) = plus (count_of (length objects.items)) 1
width_step (WStmt-F.Signal name objects) = plus (count_of (length objects.items)) 1
width_step (WStmt-F.Exit inside arm words) = count_of (length words.items)
width_step (WStmt-F.Guard body arms) = max (greatest body.items) (greatest arms.items)
width_step (WStmt-F.Resignal body names) = greatest body.items
width_step (WStmt-F.Return results) = count_of (length results.items)

abbrev pub arm_width_step : WArm-F ℕ ℕ → ℕ
arm_width_step arm = greatest arm.body.items

abbrev pub width_of : WStmt → ℕ
width_of = fold-WStmt ℕ ℕ width_step arm_width_step

abbrev pub arm_width_of : WArm → ℕ
arm_width_of = fold-WArm ℕ ℕ width_step arm_width_step

-- the words of a routine: its slots, and after them those of the statement that needs most
abbrev pub routine_width : WRoutine → ℕ
routine_width r = plus r.slots (greatest (map width_of r.body.items))
