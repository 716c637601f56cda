-- The steps that word code becomes, after those that are there, over plain trees.
use Rattle.std.specs.Prelude.{ℕ, ◌+◌, ◌-◌, ◌^◌, ◌==◌, ◌&&◌, min, pos, Bool, true, false, if◌then◌else◌, List, [], ◌∷◌, ◌++◌, length, map, slice_get, Option, Some, None, option_map}
use Rattle.std.specs.Option.{option_copied}
use Rattle.clu_base.specs.declared.constants.ObjConst.{ObjConst}
use Rattle.clu_wir.specs.declared.hole.HoleKind.TheVariants as kind
use Rattle.clu_wir.specs.Formed.{place_of}
use Rattle.clu_wir.specs.Plain.{Arms, Expr, OneArm, Stmt, Stmts, arm_and, arm_of, body_of, no_arms, no_stmts, stmt_and}
use Rattle.clu_wir.specs.Plain as plain
use Rattle.clu_wir.specs.declared.routine.WRoutine.{WRoutine}
use Rattle.clu_wir.specs.declared.region.Arm.{Arm}
use Rattle.clu_frames.specs.declared.flat.TheConstants.{FOOT, OUTER_MARK}
use Rattle.clu_frames.specs.declared.steps.Steps.{Steps}
use Rattle.clu_frames.specs.declared.surroundings.Guard.{Guard}
use Rattle.clu_frames.specs.declared.surroundings.Guards.{Guards, Guards-F, fold-Guards}
use Rattle.clu_frames.specs.declared.surroundings.Surroundings.{Surroundings}
use Rattle.clu_frames.specs.declared.surroundings.Turns.{Turns}
use Rattle.clu_wir.specs.Adding.{Added}
use Rattle.clu_frames.specs.Plain.{Step, plain_code}
use Rattle.clu_frames.specs.Plain as flat
use Rattle.clu_frames.specs.Regions.{added_of, begun_at, changed, ended_at, with_arm}

-- What is made so far: the steps, how many labels have numbers, and the regions.

pub record Made : Type 0 where
  pub code : List Step
  pub labels : ℕ
  pub regions : List Added

abbrev pub made : Steps → Made
made s = record { code = plain_code s.code.items; labels = s.labels; regions = map added_of s.regions.items }

abbrev pub pushed : Step → Made → Made
pushed step m = record { code = m.code ++ step ∷ []; labels = m.labels; regions = m.regions }

abbrev pub labelled : ℕ → Made → Made
labelled count m = record { code = m.code; labels = m.labels + count; regions = m.regions }

-- Regions: one is added, ends with a jump, and gets an arm that begins at the next place.

abbrev pub with_regions : List Added → Made → Made
with_regions regions m = record { code = m.code; labels = m.labels; regions = regions }

abbrev pub opened : Option ℕ → Made → Made
opened parent m = with_regions (m.regions ++ begun_at (length m.code) parent ∷ []) m

abbrev pub closed : ℕ → ℕ → Made → Made
closed region end m = pushed (flat.Jump end) (with_regions (changed (ended_at (length m.code)) region m.regions) m)

abbrev pub arm_at : List ℕ → ℕ → ℕ → Arm
arm_at name target mark = record { name = name; target = target; mark = mark }

abbrev pub armed : ℕ → ℕ → List ℕ → Made → Made
armed region mark name m = with_regions (changed (with_arm (arm_at name (length m.code) mark)) region m.regions) m

abbrev pub named_onto : ℕ → ℕ → List (List ℕ) → Made → Made
named_onto region mark [] m = m
named_onto region mark (name ∷ names) m = named_onto region mark names (armed region mark name m)

-- What stands round a statement: the first slot that is free, the labels of the innermost loop, the guards from the innermost
-- one outward, the mark, and the number of the innermost region.

pub record Guarding : Type 0 where
  -- the slots of each arm
  pub slots : List (List ℕ)
  pub label : ℕ
  pub mark : ℕ

pub record Round : Type 0 where
  -- those of the routine
  pub constants : List ObjConst
  pub work : ℕ
  pub turns : Option Turns
  pub guards : List Guarding
  pub mark : ℕ
  pub region : Option ℕ

abbrev pub Onto : Type 0
Onto = Round → Made → Made

-- Words in slots side by side.

abbrev pub slot_of : Expr → Option ℕ
slot_of (plain.slot slot) = Some slot
slot_of _ = None

abbrev pub is_slot : ℕ → Option ℕ → Bool
is_slot n None = false
is_slot n (Some slot) = slot == n

abbrev pub are_row : ℕ → List Expr → Bool
are_row next [] = true
are_row next (value ∷ values) = is_slot next (slot_of value) && are_row (min (next + 1) (2 ^ 32 - 1)) values

abbrev pub first_slot : List Expr → Option ℕ
first_slot [] = None
first_slot (value ∷ values) = slot_of value

abbrev pub row_from : List Expr → Option ℕ → Option ℕ
row_from values None = None
row_from values (Some first) = if are_row first values then Some first else None

-- the first of the slots, if the values are words of slots that lie so already
abbrev pub first_of_row : List Expr → Option ℕ
first_of_row values = row_from values (first_slot values)

abbrev pub sets_onto : ℕ → List Expr → Made → Made
sets_onto to [] m = m
sets_onto to (value ∷ values) m = sets_onto (to + 1) values (pushed (flat.Set to value) m)

abbrev pub row_slot : ℕ → Option ℕ → ℕ
row_slot work None = work
row_slot work (Some first) = first

abbrev pub row_sets : ℕ → List Expr → Option ℕ → Made → Made
row_sets work values None m = sets_onto work values m
row_sets work values (Some first) m = m

abbrev pub row_at : ℕ → List Expr → ℕ
row_at work values = row_slot work (first_of_row values)

abbrev pub row_onto : ℕ → List Expr → Made → Made
row_onto work values m = row_sets work values (first_of_row values) m

-- Words that travelled, and words from slots.

abbrev pub results_onto : ℕ → List ℕ → Made → Made
results_onto number [] m = m
results_onto number (slot ∷ slots) m = results_onto (number + 1) slots (pushed (flat.Result slot number) m)

abbrev pub taken_onto : List ℕ → Made → Made
taken_onto [] m = m
taken_onto (only ∷ []) m = pushed (flat.Take only) m
taken_onto (first ∷ second ∷ rest) m = results_onto 0 (first ∷ second ∷ rest) m

abbrev pub moves_onto : List ℕ → ℕ → Made → Made
moves_onto [] from m = m
moves_onto (slot ∷ slots) from m = moves_onto slots (from + 1) (pushed (flat.Set slot (plain.slot from)) m)

-- Statements that have none inside.

abbrev pub invoke_onto : Expr → List Expr → ℕ → Made → Made
invoke_onto routine arguments work m = pushed (flat.Invoke routine (row_at work arguments)) (row_onto work arguments m)

abbrev pub call_onto : Expr → List Expr → List ℕ → ℕ → Made → Made
call_onto routine arguments results work m = taken_onto results (invoke_onto routine arguments work m)

abbrev pub primitive_onto : ℕ → List Expr → List ℕ → ℕ → Made → Made
primitive_onto number arguments results work m = moves_onto results work (pushed (flat.Prim number work) (sets_onto work arguments m))

abbrev pub yield_onto : List Expr → ℕ → Made → Made
yield_onto words work m = pushed (flat.Yield (row_at work words) (length words)) (row_onto work words m)

-- the word of a name, which is a constant
abbrev pub name_at : Option ℕ → Expr
name_at None = plain.word 0
name_at (Some place) = plain.hole kind.Constant place

abbrev pub name_of : List ObjConst → List ℕ → Expr
name_of constants name = name_at (place_of constants name)

abbrev pub exception_onto : Expr → List Expr → ℕ → Made → Made
exception_onto name objects work m = sets_onto (work + 1) objects (pushed (flat.Set work name) m)

abbrev pub raise_onto : Expr → List Expr → ℕ → Made → Made
raise_onto name objects work m = pushed (flat.Raise work) (exception_onto name objects work m)

abbrev pub signal_onto : Expr → List Expr → ℕ → Made → Made
signal_onto name objects work m = pushed (flat.Signal work) (exception_onto name objects work m)

abbrev pub leave_onto : List Expr → ℕ → Made → Made
leave_onto results work m = pushed (flat.Leave (row_at work results) (length results)) (row_onto work results m)

-- Leaving loops and guards. What has no loop, guard or arm adds nothing.

abbrev pub cut_onto : Option ℕ → Made → Made
cut_onto None m = m
cut_onto (Some mark) m = pushed (flat.Cut mark) m

abbrev pub break_onto : Option Turns → Made → Made
break_onto None m = m
break_onto (Some t) m = pushed (flat.Jump t.end) (cut_onto t.cut m)

abbrev pub continue_onto : Option Turns → Made → Made
continue_onto None m = m
continue_onto (Some t) m = pushed (flat.Jump t.next) m

abbrev pub recut_onto : ℕ → ℕ → Made → Made
recut_onto mark outside m = if outside == mark then m else pushed (flat.Cut outside) m

abbrev pub arm_onto : Guarding → ℕ → List Expr → Round → Option (List ℕ) → Made → Made
arm_onto g arm words round None m = m
arm_onto g arm words round (Some slots) m =
    pushed (flat.Jump (g.label + arm)) (moves_onto slots round.work (recut_onto round.mark g.mark (sets_onto round.work words m)))

abbrev pub guard_exit_onto : Option Guarding → ℕ → List Expr → Round → Made → Made
guard_exit_onto None arm words round m = m
guard_exit_onto (Some g) arm words round m = arm_onto g arm words round (slice_get g.slots arm) m

abbrev pub exit_onto : ℕ → ℕ → List Expr → Round → Made → Made
exit_onto inside arm words round m = guard_exit_onto (slice_get round.guards inside) arm words round m

-- Choices.

abbrev pub is_none : Stmts → Bool
is_none no_stmts = true
is_none (stmt_and s rest) = false

-- the label at which a list leaves its loop that does nothing else
abbrev pub end_uncut : Option ℕ → ℕ → Option ℕ
end_uncut None end = Some end
end_uncut (Some mark) end = None

abbrev pub end_of_turns : Option Turns → Option ℕ
end_of_turns None = None
end_of_turns (Some t) = end_uncut t.cut t.end

abbrev pub is_break : Stmt → Bool
is_break plain.break_loop = true
is_break _ = false

abbrev pub is_only_break : Stmts → Bool
is_only_break no_stmts = false
is_only_break (stmt_and s no_stmts) = is_break s
is_only_break (stmt_and s (stmt_and t rest)) = false

abbrev pub exit_of : Stmts → Option Turns → Option ℕ
exit_of list turns = if is_only_break list then end_of_turns turns else None

-- here and below, what a list adds is an argument
abbrev pub unless_from : Option ℕ → Expr → Onto → Onto
unless_from None e other round m =
    pushed (flat.Label m.labels) (other round (pushed (flat.Branch e true m.labels) (labelled 1 m)))
unless_from (Some end) e other round m = pushed (flat.Branch e false end) m

abbrev pub choice_onto : Expr → Made → Made
choice_onto e m = pushed (flat.Branch e false m.labels) (labelled 1 m)

abbrev pub end_of : Bool → ℕ → Made → ℕ
end_of true otherwise m = otherwise
end_of false otherwise m = m.labels

abbrev pub other_onto : Bool → ℕ → Made → Made
other_onto true otherwise m = m
other_onto false otherwise m = pushed (flat.Label otherwise) (pushed (flat.Jump m.labels) (labelled 1 m))

abbrev pub either_onto : Bool → Expr → Onto → Onto → Onto
either_onto no_other e first other round m =
    let done = first round (choice_onto e m) in
    pushed (flat.Label (end_of no_other m.labels done)) (other round (other_onto no_other m.labels done))

abbrev pub if_onto : Bool → Stmts → Expr → Onto → Onto → Onto
if_onto true rest e first other round m = unless_from (exit_of rest round.turns) e other round m
if_onto false rest e first other round m = either_onto (is_none rest) e first other round m

-- Loops.

abbrev pub in_loop : ℕ → Round → Round
in_loop next round = record round { turns = Some (record { next = next; end = next + 1; cut = None }) }

abbrev pub turns_onto : Onto → Onto
turns_onto body round m =
    pushed (flat.Label (m.labels + 1)) (pushed (flat.Jump m.labels) (body (in_loop m.labels round) (pushed (flat.Label m.labels) (labelled 2 m))))

abbrev pub turns_begun : Expr → List Expr → List ℕ → Onto
turns_begun routine arguments items round m =
    results_onto 0 items (pushed (flat.Take round.work) (pushed (flat.Jump (m.labels + 1)) (invoke_onto routine arguments (round.work + 1) (labelled 2 m))))

-- the loop whose labels are these, round its body
abbrev pub in_turns : Turns → Round → Round
in_turns turns round = record round { work = round.work + 1; turns = Some turns; mark = round.work + FOOT }

abbrev pub turns_ended : Onto → Turns → Onto
turns_ended body turns round m =
    pushed (flat.Label turns.end) (pushed (flat.Resume round.work) (pushed (flat.Label turns.next) (body (in_turns turns round) m)))

abbrev pub turns_at : ℕ → ℕ → Turns
turns_at next mark = record { next = next; end = next + 1; cut = Some mark }

abbrev pub iterate_onto : Expr → List Expr → List ℕ → Onto → Onto
iterate_onto routine arguments items body round m = turns_ended body (turns_at m.labels round.mark) round (turns_begun routine arguments items round m)

-- Guards.

abbrev pub in_guard : Guarding → ℕ → Round → Round
in_guard g region round = record round { guards = g ∷ round.guards; region = Some region }

abbrev pub in_region : ℕ → Round → Round
in_region region round = record round { region = Some region }

abbrev pub guarded_onto : Onto → Guarding → ℕ → ℕ → Onto
guarded_onto body g region end round m = closed region end (body (in_guard g region round) m)

abbrev pub begun_by : Bool → List ℕ → ℕ → ℕ → Made → Made
begun_by true slots region mark m = taken_onto slots (armed region mark [] m)
begun_by false slots region mark m = results_onto 0 slots m

abbrev pub arm_begun : List (List ℕ) → Bool → List ℕ → ℕ → ℕ → Made → Made
arm_begun names others slots region mark m = begun_by others slots region mark (named_onto region mark names m)

abbrev pub slots_of : Arms → List (List ℕ)
slots_of no_arms = []
slots_of (arm_and names others slots body more) = slots ∷ slots_of more

abbrev pub guard_at : List (List ℕ) → ℕ → ℕ → Guarding
guard_at slots label mark = record { slots = slots; label = label; mark = mark }

-- what the list and the arms of a guard with arms of these slots add
abbrev pub guard_onto : List (List ℕ) → Onto → (ℕ → ℕ → ℕ → Onto) → Onto
guard_onto slots body arms round m =
    arms m.labels (m.labels + length slots) (length m.regions) round
    (guarded_onto body (guard_at slots m.labels round.mark) (length m.regions) (m.labels + length slots) round
    (opened round.region (labelled 1 (labelled (length slots) m))))

abbrev pub arm_onto_one : List (List ℕ) → Bool → List ℕ → Onto → ℕ → ℕ → ℕ → Onto
arm_onto_one names others slots body label end region round m =
    pushed (flat.Jump end) (body round (pushed (flat.Label label) (arm_begun names others slots region round.mark m)))

abbrev pub pass_onto : List (List ℕ) → ℕ → ℕ → Made → Made
pass_onto names region mark m = pushed flat.Pass (named_onto region mark names m)

abbrev pub resignal_onto : Onto → List (List ℕ) → Onto
resignal_onto body names round m =
    pushed (flat.Label m.labels) (pass_onto names (length m.regions) round.mark
    (closed (length m.regions) m.labels (body (in_region (length m.regions) round) (opened round.region (labelled 1 m)))))

-- Statements.

unfoldable mutual
  pub onto : Stmt → Onto
  onto (plain.set to e) round m = pushed (flat.Set to e) m
  onto (plain.put address bytes e) round m = pushed (flat.Put address (pos bytes) e) m
  onto (plain.call routine es results) round m = call_onto routine es results round.work m
  onto (plain.prim number es results) round m = primitive_onto number es results round.work m
  onto (plain.bind number e to) round m = pushed (flat.Bind number e to) m
  onto (plain.choose e first other) round m = if_onto (is_none first) other e (all_onto first) (all_onto other) round m
  onto (plain.loop body) round m = turns_onto (all_onto body) round m
  onto plain.break_loop round m = break_onto round.turns m
  onto plain.next_turn round m = continue_onto round.turns m
  onto (plain.iterate routine es items body) round m = iterate_onto routine es items (all_onto body) round m
  onto (plain.yield_words es) round m = yield_onto es round.work m
  onto (plain.raise_name name es) round m = raise_onto (name_of round.constants name) es round.work m
  onto (plain.signal_name name es) round m = signal_onto (name_of round.constants name) es round.work m
  onto (plain.exit_to inside arm es) round m = exit_onto inside arm es round m
  onto (plain.guard body arms) round m = guard_onto (slots_of arms) (all_onto body) (arms_onto arms) round m
  onto (plain.resignal body names) round m = resignal_onto (all_onto body) names round m
  onto (plain.leave_with es) round m = leave_onto es round.work m

  pub all_onto : Stmts → Onto
  all_onto no_stmts round m = m
  all_onto (stmt_and s rest) round m = all_onto rest round (onto s round m)

  pub arms_onto : Arms → ℕ → ℕ → ℕ → Onto
  arms_onto no_arms label end region round m = pushed (flat.Label end) m
  arms_onto (arm_and names others slots body more) label end region round m =
      arms_onto more (label + 1) end region round (arm_onto_one names others slots (all_onto body) label end region round m)

-- What stands round a statement in the code.

abbrev pub slots_in : OneArm → List ℕ
slots_in arm = arm.slots

abbrev pub guarding_of : Guard → Guarding
guarding_of g = guard_at (map slots_in (map arm_of g.arms.now)) g.label g.mark

abbrev pub or_none : Option (List Guard) → List Guard
or_none None = []
or_none (Some gs) = gs

abbrev pub guards_step : Guards-F (List Guard) → List Guard
guards_step g = g.guard ∷ or_none (option_copied g.outside)

abbrev pub all_guards : Guards → List Guard
all_guards = fold-Guards (List Guard) guards_step

abbrev pub guards_of : Surroundings → List Guard
guards_of s = or_none (option_map all_guards (option_copied s.guards))

abbrev pub round_of : Surroundings → Round
round_of s = record { constants = s.constants.now; work = s.work; turns = s.turns; guards = map guarding_of (guards_of s); mark = s.mark; region = s.region }

-- A routine.

abbrev pub outermost : List ObjConst → ℕ → Round
outermost constants slots = record { constants = constants; work = slots; turns = None; guards = []; mark = OUTER_MARK; region = None }

abbrev pub begun : ℕ → Made
begun args = record { code = flat.Enter args ∷ []; labels = 0; regions = [] }

abbrev pub routine_onto : List ObjConst → Stmts → ℕ → ℕ → Made
routine_onto constants body args slots = pushed (flat.Leave slots 0) (all_onto body (outermost constants slots) (begun args))

abbrev pub made_by : WRoutine → Made
made_by r = routine_onto r.constants.items (body_of r.body.items) r.args r.slots

-- the steps of a routine
abbrev pub steps_of : WRoutine → List Step
steps_of r = (made_by r).code

-- its regions
abbrev pub regions_of : WRoutine → List Added
regions_of r = (made_by r).regions
