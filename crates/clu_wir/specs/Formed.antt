-- Word code that is well formed.
use Rattle.std.specs.Prelude.{ℕ, Bool, true, false, ◌&&◌, ◌==◌, List, [], ◌∷◌, length, map, Option, Some, None, is_some, option_map, slice_get}
use Rattle.std.specs.List.{list_all, position}
use Rattle.std.specs.Str.{bytes_eq}
use Rattle.std.specs.Option.{option_copied}
use Rattle.clu_base.specs.declared.constants.Const.TheVariants as constant
use Rattle.clu_base.specs.declared.constants.ObjConst.{ObjConst}
use Rattle.clu_base.specs.declared.constants.ObjConst.TheVariants as named
use Rattle.clu_wir.specs.Kept.{keeps_slots}
use Rattle.clu_wir.specs.declared.formed.Guards.{Guards, Guards-F, fold-Guards}
use Rattle.clu_wir.specs.declared.formed.Surroundings.{Surroundings}
use Rattle.clu_wir.specs.declared.statement.WStmt.{WStmt, WStmt-F, fold-WStmt}
use Rattle.clu_wir.specs.declared.statement.WArm.{WArm, WArm-F, fold-WArm}
use Rattle.clu_wir.specs.declared.routine.WRoutine.{WRoutine}

-- What stands round a statement: the constants of its routine, whether a loop does, and of each guard, from the innermost one
-- outward, the number of slots of each arm.

pub record Standing : Type 0 where
  pub constants : List ObjConst
  pub in_loop : Bool
  pub guards : List (List ℕ)

abbrev pub in_a_loop : Standing → Standing
in_a_loop s = record s { in_loop = true }

abbrev pub in_a_guard : List ℕ → Standing → Standing
in_a_guard arms s = record s { guards = arms ∷ s.guards }

-- Names.

abbrev pub is_text : List ℕ → ObjConst → Bool
is_text text (named.Value (constant.Str bytes)) = bytes_eq bytes text
is_text text _ = false

-- the number of the constant that is this string
unfoldable pub place_of : List ObjConst → List ℕ → Option ℕ
place_of constants text = position (is_text text) constants

abbrev pub is_named : List ℕ → Standing → Bool
is_named name s = is_some (place_of s.constants name)

-- Arms: whether one is there, with so many slots.

abbrev pub is_count : ℕ → Option ℕ → Bool
is_count count None = false
is_count count (Some slots) = slots == count

abbrev pub has_arm : ℕ → ℕ → Option (List ℕ) → Bool
has_arm arm count None = false
has_arm arm count (Some arms) = is_count count (slice_get arms arm)

-- Statements: each is a test of what stands round it.

abbrev pub Test : Type 0
Test = Standing → Bool

pub record ArmTest : Type 0 where
  pub slots : ℕ
  pub body : List Test

abbrev pub all_formed : List Test → Test
all_formed tests s = list_all (λ (test : Test). test s) tests

abbrev pub arms_formed : List ArmTest → Test
arms_formed arms s = list_all (λ (arm : ArmTest). all_formed arm.body s) arms

abbrev pub counts : List ArmTest → List ℕ
counts arms = map (λ (arm : ArmTest). arm.slots) arms

abbrev pub formed_step : WStmt-F Test ArmTest → Test
formed_step (WStmt-F.If condition then other) s = all_formed then.items s && all_formed other.items s
formed_step (WStmt-F.Loop body) s = all_formed body.items (in_a_loop s)
formed_step WStmt-F.Break s = s.in_loop
formed_step WStmt-F.Continue s = s.in_loop
formed_step (WStmt-F.Iterate routine values items body) s = all_formed body.items (in_a_loop s)
formed_step (WStmt-F.Raise name objects) s = is_named name s
formed_step (WStmt-F.Signal name objects) s = is_named name s
formed_step (WStmt-F.Exit inside arm words) s = has_arm arm (length words.items) (slice_get s.guards inside)
formed_step (WStmt-F.Guard body arms) s = all_formed body.items (in_a_guard (counts arms.items) s) && arms_formed arms.items s
formed_step (WStmt-F.Resignal body names) s = all_formed body.items s
formed_step _ s = true

abbrev pub arm_formed_step : WArm-F Test ArmTest → ArmTest
arm_formed_step arm = record { slots = length arm.slots.items; body = arm.body.items }

abbrev pub formed_of : WStmt → Test
formed_of = fold-WStmt Test ArmTest formed_step arm_formed_step

abbrev pub arm_formed_of : WArm → ArmTest
arm_formed_of = fold-WArm Test ArmTest formed_step arm_formed_step

-- What stands round a statement in the code.

abbrev pub counts_of : List WArm → List ℕ
counts_of arms = counts (map arm_formed_of arms)

abbrev pub or_none : Option (List (List ℕ)) → List (List ℕ)
or_none None = []
or_none (Some guards) = guards

abbrev pub guards_step : Guards-F (List (List ℕ)) → List (List ℕ)
guards_step guards = counts_of guards.arms.now ∷ or_none (option_copied guards.outside)

abbrev pub guards_of : Guards → List (List ℕ)
guards_of = fold-Guards (List (List ℕ)) guards_step

abbrev pub standing_of : Surroundings → Standing
standing_of s = record { constants = s.constants.now; in_loop = s.in_loop; guards = or_none (option_map guards_of (option_copied s.guards)) }

-- A routine.

-- round the body
abbrev pub begun_with : List ObjConst → Standing
begun_with constants = record { constants = constants; in_loop = false; guards = [] }

abbrev pub is_formed : WRoutine → Bool
is_formed r = keeps_slots r && all_formed (map formed_of r.body.items) (begun_with r.constants.items)
