-- What the words of expressions do, wherever they stand in code.
use Rattle.std.specs.Prelude.{◌≡◌, ℕ, ◌^◌, ◌<◌, Bool, true, false, List, slice_get, Some}
use Rattle.clu_wir.specs.Plain.{Expr}
use Rattle.clu_wir.specs.declared.hole.HoleKind.{HoleKind}
use Rattle.clu_wir.specs.declared.trap.Trap.{Trap}
use Rattle.rv_machine.specs.State.{State}
use Rattle.rv_select.specs.declared.conditions.Target.{Target}
use Rattle.rv_select.specs.declared.operand.Scope.{Scope}
use Rattle.rv_select.specs.Evaluation.{at_of, jump_of, onto_of, part_of}
use Rattle.rv_select.specs.Written.{Written}
use Rattle.clu_wir.specs.Value.{View, meant}
use Rattle.clu_frames.specs.Plain.{Step}
use Rattle.clu_frames.specs.Plain as flat
use Rattle.clu_flat_meaning.specs.Image.{Body, Image}
use Rattle.clu_flat_meaning.specs.Machine.{Machine, running, stepped}
use Rattle.laws_selection.specs.Fitting.{Fits, Lawful}
use Rattle.laws_selection.specs.Holding.{Arrives, Held, Runs}
use Rattle.laws_selection.specs.Standing.{Standing}
use Rattle.laws_selection.specs.Sized.{is_sized}
use Rattle.laws_selection.specs.Running.{Code}
use Rattle.laws_selection.specs.Growing.{Front, Stands}
use Rattle.laws_selection.specs.Evaluating.{Bounded, Here, Outcome, Scoped, Traps, Turned}

-- where the words of an expression come next, the machine goes on behind them with its word, or is where its trap is raised
abbrev pub ExpressionsEvaluate : Type 0
ExpressionsEvaluate =
    (view : View) (code : Code) (base : ℕ) (all : Written) (hole : HoleKind → ℕ → ℕ) (trap_address : Trap → ℕ) → Stands all code base hole → Traps hole trap_address → Bounded view →
    (e : Expr) → is_sized e ≡ true → (scope : Scope) (bound : List ℕ) (before : Written) (s : State) → Scoped false scope bound s → Here view code base hole false before s → Front (onto_of (part_of e) scope before) all →
    Outcome view code base hole false trap_address scope.kept before (onto_of (part_of e) scope before) s (at_of (part_of e) scope) (meant view e bound)

-- the same of those of a jump on an expression: the machine is at the target, or behind them
abbrev pub ConditionsTurn : Type 0
ConditionsTurn =
    (view : View) (code : Code) (base : ℕ) (all : Written) (hole : HoleKind → ℕ → ℕ) (trap_address : Trap → ℕ) → Stands all code base hole → Traps hole trap_address → Bounded view →
    (e : Expr) → is_sized e ≡ true → (sense : Bool) (target : Target) (scope : Scope) (bound : List ℕ) (before : Written) (s : State) (place : ℕ) → Scoped false scope bound s → Here view code base hole false before s →
    Front (jump_of (part_of e) sense target scope before) all → slice_get all.labels target.label ≡ Some (Some place) → place < 2 ^ 32 →
    Turned view code base hole trap_address scope.kept before (jump_of (part_of e) sense target scope before) s sense place (meant view e bound)

-- the steps of which it is shown
abbrev pub is_followed : Step → Bool
is_followed (flat.Set to value) = true
is_followed (flat.Label label) = true
is_followed (flat.Jump label) = true
is_followed (flat.Branch condition sense label) = true
is_followed (flat.Take to) = true
is_followed (flat.Result to number) = true
is_followed (flat.Cut mark) = true
is_followed (flat.Enter arguments) = true
is_followed (flat.Leave slot count) = true
is_followed (flat.Raise slot) = true
is_followed (flat.Signal slot) = true
is_followed flat.Pass = true
is_followed (flat.Resume slot) = true
is_followed _ = false

-- where the words of a step of flat code come next, the machine comes to where flat code is after it, and holds what it sees
abbrev pub StepsFollow : Type 0
StepsFollow =
    (image : Image) (m : State) (standing : Standing image m) (c : Machine) (b : Body) → image.body c.who.body ≡ Some b → Fits b →
    Lawful image m standing c → c.mode ≡ running → (step : Step) → slice_get b.code c.pc ≡ Some step → is_followed step ≡ true →
    image.has_stack (stepped image c).top ≡ true → (s : State) → Held image m c s → Runs image c s →
    Arrives image m standing (stepped image c) s
