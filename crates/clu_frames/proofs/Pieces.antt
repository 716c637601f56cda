-- What each statement adds that has none inside, and which labels are known in a statement.
use Rattle.std.proofs.Common.{◌≡◌, ◌⊎◌, inl, inr, ℕ, zero, suc, ◌+◌, ◌<◌, ◌≤◌, ◌==◌, List, [], ◌∷◌, length, Bool, true, false, Option, Some, None, slice_get, refl, sym, subst, ⊎_elim, arith}
use Rattle.std.specs.Prelude.{if◌then◌else◌}
use Rattle.std.proofs.lemmas.Option.{same_Some, slice_get_within}
use Rattle.clu_base.proofs.Lists.{none_is_not}
use Rattle.clu_wir.specs.Plain.{Expr}
use Rattle.clu_wir.specs.Plain as plain
use Rattle.clu_frames.specs.Plain as flat
use Rattle.clu_frames.specs.declared.surroundings.Turns.{Turns}
use Rattle.clu_frames.specs.Flattening.{Guarding, Made, Round, arm_begun, arm_onto, armed, begun_by, break_onto, call_onto, continue_onto, cut_onto, exception_onto, exit_onto, first_of_row, guard_exit_onto, leave_onto, moves_onto, named_onto, primitive_onto, pushed, raise_onto, recut_onto, results_onto, row_at, row_onto, row_sets, sets_onto, signal_onto, taken_onto, yield_onto}
use Rattle.clu_frames.proofs.Placing.{Coded, Still, coded_on, still_none, still_on, still_step}

-- Labels that are known in a statement: those that get their numbers in it, and those that what stands round it gives.

abbrev pub InTurns : Option Turns → ℕ → Type 0
InTurns None t = ⊥
InTurns (Some e) t = (t ≡ e.next) ⊎ (t ≡ e.end)

abbrev pub InGuard : Guarding → ℕ → Type 0
InGuard g t = (g.label ≤ t) × (t < g.label + length g.slots)

abbrev pub InGuards : List Guarding → ℕ → Type 0
InGuards [] t = ⊥
InGuards (g ∷ gs) t = InGuard g t ⊎ InGuards gs t

abbrev pub InRange : ℕ → ℕ → ℕ → Type 0
InRange low high t = (low ≤ t) × (t < high)

abbrev pub KnownBy : Option Turns → List Guarding → ℕ → ℕ → ℕ → Type 0
KnownBy turns guards low high t = InRange low high t ⊎ (InTurns turns t ⊎ InGuards guards t)

abbrev pub Known : Round → ℕ → ℕ → ℕ → Type 0
Known round low high t = KnownBy round.turns round.guards low high t

in_range : (low high low' high' t : ℕ) → low' ≤ low → high ≤ high' → InRange low high t → InRange low' high' t
in_range low high low' high' t l h r = (omega (arith, l, r.0), omega (arith, h, r.1))

pub known_wider : (round : Round) (low high low' high' : ℕ) → low' ≤ low → high ≤ high' → (t : ℕ) → Known round low high t → Known round low' high' t
known_wider round low high low' high' l h t k = ⊎_elim
    (λ (r : InRange low high t). inl (in_range low high low' high' t l h r))
    (λ (o : InTurns round.turns t ⊎ InGuards round.guards t). inr o)
    k

is_in_range : (n low high t : ℕ) → low ≤ n → n < high → t ≡ n → InRange low high t
is_in_range n low high t l h e = (omega (arith, l, e), omega (arith, h, e))

-- in a loop, whose labels get their numbers outside of its body
pub known_in_loop : (e : Turns) (outer : Option Turns) (gs : List Guarding) (low high low' high' : ℕ)
    → low' ≤ low → high ≤ high' → low' ≤ e.next → e.next < high' → low' ≤ e.end → e.end < high'
    → (t : ℕ) → KnownBy (Some e) gs low high t → KnownBy outer gs low' high' t
known_in_loop e outer gs low high low' high' l h nl nh el eh t k = ⊎_elim
    (λ (r : InRange low high t). inl (in_range low high low' high' t l h r))
    (λ (o : InTurns (Some e) t ⊎ InGuards gs t). ⊎_elim
    (λ (i : InTurns (Some e) t). ⊎_elim
    (λ (a : t ≡ e.next). inl (is_in_range e.next low' high' t nl nh a))
    (λ (b : t ≡ e.end). inl (is_in_range e.end low' high' t el eh b))
    i)
    (λ (g : InGuards gs t). inr (inr g))
    o)
    k

-- in the list of a guard, the labels of whose arms get their numbers outside of it
pub known_in_guard : (g : Guarding) (outer : Option Turns) (gs : List Guarding) (low high low' high' : ℕ)
    → low' ≤ low → high ≤ high' → low' ≤ g.label → g.label + length g.slots ≤ high'
    → (t : ℕ) → KnownBy outer (g ∷ gs) low high t → KnownBy outer gs low' high' t
known_in_guard g outer gs low high low' high' l h gl gh t k = ⊎_elim
    (λ (r : InRange low high t). inl (in_range low high low' high' t l h r))
    (λ (o : InTurns outer t ⊎ InGuards (g ∷ gs) t). ⊎_elim
    (λ (i : InTurns outer t). inr (inl i))
    (λ (i : InGuards (g ∷ gs) t). ⊎_elim
    (λ (here : InGuard g t). inl (in_range g.label (g.label + length g.slots) low' high' t gl gh here))
    (λ (out : InGuards gs t). inr (inr out))
    i)
    o)
    k

-- Items of lists.

in_guards : (gs : List Guarding) (i : ℕ) (g : Guarding) (t : ℕ) → slice_get gs i ≡ Some g → InGuard g t → InGuards gs t
in_guards [] i g t e h = none_is_not g e
in_guards (x ∷ gs) zero g t e h = inl (subst (λ (y : Guarding). InGuard y t) (sym (same_Some x g e)) h)
in_guards (x ∷ gs) (suc i) g t e h = inr (in_guards gs i g t e h)

-- Words in slots.

pub still_sets : (P : ℕ → Type 0) (to : ℕ) (values : List Expr) (m : Made) → Still P m (sets_onto to values m)
still_sets P to [] m = still_none P m
still_sets P to (value ∷ values) m =
    still_on (still_step P (flat.Set to value) m refl tt refl) (still_sets P (to + 1) values (pushed (flat.Set to value) m))

pub still_results : (P : ℕ → Type 0) (number : ℕ) (slots : List ℕ) (m : Made) → Still P m (results_onto number slots m)
still_results P number [] m = still_none P m
still_results P number (slot ∷ slots) m =
    still_on (still_step P (flat.Result slot number) m refl tt refl) (still_results P (number + 1) slots (pushed (flat.Result slot number) m))

pub still_taken : (P : ℕ → Type 0) (slots : List ℕ) (m : Made) → Still P m (taken_onto slots m)
still_taken P [] m = still_none P m
still_taken P (only ∷ []) m = still_step P (flat.Take only) m refl tt refl
still_taken P (first ∷ second ∷ rest) m = still_results P 0 (first ∷ second ∷ rest) m

pub still_moves : (P : ℕ → Type 0) (slots : List ℕ) (from : ℕ) (m : Made) → Still P m (moves_onto slots from m)
still_moves P [] from m = still_none P m
still_moves P (slot ∷ slots) from m =
    still_on (still_step P (flat.Set slot (plain.slot from)) m refl tt refl) (still_moves P slots (from + 1) (pushed (flat.Set slot (plain.slot from)) m))

still_row_sets : (P : ℕ → Type 0) (work : ℕ) (values : List Expr) (o : Option ℕ) (m : Made) → Still P m (row_sets work values o m)
still_row_sets P work values None m = still_sets P work values m
still_row_sets P work values (Some first) m = still_none P m

pub still_row : (P : ℕ → Type 0) (work : ℕ) (values : List Expr) (m : Made) → Still P m (row_onto work values m)
still_row P work values m = still_row_sets P work values (first_of_row values) m

-- Statements that have none inside.

pub still_call : (P : ℕ → Type 0) (routine : Expr) (arguments : List Expr) (results : List ℕ) (work : ℕ) (m : Made) → Still P m (call_onto routine arguments results work m)
still_call P routine arguments results work m =
    let row = row_onto work arguments m in
    still_on (still_row P work arguments m)
    (still_on (still_step P (flat.Invoke routine (row_at work arguments)) row refl tt refl)
    (still_taken P results (pushed (flat.Invoke routine (row_at work arguments)) row)))

pub still_primitive : (P : ℕ → Type 0) (number : ℕ) (arguments : List Expr) (results : List ℕ) (work : ℕ) (m : Made) → Still P m (primitive_onto number arguments results work m)
still_primitive P number arguments results work m =
    let row = sets_onto work arguments m in
    still_on (still_sets P work arguments m)
    (still_on (still_step P (flat.Prim number work) row refl tt refl) (still_moves P results work (pushed (flat.Prim number work) row)))

pub still_yield : (P : ℕ → Type 0) (words : List Expr) (work : ℕ) (m : Made) → Still P m (yield_onto words work m)
still_yield P words work m =
    still_on (still_row P work words m) (still_step P (flat.Yield (row_at work words) (length words)) (row_onto work words m) refl tt refl)

still_exception : (P : ℕ → Type 0) (name : Expr) (objects : List Expr) (work : ℕ) (m : Made) → Still P m (exception_onto name objects work m)
still_exception P name objects work m =
    still_on (still_step P (flat.Set work name) m refl tt refl) (still_sets P (work + 1) objects (pushed (flat.Set work name) m))

pub still_raise : (P : ℕ → Type 0) (name : Expr) (objects : List Expr) (work : ℕ) (m : Made) → Still P m (raise_onto name objects work m)
still_raise P name objects work m =
    still_on (still_exception P name objects work m) (still_step P (flat.Raise work) (exception_onto name objects work m) refl tt refl)

pub still_signal : (P : ℕ → Type 0) (name : Expr) (objects : List Expr) (work : ℕ) (m : Made) → Still P m (signal_onto name objects work m)
still_signal P name objects work m =
    still_on (still_exception P name objects work m) (still_step P (flat.Signal work) (exception_onto name objects work m) refl tt refl)

pub still_leave : (P : ℕ → Type 0) (results : List Expr) (work : ℕ) (m : Made) → Still P m (leave_onto results work m)
still_leave P results work m =
    still_on (still_row P work results m) (still_step P (flat.Leave (row_at work results) (length results)) (row_onto work results m) refl tt refl)

-- a region that gets an arm adds no step
coded_armed : {P : ℕ → Type 0} {m m' : Made} (region mark : ℕ) (name : List ℕ) → Coded P (armed region mark name m) m' → Coded P m m'
coded_armed region mark name s = record { adds = s.adds; labels = s.labels }

pub coded_still : {P : ℕ → Type 0} {m m' : Made} → Still P m m' → Coded P m m'
coded_still s = record { adds = s.adds; labels = s.labels }

pub coded_named : (P : ℕ → Type 0) (region mark : ℕ) (names : List (List ℕ)) (m : Made) → Coded P m (named_onto region mark names m)
coded_named P region mark [] m = coded_still (still_none P m)
coded_named P region mark (name ∷ names) m = coded_armed region mark name (coded_named P region mark names (armed region mark name m))

coded_begun_by : (P : ℕ → Type 0) (others : Bool) (slots : List ℕ) (region mark : ℕ) (m : Made) → Coded P m (begun_by others slots region mark m)
coded_begun_by P true slots region mark m = coded_armed region mark [] (coded_still (still_taken P slots (armed region mark [] m)))
coded_begun_by P false slots region mark m = coded_still (still_results P 0 slots m)

pub coded_begun : (P : ℕ → Type 0) (names : List (List ℕ)) (others : Bool) (slots : List ℕ) (region mark : ℕ) (m : Made) → Coded P m (arm_begun names others slots region mark m)
coded_begun P names others slots region mark m =
    coded_on (coded_named P region mark names m) (coded_begun_by P others slots region mark (named_onto region mark names m))

-- Statements that go on elsewhere.

still_cut : (P : ℕ → Type 0) (o : Option ℕ) (m : Made) → Still P m (cut_onto o m)
still_cut P None m = still_none P m
still_cut P (Some mark) m = still_step P (flat.Cut mark) m refl tt refl

pub still_break : (P : ℕ → Type 0) (o : Option Turns) (m : Made) → ((t : ℕ) → InTurns o t → P t) → Still P m (break_onto o m)
still_break P None m known = still_none P m
still_break P (Some e) m known =
    still_on (still_cut P e.cut m) (still_step P (flat.Jump e.end) (cut_onto e.cut m) refl (known e.end (inr refl)) refl)

pub still_continue : (P : ℕ → Type 0) (o : Option Turns) (m : Made) → ((t : ℕ) → InTurns o t → P t) → Still P m (continue_onto o m)
still_continue P None m known = still_none P m
still_continue P (Some e) m known = still_step P (flat.Jump e.next) m refl (known e.next (inl refl)) refl

still_cut_if : (P : ℕ → Type 0) (b : Bool) (outside : ℕ) (m : Made) → Still P m (if b then m else pushed (flat.Cut outside) m)
still_cut_if P true outside m = still_none P m
still_cut_if P false outside m = still_step P (flat.Cut outside) m refl tt refl

still_arm : (P : ℕ → Type 0) (g : Guarding) (arm : ℕ) (words : List Expr) (round : Round) (o : Option (List ℕ)) (m : Made)
    → slice_get g.slots arm ≡ o → ((t : ℕ) → InGuard g t → P t) → Still P m (arm_onto g arm words round o m)
still_arm P g arm words round None m e known = still_none P m
still_arm P g arm words round (Some slots) m e known =
    let within = slice_get_within g.slots arm slots e in
    let set = sets_onto round.work words m in
    let cut = recut_onto round.mark g.mark set in
    let moved = moves_onto slots round.work cut in
    let is : P (g.label + arm) = known (g.label + arm) (omega arith, omega (arith, within)) in
    still_on (still_sets P round.work words m)
    (still_on (still_cut_if P (g.mark == round.mark) g.mark set)
    (still_on (still_moves P slots round.work cut) (still_step P (flat.Jump (g.label + arm)) moved refl is refl)))

still_guard_exit : (P : ℕ → Type 0) (o : Option Guarding) (inside arm : ℕ) (words : List Expr) (round : Round) (m : Made)
    → slice_get round.guards inside ≡ o → ((t : ℕ) → InGuards round.guards t → P t) → Still P m (guard_exit_onto o arm words round m)
still_guard_exit P None inside arm words round m e known = still_none P m
still_guard_exit P (Some g) inside arm words round m e known =
    still_arm P g arm words round (slice_get g.slots arm) m refl (λ t h. known t (in_guards round.guards inside g t e h))

pub still_exit : (P : ℕ → Type 0) (inside arm : ℕ) (words : List Expr) (round : Round) (m : Made)
    → ((t : ℕ) → InGuards round.guards t → P t) → Still P m (exit_onto inside arm words round m)
still_exit P inside arm words round m known =
    still_guard_exit P (slice_get round.guards inside) inside arm words round m refl known
