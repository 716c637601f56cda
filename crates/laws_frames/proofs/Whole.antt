-- Each list of statements does in flat code what it means, by induction along the statements.
use Rattle.std.proofs.Common.{◌≡◌, ◌∙◌, ◌⊎◌, inl, inr, ℕ, suc, ◌+◌, ◌<◌, ◌≤◌, true, false, List, length, Option, Some, None, slice_get, refl, ap, sym, subst}
use Rattle.clu_frames.specs.Plain.{Step}
use Rattle.clu_frames.specs.Plain as flat
use Rattle.clu_frames.specs.declared.surroundings.Turns.{Turns}
use Rattle.clu_frames.specs.Flattening.{Guarding, Made, Onto, Round, all_onto, arm_begun, arm_onto, arms_onto, break_onto, choice_onto, closed, continue_onto, end_of_turns, end_uncut, exit_of, first_of_row, guard_at, guard_exit_onto, in_guard, in_loop, in_region, in_turns, is_none, labelled, name_of, onto, opened, other_onto, pushed, row_sets, row_slot, sets_onto, slots_of, turns_at, turns_begun, unless_from}
use Rattle.clu_wir.specs.Plain.{Arms, Expr, Stmt, Stmts, arm_and, no_arms, no_stmts, stmt_and}
use Rattle.clu_wir.specs.Plain as plain
use Rattle.clu_word_meaning.specs.Words.{Body, Computation, Entry, at_start, broken, chosen, continued, counted, counted_twice, either, ends, exec, exec_all, exited, gives, valued, values, with_state}
use Rattle.clu_flat_meaning.proofs.Runs.{Front, Once}
use Rattle.laws_frames.proofs.Relation.{Fit, Home, Laws, Outcome, Place, laws_at}
use Rattle.laws_frames.proofs.Simple.{set_runs}
use Rattle.laws_frames.proofs.Control.{DoesAt, DoesNext, and_runs, loop_runs, none_runs, turn_runs}
use Rattle.laws_frames.proofs.Rows.{AllGood, Homes, Wide, break_runs, continue_runs}
use Rattle.laws_frames.proofs.Choosing.{both_run, exit_runs, when_runs}
use Rattle.laws_frames.proofs.Entering.{BodyOk, EntryOk}
use Rattle.laws_frames.proofs.Iterating.{AllBelow}
use Rattle.laws_frames.proofs.Yielding.{context_of}
use Rattle.laws_frames.proofs.Fronts.{count_of, front_all}
use Rattle.laws_frames.proofs.Guarding.{ArmsDo, SeekLaw, arm_done}
use Rattle.laws_frames.proofs.Acting.{bind_runs, prim_runs, put_runs}
use Rattle.laws_frames.proofs.Exiting.{PassLaw, exit_at, resignal_runs}
use Rattle.laws_frames.proofs.Each.{Named, call_by, fit_in_guard, fit_in_loop, fit_in_turns, guard_body, guard_by, iterate_by, leave_by, raise_by, signal_by, unless_by, yield_by}

module _ (p : Place) (Good : Expr → Type 0) (laws : Laws p Good) (once : Once p.shape.code) (entries : ℕ → Entry) (entry_ok : (w : ℕ) → EntryOk p.image w (entries w)) (yielded : Body) (yielded_ok : BodyOk p.image (context_of p) yielded) where
  abbrev code2 : List Step
  code2 = p.shape.code

  abbrev at : ℕ → Laws p Good
  at live = laws_at p laws live

  -- a list that only leaves a loop, with nothing to cut
  pub record Leaving (list : Stmts) (turns : Option Turns) : Type 0 where
    pub only : list ≡ stmt_and plain.break_loop no_stmts
    pub loop : Turns
    pub is : turns ≡ Some loop
    pub uncut : loop.cut ≡ None

  abbrev only : ℕ → Computation (Unit {0})
  only live = exec_all p.linked entries yielded live (stmt_and plain.break_loop no_stmts)

  abbrev list : Onto
  list = all_onto (stmt_and plain.break_loop no_stmts)

  leaving_by : (live : ℕ) (other : Stmts) (e : Expr) (round : Round) (m : Made) → Good e → Home p round.region (length m.code) → Leaving other round.turns →
      DoesNext p Good (at live) once round m (valued p.linked entries e (λ w. chosen w (exec_all p.linked entries yielded live other) (gives tt))) (λ r m. unless_from (exit_of other round.turns) e (all_onto other) r m)
  unfolding exec_all exec either
  leaving_by live other e round m good home k =
      subst (λ o. DoesNext p Good (at live) once round m (valued p.linked entries e (λ w. chosen w (exec_all p.linked entries yielded live o) (gives tt))) (λ r m. unless_from (exit_of o round.turns) e (all_onto o) r m)) (sym k.only)
      (subst (λ (o : Option Turns). DoesNext p Good (at live) once round m (valued p.linked entries e (λ w. chosen w (only live) (gives tt))) (λ r m. unless_from (end_of_turns o) e list r m)) (sym k.is)
      (subst (λ (o : Option ℕ). DoesNext p Good (at live) once round m (valued p.linked entries e (λ w. chosen w (only live) (gives tt))) (λ r m. unless_from (end_uncut o k.loop.end) e list r m)) (sym k.uncut)
      (exit_runs p Good (at live) once entries round m e k.loop k.is k.uncut good home)))

  none_by : (live : ℕ) (other : Stmts) (e : Expr) (round : Round) (m : Made) → Fit p round → Good e → Home p round.region (length m.code) → (K : Type 0) →
      (K → DoesAt p Good (at live) once round (pushed (flat.Branch e true m.labels) (labelled 1 m)) (exec_all p.linked entries yielded live other) (all_onto other)) →
      ((exit_of other round.turns ≡ None) × K) ⊎ Leaving other round.turns →
      DoesNext p Good (at live) once round m (valued p.linked entries e (λ w. chosen w (exec_all p.linked entries yielded live other) (gives tt))) (λ r m. unless_from (exit_of other round.turns) e (all_onto other) r m)
  none_by live other e round m fit good home K does (inl k) =
      unless_by p Good (at live) once entries entry_ok yielded yielded_ok (exit_of other round.turns) k.0 e (exec_all p.linked entries yielded live other) (all_onto other) round m good fit (front_all other) home (does k.1)
  none_by live other e round m fit good home K does (inr k) = leaving_by live other e round m good home k

  -- What is asked of statements where they stand, and of the regions there

  abbrev mutual
    pub Ok : Stmt → Round → Made → Type 0
    Ok (plain.set n e) round m = (n < p.base) × Good e × Home p round.region (length m.code)
    Ok (plain.put address bytes e) round m = Good address × Good e × Home p round.region (length m.code)
    Ok (plain.call routine es results) round m = Good routine × AllGood p Good es × AllBelow p.base results × Wide p (first_of_row es) (round.work + length es)
        × Homes p round.region (length m.code) (length (pushed (flat.Invoke routine (row_slot round.work (first_of_row es))) (row_sets round.work es (first_of_row es) m)).code)
    Ok (plain.prim number es results) round m = AllGood p Good es × AllBelow p.base results × (round.work + length es ≤ p.shape.frame) × (round.work + length results ≤ p.shape.frame) × Homes p round.region (length m.code) (length (sets_onto round.work es m).code)
    Ok (plain.bind number e to) round m = Good number × Good e × (to < p.base) × Home p round.region (length m.code)
    Ok (plain.choose e first other) round m = Good e × Home p round.region (length m.code)
        × (is_none first ≡ true → ((exit_of other round.turns ≡ None) × OkAll other round (pushed (flat.Branch e true m.labels) (labelled 1 m))) ⊎ Leaving other round.turns)
        × (is_none first ≡ false → OkAll first round (choice_onto e m) × OkAll other round (other_onto (is_none other) m.labels (all_onto first round (choice_onto e m))))
    Ok (plain.loop body) round m = OkAll body (in_loop m.labels round) (pushed (flat.Label m.labels) (labelled 2 m))
    Ok plain.break_loop round m = (t : Turns) × (round.turns ≡ Some t)
    Ok plain.next_turn round m = (t : Turns) × (round.turns ≡ Some t)
    Ok (plain.iterate routine es items body) round m = Good routine × AllGood p Good es × AllBelow p.base items × Wide p (first_of_row es) (round.work + 1 + length es) × (round.work + 1 ≤ p.shape.frame)
        × Homes p round.region (length m.code) (length (pushed (flat.Invoke routine (row_slot (round.work + 1) (first_of_row es))) (row_sets (round.work + 1) es (first_of_row es) (labelled 2 m))).code)
        × OkAll body (in_turns (turns_at m.labels round.mark) round) (turns_begun routine es items round m)
    Ok (plain.yield_words es) round m = AllGood p Good es × Wide p (first_of_row es) (round.work + length es) × Homes p round.region (length m.code) (length (row_sets round.work es (first_of_row es) m).code)
    Ok (plain.leave_with es) round m = AllGood p Good es × Wide p (first_of_row es) (round.work + length es) × Homes p round.region (length m.code) (length (row_sets round.work es (first_of_row es) m).code)
    Ok (plain.raise_name name es) round m = Named p (name_of round.constants name) name × AllGood p Good es × (round.work + 1 + length es ≤ p.shape.frame)
        × Homes p round.region (length m.code) (length (pushed (flat.Raise round.work) (sets_onto (round.work + 1) es (pushed (flat.Set round.work (name_of round.constants name)) m))).code)
    Ok (plain.signal_name name es) round m = Named p (name_of round.constants name) name × AllGood p Good es × (round.work + 1 + length es ≤ p.shape.frame)
        × Homes p round.region (length m.code) (length (pushed (flat.Signal round.work) (sets_onto (round.work + 1) es (pushed (flat.Set round.work (name_of round.constants name)) m))).code)
    Ok (plain.exit_to inside arm es) round m = (g : Guarding) × (slots : List ℕ) × (slice_get round.guards inside ≡ Some g) × (slice_get g.slots arm ≡ Some slots) × AllBelow p.base slots × AllGood p Good es × (round.work + length es ≤ p.shape.frame)
        × Homes p round.region (length m.code) (length (sets_onto round.work es m).code)
    Ok (plain.guard body arms) round m =
        ((live : ℕ) → SeekLaw p Good (at live) once entries yielded arms m.labels (m.labels + count_of arms) (length m.regions) round (guard_body p body arms round m))
        × OkAll body (in_guard (guard_at (slots_of arms) m.labels round.mark) (length m.regions) round) (opened round.region (labelled 1 (labelled (count_of arms) m)))
        × OkArms arms m.labels (m.labels + count_of arms) (length m.regions) round (guard_body p body arms round m)
    Ok (plain.resignal body names) round m =
        ((live : ℕ) → PassLaw p Good (at live) once entries yielded names (length m.regions) (length (closed (length m.regions) m.labels (all_onto body (in_region (length m.regions) round) (opened round.region (labelled 1 m)))).code) round)
        × OkAll body (in_region (length m.regions) round) (opened round.region (labelled 1 m))

    pub OkAll : Stmts → Round → Made → Type 0
    OkAll no_stmts round m = Unit {0}
    OkAll (stmt_and s rest) round m = Ok s round m × OkAll rest round (onto s round m)

    pub OkArms : Arms → ℕ → ℕ → ℕ → Round → Made → Type 0
    OkArms no_arms label end region round m = Unit {0}
    OkArms (arm_and names others slots body more) label end region round m =
        AllBelow p.base slots × OkAll body round (pushed (flat.Label label) (arm_begun names others slots region round.mark m)) × OkArms more (label + 1) end region round (arm_done names others slots body label end region round m)

  fit_in_region : (region : ℕ) (round : Round) → Fit p round → Fit p (in_region region round)
  fit_in_region region round f = record { work = f.work; mark = f.mark; turns = f.turns; guards = f.guards }

  -- an exit, where its guard and its arm are there
  exits : (live inside arm : ℕ) (es : List Expr) (round : Round) (m : Made) → Fit p round → (g : Guarding) (slots : List ℕ) (is : slice_get round.guards inside ≡ Some g) (has : slice_get g.slots arm ≡ Some slots) → AllBelow p.base slots → AllGood p Good es →
      round.work + length es ≤ p.shape.frame → Homes p round.region (length m.code) (length (sets_onto round.work es m).code) →
      DoesNext p Good (at live) once round m (values p.linked entries es (λ ws. with_state (counted (suc (suc (length ws)))) (ends (exited inside arm ws)))) (λ r m. guard_exit_onto (slice_get round.guards inside) arm es r m)
  exits live inside arm es round m fit g slots is has own goods wide homes t st c front s =
      let at_arm : Made = arm_onto g arm es round (Some slots) m in
      let same : guard_exit_onto (slice_get round.guards inside) arm es round m ≡ at_arm = ap (λ o. guard_exit_onto o arm es round m) is ∙ ap (λ o. arm_onto g arm es round o m) has in
      subst (λ (x : Made). Front x.code code2 → Outcome p round (length x.code) c.top c.stack c (values p.linked entries es (λ ws. with_state (counted (suc (suc (length ws)))) (ends (exited inside arm ws))) t st)) (sym same)
      (λ f. exit_at p Good (at live) once entries yielded g slots inside arm es round m fit is has own goods wide homes t st c f s) front

  -- The induction

  mutual
    unfolding exec exec_all onto all_onto arms_onto either

    pub does : (live : ℕ) (s : Stmt) (round : Round) (m : Made) → Fit p round → Ok s round m → DoesAt p Good (at live) once round m (at_start s (exec p.linked entries yielded live s)) (onto s)
    does live (plain.set n e) round m fit ok =
        turn_runs p Good (at live) once round m (exec p.linked entries yielded live (plain.set n e)) (onto (plain.set n e)) (λ t st c front s.
        set_runs p Good (at live) once entries n e round m t st c ok.0 ok.1 ok.2 fit front s)
    does live (plain.call routine es results) round m fit ok =
        turn_runs p Good (at live) once round m (exec p.linked entries yielded live (plain.call routine es results)) (onto (plain.call routine es results)) (λ t st c front s.
        call_by p Good (at live) once entries entry_ok yielded yielded_ok (first_of_row es) routine es results round m refl fit ok.0 ok.1 ok.2 ok.3 ok.4 t st c front s)
    does live (plain.choose e no_stmts other) round m fit ok =
        turn_runs p Good (at live) once round m (exec p.linked entries yielded live (plain.choose e no_stmts other)) (onto (plain.choose e no_stmts other)) (λ t st c front s.
        none_by live other e round m fit ok.0 ok.1 (OkAll other round (pushed (flat.Branch e true m.labels) (labelled 1 m))) (does_all live other round (pushed (flat.Branch e true m.labels) (labelled 1 m)) fit) (ok.2 refl) t st c front s)
    does live (plain.choose e (stmt_and x rest) no_stmts) round m fit ok =
        turn_runs p Good (at live) once round m (exec p.linked entries yielded live (plain.choose e (stmt_and x rest) no_stmts)) (onto (plain.choose e (stmt_and x rest) no_stmts)) (λ t st c front s.
        when_runs p Good (at live) once entries round m e (exec_all p.linked entries yielded live (stmt_and x rest)) (all_onto (stmt_and x rest)) ok.0 fit (front_all (stmt_and x rest)) ok.1
        (does_all live (stmt_and x rest) round (choice_onto e m) fit (ok.3 refl).0) t st c front s)
    does live (plain.choose e (stmt_and x rest) (stmt_and y more)) round m fit ok =
        turn_runs p Good (at live) once round m (exec p.linked entries yielded live (plain.choose e (stmt_and x rest) (stmt_and y more))) (onto (plain.choose e (stmt_and x rest) (stmt_and y more))) (λ t st c front s.
        both_run p Good (at live) once entries round m e (exec_all p.linked entries yielded live (stmt_and x rest)) (exec_all p.linked entries yielded live (stmt_and y more)) (all_onto (stmt_and x rest)) (all_onto (stmt_and y more))
        ok.0 fit (front_all (stmt_and x rest)) (front_all (stmt_and y more)) ok.1
        (does_all live (stmt_and x rest) round (choice_onto e m) fit (ok.3 refl).0)
        (does_all live (stmt_and y more) round (other_onto false m.labels (all_onto (stmt_and x rest) round (choice_onto e m))) fit (ok.3 refl).1) t st c front s)
    does live (plain.loop body) round m fit ok =
        turn_runs p Good (at live) once round m (exec p.linked entries yielded live (plain.loop body)) (onto (plain.loop body)) (λ t st c front s.
        loop_runs p Good (at live) once (exec_all p.linked entries yielded live body) (all_onto body) round m fit (front_all body)
        (does_all live body (in_loop m.labels round) (pushed (flat.Label m.labels) (labelled 2 m)) (fit_in_loop p Good (at live) once entries entry_ok yielded yielded_ok m.labels round fit) ok) (suc t) t st c front s)
    does live plain.break_loop round m fit ok =
        turn_runs p Good (at live) once round m (exec p.linked entries yielded live plain.break_loop) (onto plain.break_loop) (λ t st c front s.
        subst (λ o. Front (break_onto o m).code code2 → Outcome p round (length (break_onto o m).code) c.top c.stack c (with_state counted_twice (ends broken) t st)) (sym ok.1) (λ f. break_runs p Good (at live) once ok.0 round m ok.1 fit t st c f s) front)
    does live plain.next_turn round m fit ok =
        turn_runs p Good (at live) once round m (exec p.linked entries yielded live plain.next_turn) (onto plain.next_turn) (λ t st c front s.
        subst (λ o. Front (continue_onto o m).code code2 → Outcome p round (length (continue_onto o m).code) c.top c.stack c (with_state (counted 1) (ends continued) t st)) (sym ok.1) (λ f. continue_runs p Good (at live) once ok.0 round m ok.1 fit t st c f s) front)
    does live (plain.iterate routine es items body) round m fit ok =
        turn_runs p Good (at live) once round m (exec p.linked entries yielded live (plain.iterate routine es items body)) (onto (plain.iterate routine es items body)) (λ t st c front s.
        iterate_by p Good (at live) once entries entry_ok yielded yielded_ok (first_of_row es) routine es items (λ now. exec_all p.linked entries yielded now body) (all_onto body) round m refl fit ok.0 ok.1 ok.2 ok.3 ok.4 (front_all body) ok.5
        (λ now. does_all now body (in_turns (turns_at m.labels round.mark) round) (turns_begun routine es items round m) (fit_in_turns p Good (at live) once entries entry_ok yielded yielded_ok m.labels round fit) ok.6) t st c front s)
    does live (plain.yield_words es) round m fit ok =
        turn_runs p Good (at live) once round m (exec p.linked entries yielded live (plain.yield_words es)) (onto (plain.yield_words es)) (λ t st c front s.
        yield_by p Good (at live) once entries entry_ok yielded yielded_ok (first_of_row es) es round m refl fit ok.0 ok.1 ok.2 t st c front s)
    does live (plain.leave_with es) round m fit ok =
        turn_runs p Good (at live) once round m (exec p.linked entries yielded live (plain.leave_with es)) (onto (plain.leave_with es)) (λ t st c front s.
        leave_by p Good (at live) once entries entry_ok yielded yielded_ok (first_of_row es) es round m refl fit ok.0 ok.1 ok.2 t st c front s)
    does live (plain.raise_name name es) round m fit ok =
        turn_runs p Good (at live) once round m (exec p.linked entries yielded live (plain.raise_name name es)) (onto (plain.raise_name name es)) (λ t st c front s.
        raise_by p Good (at live) once entries entry_ok yielded yielded_ok (name_of round.constants name) name ok.0 es round m fit ok.1 ok.2 ok.3 t st c front s)
    does live (plain.signal_name name es) round m fit ok =
        turn_runs p Good (at live) once round m (exec p.linked entries yielded live (plain.signal_name name es)) (onto (plain.signal_name name es)) (λ t st c front s.
        signal_by p Good (at live) once entries entry_ok yielded yielded_ok (name_of round.constants name) name ok.0 es round m fit ok.1 ok.2 ok.3 t st c front s)
    does live (plain.guard body arms) round m fit ok = λ t st c front s.
        guard_by p Good (at live) once entries entry_ok yielded yielded_ok (exec_all p.linked entries yielded live body) arms body round m fit (ok.0 live) (does_arms live arms m.labels (m.labels + count_of arms) (length m.regions) round (guard_body p body arms round m) fit ok.2)
        (does_all live body (in_guard (guard_at (slots_of arms) m.labels round.mark) (length m.regions) round) (opened round.region (labelled 1 (labelled (count_of arms) m))) (fit_in_guard p Good (at live) once entries entry_ok yielded yielded_ok arms m.labels (length m.regions) round fit) ok.1) t st c front s
    does live (plain.put address bytes e) round m fit ok =
        turn_runs p Good (at live) once round m (exec p.linked entries yielded live (plain.put address bytes e)) (onto (plain.put address bytes e)) (λ t st c front s.
        put_runs p Good (at live) once entries address e bytes round m ok.0 ok.1 ok.2 t st c front s)
    does live (plain.prim number es results) round m fit ok =
        turn_runs p Good (at live) once round m (exec p.linked entries yielded live (plain.prim number es results)) (onto (plain.prim number es results)) (λ t st c front s.
        prim_runs p Good (at live) once entries number es results round m fit ok.0 ok.1 ok.2 ok.3 ok.4 t st c front s)
    does live (plain.bind number e to) round m fit ok =
        turn_runs p Good (at live) once round m (exec p.linked entries yielded live (plain.bind number e to)) (onto (plain.bind number e to)) (λ t st c front s.
        bind_runs p Good (at live) once entries number e to round m ok.0 ok.1 ok.2 ok.3 t st c front s)
    does live (plain.exit_to inside arm es) round m fit ok =
        turn_runs p Good (at live) once round m (exec p.linked entries yielded live (plain.exit_to inside arm es)) (onto (plain.exit_to inside arm es)) (λ t st c front s.
        exits live inside arm es round m fit ok.0 ok.1 ok.2 ok.3 ok.4 ok.5 ok.6 ok.7 t st c front s)
    does live (plain.resignal body names) round m fit ok = λ t st c front s.
        resignal_runs p Good (at live) once entries yielded names (all_onto body) (front_all body) round m fit (exec_all p.linked entries yielded live body) (ok.0 live)
        (does_all live body (in_region (length m.regions) round) (opened round.region (labelled 1 m)) (fit_in_region (length m.regions) round fit) ok.1) t st c front s

    pub does_all : (live : ℕ) (s : Stmts) (round : Round) (m : Made) → Fit p round → OkAll s round m → DoesAt p Good (at live) once round m (exec_all p.linked entries yielded live s) (all_onto s)
    does_all live no_stmts round m fit ok t st c front s = none_runs p Good (at live) once round m t st c s
    does_all live (stmt_and x rest) round m fit ok t st c front s =
        and_runs p Good (at live) once round m (at_start x (exec p.linked entries yielded live x)) (exec_all p.linked entries yielded live rest) (onto x) (all_onto rest) fit (front_all rest)
        (does live x round m fit ok.0) (does_all live rest round (onto x round m) fit ok.1) t st c front s

    pub does_arms : (live : ℕ) (arms : Arms) (label end region : ℕ) (round : Round) (m : Made) → Fit p round → OkArms arms label end region round m → ArmsDo p Good (at live) once entries yielded arms label end region round m
    does_arms live no_arms label end region round m fit ok = tt
    does_arms live (arm_and names others slots body more) label end region round m fit ok =
        (ok.0, does_all live body round (pushed (flat.Label label) (arm_begun names others slots region round.mark m)) fit ok.1, does_arms live more (label + 1) end region round (arm_done names others slots body label end region round m) fit ok.2)
