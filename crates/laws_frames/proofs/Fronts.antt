-- What a statement adds comes after what is there.
use Rattle.std.proofs.Common.{ℕ, ◌+◌, ◌==◌, Bool, true, false, List, [], ◌∷◌, length, Option, Some, None, slice_get}
use Rattle.std.specs.Prelude.{if◌then◌else◌}
use Rattle.clu_frames.specs.Plain.{Step}
use Rattle.clu_frames.specs.Plain as flat
use Rattle.clu_frames.specs.declared.surroundings.Turns.{Turns}
use Rattle.clu_wir.specs.Plain.{Arms, Expr, Stmt, Stmts, arm_and, bind, break_loop, call, choose, exit_to, guard, iterate, leave_with, loop, next_turn, no_arms, no_stmts, prim, put, raise_name, resignal, set, signal_name, stmt_and, yield_words}
use Rattle.clu_wir.specs.Plain as plain
use Rattle.clu_frames.specs.Flattening.{Guarding, Made, Onto, Round, all_onto, arm_begun, arm_onto, armed, arms_onto, begun_by, break_onto, choice_onto, closed, continue_onto, cut_onto, exit_of, guard_at, guard_exit_onto, if_onto, in_guard, in_loop, in_region, in_turns, invoke_onto, is_none, labelled, moves_onto, name_of, named_onto, onto, opened, other_onto, pushed, recut_onto, results_onto, row_onto, row_sets, first_of_row, sets_onto, slots_of, taken_onto, turns_at, unless_from}
use Rattle.clu_flat_meaning.proofs.Runs.{Front, front_more, front_push, front_same}

abbrev pub count_of : Arms → ℕ
count_of arms = length (slots_of arms)

pub front_sets : (es : List Expr) (to : ℕ) (m : Made) → Front m.code (sets_onto to es m).code
front_sets [] to m = front_same m.code
front_sets (e ∷ es) to m = front_more _ _ _ (front_push m.code (flat.Set to e)) (front_sets es (to + 1) (pushed (flat.Set to e) m))

pub row_by : (work : ℕ) (es : List Expr) (o : Option ℕ) (m : Made) → Front m.code (row_sets work es o m).code
row_by work es None m = front_sets es work m
row_by work es (Some first) m = front_same m.code

pub front_row : (work : ℕ) (es : List Expr) (m : Made) → Front m.code (row_onto work es m).code
front_row work es m = row_by work es (first_of_row es) m

pub front_results : (n : ℕ) (slots : List ℕ) (m : Made) → Front m.code (results_onto n slots m).code
front_results n [] m = front_same m.code
front_results n (slot ∷ slots) m = front_more _ _ _ (front_push m.code (flat.Result slot n)) (front_results (n + 1) slots (pushed (flat.Result slot n) m))

pub front_taken : (slots : List ℕ) (m : Made) → Front m.code (taken_onto slots m).code
front_taken [] m = front_same m.code
front_taken (only ∷ []) m = front_push m.code (flat.Take only)
front_taken (first ∷ second ∷ rest) m = front_results 0 (first ∷ second ∷ rest) m

pub front_moves : (slots : List ℕ) (from : ℕ) (m : Made) → Front m.code (moves_onto slots from m).code
front_moves [] from m = front_same m.code
front_moves (slot ∷ slots) from m = front_more _ _ _ (front_push m.code (flat.Set slot (plain.slot from))) (front_moves slots (from + 1) (pushed (flat.Set slot (plain.slot from)) m))

pub front_named : (region mark : ℕ) (names : List (List ℕ)) (m : Made) → Front m.code (named_onto region mark names m).code
front_named region mark [] m = front_same m.code
front_named region mark (name ∷ names) m = front_named region mark names (armed region mark name m)

front_begun : (others : Bool) (slots : List ℕ) (region mark : ℕ) (m : Made) → Front m.code (begun_by others slots region mark m).code
front_begun true slots region mark m = front_taken slots (armed region mark [] m)
front_begun false slots region mark m = front_results 0 slots m

pub front_arm : (names : List (List ℕ)) (others : Bool) (slots : List ℕ) (region mark : ℕ) (m : Made) → Front m.code (arm_begun names others slots region mark m).code
front_arm names others slots region mark m = front_more _ _ _ (front_named region mark names m) (front_begun others slots region mark (named_onto region mark names m))

front_cut : (cut : Option ℕ) (m : Made) → Front m.code (cut_onto cut m).code
front_cut None m = front_same m.code
front_cut (Some mark) m = front_push m.code (flat.Cut mark)

front_break : (t : Option Turns) (m : Made) → Front m.code (break_onto t m).code
front_break None m = front_same m.code
front_break (Some t) m = front_more _ _ _ (front_cut t.cut m) (front_push (cut_onto t.cut m).code (flat.Jump t.end))

front_next : (t : Option Turns) (m : Made) → Front m.code (continue_onto t m).code
front_next None m = front_same m.code
front_next (Some t) m = front_push m.code (flat.Jump t.next)

pub front_recut : (b : Bool) (outside : ℕ) (m : Made) → Front m.code (if b then m else pushed (flat.Cut outside) m).code
front_recut true outside m = front_same m.code
front_recut false outside m = front_push m.code (flat.Cut outside)

front_exit_arm : (g : Guarding) (arm : ℕ) (es : List Expr) (round : Round) (o : Option (List ℕ)) (m : Made) → Front m.code (arm_onto g arm es round o m).code
front_exit_arm g arm es round None m = front_same m.code
front_exit_arm g arm es round (Some slots) m =
    let m1 = sets_onto round.work es m in
    let m2 = recut_onto round.mark g.mark m1 in
    let m3 = moves_onto slots round.work m2 in
    front_more _ _ _ (front_sets es round.work m) (front_more _ _ _ (front_recut (g.mark == round.mark) g.mark m1) (front_more _ _ _ (front_moves slots round.work m2) (front_push m3.code (flat.Jump (g.label + arm)))))

front_exit : (o : Option Guarding) (arm : ℕ) (es : List Expr) (round : Round) (m : Made) → Front m.code (guard_exit_onto o arm es round m).code
front_exit None arm es round m = front_same m.code
front_exit (Some g) arm es round m = front_exit_arm g arm es round (slice_get g.slots arm) m

front_unless : (o : Option ℕ) (e : Expr) (on : Onto) → ((round : Round) (m : Made) → Front m.code (on round m).code) → (round : Round) (m : Made) → Front m.code (unless_from o e on round m).code
front_unless None e on f round m =
    let m1 = pushed (flat.Branch e true m.labels) (labelled 1 m) in
    front_more _ _ _ (front_push m.code (flat.Branch e true m.labels)) (front_more _ _ _ (f round m1) (front_push (on round m1).code (flat.Label m.labels)))
front_unless (Some end) e on f round m = front_push m.code (flat.Branch e false end)

front_other : (b : Bool) (l : ℕ) (m : Made) → Front m.code (other_onto b l m).code
front_other true l m = front_same m.code
front_other false l m = front_more _ _ _ (front_push m.code (flat.Jump m.labels)) (front_push (pushed (flat.Jump m.labels) (labelled 1 m)).code (flat.Label l))

front_if : (b : Bool) (rest : Stmts) (e : Expr) (first other : Onto) → ((round : Round) (m : Made) → Front m.code (first round m).code) → ((round : Round) (m : Made) → Front m.code (other round m).code) →
    (round : Round) (m : Made) → Front m.code (if_onto b rest e first other round m).code
front_if true rest e first other f g round m = front_unless (exit_of rest round.turns) e other g round m
front_if false rest e first other f g round m =
    let m1 = choice_onto e m in
    let m2 = first round m1 in
    let m3 = other_onto (is_none rest) m.labels m2 in
    front_more _ _ _ (front_push m.code (flat.Branch e false m.labels)) (front_more _ _ _ (f round m1) (front_more _ _ _ (front_other (is_none rest) m.labels m2) (front_more _ _ _ (g round m3) (front_push (other round m3).code _))))

mutual
  unfolding onto all_onto arms_onto

  pub front_onto : (s : Stmt) (round : Round) (m : Made) → Front m.code (onto s round m).code
  front_onto (set slot e) round m = front_push m.code _
  front_onto (put address bytes e) round m = front_push m.code _
  front_onto (call routine es results) round m =
      let m1 = row_onto round.work es m in
      front_more _ _ _ (front_row round.work es m) (front_more _ _ _ (front_push m1.code _) (front_taken results (invoke_onto routine es round.work m)))
  front_onto (prim number es results) round m =
      let m1 = sets_onto round.work es m in
      front_more _ _ _ (front_sets es round.work m) (front_more _ _ _ (front_push m1.code _) (front_moves results round.work (pushed (flat.Prim number round.work) m1)))
  front_onto (bind number e slot) round m = front_push m.code _
  front_onto (choose e first other) round m = front_if (is_none first) other e (all_onto first) (all_onto other) (front_all first) (front_all other) round m
  front_onto (loop body) round m =
      let m1 = pushed (flat.Label m.labels) (labelled 2 m) in
      let m2 = all_onto body (in_loop m.labels round) m1 in
      front_more _ _ _ (front_push m.code _) (front_more _ _ _ (front_all body (in_loop m.labels round) m1) (front_more _ _ _ (front_push m2.code _) (front_push (pushed (flat.Jump m.labels) m2).code _)))
  front_onto break_loop round m = front_break round.turns m
  front_onto next_turn round m = front_next round.turns m
  front_onto (iterate routine es items body) round m =
      let m1 = row_onto (round.work + 1) es (labelled 2 m) in
      let m2 = invoke_onto routine es (round.work + 1) (labelled 2 m) in
      let m3 = pushed (flat.Jump (m.labels + 1)) m2 in
      let m4 = pushed (flat.Take round.work) m3 in
      let m5 = results_onto 0 items m4 in
      let turns = turns_at m.labels round.mark in
      let m6 = all_onto body (in_turns turns round) m5 in
      let m7 = pushed (flat.Label m.labels) m6 in
      let m8 = pushed (flat.Resume round.work) m7 in
      front_more _ _ _ (front_row (round.work + 1) es (labelled 2 m)) (front_more _ _ _ (front_push m1.code _) (front_more _ _ _ (front_push m2.code _) (front_more _ _ _ (front_push m3.code _)
      (front_more _ _ _ (front_results 0 items m4) (front_more _ _ _ (front_all body (in_turns turns round) m5) (front_more _ _ _ (front_push m6.code _) (front_more _ _ _ (front_push m7.code _) (front_push m8.code _))))))))
  front_onto (yield_words es) round m = front_more _ _ _ (front_row round.work es m) (front_push (row_onto round.work es m).code _)
  front_onto (raise_name name es) round m =
      let m1 = pushed (flat.Set round.work (name_of round.constants name)) m in
      front_more _ _ _ (front_push m.code _) (front_more _ _ _ (front_sets es (round.work + 1) m1) (front_push (sets_onto (round.work + 1) es m1).code _))
  front_onto (signal_name name es) round m =
      let m1 = pushed (flat.Set round.work (name_of round.constants name)) m in
      front_more _ _ _ (front_push m.code _) (front_more _ _ _ (front_sets es (round.work + 1) m1) (front_push (sets_onto (round.work + 1) es m1).code _))
  front_onto (exit_to inside arm es) round m = front_exit (slice_get round.guards inside) arm es round m
  front_onto (guard body arms) round m =
      let m1 = opened round.region (labelled 1 (labelled (count_of arms) m)) in
      let m2 = all_onto body (in_guard (guard_at (slots_of arms) m.labels round.mark) (length m.regions) round) m1 in
      let m3 = closed (length m.regions) (m.labels + count_of arms) m2 in
      front_more _ _ _ (front_all body (in_guard (guard_at (slots_of arms) m.labels round.mark) (length m.regions) round) m1) (front_more _ _ _ (front_push m2.code _) (front_arms arms m.labels (m.labels + count_of arms) (length m.regions) round m3))
  front_onto (resignal body names) round m =
      let m1 = opened round.region (labelled 1 m) in
      let m2 = all_onto body (in_region (length m.regions) round) m1 in
      let m3 = closed (length m.regions) m.labels m2 in
      let m4 = named_onto (length m.regions) round.mark names m3 in
      front_more _ _ _ (front_all body (in_region (length m.regions) round) m1) (front_more _ _ _ (front_push m2.code _) (front_more _ _ _ (front_named (length m.regions) round.mark names m3) (front_more _ _ _ (front_push m4.code _) (front_push (pushed flat.Pass m4).code _))))
  front_onto (leave_with es) round m = front_more _ _ _ (front_row round.work es m) (front_push (row_onto round.work es m).code _)

  pub front_all : (s : Stmts) (round : Round) (m : Made) → Front m.code (all_onto s round m).code
  front_all no_stmts round m = front_same m.code
  front_all (stmt_and s rest) round m = front_more _ _ _ (front_onto s round m) (front_all rest round (onto s round m))

  pub front_arms : (arms : Arms) (label end region : ℕ) (round : Round) (m : Made) → Front m.code (arms_onto arms label end region round m).code
  front_arms no_arms label end region round m = front_push m.code _
  front_arms (arm_and names others slots body more) label end region round m =
      let m1 = arm_begun names others slots region round.mark m in
      let m2 = pushed (flat.Label label) m1 in
      let m3 = all_onto body round m2 in
      front_more _ _ _ (front_arm names others slots region round.mark m) (front_more _ _ _ (front_push m1.code _) (front_more _ _ _ (front_all body round m2) (front_more _ _ _ (front_push m3.code _) (front_arms more (label + 1) end region round (pushed (flat.Jump end) m3)))))
