-- Each statement leaves the regions that are there, and the regions that it adds lie in its own code.
use Rattle.std.proofs.Common.{ℕ, pos, ◌+◌, ◌<◌, ◌≤◌, Bool, true, false, List, [], ◌∷◌, length, Option, Some, None, refl, arith}
use Rattle.std.proofs.lemmas.List.{length-append}
use Rattle.std.proofs.lemmas.Option.{slice_get_within}
use Rattle.clu_wir.specs.Plain.{Arms, Expr, Stmt, Stmts, arm_and, no_arms, no_stmts, stmt_and}
use Rattle.clu_wir.specs.Plain as plain
use Rattle.clu_frames.specs.Plain.{Step}
use Rattle.clu_frames.specs.Plain as flat
use Rattle.clu_frames.specs.Flattening.{Made, Onto, Round, all_onto, arm_begun, arm_onto_one, arms_onto, choice_onto, closed, either_onto, end_of, exit_of, guard_at, if_onto, in_guard, in_loop, in_region, in_turns, is_none, iterate_onto, labelled, name_of, named_onto, onto, opened, other_onto, pushed, results_onto, row_at, row_onto, slots_of, turns_at, turns_onto, unless_from}
use Rattle.clu_frames.specs.Regions.{begun_at}
use Rattle.clu_frames.proofs.Pieces.{still_break, still_call, still_continue, still_exit, still_leave, still_primitive, still_raise, still_results, still_row, still_signal, still_yield}
use Rattle.clu_flat_meaning.proofs.Runs.{length_push}
use Rattle.laws_frames.proofs.Growing.{NoLabel, Grows, GrowsBy, Own, grows_all_then, grows_arm, grows_closed, grows_labelled, grows_named, grows_on, grows_opened, grows_push, grows_still, grows_then, own_arm, own_closed, own_kept, own_named}

abbrev pub Grow : Onto → Type 0
Grow o = (round : Round) (m : Made) → Grows m (o round m)

step : (s : Step) (m : Made) → Grows m (pushed s m)
step s m skip = grows_push s m

abbrev then : (a b c : Made) → Grows a b → Grows b c → Grows a c
then = grows_all_then

-- Choices.

unless_grows : (o : Option ℕ) (e : Expr) (other : Onto) → Grow other → Grow (unless_from o e other)
unless_grows (Some end) e other ok round m = step (flat.Branch e false end) m
unless_grows None e other ok round m =
    let m1 : Made = pushed (flat.Branch e true m.labels) (labelled 1 m) in
    then m m1 _ (λ skip. grows_labelled 1 m m1 (grows_push (flat.Branch e true m.labels) (labelled 1 m))) (then m1 (other round m1) _ (ok round m1) (step (flat.Label m.labels) (other round m1)))

other_grows : (b : Bool) (otherwise : ℕ) (m : Made) → Grows m (other_onto b otherwise m)
other_grows true otherwise m = λ skip. grows_on m m refl (omega arith)
other_grows false otherwise m =
    let m1 : Made = pushed (flat.Jump m.labels) (labelled 1 m) in
    then m m1 _ (λ skip. grows_labelled 1 m m1 (grows_push (flat.Jump m.labels) (labelled 1 m))) (step (flat.Label otherwise) m1)

either_grows : (none : Bool) (e : Expr) (first other : Onto) → Grow first → Grow other → Grow (either_onto none e first other)
either_grows none e first other okf oko round m =
    let m1 : Made = choice_onto e m in
    let m2 : Made = first round m1 in
    let m3 : Made = other_onto none m.labels m2 in
    let m4 : Made = other round m3 in
    then m m1 _ (λ skip. grows_labelled 1 m m1 (grows_push (flat.Branch e false m.labels) (labelled 1 m))) (then m1 m2 _ (okf round m1) (then m2 m3 _ (other_grows none m.labels m2)
    (then m3 m4 _ (oko round m3) (step (flat.Label (end_of none m.labels m2)) m4))))

if_grows : (b : Bool) (rest : Stmts) (e : Expr) (first other : Onto) → Grow first → Grow other → Grow (if_onto b rest e first other)
if_grows true rest e first other okf oko round m = unless_grows (exit_of rest round.turns) e other oko round m
if_grows false rest e first other okf oko round m = either_grows (is_none rest) e first other okf oko round m

-- Loops.

turns_grow : (body : Onto) → Grow body → Grow (turns_onto body)
turns_grow body ok round m =
    let m1 : Made = pushed (flat.Label m.labels) (labelled 2 m) in
    let m2 : Made = body (in_loop m.labels round) m1 in
    let m3 : Made = pushed (flat.Jump m.labels) m2 in
    then m m1 _ (λ skip. grows_labelled 2 m m1 (grows_push (flat.Label m.labels) (labelled 2 m))) (then m1 m2 _ (ok (in_loop m.labels round) m1) (then m2 m3 _ (step (flat.Jump m.labels) m2) (step (flat.Label (m.labels + 1)) m3)))

pub begun_grows : (routine : Expr) (arguments : List Expr) (items : List ℕ) (round : Round) (m : Made) →
    Grows m (results_onto 0 items (pushed (flat.Take round.work) (pushed (flat.Jump (m.labels + 1)) (pushed (flat.Invoke routine (row_at (round.work + 1) arguments)) (row_onto (round.work + 1) arguments (labelled 2 m))))))
begun_grows routine arguments items round m =
    let row : Made = row_onto (round.work + 1) arguments (labelled 2 m) in
    let m1 : Made = pushed (flat.Invoke routine (row_at (round.work + 1) arguments)) row in
    let m2 : Made = pushed (flat.Jump (m.labels + 1)) m1 in
    let m3 : Made = pushed (flat.Take round.work) m2 in
    then m row _ (λ skip. grows_labelled 2 m row (grows_still (labelled 2 m) row (still_row NoLabel (round.work + 1) arguments (labelled 2 m))))
    (then row m1 _ (step (flat.Invoke routine (row_at (round.work + 1) arguments)) row) (then m1 m2 _ (step (flat.Jump (m.labels + 1)) m1) (then m2 m3 _ (step (flat.Take round.work) m2) (λ skip. grows_still m3 _ (still_results NoLabel 0 items m3)))))

iterate_grows : (routine : Expr) (arguments : List Expr) (items : List ℕ) (body : Onto) → Grow body → Grow (iterate_onto routine arguments items body)
iterate_grows routine arguments items body ok round m =
    let e = turns_at m.labels round.mark in
    let m4 : Made = results_onto 0 items (pushed (flat.Take round.work) (pushed (flat.Jump (m.labels + 1)) (pushed (flat.Invoke routine (row_at (round.work + 1) arguments)) (row_onto (round.work + 1) arguments (labelled 2 m))))) in
    let m5 : Made = body (in_turns e round) m4 in
    let m6 : Made = pushed (flat.Label m.labels) m5 in
    let m7 : Made = pushed (flat.Resume round.work) m6 in
    then m m4 _ (begun_grows routine arguments items round m) (then m4 m5 _ (ok (in_turns e round) m4) (then m5 m6 _ (step (flat.Label m.labels) m5) (then m6 m7 _ (step (flat.Resume round.work) m6) (step (flat.Label (m.labels + 1)) m7))))

-- Regions.

-- the arms of a region, which is there
abbrev ArmsGrow : (ℕ → ℕ → ℕ → Onto) → Type 0
ArmsGrow arms = (label end region : ℕ) (round : Round) (m : Made) → region < length m.regions → GrowsBy region m (arms label end region round m)

abbrev ArmsOwn : (ℕ → ℕ → ℕ → Onto) → Type 0
ArmsOwn arms = (label end region first last : ℕ) (round : Round) (m : Made) → Own region first last m → Own region first last (arms label end region round m)

-- one arm
arm_grows : (names : List (List ℕ)) (others : Bool) (slots : List ℕ) (body : Onto) → Grow body → (label end region : ℕ) (round : Round) (m : Made) → region < length m.regions →
    GrowsBy region m (arm_onto_one names others slots body label end region round m)
arm_grows names others slots body ok label end region round m l =
    let m1 : Made = arm_begun names others slots region round.mark m in
    let m2 : Made = pushed (flat.Label label) m1 in
    let m3 : Made = body round m2 in
    let a = grows_arm names others slots region round.mark m l in
    grows_then m m1 _ l a (grows_all_then m1 m2 _ (step (flat.Label label) m1) (grows_all_then m2 m3 _ (ok round m2) (step (flat.Jump end) m3)) region)

arm_own : (names : List (List ℕ)) (others : Bool) (slots : List ℕ) (body : Onto) → Grow body → (label end region first last : ℕ) (round : Round) (m : Made) → Own region first last m →
    Own region first last (arm_onto_one names others slots body label end region round m)
arm_own names others slots body ok label end region first last round m o =
    let m1 : Made = arm_begun names others slots region round.mark m in
    let m2 : Made = pushed (flat.Label label) m1 in
    let m3 : Made = body round m2 in
    own_kept region first last m1 _ (own_arm names others slots region first last round.mark m o) (grows_all_then m1 m2 _ (step (flat.Label label) m1) (grows_all_then m2 m3 _ (ok round m2) (step (flat.Jump end) m3)))

-- A list with its region, and what comes after it.
guard_grows : (count : ℕ) (end : ℕ) (inside : Round) (body : Onto) (after : Round → Made → Made) → Grow body → (round : Round) (m : Made) →
    ((x : Made) → length m.regions < length x.regions → GrowsBy (length m.regions) x (after round x)) → ((first last : ℕ) (x : Made) → Own (length m.regions) first last x → Own (length m.regions) first last (after round x)) →
    Grows m (after round (closed (length m.regions) end (body inside (opened round.region (labelled count m)))))
guard_grows count end inside body after ok round m grow own =
    let n = length m.regions in
    let ml : Made = labelled count m in
    let m1 : Made = opened round.region ml in
    let m2 : Made = body inside m1 in
    let m3 : Made = closed n end m2 in
    let m4 : Made = after round m3 in
    let b : Grows m1 m2 = ok inside m1 in
    let o3 : Own n (length m.code) (length m2.code) m3 = own_closed round.region end ml m2 b in
    let o4 : Own n (length m.code) (length m2.code) m4 = own (length m.code) (length m2.code) m3 o3 in
    let there : n < length m1.regions = omega (arith, length-append m.regions (begun_at (length m.code) round.region ∷ [])) in
    let c : GrowsBy n m2 m3 = grows_closed n end m2 in
    let a : GrowsBy n m3 m4 = grow m3 (slice_get_within m3.regions n o3.region o3.is) in
    let all : GrowsBy n m1 m4 = grows_then m1 m2 m4 there (b n) (grows_then m2 m3 m4 (omega (arith, there, (b n).count)) c a) in
    let low : length m.code ≤ length m2.code = (b n).code in
    λ skip. grows_labelled count m m4 (grows_opened round.region ml m4 o4.region all o4.is (omega (arith, o4.begins)) (omega (arith, o4.ends, a.code, length_push m2.code (flat.Jump end))) skip)

-- Statements.

mutual
  unfolding onto all_onto arms_onto

  pub onto_grows : (s : Stmt) → Grow (onto s)
  onto_grows (plain.set to e) round m = step (flat.Set to e) m
  onto_grows (plain.put address bytes e) round m = step (flat.Put address (pos bytes) e) m
  onto_grows (plain.call routine es results) round m = λ skip. grows_still m _ (still_call NoLabel routine es results round.work m)
  onto_grows (plain.prim number es results) round m = λ skip. grows_still m _ (still_primitive NoLabel number es results round.work m)
  onto_grows (plain.bind number e to) round m = step (flat.Bind number e to) m
  onto_grows (plain.choose e first other) round m = if_grows (is_none first) other e (all_onto first) (all_onto other) (all_grow first) (all_grow other) round m
  onto_grows (plain.loop body) round m = turns_grow (all_onto body) (all_grow body) round m
  onto_grows plain.break_loop round m = λ skip. grows_still m _ (still_break NoLabel round.turns m (λ t h. tt))
  onto_grows plain.next_turn round m = λ skip. grows_still m _ (still_continue NoLabel round.turns m (λ t h. tt))
  onto_grows (plain.iterate routine es items body) round m = iterate_grows routine es items (all_onto body) (all_grow body) round m
  onto_grows (plain.yield_words es) round m = λ skip. grows_still m _ (still_yield NoLabel es round.work m)
  onto_grows (plain.raise_name name es) round m = λ skip. grows_still m _ (still_raise NoLabel (name_of round.constants name) es round.work m)
  onto_grows (plain.signal_name name es) round m = λ skip. grows_still m _ (still_signal NoLabel (name_of round.constants name) es round.work m)
  onto_grows (plain.exit_to inside arm es) round m = λ skip. grows_still m _ (still_exit NoLabel inside arm es round m (λ t h. tt))
  onto_grows (plain.guard body arms) round m =
      let n = length m.regions in
      let count = length (slots_of arms) in
      let end = m.labels + count in
      let ml : Made = labelled count m in
      λ skip.
      grows_labelled count m _ (guard_grows 1 end (in_guard (guard_at (slots_of arms) m.labels round.mark) n round) (all_onto body) (λ r x. arms_onto arms m.labels end n r x) (all_grow body) round ml
      (λ x l. arms_grow arms m.labels end n round x l) (λ first last x o. arms_own arms m.labels end n first last round x o) skip)
  onto_grows (plain.resignal body names) round m =
      let n = length m.regions in
      guard_grows 1 m.labels (in_region n round) (all_onto body) (λ r x. pushed (flat.Label m.labels) (pushed flat.Pass (named_onto n r.mark names x))) (all_grow body) round m
      (λ x l.
      let y = named_onto n round.mark names x in
      grows_then x y _ l (grows_named n round.mark names x l) (grows_all_then y (pushed flat.Pass y) _ (step flat.Pass y) (step (flat.Label m.labels) (pushed flat.Pass y)) n))
      (λ first last x o.
      let y = named_onto n round.mark names x in
      own_kept n first last y _ (own_named n first last round.mark names x o) (grows_all_then y (pushed flat.Pass y) _ (step flat.Pass y) (step (flat.Label m.labels) (pushed flat.Pass y))))
  onto_grows (plain.leave_with es) round m = λ skip. grows_still m _ (still_leave NoLabel es round.work m)

  pub all_grow : (ss : Stmts) → Grow (all_onto ss)
  all_grow no_stmts round m = λ skip. grows_on m m refl (omega arith)
  all_grow (stmt_and s rest) round m = grows_all_then m (onto s round m) _ (onto_grows s round m) (all_grow rest round (onto s round m))

  pub arms_grow : (arms : Arms) → ArmsGrow (arms_onto arms)
  arms_grow no_arms label end region round m l = grows_push (flat.Label end) m
  arms_grow (arm_and names others slots body more) label end region round m l =
      let a = arm_grows names others slots (all_onto body) (all_grow body) label end region round m l in
      let x = arm_onto_one names others slots (all_onto body) label end region round m in
      grows_then m x _ l a (arms_grow more (label + 1) end region round x (omega (arith, l, a.count)))

  pub arms_own : (arms : Arms) → ArmsOwn (arms_onto arms)
  arms_own no_arms label end region first last round m o = own_kept region first last m _ o (step (flat.Label end) m)
  arms_own (arm_and names others slots body more) label end region first last round m o =
      arms_own more (label + 1) end region first last round (arm_onto_one names others slots (all_onto body) label end region round m)
      (arm_own names others slots (all_onto body) (all_grow body) label end region first last round m o)
