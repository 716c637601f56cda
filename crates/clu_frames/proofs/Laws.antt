-- What each statement adds to the steps.
use Rattle.std.proofs.Common.{◌≡◌, ◌⊎◌, ⊎_elim, inl, inr, pos, ℕ, suc, ◌+◌, ◌≤◌, ◌==◌, ◌&&◌, List, [], ◌∷◌, ◌++◌, length, Bool, true, false, Option, Some, None, refl, sym, ◌∙◌, ap, subst, arith, eq-eqb}
use Rattle.std.specs.Prelude.{if◌then◌else◌}
use Rattle.std.proofs.lemmas.Bool.{and_from, or_left}
use Rattle.std.proofs.lemmas.Option.{same_Some}
use Rattle.clu_base.proofs.Lists.{none_is_not}
use Rattle.clu_wir.specs.Plain.{Arms, Expr, Stmt, Stmts, arm_and, no_arms, no_stmts, stmt_and}
use Rattle.clu_wir.specs.Plain as plain
use Rattle.clu_frames.specs.Plain.{Step}
use Rattle.clu_frames.specs.Plain as flat
use Rattle.clu_frames.specs.declared.surroundings.Turns.{Turns}
use Rattle.clu_frames.specs.Flattening.{Guarding, Made, Onto, Round, all_onto, arm_begun, arm_onto_one, arms_onto, choice_onto, closed, either_onto, end_of, end_of_turns, end_uncut, exit_of, guard_at, guard_onto, if_onto, in_guard, in_loop, in_region, in_turns, is_none, is_only_break, iterate_onto, labelled, name_of, named_onto, onto, opened, other_onto, pushed, resignal_onto, results_onto, row_at, row_onto, slots_of, turns_at, turns_onto, unless_from}
use Rattle.clu_frames.specs.Labels.{has_loop}
use Rattle.clu_frames.proofs.Loops.{has_left, has_right}
use Rattle.clu_frames.proofs.Placing.{Adds, Coded, Grown, Still, adds_label, adds_more, adds_on, adds_resume, adds_step, below, below_next, grown_more, grown_on, grown_still, hit, no_label, still_none, still_step}
use Rattle.clu_frames.proofs.Pieces.{InTurns, Known, known_in_guard, known_in_loop, known_wider, coded_begun, coded_named, still_break, still_call, still_continue, still_exit, still_leave, still_primitive, still_raise, still_results, still_row, still_signal, still_yield}

abbrev pub LawAt : Onto → Round → Made → Type 0
LawAt onto round m = Grown (Known round m.labels (onto round m).labels) m (onto round m)

abbrev pub Lawful : Onto → Type 0
Lawful o = (round : Round) (m : Made) → LawAt o round m

then_law : (first other : Onto) → Lawful first → Lawful other → (round : Round) (m : Made) → LawAt (λ r x. other r (first r x)) round m
then_law first other f g round m =
    let m1 : Made = first round m in
    let m2 : Made = other round m1 in
    let a : LawAt first round m = f round m in
    let b : LawAt other round m1 = g round m1 in
    let Q = Known round m.labels m2.labels in
    grown_on
    (grown_more (Known round m.labels m1.labels) Q (known_wider round m.labels m1.labels m.labels m2.labels (omega arith) b.labels) a)
    (grown_more (Known round m1.labels m2.labels) Q (known_wider round m1.labels m2.labels m.labels m2.labels a.labels (omega arith)) b)

-- Choices.

uncut_in : (c : Option ℕ) (end t : ℕ) → end_uncut c end ≡ Some t → t ≡ end
uncut_in None end t e = sym (same_Some end t e)
uncut_in (Some mark) end t e = none_is_not t e

end_in : (o : Option Turns) (t : ℕ) → end_of_turns o ≡ Some t → InTurns o t
end_in None t e = none_is_not t e
end_in (Some r) t e = inr (uncut_in r.cut r.end t e)

exit_in : (b : Bool) (o : Option Turns) (t : ℕ) → (if b then end_of_turns o else None) ≡ Some t → InTurns o t
exit_in true o t e = end_in o t e
exit_in false o t e = none_is_not t e

unless_law : (o : Option ℕ) (e : Expr) (other : Onto) → Lawful other → (round : Round) (m : Made)
    → ((t : ℕ) → o ≡ Some t → InTurns round.turns t) → LawAt (unless_from o e other) round m
unless_law (Some end) e other ok round m known =
    grown_still (still_step (Known round m.labels m.labels) (flat.Branch e false end) m refl (inr (inl (known end refl))) refl)
unless_law None e other ok round m known =
    let m1 : Made = pushed (flat.Branch e true m.labels) (labelled 1 m) in
    let m2 : Made = other round m1 in
    let g : LawAt other round m1 = ok round m1 in
    let longer : m.labels + 1 ≤ m2.labels = g.labels in
    let Q = Known round m.labels m2.labels in
    let end : Q m.labels = inl (omega arith, omega (arith, longer)) in
    record {
      count = λ n. no_label n + (g.count n + hit m.labels n);
      adds = adds_on (adds_step Q (flat.Branch e true m.labels) m.code refl end refl)
          (adds_on (adds_more (Known round (m.labels + 1) m2.labels) Q (known_wider round (m.labels + 1) m2.labels m.labels m2.labels (omega arith) (omega arith)) g.adds)
          (adds_label Q m.labels m2.code));
      labels = omega (arith, longer);
      placed = λ n.
          let body : g.count n + below (m.labels + 1) n ≡ below m2.labels n = g.placed n in
          let next = below_next m.labels (m.labels + 1) n refl in
          omega (arith, body, next);
    }

either_law : (b : Bool) (e : Expr) (first other : Onto) → Lawful first → Lawful other → (round : Round) (m : Made) → LawAt (either_onto b e first other) round m
either_law true e first other okf oko round m =
    let m1 : Made = choice_onto e m in
    let m2 : Made = first round m1 in
    let m3 : Made = other round m2 in
    let f : LawAt first round m1 = okf round m1 in
    let g : LawAt other round m2 = oko round m2 in
    let longer : m.labels + 1 ≤ m2.labels = f.labels in
    let more : m2.labels ≤ m3.labels = g.labels in
    let Q = Known round m.labels m3.labels in
    let end : Q m.labels = inl (omega arith, omega (arith, longer, more)) in
    record {
      count = λ n. no_label n + (f.count n + (g.count n + hit m.labels n));
      adds = adds_on (adds_step Q (flat.Branch e false m.labels) m.code refl end refl)
          (adds_on (adds_more (Known round (m.labels + 1) m2.labels) Q (known_wider round (m.labels + 1) m2.labels m.labels m3.labels (omega arith) more) f.adds)
          (adds_on (adds_more (Known round m2.labels m3.labels) Q (known_wider round m2.labels m3.labels m.labels m3.labels (omega (arith, longer)) (omega arith)) g.adds)
          (adds_label Q m.labels m3.code)));
      labels = omega (arith, longer, more);
      placed = λ n.
          let one : f.count n + below (m.labels + 1) n ≡ below m2.labels n = f.placed n in
          let two : g.count n + below m2.labels n ≡ below m3.labels n = g.placed n in
          let next = below_next m.labels (m.labels + 1) n refl in
          omega (arith, one, two, next);
    }
either_law false e first other okf oko round m =
    let m1 : Made = choice_onto e m in
    let m2 : Made = first round m1 in
    let m3 : Made = pushed (flat.Label m.labels) (pushed (flat.Jump m2.labels) (labelled 1 m2)) in
    let m4 : Made = other round m3 in
    let f : LawAt first round m1 = okf round m1 in
    let g : LawAt other round m3 = oko round m3 in
    let longer : m.labels + 1 ≤ m2.labels = f.labels in
    let more : m2.labels + 1 ≤ m4.labels = g.labels in
    let Q = Known round m.labels m4.labels in
    let otherwise : Q m.labels = inl (omega arith, omega (arith, longer, more)) in
    let end : Q m2.labels = inl (omega (arith, longer), omega (arith, more)) in
    record {
      count = λ n. no_label n + (f.count n + (no_label n + (hit m.labels n + (g.count n + hit m2.labels n))));
      adds = adds_on (adds_step Q (flat.Branch e false m.labels) m.code refl otherwise refl)
          (adds_on (adds_more (Known round (m.labels + 1) m2.labels) Q (known_wider round (m.labels + 1) m2.labels m.labels m4.labels (omega arith) (omega (arith, more))) f.adds)
          (adds_on (adds_step Q (flat.Jump m2.labels) m2.code refl end refl)
          (adds_on (adds_label Q m.labels (m2.code ++ flat.Jump m2.labels ∷ []))
          (adds_on (adds_more (Known round (m2.labels + 1) m4.labels) Q (known_wider round (m2.labels + 1) m4.labels m.labels m4.labels (omega (arith, longer)) (omega arith)) g.adds)
          (adds_label Q m2.labels m4.code)))));
      labels = omega (arith, longer, more);
      placed = λ n.
          let one : f.count n + below (m.labels + 1) n ≡ below m2.labels n = f.placed n in
          let two : g.count n + below (m2.labels + 1) n ≡ below m4.labels n = g.placed n in
          let next = below_next m.labels (m.labels + 1) n refl in
          let last = below_next m2.labels (m2.labels + 1) n refl in
          omega (arith, one, two, next, last);
    }

if_law : (b : Bool) (rest : Stmts) (e : Expr) (first other : Onto) → Lawful first → Lawful other → (round : Round) (m : Made) → LawAt (if_onto b rest e first other) round m
if_law true rest e first other okf oko round m = unless_law (exit_of rest round.turns) e other oko round m (λ t is. exit_in (is_only_break rest) round.turns t is)
if_law false rest e first other okf oko round m = either_law (is_none rest) e first other okf oko round m

-- Loops.

turns_law : (body : Onto) → Lawful body → (round : Round) (m : Made) → LawAt (turns_onto body) round m
turns_law body ok round m =
    let inside : Round = in_loop m.labels round in
    let m1 : Made = pushed (flat.Label m.labels) (labelled 2 m) in
    let m2 : Made = body inside m1 in
    let g : LawAt body inside m1 = ok inside m1 in
    let longer : m.labels + 2 ≤ m2.labels = g.labels in
    let Q = Known round m.labels m2.labels in
    let e : Turns = record { next = m.labels; end = m.labels + 1; cut = None } in
    let next : Q m.labels = inl (omega arith, omega (arith, longer)) in
    record {
      count = λ n. hit m.labels n + (g.count n + (no_label n + hit (m.labels + 1) n));
      adds = adds_on (adds_label Q m.labels m.code)
          (adds_on (adds_more (Known inside (m.labels + 2) m2.labels) Q
          (known_in_loop e round.turns round.guards (m.labels + 2) m2.labels m.labels m2.labels (omega arith) (omega arith) (omega arith) (omega (arith, longer)) (omega arith) (omega (arith, longer))) g.adds)
          (adds_on (adds_step Q (flat.Jump m.labels) m2.code refl next refl)
          (adds_label Q (m.labels + 1) (m2.code ++ flat.Jump m.labels ∷ []))));
      labels = omega (arith, longer);
      placed = λ n.
          let one : g.count n + below (m.labels + 2) n ≡ below m2.labels n = g.placed n in
          let first = below_next m.labels (m.labels + 1) n refl in
          let second = below_next (m.labels + 1) (m.labels + 2) n (omega arith) in
          omega (arith, one, first, second);
    }

-- the call of an iterator, the jump to the loop's end, and what begins the body
abbrev call_block : (P : ℕ → Type 0) (routine : Expr) (slot end first : ℕ) (x : List Step) → P end → Adds P no_label x (((x ++ flat.Invoke routine first ∷ []) ++ flat.Jump end ∷ []) ++ flat.Take slot ∷ [])
call_block P routine slot end first x known =
    adds_on (adds_on (adds_step P (flat.Invoke routine first) x refl tt refl) (adds_step P (flat.Jump end) (x ++ flat.Invoke routine first ∷ []) refl known refl))
    (adds_step P (flat.Take slot) ((x ++ flat.Invoke routine first ∷ []) ++ flat.Jump end ∷ []) refl tt refl)

block_begins : (routine : Expr) (slot end first : ℕ) → has_loop slot end (flat.Invoke routine first ∷ flat.Jump end ∷ flat.Take slot ∷ []) ≡ true
block_begins routine slot end first =
    or_left ((end == end) && (slot == slot)) false (and_from (end == end) (slot == slot) (eq-eqb end end refl) (eq-eqb slot slot refl))

-- A loop over an iterator: what comes before its body has its beginning.
record Begun (P : ℕ → Type 0) (slot end : ℕ) (x y : List Step) : Type 0 where
  adds : Adds P no_label x y
  has : has_loop slot end adds.added ≡ true

begun_row : (P : ℕ → Type 0) (routine : Expr) (arguments : List Expr) (work slot end : ℕ) (m : Made) → P end
    → Begun P slot end m.code (pushed (flat.Take slot) (pushed (flat.Jump end) (pushed (flat.Invoke routine (row_at work arguments)) (row_onto work arguments m)))).code
begun_row P routine arguments work slot end m known =
    let row : Made = row_onto work arguments m in
    let r : Still P m row = still_row P work arguments m in
    record {
      adds = adds_on r.adds (call_block P routine slot end (row_at work arguments) row.code known);
      has = has_right slot end r.adds.added (flat.Invoke routine (row_at work arguments) ∷ flat.Jump end ∷ flat.Take slot ∷ []) (block_begins routine slot end (row_at work arguments));
    }

begun_on : (P : ℕ → Type 0) (slot end : ℕ) (x y z : List Step) → Begun P slot end x y → Adds P no_label y z → Begun P slot end x z
begun_on P slot end x y z b a = record { adds = adds_on b.adds a; has = has_left slot end b.adds.added a.added b.has }

-- its body, what resumes, and its end
loop_ended : (P : ℕ → Type 0) (c : ℕ → ℕ) (slot next end : ℕ) (x y z : List Step) → Begun P slot end x y → Adds P c y z
    → Adds P (λ n. ((no_label n + c n) + hit next n) + hit end n) x (((z ++ flat.Label next ∷ []) ++ flat.Resume slot ∷ []) ++ flat.Label end ∷ [])
loop_ended P c slot next end x y z b body =
    let placed : Adds P (λ n. hit next n) z (z ++ flat.Label next ∷ []) = adds_label P next z in
    adds_resume slot end (adds_on (adds_on b.adds body) placed)
    (has_left slot end (b.adds.added ++ body.added) (flat.Label next ∷ []) (has_left slot end b.adds.added body.added b.has))

iterate_law : (routine : Expr) (arguments : List Expr) (items : List ℕ) (body : Onto) → Lawful body → (round : Round) (m : Made) → LawAt (iterate_onto routine arguments items body) round m
iterate_law routine arguments items body ok round m =
    let e : Turns = turns_at m.labels round.mark in
    let inside : Round = in_turns e round in
    let row : Made = row_onto (round.work + 1) arguments (labelled 2 m) in
    let m2 : Made = pushed (flat.Take round.work) (pushed (flat.Jump (m.labels + 1)) (pushed (flat.Invoke routine (row_at (round.work + 1) arguments)) row)) in
    let m3 : Made = results_onto 0 items m2 in
    let m4 : Made = body inside m3 in
    let Q = Known round m.labels m4.labels in
    let r : Still Q (labelled 2 m) row = still_row Q (round.work + 1) arguments (labelled 2 m) in
    let s : Still Q m2 m3 = still_results Q 0 items m2 in
    let g : LawAt body inside m3 = ok inside m3 in
    let from : m3.labels ≡ m.labels + 2 = s.labels ∙ r.labels in
    let longer : m3.labels ≤ m4.labels = g.labels in
    let known : Q (m.labels + 1) = inl (omega arith, omega (arith, from, longer)) in
    let begun : Begun Q round.work (m.labels + 1) m.code m3.code = begun_on Q round.work (m.labels + 1) m.code m2.code m3.code (begun_row Q routine arguments (round.work + 1) round.work (m.labels + 1) (labelled 2 m) known) s.adds in
    let inner : Adds Q g.count m3.code m4.code = adds_more (Known inside m3.labels m4.labels) Q
    (known_in_loop e round.turns round.guards m3.labels m4.labels m.labels m4.labels (omega (arith, from)) (omega arith) (omega arith) (omega (arith, from, longer)) (omega arith) (omega (arith, from, longer))) g.adds in
    record {
      count = λ n. ((no_label n + g.count n) + hit m.labels n) + hit (m.labels + 1) n;
      adds = loop_ended Q g.count round.work m.labels (m.labels + 1) m.code m3.code m4.code begun inner;
      labels = omega (arith, from, longer);
      placed = λ n.
          let one : g.count n + below m3.labels n ≡ below m4.labels n = g.placed n in
          let at : below m3.labels n ≡ below (m.labels + 2) n = ap (λ (k : ℕ). below k n) from in
          let first = below_next m.labels (m.labels + 1) n refl in
          let second = below_next (m.labels + 1) (m.labels + 2) n (omega arith) in
          omega (arith, one, at, first, second);
    }

-- Guards.

record Armed (P : ℕ → Type 0) (label last end : ℕ) (m m' : Made) : Type 0 where
  count : ℕ → ℕ
  adds : Adds P count m.code m'.code
  labels : m.labels ≤ m'.labels
  placed : (n : ℕ) → count n + below m.labels n + below label n ≡ below m'.labels n + below last n + hit end n

armed_more : {label last end : ℕ} {m m' : Made} (P Q : ℕ → Type 0) → ((t : ℕ) → P t → Q t) → Armed P label last end m m' → Armed Q label last end m m'
armed_more P Q more a = record { count = a.count; adds = adds_more P Q more a.adds; labels = a.labels; placed = a.placed }

-- the arms of a guard name their end besides
abbrev KnownArms : Round → ℕ → ℕ → ℕ → ℕ → Type 0
KnownArms round low high end t = Known round low high t ⊎ (t ≡ end)

abbrev LawArms : (ℕ → ℕ → ℕ → Onto) → ℕ → Type 0
LawArms arms count = (label last end region : ℕ) → last ≡ label + count → (round : Round) (m : Made)
    → Armed (KnownArms round m.labels (arms label end region round m).labels end) label last end m (arms label end region round m)

abbrev no_arms_onto : ℕ → ℕ → ℕ → Onto
no_arms_onto label end region round m = pushed (flat.Label end) m

no_arms_law : LawArms no_arms_onto 0
no_arms_law label last end region e round m =
    let is : last ≡ label = omega (arith, e) in
    record {
      count = λ n. hit end n;
      adds = adds_label (KnownArms round m.labels m.labels end) end m.code;
      labels = omega arith;
      placed = λ n. let same : below last n ≡ below label n = ap (λ (k : ℕ). below k n) is in omega (arith, same);
    }

abbrev more_arms_onto : List (List ℕ) → Bool → List ℕ → Onto → (ℕ → ℕ → ℕ → Onto) → ℕ → ℕ → ℕ → Onto
more_arms_onto names others slots body arms label end region round m =
    arms (label + 1) end region round (arm_onto_one names others slots body label end region round m)

more_arms_law : (names : List (List ℕ)) (others : Bool) (slots : List ℕ) (body : Onto) (arms : ℕ → ℕ → ℕ → Onto) (count : ℕ) → Lawful body → LawArms arms count
    → LawArms (more_arms_onto names others slots body arms) (suc count)
more_arms_law names others slots body arms count okb oka label last end region e round m =
    let m1 : Made = arm_begun names others slots region round.mark m in
    let m2 : Made = pushed (flat.Label label) m1 in
    let m3 : Made = body round m2 in
    let m4 : Made = pushed (flat.Jump end) m3 in
    let m5 : Made = arms (label + 1) end region round m4 in
    let P : ℕ → Type 0 = KnownArms round m.labels m5.labels end in
    let s : Coded P m m1 = coded_begun P names others slots region round.mark m in
    let g : LawAt body round m2 = okb round m2 in
    let begin : m1.labels ≡ m.labels = s.labels in
    let longer : m1.labels ≤ m3.labels = g.labels in
    let rest : Armed P (label + 1) last end m4 m5 = armed_more (KnownArms round m4.labels m5.labels end) P
    (λ t k. ⊎_elim (λ (i : Known round m4.labels m5.labels t). inl (known_wider round m3.labels m5.labels m.labels m5.labels (omega (arith, begin, longer)) (omega arith) t i)) (λ (i : t ≡ end). inr i) k)
    (oka (label + 1) last end region (omega (arith, e)) round m4) in
    let after : m3.labels ≤ m5.labels = rest.labels in
    record {
      count = λ n. no_label n + (hit label n + (g.count n + (no_label n + rest.count n)));
      adds = adds_on s.adds (adds_on (adds_label P label m1.code)
          (adds_on (adds_more (Known round m1.labels m3.labels) P
          (λ t k. inl (known_wider round m1.labels m3.labels m.labels m5.labels (omega (arith, begin)) after t k)) g.adds)
          (adds_on (adds_step P (flat.Jump end) m3.code refl (inr refl) refl) rest.adds)));
      labels = omega (arith, begin, longer, after);
      placed = λ n.
          let one : g.count n + below m1.labels n ≡ below m3.labels n = g.placed n in
          let at : below m1.labels n ≡ below m.labels n = ap (λ (k : ℕ). below k n) begin in
          let others : rest.count n + below m3.labels n + below (label + 1) n ≡ below m5.labels n + below last n + hit end n = rest.placed n in
          let next = below_next label (label + 1) n refl in
          omega (arith, one, at, others, next);
    }

guard_law : (slots : List (List ℕ)) (body : Onto) (arms : ℕ → ℕ → ℕ → Onto) → Lawful body → LawArms arms (length slots) → (round : Round) (m : Made) → LawAt (guard_onto slots body arms) round m
guard_law slots body arms okb oka round m =
    let guard : Guarding = guard_at slots m.labels round.mark in
    let inside : Round = in_guard guard (length m.regions) round in
    let m1 : Made = opened round.region (labelled 1 (labelled (length slots) m)) in
    let m2 : Made = body inside m1 in
    let m3 : Made = closed (length m.regions) (m.labels + length slots) m2 in
    let m4 : Made = arms m.labels (m.labels + length slots) (length m.regions) round m3 in
    let g : LawAt body inside m1 = okb inside m1 in
    let grows : Armed (KnownArms round m3.labels m4.labels (m.labels + length slots)) m.labels (m.labels + length slots) (m.labels + length slots) m3 m4 =
    oka m.labels (m.labels + length slots) (m.labels + length slots) (length m.regions) refl round m3 in
    let longer : (m.labels + length slots) + 1 ≤ m2.labels = g.labels in
    let after : m2.labels ≤ m4.labels = grows.labels in
    let Q = Known round m.labels m4.labels in
    let known : Q (m.labels + length slots) = inl (omega arith, omega (arith, longer, after)) in
    let ar : Armed Q m.labels (m.labels + length slots) (m.labels + length slots) m3 m4 = armed_more (KnownArms round m3.labels m4.labels (m.labels + length slots)) Q
    (λ t k. ⊎_elim (λ (i : Known round m3.labels m4.labels t). known_wider round m2.labels m4.labels m.labels m4.labels (omega (arith, longer)) (omega arith) t i)
    (λ (i : t ≡ m.labels + length slots). subst Q (sym i) known) k) grows in
    record {
      count = λ n. g.count n + (no_label n + ar.count n);
      adds = adds_on (adds_more (Known inside ((m.labels + length slots) + 1) m2.labels) Q
          (known_in_guard guard round.turns round.guards ((m.labels + length slots) + 1) m2.labels m.labels m4.labels (omega arith) after (omega arith) (omega (arith, longer, after))) g.adds)
          (adds_on (adds_step Q (flat.Jump (m.labels + length slots)) m2.code refl known refl) ar.adds);
      labels = omega (arith, longer, after);
      placed = λ n.
          let one : g.count n + below ((m.labels + length slots) + 1) n ≡ below m2.labels n = g.placed n in
          let two : ar.count n + below m2.labels n + below m.labels n ≡ below m4.labels n + below (m.labels + length slots) n + hit (m.labels + length slots) n = ar.placed n in
          let next = below_next (m.labels + length slots) ((m.labels + length slots) + 1) n refl in
          omega (arith, one, two, next);
    }

resignal_law : (body : Onto) (names : List (List ℕ)) → Lawful body → (round : Round) (m : Made) → LawAt (resignal_onto body names) round m
resignal_law body names ok round m =
    let inside : Round = in_region (length m.regions) round in
    let m1 : Made = opened round.region (labelled 1 m) in
    let m2 : Made = body inside m1 in
    let m3 : Made = closed (length m.regions) m.labels m2 in
    let m4 : Made = named_onto (length m.regions) round.mark names m3 in
    let g : LawAt body inside m1 = ok inside m1 in
    let Q = Known round m.labels m4.labels in
    let s : Coded Q m3 m4 = coded_named Q (length m.regions) round.mark names m3 in
    let same : m4.labels ≡ m2.labels = s.labels in
    let longer : m.labels + 1 ≤ m2.labels = g.labels in
    let end : Q m.labels = inl (omega arith, omega (arith, longer, same)) in
    record {
      count = λ n. g.count n + (no_label n + (no_label n + (no_label n + hit m.labels n)));
      adds = adds_on (adds_more (Known inside (m.labels + 1) m2.labels) Q (known_wider round (m.labels + 1) m2.labels m.labels m4.labels (omega arith) (omega (arith, same))) g.adds)
          (adds_on (adds_step Q (flat.Jump m.labels) m2.code refl end refl)
          (adds_on s.adds
          (adds_on (adds_step Q flat.Pass m4.code refl tt refl)
          (adds_label Q m.labels (m4.code ++ flat.Pass ∷ [])))));
      labels = omega (arith, longer, same);
      placed = λ n.
          let one : g.count n + below (m.labels + 1) n ≡ below m2.labels n = g.placed n in
          let at : below m4.labels n ≡ below m2.labels n = ap (λ (k : ℕ). below k n) same in
          let next = below_next m.labels (m.labels + 1) n refl in
          omega (arith, one, at, next);
    }

-- Statements.

mutual
  unfolding onto all_onto arms_onto

  pub lawful : (s : Stmt) → Lawful (onto s)
  lawful (plain.set to e) round m = grown_still (still_step (Known round m.labels m.labels) (flat.Set to e) m refl tt refl)
  lawful (plain.put address bytes e) round m = grown_still (still_step (Known round m.labels m.labels) (flat.Put address (pos bytes) e) m refl tt refl)
  lawful (plain.call routine es results) round m = grown_still (still_call _ routine es results round.work m)
  lawful (plain.prim number es results) round m = grown_still (still_primitive _ number es results round.work m)
  lawful (plain.bind number e to) round m = grown_still (still_step (Known round m.labels m.labels) (flat.Bind number e to) m refl tt refl)
  lawful (plain.choose e first other) round m = if_law (is_none first) other e (all_onto first) (all_onto other) (all_lawful first) (all_lawful other) round m
  lawful (plain.loop body) round m = turns_law (all_onto body) (all_lawful body) round m
  lawful plain.break_loop round m = grown_still (still_break _ round.turns m (λ t h. inr (inl h)))
  lawful plain.next_turn round m = grown_still (still_continue _ round.turns m (λ t h. inr (inl h)))
  lawful (plain.iterate routine es items body) round m = iterate_law routine es items (all_onto body) (all_lawful body) round m
  lawful (plain.yield_words es) round m = grown_still (still_yield _ es round.work m)
  lawful (plain.raise_name name es) round m = grown_still (still_raise _ (name_of round.constants name) es round.work m)
  lawful (plain.signal_name name es) round m = grown_still (still_signal _ (name_of round.constants name) es round.work m)
  lawful (plain.exit_to inside arm es) round m = grown_still (still_exit _ inside arm es round m (λ t h. inr (inr h)))
  lawful (plain.guard body arms) round m = guard_law (slots_of arms) (all_onto body) (arms_onto arms) (all_lawful body) (arms_lawful arms) round m
  lawful (plain.resignal body names) round m = resignal_law (all_onto body) names (all_lawful body) round m
  lawful (plain.leave_with es) round m = grown_still (still_leave _ es round.work m)

  pub all_lawful : (ss : Stmts) → Lawful (all_onto ss)
  all_lawful no_stmts round m = grown_still (still_none (Known round m.labels m.labels) m)
  all_lawful (stmt_and s rest) round m = then_law (onto s) (all_onto rest) (lawful s) (all_lawful rest) round m

  arms_lawful : (arms : Arms) → LawArms (arms_onto arms) (length (slots_of arms))
  arms_lawful no_arms = no_arms_law
  arms_lawful (arm_and names others slots body more) = more_arms_law names others slots (all_onto body) (arms_onto more) (length (slots_of more)) (all_lawful body) (arms_lawful more)
