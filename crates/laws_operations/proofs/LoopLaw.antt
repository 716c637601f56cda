-- The law of a loop that counts or searches: each round either ends it or leaves one round less, and the last one ends it.
use Rattle.std.proofs.Common.{◌≡◌, ℕ, zero, suc, ◌+◌, ◌-◌, ◌*◌, ◌≤◌, ◌⊎◌, inl, inr, List, refl, ap, ◌∙◌, arith}
use Rattle.clu_wir.specs.Plain.{Stmts, loop, stmt_and}
use Rattle.clu_word_meaning.specs.World.{World}
use Rattle.clu_word_meaning.specs.Words.{Body, Computation, Ending, Entry, Linked, Meters, Result, Slots, State, and_then, broken, continue_either_way, either, either_way, ended, ends, exec, exec_all, gives, loop_at, loops, normal, returned, signalled, spends_a_turn, takes_a_turn, turn_ending, with_state}
use Rattle.laws_operations.proofs.LoopSteps.{Later, Runs, at, later_none, later_then, one_more, one_then, runs_out, runs_then}

module _ (outer : List Slots) (world : World) (inner : Computation (Unit {0})) where
  -- a loop ends by one of its rounds, after some
  pub record Loops (slots : Slots) (turns steps : ℕ) (e : Ending) (Left : Slots → Type 0) : Type 0 where
    pub rounds : ℕ
    pub used : ℕ
    pub n : ℕ
    pub after : Slots
    pub left : Left after
    pub enough : rounds ≤ used
    pub few : used ≤ turns
    pub cheap : n ≤ steps
    pub is : (level k t : ℕ) (p : Meters) → t ≡ used + k → (q : Meters) × Later used n p q ×
        (loop_at (suc (rounds + level)) inner t (at outer world slots p) ≡ turn_ending (spends_a_turn (loop_at level inner)) e k (at outer world after q))

  counted_one : Meters → Meters
  counted_one p = record { most = p.most; store = p.store; steps = 1 + p.steps; spent = p.spent }

  -- the round that ends it
  pub last_round : {slots : Slots} {turns steps : ℕ} {e : Ending} {Left : Slots → Type 0} → Runs outer world inner slots turns steps (λ k st. ended e k st) Left → Loops slots turns (1 + steps) e Left
  unfolding loop_at either_way continue_either_way counted_one
  last_round {slots = slots} {e = e} r = record {
    rounds = 0;
    used = r.used;
    n = 1 + r.n;
    after = r.after;
    left = r.left;
    enough = omega arith;
    few = r.few;
    cheap = omega (arith, r.cheap);
    is = λ level k t p same.
        let (q, h, is) = r.is k t (counted_one p) same in (
          q,
          record { most = h.most; store = h.store; steps = omega (arith, h.steps); spent = h.spent },
          ap (continue_either_way (λ done. spends_a_turn (loop_at (0 + level) inner)) (turn_ending (spends_a_turn (loop_at (0 + level) inner)))) is
              ∙ (λ i. turn_ending (spends_a_turn (loop_at (plus_none level i) inner)) e k (at outer world r.after q)),
        );
  }
    where
      plus_none : (k : ℕ) → 0 + k ≡ k
      plus_none k = omega arith

  -- a round after which it goes on
  pub next_round : {slots : Slots} {turns steps more n : ℕ} {e : Ending} {Middle Left : Slots → Type 0} → Runs outer world inner slots turns steps (λ k st. normal tt k st) Middle →
      ((s : Slots) → Middle s → Loops s more n e Left) → Loops slots (suc (turns + more)) (2 + (steps + n)) e Left
  unfolding loop_at either_way continue_either_way spends_a_turn counted_one
  next_round {slots = slots} {e = e} r next =
      let x = next r.after r.left in
      record {
        rounds = suc x.rounds;
        used = suc (r.used + x.used);
        n = 2 + (r.n + x.n);
        after = x.after;
        left = x.left;
        enough = omega (arith, x.enough);
        few = omega (arith, r.few, x.few);
        cheap = omega (arith, r.cheap, x.cheap);
        is = λ level k t p same.
            let (q, h, is) = r.is (suc (x.used + k)) t (counted_one p) (omega (arith, same)) in
            let (q2, h2, is2) = x.is level k (x.used + k) (one_more (1 + q.steps) q) refl in (
              q2,
              record { most = h2.most ∙ h.most; store = h2.store ∙ h.store; steps = omega (arith, h.steps, h2.steps); spent = omega (arith, h.spent, h2.spent) },
              ap (continue_either_way (λ done. spends_a_turn (loop_at (suc x.rounds + level) inner)) (turn_ending (spends_a_turn (loop_at (suc x.rounds + level) inner)))) is
                  ∙ (λ i. loop_at (deeper x.rounds level i) inner (x.used + k) (at outer world r.after (one_more (1 + q.steps) q))) ∙ is2,
            );
      }
    where
      deeper : (a b : ℕ) → suc a + b ≡ suc (a + b)
      deeper a b = omega arith

  pub loops_at_most : {slots : Slots} {turns steps more n : ℕ} {e : Ending} {Left : Slots → Type 0} → Loops slots turns steps e Left → turns ≤ more → steps ≤ n → Loops slots more n e Left
  loops_at_most r l m = record { rounds = r.rounds; used = r.used; n = r.n; after = r.after; left = r.left; enough = r.enough; few = omega (arith, l, r.few); cheap = omega (arith, m, r.cheap); is = r.is }

  -- a round ends the loop, or what holds with one round less is left
  abbrev pub Round : Slots → ℕ → ℕ → Ending → (Slots → Type 0) → (Slots → Type 0) → Type 0
  Round slots turns steps e Left Middle = Runs outer world inner slots turns steps (λ k st. ended e k st) Left ⊎ Runs outer world inner slots turns steps (λ k st. normal tt k st) Middle

  one_round : {s : Slots} {e : Ending} {turns steps : ℕ} {Left Middle : Slots → Type 0} (m : ℕ) → Round s turns steps e Left Middle → ((s : Slots) → Middle s → Loops s (suc turns * suc m) ((2 + steps) * suc m) e Left) →
      Loops s (suc turns * suc (suc m)) ((2 + steps) * suc (suc m)) e Left
  one_round m (inl r) more = loops_at_most (last_round r) (omega arith) (omega arith)
  one_round m (inr r) more = loops_at_most (next_round r more) (omega arith) (omega arith)

  -- With so many rounds left at most. What a round takes is bounded, whatever is left.
  pub searches : (I : ℕ → Slots → Type 0) (Left : Slots → Type 0) (e : Ending) (turns steps : ℕ) → ((m : ℕ) (s : Slots) → I (suc m) s → Round s turns steps e Left (I m)) →
      ((s : Slots) → I zero s → Runs outer world inner s turns steps (λ k st. ended e k st) Left) → (m : ℕ) (s : Slots) → I m s → Loops s (suc turns * suc m) ((2 + steps) * suc m) e Left
  searches I Left e turns steps goes stops zero s h = loops_at_most (last_round (stops s h)) (omega arith) (omega arith)
  searches I Left e turns steps goes stops (suc m) s h = one_round m (goes m s h) (λ s k. searches I Left e turns steps goes stops m s k)

  -- the loop itself, whatever its last ending becomes
  whole_loop : {slots : Slots} {turns steps : ℕ} {e : Ending} {Left : Slots → Type 0} (d : ℕ) (last : ℕ → State → Result (Unit {0})) →
      ((again : Computation (Unit {0})) (k : ℕ) (p : Meters) (s : Slots) → (q : Meters) × Later 0 d p q × (turn_ending again e k (at outer world s p) ≡ last k (at outer world s q))) →
      Loops slots turns steps e Left → Runs outer world (loops inner) slots turns (steps + d) last Left
  whole_loop {slots = slots} d last ending r = record {
    used = r.used;
    n = r.n + d;
    after = r.after;
    left = r.left;
    few = r.few;
    cheap = omega (arith, r.cheap);
    is = λ k t p same.
        let (q, h, is) = r.is (t - r.rounds) k t p same in
        let (q2, h2, is2) = ending (spends_a_turn (loop_at (t - r.rounds) inner)) k q r.after in
        let l = later_then r.used r.n 0 d p q q2 h h2 in (
          q2,
          record { most = l.most; store = l.store; steps = l.steps; spent = omega (arith, l.spent) },
          ap (λ (m : ℕ). loop_at (suc m) inner t (at outer world slots p)) (parts t r.rounds (omega (arith, same, r.enough))) ∙ is ∙ is2,
        );
  }
    where
      parts : (t a : ℕ) → a ≤ t → t ≡ a + (t - a)
      parts t a l = omega (arith, l)

-- the loop as a statement, and what comes after it
module _ (outer : List Slots) (world : World) (l : Linked) (entries : ℕ → Entry) (body : Body) (live : ℕ) where
  loop_step : (slots : Slots) (k : ℕ) (inner ss : Stmts) (p : Meters) → exec_all l entries body live (stmt_and (loop inner) ss) (suc k) (at outer world slots p) ≡
      and_then (loops (exec_all l entries body live inner)) (λ done. exec_all l entries body live ss) k (at outer world slots (one_more p.steps p))
  unfolding exec exec_all either_way continue_either_way either takes_a_turn
  loop_step slots k inner ss p = refl

  none : (p : Meters) → Later 1 0 p (one_more p.steps p)
  none p = record { most = refl; store = refl; steps = omega arith; spent = omega arith }

  returned_so : (ws : List ℕ) (again : Computation (Unit {0})) (k : ℕ) (p : Meters) (s : Slots) → (q : Meters) × Later 0 0 p q × (turn_ending again (returned ws) k (at outer world s p) ≡ ended (returned ws) k (at outer world s q))
  unfolding turn_ending ends
  returned_so ws again k p s = (p, later_none p, refl)

  signalled_so : (name ws : List ℕ) (again : Computation (Unit {0})) (k : ℕ) (p : Meters) (s : Slots) → (q : Meters) × Later 0 0 p q × (turn_ending again (signalled name ws) k (at outer world s p) ≡ ended (signalled name ws) k (at outer world s q))
  unfolding turn_ending ends
  signalled_so name ws again k p s = (p, later_none p, refl)

  broken_so : (again : Computation (Unit {0})) (k : ℕ) (p : Meters) (s : Slots) → (q : Meters) × Later 0 1 p q × (turn_ending again broken k (at outer world s p) ≡ normal tt k (at outer world s q))
  unfolding turn_ending gives with_state
  broken_so again k p s = (record { most = p.most; store = p.store; steps = 1 + p.steps; spent = p.spent }, record { most = refl; store = refl; steps = refl; spent = omega arith }, refl)

  pub loop_returns : {slots : Slots} {turns steps : ℕ} {ws : List ℕ} {Left : Slots → Type 0} (inner ss : Stmts) → Loops outer world (exec_all l entries body live inner) slots turns steps (returned ws) Left →
      Runs outer world (exec_all l entries body live (stmt_and (loop inner) ss)) slots (suc turns) (0 + (steps + 0)) (λ k st. ended (returned ws) k st) Left
  loop_returns {slots = slots} {ws = ws} inner ss r = one_then outer world 0 (λ p. one_more p.steps p) none (λ k p. loop_step slots k inner ss p)
      (runs_out outer world (λ done. exec_all l entries body live ss) (whole_loop outer world (exec_all l entries body live inner) 0 (λ k st. ended (returned ws) k st) (returned_so ws) r))

  pub loop_signals : {slots : Slots} {turns steps : ℕ} {name ws : List ℕ} {Left : Slots → Type 0} (inner ss : Stmts) → Loops outer world (exec_all l entries body live inner) slots turns steps (signalled name ws) Left →
      Runs outer world (exec_all l entries body live (stmt_and (loop inner) ss)) slots (suc turns) (0 + (steps + 0)) (λ k st. ended (signalled name ws) k st) Left
  loop_signals {slots = slots} {name = name} {ws = ws} inner ss r = one_then outer world 0 (λ p. one_more p.steps p) none (λ k p. loop_step slots k inner ss p)
      (runs_out outer world (λ done. exec_all l entries body live ss) (whole_loop outer world (exec_all l entries body live inner) 0 (λ k st. ended (signalled name ws) k st) (signalled_so name ws) r))

  pub loop_then : {slots : Slots} {turns steps more n : ℕ} {last : ℕ → State → Result (Unit {0})} {Middle Left : Slots → Type 0} (inner ss : Stmts) → Loops outer world (exec_all l entries body live inner) slots turns steps broken Middle →
      ((s : Slots) → Middle s → Runs outer world (exec_all l entries body live ss) s more n last Left) →
      Runs outer world (exec_all l entries body live (stmt_and (loop inner) ss)) slots (suc (turns + more)) (0 + (steps + 1 + n)) last Left
  loop_then {slots = slots} inner ss r next = one_then outer world 0 (λ p. one_more p.steps p) none (λ k p. loop_step slots k inner ss p)
      (runs_then outer world (λ done. exec_all l entries body live ss) (whole_loop outer world (exec_all l entries body live inner) 1 (λ k st. normal tt k st) broken_so r) next)
