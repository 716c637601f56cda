-- Steps of routines that only read, one after the other: what is left of the turns, and what is counted.
use Rattle.std.proofs.Common.{◌≡◌, ℕ, suc, ◌+◌, ◌≤◌, ◌==◌, true, false, List, [], ◌∷◌, refl, sym, ap, ◌∙◌, subst, arith}
use Rattle.clu_wir.specs.Plain.{Expr, Stmts, break_loop, choose, leave_with, no_stmts, set, signal_name, stmt_and}
use Rattle.clu_wir.specs.Value.{Gives, value}
use Rattle.clu_word_meaning.specs.World.{World}
use Rattle.clu_word_meaning.specs.Words.{Body, Computation, Ending, Entry, Linked, Meters, Result, Slots, State, and_then, broken, by_value, continue_either_way, either, either_way, ended, ends, exec, exec_all, gives, normal, put_slot, returned, signalled, takes_a_turn, valued, values, view, with_state}
use Rattle.clu_word_meaning.specs.Words as meaning

abbrev pub at : List Slots → World → Slots → Meters → State
at outer world slots p = record { slots = slots; outer = outer; world = world; meters = p }

-- so many turns are spent, and so many steps counted
pub record Later (used n : ℕ) (p q : Meters) : Type 0 where
  pub most : q.most ≡ p.most
  pub store : q.store ≡ p.store
  pub steps : q.steps ≡ n + p.steps
  pub spent : q.spent ≡ used + p.spent

pub later_then : (a b c d : ℕ) (p q r : Meters) → Later a b p q → Later c d q r → Later (a + c) (b + d) p r
later_then a b c d p q r h k = record { most = k.most ∙ h.most; store = k.store ∙ h.store; steps = omega (arith, h.steps, k.steps); spent = omega (arith, h.spent, k.spent) }

pub later_none : (p : Meters) → Later 0 0 p p
later_none p = record { most = refl; store = refl; steps = omega arith; spent = omega arith }

-- A computation comes to an end, which goes on from the turns that are left, in the slots that it leaves.
pub record Runs {A : Type 0} (outer : List Slots) (world : World) (f : Computation A) (slots : Slots) (turns steps : ℕ) (last : ℕ → State → Result A) (Left : Slots → Type 0) : Type 0 where
  pub used : ℕ
  pub n : ℕ
  pub after : Slots
  pub left : Left after
  pub few : used ≤ turns
  pub cheap : n ≤ steps
  pub is : (k t : ℕ) (p : Meters) → t ≡ used + k → (q : Meters) × Later used n p q × (f t (at outer world slots p) ≡ last k (at outer world after q))

-- what is counted for a statement
abbrev pub one_more : ℕ → Meters → Meters
one_more steps p = record { most = p.most; store = p.store; steps = steps; spent = suc p.spent }

module _ (outer : List Slots) (world : World) where
  -- one statement, which spends a turn, and then the rest
  pub one_then : {A : Type 0} {f g : Computation A} {slots then : Slots} {turns steps : ℕ} {last : ℕ → State → Result A} {Left : Slots → Type 0} (b : ℕ) (m : Meters → Meters) → ((p : Meters) → Later 1 b p (m p)) →
      ((k : ℕ) (p : Meters) → f (suc k) (at outer world slots p) ≡ g k (at outer world then (m p))) → Runs outer world g then turns steps last Left → Runs outer world f slots (suc turns) (b + steps) last Left
  one_then {f = f} {slots = slots} b m more e r = record {
    used = suc r.used;
    n = b + r.n;
    after = r.after;
    left = r.left;
    few = omega (arith, r.few);
    cheap = omega (arith, r.cheap);
    is = λ k t p same.
        let (q, h, is) = r.is k (r.used + k) (m p) refl in
        let l = later_then 1 b r.used r.n p (m p) q (more p) h in
        (q, record { most = l.most; store = l.store; steps = l.steps; spent = omega (arith, l.spent) }, ap (λ (t : ℕ). f t (at outer world slots p)) (same ∙ fewer r.used k) ∙ e (r.used + k) p ∙ is);
  }
    where
      fewer : (a k : ℕ) → suc a + k ≡ suc (a + k)
      fewer a k = omega arith

  -- one computation and then another
  pub runs_then : {A B : Type 0} {f : Computation A} {a : A} {slots : Slots} {turns steps more n : ℕ} {last : ℕ → State → Result B} {Middle Left : Slots → Type 0} (g : A → Computation B) →
      Runs outer world f slots turns steps (λ k st. normal a k st) Middle → ((s : Slots) → Middle s → Runs outer world (g a) s more n last Left) → Runs outer world (and_then f g) slots (turns + more) (steps + n) last Left
  unfolding either_way continue_either_way
  runs_then g r next =
      let s = next r.after r.left in
      record {
        used = r.used + s.used;
        n = r.n + s.n;
        after = s.after;
        left = s.left;
        few = omega (arith, r.few, s.few);
        cheap = omega (arith, r.cheap, s.cheap);
        is = λ k t p same.
            let (q, h, is) = r.is (s.used + k) t p (omega (arith, same)) in
            let (q2, h2, is2) = s.is k (s.used + k) q refl in
            (q2, later_then r.used r.n s.used s.n p q q2 h h2, ap (continue_either_way g ends) is ∙ is2);
      }

  pub at_most : {A : Type 0} {f : Computation A} {slots : Slots} {turns steps more n : ℕ} {last : ℕ → State → Result A} {Left : Slots → Type 0} →
      Runs outer world f slots turns steps last Left → turns ≤ more → steps ≤ n → Runs outer world f slots more n last Left
  at_most r l m = record { used = r.used; n = r.n; after = r.after; left = r.left; few = omega (arith, l, r.few); cheap = omega (arith, m, r.cheap); is = r.is }

  -- an ending
  pub run_ends : {slots : Slots} {e : Ending} {Left : Slots → Type 0} → Left slots → Runs {A = Unit {0}} outer world (ends e) slots 0 0 (λ k st. ended e k st) Left
  unfolding ends
  run_ends {slots = slots} {e = e} h = record {
    used = 0;
    n = 0;
    after = slots;
    left = h;
    few = omega arith;
    cheap = omega arith;
    is = λ k t p same. (p, later_none p, ap (λ (t : ℕ). ended e t (at outer world slots p)) (same ∙ plus_none k));
  }
    where
      plus_none : (k : ℕ) → 0 + k ≡ k
      plus_none k = omega arith

  -- a computation that ends passes what comes after it
  pub runs_out : {A B : Type 0} {f : Computation A} {e : Ending} {slots : Slots} {turns steps : ℕ} {Left : Slots → Type 0} (g : A → Computation B) →
      Runs outer world f slots turns steps (λ k st. ended e k st) Left → Runs outer world (and_then f g) slots turns steps (λ k st. ended e k st) Left
  unfolding either_way continue_either_way ends
  runs_out g r = record {
    used = r.used;
    n = r.n;
    after = r.after;
    left = r.left;
    few = r.few;
    cheap = r.cheap;
    is = λ k t p same. let (q, h, is) = r.is k t p same in (q, h, ap (continue_either_way g ends) is);
  }

  module _ (l : Linked) (entries : ℕ → Entry) (body : Body) (live : ℕ) where
    abbrev pub list : Stmts → Computation (Unit {0})
    list ss = exec_all l entries body live ss

    abbrev pub Holds : Slots → Expr → ℕ → Type 0
    Holds slots e w = value (view l slots world) e ≡ Gives w

    pub at_end : {slots : Slots} {Left : Slots → Type 0} → Left slots → Runs outer world (list no_stmts) slots 0 0 (λ k st. normal tt k st) Left
    unfolding exec_all gives
    at_end {slots = slots} h = record {
      used = 0;
      n = 0;
      after = slots;
      left = h;
      few = omega arith;
      cheap = omega arith;
      is = λ k t p same. (p, later_none p, ap (λ (t : ℕ). normal tt t (at outer world slots p)) (same ∙ plus_none k));
    }
      where
        plus_none : (k : ℕ) → 0 + k ≡ k
        plus_none k = omega arith

    set_step : (slots : Slots) (n w k : ℕ) (e : Expr) (ss : Stmts) (p : Meters) → Holds slots e w → list (stmt_and (set n e) ss) (suc k) (at outer world slots p) ≡ list ss k (at outer world (put_slot n w slots) (one_more (1 + p.steps) p))
    unfolding exec exec_all either_way continue_either_way valued by_value gives either takes_a_turn with_state
    set_step slots n w k e ss p h = rw h refl

    pub set_then : {slots : Slots} {w : ℕ} {turns steps : ℕ} {last : ℕ → State → Result (Unit {0})} {Left : Slots → Type 0} (n : ℕ) (e : Expr) (ss : Stmts) → Holds slots e w → Runs outer world (list ss) (put_slot n w slots) turns steps last Left →
        Runs outer world (list (stmt_and (set n e) ss)) slots (suc turns) (1 + steps) last Left
    set_then {slots = slots} {w = w} n e ss h r = one_then 1 (λ p. one_more (1 + p.steps) p) (λ p. record { most = refl; store = refl; steps = refl; spent = omega arith }) (λ k p. set_step slots n w k e ss p h) r

    -- a choice
    first_step : (slots : Slots) (w k : ℕ) (e : Expr) (first other ss : Stmts) (p : Meters) → Holds slots e w → (w == 0) ≡ false →
        list (stmt_and (choose e first other) ss) (suc k) (at outer world slots p) ≡ and_then (meaning.closes (list first)) (λ done. list ss) k (at outer world slots (one_more (1 + (1 + p.steps)) p))
    unfolding exec exec_all either_way continue_either_way valued by_value either takes_a_turn with_state
    first_step slots w k e first other ss p h z = rw (h, z) refl

    other_step : (slots : Slots) (w k : ℕ) (e : Expr) (first other ss : Stmts) (p : Meters) → Holds slots e w → (w == 0) ≡ true →
        list (stmt_and (choose e first other) ss) (suc k) (at outer world slots p) ≡ and_then (meaning.closes (list other)) (λ done. list ss) k (at outer world slots (one_more (1 + (1 + p.steps)) p))
    unfolding exec exec_all either_way continue_either_way valued by_value either takes_a_turn with_state
    other_step slots w k e first other ss p h z = rw (h, z) refl

    two : (p : Meters) → Later 1 2 p (one_more (1 + (1 + p.steps)) p)
    two p = record { most = refl; store = refl; steps = omega arith; spent = omega arith }

    closed : {f : Computation (Unit {0})} {slots : Slots} {turns steps : ℕ} {Left : Slots → Type 0} → Runs outer world f slots turns steps (λ k st. normal tt k st) Left → Runs outer world (meaning.closes f) slots turns (steps + 2) (λ k st. normal tt k st) Left
    unfolding either_way continue_either_way with_state gives
    closed r = record {
      used = r.used;
      n = r.n + 2;
      after = r.after;
      left = r.left;
      few = r.few;
      cheap = omega (arith, r.cheap);
      is = λ k t p same. let (q, h, is) = r.is k t p same in (
        record { most = q.most; store = q.store; steps = 1 + (1 + q.steps); spent = q.spent },
        record { most = h.most; store = h.store; steps = omega (arith, h.steps); spent = h.spent },
        ap (continue_either_way (λ done. with_state meaning.counted_twice (gives tt)) ends) is,
      );
    }

    pub first_ends : {slots : Slots} {w : ℕ} {turns steps : ℕ} {end : Ending} {Left : Slots → Type 0} (e : Expr) (first other ss : Stmts) → Holds slots e w → (w == 0) ≡ false → Runs outer world (list first) slots turns steps (λ k st. ended end k st) Left →
        Runs outer world (list (stmt_and (choose e first other) ss)) slots (suc turns) (2 + steps) (λ k st. ended end k st) Left
    first_ends {slots = slots} {w = w} e first other ss h z r = one_then 2 (λ p. one_more (1 + (1 + p.steps)) p) two (λ k p. first_step slots w k e first other ss p h z) (runs_out (λ done. list ss) (runs_out (λ done. with_state meaning.counted_twice (gives tt)) r))

    pub other_ends : {slots : Slots} {w : ℕ} {turns steps : ℕ} {end : Ending} {Left : Slots → Type 0} (e : Expr) (first other ss : Stmts) → Holds slots e w → (w == 0) ≡ true → Runs outer world (list other) slots turns steps (λ k st. ended end k st) Left →
        Runs outer world (list (stmt_and (choose e first other) ss)) slots (suc turns) (2 + steps) (λ k st. ended end k st) Left
    other_ends {slots = slots} {w = w} e first other ss h z r = one_then 2 (λ p. one_more (1 + (1 + p.steps)) p) two (λ k p. other_step slots w k e first other ss p h z) (runs_out (λ done. list ss) (runs_out (λ done. with_state meaning.counted_twice (gives tt)) r))

    pub first_then : {slots : Slots} {w : ℕ} {turns steps more n : ℕ} {last : ℕ → State → Result (Unit {0})} {Middle Left : Slots → Type 0} (e : Expr) (first other ss : Stmts) → Holds slots e w → (w == 0) ≡ false →
        Runs outer world (list first) slots turns steps (λ k st. normal tt k st) Middle → ((s : Slots) → Middle s → Runs outer world (list ss) s more n last Left) →
        Runs outer world (list (stmt_and (choose e first other) ss)) slots (suc (turns + more)) (2 + (steps + 2 + n)) last Left
    first_then {slots = slots} {w = w} e first other ss h z r next = one_then 2 (λ p. one_more (1 + (1 + p.steps)) p) two (λ k p. first_step slots w k e first other ss p h z) (runs_then (λ done. list ss) (closed r) next)

    pub other_then : {slots : Slots} {w : ℕ} {turns steps more n : ℕ} {last : ℕ → State → Result (Unit {0})} {Middle Left : Slots → Type 0} (e : Expr) (first other ss : Stmts) → Holds slots e w → (w == 0) ≡ true →
        Runs outer world (list other) slots turns steps (λ k st. normal tt k st) Middle → ((s : Slots) → Middle s → Runs outer world (list ss) s more n last Left) →
        Runs outer world (list (stmt_and (choose e first other) ss)) slots (suc (turns + more)) (2 + (steps + 2 + n)) last Left
    other_then {slots = slots} {w = w} e first other ss h z r next = one_then 2 (λ p. one_more (1 + (1 + p.steps)) p) two (λ k p. other_step slots w k e first other ss p h z) (runs_then (λ done. list ss) (closed r) next)

    -- a choice without a second list that isn't taken, and one without a first
    pub skip_when : {slots : Slots} {w : ℕ} {turns steps : ℕ} {last : ℕ → State → Result (Unit {0})} {Left : Slots → Type 0} (e : Expr) (first ss : Stmts) → Holds slots e w → (w == 0) ≡ true →
        Runs outer world (list ss) slots turns steps last Left → Runs outer world (list (stmt_and (choose e first no_stmts) ss)) slots (suc turns) (4 + steps) last Left
    skip_when {slots = slots} {turns = turns} {steps = steps} {last = last} {Left = Left} e first ss h z r = at_most (other_then {Middle = λ s. s ≡ slots} e first no_stmts ss h z (at_end refl) (λ s same. subst (λ s. Runs outer world (list ss) s turns steps last Left) (sym same) r)) (omega arith) (omega arith)

    pub skip_unless : {slots : Slots} {w : ℕ} {turns steps : ℕ} {last : ℕ → State → Result (Unit {0})} {Left : Slots → Type 0} (e : Expr) (other ss : Stmts) → Holds slots e w → (w == 0) ≡ false →
        Runs outer world (list ss) slots turns steps last Left → Runs outer world (list (stmt_and (choose e no_stmts other) ss)) slots (suc turns) (4 + steps) last Left
    skip_unless {slots = slots} {turns = turns} {steps = steps} {last = last} {Left = Left} e other ss h z r = at_most (first_then {Middle = λ s. s ≡ slots} e no_stmts other ss h z (at_end refl) (λ s same. subst (λ s. Runs outer world (list ss) s turns steps last Left) (sym same) r)) (omega arith) (omega arith)

    return_step : (slots : Slots) (w k : ℕ) (e : Expr) (ss : Stmts) (p : Meters) → Holds slots e w →
        list (stmt_and (leave_with (e ∷ [])) ss) (suc k) (at outer world slots p) ≡ and_then {A = Unit {0}} {B = Unit {0}} (ends (returned (w ∷ []))) (λ done. list ss) k (at outer world slots (one_more (1 + (1 + p.steps)) p))
    unfolding exec exec_all either_way continue_either_way valued values by_value either takes_a_turn with_state ends
    return_step slots w k e ss p h = rw h refl

    signal_step : (slots : Slots) (k : ℕ) (name : List ℕ) (ss : Stmts) (p : Meters) →
        list (stmt_and (signal_name name []) ss) (suc k) (at outer world slots p) ≡ and_then {A = Unit {0}} {B = Unit {0}} (ends (signalled name [])) (λ done. list ss) k (at outer world slots (one_more (1 + (1 + p.steps)) p))
    unfolding exec exec_all either_way continue_either_way values either takes_a_turn with_state ends
    signal_step slots k name ss p = refl

    break_step : (slots : Slots) (k : ℕ) (ss : Stmts) (p : Meters) →
        list (stmt_and break_loop ss) (suc k) (at outer world slots p) ≡ and_then {A = Unit {0}} {B = Unit {0}} (ends broken) (λ done. list ss) k (at outer world slots (one_more (1 + (1 + p.steps)) p))
    unfolding exec exec_all either_way continue_either_way either takes_a_turn with_state ends
    break_step slots k ss p = refl

    -- what ends the list
    pub returns : {slots : Slots} {w : ℕ} {Left : Slots → Type 0} (e : Expr) (ss : Stmts) → Holds slots e w → Left slots →
        Runs outer world (list (stmt_and (leave_with (e ∷ [])) ss)) slots 1 2 (λ k st. ended (returned (w ∷ [])) k st) Left
    returns {slots = slots} {w = w} e ss h left = at_most (one_then 2 (λ p. one_more (1 + (1 + p.steps)) p) two (λ k p. return_step slots w k e ss p h) (runs_out (λ done. list ss) (run_ends left))) (omega arith) (omega arith)

    pub signals : {slots : Slots} {Left : Slots → Type 0} (name : List ℕ) (ss : Stmts) → Left slots →
        Runs outer world (list (stmt_and (signal_name name []) ss)) slots 1 2 (λ k st. ended (signalled name []) k st) Left
    signals {slots = slots} name ss left = at_most (one_then 2 (λ p. one_more (1 + (1 + p.steps)) p) two (λ k p. signal_step slots k name ss p) (runs_out (λ done. list ss) (run_ends left))) (omega arith) (omega arith)

    pub breaks : {slots : Slots} {Left : Slots → Type 0} (ss : Stmts) → Left slots → Runs outer world (list (stmt_and break_loop ss)) slots 1 2 (λ k st. ended broken k st) Left
    breaks {slots = slots} ss left = at_most (one_then 2 (λ p. one_more (1 + (1 + p.steps)) p) two (λ k p. break_step slots k ss p) (runs_out (λ done. list ss) (run_ends left))) (omega arith) (omega arith)
