-- Assignments, and the words of expressions.
use Rattle.std.proofs.Common.{◌≡◌, ◌≢◌, ◌∙◌, ℕ, suc, ◌+◌, ◌*◌, ◌<◌, ◌≤◌, ◌==◌, Bool, true, false, List, length, Option, Some, None, slice_get, refl, ap, sym, subst, arith, true≢false}
use Rattle.std.specs.Prelude.{if◌then◌else◌, ◌&&◌, nat_le, nat_lt}
use Rattle.std.proofs.lemmas.Bool.{eqb-true}
use Rattle.std.proofs.lemmas.Bool.Decides.{nat_tests}
use Rattle.std.proofs.lemmas.Option.{same_Some}
use Rattle.clu_frames.specs.Plain.{Step}
use Rattle.clu_frames.specs.Plain as flat
use Rattle.clu_frames.specs.Flattening.{Made, Onto, Round, pushed}
use Rattle.clu_wir.specs.Plain.{Expr}
use Rattle.clu_wir.specs.Value.{Gives, Raises, Stuck, Value}
use Rattle.clu_wir.specs.declared.trap.Trap.{Trap}
use Rattle.clu_word_meaning.specs.Words.{Computation, Entry, Slots, State, by_value, counted, ends, gives, put_slot, valued, with_slots, with_state}
use Rattle.clu_flat_meaning.specs.Image.{Image, Instance}
use Rattle.clu_flat_meaning.specs.Machine.{Comes, Machine, address_of, by_word, is_address, is_frame, next, number_at, on_step, put_at, put_in, running, searching, with_word, word_below}
use Rattle.clu_flat_meaning.proofs.Runs.{Front, Once, address_is, at_push, both_so, comes_same, le_so, length_push, number_is, one, put_other, put_same}
use Rattle.laws_frames.specs.Calls.{Carries, Excepts}
use Rattle.laws_frames.specs.Promises.{Honest}
use Rattle.laws_frames.proofs.Relation.{Agree, Begins, Fit, Home, Keeps, Laws, Outcome, Owes, Place, Sees, SeesBy, Starts, StartsBy, beyond}
use Rattle.laws_frames.proofs.Sim.{before, keeps_same}

-- a slot of word code that is put

slot_by : (b : Bool) (w v : ℕ) (o : Option ℕ) → (if b then Some w else o) ≡ Some v → (b ≡ true → w ≡ v → ⊥) → o ≡ Some v
slot_by true w v o e k = absurd (k refl (same_Some w v e))
slot_by false w v o e k = e

put_slot_at : (b : Bool) (m n w v x y : ℕ) (o : Option ℕ) → (m == n) ≡ b → (if b then Some w else o) ≡ Some v → (m ≡ n → x ≡ w) → (m ≢ n → o ≡ Some v → x ≡ v) → x ≡ v
put_slot_at true m n w v x y o t e f g = f (eqb-true m n t) ∙ same_Some w v e
put_slot_at false m n w v x y o t e f g = g (λ same. true≢false (sym (let r : (m == n) ≡ true = grind (arith, nat_tests, same) in r) ∙ t)) e

-- a word that is fixed
by_fixed : (b : Bool) (o other : Option ℕ) (w : ℕ) → b ≡ true → o ≡ Some w → (if b then o else other) ≡ Some w
by_fixed b o other w e f = rw (e, f) refl

pub fixed_word : (image : Image) (end : ℕ) (s : ℕ → ℕ) (a w : ℕ) → a < address_of image.bottom → image.fixed a ≡ Some w → word_below image end s a ≡ Some w
fixed_word image end s a w l e = let t : nat_lt a (address_of image.bottom) ≡ true = grind (arith, nat_tests, l) in by_fixed (nat_lt a (address_of image.bottom)) (image.fixed a) _ w t e

-- what travels from above one number travels from above a lower one
pub carries_less : (image : Image) (low high : ℕ) (ws : List ℕ) (c : Machine) → low ≤ high → Carries image high ws c → Carries image low ws c
carries_less image low high ws c l k = record { at = λ i w e s same. k.at i w e s (λ n g. same n (omega (arith, g, l))) }

pub excepts_less : (image : Image) (low high : ℕ) (name ws : List ℕ) (c : Machine) → low ≤ high → Excepts image high name ws c → Excepts image low name ws c
excepts_less image low high name ws c l k = record { named = k.named; words = carries_less image low high ws c l k.words }

-- a word of the stack that is read
by_stack : (b c : Bool) (o : Option ℕ) (v w : ℕ) → b ≡ false → c ≡ true → v ≡ w → (if b then o else (if c then Some v else None)) ≡ Some w
by_stack b c o v w e f g = rw (e, f, g) refl

pub stack_word : (image : Image) (end : ℕ) (s : ℕ → ℕ) (n w : ℕ) → image.bottom ≤ n → n < end → s n ≡ w → word_below image end s (address_of n) ≡ Some w
stack_word image end s n w deep high e =
    let low : nat_lt (address_of n) (address_of image.bottom) ≡ false = grind (arith, nat_tests, deep) in
    let under : nat_lt (number_at (address_of n)) end ≡ true = let z : number_at (address_of n) ≡ n = number_is n in grind (arith, nat_tests, z, high) in
    by_stack (nat_lt (address_of n) (address_of image.bottom)) (is_address (address_of n) && nat_lt (number_at (address_of n)) end) (image.fixed (address_of n)) (s (number_at (address_of n))) w
    low (both_so (is_address (address_of n)) (nat_lt (number_at (address_of n)) end) (address_is n) under) (ap s (number_is n) ∙ e)

module _ (p : Place) where
  pub owes : (st : State) (c : Machine) → Sees p st c → Owes p st c
  owes st c s = record { slots = s.slots; below = s.below; world = s.world; who = s.who; frame = s.frame; room = s.room; pay = omega (arith, s.pay); within = s.within }

  pub sees_counted : {slack : ℕ → ℕ} → (n : ℕ) (st : State) (c : Machine) → SeesBy p slack st c → SeesBy p slack (counted n st) c
  sees_counted n st c s = record { slots = s.slots; below = s.below; world = s.world; who = s.who; frame = s.frame; room = s.room; pay = s.pay; within = (s.within.0, s.within.1, omega (arith, s.within.2), s.within.3, s.within.4) }

  -- the first slots of a frame take a word
  pub sees_put : (st : State) (c : Machine) (n w : ℕ) → ((s now : ℕ → ℕ) (outer : List Slots) → ((i : ℕ) → i < p.fp → now i ≡ s i) → p.inv s outer → p.inv now outer) →
      n < p.base → Owes p st c → suc c.clock ≤ st.meters.steps → Sees p (with_slots (put_slot n w) st) (next (put_in n w c))
  sees_put st c n w local l s more = record {
    slots = λ m v h e. put_slot_at (m == n) m n w v (put_at (c.fp + 4 + n) w c.stack (p.fp + 4 + m)) 0 (st.slots m) refl e
        (λ same. put_same (c.fp + 4 + n) (p.fp + 4 + m) w c.stack (omega (arith, same, s.frame)))
        (λ other is. put_other (c.fp + 4 + n) (p.fp + 4 + m) w c.stack (λ x. other (omega (arith, x, s.frame))) ∙ s.slots m v h is);
    below = local c.stack (put_at (c.fp + 4 + n) w c.stack) st.outer (λ i h. put_other (c.fp + 4 + n) i w c.stack (λ x. omega (arith, x, h, s.frame))) s.below;
    world = s.world;
    who = s.who;
    frame = s.frame;
    room = s.room;
    pay = omega (arith, s.pay);
    within = (s.within.0, s.within.1, more, s.within.3, s.within.4);
  }

  pub keeps_put : (work top : ℕ) (c : Machine) (n w : ℕ) → n < p.base → p.base ≤ p.shape.frame → c.fp ≡ p.fp → Keeps p work top c.stack (put_at (c.fp + 4 + n) w c.stack)
  keeps_put work top c n w l small e = record {
    foot = λ i h. put_other (c.fp + 4 + n) (p.fp + i) w c.stack (λ x. omega (arith, x, h, e));
    marks = λ i g h. put_other (c.fp + 4 + n) (p.fp + 4 + i) w c.stack (λ x. omega (arith, x, g, l, e));
    above = λ i g h. put_other (c.fp + 4 + n) i w c.stack (λ x. omega (arith, x, g, l, small, e));
  }

  -- a slot for work takes a word
  pub sees_work : (st : State) (c : Machine) (n w : ℕ) → ((s now : ℕ → ℕ) (outer : List Slots) → ((i : ℕ) → i < p.fp → now i ≡ s i) → p.inv s outer → p.inv now outer) →
      p.base ≤ n → Owes p st c → suc c.clock ≤ st.meters.steps → Sees p st (next (put_in n w c))
  sees_work st c n w local l s more = record {
    slots = λ m v h e. put_other (c.fp + 4 + n) (p.fp + 4 + m) w c.stack (λ x. omega (arith, x, h, l, s.frame)) ∙ s.slots m v h e;
    below = local c.stack (put_at (c.fp + 4 + n) w c.stack) st.outer (λ i h. put_other (c.fp + 4 + n) i w c.stack (λ x. omega (arith, x, h, s.frame))) s.below;
    world = s.world;
    who = s.who;
    frame = s.frame;
    room = s.room;
    pay = omega (arith, s.pay);
    within = (s.within.0, s.within.1, more, s.within.3, s.within.4);
  }

  pub keeps_work : (work top : ℕ) (c : Machine) (n w : ℕ) → work ≤ n → n < p.shape.frame → c.fp ≡ p.fp → Keeps p work top c.stack (put_at (c.fp + 4 + n) w c.stack)
  keeps_work work top c n w l small e = record {
    foot = λ i h. put_other (c.fp + 4 + n) (p.fp + i) w c.stack (λ x. omega (arith, x, h, e));
    marks = λ i g h. put_other (c.fp + 4 + n) (p.fp + 4 + i) w c.stack (λ x. omega (arith, x, h, l, e));
    above = λ i g h. put_other (c.fp + 4 + n) i w c.stack (λ x. omega (arith, x, g, small, e));
  }

  -- the machine stands in the routine's frame
  pub record Stood (c : Machine) : Type 0 where
    pub who : c.who ≡ p.me
    pub frame : c.fp ≡ p.fp
    pub room : p.fp + 4 + p.shape.frame ≤ c.peak

  pub stood : {slack : ℕ → ℕ} {st : State} {c : Machine} → SeesBy p slack st c → Stood c
  stood s = record { who = s.who; frame = s.frame; room = s.room }

  pub frame_so : (c : Machine) → p.image.bottom ≤ p.fp → Stood c → is_frame p.image p.shape c ≡ true
  frame_so c deep h = both_so (nat_le p.image.bottom c.fp) (nat_le (c.fp + (4 + p.shape.frame)) c.peak)
      (le_so p.image.bottom c.fp (omega (arith, deep, h.frame))) (le_so (c.fp + (4 + p.shape.frame)) c.peak (omega (arith, h.frame, h.room)))

  trap_objects : Honest p.image p.linked → (t : Trap) (c : Machine) → c.words ≡ p.image.trap_objects t → Carries p.image (beyond p) (p.linked.trap_words t) c
  trap_objects h t c e = record {
    at = λ i w is s same.
        let k = h.objects t i w is in
        ap (λ a. word_below p.image c.peak s (a + 8 * i)) e ∙ fixed_word p.image c.peak s (p.image.trap_objects t + 8 * i) w k.0 k.1;
  }

  module _ (Good : Expr → Type 0) (laws : Laws p Good) (once : Once p.shape.code) where
    -- the word of an expression, at the step that has it, or where another word of the step was found
    by_agree : (round : Round) (at top : ℕ) (s : ℕ → ℕ) (x c : Machine) (entries : ℕ → Entry) (v v' : Value) → Agree p v v' →
        (f : ℕ → Computation (Unit {0})) (g : ℕ → Machine → Machine) (turns : ℕ) (st : State) → Owes p st c → Keeps p round.work top s c.stack → Home p round.region c.pc →
        Comes p.image x (by_word p.image v' g c) →
        ((w : ℕ) → Outcome p round at top s (g w c) (f w turns (counted 1 st))) →
        Outcome p round at top s x (by_value p.linked entries v f turns (counted 1 st))
    unfolding by_value by_word ends
    by_agree round at top s x c entries (Gives w) v' e f g turns st see keep home k h =
        before p round at top s x (g w c) (f w turns (counted 1 st)) (subst (λ v. Comes p.image x (by_word p.image v g c)) e k) (h w)
    by_agree round at top s x c entries (Raises t) v' e f g turns st see keep home k h =
        let d : Machine = record c { clock = suc c.clock; mode = searching; value = p.image.trap_name t; words = p.image.trap_objects t } in
        record {
          machine = d;
          comes = subst (λ v. Comes p.image x (by_word p.image v g c)) e k;
          mode = refl;
          home = home.finds d.value;
          excepts = record { named = laws.honest.traps t; words = trap_objects laws.honest t d refl };
          sees = record { slots = see.slots; below = see.below; world = see.world; who = see.who; frame = see.frame; room = see.room; pay = omega (arith, see.pay); within = (see.within.0, see.within.1, omega (arith, see.within.2), see.within.3, see.within.4) };
          keeps = keep;
        }
    by_agree round at top s x c entries Stuck v' e f g turns st see keep home k h = tt

    pub valued_from : (round : Round) (at top : ℕ) (s : ℕ → ℕ) (x c : Machine) (entries : ℕ → Entry) (e : Expr) → Good e →
        (f : ℕ → Computation (Unit {0})) (g : ℕ → Machine → Machine) (turns : ℕ) (st : State) → Owes p st c → Keeps p round.work top s c.stack → Home p round.region c.pc →
        Comes p.image x (with_word p.image e g c) →
        ((w : ℕ) → Outcome p round at top s (g w c) (f w turns (counted 1 st))) →
        Outcome p round at top s x (valued p.linked entries e f turns st)
    unfolding valued
    valued_from round at top s x c entries e good f g turns st see keep home k h =
        by_agree round at top s x c entries _ _ (laws.agrees e good st c see) f g turns st see keep home k h

    pub valued_runs : (round : Round) (at top : ℕ) (s : ℕ → ℕ) (c : Machine) (entries : ℕ → Entry) (e : Expr) → Good e →
        (f : ℕ → Computation (Unit {0})) (g : ℕ → Machine → Machine) (turns : ℕ) (st : State) → Owes p st c → Keeps p round.work top s c.stack → Home p round.region c.pc →
        Comes p.image c (with_word p.image e g c) →
        ((w : ℕ) → Outcome p round at top s (g w c) (f w turns (counted 1 st))) →
        Outcome p round at top s c (valued p.linked entries e f turns st)
    valued_runs round at top s c entries e good f g turns st see keep home k h = valued_from round at top s c c entries e good f g turns st see keep home k h

    abbrev pub Does : Computation (Unit {0}) → Onto → Type 0
    Does f on = (round : Round) (m : Made) (turns : ℕ) (st : State) (c : Machine) → Fit p round → Front (on round m).code p.shape.code → Starts p laws.live round m st c →
        Outcome p round (length (on round m).code) c.top c.stack c (f turns st)

    -- a step of the routine at a place
    pub there : (at : ℕ) (step : Step) (c : Machine) → c.pc ≡ at → Stood c → c.mode ≡ running → slice_get p.shape.code at ≡ Some step → Comes p.image c (on_step p.image p.shape step c)
    there at step c e h m f = one p.image p.shape step c (ap (λ (x : Instance). p.image.body x.body) h.who ∙ laws.at_me) m (ap (slice_get p.shape.code) e ∙ f) (frame_so c laws.deep h)

    pub step_at : {slack : ℕ → ℕ} → (m : Made) (step : Step) (round : Round) (st : State) (c : Machine) → Front (pushed step m).code p.shape.code → StartsBy p slack laws.live round m st c →
        Comes p.image c (on_step p.image p.shape step c)
    step_at m step round st c f s = there (length m.code) step c s.pc (stood s.sees) s.mode (at_push m.code p.shape.code step f)

    pub next_pc : {slack : ℕ → ℕ} → (m : Made) (step : Step) (round : Round) (st : State) (c : Machine) → StartsBy p slack laws.live round m st c → suc c.pc ≡ length (pushed step m).code
    next_pc m step round st c s = ap suc s.pc ∙ sym (length_push m.code step)

    pub set_runs : (entries : ℕ → Entry) (n : ℕ) (e : Expr) (round : Round) (m : Made) (turns : ℕ) (st : State) (c : Machine) → n < p.base → Good e → Home p round.region (length m.code) →
        Fit p round → Front (pushed (flat.Set n e) m).code p.shape.code → Begins p laws.live round m st c →
        Outcome p round (length (pushed (flat.Set n e) m).code) c.top c.stack c (valued p.linked entries e (λ w. with_state (with_slots (put_slot n w)) (gives tt)) turns st)
    unfolding on_step with_state gives
    set_runs entries n e round m turns st c l good home fit f s =
        valued_runs round _ c.top c.stack c entries e good _ (λ w c. next (put_in n w c)) turns st s.sees (keeps_same p round.work c.top c.stack)
        (subst (Home p round.region) (sym s.pc) home) (step_at m (flat.Set n e) round st c f s)
        (λ w. record {
          machine = next (put_in n w c);
          comes = comes_same p.image (next (put_in n w c));
          pc = next_pc m (flat.Set n e) round st c s;
          top = refl;
          mode = s.mode;
          sees = sees_put (counted 1 st) c n w laws.local l (sees_counted 1 st c s.sees) (omega (arith, s.sees.within.2));
          keeps = keeps_put round.work c.top c n w l laws.small s.sees.frame;
        })
