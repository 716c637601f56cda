-- Loops over iterators.
use Rattle.std.proofs.Common.{◌≡◌, ◌∙◌, ℕ, suc, ◌+◌, ◌-◌, ◌*◌, ◌<◌, ◌≤◌, Bool, true, false, List, [], ◌∷◌, length, Option, Some, None, slice_get, refl, ap, sym, subst, arith}
use Rattle.std.specs.Prelude.{max, nat_le}
use Rattle.std.proofs.lemmas.Bool.{eqb-true}
use Rattle.clu_frames.specs.Plain.{Step}
use Rattle.clu_frames.specs.Plain as flat
use Rattle.clu_frames.specs.declared.surroundings.Turns.{Turns}
use Rattle.clu_frames.specs.Flattening.{Guarding, Made, Onto, Round, in_turns, pushed, results_onto, turns_at}
use Rattle.clu_wir.specs.Plain.{Expr}
use Rattle.clu_word_meaning.specs.Words.{Body, Computation, Ending, Entry, Result, Slots, State, broken, called_from, caller_of, continue_either_way, continued, counted, counted_twice, either_way, ended, ends, exited, first_of, gives, is_same, iterates, loop_ending, need, normal, out_of_turns, put_slot, puts, raised, rest_of, returned, signalled, takes, through, with_slots, with_state, wrong}
use Rattle.clu_flat_meaning.specs.Image.{Instance, at_step}
use Rattle.clu_flat_meaning.specs.Machine.{Comes, Machine, address_of, arm_at, goes_to, invoked, is_address, is_record, next, number_at, on_step, or_wrong, place_of, put_in, resumes, resuming, running, travelled, word_below}
use Rattle.clu_flat_meaning.proofs.Runs.{Front, Once, address_so, at_push, both_so, comes_as, comes_same, comes_then, front_back, front_more, front_push, front_same, label_place, le_so, length_push, number_so, put_other, put_same, so_is}
use Rattle.clu_flat_meaning.proofs.Rising.{comes_peak}
use Rattle.laws_frames.specs.Calls.{Called, Carries, Context, Spends, Within}
use Rattle.laws_frames.specs.Promises.{instance_at}
use Rattle.laws_frames.proofs.Relation.{Arrives, ArrivesBy, AtArm, AtSlots, Begins, Fit, Home, IsMark, Keeps, Lands, Laws, Outcome, Place, Sees, Starts, beyond, laws_at, regions}
use Rattle.laws_frames.proofs.Sim.{before, foot_zero, guards_from, keeps_same, keeps_then, mark_kept}
use Rattle.laws_frames.proofs.Simple.{excepts_less, keeps_put, keeps_work, owes, sees_counted, sees_put, sees_work, stood}
use Rattle.laws_frames.proofs.Control.{DoesAt, Fronts, over_end, over_label, step_there}
use Rattle.laws_frames.proofs.Rows.{returns_is}
use Rattle.laws_frames.proofs.Entering.{AtBody, BodyOk, EntryOk, Local, Resumes, Yielded}

-- each slot is one of the routine's own
abbrev pub AllBelow : ℕ → List ℕ → Type 0
AllBelow base [] = Unit {0}
AllBelow base (n ∷ ns) = (n < base) × AllBelow base ns

module _ (p : Place) (Good : Expr → Type 0) (laws : Laws p Good) (once : Once p.shape.code) where
  abbrev code : List Step
  code = p.shape.code

  -- Words that travelled go into slots

  pub record Took (m : Made) (work bound : ℕ) (s : ℕ → ℕ) (st : State) (c d : Machine) : Type 0 where
    pub comes : Comes p.image c d
    pub pc : d.pc ≡ length m.code
    pub mode : d.mode ≡ running
    pub top : d.top ≡ c.top
    pub sees : Sees p st d
    pub keeps : Keeps p work bound s d.stack

  pub results_front : (n : ℕ) (slots : List ℕ) (m : Made) → Front m.code (results_onto n slots m).code
  results_front n [] m = front_same m.code
  results_front n (slot ∷ slots) m = front_more _ _ _ (front_push m.code (flat.Result slot n)) (results_front (n + 1) slots (pushed (flat.Result slot n) m))

  -- words that travel, from one of them on
  abbrev pub Reads : ℕ → List ℕ → Machine → Type 0
  Reads n ws c = (i w : ℕ) → slice_get ws i ≡ Some w → (s : ℕ → ℕ) → ((k : ℕ) → beyond p ≤ k → s k ≡ c.stack k) → word_below p.image c.peak s (c.words + 8 * (n + i)) ≡ Some w

  pub reads_first : (ws : List ℕ) (c : Machine) → Carries p.image (beyond p) ws c → Reads 0 ws c
  reads_first ws c k = λ i w e s same. (let z : c.words + 8 * (0 + i) ≡ c.words + 8 * i = omega arith in ap (word_below p.image c.peak s) z) ∙ k.at i w e s same

  result_is : (o : Option ℕ) (w : ℕ) (f : ℕ → Machine) (c : Machine) → o ≡ Some w → or_wrong o f c ≡ f w
  unfolding or_wrong
  result_is o w f c e = rw e refl

  pub results_run : (slots ws : List ℕ) (n : ℕ) (m : Made) (work top : ℕ) (s : ℕ → ℕ) (st : State) (c : Machine) → AllBelow p.base slots → length slots ≤ length ws →
      Front (results_onto n slots m).code code → c.pc ≡ length m.code → c.mode ≡ running → Sees p st c → Keeps p work top s c.stack → Reads n ws c → c.clock + length slots ≤ st.meters.steps →
      (d : Machine) × Took (results_onto n slots m) work top s (with_slots (puts slots ws) st) c d
  unfolding puts on_step
  results_run [] ws n m work top s st c ok e f pc mode see keep words more = (c, record { comes = comes_same p.image c; pc = pc; mode = mode; top = refl; sees = see; keeps = keep })
  results_run (slot ∷ slots) [] n m work top s st c ok e f pc mode see keep words more = absurd (omega (arith, e))
  results_run (slot ∷ slots) (w ∷ ws) n m work top s st c ok e f pc mode see keep words more =
      let m1 : Made = pushed (flat.Result slot n) m in
      let f1 : Front m1.code code = front_more _ _ _ (results_front (n + 1) slots m1) f in
      let b : Machine = next (put_in slot w c) in
      let h : travelled p.image c n ≡ Some w = (let z : c.words + 8 * n ≡ c.words + 8 * (n + 0) = omega arith in ap (word_below p.image c.peak c.stack) z) ∙ words 0 w refl c.stack (λ k g. refl) in
      let k : Comes p.image c b = comes_as p.image c (on_step p.image p.shape (flat.Result slot n) c) b (result_is (travelled p.image c n) w (λ v. next (put_in slot v c)) c h)
      (step_there p Good laws once (length m.code) (flat.Result slot n) c pc (stood p see) mode (at_push m.code code (flat.Result slot n) f1)) in
      let sb : Sees p (with_slots (put_slot slot w) st) b = sees_put p st c slot w laws.local ok.0 (owes p st c see) (omega (arith, more)) in
      let kb : Keeps p work top s b.stack = keeps_then p work top work top s c.stack b.stack (omega arith) (omega arith) keep (keeps_put p work top c slot w ok.0 laws.small see.frame) in
      let r = results_run slots ws (n + 1) m1 work top s (with_slots (put_slot slot w) st) b ok.1 (omega (arith, e)) f (ap suc pc ∙ sym (length_push m.code (flat.Result slot n))) mode sb kb
      (λ i v h x same. (let z : c.words + 8 * (n + 1 + i) ≡ c.words + 8 * (n + suc i) = omega arith in ap (word_below p.image c.peak x) z)
      ∙ words (suc i) v h x (λ k g. same k g ∙ put_other (c.fp + 4 + slot) k w c.stack (λ y. omega (arith, y, g, see.frame, ok.0)))) (omega (arith, more)) in
      (r.0, record { comes = comes_then p.image c b r.0 k r.1.comes; pc = r.1.pc; mode = r.1.mode; top = r.1.top; sees = r.1.sees; keeps = r.1.keeps })

  -- The loop

  -- a loop over an iterator, behind its call: the places of its parts
  module _ (entries : ℕ → Entry) (round : Round) (fit : Fit p round) (m0 : Made) (l : ℕ) (items : List ℕ) (below : AllBelow p.base items) (small : round.work < p.shape.frame)
      (on : Onto) (fronts : Fronts on) (routine : Expr) (slot : ℕ) where
    abbrev turns : Turns
    turns = turns_at l round.mark

    abbrev m1 : Made
    m1 = pushed (flat.Invoke routine slot) m0

    abbrev m2 : Made
    m2 = pushed (flat.Jump (l + 1)) m1

    abbrev m3 : Made
    m3 = pushed (flat.Take round.work) m2

    abbrev m4 : Made
    m4 = results_onto 0 items m3

    abbrev m5 : Made
    m5 = on (in_turns turns round) m4

    abbrev m6 : Made
    m6 = pushed (flat.Label l) m5

    abbrev m7 : Made
    m7 = pushed (flat.Resume round.work) m6

    abbrev m8 : Made
    m8 = pushed (flat.Label (l + 1)) m7

    module _ (front : Front m8.code code) (st0 : State) (c : Machine) (starts : Begins p laws.live round m0 st0 c) where
      f7 : Front m7.code code
      f7 = front_back m7.code code (flat.Label (l + 1)) front

      f6 : Front m6.code code
      f6 = front_back m6.code code (flat.Resume round.work) f7

      f5 : Front m5.code code
      f5 = front_back m5.code code (flat.Label l) f6

      f4 : Front m4.code code
      f4 = front_more m4.code m5.code code (fronts (in_turns turns round) m4) f5

      f3 : Front m3.code code
      f3 = front_more m3.code m4.code code (results_front 0 items m3) f4

      f2 : Front m2.code code
      f2 = front_back m2.code code (flat.Take round.work) f3

      f1 : Front m1.code code
      f1 = front_back m1.code code (flat.Jump (l + 1)) f2

      end_at : place_of code (l + 1) ≡ length m7.code
      end_at = label_place code once (length m7.code) (l + 1) (at_push m7.code code (flat.Label (l + 1)) front)

      next_at : place_of code l ≡ length m5.code
      next_at = label_place code once (length m5.code) l (at_push m5.code code (flat.Label l) f6)

      -- what is true of the stack below the iterator: the loop's routine has its slots, and the rest is as it was
      pub record Below (s : ℕ → ℕ) (outer : List Slots) : Type 0 where
        pub slots : (n w : ℕ) → n < p.base → first_of outer n ≡ Some w → s (p.fp + 4 + n) ≡ w
        pub rest : p.inv s (rest_of outer)
        pub keeps : Keeps p round.work c.top c.stack s

      abbrev pub loop_context : Context
      loop_context = record {
        inv = Below;
        out = λ e st d. (turns' : ℕ) → Outcome p round (length m8.code) c.top c.stack d (loop_ending (through e) turns' st);
        site = c.pc;
        caller = c.fp;
        link = c.who;
        last = c.top;
        high = p.fp + 4 + p.shape.frame;
      }

      local_below : Local p.image loop_context
      local_below = record {
        leads = laws.honest.leads c.who.body c.pc p.shape (flat.Invoke routine slot) (ap (λ (i : Instance). p.image.body i.body) starts.sees.who ∙ laws.at_me) (ap (slice_get code) starts.pc ∙ at_push m0.code code (flat.Invoke routine slot) f1) refl;
        deep = omega (arith, laws.deep, starts.top);
        high = starts.top;
        on = λ s now outer same b. record {
          slots = λ n w h e. same (p.fp + 4 + n) (omega (arith, h, laws.small, starts.top)) ∙ b.slots n w h e;
          rest = laws.local s now (rest_of outer) (λ i h. same i (omega (arith, h, starts.top))) b.rest;
          keeps = keeps_then p round.work c.top round.work c.top c.stack s now (omega arith) (omega arith) b.keeps (record {
            foot = λ i h. same (p.fp + i) (omega (arith, h, starts.top));
            marks = λ i g h. same (p.fp + 4 + i) (omega (arith, h, small, starts.top));
            above = λ i g h. same i h;
          });
        };
      }

      sees_below : (s : ℕ → ℕ) (st : State) (d : Machine) → Below d.stack (st.outer) → d.world ≡ st.world → d.who ≡ c.who → d.fp ≡ c.fp → st.meters.spent ≤ d.clock → Within st d → p.fp + 4 + p.shape.frame ≤ d.peak → Sees p (caller_of st) d
      sees_below s st d b w who fp pay within room = record { slots = b.slots; below = b.rest; world = w; who = who ∙ starts.sees.who; frame = fp ∙ starts.sees.frame; room = room; pay = pay; within = within }

      -- What the loop's body ends with, besides its next turn

      end_loop : (top : ℕ) (s : ℕ → ℕ) (d : Machine) (st : State) → Keeps p round.work c.top c.stack s → c.top ≤ top →
          ArrivesBy p suc (round.work + 1) top s d (place_of code (l + 1)) (number_at (s (p.fp + round.mark))) st → Arrives p round.work c.top c.stack d (length m8.code) c.top (counted 1 st)
      end_loop top s d st k le a =
          over_end p Good laws once 0 round.work c.top c.stack d m7 (l + 1) c.top st front (record {
            machine = a.machine;
            comes = a.comes;
            pc = a.pc ∙ end_at;
            top = a.top ∙ ap number_at (mark_kept p round.work c.top round.mark c.stack s fit.mark k) ∙ number_so (c.stack (p.fp + round.mark)) c.top starts.mark;
            mode = a.mode;
            sees = a.sees;
            keeps = keeps_then p round.work c.top (round.work + 1) top c.stack s a.machine.stack (omega arith) le k a.keeps;
          })

      arrives_out : (top : ℕ) (s : ℕ → ℕ) (d : Machine) (at mark : ℕ) (st : State) → Keeps p round.work c.top c.stack s → c.top ≤ top → IsMark p round.work mark →
          Arrives p (round.work + 1) top s d at (number_at (s (p.fp + mark))) st → Arrives p round.work c.top c.stack d at (number_at (c.stack (p.fp + mark))) st
      arrives_out top s d at mark st k le f a = record {
        machine = a.machine;
        comes = a.comes;
        pc = a.pc;
        top = a.top ∙ ap number_at (mark_kept p round.work c.top mark c.stack s f k);
        mode = a.mode;
        sees = a.sees;
        keeps = keeps_then p round.work c.top (round.work + 1) top c.stack s a.machine.stack (omega arith) le k a.keeps;
      }

      slots_out : (o : Option (List ℕ)) (label mark : ℕ) (ws : List ℕ) (top : ℕ) (s : ℕ → ℕ) (d : Machine) (st : State) → Keeps p round.work c.top c.stack s → c.top ≤ top → IsMark p round.work mark →
          AtSlots p o label mark ws (round.work + 1) top s d st → AtSlots p o label mark ws round.work c.top c.stack d st
      slots_out None label mark ws top s d st k le f o = tt
      slots_out (Some slots) label mark ws top s d st k le f o = λ e. arrives_out top s d _ mark _ k le f (o e)

      arm_out : (g : Option Guarding) (arm : ℕ) (ws : List ℕ) (top : ℕ) (s : ℕ → ℕ) (d : Machine) (st : State) → Keeps p round.work c.top c.stack s → c.top ≤ top →
          ((h : Guarding) → g ≡ Some h → IsMark p round.work h.mark) → AtArm p g arm ws (round.work + 1) top s d st → AtArm p g arm ws round.work c.top c.stack d st
      arm_out None arm ws top s d st k le f o = tt
      arm_out (Some g) arm ws top s d st k le f o = slots_out (slice_get g.slots arm) (g.label + arm) g.mark ws top s d st k le (f g refl) o

      -- The machine d was yielded to, and goes on at the body of the loop with this stack

      module _ (d : Machine) (s : ℕ → ℕ) (high : c.top + 3 ≤ d.top) (kept : Keeps p round.work c.top c.stack d.stack) (held : Keeps p round.work d.top d.stack s)
          (slot_is : s (p.fp + 4 + round.work) ≡ address_of d.top) (room : d.top ≤ d.peak) (body step : ℕ) (back : p.image.entry (d.stack (d.top - 3)) ≡ Some (at_step body step))
          (frame : ℕ) (saved : d.stack (d.top - 2) ≡ address_of frame) where
        from_call : Keeps p round.work c.top c.stack s
        from_call = keeps_then p round.work c.top round.work d.top c.stack d.stack s (omega arith) (omega (arith, high)) kept held

        resumes_is : (x : Machine) (a n m : ℕ) → a ≡ address_of n → p.image.bottom + 3 ≤ n → n ≤ x.peak → x.stack (n - 2) ≡ address_of m → resumes p.image a x ≡ resuming p.image (n - 3) x
        resumes_is x a n m ea low high em =
            let e : number_at a ≡ n = number_so a n ea in
            so_is (is_record p.image a x) (resuming p.image (number_at a - 3) x) x
            (both_so (is_address a) _ (address_so a n ea)
            (both_so (nat_le (p.image.bottom + 3) (number_at a)) _ (le_so (p.image.bottom + 3) (number_at a) (omega (arith, e, low)))
            (both_so (nat_le (number_at a) x.peak) _ (le_so (number_at a) x.peak (omega (arith, e, high))) (address_so (x.stack (number_at a - 2)) m (ap (λ k. x.stack (k - 2)) e ∙ em)))))
            ∙ ap (λ k. resuming p.image (k - 3) x) e

        same_site : (b n : ℕ) → p.image.entry (d.stack (d.top - 3)) ≡ Some (at_step b n) → (body ≡ b) × (step ≡ n)
        same_site b n e =
            let same : Some (at_step body step) ≡ Some (at_step b n) = sym back ∙ e in
            (cc, cc)

        -- the next turn: the record is taken off
        resume : (st : State) → Arrives p (round.work + 1) d.top s d (length m5.code) d.top st → Resumes p.image loop_context d st
        unfolding on_step
        resume st a =
            let b = over_label p Good laws once 0 (round.work + 1) d.top s d m5 l d.top st f6 a in
            let x = b.machine in
            let low : ℕ = d.top - 3 in
            let k = step_there p Good laws once (length m6.code) (flat.Resume round.work) x b.pc (stood p b.sees) b.mode (at_push m6.code code (flat.Resume round.work) f7) in
            let t : x.stack (x.fp + 4 + round.work) ≡ address_of d.top =
            ap (λ f. x.stack (f + 4 + round.work)) b.sees.frame ∙ b.keeps.marks round.work fit.work (omega arith) ∙ slot_is in
            let same : (i : ℕ) → c.top ≤ i → i < d.top → x.stack i ≡ d.stack i =
            λ i g h. b.keeps.above i (omega (arith, g, starts.top)) h ∙ held.above i (omega (arith, g, starts.top)) h in
            let at : p.image.entry (x.stack low) ≡ Some (at_step body step) = ap p.image.entry (same low (omega (arith, high)) (omega (arith, high))) ∙ back in
            let y : Machine = record x { top = low; high = max x.high low; fp = number_at (x.stack (low + 1)); who = instance_at body (x.stack (low + 2)); pc = step; clock = suc x.clock } in
            let is : on_step p.image p.shape (flat.Resume round.work) x ≡ y =
            resumes_is x (x.stack (x.fp + 4 + round.work)) d.top frame t (omega (arith, laws.deep, starts.top, high)) (omega (arith, room, comes_peak p.image d x b.comes)) (same (d.top - 2) (omega (arith, high)) (omega (arith, high)) ∙ saved)
            ∙ returns_is p Good laws once (p.image.entry (x.stack low)) body step
            (record x { top = low; high = max x.high low; fp = number_at (x.stack (low + 1)); who = record x.who { table = x.stack (low + 2) } }) at in
            record {
              machine = y;
              comes = comes_then p.image d x y b.comes (comes_as p.image x (on_step p.image p.shape (flat.Resume round.work) x) y is k);
              back = λ b n e. same_site b n e;
              frame = ap number_at ((let z : low + 1 ≡ d.top - 2 = omega (arith, high) in ap x.stack z) ∙ same (d.top - 2) (omega (arith, high)) (omega (arith, high)));
              table = (let z : low + 2 ≡ d.top - 1 = omega (arith, high) in ap x.stack z) ∙ same (d.top - 1) (omega (arith, high)) (omega (arith, high));
              top = refl;
              mode = b.mode;
              same = same;
              below = record { slots = b.sees.slots; rest = b.sees.below; keeps = keeps_then p round.work c.top (round.work + 1) d.top c.stack s x.stack (omega arith) (omega (arith, high)) from_call b.keeps };
              world = b.sees.world;
              pay = omega (arith, b.sees.pay);
              within = (b.sees.within.0, b.sees.within.1, omega (arith, b.sees.within.2), omega (arith, b.sees.within.3, b.sees.within.4, b.top), omega arith);
            }

        -- what the body ends with, where it isn't its end
        body_lands : (t : ℕ) (e : Ending) (st : State) → Lands p (in_turns turns round) d.top s d e st → Yielded p.image loop_context d (ended e t st)
        unfolding loop_ending with_state gives ends
        body_lands t broken st o = (d, comes_same p.image d, λ n. end_loop d.top s d st from_call (omega (arith, high)) o)
        body_lands t continued st o = resume st (record { machine = o.machine; comes = o.comes; pc = o.pc ∙ next_at; top = o.top; mode = o.mode; sees = o.sees; keeps = o.keeps })
        body_lands t (returned ws) st o = (d, comes_same p.image d, λ n. o)
        body_lands t (signalled name ws) st o = (d, comes_same p.image d, λ n. o)
        body_lands t (raised name ws) st o = (
          d,
          comes_same p.image d,
          λ n. record {
            machine = o.machine;
            comes = o.comes;
            mode = o.mode;
            home = o.home;
            excepts = o.excepts;
            sees = o.sees;
            keeps = keeps_then p round.work c.top (round.work + 1) d.top c.stack s o.machine.stack (omega arith) (omega (arith, high)) from_call o.keeps;
          },
        )
        body_lands t (exited inside arm ws) st o = (d, comes_same p.image d, λ n. arm_out (slice_get round.guards inside) arm ws d.top s d st from_call (omega (arith, high)) (λ g e. fit.guards inside g e) o)
        body_lands t (through x) st o = (d, comes_same p.image d, λ n. o)
        body_lands t wrong st o = tt

        body_outcome : (r : Result (Unit {0})) → Outcome p (in_turns turns round) (length m5.code) d.top s d r → Yielded p.image loop_context d r
        body_outcome (normal u t st) o = resume st o
        body_outcome (ended e t st) o = body_lands t e st o
        body_outcome (out_of_turns st) o = o

      -- The body at a yield

      module _ (inner : ℕ → Computation (Unit {0})) (does : (now : ℕ) → DoesAt p Good (laws_at p laws now) once (in_turns turns round) m4 (inner now) on) where
        abbrev loop_body : Body
        loop_body = λ now given. with_state (counted (suc (length items))) (either_way (takes p.linked entries items given) (λ done. inner now) ends)

        yielded_front : (st : State) (d : Machine) (b : Machine) → (e : Machine) → Yielded p.image loop_context e (out_of_turns st) → Comes p.image d e → Spends p.image d st
        yielded_front st d b e o k = record { machine = o.machine; comes = comes_then p.image d e o.machine k o.comes; there = o.there; output = o.output; mode = o.mode; pay = o.pay; within = o.within }

        taken : (now : ℕ) (b : Bool) (ws : List ℕ) (t : ℕ) (st : State) (d : Machine) → d.top ≤ now → b ≡ is_same (length items) (length ws) → AtBody p.image loop_context ws st d →
            Yielded p.image loop_context d (continue_either_way (λ done. inner now) ends (need b (with_state (with_slots (puts items ws)) (gives {A = Unit {0}} tt)) t (counted (suc (length items)) (caller_of st))))
        unfolding need with_state gives ends continue_either_way on_step
        taken now false ws t st d low e at = tt
        taken now true ws t st d low e at =
            let n : length items ≡ length ws = eqb-true (length items) (length ws) (sym e) in
            let see : Sees p (counted (suc (length items)) (caller_of st)) d = sees_counted p (suc (length items)) (caller_of st) d (sees_below d.stack st d at.below at.world at.who at.frame at.pay at.within (omega (arith, at.room, at.top, starts.top))) in
            let x : Machine = next (put_in round.work d.value d) in
            let place : d.pc ≡ length m2.code = at.pc ∙ ap (λ z. suc (suc z)) starts.pc ∙ sym (length_push m1.code (flat.Jump (l + 1)) ∙ ap suc (length_push m0.code (flat.Invoke routine slot))) in
            let k = step_there p Good laws once (length m2.code) (flat.Take round.work) d place (stood p see) at.mode (at_push m2.code code (flat.Take round.work) f3) in
            let sx = sees_work p (counted (suc (length items)) (caller_of st)) d round.work d.value laws.local fit.work (owes p (counted (suc (length items)) (caller_of st)) d see) (omega (arith, at.within.2)) in
            let kx = keeps_work p round.work d.top d round.work d.value (omega arith) small see.frame in
            let r = results_run items ws 0 m3 (round.work + 1) d.top x.stack (counted (suc (length items)) (caller_of st)) x below (omega (arith, n)) f4 (ap suc place ∙ sym (length_push m2.code (flat.Take round.work))) at.mode sx
            (keeps_same p (round.work + 1) d.top x.stack)
            (λ i w h z same. (let n : d.words + 8 * (0 + i) ≡ d.words + 8 * i = omega arith in ap (word_below p.image d.peak z) n)
            ∙ at.words.at i w h z (λ k g. same k (omega (arith, g, laws.small, starts.top)) ∙ put_other (d.fp + 4 + round.work) k d.value d.stack (λ y. omega (arith, y, g, see.frame, small, starts.top)))) (omega (arith, at.within.2)) in
            let y = r.0 in
            let ky : Keeps p round.work d.top d.stack y.stack = keeps_then p round.work d.top (round.work + 1) d.top d.stack x.stack y.stack (omega arith) (omega arith) kx r.1.keeps in
            let is : y.stack (p.fp + 4 + round.work) ≡ address_of d.top =
            r.1.keeps.marks round.work fit.work (omega arith) ∙ put_same (d.fp + 4 + round.work) (p.fp + 4 + round.work) d.value d.stack (omega (arith, see.frame)) ∙ at.value in
            let kc : Keeps p round.work c.top c.stack y.stack = keeps_then p round.work c.top round.work d.top c.stack d.stack y.stack (omega arith) (omega (arith, at.top)) at.below.keeps ky in
            let outer : y.stack (p.fp + round.mark) ≡ address_of c.top = mark_kept p round.work c.top round.mark c.stack y.stack fit.mark kc ∙ starts.mark in
            let sy : Starts p now (in_turns turns round) m4 (with_slots (puts items ws) (counted (suc (length items)) (caller_of st))) y = record {
              pc = r.1.pc;
              mode = r.1.mode;
              top = omega (arith, r.1.top, at.top, starts.top);
              room = omega (arith, small);
              mark = (let z : p.fp + (round.work + 4) ≡ p.fp + 4 + round.work = omega arith in ap y.stack z) ∙ is ∙ ap address_of (sym r.1.top);
              site = foot_zero p round.work c.top c.stack y.stack kc ∙ starts.site;
              caller = kc.foot 1 (omega arith) ∙ starts.caller;
              link = kc.foot 2 (omega arith) ∙ starts.link;
              low = omega (arith, low, r.1.top);
              cut = record { address = outer ∙ ap address_of (sym (number_so (y.stack (p.fp + round.mark)) c.top outer)); low = omega (arith, number_so (y.stack (p.fp + round.mark)) c.top outer, at.top, r.1.top) };
              guards = guards_from p round.guards round.work c.top c.top y.top c.stack y.stack fit.guards kc (omega (arith, at.top, r.1.top)) starts.guards;
              sees = r.1.sees;
            } in
            let o = does now t (with_slots (puts items ws) (counted (suc (length items)) (caller_of st))) y f5 sy in
            let o2 : Outcome p (in_turns turns round) (length m5.code) d.top y.stack y (inner now t (with_slots (puts items ws) (counted (suc (length items)) (caller_of st)))) =
            subst (λ top. Outcome p (in_turns turns round) (length m5.code) top y.stack y (inner now t (with_slots (puts items ws) (counted (suc (length items)) (caller_of st))))) r.1.top o in
            body_outcome d y.stack at.top at.below.keeps ky is at.room at.back.0 at.back.1 at.back.2 at.saved.0 at.saved.1 (inner now t (with_slots (puts items ws) (counted (suc (length items)) (caller_of st))))
            (before p (in_turns turns round) (length m5.code) d.top y.stack d y (inner now t (with_slots (puts items ws) (counted (suc (length items)) (caller_of st)))) (comes_then p.image d x y k r.1.comes) o2)

        body_ok : BodyOk p.image loop_context loop_body
        unfolding either_way with_state
        body_ok = record { runs = λ now t st ws d low at. taken now (is_same (length items) (length ws)) ws t st d low refl at }

        -- The call

        came_back : (e : Machine) (t : ℕ) (st : State) (b : Machine) → Comes p.image e b → b.pc ≡ suc c.pc → b.who ≡ c.who → b.fp ≡ c.fp → b.top ≡ c.top → b.mode ≡ running → Below b.stack st.outer → b.world ≡ st.world → st.meters.spent ≤ b.clock → Within st b → p.fp + 4 + p.shape.frame ≤ b.peak →
            Arrives p round.work c.top c.stack e (length m8.code) c.top (counted_twice (caller_of st))
        unfolding on_step
        came_back e t st b k pc who fp top mode below world pay within room =
            let see = sees_below b.stack st b below world who fp pay within room in
            let place : b.pc ≡ length m1.code = pc ∙ ap suc starts.pc ∙ sym (length_push m0.code (flat.Invoke routine slot)) in
            let g = step_there p Good laws once (length m1.code) (flat.Jump (l + 1)) b place (stood p see) mode (at_push m1.code code (flat.Jump (l + 1)) f2) in
            let x : Machine = goes_to (place_of code (l + 1)) b in
            over_label p Good laws once 0 round.work c.top c.stack e m7 (l + 1) c.top (counted 1 (caller_of st)) front (record {
              machine = x;
              comes = comes_then p.image e b x k g;
              pc = end_at;
              top = top;
              mode = mode;
              sees = record { slots = see.slots; below = see.below; world = see.world; who = see.who; frame = see.frame; room = see.room; pay = omega (arith, see.pay); within = (see.within.0, see.within.1, omega (arith, see.within.2), see.within.3, see.within.4) };
              keeps = below.keeps;
            })

        called : (e : Machine) → Home p round.region c.pc → (r : Result (List ℕ)) → Called p.image loop_context e r →
            Outcome p round (length m8.code) c.top c.stack e (continue_either_way (λ given. with_state (λ st. counted_twice (caller_of st)) (gives tt)) (λ e. with_state caller_of (loop_ending e)) r)
        unfolding continue_either_way with_state gives loop_ending ends
        called e home (normal given t st) o = came_back e t st o.machine o.comes o.pc o.who o.frame (o.top refl) o.mode o.below o.world o.pay o.within o.room
        called e home (ended (raised name ws) t st) o = record {
          machine = o.machine;
          comes = o.comes;
          mode = o.mode;
          home = ap (λ x. arm_at (regions p) x o.machine.value) o.pc ∙ home.finds o.machine.value;
          excepts = excepts_less p.image (beyond p) c.top name ws o.machine (omega (arith, laws.small, starts.top)) o.brings;
          sees = sees_below o.machine.stack st o.machine o.below o.world o.who o.frame o.pay o.within o.room;
          keeps = o.below.keeps;
        }
        called e home (ended (through broken) t st) o = before p round _ c.top c.stack e o.0 (normal tt t (counted 1 (caller_of st))) o.1 (o.2 t)
        called e home (ended (through continued) t st) o = before p round (length m8.code) c.top c.stack e o.0 (ended continued t (caller_of st)) o.1 (o.2 t)
        called e home (ended (through (returned ws)) t st) o = before p round (length m8.code) c.top c.stack e o.0 (ended (returned ws) t (caller_of st)) o.1 (o.2 t)
        called e home (ended (through (signalled name ws)) t st) o = before p round (length m8.code) c.top c.stack e o.0 (ended (signalled name ws) t (caller_of st)) o.1 (o.2 t)
        called e home (ended (through (raised name ws)) t st) o = before p round (length m8.code) c.top c.stack e o.0 (ended (raised name ws) t (caller_of st)) o.1 (o.2 t)
        called e home (ended (through (exited inside arm ws)) t st) o = before p round (length m8.code) c.top c.stack e o.0 (ended (exited inside arm ws) t (caller_of st)) o.1 (o.2 t)
        called e home (ended (through (through x)) t st) o = before p round (length m8.code) c.top c.stack e o.0 (ended (through x) t (caller_of st)) o.1 (o.2 t)
        called e home (ended (through wrong) t st) o = tt
        called e home (ended broken t st) o = tt
        called e home (ended continued t st) o = tt
        called e home (ended (returned ws) t st) o = tt
        called e home (ended (signalled name ws) t st) o = tt
        called e home (ended (exited inside arm ws) t st) o = tt
        called e home (ended wrong t st) o = tt
        called e home (out_of_turns st) o = record { machine = o.machine; comes = o.comes; there = o.there; output = o.output; mode = o.mode; pay = o.pay; within = o.within }

        -- the call of the iterator, whose arguments lie side by side
        pub iterate_runs : Home p round.region c.pc → (w : ℕ) → EntryOk p.image w (entries w) → (ws : List ℕ) (t : ℕ) → ((i v : ℕ) → slice_get ws i ≡ Some v → c.stack (c.fp + 4 + slot + i) ≡ v) → slot + length ws ≤ p.shape.frame →
            suc c.clock ≤ st0.meters.steps → Outcome p round (length m8.code) c.top c.stack (invoked p.image (p.image.descriptor w) slot c) (iterates p.linked entries laws.live w ws loop_body t st0)
        unfolding either_way with_state
        iterate_runs home w ok ws t row wide more =
            called (invoked p.image (p.image.descriptor w) slot c) home (entries w laws.live loop_body ws t (called_from st0))
            (ok.runs loop_context local_below laws.live starts.low loop_body body_ok ws t (called_from st0) c slot (record {
              pc = refl;
              who = refl;
              mode = starts.mode;
              frame = refl;
              top = refl;
              words = row;
              inside = omega (arith, wide, starts.sees.frame);
              deep = omega (arith, laws.deep, starts.sees.frame);
              room = starts.sees.room;
              below = record { slots = starts.sees.slots; rest = starts.sees.below; keeps = keeps_same p round.work c.top c.stack };
              world = starts.sees.world;
              pay = starts.sees.pay;
              within = starts.sees.within;
              more = more;
            }))
