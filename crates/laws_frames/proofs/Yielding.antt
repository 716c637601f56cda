-- Yields, and calls of routines.
use Rattle.std.proofs.Common.{◌≡◌, ◌∙◌, ℕ, zero, suc, ◌+◌, ◌-◌, ◌<◌, ◌≤◌, Bool, true, false, List, [], ◌∷◌, length, Option, Some, slice_get, refl, ap, ap₂, sym, subst, arith}
use Rattle.std.specs.Prelude.{◌&&◌, max, nat_le}
use Rattle.std.proofs.lemmas.Bool.{eqb-true}
use Rattle.std.proofs.lemmas.Option.{slice_get_within}
use Rattle.clu_base.proofs.Lists.{none_is_not}
use Rattle.clu_frames.specs.Plain.{Step}
use Rattle.clu_frames.specs.Plain as flat
use Rattle.clu_frames.specs.Flattening.{Made, Round, pushed, taken_onto}
use Rattle.clu_wir.specs.Plain.{Expr}
use Rattle.clu_word_meaning.specs.Words.{Body, Entry, Result, State, as_before, back_to, begun, body_ending, broken, call_ending, caller_of, calls, continue_either_way, continued, counted, counted_twice, either_way, ended, ends, exited, gives, is_same, need, no_body, normal, out_of_turns, put_slot, puts, raised, returned, rises, sees, signalled, takes, through, with_slots, with_state, wrong}
use Rattle.clu_word_meaning.specs.Words.{yields as yields_word}
use Rattle.clu_flat_meaning.specs.Image.{Instance, at_step}
use Rattle.clu_flat_meaning.specs.Machine.{Comes, Machine, address_of, arm_at, handed_out, invoked, is_address, next, number_at, on_step, put_at, put_in, recorded, running, stack_full, to_body, where_so, yielding, yields}
use Rattle.clu_flat_meaning.specs.Image.{Entry as PlaceEntry}
use Rattle.clu_flat_meaning.proofs.Runs.{Front, Once, address_so, at_push, both_so, comes_as, comes_same, comes_then, le_so, length_push, number_so, put_other, put_same, room_is, so_is}
use Rattle.clu_flat_meaning.proofs.Rising.{comes_peak}
use Rattle.laws_frames.specs.Calls.{Backs, Brings, Called, Carries, Context, Within}
use Rattle.laws_frames.specs.Promises.{instance_at}
use Rattle.laws_frames.proofs.Relation.{Arrives, Begins, Home, Keeps, Laws, Outcome, Place, Sees, beyond, regions}
use Rattle.laws_frames.proofs.Sim.{keeps_then}
use Rattle.laws_frames.proofs.Simple.{carries_less, excepts_less, keeps_put, owes, sees_counted, sees_put, stood}
use Rattle.laws_frames.proofs.Control.{step_there}
use Rattle.laws_frames.proofs.Rows.{row_carries}
use Rattle.laws_frames.proofs.Entering.{BodyOk, EntryOk, Local, Resumes, Yielded}
use Rattle.laws_frames.proofs.Iterating.{AllBelow, Took, reads_first, results_run}

-- what stands below a routine that runs in its frame
abbrev pub context_of : Place → Context
context_of p = record { inv = p.inv; out = p.out; site = p.site; caller = p.caller; link = p.link; last = p.fp; high = p.high }

module _ (p : Place) (Good : Expr → Type 0) (laws : Laws p Good) (once : Once p.shape.code) where
  abbrev code : List Step
  code = p.shape.code

  module _ (entries : ℕ → Entry) (round : Round) (m0 : Made) where
    -- Yields

    module _ (slot count : ℕ) (front : Front (pushed (flat.Yield slot count) m0).code code) (st0 : State) (c : Machine) (starts : Begins p laws.live round m0 st0 c) where
      abbrev after : ℕ
      after = length (pushed (flat.Yield slot count) m0).code

      -- the machine at the body of the loop
      abbrev yielded : Machine
      yielded = record (yielding p.image (handed_out p.image slot count c)) { who = instance_at p.link.body (c.stack (c.fp + 2)); pc = suc (suc p.site); clock = suc c.clock }

      body_is : (o : Option PlaceEntry) (body step : ℕ) (x : Machine) → o ≡ Some (at_step body step) → to_body p.image o x ≡ record x { who = instance_at body x.who.table; pc = suc step; clock = suc x.clock }
      unfolding to_body
      body_is o body step x e = rw e refl

      handed_same : (n : ℕ) → handed_out p.image slot n c ≡ record c { words = (handed_out p.image slot n c).words }
      unfolding handed_out
      handed_same zero = refl
      handed_same (suc n) = refl

      handed_words : (ws : List ℕ) → slot + length ws ≤ p.shape.frame → (d : Machine) → d.words ≡ (handed_out p.image slot (length ws) c).words → c.peak ≤ d.peak → ((i w : ℕ) → slice_get ws i ≡ Some w → d.stack (p.fp + 4 + slot + i) ≡ w) → Carries p.image p.fp ws d
      unfolding handed_out
      handed_words [] wide d e peak row = record { at = λ i w h. absurd (none_is_not w h) }
      handed_words (w ∷ ws) wide d e peak row =
          row_carries p Good laws once p.fp (p.fp + 4 + slot) (w ∷ ws) d (e ∙ ap (λ n. address_of (n + 4 + slot)) starts.sees.frame) (omega arith) (omega (arith, laws.deep)) (omega (arith, wide, starts.sees.room, peak)) row

      steps_out : Comes p.image c yielded
      unfolding on_step
      steps_out =
          let b : Machine = handed_out p.image slot count c in
          let x : Machine = record c { words = b.words } in
          let go : Machine = to_body p.image (p.image.entry (c.stack c.fp)) (yielding p.image b) in
          let z : yields p.image slot count c ≡ yielded =
          room_is (p.image.has_stack (c.top + 3)) stack_full (where_so (nat_le p.image.bottom c.top && is_address (c.stack (c.fp + 1))) go c) c (laws.honest.stack (c.top + 3))
          ∙ so_is (nat_le p.image.bottom c.top && is_address (c.stack (c.fp + 1))) go c
          (both_so (nat_le p.image.bottom c.top) (is_address (c.stack (c.fp + 1))) (le_so p.image.bottom c.top (omega (arith, laws.deep, starts.top))) (address_so (c.stack (c.fp + 1)) p.caller (ap (λ n. c.stack (n + 1)) starts.sees.frame ∙ starts.caller)))
          ∙ ap (λ y. to_body p.image (p.image.entry (c.stack c.fp)) (yielding p.image y)) (handed_same count)
          ∙ body_is (p.image.entry (c.stack c.fp)) p.link.body (suc p.site) (yielding p.image x) (ap p.image.entry (ap c.stack starts.sees.frame ∙ starts.site) ∙ laws.leads)
          ∙ ap (λ y. record (yielding p.image y) { who = instance_at p.link.body (c.stack (c.fp + 2)); pc = suc (suc p.site); clock = suc c.clock }) (sym (handed_same count)) in
          comes_as p.image c (on_step p.image p.shape (flat.Yield slot count) c) yielded z
          (step_there p Good laws once (length m0.code) (flat.Yield slot count) c starts.pc (stood p starts.sees) starts.mode (at_push m0.code code (flat.Yield slot count) front))

      own_leads : p.image.entry (p.image.address c.who.body (suc c.pc)) ≡ Some (at_step c.who.body (suc c.pc))
      own_leads = laws.honest.leads c.who.body c.pc p.shape (flat.Yield slot count) (ap (λ (i : Instance). p.image.body i.body) starts.sees.who ∙ laws.at_me) (ap (slice_get code) starts.pc ∙ at_push m0.code code (flat.Yield slot count) front) refl

      same_who : (a b : Instance) → a.body ≡ b.body → a.table ≡ b.table → a ≡ b
      same_who a b e f = ap₂ instance_at e f

      back_again : (d : Machine) → Comes p.image c d → d.top ≡ c.top + 3 → (same : (i : ℕ) → i < c.top → d.stack i ≡ c.stack i) →
          d.stack c.top ≡ p.image.address c.who.body (suc c.pc) → d.stack (c.top + 1) ≡ address_of c.fp → d.stack (c.top + 2) ≡ c.who.table → (st : State) → Resumes p.image (context_of p) d st → Arrives p round.work c.top c.stack c after c.top (counted_twice (back_to st0.slots st))
      back_again d k top same pc fp who st r =
          let now : (i : ℕ) → p.fp ≤ i → i < c.top → r.machine.stack i ≡ c.stack i = λ i g h. r.same i g (omega (arith, h, top)) ∙ same i h in
          let site = r.back c.who.body (suc c.pc) (ap (λ n. p.image.entry (d.stack n)) (let z : d.top - 3 ≡ c.top = omega (arith, top) in z) ∙ ap p.image.entry pc ∙ own_leads) in
          let come : Comes p.image c r.machine = comes_then p.image c d r.machine k r.comes in
          record {
            machine = r.machine;
            comes = come;
            pc = site.1 ∙ ap suc starts.pc ∙ sym (length_push m0.code (flat.Yield slot count));
            top = r.top ∙ (let z : d.top - 3 ≡ c.top = omega (arith, top) in z);
            mode = r.mode;
            sees = record {
              slots = λ n w h e. now (p.fp + 4 + n) (omega arith) (omega (arith, h, laws.small, starts.top)) ∙ starts.sees.slots n w h e;
              below = r.below;
              world = r.world;
              pay = r.pay;
              within = r.within;
              room = omega (arith, starts.sees.room, comes_peak p.image c r.machine come);
              who = same_who r.machine.who c.who site.0 (r.table ∙ ap d.stack (let z : d.top - 1 ≡ c.top + 2 = omega (arith, top) in z) ∙ who) ∙ starts.sees.who;
              frame = r.frame ∙ number_so (d.stack (d.top - 2)) c.fp (ap d.stack (let z : d.top - 2 ≡ c.top + 1 = omega (arith, top) in z) ∙ fp) ∙ starts.sees.frame;
            };
            keeps = record {
              foot = λ i h. now (p.fp + i) (omega arith) (omega (arith, h, starts.top));
              marks = λ i g h. r.same (p.fp + 4 + i) (omega arith) (omega (arith, top, small_mark i h)) ∙ same (p.fp + 4 + i) (small_mark i h);
              above = λ i g h. now i (omega (arith, g)) h;
            };
          }
        where
          small_mark : (i : ℕ) → i < round.work → p.fp + 4 + i < c.top
          small_mark i h = omega (arith, h, starts.top, starts.room)

      behind : (d : Machine) → Comes p.image c d → d.top ≡ c.top + 3 → (same : (i : ℕ) → i < c.top → d.stack i ≡ c.stack i) →
          d.stack c.top ≡ p.image.address c.who.body (suc c.pc) → d.stack (c.top + 1) ≡ address_of c.fp → d.stack (c.top + 2) ≡ c.who.table → (r : Result (Unit {0})) → Yielded p.image (context_of p) d r →
          Outcome p round after c.top c.stack c (continue_either_way (λ done. with_state (λ st. counted_twice (back_to st0.slots st)) (gives tt)) (λ e. with_state (back_to st0.slots) (body_ending e)) r)
      unfolding continue_either_way with_state gives ends body_ending
      behind d k top same pc fp who (normal u t st) o = back_again d k top same pc fp who st o
      behind d k top same pc fp who (ended continued t st) o = back_again d k top same pc fp who st o
      behind d k top same pc fp who (ended wrong t st) o = tt
      behind d k top same pc fp who (ended broken t st) o = (o.0, comes_then p.image c d o.0 k o.1, o.2)
      behind d k top same pc fp who (ended (returned ws) t st) o = (o.0, comes_then p.image c d o.0 k o.1, o.2)
      behind d k top same pc fp who (ended (signalled name ws) t st) o = (o.0, comes_then p.image c d o.0 k o.1, o.2)
      behind d k top same pc fp who (ended (raised name ws) t st) o = (o.0, comes_then p.image c d o.0 k o.1, o.2)
      behind d k top same pc fp who (ended (exited inside arm ws) t st) o = (o.0, comes_then p.image c d o.0 k o.1, o.2)
      behind d k top same pc fp who (ended (through e) t st) o = (o.0, comes_then p.image c d o.0 k o.1, o.2)
      behind d k top same pc fp who (out_of_turns st) o = record { machine = o.machine; comes = comes_then p.image c d o.machine k o.comes; there = o.there; output = o.output; mode = o.mode; pay = o.pay; within = o.within }

      pub yield_runs : (body : Body) → BodyOk p.image (context_of p) body → (ws : List ℕ) → count ≡ length ws → slot + length ws ≤ p.shape.frame → ((i w : ℕ) → slice_get ws i ≡ Some w → c.stack (p.fp + 4 + slot + i) ≡ w) → (turns : ℕ) →
          Outcome p round after c.top c.stack c (yields_word p.linked entries laws.live body ws turns st0)
      unfolding sees either_way with_state
      yield_runs body ok ws len wide row t =
          let d = yielded in
          let b : Machine = handed_out p.image slot count c in
          let place : ℕ = p.image.address c.who.body (suc c.pc) in
          let stacks : d.stack ≡ recorded p.image c = ap (λ (y : Machine). recorded p.image y) (handed_same count) in
          let s1 = put_at c.top place c.stack in
          let s2 = put_at (c.top + 1) (address_of c.fp) s1 in
          let now : (i : ℕ) → d.stack i ≡ put_at (c.top + 2) c.who.table s2 i = λ i. ap (λ (f : ℕ → ℕ). f i) stacks in
          let same : (i : ℕ) → i < c.top → d.stack i ≡ c.stack i = λ i h.
          now i ∙ put_other (c.top + 2) i c.who.table s2 (λ x. omega (arith, x, h)) ∙ put_other (c.top + 1) i (address_of c.fp) s1 (λ x. omega (arith, x, h)) ∙ put_other c.top i place c.stack (λ x. omega (arith, x, h)) in
          let at0 : d.stack c.top ≡ place = now c.top ∙ put_other (c.top + 2) c.top c.who.table s2 (λ x. omega (arith, x)) ∙ put_other (c.top + 1) c.top (address_of c.fp) s1 (λ x. omega (arith, x)) ∙ put_same c.top c.top place c.stack refl in
          let at1 : d.stack (c.top + 1) ≡ address_of c.fp = now (c.top + 1) ∙ put_other (c.top + 2) (c.top + 1) c.who.table s2 (λ x. omega (arith, x)) ∙ put_same (c.top + 1) (c.top + 1) (address_of c.fp) s1 refl in
          let at2 : d.stack (c.top + 2) ≡ c.who.table = now (c.top + 2) ∙ put_same (c.top + 2) (c.top + 2) c.who.table s2 refl in
          let top : d.top ≡ c.top + 3 = ap (λ (y : Machine). y.top + 3) (handed_same count) in
          let peak : d.peak ≡ max c.peak (c.top + 3) = ap (λ (y : Machine). max y.peak (y.top + 3)) (handed_same count) in
          let high : d.high ≡ max c.high (c.top + 3) = ap (λ (y : Machine). max y.high (y.top + 3)) (handed_same count) in
          let used : d.used ≡ c.used = ap (λ (y : Machine). y.used) (handed_same count) in
          let world : d.world ≡ c.world = ap (λ (y : Machine). y.world) (handed_same count) in
          let mode : d.mode ≡ c.mode = ap (λ (y : Machine). y.mode) (handed_same count) in
          let frame : d.fp ≡ number_at (c.stack (c.fp + 1)) = ap (λ (y : Machine). number_at (y.stack (y.fp + 1))) (handed_same count) in
          let value : d.value ≡ address_of (c.top + 3) = ap (λ (y : Machine). address_of (y.top + 3)) (handed_same count) in
          behind d steps_out top same at0 at1 at2
          (body (laws.live + 16) ws t (caller_of (rises (laws.live + 16) (counted 1 st0))))
          (ok.runs (laws.live + 16) t (rises (laws.live + 16) (counted 1 st0)) ws d (omega (arith, starts.low, top)) (record {
            pc = refl;
            who = ap (instance_at p.link.body) (ap (λ n. c.stack (n + 2)) starts.sees.frame ∙ starts.link);
            frame = frame ∙ number_so (c.stack (c.fp + 1)) p.caller (ap (λ n. c.stack (n + 1)) starts.sees.frame ∙ starts.caller);
            mode = mode ∙ starts.mode;
            top = omega (arith, starts.top, top);
            value = value ∙ ap address_of (sym top);
            words = handed_words ws wide d (ap (λ n. (handed_out p.image slot n c).words) len) (omega (arith, peak)) (λ i w e. same (p.fp + 4 + slot + i) (omega (arith, wide, slice_get_within ws i w e, starts.top)) ∙ row i w e);
            below = laws.local c.stack d.stack st0.outer (λ i h. same i (omega (arith, h, starts.top))) starts.sees.below;
            world = world ∙ starts.sees.world;
            pay = omega (arith, starts.sees.pay);
            within = (omega (arith, starts.sees.within.0, starts.low, peak), omega (arith, starts.sees.within.1, used), omega (arith, starts.sees.within.2), omega (arith, starts.sees.within.3, starts.low, high), omega (arith, top, high));
            room = omega (arith, top, peak);
            back = (c.who.body, suc c.pc, ap (λ n. p.image.entry (d.stack n)) (let z : d.top - 3 ≡ c.top = omega (arith, top) in z) ∙ ap p.image.entry at0 ∙ own_leads);
            saved = (c.fp, ap d.stack (let z : d.top - 2 ≡ c.top + 1 = omega (arith, top) in z) ∙ at1);
          }))

  -- What a call gave goes into slots

  pub brings_less : (low high : ℕ) (ws : List ℕ) (c : Machine) → low ≤ high → Brings p.image high ws c → Brings p.image low ws c
  brings_less low high [] c l k = tt
  brings_less low high (w ∷ []) c l k = k
  brings_less low high (w ∷ v ∷ ws) c l k = carries_less p.image low high (w ∷ v ∷ ws) c l k

  pub taken_run : (slots ws : List ℕ) (m : Made) (work top : ℕ) (s : ℕ → ℕ) (st : State) (c : Machine) → AllBelow p.base slots → length slots ≡ length ws →
      Front (taken_onto slots m).code code → c.pc ≡ length m.code → c.mode ≡ running → Sees p st c → Keeps p work top s c.stack → Brings p.image (beyond p) ws c → c.clock + length slots ≤ st.meters.steps →
      (d : Machine) × Took p Good laws once (taken_onto slots m) work top s (with_slots (puts slots ws) st) c d
  unfolding puts on_step
  taken_run [] ws m work top s st c ok e f pc mode see keep words more = (c, record { comes = comes_same p.image c; pc = pc; mode = mode; top = refl; sees = see; keeps = keep })
  taken_run (only ∷ []) [] m work top s st c ok e f pc mode see keep words more = absurd (omega (arith, e))
  taken_run (only ∷ []) (w ∷ []) m work top s st c ok e f pc mode see keep words more =
      let b : Machine = next (put_in only c.value c) in
      let k = step_there p Good laws once (length m.code) (flat.Take only) c pc (stood p see) mode (at_push m.code code (flat.Take only) f) in (
        b,
        record {
          comes = k;
          pc = ap suc pc ∙ sym (length_push m.code (flat.Take only));
          mode = mode;
          top = refl;
          sees = subst (λ x. Sees p (with_slots (put_slot only x) st) b) words (sees_put p st c only c.value laws.local ok.0 (owes p st c see) (omega (arith, more)));
          keeps = keeps_then p work top work top s c.stack b.stack (omega arith) (omega arith) keep (keeps_put p work top c only c.value ok.0 laws.small see.frame);
        },
      )
  taken_run (only ∷ []) (w ∷ v ∷ ws) m work top s st c ok e f pc mode see keep words more = absurd (omega (arith, e))
  taken_run (first ∷ second ∷ rest) [] m work top s st c ok e f pc mode see keep words more = absurd (omega (arith, e))
  taken_run (first ∷ second ∷ rest) (w ∷ []) m work top s st c ok e f pc mode see keep words more = absurd (omega (arith, e))
  taken_run (first ∷ second ∷ rest) (w ∷ v ∷ ws) m work top s st c ok e f pc mode see keep words more =
      results_run p Good laws once (first ∷ second ∷ rest) (w ∷ v ∷ ws) 0 m work top s st c ok (omega (arith, e)) f pc mode see keep (reads_first p Good laws once (w ∷ v ∷ ws) c words) more

  -- Calls

  module _ (entries : ℕ → Entry) (round : Round) (m0 : Made) (slot : ℕ) (routine : Expr) (results : List ℕ) (own : AllBelow p.base results)
      (front : Front (taken_onto results (pushed (flat.Invoke routine slot) m0)).code code) (first : Front (pushed (flat.Invoke routine slot) m0).code code) (st0 : State) (c : Machine) (starts : Begins p laws.live round m0 st0 c) where
    abbrev m1 : Made
    m1 = pushed (flat.Invoke routine slot) m0

    abbrev done : ℕ
    done = length (taken_onto results m1).code

    -- all that is below a procedure is as it was
    abbrev call_context : Context
    call_context = record { inv = λ s outer. (i : ℕ) → i < c.top → s i ≡ c.stack i; out = λ e st d. Unit {0}; site = c.pc; caller = c.fp; link = c.who; last = c.top; high = p.fp + 4 + p.shape.frame }

    no_body_ok : BodyOk p.image call_context no_body
    unfolding ends
    no_body_ok = record { runs = λ now t st ws d low at. tt }

    sees_again : (st : State) (b : Machine) → ((i : ℕ) → i < c.top → b.stack i ≡ c.stack i) → b.world ≡ st.world → b.who ≡ c.who → b.fp ≡ c.fp → st.meters.spent ≤ b.clock → Within st b → p.fp + 4 + p.shape.frame ≤ b.peak → Sees p (as_before st0 st) b
    sees_again st b same world who fp pay within room = record {
      slots = λ n w h e. same (p.fp + 4 + n) (omega (arith, h, laws.small, starts.top)) ∙ starts.sees.slots n w h e;
      below = laws.local c.stack b.stack st0.outer (λ i h. same i (omega (arith, h, starts.top))) starts.sees.below;
      world = world;
      who = who ∙ starts.sees.who;
      frame = fp ∙ starts.sees.frame;
      room = room;
      pay = pay;
      within = within;
    }

    keeps_again : (b : Machine) → ((i : ℕ) → i < c.top → b.stack i ≡ c.stack i) → Keeps p round.work c.top c.stack b.stack
    keeps_again b same = record {
      foot = λ i h. same (p.fp + i) (omega (arith, h, starts.top));
      marks = λ i g h. same (p.fp + 4 + i) (omega (arith, h, starts.room, starts.top));
      above = λ i g h. same i h;
    }

    given_case : (x : Machine) (b : Bool) (ws : List ℕ) (t : ℕ) (st : State) → b ≡ is_same (length results) (length ws) → Backs p.image call_context.inv c.fp c.who c.top (p.fp + 4 + p.shape.frame) x (suc c.pc) running (Brings p.image c.top ws) st →
        Outcome p round done c.top c.stack x (need b (with_state (with_slots (puts results ws)) (gives {A = Unit {0}} tt)) t (counted (length results) (as_before st0 st)))
    unfolding need with_state gives ends
    given_case x false ws t st e o = tt
    given_case x true ws t st e o =
        let n : length results ≡ length ws = eqb-true (length results) (length ws) (sym e) in
        let b = o.machine in
        let r = taken_run results ws m1 round.work c.top c.stack (counted (length results) (as_before st0 st)) b own n front (o.pc ∙ ap suc starts.pc ∙ sym (length_push m0.code (flat.Invoke routine slot))) o.mode
        (sees_counted p (length results) (as_before st0 st) b (sees_again st b o.below o.world o.who o.frame o.pay o.within o.room)) (keeps_again b o.below) (brings_less (beyond p) c.top ws b (omega (arith, laws.small, starts.top)) o.brings) (omega (arith, o.within.2)) in
        record { machine = r.0; comes = comes_then p.image x b r.0 o.comes r.1.comes; pc = r.1.pc; top = r.1.top ∙ o.top refl; mode = r.1.mode; sees = r.1.sees; keeps = r.1.keeps }

    called : (e : Machine) → Home p round.region c.pc → (r : Result (List ℕ)) → Called p.image call_context e r →
        Outcome p round done c.top c.stack e (continue_either_way (λ given. with_state (λ st. counted (length results) (as_before st0 st)) (takes p.linked entries results given)) (λ e. with_state (as_before st0) (call_ending e)) r)
    unfolding continue_either_way with_state call_ending ends
    called e home (normal given t st) o = given_case e (is_same (length results) (length given)) given t st refl o
    called e home (ended (raised name ws) t st) o = record {
      machine = o.machine;
      comes = o.comes;
      mode = o.mode;
      home = ap (λ x. arm_at (regions p) x o.machine.value) o.pc ∙ home.finds o.machine.value;
      excepts = excepts_less p.image (beyond p) c.top name ws o.machine (omega (arith, laws.small, starts.top)) o.brings;
      sees = sees_again st o.machine o.below o.world o.who o.frame o.pay o.within o.room;
      keeps = keeps_again o.machine o.below;
    }
    called e home (ended (through x) t st) o = tt
    called e home (ended broken t st) o = tt
    called e home (ended continued t st) o = tt
    called e home (ended (returned ws) t st) o = tt
    called e home (ended (signalled name ws) t st) o = tt
    called e home (ended (exited inside arm ws) t st) o = tt
    called e home (ended wrong t st) o = tt
    called e home (out_of_turns st) o = record { machine = o.machine; comes = o.comes; there = o.there; output = o.output; mode = o.mode; pay = o.pay; within = o.within }

    local_call : Local p.image call_context
    local_call = record { on = λ s now outer same b i h. same i h ∙ b i h; leads = laws.honest.leads c.who.body c.pc p.shape (flat.Invoke routine slot) (ap (λ (i : Instance). p.image.body i.body) starts.sees.who ∙ laws.at_me) (ap (slice_get code) starts.pc ∙ at_push m0.code code (flat.Invoke routine slot) first) refl; deep = omega (arith, laws.deep, starts.top); high = starts.top }

    pub call_runs : Home p round.region c.pc → (w : ℕ) → EntryOk p.image w (entries w) → (ws : List ℕ) (t : ℕ) → ((i v : ℕ) → slice_get ws i ≡ Some v → c.stack (c.fp + 4 + slot + i) ≡ v) → slot + length ws ≤ p.shape.frame → suc c.clock ≤ st0.meters.steps →
        Outcome p round done c.top c.stack (invoked p.image (p.image.descriptor w) slot c) (calls p.linked entries laws.live w ws results t st0)
    unfolding either_way with_state sees
    call_runs home w ok ws t row wide more =
        called (invoked p.image (p.image.descriptor w) slot c) home (entries w laws.live no_body ws t (begun [] st0))
        (ok.runs call_context local_call laws.live starts.low no_body no_body_ok ws t (begun [] st0) c slot (record {
          pc = refl;
          who = refl;
          mode = starts.mode;
          frame = refl;
          top = refl;
          words = row;
          inside = omega (arith, wide, starts.sees.frame);
          deep = omega (arith, laws.deep, starts.sees.frame);
          room = starts.sees.room;
          below = λ i h. refl;
          world = starts.sees.world;
          pay = starts.sees.pay;
          within = starts.sees.within;
          more = more;
        }))
