-- Lists and loops.
use Rattle.std.proofs.Common.{◌≡◌, ◌∙◌, ℕ, zero, suc, ◌+◌, ◌≤◌, List, length, Some, slice_get, refl, ap, sym, subst, arith}
use Rattle.clu_frames.specs.Plain.{Step}
use Rattle.clu_frames.specs.Plain as flat
use Rattle.clu_frames.specs.declared.surroundings.Turns.{Turns}
use Rattle.clu_frames.specs.Flattening.{Made, Onto, Round, in_loop, labelled, pushed, turns_onto}
use Rattle.clu_wir.specs.Plain.{Expr}
use Rattle.clu_word_meaning.specs.World.{World}
use Rattle.clu_word_meaning.specs.Words.{Computation, Result, State, broken, continue_either_way, continued, counted, either_way, ended, ends, exited, gives, loop_at, normal, out_of_turns, paid, raised, returned, signalled, spends_a_turn, takes_a_turn, through, turn_ending, turned, with_state, wrong}
use Rattle.clu_flat_meaning.specs.Image.{Instance}
use Rattle.clu_flat_meaning.specs.Machine.{Comes, Machine, address_of, goes_to, next, on_step, place_of, running}
use Rattle.clu_flat_meaning.proofs.Runs.{Front, Once, at_push, comes_same, comes_then, front_back, front_more, label_place, length_push}
use Rattle.laws_frames.specs.Calls.{Within}
use Rattle.laws_frames.proofs.Relation.{Arrives, ArrivesBy, AtEnd, Begins, Fit, Keeps, Laws, Outcome, Owes, Place, Starts, StartsBy, cut_top}
use Rattle.laws_frames.proofs.Sim.{before, foot_zero, guards_from, keeps_same, low_from, mark_kept, outcome_from, then_runs}
use Rattle.laws_frames.proofs.Simple.{Stood, owes, stood, there}

abbrev pub Fronts : Onto → Type 0
Fronts on = (round : Round) (m : Made) → Front m.code (on round m).code

module _ (p : Place) where
  -- a step more at which the machine only goes on
  pub later : (n : ℕ) (work top : ℕ) (s : ℕ → ℕ) (c d : Machine) (at last : ℕ) (st : State) (a : ArrivesBy p suc work top s c at last st) → Comes p.image a.machine d →
      d.pc ≡ suc at → d.top ≡ a.machine.top → d.mode ≡ running → d.stack ≡ a.machine.stack → d.world ≡ a.machine.world → d.who ≡ a.machine.who → d.fp ≡ a.machine.fp → suc a.machine.clock ≤ d.clock → d.clock ≤ suc a.machine.clock → d.peak ≡ a.machine.peak → d.used ≡ a.machine.used → d.high ≡ a.machine.high →
      Arrives p work top s c (suc at) last (counted (suc n) st)
  later n work top s c d at last st a k e t m x w who fp on least peak used high = record {
    machine = d;
    comes = comes_then p.image c a.machine d a.comes k;
    pc = e;
    top = t ∙ a.top;
    mode = m;
    sees = record {
      slots = λ n v l h. ap (λ (f : ℕ → ℕ). f (p.fp + 4 + n)) x ∙ a.sees.slots n v l h;
      below = subst (λ (f : ℕ → ℕ). p.inv f st.outer) (sym x) a.sees.below;
      world = w ∙ a.sees.world;
      who = who ∙ a.sees.who;
      frame = fp ∙ a.sees.frame;
      room = omega (arith, a.sees.room, peak);
      pay = omega (arith, a.sees.pay, on);
      within = (omega (arith, a.sees.within.0, peak), omega (arith, a.sees.within.1, used), omega (arith, a.sees.within.2, least), omega (arith, a.sees.within.3, high), omega (arith, a.sees.within.4, high, t));
    };
    keeps = subst (λ (f : ℕ → ℕ). Keeps p work top s f) (sym x) a.keeps;
  }

  -- the next statement begins where one has ended
  pub starts_on : {slack : ℕ → ℕ} → {live : ℕ} → (round : Round) (m m' : Made) (st st' : State) (c d : Machine) (at : ℕ) → Fit p round → StartsBy p slack live round m st c → (a : Arrives p round.work c.top c.stack c at c.top st') → at ≡ length m'.code → Starts p live round m' st' a.machine
  starts_on round m m' st st' c d at fit s a e = record {
    pc = a.pc ∙ e;
    mode = a.mode;
    top = omega (arith, s.top, a.top);
    room = s.room;
    mark = mark_kept p round.work c.top round.mark c.stack a.machine.stack fit.mark a.keeps ∙ s.mark ∙ ap address_of (sym a.top);
    site = foot_zero p round.work c.top c.stack a.machine.stack a.keeps ∙ s.site;
    caller = a.keeps.foot 1 (omega arith) ∙ s.caller;
    link = a.keeps.foot 2 (omega arith) ∙ s.link;
    low = omega (arith, s.low, a.top);
    cut = low_from p round.turns round.work c.top c.top a.machine.top c.stack a.machine.stack fit.turns a.keeps (omega (arith, a.top)) s.cut;
    guards = guards_from p round.guards round.work c.top c.top a.machine.top c.stack a.machine.stack fit.guards a.keeps (omega (arith, a.top)) s.guards;
    sees = a.sees;
  }

  pub goes_on : {slack : ℕ → ℕ} → {live : ℕ} → (round : Round) (m m' : Made) (st st' : State) (c d : Machine) (at to : ℕ) (r : Result (Unit {0})) → Fit p round → StartsBy p slack live round m st c → (a : Arrives p round.work c.top c.stack d at c.top st') →
      Outcome p round to a.machine.top a.machine.stack a.machine r → Outcome p round to c.top c.stack a.machine r
  goes_on round m m' st st' c d at to r fit s a o =
      outcome_from p round to c.top c.stack a.machine.stack a.machine r fit a.keeps (subst (λ t. Outcome p round to t a.machine.stack a.machine r) a.top o)

  module _ (Good : Expr → Type 0) (laws : Laws p Good) (once : Once p.shape.code) where
    abbrev pub DoesAt : Round → Made → Computation (Unit {0}) → Onto → Type 0
    DoesAt round m f on = (turns : ℕ) (st : State) (c : Machine) → Front (on round m).code p.shape.code → Starts p laws.live round m st c →
        Outcome p round (length (on round m).code) c.top c.stack c (f turns st)

    -- the same where the turn of the statement is to be paid
    abbrev pub DoesNext : Round → Made → Computation (Unit {0}) → Onto → Type 0
    DoesNext round m f on = (turns : ℕ) (st : State) (c : Machine) → Front (on round m).code p.shape.code → Begins p laws.live round m st c →
        Outcome p round (length (on round m).code) c.top c.stack c (f turns st)

    begins_turned : (round : Round) (m : Made) (st : State) (c : Machine) → Starts p laws.live round m st c → Begins p laws.live round m (turned st) c
    begins_turned round m st c s = record {
      pc = s.pc;
      mode = s.mode;
      top = s.top;
      room = s.room;
      mark = s.mark;
      site = s.site;
      caller = s.caller;
      link = s.link;
      low = s.low;
      cut = s.cut;
      guards = s.guards;
      sees = record { slots = s.sees.slots; below = s.sees.below; world = s.sees.world; who = s.sees.who; frame = s.sees.frame; room = s.sees.room; pay = omega (arith, s.sees.pay); within = s.sees.within };
    }

    -- a statement's turn
    pub turn_runs : (round : Round) (m : Made) (f : Computation (Unit {0})) (on : Onto) → DoesNext round m f on → DoesAt round m (takes_a_turn f) on
    unfolding takes_a_turn
    turn_runs round m f on d zero st c front s = record { machine = c; comes = comes_same p.image c; there = (p.shape, ap (λ (i : Instance). p.image.body i.body) s.sees.who ∙ laws.at_me); output = ap (λ (x : World). x.output) s.sees.world; mode = s.mode; pay = s.sees.pay; within = s.sees.within }
    turn_runs round m f on d (suc t) st c front s = d t (turned st) c front (begins_turned round m st c s)

    -- the turn of a loop that goes round
    begins_paid : (round : Round) (m : Made) (st : State) (c : Machine) → Starts p laws.live round m st c → Begins p laws.live round m (paid st) c
    begins_paid round m st c s = record {
      pc = s.pc;
      mode = s.mode;
      top = s.top;
      room = s.room;
      mark = s.mark;
      site = s.site;
      caller = s.caller;
      link = s.link;
      low = s.low;
      cut = s.cut;
      guards = s.guards;
      sees = record { slots = s.sees.slots; below = s.sees.below; world = s.sees.world; who = s.sees.who; frame = s.sees.frame; room = s.sees.room; pay = omega (arith, s.sees.pay); within = (s.sees.within.0, s.sees.within.1, omega (arith, s.sees.within.2), s.sees.within.3, s.sees.within.4) };
    }

    begins_owed : (round : Round) (m : Made) (st : State) (c : Machine) → Starts p laws.live round m st c → Begins p laws.live round m st c
    begins_owed round m st c s = record { pc = s.pc; mode = s.mode; top = s.top; room = s.room; mark = s.mark; site = s.site; caller = s.caller; link = s.link; low = s.low; cut = s.cut; guards = s.guards; sees = owes p st c s.sees }

    abbrev code : List Step
    code = p.shape.code

    -- a step of the routine at a place
    pub step_there : (at : ℕ) (step : Step) (c : Machine) → c.pc ≡ at → Stood p c → c.mode ≡ running → slice_get code at ≡ Some step → Comes p.image c (on_step p.image p.shape step c)
    step_there at step c e h m f = there p Good laws once at step c e h m f

    -- from the label of its end, over it
    pub over_end : (n : ℕ) (work top : ℕ) (s : ℕ → ℕ) (c : Machine) (m : Made) (l last : ℕ) (st : State) → Front (pushed (flat.Label l) m).code code →
        ArrivesBy p suc work top s c (length m.code) last st → Arrives p work top s c (length (pushed (flat.Label l) m).code) last (counted (suc n) st)
    unfolding on_step
    over_end n work top s c m l last st f a =
        subst (λ at. Arrives p work top s c at last (counted (suc n) st)) (sym (length_push m.code (flat.Label l)))
        (later n work top s c (next a.machine) (length m.code) last st a (step_there (length m.code) (flat.Label l) a.machine a.pc (stood p a.sees) a.mode (at_push m.code code (flat.Label l) f))
        (ap suc a.pc) refl a.mode refl refl refl refl (omega arith) (omega arith) refl refl refl)

    pub over_label : (n : ℕ) (work top : ℕ) (s : ℕ → ℕ) (c : Machine) (m : Made) (l last : ℕ) (st : State) → Front (pushed (flat.Label l) m).code code →
        Arrives p work top s c (length m.code) last st → Arrives p work top s c (length (pushed (flat.Label l) m).code) last (counted (suc n) st)
    over_label n work top s c m l last st f a = over_end n work top s c m l last st f (record { machine = a.machine; comes = a.comes; pc = a.pc; top = a.top; mode = a.mode; sees = owes p st a.machine a.sees; keeps = a.keeps })

    -- Lists

    pub none_runs : (round : Round) (m : Made) (turns : ℕ) (st : State) (c : Machine) → Starts p laws.live round m st c → Outcome p round (length m.code) c.top c.stack c (gives tt turns st)
    unfolding gives
    none_runs round m turns st c s = record { machine = c; comes = comes_same p.image c; pc = s.pc; top = refl; mode = s.mode; sees = s.sees; keeps = keeps_same p round.work c.top c.stack }

    pub and_runs : (round : Round) (m : Made) (f rest : Computation (Unit {0})) (on onr : Onto) → Fit p round → Fronts onr → DoesAt round m f on → DoesAt round (on round m) rest onr →
        DoesAt round m (either_way f (λ done. rest) ends) (λ r m. onr r (on r m))
    unfolding either_way
    and_runs round m f rest on onr fit fronts a b turns st c front s =
        then_runs p round (length (on round m).code) (length (onr round (on round m)).code) c.top c.stack c rest (f turns st)
        (a turns st c (front_more _ _ _ (fronts round (on round m)) front) s)
        (λ turns' st' x. goes_on round m (on round m) st st' c c (length (on round m).code) (length (onr round (on round m)).code) (rest turns' st') fit s x
        (b turns' st' x.machine front (starts_on round m (on round m) st st' c c (length (on round m).code) fit s x refl)))

    -- Leaving a loop, and its next turn

    pub break_ends : (t : Turns) (round : Round) (m : Made) (st : State) (c d : Machine) → d.pc ≡ place_of code t.end → d.top ≡ cut_top p t.cut c.stack c.top → Comes p.image c d → d.mode ≡ running → Owes p st d →
        Keeps p round.work c.top c.stack d.stack → AtEnd p (Some t) round.work c.top c.stack c st
    break_ends t round m st c d e h k mode see keep = record { machine = d; comes = k; pc = e; top = h; mode = mode; sees = see; keeps = keep }

    -- Loops

    fit_loop : (round : Round) (n : ℕ) → Fit p round → Fit p (in_loop n round)
    fit_loop round n f = record { work = f.work; mark = f.mark; turns = tt; guards = f.guards }

    -- a turn is spent where one is left
    spends : (round : Round) (at top : ℕ) (s : ℕ → ℕ) (c : Machine) (f : Computation (Unit {0})) (turns : ℕ) (st : State) → c.world ≡ st.world → c.who ≡ p.me → c.mode ≡ running → st.meters.spent ≤ c.clock → Within (counted 1 st) c →
        ((turns : ℕ) → Outcome p round at top s c (f turns (paid st))) → Outcome p round at top s c (spends_a_turn f turns st)
    unfolding spends_a_turn
    spends round at top s c f zero st w i m l h k = record { machine = c; comes = comes_same p.image c; there = (p.shape, ap (λ (i : Instance). p.image.body i.body) i ∙ laws.at_me); output = ap (λ (x : World). x.output) w; mode = m; pay = omega (arith, l); within = h }
    spends round at top s c f (suc turns) st w i m l h k = k turns

    -- behind a turn: `back` is where the next one begins
    turn_case : (f : Computation (Unit {0})) (n : ℕ) (round : Round) (m m2 m3 : Made) (l at : ℕ) (st0 : State) (c first : Machine) → Fit p round → Begins p laws.live round m st0 c →
        Comes p.image c first → first.stack ≡ c.stack → first.top ≡ c.top →
        place_of code l ≡ length m.code → slice_get code (length m2.code) ≡ Some (flat.Jump l) →
        place_of code (l + 1) ≡ length m3.code → at ≡ length (pushed (flat.Label (l + 1)) m3).code → Front (pushed (flat.Label (l + 1)) m3).code code →
        ((turns : ℕ) (st : State) (b : Machine) → Begins p laws.live round m st b → Outcome p round at b.top b.stack b (loop_at n f turns st)) →
        (r : Result (Unit {0})) → Outcome p (in_loop l round) (length m2.code) c.top c.stack c r →
        Outcome p round at c.top c.stack c (continue_either_way (λ done. spends_a_turn (loop_at n f)) (turn_ending (spends_a_turn (loop_at n f))) r)
    unfolding continue_either_way turn_ending with_state gives ends on_step
    turn_case f n round m m2 m3 l at st0 c first fit s k xs xt pl jump pe last front again (normal u turns st) o =
        let d : Machine = goes_to (place_of code l) o.machine in
        let kd = step_there (length m2.code) (flat.Jump l) o.machine o.pc (stood p o.sees) o.mode jump in
        let a : Arrives p round.work c.top c.stack c (length m.code) c.top (paid st) = record {
          machine = d;
          comes = comes_then p.image c o.machine d o.comes kd;
          pc = pl;
          top = o.top;
          mode = o.mode;
          sees = record { slots = o.sees.slots; below = o.sees.below; world = o.sees.world; who = o.sees.who; frame = o.sees.frame; room = o.sees.room; pay = omega (arith, o.sees.pay); within = (o.sees.within.0, o.sees.within.1, omega (arith, o.sees.within.2), o.sees.within.3, o.sees.within.4) };
          keeps = o.keeps;
        } in
        before p round at c.top c.stack c d (spends_a_turn (loop_at n f) turns st) a.comes
        (spends round at c.top c.stack d (loop_at n f) turns st o.sees.world o.sees.who o.mode (omega (arith, o.sees.pay)) (o.sees.within.0, o.sees.within.1, omega (arith, o.sees.within.2), o.sees.within.3, o.sees.within.4)
        (λ t. goes_on round m m st0 (paid st) c c (length m.code) at (loop_at n f t (paid st)) fit s a (again t (paid st) d (begins_owed round m (paid st) d (starts_on round m m st0 (paid st) c c (length m.code) fit s a refl)))))
    turn_case f n round m m2 m3 l at st0 c first fit s k xs xt pl jump pe last front again (ended broken turns st) o =
        let a : ArrivesBy p suc round.work c.top c.stack c (length m3.code) c.top st = record {
          machine = o.machine;
          comes = o.comes;
          pc = o.pc ∙ pe;
          top = o.top;
          mode = o.mode;
          sees = o.sees;
          keeps = o.keeps;
        } in
        subst (λ at. Arrives p round.work c.top c.stack c at c.top (counted 1 st)) (sym last) (over_end 0 round.work c.top c.stack c m3 (l + 1) c.top st front a)
    turn_case f n round m m2 m3 l at st0 c first fit s k xs xt pl jump pe last front again (ended continued turns st) o =
        let a : Arrives p round.work c.top c.stack c (length m.code) c.top st = record {
          machine = o.machine;
          comes = o.comes;
          pc = o.pc ∙ pl;
          top = o.top;
          mode = o.mode;
          sees = o.sees;
          keeps = o.keeps;
        } in
        before p round at c.top c.stack c o.machine (spends_a_turn (loop_at n f) turns st) o.comes
        (spends round at c.top c.stack o.machine (loop_at n f) turns st o.sees.world o.sees.who o.mode o.sees.pay (o.sees.within.0, o.sees.within.1, omega (arith, o.sees.within.2), o.sees.within.3, o.sees.within.4)
        (λ t. goes_on round m m st0 st c c (length m.code) at (loop_at n f t (paid st)) fit s a (again t (paid st) o.machine (begins_paid round m st o.machine (starts_on round m m st0 st c c (length m.code) fit s a refl)))))
    turn_case f n round m m2 m3 l at st0 c first fit s k xs xt pl jump pe last front again (ended (returned ws) turns st) o = o
    turn_case f n round m m2 m3 l at st0 c first fit s k xs xt pl jump pe last front again (ended (signalled name ws) turns st) o = o
    turn_case f n round m m2 m3 l at st0 c first fit s k xs xt pl jump pe last front again (ended (raised name ws) turns st) o = o
    turn_case f n round m m2 m3 l at st0 c first fit s k xs xt pl jump pe last front again (ended (exited inside arm ws) turns st) o = o
    turn_case f n round m m2 m3 l at st0 c first fit s k xs xt pl jump pe last front again (ended (through e) turns st) o = o
    turn_case f n round m m2 m3 l at st0 c first fit s k xs xt pl jump pe last front again (ended wrong turns st) o = tt
    turn_case f n round m m2 m3 l at st0 c first fit s k xs xt pl jump pe last front again (out_of_turns st) o = o

    pub loop_runs : (f : Computation (Unit {0})) (on : Onto) (round : Round) (m : Made) → Fit p round → Fronts on →
        DoesAt (in_loop m.labels round) (pushed (flat.Label m.labels) (labelled 2 m)) f on →
        (n : ℕ) (turns : ℕ) (st : State) (c : Machine) → Front (turns_onto on round m).code code → Begins p laws.live round m st c →
        Outcome p round (length (turns_onto on round m).code) c.top c.stack c (loop_at n f turns st)
    unfolding loop_at either_way on_step
    loop_runs f on round m fit fronts body zero turns st c front s =
        let l = m.labels in
        let m1 : Made = pushed (flat.Label l) (labelled 2 m) in
        let m2 : Made = on (in_loop l round) m1 in
        let m3 : Made = pushed (flat.Jump l) m2 in
        let f2 : Front m2.code code = front_back m2.code code (flat.Jump l) (front_back m3.code code (flat.Label (l + 1)) front) in
        let f1 : Front m1.code code = front_more m1.code m2.code code (fronts (in_loop l round) m1) f2 in
        record {
          machine = next c;
          comes = step_there (length m.code) (flat.Label l) c s.pc (stood p s.sees) s.mode (at_push m.code code (flat.Label l) f1);
          there = (p.shape, ap (λ (i : Instance). p.image.body i.body) s.sees.who ∙ laws.at_me);
          output = ap (λ (x : World). x.output) s.sees.world;
          mode = s.mode;
          pay = omega (arith, s.sees.pay);
          within = (s.sees.within.0, s.sees.within.1, omega (arith, s.sees.within.2), s.sees.within.3, s.sees.within.4);
        }
    loop_runs f on round m fit fronts body (suc n) turns st c front s =
        let l = m.labels in
        let m1 : Made = pushed (flat.Label l) (labelled 2 m) in
        let m2 : Made = on (in_loop l round) m1 in
        let m3 : Made = pushed (flat.Jump l) m2 in
        let f3 : Front m3.code code = front_back m3.code code (flat.Label (l + 1)) front in
        let f2 : Front m2.code code = front_back m2.code code (flat.Jump l) f3 in
        let f1 : Front m1.code code = front_more m1.code m2.code code (fronts (in_loop l round) m1) f2 in
        let head = at_push m.code code (flat.Label l) f1 in
        let tail = at_push m3.code code (flat.Label (l + 1)) front in
        let jump = at_push m2.code code (flat.Jump l) f3 in
        let first : Machine = next c in
        let kf = step_there (length m.code) (flat.Label l) c s.pc (stood p s.sees) s.mode head in
        let sf : Starts p laws.live (in_loop l round) m1 (counted 1 st) first = record {
          pc = ap suc s.pc ∙ sym (length_push m.code (flat.Label l));
          mode = s.mode;
          top = s.top;
          room = s.room;
          mark = s.mark;
          site = s.site;
          caller = s.caller;
          link = s.link;
          low = s.low;
          cut = tt;
          guards = s.guards;
          sees = record { slots = s.sees.slots; below = s.sees.below; world = s.sees.world; who = s.sees.who; frame = s.sees.frame; room = s.sees.room; pay = omega (arith, s.sees.pay); within = (s.sees.within.0, s.sees.within.1, omega (arith, s.sees.within.2), s.sees.within.3, s.sees.within.4) };
        } in
        let o = body turns (counted 1 st) first f2 sf in
        turn_case f n round m m2 m3 l (length (turns_onto on round m).code) st c first fit s kf refl refl
        (label_place code once (length m.code) l head) jump (label_place code once (length m3.code) (l + 1) tail) refl front
        (λ t x b z. loop_runs f on round m fit fronts body n t x b front z)
        (f turns (counted 1 st)) (before p (in_loop l round) (length m2.code) c.top c.stack c first (f turns (counted 1 st)) kf o)
