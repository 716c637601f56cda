-- Choices.
use Rattle.std.proofs.Common.{◌≡◌, ◌∙◌, ℕ, zero, suc, ◌+◌, ◌==◌, Bool, true, false, List, length, Some, None, refl, ap, sym, subst, arith}
use Rattle.clu_frames.specs.Plain.{Step}
use Rattle.clu_frames.specs.Plain as flat
use Rattle.clu_frames.specs.declared.surroundings.Turns.{Turns}
use Rattle.clu_frames.specs.Flattening.{Made, Onto, Round, choice_onto, either_onto, labelled, other_onto, pushed, unless_from}
use Rattle.clu_wir.specs.Plain.{Expr}
use Rattle.clu_word_meaning.specs.World.{World}
use Rattle.clu_word_meaning.specs.Words.{Computation, Entry, Result, State, broken, chosen, closes, continue_either_way, counted, counted_twice, either, either_way, ended, ends, gives, normal, out_of_turns, takes_a_turn, turned, valued, with_state}
use Rattle.clu_flat_meaning.specs.Image.{Instance}
use Rattle.clu_flat_meaning.specs.Machine.{Comes, Machine, branches, goes_to, next, on_step, place_of}
use Rattle.clu_flat_meaning.proofs.Runs.{Front, Once, at_push, comes_same, comes_then, front_back, front_more, label_place, length_push}
use Rattle.laws_frames.proofs.Relation.{AtEnd, Begins, Fit, Home, Laws, Outcome, Place, Sees, Starts, cut_top}
use Rattle.laws_frames.proofs.Sim.{before, keeps_same}
use Rattle.laws_frames.proofs.Simple.{sees_counted, stood, valued_runs}
use Rattle.laws_frames.proofs.Control.{DoesAt, DoesNext, Fronts, over_label, step_there}

module _ (p : Place) (Good : Expr → Type 0) (laws : Laws p Good) (once : Once p.shape.code) (entries : ℕ → Entry) where
  abbrev code : List Step
  code = p.shape.code

  -- the same machine at another place
  pub moved : (round : Round) (m m' : Made) (st : State) (c : Machine) (at : ℕ) → at ≡ length m'.code → Begins p laws.live round m st c → Starts p laws.live round m' (counted_twice st) (goes_to at c)
  moved round m m' st c at e s = record {
    pc = e;
    mode = s.mode;
    top = s.top;
    room = s.room;
    mark = s.mark;
    site = s.site;
    caller = s.caller;
    link = s.link;
    low = s.low;
    cut = s.cut;
    guards = s.guards;
    sees = record { slots = s.sees.slots; below = s.sees.below; world = s.sees.world; who = s.sees.who; frame = s.sees.frame; room = s.sees.room; pay = omega (arith, s.sees.pay); within = (s.sees.within.0, s.sees.within.1, omega (arith, s.sees.within.2), s.sees.within.3, s.sees.within.4) };
  }

  moved_twice : (round : Round) (m m' : Made) (st : State) (c : Machine) (at : ℕ) → suc at ≡ length m'.code → Begins p laws.live round m st c → Starts p laws.live round m' (counted_twice st) (next (goes_to at c))
  moved_twice round m m' st c at e s = record {
    pc = e;
    mode = s.mode;
    top = s.top;
    room = s.room;
    mark = s.mark;
    site = s.site;
    caller = s.caller;
    link = s.link;
    low = s.low;
    cut = s.cut;
    guards = s.guards;
    sees = record { slots = s.sees.slots; below = s.sees.below; world = s.sees.world; who = s.sees.who; frame = s.sees.frame; room = s.sees.room; pay = omega (arith, s.sees.pay); within = (s.sees.within.0, s.sees.within.1, omega (arith, s.sees.within.2), s.sees.within.3, s.sees.within.4) };
  }

  -- a list, and then the label of the end
  pub to_label : (round : Round) (m : Made) (l top : ℕ) (s : ℕ → ℕ) (c : Machine) (r : Result (Unit {0})) → Front (pushed (flat.Label l) m).code code → Outcome p round (length m.code) top s c r →
      Outcome p round (length (pushed (flat.Label l) m).code) top s c (continue_either_way (λ done. with_state counted_twice (gives tt)) ends r)
  unfolding continue_either_way with_state gives ends
  to_label round m l top s c (normal u t st) f o = over_label p Good laws once 0 round.work top s c m l top (counted 1 st) f (record { machine = o.machine; comes = o.comes; pc = o.pc; top = o.top; mode = o.mode; sees = sees_counted p 1 st o.machine o.sees; keeps = o.keeps })
  to_label round m l top s c (ended e t st) f o = o
  to_label round m l top s c (out_of_turns st) f o = o

  -- over a jump and its label
  pub to_jump : (round : Round) (m last : Made) (l top : ℕ) (s : ℕ → ℕ) (c : Machine) (r : Result (Unit {0})) → Front (pushed (flat.Jump l) m).code code → Front (pushed (flat.Label l) last).code code →
      Outcome p round (length m.code) top s c r → Outcome p round (length (pushed (flat.Label l) last).code) top s c (continue_either_way (λ done. with_state counted_twice (gives tt)) ends r)
  unfolding on_step continue_either_way with_state gives ends
  to_jump round m last l top s c (normal u t st) f fl o =
      let b = goes_to (place_of code l) o.machine in
      let k = step_there p Good laws once (length m.code) (flat.Jump l) o.machine o.pc (stood p o.sees) o.mode (at_push m.code code (flat.Jump l) f) in
      over_label p Good laws once 0 round.work top s c last l top (counted 1 st) fl (record {
        machine = b;
        comes = comes_then p.image c o.machine b o.comes k;
        pc = label_place code once (length last.code) l (at_push last.code code (flat.Label l) fl);
        top = o.top;
        mode = o.mode;
        sees = record { slots = o.sees.slots; below = o.sees.below; world = o.sees.world; who = o.sees.who; frame = o.sees.frame; room = o.sees.room; pay = omega (arith, o.sees.pay); within = (o.sees.within.0, o.sees.within.1, omega (arith, o.sees.within.2), o.sees.within.3, o.sees.within.4) };
        keeps = o.keeps;
      })
  to_jump round m last l top s c (ended e t st) f fl o = o
  to_jump round m last l top s c (out_of_turns st) f fl o = o

  stays : (round : Round) (m : Made) (st : State) (c : Machine) (t : ℕ) (at : ℕ) → at ≡ length m.code → Starts p laws.live round m st (goes_to at c) → Outcome p round (length m.code) c.top c.stack (goes_to at c) (gives tt t st)
  unfolding gives
  stays round m st c t at e s = record { machine = goes_to at c; comes = comes_same p.image (goes_to at c); pc = e; top = refl; mode = s.mode; sees = s.sees; keeps = keeps_same p round.work c.top c.stack }

  by_sense : (b : Bool) (sense : Bool) (l : ℕ) (x y : Computation (Unit {0})) (t : ℕ) (st : State) (round : Round) (end : ℕ) (c : Machine) →
      (b ≡ true → Outcome p round end c.top c.stack (branches p.image true sense p.shape.code l c) (x t st)) → (b ≡ false → Outcome p round end c.top c.stack (branches p.image false sense p.shape.code l c) (y t st)) →
      Outcome p round end c.top c.stack (branches p.image b sense p.shape.code l c) (either b x y t st)
  unfolding either
  by_sense true sense l x y t st round end c f g = f refl
  by_sense false sense l x y t st round end c f g = g refl

  -- only what is done where the condition is 0
  pub unless_runs : (round : Round) (m : Made) (e : Expr) (f : Computation (Unit {0})) (on : Onto) → Good e → Fit p round → Fronts on → Home p round.region (length m.code) →
      DoesAt p Good laws once round (pushed (flat.Branch e true m.labels) (labelled 1 m)) f on →
      DoesNext p Good laws once round m (valued p.linked entries e (λ w. chosen w f (gives tt))) (λ round m. unless_from None e on round m)
  unfolding on_step with_state either_way
  unless_runs round m e f on good fit fronts home does t st c front s =
      let m1 = pushed (flat.Branch e true m.labels) (labelled 1 m) in
      let m2 = on round m1 in
      let end = length (pushed (flat.Label m.labels) m2).code in
      let f2 : Front m2.code code = front_back m2.code code (flat.Label m.labels) front in
      let f1 : Front m1.code code = front_more m1.code m2.code code (fronts round m1) f2 in
      let place = label_place code once (length m2.code) m.labels (at_push m2.code code (flat.Label m.labels) front) in
      let after : suc c.pc ≡ length m1.code = ap suc s.pc ∙ sym (length_push m.code (flat.Branch e true m.labels)) in
      valued_runs p Good laws once round end c.top c.stack c entries e good (λ w. chosen w f (gives tt)) (λ w c. branches p.image (w == 0) true p.shape.code m.labels c) t st s.sees (keeps_same p round.work c.top c.stack)
      (subst (Home p round.region) (sym s.pc) home)
      (step_there p Good laws once (length m.code) (flat.Branch e true m.labels) c s.pc (stood p s.sees) s.mode (at_push m.code code (flat.Branch e true m.labels) f1))
      (λ w. by_sense (w == 0) true m.labels (closes f) (closes (gives tt)) t (counted_twice st) round end c
      (λ z. to_label round m2 m.labels c.top c.stack (next c) (f t (counted_twice st)) front (does t (counted_twice st) (next c) f2 (moved round m m1 st c (suc c.pc) after s)))
      (λ z. to_label round m2 m.labels c.top c.stack (goes_to (place_of code m.labels) c) (gives tt t (counted_twice st)) front (stays round m2 (counted_twice st) c t (place_of code m.labels) place (moved round m m2 st c (place_of code m.labels) place s))))

  -- a choice that only leaves its loop
  abbrev pub only_break : Computation (Unit {0})
  only_break = either_way (takes_a_turn (with_state counted_twice (ends broken))) (λ done. gives tt) ends

  pub exit_runs : (round : Round) (m : Made) (e : Expr) (x : Turns) → round.turns ≡ Some x → x.cut ≡ None → Good e → Home p round.region (length m.code) →
      DoesNext p Good laws once round m (valued p.linked entries e (λ w. chosen w only_break (gives tt))) (λ round m. pushed (flat.Branch e false x.end) m)
  unfolding on_step with_state either_way continue_either_way gives ends takes_a_turn
  exit_runs round m e x is uncut good home t st c front s =
      let end = length (pushed (flat.Branch e false x.end) m).code in
      let after : suc c.pc ≡ end = ap suc s.pc ∙ sym (length_push m.code (flat.Branch e false x.end)) in
      valued_runs p Good laws once round end c.top c.stack c entries e good (λ w. chosen w only_break (gives tt)) (λ w c. branches p.image (w == 0) false p.shape.code x.end c) t st s.sees (keeps_same p round.work c.top c.stack)
      (subst (Home p round.region) (sym s.pc) home)
      (step_there p Good laws once (length m.code) (flat.Branch e false x.end) c s.pc (stood p s.sees) s.mode (at_push m.code code (flat.Branch e false x.end) front))
      (λ w. by_sense (w == 0) false x.end (closes only_break) (closes (gives tt)) t (counted_twice st) round end c
      (λ z. leaves t)
      (λ z. record { machine = next c; comes = comes_same p.image (next c); pc = after; top = refl; mode = s.mode; sees = there (next c) refl refl refl refl refl refl refl refl refl; keeps = keeps_same p round.work c.top c.stack }))
    where
      there : (d : Machine) → d.stack ≡ c.stack → d.world ≡ c.world → d.who ≡ c.who → d.fp ≡ c.fp → d.clock ≡ suc c.clock → d.peak ≡ c.peak → d.used ≡ c.used → d.high ≡ c.high → d.top ≡ c.top → Sees p (counted_twice (counted_twice st)) d
      there d x w who fp clock peak used high top = record {
        slots = λ n v l h. ap (λ (f : ℕ → ℕ). f (p.fp + 4 + n)) x ∙ s.sees.slots n v l h;
        below = subst (λ (f : ℕ → ℕ). p.inv f st.outer) (sym x) s.sees.below;
        world = w ∙ s.sees.world;
        who = who ∙ s.sees.who;
        frame = fp ∙ s.sees.frame;
        room = omega (arith, s.sees.room, peak);
        pay = omega (arith, s.sees.pay, clock);
        within = (omega (arith, s.sees.within.0, peak), omega (arith, s.sees.within.1, used), omega (arith, s.sees.within.2, clock), omega (arith, s.sees.within.3, high), omega (arith, s.sees.within.4, high, top));
      }

      leaves : (t : ℕ) → Outcome p round (length (pushed (flat.Branch e false x.end) m).code) c.top c.stack (goes_to (place_of code x.end) c) (closes only_break t (counted_twice st))
      leaves zero = record {
        machine = goes_to (place_of code x.end) c;
        comes = comes_same p.image (goes_to (place_of code x.end) c);
        there = (p.shape, ap (λ (i : Instance). p.image.body i.body) s.sees.who ∙ laws.at_me);
        output = ap (λ (x : World). x.output) s.sees.world;
        mode = s.mode;
        pay = omega (arith, s.sees.pay);
        within = (s.sees.within.0, s.sees.within.1, omega (arith, s.sees.within.2), s.sees.within.3, s.sees.within.4);
      }
      leaves (suc t) = subst (λ o. AtEnd p o round.work c.top c.stack (goes_to (place_of code x.end) c) (counted_twice (turned (counted_twice st)))) (sym is) (record {
        machine = goes_to (place_of code x.end) c;
        comes = comes_same p.image (goes_to (place_of code x.end) c);
        pc = refl;
        top = subst (λ o. c.top ≡ cut_top p o c.stack c.top) (sym uncut) refl;
        mode = s.mode;
        sees = record {
          slots = s.sees.slots;
          below = s.sees.below;
          world = s.sees.world;
          who = s.sees.who;
          frame = s.sees.frame;
          room = s.sees.room;
          pay = omega (arith, s.sees.pay);
          within = (s.sees.within.0, s.sees.within.1, omega (arith, s.sees.within.2), s.sees.within.3, s.sees.within.4);
        };
        keeps = keeps_same p round.work c.top c.stack;
      })

  -- both lists
  pub both_run : (round : Round) (m : Made) (e : Expr) (f g : Computation (Unit {0})) (on onr : Onto) → Good e → Fit p round → Fronts on → Fronts onr → Home p round.region (length m.code) →
      DoesAt p Good laws once round (choice_onto e m) f on →
      DoesAt p Good laws once round (other_onto false m.labels (on round (choice_onto e m))) g onr →
      DoesNext p Good laws once round m (valued p.linked entries e (λ w. chosen w g f)) (either_onto false e on onr)
  unfolding on_step with_state either_way
  both_run round m e f g on onr good fit fronts frontsr home df dg t st c front s =
      let m1 = choice_onto e m in
      let m2 = on round m1 in
      let m3 = pushed (flat.Jump m2.labels) (labelled 1 m2) in
      let m4 = pushed (flat.Label m.labels) m3 in
      let m5 = onr round m4 in
      let end = length (pushed (flat.Label m2.labels) m5).code in
      let f5 : Front m5.code code = front_back m5.code code (flat.Label m2.labels) front in
      let f4 : Front m4.code code = front_more m4.code m5.code code (frontsr round m4) f5 in
      let f3 : Front m3.code code = front_back m3.code code (flat.Label m.labels) f4 in
      let f2 : Front m2.code code = front_back m2.code code (flat.Jump m2.labels) f3 in
      let f1 : Front m1.code code = front_more m1.code m2.code code (fronts round m1) f2 in
      let place = label_place code once (length m3.code) m.labels (at_push m3.code code (flat.Label m.labels) f4) in
      let after : suc c.pc ≡ length m1.code = ap suc s.pc ∙ sym (length_push m.code (flat.Branch e false m.labels)) in
      let b = goes_to (place_of code m.labels) c in
      let over = next b in
      let k : Comes p.image b over = step_there p Good laws once (length m3.code) (flat.Label m.labels) b place (record { who = s.sees.who; frame = s.sees.frame; room = s.sees.room }) s.mode (at_push m3.code code (flat.Label m.labels) f4) in
      valued_runs p Good laws once round end c.top c.stack c entries e good (λ w. chosen w g f) (λ w c. branches p.image (w == 0) false p.shape.code m.labels c) t st s.sees (keeps_same p round.work c.top c.stack)
      (subst (Home p round.region) (sym s.pc) home)
      (step_there p Good laws once (length m.code) (flat.Branch e false m.labels) c s.pc (stood p s.sees) s.mode (at_push m.code code (flat.Branch e false m.labels) f1))
      (λ w. by_sense (w == 0) false m.labels (closes g) (closes f) t (counted_twice st) round end c
      (λ z. before p round end c.top c.stack b over (closes g t (counted_twice st)) k (to_label round m5 m2.labels c.top c.stack over (g t (counted_twice st)) front
      (dg t (counted_twice st) over f5 (moved_twice round m m4 st c (place_of code m.labels) (ap suc place ∙ sym (length_push m3.code (flat.Label m.labels))) s))))
      (λ z. to_jump round m2 m5 m2.labels c.top c.stack (next c) (f t (counted_twice st)) f3 front (df t (counted_twice st) (next c) f2 (moved round m m1 st c (suc c.pc) after s))))

  -- only what is done where the condition is not 0
  pub when_runs : (round : Round) (m : Made) (e : Expr) (f : Computation (Unit {0})) (on : Onto) → Good e → Fit p round → Fronts on → Home p round.region (length m.code) →
      DoesAt p Good laws once round (choice_onto e m) f on →
      DoesNext p Good laws once round m (valued p.linked entries e (λ w. chosen w (gives tt) f)) (either_onto true e on (λ round m. m))
  unfolding on_step with_state either_way
  when_runs round m e f on good fit fronts home df t st c front s =
      let m1 = choice_onto e m in
      let m2 = on round m1 in
      let end = length (pushed (flat.Label m.labels) m2).code in
      let f2 : Front m2.code code = front_back m2.code code (flat.Label m.labels) front in
      let f1 : Front m1.code code = front_more m1.code m2.code code (fronts round m1) f2 in
      let place = label_place code once (length m2.code) m.labels (at_push m2.code code (flat.Label m.labels) front) in
      let after : suc c.pc ≡ length m1.code = ap suc s.pc ∙ sym (length_push m.code (flat.Branch e false m.labels)) in
      valued_runs p Good laws once round end c.top c.stack c entries e good (λ w. chosen w (gives tt) f) (λ w c. branches p.image (w == 0) false p.shape.code m.labels c) t st s.sees (keeps_same p round.work c.top c.stack)
      (subst (Home p round.region) (sym s.pc) home)
      (step_there p Good laws once (length m.code) (flat.Branch e false m.labels) c s.pc (stood p s.sees) s.mode (at_push m.code code (flat.Branch e false m.labels) f1))
      (λ w. by_sense (w == 0) false m.labels (closes (gives tt)) (closes f) t (counted_twice st) round end c
      (λ z. to_label round m2 m.labels c.top c.stack (goes_to (place_of code m.labels) c) (gives tt t (counted_twice st)) front (stays round m2 (counted_twice st) c t (place_of code m.labels) place (moved round m m2 st c (place_of code m.labels) place s)))
      (λ z. to_label round m2 m.labels c.top c.stack (next c) (f t (counted_twice st)) front (df t (counted_twice st) (next c) f2 (moved round m m1 st c (suc c.pc) after s))))
