-- Exits to an arm, and exceptions that are signalled on.
use Rattle.std.proofs.Common.{◌≡◌, ◌≢◌, ◌∙◌, ℕ, suc, ◌+◌, ◌-◌, ◌≤◌, ◌==◌, Bool, true, false, List, [], ◌∷◌, length, Option, Some, slice_get, refl, ap, ap₂, sym, subst, arith}
use Rattle.std.specs.List.{list_any}
use Rattle.std.specs.Str.{bytes_eq}
use Rattle.std.specs.Prelude.{if◌then◌else◌, max}
use Rattle.std.proofs.lemmas.Bool.{eqb-true}
use Rattle.std.proofs.lemmas.Bool.Decides.{nat_tests}
use Rattle.clu_wir.specs.Plain.{Expr}
use Rattle.clu_frames.specs.Plain.{Step}
use Rattle.clu_frames.specs.Plain as flat
use Rattle.clu_frames.specs.Flattening.{Guarding, Made, Onto, Round, armed, closed, in_region, labelled, moves_onto, named_onto, opened, pushed, recut_onto, resignal_onto, sets_onto}
use Rattle.clu_word_meaning.specs.Words.{Body, Computation, Entry, Result, State, broken, continue_either_way, continued, counted, counted_twice, either, either_way, ended, ends, exited, gives, guard_done, normal, out_of_turns, puts, raised, resignals, returned, signalled, through, values, with_slots, with_state, with_steps, wrong}
use Rattle.clu_flat_meaning.specs.Image.{Instance}
use Rattle.clu_flat_meaning.specs.Machine.{Comes, Machine, address_of, arm_at, at_arm, callers, goes_to, is_address, leaving, next, number_at, on_arm, on_step, place_of, running, searching, to_call}
use Rattle.clu_flat_meaning.proofs.Runs.{Front, Once, address_so, at_push, comes_as, comes_same, comes_then, front_back, front_more, length_push, number_so, one_search, so_is}
use Rattle.clu_flat_meaning.proofs.Rising.{comes_high}
use Rattle.laws_frames.specs.Promises.{instance_at}
use Rattle.laws_frames.proofs.Relation.{Arrives, AtArm, AtSlots, Begins, Fit, IsTop, Keeps, Laws, Outcome, Owes, Place, Seeks, Starts, beyond, regions}
use Rattle.laws_frames.proofs.Sim.{foot_zero, keeps_same, mark_kept, top_from}
use Rattle.laws_frames.proofs.Simple.{excepts_less, frame_so, owes, sees_counted, stood}
use Rattle.laws_frames.proofs.Control.{DoesAt, Fronts, step_there}
use Rattle.laws_frames.proofs.Rows.{AllGood, Homes, call_is, cut_step, left, site_leads, values_run}
use Rattle.laws_frames.proofs.Choosing.{to_jump}
use Rattle.laws_frames.proofs.Iterating.{AllBelow}
use Rattle.laws_frames.proofs.Acting.{moves_by, moves_front}
use Rattle.laws_frames.proofs.Guarding.{Hits}

module _ (p : Place) (Good : Expr → Type 0) (laws : Laws p Good) (once : Once p.shape.code) (entries : ℕ → Entry) (yielded : Body) where
  abbrev code : List Step
  code = p.shape.code

  -- Exits.

  module _ (g : Guarding) (slots : List ℕ) (inside arm : ℕ) (es : List Expr) (round : Round) (m : Made) (fit : Fit p round) (is : slice_get round.guards inside ≡ Some g) (has : slice_get g.slots arm ≡ Some slots) (own : AllBelow p.base slots) where
    abbrev m0 : Made
    m0 = sets_onto round.work es m

    abbrev m1 : Made
    m1 = recut_onto round.mark g.mark m0

    abbrev m2 : Made
    m2 = moves_onto slots round.work m1

    abbrev m3 : Made
    m3 = pushed (flat.Jump (g.label + arm)) m2

    -- the stack is cut to the guard's top, if that is another one
    pub record CutBack (b : Bool) (bound top : ℕ) (s : ℕ → ℕ) (st : State) (c d : Machine) : Type 0 where
      pub comes : Comes p.image c d
      pub pc : d.pc ≡ length (if b then m0 else pushed (flat.Cut g.mark) m0).code
      pub mode : d.mode ≡ running
      pub tops : d.top ≡ top
      pub sees : Owes p st d
      pub keeps : Keeps p round.work bound s d.stack
      pub stack : d.stack ≡ c.stack
      pub clock : d.clock ≤ suc c.clock

    cut_back : (b : Bool) → (g.mark == round.mark) ≡ b → (st : State) (c d : Machine) → Begins p laws.live round m st c → (now : State) → Front (if b then m0 else pushed (flat.Cut g.mark) m0).code code → d.pc ≡ length m0.code → d.mode ≡ running → d.top ≡ c.top → Owes p now d →
        Keeps p round.work c.top c.stack d.stack → suc d.clock ≤ now.meters.steps → (x : Machine) × CutBack b c.top (number_at (c.stack (p.fp + g.mark))) c.stack now d x
    cut_back true e st c d s now f pc mode tops see keep more =
        let same : g.mark ≡ round.mark = eqb-true g.mark round.mark e in (
          d,
          record {
            comes = comes_same p.image d;
            pc = pc;
            mode = mode;
            tops = tops ∙ sym (number_so (c.stack (p.fp + g.mark)) c.top (ap (λ n. c.stack (p.fp + n)) same ∙ s.mark));
            sees = see;
            keeps = keep;
            stack = refl;
            clock = omega arith;
          },
        )
    cut_back false e st c d s now f pc mode tops see keep more =
        let t : IsTop p g.mark d.top d.stack = top_from p round.work c.top g.mark c.top d.top c.stack d.stack (fit.guards inside g is) keep (omega (arith, tops)) (s.guards inside g is) in
        let top : ℕ = number_at (d.stack (p.fp + g.mark)) in
        let x : Machine = next (record d { top = top; high = max d.high top }) in (
          x,
          record {
            comes = cut_step p Good laws once g.mark m0 now d see mode pc t f;
            pc = ap suc pc ∙ sym (length_push m0.code (flat.Cut g.mark));
            mode = mode;
            tops = ap number_at (mark_kept p round.work c.top g.mark c.stack d.stack (fit.guards inside g is) keep);
            sees = record {
              slots = see.slots;
              below = see.below;
              world = see.world;
              who = see.who;
              frame = see.frame;
              room = see.room;
              pay = omega (arith, see.pay);
              within = (see.within.0, see.within.1, more, omega (arith, see.within.3, see.within.4, t.low), omega arith);
            };
            keeps = keep;
            stack = refl;
            clock = omega arith;
          },
        )

    arrives : (ws : List ℕ) (t : ℕ) (st : State) (c d : Machine) → Begins p laws.live round m st c → Front m3.code code → (now : State) → length slots ≡ length ws → d.pc ≡ length m0.code → d.mode ≡ running → d.top ≡ c.top → Owes p now d →
        Keeps p round.work c.top c.stack d.stack → ((i w : ℕ) → slice_get ws i ≡ Some w → d.stack (p.fp + 4 + round.work + i) ≡ w) → suc (suc (d.clock + length ws)) ≤ now.meters.steps →
        Arrives p round.work c.top c.stack d (place_of code (g.label + arm)) (number_at (c.stack (p.fp + g.mark))) (with_slots (puts slots ws) now)
    unfolding on_step
    arrives ws t st c d s front now len pc mode tops see keep row more =
        let f2 : Front m2.code code = front_back m2.code code (flat.Jump (g.label + arm)) front in
        let f1 : Front m1.code code = front_more m1.code m2.code code (moves_front p Good laws once entries slots round.work m1) f2 in
        let cut = cut_back (g.mark == round.mark) refl st c d s now f1 pc mode tops see keep (omega (arith, more)) in
        let x = cut.0 in
        let r = moves_by p Good laws once entries suc (owes p) (λ st c k. k) slots ws round.work m1 round.work c.top c.stack now x own len fit.work f2 cut.1.pc cut.1.mode cut.1.sees cut.1.keeps
        (λ i w h. ap (λ (f : ℕ → ℕ). f (p.fp + 4 + round.work + i)) cut.1.stack ∙ row i w h) (omega (arith, more, cut.1.clock, len)) in
        let y = r.0 in
        let z : Machine = goes_to (place_of code (g.label + arm)) y in
        let k = step_there p Good laws once (length m2.code) (flat.Jump (g.label + arm)) y r.1.pc (stood p r.1.sees) r.1.mode (at_push m2.code code (flat.Jump (g.label + arm)) front) in
        record {
          machine = z;
          comes = comes_then p.image d x z cut.1.comes (comes_then p.image x y z r.1.comes k);
          pc = refl;
          top = r.1.top ∙ cut.1.tops;
          mode = r.1.mode;
          sees = record {
            slots = r.1.sees.slots;
            below = r.1.sees.below;
            world = r.1.sees.world;
            who = r.1.sees.who;
            frame = r.1.sees.frame;
            room = r.1.sees.room;
            pay = omega (arith, r.1.sees.pay);
            within = (r.1.sees.within.0, r.1.sees.within.1, omega (arith, more, cut.1.clock, r.1.clock, len), r.1.sees.within.3, r.1.sees.within.4);
          };
          keeps = r.1.keeps;
        }

    at_guard : (o : Option Guarding) → o ≡ Some g → (ws : List ℕ) (t : ℕ) (st now : State) (c d : Machine) → (length slots ≡ length ws → Arrives p round.work c.top c.stack d (place_of code (g.label + arm)) (number_at (c.stack (p.fp + g.mark))) (with_slots (puts slots ws) now)) →
        AtArm p o arm ws round.work c.top c.stack d now
    at_guard o e ws t st now c d k = subst (λ o. AtArm p o arm ws round.work c.top c.stack d now) (sym e) (subst (λ o. AtSlots p o (g.label + arm) g.mark ws round.work c.top c.stack d now) (sym has) k)

    pub exit_at : AllGood p Good es → round.work + length es ≤ p.shape.frame → Homes p round.region (length m.code) (length m0.code) →
        (t : ℕ) (st : State) (c : Machine) → Front m3.code code → Begins p laws.live round m st c →
        Outcome p round (length m3.code) c.top c.stack c (values p.linked entries es (λ ws. with_state (counted (suc (suc (length ws)))) (ends (exited inside arm ws))) t st)
    unfolding with_state ends
    exit_at goods wide homes t st c front s =
        let f2 : Front m2.code code = front_back m2.code code (flat.Jump (g.label + arm)) front in
        let f1 : Front m1.code code = front_more m1.code m2.code code (moves_front p Good laws once entries slots round.work m1) f2 in
        let f0 : Front m0.code code = before_cut (g.mark == round.mark) f1 in
        values_run p Good laws once entries round (length m3.code) c.top c.stack es round.work (length m0.code) m (λ ws. with_state (counted (suc (suc (length ws)))) (ends (exited inside arm ws))) t st c
        fit goods (omega arith) wide homes (omega arith) f0 s.pc s.mode s.sees (keeps_same p round.work c.top c.stack)
        (λ ws d x n r. at_guard (slice_get round.guards inside) is ws t st (counted (suc (suc (length ws))) (with_steps x st)) c d
        (λ len. arrives ws t st c d s front (counted (suc (suc (length ws))) (with_steps x st)) len r.pc r.mode r.tops (sees_counted p (suc (suc (length ws))) (with_steps x st) d r.sees) r.keeps r.row (omega (arith, r.sees.within.2))))
      where
        before_cut : (b : Bool) → Front (if b then m0 else pushed (flat.Cut g.mark) m0).code code → Front m0.code code
        before_cut true f = f
        before_cut false f = front_back m0.code code (flat.Cut g.mark) f

  -- Exceptions that are signalled on: an arm of their names ends the routine.

  -- what the table of regions must say of the region
  pub record PassLaw (names : List (List ℕ)) (region target : ℕ) (round : Round) : Type 0 where
    pub named : (v : ℕ) (name : List ℕ) → p.image.name_of v ≡ Some name → list_any (bytes_eq name) names ≡ true → Hits p Good laws once entries yielded (p.seek (Some region) v) target round.mark
    pub none : (v : ℕ) (name : List ℕ) → p.image.name_of v ≡ Some name → list_any (bytes_eq name) names ≡ false → p.seek (Some region) v ≡ p.seek round.region v

  named_same : (region mark : ℕ) (names : List (List ℕ)) (m : Made) → (named_onto region mark names m).code ≡ m.code
  named_same region mark [] m = refl
  named_same region mark (name ∷ names) m = named_same region mark names (armed region mark name m)

  module _ (names : List (List ℕ)) (on : Onto) (fronts : Fronts on) (round : Round) (m : Made) (fit : Fit p round) where
    abbrev region : ℕ
    region = length m.regions

    abbrev inner : Made
    inner = on (in_region region round) (opened round.region (labelled 1 m))

    abbrev jumped : Made
    jumped = closed region m.labels inner

    abbrev armed_all : Made
    armed_all = named_onto region round.mark names jumped

    abbrev passed : Made
    passed = pushed flat.Pass armed_all

    abbrev whole : Made
    whole = pushed (flat.Label m.labels) passed

    module _ (law : PassLaw names region (length jumped.code) round) (front : Front whole.code code) (st0 : State) (c : Machine) (starts : Starts p laws.live round m st0 c) where
      f5 : Front passed.code code
      f5 = front_back passed.code code (flat.Label m.labels) front

      f4 : Front armed_all.code code
      f4 = front_back armed_all.code code flat.Pass f5

      f3 : Front jumped.code code
      f3 = subst (λ l. Front l code) (named_same region round.mark names jumped) f4

      -- the search comes to the step that passes it on, which leaves the routine
      passes : (name ws : List ℕ) (t : ℕ) (st : State) (o : Seeks p round.work c.top c.stack c (Some region) name ws st) → Hits p Good laws once entries yielded (p.seek (Some region) o.machine.value) (length jumped.code) round.mark →
          Outcome p round (length whole.code) c.top c.stack c (ended (signalled name ws) t (counted_twice st))
      unfolding on_arm at_arm on_step
      passes name ws t st o h =
          let x = o.machine in
          let a : ℕ = x.stack (x.fp + h.arm.mark) in
          let up : a ≡ address_of c.top = ap₂ (λ f n. x.stack (f + n)) o.sees.frame h.marks ∙ mark_kept p round.work c.top round.mark c.stack x.stack fit.mark o.keeps ∙ starts.mark in
          let d : Machine = record x { mode = running; pc = h.arm.target; top = c.top; high = max x.high c.top; clock = suc x.clock } in
          let table : p.image.regions x.who.table ≡ regions p = ap (λ (i : Instance). p.image.regions i.table) o.sees.who in
          let deep : x.fp ≢ 0 = λ z. omega (arith, z, o.sees.frame, laws.deep, laws.honest.bottom) in
          let inside : (x.fp == 0) ≡ false = grind (arith, nat_tests, deep) in
          let is : on_arm p.image (arm_at (p.image.regions x.who.table) x.pc x.value) x ≡ d =
          ap (λ r. on_arm p.image (arm_at r x.pc x.value) x) table ∙ ap (λ f. on_arm p.image f x) (o.home ∙ h.is)
          ∙ so_is (is_address a) (record x { mode = running; pc = h.arm.target; top = number_at a; high = max x.high (number_at a); clock = suc x.clock }) x (address_so a c.top up)
          ∙ ap (λ n. record x { mode = running; pc = h.arm.target; top = n; high = max x.high n; clock = suc x.clock }) (number_so a c.top up) in
          let k : Comes p.image x d = comes_as p.image x (on_arm p.image (arm_at (p.image.regions x.who.table) x.pc x.value) x) d is
          (one_search p.image p.shape x (ap (λ (i : Instance). p.image.body i.body) o.sees.who ∙ laws.at_me) o.mode inside (frame_so p x laws.deep (stood p o.sees))) in
          let see : Owes p (counted 1 st) d = record {
            slots = o.sees.slots;
            below = o.sees.below;
            world = o.sees.world;
            who = o.sees.who;
            frame = o.sees.frame;
            room = o.sees.room;
            pay = omega (arith, o.sees.pay);
            within = (o.sees.within.0, o.sees.within.1, omega (arith, o.sees.within.2), omega (arith, o.sees.within.3, comes_high p.image c x o.comes, starts.sees.within.4), omega arith);
          } in
          let place : d.pc ≡ length armed_all.code = h.begins ∙ ap (λ (l : List Step). length l) (sym (named_same region round.mark names jumped)) in
          let site : d.stack p.fp ≡ p.image.address p.link.body (suc p.site) = foot_zero p round.work c.top c.stack x.stack o.keeps ∙ starts.site in
          let caller : d.stack (p.fp + 1) ≡ address_of p.caller = o.keeps.foot 1 (omega arith) ∙ starts.caller in
          let link : d.stack (p.fp + 2) ≡ p.link.table = o.keeps.foot 2 (omega arith) ∙ starts.link in
          let e : Machine = record (callers p.image d) { top = d.fp; high = max d.high d.fp; who = instance_at p.link.body (d.stack (d.fp + 2)); pc = suc p.site - 1; mode = searching; clock = suc d.clock } in
          let z : leaving p.image (to_call p.image) d ≡ e = left p Good laws once (to_call p.image) d e (counted 1 st) see caller
          (call_is p Good laws once (p.image.entry (d.stack d.fp)) p.link.body (suc p.site) (record (callers p.image d) { top = d.fp; high = max d.high d.fp }) (site_leads p Good laws once d (counted 1 st) see site)) in
          let g = step_there p Good laws once (length armed_all.code) flat.Pass d place (stood p see) refl (at_push armed_all.code code flat.Pass f5) in
          let ex = excepts_less p.image p.fp (beyond p) name ws x (omega arith) o.excepts in
          record {
            machine = e;
            comes = comes_then p.image c x e o.comes (comes_then p.image x d e k (comes_as p.image d (on_step p.image p.shape flat.Pass d) e z g));
            pc = (let n : suc p.site - 1 ≡ p.site = omega arith in n);
            who = ap (instance_at p.link.body) (ap (λ n. d.stack (n + 2)) see.frame ∙ link);
            frame = number_so (d.stack (d.fp + 1)) p.caller (ap (λ n. d.stack (n + 1)) see.frame ∙ caller);
            mode = refl;
            brings = record { named = ex.named; words = record { at = ex.words.at } };
            below = o.sees.below;
            world = o.sees.world;
            pay = omega (arith, o.sees.pay);
            within = (o.sees.within.0, o.sees.within.1, omega (arith, o.sees.within.2), omega (arith, o.sees.within.3, comes_high p.image c x o.comes, starts.sees.within.4, starts.top, see.frame), omega arith);
            room = omega (arith, o.sees.room, laws.high);
            top = λ m. see.frame;
          }

      by_names : (b : Bool) (name ws : List ℕ) (t : ℕ) (st : State) (o : Seeks p round.work c.top c.stack c (Some region) name ws st) → list_any (bytes_eq name) names ≡ b →
          Outcome p round (length whole.code) c.top c.stack c (either b (with_state counted_twice (ends {A = Unit {0}} (signalled name ws))) (ends (raised name ws)) t st)
      unfolding either with_state ends
      by_names true name ws t st o e = passes name ws t st o (law.named o.machine.value name o.excepts.named e)
      by_names false name ws t st o e = record { machine = o.machine; comes = o.comes; mode = o.mode; home = o.home ∙ law.none o.machine.value name o.excepts.named e; excepts = o.excepts; sees = o.sees; keeps = o.keeps }

      pub resignal_case : (r : Result (Unit {0})) → Outcome p (in_region region round) (length inner.code) c.top c.stack c r →
          Outcome p round (length whole.code) c.top c.stack c (continue_either_way (λ done. guard_done) (resignals names) r)
      unfolding continue_either_way resignals with_state gives ends
      resignal_case (normal u t st) o = to_jump p Good laws once entries round inner passed m.labels c.top c.stack c (normal u t st) f3 front o
      resignal_case (ended (raised name ws) t st) o = by_names (list_any (bytes_eq name) names) name ws t st o refl
      resignal_case (ended broken t st) o = o
      resignal_case (ended continued t st) o = o
      resignal_case (ended (returned ws) t st) o = o
      resignal_case (ended (signalled name ws) t st) o = o
      resignal_case (ended (exited inside arm ws) t st) o = o
      resignal_case (ended (through e) t st) o = o
      resignal_case (ended wrong t st) o = tt
      resignal_case (out_of_turns st) o = o

    pub resignal_runs : (f : Computation (Unit {0})) → PassLaw names region (length jumped.code) round → DoesAt p Good laws once (in_region region round) (opened round.region (labelled 1 m)) f on →
        DoesAt p Good laws once round m (either_way f (λ done. guard_done) (resignals names)) (λ round m. resignal_onto on names round m)
    unfolding either_way
    resignal_runs f law does t st c front s =
        resignal_case law front st c s (f t st) (does t st c
        (front_back inner.code code (flat.Jump m.labels) (f3 law front st c s))
        (record { pc = s.pc; mode = s.mode; top = s.top; room = s.room; mark = s.mark; site = s.site; caller = s.caller; link = s.link; low = s.low; cut = s.cut; guards = s.guards; sees = s.sees }))
