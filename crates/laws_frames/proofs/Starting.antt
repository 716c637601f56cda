-- A run of an image from its start does what its program means, to its end.
use Rattle.std.proofs.Common.{◌≡◌, ◌≢◌, ◌∙◌, ◌⊎◌, inl, inr, ℕ, zero, suc, ◌+◌, ◌*◌, ◌≤◌, ◌==◌, Bool, true, false, List, [], ◌∷◌, Option, Some, None, slice_get, refl, ap, ap₂, sym, subst, arith}
use Rattle.std.specs.Prelude.{if◌then◌else◌, ◌&&◌, max, option_map}
use Rattle.std.specs.Str.{bytes_eq}
use Rattle.std.proofs.lemmas.Bool.{eqb-true}
use Rattle.std.proofs.lemmas.Bool.Decides.{nat_tests}
use Rattle.std.proofs.lemmas.Option.{same_Some}
use Rattle.clu_base.proofs.Bools.{same_truth}
use Rattle.clu_base.proofs.Lists.{as_bytes, none_is_not, same_bytes}
use Rattle.clu_word_meaning.specs.World.{World, also, failure_name, string_of, unhandled_text}
use Rattle.clu_word_meaning.specs.Words.{Computation, Linked, Result, State, broken, continued, exited, is_same, need, no_body, normal, out_of_turns, paid, raised, signalled, spends_a_turn, through, with_state}
use Rattle.clu_word_meaning.specs.Words.{ended as word_ended, ends as word_ends, returned as returned_words, wrong as wrong_word}
use Rattle.clu_word_meaning.specs.Levels.{Callee, WordRoutine, begun_in, entered, entering, enters, framed, inside, level}
use Rattle.clu_word_meaning.specs.Levels.{run as run_word}
use Rattle.clu_flat_meaning.specs.Image.{Body, Descriptor, Entry, Image, Instance, at_end, at_step}
use Rattle.clu_flat_meaning.specs.Machine.{Comes, Machine, at_bottom, ended, failed, in_frame, last_text, on_mode, returned, run, running, searching, started, stepped, word_below, words_below}
use Rattle.laws_frames.specs.Ending.{EndsAs, InMeters, IsClosed, RunEnds, RunsOn, said}
use Rattle.laws_frames.specs.Promises.{ComesBack, Honest, instance_at}
use Rattle.clu_flat_meaning.proofs.Runs.{comes_same, comes_then}
use Rattle.laws_frames.specs.Calls.{Called, Context, Excepts}
use Rattle.laws_frames.specs.Flattened.{IsFlattened, IsProgram}
use Rattle.laws_frames.proofs.Entering.{AtEntry, BodyOk, FrameOk, Local}
use Rattle.laws_frames.proofs.Handing.{all_levels, flattened_is}
use Rattle.laws_frames.proofs.Program.{Flattened, routine_ok}
use Rattle.laws_frames.proofs.Leaving.{Ends, Out, Passes, Strays, ending}
use Rattle.laws_frames.proofs.Mirroring.{Alive, Came, left_body, mirror}

-- The program.

-- the meters begin with the words that are live
abbrev begun_with : ℕ → World → State
begun_with most world = record (begun_in world) { meters = record (begun_in world).meters { most = most } }

most_same : (x : Computation (List ℕ)) (t up m m' : ℕ) (world : World) → max m up ≡ max m' up →
    need true (spends_a_turn (with_state (entering up []) x)) (suc t) (begun_with m world) ≡ need true (spends_a_turn (with_state (entering up []) x)) (suc t) (begun_with m' world)
unfolding need spends_a_turn with_state
most_same x t up m m' world e = ap (λ n. x t (record (entering up [] (paid (begun_with m world))) { meters = record (entering up [] (paid (begun_with m world))).meters { most = n } })) e

module _ (image : Image) (program : ℕ → Option Callee) (is : IsProgram image program) (closed : IsClosed image) (start end : ℕ) (q : WordRoutine) (at : program start ≡ Some (framed q)) (ends : image.entry end ≡ Some at_end)
    (who : Instance) (there : image.descriptor start ≡ Some (record { entry = at_step who.body 0; table = who.table })) (live : ℕ) (low : image.bottom ≤ live) (world : World) where
  abbrev f : ℕ
  f = closed.none_more.0

  free : image.body f ≡ None
  free = closed.none_more.1

  not_free : (b : ℕ) (body : Body) → image.body b ≡ Some body → b ≢ f
  not_free b body e z = none_is_not body (sym free ∙ ap image.body (sym z) ∙ e)

  entries : (a b n : ℕ) → image.entry a ≡ Some (at_step b n) → b ≢ f
  entries a b n e = let k = closed.entries a b n e in not_free b k.0 k.1

  descriptors : (w b n : ℕ) (d : Descriptor) → image.descriptor w ≡ Some d → d.entry ≡ at_step b n → b ≢ f
  descriptors w b n d e g = let k = closed.descriptors w b n d e g in not_free b k.0 k.1

  abbrev other : Image
  other = ending image end f

  -- the other image promises the same

  entry_other : (a : ℕ) (e : Entry) → image.entry a ≡ Some e → (e ≡ at_end → ⊥) → other.entry a ≡ Some e
  entry_other a e h d = by_test (a == end) refl
    where
      by_if : (b : Bool) (x y : Option Entry) → b ≡ false → (if b then x else y) ≡ y
      by_if b x y e = rw e refl

      by_test : (t : Bool) → (a == end) ≡ t → other.entry a ≡ Some e
      by_test true t = absurd (d (same_Some e at_end (sym h ∙ ap image.entry (eqb-true a end t) ∙ ends)))
      by_test false t = by_if (a == end) (Some (at_step f 1)) (image.entry a) t ∙ h

  address_other : (n step : ℕ) → n ≢ f → other.address n step ≡ image.address n step
  address_other n step d = by_if (n == f) (step == 1) (let t : (n == f) ≡ false = grind (arith, nat_tests, d) in t)
    where
      by_if : (a b : Bool) → a ≡ false → (if a && b then end else image.address n step) ≡ image.address n step
      by_if a b e = rw e refl

  leads_other : ComesBack other
  leads_other n step body x e here back = ap other.entry (address_other n (suc step) (not_free n body e)) ∙ entry_other (image.address n (suc step)) (at_step n (suc step)) (is.leads n step body x e here back) (λ z. absurd (cc))

  honest_other : (linked : Linked) → Honest image linked → Honest other linked
  honest_other linked h = record {
    leads = leads_other;
    names = h.names;
    zero_word = h.zero_word;
    filled = h.filled;
    failure = h.failure;
    traps = h.traps;
    objects = h.objects;
    stack = h.stack;
    store = h.store;
    bottom = h.bottom;
  }

  frame_other : (w : ℕ) (r : WordRoutine) → IsFlattened image w r → IsFlattened other w r
  frame_other w r k = record {
    routine = k.routine;
    flat = k.flat;
    who = k.who;
    linked = k.linked;
    is = k.is;
    there = k.there;
    made = k.made;
    held = record { honest = honest_other k.linked k.held.honest; body = k.held.body; regions = k.held.regions; holes = k.held.holes; constants = k.held.constants; names = k.held.names };
  }

  program_other : IsProgram other program
  program_other = record {
    leads = leads_other;
    frames = λ w r e. frame_other w r (is.frames w r e);
    bares = λ w linked deed e. let k = is.bares w linked deed e in record { table = k.table; there = k.there; holes = k.holes; honest = honest_other linked k.honest; slots = k.slots; kept = k.kept };
  }

  -- The start, which returns to the end.

  abbrev bottom : Context
  bottom = record { inv = λ s outer. Unit {0}; out = λ e st d. Unit {0}; site = 0; caller = 0; link = instance_at f 0; last = image.bottom; high = image.bottom }

  end_address : other.address f 1 ≡ end
  end_address = by_if (f == f) (let t : (f == f) ≡ true = grind (arith, nat_tests) in t)
    where
      by_if : (a : Bool) → a ≡ true → (if a && true then end else image.address f 1) ≡ end
      by_if a e = rw e refl

  end_leads : other.entry end ≡ Some (at_step f 1)
  end_leads = by_if (end == end) (let t : (end == end) ≡ true = grind (arith, nat_tests) in t)
    where
      by_if : (a : Bool) → a ≡ true → (if a then Some (at_step f 1) else image.entry end) ≡ Some (at_step f 1)
      by_if a e = rw e refl

  local : Local other bottom
  local = record { on = λ s now outer same b. tt; deep = omega arith; leads = ap other.entry end_address ∙ end_leads; high = omega arith }

  no_body_ok : BodyOk other bottom no_body
  unfolding word_ends
  no_body_ok = record { runs = λ now t st ws d under at. tt }

  abbrev c : Machine
  c = started image end who world

  begins : AtEntry other bottom who [] (begun_with live world) c
  unfolding words_below
  begins = record {
    pc = refl;
    who = refl;
    mode = refl;
    back = sym end_address;
    frame = refl;
    link = refl;
    top = refl;
    words = refl;
    below = tt;
    world = refl;
    pay = omega arith;
    within = (omega (arith, low), omega arith, omega arith, omega (arith, low), omega arith);
  }

  flattened : Flattened other start q
  flattened = flattened_is other start q (frame_other start q (is.frames start q at))

  starts_there : flattened.who ≡ who
  starts_there = let e = same_Some _ _ (sym flattened.there ∙ there) in same_instance flattened.who who (ap (λ (d : Descriptor). d.entry) e) (ap (λ (d : Descriptor). d.table) e)
    where
      same_instance : (a b : Instance) → at_step a.body 0 ≡ at_step b.body 0 → a.table ≡ b.table → a ≡ b
      same_instance a b e g = let z : a.body ≡ b.body = cc in ap₂ instance_at z g

  frame_ok : (n : ℕ) → FrameOk other who (enters (level program n) q)
  frame_ok n = subst (λ x. FrameOk other x (enters (level program n) q)) starts_there (routine_ok other start q flattened (level program n) (all_levels other program program_other n))

  abbrev outcome : ℕ → ℕ → Result (List ℕ)
  outcome most turns = enters (level program turns) q live no_body [] turns (begun_with most world)

  does : (turns : ℕ) → Called other bottom c (outcome live turns)
  does turns = (frame_ok turns).runs bottom local live low no_body no_body_ok [] turns (begun_with live world) c begins

  real : c.who.body ≢ f
  real = let k = flattened.compiled.there in not_free who.body flattened.shape (ap (λ (i : Instance). image.body i.body) (sym starts_there) ∙ k)

  came : (d : Machine) → Comes other c d → Alive image end f ends entries descriptors free d → Came image end f ends entries descriptors free c d
  came d k l = mirror image end f ends entries descriptors free k.steps c d real k.come l

  abbrev LeftTo : Machine → Machine → Type 0
  LeftTo d b = Out image end f ends entries descriptors d b

  -- the machine that left is as the one that ended, but for where it is
  meters_of : (st : State) (d b : Machine) → b.clock ≡ d.clock → b.peak ≡ d.peak → b.used ≡ d.used → b.high ≡ d.high → st.meters.spent ≤ d.clock → d.peak ≤ st.meters.most → d.used ≤ st.meters.store → d.clock ≤ st.meters.steps → d.high ≤ st.meters.most → InMeters live st b
  meters_of st d b e1 e2 e3 e4 pay peak used steps high = record { turns = omega (arith, e1, pay); steps = omega (arith, e1, steps); stack = omega (arith, e2, peak); tops = omega (arith, e4, high); store = omega (arith, e3, used) }

  ended_by : (given : List ℕ) (t : ℕ) (st : State) → Called other bottom c (normal given t st) → EndsAs image c live returned st
  ended_by given t st o = by_came (came o.machine o.comes (inl o.mode))
    where
      by_way : (b : Machine) → Comes image c b → (x : Machine) → Ends image end f ends entries descriptors x o.machine b ⊎ (Passes image end f ends entries descriptors x o.machine b ⊎ Strays image end f ends entries descriptors x o.machine) → EndsAs image c live returned st
      by_way b k x (inl e) = record {
        machine = b;
        comes = k;
        mode = ap (λ (m : Machine). m.mode) e.1;
        world = ap (λ (m : Machine). m.world) e.1 ∙ sym (ap (λ (m : Machine). m.world) e.0) ∙ o.world;
        meters = meters_of st o.machine b (ap (λ (m : Machine). m.clock) e.1 ∙ sym (ap (λ (m : Machine). m.clock) e.0)) (ap (λ (m : Machine). m.peak) e.1 ∙ sym (ap (λ (m : Machine). m.peak) e.0)) (ap (λ (m : Machine). m.used) e.1 ∙ sym (ap (λ (m : Machine). m.used) e.0)) (ap (λ (m : Machine). m.high) e.1 ∙ sym (ap (λ (m : Machine). m.high) e.0))
            o.pay o.within.0 o.within.1 o.within.2 o.within.3;
      }
      by_way b k x (inr (inl e)) = let z : searching ≡ running = sym (ap (λ (m : Machine). m.mode) e.0) ∙ o.mode in absurd (cc)
      by_way b k x (inr (inr e)) = let z : 2 ≡ 1 = sym (ap (λ (m : Machine). m.pc) e) ∙ o.pc in absurd (omega (arith, z))

      by_came : Came image end f ends entries descriptors free c o.machine → EndsAs image c live returned st
      by_came (inl k) = absurd (k.1 (ap (λ (i : Instance). i.body) o.who))
      by_came (inr k) = by_way k.0 k.1 k.2.from k.2.how

  -- The text of an exception that leaves all routines.

  at_failure : (linked : Linked) → Honest image linked → (name : List ℕ) (v : ℕ) → image.name_of v ≡ Some name → (v == image.failure) ≡ bytes_eq name failure_name
  at_failure linked h name v e = same_truth (v == image.failure) (bytes_eq name failure_name)
      (λ t. let z : v ≡ image.failure = eqb-true v image.failure t in as_bytes name failure_name (same_Some name failure_name (sym e ∙ ap image.name_of z ∙ h.failure)))
      (λ t.
      let z : name ≡ failure_name = same_bytes name failure_name t in
      let y : v ≡ image.failure = sym (h.names v name e) ∙ ap linked.name_word z ∙ h.names image.failure failure_name h.failure in
      grind (arith, nat_tests, y))

  text_by : (t : Bool) (first second said_first said_second : Option (List ℕ)) (text : List ℕ) → (said_first ≡ Some text → first ≡ Some text) → (said_second ≡ Some text → second ≡ Some text) → (if t then said_first else said_second) ≡ Some text → (if t then first else second) ≡ Some text
  text_by true a b a' b' text g h e = g e
  text_by false a b a' b' text g h e = h e

  also_some : (o : Option ℕ) (w : ℕ) (g : ℕ → Option (List ℕ)) → o ≡ Some w → also o g ≡ g w
  also_some o w g e = rw e refl

  first_text : (ws : List ℕ) (from : ℕ) (name : List ℕ) (d : Machine) (world' : World) (text : List ℕ) → Excepts other from name ws d → d.world ≡ world' → also (slice_get ws 0) (string_of world') ≡ Some text → also (word_below image d.peak d.stack d.words) (string_of d.world) ≡ Some text
  first_text [] from name d world' text ex e h = none_is_not text h
  first_text (w ∷ ws) from name d world' text ex e h =
      also_some (word_below image d.peak d.stack d.words) w (string_of d.world) ((let z : d.words ≡ d.words + 8 * 0 = omega arith in ap (word_below image d.peak d.stack) z) ∙ ex.words.at 0 w refl d.stack (λ n l. refl)) ∙ ap (λ x. string_of x w) e ∙ h

  last_is : (linked : Linked) → Honest image linked → (name ws : List ℕ) (from : ℕ) (d : Machine) (st : State) (text : List ℕ) → Excepts other from name ws d → d.world ≡ st.world → said name ws st.world ≡ Some text → last_text image d ≡ Some text
  last_is linked h name ws from d st text ex e s =
      text_by (d.value == image.failure) (also (word_below image d.peak d.stack d.words) (string_of d.world)) (option_map unhandled_text (image.name_of d.value)) (also (slice_get ws 0) (string_of st.world)) (Some (unhandled_text name)) text
      (first_text ws from name d st.world text ex e) (λ z. ap (option_map unhandled_text) ex.named ∙ z)
      (ap (λ t. if t then also (slice_get ws 0) (string_of st.world) else Some (unhandled_text name)) (at_failure linked h name d.value ex.named) ∙ s)

  bottom_step : (b : Machine) (text : List ℕ) → b.mode ≡ searching → b.fp ≡ 0 → last_text image b ≡ Some text → Comes image b (record b { mode = ended (failed text); clock = suc b.clock })
  unfolding run stepped on_mode in_frame at_bottom
  bottom_step b text m z e = record {
    steps = 1;
    come = ap (λ x. on_mode image x b) m ∙ ap (λ t. in_frame image t b) (let t : (b.fp == 0) ≡ true = grind (arith, nat_tests, z) in t) ∙ ap (λ o. at_bottom image o b) e;
  }

  failed_by : (name ws : List ℕ) (t : ℕ) (st : State) → Called other bottom c (word_ended (raised name ws) t st) → (text : List ℕ) → said name ws st.world ≡ Some text → EndsAs image c live (failed text) st
  failed_by name ws t st o text s = by_came (came o.machine o.comes (inr o.mode))
    where
      honest : (linked : Linked) × Honest image linked
      honest = let k = is.frames start q at in (k.linked, k.held.honest)

      by_way : (b : Machine) → Comes image c b → (x : Machine) → Ends image end f ends entries descriptors x o.machine b ⊎ (Passes image end f ends entries descriptors x o.machine b ⊎ Strays image end f ends entries descriptors x o.machine) → EndsAs image c live (failed text) st
      by_way b k x (inl e) = let z : 1 ≡ 0 = sym (ap (λ (m : Machine). m.pc) e.0) ∙ o.pc in absurd (omega (arith, z))
      by_way b k x (inr (inl e)) =
          let d : Machine = o.machine in
          let frame : b.fp ≡ 0 = ap (λ (m : Machine). m.fp) e.1 ∙ sym (ap (λ (m : Machine). m.fp) e.0) ∙ o.frame in
          let clock : b.clock ≡ d.clock = ap (λ (m : Machine). m.clock) e.1 ∙ sym (ap (λ (m : Machine). m.clock) e.0) in
          let said_at : last_text image b ≡ last_text image d = ap (last_text image) e.1 ∙ sym (ap (last_text image) e.0) in
          let step = bottom_step b text (ap (λ (m : Machine). m.mode) e.1) frame (said_at ∙ last_is honest.0 honest.1 name ws image.bottom d st text o.brings o.world s) in
          record {
            machine = record b { mode = ended (failed text); clock = suc b.clock };
            comes = comes_then image c b _ k step;
            mode = refl;
            world = ap (λ (m : Machine). m.world) e.1 ∙ sym (ap (λ (m : Machine). m.world) e.0) ∙ o.world;
            meters = record {
              turns = omega (arith, clock, o.pay);
              steps = omega (arith, clock, o.within.2);
              stack = omega (arith, ap (λ (m : Machine). m.peak) e.1, ap (λ (m : Machine). m.peak) e.0, o.within.0);
              tops = omega (arith, ap (λ (m : Machine). m.high) e.1, ap (λ (m : Machine). m.high) e.0, o.within.3);
              store = omega (arith, ap (λ (m : Machine). m.used) e.1, ap (λ (m : Machine). m.used) e.0, o.within.1);
            };
          }
      by_way b k x (inr (inr e)) = let z : 2 ≡ 0 = sym (ap (λ (m : Machine). m.pc) e) ∙ o.pc in absurd (omega (arith, z))

      by_came : Came image end f ends entries descriptors free c o.machine → EndsAs image c live (failed text) st
      by_came (inl k) = absurd (k.1 (ap (λ (i : Instance). i.body) o.who))
      by_came (inr k) = by_way k.0 k.1 k.2.from k.2.how

  spent_by : (st : State) → Called other bottom c (out_of_turns st) → RunsOn image c live st
  spent_by st o = by_came (came o.machine o.comes (inl o.mode))
    where
      by_came : Came image end f ends entries descriptors free c o.machine → RunsOn image c live st
      by_came (inl k) = record { machine = o.machine; comes = k.0; mode = o.mode; output = o.output; meters = meters_of st o.machine o.machine refl refl refl refl o.pay o.within.0 o.within.1 o.within.2 o.within.3 }
      by_came (inr k) = absurd (not_free o.machine.who.body o.there.0 o.there.1 (left_body image end f ends entries descriptors free o.machine k.0 k.2))

  outcome_of : (r : Result (List ℕ)) → Called other bottom c r → RunEnds image c live r
  outcome_of (normal given t st) o = ended_by given t st o
  outcome_of (word_ended (raised name ws) t st) o = failed_by name ws t st o
  outcome_of (word_ended broken t st) o = tt
  outcome_of (word_ended continued t st) o = tt
  outcome_of (word_ended (returned_words ws) t st) o = tt
  outcome_of (word_ended (signalled name ws) t st) o = tt
  outcome_of (word_ended (exited deep arm ws) t st) o = tt
  outcome_of (word_ended (through e) t st) o = tt
  outcome_of (word_ended wrong_word t st) o = tt
  outcome_of (out_of_turns st) o = spent_by st o

  -- without turns the machine stands at the start
  no_turns : (b : Bool) (x : Computation (List ℕ)) → RunEnds image c live (need b (spends_a_turn x) zero (begun_in world))
  unfolding need spends_a_turn word_ends
  no_turns true x = record { machine = c; comes = comes_same image c; mode = refl; output = refl; meters = record { turns = omega arith; steps = omega arith; stack = omega (arith, low); tops = omega (arith, low); store = omega arith } }
  no_turns false x = tt

  by_need : (b : Bool) (x : Computation (List ℕ)) (t up : ℕ) → live ≤ up → RunEnds image c live (need b (spends_a_turn (with_state (entering up []) x)) (suc t) (begun_with live world)) →
      RunEnds image c live (need b (spends_a_turn (with_state (entering up []) x)) (suc t) (begun_with 0 world))
  unfolding need word_ends
  by_need true x t up l o = subst (RunEnds image c live) (sym (most_same x t up 0 live world (let z : max 0 up ≡ max live up = omega (arith, l) in z))) o
  by_need false x t up l o = tt

  by_turns : (turns : ℕ) → RunEnds image c live (outcome 0 turns)
  by_turns zero = no_turns (is_same q.args 0) _
  by_turns (suc t) = by_need (is_same q.args 0) _ t (inside live q) (omega arith) (outcome_of (outcome live (suc t)) (does (suc t)))

  pub program_runs : (turns : ℕ) → RunEnds image c live (run_word program start live world turns)
  unfolding level entered
  program_runs turns = subst (λ o. RunEnds image c live (entered (level program turns) o live no_body [] turns (begun_in world))) (sym at) (by_turns turns)
