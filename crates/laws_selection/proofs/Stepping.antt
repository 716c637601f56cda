-- A step of running code: where it stands, what it sees, and where the machine is after it.
use Rattle.std.proofs.Common.{◌≡◌, ◌∙◌, ℕ, zero, suc, pos, ◌+◌, ◌-◌, ◌*◌, ◌%◌, ◌^◌, ◌<◌, ◌≤◌, ◌==◌, Bool, true, false, not, List, [], ◌∷◌, drop, length, slice_get, Option, Some, None, refl, ap, ap₂, sym, subst, arith, true≢false}
use Rattle.std.specs.Prelude.{bit_or, unwrap_or}
use Rattle.std.specs.Int.{w64}
use Rattle.std.proofs.lemmas.Bool.Decides.{nat_tests}
use Rattle.std.proofs.lemmas.Bool.{eqb-true}
use Rattle.clu_wir.specs.Numbers.{trap_number}
use Rattle.clu_wir.specs.Value.{View}
use Rattle.clu_wir.specs.declared.hole.HoleKind.{HoleKind}
use Rattle.clu_wir.specs.declared.hole.HoleKind.TheVariants as kind
use Rattle.clu_wir.specs.declared.trap.Trap.{Trap}
use Rattle.clu_wir.specs.declared.trap.Trap.TheVariants as trap
use Rattle.clu_frames.specs.Plain.{Step}
use Rattle.clu_frames.specs.Plain as flat
use Rattle.clu_flat_meaning.specs.Image.{Body, Image}
use Rattle.clu_flat_meaning.specs.Machine.{Machine, place_of, put_in, running}
use Rattle.rv_isa.specs.declared.instr.Instr.TheVariants as instr
use Rattle.rv_isa.specs.declared.op.Op.TheVariants as op
use Rattle.rv_machine.specs.State.{State, register, written_at}
use Rattle.rv_machine.specs.Steps.{advanced, word_of}
use Rattle.rv_machine.specs.Values.{sum, unsigned}
use Rattle.rv_select.specs.declared.parts.Part.TheVariants as part
use Rattle.rv_select.specs.declared.parts.TheConstants.{TRAP_ENTRY}
use Rattle.rv_select.specs.declared.register.Register.{Register}
use Rattle.rv_select.specs.declared.register.Register.TheVariants as name
use Rattle.rv_select.specs.Evaluation.{trap_distance}
use Rattle.rv_select.specs.Operands.{bit, unbound}
use Rattle.rv_select.specs.Registers.{register_number}
use Rattle.rv_select.specs.Selection.{step_onto}
use Rattle.rv_select.specs.Slots.{lowest, near_base, near_onto, save_slot_onto, slot_distance}
use Rattle.rv_select.specs.Written.{Written, emitted}
use Rattle.laws_selection.specs.Evaluating.{Here, Scoped, Traps}
use Rattle.laws_selection.specs.Fitting.{Fits, Travels, is_label_of, is_read}
use Rattle.laws_selection.specs.Growing.{Front, Sound, address}
use Rattle.laws_selection.specs.Holding.{Arrives, Held, IsAt, Runs, is_read_from, reads, stack_end}
use Rattle.laws_selection.specs.Registers.{is_far, stays}
use Rattle.laws_selection.specs.Running.{At, Reaches}
use Rattle.laws_selection.specs.Standing.{Linked, Placed, Standing, body_words, words_before}
use Rattle.laws_selection.proofs.Evaluating.{near_gives, next_address}
use Rattle.laws_selection.proofs.Fronts.{StepAt, label_at, step_at, upto}
use Rattle.laws_selection.proofs.Growing.{Stood, emitted_adds, emitted_length, extends_longer, front_adds, placed_length, sound_then}
use Rattle.laws_selection.proofs.Holding.{held_done, held_put, on_stack, fine_of, sees_held, seen, slot_there}
use Rattle.laws_selection.proofs.Landing.{stood}
use Rattle.laws_selection.proofs.Memory.{with_stack, written_stack}
use Rattle.laws_selection.proofs.Registers.{stays_own}
use Rattle.laws_selection.proofs.Running.{reaches_one, reaches_then, save_goes}
use Rattle.laws_selection.proofs.Trapping.{trap_few}

-- where each trap is entered
abbrev pub trap_at : {image : Image} {m : State} → Standing image m → Trap → ℕ
trap_at standing t = standing.part part.Trap + 8 * trap_number t

distance_is : (t : Trap) → unsigned (trap_distance t (pos 0) TRAP_ENTRY) ≡ 8 * trap_number t
distance_is trap.Overflow = refl
distance_is _ = refl

lands_at : (a n : ℕ) → a % 4 ≡ 0 → a < 2 ^ 32 → n < 6 → (let b = sum a (8 * n) in b - b % 2) ≡ a + 8 * n
lands_at a n e l k = grind arith

even_at : (a n : ℕ) → a % 4 ≡ 0 → ((a + 8 * n) % 4 == 0) ≡ true
even_at a n e = grind (arith, nat_tests)

pub traps_of : {image : Image} {m : State} (standing : Standing image m) (hole : HoleKind → ℕ → ℕ) → hole kind.Runtime 3 ≡ standing.part part.Trap → Traps hole (trap_at standing)
traps_of standing hole is =
    let p = standing.parts part.Trap in
    let room = p.room in
    record {
      aligned = λ t. even_at (standing.part part.Trap) (trap_number t) p.stands.aligned;
      lands = λ t. ap₂ (λ a d. let b = sum a d in b - b % 2) is (distance_is t) ∙ lands_at (standing.part part.Trap) (trap_number t) p.stands.aligned (omega (arith, room)) (trap_few t);
    }

rest_is : (code : List Step) (n : ℕ) (step : Step) → slice_get code n ≡ Some step → drop n code ≡ step ∷ drop (suc n) code
rest_is [] n step e = absurd (cc)
rest_is (s ∷ ss) zero step e = ap (λ (o : Option Step). unwrap_or o s ∷ ss) e
rest_is (s ∷ ss) (suc n) step e = rest_is ss n step e

pub not_so : (x : Bool) → not x ≡ true → x ≡ false
not_so true e = absurd (cc)
not_so false e = refl

pub nothing_bound : (s : State) → Scoped false (unbound false) [] s
nothing_bound s = record { leaf = refl; small = λ n v e. absurd (cc); placed = λ n o e. known n o e; held = λ n v e. absurd (cc) }
  where
    known : (n : ℕ) (o : Rattle.rv_select.specs.declared.operand.Operand.Operand) → slice_get (unbound false).bound n ≡ Some o → Rattle.laws_selection.specs.Evaluating.IsPlaced o
    known zero o e = subst Rattle.laws_selection.specs.Evaluating.IsPlaced (Rattle.laws_selection.proofs.Reading.some_same _ o e) (omega arith)
    known (suc zero) o e = subst Rattle.laws_selection.specs.Evaluating.IsPlaced (Rattle.laws_selection.proofs.Reading.some_same _ o e) (omega arith)
    known (suc (suc zero)) o e = subst Rattle.laws_selection.specs.Evaluating.IsPlaced (Rattle.laws_selection.proofs.Reading.some_same _ o e) (omega arith)
    known (suc (suc (suc zero))) o e = subst Rattle.laws_selection.specs.Evaluating.IsPlaced (Rattle.laws_selection.proofs.Reading.some_same _ o e) (omega arith)
    known (suc (suc (suc (suc n)))) o e = absurd (cc)

pub frame_stays : (kept : ℕ) → stays kept name.Frame ≡ true
unfolding stays
frame_stays kept = refl

-- the frame lies in the stack
pub record Framed (image : Image) (m : State) (frame : ℕ) (c : Machine) : Type 0 where
  pub low : image.bottom ≤ c.fp
  pub high : 8 * (c.fp + (4 + frame)) ≤ stack_end m

module _ (image : Image) (m : State) (standing : Standing image m) where
  abbrev Arrives' : Machine → State → Type 0
  Arrives' = Arrives image m standing

  pub arrives_then : (d : Machine) (s t : State) → Reaches s t → Arrives' d t → Arrives' d s
  arrives_then d s t r a = record { state = a.state; reaches = reaches_then r a.reaches; at = a.at }

  module _ (c : Machine) (b : Body) (is : image.body c.who.body ≡ Some b) (fits : Fits b) (instance : standing.is_instance c.who.body c.who.table ≡ true) where
    abbrev pub base : ℕ
    base = standing.routine c.who.body b is

    abbrev pub placed : Placed m standing.part standing.runtime base (body_words b)
    placed = standing.placed c.who.body b is

    abbrev pub cells : HoleKind → ℕ → ℕ
    cells = placed.cells

    pub stands : Stood (body_words b) m.code base cells
    stands = stood (body_words b) m.code base cells placed.stands

    pub traps : Traps cells (trap_at standing)
    traps = traps_of standing cells (placed.parts part.Trap)

    abbrev pub linked : Linked m image cells c.who.table
    linked = standing.linked c.who.body b is c.who.table instance

    pub at_step : (step : Step) → slice_get b.code c.pc ≡ Some step → StepAt b c.pc step
    at_step step e = step_at m.code base b cells stands (trap_at standing) placed.stands.few traps fits c.pc step e

    abbrev pub view : View
    view = seen image m standing b.frame c

    abbrev pub Here' : Written → State → Type 0
    Here' = Here view m.code base cells false

    -- where a label is
    pub record Target (label : ℕ) : Type 0 where
      pub placed_at : slice_get (body_words b).labels label ≡ Some (Some (words_before b (place_of b.code label)))
      pub short : words_before b (place_of b.code label) < 2 ^ 32
      pub some : 0 < place_of b.code label
      pub inside : place_of b.code label ≤ length b.code

    pub target : (label : ℕ) → is_label_of label (slice_get b.code (place_of b.code label)) ≡ true → Target label
    target label e = of_label (label_is (slice_get b.code (place_of b.code label)) refl e)
      where
        label_is : (o : Option Step) → slice_get b.code (place_of b.code label) ≡ o → is_label_of label o ≡ true → slice_get b.code (place_of b.code label) ≡ Some (flat.Label label)
        label_is None q e = absurd (cc)
        label_is (Some (flat.Label n)) q e = q ∙ ap (λ k. Some (flat.Label k)) (eqb-true n label e)
        label_is (Some _) q e = absurd (cc)

        after_first : (n : ℕ) → slice_get b.code n ≡ Some (flat.Label label) → 0 < n
        after_first zero e = absurd (cc (fits.begins (flat.Label label) e))
        after_first (suc n) e = omega arith

        of_label : slice_get b.code (place_of b.code label) ≡ Some (flat.Label label) → Target label
        of_label e =
            let x = step_at m.code base b cells stands (trap_at standing) placed.stands.few traps fits (place_of b.code label) (flat.Label label) e in
            let fits_in = extends_longer _ (body_words b) x.front.extends in
            let same = placed_length label (upto b (place_of b.code label)) in
            let few = placed.stands.few in
            let inside = x.inside in
            record {
              placed_at = label_at m.code base b cells stands (trap_at standing) placed.stands.few traps fits (place_of b.code label) label e;
              short = omega (arith, fits_in, same, few);
              some = after_first (place_of b.code label) e;
              inside = omega (arith, inside);
            }

    pub here : (w : Written) (s : State) → Framed image m b.frame c → Held image m c s → Sound w → s.pc ≡ address base (length w.code) → Here' w s
    here w s framed h sound pc = record { sound = sound; pc = pc; sees = sees_held image m standing b.frame fits.frame c s cells h linked framed.low framed.high }

    -- what travels is read from the next place on if it is from this one on
    pub reads_next : (step : Step) → slice_get b.code c.pc ≡ Some step → c.mode ≡ running → (t : Travels) → ((rest : List Step) → is_read t rest ≡ true → is_read t (step ∷ rest) ≡ true) →
        reads image t c.who.body (suc c.pc) c.mode ≡ true → reads image t c.who.body c.pc c.mode ≡ true
    reads_next step e mode t more r =
        let before : reads image t c.who.body (suc c.pc) running ≡ true = subst (λ k. reads image t c.who.body (suc c.pc) k ≡ true) mode r in
        let rest : is_read t (drop (suc c.pc) b.code) ≡ true = ap (λ o. is_read_from t o (suc c.pc)) (sym is) ∙ before in
        subst (λ k. reads image t c.who.body c.pc k ≡ true) (sym mode) (ap (λ o. is_read_from t o c.pc) is ∙ ap (is_read t) (rest_is b.code c.pc step e) ∙ more (drop (suc c.pc) b.code) rest)

    -- it isn't read from the next place on
    pub unread_next : c.mode ≡ running → (t : Travels) → is_read t (drop (suc c.pc) b.code) ≡ false → reads image t c.who.body (suc c.pc) c.mode ≡ true → reads image t c.who.body c.pc c.mode ≡ true
    unread_next mode t e r =
        let so : reads image t c.who.body (suc c.pc) running ≡ true = subst (λ k. reads image t c.who.body (suc c.pc) k ≡ true) mode r in
        absurd (true≢false (sym so ∙ ap (λ o. is_read_from t o (suc c.pc)) is ∙ e))

    -- what travels is read here
    pub reads_here : (step : Step) → slice_get b.code c.pc ≡ Some step → c.mode ≡ running → (t : Travels) → ((rest : List Step) → is_read t (step ∷ rest) ≡ true) → reads image t c.who.body c.pc c.mode ≡ true
    reads_here step e mode t now = subst (λ k. reads image t c.who.body c.pc k ≡ true) (sym mode) (ap (λ o. is_read_from t o c.pc) is ∙ ap (is_read t) (rest_is b.code c.pc step e) ∙ now (drop (suc c.pc) b.code))

    -- at the place of a step
    pub runs_at : (d : Machine) (t : State) (step : ℕ) → d.who.body ≡ c.who.body → d.pc ≡ step → step ≤ length b.code → t.pc ≡ address base (words_before b step) → 0 < step → Runs image d t
    runs_at d t step same at inside pc some = record {
      code = b;
      there = ap image.body same ∙ is;
      inside = subst (λ n. n ≤ length b.code) (sym at) inside;
      pc = pc ∙ sym (standing.places c.who.body b is step inside) ∙ ap₂ image.address (sym same) (sym at);
      back = λ e. absurd (omega (arith, at, e, some));
      caller = λ e. absurd (omega (arith, at, e, some));
    }

    -- behind what was written, the machine holds what flat code sees
    pub record Came (v : Written) (s : State) (d : Machine) : Type 0 where
      pub state : State
      pub reaches : Reaches s state
      pub held : Held image m d state
      pub sound : Sound v
      pub pc : state.pc ≡ address base (length v.code)

    -- where the step's words end the next place begins
    pub arrives_next : (step : Step) (d : Machine) (s : State) → (x : StepAt b c.pc step) → d.who.body ≡ c.who.body → d.pc ≡ suc c.pc → d.mode ≡ running → Came (step_onto b.frame step (upto b c.pc)) s d → Arrives' d s
    arrives_next step d s x same at mode came = record {
      state = came.state;
      reaches = came.reaches;
      at = subst (λ k. IsAt image m standing d came.state k) (sym mode) (came.held, runs_at d came.state (suc c.pc) same at x.inside (came.pc ∙ ap (address base) (sym x.behind)) (omega arith));
    }

    -- a register to a slot
    pub save_gives : (w : Written) (s : State) (from : Register) (slot n : ℕ) → Framed image m b.frame c → is_far from ≡ false → Sound w → s.pc ≡ address base (length w.code) → Held image m c s → Front (save_slot_onto from slot w) (body_words b) →
        register s (register_number from) ≡ n → n < 2 ^ 64 → slot < b.frame → Came (save_slot_onto from slot w) s (put_in slot n c)
    save_gives w s from slot n framed near sound pc h f holds small inside =
        let d = slot_distance slot in
        let v = near_onto name.Frame d w in
        let k = bit_or 0 (bit from) in
        let r = near_base name.Frame d in
        let i = instr.Save op.Sd (register_number r) (register_number from) (lowest d) in
        let y = near_gives view m.code base (body_words b) cells stands false k w s name.Frame d (here w s framed h sound pc) (frame_stays k) tt (front_adds v (emitted i v) (body_words b) (emitted_adds i v) f) in
        let t = y.state in
        let ht = held_done image m standing k c s t y.done h in
        let low = framed.low in
        let high = framed.high in
        let frame = fits.frame in
        let number = c.fp + 4 + slot in
        let below : image.bottom ≤ number = omega (arith, low) in
        let above : 8 * number + 8 ≤ stack_end m = omega (arith, high, inside) in
        let on = on_stack image m standing t number ht.fixed below above in
        let there : At t.code t.pc i = subst (λ x. At x t.pc i) (sym y.here.sees.code) (subst (λ a. At m.code a i) (sym y.here.pc) (stands.plain i v y.here.sound f)) in
        let from_is : register t (register_number from) ≡ n = y.done.stays from (stays_own 0 from near) ∙ holds in
        let to_is : sum (register t (register_number r)) (word_of (lowest d)) ≡ 8 * number = y.reach ∙ slot_there image m standing c s slot h (omega (arith, inside, frame)) above in
        let goes = save_goes t (with_stack t (8 * number) n) (register_number r) (register_number from) (lowest d) there
        (ap₂ (λ a x. written_at w64 t a x) to_is from_is ∙ written_stack t (8 * number) n (fine_of image m standing t ht.fixed) on) in
        record {
          state = advanced (with_stack t (8 * number) n);
          reaches = reaches_then y.reaches (reaches_one t _ goes);
          held = held_put image m standing c t number n ht below above small;
          sound = sound_then v (emitted i v) (emitted_adds i v).extends y.here.sound;
          pc = ap (λ a. sum a 4) y.here.pc ∙ next_address base (length v.code) ∙ ap (address base) (sym (emitted_length i v));
        }
