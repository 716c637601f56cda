-- A routine ends: its results travel, its frame is taken away, and the caller goes on.
use Rattle.std.proofs.Common.{◌≡◌, ◌∙◌, ℕ, zero, suc, ℤ, pos, ◌+◌, ◌*◌, ◌%◌, ◌^◌, ◌<◌, ◌≤◌, Bool, true, false, drop, max, length, slice_get, Option, Some, None, refl, ap, ap₂, sym, subst, arith, true≢false}
use Rattle.std.specs.Int.{w64}
use Rattle.std.proofs.lemmas.Bool.Decides.{nat_tests}
use Rattle.std.proofs.lemmas.Bool.{eqb-true}
use Rattle.std.proofs.lemmas.List.{get_or-set_same, length-set}
use Rattle.clu_frames.specs.Plain.{Step}
use Rattle.clu_frames.specs.Plain as flat
use Rattle.clu_flat_meaning.specs.Image.{Body, Entry, Image, at_deed, at_end, at_step}
use Rattle.clu_flat_meaning.specs.Machine.{Machine, callers, ended, returned, is_address, leaving, number_at, returns, running, slot_address, where_so, with_results}
use Rattle.rv_isa.specs.declared.instr.Instr.TheVariants as instr
use Rattle.rv_isa.specs.declared.op.Op.TheVariants as op
use Rattle.rv_machine.specs.State.{State, read_at, register}
use Rattle.rv_machine.specs.Steps.{word_of}
use Rattle.rv_machine.specs.Values.{sum, unsigned}
use Rattle.rv_select.specs.declared.register.Register.{Register}
use Rattle.rv_select.specs.declared.register.Register.TheVariants as name
use Rattle.rv_select.specs.Registers.{register_number}
use Rattle.rv_select.specs.Slots.{lowest, near_base, near_onto, slot_distance}
use Rattle.rv_select.specs.Steps.{left_onto, results_onto}
use Rattle.rv_select.specs.Written.{Written, emitted}
use Rattle.laws_selection.specs.Fitting.{Fits, Travels, is_left, is_read, step_fits, the_value, the_words}
use Rattle.laws_selection.specs.Growing.{Front, Sound, address}
use Rattle.laws_selection.specs.Holding.{Arrives, Held, IsAt, is_read_from, reads, stack_end}
use Rattle.laws_selection.specs.Running.{At, Done, Reaches}
use Rattle.laws_selection.specs.Standing.{After, Returns, Standing, body_words, words_before}
use Rattle.laws_selection.proofs.Adding.{left_adds}
use Rattle.laws_selection.proofs.Entering.{among, differ}
use Rattle.laws_selection.proofs.Evaluating.{near_gives, next_address}
use Rattle.laws_selection.proofs.Following.{wrong}
use Rattle.laws_selection.proofs.Fronts.{StepAt, upto}
use Rattle.laws_selection.proofs.Growing.{emitted_adds, emitted_length, front_adds, sound_then}
use Rattle.laws_selection.proofs.Holding.{held_done, held_registers, slot_is}
use Rattle.laws_selection.proofs.Leaving.{Left, left_goes}
use Rattle.laws_selection.proofs.Room.{ecall_stops}
use Rattle.laws_selection.proofs.Running.{imm_goes, load_goes, reaches_one, reaches_same, reaches_then, with_word}
use Rattle.laws_selection.proofs.Stepping.{Came, Framed, base, cells, frame_stays, here, not_so, stands, trap_at, traps}
use Rattle.laws_selection.proofs.Stepping as stepping
use Rattle.laws_selection.proofs.Trapping.{set_other}
use Rattle.laws_selection.proofs.Travelling.{far_sum}

-- the address of a step is aligned, and one of 64 bits
low_address : (base k : ℕ) → address base k < 2 ^ 64
low_address base k = grind arith

-- what the results of so many are left in
abbrev Given : ℕ → Machine → State → Type 0
Given zero d s = Unit {0}
Given (suc zero) d s = register s 10 ≡ d.value
Given (suc (suc n)) d s = register s 11 ≡ d.words

module _ (image : Image) (m : State) (standing : Standing image m) (c : Machine) (b : Body) (is : image.body c.who.body ≡ Some b) (fits : Fits b) (instance : standing.is_instance c.who.body c.who.table ≡ true) where
  abbrev base' : ℕ
  base' = base image m standing c b is fits instance

  abbrev W : Written
  W = body_words b

  abbrev Came' : Written → State → Machine → Type 0
  Came' v s d = Came image m standing c b is fits instance v s d

  -- Results travel.

  abbrev giving : ℕ → Machine
  giving n = record c { value = n }

  abbrev handing : ℕ → Machine
  handing n = record c { words = n }

  -- what a register near the frame is filled with
  pub record Near' (q : Register) (w : Written) (i : Rattle.rv_isa.specs.declared.instr.Instr.Instr) (s : State) (d : ℤ) : Type 0 where
    pub state : State
    pub reaches : Reaches s state
    pub held : Held image m c state
    pub done : Done 0 s state
    pub at : At state.code state.pc i
    pub sound : Sound (emitted i w)
    pub pc : sum state.pc 4 ≡ address base' (length (emitted i w).code)
    pub reach : sum (register state (register_number (near_base name.Frame d))) (word_of (lowest d)) ≡ sum (register s 18) (unsigned d)

  pub near_frame : (q : Register) (w : Written) (i : Rattle.rv_isa.specs.declared.instr.Instr.Instr) (s : State) (slot : ℕ) → Framed image m b.frame c → Held image m c s → Sound w → s.pc ≡ address base' (length w.code) → Front (emitted i (near_onto name.Frame (slot_distance slot) w)) W →
      Near' q (near_onto name.Frame (slot_distance slot) w) i s (slot_distance slot)
  near_frame q w i s slot framed h sound pc f =
      let d = slot_distance slot in
      let v = near_onto name.Frame d w in
      let st = stands image m standing c b is fits instance in
      let y = near_gives (stepping.view image m standing c b is fits instance) m.code base' W (cells image m standing c b is fits instance) st false 0 w s name.Frame d (here image m standing c b is fits instance w s framed h sound pc) (frame_stays 0) tt (front_adds v (emitted i v) W (emitted_adds i v) f) in
      record {
        state = y.state;
        reaches = y.reaches;
        held = held_done image m standing 0 c s y.state y.done h;
        done = y.done;
        at = subst (λ x. At x y.state.pc i) (sym y.here.sees.code) (subst (λ a. At m.code a i) (sym y.here.pc) (st.plain i v y.here.sound f));
        sound = sound_then v (emitted i v) (emitted_adds i v).extends y.here.sound;
        pc = ap (λ a. sum a 4) y.here.pc ∙ next_address base' (length v.code) ∙ ap (address base') (sym (emitted_length i v));
        reach = y.reach;
      }

  pub value_filled : (t : State) (n : ℕ) → n < 2 ^ 64 → Held image m c t → Held image m (giving n) (with_word t name.Value n)
  value_filled t n small h =
      let z = h.sized in
      held_registers image m standing c (giving n) t (with_word t name.Value n) h (record { code = refl; image = refl; store = refl; stack = refl; start = refl; registers = length-set t.registers 10 n }) refl refl
      (record { table = z.table; back = z.back; caller = z.caller; value = small; words = z.words; frame = z.frame; top = z.top; peak = z.peak; stack = z.stack; byte = z.byte; writable = z.writable; next = z.next })
      (record {
        zero = set_other t 10 n 0 0 (differ 0 10 refl) h.fixed.zero;
        store_end = set_other t 10 n 4 _ (differ 4 10 refl) h.fixed.store_end;
        stack_end = set_other t 10 n 8 _ (differ 8 10 refl) h.fixed.stack_end;
        frame = set_other t 10 n 18 _ (differ 18 10 refl) h.frame;
        top = set_other t 10 n 2 _ (differ 2 10 refl) h.top;
        table = set_other t 10 n 9 _ (differ 9 10 refl) h.table;
        store = set_other t 10 n 3 _ (differ 3 10 refl) h.store;
        value = λ r. get_or-set_same t.registers 10 n 0 (among t.registers 10 h.fixed.registers refl);
        words = λ r. set_other t 10 n 11 _ (differ 11 10 refl) (h.words r);
      })

  pub words_filled : (t : State) (n : ℕ) → n < 2 ^ 64 → Held image m c t → Held image m (handing n) (with_word t name.Words n)
  words_filled t n small h =
      let z = h.sized in
      held_registers image m standing c (handing n) t (with_word t name.Words n) h (record { code = refl; image = refl; store = refl; stack = refl; start = refl; registers = length-set t.registers 11 n }) refl refl
      (record { table = z.table; back = z.back; caller = z.caller; value = z.value; words = small; frame = z.frame; top = z.top; peak = z.peak; stack = z.stack; byte = z.byte; writable = z.writable; next = z.next })
      (record {
        zero = set_other t 11 n 0 0 (differ 0 11 refl) h.fixed.zero;
        store_end = set_other t 11 n 4 _ (differ 4 11 refl) h.fixed.store_end;
        stack_end = set_other t 11 n 8 _ (differ 8 11 refl) h.fixed.stack_end;
        frame = set_other t 11 n 18 _ (differ 18 11 refl) h.frame;
        top = set_other t 11 n 2 _ (differ 2 11 refl) h.top;
        table = set_other t 11 n 9 _ (differ 9 11 refl) h.table;
        store = set_other t 11 n 3 _ (differ 3 11 refl) h.store;
        value = λ r. set_other t 11 n 10 _ (differ 10 11 refl) (h.value r);
        words = λ r. get_or-set_same t.registers 11 n 0 (among t.registers 11 h.fixed.registers refl);
      })

  pub slot_near : (s : State) (n : ℕ) → Held image m c s → n < 2 ^ 28 → 8 * (c.fp + 4 + n) ≤ stack_end m → sum (register s 18) (unsigned (slot_distance n)) ≡ 8 * (c.fp + 4 + n)
  slot_near s n h low high =
      let short = standing.sound.stack in
      ap₂ (λ f e. sum f (unsigned e)) h.frame (slot_is image m standing n low) ∙ far_sum (8 * c.fp) (4 + n) (omega (arith, high, short)) ∙ omega arith

  record Resulted (count : ℕ) (v : Written) (s : State) (d : Machine) : Type 0 where
    came : Came' v s d
    given : Given count d came.state

  results_go : (slot count : ℕ) (w : Written) (s : State) → step_fits b.frame (flat.Leave slot count) ≡ true → Framed image m b.frame c → Held image m c s → Sound w → s.pc ≡ address base' (length w.code) → Front (results_onto slot count w) W →
      Resulted count (results_onto slot count w) s (with_results image slot count c)
  unfolding with_results
  results_go slot zero w s fit framed h sound pc f = record { came = record { state = s; reaches = reaches_same s; held = h; sound = sound; pc = pc }; given = tt }
  results_go slot (suc zero) w s fit framed h sound pc f =
      let inside : slot < b.frame = grind (arith, nat_tests, fit) in
      let d = slot_distance slot in
      let r = near_base name.Frame d in
      let n = c.stack (c.fp + 4 + slot) in
      let i = instr.Load op.Ld 10 (register_number r) (lowest d) in
      let y = near_frame name.Value w i s slot framed h sound pc f in
      let low = framed.low in
      let high = framed.high in
      let frame = fits.frame in
      let above : 8 * (c.fp + 4 + slot) + 8 ≤ stack_end m = omega (arith, high, inside) in
      let small = h.sized.stack (c.fp + 4 + slot) in
      let goes = load_goes y.state 10 (register_number r) (lowest d) n y.at (ap (read_at w64 y.state) (y.reach ∙ slot_near s slot h (omega (arith, inside, frame)) (omega (arith, above))) ∙ y.held.stack (c.fp + 4 + slot) (omega (arith, low)) above) in
      record {
        came = record { state = with_word y.state name.Value n; reaches = reaches_then y.reaches (reaches_one y.state _ goes); held = value_filled y.state n small y.held; sound = y.sound; pc = y.pc };
        given = get_or-set_same y.state.registers 10 n 0 (among y.state.registers 10 y.held.fixed.registers refl);
      }
  results_go slot (suc (suc more)) w s fit framed h sound pc f =
      let inside : slot ≤ b.frame = grind (arith, nat_tests, fit) in
      let d = slot_distance slot in
      let r = near_base name.Frame d in
      let i = instr.Imm op.Addi 11 (register_number r) (lowest d) in
      let y = near_frame name.Words w i s slot framed h sound pc f in
      let high = framed.high in
      let frame = fits.frame in
      let short = standing.sound.stack in
      let above : 8 * (c.fp + 4 + slot) ≤ stack_end m = omega (arith, high, inside) in
      let n = sum (register y.state (register_number r)) (word_of (lowest d)) in
      let same : n ≡ slot_address c slot = y.reach ∙ slot_near s slot h (omega (arith, inside, frame)) above in
      let small : n < 2 ^ 64 = subst (λ k. k < 2 ^ 64) (sym same) (omega (arith, above, short)) in
      let filled = subst (λ k. Held image m (handing k) (with_word y.state name.Words n)) same (words_filled y.state n small y.held) in
      record {
        came = record { state = with_word y.state name.Words n; reaches = reaches_then y.reaches (reaches_one y.state _ (imm_goes y.state op.Addi 11 (register_number r) (lowest d) y.at)); held = filled; sound = y.sound; pc = y.pc };
        given = get_or-set_same y.state.registers 11 n 0 (among y.state.registers 11 y.held.fixed.registers refl) ∙ same;
      }

-- Where the routine was called, with what was left there.
module _ (image : Image) (m : State) (standing : Standing image m) (c : Machine) (b : Body) (is : image.body c.who.body ≡ Some b) (fits : Fits b) (instance : standing.is_instance c.who.body c.who.table ≡ true) (mode : c.mode ≡ running) where
  abbrev back : ℕ
  back = c.stack c.fp

  abbrev out : Machine
  out = record (callers image c) { top = c.fp; high = max c.high c.fp }

  eight_of : (a : ℕ) → is_address a ≡ true → 8 * number_at a ≡ a
  eight_of a e = let even : a % 8 ≡ 0 = eqb-true (a % 8) 0 e in omega (arith, even)

  -- at the place after the call
  returned_there : (count : ℕ) (s : State) (body step : ℕ) → After image body step back → ((other : Body) → image.body body ≡ Some other → (t : Travels) → is_left count t ≡ false → is_read t (drop step other.code) ≡ false) → is_address (c.stack (c.fp + 1)) ≡ true → 8 * c.fp ≤ stack_end m →
      (t : State) → Held image m c t → Given count c t → Reaches s t → Left image m standing c b is fits instance t back → Arrives image m standing (record out { who = record { body = body; table = out.who.table }; pc = step; clock = suc out.clock }) s
  returned_there count s body step after unread_there even high t h given reaches y =
      let z = h.sized in
      let f = h.fixed in
      let d = record out { who = record { body = body; table = out.who.table }; pc = step; clock = suc out.clock } in
      let before = after.inside in
      let next = after.next in
      record {
        state = y.state;
        reaches = reaches_then reaches y.reaches;
        at = subst (λ k. IsAt image m standing d y.state k) (sym mode) (
          held_registers image m standing c d t y.state h y.same refl refl
              (record { table = z.stack (c.fp + 2); back = z.back; caller = z.caller; value = z.value; words = z.words; frame = subst (λ k. k < 2 ^ 64) (sym (eight_of (c.stack (c.fp + 1)) even)) (z.stack (c.fp + 1)); top = high; peak = z.peak; stack = z.stack; byte = z.byte; writable = z.writable; next = z.next })
              (record {
                zero = y.keeps 0 (differ 0 1 refl) (differ 0 2 refl) (differ 0 9 refl) (differ 0 18 refl) ∙ f.zero;
                store_end = y.keeps 4 (differ 4 1 refl) (differ 4 2 refl) (differ 4 9 refl) (differ 4 18 refl) ∙ f.store_end;
                stack_end = y.keeps 8 (differ 8 1 refl) (differ 8 2 refl) (differ 8 9 refl) (differ 8 18 refl) ∙ f.stack_end;
                frame = y.frame ∙ sym (eight_of (c.stack (c.fp + 1)) even);
                top = y.top;
                table = y.table;
                store = y.keeps 3 (differ 3 1 refl) (differ 3 2 refl) (differ 3 9 refl) (differ 3 18 refl) ∙ h.store;
                value = λ r. y.keeps 10 (differ 10 1 refl) (differ 10 2 refl) (differ 10 9 refl) (differ 10 18 refl) ∙ value_given count t given (read_no the_value r);
                words = λ r. y.keeps 11 (differ 11 1 refl) (differ 11 2 refl) (differ 11 9 refl) (differ 11 18 refl) ∙ words_given count t given (read_no the_words r);
              }),
          record {
            code = after.code;
            there = after.there;
            inside = omega (arith, before, next);
            pc = y.pc ∙ sym after.address_is;
            back = λ e. absurd (omega (arith, e, next));
            caller = λ e. absurd (omega (arith, e, next));
          },
        );
      }
    where
      value_given : (count : ℕ) (t : State) → Given count c t → (is_left count the_value ≡ false → ⊥) → register t 10 ≡ c.value
      value_given zero t g no_read = absurd (no_read refl)
      value_given (suc zero) t g no_read = g
      value_given (suc (suc n)) t g no_read = absurd (no_read refl)

      words_given : (count : ℕ) (t : State) → Given count c t → (is_left count the_words ≡ false → ⊥) → register t 11 ≡ c.words
      words_given zero t g no_read = absurd (no_read refl)
      words_given (suc zero) t g no_read = absurd (no_read refl)
      words_given (suc (suc n)) t g no_read = g

      read_no : (k : Travels) → reads image k body step c.mode ≡ true → is_left count k ≡ false → ⊥
      read_no k r e =
          let so : reads image k body step running ≡ true = subst (λ n. reads image k body step n ≡ true) mode r in
          true≢false (sym so ∙ ap (λ o. is_read_from k o step) after.there ∙ unread_there after.code after.there k e)

  -- at the end of the run
  ended_there : (s t : State) → Returns m.code back → Held image m c t → Reaches s t → Left image m standing c b is fits instance t back → Arrives image m standing (record out { mode = ended returned; clock = suc out.clock }) s
  ended_there s t x h reaches y =
      let low = x.low in
      let u = y.state in
      let at1 : At u.code u.pc (instr.Imm op.Addi 17 0 (pos 0)) = subst (λ k. At k u.pc (instr.Imm op.Addi 17 0 (pos 0))) (sym (y.same.code ∙ h.fixed.code)) (subst (λ a. At m.code a (instr.Imm op.Addi 17 0 (pos 0))) (sym y.pc) x.number) in
      let n = sum (register u 0) (word_of (pos 0)) in
      let v = with_word u name.Service n in
      let at2 : At v.code v.pc instr.Ecall = subst (λ k. At k v.pc instr.Ecall) (sym (y.same.code ∙ h.fixed.code)) (subst (λ a. At m.code a instr.Ecall) (sym (ap (λ a. sum a 4) y.pc ∙ four_on back low)) x.call) in
      let zero_is : register u 0 ≡ 0 = y.keeps 0 (differ 0 1 refl) (differ 0 2 refl) (differ 0 9 refl) (differ 0 18 refl) ∙ h.fixed.zero in
      record {
        state = v;
        reaches = reaches_then reaches (reaches_then y.reaches (reaches_one u v (imm_goes u op.Addi 17 0 (pos 0) at1)));
        at = record { stops = ecall_stops v at2; number = get_or-set_same u.registers 17 n 0 (among u.registers 17 (y.same.registers ∙ h.fixed.registers) refl) ∙ ap (λ k. sum k (word_of (pos 0))) zero_is };
      }
    where
      four_on : (a : ℕ) → a < 2 ^ 32 → sum a 4 ≡ a + 4
      four_on a l = grind arith

  aligned_mod : (a k : ℕ) → a % 4 ≡ 0 → address a k % 4 ≡ 0
  aligned_mod a k e = grind arith

  after_aligned : (body step : ℕ) → After image body step back → back % 4 ≡ 0
  after_aligned body step x =
      let inside = x.inside in
      let next = x.next in
      ap (λ a. a % 4) (sym x.address_is ∙ standing.places body x.code x.there step (omega (arith, inside, next))) ∙ aligned_mod (standing.routine body x.code x.there) (words_before x.code step) (standing.placed body x.code x.there).stands.aligned

  -- from where the results are left
  leave_from : (count : ℕ) (w : Written) (s t : State) → Framed image m b.frame c → Held image m c t → Given count c t → Reaches s t → Sound w → t.pc ≡ address (base image m standing c b is fits instance) (length w.code) → Front (left_onto name.Back w) (body_words b) →
      ((other : Body) (number step : ℕ) → image.entry back ≡ Some (at_step number step) → image.body number ≡ Some other → (k : Travels) → is_left count k ≡ false → is_read k (drop step other.code) ≡ false) →
      Arrives image m standing (leaving image (returns image) c) s
  unfolding where_so returns
  leave_from count w s t framed h given reaches sound pc f unread_there = by (is_address (c.stack (c.fp + 1))) (image.entry back) refl refl
    where
      high : 8 * c.fp ≤ stack_end m
      high = let above = framed.high in omega (arith, above)

      goes : back % 4 ≡ 0 → Left image m standing c b is fits instance t back
      goes even = left_goes image m standing c b is fits instance name.Back w t back framed h sound pc f refl (h.sized.stack c.fp) even

      by : (e : Bool) (o : Option Entry) → is_address (c.stack (c.fp + 1)) ≡ e → image.entry back ≡ o → Arrives image m standing (where_so e (returns image o out) c) s
      by false o p q = wrong image m standing c b is fits instance c s
      by true None p q = wrong image m standing c b is fits instance out s
      by true (Some (at_deed deed)) p q = wrong image m standing c b is fits instance out s
      by true (Some at_end) p q = let x = standing.entry back at_end q in ended_there s t x h reaches (goes x.aligned)
      by true (Some (at_step body step)) p q =
          let x = standing.entry back (at_step body step) q in
          returned_there count s body step x (λ other there k e. unread_there other body step q there k e) p high t h given reaches (goes (after_aligned body step x))

-- LEAVE
module _ (image : Image) (m : State) (standing : Standing image m) (c : Machine) (b : Body) (is : image.body c.who.body ≡ Some b) (fits : Fits b) (instance : standing.is_instance c.who.body c.who.table ≡ true) (mode : c.mode ≡ running) where
  pub leave_follows : (slot count : ℕ) (s : State) → slice_get b.code c.pc ≡ Some (flat.Leave slot count) → Framed image m b.frame c → Held image m c s → s.pc ≡ address (base image m standing c b is fits instance) (words_before b c.pc) →
      ((other : Body) (number step : ℕ) → image.entry (c.stack c.fp) ≡ Some (at_step number step) → image.body number ≡ Some other → (k : Travels) → is_left count k ≡ false → is_read k (drop step other.code) ≡ false) →
      Arrives image m standing (leaving image (returns image) (with_results image slot count c)) s
  unfolding with_results
  leave_follows slot count s there framed held pc unread_there =
      by count x.front (results_go image m standing c b is fits instance slot count (upto b c.pc) s (fits.step c.pc (flat.Leave slot count) there) framed held x.sound pc
      (front_adds (results_onto slot count (upto b c.pc)) (left_onto name.Back (results_onto slot count (upto b c.pc))) (body_words b) (left_adds name.Back _) x.front)) unread_there
    where
      x : StepAt b c.pc (flat.Leave slot count)
      x = stepping.at_step image m standing c b is fits instance (flat.Leave slot count) there

      by : (n : ℕ) → Front (left_onto name.Back (results_onto slot n (upto b c.pc))) (body_words b) → Resulted image m standing c b is fits instance n (results_onto slot n (upto b c.pc)) s (with_results image slot n c) →
          ((other : Body) (number step : ℕ) → image.entry (c.stack c.fp) ≡ Some (at_step number step) → image.body number ≡ Some other → (k : Travels) → is_left n k ≡ false → is_read k (drop step other.code) ≡ false) →
          Arrives image m standing (leaving image (returns image) (with_results image slot n c)) s
      by zero f r u = leave_from image m standing c b is fits instance mode zero (results_onto slot zero (upto b c.pc)) s r.came.state (record { low = framed.low; high = framed.high }) r.came.held r.given r.came.reaches r.came.sound r.came.pc f u
      by (suc zero) f r u = leave_from image m standing (record c { value = c.stack (c.fp + 4 + slot) }) b is fits instance mode (suc zero) (results_onto slot (suc zero) (upto b c.pc)) s r.came.state (record { low = framed.low; high = framed.high }) r.came.held r.given r.came.reaches r.came.sound r.came.pc f u
      by (suc (suc n)) f r u = leave_from image m standing (record c { words = slot_address c slot }) b is fits instance mode (suc (suc n)) (results_onto slot (suc (suc n)) (upto b c.pc)) s r.came.state (record { low = framed.low; high = framed.high }) r.came.held r.given r.came.reaches r.came.sound r.came.pc f u
