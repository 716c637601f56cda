-- What is raised, and what a routine passes on: the search for an arm begins at the step, or where the routine was called.
use Rattle.std.proofs.Common.{◌≡◌, ◌∙◌, ◌⊎◌, inl, inr, ℕ, suc, pos, ◌+◌, ◌-◌, ◌*◌, ◌%◌, ◌^◌, ◌<◌, ◌≤◌, ◌==◌, Bool, true, false, length, max, slice_get, Option, Some, None, refl, ap, sym, subst, arith}
use Rattle.std.specs.Int.{w64}
use Rattle.std.proofs.lemmas.Bool.Decides.{nat_tests}
use Rattle.std.proofs.lemmas.Bool.{eqb-true}
use Rattle.std.proofs.lemmas.List.{get_or-set_same, length-set}
use Rattle.clu_wir.specs.declared.hole.HoleKind.TheVariants as kind
use Rattle.clu_frames.specs.Plain as flat
use Rattle.clu_flat_meaning.specs.Image.{Body, Entry, Image, at_deed, at_end, at_step}
use Rattle.clu_flat_meaning.specs.Machine.{Machine, callers, excepted, is_address, leaving, number_at, running, searching, slot_address, to_call, where_so}
use Rattle.rv_isa.specs.declared.instr.Instr.TheVariants as instr
use Rattle.rv_isa.specs.declared.op.Op.TheVariants as op
use Rattle.rv_machine.specs.State.{State, read_at, register}
use Rattle.rv_machine.specs.Steps.{jalr_target, word_of}
use Rattle.rv_machine.specs.Values.{sum}
use Rattle.rv_select.specs.declared.parts.Part.TheVariants as part
use Rattle.rv_select.specs.declared.register.Register.TheVariants as name
use Rattle.rv_select.specs.Registers.{register_number}
use Rattle.rv_select.specs.Slots.{lowest, near_base, near_onto, next_slot, slot_distance}
use Rattle.rv_select.specs.Steps.{exception_onto, left_onto, part_onto, pass_onto}
use Rattle.rv_select.specs.Written.{Written, emitted}
use Rattle.laws_selection.specs.Fitting.{Fits, is_step, the_value, the_words}
use Rattle.laws_selection.specs.Growing.{Front, Sound, address}
use Rattle.laws_selection.specs.Holding.{Arrives, Held, Within, stack_end}
use Rattle.laws_selection.specs.Running.{At, Reaches}
use Rattle.laws_selection.specs.Standing.{After, Standing, body_words, words_before}
use Rattle.laws_selection.proofs.Adding.{address_at_adds, after, exception_adds, left_adds, part_adds, pass_adds}
use Rattle.laws_selection.proofs.Entering.{among, differ}
use Rattle.laws_selection.proofs.Evaluating.{hole_puts, next_address}
use Rattle.laws_selection.proofs.Following.{wrong}
use Rattle.laws_selection.proofs.Fronts.{upto}
use Rattle.laws_selection.proofs.Growing.{emitted_adds, emitted_length, extends_longer, front_adds}
use Rattle.laws_selection.proofs.Holding.{held_done, held_registers, stays_all}
use Rattle.laws_selection.proofs.Leaving.{Left, left_goes}
use Rattle.laws_selection.proofs.Returning.{near_frame, slot_near, value_filled, words_filled}
use Rattle.laws_selection.proofs.Running.{imm_goes, jalr_goes, load_goes, reaches_one, reaches_same, reaches_then, with_word}
use Rattle.laws_selection.proofs.Stepping.{Came, Framed, base, cells, here, reads_here, stands, trap_at, traps}
use Rattle.laws_selection.proofs.Stepping as stepping
use Rattle.laws_selection.proofs.Trapping.{set_other}
use Rattle.laws_selection.proofs.Travelling.{first_spare}

eight_of : (a : ℕ) → is_address a ≡ true → 8 * number_at a ≡ a
eight_of a e = let even : a % 8 ≡ 0 = eqb-true (a % 8) 0 e in omega (arith, even)

first_word : (p : ℕ) → p < 2 ^ 32 → p ≡ address p 0
first_word p l = grind arith

cleared_low : (p : ℕ) → p % 4 ≡ 0 → p < 2 ^ 32 → (let b = sum p (word_of (pos 0)) in b - b % 2) ≡ p
cleared_low p e l = grind arith

pub four_of : (a : ℕ) → a % 4 ≡ 0 → (a % 4 == 0) ≡ true
four_of a e = grind (arith, nat_tests, e)

module _ (image : Image) (m : State) (standing : Standing image m) (c : Machine) (b : Body) (is : image.body c.who.body ≡ Some b) (fits : Fits b) (instance : standing.is_instance c.who.body c.who.table ≡ true) where
  abbrev base' : ℕ
  base' = base image m standing c b is fits instance

  abbrev W : Written
  W = body_words b

  -- the exception's name and the address of its words, in registers
  abbrev excepting : ℕ → Machine
  excepting slot = excepted image slot c

  record Excepted (v : Written) (s : State) (slot : ℕ) : Type 0 where
    came : Came image m standing c b is fits instance v s (excepting slot)
    value : register came.state 10 ≡ c.stack (c.fp + 4 + slot)
    words : register came.state 11 ≡ slot_address c (slot + 1)

  exception_goes : (slot : ℕ) (w : Written) (s : State) → slot < b.frame → Framed image m b.frame c → Held image m c s → Sound w → s.pc ≡ address base' (length w.code) → Front (exception_onto slot w) W → Excepted (exception_onto slot w) s slot
  exception_goes slot w s inside framed h sound pc f =
      let d = slot_distance slot in
      let r = near_base name.Frame d in
      let n = c.stack (c.fp + 4 + slot) in
      let i = instr.Load op.Ld 10 (register_number r) (lowest d) in
      let low = framed.low in
      let high = framed.high in
      let frame = fits.frame in
      let above : 8 * (c.fp + 4 + slot) + 8 ≤ stack_end m = omega (arith, high, inside) in
      let v = emitted i (near_onto name.Frame d w) in
      let next = next_slot slot in
      let same : next ≡ slot + 1 = least slot inside frame in
      let e = slot_distance next in
      let q = near_base name.Frame e in
      let j = instr.Imm op.Addi 11 (register_number q) (lowest e) in
      let fv = front_adds v (emitted j (near_onto name.Frame e v)) W (address_at_adds m.code base' W (cells image m standing c b is fits instance) (stands image m standing c b is fits instance) (trap_at standing) (stepping.placed image m standing c b is fits instance).stands.few (traps image m standing c b is fits instance) name.Words name.Frame e v) f in
      let y = near_frame image m standing c b is fits instance name.Value w i s slot framed h sound pc fv in
      let goes = load_goes y.state 10 (register_number r) (lowest d) n y.at (ap (read_at w64 y.state) (y.reach ∙ slot_near image m standing c b is fits instance s slot h (omega (arith, inside, frame)) (omega (arith, above))) ∙ y.held.stack (c.fp + 4 + slot) (omega (arith, low)) above) in
      let t = with_word y.state name.Value n in
      let ht = value_filled image m standing c b is fits instance y.state n (h.sized.stack (c.fp + 4 + slot)) y.held in
      let z = near_frame image m standing (record c { value = n }) b is fits instance name.Words v j t next (record { low = framed.low; high = framed.high }) ht y.sound y.pc f in
      let k = sum (register z.state (register_number q)) (word_of (lowest e)) in
      let short = standing.sound.stack in
      let near : 8 * (c.fp + 4 + next) ≤ stack_end m = omega (arith, high, inside, same) in
      let is_words : k ≡ slot_address c (slot + 1) = z.reach ∙ slot_near image m standing (record c { value = n }) b is fits instance t next ht (omega (arith, same, inside, frame)) near ∙ ap (λ g. 8 * (c.fp + 4 + g)) same in
      let small : k < 2 ^ 64 = subst (λ g. g < 2 ^ 64) (sym is_words) (omega (arith, near, same, short)) in
      let u = with_word z.state name.Words k in
      let hu = subst (λ g. Held image m (record c { value = n; words = g }) u) is_words (words_filled image m standing (record c { value = n }) b is fits instance z.state k small z.held) in
      let value_still : register z.state 10 ≡ n = z.done.stays name.Value (stays_all 0).7 ∙ get_or-set_same y.state.registers 10 n 0 (among y.state.registers 10 y.held.fixed.registers refl) in
      record {
        came = record { state = u; reaches = reaches_then y.reaches (reaches_then (reaches_one y.state t goes) (reaches_then z.reaches (reaches_one z.state u (imm_goes z.state op.Addi 11 (register_number q) (lowest e) z.at)))); held = hu; sound = z.sound; pc = z.pc };
        value = set_other z.state 11 k 10 n (differ 10 11 refl) value_still;
        words = get_or-set_same z.state.registers 11 k 0 (among z.state.registers 11 z.held.fixed.registers refl) ∙ is_words;
      }
    where
      least : (slot : ℕ) → slot < b.frame → b.frame < 2 ^ 28 → next_slot slot ≡ slot + 1
      least slot l f = grind (arith, nat_tests, l, f)

  -- the address of the search, in the first register
  record Sought (v : Written) (s : State) (value words : ℕ) : Type 0 where
    came : Came image m standing c b is fits instance v s c
    there : register came.state 5 ≡ standing.part part.Search
    value_is : register came.state 10 ≡ value
    words_is : register came.state 11 ≡ words

  sought : (w : Written) (s : State) (value words : ℕ) → Framed image m b.frame c → Held image m c s → Sound w → s.pc ≡ address base' (length w.code) → Front (part_onto name.First part.Search w) W → register s 10 ≡ value → register s 11 ≡ words → Sought (part_onto name.First part.Search w) s value words
  sought w s value words framed h sound pc f v10 v11 =
      let x = hole_puts (stepping.view image m standing c b is fits instance) m.code base' W (cells image m standing c b is fits instance) (stands image m standing c b is fits instance) false 0 w s name.First kind.Runtime 1 (here image m standing c b is fits instance w s framed h sound pc) f (first_spare tt) in
      let k = stays_all 0 in
      record {
        came = record { state = x.state; reaches = x.reaches; held = held_done image m standing 0 c s x.state x.done h; sound = x.here.sound; pc = x.here.pc };
        there = x.holds ∙ (stepping.placed image m standing c b is fits instance).parts part.Search;
        value_is = x.done.stays name.Value k.7 ∙ v10;
        words_is = x.done.stays name.Words k.8 ∙ v11;
      }

  -- The search begins where a routine was called.

  abbrev back : ℕ
  back = c.stack c.fp

  abbrev out : Machine
  out = record (callers image c) { top = c.fp; high = max c.high c.fp }

  -- what is held there
  passed_held : (t : State) (body pc clock : ℕ) → Held image m c t → register t 10 ≡ c.value → register t 11 ≡ c.words → 8 * c.fp ≤ stack_end m → is_address (c.stack (c.fp + 1)) ≡ true →
      (y : Left image m standing c b is fits instance t (standing.part part.Search)) → Held image m (record out { who = record { body = body; table = c.stack (c.fp + 2) }; pc = pc; mode = searching; clock = clock }) y.state
  passed_held t body pc clock h v10 v11 high even y =
      let z = h.sized in
      let f = h.fixed in
      held_registers image m standing c (record out { who = record { body = body; table = c.stack (c.fp + 2) }; pc = pc; mode = searching; clock = clock }) t y.state h y.same refl refl
      (record {
        table = z.stack (c.fp + 2);
        back = z.back;
        caller = z.caller;
        value = z.value;
        words = z.words;
        frame = subst (λ k. k < 2 ^ 64) (sym (eight_of (c.stack (c.fp + 1)) even)) (z.stack (c.fp + 1));
        top = high;
        peak = z.peak;
        stack = z.stack;
        byte = z.byte;
        writable = z.writable;
        next = z.next;
      })
      (record {
        zero = y.keeps 0 (differ 0 1 refl) (differ 0 2 refl) (differ 0 9 refl) (differ 0 18 refl) ∙ f.zero;
        store_end = y.keeps 4 (differ 4 1 refl) (differ 4 2 refl) (differ 4 9 refl) (differ 4 18 refl) ∙ f.store_end;
        stack_end = y.keeps 8 (differ 8 1 refl) (differ 8 2 refl) (differ 8 9 refl) (differ 8 18 refl) ∙ f.stack_end;
        frame = y.frame ∙ sym (eight_of (c.stack (c.fp + 1)) even);
        top = y.top;
        table = y.table;
        store = y.keeps 3 (differ 3 1 refl) (differ 3 2 refl) (differ 3 9 refl) (differ 3 18 refl) ∙ h.store;
        value = λ r. y.keeps 10 (differ 10 1 refl) (differ 10 2 refl) (differ 10 9 refl) (differ 10 18 refl) ∙ v10;
        words = λ r. y.keeps 11 (differ 11 1 refl) (differ 11 2 refl) (differ 11 9 refl) (differ 11 18 refl) ∙ v11;
      })

  searched : (s t : State) (body pc clock : ℕ) → Reaches s t → Held image m c t → register t 10 ≡ c.value → register t 11 ≡ c.words → 8 * c.fp ≤ stack_end m → is_address (c.stack (c.fp + 1)) ≡ true →
      (y : Left image m standing c b is fits instance t (standing.part part.Search)) →
      ((8 * number_at (c.stack (c.fp + 1)) ≡ 0) ⊎ Within image m standing (record out { who = record { body = body; table = c.stack (c.fp + 2) }; pc = pc; mode = searching; clock = clock }) y.state) →
      Arrives image m standing (record out { who = record { body = body; table = c.stack (c.fp + 2) }; pc = pc; mode = searching; clock = clock }) s
  searched s t body pc clock reaches h v10 v11 high even y within =
      let wide = (standing.parts part.Search).room in
      record {
        state = y.state;
        reaches = reaches_then reaches y.reaches;
        at = (passed_held t body pc clock h v10 v11 high even y, record { pc = inl (y.pc ∙ first_word (standing.part part.Search) (omega (arith, wide))); within = there within });
      }
    where
      none : (n : ℕ) → 8 * n ≡ 0 → n ≡ 0
      none n e = omega (arith, e)

      there : ((8 * number_at (c.stack (c.fp + 1)) ≡ 0) ⊎ Within image m standing (record out { who = record { body = body; table = c.stack (c.fp + 2) }; pc = pc; mode = searching; clock = clock }) y.state) →
          (number_at (c.stack (c.fp + 1)) ≡ 0) ⊎ Within image m standing (record out { who = record { body = body; table = c.stack (c.fp + 2) }; pc = pc; mode = searching; clock = clock }) y.state
      there (inl e) = inl (none (number_at (c.stack (c.fp + 1))) e)
      there (inr w) = inr w

  -- after the words of the call
  within_call : (body step clock : ℕ) (u : State) → After image body step back → register u 1 ≡ back → Within image m standing (record out { who = record { body = body; table = c.stack (c.fp + 2) }; pc = step - 1; mode = searching; clock = clock }) u
  within_call body step clock u x at =
      let inside = x.inside in
      let next = x.next in
      let words = x.words in
      let one_less : step - 1 ≡ x.before = omega (arith, next) in
      record {
        code = x.code;
        there = x.there;
        word = words_before x.code step - 1;
        low = subst (λ k. words_before x.code k ≤ words_before x.code step - 1) (sym one_less) (omega (arith, words));
        high = last (ap suc one_less ∙ sym next) x.words;
        back = at ∙ sym x.address_is ∙ standing.places body x.code x.there step (omega (arith, inside, next)) ∙ ap (address (standing.routine body x.code x.there)) (omega (arith, words));
      }
    where
      last : suc (step - 1) ≡ step → words_before x.code x.before < words_before x.code step → words_before x.code step - 1 < words_before x.code (suc (step - 1))
      last e w = subst (λ k. words_before x.code step - 1 < words_before x.code k) (sym e) (omega (arith, w))

  passed_on : (s t : State) → Reaches s t → Held image m c t → register t 10 ≡ c.value → register t 11 ≡ c.words → 8 * c.fp ≤ stack_end m → is_address (c.stack (c.fp + 1)) ≡ true → Left image m standing c b is fits instance t (standing.part part.Search) →
      (is_step (image.entry back) ≡ false → c.stack (c.fp + 1) ≡ 0) → Arrives image m standing (to_call image (image.entry back) out) s
  unfolding to_call
  passed_on s t reaches h v10 v11 high even y outer = by (image.entry back) refl
    where
      away : (o : Option Entry) → image.entry back ≡ o → is_step o ≡ false → 8 * number_at (c.stack (c.fp + 1)) ≡ 0
      away o e k = let none = outer (ap is_step e ∙ k) in eight_of (c.stack (c.fp + 1)) even ∙ none

      by : (o : Option Entry) → image.entry back ≡ o → Arrives image m standing (to_call image o out) s
      by (Some (at_step body step)) e = searched s t body (step - 1) (suc out.clock) reaches h v10 v11 high even y (inr (within_call body step (suc out.clock) y.state (standing.entry back (at_step body step) e) y.back))
      by None e = searched s t c.who.body c.pc (suc out.clock) reaches h v10 v11 high even y (inl (away None e refl))
      by (Some at_end) e = searched s t c.who.body c.pc (suc out.clock) reaches h v10 v11 high even y (inl (away (Some at_end) e refl))
      by (Some (at_deed deed)) e = searched s t c.who.body c.pc (suc out.clock) reaches h v10 v11 high even y (inl (away (Some (at_deed deed)) e refl))

  -- from where the exception is in its registers, and the address of the search
  leave_on : (w : Written) (s t : State) → Framed image m b.frame c → Held image m c t → register t 10 ≡ c.value → register t 11 ≡ c.words → Reaches s t → Sound w → t.pc ≡ address base' (length w.code) → Front (left_onto name.First w) W → register t 5 ≡ standing.part part.Search →
      (is_step (image.entry back) ≡ false → c.stack (c.fp + 1) ≡ 0) → Arrives image m standing (leaving image (to_call image) c) s
  unfolding where_so
  leave_on w s t framed h v10 v11 reaches sound pc f five outer = by (is_address (c.stack (c.fp + 1))) refl
    where
      by : (e : Bool) → is_address (c.stack (c.fp + 1)) ≡ e → Arrives image m standing (where_so e (to_call image (image.entry back) out) c) s
      by false p = wrong image m standing c b is fits instance c s
      by true p =
          let high = framed.high in
          let wide = (standing.parts part.Search).room in
          passed_on s t reaches h v10 v11 (omega (arith, high)) p
          (left_goes image m standing c b is fits instance name.First w t (standing.part part.Search) framed h sound pc f five (omega (arith, wide)) (standing.parts part.Search).stands.aligned) outer

  pass_goes : (w : Written) (s t : State) → Framed image m b.frame c → Held image m c t → register t 10 ≡ c.value → register t 11 ≡ c.words → Reaches s t → Sound w → t.pc ≡ address base' (length w.code) → Front (pass_onto w) W →
      (is_step (image.entry back) ≡ false → c.stack (c.fp + 1) ≡ 0) → Arrives image m standing (leaving image (to_call image) c) s
  pass_goes w s t framed h v10 v11 reaches sound pc f outer =
      let v = part_onto name.First part.Search w in
      let x = sought w t c.value c.words framed h sound pc (front_adds v (left_onto name.First v) W (left_adds name.First v) f) v10 v11 in
      leave_on v s x.came.state framed x.came.held x.value_is x.words_is (reaches_then reaches x.came.reaches) x.came.sound x.came.pc f x.there outer

  module _ (mode : c.mode ≡ running) where
    -- PASS
    pub pass_follows : (s : State) → slice_get b.code c.pc ≡ Some flat.Pass → Framed image m b.frame c → Held image m c s → s.pc ≡ address base' (words_before b c.pc) → (is_step (image.entry back) ≡ false → c.stack (c.fp + 1) ≡ 0) →
        Arrives image m standing (leaving image (to_call image) c) s
    pass_follows s there framed h pc outer =
        let x = stepping.at_step image m standing c b is fits instance flat.Pass there in
        pass_goes (upto b c.pc) s s framed h (h.value (reads_here image m standing c b is fits instance flat.Pass there mode the_value (λ r. refl))) (h.words (reads_here image m standing c b is fits instance flat.Pass there mode the_words (λ r. refl)))
        (reaches_same s) x.sound pc x.front outer

-- SIGNAL
module _ (image : Image) (m : State) (standing : Standing image m) (c : Machine) (b : Body) (is : image.body c.who.body ≡ Some b) (fits : Fits b) (instance : standing.is_instance c.who.body c.who.table ≡ true) where
  pub signal_follows : (slot : ℕ) (s : State) → slice_get b.code c.pc ≡ Some (flat.Signal slot) → Framed image m b.frame c → Held image m c s → s.pc ≡ address (base image m standing c b is fits instance) (words_before b c.pc) →
      (is_step (image.entry (c.stack c.fp)) ≡ false → c.stack (c.fp + 1) ≡ 0) → Arrives image m standing (leaving image (to_call image) (excepted image slot c)) s
  signal_follows slot s there framed h pc outer =
      let step = flat.Signal slot in
      let x = stepping.at_step image m standing c b is fits instance step there in
      let w = upto b c.pc in
      let v = exception_onto slot w in
      let inside : slot < b.frame = let fit = fits.step c.pc step there in grind (arith, nat_tests, fit) in
      let few = (stepping.placed image m standing c b is fits instance).stands.few in
      let fv = front_adds v (pass_onto v) (body_words b) (pass_adds m.code (base image m standing c b is fits instance) (body_words b) (cells image m standing c b is fits instance) (stands image m standing c b is fits instance) (trap_at standing) few (traps image m standing c b is fits instance) v) x.front in
      let y = exception_goes image m standing c b is fits instance slot w s inside framed h x.sound pc fv in
      pass_goes image m standing (excepted image slot c) b is fits instance v s y.came.state (record { low = framed.low; high = framed.high }) y.came.held y.value y.words y.came.reaches y.came.sound y.came.pc x.front outer

-- RAISE
module _ (image : Image) (m : State) (standing : Standing image m) (c : Machine) (b : Body) (is : image.body c.who.body ≡ Some b) (fits : Fits b) (instance : standing.is_instance c.who.body c.who.table ≡ true) where
  pub raise_step_follows : (slot : ℕ) (s : State) → slice_get b.code c.pc ≡ Some (flat.Raise slot) → Framed image m b.frame c → Held image m c s → s.pc ≡ address (base image m standing c b is fits instance) (words_before b c.pc) →
      Arrives image m standing (record (excepted image slot c) { mode = searching; clock = suc c.clock }) s
  raise_step_follows slot s there framed h pc =
      let step = flat.Raise slot in
      let x = stepping.at_step image m standing c b is fits instance step there in
      let w = upto b c.pc in
      let inside : slot < b.frame = let fit = fits.step c.pc step there in grind (arith, nat_tests, fit) in
      let v = exception_onto slot w in
      let u = part_onto name.First part.Search v in
      let j = instr.Jalr 1 5 (pos 0) in
      let fu = front_adds u (emitted j u) (body_words b) (emitted_adds j u) x.front in
      let fv = front_adds v u (body_words b) (part_adds name.First part.Search v) fu in
      let y = exception_goes image m standing c b is fits instance slot w s inside framed h x.sound pc fv in
      let e = excepted image slot c in
      let z = sought image m standing e b is fits instance v y.came.state (c.stack (c.fp + 4 + slot)) (slot_address c (slot + 1)) (record { low = framed.low; high = framed.high }) y.came.held y.came.sound y.came.pc fu y.value y.words in
      let t = z.came.state in
      let wide = (standing.parts part.Search).room in
      let at : At t.code t.pc j = subst (λ q. At q t.pc j) (sym z.came.held.fixed.code) (subst (λ a. At m.code a j) (sym z.came.pc) ((stands image m standing c b is fits instance).plain j u z.came.sound x.front)) in
      let lands : jalr_target t 5 (word_of (pos 0)) ≡ standing.part part.Search = ap (λ k. let d = sum k (word_of (pos 0)) in d - d % 2) z.there ∙ cleared_low (standing.part part.Search) (standing.parts part.Search).stands.aligned (omega (arith, wide)) in
      let n = sum t.pc 4 in
      let t2 = record (with_word t name.Back n) { pc = jalr_target t 5 (word_of (pos 0)) } in
      let goes = jalr_goes t 1 5 (pos 0) at (ap (λ k. k % 4 == 0) lands ∙ four_of (standing.part part.Search) (standing.parts part.Search).stands.aligned) in
      let ht = z.came.held in
      let q = ht.sized in
      let d = record e { mode = searching; clock = suc c.clock } in
      let behind = x.behind in
      let one_more = emitted_length j u in
      let more = extends_longer w u (after (exception_adds m.code (base image m standing c b is fits instance) (body_words b) (cells image m standing c b is fits instance) (stands image m standing c b is fits instance) (trap_at standing) (stepping.placed image m standing c b is fits instance).stands.few (traps image m standing c b is fits instance) slot w) (part_adds name.First part.Search v)).extends in
      record {
        state = t2;
        reaches = reaches_then y.came.reaches (reaches_then z.came.reaches (reaches_one t t2 goes));
        at = (
          held_registers image m standing e d t t2 ht (record { code = refl; image = refl; store = refl; stack = refl; start = refl; registers = length-set t.registers 1 n }) refl refl
              (record { table = q.table; back = q.back; caller = q.caller; value = q.value; words = q.words; frame = q.frame; top = q.top; peak = q.peak; stack = q.stack; byte = q.byte; writable = q.writable; next = q.next })
              (record {
                zero = set_other t 1 n 0 0 (differ 0 1 refl) ht.fixed.zero;
                store_end = set_other t 1 n 4 _ (differ 4 1 refl) ht.fixed.store_end;
                stack_end = set_other t 1 n 8 _ (differ 8 1 refl) ht.fixed.stack_end;
                frame = set_other t 1 n 18 _ (differ 18 1 refl) ht.frame;
                top = set_other t 1 n 2 _ (differ 2 1 refl) ht.top;
                table = set_other t 1 n 9 _ (differ 9 1 refl) ht.table;
                store = set_other t 1 n 3 _ (differ 3 1 refl) ht.store;
                value = λ r. set_other t 1 n 10 _ (differ 10 1 refl) z.value_is;
                words = λ r. set_other t 1 n 11 _ (differ 11 1 refl) z.words_is;
              }),
          record {
            pc = inl (lands ∙ first_word (standing.part part.Search) (omega (arith, wide)));
            within = inr (record {
              code = b;
              there = is;
              word = length u.code;
              low = more;
              high = omega (arith, behind, one_more);
              back = get_or-set_same t.registers 1 n 0 (among t.registers 1 ht.fixed.registers refl) ∙ ap (λ a. sum a 4) z.came.pc ∙ next_address (base image m standing c b is fits instance) (length u.code);
            });
          },
        );
      }
