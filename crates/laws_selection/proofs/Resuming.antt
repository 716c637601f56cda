-- An iterator is resumed: the record of its yield is taken off the stack.
use Rattle.std.proofs.Common.{◌≡◌, ◌∙◌, ◌≢◌, ℕ, suc, pos, negsuc, ◌+◌, ◌-◌, ◌*◌, ◌/◌, ◌%◌, ◌^◌, ◌<◌, ◌≤◌, ◌==◌, Bool, true, false, List, drop, length, max, slice_get, Option, Some, None, refl, ap, sym, subst, arith, true≢false}
use Rattle.std.specs.Prelude.{◌&&◌, nat_le}
use Rattle.std.specs.Int.{w64}
use Rattle.std.proofs.lemmas.Bool.Decides.{nat_tests}
use Rattle.std.proofs.lemmas.Bool.{eqb-true}
use Rattle.std.proofs.lemmas.List.{get_or-set_same, length-set}
use Rattle.clu_frames.specs.Plain as flat
use Rattle.clu_flat_meaning.specs.Image.{Body, Entry, Image, at_deed, at_end, at_step}
use Rattle.clu_flat_meaning.specs.Machine.{Machine, ended, is_address, is_record, number_at, resumes, resuming, returned, returns, running, where_so}
use Rattle.rv_isa.specs.declared.instr.Instr.TheVariants as instr
use Rattle.rv_isa.specs.declared.op.Op.TheVariants as op
use Rattle.rv_machine.specs.State.{State, read_at, register, stack_start}
use Rattle.rv_machine.specs.Steps.{jalr_target, word_of}
use Rattle.rv_machine.specs.Values.{sum}
use Rattle.rv_select.specs.declared.register.Register.TheVariants as name
use Rattle.rv_select.specs.Slots.{load_at_onto, slot_distance}
use Rattle.rv_select.specs.Written.{Written, emitted}
use Rattle.laws_selection.specs.Fitting.{Fits, Travels, is_read, the_value, the_words}
use Rattle.laws_selection.specs.Growing.{address}
use Rattle.laws_selection.specs.Holding.{Arrives, Held, IsAt, is_read_from, reads, stack_end}
use Rattle.laws_selection.specs.Running.{At, Reaches, Same}
use Rattle.laws_selection.specs.Standing.{After, Returns, Standing, body_words, words_before}
use Rattle.laws_selection.proofs.Adding.{after}
use Rattle.laws_selection.proofs.Entering.{among, differ}
use Rattle.laws_selection.proofs.Evaluating.{load_at_gives, next_address}
use Rattle.laws_selection.proofs.Following.{wrong}
use Rattle.laws_selection.proofs.Fronts.{StepAt, upto}
use Rattle.laws_selection.proofs.Growing.{and_true, emitted_adds, emitted_length, front_adds, sound_then}
use Rattle.laws_selection.proofs.Holding.{held_done, held_registers}
use Rattle.laws_selection.proofs.Leaving.{cleared}
use Rattle.laws_selection.proofs.Returning.{slot_near}
use Rattle.laws_selection.proofs.Room.{ecall_stops}
use Rattle.laws_selection.proofs.Running.{imm_goes, jalr_goes, load_goes, read_same, reaches_one, reaches_then, with_word}
use Rattle.laws_selection.proofs.Stepping.{Framed, base, cells, here, stands}
use Rattle.laws_selection.proofs.Stepping as stepping
use Rattle.laws_selection.proofs.Trapping.{set_other}
use Rattle.laws_selection.proofs.Travelling.{first_spare}
use Rattle.laws_selection.proofs.Raising.{four_of}

-- the record below an address
taken_off : (a low : ℕ) → a ≡ 8 * (low + 3) → a < 2 ^ 64 → sum a (word_of (negsuc 23)) ≡ 8 * low
taken_off a low e l = grind arith

record_word : (low n : ℕ) → 8 * low < 2 ^ 63 → n < 3 → sum (8 * low) (word_of (pos (8 * n))) ≡ 8 * (low + n)
record_word low n l h = grind arith

record_low : (a bottom : ℕ) → a % 8 ≡ 0 → bottom + 3 ≤ a / 8 → a ≡ 8 * (a / 8 - 3 + 3)
record_low a bottom e l = omega (arith, e, l)

top_room : (a peak end low : ℕ) → a / 8 ≤ peak → 8 * peak ≤ end → a ≡ 8 * (low + 3) → a % 8 ≡ 0 → 8 * (low + 3) ≤ end
top_room a peak end low p q e z = omega (arith, p, q, e, z)

small : (a n : ℕ) (stack : List ℕ) → a ≡ n → n ≤ stack_start + length stack → length stack ≤ 0x4000000 → a < 2 ^ 63
small a n stack e l k = omega (arith, e, l, k)

low_bottom : (a bottom : ℕ) → bottom + 3 ≤ a / 8 → bottom ≤ a / 8 - 3
low_bottom a bottom l = omega (arith, l)

one_more : (n bottom : ℕ) → bottom + 3 ≤ n → n - 3 + 1 ≡ n - 2
one_more n bottom l = omega (arith, l)

module _ (image : Image) (m : State) (standing : Standing image m) (c : Machine) (b : Body) (is : image.body c.who.body ≡ Some b) (fits : Fits b) (instance : standing.is_instance c.who.body c.who.table ≡ true) (mode : c.mode ≡ running) where
  abbrev base' : ℕ
  base' = base image m standing c b is fits instance

  abbrev W : Written
  W = body_words b

  -- The words of the record are in their registers, and the machine is where the yield was.
  record Off (s : State) (low : ℕ) : Type 0 where
    state : State
    reaches : Reaches s state
    same : Same s state
    pc : state.pc ≡ c.stack low
    top : register state 2 ≡ 8 * low
    frame : register state 18 ≡ c.stack (low + 1)
    table : register state 9 ≡ c.stack (low + 2)
    keeps : (q : ℕ) → q ≢ 2 → q ≢ 6 → q ≢ 9 → q ≢ 18 → register state q ≡ register s q

  off : (w : Written) (s : State) (low a : ℕ) → Held image m c s → Rattle.laws_selection.specs.Growing.Sound w → s.pc ≡ address base' (length w.code) →
      Rattle.laws_selection.specs.Growing.Front (emitted (instr.Jalr 0 6 (pos 0)) (emitted (instr.Load op.Ld 9 2 (pos 16)) (emitted (instr.Load op.Ld 18 2 (pos 8)) (emitted (instr.Load op.Ld 6 2 (pos 0)) (emitted (instr.Imm op.Addi 2 5 (negsuc 23)) w))))) W →
      register s 5 ≡ a → a ≡ 8 * (low + 3) → a < 2 ^ 63 → image.bottom ≤ low → 8 * (low + 3) ≤ stack_end m → c.stack low % 4 ≡ 0 → Off s low
  off w s low a h sound pc f five is_low small bottom high even =
      let st = stands image m standing c b is fits instance in
      let i1 = instr.Imm op.Addi 2 5 (negsuc 23) in
      let i2 = instr.Load op.Ld 6 2 (pos 0) in
      let i3 = instr.Load op.Ld 18 2 (pos 8) in
      let i4 = instr.Load op.Ld 9 2 (pos 16) in
      let i5 = instr.Jalr 0 6 (pos 0) in
      let w1 = emitted i1 w in
      let w2 = emitted i2 w1 in
      let w3 = emitted i3 w2 in
      let w4 = emitted i4 w3 in
      let f4 = front_adds w4 (emitted i5 w4) W (emitted_adds i5 w4) f in
      let f3 = front_adds w3 w4 W (emitted_adds i4 w3) f4 in
      let f2 = front_adds w2 w3 W (emitted_adds i3 w2) f3 in
      let f1 = front_adds w1 w2 W (emitted_adds i2 w1) f2 in
      let count = h.fixed.registers in
      let v1 = sum (register s 5) (word_of (negsuc 23)) in
      let t1 = with_word s name.Top v1 in
      let at1 : At s.code s.pc i1 = subst (λ x. At x s.pc i1) (sym h.fixed.code) (subst (λ p. At m.code p i1) (sym pc) (st.plain i1 w sound f1)) in
      let g1 = imm_goes s op.Addi 2 5 (negsuc 23) at1 in
      let pc1 : t1.pc ≡ address base' (length w1.code) = ap (λ p. sum p 4) pc ∙ next_address base' (length w.code) ∙ ap (address base') (sym (emitted_length i1 w)) in
      let sound1 = sound_then w w1 (emitted_adds i1 w).extends sound in
      let top1 : register t1 2 ≡ 8 * low = get_or-set_same s.registers 2 v1 0 (among s.registers 2 count refl) ∙ ap (λ k. sum k (word_of (negsuc 23))) five ∙ taken_off a low is_low (wide a small) in
      let n2 = c.stack low in
      let t2 = with_word t1 name.Second n2 in
      let at2 : At t1.code t1.pc i2 = subst (λ x. At x t1.pc i2) (sym h.fixed.code) (subst (λ p. At m.code p i2) (sym pc1) (st.plain i2 w1 sound1 f2)) in
      let count1 = length-set s.registers 2 v1 in
      let g2 = load_goes t1 6 2 (pos 0) n2 at2 (word_at s t1 0 (search arith) h (record { code = refl; image = refl; store = refl; stack = refl; start = refl; registers = count1 }) top1 ∙ ap (λ k. Some (c.stack k)) none_more) in
      let pc2 : t2.pc ≡ address base' (length w2.code) = ap (λ p. sum p 4) pc1 ∙ next_address base' (length w1.code) ∙ ap (address base') (sym (emitted_length i2 w1)) in
      let sound2 = sound_then w1 w2 (emitted_adds i2 w1).extends sound1 in
      let top2 : register t2 2 ≡ 8 * low = set_other t1 6 n2 2 _ (differ 2 6 refl) top1 in
      let count2 = length-set t1.registers 6 n2 ∙ count1 in
      let n3 = c.stack (low + 1) in
      let t3 = with_word t2 name.Frame n3 in
      let at3 : At t2.code t2.pc i3 = subst (λ x. At x t2.pc i3) (sym h.fixed.code) (subst (λ p. At m.code p i3) (sym pc2) (st.plain i3 w2 sound2 f3)) in
      let g3 = load_goes t2 18 2 (pos 8) n3 at3 (word_at s t2 1 (search arith) h (record { code = refl; image = refl; store = refl; stack = refl; start = refl; registers = count2 }) top2) in
      let pc3 : t3.pc ≡ address base' (length w3.code) = ap (λ p. sum p 4) pc2 ∙ next_address base' (length w2.code) ∙ ap (address base') (sym (emitted_length i3 w2)) in
      let sound3 = sound_then w2 w3 (emitted_adds i3 w2).extends sound2 in
      let top3 : register t3 2 ≡ 8 * low = set_other t2 18 n3 2 _ (differ 2 18 refl) top2 in
      let count3 = length-set t2.registers 18 n3 ∙ count2 in
      let n4 = c.stack (low + 2) in
      let t4 = with_word t3 name.Table n4 in
      let at4 : At t3.code t3.pc i4 = subst (λ x. At x t3.pc i4) (sym h.fixed.code) (subst (λ p. At m.code p i4) (sym pc3) (st.plain i4 w3 sound3 f4)) in
      let g4 = load_goes t3 9 2 (pos 16) n4 at4 (word_at s t3 2 (search arith) h (record { code = refl; image = refl; store = refl; stack = refl; start = refl; registers = count3 }) top3) in
      let pc4 : t4.pc ≡ address base' (length w4.code) = ap (λ p. sum p 4) pc3 ∙ next_address base' (length w3.code) ∙ ap (address base') (sym (emitted_length i4 w3)) in
      let sound4 = sound_then w3 w4 (emitted_adds i4 w3).extends sound3 in
      let count4 = length-set t3.registers 9 n4 ∙ count3 in
      let at5 : At t4.code t4.pc i5 = subst (λ x. At x t4.pc i5) (sym h.fixed.code) (subst (λ p. At m.code p i5) (sym pc4) (st.plain i5 w4 sound4 f)) in
      let six : register t4 6 ≡ n2 = set_other t3 9 n4 6 _ (differ 6 9 refl) (set_other t2 18 n3 6 _ (differ 6 18 refl) (get_or-set_same t1.registers 6 n2 0 (among t1.registers 6 (count1 ∙ count) refl))) in
      let lands : jalr_target t4 6 (word_of (pos 0)) ≡ n2 = ap (λ k. let d = sum k (word_of (pos 0)) in d - d % 2) six ∙ cleared n2 (h.sized.stack low) even in
      let t5 = record t4 { pc = jalr_target t4 6 (word_of (pos 0)) } in
      let g5 = jalr_goes t4 0 6 (pos 0) at5 (ap (λ k. k % 4 == 0) lands ∙ four_of n2 even) in
      record {
        state = t5;
        reaches = reaches_then (reaches_one s t1 g1) (reaches_then (reaches_one t1 t2 g2) (reaches_then (reaches_one t2 t3 g3) (reaches_then (reaches_one t3 t4 g4) (reaches_one t4 t5 g5))));
        same = record { code = refl; image = refl; store = refl; stack = refl; start = refl; registers = count4 };
        pc = lands;
        top = set_other t3 9 n4 2 _ (differ 2 9 refl) top3;
        frame = set_other t3 9 n4 18 _ (differ 18 9 refl) (get_or-set_same t2.registers 18 n3 0 (among t2.registers 18 (count2 ∙ count) refl));
        table = get_or-set_same t3.registers 9 n4 0 (among t3.registers 9 (count3 ∙ count) refl);
        keeps = λ q p2 p6 p9 p18. set_other t3 9 n4 q _ p9 (set_other t2 18 n3 q _ p18 (set_other t1 6 n2 q _ p6 (set_other s 2 v1 q _ p2 refl)));
      }
    where
      wide : (n : ℕ) → n < 2 ^ 63 → n < 2 ^ 64
      wide n l = omega (arith, l)

      none_more : low + 0 ≡ low
      none_more = omega arith

      short : 8 * low < 2 ^ 63
      short = let size = standing.sound.stack in omega (arith, high, size)

      -- a word of the record
      word_at : (s t : State) (n : ℕ) → n < 3 → Held image m c s → Same s t → register t 2 ≡ 8 * low → read_at w64 t (sum (register t 2) (word_of (pos (8 * n)))) ≡ Some (c.stack (low + n))
      word_at s t n l h same e =
          ap (read_at w64 t) (ap (λ k. sum k (word_of (pos (8 * n)))) e ∙ record_word low n short l) ∙ read_same w64 s t (8 * (low + n)) same ∙ h.stack (low + n) (omega (arith, bottom)) (omega (arith, high, l))

  module _ (low : ℕ) (even : is_address (c.stack (low + 1)) ≡ true) (high : 8 * low ≤ stack_end m) where
    abbrev out : Machine
    out = record c { top = low; high = max c.high low; fp = number_at (c.stack (low + 1)); who = record c.who { table = c.stack (low + 2) } }

    eight_of : 8 * number_at (c.stack (low + 1)) ≡ c.stack (low + 1)
    eight_of = let zero_left : c.stack (low + 1) % 8 ≡ 0 = eqb-true (c.stack (low + 1) % 8) 0 even in omega (arith, zero_left)

    back_there : (s t : State) (body step : ℕ) → After image body step (c.stack low) → ((other : Body) → image.body body ≡ Some other → (k : Travels) → is_read k (drop step other.code) ≡ false) → Held image m c t → Reaches s t → Off t low →
        Arrives image m standing (record out { who = record { body = body; table = out.who.table }; pc = step; clock = suc out.clock }) s
    back_there s t body step after unread h reaches y =
        let z = h.sized in
        let f = h.fixed in
        let d = record out { who = record { body = body; table = out.who.table }; pc = step; clock = suc out.clock } in
        let before = after.inside in
        let next = after.next in
        record {
          state = y.state;
          reaches = reaches_then reaches y.reaches;
          at = subst (λ k. IsAt image m standing d y.state k) (sym mode) (
            held_registers image m standing c d t y.state h y.same refl refl
                (record { table = z.stack (low + 2); back = z.back; caller = z.caller; value = z.value; words = z.words; frame = subst (λ k. k < 2 ^ 64) (sym eight_of) (z.stack (low + 1)); top = high; peak = z.peak; stack = z.stack; byte = z.byte; writable = z.writable; next = z.next })
                (record {
                  zero = y.keeps 0 (differ 0 2 refl) (differ 0 6 refl) (differ 0 9 refl) (differ 0 18 refl) ∙ f.zero;
                  store_end = y.keeps 4 (differ 4 2 refl) (differ 4 6 refl) (differ 4 9 refl) (differ 4 18 refl) ∙ f.store_end;
                  stack_end = y.keeps 8 (differ 8 2 refl) (differ 8 6 refl) (differ 8 9 refl) (differ 8 18 refl) ∙ f.stack_end;
                  frame = y.frame ∙ sym eight_of;
                  top = y.top;
                  table = y.table;
                  store = y.keeps 3 (differ 3 2 refl) (differ 3 6 refl) (differ 3 9 refl) (differ 3 18 refl) ∙ h.store;
                  value = λ r. absurd (read_no the_value r);
                  words = λ r. absurd (read_no the_words r);
                }),
            record {
              code = after.code;
              there = after.there;
              inside = omega (arith, before, next);
              pc = y.pc ∙ sym after.address_is;
              back = λ e. absurd (omega (arith, e, next));
              caller = λ e. absurd (omega (arith, e, next));
            },
          );
        }
      where
        read_no : (k : Travels) → reads image k body step c.mode ≡ true → ⊥
        read_no k r =
            let so : reads image k body step running ≡ true = subst (λ n. reads image k body step n ≡ true) mode r in
            true≢false (sym so ∙ ap (λ o. is_read_from k o step) after.there ∙ unread after.code after.there k)

    end_there : (s t : State) → Returns m.code (c.stack low) → Held image m c t → Reaches s t → Off t low → Arrives image m standing (record out { mode = ended returned; clock = suc out.clock }) s
    end_there s t x h reaches y =
        let near = x.low in
        let u = y.state in
        let at1 : At u.code u.pc (instr.Imm op.Addi 17 0 (pos 0)) = subst (λ k. At k u.pc (instr.Imm op.Addi 17 0 (pos 0))) (sym (y.same.code ∙ h.fixed.code)) (subst (λ p. At m.code p (instr.Imm op.Addi 17 0 (pos 0))) (sym y.pc) x.number) in
        let n = sum (register u 0) (word_of (pos 0)) in
        let v = with_word u name.Service n in
        let at2 : At v.code v.pc instr.Ecall = subst (λ k. At k v.pc instr.Ecall) (sym (y.same.code ∙ h.fixed.code)) (subst (λ p. At m.code p instr.Ecall) (sym (ap (λ p. sum p 4) y.pc ∙ four_on (c.stack low) near)) x.call) in
        let zero_is : register u 0 ≡ 0 = y.keeps 0 (differ 0 2 refl) (differ 0 6 refl) (differ 0 9 refl) (differ 0 18 refl) ∙ h.fixed.zero in
        record {
          state = v;
          reaches = reaches_then reaches (reaches_then y.reaches (reaches_one u v (imm_goes u op.Addi 17 0 (pos 0) at1)));
          at = record { stops = ecall_stops v at2; number = get_or-set_same u.registers 17 n 0 (among u.registers 17 (y.same.registers ∙ h.fixed.registers) refl) ∙ ap (λ k. sum k (word_of (pos 0))) zero_is };
        }
      where
        four_on : (p : ℕ) → p < 2 ^ 32 → sum p 4 ≡ p + 4
        four_on p l = grind arith

  aligned_mod : (a k : ℕ) → a % 4 ≡ 0 → address a k % 4 ≡ 0
  aligned_mod a k e = grind arith

  after_aligned : (a body step : ℕ) → After image body step a → a % 4 ≡ 0
  after_aligned a body step x =
      let inside = x.inside in
      let next = x.next in
      ap (λ p. p % 4) (sym x.address_is ∙ standing.places body x.code x.there step (omega (arith, inside, next))) ∙ aligned_mod (standing.routine body x.code x.there) (words_before x.code step) (standing.placed body x.code x.there).stands.aligned

  -- what is seen of the record
  record Found (a : ℕ) : Type 0 where
    even : a % 8 ≡ 0
    begins : image.bottom + 3 ≤ a / 8
    ends : a / 8 ≤ c.peak
    saved : is_address (c.stack (a / 8 - 2)) ≡ true

  found : (a : ℕ) → is_record image a c ≡ true → Found a
  found a e =
      let p = and_true (is_address a) (nat_le (image.bottom + 3) (number_at a) && (nat_le (number_at a) c.peak && is_address (c.stack (number_at a - 2)))) e in
      let q = and_true (nat_le (image.bottom + 3) (number_at a)) (nat_le (number_at a) c.peak && is_address (c.stack (number_at a - 2))) p.1 in
      let r = and_true (nat_le (number_at a) c.peak) (is_address (c.stack (number_at a - 2))) q.1 in
      record { even = eqb-true (a % 8) 0 p.0; begins = grind (arith, nat_tests, q.0); ends = grind (arith, nat_tests, r.0); saved = r.1 }

  -- RESUME
  pub resume_follows : (slot : ℕ) (s : State) → slice_get b.code c.pc ≡ Some (flat.Resume slot) → Framed image m b.frame c → Held image m c s → s.pc ≡ address base' (words_before b c.pc) →
      ((other : Body) (number step : ℕ) → image.entry (c.stack (number_at (c.stack (c.fp + 4 + slot)) - 3)) ≡ Some (at_step number step) → image.body number ≡ Some other → (k : Travels) → is_read k (drop step other.code) ≡ false) →
      Arrives image m standing (resumes image (c.stack (c.fp + 4 + slot)) c) s
  unfolding where_so returns
  resume_follows slot s there framed h pc unread = by (is_record image a c) refl
    where
      a : ℕ
      a = c.stack (c.fp + 4 + slot)

      low : ℕ
      low = number_at a - 3

      x : StepAt b c.pc (flat.Resume slot)
      x = stepping.at_step image m standing c b is fits instance (flat.Resume slot) there

      inside : slot < b.frame
      inside = let fit = fits.step c.pc (flat.Resume slot) there in grind (arith, nat_tests, fit)

      w : Written
      w = upto b c.pc

      v : Written
      v = load_at_onto name.First name.Frame (slot_distance slot) w

      above : 8 * (c.fp + 4 + slot) + 8 ≤ stack_end m
      above = let high = framed.high in omega (arith, high, inside)

      g : Rattle.laws_selection.specs.Evaluating.Gave (stepping.view image m standing c b is fits instance) m.code base' (cells image m standing c b is fits instance) false 0 v s (Rattle.rv_select.specs.declared.operand.Operand.TheVariants.At name.First) a
      g =
          let frame = fits.frame in
          let bottom = framed.low in
          load_at_gives (stepping.view image m standing c b is fits instance) m.code base' W (cells image m standing c b is fits instance) (stands image m standing c b is fits instance) false 0 w s name.First name.Frame (slot_distance slot) a
          (here image m standing c b is fits instance w s framed h x.sound pc) (front_adds v _ W (after (emitted_adds _ v) (after (emitted_adds _ _) (after (emitted_adds _ _) (after (emitted_adds _ _) (emitted_adds _ _))))) x.front) refl (first_spare tt) refl tt
          (ap (read_at w64 s) (slot_near image m standing c b is fits instance s slot h (omega (arith, inside, frame)) (omega (arith, above))) ∙ h.stack (c.fp + 4 + slot) (omega (arith, bottom)) above)

      ht : Held image m c g.state
      ht = held_done image m standing 0 c s g.state g.done h

      is_low : Found a → a ≡ 8 * (low + 3)
      is_low k = record_low a image.bottom k.even k.begins

      room : Found a → 8 * (low + 3) ≤ stack_end m
      room k = let peak = h.sized.peak in let ends = k.ends in let same = is_low k in let even = k.even in top_room a c.peak (stack_end m) low ends peak same even

      goes : Found a → c.stack low % 4 ≡ 0 → Off g.state low
      goes k aligned =
          let size = standing.sound.stack in
          let same = is_low k in
          let begins = k.begins in
          off v g.state low a ht g.here.sound g.here.pc x.front g.holds same (small a (8 * (low + 3)) m.stack same (room k) size) (low_bottom a image.bottom begins) (room k) aligned

      saved : Found a → is_address (c.stack (low + 1)) ≡ true
      saved k = let begins = k.begins in ap (λ n. is_address (c.stack n)) (one_more (a / 8) image.bottom begins) ∙ k.saved

      high : Found a → 8 * low ≤ stack_end m
      high k = let r = room k in omega (arith, r)

      by_entry : Found a → (o : Option Entry) → image.entry (c.stack low) ≡ o → Arrives image m standing (returns image o (record c { top = low; high = max c.high low; fp = number_at (c.stack (low + 1)); who = record c.who { table = c.stack (low + 2) } })) s
      by_entry k None e = wrong image m standing c b is fits instance (record c { top = low; high = max c.high low; fp = number_at (c.stack (low + 1)); who = record c.who { table = c.stack (low + 2) } }) s
      by_entry k (Some (at_deed deed)) e = wrong image m standing c b is fits instance (record c { top = low; high = max c.high low; fp = number_at (c.stack (low + 1)); who = record c.who { table = c.stack (low + 2) } }) s
      by_entry k (Some at_end) e = let y = standing.entry (c.stack low) at_end e in end_there low (saved k) (high k) s g.state y ht g.reaches (goes k y.aligned)
      by_entry k (Some (at_step body step)) e =
          let y = standing.entry (c.stack low) (at_step body step) e in
          back_there low (saved k) (high k) s g.state body step y (λ other is_there t. unread other body step e is_there t) ht g.reaches (goes k (after_aligned (c.stack low) body step y))

      by : (t : Bool) → is_record image a c ≡ t → Arrives image m standing (where_so t (resuming image low c) c) s
      by false e = wrong image m standing c b is fits instance c s
      by true e = by_entry (found a e) (image.entry (c.stack low)) refl
