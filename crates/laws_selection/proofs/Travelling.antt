-- Words that travelled go into slots, and the stack is cut.
use Rattle.std.proofs.Common.{◌≡◌, ◌∙◌, ℕ, suc, ◌+◌, ◌*◌, ◌/◌, ◌%◌, ◌^◌, ◌<◌, ◌≤◌, Bool, true, false, List, ◌∷◌, max, length, slice_get, Option, Some, None, refl, ap, sym, subst, arith}
use Rattle.std.specs.Prelude.{◌&&◌, if◌then◌else◌, nat_lt}
use Rattle.std.specs.Int.{w64}
use Rattle.std.proofs.lemmas.Bool.Decides.{nat_tests}
use Rattle.std.proofs.lemmas.Bool.{eqb-true}
use Rattle.std.proofs.lemmas.List.{get_or-set_same, length-set}
use Rattle.clu_frames.specs.Plain.{Step}
use Rattle.clu_frames.specs.Plain as flat
use Rattle.clu_flat_meaning.specs.Image.{Body, Image}
use Rattle.clu_flat_meaning.specs.Machine.{Machine, cut_to, is_address, next, number_at, or_wrong, put_in, running, travelled, where_so, word_below}
use Rattle.rv_isa.specs.declared.instr.Instr.TheVariants as instr
use Rattle.rv_isa.specs.declared.op.Op.TheVariants as op
use Rattle.rv_machine.specs.State.{State, read_at, register}
use Rattle.rv_machine.specs.Steps.{word_of}
use Rattle.rv_machine.specs.Values.{sum, unsigned}
use Rattle.rv_select.specs.declared.register.Register.TheVariants as name
use Rattle.rv_select.specs.Registers.{register_number}
use Rattle.rv_select.specs.Slots.{load_at_onto, lowest, near_base, near_onto, save_slot_onto, slot_distance, word_distance}
use Rattle.rv_select.specs.Written.{emitted}
use Rattle.laws_selection.specs.Fitting.{Fits, Travels, is_read, the_value, the_words}
use Rattle.laws_selection.specs.Growing.{address}
use Rattle.laws_selection.specs.Holding.{Arrives, Held, stack_end}
use Rattle.laws_selection.specs.Registers.{stays}
use Rattle.laws_selection.specs.Running.{At}
use Rattle.laws_selection.specs.Standing.{Standing, body_words, words_before}
use Rattle.laws_selection.proofs.Adding.{save_adds}
use Rattle.laws_selection.proofs.Evaluating.{load_at_gives, near_gives, next_address}
use Rattle.laws_selection.proofs.Following.{filled, wrong}
use Rattle.laws_selection.proofs.Fronts.{upto}
use Rattle.laws_selection.proofs.Growing.{and_true, emitted_adds, emitted_length, front_adds, sound_then}
use Rattle.laws_selection.proofs.Holding.{held_at, held_done, held_registers, word_there}
use Rattle.laws_selection.proofs.Reading.{some_same}
use Rattle.laws_selection.proofs.Running.{load_goes, reaches_one, reaches_then, with_word}
use Rattle.laws_selection.proofs.Stepping.{Framed, arrives_next, base, cells, frame_stays, here, reads_here, reads_next, save_gives, stands, trap_at, traps, view}
use Rattle.laws_selection.proofs.Stepping as stepping
use Rattle.laws_selection.proofs.Trapping.{set_other}

pub first_spare : Unit {0} → stays 0 name.First ≡ false
unfolding stays
first_spare u = refl

result_more : (t : Travels) (to number : ℕ) (rest : List Step) → is_read t rest ≡ true → is_read t (flat.Result to number ∷ rest) ≡ true
result_more the_value to number rest e = e
result_more the_words to number rest e = refl

pub far_sum : (a n : ℕ) → a + 8 * n < 2 ^ 64 → sum a (unsigned (word_distance n)) ≡ a + 8 * n
far_sum a n l = grind arith

module _ (image : Image) (m : State) (standing : Standing image m) (c : Machine) where
  -- a word that travelled is in the memory
  pub record Read (s : State) (a v : ℕ) : Type 0 where
    pub read : read_at w64 s a ≡ Some v
    pub small : v < 2 ^ 64
    pub low : a < 2 ^ 32

  pub read_below : (s : State) (a v : ℕ) → Held image m c s → word_below image c.peak c.stack a ≡ Some v → Read s a v
  read_below s a v h e = by (nat_lt a (8 * image.bottom)) (is_address a && nat_lt (number_at a) c.peak) refl refl e
    where
      by : (f t : Bool) → nat_lt a (8 * image.bottom) ≡ f → (is_address a && nat_lt (number_at a) c.peak) ≡ t → (if f then image.fixed a else (if t then Some (c.stack (number_at a)) else None)) ≡ Some v → Read s a v
      by true t p q e =
          let x = standing.fixed a v e in
          let inside = x.fixed in
          let area = standing.area in
          record { read = h.fixed.read w64 a inside ∙ x.read; small = x.small; low = omega (arith, inside, area) }
      by false true p q e =
          let both = and_true (is_address a) (nat_lt (number_at a) c.peak) q in
          let even : a % 8 ≡ 0 = eqb-true (a % 8) 0 both.0 in
          let begins : 8 * image.bottom ≤ a = grind (arith, nat_tests, p) in
          let ends : a / 8 < c.peak = grind (arith, nat_tests, both.1) in
          let peak = h.sized.peak in
          let short = standing.sound.stack in
          let same : 8 * (a / 8) ≡ a = omega (arith, even) in
          record {
            read = ap (read_at w64 s) (sym same) ∙ h.stack (a / 8) (omega (arith, begins, even)) (omega (arith, ends, peak)) ∙ e;
            small = subst (λ k. k < 2 ^ 64) (some_same (c.stack (number_at a)) v e) (h.sized.stack (a / 8));
            low = omega (arith, ends, peak, short, even);
          }
      by false false p q e = absurd (cc)

  module _ (b : Body) (is : image.body c.who.body ≡ Some b) (fits : Fits b) (instance : standing.is_instance c.who.body c.who.table ≡ true) (mode : c.mode ≡ running) where
    abbrev base' : ℕ
    base' = base image m standing c b is fits instance

    -- RESULT
    pub result_follows : (to number : ℕ) (s : State) → slice_get b.code c.pc ≡ Some (flat.Result to number) → Framed image m b.frame c → Held image m c s → s.pc ≡ address base' (words_before b c.pc) →
        Arrives image m standing (or_wrong (travelled image c number) (λ w. next (put_in to w c)) c) s
    unfolding or_wrong
    result_follows to number s there framed held pc = by (travelled image c number) refl
      where
        by : (o : Option ℕ) → travelled image c number ≡ o → Arrives image m standing (or_wrong o (λ w. next (put_in to w c)) c) s
        by None e = wrong image m standing c b is fits instance c s
        by (Some n) e =
            let step = flat.Result to number in
            let x = stepping.at_step image m standing c b is fits instance step there in
            let inside = fits.step c.pc step there in
            let now = reads_here image m standing c b is fits instance step there mode the_words (λ r. refl) in
            let r = read_below s (c.words + 8 * number) n held e in
            let low = r.low in
            let d = word_distance number in
            let w = upto b c.pc in
            let hole = cells image m standing c b is fits instance in
            let st = stands image m standing c b is fits instance in
            let few = (stepping.placed image m standing c b is fits instance).stands.few in
            let v = load_at_onto name.First name.Words d w in
            let f = front_adds v (save_slot_onto name.First to v) (body_words b) (save_adds m.code base' (body_words b) hole st (trap_at standing) few (traps image m standing c b is fits instance) name.First name.Frame (slot_distance to) v) x.front in
            let at : sum (register s 11) (unsigned d) ≡ c.words + 8 * number = ap (λ k. sum k (unsigned d)) (held.words now) ∙ far_sum c.words number (omega (arith, low)) in
            let g = load_at_gives (view image m standing c b is fits instance) m.code base' (body_words b) hole st false 0 w s name.First name.Words d n (here image m standing c b is fits instance w s framed held x.sound pc) f refl (first_spare tt) refl tt
            (ap (read_at w64 s) at ∙ r.read) in
            let z = save_gives image m standing c b is fits instance v g.state name.First to n framed refl g.here.sound g.here.pc (held_done image m standing 0 c s g.state g.done held) x.front g.holds r.small (grind (arith, nat_tests, inside)) in
            filled image m standing c b is fits instance mode step there x to n s (λ t. reads_next image m standing c b is fits instance step there mode t (λ rest. result_more t to number rest)) (record { state = z.state; reaches = reaches_then g.reaches z.reaches; held = z.held; sound = z.sound; pc = z.pc })

    -- CUT
    abbrev cut : ℕ → Machine
    cut a = record c { top = number_at a; high = max c.high (number_at a) }

    pub cut_follows : (mark : ℕ) (s : State) → slice_get b.code c.pc ≡ Some (flat.Cut mark) → Framed image m b.frame c → Held image m c s → s.pc ≡ address base' (words_before b c.pc) → (is_address (c.stack (c.fp + mark)) ≡ true → 8 * number_at (c.stack (c.fp + mark)) ≤ stack_end m) →
        Arrives image m standing (cut_to image (c.stack (c.fp + mark)) c) s
    unfolding where_so
    cut_follows mark s there framed held pc room = by (is_address (c.stack (c.fp + mark))) refl
      where
        by : (t : Bool) → is_address (c.stack (c.fp + mark)) ≡ t → Arrives image m standing (where_so t (next (cut (c.stack (c.fp + mark)))) c) s
        by false e = wrong image m standing c b is fits instance c s
        by true e =
            let step = flat.Cut mark in
            let x = stepping.at_step image m standing c b is fits instance step there in
            let inside : mark < 4 + b.frame = grind (arith, nat_tests, fits.step c.pc step there) in
            let n = c.stack (c.fp + mark) in
            let even : n % 8 ≡ 0 = eqb-true (n % 8) 0 e in
            let d = word_distance mark in
            let w = upto b c.pc in
            let v = near_onto name.Frame d w in
            let r = near_base name.Frame d in
            let i = instr.Load op.Ld 2 (register_number r) (lowest d) in
            let st = stands image m standing c b is fits instance in
            let low = framed.low in
            let high = framed.high in
            let y = near_gives (view image m standing c b is fits instance) m.code base' (body_words b) (cells image m standing c b is fits instance) st false 0 w s name.Frame d (here image m standing c b is fits instance w s framed held x.sound pc) (frame_stays 0) tt (front_adds v (emitted i v) (body_words b) (emitted_adds i v) x.front) in
            let t = y.state in
            let ht = held_done image m standing 0 c s t y.done held in
            let above : 8 * (c.fp + mark) + 8 ≤ stack_end m = omega (arith, high, inside) in
            let at : sum (register t (register_number r)) (word_of (lowest d)) ≡ 8 * (c.fp + mark) = y.reach ∙ word_there image m standing c s mark held above in
            let there' : At t.code t.pc i = subst (λ q. At q t.pc i) (sym y.here.sees.code) (subst (λ a. At m.code a i) (sym y.here.pc) (st.plain i v y.here.sound x.front)) in
            let u = with_word t name.Top n in
            let goes = load_goes t 2 (register_number r) (lowest d) n there' (ap (read_at w64 t) at ∙ ht.stack (c.fp + mark) (omega (arith, low)) above) in
            let top : n ≡ 8 * (n / 8) = omega (arith, even) in
            let z = ht.sized in
            let hu : Held image m (cut n) u = held_registers image m standing c (cut n) t u ht (record { code = refl; image = refl; store = refl; stack = refl; start = refl; registers = length-set t.registers 2 n }) refl refl
            (record { table = z.table; back = z.back; caller = z.caller; value = z.value; words = z.words; frame = z.frame; top = room e; peak = z.peak; stack = z.stack; byte = z.byte; writable = z.writable; next = z.next })
            (record {
              zero = set_other t 2 n 0 0 (λ q. absurd (omega (arith, q))) ht.fixed.zero;
              store_end = set_other t 2 n 4 _ (λ q. absurd (omega (arith, q))) ht.fixed.store_end;
              stack_end = set_other t 2 n 8 _ (λ q. absurd (omega (arith, q))) ht.fixed.stack_end;
              frame = set_other t 2 n 18 _ (λ q. absurd (omega (arith, q))) ht.frame;
              top = get_or-set_same t.registers 2 n 0 (let count = ht.fixed.registers in omega (arith, count)) ∙ top;
              table = set_other t 2 n 9 _ (λ q. absurd (omega (arith, q))) ht.table;
              store = set_other t 2 n 3 _ (λ q. absurd (omega (arith, q))) ht.store;
              value = λ q. set_other t 2 n 10 _ (λ k. absurd (omega (arith, k))) (ht.value q);
              words = λ q. set_other t 2 n 11 _ (λ k. absurd (omega (arith, k))) (ht.words q);
            }) in
            arrives_next image m standing c b is fits instance step (next (cut n)) s x refl refl mode
            (record {
              state = u;
              reaches = reaches_then y.reaches (reaches_one t u goes);
              held = held_at image m standing (cut n) (suc c.pc) (suc c.clock) u (λ k. reads_next image m standing c b is fits instance step there mode k (λ r e. e)) hu;
              sound = sound_then v (emitted i v) (emitted_adds i v).extends y.here.sound;
              pc = ap (λ a. sum a 4) y.here.pc ∙ next_address base' (length v.code) ∙ ap (address base') (sym (emitted_length i v));
            })
