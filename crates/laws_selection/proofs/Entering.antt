-- The first step of a routine: the room of its frame is tested, its foot is written, its arguments are copied.
use Rattle.std.proofs.Common.{◌≡◌, ◌∙◌, ◌≢◌, ℕ, zero, suc, pos, ◌+◌, ◌*◌, ◌/◌, ◌%◌, ◌^◌, ◌<◌, ◌≤◌, ◌==◌, Bool, true, false, List, length, max, take, get_or, slice_get, Option, Some, None, refl, ap, ap₂, sym, subst, arith}
use Rattle.std.specs.Prelude.{◌&&◌, bit_or, if◌then◌else◌, nat_le, nat_lt}
use Rattle.std.specs.Int.{w64}
use Rattle.std.proofs.lemmas.Bool.Decides.{nat_tests}
use Rattle.std.proofs.lemmas.Bool.{eqb-true}
use Rattle.std.proofs.lemmas.List.{get_or-set_same, length-set}
use Rattle.clu_frames.specs.Plain as flat
use Rattle.clu_flat_meaning.specs.Image.{Body, Image}
use Rattle.clu_flat_meaning.specs.Machine.{Machine, enters, entered, framed, is_address, next, number_at, put_all, put_at, running, stack_full as full, where_room, where_so, word_below, words_below}
use Rattle.rv_isa.specs.declared.instr.Instr.TheVariants as instr
use Rattle.rv_isa.specs.declared.op.Op.TheVariants as op
use Rattle.rv_machine.specs.State.{State, read_at, register, stack_start, written_at}
use Rattle.rv_machine.specs.Steps.{advanced, word_of}
use Rattle.rv_machine.specs.Values.{sum, unsigned}
use Rattle.rv_select.specs.declared.register.Register.{Register}
use Rattle.rv_select.specs.declared.register.Register.TheVariants as name
use Rattle.rv_select.specs.Operands.{bit}
use Rattle.rv_select.specs.Registers.{register_number}
use Rattle.rv_select.specs.Slots.{address_at_onto, load_at_onto, lowest, near_base, near_onto, save_slot_onto, slot_distance, word_distance}
use Rattle.rv_select.specs.Steps.{argument_onto, arguments_onto, room_onto}
use Rattle.rv_select.specs.Written.{Written, copy_onto, emitted, sd_onto}
use Rattle.laws_selection.specs.Evaluating.{Here}
use Rattle.laws_selection.specs.Fitting.{Fits, the_value}
use Rattle.laws_selection.specs.Growing.{Adds, Front, Sound, address}
use Rattle.laws_selection.specs.Holding.{Arrives, Held, IsAt, reads, stack_end}
use Rattle.laws_selection.specs.Registers.{stays}
use Rattle.laws_selection.specs.Running.{At, Reaches}
use Rattle.laws_selection.specs.Standing.{Standing, body_words, words_before}
use Rattle.laws_selection.proofs.Adding.{argument_adds, arguments_adds, blind, load_adds, room_adds, save_adds}
use Rattle.laws_selection.proofs.Arguments.{all_below, put_last, take_count, take_last, take_whole, words_are}
use Rattle.laws_selection.proofs.Evaluating.{load_at_gives, near_gives, next_address, puts}
use Rattle.laws_selection.proofs.Following.{wrong}
use Rattle.laws_selection.proofs.Fronts.{StepAt, upto}
use Rattle.laws_selection.proofs.Growing.{Stood, and_true, emitted_adds, emitted_length, front_adds, sound_then}
use Rattle.laws_selection.proofs.Holding.{fine_of, held_at, held_done, held_put, held_registers, on_stack, slot_is, with_word_at}
use Rattle.laws_selection.proofs.Memory.{with_stack, written_stack}
use Rattle.laws_selection.proofs.Reading.{some_same}
use Rattle.laws_selection.proofs.Registers.{stays_own}
use Rattle.laws_selection.proofs.Room.{Room, room_goes}
use Rattle.laws_selection.proofs.Running.{done_then, imm_goes, reaches_one, reaches_same, reaches_then, save_goes, with_word}
use Rattle.laws_selection.proofs.Stepping.{Came, Framed, base, cells, not_so, reads_here, runs_at, save_gives, stands, trap_at, traps, unread_next}
use Rattle.laws_selection.proofs.Stepping as stepping
use Rattle.laws_selection.proofs.Trapping.{set_other}
use Rattle.laws_selection.proofs.Travelling.{far_sum, first_spare}

kept_all : (kept : ℕ) → (stays kept name.Top ≡ true) × (stays kept name.Back ≡ true) × (stays kept name.Caller ≡ true)
unfolding stays
kept_all kept = (refl, refl, refl)

second_spare : (kept : ℕ) → kept ≡ 0 → stays kept name.Second ≡ false
unfolding stays
second_spare kept e = rw e refl

not_above : (n top k : ℕ) → n < top → (n == top + k) ≡ false
not_above n top k l = grind (arith, nat_tests, l)

low_frame : (top : ℕ) (stack : List ℕ) → length stack ≤ 0x4000000 → 8 * (top + 4) ≤ stack_start + length stack → 8 * top < 2 ^ 64
low_frame top stack short four = omega (arith, short, four)

most : (a e n : ℕ) → 8 * a ≤ n → 8 * e ≤ n → 8 * max a e ≤ n
most a e n p q = grind (arith, nat_tests, p, q)

pub differ : (a b : ℕ) → (a == b) ≡ false → a ≢ b
differ a b e same = grind (arith, nat_tests, e, same)

pub among : (xs : List ℕ) (n : ℕ) → length xs ≡ 32 → nat_lt n 32 ≡ true → n < length xs
among xs n l e = grind (arith, nat_tests, l, e)

not_there : (n top : ℕ) → n < top → (n == top) ≡ false
not_there n top l = grind (arith, nat_tests, l)

module _ (image : Image) (m : State) (standing : Standing image m) (c : Machine) (b : Body) (is : image.body c.who.body ≡ Some b) (fits : Fits b) (instance : standing.is_instance c.who.body c.who.table ≡ true) (mode : c.mode ≡ running) where
  abbrev base' : ℕ
  base' = base image m standing c b is fits instance

  abbrev W : Written
  W = body_words b

  abbrev st : Stood W m.code base' (cells image m standing c b is fits instance)
  st = stands image m standing c b is fits instance

  few : length W.code < 2 ^ 32
  few = (stepping.placed image m standing c b is fits instance).stands.few

  -- an expression would see nothing
  blind_here : (d : Machine) (w : Written) (s : State) → Held image m d s → Sound w → s.pc ≡ address base' (length w.code) → Here blind m.code base' (cells image m standing c b is fits instance) false w s
  blind_here d w s h sound pc = record {
    sound = sound;
    pc = pc;
    sees = record { code = h.fixed.code; registers = h.fixed.registers; zero = h.fixed.zero; slot = λ n v e. absurd (cc); word = λ a v e. absurd (cc); byte = λ a v e. absurd (cc); cell = λ k n v e. absurd (cc) };
  }

  -- A word above the top.
  record Saved (v : Written) (s : State) (d : Machine) : Type 0 where
    state : State
    reaches : Reaches s state
    held : Held image m d state
    sound : Sound v
    pc : state.pc ≡ address base' (length v.code)
    same : state.registers ≡ s.registers

  save_top : (d : Machine) (w : Written) (s : State) (from : Register) (i number n : ℕ) → number ≡ d.top + i → Held image m d s → Sound w → s.pc ≡ address base' (length w.code) → Front (sd_onto from name.Top (pos (8 * i)) w) W → register s (register_number from) ≡ n → n < 2 ^ 64 →
      i < 4 → image.bottom ≤ d.top → 8 * (d.top + 4) ≤ stack_end m → Saved (sd_onto from name.Top (pos (8 * i)) w) s (with_word_at image m standing d number n)
  save_top d w s from i number n at_top h sound pc f holds small l low high =
      let j = instr.Save op.Sd 2 (register_number from) (pos (8 * i)) in
      let short = standing.sound.stack in
      let below : image.bottom ≤ number = omega (arith, low, at_top) in
      let above : 8 * number + 8 ≤ stack_end m = omega (arith, high, l, at_top) in
      let on = on_stack image m standing s number h.fixed below above in
      let at : At s.code s.pc j = subst (λ x. At x s.pc j) (sym h.fixed.code) (subst (λ a. At m.code a j) (sym pc) (st.plain j w sound f)) in
      let to : sum (register s 2) (word_of (pos (8 * i))) ≡ 8 * number = ap (λ k. sum k (word_of (pos (8 * i)))) h.top ∙ place d.top i (omega (arith, high, short)) l ∙ ap (λ k. 8 * k) (sym at_top) in
      let goes = save_goes s (with_stack s (8 * number) n) 2 (register_number from) (pos (8 * i)) at (ap₂ (λ a x. written_at w64 s a x) to holds ∙ written_stack s (8 * number) n (fine_of image m standing s h.fixed) on) in
      record {
        state = advanced (with_stack s (8 * number) n);
        reaches = reaches_one s _ goes;
        held = held_put image m standing d s number n h below above small;
        sound = sound_then w (emitted j w) (emitted_adds j w).extends sound;
        pc = ap (λ a. sum a 4) pc ∙ next_address base' (length w.code) ∙ ap (address base') (sym (emitted_length j w));
        same = refl;
      }
    where
      place : (top i : ℕ) → 8 * top < 2 ^ 63 → i < 4 → sum (8 * top) (word_of (pos (8 * i))) ≡ 8 * (top + i)
      place top i a l = grind arith

  -- Arguments, from the words at the value.
  module _ (top : ℕ) (roomy : image.has_stack top ≡ true) (low : image.bottom ≤ c.top) (size : top ≡ c.top + (4 + b.frame)) (ws : List ℕ) (base_stack : ℕ → ℕ) (same_below : (n : ℕ) → n < c.top → base_stack n ≡ c.stack n) where
    -- the frame with so many arguments
    abbrev with_arguments : ℕ → Machine
    with_arguments n = record c { fp = c.top; top = top; peak = max c.peak top; high = max c.high top; stack = put_all (c.top + 4) (take n ws) base_stack }

    framed_new : (n : ℕ) → Framed image m b.frame (with_arguments n)
    framed_new n = record { low = low; high = let fits_in : nat_le (8 * top) (stack_end m) ≡ true = sym (standing.stack top) ∙ roomy in grind (arith, nat_tests, fits_in, size) }

    record Argument (s : State) (a v : ℕ) : Type 0 where
      read : read_at w64 s a ≡ Some v
      small : v < 2 ^ 64
      near : a < 2 ^ 32

    read_argument : (n : ℕ) (s : State) (a v : ℕ) → Held image m (with_arguments n) s → word_below image c.top c.stack a ≡ Some v → Argument s a v
    read_argument n s a v h e = by (nat_lt a (8 * image.bottom)) (is_address a && nat_lt (number_at a) c.top) refl refl e
      where
        by : (f t : Bool) → nat_lt a (8 * image.bottom) ≡ f → (is_address a && nat_lt (number_at a) c.top) ≡ t → (if f then image.fixed a else (if t then Some (c.stack (number_at a)) else None)) ≡ Some v → Argument s a v
        by true t p q e =
            let x = standing.fixed a v e in
            let inside = x.fixed in
            let area = standing.area in
            record { read = h.fixed.read w64 a inside ∙ x.read; small = x.small; near = omega (arith, inside, area) }
        by false true p q e =
            let both = and_true (is_address a) (nat_lt (number_at a) c.top) q in
            let even : a % 8 ≡ 0 = eqb-true (a % 8) 0 both.0 in
            let begins : 8 * image.bottom ≤ a = grind (arith, nat_tests, p) in
            let ends : a / 8 < c.top = grind (arith, nat_tests, both.1) in
            let fits_in : nat_le (8 * top) (stack_end m) ≡ true = sym (standing.stack top) ∙ roomy in
            let room : 8 * top ≤ stack_end m = grind (arith, nat_tests, fits_in) in
            let short = standing.sound.stack in
            let same : 8 * (a / 8) ≡ a = omega (arith, even) in
            let is_value : put_all (c.top + 4) (take n ws) base_stack (a / 8) ≡ v = all_below (take n ws) (c.top + 4) (a / 8) base_stack (omega (arith, ends)) ∙ same_below (a / 8) ends ∙ some_same (c.stack (number_at a)) v e in
            record {
              read = ap (read_at w64 s) (sym same) ∙ h.stack (a / 8) (omega (arith, begins, even)) (omega (arith, ends, room, size)) ∙ ap Some is_value;
              small = subst (λ k. k < 2 ^ 64) is_value (h.sized.stack (a / 8));
              near = omega (arith, ends, room, size, short, even);
            }
        by false false p q e = absurd (cc)

    module _ (now : reads image the_value c.who.body c.pc c.mode ≡ true) (each : (i : ℕ) → i < length ws → word_below image c.top c.stack (c.value + 8 * i) ≡ Some (get_or ws i 0)) (wide : length ws ≤ b.frame) where
      abbrev Came' : ℕ → Written → State → Machine → Type 0
      Came' n v s d = Came image m standing (with_arguments n) b is fits instance v s d

      argument_goes : (n : ℕ) (w : Written) (s : State) → n < length ws → Held image m (with_arguments n) s → Sound w → s.pc ≡ address base' (length w.code) → Front (argument_onto n w) W →
          Came' n (argument_onto n w) s (with_arguments (suc n))
      argument_goes n w s l h sound pc f =
          let hole = cells image m standing c b is fits instance in
          let v = load_at_onto name.First name.Value (word_distance n) w in
          let fv = front_adds v (save_slot_onto name.First n v) W (save_adds m.code base' W hole st (trap_at standing) few (traps image m standing c b is fits instance) name.First name.Frame (slot_distance n) v) f in
          let r = read_argument n s (c.value + 8 * n) (get_or ws n 0) h (each n l) in
          let near = r.near in
          let at : sum (register s 10) (unsigned (word_distance n)) ≡ c.value + 8 * n = ap (λ k. sum k (unsigned (word_distance n))) (h.value now) ∙ far_sum c.value n (omega (arith, near)) in
          let g = load_at_gives (stepping.view image m standing (with_arguments n) b is fits instance) m.code base' W hole st false 0 w s name.First name.Value (word_distance n) (get_or ws n 0)
          (stepping.here image m standing (with_arguments n) b is fits instance w s (framed_new n) h sound pc) fv refl (first_spare tt) refl tt (ap (read_at w64 s) at ∙ r.read) in
          let z = save_gives image m standing (with_arguments n) b is fits instance v g.state name.First n (get_or ws n 0) (framed_new n) refl g.here.sound g.here.pc (held_done image m standing 0 (with_arguments n) s g.state g.done h) f g.holds r.small (omega (arith, l, wide)) in
          record {
            state = z.state;
            reaches = reaches_then g.reaches z.reaches;
            held = subst (λ (k : ℕ → ℕ). Held image m (record (with_arguments n) { stack = k }) z.state) (grown n l) z.held;
            sound = z.sound;
            pc = z.pc;
          }
        where
          grown : (n : ℕ) → n < length ws → put_at (c.top + 4 + n) (get_or ws n 0) (put_all (c.top + 4) (take n ws) base_stack) ≡ put_all (c.top + 4) (take (suc n) ws) base_stack
          grown n l =
              ap (λ k. put_at (c.top + 4 + k) (get_or ws n 0) (put_all (c.top + 4) (take n ws) base_stack)) (sym (take_count ws n (omega (arith, l))))
              ∙ sym (put_last (c.top + 4) (take n ws) (get_or ws n 0) base_stack)
              ∙ ap (λ (xs : List ℕ). put_all (c.top + 4) xs base_stack) (sym (take_last ws n l))

      arguments_go : (n : ℕ) (w : Written) (s : State) → n ≤ length ws → Held image m (with_arguments 0) s → Sound w → s.pc ≡ address base' (length w.code) → Front (arguments_onto n w) W →
          Came' 0 (arguments_onto n w) s (with_arguments n)
      arguments_go zero w s l h sound pc f = record { state = s; reaches = reaches_same s; held = h; sound = sound; pc = pc }
      arguments_go (suc n) w s l h sound pc f =
          let hole = cells image m standing c b is fits instance in
          let v = arguments_onto n w in
          let x = arguments_go n w s (omega (arith, l)) h sound pc (front_adds v (argument_onto n v) W (argument_adds m.code base' W hole st (trap_at standing) few (traps image m standing c b is fits instance) n v) f) in
          let y = argument_goes n v x.state (omega (arith, l)) x.held x.sound x.pc f in
          record { state = y.state; reaches = reaches_then x.reaches y.reaches; held = y.held; sound = y.sound; pc = y.pc }

  -- The test.
  abbrev top : ℕ
  top = c.top + (4 + b.frame)

  -- the new top is in a register
  record Ready (v : Written) (s : State) : Type 0 where
    state : State
    reaches : Reaches s state
    here : Here blind m.code base' (cells image m standing c b is fits instance) false v state
    held : Held image m c state
    six : register state 6 ≡ 8 * top
    one : register state 1 ≡ c.back
    seven : register state 7 ≡ c.caller

  ready : (w : Written) (s : State) → Held image m c s → Sound w → s.pc ≡ address base' (length w.code) → register s 1 ≡ c.back → register s 7 ≡ c.caller → Front (address_at_onto name.Second name.Top (slot_distance b.frame) w) W →
      Ready (address_at_onto name.Second name.Top (slot_distance b.frame) w) s
  ready w s h sound pc back caller f =
      let d = slot_distance b.frame in
      let hole = cells image m standing c b is fits instance in
      let v = near_onto name.Top d w in
      let r = near_base name.Top d in
      let i = instr.Imm op.Addi 6 (register_number r) (lowest d) in
      let k = kept_all 0 in
      let y = near_gives blind m.code base' W hole st false 0 w s name.Top d (blind_here c w s h sound pc) k.0 tt (front_adds v (emitted i v) W (emitted_adds i v) f) in
      let n = sum (register y.state (register_number r)) (word_of (lowest d)) in
      let z = puts blind m.code base' W hole st false 0 v y.state name.Second n i y.here f (second_spare 0 refl) (imm_goes y.state op.Addi 6 (register_number r) (lowest d)) in
      let done = done_then y.done z.done in
      let low = h.sized.top in
      let short = standing.sound.stack in
      let frame = fits.frame in
      record {
        state = z.state;
        reaches = reaches_then y.reaches z.reaches;
        here = z.here;
        held = held_done image m standing 0 c s z.state done h;
        six = z.holds ∙ y.reach ∙ ap₂ (λ a e. sum a (unsigned e)) h.top (slot_is image m standing b.frame frame) ∙ far_sum (8 * c.top) (4 + b.frame) (omega (arith, low, short, frame)) ∙ omega arith;
        one = done.stays name.Back k.1 ∙ back;
        seven = done.stays name.Caller k.2 ∙ caller;
      }

  -- The foot, and the frame and the top as they are then.

  abbrev foot : ℕ → ℕ
  foot = framed image top c

  abbrev entering : Machine
  entering = record c { fp = c.top; top = top; peak = max c.peak top; high = max c.high top; stack = foot }

  abbrev footed : Written → Written
  footed w = copy_onto name.Top name.Second (copy_onto name.Frame name.Top (sd_onto name.Second name.Top (pos 24) (sd_onto name.Caller name.Top (pos 16) (sd_onto name.Frame name.Top (pos 8) (sd_onto name.Back name.Top (pos 0) w)))))

  record Footed (v : Written) (s : State) : Type 0 where
    state : State
    reaches : Reaches s state
    held : Held image m entering state
    sound : Sound v
    pc : state.pc ≡ address base' (length v.code)

  foot_goes : (w : Written) (s : State) → Held image m c s → Sound w → s.pc ≡ address base' (length w.code) → register s 6 ≡ 8 * top → register s 1 ≡ c.back → register s 7 ≡ c.caller → image.bottom ≤ c.top → image.has_stack top ≡ true → Front (footed w) W → Footed (footed w) s
  foot_goes w s h sound pc six one seven low roomy f =
      let w3 = sd_onto name.Back name.Top (pos 0) w in
      let w4 = sd_onto name.Frame name.Top (pos 8) w3 in
      let w5 = sd_onto name.Caller name.Top (pos 16) w4 in
      let w6 = sd_onto name.Second name.Top (pos 24) w5 in
      let i7 = instr.Imm op.Addi 18 2 (pos 0) in
      let w7 = emitted i7 w6 in
      let i8 = instr.Imm op.Addi 2 6 (pos 0) in
      let w8 = emitted i8 w7 in
      let f7 = front_adds w7 w8 W (emitted_adds i8 w7) f in
      let f6 = front_adds w6 w7 W (emitted_adds i7 w6) f7 in
      let f5 = front_adds w5 w6 W (emitted_adds _ w5) f6 in
      let f4 = front_adds w4 w5 W (emitted_adds _ w4) f5 in
      let f3 = front_adds w3 w4 W (emitted_adds _ w3) f4 in
      let fits_in : nat_le (8 * top) (stack_end m) ≡ true = sym (standing.stack top) ∙ roomy in
      let room : 8 * top ≤ stack_end m = grind (arith, nat_tests, fits_in) in
      let short = standing.sound.stack in
      let four : 8 * (c.top + 4) ≤ stack_end m = omega (arith, room) in
      let z = h.sized in
      let a = save_top c w s name.Back 0 c.top c.back (omega arith) h sound pc f3 one z.back (omega arith) low four in
      let b1 = save_top (with_word_at image m standing c c.top c.back) w3 a.state name.Frame 1 (c.top + 1) (8 * c.fp) refl a.held a.sound a.pc f4 a.held.frame z.frame (omega arith) low four in
      let c1 = save_top (with_word_at image m standing (with_word_at image m standing c c.top c.back) (c.top + 1) (8 * c.fp)) w4 b1.state name.Caller 2 (c.top + 2) c.caller refl b1.held b1.sound b1.pc f5
      (ap (λ (xs : List ℕ). Rattle.std.specs.Prelude.slice_index xs 7) (b1.same ∙ a.same) ∙ seven) z.caller (omega arith) low four in
      let d1 = save_top (with_word_at image m standing (with_word_at image m standing (with_word_at image m standing c c.top c.back) (c.top + 1) (8 * c.fp)) (c.top + 2) c.caller) w5 c1.state name.Second 3 (c.top + 3) (8 * top) refl c1.held c1.sound c1.pc f6
      (ap (λ (xs : List ℕ). Rattle.std.specs.Prelude.slice_index xs 6) (c1.same ∙ b1.same ∙ a.same) ∙ six) (omega (arith, room, short)) (omega arith) low four in
      let t = d1.state in
      let ht = d1.held in
      let at7 : At t.code t.pc i7 = subst (λ x. At x t.pc i7) (sym ht.fixed.code) (subst (λ p. At m.code p i7) (sym d1.pc) (st.plain i7 w6 d1.sound f7)) in
      let v7 = sum (register t 2) (word_of (pos 0)) in
      let t7 = with_word t name.Frame v7 in
      let frame : v7 ≡ 8 * c.top = ap (λ k. sum k (word_of (pos 0))) ht.top ∙ same_sum (8 * c.top) (omega (arith, four, short)) in
      let pc7 : t7.pc ≡ address base' (length w7.code) = ap (λ p. sum p 4) d1.pc ∙ next_address base' (length w6.code) ∙ ap (address base') (sym (emitted_length i7 w6)) in
      let sound7 = sound_then w6 w7 (emitted_adds i7 w6).extends d1.sound in
      let at8 : At t7.code t7.pc i8 = subst (λ x. At x t7.pc i8) (sym ht.fixed.code) (subst (λ p. At m.code p i8) (sym pc7) (st.plain i8 w7 sound7 f)) in
      let v8 = sum (register t7 6) (word_of (pos 0)) in
      let t8 = with_word t7 name.Top v8 in
      let six7 : register t7 6 ≡ 8 * top = set_other t 18 v7 6 _ (differ 6 18 refl) (ap (λ (xs : List ℕ). Rattle.std.specs.Prelude.slice_index xs 6) (d1.same ∙ c1.same ∙ b1.same ∙ a.same) ∙ six) in
      let top_is : v8 ≡ 8 * top = ap (λ k. sum k (word_of (pos 0))) six7 ∙ same_sum (8 * top) (omega (arith, room, short)) in
      let count = ht.fixed.registers in
      let y = ht.sized in
      let peak = y.peak in
      let keep : (q v : ℕ) → q ≢ 18 → q ≢ 2 → register t q ≡ v → register t8 q ≡ v = λ q v p1 p2 e. set_other t7 2 v8 q v p2 (set_other t 18 v7 q v p1 e) in
      record {
        state = t8;
        reaches = reaches_then a.reaches (reaches_then b1.reaches (reaches_then c1.reaches (reaches_then d1.reaches (reaches_then (reaches_one t t7 (imm_goes t op.Addi 18 2 (pos 0) at7)) (reaches_one t7 t8 (imm_goes t7 op.Addi 2 6 (pos 0) at8))))));
        held = held_registers image m standing (record c { stack = foot }) entering t t8 ht (record { code = refl; image = refl; store = refl; stack = refl; start = refl; registers = length-set t7.registers 2 v8 ∙ length-set t.registers 18 v7 }) refl refl
            (record { table = y.table; back = y.back; caller = y.caller; value = y.value; words = y.words; frame = low_frame c.top m.stack short four; top = room; peak = most c.peak top (stack_end m) peak room; stack = y.stack; byte = y.byte; writable = y.writable; next = y.next })
            (record {
              zero = keep 0 0 (differ 0 18 refl) (differ 0 2 refl) ht.fixed.zero;
              store_end = keep 4 _ (differ 4 18 refl) (differ 4 2 refl) ht.fixed.store_end;
              stack_end = keep 8 _ (differ 8 18 refl) (differ 8 2 refl) ht.fixed.stack_end;
              frame = set_other t7 2 v8 18 _ (differ 18 2 refl) (get_or-set_same t.registers 18 v7 0 (among t.registers 18 count refl) ∙ frame);
              top = get_or-set_same t7.registers 2 v8 0 (among t7.registers 2 (length-set t.registers 18 v7 ∙ count) refl) ∙ top_is;
              table = keep 9 _ (differ 9 18 refl) (differ 9 2 refl) ht.table;
              store = keep 3 _ (differ 3 18 refl) (differ 3 2 refl) ht.store;
              value = λ r. keep 10 _ (differ 10 18 refl) (differ 10 2 refl) (ht.value r);
              words = λ r. keep 11 _ (differ 11 18 refl) (differ 11 2 refl) (ht.words r);
            });
        sound = sound_then w7 w8 (emitted_adds i8 w7).extends sound7;
        pc = ap (λ p. sum p 4) pc7 ∙ next_address base' (length w7.code) ∙ ap (address base') (sym (emitted_length i8 w7));
      }
    where
      same_sum : (a : ℕ) → a < 2 ^ 64 → sum a (word_of (pos 0)) ≡ a
      same_sum a l = grind arith

  foot_below : (n : ℕ) → n < c.top → foot n ≡ c.stack n
  foot_below n l = rw (not_above n c.top 3 l, not_above n c.top 2 l, not_above n c.top 1 l, not_there n c.top l) refl

  -- ENTER
  pub enter_follows : (arguments : ℕ) (s : State) → slice_get b.code c.pc ≡ Some (flat.Enter arguments) → Held image m c s → s.pc ≡ address base' (words_before b c.pc) → register s 1 ≡ c.back → register s 7 ≡ c.caller →
      Arrives image m standing (enters image arguments top c) s
  unfolding where_room where_so entered put_all
  enter_follows arguments s there h pc back caller = by_room (image.has_stack top) refl (room_goes blind m.code base' W hole st false few kept w1 g.state g.here f2 (image.has_stack top) (ap₂ nat_le g.six g.held.fixed.stack_end ∙ sym (standing.stack top)))
    where
      step : flat.Step
      step = flat.Enter arguments

      x : StepAt b c.pc (flat.Enter arguments)
      x = stepping.at_step image m standing c b is fits instance (flat.Enter arguments) there

      hole : Rattle.clu_wir.specs.declared.hole.HoleKind.HoleKind → ℕ → ℕ
      hole = cells image m standing c b is fits instance

      kept : ℕ
      kept = bit_or 0 (bit name.Second)

      w1 : Written
      w1 = address_at_onto name.Second name.Top (slot_distance b.frame) (upto b c.pc)

      w2 : Written
      w2 = room_onto w1

      w8 : Written
      w8 = footed w2

      f8 : Front w8 W
      f8 = front_adds w8 (arguments_onto arguments w8) W (arguments_adds m.code base' W hole st (trap_at standing) few (traps image m standing c b is fits instance) arguments w8) x.front

      f2 : Front w2 W
      f2 = front_adds w2 w8 W (foot_adds w2) f8
        where
          foot_adds : (w : Written) → Adds w (footed w)
          foot_adds w = Rattle.laws_selection.proofs.Adding.after (emitted_adds _ w) (Rattle.laws_selection.proofs.Adding.after (emitted_adds _ _) (Rattle.laws_selection.proofs.Adding.after (emitted_adds _ _) (Rattle.laws_selection.proofs.Adding.after (emitted_adds _ _) (Rattle.laws_selection.proofs.Adding.after (emitted_adds _ _) (emitted_adds _ _)))))

      f1 : Front w1 W
      f1 = front_adds w1 w2 W (room_adds w1) f2

      g : Ready w1 s
      g = ready (upto b c.pc) s h x.sound pc back caller f1

      now : reads image the_value c.who.body c.pc c.mode ≡ true
      now = reads_here image m standing c b is fits instance (flat.Enter arguments) there mode the_value (λ r. refl)

      inside : arguments ≤ b.frame
      inside = let fit = fits.step c.pc (flat.Enter arguments) there in grind (arith, nat_tests, fit)

      begin : (ws : List ℕ) (t : State) → Held image m entering t → Held image m (record entering { stack = put_all (c.top + 4) (take 0 ws) foot }) t
      begin ws t h = h

      copied : (t : State) → Reaches s t → Footed w8 t → image.has_stack top ≡ true → image.bottom ≤ c.top → (o : Option (List ℕ)) → words_below image c.top c.stack c.value arguments ≡ o → Arrives image m standing (entered image top o c) s
      copied t reaches y roomy low None e = wrong image m standing c b is fits instance c s
      copied t reaches y roomy low (Some ws) e =
          let below = words_are image c.top c.stack arguments c.value ws e in
          let count = below.count in
          let z = arguments_go top roomy low refl ws foot foot_below now (λ i l. below.each i (omega (arith, l, count))) (omega (arith, count, inside)) arguments w8 y.state (omega (arith, count)) (begin ws y.state y.held) y.sound y.pc x.front in
          let all : take arguments ws ≡ ws = ap (λ n. take n ws) (sym count) ∙ take_whole ws in
          let d = record entering { stack = put_all (c.top + 4) ws foot } in
          let hd : Held image m d z.state = subst (λ (xs : List ℕ). Held image m (record entering { stack = put_all (c.top + 4) xs foot }) z.state) all z.held in
          record {
            state = z.state;
            reaches = reaches_then reaches (reaches_then y.reaches z.reaches);
            at = subst (λ k. IsAt image m standing (next d) z.state k) (sym mode)
                (held_at image m standing d (suc c.pc) (suc c.clock) z.state (λ t. unread_next image m standing c b is fits instance mode t (not_so _ (fits.unread t c.pc (flat.Enter arguments) there))) hd, runs_at image m standing c b is fits instance (next d) z.state (suc c.pc) refl refl x.inside (z.pc ∙ ap (address base') (sym x.behind)) (omega arith));
          }

      by_low : (t : State) → Reaches s t → Held image m c t → Sound w2 → t.pc ≡ address base' (length w2.code) → register t 6 ≡ 8 * top → register t 1 ≡ c.back → register t 7 ≡ c.caller → image.has_stack top ≡ true → (l : Bool) → nat_le image.bottom c.top ≡ l →
          Arrives image m standing (where_so l (entered image top (words_below image c.top c.stack c.value arguments) c) c) s
      by_low t reaches ht sound pc six one seven roomy false e = wrong image m standing c b is fits instance c s
      by_low t reaches ht sound pc six one seven roomy true e =
          let low : image.bottom ≤ c.top = grind (arith, nat_tests, e) in
          copied t reaches (foot_goes w2 t ht sound pc six one seven low roomy f8) roomy low (words_below image c.top c.stack c.value arguments) refl

      by_room : (so : Bool) → image.has_stack top ≡ so → Room blind m.code base' W hole st false few kept w2 g.state so →
          Arrives image m standing (where_room so full (where_so (nat_le image.bottom c.top) (entered image top (words_below image c.top c.stack c.value arguments) c) c) c) s
      by_room false e r = record { state = r.state; reaches = reaches_then g.reaches r.reaches; at = r.calls }
      by_room true e r =
          let k = kept_all kept in
          by_low r.state (reaches_then g.reaches r.reaches) (held_done image m standing kept c g.state r.state r.done g.held) (sound_then w1 w2 (room_adds w1).extends g.here.sound) r.pc
          (r.done.stays name.Second (stays_own 0 name.Second refl) ∙ g.six) (r.done.stays name.Back k.1 ∙ g.one) (r.done.stays name.Caller k.2 ∙ g.seven) e (nat_le image.bottom c.top) refl
