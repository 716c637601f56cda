-- A frame is taken away: the words that end a routine, and the search that goes on where it was called.
use Rattle.std.proofs.Common.{◌≡◌, ◌∙◌, ◌≢◌, ℕ, pos, ◌+◌, ◌-◌, ◌*◌, ◌%◌, ◌^◌, ◌<◌, ◌≤◌, ◌==◌, true, length, Some, refl, ap, sym, subst, arith}
use Rattle.std.specs.Int.{w64}
use Rattle.std.proofs.lemmas.Bool.Decides.{nat_tests}
use Rattle.std.proofs.lemmas.List.{get_or-set_same, length-set}
use Rattle.clu_flat_meaning.specs.Image.{Body, Image}
use Rattle.clu_flat_meaning.specs.Machine.{Machine}
use Rattle.rv_isa.specs.declared.instr.Instr.TheVariants as instr
use Rattle.rv_isa.specs.declared.op.Op.TheVariants as op
use Rattle.rv_machine.specs.State.{State, read_at, register}
use Rattle.rv_machine.specs.Steps.{jalr_target, word_of}
use Rattle.rv_machine.specs.Values.{sum}
use Rattle.rv_select.specs.declared.register.Register.{Register}
use Rattle.rv_select.specs.declared.register.Register.TheVariants as name
use Rattle.rv_select.specs.Registers.{register_number}
use Rattle.rv_select.specs.Steps.{left_onto}
use Rattle.rv_select.specs.Written.{Written, emitted}
use Rattle.laws_selection.specs.Fitting.{Fits}
use Rattle.laws_selection.specs.Growing.{Front, Sound, address}
use Rattle.laws_selection.specs.Holding.{Held, stack_end}
use Rattle.laws_selection.specs.Running.{At, Reaches, Same}
use Rattle.laws_selection.specs.Standing.{Standing, body_words}
use Rattle.laws_selection.proofs.Entering.{among, differ}
use Rattle.laws_selection.proofs.Evaluating.{next_address}
use Rattle.laws_selection.proofs.Growing.{emitted_adds, emitted_length, front_adds, sound_then}
use Rattle.laws_selection.proofs.Running.{imm_goes, jalr_goes, load_goes, read_same, reaches_one, reaches_then, with_word}
use Rattle.laws_selection.proofs.Stepping.{Framed, base, stands}
use Rattle.laws_selection.proofs.Trapping.{set_other}

near_word : (top n : ℕ) → 8 * top < 2 ^ 63 → n < 4 → sum (8 * top) (word_of (pos (8 * n))) ≡ 8 * (top + n)
near_word top n l h = grind arith

pub cleared : (a : ℕ) → a < 2 ^ 64 → a % 4 ≡ 0 → (let b = sum a (word_of (pos 0)) in b - b % 2) ≡ a
cleared a l e = grind arith

module _ (image : Image) (m : State) (standing : Standing image m) (c : Machine) (b : Body) (is : image.body c.who.body ≡ Some b) (fits : Fits b) (instance : standing.is_instance c.who.body c.who.table ≡ true) where
  abbrev base' : ℕ
  base' = base image m standing c b is fits instance

  abbrev W : Written
  W = body_words b

  -- the caller's frame and link table are as they were, and the machine is where a register says
  pub record Left (s : State) (target : ℕ) : Type 0 where
    pub state : State
    pub reaches : Reaches s state
    pub same : Same s state
    pub pc : state.pc ≡ target
    pub back : register state 1 ≡ c.stack c.fp
    pub top : register state 2 ≡ 8 * c.fp
    pub table : register state 9 ≡ c.stack (c.fp + 2)
    pub frame : register state 18 ≡ c.stack (c.fp + 1)
    pub keeps : (q : ℕ) → q ≢ 1 → q ≢ 2 → q ≢ 9 → q ≢ 18 → register state q ≡ register s q

  -- where the last word jumps to
  abbrev Aims : Register → State → ℕ → Type 0
  Aims name.Back s target = c.stack c.fp ≡ target
  Aims name.First s target = register s 5 ≡ target
  Aims _ s target = ⊥

  pub left_goes : (to : Register) (w : Written) (s : State) (target : ℕ) → Framed image m b.frame c → Held image m c s → Sound w → s.pc ≡ address base' (length w.code) → Front (left_onto to w) W → Aims to s target → target < 2 ^ 64 → target % 4 ≡ 0 → Left s target
  left_goes to w s target framed h sound pc f aims small even =
      let st = stands image m standing c b is fits instance in
      let i1 = instr.Load op.Ld 1 18 (pos 0) in
      let i2 = instr.Imm op.Addi 2 18 (pos 0) in
      let i3 = instr.Load op.Ld 9 18 (pos 16) in
      let i4 = instr.Load op.Ld 18 18 (pos 8) in
      let i5 = instr.Jalr 0 (register_number to) (pos 0) in
      let w1 = emitted i1 w in
      let w2 = emitted i2 w1 in
      let w3 = emitted i3 w2 in
      let w4 = emitted i4 w3 in
      let f4 = front_adds w4 (emitted i5 w4) W (emitted_adds i5 w4) f in
      let f3 = front_adds w3 w4 W (emitted_adds i4 w3) f4 in
      let f2 = front_adds w2 w3 W (emitted_adds i3 w2) f3 in
      let f1 = front_adds w1 w2 W (emitted_adds i2 w1) f2 in
      let n1 = c.stack c.fp in
      let n3 = c.stack (c.fp + 2) in
      let n4 = c.stack (c.fp + 1) in
      let count = h.fixed.registers in
      let t1 = with_word s name.Back n1 in
      let at1 : At s.code s.pc i1 = subst (λ x. At x s.pc i1) (sym h.fixed.code) (subst (λ a. At m.code a i1) (sym pc) (st.plain i1 w sound f1)) in
      let g1 = load_goes s 1 18 (pos 0) n1 at1 (foot_at s s 0 (omega arith) h (record { code = refl; image = refl; store = refl; stack = refl; start = refl; registers = refl }) h.frame ∙ ap (λ k. Some (c.stack k)) none_more) in
      let pc1 : t1.pc ≡ address base' (length w1.code) = ap (λ a. sum a 4) pc ∙ next_address base' (length w.code) ∙ ap (address base') (sym (emitted_length i1 w)) in
      let sound1 = sound_then w w1 (emitted_adds i1 w).extends sound in
      let frame1 : register t1 18 ≡ 8 * c.fp = set_other s 1 n1 18 _ (differ 18 1 refl) h.frame in
      let v2 = sum (register t1 18) (word_of (pos 0)) in
      let t2 = with_word t1 name.Top v2 in
      let at2 : At t1.code t1.pc i2 = subst (λ x. At x t1.pc i2) (sym h.fixed.code) (subst (λ a. At m.code a i2) (sym pc1) (st.plain i2 w1 sound1 f2)) in
      let g2 = imm_goes t1 op.Addi 2 18 (pos 0) at2 in
      let pc2 : t2.pc ≡ address base' (length w2.code) = ap (λ a. sum a 4) pc1 ∙ next_address base' (length w1.code) ∙ ap (address base') (sym (emitted_length i2 w1)) in
      let sound2 = sound_then w1 w2 (emitted_adds i2 w1).extends sound1 in
      let count1 = length-set s.registers 1 n1 ∙ count in
      let top2 : v2 ≡ 8 * c.fp = ap (λ k. sum k (word_of (pos 0))) frame1 ∙ here_word in
      let frame2 : register t2 18 ≡ 8 * c.fp = set_other t1 2 v2 18 _ (differ 18 2 refl) frame1 in
      let t3 = with_word t2 name.Table n3 in
      let at3 : At t2.code t2.pc i3 = subst (λ x. At x t2.pc i3) (sym h.fixed.code) (subst (λ a. At m.code a i3) (sym pc2) (st.plain i3 w2 sound2 f3)) in
      let g3 = load_goes t2 9 18 (pos 16) n3 at3 (foot_at s t2 2 (omega arith) h (record { code = refl; image = refl; store = refl; stack = refl; start = refl; registers = length-set t1.registers 2 v2 ∙ length-set s.registers 1 n1 }) frame2) in
      let pc3 : t3.pc ≡ address base' (length w3.code) = ap (λ a. sum a 4) pc2 ∙ next_address base' (length w2.code) ∙ ap (address base') (sym (emitted_length i3 w2)) in
      let sound3 = sound_then w2 w3 (emitted_adds i3 w2).extends sound2 in
      let count2 = length-set t1.registers 2 v2 ∙ count1 in
      let frame3 : register t3 18 ≡ 8 * c.fp = set_other t2 9 n3 18 _ (differ 18 9 refl) frame2 in
      let t4 = with_word t3 name.Frame n4 in
      let at4 : At t3.code t3.pc i4 = subst (λ x. At x t3.pc i4) (sym h.fixed.code) (subst (λ a. At m.code a i4) (sym pc3) (st.plain i4 w3 sound3 f4)) in
      let g4 = load_goes t3 18 18 (pos 8) n4 at4 (foot_at s t3 1 (omega arith) h (record { code = refl; image = refl; store = refl; stack = refl; start = refl; registers = length-set t2.registers 9 n3 ∙ length-set t1.registers 2 v2 ∙ length-set s.registers 1 n1 }) frame3) in
      let pc4 : t4.pc ≡ address base' (length w4.code) = ap (λ a. sum a 4) pc3 ∙ next_address base' (length w3.code) ∙ ap (address base') (sym (emitted_length i4 w3)) in
      let sound4 = sound_then w3 w4 (emitted_adds i4 w3).extends sound3 in
      let count3 = length-set t2.registers 9 n3 ∙ count2 in
      let at5 : At t4.code t4.pc i5 = subst (λ x. At x t4.pc i5) (sym h.fixed.code) (subst (λ a. At m.code a i5) (sym pc4) (st.plain i5 w4 sound4 f)) in
      let keep : (q : ℕ) → q ≢ 1 → q ≢ 2 → q ≢ 9 → q ≢ 18 → register t4 q ≡ register s q = λ q p1 p2 p9 p18. set_other t3 18 n4 q _ p18 (set_other t2 9 n3 q _ p9 (set_other t1 2 v2 q _ p2 (set_other s 1 n1 q _ p1 refl))) in
      let back : register t4 1 ≡ n1 = set_other t3 18 n4 1 _ (differ 1 18 refl) (set_other t2 9 n3 1 _ (differ 1 9 refl) (set_other t1 2 v2 1 _ (differ 1 2 refl) (get_or-set_same s.registers 1 n1 0 (among s.registers 1 count refl)))) in
      let lands : jalr_target t4 (register_number to) (word_of (pos 0)) ≡ target = ap (λ k. let d = sum k (word_of (pos 0)) in d - d % 2) (aimed to s t4 target aims back keep) ∙ cleared target small even in
      let t5 = record t4 { pc = jalr_target t4 (register_number to) (word_of (pos 0)) } in
      let g5 = jalr_goes t4 0 (register_number to) (pos 0) at5 (ap (λ k. k % 4 == 0) lands ∙ four target even) in
      record {
        state = t5;
        reaches = reaches_then (reaches_one s t1 g1) (reaches_then (reaches_one t1 t2 g2) (reaches_then (reaches_one t2 t3 g3) (reaches_then (reaches_one t3 t4 g4) (reaches_one t4 t5 g5))));
        same = record { code = refl; image = refl; store = refl; stack = refl; start = refl; registers = length-set t3.registers 18 n4 ∙ length-set t2.registers 9 n3 ∙ length-set t1.registers 2 v2 ∙ length-set s.registers 1 n1 };
        pc = lands;
        back = back;
        top = set_other t3 18 n4 2 _ (differ 2 18 refl) (set_other t2 9 n3 2 _ (differ 2 9 refl) (get_or-set_same t1.registers 2 v2 0 (among t1.registers 2 count1 refl))) ∙ top2;
        table = set_other t3 18 n4 9 _ (differ 9 18 refl) (get_or-set_same t2.registers 9 n3 0 (among t2.registers 9 count2 refl));
        frame = get_or-set_same t3.registers 18 n4 0 (among t3.registers 18 count3 refl);
        keeps = keep;
      }
    where
      short : 8 * c.fp < 2 ^ 63
      short = let high = framed.high in let size = standing.sound.stack in omega (arith, high, size)

      above : (n : ℕ) → n < 4 → 8 * (c.fp + n) + 8 ≤ stack_end m
      above n l = let high = framed.high in omega (arith, high, l)

      none_more : c.fp + 0 ≡ c.fp
      none_more = omega arith

      here_word : sum (8 * c.fp) (word_of (pos 0)) ≡ 8 * c.fp
      here_word = near_word c.fp 0 short (omega arith) ∙ ap (λ k. 8 * k) none_more

      -- a word of the foot
      foot_at : (s t : State) (n : ℕ) → n < 4 → Held image m c s → Same s t → register t 18 ≡ 8 * c.fp → read_at w64 t (sum (register t 18) (word_of (pos (8 * n)))) ≡ Some (c.stack (c.fp + n))
      foot_at s t n l h same e =
          let low = framed.low in
          ap (read_at w64 t) (ap (λ a. sum a (word_of (pos (8 * n)))) e ∙ near_word c.fp n short l) ∙ read_same w64 s t (8 * (c.fp + n)) same ∙ h.stack (c.fp + n) (omega (arith, low)) (above n l)

      aimed : (to : Register) (s t : State) (target : ℕ) → Aims to s target → register t 1 ≡ c.stack c.fp → ((q : ℕ) → q ≢ 1 → q ≢ 2 → q ≢ 9 → q ≢ 18 → register t q ≡ register s q) → register t (register_number to) ≡ target
      aimed name.Back s t target a back keep = back ∙ a
      aimed name.First s t target a back keep = keep 5 (differ 5 1 refl) (differ 5 2 refl) (differ 5 9 refl) (differ 5 18 refl) ∙ a
      aimed _ s t target a back keep = absurd a

      four : (a : ℕ) → a % 4 ≡ 0 → (a % 4 == 0) ≡ true
      four a e = grind (arith, nat_tests, e)
