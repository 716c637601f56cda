-- What the instructions of expressions do.
use Rattle.std.proofs.Common.{◌≡◌, ◌∙◌, ℕ, suc, ℤ, Bool, true, false, [], ◌∷◌, length, Some, refl, ap, ap₂, sym, subst, arith}
use Rattle.std.specs.Prelude.{◌&&◌, bit_or, if◌then◌else◌}
use Rattle.std.specs.Int.{w64, w8}
use Rattle.clu_wir.specs.declared.hole.HoleKind.{HoleKind}
use Rattle.clu_wir.specs.declared.hole.HoleKind.TheVariants as kind
use Rattle.rv_isa.specs.declared.instr.Instr.{Instr}
use Rattle.rv_isa.specs.declared.instr.Instr.TheVariants as instr
use Rattle.rv_isa.specs.declared.op.Op.{Op}
use Rattle.rv_isa.specs.declared.op.Op.TheVariants as op
use Rattle.rv_machine.specs.State.{State, register, read_at}
use Rattle.rv_machine.specs.Steps.{next, Goes, word_of}
use Rattle.rv_machine.specs.Values.{sum, value_of, unsigned}
use Rattle.rv_select.specs.declared.operand.Operand.{Operand}
use Rattle.rv_select.specs.declared.operand.Operand.TheVariants.{At as In}
use Rattle.rv_select.specs.declared.register.Register.{Register}
use Rattle.rv_select.specs.declared.register.Register.TheVariants as name
use Rattle.rv_select.specs.Registers.{register_number}
use Rattle.rv_select.specs.Operands.{bit, free}
use Rattle.rv_select.specs.Slots.{above_lowest, is_near, is_reached, load_at_onto, lowest, near_base, near_onto, nearer_onto, reaching}
use Rattle.rv_select.specs.Written.{Written, emitted, hole_onto, in_turn, three_onto}
use Rattle.clu_wir.specs.Value.{View}
use Rattle.laws_selection.specs.Registers.{is_far, stays}
use Rattle.laws_selection.proofs.Registers.{stays_more, stays_own}
use Rattle.laws_selection.specs.Running.{At, Code, Done, Reaches}
use Rattle.laws_selection.proofs.Running.{done_less, done_same, done_then, imm_goes, load_goes, reaches_one, reaches_same, reaches_then, read_same, three_goes, upper_goes, with_word, word_done, word_in, word_pc}
use Rattle.laws_selection.specs.Growing.{Adds, Front, address}
use Rattle.laws_selection.proofs.Growing.{Stood}
use Rattle.laws_selection.proofs.Growing.{adds_same, adds_then, emitted_adds, emitted_length, front_adds, hole_adds, hole_length, reaching_adds, sound_then, tested}
use Rattle.laws_selection.proofs.Numbers.{IsRanged, Splits, splits_of}
use Rattle.laws_selection.specs.Evaluating.{Gave, Here, HoldsWord, IsCell, IsPlaced, Sees, slot_at, slot_base}

pub next_address : (base k : ℕ) → sum (address base k) 4 ≡ address base (suc k)
next_address base k = grind arith

module _ (view : View) (image : Code) (base : ℕ) (W : Written) (hole : HoleKind → ℕ → ℕ) (stands : Stood W image base hole) (is_leaf : Bool) where
  abbrev Sees' : State → Type 0
  Sees' = Sees view image hole is_leaf

  abbrev Here' : Written → State → Type 0
  Here' = Here view image base hole is_leaf

  abbrev Gave' : ℕ → Written → State → Operand → ℕ → Type 0
  Gave' = Gave view image base hole is_leaf

  base_stays : (b : Bool) (kept : ℕ) → stays kept (slot_base b) ≡ true
  unfolding stays
  base_stays true kept = refl
  base_stays false kept = refl

  zero_stays : (kept : ℕ) → stays kept name.Zero ≡ true
  unfolding stays
  zero_stays kept = refl

  table_stays : (kept : ℕ) → stays kept name.Table ≡ true
  unfolding stays
  table_stays kept = refl

  cell_done : (kept : ℕ) (s t : State) (a v : ℕ) → Done kept s t → (k : HoleKind) → IsCell k a s v → IsCell k a t v
  cell_done kept s t a v d kind.Regions c = c
  cell_done kept s t a v d kind.Runtime c = c
  cell_done kept s t a v d kind.Code c = c
  cell_done kept s t a v d kind.TypeCell c = ap (sum a) (d.stays name.Table (table_stays kept)) ∙ c
  cell_done kept s t a v d _ c = ap (λ n. read_at w64 t (sum a n)) (d.stays name.Table (table_stays kept)) ∙ read_same w64 s t (sum a (register s 9)) d.same ∙ c

  pub sees_done : (kept : ℕ) (s t : State) → Done kept s t → Sees' s → Sees' t
  sees_done kept s t d h =
      let at_base = d.stays (slot_base is_leaf) (base_stays is_leaf kept) in
      let r0 = d.stays name.Zero (zero_stays kept) in
      record {
        code = d.same.code ∙ h.code;
        registers = d.same.registers ∙ h.registers;
        zero = r0 ∙ h.zero;
        slot = λ n v e. rw (at_base, read_same w64 s t (sum (register s (register_number (slot_base is_leaf))) (unsigned (slot_at is_leaf n))) d.same) (h.slot n v e);
        word = λ a v e. read_same w64 s t a d.same ∙ h.word a v e;
        byte = λ a v e. read_same w8 s t a d.same ∙ h.byte a v e;
        cell = λ k n v e. cell_done kept s t (hole k n) v d k (h.cell k n v e);
      }

  pub gave_same : (kept : ℕ) (w : Written) (s : State) (o : Operand) (n : ℕ) → Here' w s → HoldsWord o s n → IsPlaced o → Gave' kept w s o n
  gave_same kept w s o n h p q = record { state = s; reaches = reaches_same s; here = h; done = done_same kept s; holds = p; placed = q }

  pub gave_then : {kept : ℕ} {v u : Written} {s : State} {o p : Operand} {n m : ℕ} → (g : Gave' kept v s o n) → Gave' kept u g.state p m → Gave' kept u s p m
  gave_then g h = record { state = h.state; reaches = reaches_then g.reaches h.reaches; here = h.here; done = done_then g.done h.done; holds = h.holds; placed = h.placed }

  -- a register has the word
  pub record Puts (kept : ℕ) (v : Written) (s : State) (to : Register) (n : ℕ) : Type 0 where
    pub state : State
    pub reaches : Reaches s state
    pub here : Here' v state
    pub done : Done kept s state
    pub holds : register state (register_number to) ≡ n

  pub gave_put : {kept : ℕ} {v : Written} {s : State} {to : Register} {n : ℕ} → Puts kept v s to n → is_far to ≡ false → Gave' kept v s (In to) n
  gave_put x near = record { state = x.state; reaches = x.reaches; here = x.here; done = x.done; holds = x.holds; placed = near }

  -- one instruction that fills a register
  pub puts : (kept : ℕ) (w : Written) (s : State) (to : Register) (n : ℕ) (i : Instr) → Here' w s → Front (emitted i w) W → stays kept to ≡ false →
      (At s.code s.pc i → next s ≡ Goes (with_word s to n)) → Puts kept (emitted i w) s to n
  puts kept w s to n i h f free goes =
      let t = with_word s to n in
      let there : At s.code s.pc i = subst (λ c. At c s.pc i) (sym h.sees.code) (subst (λ a. At image a i) (sym h.pc) (stands.plain i w h.sound f)) in
      let d = word_done kept s to n free in
      record {
        state = t;
        reaches = reaches_one s t (goes there);
        here = record {
          sound = sound_then w (emitted i w) (emitted_adds i w).extends h.sound;
          pc = word_pc kept s to n free ∙ ap (λ a. sum a 4) h.pc ∙ next_address base (length w.code) ∙ ap (address base) (sym (emitted_length i w));
          sees = sees_done kept s t d h.sees;
        };
        done = d;
        holds = word_in kept s to n h.sees.registers free;
      }

  pub three_gives : (kept : ℕ) (w : Written) (s : State) (o : Op) (to a b : Register) → Here' w s → Front (three_onto o to a b w) W → stays kept to ≡ false →
      Puts kept (three_onto o to a b w) s to (value_of o (register s (register_number a)) (register s (register_number b)))
  three_gives kept w s o to a b h f free =
      puts kept w s to _ (instr.Three o (register_number to) (register_number a) (register_number b)) h f
      free
      (three_goes s o (register_number to) (register_number a) (register_number b))

  -- a load from a base that stays, at any distance
  ld_gives : (kept : ℕ) (w : Written) (s : State) (to from : Register) (d : ℤ) (n : ℕ) → Here' w s → Front (emitted (instr.Load op.Ld (register_number to) (register_number from) (lowest d)) w) W → stays kept to ≡ false →
      read_at w64 s (sum (register s (register_number from)) (unsigned (lowest d))) ≡ Some n → Puts kept (emitted (instr.Load op.Ld (register_number to) (register_number from) (lowest d)) w) s to n
  ld_gives kept w s to from d n h f free read =
      puts kept w s to n _ h f free
      (λ at. load_goes s (register_number to) (register_number from) (lowest d) n at read)

  pub nearer_adds : (from : Register) (d : ℤ) (w : Written) → Adds w (nearer_onto from d w)
  nearer_adds from d w = by (is_near d)
    where
      by : (b : Bool) → Adds w (if b then w else in_turn (emitted (instr.Upper op.Lui 31 (above_lowest d)) ∷ three_onto op.Add name.Far name.Far from ∷ []) w)
      by true = adds_same w
      by false = adds_then w _ _ (emitted_adds (instr.Upper op.Lui 31 (above_lowest d)) w) (emitted_adds _ _)

  pub near_adds : (from : Register) (d : ℤ) (w : Written) → Adds w (near_onto from d w)
  near_adds from d w = adds_then w (reaching d w) _ (reaching_adds d w) (nearer_adds from d (reaching d w))

  -- what is only tested changes nothing
  pub here_tested : (b : Bool) (w : Written) (s : State) → Here' w s → Here' (record w { fits = w.fits && b }) s
  here_tested b w s h = record { sound = record { before = h.sound.before; filled = h.sound.filled }; pc = h.pc; sees = h.sees }

  far_free : (kept : ℕ) → stays kept name.Far ≡ false
  unfolding stays
  far_free kept = refl

  pub record Near (kept : ℕ) (v : Written) (s : State) (r : Register) (from : ℕ) (d : ℤ) : Type 0 where
    pub state : State
    pub reaches : Reaches s state
    pub here : Here' v state
    pub done : Done kept s state
    pub reach : sum (register state (register_number r)) (unsigned (lowest d)) ≡ sum from (unsigned d)

  nearer_gives : (kept : ℕ) (w : Written) (s : State) (from : Register) (d : ℤ) → Here' w s → stays kept from ≡ true → Splits d → (b : Bool) → b ≡ is_near d →
      Front (if b then w else in_turn (emitted (instr.Upper op.Lui 31 (above_lowest d)) ∷ three_onto op.Add name.Far name.Far from ∷ []) w) W →
      Near kept (if b then w else in_turn (emitted (instr.Upper op.Lui 31 (above_lowest d)) ∷ three_onto op.Add name.Far name.Far from ∷ []) w) s (if b then from else name.Far) (register s (register_number from)) d
  nearer_gives kept w s from d h stay splits true e f =
      record { state = s; reaches = reaches_same s; here = h; done = done_same kept s; reach = splits.near (sym e) (register s (register_number from)) }
  nearer_gives kept w s from d h stay splits false e f =
      let upper = instr.Upper op.Lui 31 (above_lowest d) in
      let v = emitted upper w in
      let a = puts kept w s name.Far (word_of (above_lowest d)) upper h (front_adds v (emitted (instr.Three op.Add 31 31 (register_number from)) v) W (emitted_adds _ v) f)
      (far_free kept) (upper_goes s op.Lui 31 (above_lowest d)) in
      let b = three_gives kept v a.state op.Add name.Far name.Far from a.here f (far_free kept) in
      record {
        state = b.state;
        reaches = reaches_then a.reaches b.reaches;
        here = b.here;
        done = done_then a.done b.done;
        reach = ap (λ n. sum n (unsigned (lowest d))) (b.holds ∙ ap₂ sum a.holds (a.done.stays from stay)) ∙ splits.far (register s (register_number from));
      }

  pub near_gives : (kept : ℕ) (w : Written) (s : State) (from : Register) (d : ℤ) → Here' w s → stays kept from ≡ true → IsRanged d → Front (near_onto from d w) W →
      Near kept (near_onto from d w) s (near_base from d) (register s (register_number from)) d
  near_gives kept w s from d h stay ranged f =
      let v = reaching d w in
      let reached = tested (is_reached d) w W stands.fits (front_adds v (near_onto from d w) W (nearer_adds from d v) f) in
      nearer_gives kept v s from d (here_tested (is_reached d) w s h) stay (splits_of d ranged reached) (is_near d) refl f

  pub load_at_adds : (to from : Register) (d : ℤ) (w : Written) → Adds w (load_at_onto to from d w)
  load_at_adds to from d w = adds_then w _ _ (near_adds from d w) (emitted_adds _ _)

  pub load_at_gives : (kept : ℕ) (w : Written) (s : State) (to from : Register) (d : ℤ) (n : ℕ) → Here' w s → Front (load_at_onto to from d w) W → is_far from ≡ false → stays kept to ≡ false → is_far to ≡ false → IsRanged d →
      read_at w64 s (sum (register s (register_number from)) (unsigned d)) ≡ Some n → Gave' kept (load_at_onto to from d w) s (In to) n
  load_at_gives kept w s to from d n h f is_near' free near ranged read =
      let v = near_onto from d w in
      let r = near_base from d in
      let more = bit_or kept (bit from) in
      let a = near_gives more w s from d h (stays_own kept from is_near') ranged (front_adds v _ W (emitted_adds _ v) f) in
      let b = ld_gives kept v a.state to r d n a.here f free (rw (a.reach, read_same w64 s a.state (sum (register s (register_number from)) (unsigned d)) a.done.same) read) in
      record { state = b.state; reaches = reaches_then a.reaches b.reaches; here = b.here; done = done_then (done_less kept more (λ q k. stays_more kept q from k) a.done) b.done; holds = b.holds; placed = near }

  -- the two words of a hole
  pub hole_puts : (kept : ℕ) (w : Written) (s : State) (to : Register) (k : HoleKind) (number : ℕ) → Here' w s → Front (hole_onto to k number w) W → stays kept to ≡ false → Puts kept (hole_onto to k number w) s to (hole k number)
  hole_puts kept w s to k number h f spare =
      let x = stands.holed k number to w h.sound f in
      let r = register_number to in
      let i1 = instr.Upper op.Lui r x.high in
      let i2 = instr.Imm op.Addi r r x.low in
      let at1 : At s.code s.pc i1 = subst (λ c. At c s.pc i1) (sym h.sees.code) (subst (λ a. At image a i1) (sym h.pc) x.upper) in
      let s1 = with_word s to (word_of x.high) in
      let d1 = word_done kept s to (word_of x.high) spare in
      let r1 : register s1 r ≡ word_of x.high = word_in kept s to (word_of x.high) h.sees.registers spare in
      let pc1 : s1.pc ≡ sum s.pc 4 = word_pc kept s to (word_of x.high) spare in
      let at2 : At s1.code s1.pc i2 = subst (λ c. At c s1.pc i2) (sym (d1.same.code ∙ h.sees.code)) (subst (λ a. At image a i2) (sym (pc1 ∙ ap (λ a. sum a 4) h.pc)) x.adds) in
      let n2 = sum (register s1 r) (word_of x.low) in
      let s2 = with_word s1 to n2 in
      let d2 = word_done kept s1 to n2 spare in
      let r2 : register s2 r ≡ hole k number = word_in kept s1 to n2 (d1.same.registers ∙ h.sees.registers) spare ∙ ap (λ n. sum n (word_of x.low)) r1 ∙ x.whole in
      let d = done_then d1 d2 in
      let pc2 : s2.pc ≡ address base (suc (suc (length w.code))) = word_pc kept s1 to n2 spare ∙ ap (λ a. sum a 4) pc1 ∙ ap (λ a. sum (sum a 4) 4) h.pc ∙ ap (λ a. sum a 4) (next_address base (length w.code)) ∙ next_address base (suc (length w.code)) in
      record {
        state = s2;
        reaches = reaches_then (reaches_one s s1 (upper_goes s op.Lui r x.high at1)) (reaches_one s1 s2 (imm_goes s1 op.Addi r r x.low at2));
        here = record { sound = sound_then w (hole_onto to k number w) (hole_adds to k number w).extends h.sound; pc = pc2 ∙ ap (address base) (sym (hole_length to k number w)); sees = sees_done kept s s2 d h.sees };
        done = d;
        holds = r2;
      }
