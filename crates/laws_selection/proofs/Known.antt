-- A known word goes into a register.
use Rattle.std.proofs.Common.{◌≡◌, ◌∙◌, ℕ, ℤ, pos, ◌+◌, ◌*◌, ◌%◌, ◌^◌, ◌<◌, Bool, true, false, [], ◌∷◌, refl, ap, ap₂, sym, subst, arith}
use Rattle.std.specs.Prelude.{if◌then◌else◌, bit_or}
use Rattle.std.specs.Int.{w32, w64, cast_signed}
use Rattle.std.specs.Ordering.{int_eq}
use Rattle.std.proofs.lemmas.Bool.Decides.{Decides-int_eq}
use Rattle.std.proofs.lemmas.Int.{of_z-to_z}
use Rattle.clu_wir.specs.declared.hole.HoleKind.{HoleKind}
use Rattle.rv_isa.specs.declared.instr.Instr.TheVariants as instr
use Rattle.rv_isa.specs.declared.op.Op.TheVariants as op
use Rattle.rv_machine.specs.State.{State, register}
use Rattle.rv_machine.specs.Steps.{Goes, word_of}
use Rattle.rv_machine.specs.Values.{extended, sum, unsigned}
use Rattle.rv_select.specs.declared.register.Register.{Register}
use Rattle.rv_select.specs.declared.register.Register.TheVariants as name
use Rattle.rv_select.specs.Registers.{register_number}
use Rattle.rv_select.specs.Operands.{bit, known_onto, lower_half, number_onto, short_onto, upper_half}
use Rattle.rv_select.specs.Slots.{above_lowest, lowest}
use Rattle.rv_select.specs.Written.{Onto, Written, addi_onto, emitted, imm_onto, in_turn, three_onto, upper_onto}
use Rattle.clu_wir.specs.Value.{View}
use Rattle.laws_selection.specs.Registers.{is_far, stays}
use Rattle.laws_selection.proofs.Registers.{stays_more, stays_own}
use Rattle.laws_selection.specs.Running.{Code}
use Rattle.laws_selection.proofs.Running.{done_less, done_then, imm_goes, reaches_then, upper_goes, with_word}
use Rattle.laws_selection.specs.Growing.{Adds, Front}
use Rattle.laws_selection.proofs.Growing.{Stood}
use Rattle.laws_selection.proofs.Growing.{adds_then, emitted_adds, front_adds}
use Rattle.laws_selection.specs.Evaluating.{Here}
use Rattle.laws_selection.proofs.Evaluating.{Puts, gave_put, puts, three_gives}
use Rattle.laws_selection.proofs.Combining.{Numbers}
use Rattle.laws_selection.proofs.Halves.{low_is, signed_below, lower_is, short_sum, upper_bits, upper_is, whole_is}

short_by_adds : (to : Register) (z : ℤ) (w : Written) (c : Bool) →
    Adds w (if c then addi_onto to name.Zero (lowest z) w else in_turn (upper_onto op.Lui to (above_lowest z) ∷ imm_onto op.Addiw to to (lowest z) ∷ []) w)
short_by_adds to z w true = emitted_adds _ w
short_by_adds to z w false = adds_then w _ _ (emitted_adds (instr.Upper op.Lui (register_number to) (above_lowest z)) w) (emitted_adds _ _)

pub short_adds : (to : Register) (z : ℤ) (w : Written) → Adds w (short_onto to z w)
unfolding short_onto
short_adds to z w = short_by_adds to z w (int_eq (above_lowest z) (pos 0))

abbrev long_onto : Register → ℤ → Onto
long_onto to z = in_turn (short_onto to (upper_half z) ∷ imm_onto op.Slli to to (pos 32) ∷ short_onto name.Far (lower_half z) ∷ three_onto op.Add to to name.Far ∷ [])

number_by_adds : (to : Register) (z : ℤ) (w : Written) (c : Bool) → Adds w (if c then short_onto to z w else long_onto to z w)
number_by_adds to z w true = short_adds to z w
number_by_adds to z w false =
    let w1 = short_onto to (upper_half z) w in
    let i2 = instr.Imm op.Slli (register_number to) (register_number to) (pos 32) in
    let w2 = emitted i2 w1 in
    let w3 = short_onto name.Far (lower_half z) w2 in
    adds_then w w1 _ (short_adds to (upper_half z) w) (adds_then w1 w2 _ (emitted_adds i2 w1) (adds_then w2 w3 _ (short_adds name.Far (lower_half z) w2) (emitted_adds _ w3)))

pub number_adds : (to : Register) (word : ℕ) (w : Written) → Adds w (known_onto to word w)
unfolding number_onto
number_adds to word w = number_by_adds to (cast_signed w64 word) w (int_eq (lower_half (cast_signed w64 word)) (cast_signed w64 word))

far_spare : (kept : ℕ) → stays kept name.Far ≡ false
unfolding stays
far_spare kept = refl

eq_int : (a b : ℤ) → int_eq a b ≡ true → a ≡ b
eq_int a b e = (Decides-int_eq a b).0 e

module _ (view : View) (image : Code) (base : ℕ) (W : Written) (hole : HoleKind → ℕ → ℕ) (stands : Stood W image base hole) (is_leaf : Bool) where
  abbrev Here' : Written → State → Type 0
  Here' = Here view image base hole is_leaf

  abbrev Puts' : ℕ → Written → State → Register → ℕ → Type 0
  Puts' = Puts view image base W hole stands is_leaf

  -- the number that 32 bits stand for
  short_by : (kept : ℕ) (w : Written) (s : State) (to : Register) (u : ℕ) → u < 2 ^ 32 → Here' w s → stays kept to ≡ false → (c : Bool) → int_eq (above_lowest (cast_signed w32 u)) (pos 0) ≡ c →
      Front (if c then addi_onto to name.Zero (lowest (cast_signed w32 u)) w else in_turn (upper_onto op.Lui to (above_lowest (cast_signed w32 u)) ∷ imm_onto op.Addiw to to (lowest (cast_signed w32 u)) ∷ []) w) W →
      Puts' kept (if c then addi_onto to name.Zero (lowest (cast_signed w32 u)) w else in_turn (upper_onto op.Lui to (above_lowest (cast_signed w32 u)) ∷ imm_onto op.Addiw to to (lowest (cast_signed w32 u)) ∷ []) w) s to (unsigned (cast_signed w32 u))
  short_by kept w s to u small h spare true e f =
      let z = cast_signed w32 u in
      let is : sum (register s 0) (word_of (lowest z)) ≡ unsigned z = ap₂ (λ a b. sum a (word_of b)) h.sees.zero (low_is u small e) ∙ from_zero (unsigned z) (signed_below u small) in
      puts view image base W hole stands is_leaf kept w s to (unsigned z) (instr.Imm op.Addi (register_number to) 0 (lowest z)) h f spare
      (λ at. imm_goes s op.Addi (register_number to) 0 (lowest z) at ∙ ap (λ n. Goes (with_word s to n)) is)
    where
      from_zero : (n : ℕ) → n < 2 ^ 64 → sum 0 n ≡ n
      from_zero n l = omega arith
  short_by kept w s to u small h spare false e f =
      let z = cast_signed w32 u in
      let i1 = instr.Upper op.Lui (register_number to) (above_lowest z) in
      let i2 = instr.Imm op.Addiw (register_number to) (register_number to) (lowest z) in
      let v = emitted i1 w in
      let a = puts view image base W hole stands is_leaf kept w s to (word_of (above_lowest z)) i1 h (front_adds v (emitted i2 v) W (emitted_adds i2 v) f) spare (upper_goes s op.Lui (register_number to) (above_lowest z)) in
      let is : extended ((register a.state (register_number to) + word_of (lowest z)) % 2 ^ 32) ≡ unsigned z = ap (λ n. extended ((n + word_of (lowest z)) % 2 ^ 32)) a.holds ∙ short_sum z u (of_z-to_z w32 u small) small in
      let b = puts view image base W hole stands is_leaf kept v a.state to (unsigned z) i2 a.here f spare (λ at. imm_goes a.state op.Addiw (register_number to) (register_number to) (lowest z) at ∙ ap (λ n. Goes (with_word a.state to n)) is) in
      record { state = b.state; reaches = reaches_then a.reaches b.reaches; here = b.here; done = done_then a.done b.done; holds = b.holds }

  pub short_gives : (kept : ℕ) (w : Written) (s : State) (to : Register) (u : ℕ) → u < 2 ^ 32 → Here' w s → stays kept to ≡ false → Front (short_onto to (cast_signed w32 u) w) W →
      Puts' kept (short_onto to (cast_signed w32 u) w) s to (unsigned (cast_signed w32 u))
  unfolding short_onto
  short_gives kept w s to u small h spare f = short_by kept w s to u small h spare (int_eq (above_lowest (cast_signed w32 u)) (pos 0)) refl f

  -- upper half, shifted, and the lower one
  long_gives : (kept : ℕ) (w : Written) (s : State) (to : Register) (word : ℕ) → word < 2 ^ 64 → Here' w s → stays kept to ≡ false → is_far to ≡ false →
      (up low : ℤ) → up ≡ cast_signed w32 (upper_bits word) → low ≡ cast_signed w32 (word % 2 ^ 32) →
      Front (in_turn (short_onto to up ∷ imm_onto op.Slli to to (pos 32) ∷ short_onto name.Far low ∷ three_onto op.Add to to name.Far ∷ []) w) W →
      Puts' kept (in_turn (short_onto to up ∷ imm_onto op.Slli to to (pos 32) ∷ short_onto name.Far low ∷ three_onto op.Add to to name.Far ∷ []) w) s to word
  long_gives kept w s to word small h spare near up low is_up is_low f =
      subst (λ z. Puts' kept (words z low) s to word) (sym is_up)
      (subst (λ z. Puts' kept (words (cast_signed w32 (upper_bits word)) z) s to word) (sym is_low)
      (by (subst (λ z. Front (words (cast_signed w32 (upper_bits word)) z) W) is_low (subst (λ z. Front (words z low) W) is_up f))))
    where
      words : ℤ → ℤ → Written
      words a b = in_turn (short_onto to a ∷ imm_onto op.Slli to to (pos 32) ∷ short_onto name.Far b ∷ three_onto op.Add to to name.Far ∷ []) w

      by : Front (words (cast_signed w32 (upper_bits word)) (cast_signed w32 (word % 2 ^ 32))) W → Puts' kept (words (cast_signed w32 (upper_bits word)) (cast_signed w32 (word % 2 ^ 32))) s to word
      by f =
          let ub = upper_bits word in
          let lb = word % 2 ^ 32 in
          let more = bit_or kept (bit to) in
          let w1 = short_onto to (cast_signed w32 ub) w in
          let i2 = instr.Imm op.Slli (register_number to) (register_number to) (pos 32) in
          let w2 = emitted i2 w1 in
          let w3 = short_onto name.Far (cast_signed w32 lb) w2 in
          let i4 = instr.Three op.Add (register_number to) (register_number to) 31 in
          let f3 = front_adds w3 (emitted i4 w3) W (emitted_adds i4 w3) f in
          let f2 = front_adds w2 w3 W (short_adds name.Far (cast_signed w32 lb) w2) f3 in
          let f1 = front_adds w1 w2 W (emitted_adds i2 w1) f2 in
          let a = short_gives kept w s to ub (omega arith) h spare f1 in
          let shifted : register a.state (register_number to) * 2 ^ 32 % 2 ^ 64 ≡ unsigned (cast_signed w32 ub) * 2 ^ 32 % 2 ^ 64 = ap (λ n. n * 2 ^ 32 % 2 ^ 64) a.holds in
          let b = puts view image base W hole stands is_leaf kept w1 a.state to (unsigned (cast_signed w32 ub) * 2 ^ 32 % 2 ^ 64) i2 a.here f2 spare
          (λ at. imm_goes a.state op.Slli (register_number to) (register_number to) (pos 32) at ∙ ap (λ n. Goes (with_word a.state to n)) shifted) in
          let c = short_gives more w2 b.state name.Far lb (omega arith) b.here (far_spare more) f3 in
          let first : register c.state (register_number to) ≡ unsigned (cast_signed w32 ub) * 2 ^ 32 % 2 ^ 64 = c.done.stays to (stays_own kept to near) ∙ b.holds in
          let d = three_gives view image base W hole stands is_leaf kept w3 c.state op.Add to to name.Far c.here f spare in
          record {
            state = d.state;
            reaches = reaches_then a.reaches (reaches_then b.reaches (reaches_then c.reaches d.reaches));
            here = d.here;
            done = done_then a.done (done_then b.done (done_then (done_less kept more (λ r k. stays_more kept r to k) c.done) d.done));
            holds = d.holds ∙ ap₂ sum first c.holds ∙ whole_is word small;
          }

  number_by : (kept : ℕ) (w : Written) (s : State) (to : Register) (word : ℕ) → word < 2 ^ 64 → Here' w s → stays kept to ≡ false → is_far to ≡ false → (c : Bool) → int_eq (lower_half (cast_signed w64 word)) (cast_signed w64 word) ≡ c →
      Front (if c then short_onto to (cast_signed w64 word) w else long_onto to (cast_signed w64 word) w) W → Puts' kept (if c then short_onto to (cast_signed w64 word) w else long_onto to (cast_signed w64 word) w) s to word
  number_by kept w s to word small h spare near true e f =
      let z = cast_signed w64 word in
      let is : z ≡ cast_signed w32 (word % 2 ^ 32) = sym (eq_int (lower_half z) z e) ∙ lower_is word small in
      let x = short_gives kept w s to (word % 2 ^ 32) (omega arith) h spare (subst (λ y. Front (short_onto to y w) W) is f) in
      let given : unsigned (cast_signed w32 (word % 2 ^ 32)) ≡ word = ap unsigned (sym is) ∙ of_z-to_z w64 word small in
      subst (λ y. Puts' kept (short_onto to y w) s to word) (sym is) (subst (λ n. Puts' kept (short_onto to (cast_signed w32 (word % 2 ^ 32)) w) s to n) given x)
  number_by kept w s to word small h spare near false e f =
      long_gives kept w s to word small h spare near (upper_half (cast_signed w64 word)) (lower_half (cast_signed w64 word)) (upper_is word small) (lower_is word small) f

  number_puts : (kept : ℕ) (w : Written) (s : State) (to : Register) (word : ℕ) → word < 2 ^ 64 → Here' w s → Front (known_onto to word w) W → stays kept to ≡ false → is_far to ≡ false → Puts' kept (known_onto to word w) s to word
  unfolding number_onto
  number_puts kept w s to word small h f spare near = number_by kept w s to word small h spare near (int_eq (lower_half (cast_signed w64 word)) (cast_signed w64 word)) refl f

  pub numbers : Numbers view image base W hole stands is_leaf
  numbers kept w s to word small h f spare near = gave_put view image base W hole stands is_leaf (number_puts kept w s to word small h f spare near) near
