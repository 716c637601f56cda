-- The part that raises traps: from where a trap is entered to the search, with the words of the trap.
use Rattle.std.proofs.Common.{◌≡◌, ◌∙◌, ◌≢◌, ℕ, suc, pos, ◌+◌, ◌-◌, ◌*◌, ◌%◌, ◌^◌, ◌<◌, ◌==◌, true, length, slice_get, Some, refl, ap, ap₂, sym, subst, arith}
use Rattle.std.specs.Prelude.{slice_set}
use Rattle.std.specs.Int.{w64}
use Rattle.std.proofs.lemmas.Bool.Decides.{nat_tests}
use Rattle.std.proofs.lemmas.List.{get_or-set_same, get_or-set_other, length-set}
use Rattle.clu_wir.specs.Numbers.{kind_number, trap_number}
use Rattle.clu_wir.specs.declared.hole.HoleKind.TheVariants as kind
use Rattle.clu_wir.specs.declared.trap.Trap.{Trap}
use Rattle.clu_wir.specs.declared.trap.Trap.TheVariants as trap
use Rattle.rv_isa.specs.declared.instr.Instr.{Instr}
use Rattle.rv_isa.specs.declared.instr.Instr.TheVariants as instr
use Rattle.rv_isa.specs.declared.op.Op.TheVariants as op
use Rattle.rv_machine.specs.State.{State, read_at, register}
use Rattle.rv_machine.specs.Steps.{jalr_target, word_of}
use Rattle.rv_machine.specs.Values.{sum, unsigned}
use Rattle.rv_select.specs.declared.parts.Part.TheVariants as part
use Rattle.rv_select.specs.Finished.{finished, landed}
use Rattle.rv_select.specs.Written.{emitted, fresh, holed, noted, placed}
use Rattle.clu_flat_meaning.specs.Image.{Image}
use Rattle.laws_selection.specs.Growing.{IsUnholed, address}
use Rattle.laws_selection.specs.Holding.{Fixed}
use Rattle.laws_selection.specs.Running.{At, Reaches, Same}
use Rattle.laws_selection.specs.Standing.{Standing, part_words}
use Rattle.laws_selection.proofs.Evaluating.{next_address}
use Rattle.laws_selection.proofs.Running.{imm_goes, jal_goes, jalr_goes, load_goes, reaches_one, read_same, reaches_then, same_then, three_goes, upper_goes}

pub trap_few : (t : Trap) → trap_number t < 6
trap_few trap.Overflow = omega arith
trap_few _ = omega arith

-- The words of the part.

row_first : (t : Trap) → slice_get (finished (part_words part.Trap)) (2 * trap_number t) ≡ Some (instr.Imm op.Addi 5 0 (pos (24 + 16 * trap_number t)))
unfolding finished landed emitted holed placed fresh noted
row_first trap.Overflow = refl
row_first _ = refl

row_second : (t : Trap) → slice_get (finished (part_words part.Trap)) (suc (2 * trap_number t)) ≡ Some (instr.Jal 0 (pos (44 - 8 * trap_number t)))
unfolding finished landed emitted holed placed fresh noted
row_second trap.Overflow = refl
row_second _ = refl

record Raising (u : Unit {0}) : Type 0 where
  lui : slice_get (finished (part_words part.Trap)) 12 ≡ Some (instr.Upper op.Lui 6 (pos 0))
  addi : slice_get (finished (part_words part.Trap)) 13 ≡ Some (instr.Imm op.Addi 6 6 (pos 0))
  three : slice_get (finished (part_words part.Trap)) 14 ≡ Some (instr.Three op.Add 6 6 5)
  load : slice_get (finished (part_words part.Trap)) 15 ≡ Some (instr.Load op.Ld 10 6 (pos 0))
  words : slice_get (finished (part_words part.Trap)) 16 ≡ Some (instr.Imm op.Addi 11 6 (pos 8))
  upper : slice_get (finished (part_words part.Trap)) 17 ≡ Some (instr.Upper op.Lui 5 (pos 0))
  lower : slice_get (finished (part_words part.Trap)) 18 ≡ Some (instr.Imm op.Addi 5 5 (pos 0))
  jalr : slice_get (finished (part_words part.Trap)) 19 ≡ Some (instr.Jalr 0 5 (pos 0))
  hole_table : slice_get (part_words part.Trap).holes 0 ≡ Some (record { at = 12; kind = kind_number kind.Regions; number = 0 })
  hole_search : slice_get (part_words part.Trap).holes 1 ≡ Some (record { at = 17; kind = kind_number kind.Runtime; number = 1 })

raising : Raising tt
unfolding finished landed emitted holed placed fresh noted
raising = record { lui = refl; addi = refl; three = refl; load = refl; words = refl; upper = refl; lower = refl; jalr = refl; hole_table = refl; hole_search = refl }

unholed : (k : ℕ) → k ≢ 12 → k ≢ 13 → k ≢ 17 → k ≢ 18 → IsUnholed k (part_words part.Trap).holes
unfolding emitted holed placed fresh noted
unholed k a b c d = (a, b, (c, d, tt))

-- A register is filled.

abbrev pub set_at : State → ℕ → ℕ → State
set_at s rd n = record s { pc = sum s.pc 4; registers = slice_set s.registers rd n }

-- what the part leaves as it is
pub record Spared (s t : State) : Type 0 where
  pub same : Same s t
  pub keeps : (q : ℕ) → q ≢ 5 → q ≢ 6 → q ≢ 10 → q ≢ 11 → register t q ≡ register s q

spared_same : (s : State) (pc : ℕ) → Spared s (record s { pc = pc })
spared_same s pc = record { same = record { code = refl; image = refl; store = refl; stack = refl; start = refl; registers = refl }; keeps = λ q a b c d. refl }

spared_set : (s : State) (rd n : ℕ) → ((q : ℕ) → q ≢ 5 → q ≢ 6 → q ≢ 10 → q ≢ 11 → q ≢ rd) → Spared s (set_at s rd n)
spared_set s rd n apart = record {
  same = record { code = refl; image = refl; store = refl; stack = refl; start = refl; registers = length-set s.registers rd n };
  keeps = λ q a b c d. get_or-set_other s.registers rd q n 0 (apart q a b c d);
}

spared_then : {s t u : State} → Spared s t → Spared t u → Spared s u
spared_then p q = record { same = same_then p.same q.same; keeps = λ k a b c d. q.keeps k a b c d ∙ p.keeps k a b c d }

set_there : (s : State) (rd n : ℕ) → length s.registers ≡ 32 → rd < 32 → register (set_at s rd n) rd ≡ n
set_there s rd n l h = get_or-set_same s.registers rd n 0 (omega (arith, l, h))

pub set_other : (s : State) (rd n q v : ℕ) → q ≢ rd → register s q ≡ v → register (set_at s rd n) q ≡ v
set_other s rd n q v d e = get_or-set_other s.registers rd q n 0 d ∙ e

entry_is : (a n : ℕ) → a < 2 ^ 32 → n < 6 → a + 8 * n ≡ address a (2 * n)
entry_is a n l h = grind arith

jump_lands : (a n : ℕ) → a < 2 ^ 32 → n < 6 → sum (address a (suc (2 * n))) (unsigned (pos (44 - 8 * n))) ≡ address a 12
jump_lands a n l h = grind arith

pub aligned_at : (a k : ℕ) → a % 4 ≡ 0 → (address a k % 4 == 0) ≡ true
aligned_at a k e = grind (arith, nat_tests)

pub near_sum : (a n : ℕ) → a + n < 2 ^ 64 → sum a n ≡ a + n
near_sum a n l = grind arith

module _ (image : Image) (m : State) (standing : Standing image m) where
  abbrev pub a : ℕ
  a = standing.part part.Trap

  -- a state in the part
  record In (s : State) (k : ℕ) : Type 0 where
    code : s.code ≡ m.code
    pc : s.pc ≡ address a k
    count : length s.registers ≡ 32

  there : (s : State) (k : ℕ) (i : Instr) → In s k → At m.code (address a k) i → At s.code s.pc i
  there s k i h at = subst (λ x. At x s.pc i) (sym h.code) (subst (λ p. At m.code p i) (sym h.pc) at)

  word : (k : ℕ) (i : Instr) → slice_get (finished (part_words part.Trap)) k ≡ Some i → k ≢ 12 → k ≢ 13 → k ≢ 17 → k ≢ 18 → At m.code (address a k) i
  word k i e p q r t = (standing.parts part.Trap).stands.plain k i e (unholed k p q r t)

  next_in : (s : State) (k rd n : ℕ) → In s k → In (set_at s rd n) (suc k)
  next_in s k rd n h = record { code = h.code; pc = ap (λ p. sum p 4) h.pc ∙ next_address a k; count = length-set s.registers rd n ∙ h.count }

  pub record Trapped (s : State) (t : Trap) : Type 0 where
    pub state : State
    pub reaches : Reaches s state
    pub spared : Spared s state
    pub pc : state.pc ≡ address (standing.part part.Search) 0
    pub value : register state 10 ≡ image.trap_name t
    pub words : register state 11 ≡ image.trap_objects t

  pub trapped : (s : State) (t : Trap) → Fixed m s → s.pc ≡ a + 8 * trap_number t → Trapped s t
  trapped s t f pc =
      let part' = standing.parts part.Trap in
      let room = part'.room in
      let n = trap_number t in
      let few = trap_few t in
      let low : a < 2 ^ 32 = omega (arith, room) in
      let T = standing.runtime in
      let rows = raising in
      let name = standing.traps t in
      let inside = name.fixed in
      let area = standing.area in
      let h0 : In s (2 * n) = record { code = f.code; pc = pc ∙ entry_is a n low few; count = f.registers } in
      let at0 = word (2 * n) _ (row_first t) (λ e. absurd (omega (arith, e, few))) (λ e. absurd (omega (arith, e, few))) (λ e. absurd (omega (arith, e, few))) (λ e. absurd (omega (arith, e, few))) in
      let v0 = sum (register s 0) (word_of (pos (24 + 16 * n))) in
      let s1 = set_at s 5 v0 in
      let r1 = reaches_one s s1 (imm_goes s op.Addi 5 0 (pos (24 + 16 * n)) (there s (2 * n) _ h0 at0)) in
      let h1 = next_in s (2 * n) 5 v0 h0 in
      let five : v0 ≡ 24 + 16 * n = ap (λ x. sum x (word_of (pos (24 + 16 * n)))) f.zero ∙ grind arith in
      let at1 = word (suc (2 * n)) _ (row_second t) (λ e. absurd (omega (arith, e, few))) (λ e. absurd (omega (arith, e, few))) (λ e. absurd (omega (arith, e, few))) (λ e. absurd (omega (arith, e, few))) in
      let to : sum s1.pc (word_of (pos (44 - 8 * n))) ≡ address a 12 = ap (λ p. sum p (word_of (pos (44 - 8 * n)))) h1.pc ∙ jump_lands a n low few in
      let s2 = record s1 { pc = sum s1.pc (word_of (pos (44 - 8 * n))) } in
      let r2 = reaches_one s1 s2 (jal_goes s1 0 (pos (44 - 8 * n)) (there s1 (suc (2 * n)) _ h1 at1) (ap (λ p. p % 4 == 0) to ∙ aligned_at a 12 part'.stands.aligned)) in
      let h2 : In s2 12 = record { code = h1.code; pc = to; count = h1.count } in
      let x = part'.stands.filled kind.Regions 0 6 12 0 rows.hole_table rows.lui rows.addi in
      let v2 = word_of x.high in
      let s3 = set_at s2 6 v2 in
      let r3 = reaches_one s2 s3 (upper_goes s2 op.Lui 6 x.high (there s2 12 _ h2 x.upper)) in
      let h3 = next_in s2 12 6 v2 h2 in
      let v3 = sum (register s3 6) (word_of x.low) in
      let at3 : At m.code (address a 13) (instr.Imm op.Addi 6 6 x.low) = subst (λ p. At m.code p (instr.Imm op.Addi 6 6 x.low)) (next_address a 12) x.adds in
      let s4 = set_at s3 6 v3 in
      let r4 = reaches_one s3 s4 (imm_goes s3 op.Addi 6 6 x.low (there s3 13 _ h3 at3)) in
      let h4 = next_in s3 13 6 v3 h3 in
      let table : v3 ≡ T = ap (λ y. sum y (word_of x.low)) (set_there s2 6 v2 h2.count (omega arith)) ∙ x.whole ∙ part'.table in
      let v4 = sum (register s4 6) (register s4 5) in
      let s5 = set_at s4 6 v4 in
      let r5 = reaches_one s4 s5 (three_goes s4 op.Add 6 6 5 (there s4 14 _ h4 (word 14 _ rows.three (λ e. absurd (omega arith)) (λ e. absurd (omega arith)) (λ e. absurd (omega arith)) (λ e. absurd (omega arith))))) in
      let h5 = next_in s4 14 6 v4 h4 in
      let keeps5 : register s4 5 ≡ 24 + 16 * n = set_other s3 6 v3 5 _ (λ e. absurd (omega arith)) (set_other s2 6 v2 5 _ (λ e. absurd (omega arith)) (set_there s 5 v0 f.registers (omega arith) ∙ five)) in
      let row : v4 ≡ T + 24 + 16 * n = ap₂ sum (set_there s3 6 v3 h3.count (omega arith) ∙ table) keeps5 ∙ near_sum T (24 + 16 * n) (omega (arith, inside, area, few)) ∙ omega arith in
      let six5 : register s5 6 ≡ T + 24 + 16 * n = set_there s4 6 v4 h4.count (omega arith) ∙ row in
      let p5 = spared_then (spared_set s 5 v0 (λ q a b c d. a)) (spared_then (spared_same s1 s2.pc) (spared_then (spared_set s2 6 v2 (λ q a b c d. b)) (spared_then (spared_set s3 6 v3 (λ q a b c d. b)) (spared_set s4 6 v4 (λ q a b c d. b))))) in
      let here0 : sum (register s5 6) (word_of (pos 0)) ≡ T + 24 + 16 * n = ap (λ y. sum y (word_of (pos 0))) six5 ∙ near_sum (T + 24 + 16 * n) 0 (omega (arith, inside, area)) ∙ omega arith in
      let read : read_at w64 s5 (sum (register s5 6) (word_of (pos 0))) ≡ Some (image.trap_name t) = ap (read_at w64 s5) here0 ∙ read_same w64 s s5 (T + 24 + 16 * n) p5.same ∙ f.read w64 (T + 24 + 16 * n) inside ∙ name.read in
      let s6 = set_at s5 10 (image.trap_name t) in
      let r6 = reaches_one s5 s6 (load_goes s5 10 6 (pos 0) (image.trap_name t) (there s5 15 _ h5 (word 15 _ rows.load (λ e. absurd (omega arith)) (λ e. absurd (omega arith)) (λ e. absurd (omega arith)) (λ e. absurd (omega arith)))) read) in
      let h6 = next_in s5 15 10 (image.trap_name t) h5 in
      let v6 = sum (register s6 6) (word_of (pos 8)) in
      let s7 = set_at s6 11 v6 in
      let r7 = reaches_one s6 s7 (imm_goes s6 op.Addi 11 6 (pos 8) (there s6 16 _ h6 (word 16 _ rows.words (λ e. absurd (omega arith)) (λ e. absurd (omega arith)) (λ e. absurd (omega arith)) (λ e. absurd (omega arith))))) in
      let h7 = next_in s6 16 11 v6 h6 in
      let objects : v6 ≡ image.trap_objects t = ap (λ y. sum y (word_of (pos 8))) (set_other s5 10 (image.trap_name t) 6 _ (λ e. absurd (omega arith)) six5) ∙ near_sum (T + 24 + 16 * n) 8 (omega (arith, inside, area)) ∙ omega arith ∙ sym (standing.objects t) in
      let y = part'.stands.filled kind.Runtime 1 5 17 1 rows.hole_search rows.upper rows.lower in
      let v7 = word_of y.high in
      let s8 = set_at s7 5 v7 in
      let r8 = reaches_one s7 s8 (upper_goes s7 op.Lui 5 y.high (there s7 17 _ h7 y.upper)) in
      let h8 = next_in s7 17 5 v7 h7 in
      let v8 = sum (register s8 5) (word_of y.low) in
      let at8 : At m.code (address a 18) (instr.Imm op.Addi 5 5 y.low) = subst (λ p. At m.code p (instr.Imm op.Addi 5 5 y.low)) (next_address a 17) y.adds in
      let s9 = set_at s8 5 v8 in
      let r9 = reaches_one s8 s9 (imm_goes s8 op.Addi 5 5 y.low (there s8 18 _ h8 at8)) in
      let h9 = next_in s8 18 5 v8 h8 in
      let search : register s9 5 ≡ standing.part part.Search = set_there s8 5 v8 h8.count (omega arith) ∙ ap (λ z. sum z (word_of y.low)) (set_there s7 5 v7 h7.count (omega arith)) ∙ y.whole ∙ part'.parts part.Search in
      let goal = standing.parts part.Search in
      let wide = goal.room in
      let even = goal.stands.aligned in
      let lands : jalr_target s9 5 (word_of (pos 0)) ≡ standing.part part.Search = ap (λ z. let b = sum z (word_of (pos 0)) in b - b % 2) search ∙ jumps_there (standing.part part.Search) even (omega (arith, wide)) in
      let s10 = record s9 { pc = jalr_target s9 5 (word_of (pos 0)) } in
      let r10 = reaches_one s9 s10 (jalr_goes s9 0 5 (pos 0) (there s9 19 _ h9 (word 19 _ rows.jalr (λ e. absurd (omega arith)) (λ e. absurd (omega arith)) (λ e. absurd (omega arith)) (λ e. absurd (omega arith)))) (ap (λ p. p % 4 == 0) lands ∙ grind (arith, nat_tests, even))) in
      record {
        state = s10;
        reaches = reaches_then r1 (reaches_then r2 (reaches_then r3 (reaches_then r4 (reaches_then r5 (reaches_then r6 (reaches_then r7 (reaches_then r8 (reaches_then r9 r10))))))));
        spared = spared_then p5 (spared_then (spared_set s5 10 (image.trap_name t) (λ q a b c d. c)) (spared_then (spared_set s6 11 v6 (λ q a b c d. d)) (spared_then (spared_set s7 5 v7 (λ q a b c d. a)) (spared_then (spared_set s8 5 v8 (λ q a b c d. a)) (spared_same s9 s10.pc)))));
        pc = lands ∙ first_word (standing.part part.Search) (omega (arith, wide));
        value = set_other s8 5 v8 10 _ (λ e. absurd (omega arith)) (set_other s7 5 v7 10 _ (λ e. absurd (omega arith)) (set_other s6 11 v6 10 _ (λ e. absurd (omega arith)) (set_there s5 10 (image.trap_name t) h5.count (omega arith))));
        words = set_other s8 5 v8 11 _ (λ e. absurd (omega arith)) (set_other s7 5 v7 11 _ (λ e. absurd (omega arith)) (set_there s6 11 v6 h6.count (omega arith) ∙ objects));
      }
    where
      jumps_there : (p : ℕ) → p % 4 ≡ 0 → p < 2 ^ 32 → (let b = sum p 0 in b - b % 2) ≡ p
      jumps_there p e l = grind arith

      first_word : (p : ℕ) → p < 2 ^ 32 → p ≡ address p 0
      first_word p l = grind arith
