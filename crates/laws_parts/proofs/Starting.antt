-- The part at which a run starts calls the first procedure.
use Rattle.std.proofs.Common.{◌≡◌, ◌∙◌, ◌≢◌, ℕ, suc, pos, ◌+◌, ◌-◌, ◌*◌, ◌%◌, ◌^◌, ◌<◌, ◌==◌, true, length, slice_get, Some, refl, ap, sym, subst, arith}
use Rattle.std.specs.Prelude.{slice_set}
use Rattle.std.specs.Int.{w64}
use Rattle.std.proofs.lemmas.Bool.Decides.{nat_tests}
use Rattle.std.proofs.lemmas.List.{get_or-set_same, length-set}
use Rattle.clu_wir.specs.Numbers.{kind_number}
use Rattle.clu_wir.specs.declared.hole.HoleKind.TheVariants as kind
use Rattle.clu_word_meaning.specs.World.{World}
use Rattle.clu_flat_meaning.specs.Image.{Image, at_step}
use Rattle.clu_flat_meaning.specs.Machine.{started}
use Rattle.rv_isa.specs.declared.instr.Instr.{Instr}
use Rattle.rv_isa.specs.declared.instr.Instr.TheVariants as instr
use Rattle.rv_isa.specs.declared.op.Op.TheVariants as op
use Rattle.rv_machine.specs.State.{State, read_at, register, stack_start}
use Rattle.rv_machine.specs.Steps.{jalr_target, word_of}
use Rattle.rv_machine.specs.Values.{sum}
use Rattle.rv_select.specs.declared.parts.Part.TheVariants as part
use Rattle.rv_select.specs.Finished.{finished, landed}
use Rattle.rv_select.specs.Written.{emitted, fresh, holed, noted, placed}
use Rattle.laws_selection.specs.Growing.{IsUnholed, address}
use Rattle.laws_selection.specs.Holding.{Arrives}
use Rattle.laws_selection.specs.Running.{At, Same}
use Rattle.laws_selection.specs.Standing.{Described, Standing, Starts, part_words, words_before}
use Rattle.laws_selection.proofs.Entering.{among, differ}
use Rattle.laws_selection.proofs.Evaluating.{next_address}
use Rattle.laws_selection.proofs.Running.{imm_goes, jalr_goes, load_goes, read_same, reaches_one, reaches_then, upper_goes}
use Rattle.laws_selection.proofs.Trapping.{near_sum, set_at, set_other}
use Rattle.laws_parts.specs.Start.{Fresh}

-- The words of the part.
record Rows (u : Unit {0}) : Type 0 where
  frame : slice_get (finished (part_words part.Start)) 0 ≡ Some (instr.Imm op.Addi 18 0 (pos 0))
  lui : slice_get (finished (part_words part.Start)) 1 ≡ Some (instr.Upper op.Lui 5 (pos 0))
  addi : slice_get (finished (part_words part.Start)) 2 ≡ Some (instr.Imm op.Addi 5 5 (pos 0))
  first : slice_get (finished (part_words part.Start)) 3 ≡ Some (instr.Load op.Ld 5 5 (pos 16))
  value : slice_get (finished (part_words part.Start)) 4 ≡ Some (instr.Imm op.Addi 10 2 (pos 0))
  caller : slice_get (finished (part_words part.Start)) 5 ≡ Some (instr.Imm op.Addi 7 0 (pos 0))
  table : slice_get (finished (part_words part.Start)) 6 ≡ Some (instr.Load op.Ld 9 5 (pos 16))
  entry : slice_get (finished (part_words part.Start)) 7 ≡ Some (instr.Load op.Ld 5 5 (pos 0))
  call : slice_get (finished (part_words part.Start)) 8 ≡ Some (instr.Jalr 1 5 (pos 0))
  hole : slice_get (part_words part.Start).holes 0 ≡ Some (record { at = 1; kind = kind_number kind.Regions; number = 0 })

rows : Rows tt
unfolding finished landed emitted holed placed fresh noted
rows = record { frame = refl; lui = refl; addi = refl; first = refl; value = refl; caller = refl; table = refl; entry = refl; call = refl; hole = refl }

unholed : (k : ℕ) → k ≢ 1 → k ≢ 2 → IsUnholed k (part_words part.Start).holes
unfolding emitted holed placed fresh noted
unholed k a b = (a, b, tt)

cleared : (a : ℕ) → a % 4 ≡ 0 → a < 2 ^ 64 → (let b = sum a (word_of (pos 0)) in b - b % 2) ≡ a
cleared a e l = grind arith

four : (a : ℕ) → a % 4 ≡ 0 → (a % 4 == 0) ≡ true
four a e = grind (arith, nat_tests, e)

aligned_mod : (a k : ℕ) → a % 4 ≡ 0 → address a k % 4 ≡ 0
aligned_mod a k e = grind arith

there_set : (s : State) (rd n : ℕ) → length s.registers ≡ 32 → (Rattle.std.specs.Prelude.nat_lt rd 32) ≡ true → register (set_at s rd n) rd ≡ n
there_set s rd n l e = get_or-set_same s.registers rd n 0 (among s.registers rd l e)

module _ (image : Image) (m : State) (standing : Standing image m) (world : World) (f : Fresh image m standing world) where
  abbrev a : ℕ
  a = standing.part part.Start

  -- a state in the part
  record In (s : State) (k : ℕ) : Type 0 where
    same : Same m s
    pc : s.pc ≡ address a k

  word : (s : State) (k : ℕ) (i : Instr) → In s k → slice_get (finished (part_words part.Start)) k ≡ Some i → k ≢ 1 → k ≢ 2 → At s.code s.pc i
  word s k i h e p q = subst (λ x. At x s.pc i) (sym h.same.code) (subst (λ c. At m.code c i) (sym h.pc) ((standing.parts part.Start).stands.plain k i e (unholed k p q)))

  next_in : (s : State) (k rd n : ℕ) → In s k → In (set_at s rd n) (suc k)
  next_in s k rd n h = record {
    same = record { code = h.same.code; image = h.same.image; store = h.same.store; stack = h.same.stack; start = h.same.start; registers = length-set s.registers rd n ∙ h.same.registers };
    pc = ap (λ p. sum p 4) h.pc ∙ next_address a k;
  }

  pub start_follows : (body table : ℕ) → image.descriptor standing.start ≡ Some (record { entry = at_step body 0; table = table }) → Arrives image m standing (started image (address a 9) (record { body = body; table = table }) world) m
  start_follows body table is = goes (standing.descriptor standing.start (record { entry = at_step body 0; table = table }) is)
    where
      goes : Described m image standing.part standing.runtime standing.is_instance standing.start (record { entry = at_step body 0; table = table }) → Arrives image m standing (started image (address a 9) (record { body = body; table = table }) world) m
      goes x =
          let y : Starts image standing.is_instance table x.at body 0 = x.begins in
          let p = standing.parts part.Start in
          let T = standing.runtime in
          let D = standing.start in
          let inside = standing.starts.fixed in
          let of_table = x.table.fixed in
          let area = standing.area in
          let stack = standing.sound.stack in
          let h0 : In m 0 = record { same = record { code = refl; image = refl; store = refl; stack = refl; start = refl; registers = refl }; pc = f.pc } in
          let count = standing.sound.registers in
          let v0 = sum (register m 0) (word_of (pos 0)) in
          let s1 = set_at m 18 v0 in
          let h1 = next_in m 0 18 v0 h0 in
          let r1 = reaches_one m s1 (imm_goes m op.Addi 18 0 (pos 0) (word m 0 _ h0 rows.frame (differ 0 1 refl) (differ 0 2 refl))) in
          let zero0 : v0 ≡ 0 = ap (λ k. sum k (word_of (pos 0))) f.zero in
          let z = p.stands.filled kind.Regions 0 5 1 0 rows.hole rows.lui rows.addi in
          let at1 : At s1.code s1.pc (instr.Upper op.Lui 5 z.high) = subst (λ k. At k s1.pc (instr.Upper op.Lui 5 z.high)) (sym h1.same.code) (subst (λ k. At m.code k (instr.Upper op.Lui 5 z.high)) (sym h1.pc) z.upper) in
          let v1 = word_of z.high in
          let s2 = set_at s1 5 v1 in
          let h2 = next_in s1 1 5 v1 h1 in
          let r2 = reaches_one s1 s2 (upper_goes s1 op.Lui 5 z.high at1) in
          let at2 : At s2.code s2.pc (instr.Imm op.Addi 5 5 z.low) = subst (λ k. At k s2.pc (instr.Imm op.Addi 5 5 z.low)) (sym h2.same.code) (subst (λ k. At m.code k (instr.Imm op.Addi 5 5 z.low)) (sym (ap (λ k. sum k 4) h1.pc)) z.adds) in
          let v2 = sum (register s2 5) (word_of z.low) in
          let s3 = set_at s2 5 v2 in
          let h3 = next_in s2 2 5 v2 h2 in
          let r3 = reaches_one s2 s3 (imm_goes s2 op.Addi 5 5 z.low at2) in
          let count1 = h1.same.registers ∙ count in
          let count2 = h2.same.registers ∙ count in
          let five3 : register s3 5 ≡ T = there_set s2 5 v2 count2 refl ∙ ap (λ k. sum k (word_of z.low)) (there_set s1 5 v1 count1 refl) ∙ z.whole ∙ p.table in
          let to_start : sum (register s3 5) (word_of (pos 16)) ≡ T + 16 = ap (λ k. sum k (word_of (pos 16))) five3 ∙ near_sum T 16 (omega (arith, inside, area)) in
          let s4 = set_at s3 5 D in
          let h4 = next_in s3 3 5 D h3 in
          let r4 = reaches_one s3 s4 (load_goes s3 5 5 (pos 16) D (word s3 3 _ h3 rows.first (differ 3 1 refl) (differ 3 2 refl)) (ap (read_at w64 s3) to_start ∙ read_same w64 m s3 (T + 16) h3.same ∙ standing.starts.read)) in
          let count3 = h3.same.registers ∙ count in
          let five4 : register s4 5 ≡ D = there_set s3 5 D count3 refl in
          let v4 = sum (register s4 2) (word_of (pos 0)) in
          let two4 : register s4 2 ≡ stack_start = set_other s3 5 D 2 _ (differ 2 5 refl) (set_other s2 5 v2 2 _ (differ 2 5 refl) (set_other s1 5 v1 2 _ (differ 2 5 refl) (set_other m 18 v0 2 _ (differ 2 18 refl) f.top))) in
          let s5 = set_at s4 10 v4 in
          let h5 = next_in s4 4 10 v4 h4 in
          let r5 = reaches_one s4 s5 (imm_goes s4 op.Addi 10 2 (pos 0) (word s4 4 _ h4 rows.value (differ 4 1 refl) (differ 4 2 refl))) in
          let zero5 : register s5 0 ≡ 0 = set_other s4 10 v4 0 _ (differ 0 10 refl) (set_other s3 5 D 0 _ (differ 0 5 refl) (set_other s2 5 v2 0 _ (differ 0 5 refl) (set_other s1 5 v1 0 _ (differ 0 5 refl) (set_other m 18 v0 0 _ (differ 0 18 refl) f.zero)))) in
          let v5 = sum (register s5 0) (word_of (pos 0)) in
          let s6 = set_at s5 7 v5 in
          let h6 = next_in s5 5 7 v5 h5 in
          let r6 = reaches_one s5 s6 (imm_goes s5 op.Addi 7 0 (pos 0) (word s5 5 _ h5 rows.caller (differ 5 1 refl) (differ 5 2 refl))) in
          let five6 : register s6 5 ≡ D = set_other s5 7 v5 5 _ (differ 5 7 refl) (set_other s4 10 v4 5 _ (differ 5 10 refl) five4) in
          let to_table : sum (register s6 5) (word_of (pos 16)) ≡ D + 16 = ap (λ k. sum k (word_of (pos 16))) five6 ∙ near_sum D 16 (omega (arith, of_table, area)) in
          let s7 = set_at s6 9 table in
          let h7 = next_in s6 6 9 table h6 in
          let r7 = reaches_one s6 s7 (load_goes s6 9 5 (pos 16) table (word s6 6 _ h6 rows.table (differ 6 1 refl) (differ 6 2 refl)) (ap (read_at w64 s6) to_table ∙ read_same w64 m s6 (D + 16) h6.same ∙ x.table.read)) in
          let five7 : register s7 5 ≡ D = set_other s6 9 table 5 _ (differ 5 9 refl) five6 in
          let to_entry : sum (register s7 5) (word_of (pos 0)) ≡ D = ap (λ k. sum k (word_of (pos 0))) five7 ∙ near_sum D 0 (omega (arith, of_table, area)) ∙ omega arith in
          let s8 = set_at s7 5 x.at in
          let h8 = next_in s7 7 5 x.at h7 in
          let r8 = reaches_one s7 s8 (load_goes s7 5 5 (pos 0) x.at (word s7 7 _ h7 rows.entry (differ 7 1 refl) (differ 7 2 refl)) (ap (read_at w64 s7) to_entry ∙ read_same w64 m s7 D h7.same ∙ x.enters.read)) in
          let count5 = h5.same.registers ∙ count in
          let count6 = h6.same.registers ∙ count in
          let count7 = h7.same.registers ∙ count in
          let count8 = h8.same.registers ∙ count in
          let even : x.at % 4 ≡ 0 = ap (λ k. k % 4) (sym y.address_is ∙ standing.places body y.code y.there 0 (omega arith)) ∙ aligned_mod (standing.routine body y.code y.there) (words_before y.code 0) (standing.placed body y.code y.there).stands.aligned in
          let lands : jalr_target s8 5 (word_of (pos 0)) ≡ x.at = ap (λ k. let b = sum k (word_of (pos 0)) in b - b % 2) (there_set s7 5 x.at count7 refl) ∙ cleared x.at even x.enters.small in
          let n = sum s8.pc 4 in
          let t = record s8 { pc = jalr_target s8 5 (word_of (pos 0)); registers = slice_set s8.registers 1 n } in
          let r9 = reaches_one s8 t (jalr_goes s8 1 5 (pos 0) (word s8 8 _ h8 rows.call (differ 8 1 refl) (differ 8 2 refl)) (ap (λ k. k % 4 == 0) lands ∙ four x.at even)) in
          let same : Same m t = record { code = h8.same.code; image = h8.same.image; store = h8.same.store; stack = h8.same.stack; start = h8.same.start; registers = length-set s8.registers 1 n ∙ h8.same.registers } in
          let keep : (q v : ℕ) → q ≢ 1 → q ≢ 5 → q ≢ 7 → q ≢ 9 → q ≢ 10 → q ≢ 18 → register m q ≡ v → register t q ≡ v = λ q v p1 p5 p7 p9 p10 p18 e.
          set_other s8 1 n q v p1 (set_other s7 5 x.at q v p5 (set_other s6 9 table q v p9 (set_other s5 7 v5 q v p7 (set_other s4 10 v4 q v p10 (set_other s3 5 D q v p5 (set_other s2 5 v2 q v p5 (set_other s1 5 v1 q v p5 (set_other m 18 v0 q v p18 e)))))))) in
          let bottom = standing.bottom in
          let begins = f.next in
          record {
            state = t;
            reaches = reaches_then r1 (reaches_then r2 (reaches_then r3 (reaches_then r4 (reaches_then r5 (reaches_then r6 (reaches_then r7 (reaches_then r8 r9)))))));
            at = (
              record {
                fixed = record {
                  code = same.code;
                  start = same.start;
                  image = ap length same.image;
                  store = ap length same.store;
                  stack = ap length same.stack;
                  registers = same.registers ∙ count;
                  zero = keep 0 _ (differ 0 1 refl) (differ 0 5 refl) (differ 0 7 refl) (differ 0 9 refl) (differ 0 10 refl) (differ 0 18 refl) f.zero;
                  store_end = keep 4 _ (differ 4 1 refl) (differ 4 5 refl) (differ 4 7 refl) (differ 4 9 refl) (differ 4 10 refl) (differ 4 18 refl) f.store_high;
                  stack_end = keep 8 _ (differ 8 1 refl) (differ 8 5 refl) (differ 8 7 refl) (differ 8 9 refl) (differ 8 10 refl) (differ 8 18 refl) f.stack_high;
                  read = λ w k l. read_same w m t k same;
                };
                sized = record {
                  table = x.table.small;
                  back = low_address a 9;
                  caller = search arith;
                  value = omega (arith, bottom);
                  words = search arith;
                  frame = search arith;
                  top = omega (arith, bottom);
                  peak = omega (arith, bottom);
                  stack = λ k. search arith;
                  byte = f.small;
                  writable = f.writable;
                  next = (omega (arith, begins), omega (arith, begins));
                };
                frame = set_other s8 1 n 18 _ (differ 18 1 refl) (set_other s7 5 x.at 18 _ (differ 18 5 refl) (set_other s6 9 table 18 _ (differ 18 9 refl) (set_other s5 7 v5 18 _ (differ 18 7 refl) (set_other s4 10 v4 18 _ (differ 18 10 refl) (set_other s3 5 D 18 _ (differ 18 5 refl) (set_other s2 5 v2 18 _ (differ 18 5 refl) (set_other s1 5 v1 18 _ (differ 18 5 refl) (there_set m 18 v0 count refl ∙ zero0))))))));
                top = keep 2 _ (differ 2 1 refl) (differ 2 5 refl) (differ 2 7 refl) (differ 2 9 refl) (differ 2 10 refl) (differ 2 18 refl) f.top ∙ sym bottom;
                table = set_other s8 1 n 9 _ (differ 9 1 refl) (set_other s7 5 x.at 9 _ (differ 9 5 refl) (there_set s6 9 table count6 refl));
                store = keep 3 _ (differ 3 1 refl) (differ 3 5 refl) (differ 3 7 refl) (differ 3 9 refl) (differ 3 10 refl) (differ 3 18 refl) f.store ∙ sym begins;
                value = λ r. set_other s8 1 n 10 _ (differ 10 1 refl) (set_other s7 5 x.at 10 _ (differ 10 5 refl) (set_other s6 9 table 10 _ (differ 10 9 refl) (set_other s5 7 v5 10 _ (differ 10 7 refl) (there_set s4 10 v4 (h4.same.registers ∙ count) refl)))) ∙ ap (λ k. sum k (word_of (pos 0))) two4 ∙ sym bottom;
                words = λ r. keep 11 _ (differ 11 1 refl) (differ 11 5 refl) (differ 11 7 refl) (differ 11 9 refl) (differ 11 10 refl) (differ 11 18 refl) f.words;
                stack = λ k l u. read_same w64 m t (8 * k) same ∙ f.stack k l u;
                byte = λ k v l e. read_same Rattle.std.specs.Int.w8 m t k same ∙ f.byte k v l e;
              },
              record {
                code = y.code;
                there = y.there;
                inside = omega arith;
                pc = lands ∙ sym y.address_is;
                back = λ e. there_set_back s8 n (length-set s7.registers 5 x.at ∙ h7.same.registers ∙ count) ∙ ap (λ k. sum k 4) h8.pc ∙ next_address a 8;
                caller = λ e. set_other s8 1 n 7 _ (differ 7 1 refl) (set_other s7 5 x.at 7 _ (differ 7 5 refl) (set_other s6 9 table 7 _ (differ 7 9 refl) (there_set s5 7 v5 count5 refl))) ∙ ap (λ k. sum k (word_of (pos 0))) zero5;
              },
            );
          }
        where
          low_address : (base k : ℕ) → address base k < 2 ^ 64
          low_address base k = grind arith

          there_set_back : (s : State) (n : ℕ) → length s.registers ≡ 32 → register (record s { registers = slice_set s.registers 1 n }) 1 ≡ n
          there_set_back s n l = get_or-set_same s.registers 1 n 0 (among s.registers 1 l refl)
