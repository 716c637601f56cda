-- The text of a failure that is made of an exception.
use Rattle.std.proofs.Common.{◌≡◌, ◌∙◌, ℕ, suc, ℤ, pos, ◌+◌, ◌-◌, ◌*◌, ◌%◌, ◌^◌, ◌<◌, ◌≤◌, ◌==◌, Bool, true, false, List, [], ◌∷◌, length, slice_get, Option, Some, None, refl, ap, sym, subst, arith}
use Rattle.std.specs.Prelude.{nat_le, if◌then◌else◌, slice_index, slice_set}
use Rattle.std.specs.Int.{Width, byte_len, w64, w8}
use Rattle.std.proofs.lemmas.Bool.Decides.{nat_tests}
use Rattle.rv_isa.specs.declared.instr.Instr.TheVariants as instr
use Rattle.rv_isa.specs.declared.op.Op.TheVariants as op
use Rattle.rv_machine.specs.State.{State, image_start, store_start, stack_start, is_inside, number_at, read_at, register, stored, with_written, written_at}
use Rattle.rv_machine.specs.declared.memory.Location.{Location}
use Rattle.rv_machine.specs.declared.memory.Location.TheVariants.{Image, Store, Stack}
use Rattle.rv_machine.specs.Steps.{Goes, advanced, executed, next, word_of}
use Rattle.rv_machine.specs.Values.{sum}
use Rattle.laws_selection.proofs.Evaluating.{next_address}
use Rattle.laws_selection.specs.Running.{At, Code}
use Rattle.laws_selection.proofs.Running.{byte_goes, save_goes}
use Rattle.laws_parts.proofs.Searching.{hop, imm, passes, runs_none, runs_step, runs_then, turns}
use Rattle.laws_parts.specs.Part.{Regs, Runs, Stood, listed, place}
use Rattle.laws_parts.specs.Search.{is_hole, search_code}

-- Writes.

byte_saved : (s after : State) (rs1 rs2 : ℕ) (imm : ℤ) → At s.code s.pc (instr.Save op.Sb rs1 rs2 imm) → written_at w8 s (sum (register s rs1) (word_of imm)) (register s rs2 % 2 ^ 8) ≡ Some after → next s ≡ Goes (advanced after)
unfolding next executed
byte_saved s after rs1 rs2 imm at h = rw (at.inside, at.found, h) refl

option_some : {A B : Type 0} (o : Option A) (f : A → B) (b : B) → Rattle.std.specs.Option.option_map f o ≡ Some b → (P : Type 0) → ((a : A) → o ≡ Some a → f a ≡ b → P) → P
option_some None f b e P g = absurd (cc)
option_some (Some a) f b e P g = g a refl (cc)

-- the write is the same wherever the machine stands
pub written_there : (w : Width) (m m' : State) (base k a n : ℕ) (xs : List ℕ) → written_at w m a n ≡ Some m' → written_at w (place m base k xs) a n ≡ Some (place m' base k xs)
written_there w m m' base k a n xs e = option_some (stored m a (byte_len w)) (with_written w m n) m' e (written_at w (place m base k xs) a n ≡ Some (place m' base k xs)) (λ l f g. by l f g)
  where
    by : (l : Location) → stored m a (byte_len w) ≡ Some l → with_written w m n l ≡ m' → written_at w (place m base k xs) a n ≡ Some (place m' base k xs)
    by (Image o) f g = rw (f, sym g) refl
    by (Store o) f g = rw (f, sym g) refl
    by (Stack o) f g = rw (f, sym g) refl

pub record Stays (m m' : State) : Type 0 where
  pub code : m'.code ≡ m.code
  pub image : m'.image ≡ m.image
  pub start : m'.data_start ≡ m.data_start

-- from the store on
pub written_stays : (w : Width) (m m' : State) (a n : ℕ) → length m.image ≤ 0xff00000 → store_start ≤ a → 1 ≤ byte_len w → written_at w m a n ≡ Some m' → Stays m m'
written_stays w m m' a n small high some e = option_some (stored m a (byte_len w)) (with_written w m n) m' e (Stays m m') (λ l f g. by l f g)
  where
    outside : is_inside image_start m.image a (byte_len w) ≡ false
    outside = grind (arith, nat_tests)

    not_image : (o : ℕ) (b c d e : Bool) → (if b then (if c then (if d then Some (Store (a - store_start)) else (if e then Some (Stack (a - stack_start)) else None)) else None) else None) ≡ Some (Image o) → ⊥
    not_image o false c d e x = cc
    not_image o true false d e x = cc
    not_image o true true true e x = cc
    not_image o true true false true x = cc
    not_image o true true false false x = cc

    by : (l : Location) → stored m a (byte_len w) ≡ Some l → with_written w m n l ≡ m' → Stays m m'
    by (Image o) f g = absurd (not_image o (nat_le m.data_start a) (a % byte_len w == 0) (is_inside store_start m.store a (byte_len w)) (is_inside stack_start m.stack a (byte_len w))
        (ap (λ (b : Bool). if nat_le m.data_start a then (if a % byte_len w == 0 then (if b then Some (Image (a - image_start)) else (if is_inside store_start m.store a (byte_len w) then Some (Store (a - store_start)) else (if is_inside stack_start m.stack a (byte_len w) then Some (Stack (a - stack_start)) else None))) else None) else None) (sym outside) ∙ f))
    by (Store o) f g = rw (sym g) (record { code = refl; image = refl; start = refl })
    by (Stack o) f g = rw (sym g) (record { code = refl; image = refl; start = refl })

pub stays_then : {a b c : State} → Stays a b → Stays b c → Stays a c
stays_then x y = record { code = y.code ∙ x.code; image = y.image ∙ x.image; start = y.start ∙ x.start }

-- bytes one after the other
pub record Wrote (m : State) (to b : ℕ) (Rest : State → Type 0) : Type 0 where
  pub after : State
  pub wrote : written_at w8 m to b ≡ Some after
  pub rest : Rest after

abbrev pub Bytes : List ℕ → State → ℕ → State → Type 0
Bytes [] m to m' = m ≡ m'
Bytes (b ∷ bs) m to m' = Wrote m to b (λ after. Bytes bs after (suc to) m')

-- the bytes of a string of the fixed part
abbrev pub Source : List ℕ → State → ℕ → Type 0
Source [] m from = Unit {0}
Source (b ∷ bs) m from = (is_inside image_start m.image from 1 ≡ true) × (number_at w8 m.image (from - image_start) ≡ b) × (b < 2 ^ 8) × Source bs m (suc from)

source_read : (m : State) (from b : ℕ) → is_inside image_start m.image from 1 ≡ true → number_at w8 m.image (from - image_start) ≡ b → read_at w8 m from ≡ Some b
source_read m from b e f = let one : (from % 1 == 0) ≡ true = grind (arith, nat_tests) in rw (one, e) (ap Some f)

pub source_stays : (bs : List ℕ) (m m' : State) (from : ℕ) → Stays m m' → Source bs m from → Source bs m' from
source_stays [] m m' from s h = tt
source_stays (b ∷ bs) m m' from s h = (rw s.image h.0, rw s.image h.1, h.2, source_stays bs m m' (suc from) s h.3)

pub stood_stays : (m m' : State) (base table : ℕ) → Stays m m' → Stood m.code base table → Stood m'.code base table
stood_stays m m' base table s h = subst (λ (c : Code). Stood c base table) (sym s.code) h

module _ (base table : ℕ) where
  sb_goes : (m m' : State) (stood : Stood m.code base table) (k : ℕ) (xs : List ℕ) (rs1 rs2 a n : ℕ) → slice_get search_code k ≡ Some (instr.Save op.Sb rs1 rs2 (pos 0)) → is_hole k ≡ false → sum (slice_index xs rs1) 0 ≡ a → slice_index xs rs2 % 2 ^ 8 ≡ n →
      written_at w8 m a n ≡ Some m' → next (place m base k xs) ≡ Goes (place m' base (suc k) xs)
  sb_goes m m' stood k xs rs1 rs2 a n e f g h wrote =
      byte_saved (place m base k xs) (place m' base k xs) rs1 rs2 (pos 0) (stood.plain k _ e f) (rw (g, h) (written_there w8 m m' base k a n xs wrote)) ∙ ap (λ pc. Goes (record m' { pc = pc; registers = xs })) (next_address base k)

  pub sd_goes : (m m' : State) (stood : Stood m.code base table) (k : ℕ) (xs : List ℕ) (rs1 rs2 a n : ℕ) → slice_get search_code k ≡ Some (instr.Save op.Sd rs1 rs2 (pos 0)) → is_hole k ≡ false → sum (slice_index xs rs1) 0 ≡ a → slice_index xs rs2 ≡ n →
      written_at w64 m a n ≡ Some m' → next (place m base k xs) ≡ Goes (place m' base (suc k) xs)
  sd_goes m m' stood k xs rs1 rs2 a n e f g h wrote =
      save_goes (place m base k xs) (place m' base k xs) rs1 rs2 (pos 0) (stood.plain k _ e f) (rw (g, h) (written_there w64 m m' base k a n xs wrote)) ∙ ap (λ pc. Goes (record m' { pc = pc; registers = xs })) (next_address base k)

  lbu : (m : State) (stood : Stood m.code base table) (k : ℕ) (xs : List ℕ) (rd rs a b : ℕ) → slice_get search_code k ≡ Some (instr.Load op.Lbu (suc rd) rs (pos 0)) → is_hole k ≡ false → sum (slice_index xs rs) 0 ≡ a → read_at w8 m a ≡ Some b →
      next (place m base k xs) ≡ Goes (place m base (suc k) (slice_set xs (suc rd) b))
  lbu m stood k xs rd rs a b e f g read = byte_goes (place m base k xs) (suc rd) rs (pos 0) b (stood.plain k _ e f) (ap (read_at w8 m) g ∙ read) ∙ by (suc rd == 0) refl
    where
      by : (c : Bool) → (suc rd == 0) ≡ c → Goes (advanced (Rattle.rv_machine.specs.State.with_register (place m base k xs) (suc rd) b)) ≡ Goes (place m base (suc k) (slice_set xs (suc rd) b))
      by true c = absurd (grind (arith, nat_tests, c))
      by false c = rw (c, next_address base k) refl

  -- the bytes of the prefix
  pub record CopiedPrefix (m m' : State) (r : Regs) (to count : ℕ) : Type 0 where
    pub after : Regs
    pub runs : Runs (6 * count + 2) (place m base 88 (listed r)) (place m' base 95 (listed after))
    pub to_is : after.x14 ≡ to + count
    pub stays : Stays m m'
    pub x1 : after.x1 ≡ r.x1
    pub x2 : after.x2 ≡ r.x2
    pub x3 : after.x3 ≡ r.x3
    pub x4 : after.x4 ≡ r.x4
    pub x6 : after.x6 ≡ r.x6
    pub x8 : after.x8 ≡ r.x8
    pub x9 : after.x9 ≡ r.x9
    pub x10 : after.x10 ≡ r.x10
    pub x11 : after.x11 ≡ r.x11
    pub x12 : after.x12 ≡ r.x12
    pub x18 : after.x18 ≡ r.x18
    pub x29 : after.x29 ≡ r.x29
    pub x30 : after.x30 ≡ r.x30

  pub copiedPrefix : (bs : List ℕ) (m m' : State) (stood : Stood m.code base table) (r : Regs) (from to : ℕ) → length m.image ≤ 0xff00000 → store_start ≤ to → r.x5 ≡ from → r.x28 ≡ from + length bs → r.x14 ≡ to →
      from + length bs + 1 < 2 ^ 64 → to + length bs + 1 < 2 ^ 64 → Source bs m from → Bytes bs m to m' → CopiedPrefix m m' r to (length bs)
  copiedPrefix [] m m' stood r from to small high e5 e28 e14 room space source wrote =
      let x0 : next (place m base 88 (listed r)) ≡ Goes (place m base 89 (listed r)) = passes m base table stood 88 (listed r) op.Bne 5 28 (pos 8) refl refl (rw (e5, e28) (grind (arith, nat_tests))) in
      let x1 : next (place m base 89 (listed r)) ≡ Goes (place m base 95 (listed r)) = hop m base table stood 89 95 (listed r) 0 refl refl (omega arith) (omega arith) in
      let all : Runs 2 (place m base 88 (listed r)) (place m base 95 (listed r)) = runs_step x0 (runs_step x1 (runs_none _)) in
      subst (λ (t : State). CopiedPrefix m t r to 0) wrote (record {
        after = r;
        runs = all;
        to_is = e14 ∙ omega arith;
        stays = record { code = refl; image = refl; start = refl };
        x1 = refl;
        x2 = refl;
        x3 = refl;
        x4 = refl;
        x6 = refl;
        x8 = refl;
        x9 = refl;
        x10 = refl;
        x11 = refl;
        x12 = refl;
        x18 = refl;
        x29 = refl;
        x30 = refl;
      })
  copiedPrefix (b ∷ bs) m m' stood r from to small high e5 e28 e14 room space source wrote =
      let m1 = wrote.after in
      let less = source.2 in
      let kept : Stays m m1 = written_stays w8 m m1 to b small high (omega arith) wrote.wrote in
      let stood1 = stood_stays m m1 base table kept stood in
      let r1 = record r { x15 = b } in
      let r2 = record r1 { x5 = suc from } in
      let r3 = record r2 { x14 = suc to } in
      let p0 : sum from 0 ≡ from = grind arith in
      let p1 : sum to 0 ≡ to = grind arith in
      let p2 : sum from 1 ≡ suc from = grind arith in
      let p3 : sum to 1 ≡ suc to = grind arith in
      let p4 : b % 2 ^ 8 ≡ b = grind arith in
      let x0 : next (place m base 88 (listed r)) ≡ Goes (place m base 90 (listed r)) = turns m base table stood 88 90 (listed r) op.Bne 5 28 refl refl (omega arith) (omega arith) (rw (e5, e28) (grind (arith, nat_tests))) in
      let x1 : next (place m base 90 (listed r)) ≡ Goes (place m base 91 (listed r1)) = lbu m stood 90 (listed r) 14 5 from b refl refl (ap (λ n. sum n 0) e5 ∙ p0) (source_read m from b source.0 source.1) in
      let x2 : next (place m base 91 (listed r1)) ≡ Goes (place m1 base 92 (listed r1)) = sb_goes m m1 stood 91 (listed r1) 14 15 to b refl refl (ap (λ n. sum n 0) e14 ∙ p1) p4 wrote.wrote in
      let x3 : next (place m1 base 92 (listed r1)) ≡ Goes (place m1 base 93 (listed r2)) = imm m1 base table stood1 92 (listed r1) op.Addi 5 5 (pos 1) refl refl ∙ ap (λ n. Goes (place m1 base 93 (listed (record r1 { x5 = n })))) (ap (λ n. sum n 1) e5 ∙ p2) in
      let x4 : next (place m1 base 93 (listed r2)) ≡ Goes (place m1 base 94 (listed r3)) = imm m1 base table stood1 93 (listed r2) op.Addi 14 14 (pos 1) refl refl ∙ ap (λ n. Goes (place m1 base 94 (listed (record r2 { x14 = n })))) (ap (λ n. sum n 1) e14 ∙ p3) in
      let x5 : next (place m1 base 94 (listed r3)) ≡ Goes (place m1 base 88 (listed r3)) = hop m1 base table stood1 94 88 (listed r3) 0 refl refl (omega arith) (omega arith) in
      let six : Runs 6 (place m base 88 (listed r)) (place m1 base 88 (listed r3)) = runs_step x0 (runs_step x1 (runs_step x2 (runs_step x3 (runs_step x4 (runs_step x5 (runs_none _)))))) in
      let more = copiedPrefix bs m1 m' stood1 r3 (suc from) (suc to) (rw kept.image small) (omega arith) refl (e28 ∙ omega arith) refl (omega arith) (omega arith) (source_stays bs m m1 (suc from) kept source.3) wrote.rest in
      record {
        after = more.after;
        runs = subst (λ k. Runs k (place m base 88 (listed r)) (place m' base 95 (listed more.after))) (count (length bs)) (runs_then six more.runs);
        to_is = more.to_is ∙ omega arith;
        stays = stays_then kept more.stays;
        x1 = more.x1;
        x2 = more.x2;
        x3 = more.x3;
        x4 = more.x4;
        x6 = more.x6;
        x8 = more.x8;
        x9 = more.x9;
        x10 = more.x10;
        x11 = more.x11;
        x12 = more.x12;
        x18 = more.x18;
        x29 = more.x29;
        x30 = more.x30;
      }
    where
      count : (n : ℕ) → 6 + (6 * n + 2) ≡ 6 * suc n + 2
      count n = omega arith

  -- the bytes of the name
  pub record CopiedName (m m' : State) (r : Regs) (to count : ℕ) : Type 0 where
    pub after : Regs
    pub runs : Runs (6 * count + 2) (place m base 97 (listed r)) (place m' base 104 (listed after))
    pub to_is : after.x14 ≡ to + count
    pub stays : Stays m m'
    pub x1 : after.x1 ≡ r.x1
    pub x2 : after.x2 ≡ r.x2
    pub x3 : after.x3 ≡ r.x3
    pub x4 : after.x4 ≡ r.x4
    pub x6 : after.x6 ≡ r.x6
    pub x8 : after.x8 ≡ r.x8
    pub x9 : after.x9 ≡ r.x9
    pub x10 : Unit {0}
    pub x11 : after.x11 ≡ r.x11
    pub x12 : after.x12 ≡ r.x12
    pub x18 : after.x18 ≡ r.x18
    pub x29 : Unit {0}
    pub x30 : after.x30 ≡ r.x30

  pub copiedName : (bs : List ℕ) (m m' : State) (stood : Stood m.code base table) (r : Regs) (from to : ℕ) → length m.image ≤ 0xff00000 → store_start ≤ to → r.x10 ≡ from → r.x29 ≡ from + length bs → r.x14 ≡ to →
      from + length bs + 1 < 2 ^ 64 → to + length bs + 1 < 2 ^ 64 → Source bs m from → Bytes bs m to m' → CopiedName m m' r to (length bs)
  copiedName [] m m' stood r from to small high e5 e28 e14 room space source wrote =
      let x0 : next (place m base 97 (listed r)) ≡ Goes (place m base 98 (listed r)) = passes m base table stood 97 (listed r) op.Bne 10 29 (pos 8) refl refl (rw (e5, e28) (grind (arith, nat_tests))) in
      let x1 : next (place m base 98 (listed r)) ≡ Goes (place m base 104 (listed r)) = hop m base table stood 98 104 (listed r) 0 refl refl (omega arith) (omega arith) in
      let all : Runs 2 (place m base 97 (listed r)) (place m base 104 (listed r)) = runs_step x0 (runs_step x1 (runs_none _)) in
      subst (λ (t : State). CopiedName m t r to 0) wrote (record {
        after = r;
        runs = all;
        to_is = e14 ∙ omega arith;
        stays = record { code = refl; image = refl; start = refl };
        x1 = refl;
        x2 = refl;
        x3 = refl;
        x4 = refl;
        x6 = refl;
        x8 = refl;
        x9 = refl;
        x10 = tt;
        x11 = refl;
        x12 = refl;
        x18 = refl;
        x29 = tt;
        x30 = refl;
      })
  copiedName (b ∷ bs) m m' stood r from to small high e5 e28 e14 room space source wrote =
      let m1 = wrote.after in
      let less = source.2 in
      let kept : Stays m m1 = written_stays w8 m m1 to b small high (omega arith) wrote.wrote in
      let stood1 = stood_stays m m1 base table kept stood in
      let r1 = record r { x15 = b } in
      let r2 = record r1 { x10 = suc from } in
      let r3 = record r2 { x14 = suc to } in
      let p0 : sum from 0 ≡ from = grind arith in
      let p1 : sum to 0 ≡ to = grind arith in
      let p2 : sum from 1 ≡ suc from = grind arith in
      let p3 : sum to 1 ≡ suc to = grind arith in
      let p4 : b % 2 ^ 8 ≡ b = grind arith in
      let x0 : next (place m base 97 (listed r)) ≡ Goes (place m base 99 (listed r)) = turns m base table stood 97 99 (listed r) op.Bne 10 29 refl refl (omega arith) (omega arith) (rw (e5, e28) (grind (arith, nat_tests))) in
      let x1 : next (place m base 99 (listed r)) ≡ Goes (place m base 100 (listed r1)) = lbu m stood 99 (listed r) 14 10 from b refl refl (ap (λ n. sum n 0) e5 ∙ p0) (source_read m from b source.0 source.1) in
      let x2 : next (place m base 100 (listed r1)) ≡ Goes (place m1 base 101 (listed r1)) = sb_goes m m1 stood 100 (listed r1) 14 15 to b refl refl (ap (λ n. sum n 0) e14 ∙ p1) p4 wrote.wrote in
      let x3 : next (place m1 base 101 (listed r1)) ≡ Goes (place m1 base 102 (listed r2)) = imm m1 base table stood1 101 (listed r1) op.Addi 10 10 (pos 1) refl refl ∙ ap (λ n. Goes (place m1 base 102 (listed (record r1 { x10 = n })))) (ap (λ n. sum n 1) e5 ∙ p2) in
      let x4 : next (place m1 base 102 (listed r2)) ≡ Goes (place m1 base 103 (listed r3)) = imm m1 base table stood1 102 (listed r2) op.Addi 14 14 (pos 1) refl refl ∙ ap (λ n. Goes (place m1 base 103 (listed (record r2 { x14 = n })))) (ap (λ n. sum n 1) e14 ∙ p3) in
      let x5 : next (place m1 base 103 (listed r3)) ≡ Goes (place m1 base 97 (listed r3)) = hop m1 base table stood1 103 97 (listed r3) 0 refl refl (omega arith) (omega arith) in
      let six : Runs 6 (place m base 97 (listed r)) (place m1 base 97 (listed r3)) = runs_step x0 (runs_step x1 (runs_step x2 (runs_step x3 (runs_step x4 (runs_step x5 (runs_none _)))))) in
      let more = copiedName bs m1 m' stood1 r3 (suc from) (suc to) (rw kept.image small) (omega arith) refl (e28 ∙ omega arith) refl (omega arith) (omega arith) (source_stays bs m m1 (suc from) kept source.3) wrote.rest in
      record {
        after = more.after;
        runs = subst (λ k. Runs k (place m base 97 (listed r)) (place m' base 104 (listed more.after))) (count (length bs)) (runs_then six more.runs);
        to_is = more.to_is ∙ omega arith;
        stays = stays_then kept more.stays;
        x1 = more.x1;
        x2 = more.x2;
        x3 = more.x3;
        x4 = more.x4;
        x6 = more.x6;
        x8 = more.x8;
        x9 = more.x9;
        x10 = tt;
        x11 = more.x11;
        x12 = more.x12;
        x18 = more.x18;
        x29 = tt;
        x30 = more.x30;
      }
    where
      count : (n : ℕ) → 6 + (6 * n + 2) ≡ 6 * suc n + 2
      count n = omega arith
