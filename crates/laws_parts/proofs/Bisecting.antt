-- The search bisects the cuts.
use Rattle.std.proofs.Common.{◌≡◌, ◌∙◌, ◌⊎◌, inr, ℕ, zero, suc, pos, ◌+◌, ◌-◌, ◌*◌, ◌/◌, ◌%◌, ◌^◌, ◌<◌, ◌≤◌, Bool, true, false, Some, refl, ap, subst, arith}
use Rattle.std.specs.Prelude.{nat_lt, nat_le}
use Rattle.std.specs.Int.{w64}
use Rattle.std.proofs.lemmas.Bool.Decides.{nat_tests}
use Rattle.rv_isa.specs.declared.op.Op.TheVariants as op
use Rattle.rv_machine.specs.State.{State, read_at}
use Rattle.rv_machine.specs.Steps.{Goes, next}
use Rattle.rv_machine.specs.Values.{sum}
use Rattle.laws_parts.proofs.Searching.{S, imm, hop, ld, passes, runs_none, runs_step, runs_then, three, turns}
use Rattle.laws_parts.specs.Part.{Regs, Runs, Stood, listed}
use Rattle.laws_parts.specs.Tables.{Cuts}

module _ (m : State) (base table : ℕ) (stood : Stood m.code base table) (at count : ℕ) (from row : ℕ → ℕ) (cuts : Cuts m at count from row) (place : ℕ) where
  abbrev S' : ℕ → Regs → State
  S' k r = S m base table stood k (listed r)

  -- among so many cuts from one on is the last that is not above the place
  pub record Between (r : Regs) (low left : ℕ) : Type 0 where
    pub first : r.x5 ≡ place
    pub second : r.x6 ≡ at + 16 * low
    pub third : r.x28 ≡ left
    pub one : r.x12 ≡ 1
    pub some : 1 ≤ left
    pub inside : low + left ≤ count
    pub below : from low ≤ place
    pub above : (low + left ≡ count) ⊎ (place < from (low + left))

  -- what the search of cuts leaves as it is
  pub record Kept (r t : Regs) : Type 0 where
    pub x1 : t.x1 ≡ r.x1
    pub x2 : t.x2 ≡ r.x2
    pub x3 : t.x3 ≡ r.x3
    pub x4 : t.x4 ≡ r.x4
    pub x8 : t.x8 ≡ r.x8
    pub x9 : t.x9 ≡ r.x9
    pub x10 : t.x10 ≡ r.x10
    pub x11 : t.x11 ≡ r.x11
    pub x18 : t.x18 ≡ r.x18

  pub record Halved (r : Regs) (low left half : ℕ) : Type 0 where
    pub after : Regs
    pub runs : Runs 9 (S' 8 r) (S' 8 after)
    pub kept : Kept r after
    pub low' : ℕ
    pub left' : ℕ
    pub between : Between after low' left'
    pub fewer : left' ≤ left - half

  -- half of the cuts
  halved : (r : Regs) (low left : ℕ) → Between r low left → 1 < left → (b : Bool) → nat_le (from (low + left / 2)) place ≡ b → Halved r low left (left / 2)
  halved r low left h more b e =
      by b e
    where
      half : ℕ
      half = left / 2

      mid : ℕ
      mid = at + 16 * (low + half)

      room : at + 16 * count < 2 ^ 64
      room = cuts.room

      few : count < 2 ^ 32
      few = cuts.few

      inside : low + left ≤ count
      inside = h.inside

      r1 : Regs
      r1 = record r { x29 = half }

      r2 : Regs
      r2 = record r1 { x30 = 16 * half }

      r3 : Regs
      r3 = record r2 { x30 = mid }

      r4 : Regs
      r4 = record r3 { x13 = from (low + half) }

      e1 : r.x28 / 2 ≡ half
      e1 = ap (λ n. n / 2) h.third

      e2 : half * 16 % 2 ^ 64 ≡ 16 * half
      e2 = omega arith

      e3 : sum (16 * half) r.x6 ≡ mid
      e3 = ap (sum (16 * half)) h.second ∙ grind arith

      x0 : next (S' 8 r) ≡ Goes (S' 10 r)
      x0 = turns m base table stood 8 10 (listed r) op.Bltu 12 28 refl refl (omega arith) (omega arith) (rw (h.one, h.third) (grind (arith, nat_tests)))

      x1 : next (S' 10 r) ≡ Goes (S' 11 r1)
      x1 = imm m base table stood 10 (listed r) op.Srli 29 28 (pos 1) refl refl ∙ ap (λ n. Goes (S' 11 (record r { x29 = n }))) e1

      x2 : next (S' 11 r1) ≡ Goes (S' 12 r2)
      x2 = imm m base table stood 11 (listed r1) op.Slli 30 29 (pos 4) refl refl ∙ ap (λ n. Goes (S' 12 (record r1 { x30 = n }))) e2

      x3 : next (S' 12 r2) ≡ Goes (S' 13 r3)
      x3 = three m base table stood 12 (listed r2) op.Add 30 30 6 refl refl ∙ ap (λ n. Goes (S' 13 (record r2 { x30 = n }))) e3

      at_mid : sum mid 0 ≡ at + 16 * (low + half)
      at_mid = grind arith

      read : read_at w64 m (sum mid 0) ≡ Some (from (low + half))
      read = ap (read_at w64 m) at_mid ∙ cuts.from_there (low + half) (omega arith)

      x4 : next (S' 13 r3) ≡ Goes (S' 14 r4)
      x4 = ld m base table stood 13 (listed r3) 13 30 (pos 0) (from (low + half)) refl refl read

      front : {n : ℕ} {t : State} → Runs n (S' 14 r4) t → Runs (suc (suc (suc (suc (suc n))))) (S' 8 r) t
      front f = runs_step x0 (runs_step x1 (runs_step x2 (runs_step x3 (runs_step x4 f))))

      by : (b : Bool) → nat_le (from (low + half)) place ≡ b → Halved r low left half
      by true q =
          let r5 = record r4 { x6 = mid } in
          let r6 = record r5 { x28 = left - half } in
          let y0 : next (S' 14 r4) ≡ Goes (S' 16 r4) = turns m base table stood 14 16 (listed r4) op.Bgeu 5 13 refl refl (omega arith) (omega arith) (rw h.first q) in
          let y1 : next (S' 16 r4) ≡ Goes (S' 17 r5) = imm m base table stood 16 (listed r4) op.Addi 6 30 (pos 0) refl refl ∙ ap (λ n. Goes (S' 17 (record r4 { x6 = n }))) (grind arith) in
          let y2 : next (S' 17 r5) ≡ Goes (S' 18 r6) = three m base table stood 17 (listed r5) op.Sub 28 28 29 refl refl ∙ ap (λ n. Goes (S' 18 (record r5 { x28 = n }))) (ap (λ n. (n + 2 ^ 64 - half) % 2 ^ 64) h.third ∙ grind arith) in
          let y3 : next (S' 18 r6) ≡ Goes (S' 8 r6) = hop m base table stood 18 8 (listed r6) 0 refl refl (omega arith) (omega arith) in
          record {
            after = r6;
            runs = front (runs_step y0 (runs_step y1 (runs_step y2 (runs_step y3 (runs_none _)))));
            kept = record { x1 = refl; x2 = refl; x3 = refl; x4 = refl; x8 = refl; x9 = refl; x10 = refl; x11 = refl; x18 = refl };
            low' = low + half;
            left' = left - half;
            between = record {
              first = h.first;
              second = refl;
              third = refl;
              one = h.one;
              some = omega arith;
              inside = omega arith;
              below = grind (arith, nat_tests, q);
              above = let same : low + half + (left - half) ≡ low + left = omega arith in rw same h.above;
            };
            fewer = omega arith;
          }
      by false q =
          let r5 = record r4 { x28 = half } in
          let y0 : next (S' 14 r4) ≡ Goes (S' 15 r4) = passes m base table stood 14 (listed r4) op.Bgeu 5 13 (pos 8) refl refl (rw h.first q) in
          let y1 : next (S' 15 r4) ≡ Goes (S' 19 r4) = hop m base table stood 15 19 (listed r4) 0 refl refl (omega arith) (omega arith) in
          let y2 : next (S' 19 r4) ≡ Goes (S' 20 r5) = imm m base table stood 19 (listed r4) op.Addi 28 29 (pos 0) refl refl ∙ ap (λ n. Goes (S' 20 (record r4 { x28 = n }))) (grind arith) in
          let y3 : next (S' 20 r5) ≡ Goes (S' 8 r5) = hop m base table stood 20 8 (listed r5) 0 refl refl (omega arith) (omega arith) in
          record {
            after = r5;
            runs = front (runs_step y0 (runs_step y1 (runs_step y2 (runs_step y3 (runs_none _)))));
            kept = record { x1 = refl; x2 = refl; x3 = refl; x4 = refl; x8 = refl; x9 = refl; x10 = refl; x11 = refl; x18 = refl };
            low' = low;
            left' = half;
            between = record { first = h.first; second = h.second; third = refl; one = h.one; some = omega arith; inside = omega arith; below = h.below; above = inr (grind (arith, nat_tests, q)) };
            fewer = omega arith;
          }

  kept_then : {r t u : Regs} → Kept r t → Kept t u → Kept r u
  kept_then a b = record { x1 = b.x1 ∙ a.x1; x2 = b.x2 ∙ a.x2; x3 = b.x3 ∙ a.x3; x4 = b.x4 ∙ a.x4; x8 = b.x8 ∙ a.x8; x9 = b.x9 ∙ a.x9; x10 = b.x10 ∙ a.x10; x11 = b.x11 ∙ a.x11; x18 = b.x18 ∙ a.x18 }

  -- The last cut that is not above the place is found, and the row that it names is in Second.
  pub record Found (r : Regs) (most : ℕ) : Type 0 where
    pub after : Regs
    pub steps : ℕ
    pub few : steps ≤ most
    pub runs : Runs steps (S' 8 r) (S' 22 after)
    pub kept : Kept r after
    pub cut : ℕ
    pub there : cut < count
    pub not_above : from cut ≤ place
    pub next_above : (suc cut ≡ count) ⊎ (place < from (suc cut))
    pub row_is : after.x6 ≡ row cut

  single : (r : Regs) (low left : ℕ) → Between r low left → left ≤ 1 → Found r 3
  single r low left h few =
      let room = cuts.room in
      let some = h.some in
      let inside = h.inside in
      let one : left ≡ 1 = omega arith in
      let r1 = record r { x6 = row low } in
      let x0 : next (S' 8 r) ≡ Goes (S' 9 r) = passes m base table stood 8 (listed r) op.Bltu 12 28 (pos 8) refl refl (rw (h.one, h.third) (grind (arith, nat_tests))) in
      let x1 : next (S' 9 r) ≡ Goes (S' 21 r) = hop m base table stood 9 21 (listed r) 0 refl refl (omega arith) (omega arith) in
      let there : sum (at + 16 * low) 8 ≡ at + 16 * low + 8 = grind arith in
      let read : read_at w64 m (sum r.x6 8) ≡ Some (row low) = ap (read_at w64 m) (ap (λ n. sum n 8) h.second ∙ there) ∙ cuts.row_there low (omega arith) in
      let x2 : next (S' 21 r) ≡ Goes (S' 22 r1) = ld m base table stood 21 (listed r) 6 6 (pos 8) (row low) refl refl read in
      record {
        after = r1;
        steps = 3;
        few = omega arith;
        runs = runs_step x0 (runs_step x1 (runs_step x2 (runs_none _)));
        kept = record { x1 = refl; x2 = refl; x3 = refl; x4 = refl; x8 = refl; x9 = refl; x10 = refl; x11 = refl; x18 = refl };
        cut = low;
        there = omega arith;
        not_above = h.below;
        next_above = let same : low + left ≡ suc low = omega arith in subst (λ k. (k ≡ count) ⊎ (place < from k)) same h.above;
        row_is = refl;
      }

  -- within nine steps for each halving
  pub bisected : (n : ℕ) (r : Regs) (low left : ℕ) → Between r low left → left ≤ 2 ^ n → Found r (9 * n + 3)
  bisected zero r low left h few = single r low left h (omega arith)
  bisected (suc n) r low left h few = by (nat_lt 1 left) refl (λ r low left h few. bisected n r low left h few)
    where
      more : nat_lt 1 left ≡ false → left ≤ 1
      more e = grind (arith, nat_tests)

      by : (b : Bool) → nat_lt 1 left ≡ b → ((r : Regs) (low left : ℕ) → Between r low left → left ≤ 2 ^ n → Found r (9 * n + 3)) → Found r (9 * suc n + 3)
      by false e again = let f = single r low left h (more e) in
          record { after = f.after; steps = f.steps; few = let x = f.few in omega arith; runs = f.runs; kept = f.kept; cut = f.cut; there = f.there; not_above = f.not_above; next_above = f.next_above; row_is = f.row_is }
      by true e again =
          let many : 1 < left = grind (arith, nat_tests, e) in
          let g = halved r low left h many (nat_le (from (low + left / 2)) place) refl in
          let fewer = g.fewer in
          let twice : 2 ^ suc n ≡ 2 * 2 ^ n = omega arith in
          let small : g.left' ≤ 2 ^ n = omega arith in
          let f = again g.after g.low' g.left' g.between small in
          record {
            after = f.after;
            steps = 9 + f.steps;
            few = let x = f.few in omega arith;
            runs = runs_then g.runs f.runs;
            kept = kept_then g.kept f.kept;
            cut = f.cut;
            there = f.there;
            not_above = f.not_above;
            next_above = f.next_above;
            row_is = f.row_is;
          }
