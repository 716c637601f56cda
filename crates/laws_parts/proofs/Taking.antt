-- The search begins in the table of the routine, takes an arm, or goes on where the routine was called.
use Rattle.std.proofs.Common.{◌≡◌, ◌∙◌, inl, ℕ, suc, pos, negsuc, ◌+◌, ◌*◌, ◌%◌, ◌^◌, ◌<◌, ◌≤◌, ◌==◌, true, false, not, Some, refl, ap, arith}
use Rattle.std.specs.Int.{w64}
use Rattle.std.proofs.lemmas.Bool.Decides.{nat_tests}
use Rattle.rv_isa.specs.declared.op.Op.TheVariants as op
use Rattle.rv_machine.specs.State.{State, read_at}
use Rattle.rv_machine.specs.Steps.{Goes, next}
use Rattle.rv_machine.specs.Values.{sum, unsigned}
use Rattle.laws_parts.specs.Regions.{FlatArm}
use Rattle.laws_parts.proofs.Bisecting.{Between}
use Rattle.laws_parts.proofs.Searching.{S, hole, hop, imm, jumps, ld, passes, runs_none, runs_step, runs_then, three, turns}
use Rattle.laws_parts.specs.Part.{Regs, Runs, Stood, listed}
use Rattle.laws_parts.specs.Tables.{ArmRow, Cuts}

module _ (m : State) (base table : ℕ) (stood : Stood m.code base table) where
  abbrev S' : ℕ → Regs → State
  S' k r = S m base table stood k (listed r)

  pub record Kept (r t : Regs) : Type 0 where
    pub x1 : t.x1 ≡ r.x1
    pub x2 : t.x2 ≡ r.x2
    pub x3 : t.x3 ≡ r.x3
    pub x4 : t.x4 ≡ r.x4
    pub x8 : t.x8 ≡ r.x8
    pub x9 : t.x9 ≡ r.x9
    pub x10 : t.x10 ≡ r.x10
    pub x11 : t.x11 ≡ r.x11
    pub x18 : t.x18 ≡ r.x18

  read_of : (a b w : ℕ) → a ≡ b → read_at w64 m b ≡ Some w → read_at w64 m a ≡ Some w
  read_of a b w e f = ap (read_at w64 m) e ∙ f

  -- The word where the part is entered is passed once.
  pub entered : (r : Regs) → Runs 1 (S' 0 r) (S' 1 r)
  entered r = runs_step (imm m base table stood 0 (listed r) op.Addi 0 0 (pos 0) refl refl) (runs_none _)

  -- In a frame the cuts of the routine's table are searched.
  pub record Began (at count : ℕ) (from row : ℕ → ℕ) (cuts : Cuts m at count from row) (place : ℕ) (r : Regs) : Type 0 where
    pub after : Regs
    pub runs : Runs 6 (S' 1 r) (S' 8 after)
    pub kept : Kept r after
    pub between : Between m base table stood at count from row cuts place after 0 count

  pub began : (r : Regs) (tab at count : ℕ) (from row : ℕ → ℕ) (cuts : Cuts m at count from row) (place : ℕ) → not (r.x18 == 0) ≡ true → r.x1 ≡ place + 4 → place + 4 < 2 ^ 64 → r.x9 < 2 ^ 64 →
      read_at w64 m r.x9 ≡ Some tab → tab + 8 ≡ at → read_at w64 m tab ≡ Some count → 1 ≤ count → from 0 ≤ place → Began at count from row cuts place r
  began r tab at count from row cuts place framed back small low linked tab_is counted some below =
      let room = cuts.room in
      let r1 = record r { x5 = place } in
      let r2 = record r1 { x6 = tab } in
      let r3 = record r2 { x28 = count } in
      let r4 = record r3 { x6 = at } in
      let r5 = record r4 { x12 = 1 } in
      let p0 : sum (place + 4) (unsigned (negsuc 3)) ≡ place = grind arith in
      let p1 : sum r.x9 0 ≡ r.x9 = grind arith in
      let p2 : sum tab 0 ≡ tab = grind arith in
      let p3 : sum tab 8 ≡ at = grind arith in
      let x0 : next (S' 1 r) ≡ Goes (S' 3 r) = turns m base table stood 1 3 (listed r) op.Bne 18 0 refl refl (omega arith) (omega arith) framed in
      let x1 : next (S' 3 r) ≡ Goes (S' 4 r1) = imm m base table stood 3 (listed r) op.Addi 5 1 (negsuc 3) refl refl ∙ ap (λ n. Goes (S' 4 (record r { x5 = n }))) (ap (λ n. sum n (unsigned (negsuc 3))) back ∙ p0) in
      let x2 : next (S' 4 r1) ≡ Goes (S' 5 r2) = ld m base table stood 4 (listed r1) 6 9 (pos 0) tab refl refl (read_of (sum r.x9 0) r.x9 tab p1 linked) in
      let x3 : next (S' 5 r2) ≡ Goes (S' 6 r3) = ld m base table stood 5 (listed r2) 28 6 (pos 0) count refl refl (read_of (sum tab 0) tab count p2 counted) in
      let x4 : next (S' 6 r3) ≡ Goes (S' 7 r4) = imm m base table stood 6 (listed r3) op.Addi 6 6 (pos 8) refl refl ∙ ap (λ n. Goes (S' 7 (record r3 { x6 = n }))) p3 in
      let x5 : next (S' 7 r4) ≡ Goes (S' 8 r5) = imm m base table stood 7 (listed r4) op.Addi 12 0 (pos 1) refl refl in
      record {
        after = r5;
        runs = runs_step x0 (runs_step x1 (runs_step x2 (runs_step x3 (runs_step x4 (runs_step x5 (runs_none _))))));
        kept = record { x1 = refl; x2 = refl; x3 = refl; x4 = refl; x8 = refl; x9 = refl; x10 = refl; x11 = refl; x18 = refl };
        between = record { first = refl; second = omega arith; third = refl; one = refl; some = some; inside = omega arith; below = below; above = inl (omega arith) };
      }

  -- An arm takes what was raised: the stack is cut to its mark.
  pub record Taken (r : Regs) (top to : ℕ) : Type 0 where
    pub after : Regs
    pub runs : Runs 5 (S' 37 r) (record m { pc = to; registers = listed after })
    pub top_is : after.x2 ≡ top
    pub kept : Kept (record r { x2 = top }) after

  pub taken : (target : ℕ → ℕ) (r : Regs) (a : FlatArm) (top : ℕ) → ArmRow m target r.x5 a → r.x18 + a.mark * 8 < 2 ^ 64 → read_at w64 m (r.x18 + a.mark * 8) ≡ Some top → target a.target < 2 ^ 64 → target a.target % 4 ≡ 0 →
      Taken r top (target a.target)
  taken target r a top row low read small even =
      let to = target a.target in
      let r1 = record r { x6 = to } in
      let r2 = record r1 { x28 = a.mark * 8 } in
      let r3 = record r2 { x28 = r.x18 + a.mark * 8 } in
      let r4 = record r3 { x2 = top } in
      let room = row.room in
      let p1 : sum r.x5 8 ≡ r.x5 + 8 = grind arith in
      let p2 : sum r.x5 16 ≡ r.x5 + 16 = grind arith in
      let p3 : sum (a.mark * 8) r.x18 ≡ r.x18 + a.mark * 8 = grind arith in
      let p4 : sum (r.x18 + a.mark * 8) 0 ≡ r.x18 + a.mark * 8 = grind arith in
      let x1 : next (S' 37 r) ≡ Goes (S' 38 r1) = ld m base table stood 37 (listed r) 6 5 (pos 8) to refl refl (read_of (sum r.x5 8) (r.x5 + 8) to p1 row.begins) in
      let x2 : next (S' 38 r1) ≡ Goes (S' 39 r2) = ld m base table stood 38 (listed r1) 28 5 (pos 16) (a.mark * 8) refl refl (read_of (sum r.x5 16) (r.x5 + 16) (a.mark * 8) p2 row.mark) in
      let x3 : next (S' 39 r2) ≡ Goes (S' 40 r3) = three m base table stood 39 (listed r2) op.Add 28 28 18 refl refl ∙ ap (λ n. Goes (S' 40 (record r2 { x28 = n }))) p3 in
      let x4 : next (S' 40 r3) ≡ Goes (S' 41 r4) = ld m base table stood 40 (listed r3) 2 28 (pos 0) top refl refl (read_of (sum (r.x18 + a.mark * 8) 0) (r.x18 + a.mark * 8) top p4 read) in
      let x5 : next (S' 41 r4) ≡ Goes (record m { pc = to; registers = listed r4 }) = jumps m base table stood 41 (listed r4) 6 to refl refl refl small even in
      record {
        after = r4;
        runs = runs_step x1 (runs_step x2 (runs_step x3 (runs_step x4 (runs_step x5 (runs_none _)))));
        top_is = refl;
        kept = record { x1 = refl; x2 = refl; x3 = refl; x4 = refl; x8 = refl; x9 = refl; x10 = refl; x11 = refl; x18 = refl };
      }

  -- The name of failure is at hand.
  pub record Failure (k : ℕ) (r : Regs) (failure : ℕ) : Type 0 where
    pub after : Regs
    pub runs : Runs 3 (S' k r) (S' (suc (suc (suc k))) after)
    pub kept : Kept r after
    pub table_is : after.x5 ≡ table
    pub name_is : after.x6 ≡ failure

  failure_at : (r : Regs) (failure : ℕ) → table < 2 ^ 64 → read_at w64 m table ≡ Some failure → Failure 42 r failure
  failure_at r failure small read =
      let r1 = record r { x5 = table } in
      let r2 = record r1 { x6 = failure } in
      let p0 : sum table 0 ≡ table = grind arith in
      let x0 : Runs 2 (S' 42 r) (S' 44 r1) = hole m base table stood 42 (listed r) refl refl refl in
      let x1 : next (S' 44 r1) ≡ Goes (S' 45 r2) = ld m base table stood 44 (listed r1) 6 5 (pos 0) failure refl refl (read_of (sum table 0) table failure p0 read) in
      record { after = r2; runs = runs_then x0 (runs_step x1 (runs_none _)); kept = record { x1 = refl; x2 = refl; x3 = refl; x4 = refl; x8 = refl; x9 = refl; x10 = refl; x11 = refl; x18 = refl }; table_is = refl; name_is = refl }

  -- No arm takes a failure: the search goes on where the routine was called.
  pub record Left (r : Regs) (back link frame : ℕ) : Type 0 where
    pub after : Regs
    pub runs : Runs 9 (S' 42 r) (S' 1 after)
    pub kept : Kept (record r { x1 = back; x9 = link; x18 = frame }) after

  pub left : (r : Regs) (back link frame : ℕ) → table < 2 ^ 64 → r.x18 + 32 < 2 ^ 64 → read_at w64 m table ≡ Some r.x10 → read_at w64 m r.x18 ≡ Some back → read_at w64 m (r.x18 + 8) ≡ Some frame → read_at w64 m (r.x18 + 16) ≡ Some link →
      Left r back link frame
  left r back link frame small room read b f l =
      let g = failure_at r r.x10 small read in
      let t = g.after in
      let t1 = record t { x1 = back } in
      let t2 = record t1 { x9 = link } in
      let t3 = record t2 { x18 = frame } in
      let e : t.x18 ≡ r.x18 = g.kept.x18 in
      let p0 : sum r.x18 0 ≡ r.x18 = grind arith in
      let p1 : sum r.x18 8 ≡ r.x18 + 8 = grind arith in
      let p2 : sum r.x18 16 ≡ r.x18 + 16 = grind arith in
      let equal : not (r.x10 == r.x10) ≡ false = grind (arith, nat_tests) in
      let x0 : next (S' 45 t) ≡ Goes (S' 46 t) = passes m base table stood 45 (listed t) op.Bne 10 6 (pos 8) refl refl (rw (g.kept.x10, g.name_is) equal) in
      let x1 : next (S' 46 t) ≡ Goes (S' 54 t) = hop m base table stood 46 54 (listed t) 0 refl refl (omega arith) (omega arith) in
      let x2 : next (S' 54 t) ≡ Goes (S' 55 t1) = ld m base table stood 54 (listed t) 1 18 (pos 0) back refl refl (read_of (sum t.x18 0) r.x18 back (ap (λ n. sum n 0) e ∙ p0) b) in
      let x3 : next (S' 55 t1) ≡ Goes (S' 56 t2) = ld m base table stood 55 (listed t1) 9 18 (pos 16) link refl refl (read_of (sum t.x18 16) (r.x18 + 16) link (ap (λ n. sum n 16) e ∙ p2) l) in
      let x4 : next (S' 56 t2) ≡ Goes (S' 57 t3) = ld m base table stood 56 (listed t2) 18 18 (pos 8) frame refl refl (read_of (sum t.x18 8) (r.x18 + 8) frame (ap (λ n. sum n 8) e ∙ p1) f) in
      let x5 : next (S' 57 t3) ≡ Goes (S' 1 t3) = hop m base table stood 57 1 (listed t3) 0 refl refl (omega arith) (omega arith) in
      record {
        after = t3;
        runs = runs_then g.runs (runs_step x0 (runs_step x1 (runs_step x2 (runs_step x3 (runs_step x4 (runs_step x5 (runs_none _)))))));
        kept = record { x1 = refl; x2 = g.kept.x2; x3 = g.kept.x3; x4 = g.kept.x4; x8 = g.kept.x8; x9 = refl; x10 = g.kept.x10; x11 = g.kept.x11; x18 = refl };
      }
