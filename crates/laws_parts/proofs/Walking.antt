-- The search goes outward from region to region, and looks at the arms of each.
use Rattle.std.proofs.Common.{◌≡◌, ◌∙◌, ℕ, zero, suc, pos, ◌+◌, ◌*◌, ◌^◌, ◌<◌, ◌≤◌, ◌==◌, Bool, true, false, not, List, [], ◌∷◌, length, slice_get, Option, Some, None, refl, ap, sym, subst, arith}
use Rattle.std.specs.Int.{w64}
use Rattle.std.proofs.lemmas.Bool.Decides.{nat_tests}
use Rattle.rv_isa.specs.declared.op.Op.TheVariants as op
use Rattle.rv_machine.specs.State.{State, read_at}
use Rattle.rv_machine.specs.Steps.{Goes, next}
use Rattle.rv_machine.specs.Values.{sum}
use Rattle.laws_parts.specs.Regions.{FlatArm, FlatRegion, first_arm, or_before}
use Rattle.laws_parts.proofs.Searching.{S, hop, imm, ld, passes, runs_none, runs_step, runs_then, turns}
use Rattle.laws_parts.specs.Part.{Regs, Runs, Stood, listed}
use Rattle.laws_parts.specs.Tables.{ArmRow, ArmRows, RegionRow, Rows, left_too, looked, looks, looks_in, row_of, walk, walk_in}

get_some : {A : Type 0} (xs : List A) (n : ℕ) → n < length xs → (o : Option A) → slice_get xs n ≡ o → (P : Type 0) → ((x : A) → slice_get xs n ≡ Some x → P) → P
get_some [] n h o e P f = absurd (omega arith)
get_some (x ∷ xs) zero h o e P f = f x refl
get_some (x ∷ xs) (suc n) h o e P f = get_some xs n (omega arith) o e P f

get_inside : {A : Type 0} (xs : List A) (l : ℕ) (x : A) → slice_get xs l ≡ Some x → l < length xs
get_inside [] l x e = absurd (cc)
get_inside (y ∷ xs) zero x e = omega arith
get_inside (y ∷ xs) (suc l) x e = let deeper = get_inside xs l x e in omega arith

module _ (m : State) (base table : ℕ) (stood : Stood m.code base table) (target : ℕ → ℕ) (name : ℕ) where
  abbrev S' : ℕ → Regs → State
  S' k r = S m base table stood k (listed r)

  -- what the walk leaves as it is
  pub record Kept (r t : Regs) : Type 0 where
    pub x1 : t.x1 ≡ r.x1
    pub x2 : t.x2 ≡ r.x2
    pub x3 : t.x3 ≡ r.x3
    pub x4 : t.x4 ≡ r.x4
    pub x8 : t.x8 ≡ r.x8
    pub x9 : t.x9 ≡ r.x9
    pub x10 : t.x10 ≡ r.x10
    pub x11 : t.x11 ≡ r.x11
    pub x18 : t.x18 ≡ r.x18

  kept_same : (r : Regs) → Kept r r
  kept_same r = record { x1 = refl; x2 = refl; x3 = refl; x4 = refl; x8 = refl; x9 = refl; x10 = refl; x11 = refl; x18 = refl }

  kept_then : {r t u : Regs} → Kept r t → Kept t u → Kept r u
  kept_then a b = record { x1 = b.x1 ∙ a.x1; x2 = b.x2 ∙ a.x2; x3 = b.x3 ∙ a.x3; x4 = b.x4 ∙ a.x4; x8 = b.x8 ∙ a.x8; x9 = b.x9 ∙ a.x9; x10 = b.x10 ∙ a.x10; x11 = b.x11 ∙ a.x11; x18 = b.x18 ∙ a.x18 }

  -- at the label Take with the row of the arm, or behind all arms
  abbrev pub Ended : Regs → Regs → Option FlatArm → ℕ → ℕ → Type 0
  Ended r after None steps count = Runs steps (S' 26 r) (S' 35 after) × (after.x6 ≡ r.x6) × (steps ≤ 6 * count + 2)
  Ended r after (Some a) steps count = Runs steps (S' 26 r) (S' 37 after) × ArmRow m target after.x5 a × (suc steps ≤ 6 * count)

  pub record Looked (r : Regs) (found : Option FlatArm) (count : ℕ) : Type 0 where
    pub after : Regs
    pub steps : ℕ
    pub kept : Kept r after
    pub ended : Ended r after found steps count

  pub arms_looked : (arms : List FlatArm) (r : Regs) (at : ℕ) → r.x5 ≡ at → r.x28 ≡ at + 24 * length arms → at + 24 * length arms + 24 < 2 ^ 64 → r.x10 ≡ name → ArmRows m target at arms → Looked r (first_arm name arms) (looked name arms)
  arms_looked [] r at e5 e28 room e10 rows =
      let x0 : next (S' 26 r) ≡ Goes (S' 27 r) = passes m base table stood 26 (listed r) op.Bne 5 28 (pos 8) refl refl (rw (e5, e28) (grind (arith, nat_tests))) in
      let x1 : next (S' 27 r) ≡ Goes (S' 35 r) = hop m base table stood 27 35 (listed r) 0 refl refl (omega arith) (omega arith) in
      record { after = r; steps = 2; kept = kept_same r; ended = (runs_step x0 (runs_step x1 (runs_none _)), refl, omega arith) }
  arms_looked (a ∷ rest) r at e5 e28 room e10 rows =
      by (a.name == 0) (a.name == name) refl refl (λ r2 f5 f28 f10. arms_looked rest r2 (at + 24) f5 f28 (omega arith) f10 rows.1)
    where
      r1 : Regs
      r1 = record r { x29 = a.name }

      r2 : Regs
      r2 = record r1 { x5 = at + 24 }

      x0 : next (S' 26 r) ≡ Goes (S' 28 r)
      x0 = turns m base table stood 26 28 (listed r) op.Bne 5 28 refl refl (omega arith) (omega arith) (rw (e5, e28) (grind (arith, nat_tests)))

      low : sum at 0 ≡ at
      low = grind arith

      up : sum at 24 ≡ at + 24
      up = grind arith

      read : read_at w64 m (sum r.x5 0) ≡ Some a.name
      read = ap (read_at w64 m) (ap (λ n. sum n 0) e5 ∙ low) ∙ rows.0.name

      x1 : next (S' 28 r) ≡ Goes (S' 29 r1)
      x1 = ld m base table stood 28 (listed r) 29 5 (pos 0) a.name refl refl read

      there : ArmRow m target r1.x5 a
      there = subst (λ k. ArmRow m target k a) (sym e5) rows.0

      seen : Kept r r1
      seen = record { x1 = refl; x2 = refl; x3 = refl; x4 = refl; x8 = refl; x9 = refl; x10 = refl; x11 = refl; x18 = refl }

      by : (x y : Bool) → (a.name == 0) ≡ x → (a.name == name) ≡ y → ((r2 : Regs) → r2.x5 ≡ at + 24 → r2.x28 ≡ at + 24 + 24 * length rest → r2.x10 ≡ name → Looked r2 (first_arm name rest) (looked name rest)) → Looked r (first_arm name (a ∷ rest)) (looked name (a ∷ rest))
      by true y e f again =
          let y0 : next (S' 29 r1) ≡ Goes (S' 30 r1) = passes m base table stood 29 (listed r1) op.Bne 29 0 (pos 8) refl refl (rw e refl) in
          let y1 : next (S' 30 r1) ≡ Goes (S' 37 r1) = hop m base table stood 30 37 (listed r1) 0 refl refl (omega arith) (omega arith) in
          let all : Runs 4 (S' 26 r) (S' 37 r1) = runs_step x0 (runs_step x1 (runs_step y0 (runs_step y1 (runs_none _)))) in
          rw e (record { after = r1; steps = 4; kept = seen; ended = (all, there, omega arith) })
      by false true e f again =
          let y0 : next (S' 29 r1) ≡ Goes (S' 31 r1) = turns m base table stood 29 31 (listed r1) op.Bne 29 0 refl refl (omega arith) (omega arith) (rw e refl) in
          let y1 : next (S' 31 r1) ≡ Goes (S' 32 r1) = passes m base table stood 31 (listed r1) op.Bne 29 10 (pos 8) refl refl (rw (e10, f) refl) in
          let y2 : next (S' 32 r1) ≡ Goes (S' 37 r1) = hop m base table stood 32 37 (listed r1) 0 refl refl (omega arith) (omega arith) in
          let all : Runs 5 (S' 26 r) (S' 37 r1) = runs_step x0 (runs_step x1 (runs_step y0 (runs_step y1 (runs_step y2 (runs_none _))))) in
          rw (e, f) (record { after = r1; steps = 5; kept = seen; ended = (all, there, omega arith) })
      by false false e f again =
          let y0 : next (S' 29 r1) ≡ Goes (S' 31 r1) = turns m base table stood 29 31 (listed r1) op.Bne 29 0 refl refl (omega arith) (omega arith) (rw e refl) in
          let y1 : next (S' 31 r1) ≡ Goes (S' 33 r1) = turns m base table stood 31 33 (listed r1) op.Bne 29 10 refl refl (omega arith) (omega arith) (rw (e10, f) refl) in
          let y2 : next (S' 33 r1) ≡ Goes (S' 34 r2) = imm m base table stood 33 (listed r1) op.Addi 5 5 (pos 24) refl refl ∙ ap (λ n. Goes (S' 34 (record r1 { x5 = n }))) (ap (λ n. sum n 24) e5 ∙ up) in
          let y3 : next (S' 34 r2) ≡ Goes (S' 26 r2) = hop m base table stood 34 26 (listed r2) 0 refl refl (omega arith) (omega arith) in
          let all : Runs 6 (S' 26 r) (S' 26 r2) = runs_step x0 (runs_step x1 (runs_step y0 (runs_step y1 (runs_step y2 (runs_step y3 (runs_none _)))))) in
          let more = again r2 refl (e28 ∙ omega arith) e10 in
          rw (e, f) (record {
            after = more.after;
            steps = 6 + more.steps;
            kept = kept_then (record { x1 = refl; x2 = refl; x3 = refl; x4 = refl; x8 = refl; x9 = refl; x10 = refl; x11 = refl; x18 = refl }) more.kept;
            ended = on (first_arm name rest) more.after more.steps all more.ended;
          })
        where
          on : (o : Option FlatArm) (after : Regs) (steps : ℕ) → Runs 6 (S' 26 r) (S' 26 r2) → Ended r2 after o steps (looked name rest) → Ended r after o (6 + steps) (suc (looked name rest))
          on None after steps all e = let few = e.2 in (runs_then all e.0, e.1, omega arith)
          on (Some x) after steps all e = let few = e.2 in (runs_then all e.0, e.1, omega arith)

  -- Regions.

  abbrev pub Arrived : Regs → Regs → Option FlatArm → ℕ → Type 0
  Arrived r after None steps = Runs steps (S' 22 r) (S' 42 after)
  Arrived r after (Some a) steps = Runs steps (S' 22 r) (S' 37 after) × ArmRow m target after.x5 a

  pub record Walked (r : Regs) (found : Option FlatArm) (count : ℕ) : Type 0 where
    pub after : Regs
    pub steps : ℕ
    pub few : steps ≤ 7 * count + 2
    pub kept : Kept r after
    pub arrived : Arrived r after found steps

  module _ (rows : ℕ) (regions : List FlatRegion) (laid : Rows m target rows regions) where
    abbrev pub Below : ℕ → Option ℕ → Type 0
    Below k None = Unit {0}
    Below k (Some n) = (n < k) × (n < length regions)

    nothing : (r : Regs) → r.x6 ≡ 0 → Walked r None 0
    nothing r e =
        let x0 : next (S' 22 r) ≡ Goes (S' 23 r) = passes m base table stood 22 (listed r) op.Bne 6 0 (pos 8) refl refl (rw e refl) in
        let x1 : next (S' 23 r) ≡ Goes (S' 42 r) = hop m base table stood 23 42 (listed r) 0 refl refl (omega arith) (omega arith) in
        record { after = r; steps = 2; few = omega arith; kept = kept_same r; arrived = runs_step x0 (runs_step x1 (runs_none _)) }

    record Opened (r : Regs) (q : FlatRegion) (n : ℕ) : Type 0 where
      after : Regs
      runs : Runs 3 (S' 22 r) (S' 26 after)
      kept : Kept r after
      still : after.x6 ≡ rows + 24 * n
      found : Looked after (first_arm name q.arms) (looked name q.arms)

    opened : (r : Regs) (n : ℕ) (q : FlatRegion) → r.x6 ≡ rows + 24 * n → r.x10 ≡ name → n < length regions → RegionRow m target rows n q → Opened r q n
    opened r n q e named inside row =
        let some = laid.some in
        let room = laid.room in
        let far = row.room in
        let r1 = record r { x5 = row.at } in
        let r2 = record r1 { x28 = row.at + 24 * length q.arms } in
        let p1 : sum (rows + 24 * n) 8 ≡ rows + 24 * n + 8 = grind arith in
        let p2 : sum (rows + 24 * n) 16 ≡ rows + 24 * n + 16 = grind arith in
        let apart : not (rows + 24 * n == 0) ≡ true = grind (arith, nat_tests) in
        let x0 : next (S' 22 r) ≡ Goes (S' 24 r) = turns m base table stood 22 24 (listed r) op.Bne 6 0 refl refl (omega arith) (omega arith) (ap (λ k. not (k == 0)) e ∙ apart) in
        let x1 : next (S' 24 r) ≡ Goes (S' 25 r1) = ld m base table stood 24 (listed r) 5 6 (pos 8) row.at refl refl (ap (read_at w64 m) (ap (λ k. sum k 8) e ∙ p1) ∙ row.first) in
        let x2 : next (S' 25 r1) ≡ Goes (S' 26 r2) = ld m base table stood 25 (listed r1) 28 6 (pos 16) (row.at + 24 * length q.arms) refl refl (ap (read_at w64 m) (ap (λ k. sum k 16) e ∙ p2) ∙ row.end) in
        record {
          after = r2;
          runs = runs_step x0 (runs_step x1 (runs_step x2 (runs_none _)));
          kept = record { x1 = refl; x2 = refl; x3 = refl; x4 = refl; x8 = refl; x9 = refl; x10 = refl; x11 = refl; x18 = refl };
          still = e;
          found = arms_looked q.arms r2 row.at refl refl far named row.arms;
        }

    -- no arm of the region takes p it: to the parent
    record Outer (r : Regs) (o : Option ℕ) : Type 0 where
      after : Regs
      runs : Runs 2 (S' 35 r) (S' 22 after)
      kept : Kept r after
      parent : after.x6 ≡ row_of rows o

    outer : (r : Regs) (n : ℕ) (q : FlatRegion) → r.x6 ≡ rows + 24 * n → n < length regions → RegionRow m target rows n q → Outer r q.parent
    outer r n q e inside row =
        let room = laid.room in
        let r1 = record r { x6 = row_of rows q.parent } in
        let p0 : sum (rows + 24 * n) 0 ≡ rows + 24 * n = grind arith in
        let x0 : next (S' 35 r) ≡ Goes (S' 36 r1) = ld m base table stood 35 (listed r) 6 6 (pos 0) (row_of rows q.parent) refl refl (ap (read_at w64 m) (ap (λ k. sum k 0) e ∙ p0) ∙ row.parent) in
        let x1 : next (S' 36 r1) ≡ Goes (S' 22 r1) = hop m base table stood 36 22 (listed r1) 0 refl refl (omega arith) (omega arith) in
        record { after = r1; runs = runs_step x0 (runs_step x1 (runs_none _)); kept = record { x1 = refl; x2 = refl; x3 = refl; x4 = refl; x8 = refl; x9 = refl; x10 = refl; x11 = refl; x18 = refl }; parent = refl }

    one_region : (r : Regs) (n : ℕ) (q : FlatRegion) → n < length regions → r.x10 ≡ name → RegionRow m target rows n q → (g : Opened r q n) → (found : Option FlatArm) (count : ℕ) → ((t : Regs) → t.x6 ≡ row_of rows q.parent → t.x10 ≡ name → Walked t found count) →
        (o : Option FlatArm) → Ended g.after g.found.after o g.found.steps (looked name q.arms) → Walked r (or_before o found) (looked name q.arms + left_too o count)
    one_region r n q inside named row g found count more (Some a) ended =
        let few = ended.2 in
        record { after = g.found.after; steps = 3 + g.found.steps; few = omega arith; kept = kept_then g.kept g.found.kept; arrived = (runs_then g.runs ended.0, ended.1) }
    one_region r n q inside named row g found count more None ended =
        let few = ended.2 in
        let out = outer g.found.after n q (ended.1 ∙ g.still) inside row in
        let kept = kept_then g.kept (kept_then g.found.kept out.kept) in
        let w = more out.after out.parent (kept.x10 ∙ named) in
        let rest = w.few in
        record {
          after = w.after;
          steps = 3 + (g.found.steps + (2 + w.steps));
          few = omega arith;
          kept = kept_then kept w.kept;
          arrived = on found w.after w.steps (runs_then g.runs (runs_then ended.0 out.runs)) w.arrived;
        }
      where
        same : (a b : ℕ) → 3 + (a + (2 + b)) ≡ 3 + (a + 2) + b
        same a b = omega arith

        on : (o : Option FlatArm) (after : Regs) (steps : ℕ) {t : Regs} → Runs (3 + (g.found.steps + 2)) (S' 22 r) (S' 22 t) → Arrived t after o steps → Arrived r after o (3 + (g.found.steps + (2 + steps)))
        on None after steps all e = subst (λ k. Runs k (S' 22 r) (S' 42 after)) (sym (same g.found.steps steps)) (runs_then all e)
        on (Some x) after steps all e = (subst (λ k. Runs k (S' 22 r) (S' 37 after)) (sym (same g.found.steps steps)) (runs_then all e.0), e.1)

    parent_below : (k n : ℕ) (q : FlatRegion) → n < suc k → n < length regions → slice_get regions n ≡ Some q → (o : Option ℕ) → q.parent ≡ o → Below k o
    parent_below k n q l inside e None f = tt
    parent_below k n q l inside e (Some p) f = let less = laid.below n p q e f in (omega arith, omega arith)

    pub walked : (k : ℕ) (o : Option ℕ) (r : Regs) → Below k o → r.x6 ≡ row_of rows o → r.x10 ≡ name → Walked r (walk regions name k o) (looks regions name k o)
    walked zero None r b e named = nothing r e
    walked zero (Some n) r b e named = absurd (let l = b.0 in omega arith)
    walked (suc k) None r b e named = nothing r e
    walked (suc k) (Some n) r b e named = by (slice_get regions n) refl (λ o t c f g. walked k o t c f g)
      where
        by : (x : Option FlatRegion) → slice_get regions n ≡ x → ((o : Option ℕ) (t : Regs) → Below k o → t.x6 ≡ row_of rows o → t.x10 ≡ name → Walked t (walk regions name k o) (looks regions name k o)) → Walked r (walk_in name x (walk regions name k)) (looks_in name x (looks regions name k))
        by None f again = absurd (get_some regions n b.1 None f ⊥ (λ x g. cc))
        by (Some q) f again =
            let row = laid.row n q f in
            let g = opened r n q e named b.1 row in
            one_region r n q b.1 named row g (walk regions name k q.parent) (looks regions name k q.parent) (λ t h i. again q.parent t (parent_below k n q b.0 b.1 f q.parent refl) h i) (first_arm name q.arms) g.found.ended
