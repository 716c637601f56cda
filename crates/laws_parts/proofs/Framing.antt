-- One frame: the arm of flat code is found in the table of its routine.
use Rattle.std.proofs.Common.{◌≡◌, ◌∙◌, ℕ, ◌+◌, ◌*◌, ◌^◌, ◌<◌, ◌≤◌, ◌==◌, true, not, List, length, Option, Some, None, refl, ap, subst, arith}
use Rattle.rv_machine.specs.State.{State}
use Rattle.laws_parts.specs.Regions.{FlatArm, FlatRegion, arm_behind}
use Rattle.laws_parts.proofs.Searching.{S, runs_then}
use Rattle.laws_parts.proofs.Bisecting as bisecting
use Rattle.laws_parts.proofs.Bisecting.{bisected}
use Rattle.laws_parts.proofs.Nested.{walked_is}
use Rattle.laws_parts.proofs.Taking as taking
use Rattle.laws_parts.proofs.Taking.{Taken, began, left, taken}
use Rattle.laws_parts.proofs.Walking as walking
use Rattle.laws_parts.proofs.Walking.{walked}
use Rattle.laws_parts.specs.Part.{Regs, Runs, Stood, listed}
use Rattle.laws_parts.specs.Tables.{Arrives, Laid, Searched, last_below, looks, row_of, walk}

module _ (m : State) (base table : ℕ) (stood : Stood m.code base table) (target : ℕ → ℕ) where
  abbrev S' : ℕ → Regs → State
  S' k r = S m base table stood k (listed r)

  module _ (regions : List FlatRegion) (code step : ℕ) where
    arrive : (r t : Regs) (found : Option FlatArm) (n k : ℕ) (after : Regs) → Runs n (S' 1 r) (S' 22 t) → walking.Arrived m base table stood target r.x10 t after found k → Arrives m base target r after found (n + k)
    arrive r t None n k after front a = runs_then front a
    arrive r t (Some x) n k after front a = (runs_then front a.0, a.1)

    pub searched : (r : Regs) → (laid : Laid m target r.x9 code regions) → not (r.x18 == 0) ≡ true → r.x1 ≡ code + 4 * step + 4 → code + 4 * step + 4 < 2 ^ 64 → step < 2 ^ 32 → r.x9 < 2 ^ 64 →
        Searched m base target r (arm_behind None regions step r.x10) (looks regions r.x10 (length regions) (last_below regions laid.nest step r.x10 (length regions)))
    searched r laid framed back small near low =
        subst (λ (o : Option FlatArm). Searched m base target r o (looks regions r.x10 (length regions) (inner laid))) (walked_is regions laid.nest step r.x10)
        (record {
          after = w.after;
          steps = 6 + (f.steps + w.steps);
          few = let a = f.few in let b = w.few in omega arith;
          x1 = w.kept.x1 ∙ f.kept.x1 ∙ g.kept.x1;
          x2 = w.kept.x2 ∙ f.kept.x2 ∙ g.kept.x2;
          x3 = w.kept.x3 ∙ f.kept.x3 ∙ g.kept.x3;
          x4 = w.kept.x4 ∙ f.kept.x4 ∙ g.kept.x4;
          x8 = w.kept.x8 ∙ f.kept.x8 ∙ g.kept.x8;
          x9 = w.kept.x9 ∙ f.kept.x9 ∙ g.kept.x9;
          x10 = w.kept.x10 ∙ ten;
          x11 = w.kept.x11 ∙ f.kept.x11 ∙ g.kept.x11;
          x18 = w.kept.x18 ∙ f.kept.x18 ∙ g.kept.x18;
          arrives = subst (λ n. Arrives m base target r w.after (walk regions r.x10 (length regions) (inner laid)) n) (count f.steps w.steps) (arrive r f.after (walk regions r.x10 (length regions) (inner laid)) (6 + f.steps) w.steps w.after (runs_then g.runs f.runs) w.arrived);
        })
      where
        inner : Laid m target r.x9 code regions → Option ℕ
        inner laid = last_below regions laid.nest step r.x10 (length regions)

        count : (a b : ℕ) → 6 + a + b ≡ 6 + (a + b)
        count a b = omega arith

        spot : ℕ
        spot = code + 4 * step

        below : laid.from 0 ≤ spot
        below = let e = laid.first in omega arith

        g : taking.Began m base table stood (laid.tab + 8) laid.count laid.from laid.row laid.cuts spot r
        g = began m base table stood r laid.tab (laid.tab + 8) laid.count laid.from laid.row laid.cuts spot framed back small low laid.linked refl laid.counted laid.some below

        f : bisecting.Found m base table stood (laid.tab + 8) laid.count laid.from laid.row laid.cuts spot g.after (9 * 13 + 3)
        f = bisected m base table stood (laid.tab + 8) laid.count laid.from laid.row laid.cuts spot 13 g.after 0 laid.count g.between laid.few

        ten : f.after.x10 ≡ r.x10
        ten = f.kept.x10 ∙ g.kept.x10

        at_row : f.after.x6 ≡ row_of laid.rows (inner laid)
        at_row = f.row_is ∙ laid.names f.cut step r.x10 near f.there f.not_above f.next_above

        go : (o : Option ℕ) → inner laid ≡ o → walking.Walked m base table stood target r.x10 f.after (walk regions r.x10 (length regions) o) (looks regions r.x10 (length regions) o)
        go None e = walked m base table stood target r.x10 laid.rows regions laid.laid (length regions) None f.after tt (at_row ∙ ap (row_of laid.rows) e) ten
        go (Some n) e = let l : n < length regions = Rattle.laws_parts.proofs.Nested.last_small regions laid.nest step r.x10 (length regions) n e in
            walked m base table stood target r.x10 laid.rows regions laid.laid (length regions) (Some n) f.after (l, l) (at_row ∙ ap (row_of laid.rows) e) ten

        w : walking.Walked m base table stood target r.x10 f.after (walk regions r.x10 (length regions) (inner laid)) (looks regions r.x10 (length regions) (inner laid))
        w = go (inner laid) refl

-- The bound of steps, where so many arms are looked at and regions left: to the arm; to the caller, as a failure; and to the
-- caller where the failure is made of at most so many bytes.
pub bound_taken : (a steps : ℕ) → steps ≤ 7 * a + 128 → 1 + steps + 5 ≤ 2048 + 256 * a
bound_taken a steps h = omega arith

pub bound_left : (a steps : ℕ) → steps ≤ 7 * a + 128 → 1 + steps + 9 ≤ 2048 + 256 * a
bound_left a steps h = omega arith

pub bound_failed : (a steps prefix name : ℕ) → steps ≤ 7 * a + 128 → prefix ≤ 21 → name ≤ 200 → 1 + steps + (6 * (prefix + name) + 33) ≤ 2048 + 256 * a
bound_failed a steps prefix name h p n = omega arith
