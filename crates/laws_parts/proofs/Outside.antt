-- Out of a frame as failure, and the end of the run at the bottom.
use Rattle.std.proofs.Common.{◌≡◌, ◌∙◌, ◌≢◌, ℕ, pos, ◌+◌, ◌-◌, ◌*◌, ◌%◌, ◌^◌, ◌<◌, ◌≤◌, ◌==◌, Bool, true, false, not, List, length, Some, refl, ap, subst, arith}
use Rattle.std.specs.Int.{w64}
use Rattle.std.proofs.lemmas.Bool.Decides.{nat_tests}
use Rattle.std.proofs.lemmas.Bool.{eqb-true}
use Rattle.rv_isa.specs.declared.instr.Instr.TheVariants as instr
use Rattle.rv_isa.specs.declared.op.Op.TheVariants as op
use Rattle.rv_machine.specs.State.{State, register, store_start, stack_start, read_at, written_at}
use Rattle.rv_machine.specs.declared.trap.Trap.TheVariants as trap
use Rattle.rv_machine.specs.Steps.{Goes, Stops, next}
use Rattle.rv_machine.specs.Values.{sum}
use Rattle.laws_selection.specs.Growing.{address}
use Rattle.laws_parts.proofs.Searching.{aligned, hole, hop, imm, ld, lui, passes, runs_none, runs_step, runs_then, turns}
use Rattle.laws_parts.proofs.Texting.{Stays, sd_goes, stood_stays, written_stays}
use Rattle.laws_parts.proofs.Failing.{Called, Made, Parts, ecall_stops, in_store, text_full, text_made}
use Rattle.laws_parts.specs.Part.{Regs, Runs, Stood, listed, place}

module _ (base table : ℕ) (small_table : table + 16 < 2 ^ 64) (failure : ℕ) where
  abbrev P : State → ℕ → Regs → State
  P m k r = place m base k (listed r)

  -- what was raised, with the name of failure at hand
  abbrev pub known : Regs → Regs
  known r = record r { x5 = table; x6 = failure }

  abbrev pub linked : ℕ → Regs → Regs
  linked k r = record r { x30 = address base k }

  differ : (a b : ℕ) → a ≢ b → not (a == b) ≡ true
  differ a b d = by (a == b) refl
    where
      by : (c : Bool) → (a == b) ≡ c → not (a == b) ≡ true
      by true e = absurd (d (eqb-true a b e))
      by false e = rw e refl

  differ' : (a b : ℕ) → a ≢ b → (a == b) ≡ false
  differ' a b d = by (a == b) refl
    where
      by : (c : Bool) → (a == b) ≡ c → (a == b) ≡ false
      by true e = absurd (d (eqb-true a b e))
      by false e = e

  outward_known : (m : State) (stood : Stood m.code base table) (r : Regs) → read_at w64 m table ≡ Some failure → Runs 3 (P m 42 r) (P m 45 (known r))
  outward_known m stood r read =
      let r1 = record r { x5 = table } in
      let p0 : sum table 0 ≡ table = grind arith in
      let x0 : Runs 2 (P m 42 r) (P m 44 r1) = hole m base table stood 42 (listed r) refl refl refl in
      let x1 : next (P m 44 r1) ≡ Goes (P m 45 (known r)) = ld m base table stood 44 (listed r1) 6 5 (pos 0) failure refl refl (ap (read_at w64 m) p0 ∙ read) in
      runs_then x0 (runs_step x1 (runs_none _))

  bottom_known : (m : State) (stood : Stood m.code base table) (r : Regs) → read_at w64 m table ≡ Some failure → (r.x18 == 0) ≡ true → Runs 5 (P m 1 r) (P m 61 (known r))
  bottom_known m stood r read none =
      let r1 = record r { x5 = table } in
      let p0 : sum table 0 ≡ table = grind arith in
      let y0 : next (P m 1 r) ≡ Goes (P m 2 r) = passes m base table stood 1 (listed r) op.Bne 18 0 (pos 8) refl refl (ap not none) in
      let y1 : next (P m 2 r) ≡ Goes (P m 58 r) = hop m base table stood 2 58 (listed r) 0 refl refl (omega arith) (omega arith) in
      let x0 : Runs 2 (P m 58 r) (P m 60 r1) = hole m base table stood 58 (listed r) refl refl refl in
      let x1 : next (P m 60 r1) ≡ Goes (P m 61 (known r)) = ld m base table stood 60 (listed r1) 6 5 (pos 0) failure refl refl (ap (read_at w64 m) p0 ∙ read) in
      runs_step y0 (runs_step y1 (runs_then x0 (runs_step x1 (runs_none _))))

  -- Out of a frame as a failure that is made here; its object is at the place of the frame.
  pub record Failed (m m' : State) (r : Regs) (back link frame : ℕ) (prefix name : List ℕ) : Type 0 where
    pub after : Regs
    pub runs : Runs (6 * (length prefix + length name) + 33) (P m 42 r) (P m' 1 after)
    pub x1 : after.x1 ≡ back
    pub x2 : after.x2 ≡ r.x2
    pub x3 : after.x3 ≡ r.x3 + in_store (length prefix + length name)
    pub x4 : after.x4 ≡ r.x4
    pub x8 : after.x8 ≡ r.x8
    pub x9 : after.x9 ≡ link
    pub x10 : after.x10 ≡ failure
    pub x11 : after.x11 ≡ r.x18
    pub x18 : after.x18 ≡ frame

  pub outward_failed : (m m1 m2 : State) (stood : Stood m.code base table) (r : Regs) (back link frame : ℕ) (prefix name : List ℕ) → read_at w64 m table ≡ Some failure → r.x10 ≢ failure → Parts base table small_table m (linked 48 (known r)) prefix name →
      in_store (length prefix + length name) ≤ r.x4 - r.x3 → Made base table small_table m r.x3 prefix name m1 → r.x18 + 32 < 2 ^ 64 → store_start ≤ r.x18 →
      read_at w64 m1 r.x18 ≡ Some back → read_at w64 m1 (r.x18 + 8) ≡ Some frame → read_at w64 m1 (r.x18 + 16) ≡ Some link → written_at w64 m1 r.x18 r.x3 ≡ Some m2 → Failed m m2 r back link frame prefix name
  outward_failed m m1 m2 stood r back link frame prefix name read other parts room made low high b f l wrote =
      let t = known r in
      let t1 = linked 48 t in
      let x0 = outward_known m stood r read in
      let x1 : next (P m 45 t) ≡ Goes (P m 47 t) = turns m base table stood 45 47 (listed t) op.Bne 10 6 refl refl (omega arith) (omega arith) (differ r.x10 failure other) in
      let x2 : next (P m 47 t) ≡ Goes (P m 72 t1) = hop m base table stood 47 72 (listed t) 30 refl refl (omega arith) (omega arith) in
      let even : address base 48 % 4 ≡ 0 = eqb-true (address base 48 % 4) 0 (aligned base 48 stood.aligned) in
      let small : address base 48 < 2 ^ 64 = omega arith in
      let text = text_made base table small_table m m1 stood t1 prefix name parts refl room made small even in
      let u = text.after in
      let stood1 = stood_stays m m1 base table text.stays stood in
      let image : length m1.image ≤ 0xff00000 = rw text.stays.image parts.image in
      let kept2 : Stays m1 m2 = written_stays w64 m1 m2 r.x18 r.x3 image high (omega arith) wrote in
      let stood2 = stood_stays m1 m2 base table kept2 stood1 in
      let u1 = record u { x1 = back } in
      let u2 = record u1 { x11 = r.x18 } in
      let u3 = record u2 { x9 = link } in
      let u4 = record u3 { x18 = frame } in
      let e : u.x18 ≡ r.x18 = text.x18 in
      let p0 : sum r.x18 0 ≡ r.x18 = grind arith in
      let p1 : sum r.x18 8 ≡ r.x18 + 8 = grind arith in
      let p2 : sum r.x18 16 ≡ r.x18 + 16 = grind arith in
      let y1 : next (P m1 48 u) ≡ Goes (P m1 49 u1) = ld m1 base table stood1 48 (listed u) 1 18 (pos 0) back refl refl (ap (read_at w64 m1) (ap (λ n. sum n 0) e ∙ p0) ∙ b) in
      let y2 : next (P m1 49 u1) ≡ Goes (P m1 50 u2) = imm m1 base table stood1 49 (listed u1) op.Addi 11 18 (pos 0) refl refl ∙ ap (λ n. Goes (P m1 50 (record u1 { x11 = n }))) (ap (λ n. sum n 0) e ∙ p0) in
      let y3 : next (P m1 50 u2) ≡ Goes (P m1 51 u3) = ld m1 base table stood1 50 (listed u2) 9 18 (pos 16) link refl refl (ap (read_at w64 m1) (ap (λ n. sum n 16) e ∙ p2) ∙ l) in
      let y4 : next (P m1 51 u3) ≡ Goes (P m1 52 u4) = ld m1 base table stood1 51 (listed u3) 18 18 (pos 8) frame refl refl (ap (read_at w64 m1) (ap (λ n. sum n 8) e ∙ p1) ∙ f) in
      let y5 : next (P m1 52 u4) ≡ Goes (P m2 53 u4) = sd_goes base table m1 m2 stood1 52 (listed u4) 11 12 r.x18 r.x3 refl refl p0 text.text wrote in
      let y6 : next (P m2 53 u4) ≡ Goes (P m2 1 u4) = hop m2 base table stood2 53 1 (listed u4) 0 refl refl (omega arith) (omega arith) in
      let front : Runs 5 (P m 42 r) (P m 72 t1) = runs_then x0 (runs_step x1 (runs_step x2 (runs_none _))) in
      let last : Runs 6 (P m1 48 u) (P m2 1 u4) = runs_step y1 (runs_step y2 (runs_step y3 (runs_step y4 (runs_step y5 (runs_step y6 (runs_none _)))))) in
      record {
        after = u4;
        runs = subst (λ k. Runs k (P m 42 r) (P m2 1 u4)) (count (length prefix + length name)) (runs_then front (runs_then text.runs last));
        x1 = refl;
        x2 = text.x2;
        x3 = text.store;
        x4 = text.x4;
        x8 = text.x8;
        x9 = refl;
        x10 = text.value;
        x11 = refl;
        x18 = refl;
      }
    where
      count : (n : ℕ) → 5 + (6 * n + 22 + 6) ≡ 6 * n + 33
      count n = omega arith

  -- the store is full
  pub outward_full : (m : State) (stood : Stood m.code base table) (r : Regs) (prefix name : List ℕ) → read_at w64 m table ≡ Some failure → r.x10 ≢ failure → Parts base table small_table m (linked 48 (known r)) prefix name →
      r.x4 - r.x3 < in_store (length prefix + length name) → Called (P m 42 r) 2 14
  outward_full m stood r prefix name read other parts full =
      let t = known r in
      let t1 = linked 48 t in
      let x0 = outward_known m stood r read in
      let x1 : next (P m 45 t) ≡ Goes (P m 47 t) = turns m base table stood 45 47 (listed t) op.Bne 10 6 refl refl (omega arith) (omega arith) (differ r.x10 failure other) in
      let x2 : next (P m 47 t) ≡ Goes (P m 72 t1) = hop m base table stood 47 72 (listed t) 30 refl refl (omega arith) (omega arith) in
      let front : Runs 5 (P m 42 r) (P m 72 t1) = runs_then x0 (runs_step x1 (runs_step x2 (runs_none _))) in
      let end = text_full base table small_table m stood t1 prefix name parts refl full in
      record { state = end.state; runs = runs_then front end.runs; stops = end.stops; number_is = end.number_is }

  -- The run ends as failed, with a text in memory.
  pub record Ends (m : State) (s : State) (text size steps : ℕ) : Type 0 where
    pub state : State
    pub runs : Runs steps s state
    pub stops : next state ≡ Stops trap.Call state
    pub number : register state 17 ≡ 1
    pub from : register state 10 ≡ text + 8
    pub count : register state 11 ≡ size
    pub image : state.image ≡ m.image
    pub store : state.store ≡ m.store
    pub stack : state.stack ≡ m.stack

  halt : (m : State) (stood : Stood m.code base table) (r : Regs) (text size : ℕ) → r.x12 ≡ text → text + 8 < 2 ^ 64 → read_at w64 m text ≡ Some size → Ends m (P m 68 r) text size 3
  halt m stood r text size e small read =
      let r1 = record r { x11 = size } in
      let r2 = record r1 { x10 = text + 8 } in
      let r3 = record r2 { x17 = 1 } in
      let p0 : sum text 0 ≡ text = grind arith in
      let p1 : sum text 8 ≡ text + 8 = grind arith in
      let x0 : next (P m 68 r) ≡ Goes (P m 69 r1) = ld m base table stood 68 (listed r) 11 12 (pos 0) size refl refl (ap (read_at w64 m) (ap (λ n. sum n 0) e ∙ p0) ∙ read) in
      let x1 : next (P m 69 r1) ≡ Goes (P m 70 r2) = imm m base table stood 69 (listed r1) op.Addi 10 12 (pos 8) refl refl ∙ ap (λ n. Goes (P m 70 (record r1 { x10 = n }))) (ap (λ n. sum n 8) e ∙ p1) in
      let x2 : next (P m 70 r2) ≡ Goes (P m 71 r3) = imm m base table stood 70 (listed r2) op.Addi 17 0 (pos 1) refl refl in
      record { state = P m 71 r3; runs = runs_step x0 (runs_step x1 (runs_step x2 (runs_none _))); stops = ecall_stops (P m 71 r3) (stood.plain 71 instr.Ecall refl refl); number = refl; from = refl; count = refl; image = refl; store = refl; stack = refl }

  -- a failure
  pub bottom_failure : (m : State) (stood : Stood m.code base table) (r : Regs) (text size : ℕ) → read_at w64 m table ≡ Some failure → (r.x18 == 0) ≡ true → r.x10 ≡ failure → r.x11 < 2 ^ 64 → read_at w64 m r.x11 ≡ Some text → text + 8 < 2 ^ 64 → read_at w64 m text ≡ Some size →
      Ends m (P m 1 r) text size 11
  bottom_failure m stood r text size read none is low object small sized =
      let t = known r in
      let t1 = record t { x12 = text } in
      let p0 : sum r.x11 0 ≡ r.x11 = grind arith in
      let equal : (r.x10 == failure) ≡ true = grind (arith, nat_tests) in
      let x0 = bottom_known m stood r read none in
      let x1 : next (P m 61 t) ≡ Goes (P m 63 t) = turns m base table stood 61 63 (listed t) op.Beq 10 6 refl refl (omega arith) (omega arith) equal in
      let x2 : next (P m 63 t) ≡ Goes (P m 64 t1) = ld m base table stood 63 (listed t) 12 11 (pos 0) text refl refl (ap (read_at w64 m) p0 ∙ object) in
      let x3 : next (P m 64 t1) ≡ Goes (P m 68 t1) = hop m base table stood 64 68 (listed t1) 0 refl refl (omega arith) (omega arith) in
      let end = halt m stood t1 text size refl small sized in
      record { state = end.state; runs = runs_then x0 (runs_step x1 (runs_step x2 (runs_step x3 end.runs))); stops = end.stops; number = end.number; from = end.from; count = end.count; image = end.image; store = end.store; stack = end.stack }

  -- anything else: the text is made at the start of the stack
  abbrev pub at_stack : Regs → Regs
  at_stack r = record r { x3 = stack_start; x4 = r.x8 }

  pub bottom_other : (m m1 : State) (stood : Stood m.code base table) (r : Regs) (prefix name : List ℕ) → read_at w64 m table ≡ Some failure → (r.x18 == 0) ≡ true → r.x10 ≢ failure → r.x8 < 2 ^ 64 → Parts base table small_table m (linked 68 (at_stack (known r))) prefix name →
      in_store (length prefix + length name) ≤ r.x8 - stack_start → Made base table small_table m stack_start prefix name m1 → read_at w64 m1 stack_start ≡ Some (length prefix + length name) →
      Ends m1 (P m 1 r) stack_start (length prefix + length name) (6 * (length prefix + length name) + 35)
  bottom_other m m1 stood r prefix name read none other low parts room made sized =
      let t = known r in
      let t1 = record t { x3 = stack_start } in
      let t2 = at_stack t in
      let t3 = linked 68 t2 in
      let p0 : sum r.x8 0 ≡ r.x8 = grind arith in
      let x0 = bottom_known m stood r read none in
      let x1 : next (P m 61 t) ≡ Goes (P m 62 t) = passes m base table stood 61 (listed t) op.Beq 10 6 (pos 8) refl refl (differ' r.x10 failure other) in
      let x2 : next (P m 62 t) ≡ Goes (P m 65 t) = hop m base table stood 62 65 (listed t) 0 refl refl (omega arith) (omega arith) in
      let x3 : next (P m 65 t) ≡ Goes (P m 66 t1) = lui m base table stood 65 (listed t) 3 (pos 0x2000_0000) refl refl in
      let x4 : next (P m 66 t1) ≡ Goes (P m 67 t2) = imm m base table stood 66 (listed t1) op.Addi 4 8 (pos 0) refl refl ∙ ap (λ n. Goes (P m 67 (record t1 { x4 = n }))) p0 in
      let x5 : next (P m 67 t2) ≡ Goes (P m 72 t3) = hop m base table stood 67 72 (listed t2) 30 refl refl (omega arith) (omega arith) in
      let front : Runs 10 (P m 1 r) (P m 72 t3) = runs_then x0 (runs_step x1 (runs_step x2 (runs_step x3 (runs_step x4 (runs_step x5 (runs_none _)))))) in
      let even : address base 68 % 4 ≡ 0 = eqb-true (address base 68 % 4) 0 (aligned base 68 stood.aligned) in
      let text = text_made base table small_table m m1 stood t3 prefix name parts refl room made (omega arith) even in
      let end = halt m1 (stood_stays m m1 base table text.stays stood) text.after stack_start (length prefix + length name) text.text (omega arith) sized in
      record { state = end.state; runs = subst (λ k. Runs k (P m 1 r) end.state) (count (length prefix + length name)) (runs_then front (runs_then text.runs end.runs)); stops = end.stops; number = end.number; from = end.from; count = end.count; image = end.image; store = end.store; stack = end.stack }
    where
      count : (n : ℕ) → 10 + (6 * n + 22 + 3) ≡ 6 * n + 35
      count n = omega arith
