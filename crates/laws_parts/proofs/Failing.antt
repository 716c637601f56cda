-- A failure is made of an exception, and the run ends at the bottom.
use Rattle.std.proofs.Common.{◌≡◌, ◌∙◌, ℕ, pos, negsuc, ◌+◌, ◌-◌, ◌*◌, ◌/◌, ◌%◌, ◌^◌, ◌<◌, ◌≤◌, List, length, Some, refl, ap, subst, arith}
use Rattle.std.specs.Prelude.{bit_and}
use Rattle.std.specs.Int.{w64}
use Rattle.std.proofs.lemmas.Bool.Decides.{nat_tests}
use Rattle.std.proofs.lemmas.Nat.Bits.{and_high_mask}
use Rattle.rv_isa.specs.declared.instr.Instr.TheVariants as instr
use Rattle.rv_isa.specs.declared.op.Op.TheVariants as op
use Rattle.rv_machine.specs.State.{State, register, store_start, read_at, written_at}
use Rattle.rv_machine.specs.declared.trap.Trap.TheVariants as trap
use Rattle.rv_machine.specs.Steps.{Goes, Stops, executed, next, word_of}
use Rattle.rv_machine.specs.Values.{sum}
use Rattle.laws_selection.specs.Running.{At}
use Rattle.laws_parts.proofs.Searching.{imm, jumps, ld, passes, runs_none, runs_step, runs_then, three, turns}
use Rattle.laws_parts.proofs.Texting.{Bytes, Source, Stays, copiedName, copiedPrefix, sd_goes, source_stays, stays_then, stood_stays, written_stays}
use Rattle.laws_parts.specs.Part.{Regs, Runs, Stood, listed, place}

pub ecall_stops : (s : State) → At s.code s.pc instr.Ecall → next s ≡ Stops trap.Call s
unfolding next executed
ecall_stops s at = rw (at.inside, at.found) refl

-- a call of the environment
pub record Called (s : State) (number steps : ℕ) : Type 0 where
  pub state : State
  pub runs : Runs steps s state
  pub stops : next state ≡ Stops trap.Call state
  pub number_is : register state 17 ≡ number

abbrev pub in_store : ℕ → ℕ
in_store total = (total + 15) / 8 * 8

module _ (base table : ℕ) (small_table : table + 16 < 2 ^ 64) where
  abbrev P : State → ℕ → Regs → State
  P m k r = place m base k (listed r)

  -- what the text of a failure is made of
  pub record Parts (m : State) (r : Regs) (prefix name : List ℕ) : Type 0 where
    pub image : length m.image ≤ 0xff00000
    pub at : ℕ
    pub unhandled : read_at w64 m (table + 8) ≡ Some at
    pub prefix_size : read_at w64 m at ≡ Some (length prefix)
    pub prefix_room : at + 8 + length prefix + 1 < 2 ^ 64
    pub prefix_bytes : Source prefix m (at + 8)
    pub name_size : read_at w64 m r.x10 ≡ Some (length name)
    pub name_room : r.x10 + 8 + length name + 1 < 2 ^ 64
    pub name_bytes : Source name m (r.x10 + 8)
    pub failure : r.x6 < 2 ^ 64
    pub store : store_start ≤ r.x3
    pub order : r.x3 ≤ r.x4
    pub end : r.x4 < 2 ^ 64
    pub short : r.x3 + 8 + (length prefix + length name) + 24 < 2 ^ 64

  -- the text in the store: its size, and its bytes
  pub record Made (m : State) (to : ℕ) (prefix name : List ℕ) (m' : State) : Type 0 where
    pub sized : State
    pub size : written_at w64 m to (length prefix + length name) ≡ Some sized
    pub half : State
    pub prefix_put : Bytes prefix sized (to + 8) half
    pub name_put : Bytes name half (to + 8 + length prefix) m'

  pub record Text (m m' : State) (r : Regs) (prefix name : List ℕ) : Type 0 where
    pub after : Regs
    pub runs : Runs (6 * (length prefix + length name) + 22) (P m 72 r) (record m' { pc = r.x30; registers = listed after })
    pub stays : Stays m m'
    pub text : after.x12 ≡ r.x3
    pub store : after.x3 ≡ r.x3 + in_store (length prefix + length name)
    pub value : after.x10 ≡ r.x6
    pub x1 : after.x1 ≡ r.x1
    pub x2 : after.x2 ≡ r.x2
    pub x4 : after.x4 ≡ r.x4
    pub x8 : after.x8 ≡ r.x8
    pub x9 : after.x9 ≡ r.x9
    pub x11 : after.x11 ≡ r.x11
    pub x18 : after.x18 ≡ r.x18

  record Asked (m : State) (r : Regs) (prefix name : List ℕ) (p : Parts m r prefix name) : Type 0 where
    after : Regs
    runs : Runs 7 (P m 72 r) (P m 79 after)
    a5 : after.x5 ≡ p.at
    a6 : after.x6 ≡ r.x6
    a28 : after.x28 ≡ length prefix
    a29 : after.x29 ≡ length name
    a13 : after.x13 ≡ length prefix + length name
    a14 : after.x14 ≡ in_store (length prefix + length name)
    a15 : after.x15 ≡ r.x4 - r.x3
    x1 : after.x1 ≡ r.x1
    x2 : after.x2 ≡ r.x2
    x3 : after.x3 ≡ r.x3
    x4 : after.x4 ≡ r.x4
    x8 : after.x8 ≡ r.x8
    x9 : after.x9 ≡ r.x9
    x10 : after.x10 ≡ r.x10
    x11 : after.x11 ≡ r.x11
    x18 : after.x18 ≡ r.x18
    x30 : after.x30 ≡ r.x30

  masked : (total : ℕ) → total + 15 < 2 ^ 64 → bit_and (sum total 15) (word_of (negsuc 7)) ≡ in_store total
  masked total h = let e : sum total 15 ≡ total + 15 = grind arith in ap (λ n. bit_and n (word_of (negsuc 7))) e ∙ and_high_mask 64 3 (omega arith) (total + 15) h

  asked : (m : State) (stood : Stood m.code base table) (r : Regs) (prefix name : List ℕ) (p : Parts m r prefix name) → r.x5 ≡ table → Asked m r prefix name p
  asked m stood r prefix name p e5 =
      let short = p.short in
      let order = p.order in
      let end = p.end in
      let proom = p.prefix_room in
      let nroom = p.name_room in
      let total = length prefix + length name in
      let r1 = record r { x5 = p.at } in
      let r2 = record r1 { x28 = length prefix } in
      let r3 = record r2 { x29 = length name } in
      let r4 = record r3 { x13 = total } in
      let r5 = record r4 { x14 = sum total 15 } in
      let r6 = record r5 { x14 = in_store total } in
      let r7 = record r6 { x15 = r.x4 - r.x3 } in
      let p1 : sum table 8 ≡ table + 8 = grind arith in
      let p2 : sum p.at 0 ≡ p.at = grind arith in
      let p3 : sum r.x10 0 ≡ r.x10 = grind arith in
      let p4 : sum (length prefix) (length name) ≡ total = grind arith in
      let p7 : (r.x4 + 2 ^ 64 - r.x3) % 2 ^ 64 ≡ r.x4 - r.x3 = grind arith in
      let x1 : next (P m 72 r) ≡ Goes (P m 73 r1) = ld m base table stood 72 (listed r) 5 5 (pos 8) p.at refl refl (ap (read_at w64 m) (ap (λ n. sum n 8) e5 ∙ p1) ∙ p.unhandled) in
      let x2 : next (P m 73 r1) ≡ Goes (P m 74 r2) = ld m base table stood 73 (listed r1) 28 5 (pos 0) (length prefix) refl refl (ap (read_at w64 m) p2 ∙ p.prefix_size) in
      let x3 : next (P m 74 r2) ≡ Goes (P m 75 r3) = ld m base table stood 74 (listed r2) 29 10 (pos 0) (length name) refl refl (ap (read_at w64 m) p3 ∙ p.name_size) in
      let x4 : next (P m 75 r3) ≡ Goes (P m 76 r4) = three m base table stood 75 (listed r3) op.Add 13 28 29 refl refl ∙ ap (λ n. Goes (P m 76 (record r3 { x13 = n }))) p4 in
      let x5 : next (P m 76 r4) ≡ Goes (P m 77 r5) = imm m base table stood 76 (listed r4) op.Addi 14 13 (pos 15) refl refl in
      let x6 : next (P m 77 r5) ≡ Goes (P m 78 r6) = imm m base table stood 77 (listed r5) op.Andi 14 14 (negsuc 7) refl refl ∙ ap (λ n. Goes (P m 78 (record r5 { x14 = n }))) (masked total (omega arith)) in
      let x7 : next (P m 78 r6) ≡ Goes (P m 79 r7) = three m base table stood 78 (listed r6) op.Sub 15 4 3 refl refl ∙ ap (λ n. Goes (P m 79 (record r6 { x15 = n }))) p7 in
      record {
        after = r7;
        runs = runs_step x1 (runs_step x2 (runs_step x3 (runs_step x4 (runs_step x5 (runs_step x6 (runs_step x7 (runs_none _)))))));
        a5 = refl;
        a6 = refl;
        a28 = refl;
        a29 = refl;
        a13 = refl;
        a14 = refl;
        a15 = refl;
        x1 = refl;
        x2 = refl;
        x3 = refl;
        x4 = refl;
        x8 = refl;
        x9 = refl;
        x10 = refl;
        x11 = refl;
        x18 = refl;
        x30 = refl;
      }

  -- the store is full
  pub text_full : (m : State) (stood : Stood m.code base table) (r : Regs) (prefix name : List ℕ) → Parts m r prefix name → r.x5 ≡ table → r.x4 - r.x3 < in_store (length prefix + length name) → Called (P m 72 r) 2 9
  text_full m stood r prefix name p e5 full =
      let a = asked m stood r prefix name p e5 in
      let t = a.after in
      let t1 = record t { x17 = 2 } in
      let x0 : next (P m 79 t) ≡ Goes (P m 80 t) = passes m base table stood 79 (listed t) op.Bgeu 15 14 (pos 12) refl refl (rw (a.a14, a.a15) (grind (arith, nat_tests))) in
      let x1 : next (P m 80 t) ≡ Goes (P m 81 t1) = imm m base table stood 80 (listed t) op.Addi 17 0 (pos 2) refl refl in
      record { state = P m 81 t1; runs = runs_then a.runs (runs_step x0 (runs_step x1 (runs_none _))); stops = ecall_stops (P m 81 t1) (stood.plain 81 instr.Ecall refl refl); number_is = refl }

  -- the text is made
  pub text_made : (m m' : State) (stood : Stood m.code base table) (r : Regs) (prefix name : List ℕ) → Parts m r prefix name → r.x5 ≡ table → in_store (length prefix + length name) ≤ r.x4 - r.x3 → Made m r.x3 prefix name m' → r.x30 < 2 ^ 64 → r.x30 % 4 ≡ 0 →
      Text m m' r prefix name
  text_made m m' stood r prefix name p e5 room made low even =
      let short = p.short in
      let order = p.order in
      let end = p.end in
      let proom = p.prefix_room in
      let nroom = p.name_room in
      let high = p.store in
      let total = length prefix + length name in
      let a = asked m stood r prefix name p e5 in
      let t = a.after in
      let m1 = made.sized in
      let m2 = made.half in
      let kept1 : Stays m m1 = written_stays w64 m m1 r.x3 total p.image high (omega arith) made.size in
      let stood1 = stood_stays m m1 base table kept1 stood in
      let t1 = record t { x12 = r.x3 } in
      let t2 = record t1 { x3 = r.x3 + in_store total } in
      let t3 = record t2 { x14 = r.x3 + 8 } in
      let t4 = record t3 { x5 = p.at + 8 } in
      let t5 = record t4 { x28 = p.at + 8 + length prefix } in
      let bound : in_store total ≤ total + 15 = omega arith in
      let q1 : sum r.x3 0 ≡ r.x3 = grind arith in
      let q2 : sum r.x3 (in_store total) ≡ r.x3 + in_store total = grind arith in
      let q3 : sum r.x3 8 ≡ r.x3 + 8 = grind arith in
      let q4 : sum p.at 8 ≡ p.at + 8 = grind arith in
      let q5 : sum (length prefix) (p.at + 8) ≡ p.at + 8 + length prefix = grind arith in
      let x0 : next (P m 79 t) ≡ Goes (P m 82 t) = turns m base table stood 79 82 (listed t) op.Bgeu 15 14 refl refl (omega arith) (omega arith) (rw (a.a14, a.a15) (grind (arith, nat_tests))) in
      let x1 : next (P m 82 t) ≡ Goes (P m 83 t1) = imm m base table stood 82 (listed t) op.Addi 12 3 (pos 0) refl refl ∙ ap (λ n. Goes (P m 83 (record t { x12 = n }))) (ap (λ n. sum n 0) a.x3 ∙ q1) in
      let x2 : next (P m 83 t1) ≡ Goes (P m 84 t2) = three m base table stood 83 (listed t1) op.Add 3 3 14 refl refl ∙ ap (λ n. Goes (P m 84 (record t1 { x3 = n }))) (ap (λ n. sum n t.x14) a.x3 ∙ ap (sum r.x3) a.a14 ∙ q2) in
      let x3 : next (P m 84 t2) ≡ Goes (P m1 85 t2) = sd_goes base table m m1 stood 84 (listed t2) 12 13 r.x3 total refl refl q1 a.a13 made.size in
      let x4 : next (P m1 85 t2) ≡ Goes (P m1 86 t3) = imm m1 base table stood1 85 (listed t2) op.Addi 14 12 (pos 8) refl refl ∙ ap (λ n. Goes (P m1 86 (record t2 { x14 = n }))) q3 in
      let x5 : next (P m1 86 t3) ≡ Goes (P m1 87 t4) = imm m1 base table stood1 86 (listed t3) op.Addi 5 5 (pos 8) refl refl ∙ ap (λ n. Goes (P m1 87 (record t3 { x5 = n }))) (ap (λ n. sum n 8) a.a5 ∙ q4) in
      let x6 : next (P m1 87 t4) ≡ Goes (P m1 88 t5) = three m1 base table stood1 87 (listed t4) op.Add 28 28 5 refl refl ∙ ap (λ n. Goes (P m1 88 (record t4 { x28 = n }))) (ap (λ n. sum n (p.at + 8)) a.a28 ∙ q5) in
      let first : Runs 14 (P m 72 r) (P m1 88 t5) = runs_then a.runs (runs_step x0 (runs_step x1 (runs_step x2 (runs_step x3 (runs_step x4 (runs_step x5 (runs_step x6 (runs_none _)))))))) in
      let c = copiedPrefix base table prefix m1 m2 stood1 t5 (p.at + 8) (r.x3 + 8) (rw kept1.image p.image) (omega arith) refl refl refl (omega arith) (omega arith) (source_stays prefix m m1 (p.at + 8) kept1 p.prefix_bytes) made.prefix_put in
      let u = c.after in
      let kept2 : Stays m m2 = stays_then kept1 c.stays in
      let stood2 = stood_stays m m2 base table kept2 stood in
      let u1 = record u { x10 = r.x10 + 8 } in
      let u2 = record u1 { x29 = r.x10 + 8 + length name } in
      let q6 : sum r.x10 8 ≡ r.x10 + 8 = grind arith in
      let q7 : sum (length name) (r.x10 + 8) ≡ r.x10 + 8 + length name = grind arith in
      let y1 : next (P m2 95 u) ≡ Goes (P m2 96 u1) = imm m2 base table stood2 95 (listed u) op.Addi 10 10 (pos 8) refl refl ∙ ap (λ n. Goes (P m2 96 (record u { x10 = n }))) (ap (λ n. sum n 8) (c.x10 ∙ a.x10) ∙ q6) in
      let y2 : next (P m2 96 u1) ≡ Goes (P m2 97 u2) = three m2 base table stood2 96 (listed u1) op.Add 29 29 10 refl refl ∙ ap (λ n. Goes (P m2 97 (record u1 { x29 = n }))) (ap (λ n. sum n (r.x10 + 8)) (c.x29 ∙ a.a29) ∙ q7) in
      let d = copiedName base table name m2 m' stood2 u2 (r.x10 + 8) (r.x3 + 8 + length prefix) (rw kept2.image p.image) (omega arith) refl refl c.to_is (omega arith) (omega arith) (source_stays name m m2 (r.x10 + 8) kept2 p.name_bytes) made.name_put in
      let v = d.after in
      let kept3 : Stays m m' = stays_then kept2 d.stays in
      let stood3 = stood_stays m m' base table kept3 stood in
      let v1 = record v { x10 = r.x6 } in
      let six : v.x6 ≡ r.x6 = d.x6 ∙ c.x6 ∙ a.a6 in
      let link : v.x30 ≡ r.x30 = d.x30 ∙ c.x30 ∙ a.x30 in
      let z1 : next (P m' 104 v) ≡ Goes (P m' 105 (record v { x10 = sum v.x6 0 })) = imm m' base table stood3 104 (listed v) op.Addi 10 6 (pos 0) refl refl in
      let w1 = record v { x10 = sum v.x6 0 } in
      let z2 : next (P m' 105 w1) ≡ Goes (record m' { pc = r.x30; registers = listed w1 }) = jumps m' base table stood3 105 (listed w1) 30 r.x30 refl refl link low even in
      let last : Runs 2 (P m' 104 v) (record m' { pc = r.x30; registers = listed w1 }) = runs_step z1 (runs_step z2 (runs_none _)) in
      let second : Runs 2 (P m2 95 u) (P m2 97 u2) = runs_step y1 (runs_step y2 (runs_none _)) in
      record {
        after = w1;
        runs = subst (λ k. Runs k (P m 72 r) (record m' { pc = r.x30; registers = listed w1 })) (count (length prefix) (length name)) (runs_then first (runs_then c.runs (runs_then second (runs_then d.runs last))));
        stays = kept3;
        text = d.x12 ∙ c.x12;
        store = d.x3 ∙ c.x3;
        value = ap (λ n. sum n 0) six ∙ whole r.x6 p.failure;
        x1 = d.x1 ∙ c.x1 ∙ a.x1;
        x2 = d.x2 ∙ c.x2 ∙ a.x2;
        x4 = d.x4 ∙ c.x4 ∙ a.x4;
        x8 = d.x8 ∙ c.x8 ∙ a.x8;
        x9 = d.x9 ∙ c.x9 ∙ a.x9;
        x11 = d.x11 ∙ c.x11 ∙ a.x11;
        x18 = d.x18 ∙ c.x18 ∙ a.x18;
      }
    where
      count : (a b : ℕ) → 14 + (6 * a + 2 + (2 + (6 * b + 2 + 2))) ≡ 6 * (a + b) + 22
      count a b = omega arith

      whole : (n : ℕ) → n < 2 ^ 64 → sum n 0 ≡ n
      whole n l = grind arith
