-- A step leaves the stack its size.
use Rattle.std.proofs.Common.{◌≡◌, ℕ, zero, suc, ◌+◌, ◌-◌, ◌/◌, ◌%◌, ◌^◌, ◌≤◌, eqb, ltb, leb, Bool, true, false, cond, List, [], ◌∷◌, ◌++◌, length, take, drop, Option, Some, None, refl, sym, ap, ◌∙◌, subst, arith, length-append, length-drop}
use Rattle.std.specs.Prelude.{MatchBool, option_map, slice_get, slice_set}
use Rattle.std.specs.Int.{Width, byte_len, to_le_bytes, w8, w16, w32, w64, w128}
use Rattle.std.proofs.lemmas.Bool.{and_parts, leb-true}
use Rattle.std.proofs.lemmas.List.{length-take-le}
use Rattle.rv_isa.specs.declared.instr.Instr.{Instr}
use Rattle.rv_isa.specs.declared.instr.Instr.TheVariants as instr
use Rattle.rv_isa.specs.declared.op.Op.{Op}
use Rattle.rv_isa.specs.declared.op.Op.TheVariants as op
use Rattle.rv_machine.specs.declared.call.Call.{Call}
use Rattle.rv_machine.specs.declared.call.Call.TheVariants as call
use Rattle.rv_machine.specs.declared.ending.Ending.{Ending}
use Rattle.rv_machine.specs.declared.memory.Location.{Location}
use Rattle.rv_machine.specs.declared.memory.Location.TheVariants.{Image, Store, Stack}
use Rattle.rv_machine.specs.declared.trap.Trap.{Trap}
use Rattle.rv_machine.specs.declared.trap.Trap.TheVariants as trap
use Rattle.rv_machine.specs.Calls.{Configuration, call_of, failed, peeked, range_of, served, took, with_answer, wrote}
use Rattle.rv_machine.specs.Emulation.{after, stepped, stepped_unless, trapped}
use Rattle.rv_machine.specs.Snapshot.{Does, IsAfter, IsPrefix, Snapshot, configuration, is_fault}
use Rattle.rv_machine.specs.State.{State, accessed, image_start, is_inside, location_of, register, stack_start, store_start, stored, with_number, with_register, with_written, written_at}
use Rattle.rv_machine.specs.Steps.{Next, Goes, Stops, branch, executed, fetched, jump, next, next_pc, put, put_loaded, put_saved, saved, word_of}
use Rattle.rv_machine.specs.Values.{is_taken, sum}

abbrev HasSize : ℕ → Next → Type 0
HasSize n (Goes s) = length s.stack ≡ n
HasSize n (Stops t s) = length s.stack ≡ n

abbrev KeepsSize : ℕ → Option State → Type 0
KeepsSize n None = Unit {0}
KeepsSize n (Some s) = length s.stack ≡ n

-- ---- registers and jumps

registers_kept : (s : State) (r n : ℕ) → (with_register s r n).stack ≡ s.stack
registers_kept s r n = elim (eqb r 0) as (λ test. (cond {A = State} test s (record s { registers = slice_set s.registers r n })).stack ≡ s.stack) [ true ↦ refl | false ↦ refl ]

put_kept : (s : State) (rd n : ℕ) → HasSize (length s.stack) (put s rd n)
put_kept s rd n = ap length (registers_kept s rd n)

jump_kept : (s : State) (rd target : ℕ) → HasSize (length s.stack) (jump s rd target)
jump_kept s rd target = elim (eqb (target % 4) 0) as (λ test. HasSize (length s.stack) (cond {A = Next} test (Goes (record (with_register s rd (next_pc s)) { pc = target })) (Stops (trap.Jump target) s))) [ true ↦ ap length (registers_kept s rd (next_pc s)) | false ↦ refl ]

branch_kept : (s : State) (taken : Bool) (target : ℕ) → HasSize (length s.stack) (branch s taken target)
branch_kept s true target = elim (eqb (target % 4) 0) as (λ test. HasSize (length s.stack) (cond {A = Next} test (Goes (record s { pc = target })) (Stops (trap.Jump target) s))) [ true ↦ refl | false ↦ refl ]
branch_kept s false target = refl

loaded_kept : (s : State) (rd at : ℕ) (o : Option ℕ) → HasSize (length s.stack) (put_loaded s rd at o)
loaded_kept s rd at None = refl
loaded_kept s rd at (Some n) = put_kept s rd n

-- ---- stores

bytes_of_width : (w : Width) (n : ℕ) → length (to_le_bytes w n) ≡ byte_len w
bytes_of_width w8 n = refl
bytes_of_width w16 n = refl
bytes_of_width w32 n = refl
bytes_of_width w64 n = refl
bytes_of_width w128 n = refl

number_kept : (w : Width) (bytes : List ℕ) (at n : ℕ) → at + byte_len w ≤ length bytes → length (with_number w bytes at n) ≡ length bytes
number_kept w bytes at n within =
    let below : at ≤ length bytes = omega (arith, within) in
    let whole = length-append (take at bytes ++ to_le_bytes w n) (drop (at + byte_len w) bytes) in
    let front = length-append (take at bytes) (to_le_bytes w n) in
    let first : length (take at bytes) ≡ at = length-take-le at bytes below in
    let middle : length (to_le_bytes w n) ≡ byte_len w = bytes_of_width w n in
    let rest : length (drop (at + byte_len w) bytes) ≡ length bytes - (at + byte_len w) = length-drop (at + byte_len w) bytes in
    omega (arith, whole, front, first, middle, rest, within)

inside_stack : (s : State) (at count : ℕ) → is_inside stack_start s.stack at count ≡ true → (at - stack_start) + count ≤ length s.stack
inside_stack s at count inside =
    let both = and_parts (leb stack_start at) (leb (at + count) (stack_start + length s.stack)) inside in
    let above : stack_start ≤ at = leb-true stack_start at both.0 in
    let within : at + count ≤ stack_start + length s.stack = leb-true (at + count) (stack_start + length s.stack) both.1 in
    omega (arith, above, within)

-- by the region in which the address lies
located_kept : (w : Width) (s : State) (at n : ℕ) (a b c : Bool) → is_inside stack_start s.stack at (byte_len w) ≡ c
    → KeepsSize (length s.stack) (option_map (with_written w s n) (cond a (Some (Image (at - image_start))) (cond b (Some (Store (at - store_start))) (cond c (Some (Stack (at - stack_start))) None))))
located_kept w s at n true b c is = refl
located_kept w s at n false true c is = refl
located_kept w s at n false false true is = number_kept w s.stack (at - stack_start) n (inside_stack s at (byte_len w) is)
located_kept w s at n false false false is = tt

location_kept : (w : Width) (s : State) (at n : ℕ) → KeepsSize (length s.stack) (option_map (with_written w s n) (location_of s at (byte_len w)))
location_kept w s at n =
    located_kept w s at n (is_inside image_start s.image at (byte_len w)) (is_inside store_start s.store at (byte_len w)) (is_inside stack_start s.stack at (byte_len w)) refl

accessed_kept : (w : Width) (s : State) (at n : ℕ) → KeepsSize (length s.stack) (option_map (with_written w s n) (accessed s at (byte_len w)))
accessed_kept w s at n = elim (eqb (at % byte_len w) 0) as (λ test. KeepsSize (length s.stack) (option_map (with_written w s n) (cond test (location_of s at (byte_len w)) None))) [ true ↦ location_kept w s at n | false ↦ tt ]

written_kept : (w : Width) (s : State) (at n : ℕ) → KeepsSize (length s.stack) (written_at w s at n)
written_kept w s at n = elim (leb s.data_start at) as (λ test. KeepsSize (length s.stack) (option_map (with_written w s n) (cond test (accessed s at (byte_len w)) None))) [ true ↦ accessed_kept w s at n | false ↦ tt ]

saved_kept : (o : Op) (s : State) (at n : ℕ) → KeepsSize (length s.stack) (saved o s at n)
saved_kept op.Sb s at n = written_kept w8 s at (n % 2 ^ 8)
saved_kept op.Sh s at n = written_kept w16 s at (n % 2 ^ 16)
saved_kept op.Sw s at n = written_kept w32 s at (n % 2 ^ 32)
saved_kept op.Sd s at n = written_kept w64 s at n
saved_kept _ s at n = tt

put_saved_kept : (s : State) (at : ℕ) (o : Option State) → KeepsSize (length s.stack) o → HasSize (length s.stack) (put_saved s at o)
put_saved_kept s at None kept = refl
put_saved_kept s at (Some later) kept = kept

-- ---- a step of the hart

executed_kept : (i : Instr) (s : State) → HasSize (length s.stack) (executed i s)
unfolding executed
executed_kept (instr.Upper o rd imm) s = put_kept s rd _
executed_kept (instr.Jal rd imm) s = jump_kept s rd _
executed_kept (instr.Jalr rd rs1 imm) s = jump_kept s rd _
executed_kept (instr.Branch o rs1 rs2 imm) s = branch_kept s (is_taken o (register s rs1) (register s rs2)) (sum s.pc (word_of imm))
executed_kept (instr.Load o rd rs1 imm) s = loaded_kept s rd _ _
executed_kept (instr.Save o rs1 rs2 imm) s = put_saved_kept s _ _ (saved_kept o s _ (register s rs2))
executed_kept (instr.Imm o rd rs1 imm) s = put_kept s rd _
executed_kept (instr.Three o rd rs1 rs2) s = put_kept s rd _
executed_kept (instr.Fence rd rs1 imm) s = refl
executed_kept instr.Ecall s = refl
executed_kept instr.Ebreak s = refl

fetched_kept : (o : Option (Option Instr)) (s : State) → HasSize (length s.stack) (fetched o s)
fetched_kept None s = refl
fetched_kept (Some None) s = refl
fetched_kept (Some (Some i)) s = executed_kept i s

next_kept : (s : State) → HasSize (length s.stack) (next s)
unfolding next
next_kept s = elim (ltb s.pc image_start) as (λ test. HasSize (length s.stack) (cond {A = Next} test (Stops (trap.Jump s.pc) s) (fetched (slice_get s.code ((s.pc - image_start) / 4)) s))) [ true ↦ refl | false ↦ fetched_kept (slice_get s.code ((s.pc - image_start) / 4)) s ]

-- ---- a step of the machine

failed_kept : (text : Option (List ℕ)) (c : Configuration) → length (failed text c).state.stack ≡ length c.state.stack
failed_kept None c = refl
failed_kept (Some text) c = refl

wrote_kept : (bytes : Option (List ℕ)) (c : Configuration) → length (wrote bytes c).state.stack ≡ length c.state.stack
wrote_kept None c = refl
wrote_kept (Some bytes) c = refl

answer_kept : (n : ℕ) (c : Configuration) → length (with_answer n c).state.stack ≡ length c.state.stack
answer_kept n c = ap length (registers_kept c.state 10 n)

took_kept : (input : List ℕ) (c : Configuration) → length (took input c).state.stack ≡ length c.state.stack
took_kept [] c = answer_kept (2 ^ 64 - 1) c
took_kept (b ∷ rest) c = answer_kept b (record c { input = rest })

peeked_kept : (input : List ℕ) (c : Configuration) → length (peeked input c).state.stack ≡ length c.state.stack
peeked_kept [] c = answer_kept (2 ^ 64 - 1) c
peeked_kept (b ∷ rest) c = answer_kept b c

served_kept : (k : Call) (c : Configuration) → length (served k c).state.stack ≡ length c.state.stack
served_kept call.Return c = refl
served_kept call.Fail c = failed_kept (range_of c.state) c
served_kept call.StoreFull c = refl
served_kept call.StackFull c = refl
served_kept call.Write c = wrote_kept (range_of c.state) c
served_kept call.Take c = took_kept c.input c
served_kept call.Peek c = peeked_kept c.input c
served_kept (call.Unknown n) c = refl

trapped_kept : (t : Trap) (c : Configuration) → length (trapped t c).state.stack ≡ length c.state.stack
trapped_kept (trap.Instruction pc) c = refl
trapped_kept (trap.Access address) c = refl
trapped_kept (trap.Jump target) c = refl
trapped_kept trap.Call c = served_kept (call_of (register c.state 17)) c

after_kept : (n : ℕ) (step : Next) (c : Configuration) → HasSize n step → length (after step c).state.stack ≡ n
after_kept n (Goes s) c kept = kept
after_kept n (Stops t s) c kept = trapped_kept t (record c { state = s }) ∙ kept

unless_kept : (e : Option Ending) (c : Configuration) → length (stepped_unless e c).state.stack ≡ length c.state.stack
unless_kept None c = after_kept (length c.state.stack) (next c.state) c (next_kept c.state)
unless_kept (Some e) c = refl

-- where the run has not ended, the machine is as meant
live_after : (meant now : Configuration) → now.ended ≡ None → IsAfter meant now → now ≡ meant
live_after meant now live after =
    let none : is_fault now.ended ≡ false = ap is_fault live in
    subst (λ b. MatchBool b (IsPrefix now.output meant.output) (now ≡ meant)) none after

-- a step that did not end the run
pub kept_by : (old new : Snapshot) (left written left' written' : Option (List ℕ))
    → Does (λ i o. stepped (configuration old i o)) old left written new left' written' → new.ended ≡ None → length new.state.stack ≡ length old.state.stack
kept_by old new left written left' written' did live =
    let there = did.does [] [] in
    let now = live_after _ _ live there.1 in
    ap (λ (c : Configuration). length c.state.stack) now ∙ unless_kept old.ended _
