-- The test whether the stack has room: the run ends before anything is written past its end.
use Rattle.std.proofs.Common.{◌≡◌, ◌∙◌, ℕ, pos, ◌^◌, ◌<◌, Bool, true, false, length, slice_get, Some, None, refl, ap, sym, subst, arith}
use Rattle.std.specs.Prelude.{nat_le}
use Rattle.std.proofs.lemmas.List.{get_or-set_same}
use Rattle.clu_wir.specs.Value.{View}
use Rattle.clu_wir.specs.declared.hole.HoleKind.{HoleKind}
use Rattle.rv_isa.specs.declared.instr.Instr.{Instr}
use Rattle.rv_isa.specs.declared.instr.Instr.TheVariants as instr
use Rattle.rv_isa.specs.declared.op.Op.TheVariants as op
use Rattle.rv_machine.specs.declared.trap.Trap.TheVariants as trap
use Rattle.rv_machine.specs.State.{State, register}
use Rattle.rv_machine.specs.Steps.{Stops, executed, next, word_of}
use Rattle.rv_machine.specs.Values.{sum}
use Rattle.rv_select.specs.declared.register.Register.TheVariants as name
use Rattle.rv_select.specs.Steps.{room_onto}
use Rattle.rv_select.specs.Written.{Written, branch_onto, emitted, fresh}
use Rattle.laws_selection.specs.Evaluating.{Here, Went}
use Rattle.laws_selection.specs.Growing.{Adds, Front, address}
use Rattle.laws_selection.specs.Holding.{Calls}
use Rattle.laws_selection.specs.Running.{At, Code, Reaches}
use Rattle.laws_selection.proofs.Evaluating.{next_address}
use Rattle.laws_selection.proofs.Growing.{Stood, adds_then, emitted_adds, emitted_length, fresh_adds, fresh_label, front_adds, front_placed, placed_length, placed_there, referred_adds, sound_then}
use Rattle.laws_selection.proofs.Jumping.{branch_by, fresh_here, inside}
use Rattle.laws_selection.proofs.Running.{imm_goes, reaches_one, reaches_then, with_word}

pub ecall_stops : (s : State) → At s.code s.pc instr.Ecall → next s ≡ Stops trap.Call s
unfolding next executed
ecall_stops s at = rw (at.inside, at.found) refl

-- the call of the environment that ends a run, after some steps
pub record Full (s : State) : Type 0 where
  pub state : State
  pub reaches : Reaches s state
  pub calls : Calls 3 state

module _ (view : View) (image : Code) (base : ℕ) (W : Written) (hole : HoleKind → ℕ → ℕ) (stands : Stood W image base hole) (is_leaf : Bool) (few : length W.code < 2 ^ 32) where
  abbrev pub Room : ℕ → Written → State → Bool → Type 0
  Room kept v s true = Went view image base hole is_leaf kept v s true (length v.code)
  Room kept v s false = Full s

  pub room_goes : (kept : ℕ) (w : Written) (s : State) → Here view image base hole is_leaf w s → Front (room_onto w) W → (so : Bool) → nat_le (register s 6) (register s 8) ≡ so → Room kept (room_onto w) s so
  room_goes kept w s h f so e =
      by so (branch_by view image base W hole stands is_leaf few kept w1 s op.Bgeu name.StackEnd name.Second l (length w4.code) so (fresh_here view image base W hole stands is_leaf few w s h) f2 over short e)
    where
      l : ℕ
      l = length w.labels

      w1 : Written
      w1 = fresh w

      w2 : Written
      w2 = branch_onto op.Bgeu name.StackEnd name.Second l w1

      i3 : Instr
      i3 = instr.Imm op.Addi 17 0 (pos 3)

      w3 : Written
      w3 = emitted i3 w2

      w4 : Written
      w4 = emitted instr.Ecall w3

      a14 : Adds w1 w4
      a14 = adds_then w1 w2 w4 (referred_adds _ l w1) (adds_then w2 w3 w4 (emitted_adds i3 w2) (emitted_adds instr.Ecall w3))

      is : (l < length w1.labels) × (slice_get w1.labels l ≡ Some None)
      is = fresh_label w

      f4 : Front w4 W
      f4 = front_placed w4 W l (a14.below l is.0 ∙ is.1) f

      f3 : Front w3 W
      f3 = front_adds w3 w4 W (emitted_adds instr.Ecall w3) f4

      f2 : Front w2 W
      f2 = front_adds w2 w3 W (emitted_adds i3 w2) f3

      over : slice_get W.labels l ≡ Some (Some (length w4.code))
      over = let count = a14.count in let first = is.0 in placed_there w4 W l (omega arith) f

      short : length w4.code < 2 ^ 32
      short = inside view image base W hole stands is_leaf few w4 f4

      by : (so : Bool) → Went view image base hole is_leaf kept w2 s so (length w4.code) → Room kept (room_onto w) s so
      by true x = record { state = x.state; reaches = x.reaches; done = x.done; sees = x.sees; pc = x.pc ∙ ap (address base) (sym (placed_length l w4)) }
      by false x =
          let t = x.state in
          let sound2 = sound_then w1 w2 (referred_adds _ l w1).extends (sound_then w w1 (fresh_adds w).extends h.sound) in
          let sound3 = sound_then w2 w3 (emitted_adds i3 w2).extends sound2 in
          let at3 : At t.code t.pc i3 = subst (λ c. At c t.pc i3) (sym x.sees.code) (subst (λ a. At image a i3) (sym x.pc) (stands.plain i3 w2 sound2 f3)) in
          let three : sum (register t 0) (word_of (pos 3)) ≡ 3 = ap (λ n. sum n (word_of (pos 3))) x.sees.zero in
          let u = with_word t name.Service (sum (register t 0) (word_of (pos 3))) in
          let pc : u.pc ≡ address base (length w3.code) = ap (λ a. sum a 4) x.pc ∙ next_address base (length w2.code) ∙ ap (address base) (sym (emitted_length i3 w2)) in
          let at4 : At u.code u.pc instr.Ecall = subst (λ c. At c u.pc instr.Ecall) (sym x.sees.code) (subst (λ a. At image a instr.Ecall) (sym pc) (stands.plain instr.Ecall w3 sound3 f4)) in
          let count = x.sees.registers in
          record {
            state = u;
            reaches = reaches_then x.reaches (reaches_one t u (imm_goes t op.Addi 17 0 (pos 3) at3));
            calls = record { stops = ecall_stops u at4; number = get_or-set_same t.registers 17 (sum (register t 0) (word_of (pos 3))) 0 (omega (arith, count)) ∙ three };
          }
