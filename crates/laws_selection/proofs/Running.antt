-- Steps of the machine, one after the other.
use Rattle.std.proofs.Common.{◌≡◌, ◌∙◌, ◌≢◌, ℕ, zero, suc, ℤ, ◌+◌, ◌%◌, ◌<◌, ◌==◌, true, false, length, Some, None, refl, ap, sym, subst, arith}
use Rattle.std.specs.Int.{Width, w64, w8}
use Rattle.std.proofs.lemmas.List.{get_or-set_same, get_or-set_other, length-set}
use Rattle.rv_isa.specs.declared.instr.Instr.TheVariants as instr
use Rattle.rv_isa.specs.declared.op.Op.{Op}
use Rattle.rv_isa.specs.declared.op.Op.TheVariants as op
use Rattle.rv_machine.specs.State.{State, register, with_register, read_at, written_at}
use Rattle.rv_machine.specs.Steps.{Next, Goes, Stops, next, executed, advanced, word_of, jalr_target}
use Rattle.rv_machine.specs.Values.{sum, value_of, is_taken}
use Rattle.rv_machine.specs.Calls.{Configuration}
use Rattle.rv_machine.specs.Emulation.{emulated, stepped}
use Rattle.rv_select.specs.declared.register.Register.{Register}
use Rattle.rv_select.specs.declared.register.Register.TheVariants as name
use Rattle.rv_select.specs.Registers.{register_number}
use Rattle.laws_selection.specs.Registers.{stays}
use Rattle.laws_selection.specs.Running.{At, Done, Reaches, Same, run, then_next}
use Rattle.laws_selection.proofs.Registers.{number_same, number_small}

then_run : (n : Next) (k m : ℕ) → ((s : State) → run (k + m) s ≡ then_next (run k s) (run m)) → then_next n (run (k + m)) ≡ then_next (then_next n (run k)) (run m)
then_run (Goes s) k m h = h s
then_run (Stops t s) k m h = refl

pub run_more : (n m : ℕ) (s : State) → run (n + m) s ≡ then_next (run n s) (run m)
unfolding run
run_more zero m s = let e : 0 + m ≡ m = omega arith in ap (λ k. run k s) e
run_more (suc n) m s = let e : suc n + m ≡ suc (n + m) = omega arith in ap (λ k. run k s) e ∙ then_run (next s) n m (run_more n m)

pub reaches_same : (s : State) → Reaches s s
unfolding run
reaches_same s = record { steps = 0; come = refl }

pub reaches_then : {s t u : State} → Reaches s t → Reaches t u → Reaches s u
reaches_then {s} {t} {u} p q = record { steps = p.steps + q.steps; come = run_more p.steps q.steps s ∙ ap (λ n. then_next n (run q.steps)) p.come ∙ q.come }

pub reaches_one : (s t : State) → next s ≡ Goes t → Reaches s t
unfolding run
reaches_one s t e = record { steps = 1; come = rw e refl }

-- Instructions.

pub upper_goes : (s : State) (o : Op) (rd : ℕ) (imm : ℤ) → At s.code s.pc (instr.Upper o rd imm) → next s ≡ Goes (advanced (with_register s rd (value_of o s.pc (word_of imm))))
unfolding next executed
upper_goes s o rd imm at = rw (at.inside, at.found) refl

pub imm_goes : (s : State) (o : Op) (rd rs : ℕ) (imm : ℤ) → At s.code s.pc (instr.Imm o rd rs imm) → next s ≡ Goes (advanced (with_register s rd (value_of o (register s rs) (word_of imm))))
unfolding next executed
imm_goes s o rd rs imm at = rw (at.inside, at.found) refl

pub three_goes : (s : State) (o : Op) (rd a b : ℕ) → At s.code s.pc (instr.Three o rd a b) → next s ≡ Goes (advanced (with_register s rd (value_of o (register s a) (register s b))))
unfolding next executed
three_goes s o rd a b at = rw (at.inside, at.found) refl

pub load_goes : (s : State) (rd rs : ℕ) (imm : ℤ) (w : ℕ) → At s.code s.pc (instr.Load op.Ld rd rs imm) → read_at w64 s (sum (register s rs) (word_of imm)) ≡ Some w → next s ≡ Goes (advanced (with_register s rd w))
unfolding next executed
load_goes s rd rs imm w at h = rw (at.inside, at.found, h) refl

pub byte_goes : (s : State) (rd rs : ℕ) (imm : ℤ) (w : ℕ) → At s.code s.pc (instr.Load op.Lbu rd rs imm) → read_at w8 s (sum (register s rs) (word_of imm)) ≡ Some w → next s ≡ Goes (advanced (with_register s rd w))
unfolding next executed
byte_goes s rd rs imm w at h = rw (at.inside, at.found, h) refl

pub save_goes : (s after : State) (rs1 rs2 : ℕ) (imm : ℤ) → At s.code s.pc (instr.Save op.Sd rs1 rs2 imm) → written_at w64 s (sum (register s rs1) (word_of imm)) (register s rs2) ≡ Some after → next s ≡ Goes (advanced after)
unfolding next executed
save_goes s after rs1 rs2 imm at h = rw (at.inside, at.found, h) refl

pub branch_goes : (s : State) (o : Op) (a b : ℕ) (imm : ℤ) → At s.code s.pc (instr.Branch o a b imm) → is_taken o (register s a) (register s b) ≡ true → (sum s.pc (word_of imm) % 4 == 0) ≡ true → next s ≡ Goes (record s { pc = sum s.pc (word_of imm) })
unfolding next executed
branch_goes s o a b imm at h k = rw (at.inside, at.found, h, k) refl

pub branch_passes : (s : State) (o : Op) (a b : ℕ) (imm : ℤ) → At s.code s.pc (instr.Branch o a b imm) → is_taken o (register s a) (register s b) ≡ false → next s ≡ Goes (advanced s)
unfolding next executed
branch_passes s o a b imm at h = rw (at.inside, at.found, h) refl

pub jal_goes : (s : State) (rd : ℕ) (imm : ℤ) → At s.code s.pc (instr.Jal rd imm) → (sum s.pc (word_of imm) % 4 == 0) ≡ true → next s ≡ Goes (record (with_register s rd (sum s.pc 4)) { pc = sum s.pc (word_of imm) })
unfolding next executed
jal_goes s rd imm at k = rw (at.inside, at.found, k) refl

pub jalr_goes : (s : State) (rd rs : ℕ) (imm : ℤ) → At s.code s.pc (instr.Jalr rd rs imm) → (jalr_target s rs (word_of imm) % 4 == 0) ≡ true → next s ≡ Goes (record (with_register s rd (sum s.pc 4)) { pc = jalr_target s rs (word_of imm) })
unfolding next executed
jalr_goes s rd rs imm at k = rw (at.inside, at.found, k) refl

pub same_then : {s t u : State} → Same s t → Same t u → Same s u
same_then p q = record { code = q.code ∙ p.code; image = q.image ∙ p.image; store = q.store ∙ p.store; stack = q.stack ∙ p.stack; start = q.start ∙ p.start; registers = q.registers ∙ p.registers }

pub done_same : (kept : ℕ) (s : State) → Done kept s s
done_same kept s = record { same = record { code = refl; image = refl; store = refl; stack = refl; start = refl; registers = refl }; stays = λ r h. refl }

pub done_then : {kept : ℕ} {s t u : State} → Done kept s t → Done kept t u → Done kept s u
done_then p q = record { same = same_then p.same q.same; stays = λ r h. q.stays r h ∙ p.stays r h }

-- fewer stay
pub done_less : (kept more : ℕ) {s t : State} → ((r : Register) → stays kept r ≡ true → stays more r ≡ true) → Done more s t → Done kept s t
done_less kept more f d = record { same = d.same; stays = λ r h. d.stays r (f r h) }

pub read_same : (w : Width) (s t : State) (a : ℕ) → Same s t → read_at w t a ≡ read_at w s a
read_same w s t a e = rw (e.image, e.store, e.stack) refl

-- a register that may change gets a word

abbrev pub with_word : State → Register → ℕ → State
with_word s to n = advanced (with_register s (register_number to) n)

not_zero : (kept : ℕ) (to : Register) → stays kept to ≡ false → (register_number to == 0) ≡ false
unfolding stays
not_zero kept name.Zero h = absurd (cc)
not_zero kept _ h = refl

apart : (kept : ℕ) (q to : Register) → stays kept to ≡ false → stays kept q ≡ true → register_number q ≢ register_number to
apart kept q to f t e = absurd (cc (ap (stays kept) (number_same q to e)))

pub word_in : (kept : ℕ) (s : State) (to : Register) (n : ℕ) → length s.registers ≡ 32 → stays kept to ≡ false → register (with_word s to n) (register_number to) ≡ n
word_in kept s to n l f = rw (not_zero kept to f) (get_or-set_same s.registers (register_number to) n 0 (subst (λ k. register_number to < k) (sym l) (number_small to)))

pub word_done : (kept : ℕ) (s : State) (to : Register) (n : ℕ) → stays kept to ≡ false → Done kept s (with_word s to n)
word_done kept s to n f = rw (not_zero kept to f) (record {
  same = record { code = refl; image = refl; store = refl; stack = refl; start = refl; registers = length-set s.registers (register_number to) n };
  stays = λ r h. get_or-set_other s.registers (register_number to) (register_number r) n 0 (apart kept r to f h);
})

pub word_pc : (kept : ℕ) (s : State) (to : Register) (n : ℕ) → stays kept to ≡ false → (with_word s to n).pc ≡ sum s.pc 4
word_pc kept s to n f = rw (not_zero kept to f) refl

-- The same steps of the machine with its input and output.
abbrev pub at_state : Configuration → State → Configuration
at_state c s = record c { state = s }

pub emulates_one : (c : Configuration) (t : State) → c.ended ≡ None → next c.state ≡ Goes t → stepped c ≡ at_state c t
emulates_one c t e n = rw (e, n) refl

stepped_first : (n : ℕ) (c : Configuration) → emulated (suc n) c ≡ emulated n (stepped c)
stepped_first zero c = refl
stepped_first (suc n) c = ap stepped (stepped_first n c)

emulates_next : (n : ℕ) (c : Configuration) (t : State) (x : Next) → c.ended ≡ None → next c.state ≡ x → ((s : State) → run n s ≡ Goes t → emulated n (at_state c s) ≡ at_state c t) → then_next x (run n) ≡ Goes t → emulated (suc n) c ≡ at_state c t
emulates_next n c t (Goes u) e is h r = stepped_first n c ∙ ap (emulated n) (emulates_one c u e is) ∙ h u r
emulates_next n c t (Stops q u) e is h r = absurd (cc)

pub emulates : (n : ℕ) (c : Configuration) (s t : State) → c.ended ≡ None → run n s ≡ Goes t → emulated n (at_state c s) ≡ at_state c t
unfolding run
emulates zero c s t e r = ap (at_state c) (goes_same r)
  where
    state_of : Next → State
    state_of (Goes u) = u
    state_of (Stops q u) = u

    goes_same : Goes s ≡ Goes t → s ≡ t
    goes_same r = ap state_of r
emulates (suc n) c s t e r = emulates_next n (at_state c s) t (next s) e refl (λ u q. emulates n c u t e q) r
