-- Words of the stack, and what is written there.
use Rattle.std.proofs.Common.{◌≡◌, ◌∙◌, ◌≢◌, ◌⊎◌, ℕ, ◌+◌, ◌-◌, ◌%◌, ◌^◌, ◌<◌, ◌≤◌, Bool, true, false, ◌==◌, List, length, refl, ap, sym, subst, Some, arith}
use Rattle.std.specs.Prelude.{nat_le}
use Rattle.std.specs.Int.{w64, Width, byte_len}
use Rattle.std.proofs.lemmas.Bool.Decides.{nat_tests}
use Rattle.rv_machine.specs.State.{State, IsSound, read_at, written_at, image_start, store_start, stack_start, is_inside, number_at, with_number, accessed}
use Rattle.rv_machine.specs.declared.memory.Location.TheVariants.{Stack}
use Rattle.laws_selection.proofs.Words.{word_same, word_other, length_written}

-- an address of a word of the stack
pub record OnStack (s : State) (a : ℕ) : Type 0 where
  pub low : stack_start ≤ a
  pub high : a + 8 ≤ stack_start + length s.stack
  pub aligned : a % 8 ≡ 0

pub record Fine (s : State) : Type 0 where
  pub machine : IsSound s
  pub data_below : s.data_start ≤ stack_start

abbrev pub stack_at : State → ℕ → ℕ
stack_at s a = number_at w64 s.stack (a - stack_start)

located : (s : State) (a : ℕ) → Fine s → OnStack s a → accessed s a 8 ≡ Some (Stack (a - stack_start))
located s a sound on =
    let image = sound.machine.image in
    let store = sound.machine.store in
    let low = on.low in
    let high = on.high in
    let t0 : (a % 8 == 0) ≡ true = grind (arith, nat_tests, on.aligned) in
    let t1 : is_inside image_start s.image a 8 ≡ false = grind (arith, nat_tests) in
    let t2 : is_inside store_start s.store a 8 ≡ false = grind (arith, nat_tests) in
    let t3 : is_inside stack_start s.stack a 8 ≡ true = grind (arith, nat_tests) in
    rw (t0, t1, t2, t3) refl

pub read_stack : (s : State) (a : ℕ) → Fine s → OnStack s a → read_at w64 s a ≡ Some (stack_at s a)
read_stack s a sound on = rw (located s a sound on) refl

abbrev pub with_stack : State → ℕ → ℕ → State
with_stack s a n = record s { stack = with_number w64 s.stack (a - stack_start) n }

pub written_stack : (s : State) (a n : ℕ) → Fine s → OnStack s a → written_at w64 s a n ≡ Some (with_stack s a n)
written_stack s a n sound on =
    let low = on.low in
    let below = sound.data_below in
    let t : nat_le s.data_start a ≡ true = grind (arith, nat_tests) in
    rw (t, located s a sound on) refl

apart : (a b : ℕ) → a % 8 ≡ 0 → b % 8 ≡ 0 → stack_start ≤ a → stack_start ≤ b → b ≢ a → ((b - stack_start) + 8 ≤ a - stack_start) ⊎ ((a - stack_start) + 8 ≤ b - stack_start)
apart a b p q la lb d = grind arith

pub stack_length : (s : State) (a n : ℕ) → OnStack s a → length (with_stack s a n).stack ≡ length s.stack
stack_length s a n on = let low = on.low in let high = on.high in length_written s.stack (a - stack_start) n (omega arith)

pub on_stack_still : (s : State) (a n b : ℕ) → OnStack s a → OnStack s b → OnStack (with_stack s a n) b
on_stack_still s a n b on other = record { low = other.low; high = subst (λ k. b + 8 ≤ stack_start + k) (sym (stack_length s a n on)) other.high; aligned = other.aligned }

pub fine_still : (s : State) (a n : ℕ) → Fine s → OnStack s a → Fine (with_stack s a n)
fine_still s a n f on = record { machine = record { code = f.machine.code; image = f.machine.image; store = f.machine.store; stack = subst (λ k. k ≤ 0x4000000) (sym (stack_length s a n on)) f.machine.stack; writable = f.machine.writable; registers = f.machine.registers }; data_below = f.data_below }

-- the word that was written, and the others
pub same_word_read : (s : State) (a n : ℕ) → Fine s → OnStack s a → n < 2 ^ 64 → read_at w64 (with_stack s a n) a ≡ Some n
same_word_read s a n f on small =
    let low = on.low in let high = on.high in
    read_stack (with_stack s a n) a (fine_still s a n f on) (on_stack_still s a n a on on) ∙ ap Some (word_same s.stack (a - stack_start) n (omega arith) small)

pub other_word_read : (s : State) (a n b : ℕ) → Fine s → OnStack s a → OnStack s b → b ≢ a → read_at w64 (with_stack s a n) b ≡ read_at w64 s b
other_word_read s a n b f on other d =
    let low = on.low in let high = on.high in let lo = other.low in
    read_stack (with_stack s a n) b (fine_still s a n f on) (on_stack_still s a n b on other)
    ∙ ap Some (word_other s.stack (a - stack_start) (b - stack_start) n (omega arith) (apart a b on.aligned other.aligned on.low other.low d))
    ∙ sym (read_stack s b f other)

-- what lies below the stack
pub below_read : (w : Width) (s : State) (a n b : ℕ) → OnStack s a → b < stack_start → read_at w (with_stack s a n) b ≡ read_at w s b
below_read w s a n b on l =
    let low = on.low in
    let t : (bytes : List ℕ) → is_inside stack_start bytes b (byte_len w) ≡ false = λ bytes. grind (arith, nat_tests) in
    by (b % byte_len w == 0) (is_inside image_start s.image b (byte_len w)) (is_inside store_start s.store b (byte_len w)) refl refl refl t
  where
    by : (x y z : Bool) → (b % byte_len w == 0) ≡ x → is_inside image_start s.image b (byte_len w) ≡ y → is_inside store_start s.store b (byte_len w) ≡ z → ((bytes : List ℕ) → is_inside stack_start bytes b (byte_len w) ≡ false) → read_at w (with_stack s a n) b ≡ read_at w s b
    by false y z e f g t = rw e refl
    by true true z e f g t = rw (e, f) refl
    by true false true e f g t = rw (e, f, g) refl
    by true false false e f g t = rw (e, f, g, t (with_stack s a n).stack, t s.stack) refl
