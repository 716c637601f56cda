-- Operations whose right word is a number in the instruction.
use Rattle.std.proofs.Common.{◌≡◌, ◌∙◌, ◌≢◌, ℕ, ℤ, pos, negsuc, ◌+◌, ◌-◌, ◌*◌, ◌/◌, ◌%◌, ◌^◌, ◌<◌, ◌==◌, Bool, true, false, [], ◌∷◌, Option, Some, None, refl, ap, sym, arith}
use Rattle.std.specs.Prelude.{◌&&◌, if◌then◌else◌, nat_lt, unwrap_or, int_lt, int_le, bit_and}
use Rattle.std.specs.Int.{from_bool, w64, cast_signed, cast_unsigned, int_shr, int_wrapping_neg}
use Rattle.std.specs.Ordering.{int_eq}
use Rattle.std.proofs.lemmas.Bool.Decides.{Decides-int_eq, nat_tests}
use Rattle.std.proofs.lemmas.Int.{of_z-to_z}
use Rattle.std.proofs.lemmas.Nat.{and_mask}
use Rattle.clu_wir.specs.declared.expression.WOp.{WOp}
use Rattle.clu_wir.specs.declared.expression.WOp.TheVariants as operation
use Rattle.clu_wir.specs.declared.hole.HoleKind.{HoleKind}
use Rattle.clu_wir.specs.declared.trap.Trap.{Trap}
use Rattle.rv_isa.specs.declared.instr.Instr.TheVariants as instr
use Rattle.rv_isa.specs.declared.op.Op.{Op}
use Rattle.rv_isa.specs.declared.op.Op.TheVariants as op
use Rattle.rv_machine.specs.State.{State, register}
use Rattle.rv_machine.specs.Steps.{Goes, word_of}
use Rattle.rv_machine.specs.Values.{bit as truth, sum, unsigned, value_of}
use Rattle.rv_select.specs.declared.operand.Operand.{Operand}
use Rattle.rv_select.specs.declared.operand.Operand.TheVariants.{At as In, Known}
use Rattle.rv_select.specs.declared.operand.Scope.{Scope}
use Rattle.rv_select.specs.declared.register.Register.{Register}
use Rattle.rv_select.specs.Registers.{register_number}
use Rattle.rv_select.specs.Combining.{by_number_onto, combined_by, known_number, numbered, shift, small, with_number, with_op}
use Rattle.rv_select.specs.Operands.{free, register_of, register_onto}
use Rattle.rv_select.specs.Written.{Written, imm_onto, in_turn}
use Rattle.clu_wir.specs.Value.{View, op_word}
use Rattle.laws_selection.specs.Registers.{stays}
use Rattle.laws_selection.specs.Running.{Code}
use Rattle.laws_selection.proofs.Running.{done_then, imm_goes, reaches_then, with_word}
use Rattle.laws_selection.specs.Growing.{Adds, Front}
use Rattle.laws_selection.proofs.Growing.{Stood}
use Rattle.laws_selection.proofs.Growing.{adds_then, emitted_adds, front_adds}
use Rattle.laws_selection.specs.Evaluating.{Here, HoldsWord}
use Rattle.laws_selection.proofs.Evaluating.{Puts, puts}
use Rattle.laws_selection.proofs.Combining.{register_adds, register_gives}
use Rattle.laws_selection.proofs.Known.{number_adds, numbers}
use Rattle.laws_selection.proofs.Parts.{ByNumber}

-- The number in the instruction.

small_is : (z y : ℤ) → small z ≡ Some y → y ≡ z
small_is z y e = by (int_le (negsuc 2047) z && int_lt z (pos 2048)) e
  where
    by : (c : Bool) → (if c then Some z else None) ≡ Some y → y ≡ z
    by true e = ap (λ (o : Option ℤ). unwrap_or o z) (sym e)
    by false e = absurd (cc)

numbered_is : (o : Op) (z : ℤ) (n : Op × ℤ) → numbered o z ≡ Some n → n ≡ (o, z)
numbered_is o z n e = by (small z) refl e
  where
    by : (k : Option ℤ) → small z ≡ k → with_op o k ≡ Some n → n ≡ (o, z)
    by None is e = absurd (cc)
    by (Some y) is e = ap (λ (x : Option (Op × ℤ)). unwrap_or x n) (sym e) ∙ ap (λ y. (o, y)) (small_is z y is)

bits_of : (word : ℕ) → word < 2 ^ 64 → unsigned (cast_signed w64 word) ≡ word
bits_of word h = of_z-to_z w64 word h

neg_bits : (word : ℕ) → word < 2 ^ 64 → unsigned (int_wrapping_neg w64 (cast_signed w64 word)) ≡ (2 ^ 64 - word) % 2 ^ 64
neg_bits word h =
    ap (λ n. cast_unsigned w64 (cast_signed w64 ((2 ^ 64 - n) % 2 ^ 64))) (of_z-to_z w64 word h)
    ∙ of_z-to_z w64 ((2 ^ 64 - word) % 2 ^ 64) (omega arith)

low_six : (n : ℕ) → bit_and n 63 ≡ n % 64
low_six n = and_mask n 6

shift_bits : (word : ℕ) → word < 2 ^ 64 → unsigned (shift (cast_signed w64 word)) ≡ word % 64
shift_bits word h =
    ap (λ n. cast_unsigned w64 (cast_signed w64 (bit_and n 63))) (of_z-to_z w64 word h)
    ∙ ap (λ n. cast_unsigned w64 (cast_signed w64 n)) (low_six word) ∙ of_z-to_z w64 (word % 64) (omega arith)

twice : (word : ℕ) → word % 64 % 64 ≡ word % 64
twice word = omega arith

by_truth : (b : Bool) → truth b ≡ from_bool b
by_truth true = refl
by_truth false = refl

abbrev result_of : (Op × ℤ) → ℕ → ℕ
result_of n a = value_of n.0 a (word_of n.1)

minus : (a b : ℕ) → b < 2 ^ 64 → sum a ((2 ^ 64 - b) % 2 ^ 64) ≡ (a + 2 ^ 64 - b) % 2 ^ 64
minus a b h = omega arith

shifted : (o : Op) (a word : ℕ) (f : ℕ → ℕ) → word < 2 ^ 64 → ((b : ℕ) → value_of o a b ≡ f (b % 64)) → (n : Op × ℤ) → numbered o (shift (cast_signed w64 word)) ≡ Some n → result_of n a ≡ f (word % 64)
shifted o a word f h is n e =
    ap (λ (m : Op × ℤ). result_of m a) (numbered_is o (shift (cast_signed w64 word)) n e)
    ∙ is (word_of (shift (cast_signed w64 word))) ∙ ap (λ b. f (b % 64)) (shift_bits word h) ∙ ap f (twice word)

plain : (o : Op) (a word : ℕ) → word < 2 ^ 64 → (n : Op × ℤ) → numbered o (cast_signed w64 word) ≡ Some n → result_of n a ≡ value_of o a word
plain o a word h n e = ap (λ (m : Op × ℤ). result_of m a) (numbered_is o (cast_signed w64 word) n e) ∙ ap (value_of o a) (bits_of word h)

-- what the instruction gives; of Equal the difference
abbrev given_by : WOp → ℕ → ℕ → ℕ
given_by operation.Equal a word = (a + 2 ^ 64 - word) % 2 ^ 64
given_by o a word = op_word o a word

result_is : (o : WOp) (a word : ℕ) → word < 2 ^ 64 → (n : Op × ℤ) → with_number o (cast_signed w64 word) ≡ Some n → result_of n a ≡ given_by o a word
result_is operation.Add a word h n e = plain op.Addi a word h n e
result_is operation.Sub a word h n e = ap (λ (m : Op × ℤ). result_of m a) (numbered_is op.Addi (int_wrapping_neg w64 (cast_signed w64 word)) n e) ∙ ap (sum a) (neg_bits word h) ∙ minus a word h
result_is operation.Equal a word h n e = ap (λ (m : Op × ℤ). result_of m a) (numbered_is op.Addi (int_wrapping_neg w64 (cast_signed w64 word)) n e) ∙ ap (sum a) (neg_bits word h) ∙ minus a word h
result_is operation.Slt a word h n e = plain op.Slti a word h n e ∙ by_truth _
result_is operation.Sltu a word h n e = plain op.Sltiu a word h n e ∙ by_truth _
result_is operation.Xor a word h n e = plain op.Xori a word h n e
result_is operation.Or a word h n e = plain op.Ori a word h n e
result_is operation.And a word h n e = plain op.Andi a word h n e
result_is operation.Sll a word h n e = shifted op.Slli a word (λ b. a * 2 ^ b % 2 ^ 64) h (λ b. refl) n e
result_is operation.Srl a word h n e = shifted op.Srli a word (λ b. a / 2 ^ b) h (λ b. refl) n e
result_is operation.Sra a word h n e = shifted op.Srai a word (λ b. cast_unsigned w64 (int_shr (cast_signed w64 a) b)) h (λ b. refl) n e
result_is _ a word h n e = absurd (cc)

-- words are equal where the difference is 0
equal_by : (a b : ℕ) → a < 2 ^ 64 → b < 2 ^ 64 → (c : Bool) → c ≡ (a == b) → truth (nat_lt ((a + 2 ^ 64 - b) % 2 ^ 64) 1) ≡ from_bool c
equal_by a b p q true e = let same : a ≡ b = grind (arith, nat_tests) in let t : nat_lt ((a + 2 ^ 64 - b) % 2 ^ 64) 1 ≡ true = grind (arith, nat_tests) in ap truth t
equal_by a b p q false e = let other : a ≢ b = λ s. grind (arith, nat_tests) in let t : nat_lt ((a + 2 ^ 64 - b) % 2 ^ 64) 1 ≡ false = grind (arith, nat_tests) in ap truth t

-- the difference from a word whose opposite is 0
none_is : (word : ℕ) → word < 2 ^ 64 → (n : Op × ℤ) → with_number operation.Equal (cast_signed w64 word) ≡ Some n → int_eq n.1 (pos 0) ≡ true → word ≡ 0
none_is word h n e z =
    let is : n.1 ≡ int_wrapping_neg w64 (cast_signed w64 word) = ap (λ (m : Op × ℤ). m.1) (numbered_is op.Addi (int_wrapping_neg w64 (cast_signed w64 word)) n e) in
    let zero_is : n.1 ≡ pos 0 = eq_int n.1 z in
    let bits : 0 ≡ (2 ^ 64 - word) % 2 ^ 64 = ap unsigned (sym zero_is ∙ is) ∙ neg_bits word h in
    omega arith
  where
    eq_int : (a : ℤ) → int_eq a (pos 0) ≡ true → a ≡ pos 0
    eq_int a e = (Decides-int_eq a (pos 0)).0 e

number_onto_adds : (o : WOp) (left : Register) (n : Op × ℤ) (to : Register) (w : Written) → Adds w (by_number_onto o left n to w)
number_onto_adds operation.Equal left n to w = by (int_eq n.1 (pos 0))
  where
    by : (c : Bool) → Adds w (if c then imm_onto op.Sltiu to left (pos 1) w else in_turn (imm_onto n.0 to left n.1 ∷ imm_onto op.Sltiu to to (pos 1) ∷ []) w)
    by true = emitted_adds _ w
    by false = adds_then w _ _ (emitted_adds (instr.Imm n.0 (register_number to) (register_number left) n.1) w) (emitted_adds _ _)
number_onto_adds _ left n to w = emitted_adds _ w

module _ (view : View) (image : Code) (base : ℕ) (W : Written) (hole : HoleKind → ℕ → ℕ) (stands : Stood W image base hole) (is_leaf : Bool) (trap_address : Trap → ℕ) where
  abbrev Here' : Written → State → Type 0
  Here' = Here view image base hole is_leaf

  abbrev Puts' : ℕ → Written → State → Register → ℕ → Type 0
  Puts' = Puts view image base W hole stands is_leaf

  pub by_number_adds : (o : WOp) (left right : Operand) (sc : Scope) (n : Op × ℤ) (w : Written) → Adds w (combined_by o left right sc (Some n) w)
  by_number_adds o left right sc n w =
      adds_then w (register_onto left (free sc) w) _ (register_adds view image base W hole stands is_leaf (numbers view image base W hole stands is_leaf) number_adds left (free sc) w)
      (number_onto_adds o (register_of left (free sc)) n (free sc) (register_onto left (free sc) w))

  one_gives : (kept : ℕ) (w : Written) (s : State) (o : WOp) (left to : Register) (n : Op × ℤ) (a m : ℕ) → Here' w s → register s (register_number left) ≡ a → result_of n a ≡ m → stays kept to ≡ false → Front (imm_onto n.0 to left n.1 w) W →
      Puts' kept (imm_onto n.0 to left n.1 w) s to m
  one_gives kept w s o left to n a m h is e spare f =
      puts view image base W hole stands is_leaf kept w s to m (instr.Imm n.0 (register_number to) (register_number left) n.1) h f spare
      (λ at. imm_goes s n.0 (register_number to) (register_number left) n.1 at ∙ ap (λ k. Goes (with_word s to k)) (ap (λ k. value_of n.0 k (word_of n.1)) is ∙ e))

  equal_gives : (kept : ℕ) (w : Written) (s : State) (left to : Register) (n : Op × ℤ) (a word : ℕ) → a < 2 ^ 64 → word < 2 ^ 64 → Here' w s → register s (register_number left) ≡ a → with_number operation.Equal (cast_signed w64 word) ≡ Some n → stays kept to ≡ false → (c : Bool) → int_eq n.1 (pos 0) ≡ c →
      Front (if c then imm_onto op.Sltiu to left (pos 1) w else in_turn (imm_onto n.0 to left n.1 ∷ imm_onto op.Sltiu to to (pos 1) ∷ []) w) W →
      Puts' kept (if c then imm_onto op.Sltiu to left (pos 1) w else in_turn (imm_onto n.0 to left n.1 ∷ imm_onto op.Sltiu to to (pos 1) ∷ []) w) s to (op_word operation.Equal a word)
  equal_gives kept w s left to n a word sa sw h is e spare true z f =
      let none = none_is word sw n e z in
      one_gives kept w s operation.Sltu left to (op.Sltiu, pos 1) a (op_word operation.Equal a word) h is (zero_test a word sa none) spare f
    where
      zero_test : (a word : ℕ) → a < 2 ^ 64 → word ≡ 0 → truth (nat_lt a 1) ≡ from_bool (a == word)
      zero_test a word sa none = by (a == word) refl
        where
          by : (c : Bool) → (a == word) ≡ c → truth (nat_lt a 1) ≡ from_bool c
          by true q = let t : nat_lt a 1 ≡ true = grind (arith, nat_tests) in ap truth t
          by false q = let t : nat_lt a 1 ≡ false = grind (arith, nat_tests) in ap truth t
  equal_gives kept w s left to n a word sa sw h is e spare false z f =
      let v = imm_onto n.0 to left n.1 w in
      let x = one_gives kept w s operation.Equal left to n a ((a + 2 ^ 64 - word) % 2 ^ 64) h is (result_is operation.Equal a word sw n e) spare (front_adds v _ W (emitted_adds _ v) f) in
      let y = one_gives kept v x.state operation.Sltu to to (op.Sltiu, pos 1) ((a + 2 ^ 64 - word) % 2 ^ 64) (op_word operation.Equal a word) x.here x.holds (equal_by a word sa sw (a == word) refl) spare f in
      record { state = y.state; reaches = reaches_then x.reaches y.reaches; here = y.here; done = done_then x.done y.done; holds = y.holds }

  number_gives : (o : WOp) (kept : ℕ) (w : Written) (s : State) (left to : Register) (n : Op × ℤ) (a word : ℕ) → a < 2 ^ 64 → word < 2 ^ 64 → Here' w s → register s (register_number left) ≡ a → with_number o (cast_signed w64 word) ≡ Some n → stays kept to ≡ false →
      Front (by_number_onto o left n to w) W → Puts' kept (by_number_onto o left n to w) s to (op_word o a word)
  number_gives operation.Equal kept w s left to n a word sa sw h is e spare f = equal_gives kept w s left to n a word sa sw h is e spare (int_eq n.1 (pos 0)) refl f
  number_gives operation.Add kept w s left to n a word sa sw h is e spare f = one_gives kept w s operation.Add left to n a _ h is (result_is operation.Add a word sw n e) spare f
  number_gives operation.Sub kept w s left to n a word sa sw h is e spare f = one_gives kept w s operation.Sub left to n a _ h is (result_is operation.Sub a word sw n e) spare f
  number_gives operation.Slt kept w s left to n a word sa sw h is e spare f = one_gives kept w s operation.Slt left to n a _ h is (result_is operation.Slt a word sw n e) spare f
  number_gives operation.Sltu kept w s left to n a word sa sw h is e spare f = one_gives kept w s operation.Sltu left to n a _ h is (result_is operation.Sltu a word sw n e) spare f
  number_gives operation.Xor kept w s left to n a word sa sw h is e spare f = one_gives kept w s operation.Xor left to n a _ h is (result_is operation.Xor a word sw n e) spare f
  number_gives operation.Or kept w s left to n a word sa sw h is e spare f = one_gives kept w s operation.Or left to n a _ h is (result_is operation.Or a word sw n e) spare f
  number_gives operation.And kept w s left to n a word sa sw h is e spare f = one_gives kept w s operation.And left to n a _ h is (result_is operation.And a word sw n e) spare f
  number_gives operation.Sll kept w s left to n a word sa sw h is e spare f = one_gives kept w s operation.Sll left to n a _ h is (result_is operation.Sll a word sw n e) spare f
  number_gives operation.Srl kept w s left to n a word sa sw h is e spare f = one_gives kept w s operation.Srl left to n a _ h is (result_is operation.Srl a word sw n e) spare f
  number_gives operation.Sra kept w s left to n a word sa sw h is e spare f = one_gives kept w s operation.Sra left to n a _ h is (result_is operation.Sra a word sw n e) spare f
  number_gives _ kept w s left to n a word sa sw h is e spare f = absurd (cc)

  known_is : (o : WOp) (right : Operand) (s : State) (b : ℕ) (n : Op × ℤ) → known_number o right ≡ Some n → HoldsWord right s b → with_number o (cast_signed w64 b) ≡ Some n
  known_is o (In r) s b n e h = absurd (cc)
  known_is o (Known word) s b n e h = ap (λ k. with_number o (cast_signed w64 k)) (sym h) ∙ e

  pub by_number : ByNumber view image base W hole stands is_leaf trap_address (numbers view image base W hole stands is_leaf) number_adds
  by_number o left right sc w s a b n e p q sa sb h l r spare f =
      let to = free sc in
      let v = register_onto left to w in
      let x = register_gives view image base W hole stands is_leaf (numbers view image base W hole stands is_leaf) number_adds sc.kept w s left to a p h l (front_adds v _ W (number_onto_adds o (register_of left to) n to v) f) spare.spare spare.near in
      let y = number_gives o sc.kept v x.state (register_of left to) to n a b sa sb x.here x.holds (known_is o right s b n e r) spare.spare f in
      record { state = y.state; reaches = reaches_then x.reaches y.reaches; here = y.here; done = done_then x.done y.done; holds = y.holds; placed = spare.near }
