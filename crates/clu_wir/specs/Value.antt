-- What an expression of word code means, for word code and flat code alike: a word, a trap that is raised, or nothing, where it
-- asks for what isn't there.
use Rattle.std.specs.Prelude.{ℕ, ◌+◌, ◌-◌, ◌*◌, ◌/◌, ◌%◌, ◌^◌, ◌==◌, pos, ◌*ℤ◌, int_div, int_rem, int_lt, nat_lt, if◌then◌else◌, bit_and, bit_or, bit_xor, List, [], ◌∷◌, ◌++◌, Option, Some, None, slice_get}
use Rattle.std.specs.Int.{w64, cast_signed, cast_unsigned, from_bool, int_shr}
use Rattle.clu_wir.specs.Plain.{Expr, Exprs, expr_and, no_exprs}
use Rattle.clu_wir.specs.Plain as plain
use Rattle.clu_wir.specs.declared.expression.WOp.{WOp}
use Rattle.clu_wir.specs.declared.expression.WOp.TheVariants as operation
use Rattle.clu_wir.specs.declared.hole.HoleKind.{HoleKind}
use Rattle.clu_wir.specs.declared.trap.Trap.{Trap}

pub data Value : Type 0 where
  Gives : ℕ → Value
  Raises : Trap → Value
  Stuck : Value

-- what an expression sees: the slots, the words that the linker knows, and the words (at multiples of 8) and bytes at addresses
pub record View : Type 0 where
  pub slot : ℕ → Option ℕ
  pub hole : HoleKind → ℕ → Option ℕ
  pub word : ℕ → Option ℕ
  pub byte : ℕ → Option ℕ

-- the operations on two words, numbers below 2 ^ 64
abbrev pub op_word : WOp → ℕ → ℕ → ℕ
op_word operation.Add a b = (a + b) % 2 ^ 64
op_word operation.Sub a b = (a + 2 ^ 64 - b) % 2 ^ 64
op_word operation.Sll a b = a * 2 ^ (b % 64) % 2 ^ 64
op_word operation.Slt a b = from_bool (int_lt (cast_signed w64 a) (cast_signed w64 b))
op_word operation.Sltu a b = from_bool (nat_lt a b)
op_word operation.Xor a b = bit_xor a b
op_word operation.Srl a b = a / 2 ^ (b % 64)
op_word operation.Sra a b = cast_unsigned w64 (int_shr (cast_signed w64 a) (b % 64))
op_word operation.Or a b = bit_or a b
op_word operation.And a b = bit_and a b
op_word operation.Mul a b = a * b % 2 ^ 64
op_word operation.Mulh a b = cast_unsigned w64 (int_shr (cast_signed w64 a *ℤ cast_signed w64 b) 64)
op_word operation.Mulhsu a b = cast_unsigned w64 (int_shr (cast_signed w64 a *ℤ pos b) 64)
op_word operation.Mulhu a b = a * b / 2 ^ 64
op_word operation.Div a b = if b == 0 then 2 ^ 64 - 1 else cast_unsigned w64 (int_div (cast_signed w64 a) (cast_signed w64 b))
op_word operation.Divu a b = if b == 0 then 2 ^ 64 - 1 else a / b
op_word operation.Rem a b = if b == 0 then a else cast_unsigned w64 (int_rem (cast_signed w64 a) (cast_signed w64 b))
op_word operation.Remu a b = if b == 0 then a else a % b
op_word operation.Equal a b = from_bool (a == b)

abbrev pub of_option : Option ℕ → Value
of_option None = Stuck
of_option (Some w) = Gives w

-- a value's word goes into what comes after it
abbrev pub then_word : Value → (ℕ → Value) → Value
then_word (Gives w) f = f w
then_word (Raises t) f = Raises t
then_word Stuck f = Stuck

abbrev pub by_truth : ℕ → Value → Value → Value
by_truth w first other = if w == 0 then other else first

module _ (view : View) where
  -- with the words that are bound round it
  unfoldable mutual
    pub meant : Expr → List ℕ → Value
    meant (plain.slot n) ws = of_option (view.slot n)
    meant (plain.word w) ws = Gives w
    meant (plain.hole kind number) ws = of_option (view.hole kind number)
    meant (plain.load e bytes) ws = then_word (meant e ws) (λ a. of_option (view.word ((a + bytes) % 2 ^ 64)))
    meant (plain.byte e) ws = then_word (meant e ws) (λ a. of_option (view.byte a))
    meant (plain.binary o left right) ws = then_word (meant left ws) (λ a. then_word (meant right ws) (λ b. Gives (op_word o a b)))
    meant (plain.choice e first other) ws = then_word (meant e ws) (λ c. by_truth c (meant first ws) (meant other ws))
    meant (plain.check e trap last) ws = then_word (meant e ws) (λ c. by_truth c (meant last ws) (Raises trap))
    meant (plain.binding es e) ws = binds es ws [] (meant e)
    meant (plain.bound n) ws = of_option (slice_get ws n)

    -- the words of expressions are bound one after the other, and then the last is evaluated with them alone
    pub binds : Exprs → List ℕ → List ℕ → (List ℕ → Value) → Value
    binds no_exprs ws new f = f new
    binds (expr_and e es) ws new f = then_word (meant e ws) (λ w. binds es ws (new ++ w ∷ []) f)

  -- of a whole expression, where nothing is bound
  abbrev pub value : Expr → Value
  value e = meant e []
