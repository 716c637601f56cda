-- The code of the operations of int and char that are values.
use Rattle.std.specs.Prelude.{List, [], ◌∷◌, codes}
use Rattle.clu_wir.specs.declared.expression.WOp.TheVariants as op
use Rattle.clu_wir.specs.declared.trap.Trap.TheVariants as trap
use Rattle.clu_wir.specs.Plain.{Expr, slot, word, binary, choice, check, binding, bound, exprs_of}
use Rattle.laws_operations.specs.Rows.{Row, row}
use Rattle.laws_operations.specs.PlainCodes.{equal_similar_copy}

-- the words that are bound: two arguments, and what is made of them
abbrev first : Expr
first = bound 0

abbrev second : Expr
second = bound 1

abbrev third : Expr
third = bound 2

abbrev of_both : Expr → Expr
of_both e = binding (exprs_of (slot 0 ∷ slot 1 ∷ [])) e

abbrev with_result : Expr → Expr → Expr
with_result made e = binding (exprs_of (first ∷ second ∷ made ∷ [])) e

abbrev is_negative : Expr → Expr
is_negative e = binary op.Slt e (word 0)

-- where the test holds, else overflow
abbrev or_overflow : Expr → Expr → Expr
or_overflow test e = check test trap.Overflow e

-- a sum is less than the first part just where the second is negative, unless it overflows
abbrev pub add_code : Expr
add_code = of_both (with_result (binary op.Add first second) (or_overflow (binary op.Equal (is_negative second) (binary op.Slt third first)) third))

-- a difference is less than the first part just where the second is positive, unless it overflows
abbrev pub sub_code : Expr
sub_code = of_both (with_result (binary op.Sub first second) (or_overflow (binary op.Equal (binary op.Slt (word 0) second) (binary op.Slt third first)) third))

-- a product overflows where its upper word isn't all sign
abbrev pub mul_code : Expr
mul_code = of_both (with_result (binary op.Mul first second) (or_overflow (binary op.Equal (binary op.Mulh first second) (binary op.Sra third (word 63))) third))

-- of the least int alone the negative has the same sign
abbrev pub minus_code : Expr
minus_code = binding (exprs_of (slot 0 ∷ [])) (binding (exprs_of (first ∷ binary op.Sub (word 0) first ∷ []))
    (or_overflow (binary op.Equal (is_negative (binary op.And first second)) (word 0)) second))

-- the quotient that leaves no negative rest, from the one that is rounded toward zero; only the least int by -1 overflows
abbrev quotient : Expr
quotient = or_overflow (binary op.Equal (is_negative (binary op.And (binary op.And first second) third)) (word 0))
    (choice (is_negative (binary op.Rem first second)) (choice (is_negative second) (binary op.Add third (word 1)) (binary op.Sub third (word 1))) third)

abbrev pub div_code : Expr
div_code = of_both (check second trap.ZeroDivide (with_result (binary op.Div first second) quotient))

-- the rest, which isn't negative and less than the size of the divisor
abbrev rest : Expr
rest = choice (is_negative third) (choice (is_negative second) (binary op.Sub third second) (binary op.Add third second)) third

abbrev pub mod_code : Expr
mod_code = of_both (check second trap.ZeroDivide (with_result (binary op.Rem first second) rest))

abbrev pub lt_code : Expr
lt_code = binary op.Slt (slot 0) (slot 1)

abbrev pub le_code : Expr
le_code = of_both (binary op.Xor (binary op.Slt second first) (word 1))

abbrev pub ge_code : Expr
ge_code = binary op.Xor (binary op.Slt (slot 0) (slot 1)) (word 1)

abbrev pub gt_code : Expr
gt_code = of_both (binary op.Slt second first)

abbrev compared : List Row
compared =
    row (codes "lt") lt_code ∷
    row (codes "le") le_code ∷
    row (codes "ge") ge_code ∷
    row (codes "gt") gt_code ∷
    equal_similar_copy

abbrev pub int_rows : List Row
int_rows =
    row (codes "add") add_code ∷
    row (codes "sub") sub_code ∷
    row (codes "mul") mul_code ∷
    row (codes "minus") minus_code ∷
    row (codes "div") div_code ∷
    row (codes "mod") mod_code ∷
    compared

abbrev pub i2c_code : Expr
i2c_code = binding (exprs_of (slot 0 ∷ [])) (check (binary op.Sltu first (word 256)) trap.IllegalChar first)

abbrev pub char_rows : List Row
char_rows = row (codes "i2c") i2c_code ∷ row (codes "c2i") (slot 0) ∷ compared
