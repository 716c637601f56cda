-- The rows of int and char.
use Rattle.std.proofs.Common.{◌≡◌, ℕ, ℤ, ◌<◌, ◌^◌, ◌==◌, Bool, true, false, List, None, Some, refl, sym, ap, ◌∙◌, subst, arith, pos, negsuc, neg_ℤ, ◌+ℤ◌, ◌-ℤ◌, ◌*ℤ◌, nat_lt, if◌then◌else◌}
use Rattle.std.specs.Prelude.{codes}
use Rattle.std.specs.Int.{from_bool, int_div_euclid, int_rem_euclid}
use Rattle.std.specs.declared.cmp.Ordering.{Ordering}
use Rattle.std.specs.Ordering.{int_cmp, nat_cmp, is_eq, is_ge, is_gt, is_le, is_lt}
use Rattle.clu_types.specs.CluType.{CluType, no_types, type_and, bool_type, int_type, char_type}
use Rattle.clu_builtin.specs.declared.names.Signal.TheVariants as signal
use Rattle.clu_layout.specs.Objects.{Object, char_object}
use Rattle.clu_layout.specs.Places.{is_int, is_zero, char_of_int}
use Rattle.clu_layout.specs.Actions.{Action, World, gives, gives_all, gives_bool, gives_int, gives_int_or_overflow, or_signals, signals_if, signals_with, with_char}
use Rattle.clu_layout.specs.NumberOperations.{char_c2i, char_compared, char_i2c, int_add, int_compared, int_minus, int_mul, int_sub}
use Rattle.clu_layout.specs.NumberOperations as numbers
use Rattle.clu_wir.specs.declared.expression.WOp.TheVariants as op
use Rattle.clu_wir.specs.declared.trap.Trap.TheVariants as trap
use Rattle.clu_wir.specs.Plain.{Expr, slot}
use Rattle.clu_wir.specs.Traps.{trap_name}
use Rattle.clu_wir.specs.Value.{Value, View, Gives, Raises, value, meant, binds, op_word, by_truth}
use Rattle.clu_representation.specs.Layout.{Image, Layout}
use Rattle.clu_representation.specs.Shown.{At, IsInt, bit}
use Rattle.laws_operations.specs.Comes.{Comes, InSlots}
use Rattle.laws_operations.specs.Rows.{Each, Right}
use Rattle.laws_operations.specs.PlainCodes.{copy_code, equal_code}
use Rattle.laws_operations.specs.NumberCodes.{add_code, sub_code, mul_code, minus_code, div_code, mod_code, lt_code, le_code, ge_code, gt_code, i2c_code, int_rows, char_rows}
use Rattle.laws_operations.proofs.Arguments.{an_int, as_char, both_chars, both_ints, one_object}
use Rattle.laws_operations.proofs.Doing.{row_does}
use Rattle.laws_operations.proofs.PlainValues.{binary_is, copies, given_bool, slot_is}
use Rattle.laws_operations.proofs.Words.{word}
use Rattle.laws_operations.proofs.Results.{FitsOr, Int, gives_fit, gives_int_word, goes_on, zero_divides, less_of}
use Rattle.laws_operations.proofs.Sums.{sum_value, difference_value, negative_value, add_fits, add_over, sub_fits, sub_over, minus_fits, minus_over}
use Rattle.laws_operations.proofs.Products.{product_value, mul_right}
use Rattle.laws_operations.proofs.Quotients.{div_value, div_right, div_zero, mod_value, mod_right, mod_is_int, mod_zero}
use Rattle.laws_operations.proofs.Orders.{char_int, eq_word, ge_word, gt_word, le_word, lt_word, same_answer}

-- ---- what the code means, by the words in its slots

add_is : (view : View) (u v : ℕ) → view.slot 0 ≡ Some u → view.slot 1 ≡ Some v → value view add_code ≡ sum_value u v
unfolding meant binds
add_is view u v p q = rw (p, q) refl

sub_is : (view : View) (u v : ℕ) → view.slot 0 ≡ Some u → view.slot 1 ≡ Some v → value view sub_code ≡ difference_value u v
unfolding meant binds
sub_is view u v p q = rw (p, q) refl

mul_is : (view : View) (u v : ℕ) → view.slot 0 ≡ Some u → view.slot 1 ≡ Some v → value view mul_code ≡ product_value u v
unfolding meant binds
mul_is view u v p q = rw (p, q) refl

minus_is : (view : View) (u : ℕ) → view.slot 0 ≡ Some u → value view minus_code ≡ negative_value u
unfolding meant binds
minus_is view u p = rw p refl

div_is : (view : View) (u v : ℕ) → view.slot 0 ≡ Some u → view.slot 1 ≡ Some v → value view div_code ≡ div_value u v
unfolding meant binds
div_is view u v p q = rw (p, q) refl

mod_is : (view : View) (u v : ℕ) → view.slot 0 ≡ Some u → view.slot 1 ≡ Some v → value view mod_code ≡ mod_value u v
unfolding meant binds
mod_is view u v p q = rw (p, q) refl

le_is : (view : View) (u v : ℕ) → view.slot 0 ≡ Some u → view.slot 1 ≡ Some v → value view le_code ≡ Gives (op_word op.Xor (op_word op.Slt v u) 1)
unfolding meant binds
le_is view u v p q = rw (p, q) refl

ge_is : (view : View) (u v : ℕ) → view.slot 0 ≡ Some u → view.slot 1 ≡ Some v → value view ge_code ≡ Gives (op_word op.Xor (op_word op.Slt u v) 1)
unfolding meant binds
ge_is view u v p q = rw (p, q) refl

gt_is : (view : View) (u v : ℕ) → view.slot 0 ≡ Some u → view.slot 1 ≡ Some v → value view gt_code ≡ Gives (op_word op.Slt v u)
unfolding meant binds
gt_is view u v p q = rw (p, q) refl

abbrev char_value : ℕ → Value
char_value u = by_truth (op_word op.Sltu u 256) (Gives u) (Raises trap.IllegalChar)

i2c_is : (view : View) (u : ℕ) → view.slot 0 ≡ Some u → value view i2c_code ≡ char_value u
unfolding meant binds
i2c_is view u p = rw p refl

-- ---- ints

of_words : (z : ℤ) (f : ℕ → ℕ → Value) (x y : ℤ) (u v : ℕ) → u ≡ word x → v ≡ word y → FitsOr z (f (word x) (word y)) → FitsOr z (f u v)
of_words z f x y u v e g h = subst (λ a. FitsOr z (f a v)) (sym e) (subst (λ b. FitsOr z (f (word x) b)) (sym g) h)

module _ (image : Image) (map : Layout) (view : View) (os : List Object) where
  abbrev Two : CluType → Type 0
  Two t = InSlots image map view (type_and t (type_and t no_types)) 0 os

  abbrev One : CluType → Type 0
  One t = InSlots image map view (type_and t no_types) 0 os

  -- an operation of two ints that gives an int, or overflow
  fits_row : (f : ℤ → ℤ → ℤ) (code : Expr) (g : ℕ → ℕ → Value) →
      ((u v : ℕ) → view.slot 0 ≡ Some u → view.slot 1 ≡ Some v → value view code ≡ g u v) →
      ((x y : ℤ) → is_int x ≡ true → is_int y ≡ true → FitsOr (f x y) (g (word x) (word y))) →
      Two int_type → (w : World) → Int image map w (numbers.two_ints os (λ x y. gives_int_or_overflow (f x y))) (value view code)
  fits_row f code g is right h w = both_ints image map view (type_and int_type no_types) (λ x. x ≡ w) (value view code) (λ x y. gives_int_or_overflow (f x y)) os w h (λ x y u v p q k l.
      gives_fit image map (f x y) w (value view code) (subst (λ a. FitsOr (f x y) a) (sym (is u v p q)) (of_words (f x y) g x y u v k.word_is l.word_is (right x y k.is_one l.is_one))))

  minus_row : One int_type → (w : World) → Int image map w (int_minus os) (value view minus_code)
  minus_row h w = an_int image map view (type_and int_type no_types) (λ x. x ≡ w) (value view minus_code) (λ x. gives_int_or_overflow (neg_ℤ x)) os w h (λ x u p k.
      gives_fit image map (neg_ℤ x) w (value view minus_code) (subst (λ a. FitsOr (neg_ℤ x) a) (sym (minus_is view u p ∙ ap negative_value k.word_is))
      (record { fits = minus_fits x k.is_one; over = minus_over x k.is_one })))

  -- a division by 0, and by another int
  zero_word : (y : ℤ) (v : ℕ) → is_zero y ≡ true → v ≡ word y → v ≡ 0
  zero_word (pos n) v e g = g ∙ by n e
    where
      by : (n : ℕ) → (n == 0) ≡ true → n ≡ 0
      by n e = grind arith
  zero_word (negsuc n) v e g = absurd (cc e)

  abbrev divides : Bool → Action → Action
  divides t rest = signals_if signal.ZeroDivide t rest

  abbrev actions_div : ℤ → ℤ → Action
  actions_div x y = divides (is_zero y) (gives_int_or_overflow (int_div_euclid x y))

  div_row : Two int_type → (w : World) → Int image map w (numbers.int_div os) (value view div_code)
  div_row h w = both_ints image map view (type_and int_type no_types) (λ x. x ≡ w) (value view div_code) (λ x y. actions_div x y) os w h (λ x y u v p q k l. by x y u v p q k l (is_zero y) refl)
    where
      by : (x y : ℤ) (u v : ℕ) → view.slot 0 ≡ Some u → view.slot 1 ≡ Some v → IsInt x u → IsInt y v → (t : Bool) → is_zero y ≡ t → Int image map w (actions_div x y) (value view div_code)
      by x y u v p q k l true e = subst (λ t. Int image map w (divides t (gives_int_or_overflow (int_div_euclid x y))) (value view div_code)) (sym e)
          (zero_divides image map (gives_int_or_overflow (int_div_euclid x y)) w (value view div_code) (div_is view u v p q ∙ ap (div_value u) (zero_word y v e l.word_is) ∙ div_zero u))
      by x y u v p q k l false e = goes_on image map signal.ZeroDivide (is_zero y) (gives_int_or_overflow (int_div_euclid x y)) w (value view div_code) e
          (gives_fit image map (int_div_euclid x y) w (value view div_code) (subst (λ a. FitsOr (int_div_euclid x y) a) (sym (div_is view u v p q))
          (of_words (int_div_euclid x y) div_value x y u v k.word_is l.word_is (div_right x y k.is_one l.is_one e))))

  mod_row : Two int_type → (w : World) → Int image map w (numbers.int_mod os) (value view mod_code)
  mod_row h w = both_ints image map view (type_and int_type no_types) (λ x. x ≡ w) (value view mod_code) (λ x y. divides (is_zero y) (gives_int (int_rem_euclid x y))) os w h (λ x y u v p q k l. by x y u v p q k l (is_zero y) refl)
    where
      by : (x y : ℤ) (u v : ℕ) → view.slot 0 ≡ Some u → view.slot 1 ≡ Some v → IsInt x u → IsInt y v → (t : Bool) → is_zero y ≡ t → Int image map w (divides (is_zero y) (gives_int (int_rem_euclid x y))) (value view mod_code)
      by x y u v p q k l true e = subst (λ t. Int image map w (divides t (gives_int (int_rem_euclid x y))) (value view mod_code)) (sym e)
          (zero_divides image map (gives_int (int_rem_euclid x y)) w (value view mod_code) (mod_is view u v p q ∙ ap (mod_value u) (zero_word y v e l.word_is) ∙ mod_zero u))
      by x y u v p q k l false e = goes_on image map signal.ZeroDivide (is_zero y) (gives_int (int_rem_euclid x y)) w (value view mod_code) e
          (gives_int_word image map (int_rem_euclid x y) w (value view mod_code) (mod_is_int x y l.is_one e)
          (mod_is view u v p q ∙ (λ i. mod_value (k.word_is i) (l.word_is i)) ∙ mod_right x y k.is_one l.is_one e))

  -- a comparison of two ints
  compared_row : (holds : Ordering → Bool) (code : Expr) (g : ℕ → ℕ → ℕ) →
      ((u v : ℕ) → view.slot 0 ≡ Some u → view.slot 1 ≡ Some v → value view code ≡ Gives (g u v)) →
      ((x y : ℤ) (u v : ℕ) → IsInt x u → IsInt y v → g u v ≡ bit (holds (int_cmp x y))) →
      Two int_type → (w : World) → Comes image map (type_and bool_type no_types) (λ x. x ≡ w) (int_compared holds os w) (value view code)
  compared_row holds code g is right h w = both_ints image map view (type_and bool_type no_types) (λ x. x ≡ w) (value view code) (λ x y. gives_bool (holds (int_cmp x y))) os w h (λ x y u v p q k l.
      given_bool image map (holds (int_cmp x y)) (g u v) w (value view code) (is u v p q) (right x y u v k l))

  -- of two chars
  chars_row : (holds : Ordering → Bool) (code : Expr) (g : ℕ → ℕ → ℕ) →
      ((u v : ℕ) → view.slot 0 ≡ Some u → view.slot 1 ≡ Some v → value view code ≡ Gives (g u v)) →
      ((x y : ℤ) (u v : ℕ) → IsInt x u → IsInt y v → g u v ≡ bit (holds (int_cmp x y))) →
      Two char_type → (w : World) → Comes image map (type_and bool_type no_types) (λ x. x ≡ w) (char_compared holds os w) (value view code)
  chars_row holds code g is right h w = both_chars image map view (type_and bool_type no_types) (λ x. x ≡ w) (value view code) (λ c d. gives_bool (holds (nat_cmp c d))) os w h (λ c d p q l m.
      given_bool image map (holds (nat_cmp c d)) (g c d) w (value view code) (is c d p q) (right (pos c) (pos d) c d (char_int c l) (char_int d m) ∙ ap (λ o. bit (holds o)) (same_answer c d)))

  c2i_row : One char_type → (w : World) → Int image map w (char_c2i os) (value view (slot 0))
  c2i_row h w = one_object image map view (type_and int_type no_types) (λ x. x ≡ w) (value view (slot 0)) char_type (λ a. with_char a (λ c. gives_int (pos c))) os w h (λ o u p s.
      as_char (λ out. Comes image map (type_and int_type no_types) (λ x. x ≡ w) out (value view (slot 0))) tt o (λ c. gives_int (pos c)) w (λ c e.
      let shown = subst (λ a. At image map char_type a u) e s in
      gives_int_word image map (pos c) w (value view (slot 0)) ((char_int c shown.1).is_one) (slot_is view u p ∙ ap Gives shown.0)))

  -- a char of an int's number
  char_row : (x : ℤ) (u : ℕ) → IsInt x u → (w : World) (value : Value) → value ≡ char_value u →
      Comes image map (type_and char_type no_types) (λ x. x ≡ w) (or_signals signal.IllegalChar (char_of_int x) (λ c. gives (char_object c)) w) value
  unfolding or_signals signals_with gives_all trap_name
  char_row (pos n) u k w value e = by (nat_lt n 256) refl
    where
      by : (t : Bool) → nat_lt n 256 ≡ t → Comes image map (type_and char_type no_types) (λ x. x ≡ w) (or_signals signal.IllegalChar (if t then Some n else None) (λ c. gives (char_object c)) w) value
      by true f = subst (λ x. Comes image map (type_and char_type no_types) (λ x. x ≡ w) (gives (char_object n) w) x) (sym (e ∙ ap char_value k.word_is ∙ ap (λ t. by_truth (from_bool t) (Gives n) (Raises trap.IllegalChar)) f)) ((refl, less_of n 256 f), refl)
      by false f = subst (λ x. Comes image map (type_and char_type no_types) (λ x. x ≡ w) (or_signals signal.IllegalChar (if false then Some n else None) (λ c. gives (char_object c)) w) x)
          (sym (e ∙ ap char_value k.word_is ∙ ap (λ t. by_truth (from_bool t) (Gives n) (Raises trap.IllegalChar)) f)) (refl, refl)
  char_row (negsuc n) u k w value e = subst (λ x. Comes image map (type_and char_type no_types) (λ x. x ≡ w) (or_signals signal.IllegalChar None (λ c. gives (char_object c)) w) x)
      (sym (e ∙ ap char_value k.word_is ∙ ap (λ t. by_truth (from_bool t) (Gives (word (negsuc n))) (Raises trap.IllegalChar)) (high n (less_of n (2 ^ 63) k.is_one)))) (refl, refl)
    where
      high : (n : ℕ) → n < 2 ^ 63 → nat_lt (word (negsuc n)) 256 ≡ false
      high n l = grind arith

  i2c_row : One int_type → (w : World) → Comes image map (type_and char_type no_types) (λ x. x ≡ w) (char_i2c os w) (value view i2c_code)
  i2c_row h w = an_int image map view (type_and char_type no_types) (λ x. x ≡ w) (value view i2c_code) (λ n. or_signals signal.IllegalChar (char_of_int n) (λ c. gives (char_object c))) os w h (λ x u p k.
      char_row x u k w (value view i2c_code) (i2c_is view u p))

pub ints_right : Each (Right int_type) int_rows
ints_right = (
  λ image map view os w around h. row_does image map (value view add_code) int_type (codes "add") os w (fits_row image map view os (λ x y. x +ℤ y) add_code sum_value (add_is view) (λ x y p q. record { fits = add_fits x y p q; over = add_over x y p q }) h),
  (
    λ image map view os w around h. row_does image map (value view sub_code) int_type (codes "sub") os w (fits_row image map view os (λ x y. x -ℤ y) sub_code difference_value (sub_is view) (λ x y p q. record { fits = sub_fits x y p q; over = sub_over x y p q }) h),
    (
      λ image map view os w around h. row_does image map (value view mul_code) int_type (codes "mul") os w (fits_row image map view os (λ x y. x *ℤ y) mul_code product_value (mul_is view) mul_right h),
      (
        λ image map view os w around h. row_does image map (value view minus_code) int_type (codes "minus") os w (minus_row image map view os h),
        (
          λ image map view os w around h. row_does image map (value view div_code) int_type (codes "div") os w (div_row image map view os h),
          (
            λ image map view os w around h. row_does image map (value view mod_code) int_type (codes "mod") os w (mod_row image map view os h),
            (
              λ image map view os w around h. row_does image map (value view lt_code) int_type (codes "lt") os w (compared_row image map view os is_lt lt_code (op_word op.Slt) (binary_is view op.Slt) lt_word h),
              (
                λ image map view os w around h. row_does image map (value view le_code) int_type (codes "le") os w (compared_row image map view os is_le le_code (λ u v. op_word op.Xor (op_word op.Slt v u) 1) (le_is view) le_word h),
                (
                  λ image map view os w around h. row_does image map (value view ge_code) int_type (codes "ge") os w (compared_row image map view os is_ge ge_code (λ u v. op_word op.Xor (op_word op.Slt u v) 1) (ge_is view) ge_word h),
                  (
                    λ image map view os w around h. row_does image map (value view gt_code) int_type (codes "gt") os w (compared_row image map view os is_gt gt_code (λ u v. op_word op.Slt v u) (gt_is view) gt_word h),
                    (
                      λ image map view os w around h. row_does image map (value view equal_code) int_type (codes "equal") os w (compared_row image map view os is_eq equal_code (op_word op.Equal) (binary_is view op.Equal) eq_word h),
                      (
                        λ image map view os w around h. row_does image map (value view equal_code) int_type (codes "similar") os w (compared_row image map view os is_eq equal_code (op_word op.Equal) (binary_is view op.Equal) eq_word h),
                        (
                          λ image map view os w around h. row_does image map (value view copy_code) int_type (codes "copy") os w (λ v. copies image map view int_type os v h),
                          tt,
                        ),
                      ),
                    ),
                  ),
                ),
              ),
            ),
          ),
        ),
      ),
    ),
  ),
)

pub chars_right : Each (Right char_type) char_rows
chars_right = (
  λ image map view os w around h. row_does image map (value view i2c_code) char_type (codes "i2c") os w (i2c_row image map view os h),
  (
    λ image map view os w around h. row_does image map (value view (slot 0)) char_type (codes "c2i") os w (c2i_row image map view os h),
    (
      λ image map view os w around h. row_does image map (value view lt_code) char_type (codes "lt") os w (chars_row image map view os is_lt lt_code (op_word op.Slt) (binary_is view op.Slt) lt_word h),
      (
        λ image map view os w around h. row_does image map (value view le_code) char_type (codes "le") os w (chars_row image map view os is_le le_code (λ u v. op_word op.Xor (op_word op.Slt v u) 1) (le_is view) le_word h),
        (
          λ image map view os w around h. row_does image map (value view ge_code) char_type (codes "ge") os w (chars_row image map view os is_ge ge_code (λ u v. op_word op.Xor (op_word op.Slt u v) 1) (ge_is view) ge_word h),
          (
            λ image map view os w around h. row_does image map (value view gt_code) char_type (codes "gt") os w (chars_row image map view os is_gt gt_code (λ u v. op_word op.Slt v u) (gt_is view) gt_word h),
            (
              λ image map view os w around h. row_does image map (value view equal_code) char_type (codes "equal") os w (chars_row image map view os is_eq equal_code (op_word op.Equal) (binary_is view op.Equal) eq_word h),
              (
                λ image map view os w around h. row_does image map (value view equal_code) char_type (codes "similar") os w (chars_row image map view os is_eq equal_code (op_word op.Equal) (binary_is view op.Equal) eq_word h),
                (
                  λ image map view os w around h. row_does image map (value view copy_code) char_type (codes "copy") os w (λ v. copies image map view char_type os v h),
                  tt,
                ),
              ),
            ),
          ),
        ),
      ),
    ),
  ),
)
