-- The operations of int and char. from_to and from_to_by of int are defined by texts.
use Rattle.std.specs.Prelude.{ℕ, ◌+◌, ◌-◌, ◌*◌, ℤ, pos, ◌+ℤ◌, ◌-ℤ◌, ◌*ℤ◌, neg_ℤ, nat_abs, Bool, ◌&&◌, ◌==◌, nat_le, List, [], ◌∷◌, length, Option, None, Some, if◌then◌else◌, codes}
use Rattle.std.specs.Option.{option_map}
use Rattle.std.specs.Int.{is_negative, int_div_euclid, int_rem_euclid, int_pow}
use Rattle.std.specs.Fmt.{signed_decimal}
use Rattle.std.specs.declared.cmp.Ordering.{Ordering}
use Rattle.std.specs.Ordering.{is_lt, is_le, is_eq, is_ge, is_gt, nat_cmp, int_cmp}
use Rattle.clu_builtin.specs.declared.names.Signal.TheVariants as signal
use Rattle.clu_layout.specs.Objects.{Object, char_object, string_object}
use Rattle.clu_layout.specs.Places.{is_zero, char_of_int}
use Rattle.clu_layout.specs.Actions.{Action, Primitive, gives, gives_bool, gives_int, gives_int_or_overflow, signals_if, or_signals, counts, takes, with_one, with_two, with_int, with_char, with_string}
use Rattle.clu_layout.specs.PlainOperations.{Primitives, equal_similar_copy}

-- ---- int

abbrev pub one_int : List Object → (ℤ → Action) → Action
one_int os rest = with_one os (λ a. with_int a rest)

abbrev pub two_ints : List Object → (ℤ → ℤ → Action) → Action
two_ints os rest = with_two os (λ a b. with_int a (λ x. with_int b (λ y. rest x y)))

-- add | (T, T): T | overflow
abbrev pub int_add : Primitive
int_add os = two_ints os (λ x y. gives_int_or_overflow (x +ℤ y))

-- sub | (T, T): T | overflow
abbrev pub int_sub : Primitive
int_sub os = two_ints os (λ x y. gives_int_or_overflow (x -ℤ y))

-- mul | (T, T): T | overflow
abbrev pub int_mul : Primitive
int_mul os = two_ints os (λ x y. gives_int_or_overflow (x *ℤ y))

-- minus | (T): T | overflow
abbrev pub int_minus : Primitive
int_minus os = one_int os (λ x. gives_int_or_overflow (neg_ℤ x))

-- div | (T, T): T | zero_divide, overflow | x = y * div(x, y) + mod(x, y)
abbrev pub int_div : Primitive
int_div os = two_ints os (λ x y. signals_if signal.ZeroDivide (is_zero y) (gives_int_or_overflow (int_div_euclid x y)))

-- mod | (T, T): T | zero_divide | at least 0 and below the absolute value of y
abbrev pub int_mod : Primitive
int_mod os = two_ints os (λ x y. signals_if signal.ZeroDivide (is_zero y) (gives_int (int_rem_euclid x y)))

-- power | (T, T): T | negative_exponent, overflow | it counts 64 besides
abbrev pub int_power : Primitive
int_power os = two_ints os (λ x y. counts 64
    (signals_if signal.NegativeExponent (is_negative y) (gives_int_or_overflow (int_pow x (nat_abs y)))))

-- lt, le, ge, gt, equal | (T, T): bool
abbrev pub int_compared : (Ordering → Bool) → Primitive
int_compared holds os = two_ints os (λ x y. gives_bool (holds (int_cmp x y)))

-- the number whose digits are those of n and then these
abbrev pub digits_after : ℕ → List ℕ → Option ℕ
digits_after n [] = Some n
digits_after n (c ∷ cs) = if nat_le 48 c && nat_le c 57 then digits_after (n * 10 + (c - 48)) cs else None

-- the number that one or more digits denote
abbrev pub number_of : List ℕ → Option ℤ
number_of [] = None
number_of (c ∷ cs) = option_map pos (digits_after 0 (c ∷ cs))

-- the number that an optional + or - and one or more digits denote
abbrev pub signed_number_of : List ℕ → Option ℤ
signed_number_of [] = None
signed_number_of (c ∷ cs) =
    if c == 45 then option_map neg_ℤ (number_of cs) else (if c == 43 then number_of cs else number_of (c ∷ cs))

-- parse | (string): T | bad_format, overflow | it counts the bytes of the string besides
abbrev pub int_parse : Primitive
int_parse os = with_one os (λ a. with_string a (λ s. counts (length s)
    (or_signals signal.BadFormat (signed_number_of s) gives_int_or_overflow)))

-- unparse | (T): string | 4 words | the shortest decimal digits, with - for negative ints
abbrev pub int_unparse : Primitive
int_unparse os = one_int os (λ x. counts (length (signed_decimal x)) (takes 4 (gives (string_object (signed_decimal x)))))

abbrev pub int_primitives : Primitives
int_primitives =
    (codes "add", int_add) ∷
    (codes "sub", int_sub) ∷
    (codes "mul", int_mul) ∷
    (codes "minus", int_minus) ∷
    (codes "div", int_div) ∷
    (codes "mod", int_mod) ∷
    (codes "power", int_power) ∷
    (codes "lt", int_compared is_lt) ∷
    (codes "le", int_compared is_le) ∷
    (codes "ge", int_compared is_ge) ∷
    (codes "gt", int_compared is_gt) ∷
    (codes "parse", int_parse) ∷
    (codes "unparse", int_unparse) ∷
    equal_similar_copy (int_compared is_eq)

-- ---- char

-- i2c | (int): T | illegal_char | outside 0 to 255
abbrev pub char_i2c : Primitive
char_i2c os = one_int os (λ n. or_signals signal.IllegalChar (char_of_int n) (λ c. gives (char_object c)))

-- c2i | (T): int
abbrev pub char_c2i : Primitive
char_c2i os = with_one os (λ a. with_char a (λ c. gives_int (pos c)))

-- lt, le, ge, gt, equal | (T, T): bool | by number
abbrev pub char_compared : (Ordering → Bool) → Primitive
char_compared holds os = with_two os (λ a b. with_char a (λ c. with_char b (λ d. gives_bool (holds (nat_cmp c d)))))

abbrev pub char_primitives : Primitives
char_primitives =
    (codes "i2c", char_i2c) ∷
    (codes "c2i", char_c2i) ∷
    (codes "lt", char_compared is_lt) ∷
    (codes "le", char_compared is_le) ∷
    (codes "ge", char_compared is_ge) ∷
    (codes "gt", char_compared is_gt) ∷
    equal_similar_copy (char_compared is_eq)
