-- What is written of a field is read again, and what was read is written as the same bytes.
use Rattle.std.proofs.Common.{◌≡◌, ℕ, zero, suc, ◌+◌, ◌*◌, ◌/◌, ◌%◌, ◌^◌, ◌<◌, ◌≤◌, ℤ, pos, negsuc, min, nat_lt, Bool, true, false, List, [], ◌∷◌, ◌++◌, length, take, drop, get_or, Result, Ok, Err, if◌then◌else◌, refl, sym, ap, subst, ◌∙◌, append_assoc, arith}
use borrow.Author.Gap.{read_sfits}
use Rattle.std.proofs.Math.Nat.{div-div-eq-div-mul, div-one, pow-succ'}
use Rattle.std.proofs.lemmas.Bool.{ltb-false, le-ltb}
use Rattle.std.proofs.lemmas.Int.{to_z-of_z, of_z-to_z}
use Rattle.std.proofs.lemmas.List.{take_at, drop_at, length-append, length-take-le, take-append-drop, get_or-drop}
use Rattle.std.specs.Int.{w64, byte_at, bytes_low_first, cast_signed, cast_unsigned}
use Rattle.std.specs.Int.RustNames.{FitsSigned}
use Rattle.byteorder.specs.Endian.{little_from, little_number, little_bytes}
use Rattle.byteorder.specs.Numbers.{little_from-cons, little_from-take, little_from-lt, little_number-reads_back, length-bytes_low_first}
use Rattle.clu_specs.specs.Reading.{Read, ◌>>=◌}
use Rattle.clu_specs.proofs.Outcomes.{and_then, not_refused, ok_same}
use Rattle.clu_format.specs.Fields.{byte_read, number_read, signed_read, signed_bytes, content_read, text_read, text16_bytes}
use Rattle.clu_object.specs.ObjectReading.{but}

-- what was read, and what follows it
pub value_is : {X : Type 0} (p q : X × List ℕ) → ◌≡◌ {A = Read X} (Ok p) (Ok q) → p.0 ≡ q.0
value_is {X} p q e = ap (λ (x : X × List ℕ). x.0) (ok_same (Ok p) p q refl e)

pub behind_is : {X : Type 0} (p q : X × List ℕ) → ◌≡◌ {A = Read X} (Ok p) (Ok q) → p.1 ≡ q.1
behind_is {X} p q e = ap (λ (x : X × List ℕ). x.1) (ok_same (Ok p) p q refl e)

-- what holds of what was read holds of what it is
pub told : {X : Type 0} (P : X → List ℕ → Type 0) (p q : X × List ℕ) → ◌≡◌ {A = Read X} (Ok p) (Ok q) → P p.0 p.1 → P q.0 q.1
told {X} P p q e h = subst (λ (x : X × List ℕ). P x.0 x.1) (ok_same (Ok p) p q refl e) h

abbrev pub AreBytes : List ℕ → Type 0
AreBytes bytes = (k : ℕ) → get_or bytes k 0 < 256

pub bytes_behind : (n : ℕ) (bytes : List ℕ) → AreBytes bytes → AreBytes (drop n bytes)
bytes_behind n bytes h = λ k. rw get_or-drop (h (n + k))

-- Numbers.

byte_is : (j x : ℕ) → byte_at j x ≡ x / 256 ^ j % 256
byte_is zero x = ap (λ (y : ℕ). y % 256) (sym (div-one x))
byte_is (suc j) x = refl

-- a byte below moves the places on
byte_shift : (j a y : ℕ) → a < 256 → byte_at (suc j) (a + 256 * y) ≡ byte_at j y
byte_shift j a y lt =
    let first : (a + 256 * y) / 256 ≡ y = omega arith in
    let moved : (a + 256 * y) / 256 ^ suc j ≡ (a + 256 * y) / 256 / 256 ^ j = ap (λ (p : ℕ). (a + 256 * y) / p) (pow-succ' 256 j) ∙ sym (div-div-eq-div-mul (a + 256 * y) 256 (256 ^ j)) in
    byte_is (suc j) (a + 256 * y) ∙ ap (λ (x : ℕ). x % 256) (moved ∙ ap (λ (x : ℕ). x / 256 ^ j) first) ∙ sym (byte_is j y)

low_shift : (k j a y : ℕ) → a < 256 → bytes_low_first (suc j) k (a + 256 * y) ≡ bytes_low_first j k y
low_shift zero j a y lt = refl
low_shift (suc k) j a y lt = rw (byte_shift j a y lt, low_shift k (suc j) a y lt) refl

number_written : (n : ℕ) (bytes : List ℕ) → n ≤ length bytes → AreBytes bytes → little_bytes n (little_number n bytes) ++ drop n bytes ≡ bytes
number_written zero bytes le h = refl
number_written (suc n) [] le h = absurd (omega (arith, le))
number_written (suc n) (a ∷ bytes) le h =
    let y : ℕ = little_number n bytes in
    let small : a < 256 = h 0 in
    let behind : little_from 1 n (a ∷ bytes) ≡ y = little_from-cons 0 n a bytes in
    let low : (a + 256 * y) % 256 ≡ a = omega arith in
    let more : bytes_low_first 1 n (a + 256 * y) ≡ bytes_low_first 0 n y = low_shift n 0 a y small in
    let rest : bytes_low_first 0 n y ++ drop n bytes ≡ bytes = number_written n bytes (omega (arith, le)) (λ k. h (suc k)) in
    rw (behind, low, more) (ap (λ (xs : List ℕ). a ∷ xs) rest)

pub record NumberRead (n : ℕ) (bytes : List ℕ) (x : ℕ) (rest : List ℕ) : Type 0 where
  pub written : bytes ≡ little_bytes n x ++ rest
  pub small : x < 256 ^ n
  pub are_bytes : AreBytes rest

pub number_spelled : (n : ℕ) (bytes : List ℕ) (x : ℕ) (rest : List ℕ) → AreBytes bytes → number_read n bytes ≡ Ok (x, rest) → NumberRead n bytes x rest
number_spelled n bytes x rest h e =
    let r = not_refused (nat_lt (length bytes) n) (length bytes) (Ok (little_number n (take n bytes), drop n bytes)) (x, rest) e in
    let le : n ≤ length bytes = ltb-false (length bytes) n r.0 in
    let x_is : little_number n (take n bytes) ≡ x = value_is _ _ (r.1) in
    let rest_is : drop n bytes ≡ rest = behind_is _ _ (r.1) in
    let number : little_number n bytes ≡ x = sym (little_from-take 0 n n bytes (omega arith)) ∙ x_is in
    let written : little_bytes n (little_number n bytes) ++ drop n bytes ≡ bytes = number_written n bytes le h in
    record {
      written = sym (rw (number, rest_is) at written);
      small = rw number at (little_from-lt 0 n bytes h);
      are_bytes = rw rest_is at (bytes_behind n bytes h);
    }

pub number_again : (n x : ℕ) (rest : List ℕ) → x < 256 ^ n → number_read n (little_bytes n x ++ rest) ≡ Ok (x, rest)
number_again n x rest lt =
    let bytes : List ℕ = little_bytes n x ++ rest in
    let size : length (little_bytes n x) ≡ n = length-bytes_low_first 0 n x in
    let le : n ≤ length bytes = omega (arith, size, length-append (little_bytes n x) rest) in
    let enough : nat_lt (length bytes) n ≡ false = le-ltb (length bytes) n le in
    let number : little_number n (take n bytes) ≡ x = little_from-take 0 n n bytes (omega arith) ∙ little_number-reads_back n x rest lt in
    let behind : drop n bytes ≡ rest = drop_at (little_bytes n x) rest n size in
    rw (enough, number, behind) refl

-- Signed numbers.

chosen : {X Y : Type 0} (c : Bool) (left : ℕ) (p : X × List ℕ) (q : Y × List ℕ) (f : X × List ℕ → Read Y) → f p ≡ Ok q → ◌≡◌ {A = Read Y} (if c then Err left else Ok q) ((if c then Err left else Ok p) >>= f)
chosen true left p q f e = refl
chosen false left p q f e = sym e

signed_is : (bytes : List ℕ) → signed_read bytes ≡ (number_read 8 bytes >>= λ x. Ok (cast_signed w64 x.0, x.1))
signed_is bytes = chosen (nat_lt (length bytes) 8) (length bytes) (little_number 8 (take 8 bytes), drop 8 bytes) (cast_signed w64 (little_number 8 (take 8 bytes)), drop 8 bytes) (λ x. Ok (cast_signed w64 x.0, x.1)) refl

unsigned_small : (z : ℤ) → FitsSigned w64 z → cast_unsigned w64 z < 2 ^ 64
unsigned_small (pos n) fits = let h = fits.sfits in omega (arith, h)
unsigned_small (negsuc n) fits = omega arith

pub signed_again : (z : ℤ) (rest : List ℕ) → FitsSigned w64 z → signed_read (signed_bytes z ++ rest) ≡ Ok (z, rest)
signed_again z rest fits =
    let read : number_read 8 (signed_bytes z ++ rest) ≡ Ok (cast_unsigned w64 z, rest) = number_again 8 (cast_unsigned w64 z) rest (unsigned_small z fits) in
    signed_is (signed_bytes z ++ rest) ∙ rw (read, to_z-of_z w64 z fits) refl

pub record SignedRead (bytes : List ℕ) (z : ℤ) (rest : List ℕ) : Type 0 where
  pub fits : FitsSigned w64 z
  pub written : bytes ≡ signed_bytes z ++ rest
  pub are_bytes : AreBytes rest

pub signed_spelled : (bytes : List ℕ) (z : ℤ) (rest : List ℕ) → AreBytes bytes → signed_read bytes ≡ Ok (z, rest) → SignedRead bytes z rest
signed_spelled bytes z rest h e =
    let r = and_then (number_read 8 bytes) (λ (x : ℕ × List ℕ). Ok (cast_signed w64 x.0, x.1)) (z, rest) (sym (signed_is bytes) ∙ e) in
    let n : ℕ = r.0.0 in
    let z_is : cast_signed w64 n ≡ z = value_is _ _ (r.2) in
    let rest_is : r.0.1 ≡ rest = behind_is _ _ (r.2) in
    let read = number_spelled 8 bytes n r.0.1 h r.1 in
    let back : cast_unsigned w64 z ≡ n = ap (cast_unsigned w64) (sym z_is) ∙ of_z-to_z w64 n read.small in
    record {
      fits = subst (FitsSigned w64) z_is (read_sfits w64 n);
      written = read.written ∙ rw (back, rest_is) refl;
      are_bytes = rw rest_is at read.are_bytes;
    }

-- Bytes.

pub byte_spelled : (bytes : List ℕ) (b : ℕ) (rest : List ℕ) → AreBytes bytes → byte_read bytes ≡ Ok (b, rest) → (bytes ≡ b ∷ rest) × AreBytes rest
byte_spelled [] b rest are e = absurd (cc)
byte_spelled (x ∷ bytes) b rest are e =
    let b_is : x ≡ b = value_is _ _ e in
    let rest_is : bytes ≡ rest = behind_is _ _ e in
    (rw (b_is, rest_is) refl, subst AreBytes rest_is (λ k. are (suc k)))

-- Texts.

pub text_again : (n : ℕ) (text rest : List ℕ) → length text < 256 ^ n → text_read n ((little_bytes n (length text) ++ text) ++ rest) ≡ Ok (text, rest)
text_again n text rest lt =
    let number : number_read n (little_bytes n (length text) ++ (text ++ rest)) ≡ Ok (length text, text ++ rest) = number_again n (length text) (text ++ rest) lt in
    let le : length text ≤ length (text ++ rest) = omega (arith, length-append text rest) in
    let enough : nat_lt (length (text ++ rest)) (length text) ≡ false = le-ltb (length (text ++ rest)) (length text) le in
    let front : take (length text) (text ++ rest) ≡ text = take_at text rest (length text) refl in
    let behind : drop (length text) (text ++ rest) ≡ rest = drop_at text rest (length text) refl in
    rw (append_assoc (little_bytes n (length text)) text rest, number, enough, front, behind) refl

pub record TextRead (n : ℕ) (bytes text rest : List ℕ) : Type 0 where
  pub written : bytes ≡ (little_bytes n (length text) ++ text) ++ rest
  pub small : length text < 256 ^ n
  pub are_bytes : AreBytes rest

pub text_spelled : (n : ℕ) (bytes text rest : List ℕ) → AreBytes bytes → text_read n bytes ≡ Ok (text, rest) → TextRead n bytes text rest
text_spelled n bytes text rest h e =
    let r = and_then (number_read n bytes) (λ (x : ℕ × List ℕ). content_read bytes x.0 x.1) (text, rest) e in
    let count : ℕ = r.0.0 in
    let after : List ℕ = r.0.1 in
    let number = number_spelled n bytes count after h r.1 in
    let s = not_refused (nat_lt (length after) count) (length bytes) (Ok (take count after, drop count after)) (text, rest) r.2 in
    let le : count ≤ length after = ltb-false (length after) count s.0 in
    let text_is : take count after ≡ text = value_is _ _ (s.1) in
    let rest_is : drop count after ≡ rest = behind_is _ _ (s.1) in
    let size : length text ≡ count = ap length (sym text_is) ∙ length-take-le count after le in
    let cut : after ≡ text ++ rest = sym (take-append-drop count after) ∙ rw (text_is, rest_is) refl in
    record {
      written = number.written ∙ rw (size, cut) (sym (append_assoc (little_bytes n count) text rest));
      small = rw size number.small;
      are_bytes = rw rest_is at (bytes_behind count after number.are_bytes);
    }

-- the length of a short text is written as it is
pub text16_is : (text : List ℕ) → length text ≤ 0xffff → text16_bytes text ≡ little_bytes 2 (length text) ++ text
text16_is text le = let least : min (length text) 0xffff ≡ length text = omega arith in rw least refl

pub text16_again : (text rest : List ℕ) → length text ≤ 0xffff → text_read 2 (text16_bytes text ++ rest) ≡ Ok (text, rest)
text16_again text rest le = ap (λ (bs : List ℕ). text_read 2 (bs ++ rest)) (text16_is text le) ∙ text_again 2 text rest (omega (arith, le))

-- Steps of reading, of which each gave a value.

pub then_ok : {A B : Type 0} (r : Result A ℕ) (f : A → Result B ℕ) (x : A) (y : Result B ℕ) → r ≡ Ok x → f x ≡ y → (r >>= f) ≡ y
then_ok {A} r f x y e h = ap (λ (s : Result A ℕ). s >>= f) e ∙ h

pub otherwise : {A : Type 0} (c : Bool) (left : ℕ) (r y : Result A ℕ) → c ≡ false → r ≡ y → (if c then Err left else r) ≡ y
otherwise true left r y e h = absurd (cc)
otherwise false left r y e h = h

-- Fields that a test refuses.

pub but_ok : {X : Type 0} (test : X → Bool) (left : ℕ) (read : Read X) (x : X × List ℕ) → but test left read ≡ Ok x → (read ≡ Ok x) × (test x.0 ≡ false)
but_ok {X} test left read x e =
    let r = and_then read (λ (y : X × List ℕ). if test y.0 then Err left else Ok y) x e in
    let s = not_refused (test r.0.0) left (Ok r.0) x r.2 in
    let same : r.0 ≡ x = cc (s.1) in
    (r.1 ∙ ap (λ (y : X × List ℕ). Ok y) same, ap (λ (y : X × List ℕ). test y.0) (sym same) ∙ s.0)

pub but_again : {X : Type 0} (test : X → Bool) (left : ℕ) (read : Read X) (x : X × List ℕ) → read ≡ Ok x → test x.0 ≡ false → but test left read ≡ Ok x
but_again test left read x e t = rw (e, t) refl
