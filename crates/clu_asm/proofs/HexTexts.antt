-- Hexadecimal digits of some bytes are read as these bytes.

use Rattle.std.proofs.Common.{◌≡◌, ℕ, zero, suc, ◌+◌, ◌*◌, ◌/◌, ◌%◌, ◌^◌, ◌<◌, ◌≤◌, ◌==◌, ◌≢◌, Bool, true, false, cond, List, [], ◌∷◌, ◌++◌, length, slice_index, get_or, Result, Ok, Err, refl, sym, ap, ◌∙◌, arith}
use Rattle.std.specs.List.{All}
use Rattle.std.specs.Prelude.{MatchResult}
use Rattle.std.specs.Int.{w32, to_be_bytes}
use Rattle.std.proofs.lemmas.Bool.Decides.{Decides-eqb}
use Rattle.std.proofs.lemmas.Bool.{ne_eqb}
use Rattle.hex.specs.Hex.{IsBytes, decode_sized, decode_pairs, encode_lower, lower_digits}
use Rattle.hex.specs.declared.error.FromHexError.{FromHexError}
use Rattle.hex.proofs.HexLemmas.{length-encode_with, decode_pairs-encode_with, IsDigits-lower_digits}
use Rattle.rv_isa.specs.Image.{AreBytes}

pub sized_again : (n : ℕ) (bytes : List ℕ) → length bytes ≡ n → IsBytes bytes → decode_sized (encode_lower bytes) n ≡ Ok bytes
sized_again n bytes e h =
    let long : length (encode_lower bytes) ≡ 2 * length bytes = length-encode_with lower_digits bytes in
    let even : (length (encode_lower bytes) % 2 == 1) ≡ false = ne_eqb (length (encode_lower bytes) % 2) 1 (λ odd. omega (arith, odd, long)) in
    let half : (length (encode_lower bytes) / 2 == n) ≡ true = (Decides-eqb (length (encode_lower bytes) / 2) n).1 (omega (arith, long, e)) in
    rw (even, half) (decode_pairs-encode_with lower_digits IsDigits-lower_digits 0 bytes h)

pub bytes_from : (bytes : List ℕ) → AreBytes bytes → IsBytes bytes
bytes_from [] h i = omega arith
bytes_from (b ∷ bytes) h zero = h 0 0 (omega arith)
bytes_from (b ∷ bytes) h (suc i) = bytes_from bytes (λ k d l. h (suc k) d (omega (arith, l))) i

pub word_bytes : (w : ℕ) → IsBytes (to_be_bytes w32 w)
word_bytes w zero = omega arith
word_bytes w (suc zero) = omega arith
word_bytes w (suc (suc zero)) = omega arith
word_bytes w (suc (suc (suc zero))) = omega arith
word_bytes w (suc (suc (suc (suc i)))) = omega arith

-- what decoding into room for so many bytes gives of their digits
pub decoded_is : (n : ℕ) (digits out bytes : List ℕ) (r : Result (Unit {0}) FromHexError)
    → MatchResult (decode_sized digits n) (λ found. (r ≡ Ok tt) × (out ≡ found)) (λ e. r ≡ Err e) → digits ≡ encode_lower bytes → length bytes ≡ n → IsBytes bytes
    → (r ≡ Ok tt) × (out ≡ bytes)
decoded_is n digits out bytes r h e l b = rw (ap (λ (d : List ℕ). decode_sized d n) e ∙ sized_again n bytes l b) at h
