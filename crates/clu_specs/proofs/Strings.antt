-- Strings in hexadecimal, as a loop reads them.
use Rattle.std.proofs.Common.{◌≡◌, ℕ, suc, ◌+◌, ◌-◌, ◌<◌, ◌≤◌, List, [], ◌∷◌, ◌++◌, length, Ok, Err, Some, None, refl, sym, ◌∙◌, arith}
use Rattle.clu_base.specs.declared.errors.FormatError.{FormatError}
use Rattle.clu_base.specs.declared.errors.FormatError.TheVariants as error
use Rattle.clu_specs.specs.Reading.{Read, Fails, behind}
use Rattle.clu_specs.specs.Constants.{string_at, byte_at}

pub turn_on : (len i b : ℕ) (made bytes after : List ℕ) (total : Read (List ℕ)) → i < len → behind 34 bytes ≡ None → byte_at bytes ≡ Ok (b, after)
    → string_at (len - i) made bytes ≡ total → string_at (len - (i + 1)) (made ++ b ∷ []) after ≡ total
unfolding string_at
turn_on len i b made bytes after total lt n s so_far =
    let k : len - i ≡ suc (len - (i + 1)) = omega arith in
    let one : string_at (len - i) made bytes ≡ string_at (len - (i + 1)) (made ++ b ∷ []) after = rw (k, n, s) refl in
    sym one ∙ so_far

pub turn_end : (len i : ℕ) (made bytes after : List ℕ) (total : Read (List ℕ)) → i < len → behind 34 bytes ≡ Some after
    → string_at (len - i) made bytes ≡ total → total ≡ Ok (made, after)
unfolding string_at
turn_end len i made bytes after total lt n so_far =
    let k : len - i ≡ suc (len - (i + 1)) = omega arith in
    let one : string_at (len - i) made bytes ≡ Ok (made, after) = rw (k, n) refl in
    sym so_far ∙ one

pub turn_fails : (e : FormatError) (len i : ℕ) (made bytes : List ℕ) (total : Read (List ℕ)) → i < len → behind 34 bytes ≡ None → Fails e (byte_at bytes)
    → string_at (len - i) made bytes ≡ total → Fails e total
unfolding string_at
turn_fails error.Memory len i made bytes total lt n s so_far = tt
turn_fails (error.Bad left) len i made bytes total lt n s so_far =
    let k : len - i ≡ suc (len - (i + 1)) = omega arith in
    let one : string_at (len - i) made bytes ≡ Err left = rw (k, n, s) refl in
    sym so_far ∙ one

pub none_left : (len i : ℕ) (made bytes : List ℕ) (total : Read (List ℕ)) → len ≤ i → string_at (len - i) made bytes ≡ total → total ≡ Err (length bytes)
unfolding string_at
none_left len i made bytes total le so_far =
    let k : len - i ≡ 0 = omega arith in
    let one : string_at (len - i) made bytes ≡ Err (length bytes) = rw k refl in
    sym so_far ∙ one
