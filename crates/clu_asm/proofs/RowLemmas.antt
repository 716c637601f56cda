-- Lines of eight bytes each: the first, none, and one more.

use Rattle.std.proofs.Common.{◌≡◌, ℕ, zero, suc, ◌+◌, ◌*◌, ◌/◌, ◌%◌, ◌<◌, ◌≤◌, List, [], ◌∷◌, ◌++◌, length, take, drop, refl, sym, ap, ◌∙◌, arith, append_assoc, append-nil, length-append, length-drop}
use Rattle.std.proofs.lemmas.List.{take-append-le, drop-append-le, nil_from_length}
use Rattle.std.proofs.Math.Seq.{take-length}
use Rattle.clu_asm.specs.AssemblyText.{row_line, row_lines, some_row_lines}

pub first_of : (n : ℕ) (word xs : List ℕ) → some_row_lines (suc n) word xs ≡ row_line word (take 8 xs) ++ some_row_lines n word (drop 8 xs)
unfolding some_row_lines
first_of n word xs = refl

-- the line of the first eight bytes, and the others
pub rows_first : (word xs : List ℕ) → 8 ≤ length xs → row_lines word xs ≡ row_line word (take 8 xs) ++ row_lines word (drop 8 xs)
rows_first word xs h =
    let count : length xs / 8 ≡ suc (length (drop 8 xs) / 8) = omega (arith, length-drop 8 xs) in
    ap (λ (n : ℕ). some_row_lines n word xs) count ∙ first_of (length (drop 8 xs) / 8) word xs

pub none_of : (word xs : List ℕ) → some_row_lines zero word xs ≡ []
unfolding some_row_lines
none_of word xs = refl

-- no line for fewer than eight bytes
pub rows_none : (word xs : List ℕ) → length xs < 8 → row_lines word xs ≡ []
rows_none word xs h =
    let count : length xs / 8 ≡ 0 = omega (arith, h) in
    ap (λ (n : ℕ). some_row_lines n word xs) count ∙ none_of word xs

last_of : (n : ℕ) (word xs row : List ℕ) → length xs ≡ 8 * n → length row ≡ 8 → some_row_lines (suc n) word (xs ++ row) ≡ some_row_lines n word xs ++ row_line word row
last_of zero word xs row e eight =
    let empty : xs ≡ [] = nil_from_length xs (omega (arith, e)) in
    let all : take 8 row ≡ row = ap (λ (n : ℕ). take n row) (sym eight) ∙ take-length row in
    rw empty (first_of zero word row ∙ ap (λ (l : List ℕ). row_line word (take 8 row) ++ l) (none_of word (drop 8 row)) ∙ append-nil (row_line word (take 8 row)) ∙ ap (row_line word) all ∙ sym (ap (λ (l : List ℕ). l ++ row_line word row) (none_of word [])))
last_of (suc n) word xs row e eight =
    let long : 8 ≤ length xs = omega (arith, e) in
    let taken : take 8 (xs ++ row) ≡ take 8 xs = take-append-le 8 xs row long in
    let left : drop 8 (xs ++ row) ≡ drop 8 xs ++ row = drop-append-le 8 xs row long in
    let count : length (drop 8 xs) ≡ 8 * n = omega (arith, length-drop 8 xs, e) in
    let others : some_row_lines (suc n) word (drop 8 xs ++ row) ≡ some_row_lines n word (drop 8 xs) ++ row_line word row = last_of n word (drop 8 xs) row count eight in
    first_of (suc n) word (xs ++ row)
    ∙ ap (λ (l : List ℕ). row_line word l ++ some_row_lines (suc n) word (drop 8 (xs ++ row))) taken
    ∙ ap (λ (l : List ℕ). row_line word (take 8 xs) ++ some_row_lines (suc n) word l) left
    ∙ ap (λ (l : List ℕ). row_line word (take 8 xs) ++ l) others
    ∙ sym (append_assoc (row_line word (take 8 xs)) (some_row_lines n word (drop 8 xs)) (row_line word row))
    ∙ ap (λ (l : List ℕ). l ++ row_line word row) (sym (first_of n word xs))

-- the lines of eight bytes more
pub rows_last : (word xs row : List ℕ) → length xs % 8 ≡ 0 → length row ≡ 8 → row_lines word (xs ++ row) ≡ row_lines word xs ++ row_line word row
rows_last word xs row whole eight =
    let more : length (xs ++ row) / 8 ≡ suc (length xs / 8) = omega (arith, length-append xs row, eight) in
    ap (λ (n : ℕ). some_row_lines n word (xs ++ row)) more ∙ last_of (length xs / 8) word xs row (omega (arith, whole)) eight

-- a turn of the writer: one line more, eight bytes fewer
pub written_on : (out old word left all : List ℕ) → 8 ≤ length left → out ++ row_lines word left ≡ old ++ row_lines word all
    → (out ++ row_line word (take 8 left)) ++ row_lines word (drop 8 left) ≡ old ++ row_lines word all
written_on out old word left all h e =
    append_assoc out (row_line word (take 8 left)) (row_lines word (drop 8 left)) ∙ ap (λ (l : List ℕ). out ++ l) (sym (rows_first word left h)) ∙ e

-- the writer is done
pub written_all : (out old word left all : List ℕ) → length left < 8 → out ++ row_lines word left ≡ old ++ row_lines word all → out ≡ old ++ row_lines word all
written_all out old word left all h e = sym (append-nil out) ∙ ap (λ (l : List ℕ). out ++ l) (sym (rows_none word left h)) ∙ e

-- a turn of the reader
pub read_on : (b word xs row rest after : List ℕ) → length xs % 8 ≡ 0 → length row ≡ 8 → b ≡ row_lines word xs ++ rest → rest ≡ row_line word row ++ after
    → b ≡ row_lines word (xs ++ row) ++ after
read_on b word xs row rest after whole eight e f =
    e ∙ ap (λ (l : List ℕ). row_lines word xs ++ l) f
    ∙ sym (append_assoc (row_lines word xs) (row_line word row) after)
    ∙ ap (λ (l : List ℕ). l ++ after) (sym (rows_last word xs row whole eight))
