-- Words of memory behind a write.
use Rattle.std.proofs.Common.{◌≡◌, ◌∙◌, ◌⊎◌, inl, inr, ℕ, ◌+◌, ◌-◌, ◌^◌, ◌<◌, ◌≤◌, List, ◌++◌, length, take, drop, get_or, refl, ap, sym, arith}
use Rattle.std.specs.Int.{w64, to_le_bytes}
use Rattle.std.proofs.lemmas.List.{get_or-drop, get_or-take, get_or_append_left, get_or-append_right, length-append, length-drop, append_assoc}
use Rattle.std.proofs.lemmas.List.{length-take}
use Rattle.std.proofs.lemmas.Nat.{from_le_bytes-to_le_bytes_8}
use Rattle.rv_machine.specs.State.{number_at, with_number}

-- a word is that of its eight bytes
pub same_word : (xs ys : List ℕ) (a b : ℕ) → ((i : ℕ) → i < 8 → get_or xs (a + i) 0 ≡ get_or ys (b + i) 0) → number_at w64 xs a ≡ number_at w64 ys b
same_word xs ys a b h =
    let at : (i : ℕ) → i < 8 → get_or (drop a xs) i 0 ≡ get_or (drop b ys) i 0 = λ i l. get_or-drop a xs i 0 ∙ h i l ∙ sym (get_or-drop b ys i 0) in
    let e0 = at 0 (omega arith) in let e1 = at 1 (omega arith) in let e2 = at 2 (omega arith) in let e3 = at 3 (omega arith) in
    let e4 = at 4 (omega arith) in let e5 = at 5 (omega arith) in let e6 = at 6 (omega arith) in let e7 = at 7 (omega arith) in
    rw (e0, e1, e2, e3, e4, e5, e6, e7) refl

byte_before : (xs ys : List ℕ) (a i : ℕ) → a + 8 ≤ length xs → i < a → get_or (take a xs ++ (ys ++ drop (a + 8) xs)) i 0 ≡ get_or xs i 0
byte_before xs ys a i room l =
    get_or_append_left (take a xs) _ 0 i (omega (arith, length-take a xs)) ∙ get_or-take a xs i 0 l

byte_behind : (xs ys : List ℕ) (a i : ℕ) → a + 8 ≤ length xs → length ys ≡ 8 → a + 8 ≤ i → get_or (take a xs ++ (ys ++ drop (a + 8) xs)) i 0 ≡ get_or xs i 0
byte_behind xs ys a i room eight l =
    let first : length (take a xs) ≡ a = omega (arith, length-take a xs) in
    get_or-append_right (take a xs) _ a i 0 first (omega arith)
    ∙ get_or-append_right ys (drop (a + 8) xs) 8 (i - a) 0 eight (omega arith)
    ∙ get_or-drop (a + 8) xs (i - a - 8) 0
    ∙ ap (λ k. get_or xs k 0) (omega arith)

byte_in : (xs ys : List ℕ) (a i : ℕ) → a + 8 ≤ length xs → length ys ≡ 8 → i < 8 → get_or (take a xs ++ (ys ++ drop (a + 8) xs)) (a + i) 0 ≡ get_or ys i 0
byte_in xs ys a i room eight l =
    let first : length (take a xs) ≡ a = omega (arith, length-take a xs) in
    get_or-append_right (take a xs) _ a (a + i) 0 first (omega arith)
    ∙ ap (λ k. get_or (ys ++ drop (a + 8) xs) k 0) (omega arith)
    ∙ get_or_append_left ys _ 0 i (omega arith)

with_is : (xs : List ℕ) (a n : ℕ) → with_number w64 xs a n ≡ take a xs ++ (to_le_bytes w64 n ++ drop (a + 8) xs)
with_is xs a n = append_assoc (take a xs) (to_le_bytes w64 n) (drop (a + 8) xs)

pub word_other : (xs : List ℕ) (a b n : ℕ) → a + 8 ≤ length xs → (b + 8 ≤ a) ⊎ (a + 8 ≤ b) → number_at w64 (with_number w64 xs a n) b ≡ number_at w64 xs b
word_other xs a b n room (inl l) = ap (λ ys. number_at w64 ys b) (with_is xs a n) ∙ same_word (take a xs ++ (to_le_bytes w64 n ++ drop (a + 8) xs)) xs b b (λ i small. byte_before xs (to_le_bytes w64 n) a (b + i) room (omega arith))
word_other xs a b n room (inr l) = ap (λ ys. number_at w64 ys b) (with_is xs a n) ∙ same_word (take a xs ++ (to_le_bytes w64 n ++ drop (a + 8) xs)) xs b b (λ i small. byte_behind xs (to_le_bytes w64 n) a (b + i) room refl (omega arith))

pub word_same : (xs : List ℕ) (a n : ℕ) → a + 8 ≤ length xs → n < 2 ^ 64 → number_at w64 (with_number w64 xs a n) a ≡ n
word_same xs a n room small =
    ap (λ ys. number_at w64 ys a) (with_is xs a n)
    ∙ same_word (take a xs ++ (to_le_bytes w64 n ++ drop (a + 8) xs)) (to_le_bytes w64 n) a 0 (λ i l. byte_in xs (to_le_bytes w64 n) a i room refl l ∙ ap (λ k. get_or (to_le_bytes w64 n) k 0) (omega arith))
    ∙ from_le_bytes-to_le_bytes_8 n small

pub length_written : (xs : List ℕ) (a n : ℕ) → a + 8 ≤ length xs → length (with_number w64 xs a n) ≡ length xs
length_written xs a n room =
    let eight : length (to_le_bytes w64 n) ≡ 8 = refl in
    ap length (with_is xs a n) ∙ omega (arith, eight, length-append (take a xs) (to_le_bytes w64 n ++ drop (a + 8) xs), length-append (to_le_bytes w64 n) (drop (a + 8) xs), length-take a xs, length-drop (a + 8) xs)
