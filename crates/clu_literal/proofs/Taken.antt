-- What has been taken of a text, and what the rest denotes.
use Rattle.std.proofs.Common.{◌≡◌, ◌∙◌, ℕ, ◌-◌, ◌<◌, ◌≤◌, List, [], ◌∷◌, ◌++◌, length, take, drop, get_or, refl, ap, sym, Option, Some, None, append_assoc, append-nil, arith}
use Rattle.std.proofs.lemmas.List.{take_rest}
use Rattle.clu_literal.specs.Literal.{as_byte, escape_code, escape_len, text_denoted, with_byte}

-- the bytes so far, and those of the rest if it denotes any
unfoldable pub taken : List ℕ → Option (List ℕ) → Option (List ℕ)
taken out None = None
taken out (Some bs) = Some (out ++ bs)

pub taken_more : (out : List ℕ) (b : ℕ) (rest : Option (List ℕ)) → taken out (with_byte (Some b) rest) ≡ taken (out ++ b ∷ []) rest
unfolding taken with_byte
taken_more out b None = refl
taken_more out b (Some bs) = ap Some (sym (append_assoc out (b ∷ []) bs))

pub taken_no_byte : (out : List ℕ) (rest : Option (List ℕ)) → taken out (with_byte None rest) ≡ None
unfolding taken with_byte
taken_no_byte out rest = refl

pub taken_last : (out : List ℕ) → taken out (Some []) ≡ Some out
unfolding taken
taken_last out = ap Some (append-nil out)

pub taken_first : (rest : Option (List ℕ)) → taken [] rest ≡ rest
unfolding taken
taken_first None = refl
taken_first (Some bs) = refl

pub ruleset taken_laws = (taken_more, taken_no_byte, taken_last, taken_first)

-- a text is its first byte and the rest
pub in_two : (text : List ℕ) → 1 ≤ length text → text ≡ get_or text 0 0 ∷ take (length text - 1) (drop 1 text)
in_two [] h = absurd (omega (arith, h))
in_two (b ∷ bs) h = ap (λ rest. b ∷ rest) (sym (take_rest (b ∷ bs) 1))

abbrev tail : List ℕ → List ℕ
tail text = take (length text - 1) (drop 1 text)

-- a byte that stands for itself
denoted_plain : (b : ℕ) (bs : List ℕ) → (b ≡ 34 → ⊥) → (b ≡ 92 → ⊥) → text_denoted 0 (b ∷ bs) ≡ with_byte (Some b) (text_denoted 0 bs)
denoted_plain b bs n m = grind arith

pub plain_taken : (out out' text : List ℕ) (skip : ℕ) (found : Option (List ℕ)) → 1 ≤ length text → skip ≡ 0 → (get_or text 0 0 ≡ 34 → ⊥) → (get_or text 0 0 ≡ 92 → ⊥) → out' ≡ out ++ get_or text 0 0 ∷ [] → taken out (text_denoted skip text) ≡ found → taken out' (text_denoted skip (tail text)) ≡ found
plain_taken out out' text skip found some none n m more is =
    let b = get_or text 0 0 in
    let front : text_denoted skip text ≡ with_byte (Some b) (text_denoted 0 (tail text)) = ap (text_denoted skip) (in_two text some) ∙ ap (λ k. text_denoted k (b ∷ tail text)) none ∙ denoted_plain b (tail text) n m in
    rw (none, more) (sym (taken_more out b (text_denoted 0 (tail text))) ∙ ap (taken out) (sym front) ∙ is)

-- an escape
denoted_escape : (b : ℕ) (bs : List ℕ) → b ≡ 92 → text_denoted 0 (b ∷ bs) ≡ with_byte (as_byte (escape_code bs)) (text_denoted (escape_len bs) bs)
denoted_escape b bs e = grind (arith, e)

pub escape_denoted : (text : List ℕ) (skip : ℕ) → 1 ≤ length text → skip ≡ 0 → get_or text 0 0 ≡ 92 → text_denoted skip text ≡ with_byte (as_byte (escape_code (tail text))) (text_denoted (escape_len (tail text)) (tail text))
escape_denoted text skip some none e = ap (text_denoted skip) (in_two text some) ∙ ap (λ k. text_denoted k (get_or text 0 0 ∷ tail text)) none ∙ denoted_escape (get_or text 0 0) (tail text) e

pub escape_taken : (out out' text : List ℕ) (skip skip' byte : ℕ) (found : Option (List ℕ)) → 1 ≤ length text → skip ≡ 0 → get_or text 0 0 ≡ 92 → Some byte ≡ as_byte (escape_code (tail text)) → out' ≡ out ++ byte ∷ [] → skip' ≡ escape_len (tail text) → taken out (text_denoted skip text) ≡ found → taken out' (text_denoted skip' (tail text)) ≡ found
escape_taken out out' text skip skip' byte found some none e is_byte more length_is is =
    let rest = text_denoted (escape_len (tail text)) (tail text) in
    rw (length_is, more) (sym (taken_more out byte rest) ∙ ap (λ b. taken out (with_byte b rest)) is_byte ∙ ap (taken out) (sym (escape_denoted text skip some none e)) ∙ is)

pub escape_fails : (out text : List ℕ) (skip : ℕ) (found : Option (List ℕ)) → 1 ≤ length text → skip ≡ 0 → get_or text 0 0 ≡ 92 → None ≡ as_byte (escape_code (tail text)) → taken out (text_denoted skip text) ≡ found → None ≡ found
escape_fails out text skip found some none e is_none is =
    let rest = text_denoted (escape_len (tail text)) (tail text) in
    sym (taken_no_byte out rest) ∙ ap (λ b. taken out (with_byte b rest)) is_none ∙ ap (taken out) (sym (escape_denoted text skip some none e)) ∙ is

pub end_taken : (out text : List ℕ) (skip : ℕ) (found : Option (List ℕ)) → length text < 1 → taken out (text_denoted skip text) ≡ found → Some out ≡ found
end_taken out [] skip found none is = sym (taken_last out) ∙ is
end_taken out (b ∷ bs) skip found none is = absurd (omega (arith, none))
