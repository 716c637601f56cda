-- Names: small letters, digits and _ (95), not beginning with a digit, of 1 to 200 bytes, and no reserved word.
-- z (122) is the greatest byte of a name.
use Rattle.std.specs.Prelude.{ℕ, suc, ◌-◌, min, Bool, true, false, not, ◌||◌, ◌==◌, nat_lt, if◌then◌else◌, List, [], ◌∷◌, length, take, drop, unwrap_or, Option, Some, None, is_some, Result, Ok, Err}
use Rattle.std.specs.Char.{is_ascii_lowercase, is_ascii_digit}
use Rattle.clu_base.specs.declared.tokens.Kind.TheVariants as kind
use Rattle.clu_lexer.specs.declared.symbols.Symbol.{Symbol}
use Rattle.clu_lexer.specs.declared.symbols.Symbol.TheVariants as symbol
use Rattle.clu_lexer.specs.Words.{symbol_of}

abbrev pub begins_name : ℕ → Bool
begins_name b = is_ascii_lowercase b || b == 95

abbrev pub goes_on_name : ℕ → Bool
goes_on_name b = begins_name b || is_ascii_digit b

-- how many bytes at the front are those of names
abbrev pub word_len : List ℕ → ℕ
word_len [] = 0
word_len (b ∷ bytes) = if goes_on_name b then suc (word_len bytes) else 0

abbrev pub first_word : List ℕ → List ℕ
first_word bytes = take (word_len bytes) bytes

abbrev pub behind_word : List ℕ → List ℕ
behind_word bytes = drop (word_len bytes) bytes

abbrev pub is_word : Symbol → Bool
is_word symbol.Unknown = false
is_word _ = true

-- one of the language's own words
unfoldable pub is_reserved : List ℕ → Bool
is_reserved text = is_word (symbol_of kind.Word text)

abbrev pub is_named : List ℕ → Bool
is_named [] = false
is_named (b ∷ rest) = begins_name b

-- by bytes, a proper prefix first
abbrev pub is_before : List ℕ → List ℕ → Bool
is_before a [] = false
is_before [] (y ∷ b) = true
is_before (x ∷ a) (y ∷ b) = if x == y then is_before a b else nat_lt x y

-- how many first bytes are the same
abbrev pub common : List ℕ → List ℕ → ℕ
common a [] = 0
common [] (y ∷ b) = 0
common (x ∷ a) (y ∷ b) = if x == y then suc (common a b) else 0

-- the place of the last byte that a greater one can replace
abbrev pub below_z : ℕ → Option ℕ → Option ℕ
below_z b None = if nat_lt b 122 then Some 0 else None
below_z b (Some i) = Some (suc i)

abbrev pub last_below_z : List ℕ → Option ℕ
last_below_z [] = None
last_below_z (b ∷ rest) = below_z b (last_below_z rest)

-- how many first bytes a later name may share with this one; None where no name comes later
unfoldable pub shared_with_later : List ℕ → Option ℕ
shared_with_later name = if nat_lt (length name) 200 then Some (length name) else last_below_z name

abbrev pub has_later : List ℕ → Bool
has_later name = is_some (shared_with_later name)

-- the name of at most limit bytes, after previous, at the front
unfoldable pub name_after : List ℕ → ℕ → List ℕ → Result (List ℕ × List ℕ) ℕ
name_after previous limit bytes =
    let front = take limit (first_word bytes) in
    if not (is_named (first_word bytes)) then Err (length bytes) else
    if not (is_before previous front) then Err (length bytes - min (common previous front) (unwrap_or (shared_with_later previous) 0)) else
    if nat_lt limit (length (first_word bytes)) then Err (length bytes - limit) else
    if is_reserved (first_word bytes) then Err (length (behind_word bytes)) else
    Ok (first_word bytes, behind_word bytes)
