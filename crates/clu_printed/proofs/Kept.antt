-- What is left of a list with an item for each token, if the optional `;` are left out.
use Rattle.std.proofs.Common.{◌≡◌, ℕ, zero, suc, ◌+◌, ◌≤◌, Bool, true, false, List, [], ◌∷◌, length, drop, set, replicate, Some, None, slice_get, refl, sym, ap, ◌∙◌, subst, inl, inr, arith, add-one, if◌then◌else◌}
use Rattle.clu_lexer.specs.declared.symbols.Symbol.{Symbol}
use Rattle.clu_lexer.specs.declared.symbols.Symbol.TheVariants as symbol
use Rattle.clu_lexer.specs.contracts.symbols.Symbol.{the_type}
use denote.Enum.Bare.{sameb}
use Rattle.std.proofs.lemmas.Bool.{cases_Bool}

abbrev pub is_optional : Symbol → Bool
is_optional s = sameb the_type s symbol.Semicolon

abbrev pub kept : {X : Type 0} → List Symbol → List X → List X
kept [] xs = []
kept (s ∷ symbols) [] = []
kept (s ∷ symbols) (x ∷ xs) = if is_optional s then kept symbols xs else x ∷ kept symbols xs

-- how many of the first symbols are left: where the one of this number stands then
abbrev pub place_of : List Symbol → ℕ → ℕ
place_of symbols zero = 0
place_of [] (suc n) = 0
place_of (s ∷ symbols) (suc n) = if is_optional s then place_of symbols n else suc (place_of symbols n)

-- the symbol of this number is there, and is left
abbrev pub IsKept : List Symbol → ℕ → Type 0
IsKept symbols n = (s : Symbol) × (slice_get symbols n ≡ Some s) × (is_optional s ≡ false)

pub got_kept : {X : Type 0} (symbols : List Symbol) (xs : List X) (n : ℕ) (s : Symbol) → slice_get symbols n ≡ Some s → is_optional s ≡ false → slice_get (kept symbols xs) (place_of symbols n) ≡ slice_get xs n
got_kept [] xs n s is left = absurd (cc)
got_kept (z ∷ symbols) [] n s is left = refl
got_kept (z ∷ symbols) (x ∷ xs) zero s is left =
    let same : z ≡ s = cc in
    let stays : is_optional z ≡ false = subst (λ (y : Symbol). is_optional y ≡ false) (sym same) left in
    rw stays refl
got_kept (z ∷ symbols) (x ∷ xs) (suc n) s is left = elim (cases_Bool (is_optional z)) [
  | inl gone ↦ rw gone (got_kept symbols xs n s is left)
  | inr stays ↦ rw stays (got_kept symbols xs n s is left)
]

pub set_kept : {X : Type 0} (symbols : List Symbol) (xs : List X) (n : ℕ) (v : X) (s : Symbol) → slice_get symbols n ≡ Some s → is_optional s ≡ false → kept symbols (set xs n v) ≡ set (kept symbols xs) (place_of symbols n) v
set_kept [] xs n v s is left = absurd (cc)
set_kept (z ∷ symbols) [] n v s is left = refl
set_kept (z ∷ symbols) (x ∷ xs) zero v s is left =
    let same : z ≡ s = cc in
    let stays : is_optional z ≡ false = subst (λ (y : Symbol). is_optional y ≡ false) (sym same) left in
    rw stays refl
set_kept {X = X} (z ∷ symbols) (x ∷ xs) (suc n) v s is left = elim (cases_Bool (is_optional z)) [
  | inl gone ↦ rw gone (set_kept symbols xs n v s is left)
  | inr stays ↦ rw stays (ap (λ (ys : List X). x ∷ ys) (set_kept symbols xs n v s is left))
]

-- the place after a symbol
next_kept : (symbols : List Symbol) (n : ℕ) (s : Symbol) → slice_get symbols n ≡ Some s → is_optional s ≡ false → place_of symbols (suc n) ≡ suc (place_of symbols n)
next_kept [] n s is left = absurd (cc)
next_kept (z ∷ symbols) zero s is left =
    let same : z ≡ s = cc in
    let stays : is_optional z ≡ false = subst (λ (y : Symbol). is_optional y ≡ false) (sym same) left in
    rw stays refl
next_kept (z ∷ symbols) (suc n) s is left = elim (cases_Bool (is_optional z)) [
  | inl gone ↦ rw gone (next_kept symbols n s is left)
  | inr stays ↦ rw stays (ap suc (next_kept symbols n s is left))
]

next_gone : (symbols : List Symbol) (n : ℕ) (s : Symbol) → slice_get symbols n ≡ Some s → is_optional s ≡ true → place_of symbols (suc n) ≡ place_of symbols n
next_gone [] n s is left = absurd (cc)
next_gone (z ∷ symbols) zero s is left =
    let same : z ≡ s = cc in
    let gone : is_optional z ≡ true = subst (λ (y : Symbol). is_optional y ≡ true) (sym same) left in
    rw gone refl
next_gone (z ∷ symbols) (suc n) s is left = elim (cases_Bool (is_optional z)) [
  | inl gone ↦ rw gone (next_gone symbols n s is left)
  | inr stays ↦ rw stays (ap suc (next_gone symbols n s is left))
]

next_past : (symbols : List Symbol) (n : ℕ) → slice_get symbols n ≡ None → place_of symbols (suc n) ≡ place_of symbols n
next_past [] zero is = refl
next_past [] (suc n) is = refl
next_past (z ∷ symbols) zero is = absurd (cc)
next_past (z ∷ symbols) (suc n) is = elim (cases_Bool (is_optional z)) [
  | inl gone ↦ rw gone (next_past symbols n is)
  | inr stays ↦ rw stays (ap suc (next_past symbols n is))
]

pub place_kept : (symbols : List Symbol) (n : ℕ) (s : Symbol) → slice_get symbols n ≡ Some s → is_optional s ≡ false → place_of symbols (n + 1) ≡ place_of symbols n + 1
place_kept symbols n s is left = ap (place_of symbols) (add-one n) ∙ next_kept symbols n s is left ∙ sym (add-one (place_of symbols n))

pub place_gone : (symbols : List Symbol) (n : ℕ) (s : Symbol) → slice_get symbols n ≡ Some s → is_optional s ≡ true → place_of symbols (n + 1) ≡ place_of symbols n
place_gone symbols n s is left = ap (place_of symbols) (add-one n) ∙ next_gone symbols n s is left

pub place_past : (symbols : List Symbol) (n : ℕ) → slice_get symbols n ≡ None → place_of symbols (n + 1) ≡ place_of symbols n
place_past symbols n is = ap (place_of symbols) (add-one n) ∙ next_past symbols n is

-- places don't fall, and are no further back than before
pub place_up : (symbols : List Symbol) (m n : ℕ) → m ≤ n → place_of symbols m ≤ place_of symbols n
place_up symbols zero n le = omega arith
place_up [] (suc m) n le = omega arith
place_up (z ∷ symbols) (suc m) zero le = absurd (omega arith)
place_up (z ∷ symbols) (suc m) (suc n) le = elim (cases_Bool (is_optional z)) [
  | inl gone ↦ rw gone (place_up symbols m n (omega arith))
  | inr stays ↦ rw stays (omega (arith, place_up symbols m n (omega arith)))
]

pub place_small : (symbols : List Symbol) (n : ℕ) → place_of symbols n ≤ n
place_small symbols zero = omega arith
place_small [] (suc n) = omega arith
place_small (z ∷ symbols) (suc n) = elim (cases_Bool (is_optional z)) [
  | inl gone ↦ rw gone (omega (arith, place_small symbols n))
  | inr stays ↦ rw stays (omega (arith, place_small symbols n))
]

-- if the first symbol is left, each later place is behind it
pub place_behind : (symbols : List Symbol) (s : Symbol) (n : ℕ) → slice_get symbols 0 ≡ Some s → is_optional s ≡ false → 1 ≤ place_of symbols (n + 1)
place_behind symbols s n is left = omega (arith, place_kept symbols 0 s is left, place_up symbols (0 + 1) (n + 1) (omega arith))

pub place_end : (symbols : List Symbol) → place_of symbols (length symbols) ≡ length (kept symbols symbols)
place_end [] = refl
place_end (z ∷ symbols) = elim (cases_Bool (is_optional z)) [
  | inl gone ↦ rw gone (place_end symbols)
  | inr stays ↦ rw stays (ap suc (place_end symbols))
]

pub drop_kept : (symbols : List Symbol) (n : ℕ) → drop (place_of symbols n) (kept symbols symbols) ≡ kept (drop n symbols) (drop n symbols)
drop_kept symbols zero = refl
drop_kept [] (suc n) = refl
drop_kept (z ∷ symbols) (suc n) = elim (cases_Bool (is_optional z)) [
  | inl gone ↦ rw gone (drop_kept symbols n)
  | inr stays ↦ rw stays (drop_kept symbols n)
]

pub replicate_kept : {X : Type 0} (symbols : List Symbol) (v : X) → kept symbols (replicate (length symbols) v) ≡ replicate (length (kept symbols symbols)) v
replicate_kept [] v = refl
replicate_kept {X = X} (z ∷ symbols) v = elim (cases_Bool (is_optional z)) [
  | inl gone ↦ rw gone (replicate_kept symbols v)
  | inr stays ↦ rw stays (ap (λ (ys : List X). v ∷ ys) (replicate_kept symbols v))
]
