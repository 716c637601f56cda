-- The token after an offset, and the place there.
use Rattle.std.proofs.Common.{◌≡◌, ℕ, suc, zero, ◌+◌, ◌-◌, ◌<◌, ◌≤◌, true, false, cond, ◌==◌, List, [], ◌∷◌, ◌++◌, length, take, drop, refl, sym, ap, ◌∙◌, arith, Some, None}
use Rattle.std.proofs.lemmas.List.{take_rest, length-take-le, length-drop}
use Rattle.std.proofs.Math.Seq.{take-add}
use Rattle.clu_base.specs.declared.tokens.Kind.{Kind}
use Rattle.clu_base.specs.declared.tokens.Place.{Place}
use Rattle.clu_lexer.specs.Places.{step, place_after, first_place, place_at}
use Rattle.clu_lexer.specs.Scanner.{class_of, IsLongest, NoToken}
use Rattle.clu_lexer.specs.Separators.{gap_len}
use Rattle.clu_lexer.specs.Tokens.{kind_in, kind_of, IsGap, IsBad, IsToken}

line-step : (p : Place) (b : ℕ) → (step p b).line ≤ p.line + 1
line-step p b = elim (b == 10) as (λ test. (cond {A = Place} test (record { line = p.line + 1; col = 1 }) (record { line = p.line; col = p.col + 1 })).line ≤ p.line + 1) [ true ↦ omega arith | false ↦ omega arith ]

col-step : (p : Place) (b : ℕ) → (step p b).col ≤ p.col + 1
col-step p b = elim (b == 10) as (λ test. (cond {A = Place} test (record { line = p.line + 1; col = 1 }) (record { line = p.line; col = p.col + 1 })).col ≤ p.col + 1) [ true ↦ omega arith | false ↦ omega arith ]

pub line-place_after : (p : Place) (bs : List ℕ) → (place_after p bs).line ≤ p.line + length bs
line-place_after p [] = omega arith
line-place_after p (b ∷ bs) = omega (arith, line-step p b, line-place_after (step p b) bs)

pub col-place_after : (p : Place) (bs : List ℕ) → (place_after p bs).col ≤ p.col + length bs
col-place_after p [] = omega arith
col-place_after p (b ∷ bs) = omega (arith, col-step p b, col-place_after (step p b) bs)

place_after-append : (p : Place) (xs ys : List ℕ) → place_after p (xs ++ ys) ≡ place_after (place_after p xs) ys
place_after-append p [] ys = refl
place_after-append p (x ∷ xs) ys = place_after-append (step p x) xs ys

-- the place goes on over n bytes
pub place_at-add : (bytes : List ℕ) (from n : ℕ) → place_after (place_at bytes from) (take n (drop from bytes)) ≡ place_at bytes (from + n)
place_at-add bytes from n = sym (ap (place_after first_place) (take-add from n bytes) ∙ place_after-append first_place (take from bytes) (take n (drop from bytes)))

-- lines and columns are few
pub place_at-small : (bytes : List ℕ) (from : ℕ) → from ≤ length bytes → ((place_at bytes from).line ≤ from + 1) × ((place_at bytes from).col ≤ from + 1)
place_at-small bytes from within = (
  omega (arith, line-place_after first_place (take from bytes), length-take-le from bytes within),
  omega (arith, col-place_after first_place (take from bytes), length-take-le from bytes within),
)

kind_of-none : (bs : List ℕ) → class_of bs ≡ None → kind_of bs ≡ None
unfolding kind_of
kind_of-none bs is = rw is

kind_of-some : (bs : List ℕ) (class : Kind) → class_of bs ≡ Some class → kind_of bs ≡ Some (kind_in class bs)
unfolding kind_of
kind_of-some bs class is = rw is

pub longest_kind : (bytes : List ℕ) (class : Kind) (n : ℕ) → IsLongest class_of bytes class n → IsLongest kind_of bytes (kind_in class (take n bytes)) n
longest_kind bytes class n known =
    record {
      within = known.within;
      is = kind_of-some (take n bytes) class known.is;
      longest = λ m above within. kind_of-none (take m bytes) (known.longest m above within);
    }

pub none_kind : (bytes : List ℕ) → NoToken class_of bytes → NoToken kind_of bytes
none_kind bytes known m within = kind_of-none (take m bytes) (known m within)

no_bytes : (class : Kind) → class_of [] ≡ Some class → ⊥
unfolding class_of
no_bytes class is = cc

-- a token has bytes
pub some_bytes : (bytes : List ℕ) (class : Kind) (n : ℕ) → IsLongest class_of bytes class n → 0 < n
some_bytes bytes class zero known = absurd (no_bytes class known.is)
some_bytes bytes class (suc n) known = omega arith

pub gap_is : (bytes : List ℕ) (from n : ℕ) → n ≡ gap_len false (take (length bytes - from) (drop from bytes)) → IsGap bytes from (from + n)
gap_is bytes from n is = rw (take_rest bytes from) at (ap (λ k. from + k) (sym is))

-- the part of the bytes after an offset, as the code cuts it
abbrev pub rest : List ℕ → ℕ → List ℕ
rest bytes at = take (length bytes - at) (drop at bytes)

some_left : (xs : List ℕ) → false ≡ (length xs == 0) → 0 < length xs
some_left [] is = absurd (cc)
some_left (x ∷ xs) is = omega arith

pub place_is : (bytes : List ℕ) (from n : ℕ) (place behind : Place) → place ≡ place_at bytes from → behind ≡ place_after place (take (from + n - from) (drop from bytes)) → behind ≡ place_at bytes (from + n)
place_is bytes from n place behind placed is =
    let k : from + n - from ≡ n = omega arith in
    is ∙ ap (λ p. place_after p (take (from + n - from) (drop from bytes))) placed ∙
    ap (λ k. place_after (place_at bytes from) (take k (drop from bytes))) k ∙ place_at-add bytes from n

pub is_bad : (bytes : List ℕ) (from n : ℕ) (place : Place) → n ≡ gap_len false (rest bytes from) → place ≡ place_at bytes (from + n) → false ≡ (length (rest bytes (from + n)) == 0) → NoToken class_of (rest bytes (from + n)) → IsBad bytes from place
is_bad bytes from n place gap placed more none =
    record {
      at = from + n;
      gap = gap_is bytes from n gap;
      within = omega (arith, some_left (drop (from + n) bytes) (rw (take_rest bytes (from + n)) at more), length-drop (from + n) bytes);
      none = none_kind (drop (from + n) bytes) (rw (take_rest bytes (from + n)) at none);
      place_is = placed;
    }

pub is_token : (bytes : List ℕ) (from n len : ℕ) (kind class : Kind) (place : Place) → n ≡ gap_len false (rest bytes from) → place ≡ place_at bytes (from + n) → IsLongest class_of (rest bytes (from + n)) class len → kind ≡ kind_in class (take len (rest bytes (from + n))) → IsToken bytes from (record { kind = kind; start = from + n; end = from + n + len; place = place })
is_token bytes from n len kind class place gap placed longest is =
    let known = longest_kind (drop (from + n) bytes) class len (rw (take_rest bytes (from + n)) at longest) in
    let same : kind ≡ kind_in class (take len (drop (from + n) bytes)) = rw (take_rest bytes (from + n)) at is in
    let size : from + n + len - (from + n) ≡ len = omega arith in
    record {
      gap = gap_is bytes from n gap;
      forward = omega (arith, some_bytes (rest bytes (from + n)) class len longest);
      longest = rw (size, same) known;
      place = placed;
    }
