-- Symbols that fit one behind the other; which bracket closes before a `$` is the same without the optional `;`.
use Rattle.std.proofs.Common.{◌≡◌, ℕ, zero, suc, ◌+◌, true, false, List, [], ◌∷◌, drop, refl, sym, ◌∙◌, subst, inl, inr, arith}
use Rattle.std.proofs.lemmas.Bool.{not-true, cases_Bool}
use Rattle.clu_lexer.specs.declared.symbols.Symbol.{Symbol}
use Rattle.clu_lexer.specs.declared.symbols.Symbol.TheVariants as s
use Rattle.clu_lexer.specs.contracts.symbols.Symbol.{the_type}
use Rattle.clu_grammar.proofs.Flags.{and_left, and_right}
use Rattle.clu_parser.specs.Spellings.{closes, is_dollar}
use Rattle.clu_printed.proofs.Kept.{is_optional, kept}
use Rattle.clu_printed.proofs.Neighbours.{fits, AreFit}
use Rattle.clu_printed.proofs.Stripped.{semicolon_is}
use denote.Enum.Bare.{sameb}

abbrev pub Fitting : List Symbol → Type 0
Fitting [] = Unit {0}
Fitting (x ∷ []) = Unit {0}
Fitting (x ∷ y ∷ ys) = (fits x y ≡ true) × Fitting (y ∷ ys)

pub fitting : (ys : List Symbol) → AreFit ys → Fitting ys
fitting [] h = tt
fitting (x ∷ []) h = tt
fitting (x ∷ y ∷ ys) h = (h 0 x y refl refl, fitting (y ∷ ys) (λ i one z is then. h (suc i) one z is (let e : suc i + 1 ≡ suc (i + 1) = omega arith in rw e then)))

pub drop_fitting : (n : ℕ) (ys : List Symbol) → Fitting ys → Fitting (drop n ys)
drop_fitting zero ys h = h
drop_fitting (suc n) [] h = tt
drop_fitting (suc n) (x ∷ []) h = drop_fitting n [] tt
drop_fitting (suc n) (x ∷ y ∷ ys) h = drop_fitting n (y ∷ ys) h.1

-- behind a ; stands neither another nor a $
dollar_kept : (xs : List Symbol) → Fitting xs → is_dollar (kept xs xs) ≡ is_dollar xs
dollar_kept [] h = refl
dollar_kept (x ∷ []) h = elim (cases_Bool (is_optional x)) [
  | inl gone ↦ (let e : x ≡ s.Semicolon = semicolon_is x gone in rw e refl)
  | inr stays ↦ rw stays refl
]
dollar_kept (x ∷ y ∷ ys) h = elim (cases_Bool (is_optional x)) [
  | inl gone ↦ (
      let e : x ≡ s.Semicolon = semicolon_is x gone in
      let f : fits s.Semicolon y ≡ true = subst (λ (z : Symbol). fits z y ≡ true) e h.0 in
      let left : is_optional y ≡ false = not-true (is_optional y) (and_left _ _ f) in
      let none : sameb the_type y s.Dollar ≡ false = not-true (sameb the_type y s.Dollar) (and_right _ _ f) in
      let lhs : is_dollar (kept (x ∷ y ∷ ys) (x ∷ y ∷ ys)) ≡ false = rw (gone, left) none in
      let rhs : is_dollar (x ∷ y ∷ ys) ≡ false = rw e refl in
      lhs ∙ sym rhs
      )
  | inr stays ↦ rw stays refl
]

tail_fitting : (x : Symbol) (xs : List Symbol) → Fitting (x ∷ xs) → Fitting xs
tail_fitting x [] h = tt
tail_fitting x (y ∷ ys) h = h.1

pub closes_kept : (depth : ℕ) (xs : List Symbol) → Fitting xs → closes depth (kept xs xs) ≡ closes depth xs
closes_kept depth [] h = refl
closes_kept zero (x ∷ xs) h = elim (cases_Bool (is_optional x)) [
  | inl gone ↦ (
      let e : x ≡ s.Semicolon = semicolon_is x gone in
      let rhs : closes zero (x ∷ xs) ≡ closes zero xs = rw e refl in
      rw gone (closes_kept zero xs (tail_fitting x xs h) ∙ sym rhs)
      )
  | inr stays ↦ rw (stays, closes_kept 1 xs (tail_fitting x xs h), dollar_kept xs (tail_fitting x xs h), closes_kept zero xs (tail_fitting x xs h)) refl
]
closes_kept (suc depth) (x ∷ xs) h = elim (cases_Bool (is_optional x)) [
  | inl gone ↦ (
      let e : x ≡ s.Semicolon = semicolon_is x gone in
      let rhs : closes (suc depth) (x ∷ xs) ≡ closes (suc depth) xs = rw e refl in
      rw gone (closes_kept (suc depth) xs (tail_fitting x xs h) ∙ sym rhs)
      )
  | inr stays ↦ rw (stays, closes_kept (depth + 2) xs (tail_fitting x xs h), closes_kept depth xs (tail_fitting x xs h), closes_kept (suc depth) xs (tail_fitting x xs h)) refl
]
