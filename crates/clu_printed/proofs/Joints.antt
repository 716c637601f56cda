-- Two printed tokens with no blank between them are read as these two: the automaton stops at the first byte of the
-- second one.
use Rattle.std.proofs.Common.{◌≡◌, ℕ, Bool, true, false, ◌&&◌, ◌||◌, ◌==◌, List, [], ◌∷◌, Option, Some, None, slice_get, refl, sym, ap, ◌∙◌, subst, inl, inr, arith, if◌then◌else◌, nat_lt, nat_le, unwrap_or, eqb-true, leb-true, ltb-true}
use Rattle.std.specs.List.{list_all}
use Rattle.std.proofs.lemmas.Bool.{or_cases, cases_Bool}
use Rattle.std.proofs.lemmas.Option.{same_Some}
use Rattle.std.specs.Char.{to_ascii_lowercase}
use Rattle.clu_base.specs.declared.tokens.Kind.{Kind}
use Rattle.clu_base.specs.declared.tokens.Kind.TheVariants as kind
use Rattle.clu_lexer.specs.declared.scanner.State.{State}
use Rattle.clu_lexer.specs.declared.scanner.State.TheVariants as state
use Rattle.clu_lexer.specs.declared.symbols.Symbol.{Symbol}
use Rattle.clu_lexer.specs.declared.symbols.Symbol.TheVariants as s
use Rattle.clu_lexer.specs.contracts.symbols.Symbol.{the_type}
use Rattle.clu_lexer.specs.Classes.{is_digit, is_exponent_mark, is_sign}
use Rattle.clu_lexer.specs.Scanner.{next, accepts, run, only_if}
use Rattle.clu_lexer.specs.Symbols.{spells, symbol_named}
use Rattle.clu_lexer.specs.Tokens.{kind_in}
use Rattle.clu_lexer.specs.Words.{words, marks, symbol_of}
use Rattle.clu_grammar.proofs.Flags.{true_is_false, and_left, and_right}
use Rattle.clu_printer.specs.Blanks.{clings}
use Rattle.clu_printed.proofs.Neighbours.{all_at}
use Rattle.clu_printed.proofs.Lowered.{cases_lower}
use denote.Enum.Bare.{sameb, true_same}

-- the byte of a mark of one byte
abbrev pub byte_of : Symbol → ℕ
byte_of s.LeftParen = 40
byte_of s.RightParen = 41
byte_of s.LeftBracket = 91
byte_of s.RightBracket = 93
byte_of s.LeftBrace = 123
byte_of s.RightBrace = 125
byte_of s.Comma = 44
byte_of s.Colon = 58
byte_of s.Point = 46
byte_of s.Dollar = 36
byte_of s.Tilde = 126
byte_of s.Minus = 45
byte_of _ = 0

abbrev pub is_single : Symbol → Bool
is_single s.LeftParen = true
is_single s.RightParen = true
is_single s.LeftBracket = true
is_single s.RightBracket = true
is_single s.LeftBrace = true
is_single s.RightBrace = true
is_single s.Comma = true
is_single s.Colon = true
is_single s.Point = true
is_single s.Dollar = true
is_single s.Tilde = true
is_single s.Minus = true
is_single _ = false

-- the text of each entry with the symbol is this byte
abbrev is_byte : ℕ → List ℕ → Bool
is_byte b [] = false
is_byte b (c ∷ []) = b == c
is_byte b (c ∷ d ∷ cs) = false

abbrev only : ℕ → Symbol → List (List ℕ × Symbol) → Bool
only b x [] = true
only b x (entry ∷ table) = (if sameb the_type entry.1 x then is_byte b entry.0 else true) && only b x table

-- one entry alone, of marks, and no letter
single_entry : (x : Symbol) → is_single x ≡ true → ((only (byte_of x) x marks && only (byte_of x) x words) && (nat_lt (byte_of x) 97 || nat_le 123 (byte_of x))) ≡ true
single_entry s.LeftParen h = refl
single_entry s.RightParen h = refl
single_entry s.LeftBracket h = refl
single_entry s.RightBracket h = refl
single_entry s.LeftBrace h = refl
single_entry s.RightBrace h = refl
single_entry s.Comma h = refl
single_entry s.Colon h = refl
single_entry s.Point h = refl
single_entry s.Dollar h = refl
single_entry s.Tilde h = refl
single_entry s.Minus h = refl
single_entry _ h = absurd (cc)

no_letter : (b t : ℕ) → (nat_lt b 97 || nat_le 123 b) ≡ true → b ≡ to_ascii_lowercase t → t ≡ b
no_letter b t test is = elim (cases_lower t) [
  | inl same ↦ sym (is ∙ same)
  | inr up ↦ elim (or_cases (nat_lt b 97) (nat_le 123 b) test) [
    | inl below ↦ absurd (omega (arith, is ∙ up.2, up.0, ltb-true b 97 below))
    | inr above ↦ absurd (omega (arith, is ∙ up.2, up.1, leb-true 123 b above))
  ]
]

byte_spelled : (b : ℕ) (word text : List ℕ) → (nat_lt b 97 || nat_le 123 b) ≡ true → is_byte b word ≡ true → spells word text ≡ true → text ≡ b ∷ []
byte_spelled b [] text test one h = absurd (cc)
byte_spelled b (c ∷ d ∷ cs) text test one h = absurd (cc)
byte_spelled b (c ∷ []) [] test one h = absurd (cc)
byte_spelled b (c ∷ []) (t ∷ []) test one h =
    let same : b ≡ c = eqb-true b c one in
    let is : c ≡ to_ascii_lowercase t = eqb-true c (to_ascii_lowercase t) (and_left _ _ h) in
    let e : t ≡ b = no_letter b t test (same ∙ is) in
    ap (λ (n : ℕ). n ∷ []) e
byte_spelled b (c ∷ []) (t ∷ u ∷ us) test one h = (let k : false ≡ true = and_right (c == to_ascii_lowercase t) false h in absurd (cc))

named_byte : (b : ℕ) (x : Symbol) (table : List (List ℕ × Symbol)) (text : List ℕ) → (nat_lt b 97 || nat_le 123 b) ≡ true → only b x table ≡ true → symbol_named table text ≡ Some x → text ≡ b ∷ []
named_byte b x [] text test one h = absurd (cc)
named_byte b x (entry ∷ table) text test one h = elim (cases_Bool (spells entry.0 text)) [
  | inl is_so ↦ (
      let h' : Some entry.1 ≡ Some x = rw is_so at h in
      let e : entry.1 ≡ x = same_Some _ _ h' in
      let t : sameb the_type entry.1 x ≡ true = true_same the_type entry.1 x e in
      let first : (if sameb the_type entry.1 x then is_byte b entry.0 else true) ≡ true = and_left _ _ one in
      byte_spelled b entry.0 text test (rw t at first) is_so
      )
  | inr is_not ↦ (let h' : symbol_named table text ≡ Some x = rw is_not at h in named_byte b x table text test (and_right _ _ one) h')
]

unknown_single : (x : Symbol) → is_single x ≡ true → s.Unknown ≡ x → ⊥
unknown_single x h e = (let k : false ≡ true = subst (λ (y : Symbol). is_single y ≡ true) (sym e) h in cc)

named_so : (x : Symbol) (table : List (List ℕ × Symbol)) (text : List ℕ) → is_single x ≡ true → unwrap_or (symbol_named table text) s.Unknown ≡ x → symbol_named table text ≡ Some x
named_so x table text single h = next (symbol_named table text) refl h
  where
    next : (o : Option Symbol) → symbol_named table text ≡ o → unwrap_or o s.Unknown ≡ x → symbol_named table text ≡ Some x
    next None is h = absurd (unknown_single x single h)
    next (Some y) is h = is ∙ ap Some h

-- a token that is such a mark is written so
pub single_text : (k : Kind) (text : List ℕ) (x : Symbol) → is_single x ≡ true → symbol_of k text ≡ x → text ≡ byte_of x ∷ []
single_text kind.Word text x single h =
    let test = single_entry x single in
    named_byte (byte_of x) x words text (and_right _ _ test) (and_right _ _ (and_left _ _ test)) (named_so x words text single h)
single_text kind.Mark text x single h =
    let test = single_entry x single in
    named_byte (byte_of x) x marks text (and_right _ _ test) (and_left _ _ (and_left _ _ test)) (named_so x marks text single h)
single_text kind.Idn text x single h = (let k : false ≡ true = subst (λ (y : Symbol). is_single y ≡ true) (sym h) single in absurd (cc))
single_text kind.Int text x single h = (let k : false ≡ true = subst (λ (y : Symbol). is_single y ≡ true) (sym h) single in absurd (cc))
single_text kind.Real text x single h = (let k : false ≡ true = subst (λ (y : Symbol). is_single y ≡ true) (sym h) single in absurd (cc))
single_text kind.Char text x single h = (let k : false ≡ true = subst (λ (y : Symbol). is_single y ≡ true) (sym h) single in absurd (cc))
single_text kind.Str text x single h = (let k : false ≡ true = subst (λ (y : Symbol). is_single y ≡ true) (sym h) single in absurd (cc))

-- behind a whole token a blank and the end of a line stop the automaton
pub blank_stops : (st : State) (c : Kind) → accepts st ≡ Some c → (next st 32 ≡ state.Stop) × (next st 10 ≡ state.Stop)
blank_stops state.Name c h = (refl, refl)
blank_stops state.Whole c h = (refl, refl)
blank_stops state.Fraction c h = (refl, refl)
blank_stops state.Power c h = (refl, refl)
blank_stops state.Char c h = (refl, refl)
blank_stops state.Str c h = (refl, refl)
blank_stops state.Point c h = (refl, refl)
blank_stops state.Mark c h = (refl, refl)
blank_stops state.BeforeEqual c h = (refl, refl)
blank_stops state.Tilde c h = (refl, refl)
blank_stops state.Star c h = (refl, refl)
blank_stops state.Slash c h = (refl, refl)
blank_stops state.Bar c h = (refl, refl)
blank_stops _ c h = absurd (cc)

-- and so do the marks that have no blank before them, but for a point behind digits
abbrev pub leans : Symbol → Bool
leans s.LeftParen = true
leans x = clings x

abbrev is_stop : State → Bool
is_stop state.Stop = true
is_stop _ = false

stop_is : (st : State) → is_stop st ≡ true → st ≡ state.Stop
stop_is state.Stop h = refl
stop_is _ h = absurd (cc)

abbrev ends : List State
ends = state.Name ∷ state.Fraction ∷ state.Power ∷ state.Char ∷ state.Str ∷ state.Point ∷ state.Mark ∷ state.BeforeEqual ∷ state.Tilde ∷ state.Star ∷ state.Slash ∷ state.Bar ∷ []

abbrev stops_all : Symbol → Bool
stops_all x = list_all (λ st. is_stop (next st (byte_of x))) ends && (sameb the_type x s.Point || is_stop (next state.Whole (byte_of x)))

pub leaning_stops : (x : Symbol) → leans x ≡ true → (stops_all x && is_single x) ≡ true
leaning_stops s.LeftParen h = refl
leaning_stops s.RightParen h = refl
leaning_stops s.LeftBracket h = refl
leaning_stops s.RightBracket h = refl
leaning_stops s.RightBrace h = refl
leaning_stops s.Comma h = refl
leaning_stops s.Colon h = refl
leaning_stops s.Point h = refl
leaning_stops s.Dollar h = refl
leaning_stops _ h = absurd (cc)

pub leaning : (x : Symbol) (st : State) (c : Kind) → leans x ≡ true → accepts st ≡ Some c → (c ≡ kind.Int → sameb the_type x s.Point ≡ false) → next st (byte_of x) ≡ state.Stop
leaning x st c h is other = stop_is (next st (byte_of x)) (pick st is)
  where
    tests : stops_all x ≡ true
    tests = and_left _ _ (leaning_stops x h)

    among : (k : ℕ) (z : State) → slice_get ends k ≡ Some z → is_stop (next z (byte_of x)) ≡ true
    among k z at = all_at (λ st. is_stop (next st (byte_of x))) ends k z (and_left _ _ tests) at

    pick : (z : State) → accepts z ≡ Some c → is_stop (next z (byte_of x)) ≡ true
    pick state.Name is = among 0 state.Name refl
    pick state.Fraction is = among 1 state.Fraction refl
    pick state.Power is = among 2 state.Power refl
    pick state.Char is = among 3 state.Char refl
    pick state.Str is = among 4 state.Str refl
    pick state.Point is = among 5 state.Point refl
    pick state.Mark is = among 6 state.Mark refl
    pick state.BeforeEqual is = among 7 state.BeforeEqual refl
    pick state.Tilde is = among 8 state.Tilde refl
    pick state.Star is = among 9 state.Star refl
    pick state.Slash is = among 10 state.Slash refl
    pick state.Bar is = among 11 state.Bar refl
    pick state.Whole is =
        let int : c ≡ kind.Int = sym (same_Some kind.Int c is) in
        elim (or_cases (sameb the_type x s.Point) (is_stop (next state.Whole (byte_of x))) (and_right _ _ tests)) [
          | inl point ↦ absurd (true_is_false (sameb the_type x s.Point) point (other int))
          | inr stops ↦ stops
        ]
    pick _ is = absurd (cc)

-- what begins with a digit is a number
abbrev pub is_numeric : State → Bool
is_numeric state.Whole = true
is_numeric state.Fraction = true
is_numeric state.Exponent = true
is_numeric state.Sign = true
is_numeric state.Power = true
is_numeric state.Stop = true
is_numeric _ = false

numeric_if : (test : Bool) (x y : State) → is_numeric x ≡ true → is_numeric y ≡ true → is_numeric (if test then x else y) ≡ true
numeric_if true x y h k = h
numeric_if false x y h k = k

numeric_only : (test : Bool) (x : State) → is_numeric x ≡ true → is_numeric (only_if test x) ≡ true
numeric_only test x h = numeric_if test x state.Stop h refl

numeric_next : (st : State) (b : ℕ) → is_numeric st ≡ true → is_numeric (next st b) ≡ true
numeric_next state.Whole b h = numeric_if (b == 46) state.Fraction (if is_exponent_mark b then state.Exponent else only_if (is_digit b) state.Whole) refl (numeric_if (is_exponent_mark b) state.Exponent (only_if (is_digit b) state.Whole) refl (numeric_only (is_digit b) state.Whole refl))
numeric_next state.Fraction b h = numeric_if (is_exponent_mark b) state.Exponent (only_if (is_digit b) state.Fraction) refl (numeric_only (is_digit b) state.Fraction refl)
numeric_next state.Exponent b h = numeric_if (is_sign b) state.Sign (only_if (is_digit b) state.Power) refl (numeric_only (is_digit b) state.Power refl)
numeric_next state.Sign b h = numeric_only (is_digit b) state.Power refl
numeric_next state.Power b h = numeric_only (is_digit b) state.Power refl
numeric_next state.Stop b h = refl
numeric_next _ b h = absurd (cc)

pub numeric_run : (st : State) (bs : List ℕ) → is_numeric st ≡ true → is_numeric (run st bs) ≡ true
numeric_run st [] h = h
numeric_run st (b ∷ bs) h = numeric_run (next st b) bs (numeric_next st b h)

pub numeric_class : (st : State) (c : Kind) (text : List ℕ) → is_numeric st ≡ true → accepts st ≡ Some c → sameb the_type (symbol_of (kind_in c text) text) s.Idn ≡ false
numeric_class state.Whole c text h is = let e : kind.Int ≡ c = same_Some kind.Int c is in subst (λ (y : Kind). sameb the_type (symbol_of (kind_in y text) text) s.Idn ≡ false) e refl
numeric_class state.Fraction c text h is = let e : kind.Real ≡ c = same_Some kind.Real c is in subst (λ (y : Kind). sameb the_type (symbol_of (kind_in y text) text) s.Idn ≡ false) e refl
numeric_class state.Power c text h is = let e : kind.Real ≡ c = same_Some kind.Real c is in subst (λ (y : Kind). sameb the_type (symbol_of (kind_in y text) text) s.Idn ≡ false) e refl
numeric_class state.Exponent c text h is = absurd (cc)
numeric_class state.Sign c text h is = absurd (cc)
numeric_class state.Stop c text h is = absurd (cc)
numeric_class _ c text h is = absurd (cc)
