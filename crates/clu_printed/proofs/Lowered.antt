-- Words and identifiers in lower case are the same words and identifiers.
use Rattle.std.proofs.Common.{◌≡◌, ℕ, ◌+◌, ◌<◌, ◌≤◌, Bool, true, false, ◌&&◌, ◌||◌, ◌==◌, List, [], ◌∷◌, map, Option, Some, None, is_some, refl, sym, ap, ◌∙◌, inl, inr, ◌⊎◌, arith, le-ltb, lt-ltb, le-leb, if◌then◌else◌, unwrap_or}
use Rattle.std.proofs.lemmas.Bool.{lt-leb, cases_lt, cases_Bool}
use Rattle.std.proofs.lemmas.Option.{same_Some}
use Rattle.std.proofs.lemmas.Str.Ascii.{lowercase-lowercase}
use Rattle.std.specs.Option.{option_map}
use Rattle.std.specs.Char.{to_ascii_lowercase}
use Rattle.clu_base.specs.declared.tokens.Kind.{Kind}
use Rattle.clu_base.specs.declared.tokens.Kind.TheVariants as kind
use Rattle.clu_lexer.specs.declared.scanner.State.{State}
use Rattle.clu_lexer.specs.declared.scanner.State.TheVariants as state
use Rattle.clu_lexer.specs.declared.symbols.Symbol.{Symbol}
use Rattle.clu_lexer.specs.declared.symbols.Symbol.TheVariants as symbol
use Rattle.clu_lexer.specs.Classes.{begins_name, goes_on_name, is_digit, is_octal, is_plain, is_escape_letter, is_exponent_mark, is_sign}
use Rattle.clu_lexer.specs.Scanner.{begin, next, accepts, run, only_if, class_of, is_short_mark, may_take_equal}
use Rattle.clu_lexer.specs.Symbols.{spells, symbol_named}
use Rattle.clu_lexer.specs.Tokens.{kind_in, kind_of}
use Rattle.clu_lexer.specs.Words.{words, symbol_of}
use Rattle.clu_grammar.proofs.Flags.{true_is_false}
use Rattle.clu_parser.specs.Spellings.{spelled}
use Rattle.clu_printer.specs.Printed.{token_text}

-- a letter in upper case is 32 below the one in lower case, all else stays
pub cases_lower : (b : ℕ) → (to_ascii_lowercase b ≡ b) ⊎ ((65 ≤ b) × (b < 91) × (to_ascii_lowercase b ≡ b + 32))
cases_lower b = elim (cases_lt b 65) [
  | inl below ↦ inl (rw (lt-ltb b 65 below) refl)
  | inr above ↦ elim (cases_lt b 91) [
    | inl upper ↦ inr (above, upper, rw (le-ltb b 65 above, lt-ltb b 91 upper) refl)
    | inr further ↦ inl (rw (le-ltb b 65 above, le-ltb b 91 further) refl)
  ]
]

lower_above : (b : ℕ) → 91 ≤ b → to_ascii_lowercase b ≡ b
lower_above b le = rw (le-ltb b 65 (omega arith), le-ltb b 91 le) refl

pub text_again : (text : List ℕ) → map to_ascii_lowercase (map to_ascii_lowercase text) ≡ map to_ascii_lowercase text
text_again [] = refl
text_again (b ∷ text) =
    ap (λ (n : ℕ). n ∷ map to_ascii_lowercase (map to_ascii_lowercase text)) (lowercase-lowercase b) ∙ ap (λ (ns : List ℕ). to_ascii_lowercase b ∷ ns) (text_again text)

-- both letters begin a name, and go on with one
upper_begins : (b : ℕ) → 65 ≤ b → b < 91 → begins_name b ≡ true
upper_begins b le less = rw (le-leb 65 b le, le-leb b 90 (omega arith)) refl

lower_begins : (b : ℕ) → 65 ≤ b → b < 91 → begins_name (b + 32) ≡ true
lower_begins b le less = rw (lt-leb (b + 32) 90 (omega arith), le-leb 65 (b + 32) (omega arith), le-leb 97 (b + 32) (omega arith), le-leb (b + 32) 122 (omega arith)) refl

begins_same : (b : ℕ) → begins_name (to_ascii_lowercase b) ≡ begins_name b
begins_same b = elim (cases_lower b) [
  | inl same ↦ ap begins_name same
  | inr up ↦ ap begins_name up.2 ∙ lower_begins b up.0 up.1 ∙ sym (upper_begins b up.0 up.1)
]

goes_on : (b : ℕ) → begins_name b ≡ true → goes_on_name b ≡ true
goes_on b h = rw h refl

goes_same : (b : ℕ) → goes_on_name (to_ascii_lowercase b) ≡ goes_on_name b
goes_same b = elim (cases_lower b) [
  | inl same ↦ ap goes_on_name same
  | inr up ↦ ap goes_on_name up.2 ∙ goes_on (b + 32) (lower_begins b up.0 up.1) ∙ sym (goes_on b (upper_begins b up.0 up.1))
]

pub run_stopped : (bs : List ℕ) → run state.Stop bs ≡ state.Stop
run_stopped [] = refl
run_stopped (b ∷ bs) = run_stopped bs

run_either : (goes : Bool) (bs : List ℕ) → run state.Name (map to_ascii_lowercase bs) ≡ run state.Name bs → run (only_if goes state.Name) (map to_ascii_lowercase bs) ≡ run (only_if goes state.Name) bs
run_either true bs h = h
run_either false bs h = run_stopped (map to_ascii_lowercase bs) ∙ sym (run_stopped bs)

run_lower : (bs : List ℕ) → run state.Name (map to_ascii_lowercase bs) ≡ run state.Name bs
run_lower [] = refl
run_lower (b ∷ bs) = ap (λ (goes : Bool). run (only_if goes state.Name) (map to_ascii_lowercase bs)) (goes_same b) ∙ run_either (goes_on_name b) bs (run_lower bs)

-- only a name leads to a name
abbrev can_name : State → Bool
can_name state.Start = true
can_name state.Name = true
can_name _ = false

can_if : (test : Bool) (x y : State) → can_name x ≡ false → can_name y ≡ false → can_name (if test then x else y) ≡ false
can_if true x y h k = h
can_if false x y h k = k

can_only : (test : Bool) (x : State) → can_name x ≡ false → can_name (only_if test x) ≡ false
can_only test x h = can_if test x state.Stop h refl

stays_no_name : (s : State) (b : ℕ) → can_name s ≡ false → can_name (next s b) ≡ false
stays_no_name state.Start b h = absurd (cc)
stays_no_name state.Name b h = absurd (cc)
stays_no_name state.Whole b h = can_if (b == 46) state.Fraction (if is_exponent_mark b then state.Exponent else only_if (is_digit b) state.Whole) refl (can_if (is_exponent_mark b) state.Exponent (only_if (is_digit b) state.Whole) refl (can_only (is_digit b) state.Whole refl))
stays_no_name state.Point b h = can_only (is_digit b) state.Fraction refl
stays_no_name state.Fraction b h = can_if (is_exponent_mark b) state.Exponent (only_if (is_digit b) state.Fraction) refl (can_only (is_digit b) state.Fraction refl)
stays_no_name state.Exponent b h = can_if (is_sign b) state.Sign (only_if (is_digit b) state.Power) refl (can_only (is_digit b) state.Power refl)
stays_no_name state.Sign b h = can_only (is_digit b) state.Power refl
stays_no_name state.Power b h = can_only (is_digit b) state.Power refl
stays_no_name state.CharOpen b h = can_if (b == 92) state.CharEscape (only_if (is_plain 39 b) state.CharClose) refl (can_only (is_plain 39 b) state.CharClose refl)
stays_no_name state.CharEscape b h = can_if (is_octal b) state.CharOctal (only_if (is_escape_letter b) state.CharClose) refl (can_only (is_escape_letter b) state.CharClose refl)
stays_no_name state.CharOctal b h = can_only (is_octal b) state.CharOctals refl
stays_no_name state.CharOctals b h = can_only (is_octal b) state.CharClose refl
stays_no_name state.CharClose b h = can_only (b == 39) state.Char refl
stays_no_name state.Char b h = refl
stays_no_name state.Text b h = can_if (b == 34) state.Str (if b == 92 then state.TextEscape else only_if (is_plain 34 b) state.Text) refl (can_if (b == 92) state.TextEscape (only_if (is_plain 34 b) state.Text) refl (can_only (is_plain 34 b) state.Text refl))
stays_no_name state.TextEscape b h = can_if (is_octal b) state.TextOctal (only_if (is_escape_letter b) state.Text) refl (can_only (is_escape_letter b) state.Text refl)
stays_no_name state.TextOctal b h = can_only (is_octal b) state.TextOctals refl
stays_no_name state.TextOctals b h = can_only (is_octal b) state.Text refl
stays_no_name state.Str b h = refl
stays_no_name state.Mark b h = refl
stays_no_name state.BeforeEqual b h = can_only (b == 61) state.Mark refl
stays_no_name state.Tilde b h = can_if (b == 60 || b == 62) state.BeforeEqual (only_if (b == 61) state.Mark) refl (can_only (b == 61) state.Mark refl)
stays_no_name state.Star b h = can_only (b == 42) state.Mark refl
stays_no_name state.Slash b h = can_only (b == 47) state.Mark refl
stays_no_name state.Bar b h = can_only (b == 124) state.Mark refl
stays_no_name state.Stop b h = refl

runs_no_name : (s : State) (bs : List ℕ) → can_name s ≡ false → can_name (run s bs) ≡ false
runs_no_name s [] h = h
runs_no_name s (b ∷ bs) h = runs_no_name (next s b) bs (stays_no_name s b h)

accepts_name : (s : State) → accepts s ≡ Some kind.Idn → can_name s ≡ true
accepts_name state.Name h = refl
accepts_name state.Start h = refl
accepts_name _ h = absurd (cc)

begins_no_name : (b : ℕ) → begins_name b ≡ false → can_name (begin b) ≡ false
begins_no_name b is_not =
    ap (λ (test : Bool). can_name (if test then state.Name else if is_digit b then state.Whole else if b == 46 then state.Point else if b == 39 then state.CharOpen else if b == 34 then state.Text else if may_take_equal b then state.BeforeEqual else if b == 126 then state.Tilde else if b == 42 then state.Star else if b == 47 then state.Slash else if b == 124 then state.Bar else only_if (is_short_mark b) state.Mark)) is_not
    ∙ can_if (is_digit b) state.Whole (if b == 46 then state.Point else if b == 39 then state.CharOpen else if b == 34 then state.Text else if may_take_equal b then state.BeforeEqual else if b == 126 then state.Tilde else if b == 42 then state.Star else if b == 47 then state.Slash else if b == 124 then state.Bar else only_if (is_short_mark b) state.Mark) refl (can_if (b == 46) state.Point (if b == 39 then state.CharOpen else if b == 34 then state.Text else if may_take_equal b then state.BeforeEqual else if b == 126 then state.Tilde else if b == 42 then state.Star else if b == 47 then state.Slash else if b == 124 then state.Bar else only_if (is_short_mark b) state.Mark) refl (can_if (b == 39) state.CharOpen (if b == 34 then state.Text else if may_take_equal b then state.BeforeEqual else if b == 126 then state.Tilde else if b == 42 then state.Star else if b == 47 then state.Slash else if b == 124 then state.Bar else only_if (is_short_mark b) state.Mark) refl (can_if (b == 34) state.Text (if may_take_equal b then state.BeforeEqual else if b == 126 then state.Tilde else if b == 42 then state.Star else if b == 47 then state.Slash else if b == 124 then state.Bar else only_if (is_short_mark b) state.Mark) refl (can_if (may_take_equal b) state.BeforeEqual (if b == 126 then state.Tilde else if b == 42 then state.Star else if b == 47 then state.Slash else if b == 124 then state.Bar else only_if (is_short_mark b) state.Mark) refl (can_if (b == 126) state.Tilde (if b == 42 then state.Star else if b == 47 then state.Slash else if b == 124 then state.Bar else only_if (is_short_mark b) state.Mark) refl (can_if (b == 42) state.Star (if b == 47 then state.Slash else if b == 124 then state.Bar else only_if (is_short_mark b) state.Mark) refl (can_if (b == 47) state.Slash (if b == 124 then state.Bar else only_if (is_short_mark b) state.Mark) refl (can_if (b == 124) state.Bar (only_if (is_short_mark b) state.Mark) refl (can_only (is_short_mark b) state.Mark refl)))))))))

begin_name : (b : ℕ) → begins_name b ≡ true → begin b ≡ state.Name
begin_name b is_so = rw is_so refl

class_lower : (bs : List ℕ) → class_of bs ≡ Some kind.Idn → class_of (map to_ascii_lowercase bs) ≡ Some kind.Idn
unfolding class_of
class_lower [] h = absurd (cc)
class_lower (b ∷ bs) h = elim (cases_Bool (begins_name b)) [
  | inl is_so ↦ (
      let is_so' : begins_name (to_ascii_lowercase b) ≡ true = begins_same b ∙ is_so in
      ap (λ (st : State). accepts (run st (map to_ascii_lowercase bs))) (begin_name (to_ascii_lowercase b) is_so')
      ∙ ap accepts (run_lower bs)
      ∙ ap (λ (st : State). accepts (run st bs)) (sym (begin_name b is_so))
      ∙ h
      )
  | inr is_not ↦ absurd (true_is_false (can_name (run (begin b) bs)) (accepts_name (run (begin b) bs) h) (runs_no_name (begin b) bs (begins_no_name b is_not)))
]

spells_lower : (word text : List ℕ) → spells word (map to_ascii_lowercase text) ≡ spells word text
spells_lower [] [] = refl
spells_lower [] (t ∷ text) = refl
spells_lower (w ∷ word) [] = refl
spells_lower (w ∷ word) (t ∷ text) =
    ap (λ (n : ℕ). (w == n) && spells word (map to_ascii_lowercase text)) (lowercase-lowercase t) ∙ ap (λ (b : Bool). (w == to_ascii_lowercase t) && b) (spells_lower word text)

pub named_lower : (table : List (List ℕ × Symbol)) (text : List ℕ) → symbol_named table (map to_ascii_lowercase text) ≡ symbol_named table text
named_lower [] text = refl
named_lower (entry ∷ table) text =
    ap (λ (b : Bool). if b then Some entry.1 else symbol_named table (map to_ascii_lowercase text)) (spells_lower entry.0 text)
    ∙ ap (λ (o : Option Symbol). if spells entry.0 text then Some entry.1 else o) (named_lower table text)

-- a kind, and the class of its text
accepts_no_word : (s : State) → accepts s ≡ Some kind.Word → ⊥
accepts_no_word state.Start h = cc
accepts_no_word _ h = cc

class_no_word : (bs : List ℕ) → class_of bs ≡ Some kind.Word → ⊥
unfolding class_of
class_no_word bs h = accepts_no_word (run state.Start bs) h

pub record HasClass (text : List ℕ) (k : Kind) : Type 0 where
  pub class : Kind
  pub class_is : class_of text ≡ Some class
  pub kind_is : k ≡ kind_in class text

pub class_behind : (text : List ℕ) (k : Kind) → kind_of text ≡ Some k → HasClass text k
unfolding kind_of
class_behind text k h = next (class_of text) refl h
  where
    next : (o : Option Kind) → class_of text ≡ o → option_map (λ class. kind_in class text) o ≡ Some k → HasClass text k
    next None is h = absurd (cc)
    next (Some class) is h = record { class = class; class_is = is; kind_is = sym (same_Some _ _ h) }

pub kind_behind : (text : List ℕ) (class : Kind) → class_of text ≡ Some class → kind_of text ≡ Some (kind_in class text)
unfolding kind_of
kind_behind text class h = rw h refl

named : (text : List ℕ) (k : Kind) → kind_of text ≡ Some k → (k ≡ kind.Word) ⊎ (k ≡ kind.Idn) → class_of text ≡ Some kind.Idn
named text k h it = (let c = class_behind text k h in next c.class c.class_is c.kind_is)
  where
    wrong : (k' : Kind) → k ≡ k' → (k' ≡ kind.Word → ⊥) → (k' ≡ kind.Idn → ⊥) → ⊥
    wrong k' same f g = elim it [ inl w ↦ f (sym same ∙ w) | inr i ↦ g (sym same ∙ i) ]

    next : (class : Kind) → class_of text ≡ Some class → k ≡ kind_in class text → class_of text ≡ Some kind.Idn
    next kind.Idn is same = is
    next kind.Word is same = absurd (class_no_word text is)
    next kind.Int is same = absurd (wrong kind.Int same (λ e. cc) (λ e. cc))
    next kind.Real is same = absurd (wrong kind.Real same (λ e. cc) (λ e. cc))
    next kind.Char is same = absurd (wrong kind.Char same (λ e. cc) (λ e. cc))
    next kind.Str is same = absurd (wrong kind.Str same (λ e. cc) (λ e. cc))
    next kind.Mark is same = absurd (wrong kind.Mark same (λ e. cc) (λ e. cc))

lower_kind : (text : List ℕ) (k : Kind) → kind_of text ≡ Some k → class_of text ≡ Some kind.Idn → kind_of (map to_ascii_lowercase text) ≡ Some k
lower_kind text k h c =
    let same : kind_in kind.Idn (map to_ascii_lowercase text) ≡ kind_in kind.Idn text = ap (λ (o : Option Symbol). if is_some o then kind.Word else kind.Idn) (named_lower words text) in
    kind_behind (map to_ascii_lowercase text) kind.Idn (class_lower text c) ∙ ap Some same ∙ sym (kind_behind text kind.Idn c) ∙ h

-- a printed token has the kind, the symbol and the spelling of the first one, and is printed as it is
pub printed_kind : (k : Kind) (text : List ℕ) → kind_of text ≡ Some k → kind_of (token_text k text) ≡ Some k
printed_kind kind.Word text h = lower_kind text kind.Word h (named text kind.Word h (inl refl))
printed_kind kind.Idn text h = lower_kind text kind.Idn h (named text kind.Idn h (inr refl))
printed_kind _ text h = h

pub printed_symbol : (k : Kind) (text : List ℕ) → symbol_of k (token_text k text) ≡ symbol_of k text
printed_symbol kind.Word text = ap (λ (o : Option Symbol). unwrap_or o symbol.Unknown) (named_lower words text)
printed_symbol kind.Idn text = refl
printed_symbol _ text = refl

pub printed_spelled : (k : Kind) (text : List ℕ) → spelled k (token_text k text) ≡ spelled k text
printed_spelled kind.Word text = text_again text
printed_spelled kind.Idn text = text_again text
printed_spelled _ text = refl

pub printed_again : (k : Kind) (text : List ℕ) → token_text k (token_text k text) ≡ token_text k text
printed_again kind.Word text = text_again text
printed_again kind.Idn text = text_again text
printed_again _ text = refl
