-- The automaton of tokens: what has been read of a token, and what one byte more makes of it. Bytes stand
-- by their codes: 34 is ", 39 is ', 42 is *, 46 is a point, 47 is /, 61 is =, 92 is a backslash, 124 is a bar.
use Rattle.std.specs.Prelude.{◌≡◌, ◌<◌, ◌≤◌, length, take, ℕ, Bool, if◌then◌else◌, ◌==◌, ◌||◌, List, [], ◌∷◌, Option, Some, None}
use Rattle.clu_base.specs.declared.tokens.Kind.{Kind}
use Rattle.clu_base.specs.declared.tokens.Kind.TheVariants as kind
use Rattle.clu_lexer.specs.declared.scanner.State.{State}
use Rattle.clu_lexer.specs.declared.scanner.State.TheVariants as state
use Rattle.clu_lexer.specs.Classes.{begins_name, goes_on_name, is_digit, is_octal, is_plain, is_escape_letter, is_exponent_mark, is_sign}

-- ( ) [ ] { } , ; $ = + - &
abbrev pub is_short_mark : ℕ → Bool
is_short_mark b = is_bracket || is_other
  where
    is_bracket : Bool
    is_bracket = ((((b == 40 || b == 41) || b == 91) || b == 93) || b == 123) || b == 125

    is_other : Bool
    is_other = (((((b == 44 || b == 59) || b == 36) || b == 61) || b == 43) || b == 45) || b == 38

-- : < >
abbrev pub may_take_equal : ℕ → Bool
may_take_equal b = (b == 58 || b == 60) || b == 62

abbrev pub only_if : Bool → State → State
only_if test s = if test then s else state.Stop

-- what the first byte begins
abbrev pub begin : ℕ → State
begin b =
    if begins_name b then state.Name else
    if is_digit b then state.Whole else
    if b == 46 then state.Point else
    if b == 39 then state.CharOpen else
    if b == 34 then state.Text else
    if may_take_equal b then state.BeforeEqual else
    if b == 126 then state.Tilde else
    if b == 42 then state.Star else
    if b == 47 then state.Slash else
    if b == 124 then state.Bar else
    only_if (is_short_mark b) state.Mark

abbrev pub next : State → ℕ → State
next state.Start b = begin b
next state.Name b = only_if (goes_on_name b) state.Name
next state.Whole b = if b == 46 then state.Fraction else if is_exponent_mark b then state.Exponent else only_if (is_digit b) state.Whole
next state.Point b = only_if (is_digit b) state.Fraction
next state.Fraction b = if is_exponent_mark b then state.Exponent else only_if (is_digit b) state.Fraction
next state.Exponent b = if is_sign b then state.Sign else only_if (is_digit b) state.Power
next state.Sign b = only_if (is_digit b) state.Power
next state.Power b = only_if (is_digit b) state.Power
next state.CharOpen b = if b == 92 then state.CharEscape else only_if (is_plain 39 b) state.CharClose
next state.CharEscape b = if is_octal b then state.CharOctal else only_if (is_escape_letter b) state.CharClose
next state.CharOctal b = only_if (is_octal b) state.CharOctals
next state.CharOctals b = only_if (is_octal b) state.CharClose
next state.CharClose b = only_if (b == 39) state.Char
next state.Char b = state.Stop
next state.Text b = if b == 34 then state.Str else if b == 92 then state.TextEscape else only_if (is_plain 34 b) state.Text
next state.TextEscape b = if is_octal b then state.TextOctal else only_if (is_escape_letter b) state.Text
next state.TextOctal b = only_if (is_octal b) state.TextOctals
next state.TextOctals b = only_if (is_octal b) state.Text
next state.Str b = state.Stop
next state.Mark b = state.Stop
next state.BeforeEqual b = only_if (b == 61) state.Mark
next state.Tilde b = if b == 60 || b == 62 then state.BeforeEqual else only_if (b == 61) state.Mark
next state.Star b = only_if (b == 42) state.Mark
next state.Slash b = only_if (b == 47) state.Mark
next state.Bar b = only_if (b == 124) state.Mark
next state.Stop b = state.Stop

-- the kind of what has been read, where it is a whole token
abbrev pub accepts : State → Option Kind
accepts state.Name = Some kind.Idn
accepts state.Whole = Some kind.Int
accepts state.Fraction = Some kind.Real
accepts state.Power = Some kind.Real
accepts state.Char = Some kind.Char
accepts state.Str = Some kind.Str
accepts state.Point = Some kind.Mark
accepts state.Mark = Some kind.Mark
accepts state.BeforeEqual = Some kind.Mark
accepts state.Tilde = Some kind.Mark
accepts state.Star = Some kind.Mark
accepts state.Slash = Some kind.Mark
accepts state.Bar = Some kind.Mark
accepts _ = None

abbrev pub run : State → List ℕ → State
run s [] = s
run s (b ∷ bs) = run (next s b) bs

-- the kind of token that the bytes are as a whole, where a reserved word counts as an identifier
unfoldable pub class_of : List ℕ → Option Kind
class_of bs = accepts (run state.Start bs)

-- the first n bytes are a token of the kind, and no more of them are a token
pub record IsLongest (kind_of : List ℕ → Option Kind) (bytes : List ℕ) (kind : Kind) (n : ℕ) : Type 0 where
  pub within : n ≤ length bytes
  pub is : kind_of (take n bytes) ≡ Some kind
  pub longest : (m : ℕ) → n < m → m ≤ length bytes → kind_of (take m bytes) ≡ None

-- no token begins here
abbrev pub NoToken : (List ℕ → Option Kind) → List ℕ → Type 0
NoToken kind_of bytes = (m : ℕ) → m ≤ length bytes → kind_of (take m bytes) ≡ None
