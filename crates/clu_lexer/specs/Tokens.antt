-- Which lists of tokens are those of a text.
use Rattle.std.specs.Prelude.{◌≡◌, ℕ, ◌+◌, ◌-◌, ◌<◌, if◌then◌else◌, List, [], ◌∷◌, length, drop, Option, Some, None, is_some, Result, Ok, Err, false}
use Rattle.std.specs.Option.{option_map}
use Rattle.clu_base.specs.declared.tokens.Kind.{Kind}
use Rattle.clu_base.specs.declared.tokens.Kind.TheVariants as kind
use Rattle.clu_base.specs.declared.tokens.Token.{Token}
use Rattle.clu_base.specs.declared.tokens.Place.{Place}
use Rattle.clu_lexer.specs.declared.tokens.LexError.{LexError}
use Rattle.clu_lexer.specs.declared.tokens.LexError.TheVariants as error
use Rattle.clu_lexer.specs.Places.{place_at}
use Rattle.clu_lexer.specs.Scanner.{class_of, IsLongest, NoToken}
use Rattle.clu_lexer.specs.Separators.{gap_len}
use Rattle.clu_lexer.specs.Symbols.{symbol_named}
use Rattle.clu_lexer.specs.Words.{words}

-- an identifier that is a reserved word is a word
abbrev pub kind_in : Kind → List ℕ → Kind
kind_in kind.Idn text = if is_some (symbol_named words text) then kind.Word else kind.Idn
kind_in class text = class

-- the kind of token that the bytes are as a whole
unfoldable pub kind_of : List ℕ → Option Kind
kind_of text = option_map (λ class. kind_in class text) (class_of text)

-- the bytes from one offset to the other are separators and comments
abbrev pub IsGap : List ℕ → ℕ → ℕ → Type 0
IsGap bytes from to = from + gap_len false (drop from bytes) ≡ to

-- the token is the first one after the offset, and the longest there
pub record IsToken (bytes : List ℕ) (from : ℕ) (t : Token) : Type 0 where
  pub gap : IsGap bytes from t.start
  pub forward : t.start < t.end
  pub longest : IsLongest kind_of (drop t.start bytes) t.kind (t.end - t.start)
  pub place : t.place ≡ place_at bytes t.start

-- after the offset no token begins where one should, and this is the place
pub record IsBad (bytes : List ℕ) (from : ℕ) (place : Place) : Type 0 where
  pub at : ℕ
  pub gap : IsGap bytes from at
  pub within : at < length bytes
  pub none : NoToken kind_of (drop at bytes)
  pub place_is : place ≡ place_at bytes at

-- what follows after the offset: a token, the end, or a fault
abbrev pub IsNext : List ℕ → ℕ → Result (Option Token) Place → Type 0
IsNext bytes from (Ok (Some t)) = IsToken bytes from t
IsNext bytes from (Ok None) = IsGap bytes from (length bytes)
IsNext bytes from (Err place) = IsBad bytes from place

-- from one offset to the other the bytes are these tokens and what separates them
abbrev pub Cut : List ℕ → ℕ → List Token → ℕ → Type 0
Cut bytes from [] to = from ≡ to
Cut bytes from (t ∷ ts) to = IsToken bytes from t × Cut bytes t.end ts to

-- the bytes are these tokens, and what separates them
abbrev pub Tokens : List ℕ → List Token → Type 0
Tokens bytes ts = (to : ℕ) × Cut bytes 0 ts to × IsGap bytes to (length bytes)

-- some tokens, and then bytes at which none begins
abbrev pub IsFault : List ℕ → LexError → Type 0
IsFault bytes error.Memory = Unit {0}
IsFault bytes (error.Token place) = (ts : List Token) × (to : ℕ) × Cut bytes 0 ts to × IsBad bytes to place
