-- How tokens are spelled in nodes, and which brackets close before a `$`.
use Rattle.std.specs.Prelude.{ℕ, ◌+◌, ◌-◌, if◌then◌else◌, zero, suc, Bool, false, List, [], ◌∷◌, map, take, drop, Option, Some, None}
use Rattle.std.specs.Char.{to_ascii_lowercase}
use Rattle.clu_base.specs.declared.tokens.Kind.{Kind}
use Rattle.clu_base.specs.declared.tokens.Kind.TheVariants as token
use Rattle.clu_base.specs.declared.tokens.Place.{Place}
use Rattle.clu_base.specs.declared.tokens.Token.{Token}
use Rattle.clu_lexer.specs.declared.symbols.Symbol.{Symbol}
use Rattle.clu_lexer.specs.declared.symbols.Symbol.TheVariants as symbol
use Rattle.clu_lexer.specs.contracts.symbols.Symbol.{the_type}
use Rattle.clu_lexer.specs.Words.{symbol_of}
use denote.Enum.Bare.{sameb}

-- the bytes of a token
abbrev pub bytes_of : List ℕ → Token → List ℕ
bytes_of bytes t = take (t.end - t.start) (drop t.start bytes)

-- what a token is to the grammar
abbrev pub symbol_in : List ℕ → Token → Symbol
symbol_in bytes t = symbol_of t.kind (bytes_of bytes t)

-- literals stand as they are spelled, all else is in lower case
abbrev pub spelled : Kind → List ℕ → List ℕ
spelled token.Int bs = bs
spelled token.Real bs = bs
spelled token.Char bs = bs
spelled token.Str bs = bs
spelled _ bs = map to_ascii_lowercase bs

abbrev pub spelling : List ℕ → Option Token → List ℕ
spelling bytes None = []
spelling bytes (Some t) = spelled t.kind (bytes_of bytes t)

abbrev pub place_in : Option Token → Place
place_in None = record { line = 1; col = 1 }
place_in (Some t) = t.place

abbrev pub is_idn : Option Symbol → Bool
is_idn None = false
is_idn (Some s) = sameb the_type s symbol.Idn

abbrev pub is_dollar : List Symbol → Bool
is_dollar [] = false
is_dollar (s ∷ symbols) = sameb the_type s symbol.Dollar

-- after so many further `[`, the bracket that is open closes before a `$`
abbrev pub closes : ℕ → List Symbol → Bool
closes depth [] = false
closes zero (s ∷ symbols) =
    if sameb the_type s symbol.LeftBracket then closes 1 symbols else
    if sameb the_type s symbol.RightBracket then is_dollar symbols else
    closes zero symbols
closes (suc depth) (s ∷ symbols) =
    if sameb the_type s symbol.LeftBracket then closes (depth + 2) symbols else
    if sameb the_type s symbol.RightBracket then closes depth symbols else
    closes (suc depth) symbols
