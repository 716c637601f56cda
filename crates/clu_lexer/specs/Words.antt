-- The reserved words and the marks.
use Rattle.std.specs.Prelude.{ℕ, List, map, unwrap_or}
use Rattle.clu_base.specs.declared.tokens.Kind.{Kind}
use Rattle.clu_base.specs.declared.tokens.Kind.TheVariants as kind
use Rattle.clu_lexer.specs.declared.symbols.Symbol.{Symbol}
use Rattle.clu_lexer.specs.declared.symbols.Symbol.TheVariants as symbol
use Rattle.clu_lexer.specs.declared.symbols.TheConstants.{WORDS, MARKS}
use Rattle.clu_lexer.specs.Symbols.{symbol_named}

-- the reserved words with their symbols
abbrev pub words : List (List ℕ × Symbol)
words = map (λ entry. (entry.0.now, entry.1)) WORDS

-- the marks with their symbols
abbrev pub marks : List (List ℕ × Symbol)
marks = map (λ entry. (entry.0.now, entry.1)) MARKS

-- what a token of this kind and text is to the grammar
abbrev pub symbol_of : Kind → List ℕ → Symbol
symbol_of kind.Word text = unwrap_or (symbol_named words text) symbol.Unknown
symbol_of kind.Mark text = unwrap_or (symbol_named marks text) symbol.Unknown
symbol_of kind.Idn text = symbol.Idn
symbol_of kind.Int text = symbol.IntLiteral
symbol_of kind.Real text = symbol.RealLiteral
symbol_of kind.Char text = symbol.CharLiteral
symbol_of kind.Str text = symbol.StringLiteral
