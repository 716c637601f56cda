-- Where a blank stands between two tokens of a line.
use Rattle.std.specs.Prelude.{Bool, true, false, not, ◌&&◌, ◌||◌}
use Rattle.clu_lexer.specs.declared.symbols.Symbol.{Symbol}
use Rattle.clu_lexer.specs.declared.symbols.Symbol.TheVariants as symbol
use Rattle.clu_lexer.specs.contracts.symbols.Symbol.{the_type}
use denote.Enum.Bare.{sameb}

-- no blank stands before , : . ) ] } [ $
abbrev pub clings : Symbol → Bool
clings symbol.Comma = true
clings symbol.Colon = true
clings symbol.Point = true
clings symbol.RightParen = true
clings symbol.RightBracket = true
clings symbol.RightBrace = true
clings symbol.LeftBracket = true
clings symbol.Dollar = true
clings _ = false

-- none before a ( after an identifier or a closing bracket
abbrev pub takes_arguments : Symbol → Bool
takes_arguments symbol.Idn = true
takes_arguments symbol.RightParen = true
takes_arguments symbol.RightBracket = true
takes_arguments symbol.RightBrace = true
takes_arguments _ = false

-- none after ( [ { . $
abbrev pub holds : Symbol → Bool
holds symbol.LeftParen = true
holds symbol.LeftBracket = true
holds symbol.LeftBrace = true
holds symbol.Point = true
holds symbol.Dollar = true
holds _ = false

-- 1 .x is no real literal
abbrev pub would_be_real : Symbol → Symbol → Bool
would_be_real before s = sameb the_type before symbol.IntLiteral && sameb the_type s symbol.Point

abbrev pub is_argument_list : Symbol → Symbol → Bool
is_argument_list before s = sameb the_type s symbol.LeftParen && takes_arguments before

abbrev pub blank_between : Symbol → Symbol → Bool
blank_between before s = would_be_real before s || not ((clings s || holds before) || is_argument_list before s)
