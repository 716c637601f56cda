-- What the parser answers.
use Rattle.std.specs.Prelude.{◌≡◌, ℕ, ◌⊎◌, List, length, map, slice_get, Option, Some, None}
use Rattle.clu_base.specs.declared.tokens.Place.{Place}
use Rattle.clu_base.specs.declared.tokens.Token.{Token}
use Rattle.clu_lexer.specs.declared.symbols.Symbol.{Symbol}
use Rattle.clu_lexer.specs.Places as source
use Rattle.clu_tree.specs.declared.node.Node.{Node}
use Rattle.clu_grammar.specs.Language.{IsFile, FailsAt}
use Rattle.clu_parser.specs.declared.errors.ParseError.{ParseError}
use Rattle.clu_parser.specs.declared.errors.ParseError.TheVariants as error
use Rattle.clu_parser.specs.Depths.{IsFirstTooDeep}
use Rattle.clu_parser.specs.Levels.{IsLow, IsTooHigh}
use Rattle.clu_parser.specs.Spellings.{symbol_in}
use Rattle.clu_parser.specs.Trees.{Text, Built, IsBuilt}

-- what the tokens are to the grammar
abbrev pub symbols_of : List ℕ → List Token → List Symbol
symbols_of bytes tokens = map (symbol_in bytes) tokens

abbrev pub text_of : List ℕ → List Token → Text
text_of bytes tokens = record { bytes = bytes; tokens = tokens; symbols = symbols_of bytes tokens }

-- the tokens are a file of the grammar, and these nodes are what reading it builds
abbrev pub IsTreeOf : List ℕ → List Token → List Node → Type 0
IsTreeOf bytes tokens nodes = (z : Built) × IsBuilt (text_of bytes tokens) z × (z.nodes ≡ nodes)

abbrev pub place_in : List ℕ → Option Token → Place
place_in bytes None = source.place_at bytes (length bytes)
place_in bytes (Some t) = t.place

-- the place of the n-th token, or of the end
abbrev pub place_of : List ℕ → List Token → ℕ → Place
place_of bytes tokens n = place_in bytes (slice_get tokens n)

-- the grammar's refusal: no level is too high, and this is the place at which the tokens cease to begin a file
abbrev pub IsSyntaxFault : List ℕ → List Token → Place → Type 0
IsSyntaxFault bytes tokens place =
    IsLow (symbols_of bytes tokens) (length tokens) × ((at : ℕ) × FailsAt (symbols_of bytes tokens) at × (place ≡ place_of bytes tokens at))

-- the tokens are a file, and this is the first place of a node of its tree that is too deep
abbrev pub IsDeepTree : List ℕ → List Token → Place → Type 0
IsDeepTree bytes tokens place =
    IsFile (symbols_of bytes tokens) × ((nodes : List Node) × IsTreeOf bytes tokens nodes × IsFirstTooDeep nodes (Some place))

-- the refusal of what is too deep: a level passes 200 here, or the tree of the file is too deep
abbrev pub IsDepthFault : List ℕ → List Token → Place → Type 0
IsDepthFault bytes tokens place =
    ((at : ℕ) × IsTooHigh (symbols_of bytes tokens) at × (place ≡ place_of bytes tokens at)) ⊎ IsDeepTree bytes tokens place

abbrev pub IsFault : List ℕ → List Token → ParseError → Type 0
IsFault bytes tokens (error.Syntax place) = IsSyntaxFault bytes tokens place
IsFault bytes tokens (error.TooDeep place) = IsDepthFault bytes tokens place
IsFault bytes tokens error.Memory = Unit {0}
