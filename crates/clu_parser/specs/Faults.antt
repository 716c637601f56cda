-- What a refusal of the parser means.
use Rattle.std.specs.Prelude.{List}
use Rattle.clu_lexer.specs.declared.symbols.Symbol.{Symbol}
use Rattle.clu_grammar.specs.Language.{FailsAt}
use Rattle.clu_parser.specs.declared.errors.ReadError.{ReadError}
use Rattle.clu_parser.specs.declared.errors.ReadError.TheVariants as error

-- where reading stops for the grammar's sake, the symbols cease to begin a file
abbrev pub IsReadFault : List Symbol → ReadError → Type 0
IsReadFault symbols (error.Syntax at) = FailsAt symbols at
IsReadFault symbols error.Memory = Unit {0}
