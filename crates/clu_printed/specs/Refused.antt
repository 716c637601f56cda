-- A text that is refused for want of memory alone.
use Rattle.std.specs.Prelude.{◌≡◌, ℕ, List}
use Rattle.clu_base.specs.declared.tokens.Token.{Token}
use Rattle.clu_lexer.specs.declared.tokens.LexError.{LexError}
use Rattle.clu_lexer.specs.declared.tokens.LexError.TheVariants as lexer
use Rattle.clu_lexer.specs.Tokens.{Tokens, IsFault as IsLexFault}
use Rattle.clu_parser.specs.declared.errors.ParseError.{ParseError}
use Rattle.clu_parser.specs.declared.errors.ParseError.TheVariants as parser
use Rattle.clu_parser.specs.Parsing.{IsFault as IsParseFault}

pub record IsNeverRefused (text : List ℕ) : Type 0 where
  pub lexed : (e : LexError) → IsLexFault text e → e ≡ lexer.Memory
  pub parsed : (tokens : List Token) (e : ParseError) → Tokens text tokens → IsParseFault text tokens e → e ≡ parser.Memory
