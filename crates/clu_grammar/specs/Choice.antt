-- The choice among productions by one symbol of lookahead: the first that is for it.
use Rattle.std.specs.Prelude.{Bool, true, false, if◌then◌else◌, List, [], ◌∷◌, Option, Some, None}
use Rattle.clu_lexer.specs.declared.symbols.Symbol.{Symbol}
use Rattle.clu_lexer.specs.contracts.symbols.Symbol.{the_type}
use Rattle.clu_grammar.specs.declared.items.Item.{Item}
use Rattle.clu_grammar.specs.declared.choice.Choice.{Choice}
use Rattle.clu_grammar.specs.declared.choice.Choice.TheVariants as choice
use Rattle.clu_grammar.specs.Rows.{Production, take, peek, otherwise}
use denote.Enum.Bare.{sameb}

-- what is done at a nonterminal: the next symbol is taken, or not, and the items come; or nothing goes on
pub data Step : Type 0 where
  Take : List Item → Step
  Go : List Item → Step
  No : Step

abbrev pub step_of : Choice → Step
step_of (choice.Take items) = Take items.now
step_of (choice.Go items) = Go items.now
step_of choice.No = No

abbrev pub has : List Symbol → Symbol → Bool
has [] s = false
has (one ∷ symbols) s = if sameb the_type one s then true else has symbols s

abbrev pub is_among : Option Symbol → List Symbol → Bool
is_among None symbols = false
is_among (Some s) symbols = has symbols s

abbrev pub step : List Production → Option Symbol → Step
step [] next = No
step (take symbols items ∷ ps) next = if is_among next symbols then Take items else step ps next
step (peek symbols items ∷ ps) next = if is_among next symbols then Go items else step ps next
step (otherwise items ∷ ps) next = Go items
