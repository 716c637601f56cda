-- What a grammar is made of.
use Rattle.std.specs.Prelude.{List}
use Rattle.clu_lexer.specs.declared.symbols.Symbol.{Symbol}
use Rattle.clu_tree.specs.declared.node.NodeKind.{NodeKind}
use Rattle.clu_grammar.specs.declared.items.Nonterminal.{Nonterminal}
use Rattle.clu_grammar.specs.declared.items.Action.TheVariants as action
use Rattle.clu_grammar.specs.declared.items.Item.{Item}
use Rattle.clu_grammar.specs.declared.items.Item.TheVariants as item
use Rattle.clu_grammar.specs.declared.items.Row.{Row}
use Rattle.clu_grammar.specs.declared.items.Row.TheVariants as row

-- one way to go on at a nonterminal
pub data Production : Type 0 where
  take : List Symbol → List Item → Production
  peek : List Symbol → List Item → Production
  otherwise : List Item → Production

-- the production that a row of the table writes
abbrev pub production : Row → Production
production (row.Take symbols items) = take symbols.now items.now
production (row.Peek symbols items) = peek symbols.now items.now
production (row.Otherwise items) = otherwise items.now

abbrev pub t : Symbol → Item
t s = item.Terminal s

abbrev pub n : Nonterminal → Item
n r = item.Nonterminal r

-- a node begins
abbrev pub begin : Item
begin = item.Action action.Open

-- a node begins that holds the last whole one
abbrev pub wrap : Item
wrap = item.Action action.Wrap

-- a name or the value of the innermost node
abbrev pub note : Item
note = item.Action action.Note

-- the innermost node ends, of this kind
abbrev pub close : NodeKind → Item
close kind = item.Action (action.Close kind)

-- a name, unless the bracket after it closes before a `$`
abbrev pub base : Item
base = item.Action action.Base

-- what the innermost node has is the outer one's
abbrev pub give : Item
give = item.Action action.Give
