-- A printed text that is read again.
use Rattle.std.specs.Prelude.{◌≡◌, ℕ, List}
use Rattle.std.specs.List.{AllZip}
use Rattle.clu_base.specs.declared.tokens.Token.{Token}
use Rattle.clu_tree.specs.declared.node.Node.{Node}
use Rattle.clu_lexer.specs.Tokens.{Tokens}
use Rattle.clu_parser.specs.Parsing.{IsTreeOf}
use Rattle.clu_printer.specs.Printed.{printed}

-- the nodes are the same but for where their tokens stand
pub record IsLike (m n : Node) : Type 0 where
  pub kind_is : n.kind ≡ m.kind
  pub children_are : n.children ≡ m.children
  pub names_are : n.names ≡ m.names
  pub value_is : n.value ≡ m.value

-- the trees are, node by node
abbrev pub AreLike : List Node → List Node → Type 0
AreLike ms ns = AllZip IsLike ms ns

-- the text has tokens, these have a tree like this one, and printed so it is the same text
pub record IsReadAgain (text : List ℕ) (nodes : List Node) : Type 0 where
  pub tokens : List Token
  pub again : List Node
  pub lexed : Tokens text tokens
  pub parsed : IsTreeOf text tokens again
  pub alike : AreLike nodes again
  pub same : printed text tokens again ≡ text
