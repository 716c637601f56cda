-- What a file and a library are known to be where a file is checked.
use Rattle.std.specs.Prelude.{◌≤◌, ℕ, List, length}
use Rattle.clu_base.specs.declared.tokens.Token.{Token}
use Rattle.clu_lexer.specs.Tokens.{Tokens}
use Rattle.clu_tree.specs.declared.node.Node.{Node}
use Rattle.clu_parser.specs.Order.{IsFileOver}
use Rattle.clu_parser.specs.Parsing.{IsTreeOf, text_of}
use Rattle.clu_types.specs.declared.spec.Spec.{Spec}
use Rattle.clu_declares.specs.Declares.{IsParsed}
use Rattle.clu_checked.specs.Checked.{IsLibrary}

-- the bytes are no more than a source may have and a file of the grammar: these are its tokens, and these nodes its tree
pub record IsSource (bytes : List ℕ) (tokens : List Token) (nodes : List Node) : Type 0 where
  pub small : length bytes ≤ 1048576
  pub tokens_are : Tokens bytes tokens
  pub tree_is : IsTreeOf bytes tokens nodes

-- what reading says of the tree besides
pub record IsRead (bytes : List ℕ) (tokens : List Token) (nodes : List Node) : Type 0 where
  pub parsed : IsParsed (text_of bytes tokens) nodes
  pub root : IsFileOver (length tokens) nodes

-- these nodes are the tree of a source
pub record HasSource (nodes : List Node) : Type 0 where
  pub bytes : List ℕ
  pub tokens : List Token
  pub source : IsSource bytes tokens nodes
  pub read : IsRead bytes tokens nodes

-- the specifications are no more than a library may keep, and each is whole, with its operations and the components of the types that
-- it shows in ascending order
pub record AreKept (specs : List Spec) : Type 0 where
  pub few : length specs ≤ 4096
  pub ascending : IsLibrary specs
