-- What is known of the nodes of a tree of the grammar is so, where an equate stands for what it is unfolded to.
use Rattle.std.specs.Prelude.{◌≡◌, true, ℕ, List}
use Rattle.clu_base.specs.declared.constants.Const.{Const}
use Rattle.clu_tree.specs.declared.node.Node.{Node}
use Rattle.clu_tree.specs.Nodes.{IsTree}
use Rattle.clu_parser.specs.Shape.{HaveForms}
use Rattle.clu_types.specs.CluType.{CluType}
use Rattle.clu_syntax.specs.Syntax.{Constant, Identifier}
use Rattle.clu_syntax.specs.Nodes.{item_at}
use Rattle.clu_meaning.specs.Scoping.{Scope, meaning_of}
use Rattle.clu_meaning.specs.Settling.{Value as Settled, value_of_constant}
use Rattle.clu_settle.specs.declared.value.Value.{Value}
use Rattle.clu_settle.specs.declared.meanings.Meaning.{Meaning}
use Rattle.clu_settle.specs.declared.meanings.Meaning.TheVariants as meaning
use Rattle.clu_settle.specs.Values.{told, Agrees}
use Rattle.clu_settle.specs.Lists.{value_of}
use Rattle.clu_settle.specs.Names.{is_constant, Means, AreMeanings}

pub record AreKnown (nodes : List Node) (scope : Scope) (meanings : List Meaning) (types : List CluType) (constants : List Const) (values : List Value) (unfolded : Constant → Settled) : Type 0 where
  pub tree : IsTree nodes
  pub shaped : HaveForms nodes
  pub meant : AreMeanings nodes scope meanings
  pub each : (n : ℕ) → is_constant nodes n ≡ true → Agrees (told types constants (value_of values n)) (value_of_constant scope unfolded (item_at nodes n).constant)
  -- the right side of an equate that a name means somewhere
  pub rights : (n r : ℕ) (name : Identifier) → Means nodes (meaning.Equate r) (meaning_of scope n name) → Agrees (told types constants (value_of values r)) (unfolded (item_at nodes r).constant)
