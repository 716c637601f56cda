-- A table of values is right: what it knows of a node is what the constant or type there comes to.
use Rattle.std.specs.Prelude.{◌≡◌, ℕ, true, List, length}
use Rattle.clu_base.specs.declared.constants.Const.{Const}
use Rattle.clu_tree.specs.declared.node.Node.{Node}
use Rattle.clu_types.specs.declared.term.Term.{Term}
use Rattle.clu_types.specs.Arena.{types_of}
use Rattle.clu_syntax.specs.Nodes.{item_at}
use Rattle.clu_syntax.specs.Syntax.{Identifier}
use Rattle.clu_meaning.specs.Scoping.{Scope, meaning_of}
use Rattle.clu_meaning.specs.Settling.{value_of_constant, settled}
use Rattle.clu_settle.specs.declared.value.Value.{Value}
use Rattle.clu_settle.specs.declared.meanings.Meaning.TheVariants as meaning
use Rattle.clu_settle.specs.Values.{told, Agrees, AreWithin}
use Rattle.clu_settle.specs.Lists.{value_of}
use Rattle.clu_settle.specs.Names.{is_constant, Means}

pub record AreSettled (nodes : List Node) (scope : Scope) (types : List Term) (constants : List Const) (values : List Value) : Type 0 where
  pub size : length values ≡ length nodes
  pub within : AreWithin (length types) (length constants) values
  pub each : (n : ℕ) → is_constant nodes n ≡ true → Agrees (told (types_of types) constants (value_of values n)) (value_of_constant scope (settled scope) (item_at nodes n).constant)
  -- the right side of an equate that a name means somewhere is settled one step earlier: what is known of it is so without that step
  pub rights : (n r : ℕ) (name : Identifier) → Means nodes (meaning.Equate r) (meaning_of scope n name) → Agrees (told (types_of types) constants (value_of values r)) (settled scope (item_at nodes r).constant)
