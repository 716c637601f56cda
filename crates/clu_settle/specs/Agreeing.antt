-- Lists of nodes of which what is known is so: the types, selectors, exceptions and actual parameters there are these.
use Rattle.std.specs.Prelude.{◌≡◌, true, ℕ, List, [], ◌∷◌, slice_get, Some}
use Rattle.clu_base.specs.declared.constants.Const.{Const}
use Rattle.clu_tree.specs.declared.node.Node.{Node}
use Rattle.clu_syntax.specs.Splits.{first_name}
use Rattle.clu_syntax.specs.Syntax.{Constant}
use Rattle.clu_types.specs.CluType.{CluType, CluTypes, no_types, type_and, Fields, no_fields, Signals, no_signals, Actuals, no_actuals}
use Rattle.clu_meaning.specs.Scoping as means
use Rattle.clu_meaning.specs.Settling.{Value as Settled, settled_type, with_fields, listed_signal, with_actual}
use Rattle.clu_settle.specs.declared.value.Value.{Value}
use Rattle.clu_settle.specs.declared.meanings.Meaning.{Meaning}
use Rattle.clu_settle.specs.declared.meanings.Meaning.TheVariants as meaning
use Rattle.clu_settle.specs.Values.{told, Agrees}
use Rattle.clu_settle.specs.Lists.{value_of, first_value}
use Rattle.clu_settle.specs.Names.{is_other}

module _ (types : List CluType) (constants : List Const) (values : List Value) where
  -- these nodes are types
  pub data TypesAgree : List ℕ → CluTypes → Type 0 where
    no_more_types : TypesAgree [] no_types
    type_agrees : (n : ℕ) (t : CluType) (ns : List ℕ) (ts : CluTypes) → Agrees (told types constants (value_of values n)) (settled_type t) → TypesAgree ns ts → TypesAgree (n ∷ ns) (type_and t ts)

  -- these nodes, each with its names and a type, are selectors
  pub data SelectorsAgree (nodes : List Node) : List ℕ → Fields → Type 0 where
    no_more_selectors : SelectorsAgree nodes [] no_fields
    selector_agrees : (n : ℕ) (node : Node) (t : CluType) (ns : List ℕ) (fs : Fields) → slice_get nodes n ≡ Some node → Agrees (told types constants (first_value values node.children)) (settled_type t) → SelectorsAgree nodes ns fs → SelectorsAgree nodes (n ∷ ns) (with_fields node.names t fs)

  -- these nodes, each with its name and types, are exceptions
  pub data SignalsAgree (nodes : List Node) : List ℕ → Signals → Type 0 where
    no_more_signals : SignalsAgree nodes [] no_signals
    signal_agrees : (n : ℕ) (node : Node) (ts : CluTypes) (ns : List ℕ) (ss : Signals) → slice_get nodes n ≡ Some node → TypesAgree node.children ts → SignalsAgree nodes ns ss → SignalsAgree nodes (n ∷ ns) (listed_signal (first_name node.names) ts ss)

  -- these nodes are actual parameters
  pub data ActualsAgree : List ℕ → Actuals → Type 0 where
    no_more_actuals : ActualsAgree [] no_actuals
    actual_agrees : (n : ℕ) (v : Settled) (ns : List ℕ) (gs : Actuals) → Agrees (told types constants (value_of values n)) v → ActualsAgree ns gs → ActualsAgree (n ∷ ns) (with_actual v gs)

  -- a name means this, where an equate is what is unfolded
  abbrev pub MeaningAgrees : (Constant → Settled) → Meaning → means.Meaning → Type 0
  MeaningAgrees unfolded (meaning.Equate right) m = (c : Constant) × (m ≡ means.is_equate c) × Agrees (told types constants (value_of values right)) (unfolded c)
  MeaningAgrees unfolded (meaning.TypeParameter k) m = m ≡ means.is_type_parameter k
  MeaningAgrees unfolded (meaning.ConstantParameter k) m = m ≡ means.is_constant_parameter k
  MeaningAgrees unfolded meaning.Module m = m ≡ means.is_module
  MeaningAgrees unfolded meaning.Other m = is_other m ≡ true
