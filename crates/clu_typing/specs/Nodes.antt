-- What stands at a node, by the tables of a file.
use Rattle.std.specs.Prelude.{ℕ, ◌&&◌, Bool, true, false, List, [], ◌∷◌, slice_get, Option, None}
use Rattle.clu_tree.specs.declared.node.NodeKind.{NodeKind}
use Rattle.clu_tree.specs.declared.node.NodeKind.TheVariants as kind
use Rattle.clu_types.specs.declared.term.TypeId.{TypeId}
use Rattle.clu_syntax.specs.Kinds.{is_expression}
use Rattle.clu_settle.specs.Lists.{type_id}
use Rattle.clu_bindings.specs.declared.file.File.{File}
use Rattle.clu_bindings.specs.declared.meaning.Meaning.{Meaning}
use Rattle.clu_bindings.specs.declared.meaning.Meaning.TheVariants as meaning
use Rattle.clu_bindings.specs.Tables.{optional}
use Rattle.clu_bindings.specs.Readers.{kind_in, children_in, value_in, wanted_in, meaning_in, takes_actuals}
use Rattle.clu_bindings.specs.Wanted.{is_object_wanted}

abbrev pub is_module : Meaning → Bool
is_module (meaning.Module its) = true
is_module _ = false

-- the type of the first of these nodes, by those of the nodes before
abbrev pub type_of_first : List (Option TypeId) → List ℕ → Option TypeId
type_of_first known [] = None
type_of_first known (c ∷ cs) = optional (slice_get known c)

module _ (f : File) where
  -- an object, or an operation that changes one
  abbrev pub is_used_as : NodeKind → ℕ → Bool
  is_used_as kind.SetField n = true
  is_used_as kind.SetIndex n = true
  is_used_as k n = is_expression k && is_object_wanted (wanted_in f n)

  abbrev pub is_used : ℕ → Bool
  is_used n = is_used_as (kind_in f n) n

  -- ---- its first child

  abbrev pub first_takes_actuals : List ℕ → Bool
  first_takes_actuals [] = false
  first_takes_actuals (c ∷ cs) = takes_actuals f c

  -- it is a Name, and the others are actual parameters
  abbrev pub has_actuals : ℕ → Bool
  has_actuals n = first_takes_actuals (children_in f n)

  abbrev pub first_is_module : List ℕ → Bool
  first_is_module [] = false
  first_is_module (c ∷ cs) = is_module (meaning_in f c)

  -- it names a module
  abbrev pub names_module : ℕ → Bool
  names_module n = first_is_module (children_in f n)

  abbrev pub first_type : List (Option TypeId) → ℕ → Option TypeId
  first_type known n = type_of_first known (children_in f n)

  abbrev pub settled_first : List ℕ → Option TypeId
  settled_first [] = None
  settled_first (c ∷ cs) = type_id (value_in f c)

  -- the type that it comes to
  abbrev pub first_settled : ℕ → Option TypeId
  first_settled n = settled_first (children_in f n)
