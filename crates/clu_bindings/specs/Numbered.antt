-- Which of the modules that a file may name are its own, and which of them each Module of the file is.
use Rattle.std.specs.Prelude.{◌≡◌, ℕ, zero, suc, ◌+◌, min, Bool, true, false, List, length, slice_get, Option, Some, None}
use Rattle.clu_tree.specs.declared.node.Node.{Node}
use Rattle.clu_tree.specs.declared.node.NodeKind.TheVariants as kind
use Rattle.clu_head.specs.There.{is_there}
use Rattle.clu_bindings.specs.declared.bindings.Modules.{Modules}
use Rattle.clu_bindings.specs.declared.meaning.ModuleId.{ModuleId}
use Rattle.clu_bindings.specs.Tables.{table_to}

-- one more, as far as 32 bits count
abbrev pub more_if : Bool → ℕ → ℕ
more_if true many = min (many + 1) 4294967295
more_if false many = many

abbrev pub number_if : Bool → ℕ → Option ModuleId
number_if true many = Some (record { 0 = many })
number_if false many = None

module _ (nodes : List Node) where
  -- how many Modules stand before the node n
  unfoldable pub modules_to : ℕ → ℕ
  modules_to zero = 0
  modules_to (suc n) = more_if (is_there kind.Module (slice_get nodes n)) (modules_to n)

  -- the module that the node n is
  abbrev pub unit_at : ℕ → Option ModuleId
  unit_at n = number_if (is_there kind.Module (slice_get nodes n)) (modules_to n)

-- those of the file are the first, in the order of the text
pub record AreNumbered (nodes : List Node) (modules : Modules) : Type 0 where
  pub of_file : modules.of_file ≡ modules_to nodes (length nodes)
  pub units : modules.units.items ≡ table_to (unit_at nodes) (length nodes)
