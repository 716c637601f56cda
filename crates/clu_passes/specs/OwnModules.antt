-- Which of the modules that a file may name are its own, and which of them each Module of the file is.
use Rattle.std.specs.Prelude.{◌≡◌, ℕ, List, length, slice_get, Some}
use Rattle.clu_bindings.specs.declared.bindings.Modules.{Modules}
use Rattle.clu_bindings.specs.Modules.{module_id}
use Rattle.clu_bindings.specs.Tables.{optional}

-- these nodes are the Modules of the file, in the order of the text
pub record AreOwnModules (modules : Modules) (numbers : List ℕ) : Type 0 where
  pub of_file : modules.of_file ≡ length numbers
  pub units : (i u : ℕ) → slice_get numbers i ≡ Some u → optional (slice_get modules.units.items u) ≡ Some (module_id i)
