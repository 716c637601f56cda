-- What is asked, one behind the other, with the names of operations.
use Rattle.std.specs.Prelude.{ℕ, Bool, false, List, [], ◌∷◌, ◌++◌}
use Rattle.clu_types.specs.declared.term.TypeId.{TypeId}
use Rattle.clu_builtin.specs.declared.needs.Need.{Need}
use Rattle.clu_operations.specs.declared.found.Asked.{Asked}
use Rattle.clu_operations.specs.Words.{with_name, number_with}

pub record Asks : Type 0 where
  pub names : List (List ℕ)
  pub asked : List Asked

abbrev pub asks_of : List (List ℕ) → List Asked → Asks
asks_of names asked = record { names = names; asked = asked }

-- one more
abbrev pub with_asked : TypeId → List ℕ → TypeId → Bool → Asks → Asks
with_asked of name wanted in_set its =
    record { names = with_name its.names name; asked = its.asked ++ record { of = of; operation = number_with its.names name; wanted = wanted; in_set = in_set } ∷ [] }

-- what a built-in operation needs
abbrev pub with_needs : List Need → Asks → Asks
with_needs [] its = its
with_needs (need ∷ needs) its = with_needs needs (with_asked need.of need.op need.wanted false its)
