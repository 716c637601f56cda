-- What is fixed while the statements of a routine are lowered.
use Rattle.std.specs.Prelude.{◌&&◌, ◌==◌, ℕ, Bool, List, Option, option_map}
use Rattle.std.specs.List.{find}
use Rattle.std.specs.Str.{bytes_eq}
use Rattle.clu_types.specs.declared.spec.Demand.{Demand}
use Rattle.clu_types.specs.declared.term.TypeId.{TypeId}
use Rattle.clu_lower_types.specs.declared.fixed.Fixed.{Fixed}

abbrev pub is_demand : ℕ → List ℕ → Demand → Bool
is_demand param op demand = demand.param == param && bytes_eq demand.op op

-- the type of the operation of this name that a where clause gives of a type parameter; of two the first
abbrev pub given : Fixed → ℕ → List ℕ → Option TypeId
given f param op = option_map (λ (demand : Demand). demand.wanted) (find (is_demand param op) f.given.items)
