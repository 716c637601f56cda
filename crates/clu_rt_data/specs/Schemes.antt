-- What is known of the code of operations that use those of components, and of force.
use Rattle.std.specs.Prelude.{◌≡◌, ◌+◌, ◌*◌, ◌-◌, ◌^◌, ℕ, List, [], length, min, Option, Some, None}
use Rattle.clu_types.specs.declared.term.Term.{Term}
use Rattle.clu_types.specs.declared.term.Term.TheVariants as term
use Rattle.clu_wir.specs.declared.routine.WRoutine.{WRoutine}

-- how many selectors a type has
abbrev pub selectors : Term → ℕ
selectors (term.Record fields) = length fields
selectors (term.Struct fields) = length fields
selectors (term.Oneof fields) = length fields
selectors (term.Variant fields) = length fields
selectors _ = 0

-- the same of a type that may be there
abbrev pub selectors_of : Option Term → ℕ
selectors_of (Some term) = selectors term
selectors_of None = 0

-- a number of 32 bits, of which a greater one is the greatest
abbrev pub in_32_bits : ℕ → ℕ
in_32_bits n = min n (2 ^ 32 - 1)

-- the nodes that a scheme over so many selectors counts
abbrev pub scheme_nodes : ℕ → ℕ
scheme_nodes count = in_32_bits (in_32_bits (8 * in_32_bits count) + 8)

-- the code has this name, counts so many nodes, and names no constants and no types
pub record IsScheme (name : List ℕ) (nodes : ℕ) (code : WRoutine) : Type 0 where
  pub named : code.name ≡ name
  pub counts : code.nodes ≡ nodes
  pub constants : code.constants.items ≡ []
  pub types : code.types.items ≡ []

-- the code takes an object, uses nothing, counts no nodes and names one type
pub record IsForce (code : WRoutine) : Type 0 where
  pub takes : code.args ≡ 1
  pub counts : code.nodes ≡ 0
  pub uses : code.uses.items ≡ []
  pub types : length code.types.items ≡ 1
