-- Parts of an image lie apart.
use Rattle.std.specs.Prelude.{◌≡◌, ◌<◌, ◌+◌, ◌⊎◌, ℕ, List, Some, slice_get}
use Rattle.clu_types.specs.CluType.{CluType, any_type}
use Rattle.clu_link_meaning.specs.Plan.{Callable, Plan, descriptor_at, string_at, table_at, variable_at}
use Rattle.clu_link_meaning.specs.Program.{number_by}

-- different callables have different descriptors and different link tables, different strings lie at different addresses, and own
-- variables of different numbers have no byte in common
pub record PartsDiffer (p : Plan) : Type 0 where
  pub descriptors : (m n : ℕ) → descriptor_at p m ≡ descriptor_at p n → m ≡ n
  pub tables : (m n : ℕ) (x y : Callable) → slice_get p.callables m ≡ Some x → slice_get p.callables n ≡ Some y → table_at p m ≡ table_at p n → m ≡ n
  pub strings : (m n : ℕ) (s t : List ℕ) → slice_get p.strings m ≡ Some s → slice_get p.strings n ≡ Some t → string_at p m ≡ string_at p n → m ≡ n
  pub variables : (m n i j : ℕ) → i < 16 → j < 16 → variable_at p m + i ≡ variable_at p n + j → m ≡ n

-- types at different places have different numbers, but for any
abbrev pub TypesDiffer : Type 0
TypesDiffer = (a b : CluType) (m n : ℕ) → number_by a m ≡ number_by b n → ((a ≡ any_type) × (b ≡ any_type)) ⊎ (m ≡ n)
