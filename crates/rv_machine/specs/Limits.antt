-- The sizes of the two regions that a run is given.
use Rattle.std.specs.Prelude.{◌≡◌, ℕ, ◌%◌, ◌≤◌}

pub record Sizes : Type 0 where
  pub store : ℕ
  pub stack : ℕ

-- at least 4096 bytes and at most this many, a multiple of 16
pub record IsSize (greatest n : ℕ) : Type 0 where
  pub least : 4096 ≤ n
  pub most : n ≤ greatest
  pub sixteens : n % 16 ≡ 0

pub record IsLimits (sizes : Sizes) : Type 0 where
  pub store : IsSize 268435456 sizes.store
  pub stack : IsSize 67108864 sizes.stack
