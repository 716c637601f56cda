-- What the implementations in memory hold, as contracts see it.
use Rattle.std.specs.Prelude.{ℕ, List}

-- a source: the bytes left to give, the longest piece it gives at once, the numbers of the calls
-- that fail, and how many calls there were and how many of them failed
pub record SourceState : Type 0 where
  pub bytes : List ℕ
  pub piece : ℕ
  pub failing : List ℕ
  pub calls : ℕ
  pub failed : ℕ

-- a sink: the bytes taken, how many it takes in all, and the rest as for a source
pub record SinkState : Type 0 where
  pub bytes : List ℕ
  pub room : ℕ
  pub piece : ℕ
  pub failing : List ℕ
  pub calls : ℕ
  pub failed : ℕ
