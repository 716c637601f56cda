-- That the stack in use is seen: of two machines, the later of which has not forgotten how high the stack of the earlier was.
use Rattle.std.specs.Prelude.{◌≤◌}
use Rattle.clu_flat_meaning.specs.Machine.{Machine}

pub record Rises (c d : Machine) : Type 0 where
  -- the highest top of the stack, and that of its frames and records
  pub high : c.high ≤ d.high
  pub peak : c.peak ≤ d.peak
  -- a top that is counted is followed by one that is
  pub top : c.top ≤ c.high → d.top ≤ d.high
