use Rattle.std.proofs.Common.{refl}
use Rattle.clu_operations.proofs.builtins.in_whole.Goals as goal

pub heading_in_place-requires-clause-heading_in : goal.heading_in_place-requires-clause-heading_in
heading_in_place-requires-clause-heading_in c = c.requires.builtin_in.0

pub returns : goal.returns
returns c = record {
  put = record { iter = refl; heading = c.in_ok-heading.ensures.put; needs = refl };
  within = (c.in_ok-heading.ensures.within, c.requires.builtin_in.1);
}
