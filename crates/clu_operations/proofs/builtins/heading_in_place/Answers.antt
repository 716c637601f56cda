use Rattle.std.proofs.Common.{refl}
use Rattle.clu_operations.proofs.builtins.heading_in_place.Goals as goal

pub in_place-requires-clause-ids_in : goal.in_place-requires-clause-ids_in
in_place-requires-clause-ids_in c = rw c.as_slice.ensures c.requires.heading_in.0

pub in_place-requires-2-clause-ids_in : goal.in_place-requires-2-clause-ids_in
in_place-requires-2-clause-ids_in c = rw c.as_slice-2.ensures c.requires.heading_in.1

pub returns : goal.returns
returns c = record {
  put = record { args = rw (← c.as_slice.ensures) c.in_ok-args.ensures.put; results = rw (← c.as_slice-2.ensures) c.in_ok-results.ensures.put; signals = refl };
  within = (c.in_ok-args.ensures.within, c.in_ok-results.ensures.within, c.requires.heading_in.2);
}
