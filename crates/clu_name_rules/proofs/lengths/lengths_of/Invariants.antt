use Rattle.std.proofs.Common.{◌≡◌, drop}
use Rattle.clu_name_rules.specs.Lengths.{lengths_behind, lengths_of}
use Rattle.clu_name_rules.proofs.lengths.lengths_of.Given as goal

abbrev pub invariant-loop-id : goal.invariant-loop-id
invariant-loop-id l = lengths_behind l.lengths.items (drop l.id l.types) ≡ lengths_of l.types
