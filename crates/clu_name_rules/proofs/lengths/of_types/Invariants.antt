use Rattle.std.proofs.Common.{◌≡◌, drop}
use Rattle.std.specs.Prelude.{fold}
use Rattle.clu_name_rules.specs.Lengths.{with_type}
use Rattle.clu_name_rules.proofs.lengths.of_types.Given as goal

abbrev pub invariant-loop-id : goal.invariant-loop-id
invariant-loop-id l = fold (with_type l.lengths) l.length (drop l.id-index l.ids) ≡ fold (with_type l.lengths) 0 l.ids
