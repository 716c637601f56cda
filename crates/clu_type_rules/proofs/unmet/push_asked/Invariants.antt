use Rattle.std.specs.Prelude.{◌≡◌, drop}
use Rattle.clu_type_rules.specs.Needs.{with_asked}
use Rattle.clu_type_rules.proofs.unmet.push_asked.Given as goal

abbrev pub invariant-loop-one : goal.invariant-loop-one
invariant-loop-one l = with_asked l.under (drop l.one-index l.asked) l.met.keys ≡ with_asked l.under l.asked l.fn.met.keys
