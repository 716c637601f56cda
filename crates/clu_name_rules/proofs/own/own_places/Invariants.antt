use Rattle.std.proofs.Common.{◌≡◌, drop}
use Rattle.clu_name_rules.specs.Own.{noted_from, own_places}
use Rattle.clu_name_rules.proofs.own.own_places.Given as goal

abbrev pub invariant-loop-place : goal.invariant-loop-place
invariant-loop-place l = noted_from l.place (drop l.place l.fn.declared) l.own.items ≡ own_places l.fn.declared l.fn.nodes
