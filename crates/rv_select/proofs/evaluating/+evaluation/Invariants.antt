use Rattle.std.proofs.Common.{◌≡◌, drop, map}
use Rattle.rv_select.specs.Evaluation.{bound_onto, bound_scope, inner_scope, parts_of}
use Rattle.clu_wir.specs.Plain.{expr_of, exprs_of}
use Rattle.rv_select.specs.Written.{written}
use Rattle.rv_select.proofs.evaluating.+evaluation.Given as goal

-- the values that are left bind and add the rest
abbrev pub invariant-bind_all-loop-each : goal.invariant-bind_all-loop-each
invariant-bind_all-loop-each l =
    (bound_scope (parts_of (exprs_of (map expr_of (drop l.each-index l.values)))) l.number l.kept l.inner ≡ inner_scope (parts_of (exprs_of (map expr_of l.fn.values))) l.fn.scope)
    × (bound_onto (parts_of (exprs_of (map expr_of (drop l.each-index l.values)))) l.number l.kept (written l.words) ≡ bound_onto (parts_of (exprs_of (map expr_of l.fn.values))) 0 l.fn.scope (written l.fn.words))
