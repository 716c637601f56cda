use Rattle.std.proofs.Common.{◌≡◌, get_or, slice_get}
use Rattle.clu_bindings.specs.Modules.{named}
use Rattle.clu_bindings.specs.Declaring.{declared_at}
use Rattle.clu_bindings.specs.Tables.{table_to}
use Rattle.clu_bindings.proofs.declaring.declared_of.Given as goal

abbrev pub invariant-loop-place : goal.invariant-loop-place
invariant-loop-place l =
    l.all.items ≡ table_to (λ p. declared_at l.fn.tree l.fn.rounds (named l.fn.modules) l.fn.parameters.counts.items (get_or l.fn.parameters.numbers.items p 0) (slice_get l.fn.declared p)) l.place
