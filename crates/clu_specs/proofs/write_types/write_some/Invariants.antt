use Rattle.std.proofs.Common.{◌≡◌, ◌++◌}
use Rattle.clu_types.specs.Arena.{types_of}
use Rattle.clu_specs.specs.Pieces.{stack_text}
use Rattle.clu_specs.proofs.write_types.write_some.Given as goal

abbrev pub invariant-loop : goal.invariant-loop
invariant-loop l = l.out.items ++ stack_text (types_of l.types) l.stack.items ≡ l.fn.out.items ++ stack_text (types_of l.types) l.fn.stack.items
