-- A statement inside another has a lower number; what its kind asks stands between.
use Rattle.std.specs.Prelude.{◌+◌, ◌*◌, ℕ, suc, length, Option, Some, None}
use Rattle.clu_syntax.specs.declared.statements.Clause.{Clause}
use Rattle.clu_syntax.specs.declared.statements.Clauses.{Clauses}
use Rattle.clu_syntax.specs.Parts.{clause_parts}
use Rattle.clu_lower_ctl.proofs.+statements.Given as goal

abbrev pub decreases-walk::statement : goal.decreases-walk::statement
decreases-walk::statement l = 8 * l.n + 7

abbrev pub decreases-walk::lower : goal.decreases-walk::lower
decreases-walk::lower l = 8 * l.n + 6

abbrev pub decreases-walk::statements : goal.decreases-walk::statements
decreases-walk::statements l = 8 * l.n + 1

abbrev pub decreases-walk::otherwise : goal.decreases-walk::otherwise
decreases-walk::otherwise l = 8 * l.n + 3

abbrev pub decreases-looping::while_loop : goal.decreases-looping::while_loop
decreases-looping::while_loop l = 8 * l.n + 5

abbrev pub decreases-looping::for_loop : goal.decreases-looping::for_loop
decreases-looping::for_loop l = 8 * l.n + 5

abbrev pub decreases-branches::if_statement : goal.decreases-branches::if_statement
decreases-branches::if_statement l = 8 * l.n + 5

abbrev pub decreases-tagging::tagcase : goal.decreases-tagging::tagcase
decreases-tagging::tagcase l = 8 * l.n + 5

abbrev pub decreases-handlers::except : goal.decreases-handlers::except
decreases-handlers::except l = 8 * l.n + 5

abbrev pub decreases-handlers::resignal : goal.decreases-handlers::resignal
decreases-handlers::resignal l = 8 * l.inner + 8

abbrev pub decreases-handlers::handlers : goal.decreases-handlers::handlers
decreases-handlers::handlers l = 8 * l.n + 4

abbrev pub decreases-handlers::named_handler : goal.decreases-handlers::named_handler
decreases-handlers::named_handler l = 8 * l.n + 2

abbrev pub decreases-handlers::other_handler : goal.decreases-handlers::other_handler
decreases-handlers::other_handler l = 8 * l.n + 2

-- the clauses of an If that are left
abbrev left : Option (Clause × Clauses) → ℕ
left None = 0
left (Some both) = suc (length both.1.rest.now)

abbrev pub invariant-branches::if_statement-loop-next : goal.invariant-branches::if_statement-loop-next
invariant-branches::if_statement-loop-next l = clause_parts l.fn.fixed.syntax.now l.fn.n l.next

abbrev pub decreases-branches::if_statement-loop-next : goal.decreases-branches::if_statement-loop-next
decreases-branches::if_statement-loop-next l = left l.next
