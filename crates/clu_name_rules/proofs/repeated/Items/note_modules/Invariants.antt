use Rattle.std.proofs.Common.{length}
use Rattle.clu_name_rules.specs.Repeated.{with_module}
use Rattle.clu_name_rules.proofs.Noting.{Goes}
use Rattle.clu_name_rules.proofs.repeated.Items.note_modules.Given as goal

abbrev pub invariant-loop-one : goal.invariant-loop-one
invariant-loop-one l = Goes (with_module l.words (length l.syntax)) l.declared l.one-index l.initial.self l.self
