use Rattle.std.proofs.Common.{◌≡◌, drop, map}
use Rattle.clu_grammar.specs.Choice.{step}
use Rattle.clu_grammar.specs.Grammar.{productions}
use Rattle.clu_grammar.specs.Rows.{production}
use Rattle.clu_grammar.proofs.choice.choose.Given as goal

abbrev pub invariant-loop-row : goal.invariant-loop-row
invariant-loop-row l = step (map production (drop l.row-index l.row-items)) l.next ≡ step (productions l.fn.nonterminal) l.next
