use Rattle.std.proofs.Common.{ℕ, List}
use Rattle.clu_types.specs.Arena.{Grows}
use Rattle.clu_types.specs.declared.term.Term.{Term}
use Rattle.clu_syntax.specs.Items.{Item}
use Rattle.clu_typing.specs.Pass.{KnowsNothing, AreKnown}
use Rattle.clu_typing.proofs.pass.note_nodes.Given as goal

abbrev pub invariant-loop-n : goal.invariant-loop-n
invariant-loop-n l = record {
  known : (items : ℕ → Item) (first : List Term) → KnowsNothing l.headed first l.initial.types l.initial.facts → AreKnown l.headed items first l.n l.types l.facts;
  grows : Grows l.initial.types l.types;
}
