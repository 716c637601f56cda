use Rattle.std.proofs.Common.{reverse}
use Rattle.clu_grammar.proofs.Runs.{Runs}
use Rattle.clu_grammar.proofs.Weights.{measure}
use Rattle.clu_parser.specs.Trees.{text}
use Rattle.clu_parser.proofs.Means.{HasMeans}
use Rattle.clu_parser.proofs.OnWay.{IsOnWay}
use Rattle.clu_parser.proofs.reader.read.Given as goal

abbrev pub invariant-items : goal.invariant-items
invariant-items l =
    record {
      runs : Runs l.source.symbols.now l.at (reverse l.stack.items);
      builds : IsOnWay (text l.source) (reverse l.stack.items) l.at l.builder;
      means : HasMeans (text l.source) (reverse l.stack.items) l.at l.builder;
    }

abbrev pub decreases-items : goal.decreases-items
decreases-items l = measure l.source.symbols.now l.at (reverse l.stack.items)
