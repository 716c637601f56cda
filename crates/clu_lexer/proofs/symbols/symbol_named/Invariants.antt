use Rattle.std.proofs.Common.{◌≡◌, map, drop}
use Rattle.clu_lexer.specs.Symbols.{symbol_named}
use Rattle.clu_lexer.proofs.symbols.symbol_named.Given as goal

abbrev pub invariant-loop-word : goal.invariant-loop-word
invariant-loop-word l = symbol_named (map (λ entry. (entry.0.now, entry.1)) l.table) l.text ≡ symbol_named (map (λ entry. (entry.0.now, entry.1)) (drop l.word-index l.table)) l.text
