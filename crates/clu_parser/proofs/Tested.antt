-- The tests of the table, which are computed.
use Rattle.std.proofs.Common.{◌≡◌, true, refl}
use Rattle.clu_grammar.specs.declared.items.Nonterminal.{Nonterminal}
use Rattle.clu_grammar.specs.declared.items.Nonterminal.TheVariants as r
use Rattle.clu_parser.proofs.Typings.{all_make}

pub made : (n : Nonterminal) → all_make n ≡ true
made r.File = refl
made _ = refl
