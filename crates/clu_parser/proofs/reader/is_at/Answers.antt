use Rattle.std.proofs.Common.{Some, refl, sym, ◌∙◌, ap, subst, rules, IsTrue}
use Rattle.clu_lexer.specs.contracts.symbols.Symbol.{the_type}
use Rattle.clu_parser.proofs.Stack.{some_is, flag_is}
use Rattle.clu_parser.proofs.reader.is_at.Goals as goal
use denote.Enum.Bare.{same_true, true_same}

pub returns-in-Some : goal.returns-in-Some
returns-in-Some c =
    let got = sym c.symbol_at.ensures ∙ c.in-Some.is in (
      λ t. got ∙ ap Some (same_true the_type (search rules) c.in-Some.found c.args.symbol (sym c.eq.ensures ∙ flag_is c.eq.result t)),
      λ is. subst IsTrue (sym (c.eq.ensures ∙ true_same the_type c.in-Some.found c.args.symbol (some_is c.in-Some.found c.args.symbol (sym got ∙ is)))) refl,
    )
