-- Words that begin lines are marked from one token to the next.
use Rattle.std.proofs.Common.{◌≡◌, ℕ, suc, ◌+◌, ◌-◌, ◌<◌, List, Option, ap, arith}
use Rattle.clu_lexer.specs.declared.symbols.Symbol.{Symbol}
use Rattle.clu_printer.specs.Lines.{with_word, with_words}

pub words_next : (symbols : List Symbol) (indent to at : ℕ) (begins : List (Option ℕ)) → at < to →
    with_words symbols indent (to - at) at begins ≡ with_words symbols indent (to - (at + 1)) (at + 1) (with_word symbols indent begins at)
unfolding with_words
words_next symbols indent to at begins less =
    let e : to - at ≡ suc (to - (at + 1)) = omega (arith, less) in
    ap (λ (count : ℕ). with_words symbols indent count at begins) e
