use Rattle.std.proofs.Common.{◌∙◌, ap, sym, refl, inl, inr}
use Rattle.std.proofs.lemmas.Option.{none-some}
use Rattle.clu_settle.specs.Standing.{is_plain_word, word_stands_for}
use Rattle.clu_settle.specs.Lost.{is_cvt}
use Rattle.std.proofs.lemmas.Bool.{true≢false}
use Rattle.clu_settle.proofs.Made.{ok_more}
use Rattle.clu_settle.proofs.Reading.{not_lost}
use Rattle.clu_settle.proofs.node_values.simple_value.Goals as goal

pub returns-in-Null-clause-lost : goal.returns-in-Null-clause-lost
returns-in-Null-clause-lost c = ok_more _ _ c.type_value.result c.type_value.ensures.there (λ v p lost within. absurd (p lost))

pub returns-in-Bool-clause-lost : goal.returns-in-Bool-clause-lost
returns-in-Bool-clause-lost c = ok_more _ _ c.type_value-in-Bool.result c.type_value-in-Bool.ensures.there (λ v p lost within. absurd (p lost))

pub returns-in-Int-clause-lost : goal.returns-in-Int-clause-lost
returns-in-Int-clause-lost c = ok_more _ _ c.type_value-in-Int.result c.type_value-in-Int.ensures.there (λ v p lost within. absurd (p lost))

pub returns-in-Real-clause-lost : goal.returns-in-Real-clause-lost
returns-in-Real-clause-lost c = ok_more _ _ c.type_value-in-Real.result c.type_value-in-Real.ensures.there (λ v p lost within. absurd (p lost))

pub returns-in-Char-clause-lost : goal.returns-in-Char-clause-lost
returns-in-Char-clause-lost c = ok_more _ _ c.type_value-in-Char.result c.type_value-in-Char.ensures.there (λ v p lost within. absurd (p lost))

pub returns-in-String-clause-lost : goal.returns-in-String-clause-lost
returns-in-String-clause-lost c = ok_more _ _ c.type_value-in-String.result c.type_value-in-String.ensures.there (λ v p lost within. absurd (p lost))

pub returns-in-Any-clause-lost : goal.returns-in-Any-clause-lost
returns-in-Any-clause-lost c = ok_more _ _ c.type_value-in-Any.result c.type_value-in-Any.ensures.there (λ v p lost within. absurd (p lost))

pub returns-in-Rep-clause-lost : goal.returns-in-Rep-clause-lost
returns-in-Rep-clause-lost c = ok_more _ _ c.representation.result c.representation.ensures.lost (λ v p lost within. inr (p lost within))

pub returns-in-Cvt-clause-lost : goal.returns-in-Cvt-clause-lost
returns-in-Cvt-clause-lost c = λ lost within. inl (ap is_cvt c.in-Cvt.is)

-- ---- what a word stands for

pub returns-in-Null-clause-same : goal.returns-in-Null-clause-same
returns-in-Null-clause-same c = ok_more _ _ c.type_value.result c.type_value.ensures.there (λ v p r e. absurd (none-some r (ap (word_stands_for c.args.asked.meanings.now c.args.n) (sym c.in-Null.is) ∙ e)))

pub returns-in-Bool-clause-same : goal.returns-in-Bool-clause-same
returns-in-Bool-clause-same c = ok_more _ _ c.type_value-in-Bool.result c.type_value-in-Bool.ensures.there (λ v p r e. absurd (none-some r (ap (word_stands_for c.args.asked.meanings.now c.args.n) (sym c.in-Bool.is) ∙ e)))

pub returns-in-Int-clause-same : goal.returns-in-Int-clause-same
returns-in-Int-clause-same c = ok_more _ _ c.type_value-in-Int.result c.type_value-in-Int.ensures.there (λ v p r e. absurd (none-some r (ap (word_stands_for c.args.asked.meanings.now c.args.n) (sym c.in-Int.is) ∙ e)))

pub returns-in-Real-clause-same : goal.returns-in-Real-clause-same
returns-in-Real-clause-same c = ok_more _ _ c.type_value-in-Real.result c.type_value-in-Real.ensures.there (λ v p r e. absurd (none-some r (ap (word_stands_for c.args.asked.meanings.now c.args.n) (sym c.in-Real.is) ∙ e)))

pub returns-in-Char-clause-same : goal.returns-in-Char-clause-same
returns-in-Char-clause-same c = ok_more _ _ c.type_value-in-Char.result c.type_value-in-Char.ensures.there (λ v p r e. absurd (none-some r (ap (word_stands_for c.args.asked.meanings.now c.args.n) (sym c.in-Char.is) ∙ e)))

pub returns-in-String-clause-same : goal.returns-in-String-clause-same
returns-in-String-clause-same c = ok_more _ _ c.type_value-in-String.result c.type_value-in-String.ensures.there (λ v p r e. absurd (none-some r (ap (word_stands_for c.args.asked.meanings.now c.args.n) (sym c.in-String.is) ∙ e)))

pub returns-in-Any-clause-same : goal.returns-in-Any-clause-same
returns-in-Any-clause-same c = ok_more _ _ c.type_value-in-Any.result c.type_value-in-Any.ensures.there (λ v p r e. absurd (none-some r (ap (word_stands_for c.args.asked.meanings.now c.args.n) (sym c.in-Any.is) ∙ e)))

pub returns-in-Rep-clause-same : goal.returns-in-Rep-clause-same
returns-in-Rep-clause-same c = ok_more _ _ c.representation.result c.representation.ensures.same (λ v p r e. p r (ap (word_stands_for c.args.asked.meanings.now c.args.n) (sym c.in-Rep.is) ∙ e))

pub returns-in-Cvt-clause-same : goal.returns-in-Cvt-clause-same
returns-in-Cvt-clause-same c = λ r e. absurd (none-some r (ap (word_stands_for c.args.asked.meanings.now c.args.n) (sym c.in-Cvt.is) ∙ e))

pub returns-in-Null-clause-cvt : goal.returns-in-Null-clause-cvt
returns-in-Null-clause-cvt c = ok_more _ _ c.type_value.result c.type_value.ensures.there (λ v p e. absurd (true≢false (sym (ap is_cvt (sym c.in-Null.is ∙ e)))))

pub returns-in-Bool-clause-cvt : goal.returns-in-Bool-clause-cvt
returns-in-Bool-clause-cvt c = ok_more _ _ c.type_value-in-Bool.result c.type_value-in-Bool.ensures.there (λ v p e. absurd (true≢false (sym (ap is_cvt (sym c.in-Bool.is ∙ e)))))

pub returns-in-Int-clause-cvt : goal.returns-in-Int-clause-cvt
returns-in-Int-clause-cvt c = ok_more _ _ c.type_value-in-Int.result c.type_value-in-Int.ensures.there (λ v p e. absurd (true≢false (sym (ap is_cvt (sym c.in-Int.is ∙ e)))))

pub returns-in-Real-clause-cvt : goal.returns-in-Real-clause-cvt
returns-in-Real-clause-cvt c = ok_more _ _ c.type_value-in-Real.result c.type_value-in-Real.ensures.there (λ v p e. absurd (true≢false (sym (ap is_cvt (sym c.in-Real.is ∙ e)))))

pub returns-in-Char-clause-cvt : goal.returns-in-Char-clause-cvt
returns-in-Char-clause-cvt c = ok_more _ _ c.type_value-in-Char.result c.type_value-in-Char.ensures.there (λ v p e. absurd (true≢false (sym (ap is_cvt (sym c.in-Char.is ∙ e)))))

pub returns-in-String-clause-cvt : goal.returns-in-String-clause-cvt
returns-in-String-clause-cvt c = ok_more _ _ c.type_value-in-String.result c.type_value-in-String.ensures.there (λ v p e. absurd (true≢false (sym (ap is_cvt (sym c.in-String.is ∙ e)))))

pub returns-in-Any-clause-cvt : goal.returns-in-Any-clause-cvt
returns-in-Any-clause-cvt c = ok_more _ _ c.type_value-in-Any.result c.type_value-in-Any.ensures.there (λ v p e. absurd (true≢false (sym (ap is_cvt (sym c.in-Any.is ∙ e)))))

pub returns-in-Rep-clause-cvt : goal.returns-in-Rep-clause-cvt
returns-in-Rep-clause-cvt c = ok_more _ _ c.representation.result c.representation.ensures.same (λ v p e. absurd (true≢false (sym (ap is_cvt (sym c.in-Rep.is ∙ e)))))

pub returns-in-Cvt-clause-cvt : goal.returns-in-Cvt-clause-cvt
returns-in-Cvt-clause-cvt c = λ e. refl

pub returns-in-Null-clause-plain : goal.returns-in-Null-clause-plain
returns-in-Null-clause-plain c = ok_more _ _ c.type_value.result c.type_value.ensures.there (λ v p e. not_lost v p)

pub returns-in-Bool-clause-plain : goal.returns-in-Bool-clause-plain
returns-in-Bool-clause-plain c = ok_more _ _ c.type_value-in-Bool.result c.type_value-in-Bool.ensures.there (λ v p e. not_lost v p)

pub returns-in-Int-clause-plain : goal.returns-in-Int-clause-plain
returns-in-Int-clause-plain c = ok_more _ _ c.type_value-in-Int.result c.type_value-in-Int.ensures.there (λ v p e. not_lost v p)

pub returns-in-Real-clause-plain : goal.returns-in-Real-clause-plain
returns-in-Real-clause-plain c = ok_more _ _ c.type_value-in-Real.result c.type_value-in-Real.ensures.there (λ v p e. not_lost v p)

pub returns-in-Char-clause-plain : goal.returns-in-Char-clause-plain
returns-in-Char-clause-plain c = ok_more _ _ c.type_value-in-Char.result c.type_value-in-Char.ensures.there (λ v p e. not_lost v p)

pub returns-in-String-clause-plain : goal.returns-in-String-clause-plain
returns-in-String-clause-plain c = ok_more _ _ c.type_value-in-String.result c.type_value-in-String.ensures.there (λ v p e. not_lost v p)

pub returns-in-Any-clause-plain : goal.returns-in-Any-clause-plain
returns-in-Any-clause-plain c = ok_more _ _ c.type_value-in-Any.result c.type_value-in-Any.ensures.there (λ v p e. not_lost v p)

pub returns-in-Rep-clause-plain : goal.returns-in-Rep-clause-plain
returns-in-Rep-clause-plain c = ok_more _ _ c.representation.result c.representation.ensures.same (λ v p e. absurd (true≢false (sym e ∙ ap is_plain_word c.in-Rep.is)))

pub returns-in-Cvt-clause-plain : goal.returns-in-Cvt-clause-plain
returns-in-Cvt-clause-plain c = λ e. absurd (true≢false (sym e ∙ ap is_plain_word c.in-Cvt.is))
