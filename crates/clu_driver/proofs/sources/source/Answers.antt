use Rattle.std.proofs.Common.{refl, rules, subst, sym, inl, inr}
use Rattle.clu_parser.specs.declared.errors.ParseError.TheVariants as parse
use Rattle.clu_driver.proofs.Found.{read_fault, tree_read}
use Rattle.clu_driver.specs.Sources.{NotSource}
use Rattle.clu_outcome.specs.declared.outcome.Outcome.{Outcome}
use Rattle.clu_driver.proofs.sources.source.Goals as goal

pub returns-in-Err-TooDeep-clause-refused : goal.returns-in-Err-TooDeep-clause-refused
returns-in-Err-TooDeep-clause-refused c =
    let P : Outcome → Type 0 = λ how. NotSource how c.args.name.now c.args.bytes.items in
    let fault = read_fault _ _ _ _ _ (parse.TooDeep c.in-Err-TooDeep.place) c.in-Err-TooDeep.field-0-is c.deref-in-Ok.ensures.value c.deref-in-Ok-2.ensures.value c.in-Err-TooDeep.ensures.fault in
    subst P (sym c.refused-in-Err-TooDeep.ensures) (refl, (search rules, inr (c.in-Ok.tokens.items, search rules, inr (refl, fault))))

pub returns-in-Err-Syntax-clause-refused : goal.returns-in-Err-Syntax-clause-refused
returns-in-Err-Syntax-clause-refused c =
    let P : Outcome → Type 0 = λ how. NotSource how c.args.name.now c.args.bytes.items in
    let fault = read_fault _ _ _ _ _ (parse.Syntax c.in-Err-Syntax.place) c.in-Err-Syntax.field-0-is c.deref-in-Ok.ensures.value c.deref-in-Ok-2.ensures.value c.in-Err-Syntax.ensures.fault in
    subst P (sym c.refused.ensures) (refl, (search rules, inr (c.in-Ok.tokens.items, search rules, inl (refl, fault))))

pub returns-in-Ok-parse-clause-read : goal.returns-in-Ok-parse-clause-read
returns-in-Ok-parse-clause-read c =
    let told = c.in-Ok-parse.ensures in
    tree_read _ c.args.bytes.items _ c.in-Ok.tokens.items c.in-Ok-parse.tree c.syntax_of.result c.deref-in-Ok.ensures.value c.deref-in-Ok-2.ensures.value c.syntax_of.ensures.same c.syntax_of.ensures.tree told.order told.root told.shape told.forms
