use Rattle.std.proofs.Common.{List, map, string_bytes, Some, ap, ◌∙◌, sym, subst, Global, rules}
use Rattle.clap.specs.Words.{App, HasKind, Text, fault_of, found_of, is_simple, is_simple_and_free, matches_of}
use Rattle.clu_words.proofs.Taken.{form_is_free, form_is_simple, said_refused, said_taken}
use Rattle.clu_words.proofs.reading.read.Goals as goal

pub returns-in-Ok-try_get_matches_from-clause-ok : goal.returns-in-Ok-try_get_matches_from-clause-ok
returns-in-Ok-try_get_matches_from-clause-ok c =
    let words : List Text = map (string_bytes {Z = Global}) c.args.words.now in
    let is = c.in-Ok.ensures in
    let told = c.in-Ok-try_get_matches_from.ensures in
    let taken = ap (λ (a : App). fault_of a words) (sym is) ∙ told.kinds (ap is_simple_and_free is ∙ form_is_free c.args.form) in
    let rows = (told.matches (ap is_simple is ∙ form_is_simple c.args.form)).0 ∙ ap (λ (a : App). matches_of a words) is in
    said_taken c.args.form words (found_of c.in-Ok-try_get_matches_from.matches) taken rows ∙ ap Some (sym c.values.ensures)

pub returns-in-Err-try_get_matches_from-clause-usage : goal.returns-in-Err-try_get_matches_from-clause-usage
returns-in-Err-try_get_matches_from-clause-usage c = λ usage.
    let words : List Text = map (string_bytes {Z = Global}) c.args.words.now in
    let is = c.in-Ok.ensures in
    let error = c.in-Err-try_get_matches_from.error in
    let among = c.in-Err-try_get_matches_from.ensures.kinds (ap is_simple_and_free is ∙ form_is_free c.args.form) in
    let Among : App → Type 0 = λ a. HasKind (fault_of a words) error in
    said_refused c.args.form words error (subst Among is among) (c.refusal.ensures (search (rules, usage)))
