-- What clap's clauses say of a form's command.
use Rattle.std.proofs.Common.{◌≡◌, ◌≢◌, inl, inr, true, List, [], ◌∷◌, Some, None, refl, sym, ap, ◌∙◌}
use Rattle.clap.proofs.WalkLemmas.{first_value-rows}
use Rattle.clap.specs.Words.{HasKind, IsAmong, Kinds, Text, fault_of, first_of, first_value, is_simple, is_simple_and_free, kind_of, matches_of, rows_of}
use Rattle.clap.specs.declared.error.Error.{Error}
use Rattle.clap.specs.declared.error.kind.ErrorKind.{ErrorKind}
use Rattle.clap.specs.declared.error.kind.ErrorKind.TheVariants.{OutOfMemory}
use Rattle.clap.specs.declared.parser.matches.Found.{Found}
use Rattle.clu_words.specs.Form.{app_of_form}
use Rattle.clu_words.specs.Reading.{Said, said, said_by, values_in, without_fault}
use Rattle.clu_words.specs.declared.form.Form.{Form}
use Rattle.clu_words.specs.declared.form.Form.TheVariants as form

-- clap's clauses are exact at the command of each form
pub form_is_simple : (f : Form) → is_simple (app_of_form f) ≡ true
form_is_simple form.One = refl
form_is_simple form.Two = refl
form_is_simple form.Three = refl
form_is_simple form.OneRun = refl
form_is_simple form.TwoRun = refl
form_is_simple form.TwoPeep = refl
form_is_simple form.TwoAll = refl

pub form_is_free : (f : Form) → is_simple_and_free (app_of_form f) ≡ true
form_is_free form.One = refl
form_is_free form.Two = refl
form_is_free form.Three = refl
form_is_free form.OneRun = refl
form_is_free form.TwoRun = refl
form_is_free form.TwoPeep = refl
form_is_free form.TwoAll = refl

-- words without a fault say what the matches hold
pub said_taken : (f : Form) (words : List Text) (m : Found) → fault_of (app_of_form f) words ≡ [] → rows_of m ≡ matches_of (app_of_form f) words → said f words ≡ Some (values_in m)
unfolding said
said_taken f words m taken rows =
    let at : (id : Text) → first_of id (matches_of (app_of_form f) words) ≡ first_value m id = λ id. ap (first_of id) (sym rows) ∙ sym (first_value-rows m id) in
    let same : said_by (λ id. first_of id (matches_of (app_of_form f) words)) ≡ values_in m = λ i. said_by (λ id. at id i) in
    ap (λ (faults : Kinds). without_fault faults (said_by (λ id. first_of id (matches_of (app_of_form f) words)))) taken ∙ ap Some same

faulty : (kind : ErrorKind) (faults : Kinds) (texts : Said) → IsAmong kind faults → without_fault faults texts ≡ None
faulty kind [] texts h = elim h [ ]
faulty kind (fault ∷ faults) texts h = refl

-- an error other than memory that runs out is a fault of the words
pub said_refused : (f : Form) (words : List Text) (e : Error) → HasKind (fault_of (app_of_form f) words) e → kind_of e ≢ OutOfMemory → said f words ≡ None
unfolding said
said_refused f words e (inl memory) other = absurd (other memory)
said_refused f words e (inr among) other = faulty (kind_of e) _ _ among
