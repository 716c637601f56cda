-- What words of a form say.
use Rattle.std.specs.Prelude.{Bool, false, List, [], ◌∷◌, Option, None, Some, bytes_eq, codes, option_map}
use Rattle.clap.specs.Words.{Kinds, Text, fault_of, first_of, first_value, matches_of}
use Rattle.clap.specs.declared.parser.matches.Found.{Found}
use Rattle.clu_words.specs.Form.{app_of_form}
use Rattle.clu_words.specs.declared.form.Form.{Form}
use Rattle.clu_words.specs.declared.reading.Texts.{Texts}

-- the texts of the words
pub record Said : Type 0 where
  pub first : Option Text
  pub second : Option Text
  pub third : Option Text
  pub steps : Option Text
  pub store : Option Text
  pub stack : Option Text
  pub peep : Bool
  pub trace : Bool

-- a flag's text
abbrev pub is_true : Option Text → Bool
is_true None = false
is_true (Some text) = bytes_eq text (codes "true")

-- what each argument has, by its name
abbrev pub said_by : (Text → Option Text) → Said
said_by value = record {
  first = value (codes "first");
  second = value (codes "second");
  third = value (codes "third");
  steps = value (codes "steps");
  store = value (codes "store");
  stack = value (codes "stack");
  peep = is_true (value (codes "peep"));
  trace = is_true (value (codes "trace"));
}

abbrev pub values_in : Found → Said
values_in found = said_by (first_value found)

-- the same where there is no fault
abbrev pub without_fault : Kinds → Said → Option Said
without_fault [] texts = Some texts
without_fault (fault ∷ faults) texts = None

-- what the words after a command's name say, where they are of the form
unfoldable pub said : Form → List Text → Option Said
said form words =
    without_fault (fault_of (app_of_form form) words) (said_by (λ id. first_of id (matches_of (app_of_form form) words)))

-- a reading, as texts
abbrev pub said_of : Texts → Said
said_of r = record {
  first = option_map (λ text. text.now) r.first;
  second = option_map (λ text. text.now) r.second;
  third = option_map (λ text. text.now) r.third;
  steps = option_map (λ text. text.now) r.steps;
  store = option_map (λ text. text.now) r.store;
  stack = option_map (λ text. text.now) r.stack;
  peep = r.peep;
  trace = r.trace;
}
