-- The forms of words as data of clap.
use Rattle.std.specs.Prelude.{true, Some, codes}
use Rattle.clap.specs.Words.{App, Rule, Text, new_app, new_rule, with_rule}
use Rattle.clap.specs.declared.builder.action.ArgAction.TheVariants.{SetTrue}
use Rattle.clu_words.specs.declared.form.Form.{Form}
use Rattle.clu_words.specs.declared.form.Form.TheVariants as form

-- a required positional word
abbrev pub positional : Text → Rule
positional id = record (new_rule id) { required = true }

-- an option with a value
abbrev pub option : Text → Rule
option id = record (new_rule id) { long = Some id }

-- a flag without a value
abbrev pub flag : Text → Rule
flag id = record (new_rule id) { long = Some id; action = Some SetTrue }

-- no words yet: no program name, no help
abbrev pub bare : App
bare = let app = new_app (codes "clu") in record app { top = record app.top { no_binary_name = true; disable_help_flag = true } }

-- the limits of a run
abbrev pub with_run_options : App → App
with_run_options app = with_rule (with_rule (with_rule app (option (codes "steps"))) (option (codes "store"))) (option (codes "stack"))

abbrev pub one : App
one = with_rule bare (positional (codes "first"))

abbrev pub two : App
two = with_rule one (positional (codes "second"))

abbrev pub app_of_form : Form → App
app_of_form form.One = one
app_of_form form.Two = two
app_of_form form.Three = with_rule two (positional (codes "third"))
app_of_form form.OneRun = with_run_options one
app_of_form form.TwoRun = with_run_options two
app_of_form form.TwoPeep = with_rule two (flag (codes "peep"))
app_of_form form.TwoAll = with_rule (with_rule (with_run_options two) (flag (codes "peep"))) (flag (codes "trace"))
