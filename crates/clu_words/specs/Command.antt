-- Which words are a command, and what it is told.
use Rattle.std.specs.Prelude.{◌==◌, ◌%◌, ◌&&◌, ℕ, Bool, List, [], ◌∷◌, Option, None, Some, if◌then◌else◌, length, nat_le, option_and_then}
use Rattle.clap.specs.Words.{Text}
use Rattle.clu_words.specs.Names.{form_of, name_of}
use Rattle.clu_words.specs.Number.{number_within}
use Rattle.clu_words.specs.Reading.{Said, said}
use Rattle.clu_words.specs.declared.commands.Command.{Command}
use Rattle.clu_words.specs.declared.commands.Command.TheVariants as command
use Rattle.clu_words.specs.declared.limits.RunLimits.{RunLimits}
use Rattle.clu_words.specs.declared.names.Name.{Name}
use Rattle.clu_words.specs.declared.names.Name.TheVariants as name

-- the limits of a run
pub record Limits : Type 0 where
  pub steps : ℕ
  pub store : ℕ
  pub stack : ℕ

-- a command with what it is told
pub data Meant : Type 0 where
  go : Text → Text → Limits → Bool → Bool → Meant
  spec : Text → Text → Meant
  replace : Text → Text → Meant
  compile : Text → Text → Bool → Meant
  link : Text → Text → Text → Meant
  run : Text → Text → Limits → Meant
  exec : Text → Limits → Meant
  gen : ℕ → Meant
  list : Text → Meant
  asm : Text → Text → Meant
  print : Text → Meant
  xref : Text → Meant

-- a number that is a multiple of the unit
abbrev pub multiple_of : ℕ → Option ℕ → Option ℕ
multiple_of unit None = None
multiple_of unit (Some n) = if n % unit == 0 then Some n else None

-- what an option gives: the default where it does not stand
abbrev pub limit_of : ℕ → ℕ → ℕ → ℕ → Option Text → Option ℕ
limit_of least most unit default None = Some default
limit_of least most unit default (Some text) = multiple_of unit (number_within least most text)

abbrev pub limits_of : Said → Option Limits
limits_of s =
    option_and_then (λ steps. option_and_then (λ store. option_and_then (λ stack.
    Some (record { steps = steps; store = store; stack = stack }))
    (limit_of 4096 67108864 16 1048576 s.stack))
    (limit_of 4096 268435456 16 16777216 s.store))
    (limit_of 1 1000000000000000 1 1000000000 s.steps)

-- a program's name
abbrev pub program_name_of : Text → Option Text
program_name_of text = if nat_le 1 (length text) && nat_le (length text) 200 then Some text else None

-- what the texts after a command's name tell it, the first of them apart
abbrev pub meaning_with : Name → Text → Said → Option Meant
meaning_with name.Go first s = option_and_then (λ image. option_and_then (λ limits. Some (go first image limits s.peep s.trace)) (limits_of s)) s.second
meaning_with name.Spec first s = option_and_then (λ file. Some (spec first file)) s.second
meaning_with name.Replace first s = option_and_then (λ file. Some (replace first file)) s.second
meaning_with name.Compile first s = option_and_then (λ file. Some (compile first file s.peep)) s.second
meaning_with name.Link first s =
    option_and_then (λ program. option_and_then (λ start. Some (link first program start)) s.third) (option_and_then program_name_of s.second)
meaning_with name.Run first s =
    option_and_then (λ program. option_and_then (λ limits. Some (run first program limits)) (limits_of s)) (option_and_then program_name_of s.second)
meaning_with name.Exec first s = option_and_then (λ limits. Some (exec first limits)) (limits_of s)
meaning_with name.Gen first s = option_and_then (λ n. Some (gen n)) (number_within 1 500 first)
meaning_with name.List first s = Some (list first)
meaning_with name.Asm first s = option_and_then (λ image. Some (asm first image)) s.second
meaning_with name.Print first s = Some (print first)
meaning_with name.Xref first s = Some (xref first)

abbrev pub meaning_of : Name → Said → Option Meant
meaning_of n s = option_and_then (λ first. meaning_with n first s) s.first

-- the command that the words are, without the program's own name
unfoldable pub command_of : List Text → Option Meant
command_of [] = None
command_of (word ∷ words) = option_and_then (λ n. option_and_then (meaning_of n) (said (form_of n) words)) (name_of word)

-- the same of the command that was read
abbrev pub seen_limits : RunLimits → Limits
seen_limits l = record { steps = l.steps; store = l.store; stack = l.stack }

abbrev pub meant : Command → Meant
meant (command.Go file image limits peep trace) = go file.now image.now (seen_limits limits) peep trace
meant (command.Spec library file) = spec library.now file.now
meant (command.Replace library file) = replace library.now file.now
meant (command.Compile library file peep) = compile library.now file.now peep
meant (command.Link library program start) = link library.now program.now start.now
meant (command.Run library program limits) = run library.now program.now (seen_limits limits)
meant (command.Exec image limits) = exec image.now (seen_limits limits)
meant (command.Gen procedures) = gen procedures
meant (command.List image) = list image.now
meant (command.Asm file image) = asm file.now image.now
meant (command.Print file) = print file.now
meant (command.Xref library) = xref library.now
