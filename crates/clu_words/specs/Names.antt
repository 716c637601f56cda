-- The commands by their names.
use Rattle.std.specs.Prelude.{List, ℕ, Option, None, Some, if◌then◌else◌, bytes_eq, codes}
use Rattle.clu_words.specs.declared.form.Form.{Form}
use Rattle.clu_words.specs.declared.form.Form.TheVariants as form
use Rattle.clu_words.specs.declared.names.Name.{Name}
use Rattle.clu_words.specs.declared.names.Name.TheVariants as name

-- the command that a word names
unfoldable pub name_of : List ℕ → Option Name
name_of word =
    if bytes_eq word (codes "go") then Some name.Go
    else (if bytes_eq word (codes "spec") then Some name.Spec
    else (if bytes_eq word (codes "replace") then Some name.Replace
    else (if bytes_eq word (codes "compile") then Some name.Compile
    else (if bytes_eq word (codes "link") then Some name.Link
    else (if bytes_eq word (codes "run") then Some name.Run
    else (if bytes_eq word (codes "exec") then Some name.Exec
    else (if bytes_eq word (codes "gen") then Some name.Gen
    else (if bytes_eq word (codes "list") then Some name.List
    else (if bytes_eq word (codes "asm") then Some name.Asm
    else (if bytes_eq word (codes "print") then Some name.Print
    else (if bytes_eq word (codes "xref") then Some name.Xref
    else None)))))))))))

-- the form of the words after it
abbrev pub form_of : Name → Form
form_of name.Go = form.TwoAll
form_of name.Spec = form.Two
form_of name.Replace = form.Two
form_of name.Compile = form.TwoPeep
form_of name.Link = form.Three
form_of name.Run = form.TwoRun
form_of name.Exec = form.OneRun
form_of name.Gen = form.One
form_of name.List = form.One
form_of name.Asm = form.Two
form_of name.Print = form.One
form_of name.Xref = form.One
