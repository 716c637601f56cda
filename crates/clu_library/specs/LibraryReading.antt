-- How a library is read from a file, one part after the other from the left: a value with the bytes that follow it, or how many bytes are left
-- where the first field starts that is not good.
use Rattle.std.specs.Prelude.{ℕ, zero, suc, Bool, ◌&&◌, ◌==◌, nat_lt, nat_le, if◌then◌else◌, List, [], ◌∷◌, map, length, codes, Option, Some, None, Result, Ok, Err}
use Rattle.std.specs.Str.{bytes_eq}
use Rattle.clu_specs.specs.Reading.{Read, ◌>>=◌, end_at}
use Rattle.clu_specs.specs.Seen.{Specification, seen}
use Rattle.clu_specs.specs.SpecReading.{whole_spec}
use Rattle.clu_format.specs.Fields.{mark_read, byte_read, number_read, text_read, module_read, is_after}
use Rattle.clu_object.specs.ObjectReading.{but, list_read, object_read}
use Rattle.clu_library.specs.ByName.{with_item}
use Rattle.clu_library.specs.Contents.{Contents, limit, nothing}
use Rattle.clu_library.specs.ImageReading.{image_read}
use Rattle.clu_library.specs.declared.body.Change.{Change}
use Rattle.clu_library.specs.declared.body.ModuleBody.{ModuleBody}
use Rattle.clu_library.specs.declared.program.Program.{Program}
use Rattle.clu_library.specs.declared.read_modules.Version.{Version}
use Rattle.clu_library.specs.declared.read_modules.Version.TheVariants as version
use Rattle.clu_library.specs.declared.reading.Head.{Head}

-- what a library keeps, its specifications without where their types lie
pub record SeenLibrary : Type 0 where
  pub revision : ℕ
  pub specs : List Specification
  pub changes : List Change
  pub bodies : List ModuleBody
  pub programs : List Program

abbrev pub library_seen : Contents → SeenLibrary
library_seen library =
    record { revision = library.revision; specs = map seen library.specs; changes = library.changes; bodies = library.bodies; programs = library.programs }

-- so many steps, each from what the ones before it made
unfoldable pub stepped : {S : Type 0} → (S → List ℕ → Read S) → ℕ → S → List ℕ → Read S
stepped step zero made bytes = Ok (made, bytes)
stepped step (suc n) made bytes = step made bytes >>= λ x. stepped step n x.0 x.1

-- what was made beside the last name
abbrev pub beside : {A B : Type 0} → Read (A × B) → Read B
beside read = read >>= λ x. Ok (x.0.1, x.1)

-- what stands in a field that starts so many bytes before the end
abbrev pub content_in : {X : Type 0} → ℕ → Result X ℕ → Result X ℕ
content_in left (Ok x) = Ok x
content_in left (Err inside) = Err left

-- a number that is at most this one
abbrev pub number_up_to : ℕ → List ℕ → Read ℕ
number_up_to most bytes = but (nat_lt most) (length bytes) (number_read 4 bytes)

-- The head.

abbrev pub counts_read : Version → ℕ → List ℕ → Read Head
counts_read version revision bytes =
    number_up_to limit bytes >>= λ modules. number_up_to limit modules.1 >>= λ programs.
    Ok (record { version = version; revision = revision; modules = modules.0; programs = programs.0 }, programs.1)

abbrev pub second_head_read : List ℕ → Read Head
second_head_read bytes = number_read 4 bytes >>= λ revision. counts_read version.Second revision.0 revision.1

-- by the version, whose field starts with these bytes
abbrev pub head_by : ℕ → List ℕ → List ℕ → Read Head
head_by number field rest = if number == 1 then counts_read version.First 0 rest else (if number == 2 then second_head_read rest else Err (length field))

unfoldable pub head_read : List ℕ → Read Head
head_read bytes = mark_read (codes "CLUL") bytes >>= λ field. number_read 4 field >>= λ number. head_by number.0 field number.1

-- Names of modules.

abbrev pub behind_names : List ℕ → List (List ℕ) → List ℕ
behind_names last [] = last
behind_names last (name ∷ names) = behind_names name names

-- a name after others; it is not `own`
abbrev pub name_but_read : List ℕ → List ℕ → List ℕ → Read (List ℕ)
name_but_read own previous bytes = but (λ name. bytes_eq name own) (length bytes) (module_read previous bytes)

abbrev pub next_name_read : List ℕ → List (List ℕ) → List ℕ → Read (List ℕ)
next_name_read own made bytes = name_but_read own (behind_names [] made) bytes

abbrev pub names_but : List ℕ → List ℕ → Read (List (List ℕ))
names_but own bytes = list_read (next_name_read own) bytes

abbrev pub listed_read : List ℕ → List ℕ → Read (Option (List (List ℕ)))
listed_read own bytes = names_but own bytes >>= λ names. Ok (Some names.0, names.1)

-- the names of a body of the module `own`
abbrev pub names_by : List ℕ → ℕ → List ℕ → List ℕ → Read (Option (List (List ℕ)))
names_by own listed field rest = if listed == 0 then Ok (None, rest) else (if listed == 1 then listed_read own rest else Err (length field))

abbrev pub names_read : List ℕ → List ℕ → Read (Option (List (List ℕ)))
names_read own bytes = byte_read bytes >>= λ listed. names_by own listed.0 bytes listed.1

-- The parts of a module, each entered into what is kept already.

abbrev pub named_spec : List ℕ → ℕ → Result Specification ℕ → Result Specification ℕ
named_spec name left (Ok s) = if bytes_eq s.name name then Ok s else Err left
named_spec name left (Err inside) = Err left

abbrev pub with_seen : SeenLibrary → Specification → SeenLibrary
with_seen made s = record made { specs = with_item (λ x. x.name) made.specs s }

unfoldable pub spec_kept : List ℕ → SeenLibrary → List ℕ → Read SeenLibrary
spec_kept name made bytes = text_read 8 bytes >>= λ text. named_spec name (length bytes) (whole_spec text.0) >>= λ s. Ok (with_seen made s, text.1)

-- a revision of 0 is none
abbrev pub with_revision : List ℕ → ℕ → List Change → List Change
with_revision name revision made = if nat_lt 0 revision then with_item (λ c. c.name) made (record { name = name; revision = revision }) else made

abbrev pub change_kept : Version → ℕ → List ℕ → List Change → List ℕ → Read (List Change)
change_kept version.First most name made bytes = Ok (made, bytes)
change_kept version.Second most name made bytes = number_up_to most bytes >>= λ revision. Ok (with_revision name revision.0 made, revision.1)

unfoldable pub object_kept : List ℕ → List ℕ → ℕ → Option (List (List ℕ)) → List ModuleBody → List ℕ → Read (List ModuleBody)
object_kept name text checked names made bytes =
    text_read 8 bytes >>= λ content. content_in (length bytes) (object_read content.0) >>= λ object.
    Ok (with_item (λ b. b.name) made (record { name = name; body = record { text = text; names = names; checked = checked; object = object } }), content.1)

abbrev pub checked_kept : ℕ → List ℕ → List ℕ → List ModuleBody → List ℕ → Read (List ModuleBody)
checked_kept most name text made bytes =
    number_up_to most bytes >>= λ checked. names_read name checked.1 >>= λ names. object_kept name text checked.0 names.0 made names.1

abbrev pub behind_text : Version → ℕ → List ℕ → List ℕ → List ModuleBody → List ℕ → Read (List ModuleBody)
behind_text version.First most name text made bytes = object_kept name text 0 None made bytes
behind_text version.Second most name text made bytes = checked_kept most name text made bytes

abbrev pub text_kept : Version → ℕ → List ℕ → List ModuleBody → List ℕ → Read (List ModuleBody)
text_kept version most name made bytes = text_read 8 bytes >>= λ text. behind_text version most name text.0 made text.1

abbrev pub body_by : ℕ → Version → ℕ → List ℕ → List ModuleBody → List ℕ → List ℕ → Read (List ModuleBody)
body_by is_there version most name made field rest = if is_there == 0 then Ok (made, rest) else (if is_there == 1 then text_kept version most name made rest else Err (length field))

unfoldable pub body_kept : Version → ℕ → List ℕ → List ModuleBody → List ℕ → Read (List ModuleBody)
body_kept version most name made bytes = byte_read bytes >>= λ is_there. body_by is_there.0 version most name made bytes is_there.1

unfoldable pub module_kept : Version → List ℕ → SeenLibrary → List ℕ → Read SeenLibrary
module_kept version name made bytes =
    spec_kept name made bytes >>= λ specs. change_kept version specs.0.revision name specs.0.changes specs.1 >>= λ changes.
    body_kept version specs.0.revision name specs.0.bodies changes.1 >>= λ bodies.
    Ok (record specs.0 { changes = changes.0; bodies = bodies.0 }, bodies.1)

-- a module after the one of a name
abbrev pub next_module_kept : Version → List ℕ × SeenLibrary → List ℕ → Read (List ℕ × SeenLibrary)
next_module_kept version made bytes = module_read made.0 bytes >>= λ name. module_kept version name.0 made.1 name.1 >>= λ more. Ok ((name.0, more.0), more.1)

abbrev pub modules_kept : Version → ℕ → SeenLibrary → List ℕ → Read SeenLibrary
modules_kept version count made bytes = beside (stepped (next_module_kept version) count ([], made) bytes)

-- Programs.

abbrev pub is_program_name : List ℕ → Bool
is_program_name name = nat_le 1 (length name) && nat_le (length name) 200

abbrev pub program_name_read : List ℕ → List ℕ → Read (List ℕ)
program_name_read previous bytes = text_read 2 bytes >>= λ x. if is_program_name x.0 && is_after previous x.0 then Ok x else Err (length bytes)

unfoldable pub image_kept : List ℕ → List ℕ → List (List ℕ) → List Program → List ℕ → Read (List Program)
image_kept name start modules made bytes =
    text_read 8 bytes >>= λ content. content_in (length bytes) (image_read content.0) >>= λ image.
    Ok (with_item (λ p. p.name) made (record { name = name; start = start; modules = modules; image = image }), content.1)

abbrev pub program_kept : List ℕ → List Program → List ℕ → Read (List Program)
program_kept name made bytes = text_read 2 bytes >>= λ start. names_but [] start.1 >>= λ modules. image_kept name start.0 modules.0 made modules.1

abbrev pub next_program_kept : List ℕ × List Program → List ℕ → Read (List ℕ × List Program)
next_program_kept made bytes = program_name_read made.0 bytes >>= λ name. program_kept name.0 made.1 name.1 >>= λ more. Ok ((name.0, more.0), more.1)

abbrev pub programs_kept : ℕ → List Program → List ℕ → Read (List Program)
programs_kept count made bytes = beside (stepped next_program_kept count ([], made) bytes)

-- A whole file, and nothing more.

unfoldable pub library_into : SeenLibrary → List ℕ → Result SeenLibrary ℕ
library_into made bytes =
    head_read bytes >>= λ head. modules_kept head.0.version head.0.modules (record made { revision = head.0.revision }) head.1 >>= λ modules.
    programs_kept head.0.programs modules.0.programs modules.1 >>= λ programs.
    end_at (record modules.0 { programs = programs.0 }) programs.1

abbrev pub library_read : List ℕ → Result SeenLibrary ℕ
library_read bytes = library_into (library_seen nothing) bytes
