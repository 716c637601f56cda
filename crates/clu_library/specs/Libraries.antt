-- What a library is: one that is read again once it is written.
use Rattle.std.specs.Prelude.{◌≡◌, ℕ, ◌≤◌, Bool, true, not, ◌&&◌, nat_lt, nat_le, if◌then◌else◌, List, [], ◌∷◌, length, find, Option, Some, None, option_map}
use Rattle.std.specs.List.{filter_map}
use Rattle.std.specs.Str.{bytes_eq}
use Rattle.clu_specs.specs.Grammar.{IsSpecification}
use Rattle.clu_specs.specs.Seen.{Specification, spec_text}
use Rattle.clu_format.specs.Fields.{is_module_name, is_after}
use Rattle.clu_object.specs.ObjectFile.{object_bytes}
use Rattle.clu_object.specs.Objects.{is_content, is_number, is_object}
use Rattle.rv_isa.specs.Image.{IsImage}
use Rattle.clu_library.specs.Contents.{limit}
use Rattle.clu_library.specs.LibraryReading.{SeenLibrary, is_program_name}
use Rattle.clu_library.specs.Staleness.{changed_in}
use Rattle.clu_library.specs.declared.body.Body.{Body}
use Rattle.clu_library.specs.declared.body.Change.{Change}
use Rattle.clu_library.specs.declared.body.ModuleBody.{ModuleBody}
use Rattle.clu_library.specs.declared.program.Program.{Program}

-- names of modules in ascending order, after one of this name; none of them is `own`
abbrev pub are_names : List ℕ → List ℕ → List (List ℕ) → Bool
are_names own previous [] = true
are_names own previous (name ∷ names) = is_module_name name && is_after previous name && not (bytes_eq name own) && are_names own name names

abbrev pub is_list_of_names : List ℕ → List (List ℕ) → Bool
is_list_of_names own names = is_number (length names) && are_names own [] names

-- the names of a body of the module `own`: all, or those that are listed
abbrev pub are_names_of : List ℕ → Option (List (List ℕ)) → Bool
are_names_of own None = true
are_names_of own (Some names) = is_list_of_names own names

-- a body of the module `own` in a library of a revision
abbrev pub is_body : ℕ → List ℕ → Body → Bool
is_body revision own b = is_content b.text && nat_le b.checked revision && are_names_of own b.names && is_object b.object && is_content (object_bytes b.object)

abbrev pub is_body_if : ℕ → List ℕ → Option Body → Bool
is_body_if revision own None = true
is_body_if revision own (Some b) = is_body revision own b

-- the body of a module
abbrev pub body_in : List ModuleBody → List ℕ → Option Body
body_in bodies name = option_map (λ b. b.body) (find (λ b. bytes_eq b.name name) bodies)

-- what a library keeps of a module with this specification, after one of a name
pub record IsModule (library : SeenLibrary) (previous : List ℕ) (s : Specification) : Type 0 where
  pub grammar : IsSpecification s
  pub fits : is_content (spec_text s) ≡ true
  pub named : is_module_name s.name ≡ true
  pub in_order : is_after previous s.name ≡ true
  pub changed : changed_in library.changes s.name ≤ library.revision
  pub body : is_body_if library.revision s.name (body_in library.bodies s.name) ≡ true

abbrev pub AreModules : SeenLibrary → List ℕ → List Specification → Type 0
AreModules library previous [] = Unit {0}
AreModules library previous (s ∷ specs) = IsModule library previous s × AreModules library s.name specs

-- a program after one of a name
pub record IsProgram (previous : List ℕ) (p : Program) : Type 0 where
  pub named : is_program_name p.name ≡ true
  pub in_order : is_after previous p.name ≡ true
  pub start : length p.start ≤ 0xffff
  pub modules : is_list_of_names [] p.modules ≡ true
  pub image : IsImage p.image

abbrev pub ArePrograms : List ℕ → List Program → Type 0
ArePrograms previous [] = Unit {0}
ArePrograms previous (p ∷ programs) = IsProgram previous p × ArePrograms p.name programs

-- the change of a module at a revision; 0 is none
abbrev pub change_at : List ℕ → ℕ → Option Change
change_at name revision = if nat_lt 0 revision then Some (record { name = name; revision = revision }) else None

abbrev pub body_at : List ℕ → Option Body → Option ModuleBody
body_at name body = option_map (λ b. record { name = name; body = b }) body

-- the changes and the bodies of the modules of these specifications, in their order
abbrev pub changes_of : List Change → List Specification → List Change
changes_of changes specs = filter_map (λ s. change_at s.name (changed_in changes s.name)) specs

abbrev pub bodies_of : List ModuleBody → List Specification → List ModuleBody
bodies_of bodies specs = filter_map (λ s. body_at s.name (body_in bodies s.name)) specs

-- of no other modules anything is kept
pub record IsLibrary (library : SeenLibrary) : Type 0 where
  pub revision : is_number library.revision ≡ true
  pub few_modules : length library.specs ≤ limit
  pub few_programs : length library.programs ≤ limit
  pub modules : AreModules library [] library.specs
  pub changes : library.changes ≡ changes_of library.changes library.specs
  pub bodies : library.bodies ≡ bodies_of library.bodies library.specs
  pub programs : ArePrograms [] library.programs
