-- What a library keeps, and how it changes.
use Rattle.std.specs.Prelude.{◌≡◌, ◌<◌, ◌≤◌, ℕ, Bool, not, List, [], ◌∷◌, length, find, Option, Some, None, option_map}
use Rattle.std.specs.List.{filter, list_any}
use Rattle.std.specs.Option.{option_or}
use Rattle.std.specs.Str.{bytes_eq}
use Rattle.clu_types.specs.Specs.{with_spec}
use Rattle.clu_types.specs.declared.spec.Spec.{Spec}
use Rattle.clu_specs.specs.Seen.{seen, spec_text}
use Rattle.clu_library.specs.ByName.{with_item}
use Rattle.clu_library.specs.declared.body.Body.{Body}
use Rattle.clu_library.specs.declared.body.Change.{Change}
use Rattle.clu_library.specs.declared.body.ModuleBody.{ModuleBody}
use Rattle.clu_library.specs.declared.errors.EnterError.{EnterError}
use Rattle.clu_library.specs.declared.errors.EnterError.TheVariants as error
use Rattle.clu_library.specs.declared.program.Program.{Program}

pub record Contents : Type 0 where
  pub revision : ℕ
  pub specs : List Spec
  pub changes : List Change
  pub bodies : List ModuleBody
  pub programs : List Program

abbrev pub nothing : Contents
nothing = record { revision = 0; specs = []; changes = []; bodies = []; programs = [] }

-- what is kept of a name
abbrev pub spec_of : Contents → List ℕ → Option Spec
spec_of library name = find (λ s. bytes_eq s.name name) library.specs

abbrev pub body_of : Contents → List ℕ → Option Body
body_of library name = option_map (λ b. b.body) (find (λ b. bytes_eq b.name name) library.bodies)

abbrev pub program_of : Contents → List ℕ → Option Program
program_of library name = find (λ p. bytes_eq p.name name) library.programs

-- the revision of a change, 0 where there is none
abbrev pub revision_of : Option Change → ℕ
revision_of (Some change) = change.revision
revision_of None = 0

abbrev pub last_change : Contents → List ℕ → ℕ
last_change library name = revision_of (find (λ c. bytes_eq c.name name) library.changes)

abbrev pub changed_of : Contents → List ℕ → Option ℕ
changed_of library name = option_map (λ _. last_change library name) (spec_of library name)

-- the most modules of a library, and the most programs
abbrev pub limit : ℕ
limit = 4096

abbrev pub HaveSameText : Spec → Spec → Type 0
HaveSameText a b = spec_text (seen a) ≡ spec_text (seen b)

abbrev pub with_new_spec : Contents → Spec → Contents
with_new_spec library s = record library { specs = with_spec library.specs s }

-- a specification where one of its module is kept already, or none is: the library with it
abbrev pub entered_by : Contents → Spec → Option Spec → Contents
entered_by library s (Some kept) = library
entered_by library s None = with_new_spec library s

abbrev pub with_entered : Contents → Spec → Contents
with_entered library s = entered_by library s (spec_of library s.name)

-- of each name is kept what was kept before it was entered, or else the specification itself if it has the name
pub record KeepsFirst (before after : Contents) (s : Spec) : Type 0 where
  pub of_name : (name : List ℕ) → spec_of after name ≡ option_or (spec_of before name) (find (λ t. bytes_eq t.name name) (s ∷ []))

-- it may be entered: that which is kept has the same text, or there is room
abbrev pub MayEnter : Contents → Spec → Option Spec → Type 0
MayEnter library s (Some kept) = HaveSameText kept s
MayEnter library s None = length library.specs < limit

-- why it may not: another one of its module is kept, or none is and there is no room
abbrev pub IsDifference : EnterError → Spec → Spec → Type 0
IsDifference error.Differs kept s = HaveSameText kept s → ⊥
IsDifference error.Full kept s = ⊥
IsDifference error.Memory kept s = Unit {0}

-- for programs: there is room, or one of this name is replaced
abbrev pub HasRoom : {X : Type 0} → ℕ → Option X → Type 0
HasRoom count (Some kept) = Unit {0}
HasRoom count None = count < limit

abbrev pub NotKept : {X : Type 0} → EnterError → ℕ → Option X → Type 0
NotKept error.Differs count kept = ⊥
NotKept error.Full count (Some kept) = ⊥
NotKept error.Full count None = limit ≤ count
NotKept error.Memory count kept = Unit {0}

abbrev pub NotAdded : EnterError → Contents → Type 0
NotAdded e library = NotKept {X = Spec} e (length library.specs) None

abbrev pub NotEntered : EnterError → Contents → Spec → Option Spec → Type 0
NotEntered e library s (Some kept) = IsDifference e kept s
NotEntered e library s None = NotAdded e library

-- a body as it is entered at a revision
abbrev pub checked_at : ℕ → Body → Body
checked_at revision b = record b { checked = revision }

abbrev pub has : Program → List ℕ → Bool
has p module_name = list_any (λ name. bytes_eq name module_name) p.modules

-- the library with a body, and without the programs that have the module
abbrev pub with_body : Contents → List ℕ → Body → Contents
with_body library name b = record library {
  bodies = with_item (λ x. x.name) library.bodies (record { name = name; body = checked_at library.revision b });
  programs = filter (λ p. not (has p name)) library.programs;
}

abbrev pub with_program : Contents → Program → Contents
with_program library p = record library { programs = with_item (λ x. x.name) library.programs p }
