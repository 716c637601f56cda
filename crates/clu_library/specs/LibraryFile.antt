-- The bytes of a library file, version 2.
use Rattle.std.specs.Prelude.{◌≡◌, ◌≢◌, ◌⊎◌, ℕ, min, List, [], ◌∷◌, ◌++◌, length, take, codes, Option, Some, None}
use Rattle.std.specs.List.{flat_map}
use Rattle.clu_types.specs.declared.spec.Spec.{Spec}
use Rattle.clu_specs.specs.Seen.{seen, spec_text}
use Rattle.clu_format.specs.Fields.{count_bytes, text16_bytes, text64_bytes}
use Rattle.clu_object.specs.ObjectFile.{number_bytes, list_bytes, object_bytes}
use Rattle.clu_image.specs.ImageFile.{image_bytes, IsFileOf}
use Rattle.clu_library.specs.Contents.{Contents, body_of, last_change, limit}
use Rattle.clu_library.specs.declared.body.Body.{Body}
use Rattle.clu_library.specs.declared.program.Program.{Program}

-- names after their count
abbrev pub list_of_names : List (List ℕ) → List ℕ
list_of_names names = list_bytes text16_bytes names

-- the names of a body: all, or those that are listed
abbrev pub names_bytes : Option (List (List ℕ)) → List ℕ
names_bytes None = 0 ∷ []
names_bytes (Some names) = (1 ∷ []) ++ list_of_names names

abbrev pub body_bytes : Body → List ℕ
body_bytes b = (1 ∷ []) ++ text64_bytes b.text ++ number_bytes b.checked ++ names_bytes b.names ++ text64_bytes (object_bytes b.object)

-- a body, if there is one
abbrev pub kept_bytes : Option Body → List ℕ
kept_bytes None = 0 ∷ []
kept_bytes (Some b) = body_bytes b

unfoldable pub module_bytes : Contents → Spec → List ℕ
module_bytes library s =
    text16_bytes s.name ++ text64_bytes (spec_text (seen s)) ++ number_bytes (last_change library s.name) ++ kept_bytes (body_of library s.name)

-- a program with a file of its image
abbrev pub program_with : List ℕ → Program → List ℕ
program_with image p = text16_bytes p.name ++ text16_bytes p.start ++ list_of_names p.modules ++ text64_bytes image

unfoldable pub program_bytes : Program → List ℕ
program_bytes p = program_with (image_bytes p.image) p

unfoldable pub start_bytes : ℕ → List ℕ
start_bytes revision = codes "CLUL" ++ number_bytes 2 ++ number_bytes revision

abbrev pub head_bytes : Contents → List ℕ
head_bytes library = start_bytes library.revision ++ number_bytes (min (length library.specs) limit) ++ count_bytes (length library.programs)

-- a library with the bytes of its programs; it has at most 4,096 modules, and of more the first ones would be written
abbrev pub library_with : List ℕ → Contents → List ℕ
library_with programs library = head_bytes library ++ flat_map (module_bytes library) (take limit library.specs) ++ programs

abbrev pub library_bytes : Contents → List ℕ
library_bytes library = library_with (flat_map program_bytes library.programs) library

-- Files that are read.

-- programs one after the other, each with a file of its image, of either version
abbrev pub AreFilesOf : List Program → List ℕ → Type 0
AreFilesOf [] bytes = bytes ≡ []
AreFilesOf (p ∷ programs) bytes = (image : List ℕ) × (rest : List ℕ) × IsFileOf image p.image × (bytes ≡ program_with image p ++ rest) × AreFilesOf programs rest

abbrev pub IsFirst : List ℕ → Type 0
IsFirst bytes = (rest : List ℕ) × (bytes ≡ codes "CLUL" ++ (number_bytes 1 ++ rest))

-- a file of version 2 of a library
pub record IsSecond (bytes : List ℕ) (library : Contents) : Type 0 where
  pub programs : List ℕ
  pub are_files : AreFilesOf library.programs programs
  pub is : bytes ≡ library_with programs library

-- each program has a fixed part, as no image of version 1 has
abbrev pub HaveFixed : List Program → Type 0
HaveFixed [] = Unit {0}
HaveFixed (p ∷ programs) = (p.image.fixed ≢ []) × HaveFixed programs

-- the file is of version 2, and the images in it are
pub record IsPresent (bytes : List ℕ) (library : Contents) : Type 0 where
  pub second : IsFirst bytes → ⊥
  pub fixed : HaveFixed library.programs

-- the bytes are of version 1, or a file of the library
abbrev pub IsFile : List ℕ → Contents → Type 0
IsFile bytes library = IsFirst bytes ⊎ IsSecond bytes library
