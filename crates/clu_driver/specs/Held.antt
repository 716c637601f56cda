-- The library of a file, and why it has none.
use Rattle.std.specs.Prelude.{◌≡◌, ℕ, List, length, Option, Some, None, Result, Ok, Err}
use Rattle.clu_base.specs.Outside.{Files}
use Rattle.clu_library.specs.Contents.{Contents, nothing}
use Rattle.clu_library.specs.LibraryReading.{SeenLibrary, library_read, library_seen}
use Rattle.clu_specs.specs.Reading.{offset_of}
use Rattle.clu_driver.specs.Found.{IsUnder, NotHad}
use Rattle.clu_outcome.specs.declared.outcome.Outcome.{Outcome}
use Rattle.clu_outcome.specs.declared.outcome.Outcome.TheVariants as outcome

-- the library of what is under a name, or the offset of the first bad field; no file is an empty library
abbrev pub library_of : Option (List ℕ) → Result SeenLibrary ℕ
library_of None = Ok (library_seen nothing)
library_of (Some bytes) = offset_of (length bytes) (library_read bytes)

abbrev pub IsLibraryOf : Option (List ℕ) → Contents → Type 0
IsLibraryOf content library = library_of content ≡ Ok (library_seen library)

abbrev pub IsLibraryFile : Option (List ℕ) → Type 0
IsLibraryFile content = (library : Contents) × IsLibraryOf content library

-- where files are told, this is the library under the name
abbrev pub HasLibrary : Option Files → List ℕ → Contents → Type 0
HasLibrary files name library = IsUnder files name (λ content. IsLibraryOf content library)

-- the first bad field of what is under a name
abbrev pub IsBadAt : ℕ → Option (List ℕ) → Type 0
IsBadAt at content = library_of content ≡ Err at

-- why no library was read from what is under a name: it is none, or memory was refused
abbrev pub IsUnreadable : Outcome → Option (List ℕ) → Type 0
IsUnreadable (outcome.LibraryBad at) content = IsBadAt at content
IsUnreadable outcome.Memory content = Unit {0}
IsUnreadable _ content = ⊥

-- the same of a file, or why it is not known what it has
abbrev pub NotLibrary : Outcome → List ℕ → Option Files → ℕ → ℕ → Type 0
NotLibrary (outcome.LibraryBad at) name files faults faults' = IsUnder files name (λ content. IsBadAt at content)
NotLibrary how name files faults faults' = NotHad how name faults faults'
