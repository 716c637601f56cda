-- What the objects outside the program tell, and how a call changes it.
use Rattle.std.specs.Prelude.{◌≡◌, ℕ, ◌<◌, ◌≤◌, ◌-◌, ◌^◌, List, [], ◌++◌, take, length, Option, Some, None, ◌⊎◌}
use Rattle.std.specs.Prelude.{bytes_eq, if◌then◌else◌, min, ◌+◌, option_map}

-- a count of 64 bits after one more; it stands still at its type's end
abbrev pub next_count : ℕ → ℕ
next_count n = min (n + 1) (2 ^ 64 - 1)

-- the count rose; one that stands at its type's end is taken to have risen
abbrev pub Rose : ℕ → ℕ → Type 0
Rose before after = after < 2 ^ 64 - 1 → before < after

-- what was written, with these bytes after it, where it is told
unfoldable pub appended : Option (List ℕ) → List ℕ → Option (List ℕ)
appended None bytes = None
appended (Some written) bytes = Some (written ++ bytes)

-- what is left to read, with these bytes before it, where it is told
unfoldable pub preceded : List ℕ → Option (List ℕ) → Option (List ℕ)
preceded bytes None = None
preceded bytes (Some left) = Some (bytes ++ left)

-- where the bytes left are told, there are none
abbrev pub IsAtEnd : Option (List ℕ) → Type 0
IsAtEnd None = Unit {0}
IsAtEnd (Some left) = left ≡ []

-- the first n of these bytes were appended, and no others
pub record GrewWithin (old new : Option (List ℕ)) (bytes : List ℕ) : Type 0 where
  pub count : ℕ
  pub within : count ≤ length bytes
  pub grew : new ≡ appended old (take count bytes)

-- the content of each file by its name
abbrev pub Files : Type 0
Files = List ℕ → Option (List ℕ)

-- the files with these bytes under the name
abbrev pub with_file : Files → List ℕ → List ℕ → Files
with_file files name bytes = λ n. if bytes_eq name n then Some bytes else files n

-- a put under the name failed: its file is as before, or holds some first bytes of the new content
pub record IsTorn (old new : Option Files) (name bytes : List ℕ) : Type 0 where
  pub torn : (new ≡ old) ⊎ ((n : ℕ) × (new ≡ option_map (λ files. with_file files name (take n bytes)) old))
