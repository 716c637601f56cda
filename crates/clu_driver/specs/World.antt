-- What the outside of a call tells, before and after it.
use Rattle.std.specs.Prelude.{◌≡◌, ℕ, List, Option}
use Rattle.clu_base.specs.Outside.{Files}

-- the input left and the output written, where they are told, and the counts of faults
pub record Streams : Type 0 where
  pub left : Option (List ℕ)
  pub written : Option (List ℕ)
  pub read_faults : ℕ
  pub write_faults : ℕ

-- the files, where they are told, and their count of faults, with the streams
pub record World : Type 0 where
  pub files : Option Files
  pub store_faults : ℕ
  pub streams : Streams

abbrev pub streams_of : Option (List ℕ) → ℕ → Option (List ℕ) → ℕ → Streams
streams_of left read_faults written write_faults =
    record { left = left; written = written; read_faults = read_faults; write_faults = write_faults }

abbrev pub world_of : Option Files → ℕ → Streams → World
world_of files store_faults streams = record { files = files; store_faults = store_faults; streams = streams }

-- no input was taken and no output written
pub record IsUnrun (before after : Streams) : Type 0 where
  pub left : after.left ≡ before.left
  pub written : after.written ≡ before.written

-- no file, no input and no output changed
abbrev pub IsUntouched : World → World → Type 0
IsUntouched before after = (after.files ≡ before.files) × IsUnrun before.streams after.streams
