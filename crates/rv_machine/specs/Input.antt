-- The input of the program, which comes in pieces: bytes that the machine keeps, and those that the
-- source has left.
use Rattle.std.specs.Prelude.{◌≡◌, ℕ, Bool, if◌then◌else◌, List, ◌++◌, Option, unwrap_or}

-- the bytes that the machine keeps, and whether it met the end of the source
pub record Kept : Type 0 where
  pub bytes : List ℕ
  pub at_end : Bool

-- the bytes that the program can still be given. A source tells those that it has left, or it doesn't:
-- `more` is then what it goes on to give.
abbrev pub input_left : Kept → Option (List ℕ) → List ℕ → List ℕ
input_left kept left more = if kept.at_end then kept.bytes else kept.bytes ++ unwrap_or left more

-- no byte was given to the program: whatever input it may have now, it had before
abbrev pub SameInput : Kept → Option (List ℕ) → Kept → Option (List ℕ) → Type 0
SameInput old left new left' = (more' : List ℕ) → (more : List ℕ) × (input_left old left more ≡ input_left new left' more')
