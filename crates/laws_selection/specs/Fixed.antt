-- What the linker fills in: words and strings of the part of the memory that no step writes.
use Rattle.std.specs.Prelude.{◌≡◌, ℕ, suc, ◌+◌, ◌^◌, ◌<◌, ◌≤◌, List, [], ◌∷◌, length, Some}
use Rattle.std.specs.Int.{w64, w8}
use Rattle.clu_wir.specs.declared.hole.HoleKind.{HoleKind}
use Rattle.clu_wir.specs.declared.hole.HoleKind.TheVariants as kind
use Rattle.rv_machine.specs.State.{State, read_at}
use Rattle.rv_machine.specs.Values.{sum}

-- the word at an address
pub record Word (m : State) (a v : ℕ) : Type 0 where
  pub read : read_at w64 m a ≡ Some v
  pub fixed : a + 8 ≤ m.data_start
  pub small : v < 2 ^ 64

-- words one after the other from an address on
abbrev pub Words : State → ℕ → List ℕ → Type 0
Words m a [] = Unit {0}
Words m a (w ∷ ws) = Word m a w × Words m (a + 8) ws

pub record Byte (m : State) (a v : ℕ) : Type 0 where
  pub read : read_at w8 m a ≡ Some v
  pub fixed : a < m.data_start
  pub small : v < 2 ^ 8

abbrev pub Bytes : State → ℕ → List ℕ → Type 0
Bytes m a [] = Unit {0}
Bytes m a (b ∷ bs) = Byte m a b × Bytes m (suc a) bs

-- a string: the number of its bytes, and these
pub record String (m : State) (a : ℕ) (text : List ℕ) : Type 0 where
  pub size : Word m a (length text)
  pub bytes : Bytes m (a + 8) text

-- What a hole of code gives is the word itself that is asked for, or with the address of the link table the word, or where it is.
abbrev pub Cell : State → ℕ → HoleKind → ℕ → ℕ → Type 0
Cell m table kind.Regions cell v = cell ≡ v
Cell m table kind.Runtime cell v = cell ≡ v
Cell m table kind.Code cell v = cell ≡ v
Cell m table kind.TypeCell cell v = sum cell table ≡ v
Cell m table _ cell v = Word m (sum cell table) v
