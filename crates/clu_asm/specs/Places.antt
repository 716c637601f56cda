-- Where a byte first stands in a text, and the parts of the text before and after it.

use Rattle.std.specs.Prelude.{◌≡◌, ℕ, suc, ◌+◌, ◌==◌, if◌then◌else◌, List, [], ◌∷◌, ◌++◌, take, drop, length}

-- how many bytes stand before the first such byte
unfoldable pub place : ℕ → List ℕ → ℕ
place mark [] = 0
place mark (b ∷ rest) = if b == mark then 0 else suc (place mark rest)

abbrev pub before : ℕ → List ℕ → List ℕ
before mark text = take (place mark text) text

abbrev pub after : ℕ → List ℕ → List ℕ
after mark text = drop (place mark text + 1) text

-- no such byte stands in the text
abbrev pub IsFree : ℕ → List ℕ → Type 0
IsFree mark text = place mark text ≡ length text

-- the text begins so
abbrev pub IsFront : List ℕ → List ℕ → Type 0
IsFront front text = (rest : List ℕ) × (text ≡ front ++ rest)
