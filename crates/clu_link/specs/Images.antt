-- What an image is when its program starts.
use Rattle.std.specs.Prelude.{◌≡◌, ℕ, List, All}

-- no own variable of these bytes names an object
abbrev pub AreUnset : List ℕ → Type 0
AreUnset bytes = All (λ b. b ≡ 0) bytes
