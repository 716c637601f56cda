-- Operations that belong to a selector: its name stands after theirs, as in get_size.
use Rattle.std.specs.Prelude.{◌≡◌, ℕ, List, length, take}

-- the first name is the second one, or stands before a selector in it
abbrev pub begins : List ℕ → List ℕ → Type 0
begins front name = take (length front) name ≡ front
