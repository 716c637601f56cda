-- What is asked of lists of names, selectors and objects.
use Rattle.std.specs.Prelude.{ℕ, suc, Bool, false, ◌||◌, List, [], ◌∷◌, Option, None, Some, if◌then◌else◌, bytes_eq}
use Rattle.clu_types.specs.CluType.{Fields, no_fields, field_and}
use Rattle.clu_layout.specs.Objects.{Object}

abbrev pub is_among : List (List ℕ) → List ℕ → Bool
is_among [] name = false
is_among (n ∷ ns) name = bytes_eq n name || is_among ns name

-- how many names come before this one; all of them if it isn't among them
abbrev pub names_before : List (List ℕ) → List ℕ → ℕ
names_before [] name = 0
names_before (n ∷ ns) name = if bytes_eq n name then 0 else suc (names_before ns name)

-- how many selectors or tags there are
abbrev pub selectors : Fields → ℕ
selectors no_fields = 0
selectors (field_and name t rest) = suc (selectors rest)

-- an object and those behind it, if none is missing
abbrev pub in_front : Option Object → Option (List Object) → Option (List Object)
in_front (Some o) (Some os) = Some (o ∷ os)
in_front _ _ = None
