-- How the modules on which a body rests are found.
use Rattle.std.specs.Prelude.{ℕ, List, [], ◌∷◌, ◌++◌, ◌||◌, cond, find, Option, Some, None}
use Rattle.std.specs.List.{list_any}
use Rattle.std.specs.Str.{bytes_eq}
use Rattle.clu_types.specs.declared.spec.Spec.{Spec}
use Rattle.clu_library.specs.Resting.{names_of}

-- the list with a name at its end, unless it is `own` or there already
abbrev pub with_name : List ℕ → List (List ℕ) → List ℕ → List (List ℕ)
with_name own found name = cond (bytes_eq name own || list_any (bytes_eq name) found) found (found ++ name ∷ [])

-- the specification of a module, if there is one
abbrev pub spec_named : List Spec → Option (List ℕ) → Option Spec
spec_named specs None = None
spec_named specs (Some name) = find (λ s. bytes_eq s.name name) specs

-- what it names
abbrev pub named_at : List Spec → Option (List ℕ) → List (List ℕ)
named_at specs name = names_of (spec_named specs name)
