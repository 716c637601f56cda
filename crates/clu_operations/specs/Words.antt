-- Names that are kept, and their numbers. A name keeps its number.
use Rattle.std.specs.Prelude.{◌≡◌, ℕ, Bool, List, [], ◌∷◌, ◌++◌, position, slice_get, bytes_eq, if◌then◌else◌, Option, Some, None}
use Rattle.std.specs.List.{list_any, position_or_len}
use Rattle.clu_operations.specs.declared.words.NameId.{NameId}

abbrev pub id_of : Option ℕ → Option NameId
id_of (Some place) = Some (record { 0 = place })
id_of None = None

-- the number of a name, if it is kept
abbrev pub named : List (List ℕ) → List ℕ → Option NameId
named names name = id_of (position (bytes_eq name) names)

-- ---- a name that is kept from now on

abbrev pub is_kept : List (List ℕ) → List ℕ → Bool
is_kept names name = list_any (bytes_eq name) names

-- a new one stands behind the others
abbrev pub with_name : List (List ℕ) → List ℕ → List (List ℕ)
with_name names name = if is_kept names name then names else names ++ name ∷ []

-- the number that it has then
abbrev pub number_with : List (List ℕ) → List ℕ → NameId
number_with names name = record { 0 = position_or_len (bytes_eq name) names }

abbrev pub IsNumber : List (List ℕ) → List (List ℕ) → List ℕ → NameId → Type 0
IsNumber old new name id = (new ≡ with_name old name) × (id ≡ number_with old name)

-- ---- each name stands once

abbrev pub AreOnce : List (List ℕ) → Type 0
AreOnce names = (id : NameId) (name : List ℕ) → slice_get names id.0 ≡ Some name → named names name ≡ Some id
