-- Components and tags of types, found by their names.
use Rattle.std.specs.Prelude.{ℕ, ◌-◌, nat_lt, length, Bool, true, false, is_some, if◌then◌else◌, bytes_eq, List, [], ◌∷◌, slice_get, Option, Some, None}
use Rattle.std.specs.List.Sorted.{IsSortedBy}
use Rattle.std.specs.Ordering.{is_lt, nat_cmp}
use Rattle.std.specs.Cmp.Lexicographic.{slice_cmp}
use Rattle.clu_types.specs.declared.term.TypeId.{TypeId}
use Rattle.clu_types.specs.declared.term.Field.{Field}
use Rattle.clu_types.specs.declared.term.Term.{Term}
use Rattle.clu_types.specs.declared.term.Term.TheVariants as term
use Rattle.clu_settle.specs.Lists.{field_before}

-- the type of the first of this name
abbrev pub component_type : List Field → List ℕ → Option TypeId
component_type [] name = None
component_type (field ∷ fields) name = if bytes_eq field.name name then Some field.of else component_type fields name

abbrev pub is_selector_of : List Field → List ℕ → Bool
is_selector_of fields name = is_some (component_type fields name)

-- the name of a field comes before this one
abbrev pub is_below : List ℕ → Field → Bool
is_below name field = is_lt (slice_cmp nat_cmp field.name name)

-- the type of a field, if it has this name
abbrev pub type_if_named : Option Field → List ℕ → Option TypeId
type_if_named (Some field) name = if bytes_eq field.name name then Some field.of else None
type_if_named None name = None

-- of so many some are left, where each name of these nodes takes one
abbrev pub leaves_some : (ℕ → List (List ℕ)) → ℕ → List ℕ → Bool
leaves_some names left [] = nat_lt 0 left
leaves_some names left (c ∷ cs) = leaves_some names (left - length (names c)) cs

-- ---- of a type

-- the components of a record or struct
abbrev pub components_of : Term → Option (List Field)
components_of (term.Record fields) = Some fields
components_of (term.Struct fields) = Some fields
components_of _ = None

-- the type of the elements of an array or sequence
abbrev pub element_of : Term → Option TypeId
element_of (term.Array of) = Some of
element_of (term.Sequence of) = Some of
element_of _ = None

abbrev pub is_array : Term → Bool
is_array (term.Array of) = true
is_array _ = false

-- components and tags
abbrev pub fields_of : Term → List Field
fields_of (term.Record fields) = fields
fields_of (term.Struct fields) = fields
fields_of (term.Oneof fields) = fields
fields_of (term.Variant fields) = fields
fields_of _ = []

abbrev pub fields_in : Option Term → List Field
fields_in (Some its) = fields_of its
fields_in None = []

-- ---- in ascending order by their names

abbrev pub AreAscending : List Field → Type 0
AreAscending fields = IsSortedBy field_before fields
