-- The operations of struct and record. s is a selector, t its type, k the number of selectors. equal, similar and copy of
-- structs, and similar, similar1 and copy of records, are schemes over the selectors.
use Rattle.std.specs.Prelude.{ℕ, List, [], ◌∷◌, ◌++◌, Option, None, Some, if◌then◌else◌, bytes_eq, codes}
use Rattle.std.specs.Option.{option_map}
use Rattle.clu_types.specs.CluType.{Fields, field_and}
use Rattle.clu_layout.specs.Objects.{Object, record_cell}
use Rattle.clu_layout.specs.Actions.{Primitive, gives, gives_nothing, needed, with_one, with_two, with_struct, with_record, changes, new_struct, new_record}
use Rattle.clu_layout.specs.PlainOperations.{Primitives, same_cell}

-- the component of this selector; components stand in the order of selectors
abbrev pub component : Fields → List ℕ → List Object → Option Object
component (field_and name t rest) s (x ∷ xs) = if bytes_eq name s then Some x else component rest s xs
component _ s _ = None

-- the components with another one for this selector
abbrev pub with_component : Fields → List ℕ → Object → List Object → Option (List Object)
with_component (field_and name t rest) s y (x ∷ xs) =
    if bytes_eq name s then Some (y ∷ xs) else option_map (λ ys. x ∷ ys) (with_component rest s y xs)
with_component _ s y _ = None

-- ---- struct

-- get_s | (T): t
abbrev pub struct_get : List ℕ → Primitive
struct_get s os = with_one os (λ a. with_struct a (λ fs xs. needed (component fs s xs) gives))

-- replace_s | (T, t): T | 1 + k words | a new struct with another component
abbrev pub struct_replace : List ℕ → Primitive
struct_replace s os = with_two os (λ a y. with_struct a (λ fs xs. needed (with_component fs s y xs) (new_struct fs)))

abbrev pub struct_selected : List ℕ → Primitives
struct_selected s =
    (codes "get_" ++ s, struct_get s) ∷
    (codes "replace_" ++ s, struct_replace s) ∷
    []

-- ---- record

-- get_s | (T): t
abbrev pub record_get : List ℕ → Primitive
record_get s os = with_one os (λ r. with_record r (λ c fs xs. needed (component fs s xs) gives))

-- set_s | (T, t) | changes the record
abbrev pub record_set : List ℕ → Primitive
record_set s os = with_two os (λ r y. with_record r (λ c fs xs.
    needed (with_component fs s y xs) (λ ys. changes c (record_cell fs ys) gives_nothing)))

-- copy1 | (T): T | 1 + k words | a new record of the same components
abbrev pub record_copy1 : Primitive
record_copy1 os = with_one os (λ r. with_record r (λ c fs xs. new_record fs xs))

abbrev pub record_selected : List ℕ → Primitives
record_selected s =
    (codes "get_" ++ s, record_get s) ∷
    (codes "set_" ++ s, record_set s) ∷
    []

-- equal | (T, T): bool | the same record
abbrev pub record_equal : Primitive
record_equal = same_cell

abbrev pub record_primitives : Primitives
record_primitives =
    (codes "equal", record_equal) ∷
    (codes "copy1", record_copy1) ∷
    []
