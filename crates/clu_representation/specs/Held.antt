-- The words of mutable objects. A cell has its words whole: no word is of two cells, and none that never changes is of one.
use Rattle.std.specs.Prelude.{◌≡◌, ℕ, ◌+◌, ◌-◌, ◌*◌, ◌%◌, ◌<◌, ◌≤◌, true, List, [], ◌∷◌, length, Option, None, Some, slice_get}
use Rattle.clu_types.specs.CluType.{CluType, array_of, record_of, variant_of, Fields, no_fields, field_and}
use Rattle.clu_layout.specs.Actions.{has_int_bounds}
use Rattle.clu_layout.specs.Objects.{Object, Array, Cell, array_cell, record_cell, variant_cell}
use Rattle.clu_representation.specs.Layout.{Image, Layout, of_cell}
use Rattle.clu_representation.specs.Shown.{At, IsInt, place_of_field, type_of_field}

-- a word of a cell that shows an object at a name of a type
pub record Cellular (image : Image) (map : Layout) (c : ℕ) (t : CluType) (o : Object) (at : ℕ) : Type 0 where
  pub whose : map.owner at ≡ of_cell c
  pub shown : At image map t o (map.word at)

-- a word of a cell that is a number
pub record Own (map : Layout) (c at value : ℕ) : Type 0 where
  pub whose : map.owner at ≡ of_cell c
  pub is : map.word at ≡ value

-- how many bytes an element lies after the front of the circular room, from the room's first element on
abbrev pub distance : ℕ → ℕ → ℕ → ℕ
distance first i room = 8 * ((first + i) % room)

-- An array has six words: its low bound, its size, the room for elements, the place in the room of the first element, the
-- address of the room, which lies after them, and one that is not used. Its bounds are ints.
pub record IsArray (image : Image) (map : Layout) (c : ℕ) (a : Array) : Type 0 where
  pub type_is : map.kind c ≡ array_of a.element
  pub low : ℕ
  pub low_is : IsInt a.low low
  pub holds_low : Own map c (map.address c) low
  pub size : Own map c (map.address c + 8) (length a.items)
  pub room : Own map c (map.address c + 16) a.room
  pub first : ℕ
  pub holds_first : Own map c (map.address c + 24) first
  pub first_inside : first ≤ a.room - 1
  pub block : ℕ
  pub holds_block : Own map c (map.address c + 32) block
  pub behind : 0 < a.room → map.address c + 48 ≤ block
  pub enough : length a.items ≤ a.room
  pub bounds : has_int_bounds a ≡ true
  pub items : (i : ℕ) (o : Object) → slice_get a.items i ≡ Some o → Cellular image map c a.element o (block + distance first i a.room)
  pub whole_room : (i : ℕ) → i < a.room → map.owner (block + 8 * i) ≡ of_cell c

-- the components of a record, from an address on
abbrev pub Components : Image → Layout → ℕ → Fields → List Object → ℕ → Type 0
Components image map c no_fields [] at = Unit {0}
Components image map c (field_and s t fs) (o ∷ os) at = Cellular image map c t o at × Components image map c fs os (at + 8)
Components image map c _ _ at = ⊥

abbrev pub CellularIf : Image → Layout → ℕ → Option CluType → Object → ℕ → Type 0
CellularIf image map c None o at = ⊥
CellularIf image map c (Some t) o at = Cellular image map c t o at

-- the words of a cell hold its mutable object
abbrev pub Holds : Image → Layout → ℕ → Cell → Type 0
Holds image map c (array_cell a) = IsArray image map c a
Holds image map c (record_cell fs os) = (map.kind c ≡ record_of fs) × (map.owner (map.address c) ≡ of_cell c) × Components image map c fs os (map.address c + 8)
Holds image map c (variant_cell fs tag o) =
    (map.kind c ≡ variant_of fs) × Own map c (map.address c) (place_of_field fs tag) × CellularIf image map c (type_of_field fs tag) o (map.address c + 8)

-- each mutable object lies in the words of its cell
abbrev pub Heap : Image → Layout → List Cell → Type 0
Heap image map cells = (c : ℕ) (cell : Cell) → slice_get cells c ≡ Some cell → Holds image map c cell
