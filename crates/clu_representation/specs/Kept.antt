-- What the laws say of words that are put and handed out.
use Rattle.std.specs.Prelude.{◌≡◌, ℕ, ◌+◌, ◌*◌, ◌<◌, ℤ, List, [], ◌∷◌, ◌++◌, length, Some, slice_get, slice_set, ◌↔◌, Bool, true}
use Rattle.clu_types.specs.CluType.{CluType, Fields}
use Rattle.clu_layout.specs.Actions.{has_int_bounds}
use Rattle.clu_layout.specs.Objects.{Array, Cell, Object, array_cell, record_cell, variant_cell}
use Rattle.clu_layout.specs.RecordOperations.{with_component}
use Rattle.clu_representation.specs.Layout.{Extends, Image, IsReference, Layout, Owner, SameCell, nobody, with_owner, with_word}
use Rattle.clu_representation.specs.Shown.{At, IsInt, place_of_field, type_of_field}
use Rattle.clu_word_meaning.specs.Words.{Linked, Slots, view}
use Rattle.clu_word_meaning.specs.World.{World}
use Rattle.clu_representation.specs.Stored.{Seen, Stored}
use Rattle.clu_representation.specs.Held.{Heap, Holds, IsArray, distance}

-- words of nobody become somebody's: what was shown is shown, and each cell's words stay
abbrev pub HandedOut : Type 0
HandedOut = (map : Layout) (mine : ℕ → Bool) (owner : ℕ → Owner) → ((n : ℕ) → mine n ≡ true → map.owner n ≡ nobody) →
    Extends map (with_owner map mine owner) × ((c : ℕ) → SameCell c map (with_owner map mine owner))

-- a cell becomes another, and the words of all others stay
abbrev pub OneChanged : Type 0
OneChanged = (image : Image) (a b : Layout) (cells : List Cell) (c : ℕ) (cell : Cell) → Extends a b → ((d : ℕ) → (c ≡ d → ⊥) → SameCell d a b) → Holds image b c cell → Heap image a cells →
    Heap image b (slice_set cells c cell)

-- a cell more
abbrev pub OneAdded : Type 0
OneAdded = (image : Image) (a b : Layout) (cells : List Cell) (cell : Cell) → Extends a b → ((d : ℕ) → (length cells ≡ d → ⊥) → SameCell d a b) → Holds image b (length cells) cell → Heap image a cells →
    Heap image b (cells ++ cell ∷ [])

-- a record gets another component: the word that shows it is put in its place
abbrev pub ComponentPut : Type 0
ComponentPut = (image : Image) (map : Layout) (cells : List Cell) (c : ℕ) (fs : Fields) (os ys : List Object) (s : List ℕ) (y : Object) (t : CluType) (v : ℕ) →
    Heap image map cells → slice_get cells c ≡ Some (record_cell fs os) → with_component fs s y os ≡ Some ys → type_of_field fs s ≡ Some t → At image map t y v →
    Heap image (with_word map (map.address c + 8 + 8 * place_of_field fs s) v) (slice_set cells c (record_cell fs ys))

-- a variant gets another tag and value
abbrev pub VariantPut : Type 0
VariantPut = (image : Image) (map : Layout) (cells : List Cell) (c : ℕ) (fs : Fields) (tag s : List ℕ) (o y : Object) (t : CluType) (v : ℕ) →
    Heap image map cells → slice_get cells c ≡ Some (variant_cell fs tag o) → type_of_field fs s ≡ Some t → At image map t y v →
    Heap image (with_word (with_word map (map.address c) (place_of_field fs s)) (map.address c + 8) v) (slice_set cells c (variant_cell fs s y))

-- an array gets another element
abbrev pub ElementPut : Type 0
ElementPut = (image : Image) (map : Layout) (cells : List Cell) (c : ℕ) (a : Array) (h : IsArray image map c a) (i : ℕ) (o : Object) (v : ℕ) →
    Heap image map cells → i < length a.items → At image map a.element o v →
    Heap image (with_word map (h.block + distance h.first i a.room) v) (slice_set cells c (array_cell (record a { items = slice_set a.items i o })))

-- an array gets another low bound
abbrev pub LowPut : Type 0
LowPut = (image : Image) (map : Layout) (cells : List Cell) (c : ℕ) (a : Array) (low : ℤ) (v : ℕ) →
    Heap image map cells → slice_get cells c ≡ Some (array_cell a) → IsInt low v → has_int_bounds (record a { low = low }) ≡ true →
    Heap image (with_word map (map.address c) v) (slice_set cells c (array_cell (record a { low = low })))

-- ---- what stays, what is found, and what tells objects apart

abbrev pub ShownStays : Type 0
ShownStays = (image : Image) (a b : Layout) → Extends a b → (t : CluType) (o : Object) (w : ℕ) → At image a t o w → At image b t o w

abbrev pub FoundAsStored : Type 0
FoundAsStored = (map : Layout) (w : World) (l : Linked) (slots : Slots) → Stored map w → Seen map (view l slots w)

abbrev pub IntsApart : Type 0
IntsApart = (m n : ℤ) (w v : ℕ) → IsInt m w → IsInt n v → (w ≡ v) ↔ (m ≡ n)

abbrev pub CellsApart : Type 0
CellsApart = (map : Layout) (s t : CluType) (c d w v : ℕ) → IsReference map s c w → IsReference map t d v → (w ≡ v) ↔ (c ≡ d)
