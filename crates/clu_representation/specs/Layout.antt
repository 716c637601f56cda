-- The words of the store and whose each is. Words lie at addresses that are multiples of 8.
use Rattle.std.specs.Prelude.{◌≡◌, ℕ, ◌==◌, Bool, if◌then◌else◌, List}
use Rattle.clu_types.specs.CluType.{CluType, Actuals}
use Rattle.clu_layout.specs.Objects.{Routine}

-- what the linker knows: the number of each type, the descriptor of each routine, and the representation of each cluster instance
pub record Image : Type 0 where
  pub number : CluType → ℕ
  pub place : Routine → ℕ
  pub representation : List ℕ → Actuals → CluType

-- whose a word of the store is: nobody's yet; of an object that never changes, or of the image; of the mutable object in a cell
pub data Owner : Type 0 where
  nobody fixed : Owner
  of_cell : ℕ → Owner

-- the words of the store, whose each is, and the address and the type of the mutable object in each cell
pub record Layout : Type 0 where
  pub word : ℕ → ℕ
  pub owner : ℕ → Owner
  pub address : ℕ → ℕ
  pub kind : ℕ → CluType

-- a word that never changes
pub record Fixed (map : Layout) (at value : ℕ) : Type 0 where
  pub whose : map.owner at ≡ fixed
  pub is : map.word at ≡ value

-- the word that shows a mutable object of a type is its address
pub record IsReference (map : Layout) (t : CluType) (c w : ℕ) : Type 0 where
  pub at : w ≡ map.address c
  pub whose : map.owner w ≡ of_cell c
  pub type_is : map.kind c ≡ t

-- ---- what stays

-- fixed words stay, and cells keep their addresses and types
pub record Extends (a b : Layout) : Type 0 where
  pub fixed_stay : (at v : ℕ) → Fixed a at v → Fixed b at v
  pub cells_stay : (t : CluType) (c w : ℕ) → IsReference a t c w → IsReference b t c w

-- what is said of one cell's words in a layout holds in another
pub record SameCell (c : ℕ) (a b : Layout) : Type 0 where
  pub at : b.address c ≡ a.address c
  pub kind : b.kind c ≡ a.kind c
  pub words : (n : ℕ) → a.owner n ≡ of_cell c → (b.owner n ≡ of_cell c) × (b.word n ≡ a.word n)

-- ---- changes

-- a word is put
unfoldable pub put : (ℕ → ℕ) → ℕ → ℕ → ℕ → ℕ
put word at v = λ n. if n == at then v else word n

abbrev pub with_word : Layout → ℕ → ℕ → Layout
with_word map at v = record { word = put map.word at v; owner = map.owner; address = map.address; kind = map.kind }

-- words become somebody's
abbrev pub with_owner : Layout → (ℕ → Bool) → (ℕ → Owner) → Layout
with_owner map mine owner = record { word = map.word; owner = λ n. if mine n then owner n else map.owner n; address = map.address; kind = map.kind }

-- a cell has its mutable object, of a type, at an address
abbrev pub with_cell_at : Layout → CluType → ℕ → ℕ → Layout
with_cell_at map t c a = record {
  word = map.word;
  owner = map.owner;
  address = λ n. if n == c then a else map.address n;
  kind = λ n. if n == c then t else map.kind n;
}
