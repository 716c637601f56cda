-- Rows of operations, each a name and its code, and what it is that a row is right.
use Rattle.std.specs.Prelude.{◌≡◌, ℕ, ◌==◌, List, [], ◌∷◌, Option, None, Some}
use Rattle.clu_types.specs.CluType.{CluType, CluTypes, Fields, Signals, no_types}
use Rattle.clu_builtin.specs.Operation.{Operation}
use Rattle.clu_builtin.specs.Table.{operation}
use Rattle.clu_layout.specs.Objects.{Cell, Object, Routine}
use Rattle.clu_layout.specs.SameType.{same_routine}
use Rattle.clu_layout.specs.Actions.{World}
use Rattle.clu_layout.specs.Primitive.{prim}
use Rattle.clu_wir.specs.Plain.{Expr}
use Rattle.clu_wir.specs.Value.{View, value}
use Rattle.clu_representation.specs.Layout.{Image, Layout}
use Rattle.clu_representation.specs.Held.{Heap}
use Rattle.clu_representation.specs.Shown.{type_of_field}
use Rattle.clu_representation.specs.Stored.{Seen}
use Rattle.laws_operations.specs.Comes.{Comes, InSlots, Untouched}

pub record Row : Type 0 where
  pub name : List ℕ
  pub code : Expr

abbrev pub row : List ℕ → Expr → Row
row name code = record { name = name; code = code }

-- formals and results of an operation, if there is one
abbrev pub args_of : Option Operation → CluTypes
args_of None = no_types
args_of (Some h) = h.args

abbrev pub results_of : Option Operation → CluTypes
results_of None = no_types
results_of (Some h) = h.results

-- each routine has a descriptor of its own
abbrev pub Placed : Image → Type 0
Placed image = (f g : Routine) → (image.place f == image.place g) ≡ same_routine f g

-- What code stands in: each routine has a descriptor of its own, code finds the words that the layout says, and each mutable object
-- lies in the words of its cell.
pub record Around (image : Image) (map : Layout) (view : View) (cells : List Cell) : Type 0 where
  pub placed : Placed image
  pub seen : Seen map view
  pub heap : Heap image map cells

-- The operation of this name of a type and the code come to the same, whatever the objects are that the slots show: result or
-- exception, and all that is left is untouched.
abbrev pub Right : CluType → Row → Type 0
Right T r = (image : Image) (map : Layout) (view : View) (os : List Object) (w : World) → Around image map view w.cells →
    InSlots image map view (args_of (operation T r.name)) 0 os →
    Comes image map (results_of (operation T r.name)) (Untouched w) (prim T r.name os w) (value view r.code)

-- each row of a table
abbrev pub Each : (Row → Type 0) → List Row → Type 0
Each P [] = Unit {0}
Each P (r ∷ rs) = P r × Each P rs

-- the rows of a selector or tag, of each type made of fields
abbrev pub EachField : (Fields → CluType) → (Fields → List ℕ → List Row) → Type 0
EachField made rows = (fs : Fields) (s : List ℕ) (t : CluType) → type_of_field fs s ≡ Some t → Each (Right (made fs)) (rows fs s)

-- rows of each type made of fields, and of each routine type
abbrev pub OfFields : (Fields → CluType) → List Row → Type 0
OfFields made rows = (fs : Fields) → Each (Right (made fs)) rows

abbrev pub OfRoutines : (CluTypes → CluTypes → Signals → CluType) → List Row → Type 0
OfRoutines made rows = (args results : CluTypes) (signals : Signals) → Each (Right (made args results signals)) rows
