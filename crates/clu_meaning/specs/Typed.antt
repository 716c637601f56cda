-- That each object in a state fits: its own type is included in the type that is declared where it stands, and its parts
-- fit likewise. Execution asks for no more than that objects are bound so; that all of this is kept is a law.
use Rattle.std.specs.Prelude.{◌≡◌, ℕ, ◌≤◌, Bool, true, false, List, [], ◌∷◌, length, Option, None, Some, slice_get, bytes_eq, if◌then◌else◌}
use Rattle.std.specs.Option.{option_map}
use Rattle.clu_types.specs.CluType.{CluType, Fields, no_fields, field_and, Actuals}
use Rattle.clu_types.specs.Substituted.{substituted}
use Rattle.clu_builtin.specs.Table.{parts_of}
use Rattle.clu_layout.specs.Objects.{Routine, Object, sequence_object, struct_object, oneof_object, routine_object, reference, sealed, Objects, no_objects, object_and, listed, Cell, array_cell, record_cell, variant_cell, cell_type, own_type, own_types}
use Rattle.clu_layout.specs.SameType.{fits, all_fit}
use Rattle.clu_layout.specs.Actions.{has_int_bounds}
use Rattle.clu_layout.specs.Primitive.{same_for_each}
use Rattle.clu_meaning.specs.Programs.{Module, cluster_module, Program}
use Rattle.clu_meaning.specs.State.{Instance, of_routine, own_set_up, Variables, Frame, caller_of, Owns, State}
use Rattle.clu_meaning.specs.Computations.{Ending, returned, signalled, raised, exited, through, Result, normal, ended, out_of_turns}
use Rattle.clu_meaning.specs.Binding.{Running, declared_in, put_in}
use Rattle.clu_meaning.specs.Operations.{defined, headed, module_named}
use Rattle.clu_meaning.specs.Calls.{Round, in_procedure, in_iterator}

-- ---- what is declared

-- of this selector or tag
abbrev pub type_of_selector : Fields → List ℕ → Option CluType
type_of_selector no_fields name = None
type_of_selector (field_and s t rest) name = if bytes_eq s name then Some t else type_of_selector rest name

-- the representation of a cluster instance
abbrev pub representation_of : Actuals → Option Module → Option CluType
representation_of given (Some (cluster_module cluster)) = Some (substituted given cluster.representation)
representation_of given _ = None

-- of a variable of a running routine that isn't own
abbrev pub local_type : Running → ℕ → Option CluType
local_type r n = put_in r (declared_in r.definition.locals n)

-- of an own variable of an instance
abbrev pub own_of_definition : Option Running → ℕ → Option CluType
own_of_definition (Some r) n = put_in r (declared_in r.definition.owns n)
own_of_definition None n = None

abbrev pub own_of_module : Actuals → Option Module → ℕ → Option CluType
own_of_module given (Some (cluster_module cluster)) n = option_map (substituted given) (declared_in cluster.owns n)
own_of_module given _ n = None

abbrev pub own_type_of : Program → Instance → ℕ → Option CluType
own_type_of program (of_routine r) n = own_of_definition (defined program r) n
own_type_of program (own_set_up cluster given) n = own_of_module given (module_named program cluster) n

-- the object's own type is included in what is declared, if anything is
abbrev pub fits_in : Option CluType → Object → Bool
fits_in (Some t) o = fits (own_type o) t
fits_in None o = false

module _ (program : Program) (lawful : Routine → Type 0) (cells : List Cell) where
  -- ---- objects

  abbrev mutual
    pub IsTyped : Object → Type 0
    IsTyped (sequence_object t os) = AreTyped os × (all_fit (own_types (listed os)) (same_for_each t (listed os)) ≡ true)
    -- just the components of its type
    IsTyped (struct_object fs os) = AreTyped os × (all_fit (own_types (listed os)) (parts_of fs) ≡ true)
    -- one of the tags of its type
    IsTyped (oneof_object fs tag o) = IsTyped o × (fits_in (type_of_selector fs tag) o ≡ true)
    -- the heading of the routine that it names
    IsTyped (routine_object r heading) = (headed program r ≡ Some heading) × lawful r
    -- the cell is there and of the type's kind; so all references to it have one type
    IsTyped (reference t c) = option_map cell_type (slice_get cells c) ≡ Some t
    -- the inside is of the cluster's representation
    IsTyped (sealed cluster given o) = IsTyped o × (fits_in (representation_of given (module_named program cluster)) o ≡ true)
    IsTyped _ = Unit {0}

    pub AreTyped : Objects → Type 0
    AreTyped no_objects = Unit {0}
    AreTyped (object_and o os) = IsTyped o × AreTyped os

  abbrev pub AllTyped : List Object → Type 0
  AllTyped [] = Unit {0}
  AllTyped (o ∷ os) = IsTyped o × AllTyped os

  -- ---- cells

  abbrev pub CellFits : Cell → Type 0
  -- low - 1, low and high are ints, and there is room for the elements
  CellFits (array_cell a) =
      AllTyped a.items × (all_fit (own_types a.items) (same_for_each a.element a.items) ≡ true) × (has_int_bounds a ≡ true) × (length a.items ≤ a.room)
  CellFits (record_cell fs os) = AllTyped os × (all_fit (own_types os) (parts_of fs) ≡ true)
  CellFits (variant_cell fs tag o) = IsTyped o × (fits_in (type_of_selector fs tag) o ≡ true)

  -- each of these cells
  abbrev pub EachFits : List Cell → Type 0
  EachFits [] = Unit {0}
  EachFits (cell ∷ rest) = CellFits cell × EachFits rest

  -- ---- variables

  abbrev pub SlotFits : Option CluType → Option Object → Type 0
  SlotFits t (Some o) = IsTyped o × (fits_in t o ≡ true)
  SlotFits t None = Unit {0}

  abbrev pub VariablesFit : (ℕ → Option CluType) → Variables → Type 0
  VariablesFit types variables = (n : ℕ) → SlotFits (types n) (variables n)

  -- those of the running routine, and of the routines whose loops called it
  abbrev pub FrameFits : Round → Frame → Type 0
  FrameFits (in_procedure r) frame = VariablesFit (local_type r) frame.variables
  FrameFits (in_iterator r body declared xs caller) frame = VariablesFit (local_type r) frame.variables × FrameFits caller (caller_of frame)

  abbrev pub OwnsFit : Owns → Type 0
  OwnsFit owns = (i : Instance) → VariablesFit (own_type_of program i) (owns.variables i)

  -- ---- endings: the objects that they carry

  abbrev pub EndingFits : Ending → Type 0
  EndingFits (returned os) = AllTyped os
  EndingFits (signalled name os) = AllTyped os
  EndingFits (raised name os) = AllTyped os
  EndingFits (exited name os) = AllTyped os
  EndingFits (through e) = EndingFits e
  EndingFits _ = Unit {0}

-- ---- the state, where statements stand at this place

pub record Typed (program : Program) (lawful : Routine → Type 0) (round : Round) (st : State) : Type 0 where
  pub cells : EachFits program lawful st.world.cells st.world.cells
  pub frame : FrameFits program lawful st.world.cells round st.frame
  pub owns : OwnsFit program lawful st.world.cells st.owns

-- the state at the end of what began in this procedure
abbrev pub EndsTyped : {A : Type 0} → Program → Running → Result A → Type 0
EndsTyped program r (normal a turns st) = Typed program (λ r. Unit {0}) (in_procedure r) st
EndsTyped program r (ended e turns st) = Typed program (λ r. Unit {0}) (in_procedure r) st
EndsTyped program r (out_of_turns st) = Unit {0}
