-- What a row of the code's table says of the type that has the operation.
use Rattle.std.specs.Prelude.{ℕ, Bool, true, false, List, [], ◌∷◌, ◌++◌, Option, None, Some, if◌then◌else◌, codes}
use Rattle.std.specs.Str.{bytes_eq}
use Rattle.std.specs.Option.{option_map}
use Rattle.clu_types.specs.Arena.{type_at, types_at}
use Rattle.clu_types.specs.declared.term.TypeId.{TypeId}
use Rattle.clu_types.specs.declared.term.Field.{Field}
use Rattle.clu_types.specs.CluType.{CluType, bool_type, int_type, char_type, string_type, array_of, CluTypes, no_types, Signals, no_signals, signal_and}
use Rattle.clu_builtin.specs.declared.row.Slot.{Slot}
use Rattle.clu_builtin.specs.declared.row.Slot.TheVariants as slot
use Rattle.clu_builtin.specs.declared.row.Takes.{Takes}
use Rattle.clu_builtin.specs.declared.row.Takes.TheVariants as takes
use Rattle.clu_builtin.specs.declared.row.Gives.{Gives}
use Rattle.clu_builtin.specs.declared.row.Gives.TheVariants as gives
use Rattle.clu_builtin.specs.declared.row.Raises.{Raises}
use Rattle.clu_builtin.specs.declared.row.Raises.TheVariants as raises
use Rattle.clu_builtin.specs.declared.row.Needs.{Needs}
use Rattle.clu_builtin.specs.declared.row.Needs.TheVariants as needs
use Rattle.clu_builtin.specs.declared.row.Row.{Row}
use Rattle.clu_builtin.specs.declared.names.Signal.{Signal}
use Rattle.clu_builtin.specs.declared.names.Signal.TheVariants as signal
use Rattle.clu_builtin.specs.Names.{op_name, signal_name}
use Rattle.clu_builtin.specs.Operation.{Needed, Operation, one, two, three, comparing, copying, asking}
use Rattle.clu_builtin.specs.Table.{Table}

-- T is the type that has the operation, t its element or component type
abbrev pub slot_type : CluType → CluType → Slot → CluType
slot_type T t slot.Own = T
slot_type T t slot.Part = t
slot_type T t slot.Bool = bool_type
slot_type T t slot.Int = int_type
slot_type T t slot.Char = char_type
slot_type T t slot.Str = string_type
slot_type T t slot.Array = array_of t

abbrev pub taken_types : CluType → CluType → Takes → CluTypes
taken_types T t takes.Nothing = no_types
taken_types T t (takes.One a) = one (slot_type T t a)
taken_types T t (takes.Two a b) = two (slot_type T t a) (slot_type T t b)
taken_types T t (takes.Three a b c) = three (slot_type T t a) (slot_type T t b) (slot_type T t c)

abbrev pub given_types : CluType → CluType → Gives → CluTypes
given_types T t gives.Nothing = no_types
given_types T t (gives.Value a) = one (slot_type T t a)
given_types T t (gives.Yields a) = one (slot_type T t a)

abbrev pub is_iter : Gives → Bool
is_iter gives.Nothing = false
is_iter (gives.Value a) = false
is_iter (gives.Yields a) = true

abbrev pub signal_objects : Signal → CluTypes
signal_objects signal.BadFormat = no_types
signal_objects signal.Bounds = no_types
signal_objects signal.EndOfFile = no_types
signal_objects signal.IllegalChar = no_types
signal_objects signal.NegativeExponent = no_types
signal_objects signal.NegativeSize = no_types
signal_objects signal.NotPossible = one string_type
signal_objects signal.Overflow = no_types
signal_objects signal.WrongTag = no_types
signal_objects signal.ZeroDivide = no_types

abbrev pub raised : Signal → Signals → Signals
raised s rest = signal_and (signal_name s) (signal_objects s) rest

abbrev pub raised_signals : Raises → Signals
raised_signals raises.Nothing = no_signals
raised_signals (raises.One a) = raised a no_signals
raised_signals (raises.Two a b) = raised a (raised b no_signals)

-- what needs ask of a type
abbrev pub need_name : Needs → List ℕ
need_name needs.Nothing = []
need_name needs.Equal = codes "equal"
need_name needs.Similar = codes "similar"
need_name needs.Copy = codes "copy"

abbrev pub need_type : Needs → CluType → CluType
need_type needs.Nothing = comparing
need_type needs.Equal = comparing
need_type needs.Similar = comparing
need_type needs.Copy = copying

abbrev pub needs_of : Needs → CluTypes → List Needed
needs_of needs.Nothing parts = []
needs_of needs.Equal parts = asking (need_name needs.Equal) (need_type needs.Equal) parts
needs_of needs.Similar parts = asking (need_name needs.Similar) (need_type needs.Similar) parts
needs_of needs.Copy parts = asking (need_name needs.Copy) (need_type needs.Copy) parts

abbrev pub row_operation : CluType → CluType → CluTypes → Row → Operation
row_operation T t parts row = record {
  iter = is_iter row.2;
  args = taken_types T t row.1;
  results = given_types T t row.2;
  signals = raised_signals row.3;
  needs = needs_of row.4 parts;
}

abbrev pub row_entry : CluType → CluType → CluTypes → Row → List ℕ × Operation
row_entry T t parts row = (op_name row.0, row_operation T t parts row)

abbrev pub table_of : CluType → CluType → CluTypes → List Row → Table
table_of T t parts [] = []
table_of T t parts (row ∷ rows) = row_entry T t parts row ∷ table_of T t parts rows

-- the row of this name
abbrev pub row_named : List Row → List ℕ → Option Row
row_named [] op = None
row_named (row ∷ rows) op = if bytes_eq (op_name row.0) op then Some row else row_named rows op

-- the row whose name stands before this selector's
abbrev pub row_before : List Row → List ℕ → List ℕ → Option Row
row_before [] selector op = None
row_before (row ∷ rows) selector op = if bytes_eq (op_name row.0 ++ selector) op then Some row else row_before rows selector op

-- the row for the first selector that has one, with the selector's type
abbrev pub chosen : Option Row → TypeId → Option (Row × TypeId) → Option (Row × TypeId)
chosen None id others = others
chosen (Some row) id others = Some (row, id)

abbrev pub row_selected : List Row → List Field → List ℕ → Option (Row × TypeId)
row_selected rows [] op = None
row_selected rows (f ∷ fs) op = chosen (row_before rows f.name op) f.of (row_selected rows fs op)

-- the operation of a row that was found, for the type `own`
abbrev pub table_operation : List CluType → TypeId → TypeId → List TypeId → Option Row → Option Operation
table_operation types own part parts found = option_map (row_operation (type_at types own) (type_at types part) (types_at types parts)) found

-- the operation of a selector, or else of the table
abbrev pub parts_operation : List CluType → TypeId → Option (Row × TypeId) → List TypeId → List Row → List ℕ → Option Operation
parts_operation types own None parts rows op = table_operation types own own parts (row_named rows op)
parts_operation types own (Some c) parts rows op = Some (row_operation (type_at types own) (type_at types c.1) no_types c.0)
