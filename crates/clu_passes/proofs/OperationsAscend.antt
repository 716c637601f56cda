-- Components ascend in the headings of built-in operations, if they do in the type that has them.
use Rattle.std.proofs.Common.{◌≡◌, ℕ, Bool, true, false, if◌then◌else◌, List, [], ◌∷◌, ◌++◌, bytes_eq, Option, Some, None, subst}
use Rattle.std.proofs.lemmas.Option.{none-some, same_Some}
use Rattle.clu_types.specs.CluType.{CluType, null_type, bool_type, int_type, char_type, string_type, any_type, stream_type, array_of, sequence_of, record_of, struct_of, oneof_of, variant_of, proc_of, iter_of, cluster_of, parameter, CluTypes, no_types, Fields, no_fields, field_and}
use Rattle.clu_builtin.specs.declared.names.Signal.{Signal}
use Rattle.clu_builtin.specs.declared.names.Signal.TheVariants as signal
use Rattle.clu_builtin.specs.declared.row.Gives.{Gives}
use Rattle.clu_builtin.specs.declared.row.Gives.TheVariants as gives
use Rattle.clu_builtin.specs.declared.row.Raises.{Raises}
use Rattle.clu_builtin.specs.declared.row.Raises.TheVariants as raises
use Rattle.clu_builtin.specs.declared.row.Row.{Row}
use Rattle.clu_builtin.specs.declared.row.Slot.{Slot}
use Rattle.clu_builtin.specs.declared.row.Slot.TheVariants as slot
use Rattle.clu_builtin.specs.declared.row.Takes.{Takes}
use Rattle.clu_builtin.specs.declared.row.Takes.TheVariants as takes
use Rattle.clu_builtin.specs.declared.tables.TheConstants.{NULL, BOOL, INT, CHAR, STRING, ARRAY, SEQUENCE, STREAM, STRUCT, RECORD, STRUCT_SELECTORS, RECORD_SELECTORS, ONEOF_SELECTORS, VARIANT_SELECTORS}
use Rattle.clu_builtin.specs.Names.{op_name}
use Rattle.clu_builtin.specs.Operation.{Operation, one}
use Rattle.clu_builtin.specs.Rows.{slot_type, taken_types, given_types, signal_objects, raised_signals, row_operation, table_of}
use Rattle.clu_builtin.specs.Table.{named, or_else, with_selector, of_selectors, parts_of, operation}
use Rattle.clu_passes.specs.Ascending.{Ascends, TypesAscend, FieldsAscend, SignalsAscend}

pub record HeadingAscends (o : Operation) : Type 0 where
  pub args : TypesAscend o.args
  pub results : TypesAscend o.results
  pub signals : SignalsAscend o.signals

objects_ascend : (s : Signal) → TypesAscend (signal_objects s)
objects_ascend signal.NotPossible = (tt, tt)
objects_ascend _ = tt

raised_ascend : (a : Raises) → SignalsAscend (raised_signals a)
raised_ascend raises.Nothing = tt
raised_ascend (raises.One a) = (objects_ascend a, tt)
raised_ascend (raises.Two a b) = (objects_ascend a, (objects_ascend b, tt))

module _ (T t : CluType) (parts : CluTypes) (whole : Ascends T) (part : Ascends t) where
  slot_ascends : (a : Slot) → Ascends (slot_type T t a)
  slot_ascends slot.Own = whole
  slot_ascends slot.Part = part
  slot_ascends slot.Bool = tt
  slot_ascends slot.Int = tt
  slot_ascends slot.Char = tt
  slot_ascends slot.Str = tt
  slot_ascends slot.Array = part

  taken_ascend : (a : Takes) → TypesAscend (taken_types T t a)
  taken_ascend takes.Nothing = tt
  taken_ascend (takes.One a) = (slot_ascends a, tt)
  taken_ascend (takes.Two a b) = (slot_ascends a, (slot_ascends b, tt))
  taken_ascend (takes.Three a b c) = (slot_ascends a, (slot_ascends b, (slot_ascends c, tt)))

  given_ascend : (a : Gives) → TypesAscend (given_types T t a)
  given_ascend gives.Nothing = tt
  given_ascend (gives.Value a) = (slot_ascends a, tt)
  given_ascend (gives.Yields a) = (slot_ascends a, tt)

  row_ascends : (row : Row) → HeadingAscends (row_operation T t parts row)
  row_ascends row = record { args = taken_ascend row.1; results = given_ascend row.2; signals = raised_ascend row.3 }

  found_ascends : (row : Row) (others : Option Operation) (o : Operation) (b : Bool) → (if b then Some (row_operation T t parts row) else others) ≡ Some o → (others ≡ Some o → HeadingAscends o) → HeadingAscends o
  found_ascends row others o true e more = subst HeadingAscends (same_Some (row_operation T t parts row) o e) (row_ascends row)
  found_ascends row others o false e more = more e

  in_table : (rows : List Row) (name : List ℕ) (o : Operation) → named (table_of T t parts rows) name ≡ Some o → HeadingAscends o
  in_table [] name o e = absurd (none-some o e)
  in_table (row ∷ rows) name o e = found_ascends row (named (table_of T t parts rows) name) o (bytes_eq (op_name row.0) name) e (in_table rows name o)

  in_selectors : (rows : List Row) (selector name : List ℕ) (o : Operation) → named (with_selector selector (table_of T t parts rows)) name ≡ Some o → HeadingAscends o
  in_selectors [] selector name o e = absurd (none-some o e)
  in_selectors (row ∷ rows) selector name o e =
      found_ascends row (named (with_selector selector (table_of T t parts rows)) name) o (bytes_eq (op_name row.0 ++ selector) name) e (in_selectors rows selector name o)

either_ascends : (a b : Option Operation) (o : Operation) → (a ≡ Some o → HeadingAscends o) → (b ≡ Some o → HeadingAscends o) → or_else a b ≡ Some o → HeadingAscends o
either_ascends None b o first second e = second e
either_ascends (Some p) b o first second e = first e

of_fields : (T : CluType) (rows : List Row) → Ascends T → (fields : Fields) → FieldsAscend fields → (name : List ℕ) (o : Operation) → of_selectors (λ t. table_of T t no_types rows) fields name ≡ Some o → HeadingAscends o
of_fields T rows whole no_fields all name o e = absurd (none-some o e)
of_fields T rows whole (field_and selector t others) all name o e =
    either_ascends (named (with_selector selector (table_of T t no_types rows)) name) (of_selectors (λ t. table_of T t no_types rows) others name) o
    (in_selectors T t no_types whole all.1 rows selector name o) (of_fields T rows whole others all.2 name o) e

of_parts : (T : CluType) (selectors rows : List Row) → Ascends T → (fields : Fields) → FieldsAscend fields → (name : List ℕ) (o : Operation)
    → or_else (of_selectors (λ t. table_of T t no_types selectors) fields name) (named (table_of T T (parts_of fields) rows) name) ≡ Some o → HeadingAscends o
of_parts T selectors rows whole fields all name o e =
    either_ascends (of_selectors (λ t. table_of T t no_types selectors) fields name) (named (table_of T T (parts_of fields) rows) name) o
    (of_fields T selectors whole fields all name o) (in_table T T (parts_of fields) whole whole rows name o) e

pub operation_ascends : (T : CluType) → Ascends T → (name : List ℕ) (o : Operation) → operation T name ≡ Some o → HeadingAscends o
operation_ascends null_type up name o e = in_table null_type null_type no_types tt tt NULL name o e
operation_ascends bool_type up name o e = in_table bool_type bool_type no_types tt tt BOOL name o e
operation_ascends int_type up name o e = in_table int_type int_type no_types tt tt INT name o e
operation_ascends char_type up name o e = in_table char_type char_type no_types tt tt CHAR name o e
operation_ascends string_type up name o e = in_table string_type char_type no_types tt tt STRING name o e
operation_ascends any_type up name o e = absurd (none-some o e)
operation_ascends stream_type up name o e = in_table stream_type stream_type no_types tt tt STREAM name o e
operation_ascends (array_of t) up name o e = in_table (array_of t) t (one t) up up ARRAY name o e
operation_ascends (sequence_of t) up name o e = in_table (sequence_of t) t (one t) up up SEQUENCE name o e
operation_ascends (record_of fields) up name o e = of_parts (record_of fields) RECORD_SELECTORS RECORD up fields up name o e
operation_ascends (struct_of fields) up name o e = of_parts (struct_of fields) STRUCT_SELECTORS STRUCT up fields up name o e
operation_ascends (oneof_of fields) up name o e = of_parts (oneof_of fields) ONEOF_SELECTORS STRUCT up fields up name o e
operation_ascends (variant_of fields) up name o e = of_parts (variant_of fields) VARIANT_SELECTORS RECORD up fields up name o e
operation_ascends (proc_of args results signals) up name o e = in_table (proc_of args results signals) (proc_of args results signals) no_types up up NULL name o e
operation_ascends (iter_of args results signals) up name o e = in_table (iter_of args results signals) (iter_of args results signals) no_types up up NULL name o e
operation_ascends (cluster_of its given) up name o e = absurd (none-some o e)
operation_ascends (parameter n) up name o e = absurd (none-some o e)
