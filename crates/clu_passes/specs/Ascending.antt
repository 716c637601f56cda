-- Types of which the components ascend by name, and so in each type of which they are made. Equal neighbours ascend too.
use Rattle.std.specs.Prelude.{◌≡◌, ℕ, false, List, [], ◌∷◌, Option, Some, None}
use Rattle.clu_types.specs.CluType.{CluType, null_type, bool_type, int_type, char_type, string_type, any_type, stream_type, array_of, sequence_of, record_of, struct_of, oneof_of, variant_of, proc_of, iter_of, cluster_of, parameter, CluTypes, no_types, type_and, Fields, no_fields, field_and, Signals, no_signals, signal_and, Actuals, no_actuals, actual_type, actual_const, actual_param}
use Rattle.clu_meaning.specs.Settling.{comes_after}
use Rattle.clu_checking.specs.Specifications.{Heading, Form, of_routine, of_cluster, Specification}

-- the name doesn't come after the first of these
abbrev pub ComesFirst : List ℕ → Fields → Type 0
ComesFirst name no_fields = Unit {0}
ComesFirst name (field_and other t others) = comes_after name other ≡ false

abbrev mutual
  pub Ascends : CluType → Type 0
  Ascends null_type = Unit {0}
  Ascends bool_type = Unit {0}
  Ascends int_type = Unit {0}
  Ascends char_type = Unit {0}
  Ascends string_type = Unit {0}
  Ascends any_type = Unit {0}
  Ascends stream_type = Unit {0}
  Ascends (array_of t) = Ascends t
  Ascends (sequence_of t) = Ascends t
  Ascends (record_of fields) = FieldsAscend fields
  Ascends (struct_of fields) = FieldsAscend fields
  Ascends (oneof_of fields) = FieldsAscend fields
  Ascends (variant_of fields) = FieldsAscend fields
  Ascends (proc_of args results signals) = TypesAscend args × TypesAscend results × SignalsAscend signals
  Ascends (iter_of args results signals) = TypesAscend args × TypesAscend results × SignalsAscend signals
  Ascends (cluster_of name given) = ActualsAscend given
  Ascends (parameter n) = Unit {0}

  pub TypesAscend : CluTypes → Type 0
  TypesAscend no_types = Unit {0}
  TypesAscend (type_and t types) = Ascends t × TypesAscend types

  pub FieldsAscend : Fields → Type 0
  FieldsAscend no_fields = Unit {0}
  FieldsAscend (field_and name t fields) = ComesFirst name fields × Ascends t × FieldsAscend fields

  pub SignalsAscend : Signals → Type 0
  SignalsAscend no_signals = Unit {0}
  SignalsAscend (signal_and name types signals) = TypesAscend types × SignalsAscend signals

  pub ActualsAscend : Actuals → Type 0
  ActualsAscend no_actuals = Unit {0}
  ActualsAscend (actual_type t given) = Ascends t × ActualsAscend given
  ActualsAscend (actual_const c given) = ActualsAscend given
  ActualsAscend (actual_param n given) = ActualsAscend given

-- a type, if there is one
abbrev pub AscendsIf : Option CluType → Type 0
AscendsIf (Some t) = Ascends t
AscendsIf None = Unit {0}

-- ---- in what modules show of their routines

abbrev pub HeadingsAscend : List Heading → Type 0
HeadingsAscend [] = Unit {0}
HeadingsAscend (h ∷ headings) = AscendsIf h.type × HeadingsAscend headings

abbrev pub FormAscends : Form → Type 0
FormAscends (of_routine h) = AscendsIf h.type
FormAscends (of_cluster demands headings) = HeadingsAscend headings

abbrev pub SpecificationsAscend : List Specification → Type 0
SpecificationsAscend [] = Unit {0}
SpecificationsAscend (s ∷ specifications) = FormAscends s.form × SpecificationsAscend specifications
