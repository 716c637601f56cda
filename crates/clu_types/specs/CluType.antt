-- Types as finite terms. Two types are equal where the terms are.
use Rattle.std.specs.Prelude.{ℕ, List}
use Rattle.clu_base.specs.declared.constants.Const.{Const}

mutual
  -- a type
  pub data CluType : Type 0 where
    null_type bool_type int_type char_type string_type any_type stream_type : CluType
    array_of sequence_of : CluType → CluType
    record_of struct_of oneof_of variant_of : Fields → CluType
    proc_of iter_of : CluTypes → CluTypes → Signals → CluType
    cluster_of : List ℕ → Actuals → CluType
    parameter : ℕ → CluType

  -- the types of arguments, results or a signal's objects, in order
  pub data CluTypes : Type 0 where
    no_types : CluTypes
    type_and : CluType → CluTypes → CluTypes

  -- selectors with their types
  pub data Fields : Type 0 where
    no_fields : Fields
    field_and : List ℕ → CluType → Fields → Fields

  -- signals with the types of their objects
  pub data Signals : Type 0 where
    no_signals : Signals
    signal_and : List ℕ → CluTypes → Signals → Signals

  -- actual parameters: types, constants, and constant parameters by number
  pub data Actuals : Type 0 where
    no_actuals : Actuals
    actual_type : CluType → Actuals → Actuals
    actual_const : Const → Actuals → Actuals
    actual_param : ℕ → Actuals → Actuals
