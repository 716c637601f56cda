-- The texts of types. Marks stand by their codes: 35 is #, 37 is %, 40 and 41 are ( and ), 44 is a comma, 58 is :,
-- 91 and 93 are [ and ].
use Rattle.std.specs.Prelude.{ℕ, Bool, true, false, List, [], ◌∷◌, ◌++◌, codes, decimal}
use Rattle.clu_types.specs.CluType.{CluType, null_type, bool_type, int_type, char_type, string_type, any_type, stream_type, array_of, sequence_of, record_of, struct_of, oneof_of, variant_of, proc_of, iter_of, cluster_of, parameter, CluTypes, no_types, type_and, Fields, no_fields, field_and, Signals, no_signals, signal_and, Actuals, no_actuals, actual_type, actual_const, actual_param}
use Rattle.clu_types.specs.Arena.{type_at}
use Rattle.clu_types.specs.declared.term.Actual.{Actual}
use Rattle.clu_types.specs.declared.term.Actual.TheVariants as actual
use Rattle.clu_specs.specs.Constants.{constant_text}

-- the word before what a procedure returns, or an iterator yields
abbrev pub results_word : Bool → List ℕ
results_word true = codes "yields("
results_word false = codes "returns("

abbrev mutual
  pub type_text : CluType → List ℕ
  type_text null_type = codes "null"
  type_text bool_type = codes "bool"
  type_text int_type = codes "int"
  type_text char_type = codes "char"
  type_text string_type = codes "string"
  type_text any_type = codes "any"
  type_text stream_type = codes "stream"
  type_text (array_of t) = codes "array[" ++ (type_text t ++ 93 ∷ [])
  type_text (sequence_of t) = codes "sequence[" ++ (type_text t ++ 93 ∷ [])
  type_text (record_of fs) = codes "record[" ++ (fields_text fs ++ 93 ∷ [])
  type_text (struct_of fs) = codes "struct[" ++ (fields_text fs ++ 93 ∷ [])
  type_text (oneof_of fs) = codes "oneof[" ++ (fields_text fs ++ 93 ∷ [])
  type_text (variant_of fs) = codes "variant[" ++ (fields_text fs ++ 93 ∷ [])
  type_text (proc_of args results signals) = codes "proctype" ++ (40 ∷ (types_text args ++ 41 ∷ (closed_text (results_word false) results ++ all_signals_text signals)))
  type_text (iter_of args results signals) = codes "itertype" ++ (40 ∷ (types_text args ++ 41 ∷ (closed_text (results_word true) results ++ all_signals_text signals)))
  type_text (cluster_of name given) = name ++ all_actuals_text given
  type_text (parameter n) = 35 ∷ decimal n

  -- with commas between them
  pub types_text : CluTypes → List ℕ
  types_text no_types = []
  types_text (type_and t ts) = type_text t ++ more_types_text ts

  -- each after a comma
  pub more_types_text : CluTypes → List ℕ
  more_types_text no_types = []
  more_types_text (type_and t ts) = 44 ∷ (type_text t ++ more_types_text ts)

  -- after a word, with a closing parenthesis; nothing where there are none
  pub closed_text : List ℕ → CluTypes → List ℕ
  closed_text word no_types = []
  closed_text word (type_and t ts) = word ++ ((type_text t ++ more_types_text ts) ++ 41 ∷ [])

  pub fields_text : Fields → List ℕ
  fields_text no_fields = []
  fields_text (field_and name t fs) = (name ++ 58 ∷ type_text t) ++ more_fields_text fs

  pub more_fields_text : Fields → List ℕ
  more_fields_text no_fields = []
  more_fields_text (field_and name t fs) = 44 ∷ ((name ++ 58 ∷ type_text t) ++ more_fields_text fs)

  pub more_signals_text : Signals → List ℕ
  more_signals_text no_signals = []
  more_signals_text (signal_and name ts ss) = 44 ∷ ((name ++ closed_text (40 ∷ []) ts) ++ more_signals_text ss)

  pub all_signals_text : Signals → List ℕ
  all_signals_text no_signals = []
  all_signals_text (signal_and name ts ss) = codes "signals(" ++ (((name ++ closed_text (40 ∷ []) ts) ++ more_signals_text ss) ++ 41 ∷ [])

  pub more_actuals_text : Actuals → List ℕ
  more_actuals_text no_actuals = []
  more_actuals_text (actual_type t rest) = 44 ∷ (type_text t ++ more_actuals_text rest)
  more_actuals_text (actual_const c rest) = 44 ∷ (constant_text c ++ more_actuals_text rest)
  more_actuals_text (actual_param n rest) = 44 ∷ ((37 ∷ decimal n) ++ more_actuals_text rest)

  pub all_actuals_text : Actuals → List ℕ
  all_actuals_text no_actuals = []
  all_actuals_text (actual_type t rest) = 91 ∷ ((type_text t ++ more_actuals_text rest) ++ 93 ∷ [])
  all_actuals_text (actual_const c rest) = 91 ∷ ((constant_text c ++ more_actuals_text rest) ++ 93 ∷ [])
  all_actuals_text (actual_param n rest) = 91 ∷ (((37 ∷ decimal n) ++ more_actuals_text rest) ++ 93 ∷ [])

-- what a routine takes, gives and signals
abbrev pub heading_text : Bool → CluTypes → CluTypes → Signals → List ℕ
heading_text iter args results signals = 40 ∷ (types_text args ++ 41 ∷ (closed_text (results_word iter) results ++ all_signals_text signals))

-- an actual parameter
abbrev pub actual_text : List CluType → Actual → List ℕ
actual_text types (actual.Of id) = type_text (type_at types id)
actual_text types (actual.Const c) = constant_text c
actual_text types (actual.ConstParam n) = 37 ∷ decimal n
