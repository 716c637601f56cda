-- Tests on types: whether two are the same, and whether an object of one may stand where the other is wanted.
use Rattle.std.specs.Prelude.{ℕ, Bool, true, false, ◌&&◌, ◌||◌, ◌==◌, List, bytes_eq}
use Rattle.std.specs.Bool.{beq}
use Rattle.std.specs.Ordering.{int_eq}
use Rattle.clu_base.specs.declared.constants.Const.{Const}
use Rattle.clu_base.specs.declared.constants.Const.TheVariants as constant
use Rattle.clu_types.specs.CluType.{CluType, null_type, bool_type, int_type, char_type, string_type, any_type, stream_type, array_of, sequence_of, record_of, struct_of, oneof_of, variant_of, proc_of, iter_of, cluster_of, parameter, CluTypes, no_types, type_and, Fields, no_fields, field_and, Signals, no_signals, signal_and, Actuals, no_actuals, actual_type, actual_const, actual_param}
use Rattle.clu_layout.specs.Objects.{Routine, module_routine, operation_of, force_of}

abbrev pub same_const : Const → Const → Bool
same_const constant.Null constant.Null = true
same_const (constant.Bool a) (constant.Bool b) = beq a b
same_const (constant.Int a) (constant.Int b) = int_eq a b
same_const (constant.Char a) (constant.Char b) = a == b
same_const (constant.Str a) (constant.Str b) = bytes_eq a b
same_const _ _ = false

abbrev mutual
  pub same_type : CluType → CluType → Bool
  same_type null_type null_type = true
  same_type bool_type bool_type = true
  same_type int_type int_type = true
  same_type char_type char_type = true
  same_type string_type string_type = true
  same_type any_type any_type = true
  same_type stream_type stream_type = true
  same_type (array_of t) (array_of u) = same_type t u
  same_type (sequence_of t) (sequence_of u) = same_type t u
  same_type (record_of fs) (record_of gs) = same_fields fs gs
  same_type (struct_of fs) (struct_of gs) = same_fields fs gs
  same_type (oneof_of fs) (oneof_of gs) = same_fields fs gs
  same_type (variant_of fs) (variant_of gs) = same_fields fs gs
  same_type (proc_of ts rs ss) (proc_of ts' rs' ss') = same_types ts ts' && same_types rs rs' && same_signals ss ss'
  same_type (iter_of ts rs ss) (iter_of ts' rs' ss') = same_types ts ts' && same_types rs rs' && same_signals ss ss'
  same_type (cluster_of c xs) (cluster_of d ys) = bytes_eq c d && same_actuals xs ys
  same_type (parameter m) (parameter n) = m == n
  same_type _ _ = false

  pub same_types : CluTypes → CluTypes → Bool
  same_types no_types no_types = true
  same_types (type_and t ts) (type_and u us) = same_type t u && same_types ts us
  same_types _ _ = false

  pub same_fields : Fields → Fields → Bool
  same_fields no_fields no_fields = true
  same_fields (field_and s t fs) (field_and s' t' gs) = bytes_eq s s' && same_type t t' && same_fields fs gs
  same_fields _ _ = false

  pub same_signals : Signals → Signals → Bool
  same_signals no_signals no_signals = true
  same_signals (signal_and s ts ss) (signal_and s' ts' ss') = bytes_eq s s' && same_types ts ts' && same_signals ss ss'
  same_signals _ _ = false

  pub same_actuals : Actuals → Actuals → Bool
  same_actuals no_actuals no_actuals = true
  same_actuals (actual_type t xs) (actual_type u ys) = same_type t u && same_actuals xs ys
  same_actuals (actual_const c xs) (actual_const d ys) = same_const c d && same_actuals xs ys
  same_actuals (actual_param m xs) (actual_param n ys) = m == n && same_actuals xs ys
  same_actuals _ _ = false

-- the same instance, operation of a type, or force of a type
abbrev pub same_routine : Routine → Routine → Bool
same_routine (module_routine m xs) (module_routine n ys) = bytes_eq m n && same_actuals xs ys
same_routine (operation_of t f) (operation_of u g) = same_type t u && bytes_eq f g
same_routine (force_of t) (force_of u) = same_type t u
same_routine _ _ = false

abbrev pub has_signal : List ℕ → CluTypes → Signals → Bool
has_signal name objects no_signals = false
has_signal name objects (signal_and n os rest) = (bytes_eq n name && same_types os objects) || has_signal name objects rest

abbrev pub are_among : Signals → Signals → Bool
are_among no_signals many = true
are_among (signal_and n os rest) many = has_signal n os many && are_among rest many

-- both are proctypes, or both itertypes, that differ only in that the second has more signals
abbrev pub has_more_signals : CluType → CluType → Bool
has_more_signals (proc_of ts rs few) (proc_of ts' rs' many) = same_types ts ts' && same_types rs rs' && are_among few many
has_more_signals (iter_of ts rs few) (iter_of ts' rs' many) = same_types ts ts' && same_types rs rs' && are_among few many
has_more_signals _ _ = false

abbrev pub is_any : CluType → Bool
is_any any_type = true
is_any _ = false

abbrev pub is_routine_type : CluType → Bool
is_routine_type (proc_of ts rs ss) = true
is_routine_type (iter_of ts rs ss) = true
is_routine_type _ = false

-- the first type is included in the second
abbrev pub fits : CluType → CluType → Bool
fits own wanted = same_type own wanted || is_any wanted || has_more_signals own wanted

-- as many types as are wanted, each of which is included in the one at its place
abbrev pub all_fit : CluTypes → CluTypes → Bool
all_fit no_types no_types = true
all_fit (type_and t ts) (type_and u us) = fits t u && all_fit ts us
all_fit _ _ = false
