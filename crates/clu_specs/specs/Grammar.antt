-- What the texts are of: names, numbers, constants and types of the grammar in docs/formats.md.
use Rattle.std.specs.Prelude.{◌≡◌, ℕ, ◌<◌, ◌≤◌, ◌^◌, ◌⊎◌, ℤ, pos, negsuc, true, false, List, [], ◌∷◌, length, codes, None}
use Rattle.std.specs.Str.{bytes_eq}
use Rattle.clu_base.specs.declared.constants.Const.{Const}
use Rattle.clu_base.specs.declared.constants.Const.TheVariants as const
use Rattle.clu_types.specs.CluType.{CluType, null_type, bool_type, int_type, char_type, string_type, any_type, stream_type, array_of, sequence_of, record_of, struct_of, oneof_of, variant_of, proc_of, iter_of, cluster_of, parameter, CluTypes, no_types, type_and, Fields, no_fields, field_and, Signals, no_signals, signal_and, Actuals, no_actuals, actual_type, actual_const, actual_param}
use Rattle.clu_specs.specs.declared.scope.Sort.{Sort}
use Rattle.clu_specs.specs.declared.scope.Sort.TheVariants as sort
use Rattle.clu_specs.specs.declared.scope.Scope.{Scope}
use Rattle.clu_specs.specs.Names.{word_len, is_named, is_reserved, is_before}
use Rattle.clu_specs.specs.Keywords.{keyword_of}
use Rattle.clu_specs.specs.Scopes.{names, any_scope, scope_of}
use Rattle.clu_specs.specs.Seen.{Demanded, Operation, Shape, routine, cluster, Specification, Used, a_module, an_operation, own_set_up, force_of}

-- a name of at most so many bytes
pub record IsName (limit : ℕ) (name : List ℕ) : Type 0 where
  pub begins : is_named name ≡ true
  pub goes_on : word_len name ≡ length name
  pub short : length name ≤ limit
  pub free : is_reserved name ≡ false

-- the number of a parameter of the sort
pub record IsParameter (scope : Scope) (of : Sort) (n : ℕ) : Type 0 where
  pub named : names scope of n ≡ true
  pub small : n ≤ 4294967295

abbrev pub AreBytes : List ℕ → Type 0
AreBytes [] = Unit {0}
AreBytes (b ∷ bytes) = (b < 256) × AreBytes bytes

abbrev pub IsInteger : ℤ → Type 0
IsInteger (pos n) = n < 2 ^ 63
IsInteger (negsuc n) = n < 2 ^ 63

abbrev pub IsConstant : Const → Type 0
IsConstant const.Null = Unit {0}
IsConstant (const.Bool b) = Unit {0}
IsConstant (const.Int n) = IsInteger n
IsConstant (const.Char b) = b < 256
IsConstant (const.Str bytes) = AreBytes bytes

-- there is a selector
abbrev pub HasFields : Fields → Type 0
HasFields no_fields = ⊥
HasFields (field_and name t fs) = Unit {0}

module _ (scope : Scope) where
  abbrev mutual
    pub IsType : CluType → Type 0
    IsType null_type = Unit {0}
    IsType bool_type = Unit {0}
    IsType int_type = Unit {0}
    IsType char_type = Unit {0}
    IsType string_type = Unit {0}
    IsType any_type = Unit {0}
    IsType stream_type = Unit {0}
    IsType (array_of t) = IsType t
    IsType (sequence_of t) = IsType t
    IsType (record_of fs) = HasFields fs × AreFields [] fs
    IsType (struct_of fs) = HasFields fs × AreFields [] fs
    IsType (oneof_of fs) = HasFields fs × AreFields [] fs
    IsType (variant_of fs) = HasFields fs × AreFields [] fs
    IsType (proc_of args results signals) = AreTypes args × AreTypes results × AreSignals [] signals
    IsType (iter_of args results signals) = AreTypes args × AreTypes results × AreSignals [] signals
    IsType (cluster_of name given) = IsName 200 name × (keyword_of name ≡ None) × AreActuals given
    IsType (parameter n) = IsParameter scope sort.Type n

    pub AreTypes : CluTypes → Type 0
    AreTypes no_types = Unit {0}
    AreTypes (type_and t ts) = IsType t × AreTypes ts

    -- in ascending order, after that of the name before
    pub AreFields : List ℕ → Fields → Type 0
    AreFields before no_fields = Unit {0}
    AreFields before (field_and name t fs) = IsName 200 name × (is_before before name ≡ true) × IsType t × AreFields name fs

    pub AreSignals : List ℕ → Signals → Type 0
    AreSignals before no_signals = Unit {0}
    AreSignals before (signal_and name ts ss) = IsName 200 name × (bytes_eq name (codes "failure") ≡ false) × (is_before before name ≡ true) × AreTypes ts × AreSignals name ss

    pub AreActuals : Actuals → Type 0
    AreActuals no_actuals = Unit {0}
    AreActuals (actual_type t rest) = IsType t × AreActuals rest
    AreActuals (actual_const c rest) = IsConstant c × AreActuals rest
    AreActuals (actual_param n rest) = IsParameter scope sort.Constant n × AreActuals rest

abbrev pub IsUse : Used → Type 0
IsUse (a_module name given) = IsType any_scope (cluster_of name given)
IsUse (an_operation t name) = IsType any_scope t × IsName 204 name
IsUse (own_set_up t) = IsType any_scope t
IsUse (force_of t) = IsType any_scope t

-- demands after that of a parameter and a name, in ascending order
abbrev pub AreDemands : Scope → ℕ → List ℕ → List Demanded → Type 0
AreDemands scope param name [] = Unit {0}
AreDemands scope param name (d ∷ ds) =
    IsParameter scope sort.Type d.param × IsName 200 d.op × ((param < d.param) ⊎ ((param ≡ d.param) × (is_before name d.op ≡ true))) × IsType scope d.wanted
    × AreDemands scope d.param d.op ds

abbrev pub IsOperation : Scope → Operation → Type 0
IsOperation scope op = AreTypes scope op.args × AreTypes scope op.results × AreSignals scope [] op.signals × AreDemands scope 0 [] op.demands

-- operations after one of this name, in ascending order
abbrev pub AreOperations : Scope → List ℕ → List Operation → Type 0
AreOperations scope name [] = Unit {0}
AreOperations scope name (op ∷ ops) = IsName 200 op.name × (is_before name op.name ≡ true) × IsOperation scope op × AreOperations scope op.name ops

abbrev pub IsShape : Scope → List ℕ → Shape → Type 0
IsShape scope name (routine op) = (op.name ≡ name) × IsOperation scope op
IsShape scope name (cluster demands ops) = AreDemands scope 0 [] demands × (0 < length ops) × AreOperations scope [] ops

pub record IsSpecification (s : Specification) : Type 0 where
  pub named : IsName 200 s.name
  pub other : bytes_eq s.name (codes "stream") ≡ false
  pub few : length s.kinds ≤ 4294967295
  pub shaped : IsShape (scope_of s.kinds) s.name s.shape
