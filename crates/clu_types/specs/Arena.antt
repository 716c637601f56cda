-- An arena is the list of its terms. The parts of a term are the numbers of terms before it.
use Rattle.std.specs.Prelude.{◌≡◌, ℕ, ◌<◌, List, [], ◌∷◌, ◌++◌, length, fold, slice_index_or}
use Rattle.clu_types.specs.CluType.{CluType, null_type, bool_type, int_type, char_type, string_type, any_type, stream_type, array_of, sequence_of, record_of, struct_of, oneof_of, variant_of, proc_of, iter_of, cluster_of, parameter, CluTypes, no_types, type_and, Fields, no_fields, field_and, Signals, no_signals, signal_and, Actuals, no_actuals, actual_type, actual_const, actual_param}
use Rattle.clu_types.specs.declared.term.TypeId.{TypeId}
use Rattle.clu_types.specs.declared.term.Field.{Field}
use Rattle.clu_types.specs.declared.term.Exception.{Exception}
use Rattle.clu_types.specs.declared.term.Heading.{Heading}
use Rattle.clu_types.specs.declared.term.Actual.{Actual}
use Rattle.clu_types.specs.declared.term.Actual.TheVariants as actual
use Rattle.clu_types.specs.declared.term.Term.{Term}
use Rattle.clu_types.specs.declared.term.Term.TheVariants as term

-- the type of a number, where the types before it are known
abbrev pub type_at : List CluType → TypeId → CluType
type_at types id = slice_index_or types id.0 null_type

abbrev pub types_at : List CluType → List TypeId → CluTypes
types_at types [] = no_types
types_at types (id ∷ ids) = type_and (type_at types id) (types_at types ids)

abbrev pub fields_at : List CluType → List Field → Fields
fields_at types [] = no_fields
fields_at types (f ∷ fs) = field_and f.name (type_at types f.of) (fields_at types fs)

abbrev pub signals_at : List CluType → List Exception → Signals
signals_at types [] = no_signals
signals_at types (s ∷ ss) = signal_and s.name (types_at types s.objects) (signals_at types ss)

abbrev pub actual_at : List CluType → Actual → Actuals → Actuals
actual_at types (actual.Of id) rest = actual_type (type_at types id) rest
actual_at types (actual.Const c) rest = actual_const c rest
actual_at types (actual.ConstParam n) rest = actual_param n rest

abbrev pub actuals_at : List CluType → List Actual → Actuals
actuals_at types [] = no_actuals
actuals_at types (a ∷ rest) = actual_at types a (actuals_at types rest)

-- the type of a term, where the types of its parts are known
abbrev pub type_of : List CluType → Term → CluType
type_of types term.Null = null_type
type_of types term.Bool = bool_type
type_of types term.Int = int_type
type_of types term.Char = char_type
type_of types term.Str = string_type
type_of types term.Any = any_type
type_of types term.Stream = stream_type
type_of types (term.Array of) = array_of (type_at types of)
type_of types (term.Sequence of) = sequence_of (type_at types of)
type_of types (term.Record fs) = record_of (fields_at types fs)
type_of types (term.Struct fs) = struct_of (fields_at types fs)
type_of types (term.Oneof fs) = oneof_of (fields_at types fs)
type_of types (term.Variant fs) = variant_of (fields_at types fs)
type_of types (term.Proc h) = proc_of (types_at types h.args) (types_at types h.results) (signals_at types h.signals)
type_of types (term.Iter h) = iter_of (types_at types h.args) (types_at types h.results) (signals_at types h.signals)
type_of types (term.Cluster name given) = cluster_of name (actuals_at types given)
type_of types (term.Param n) = parameter n

-- the types of the terms, each read among those before it
unfoldable pub types_of : List Term → List CluType
types_of terms = fold (λ types t. types ++ type_of types t ∷ []) [] terms

-- the numbers of the parts are below n
abbrev pub AreBelow : ℕ → List TypeId → Type 0
AreBelow n [] = Unit {0}
AreBelow n (id ∷ ids) = (id.0 < n) × AreBelow n ids

abbrev pub FieldsBelow : ℕ → List Field → Type 0
FieldsBelow n [] = Unit {0}
FieldsBelow n (f ∷ fs) = (f.of.0 < n) × FieldsBelow n fs

abbrev pub SignalsBelow : ℕ → List Exception → Type 0
SignalsBelow n [] = Unit {0}
SignalsBelow n (s ∷ ss) = AreBelow n s.objects × SignalsBelow n ss

abbrev pub ActualBelow : ℕ → Actual → Type 0
ActualBelow n (actual.Of id) = id.0 < n
ActualBelow n (actual.Const c) = Unit {0}
ActualBelow n (actual.ConstParam p) = Unit {0}

abbrev pub ActualsBelow : ℕ → List Actual → Type 0
ActualsBelow n [] = Unit {0}
ActualsBelow n (a ∷ rest) = ActualBelow n a × ActualsBelow n rest

abbrev pub HeadingBelow : ℕ → Heading → Type 0
HeadingBelow n h = AreBelow n h.args × AreBelow n h.results × SignalsBelow n h.signals

abbrev pub PartsBelow : ℕ → Term → Type 0
PartsBelow n term.Null = Unit {0}
PartsBelow n term.Bool = Unit {0}
PartsBelow n term.Int = Unit {0}
PartsBelow n term.Char = Unit {0}
PartsBelow n term.Str = Unit {0}
PartsBelow n term.Any = Unit {0}
PartsBelow n term.Stream = Unit {0}
PartsBelow n (term.Array of) = of.0 < n
PartsBelow n (term.Sequence of) = of.0 < n
PartsBelow n (term.Record fs) = FieldsBelow n fs
PartsBelow n (term.Struct fs) = FieldsBelow n fs
PartsBelow n (term.Oneof fs) = FieldsBelow n fs
PartsBelow n (term.Variant fs) = FieldsBelow n fs
PartsBelow n (term.Proc h) = HeadingBelow n h
PartsBelow n (term.Iter h) = HeadingBelow n h
PartsBelow n (term.Cluster name given) = ActualsBelow n given
PartsBelow n (term.Param p) = Unit {0}

-- parts come before the whole, and no term stands twice
pub record IsArena (terms : List Term) : Type 0 where
  pub parts : (i : ℕ) (d : Term) → i < length terms → PartsBelow i (slice_index_or terms i d)
  pub once : (i j : ℕ) (d : Term) → i < length terms → j < length terms → slice_index_or terms i d ≡ slice_index_or terms j d → i ≡ j

-- the terms stay, and more may have come after them
abbrev pub Grows : List Term → List Term → Type 0
Grows old new = (more : List Term) × (new ≡ old ++ more)
