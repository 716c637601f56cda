-- Types read from their texts, each over a reader of the types in it. Marks stand by their codes: 35 is #, 34 is ",
-- 37 is %, 39 is ', 40 and 41 are ( and ), 44 is a comma, 45 is -, 58 is :, 91 and 93 are [ and ], 114, 115 and 121
-- are the first letters of returns, signals and yields.
use Rattle.std.specs.Prelude.{ℕ, zero, suc, Bool, true, false, not, ◌&&◌, ◌==◌, if◌then◌else◌, List, [], ◌∷◌, length, codes, Option, Some, None, Result, Ok, Err}
use Rattle.std.specs.Char.{is_ascii_digit}
use Rattle.std.specs.Str.{bytes_eq}
use Rattle.clu_base.specs.declared.constants.Const.{Const}
use Rattle.clu_base.specs.declared.constants.Const.TheVariants as const
use Rattle.clu_types.specs.CluType.{CluType, null_type, bool_type, int_type, char_type, string_type, any_type, stream_type, array_of, sequence_of, record_of, struct_of, oneof_of, variant_of, proc_of, iter_of, cluster_of, parameter, CluTypes, no_types, type_and, Fields, no_fields, field_and, Signals, no_signals, signal_and, Actuals, no_actuals, actual_type, actual_const, actual_param}
use Rattle.clu_specs.specs.declared.keywords.Simple.{Simple}
use Rattle.clu_specs.specs.declared.keywords.Simple.TheVariants as simple
use Rattle.clu_specs.specs.declared.keywords.Listing.{Listing}
use Rattle.clu_specs.specs.declared.keywords.Listing.TheVariants as listing
use Rattle.clu_specs.specs.declared.keywords.Selecting.{Selecting}
use Rattle.clu_specs.specs.declared.keywords.Selecting.TheVariants as selecting
use Rattle.clu_specs.specs.declared.keywords.Keyword.{Keyword}
use Rattle.clu_specs.specs.declared.keywords.Keyword.TheVariants as keyword
use Rattle.clu_specs.specs.declared.actuals.Lead.{Lead}
use Rattle.clu_specs.specs.declared.actuals.Lead.TheVariants as lead
use Rattle.clu_specs.specs.declared.scope.Sort.TheVariants as sort
use Rattle.clu_specs.specs.declared.scope.Scope.{Scope}
use Rattle.clu_specs.specs.Reading.{◌>>=◌, Read, literal_at, behind, begins_with, several, end_at}
use Rattle.clu_specs.specs.Names.{name_after, has_later, first_word, behind_word}
use Rattle.clu_specs.specs.Keywords.{keyword_of}
use Rattle.clu_specs.specs.Constants.{word_constant, byte_at, string_at, integer_at}
use Rattle.clu_specs.specs.Scopes.{parameter_at, any_scope}

abbrev pub Reader : Type 0 → Type 0
Reader A = List ℕ → Read A

-- one list after another
abbrev pub types_joined : CluTypes → CluTypes → CluTypes
types_joined no_types more = more
types_joined (type_and t ts) more = type_and t (types_joined ts more)

abbrev pub fields_joined : Fields → Fields → Fields
fields_joined no_fields more = more
fields_joined (field_and name t fs) more = field_and name t (fields_joined fs more)

abbrev pub signals_joined : Signals → Signals → Signals
signals_joined no_signals more = more
signals_joined (signal_and name ts ss) more = signal_and name ts (signals_joined ss more)

abbrev pub actuals_joined : Actuals → Actuals → Actuals
actuals_joined no_actuals more = more
actuals_joined (actual_type t rest) more = actual_type t (actuals_joined rest more)
actuals_joined (actual_const c rest) more = actual_const c (actuals_joined rest more)
actuals_joined (actual_param n rest) more = actual_param n (actuals_joined rest more)

abbrev pub simple_type : Simple → CluType
simple_type simple.Null = null_type
simple_type simple.Bool = bool_type
simple_type simple.Int = int_type
simple_type simple.Char = char_type
simple_type simple.Str = string_type
simple_type simple.Any = any_type
simple_type simple.Stream = stream_type

abbrev pub listing_type : Listing → CluType → CluType
listing_type listing.Array t = array_of t
listing_type listing.Sequence t = sequence_of t

abbrev pub selecting_type : Selecting → Fields → CluType
selecting_type selecting.Record fs = record_of fs
selecting_type selecting.Struct fs = struct_of fs
selecting_type selecting.Oneof fs = oneof_of fs
selecting_type selecting.Variant fs = variant_of fs

abbrev pub routine_type : Bool → CluTypes → CluTypes → Signals → CluType
routine_type true args results signals = iter_of args results signals
routine_type false args results signals = proc_of args results signals

-- what a comma is followed by, where an item of this name may have a successor
abbrev pub next_after : List ℕ → List ℕ → Option (List ℕ)
next_after name bytes = if has_later name then behind 44 bytes else None

-- a signal's name, which is not failure
unfoldable pub signal_name_after : List ℕ → List ℕ → Read (List ℕ)
signal_name_after previous bytes = name_after previous 200 bytes >>= λ x. if bytes_eq x.0 (codes "failure") then Err (length x.1) else Ok x

module _ (part : Reader CluType) where
  abbrev pub types_step : CluTypes → List ℕ → Read CluTypes
  types_step made bytes = part bytes >>= λ t. Ok (types_joined made (type_and t.0 no_types), t.1)

  -- types with commas between them
  unfoldable pub types_read : Reader CluTypes
  types_read bytes = several types_step (λ made rest. behind 44 rest) (length bytes) no_types bytes

  -- and a closing parenthesis
  unfoldable pub closed_types_read : Reader CluTypes
  closed_types_read bytes = types_read bytes >>= λ ts. literal_at (41 ∷ []) ts.1 >>= λ rest. Ok (ts.0, rest)

  -- a selector after another, with its type
  unfoldable pub field_read : List ℕ → Reader (List ℕ × CluType)
  field_read previous bytes = name_after previous 200 bytes >>= λ name. literal_at (58 ∷ []) name.1 >>= λ rest. part rest >>= λ t. Ok ((name.0, t.0), t.1)

  -- with the name of the selector before
  abbrev pub fields_step : Fields × List ℕ → List ℕ → Read (Fields × List ℕ)
  fields_step made bytes = field_read made.1 bytes >>= λ f. Ok ((fields_joined made.0 (field_and f.0.0 f.0.1 no_fields), f.0.0), f.1)

  -- selectors in ascending order, with commas between them
  unfoldable pub fields_read : Reader Fields
  fields_read bytes = several fields_step (λ made rest. next_after made.1 rest) (length bytes) (no_fields, []) bytes >>= λ x. Ok (x.0.0, x.1)

  -- the types of a signal's objects, or none
  unfoldable pub objects_by : Option (List ℕ) → Reader CluTypes
  objects_by None bytes = Ok (no_types, bytes)
  objects_by (Some rest) bytes = closed_types_read rest

  abbrev pub objects_read : Reader CluTypes
  objects_read bytes = objects_by (behind 40 bytes) bytes

  -- a signal after another, with the types of its objects
  unfoldable pub signal_read : List ℕ → Reader (List ℕ × CluTypes)
  signal_read previous bytes = signal_name_after previous bytes >>= λ name. objects_read name.1 >>= λ ts. Ok ((name.0, ts.0), ts.1)

  abbrev pub signals_step : Signals × List ℕ → List ℕ → Read (Signals × List ℕ)
  signals_step made bytes = signal_read made.1 bytes >>= λ s. Ok ((signals_joined made.0 (signal_and s.0.0 s.0.1 no_signals), s.0.0), s.1)

  -- signals in ascending order, with commas between them
  unfoldable pub signals_read : Reader Signals
  signals_read bytes = several signals_step (λ made rest. next_after made.1 rest) (length bytes) (no_signals, []) bytes >>= λ x. Ok (x.0.0, x.1)

  unfoldable pub arguments_by : Option (List ℕ) → Reader CluTypes
  arguments_by None bytes = closed_types_read bytes
  arguments_by (Some rest) bytes = Ok (no_types, rest)

  -- the types of arguments in parentheses
  unfoldable pub arguments_read : Reader CluTypes
  arguments_read bytes = literal_at (40 ∷ []) bytes >>= λ rest. arguments_by (behind 41 rest) rest

  -- the types after returns, or of an iterator after yields, or none
  unfoldable pub results_read : Bool → Reader CluTypes
  results_read iter bytes =
      if iter && begins_with 121 bytes then (literal_at (codes "yields(") bytes >>= λ rest. closed_types_read rest) else
      if not iter && begins_with 114 bytes then (literal_at (codes "returns(") bytes >>= λ rest. closed_types_read rest) else
      Ok (no_types, bytes)

  -- the signals after their word, or none
  unfoldable pub all_signals_read : Reader Signals
  all_signals_read bytes =
      if begins_with 115 bytes then (literal_at (codes "signals(") bytes >>= λ rest. signals_read rest >>= λ ss. literal_at (41 ∷ []) ss.1 >>= λ rest. Ok (ss.0, rest)) else
      Ok (no_signals, bytes)

  unfoldable pub heading_read : Bool → Reader (CluTypes × CluTypes × Signals)
  heading_read iter bytes =
      arguments_read bytes >>= λ args. results_read iter args.1 >>= λ results. all_signals_read results.1 >>= λ signals.
      Ok ((args.0, results.0, signals.0), signals.1)

  -- an actual parameter that begins with a word or #
  unfoldable pub word_actual_by : Option Const → Reader Actuals
  word_actual_by None bytes = part bytes >>= λ t. Ok (actual_type t.0 no_actuals, t.1)
  word_actual_by (Some c) bytes = Ok (actual_const c no_actuals, behind_word bytes)

  abbrev pub word_actual_read : Reader Actuals
  word_actual_read bytes = word_actual_by (word_constant (first_word bytes)) bytes

-- what an actual parameter is, by its first byte
abbrev pub lead_of : List ℕ → Lead
lead_of [] = lead.Word
lead_of (b ∷ bytes) =
    if b == 37 then lead.Parameter else
    if b == 39 then lead.Char else
    if b == 34 then lead.Text else
    if b == 45 then lead.Integer else
    if is_ascii_digit b then lead.Integer else
    lead.Word

-- no word shows what it is
abbrev pub is_marked : Lead → Bool
is_marked lead.Word = false
is_marked _ = true

module _ (scope : Scope) where
  -- a constant or a constant parameter
  unfoldable pub marked_actual_read : Lead → Reader Actuals
  marked_actual_read of [] = Err 0
  marked_actual_read lead.Parameter (b ∷ bytes) = parameter_at scope sort.Constant (b ∷ bytes) bytes >>= λ n. Ok (actual_param n.0 no_actuals, n.1)
  marked_actual_read lead.Char (b ∷ bytes) = byte_at bytes >>= λ c. Ok (actual_const (const.Char c.0) no_actuals, c.1)
  marked_actual_read lead.Text (b ∷ bytes) = string_at (length bytes) [] bytes >>= λ text. Ok (actual_const (const.Str text.0) no_actuals, text.1)
  marked_actual_read lead.Integer (b ∷ bytes) = integer_at (b ∷ bytes) >>= λ n. Ok (actual_const (const.Int n.0) no_actuals, n.1)
  marked_actual_read lead.Word (b ∷ bytes) = Err (length (b ∷ bytes))

  module _ (part : Reader CluType) where
    unfoldable pub actual_by : Lead → Reader Actuals
    actual_by of bytes = if is_marked of then marked_actual_read of bytes else word_actual_read part bytes

    abbrev pub actual_read : Reader Actuals
    actual_read bytes = actual_by (lead_of bytes) bytes

    abbrev pub actuals_step : Actuals → List ℕ → Read Actuals
    actuals_step made bytes = actual_read bytes >>= λ a. Ok (actuals_joined made a.0, a.1)

    unfoldable pub actuals_read : Reader Actuals
    actuals_read bytes = several actuals_step (λ made rest. behind 44 rest) (length bytes) no_actuals bytes

    unfoldable pub all_actuals_by : Option (List ℕ) → Reader Actuals
    all_actuals_by None bytes = Ok (no_actuals, bytes)
    all_actuals_by (Some rest) bytes = actuals_read rest >>= λ given. literal_at (93 ∷ []) given.1 >>= λ rest. Ok (given.0, rest)

    -- the actual parameters in brackets, or none
    abbrev pub all_actuals_read : Reader Actuals
    all_actuals_read bytes = all_actuals_by (behind 91 bytes) bytes

    -- a cluster type with its actual parameters
    unfoldable pub cluster_type_read : Reader CluType
    cluster_type_read bytes = name_after [] 200 bytes >>= λ name. all_actuals_read name.1 >>= λ given. Ok (cluster_of name.0 given.0, given.1)

    -- the rest of a type, after its word
    unfoldable pub keyword_type_read : Keyword → Reader CluType
    keyword_type_read (keyword.Simple word) bytes = Ok (simple_type word, bytes)
    keyword_type_read (keyword.Listing word) bytes =
        literal_at (91 ∷ []) bytes >>= λ rest. part rest >>= λ t. literal_at (93 ∷ []) t.1 >>= λ rest. Ok (listing_type word t.0, rest)
    keyword_type_read (keyword.Selecting word) bytes =
        literal_at (91 ∷ []) bytes >>= λ rest. fields_read part rest >>= λ fs. literal_at (93 ∷ []) fs.1 >>= λ rest. Ok (selecting_type word fs.0, rest)
    keyword_type_read (keyword.Routine iter) bytes = heading_read part iter bytes >>= λ h. Ok (routine_type iter h.0.0 h.0.1 h.0.2, h.1)

    unfoldable pub word_type_by : Option Keyword → Reader CluType
    word_type_by None bytes = cluster_type_read bytes
    word_type_by (Some word) bytes = keyword_type_read word (behind_word bytes)

    abbrev pub word_type_read : Reader CluType
    word_type_read bytes = word_type_by (keyword_of (first_word bytes)) bytes

    unfoldable pub one_type_by : Option (List ℕ) → Reader CluType
    one_type_by None bytes = word_type_read bytes
    one_type_by (Some rest) bytes = parameter_at scope sort.Type bytes rest >>= λ n. Ok (parameter n.0, n.1)

    abbrev pub one_type_read : Reader CluType
    one_type_read bytes = one_type_by (behind 35 bytes) bytes

  -- the type at the front, nested so deep at most
  unfoldable pub type_read : ℕ → Reader CluType
  type_read zero bytes = Err (length bytes)
  type_read (suc depth) bytes = one_type_read (type_read depth) bytes

-- a text that is a type, and nothing more
unfoldable pub whole_type : List ℕ → Result CluType ℕ
whole_type bytes = type_read any_scope (length bytes) bytes >>= λ x. end_at x.0 x.1
