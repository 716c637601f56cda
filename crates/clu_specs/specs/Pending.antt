-- Types read step by step: at each type inside another reading stops with what was begun, and goes on with it once that
-- type was read. Marks stand by their codes, as in TypeReading.
use Rattle.std.specs.Prelude.{ℕ, ◌-◌, ◌<◌, Bool, not, ◌&&◌, ◌==◌, if◌then◌else◌, List, [], ◌∷◌, length, codes, Option, Some, None, Ok, Err}
use Rattle.clu_base.specs.declared.constants.Const.{Const}
use Rattle.clu_types.specs.CluType.{CluType, parameter, cluster_of, CluTypes, no_types, type_and, Fields, no_fields, field_and, Signals, no_signals, signal_and, Actuals, no_actuals, actual_type, actual_const}
use Rattle.clu_types.specs.Arena.{type_at, types_at, fields_at, signals_at, actuals_at, AreBelow, FieldsBelow, SignalsBelow, ActualsBelow}
use Rattle.clu_specs.specs.declared.keywords.Listing.{Listing}
use Rattle.clu_specs.specs.declared.keywords.Selecting.{Selecting}
use Rattle.clu_specs.specs.declared.keywords.Keyword.{Keyword}
use Rattle.clu_specs.specs.declared.keywords.Keyword.TheVariants as keyword
use Rattle.clu_specs.specs.declared.actuals.Lead.{Lead}
use Rattle.clu_specs.specs.declared.scope.Sort.TheVariants as sort
use Rattle.clu_specs.specs.declared.scope.Scope.{Scope}
use Rattle.clu_specs.specs.declared.pending.SignalsSoFar.{SignalsSoFar}
use Rattle.clu_specs.specs.declared.pending.Pending.{Pending}
use Rattle.clu_specs.specs.declared.pending.Pending.TheVariants as pending
use Rattle.clu_specs.specs.declared.pending.Found.{Found}
use Rattle.clu_specs.specs.declared.pending.Found.TheVariants as found
use Rattle.clu_specs.specs.Reading.{◌>>=◌, literal_at, behind, begins_with}
use Rattle.clu_specs.specs.Names.{name_after, first_word, behind_word}
use Rattle.clu_specs.specs.Keywords.{keyword_of}
use Rattle.clu_specs.specs.Constants.{word_constant}
use Rattle.clu_specs.specs.Scopes.{parameter_at}
use Rattle.clu_specs.specs.TypeReading.{Reader, types_joined, fields_joined, signals_joined, actuals_joined, simple_type, listing_type, selecting_type, routine_type, next_after, signal_name_after, lead_of, is_marked, marked_actual_read}

-- a routine's signals so far, with what it takes and gives, the name of the last and how many may still follow
pub record SignalsMade : Type 0 where
  pub iter : Bool
  pub args : CluTypes
  pub results : CluTypes
  pub left : ℕ
  pub made : Signals
  pub name : List ℕ

-- what was begun and waits for a type in it, with its items so far and how many may still follow
pub data Waiting : Type 0 where
  element : Listing → Waiting
  field : Selecting → ℕ → Fields → List ℕ → Waiting
  argument : Bool → ℕ → CluTypes → Waiting
  outcome : Bool → CluTypes → ℕ → CluTypes → Waiting
  object : SignalsMade → ℕ → CluTypes → Waiting
  given : List ℕ → ℕ → Actuals → Waiting

-- how far reading has come: a type was read; a type in what waits begins; an item of what waits begins; a signal begins
pub data Reached : Type 0 where
  whole : CluType → Reached
  inside : Waiting → Reached
  item : Waiting → Reached
  signal : SignalsMade → Reached

-- after what a routine takes and gives
unfoldable pub signals_begun : Bool → CluTypes → CluTypes → Reader Reached
signals_begun iter args results bytes =
    if begins_with 115 bytes then (literal_at (codes "signals(") bytes >>= λ rest. Ok (signal (record { iter = iter; args = args; results = results; left = length rest; made = no_signals; name = [] }), rest)) else
    Ok (whole (routine_type iter args results no_signals), bytes)

-- after what a routine takes
unfoldable pub results_begun : Bool → CluTypes → Reader Reached
results_begun iter args bytes =
    if iter && begins_with 121 bytes then (literal_at (codes "yields(") bytes >>= λ rest. Ok (item (outcome iter args (length rest) no_types), rest)) else
    if not iter && begins_with 114 bytes then (literal_at (codes "returns(") bytes >>= λ rest. Ok (item (outcome iter args (length rest) no_types), rest)) else
    signals_begun iter args no_types bytes

-- after the parenthesis of arguments
unfoldable pub arguments_begun : Bool → Option (List ℕ) → Reader Reached
arguments_begun iter None bytes = Ok (item (argument iter (length bytes) no_types), bytes)
arguments_begun iter (Some rest) bytes = results_begun iter no_types rest

-- after the word of a type
unfoldable pub keyword_begun : Keyword → Reader Reached
keyword_begun (keyword.Simple word) bytes = Ok (whole (simple_type word), bytes)
keyword_begun (keyword.Listing word) bytes = literal_at (91 ∷ []) bytes >>= λ rest. Ok (inside (element word), rest)
keyword_begun (keyword.Selecting word) bytes = literal_at (91 ∷ []) bytes >>= λ rest. Ok (item (field word (length rest) no_fields []), rest)
keyword_begun (keyword.Routine iter) bytes = literal_at (40 ∷ []) bytes >>= λ rest. arguments_begun iter (behind 41 rest) rest

-- after the name of a cluster
unfoldable pub actuals_begun : List ℕ → Option (List ℕ) → Reader Reached
actuals_begun name None bytes = Ok (whole (cluster_of name no_actuals), bytes)
actuals_begun name (Some rest) bytes = Ok (item (given name (length rest) no_actuals), rest)

unfoldable pub cluster_begun : Reader Reached
cluster_begun bytes = name_after [] 200 bytes >>= λ name. actuals_begun name.0 (behind 91 name.1) name.1

unfoldable pub word_begun : Option Keyword → Reader Reached
word_begun None bytes = cluster_begun bytes
word_begun (Some word) bytes = keyword_begun word (behind_word bytes)

-- after an item, with what follows the comma if there is one
unfoldable pub field_ended : Selecting → ℕ → Fields → List ℕ → Option (List ℕ) → Reader Reached
field_ended word left made name None bytes = literal_at (93 ∷ []) bytes >>= λ rest. Ok (whole (selecting_type word made), rest)
field_ended word left made name (Some rest) bytes = Ok (item (field word left made name), rest)

unfoldable pub argument_ended : Bool → ℕ → CluTypes → Option (List ℕ) → Reader Reached
argument_ended iter left made None bytes = literal_at (41 ∷ []) bytes >>= λ rest. results_begun iter made rest
argument_ended iter left made (Some rest) bytes = Ok (item (argument iter left made), rest)

unfoldable pub result_ended : Bool → CluTypes → ℕ → CluTypes → Option (List ℕ) → Reader Reached
result_ended iter args left made None bytes = literal_at (41 ∷ []) bytes >>= λ rest. signals_begun iter args made rest
result_ended iter args left made (Some rest) bytes = Ok (item (outcome iter args left made), rest)

abbrev pub with_signal : SignalsMade → CluTypes → SignalsMade
with_signal s objects = record { iter = s.iter; args = s.args; results = s.results; left = s.left; made = signals_joined s.made (signal_and s.name objects no_signals); name = s.name }

unfoldable pub signal_ended : SignalsMade → Option (List ℕ) → Reader Reached
signal_ended s None bytes = literal_at (41 ∷ []) bytes >>= λ rest. Ok (whole (routine_type s.iter s.args s.results s.made), rest)
signal_ended s (Some rest) bytes = Ok (signal s, rest)

-- after a signal and its objects
abbrev pub signal_made : SignalsMade → CluTypes → Reader Reached
signal_made s objects bytes = signal_ended (with_signal s objects) (next_after s.name bytes) bytes

unfoldable pub object_ended : SignalsMade → ℕ → CluTypes → Option (List ℕ) → Reader Reached
object_ended s left made None bytes = literal_at (41 ∷ []) bytes >>= λ rest. signal_made s made rest
object_ended s left made (Some rest) bytes = Ok (item (object s left made), rest)

unfoldable pub actual_ended : List ℕ → ℕ → Actuals → Option (List ℕ) → Reader Reached
actual_ended name left made None bytes = literal_at (93 ∷ []) bytes >>= λ rest. Ok (whole (cluster_of name made), rest)
actual_ended name left made (Some rest) bytes = Ok (item (given name left made), rest)

-- what waits goes on, after the type that it waited for
unfoldable pub resumed : Waiting → CluType → Reader Reached
resumed (element word) t bytes = literal_at (93 ∷ []) bytes >>= λ rest. Ok (whole (listing_type word t), rest)
resumed (field word left made name) t bytes = field_ended word left (fields_joined made (field_and name t no_fields)) name (next_after name bytes) bytes
resumed (argument iter left made) t bytes = argument_ended iter left (types_joined made (type_and t no_types)) (behind 44 bytes) bytes
resumed (outcome iter args left made) t bytes = result_ended iter args left (types_joined made (type_and t no_types)) (behind 44 bytes) bytes
resumed (object s left made) t bytes = object_ended s left (types_joined made (type_and t no_types)) (behind 44 bytes) bytes
resumed (given name left made) t bytes = actual_ended name left (actuals_joined made (actual_type t no_actuals)) (behind 44 bytes) bytes

-- a signal after those made
abbrev pub with_name : SignalsMade → List ℕ → SignalsMade
with_name s name = record { iter = s.iter; args = s.args; results = s.results; left = s.left - 1; made = s.made; name = name }

unfoldable pub objects_begun : SignalsMade → Option (List ℕ) → Reader Reached
objects_begun s None bytes = signal_made s no_types bytes
objects_begun s (Some rest) bytes = Ok (item (object s (length rest) no_types), rest)

unfoldable pub signal_begun : SignalsMade → Reader Reached
signal_begun s bytes =
    if s.left == 0 then Err (length bytes) else
    signal_name_after s.name bytes >>= λ name. objects_begun (with_name s name.0) (behind 40 name.1) name.1

-- an actual parameter that begins with a word or #
unfoldable pub word_actual_begun : List ℕ → ℕ → Actuals → Option Const → Reader Reached
word_actual_begun name left made None bytes = Ok (inside (given name left made), bytes)
word_actual_begun name left made (Some c) bytes = actual_ended name left (actuals_joined made (actual_const c no_actuals)) (behind 44 (behind_word bytes)) (behind_word bytes)

module _ (scope : Scope) where
  unfoldable pub type_begun_by : Option (List ℕ) → Reader Reached
  type_begun_by None bytes = word_begun (keyword_of (first_word bytes)) bytes
  type_begun_by (Some rest) bytes = parameter_at scope sort.Type bytes rest >>= λ n. Ok (whole (parameter n.0), n.1)

  -- a type that begins here
  abbrev pub type_begun : Reader Reached
  type_begun bytes = type_begun_by (behind 35 bytes) bytes

  unfoldable pub actual_begun : List ℕ → ℕ → Actuals → Lead → Reader Reached
  actual_begun name left made of bytes =
      if is_marked of then (marked_actual_read scope of bytes >>= λ a. actual_ended name left (actuals_joined made a.0) (behind 44 a.1) a.1) else
      word_actual_begun name left made (word_constant (first_word bytes)) bytes

  -- the next item of what waits
  unfoldable pub item_begun : Waiting → Reader Reached
  item_begun (element word) bytes = Ok (inside (element word), bytes)
  item_begun (field word left made previous) bytes =
      if left == 0 then Err (length bytes) else
      name_after previous 200 bytes >>= λ name. literal_at (58 ∷ []) name.1 >>= λ rest. Ok (inside (field word (left - 1) made name.0), rest)
  item_begun (argument iter left made) bytes = if left == 0 then Err (length bytes) else Ok (inside (argument iter (left - 1) made), bytes)
  item_begun (outcome iter args left made) bytes = if left == 0 then Err (length bytes) else Ok (inside (outcome iter args (left - 1) made), bytes)
  item_begun (object s left made) bytes = if left == 0 then Err (length bytes) else Ok (inside (object s (left - 1) made), bytes)
  item_begun (given name left made) bytes = if left == 0 then Err (length bytes) else actual_begun name (left - 1) made (lead_of bytes) bytes

-- what was begun, over the types of an arena
module _ (ks : List CluType) where
  abbrev pub signals_seen : SignalsSoFar → SignalsMade
  signals_seen s = record { iter = s.iter; args = types_at ks s.args; results = types_at ks s.results; left = s.left; made = signals_at ks s.made; name = s.name.now }

  abbrev pub waiting_seen : Pending → Waiting
  waiting_seen (pending.Element word) = element word
  waiting_seen (pending.Field f) = field f.word f.left (fields_at ks f.made) f.name.now
  waiting_seen (pending.Argument a) = argument a.iter a.left (types_at ks a.made)
  waiting_seen (pending.Outcome r) = outcome r.iter (types_at ks r.args) r.left (types_at ks r.made)
  waiting_seen (pending.Object o) = object (signals_seen o.signals) o.left (types_at ks o.made)
  waiting_seen (pending.Actual a) = given a.name a.left (actuals_at ks a.made)

  abbrev pub found_seen : Found → Reached
  found_seen (found.Whole id) = whole (type_at ks id)
  found_seen (found.Inside p) = inside (waiting_seen p)
  found_seen (found.Item p) = item (waiting_seen p)
  found_seen (found.Signal s) = signal (signals_seen s)

-- the numbers of its types are below n
abbrev pub SoFarBelow : ℕ → SignalsSoFar → Type 0
SoFarBelow n s = AreBelow n s.args × AreBelow n s.results × SignalsBelow n s.made

abbrev pub PendingBelow : ℕ → Pending → Type 0
PendingBelow n (pending.Element word) = Unit {0}
PendingBelow n (pending.Field f) = FieldsBelow n f.made
PendingBelow n (pending.Argument a) = AreBelow n a.made
PendingBelow n (pending.Outcome r) = AreBelow n r.args × AreBelow n r.made
PendingBelow n (pending.Object o) = SoFarBelow n o.signals × AreBelow n o.made
PendingBelow n (pending.Actual a) = ActualsBelow n a.made

abbrev pub FoundBelow : ℕ → Found → Type 0
FoundBelow n (found.Whole id) = id.0 < n
FoundBelow n (found.Inside p) = PendingBelow n p
FoundBelow n (found.Item p) = PendingBelow n p
FoundBelow n (found.Signal s) = SoFarBelow n s
