-- An operation's heading over types, and what it asks of the types of the parts.
use Rattle.std.specs.Prelude.{ℕ, Bool, true, false, List, [], ◌∷◌, codes}
use Rattle.clu_types.specs.CluType.{CluType, bool_type, string_type, proc_of, CluTypes, no_types, type_and, Signals, no_signals, signal_and}

-- a type must have an operation of this name and type
pub record Needed : Type 0 where
  pub of : CluType
  pub op : List ℕ
  pub wanted : CluType

pub record Operation : Type 0 where
  pub iter : Bool
  pub args : CluTypes
  pub results : CluTypes
  pub signals : Signals
  pub needs : List Needed

-- rows of a table
abbrev pub proc : List ℕ → CluTypes → CluTypes → Signals → List ℕ × Operation
proc name args results signals = (name, record { iter = false; args = args; results = results; signals = signals; needs = [] })

abbrev pub iter : List ℕ → CluTypes → CluTypes → Signals → List ℕ × Operation
iter name args results signals = (name, record { iter = true; args = args; results = results; signals = signals; needs = [] })

-- types in order
abbrev pub none : CluTypes
none = no_types

abbrev pub one : CluType → CluTypes
one a = type_and a no_types

abbrev pub two : CluType → CluType → CluTypes
two a b = type_and a (one b)

abbrev pub three : CluType → CluType → CluType → CluTypes
three a b c = type_and a (two b c)

-- no signals, and each signal before others
abbrev pub quiet : Signals
quiet = no_signals

abbrev pub bad_format : Signals → Signals
bad_format = signal_and (codes "bad_format") none

abbrev pub bounds : Signals → Signals
bounds = signal_and (codes "bounds") none

abbrev pub end_of_file : Signals → Signals
end_of_file = signal_and (codes "end_of_file") none

abbrev pub illegal_char : Signals → Signals
illegal_char = signal_and (codes "illegal_char") none

abbrev pub negative_exponent : Signals → Signals
negative_exponent = signal_and (codes "negative_exponent") none

abbrev pub negative_size : Signals → Signals
negative_size = signal_and (codes "negative_size") none

abbrev pub not_possible : Signals → Signals
not_possible = signal_and (codes "not_possible") (one string_type)

abbrev pub overflow : Signals → Signals
overflow = signal_and (codes "overflow") none

abbrev pub wrong_tag : Signals → Signals
wrong_tag = signal_and (codes "wrong_tag") none

abbrev pub zero_divide : Signals → Signals
zero_divide = signal_and (codes "zero_divide") none

-- the headings that are asked of the types of parts
abbrev pub comparing : CluType → CluType
comparing t = proc_of (two t t) (one bool_type) quiet

abbrev pub copying : CluType → CluType
copying t = proc_of (one t) (one t) quiet

-- each part's type has the operation
abbrev pub asking : List ℕ → (CluType → CluType) → CluTypes → List Needed
asking op wanted no_types = []
asking op wanted (type_and t parts) = record { of = t; op = op; wanted = wanted t } ∷ asking op wanted parts

-- a row with needs
abbrev pub needing : List Needed → List ℕ × Operation → List ℕ × Operation
needing needs row = (row.0, record row.1 { needs = needs })

abbrev pub needing_equal : CluTypes → List ℕ × Operation → List ℕ × Operation
needing_equal parts = needing (asking (codes "equal") comparing parts)

abbrev pub needing_similar : CluTypes → List ℕ × Operation → List ℕ × Operation
needing_similar parts = needing (asking (codes "similar") comparing parts)

abbrev pub needing_copy : CluTypes → List ℕ × Operation → List ℕ × Operation
needing_copy parts = needing (asking (codes "copy") copying parts)
