-- Terms with the numbers of a table for their parts, and actuals put in for constant parameters.
use Rattle.std.specs.Prelude.{ℕ, List, map, Option, None, Some, unwrap_or}
use Rattle.clu_types.specs.Actual.{nth}
use Rattle.clu_types.specs.declared.term.TypeId.{TypeId}
use Rattle.clu_types.specs.declared.term.Field.{Field}
use Rattle.clu_types.specs.declared.term.Exception.{Exception}
use Rattle.clu_types.specs.declared.term.Heading.{Heading}
use Rattle.clu_types.specs.declared.term.Actual.{Actual}
use Rattle.clu_types.specs.declared.term.Actual.TheVariants as actual
use Rattle.clu_types.specs.declared.term.Term.{Term}
use Rattle.clu_types.specs.declared.term.Term.TheVariants as term

-- what a number becomes, by number
abbrev pub Numbers : Type 0
Numbers = ℕ → Option TypeId

-- the entry of a number; a number that has none stays
abbrev pub number_in : Numbers → TypeId → TypeId
number_in table id = unwrap_or (table id.0) id

abbrev pub field_in : Numbers → Field → Field
field_in table f = record { name = f.name; of = number_in table f.of }

abbrev pub signal_in : Numbers → Exception → Exception
signal_in table s = record { name = s.name; objects = map (number_in table) s.objects }

abbrev pub heading_in : Numbers → Heading → Heading
heading_in table h = record { args = map (number_in table) h.args; results = map (number_in table) h.results; signals = map (signal_in table) h.signals }

-- what the constant parameter n becomes, by the n-th actual
abbrev pub constant_by : Option Actual → ℕ → Actual
constant_by None n = actual.ConstParam n
constant_by (Some (actual.Of id)) n = actual.ConstParam n
constant_by (Some (actual.Const c)) n = actual.Const c
constant_by (Some (actual.ConstParam p)) n = actual.ConstParam p

abbrev pub actual_in : Numbers → List Actual → Actual → Actual
actual_in table given (actual.Of id) = actual.Of (number_in table id)
actual_in table given (actual.Const c) = actual.Const c
actual_in table given (actual.ConstParam n) = constant_by (nth given n) n

abbrev pub term_in : Numbers → List Actual → Term → Term
term_in table given term.Null = term.Null
term_in table given term.Bool = term.Bool
term_in table given term.Int = term.Int
term_in table given term.Char = term.Char
term_in table given term.Str = term.Str
term_in table given term.Any = term.Any
term_in table given term.Stream = term.Stream
term_in table given (term.Array of) = term.Array (number_in table of)
term_in table given (term.Sequence of) = term.Sequence (number_in table of)
term_in table given (term.Record fs) = term.Record (map (field_in table) fs)
term_in table given (term.Struct fs) = term.Struct (map (field_in table) fs)
term_in table given (term.Oneof fs) = term.Oneof (map (field_in table) fs)
term_in table given (term.Variant fs) = term.Variant (map (field_in table) fs)
term_in table given (term.Proc h) = term.Proc (heading_in table h)
term_in table given (term.Iter h) = term.Iter (heading_in table h)
term_in table given (term.Cluster name inner) = term.Cluster name (map (actual_in table given) inner)
term_in table given (term.Param n) = term.Param n
