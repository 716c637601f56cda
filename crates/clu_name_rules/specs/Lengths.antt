-- How long the texts of types and constants are, as far as 64 bits count. A type's is reckoned from those of the types before it.
use Rattle.std.specs.Prelude.{ℕ, zero, suc, ◌+◌, ◌-◌, ◌*◌, ◌/◌, ◌^◌, ◌==◌, max, min, if◌then◌else◌, List, [], ◌∷◌, ◌++◌, ℤ, pos, int_lt, unsigned_abs, nat_lt, Bool, false, Option, Some, None, fold, get_or, length}
use Rattle.clu_base.specs.declared.constants.Const.{Const}
use Rattle.clu_base.specs.declared.constants.Const.TheVariants as constant
use Rattle.clu_constants.specs.declared.outline.Outline.{Outline}
use Rattle.clu_constants.specs.declared.outline.Outline.TheVariants as outline
use Rattle.clu_types.specs.declared.term.TypeId.{TypeId}
use Rattle.clu_types.specs.declared.term.Field.{Field}
use Rattle.clu_types.specs.declared.term.Exception.{Exception}
use Rattle.clu_types.specs.declared.term.Heading.{Heading}
use Rattle.clu_types.specs.declared.term.Actual.{Actual}
use Rattle.clu_types.specs.declared.term.Actual.TheVariants as actual
use Rattle.clu_types.specs.declared.term.Term.{Term}
use Rattle.clu_types.specs.declared.term.Term.TheVariants as term

-- a sum or product that is too large for 64 bits stays at their last number
abbrev pub plus : ℕ → ℕ → ℕ
plus a b = min (a + b) (2 ^ 64 - 1)

abbrev pub times : ℕ → ℕ → ℕ
times a b = min (a * b) (2 ^ 64 - 1)

-- what stands round a list is there if the list is
abbrev pub with_more : ℕ → ℕ → ℕ
with_more size more = if size == 0 then 0 else plus size more

-- ---- constants

-- of the last k decimal digits of a number, without zeros before them
unfoldable pub digits_in : ℕ → ℕ → ℕ
digits_in zero n = 0
digits_in (suc k) n = if n / 10 == 0 then 1 else suc (digits_in k (n / 10))

abbrev pub integer_length : ℤ → ℕ
integer_length n = if int_lt n (pos 0) then plus (digits_in 64 (unsigned_abs n)) 1 else digits_in 64 (unsigned_abs n)

abbrev pub constant_length : Const → ℕ
constant_length constant.Null = 3
constant_length (constant.Bool b) = if b then 4 else 5
constant_length (constant.Int n) = integer_length n
constant_length (constant.Char b) = 3
constant_length (constant.Str bytes) = plus (times (length bytes) 2) 2

-- the same without its text
abbrev pub outline_length : Outline → ℕ
outline_length outline.Null = 3
outline_length (outline.Bool b) = if b then 4 else 5
outline_length (outline.Int n) = integer_length n
outline_length (outline.Char b) = 3
outline_length (outline.Str n) = plus (times n 2) 2

abbrev pub is_long_at : Option Const → Bool
is_long_at (Some c) = nat_lt 65536 (constant_length c)
is_long_at None = false

-- ---- types, where the lengths of those before them are known

module _ (lengths : List ℕ) where
  -- what is none of them is `null`
  abbrev pub length_of : TypeId → ℕ
  length_of id = get_or lengths id.0 4

  -- with one mark after each type
  abbrev pub with_type : ℕ → TypeId → ℕ
  with_type size id = plus (plus size 1) (length_of id)

  abbrev pub types_length : List TypeId → ℕ
  types_length ids = fold with_type 0 ids

  -- with `:` after the name, and one mark after each field
  abbrev pub with_field : ℕ → Field → ℕ
  with_field size f = plus (plus (plus size (length f.name)) 2) (length_of f.of)

  abbrev pub fields_length : List Field → ℕ
  fields_length fs = max (fold with_field 0 fs) 1

  abbrev pub with_signal : ℕ → Exception → ℕ
  with_signal size s = plus (plus (plus size (length s.name)) 1) (with_more (types_length s.objects) 1)

  abbrev pub signals_length : List Exception → ℕ
  signals_length ss = with_more (fold with_signal 0 ss) 8

  -- `results` is the length of the word before the results
  abbrev pub heading_length : ℕ → Heading → ℕ
  heading_length results h = plus (plus (plus (max (types_length h.args) 1) 9) (with_more (types_length h.results) results)) (signals_length h.signals)

  abbrev pub actual_length : Actual → ℕ
  actual_length (actual.Of id) = length_of id
  actual_length (actual.Const c) = constant_length c
  actual_length (actual.ConstParam n) = plus (digits_in 64 n) 1

  abbrev pub with_actual : ℕ → Actual → ℕ
  with_actual size a = plus (plus size (actual_length a)) 1

  abbrev pub actuals_length : List Actual → ℕ
  actuals_length given = with_more (fold with_actual 0 given) 1

  abbrev pub term_length : Term → ℕ
  term_length term.Null = 4
  term_length term.Bool = 4
  term_length term.Int = 3
  term_length term.Char = 4
  term_length term.Str = 6
  term_length term.Any = 3
  term_length term.Stream = 6
  term_length (term.Array of) = plus (length_of of) 7
  term_length (term.Sequence of) = plus (length_of of) 10
  term_length (term.Record fs) = plus (fields_length fs) 7
  term_length (term.Struct fs) = plus (fields_length fs) 7
  term_length (term.Oneof fs) = plus (fields_length fs) 6
  term_length (term.Variant fs) = plus (fields_length fs) 8
  term_length (term.Proc h) = heading_length 8 h
  term_length (term.Iter h) = heading_length 7 h
  term_length (term.Cluster name given) = plus (length name) (actuals_length given)
  term_length (term.Param n) = plus (digits_in 64 n) 1

-- those of more types, behind those of the types before them
abbrev pub lengths_behind : List ℕ → List Term → List ℕ
lengths_behind lengths [] = lengths
lengths_behind lengths (t ∷ ts) = lengths_behind (lengths ++ term_length lengths t ∷ []) ts

abbrev pub lengths_of : List Term → List ℕ
lengths_of terms = lengths_behind [] terms
