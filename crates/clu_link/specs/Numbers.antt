-- Numbers that a program has. A number above 64 bits counts as the greatest of 64 bits.
use Rattle.std.specs.Prelude.{ℕ}
use Rattle.clu_types.specs.declared.term.Term.{Term}
use Rattle.clu_types.specs.declared.term.Term.TheVariants as term
use Rattle.clu_wir.specs.Rooms.{plus, times}

-- the number of most types, by their place among all
abbrev pub even_number : ℕ → ℕ
even_number place = times (plus place 1) 2

-- the number of a type: 0 of any, odd of the types of routines, and even of all others
abbrev pub type_number : Term → ℕ → ℕ
type_number term.Any place = 0
type_number (term.Proc heading) place = plus (even_number place) 1
type_number (term.Iter heading) place = plus (even_number place) 1
type_number _ place = even_number place
