-- The parameters that the numbers of a text name.
use Rattle.std.specs.Prelude.{ℕ, zero, suc, ◌+◌, ◌*◌, ◌-◌, Bool, true, false, not, ◌&&◌, ◌||◌, nat_le, nat_lt, if◌then◌else◌, List, [], ◌∷◌, length, slice_get, Option, Some, None, Result, Ok, Err}
use Rattle.std.specs.Char.{is_ascii_digit}
use Rattle.clu_types.specs.declared.spec.ParamKind.{ParamKind}
use Rattle.clu_types.specs.declared.spec.ParamKind.TheVariants as kind
use Rattle.clu_specs.specs.declared.scope.Sort.{Sort}
use Rattle.clu_specs.specs.declared.scope.Sort.TheVariants as sort
use Rattle.clu_specs.specs.declared.scope.Scope.{Scope}
use Rattle.clu_specs.specs.Numbers.{digits_at, begins_decimal}

-- the scope of a text read alone: any number
abbrev pub any_scope : Scope
any_scope = record { alone = true; kinds = []; last_type = 4294967295; last_constant = 4294967295 }

abbrev pub is_of : Sort → ParamKind → Bool
is_of sort.Type kind.OfType = true
is_of sort.Type _ = false
is_of sort.Constant kind.OfType = false
is_of sort.Constant _ = true

-- the greatest number of a parameter of the sort after n others, of which it was `last`
abbrev pub last_from : Sort → ℕ → ℕ → List ParamKind → ℕ
last_from s n last [] = last
last_from s n last (k ∷ ks) = last_from s (n + 1) (if is_of s k then n + 1 else last) ks

abbrev pub last_in : Scope → Sort → ℕ
last_in s sort.Type = s.last_type
last_in s sort.Constant = s.last_constant

abbrev pub is_some_of : Sort → Option ParamKind → Bool
is_some_of s None = false
is_some_of s (Some k) = is_of s k

-- the number is that of a parameter of the sort
abbrev pub names : Scope → Sort → ℕ → Bool
names s of zero = false
names s of (suc i) = if s.alone then nat_le (suc i) 4294967295 else is_some_of of (slice_get s.kinds i)

-- a parameter of this number and kind is of the sort, and its number is not below `least` and begins with the digits of n
abbrev pub begins_here : Sort → ℕ → ℕ → ℕ → ParamKind → Bool
begins_here of least n at k = (nat_le least at && is_of of k) && begins_decimal n at

-- some number from `least` on of a parameter of the sort among these, of which the first has the number `at`, begins with the digits of n
abbrev pub begins_among : Sort → ℕ → ℕ → ℕ → List ParamKind → Bool
begins_among of least n at [] = false
begins_among of least n at (k ∷ ks) = if begins_here of least n at k then true else begins_among of least n (at + 1) ks

abbrev pub begins_number : Scope → Sort → ℕ → ℕ → Bool
begins_number s of least n = if s.alone then nat_lt 0 n && nat_le n 4294967295 else begins_among of least n 1 s.kinds

-- how many bytes are left after the digits at the front that begin such a number, after those that were read
abbrev pub left_of_number : Scope → Sort → ℕ → ℕ → List ℕ → ℕ
left_of_number s of least read [] = 0
left_of_number s of least read (b ∷ bytes) =
    if not (is_ascii_digit b) || nat_lt 4294967295 read then suc (length bytes) else
    if begins_number s of least (10 * read + (b - 48)) then left_of_number s of least (10 * read + (b - 48)) bytes else
    suc (length bytes)

abbrev pub accepted : Scope → Sort → ℕ → Result (ℕ × List ℕ) ℕ → ℕ → Result (ℕ × List ℕ) ℕ
accepted s of least (Ok x) left = if nat_le least x.0 && names s of x.0 then Ok x else Err left
accepted s of least (Err at) left = Err left

-- the number, at least `least`, of a parameter of the sort
unfoldable pub number_at : Scope → Sort → ℕ → List ℕ → Result (ℕ × List ℕ) ℕ
number_at s of least bytes = accepted s of least (digits_at 4294967295 bytes) (left_of_number s of least 0 bytes)

-- the number after a mark, which is refused where the text has no such parameter
unfoldable pub parameter_at : Scope → Sort → List ℕ → List ℕ → Result (ℕ × List ℕ) ℕ
parameter_at s of bytes behind_mark = if nat_le 1 (last_in s of) then number_at s of 1 behind_mark else Err (length bytes)

-- the scope of a specification with these parameters
abbrev pub scope_of : List ParamKind → Scope
scope_of kinds = record { alone = false; kinds = kinds; last_type = last_from sort.Type 0 0 kinds; last_constant = last_from sort.Constant 0 0 kinds }
