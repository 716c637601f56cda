-- Lists of specifications that ascend by name.
use Rattle.std.specs.Prelude.{◌≡◌, ℕ, suc, List, [], ◌∷◌, Result, Ok, Err}
use Rattle.std.specs.Ordering.{nat_cmp}
use Rattle.std.specs.Cmp.Lexicographic.{slice_cmp}
use Rattle.std.specs.declared.cmp.Ordering.{Ordering}
use Rattle.std.specs.declared.cmp.Ordering.TheVariants.{Less, Equal, Greater}
use Rattle.clu_types.specs.declared.spec.Spec.{Spec}

-- the order of two names, by their bytes
abbrev pub name_order : List ℕ → List ℕ → Ordering
name_order = slice_cmp nat_cmp

-- each of the names is greater than this one
abbrev pub ComeAfter : List ℕ → List Spec → Type 0
ComeAfter name [] = Unit {0}
ComeAfter name (s ∷ ss) = (name_order name s.name ≡ Less) × ComeAfter name ss

abbrev pub AreAscending : List Spec → Type 0
AreAscending [] = Unit {0}
AreAscending (s ∷ ss) = ComeAfter s.name ss × AreAscending ss

-- a specification s and the first of a list, x, by the order of their names: s before x, in its place, or further on
abbrev pub placed : Ordering → Spec → Spec → List Spec → List Spec → List Spec
placed Less s x xs further = x ∷ further
placed Equal s x xs further = s ∷ xs
placed Greater s x xs further = s ∷ x ∷ xs

-- the list with a specification at its place, or in the place of the one of its name
abbrev pub with_spec : List Spec → Spec → List Spec
with_spec [] s = s ∷ []
with_spec (x ∷ xs) s = placed (name_order x.name s.name) s x xs (with_spec xs s)

-- the place of a name: that of the specification which has it, or else where it belongs
abbrev pub further : Result ℕ ℕ → Result ℕ ℕ
further (Ok i) = Ok (suc i)
further (Err i) = Err (suc i)

abbrev pub place_by : Ordering → Result ℕ ℕ → Result ℕ ℕ
place_by Less behind = further behind
place_by Equal behind = Ok 0
place_by Greater behind = Err 0

abbrev pub place_of : List Spec → List ℕ → Result ℕ ℕ
place_of [] name = Err 0
place_of (x ∷ xs) name = place_by (name_order x.name name) (place_of xs name)
