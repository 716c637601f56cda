-- The numbers of specifications by the names of their modules.
use Rattle.std.specs.Prelude.{◌≡◌, ℕ, cond, List, Option, Some, None, slice_get}
use Rattle.std.specs.Map.{lookup}
use Rattle.std.specs.Str.{bytes_eq}
use Rattle.clu_types.specs.declared.spec.Spec.{Spec}

-- the number that a map has of a name
abbrev pub number_of : List (List ℕ × ℕ) → List ℕ → Option ℕ
number_of entries name = lookup (bytes_eq name) entries

-- each specification's name has its number, and no other name has one
pub record AreNumbered (specs : List Spec) (entries : List (List ℕ × ℕ)) : Type 0 where
  pub all : (n : ℕ) (s : Spec) → slice_get specs n ≡ Some s → number_of entries s.name ≡ Some n
  pub of : (name : List ℕ) (n : ℕ) → number_of entries name ≡ Some n → (s : Spec) × (slice_get specs n ≡ Some s) × (s.name ≡ name)

-- a name that had none has this number, and the others have theirs
pub record IsNumbered (before after : List (List ℕ × ℕ)) (name : List ℕ) (n : ℕ) : Type 0 where
  pub new : number_of before name ≡ None
  pub others : (m : List ℕ) → number_of after m ≡ cond (bytes_eq name m) (Some n) (number_of before m)
