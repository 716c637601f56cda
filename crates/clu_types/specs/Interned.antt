-- A list of terms, each once, with the number of each.
use Rattle.std.specs.Prelude.{◌≡◌, ℕ, List, [], ◌∷◌, ◌++◌, ◌⊎◌, Some, slice_get}
use Rattle.std.specs.HashMap.{HashMap, get}
use Rattle.clu_types.specs.declared.term.Term.{Term}
use Rattle.clu_types.specs.contracts.term.TermPartialEq.TheImpl as terms

-- the map has the number of each term of the list, and no other
pub record AreNumbered {S : Type 0} (numbers : HashMap Term ℕ S) (list : List Term) : Type 0 where
  pub told : (t : Term) (n : ℕ) → get (terms.ghosts).eq numbers t ≡ Some n → slice_get list n ≡ Some t
  pub known : (t : Term) (n : ℕ) → slice_get list n ≡ Some t → get (terms.ghosts).eq numbers t ≡ Some n

-- the list does not have the term
abbrev pub IsNew : List Term → Term → Type 0
IsNew list t = (n : ℕ) → slice_get list n ≡ Some t → ⊥

-- the term was there, or has come behind the others
abbrev pub IsAddedTo : List Term → List Term → Term → Type 0
IsAddedTo old new t = (new ≡ old) ⊎ ((new ≡ old ++ t ∷ []) × IsNew old t)
