-- What was found, by its place, and what it keeps while more is found.
use Rattle.std.specs.Prelude.{◌≡◌, ℕ, ◌<◌, ◌≤◌, List, [], ◌∷◌, ◌++◌, length, slice_get, IfSome, Option, Some, None}
use Rattle.clu_types.specs.declared.term.TypeId.{TypeId}
use Rattle.clu_bindings.specs.Tables.{between}
use Rattle.clu_operations.specs.declared.found.Asked.{Asked}
use Rattle.clu_operations.specs.declared.found.Found.{Found}
use Rattle.clu_operations.specs.declared.found.FoundId.{FoundId}
use Rattle.clu_operations.specs.declared.finding.Finding.{Finding}
use Rattle.clu_operations.specs.declared.words.NameId.{NameId}
use Rattle.clu_operations.specs.Words.{AreOnce}

-- what is not there has no type, and asks nothing
abbrev pub found_or_none : Option Found → Found
found_or_none (Some found) = found
found_or_none None = record { of = None; from = 0; to = 0 }

abbrev pub found_at : List Found → FoundId → Found
found_at founds id = found_or_none (slice_get founds id.0)

module _ (finding : Finding) where
  -- what it asks
  abbrev pub asked_by : FoundId → List Asked
  asked_by id = between finding.asked.items (found_at finding.founds.items id).from (found_at finding.founds.items id).to

-- One more was found, of this type, which asks what stands behind this place.
pub record IsOneMore (old new : Finding) (of : Option TypeId) (from : ℕ) (id : FoundId) : Type 0 where
  pub number : id.0 ≡ length old.founds.items
  pub founds : new.founds.items ≡ old.founds.items ++ record { of = of; from = from; to = length old.asked.items } ∷ []
  pub asked : new.asked ≡ old.asked
  pub words : new.words ≡ old.words
  pub wished : new.wished ≡ old.wished
  pub given : new.given ≡ old.given
  pub shown : new.shown ≡ old.shown

-- ---- numbers that are there: of so many types, names and things that are asked

abbrev pub IsBelowIf : ℕ → Option TypeId → Type 0
IsBelowIf types of = IfSome of (λ id. id.0 < types)

abbrev pub IsNameBelow : ℕ → Option NameId → Type 0
IsNameBelow names operation = IfSome operation (λ id. id.0 < names)

abbrev pub IsAskedBelow : ℕ → ℕ → Asked → Type 0
IsAskedBelow types names a = (a.of.0 < types) × (a.wanted.0 < types) × (a.operation.0 < names)

abbrev pub AreAskedBelow : ℕ → ℕ → List Asked → Type 0
AreAskedBelow types names [] = Unit {0}
AreAskedBelow types names (a ∷ asked) = IsAskedBelow types names a × AreAskedBelow types names asked

abbrev pub IsFoundBelow : ℕ → ℕ → Found → Type 0
IsFoundBelow types asked found = IsBelowIf types found.of × (found.to ≤ asked)

abbrev pub AreFoundBelow : ℕ → ℕ → List Found → Type 0
AreFoundBelow types asked [] = Unit {0}
AreFoundBelow types asked (found ∷ founds) = IsFoundBelow types asked found × AreFoundBelow types asked founds

-- all numbers are there, where there are so many types
pub record AreWithin (types : ℕ) (finding : Finding) : Type 0 where
  pub founds : AreFoundBelow types (length finding.asked.items) finding.founds.items
  pub asked : AreAskedBelow types (length finding.words) finding.asked.items

-- ---- more is found

module _ {A : Type 0} where
  -- the items stay, and more may have come after them
  abbrev pub Extends : List A → List A → Type 0
  Extends old new = (more : List A) × (new ≡ old ++ more)

-- what was found stays
pub record Follows (old new : Finding) : Type 0 where
  pub words : Extends old.words new.words
  pub once : AreOnce old.words → AreOnce new.words
  pub founds : Extends old.founds.items new.founds.items
  pub asked : Extends old.asked.items new.asked.items
  pub given : new.given ≡ old.given
