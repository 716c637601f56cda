-- What the table of raises has of statements: sets that are equal to those of the definitions.
use Rattle.std.specs.Prelude.{◌≡◌, ◌⊎◌, ℕ, Bool, true, false, List, [], ◌∷◌, Some}
use Rattle.clu_grammar.specs.Kinds.{is_statement}
use Rattle.clu_operations.specs.Words.{named}
use Rattle.clu_typing.specs.declared.raising.Raise.{Raise}
use Rattle.clu_typing.specs.Facts.{raised_at}
use Rattle.clu_typing.specs.Raised.{raises_of}
use Rattle.clu_checking.specs.Files.{File, item, kind_in}
use Rattle.clu_checking.specs.Raising as definition
use Rattle.clu_checking.specs.Raising.{by_statement}
use Rattle.clu_checking.specs.StatementRules.{as_list, known}
use Rattle.clu_type_rules.specs.declared.known.Known.{Known}
use Rattle.clu_type_rules.specs.ExceptionRules.{raised_objects}
use Rattle.clu_passes.specs.FactTables.{AreTypes}

abbrev pub IsAmong : {A : Type 0} → A → List A → Type 0
IsAmong x [] = ⊥
IsAmong x (y ∷ ys) = (x ≡ y) ⊎ IsAmong x ys

module _ (k : Known) where
  -- by the number of its name, and the types of its objects
  abbrev pub IsRaise : Raise → definition.Raise → Type 0
  IsRaise r x = (named k.facts.now.finding.words x.0 ≡ Some r.name) × AreTypes k.tables.types.now (raised_objects k r) (known (as_list x.1))

  -- each of both is one of the other
  pub record AreSame (rs : List Raise) (xs : List definition.Raise) : Type 0 where
    pub kept : (x : definition.Raise) → IsAmong x xs → (r : Raise) × (IsAmong r rs × IsRaise r x)
    pub told : (r : Raise) → IsAmong r rs → (x : definition.Raise) × (IsAmong x xs × IsRaise r x)

-- of statements at which nothing is lost
abbrev pub AreRaises : File → Known → (ℕ → Bool) → Type 0
AreRaises f k lost = (n : ℕ) → is_statement (kind_in f n) ≡ true → lost n ≡ false → AreSame k (raises_of k.facts.now.raising (raised_at k.facts.now n)) (by_statement f (item f n).statement)
