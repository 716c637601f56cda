-- What is asked more, one behind the other, told by types.
use Rattle.std.specs.Prelude.{◌≡◌, List, ◌++◌, map, length}
use Rattle.clu_types.specs.Arena.{types_of}
use Rattle.clu_types.specs.declared.term.Term.{Term}
use Rattle.clu_operations.specs.declared.found.Asked.{Asked}
use Rattle.clu_operations.specs.declared.finding.Finding.{Finding}
use Rattle.clu_operations.specs.Finding.{Extends, AreAskedBelow}
use Rattle.clu_operations.specs.Told.{Ask, ask_told}
use Rattle.clu_operations.specs.Words.{AreOnce}

-- these are asked more, and nothing else changes but the names that are kept
pub record AsksMore (terms : List Term) (old new : Finding) (asks : List Ask) : Type 0 where
  pub words : Extends old.words new.words
  pub once : AreOnce old.words → AreOnce new.words
  pub more : List Asked
  pub asked : new.asked.items ≡ old.asked.items ++ more
  pub told : map (ask_told (types_of terms) new.words) more ≡ asks
  pub below : AreAskedBelow (length terms) (length new.words) more
  pub founds : new.founds.items ≡ old.founds.items
  pub wished : new.wished ≡ old.wished
  pub given : new.given ≡ old.given
  pub shown : new.shown ≡ old.shown
