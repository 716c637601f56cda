-- The components of a record or struct are all that its term has.
use Rattle.std.proofs.Common.{◌≡◌, List, Option, Some, None, subst}
use Rattle.std.specs.Option.{option_and_then}
use Rattle.std.proofs.lemmas.Option.{none-some}
use Rattle.clu_types.specs.declared.term.Field.{Field}
use Rattle.clu_types.specs.declared.term.Term.{Term}
use Rattle.clu_name_rules.specs.Components.{AreAscending, components_of, fields_in}
use Rattle.clu_name_rules.proofs.Found.{components_are}

pub components_ascend : (its : Option Term) → AreAscending (fields_in its) → (fields : List Field) → option_and_then components_of its ≡ Some fields → AreAscending fields
components_ascend (Some its) up fields e = subst AreAscending (components_are its fields e) up
components_ascend None up fields e = absurd (none-some fields e)
