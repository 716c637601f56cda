-- Inclusion of routine types, by the numbers of their parts.
use Rattle.std.specs.Prelude.{◌≡◌, List, [], ◌∷◌, ◌⊎◌}
use Rattle.clu_types.specs.declared.term.Exception.{Exception}
use Rattle.clu_types.specs.declared.term.Heading.{Heading}

abbrev pub HasException : Exception → List Exception → Type 0
HasException wanted [] = ⊥
HasException wanted (s ∷ ss) = (s ≡ wanted) ⊎ HasException wanted ss

abbrev pub AreExceptionsOf : List Exception → List Exception → Type 0
AreExceptionsOf [] many = Unit {0}
AreExceptionsOf (s ∷ few) many = HasException s many × AreExceptionsOf few many

-- the exceptions of the first list are among those of the second
abbrev pub AreAmongThese : List Exception → List Exception → Type 0
AreAmongThese few many = (e : Exception) → HasException e few → HasException e many

-- the same arguments and results, and no exception that the other heading lacks
abbrev pub IsNarrowerHeading : Heading → Heading → Type 0
IsNarrowerHeading narrow wide = (narrow.args ≡ wide.args) × (narrow.results ≡ wide.results) × AreExceptionsOf narrow.signals wide.signals
