-- Exceptions that may be raised: names with the types of their objects, the actuals put in.
use Rattle.std.specs.Prelude.{◌≡◌, ℕ, true, List, [], ◌∷◌, ◌⊎◌, codes}
use Rattle.clu_types.specs.CluType.{string_type, CluTypes, no_types, type_and, Signals, no_signals, signal_and}
use Rattle.clu_layout.specs.Objects.{Object, own_types}
use Rattle.clu_layout.specs.SameType.{all_fit}

abbrev pub Raise : Type 0
Raise = List ℕ × CluTypes

-- the exception with these objects is one of them
abbrev pub Takes : List Raise → List ℕ → List Object → Type 0
Takes [] name os = ⊥
Takes (r ∷ rs) name os = ((r.0 ≡ name) × (all_fit (own_types os) r.1 ≡ true)) ⊎ Takes rs name os

-- each exception of the first list is one of the second
pub record Covers (few many : List Raise) : Type 0 where
  pub at : (name : List ℕ) (os : List Object) → Takes few name os → Takes many name os

abbrev pub failing : Raise
failing = (codes "failure", type_and string_type no_types)

abbrev pub listed : Signals → List Raise
listed no_signals = []
listed (signal_and name ts rest) = (name, ts) ∷ listed rest

-- what a routine may raise whose heading has these signals
abbrev pub raised_by : Signals → List Raise
raised_by ss = failing ∷ listed ss
