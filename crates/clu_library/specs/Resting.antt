-- The modules on which a body rests.
use Rattle.std.specs.Prelude.{◌≢◌, ℕ, List, [], ◌∷◌, Contains, find, Option, Some, None}
use Rattle.std.specs.List.{filter_map}
use Rattle.std.specs.Str.{bytes_eq}
use Rattle.clu_types.specs.Specs.{with_spec}
use Rattle.clu_types.specs.declared.spec.Spec.{Spec}
use Rattle.clu_types.specs.declared.term.Term.{Term}
use Rattle.clu_types.specs.declared.term.Term.TheVariants as term

-- the module of a type, if it is that of a cluster
abbrev pub cluster_name : Term → Option (List ℕ)
cluster_name (term.Cluster name actuals) = Some name
cluster_name _ = None

-- the modules that a specification names
abbrev pub names : Spec → List (List ℕ)
names s = filter_map cluster_name s.types

abbrev pub names_of : Option Spec → List (List ℕ)
names_of None = []
names_of (Some s) = names s

-- the modules that the specification of a module names
abbrev pub named_by : List Spec → List ℕ → List (List ℕ)
named_by specs name = names_of (find (λ s. bytes_eq s.name name) specs)

-- a way to a module, its last step first: it begins with one of the names, each module of it is named by the one before, and none is `own`
abbrev pub IsWay : List Spec → List ℕ → List (List ℕ) → List ℕ → List (List ℕ) → Type 0
IsWay specs own names m [] = (m ≢ own) × Contains names m
IsWay specs own names m (before ∷ way) = (m ≢ own) × Contains (named_by specs before) m × IsWay specs own names before way

-- the module m is one on which a body of the module `own` rests that has these names, or all
abbrev pub RestsOn : List Spec → List ℕ → Option (List (List ℕ)) → List ℕ → Type 0
RestsOn specs own None m = m ≢ own
RestsOn specs own (Some names) m = (way : List (List ℕ)) × IsWay specs own names m way

-- these are the modules on which it rests
pub record IsClosure (specs : List Spec) (own : List ℕ) (names found : List (List ℕ)) : Type 0 where
  pub rests : (m : List ℕ) → Contains found m → RestsOn specs own (Some names) m
  pub all : (m : List ℕ) → RestsOn specs own (Some names) m → Contains found m

-- the specifications, with one in the place of that of its module
abbrev pub with_changed : List Spec → Option Spec → List Spec
with_changed specs None = specs
with_changed specs (Some s) = with_spec specs s
