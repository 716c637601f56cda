-- The latest revisions at which the modules were replaced that a module leads to.
use Rattle.std.specs.Prelude.{◌≤◌, ◌⊎◌, ◌&&◌, ◌||◌, ℕ, Bool, true, List, Contains, Option, Some, None, slice_get, unwrap_or, position, find, is_some, nat_le, nat_lt, IsSome, IsTrue}
use Rattle.std.specs.List.{list_all, list_any}
use Rattle.std.specs.Str.{bytes_eq}
use Rattle.clu_types.specs.declared.spec.Spec.{Spec}
use Rattle.clu_library.specs.Resting.{names, named_by}
use Rattle.clu_library.specs.Staleness.{changed_in}
use Rattle.clu_library.specs.declared.body.Change.{Change}
use Rattle.clu_library.specs.declared.latest.Table.{Table}

-- the row of a number, 0 if there is none
abbrev pub row_of : List ℕ → Option ℕ → ℕ
row_of rows None = 0
row_of rows (Some n) = unwrap_or (slice_get rows n) 0

-- what a table says of a module
abbrev pub in_table : Table → List ℕ → ℕ
in_table table name = row_of table.latest.items (position (bytes_eq name) table.modules.keys)

-- the place of a module in the order in which they got their revisions
abbrev pub rank_in : Table → List ℕ → ℕ
rank_in table name = row_of table.ranks.items (position (bytes_eq name) table.modules.keys)

-- what is said of a module is at least what is said of each that its specification names, and at least its own revision
pub record AreBounds (specs : List Spec) (changes : List Change) (bound : List ℕ → ℕ) : Type 0 where
  pub named : (name m : List ℕ) → Contains (named_by specs name) m → bound m ≤ bound name
  pub changed : (name : List ℕ) → changed_in changes name ≤ bound name

-- the same as tests of one specification and of one change
abbrev pub bounds_spec : (List ℕ → ℕ) → Spec → Bool
bounds_spec bound s = list_all (λ m. nat_le (bound m) (bound s.name)) (names s)

abbrev pub bounds_change : (List ℕ → ℕ) → Change → Bool
bounds_change bound c = nat_le c.revision (bound c.name)

-- a specification passes a test, if there is one
abbrev pub passes_if : (Spec → Bool) → Option Spec → Bool
passes_if test None = true
passes_if test (Some s) = test s

-- what is said of each of the modules is at most a revision
abbrev pub at_most : (List ℕ → ℕ) → ℕ → List (List ℕ) → Bool
at_most bound revision names = list_all (λ m. nat_le (bound m) revision) names

-- a module is kept, what is said of it is from `least` on, and it was reached before the module `own`
abbrev pub leads : List Spec → (List ℕ → ℕ) → (List ℕ → ℕ) → List ℕ → ℕ → List ℕ → Bool
leads specs bound rank own least m = nat_le least (bound m) && nat_lt (rank m) (rank own) && is_some (find (λ s. bytes_eq s.name m) specs)

-- what is said of a kept module is at most its own revision, or its specification names one that was reached before it and of which as much is said
pub record AreReached (specs : List Spec) (changes : List Change) (bound rank : List ℕ → ℕ) : Type 0 where
  pub reached : (name : List ℕ) → IsSome (find (λ s. bytes_eq s.name name) specs)
      → (bound name ≤ changed_in changes name) ⊎ ((m : List ℕ) × Contains (named_by specs name) m × IsTrue (leads specs bound rank name (bound name) m))

-- the same as a test of one specification
abbrev pub reaches_spec : List Spec → List Change → (List ℕ → ℕ) → (List ℕ → ℕ) → Spec → Bool
reaches_spec specs changes bound rank s = nat_le (bound s.name) (changed_in changes s.name) || list_any (leads specs bound rank s.name (bound s.name)) (names s)
