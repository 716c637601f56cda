-- The nodes of a file one after the other: of each what is known by what is known of the nodes before it.
use Rattle.std.specs.Prelude.{◌≡◌, ℕ, zero, suc, ◌<◌, List, [], ◌∷◌, ◌++◌, length, Option}
use Rattle.std.specs.List.{AllByRecursion}
use Rattle.clu_types.specs.declared.term.TypeId.{TypeId}
use Rattle.clu_types.specs.declared.term.Term.{Term}
use Rattle.clu_types.specs.Arena.{Grows}
use Rattle.clu_syntax.specs.Items.{Item}
use Rattle.clu_settle.specs.Lists.{type_id}
use Rattle.clu_bindings.specs.declared.file.Headed.{Headed}
use Rattle.clu_bindings.specs.Inside.{own_type}
use Rattle.clu_bindings.specs.Readers.{children_in, value_in}
use Rattle.clu_operations.specs.declared.finding.Finding.{Finding}
use Rattle.clu_operations.specs.Finding.{IsBelowIf}
use Rattle.clu_operations.specs.Wished.{AreHeads, FindsNothing, IsFinding}
use Rattle.clu_typing.specs.declared.applied.Applied.{Applied}
use Rattle.clu_typing.specs.declared.facts.Facts.{Facts}
use Rattle.clu_typing.specs.declared.raising.RaisesId.{RaisesId}
use Rattle.clu_typing.specs.Facts.{type_of}
use Rattle.clu_typing.specs.Found.{FindsMore, HaveOperands, IsAppliedTold}
use Rattle.clu_typing.specs.Invoked.{invoked_at}
use Rattle.clu_typing.specs.Invoking.{lists_of, no_lists, begun, noted, module_at, NotesModule}
use Rattle.clu_typing.specs.Raises.{AreSets, first_invoked, raised_told, second_operation, row_told}
use Rattle.clu_typing.specs.Raising.{AreRaises, IsSetOf, no_raises}
use Rattle.clu_typing.specs.Sets.{HaveSame}
use Rattle.clu_typing.specs.Stands.{stands_at, IsApplied}
use Rattle.clu_typing.specs.Typing.{IsNodeType}

-- What is noted of a node. First it is found for which operation it stands, then its type, then the module that it names, and
-- each time there may be more types and more that was found.
pub record IsNoted (h : Headed) (items : ℕ → Item) (n : ℕ) (old new : List Term) (before now : Facts) (its : Applied) : Type 0 where
  pub of : Option TypeId
  pub applied_terms : List Term
  pub typed_terms : List Term
  pub applied_finding : Finding
  pub typed_finding : Finding
  pub applied_grows : Grows old applied_terms
  pub typed_grows : Grows applied_terms typed_terms
  pub grows : Grows typed_terms new
  pub applied : IsApplied before.finding.words (stands_at h.file before.types.items n items) its
  pub applied_found : HaveOperands h.file before.types.items (length old) → IsFinding h old before.finding → FindsMore h applied_terms before.finding applied_finding × IsAppliedTold h applied_terms applied_finding n (stands_at h.file before.types.items n items) its
  pub typed : IsNodeType applied_terms typed_terms applied_finding typed_finding h n its before.types.items items of
  pub typed_found : IsBelowIf (length applied_terms) (type_id (value_in h.file n)) → IsFinding h applied_terms applied_finding → FindsMore h typed_terms applied_finding typed_finding
  pub types : now.types.items ≡ before.types.items ++ of ∷ []
  pub lists : NotesModule h typed_terms new typed_finding now.finding (module_at h.file typed_terms n) (noted h.file now.types.items typed_finding its n (begun (lists_of before.invocations))) (lists_of now.invocations)
  pub module_found : IsBelowIf (length typed_terms) (module_at h.file typed_terms n) → IsFinding h typed_terms typed_finding → FindsMore h new typed_finding now.finding
  pub invoked : now.invoked.items ≡ before.invoked.items ++ invoked_at h.file new before.invoked.items its n ∷ []
  pub raises : now.raises ≡ before.raises
  pub raising : now.raising ≡ before.raising

-- What it raises comes behind what the nodes before it raise, and else names alone are kept.
pub record IsRaised (h : Headed) (n : ℕ) (terms : List Term) (before now : Facts) (its : Applied) : Type 0 where
  pub set : RaisesId
  pub raises : now.raises.items ≡ before.raises.items ++ set ∷ []
  pub row : AreRaises terms before.finding.words before.raising → AreSets before → IsBelowIf (length terms) (first_invoked h.file before its n) → IsBelowIf (length terms) (second_operation before its)
      → IsSetOf terms before.finding.words now.finding.words before.raising now.raising (row_told h.file terms before its n) set
  pub types : now.types ≡ before.types
  pub invocations : now.invocations ≡ before.invocations
  pub invoked : now.invoked ≡ before.invoked
  pub founds : now.finding.founds ≡ before.finding.founds
  pub asked : now.finding.asked ≡ before.finding.asked
  pub wished : now.finding.wished ≡ before.finding.wished
  pub given : now.finding.given ≡ before.finding.given
  pub shown : now.finding.shown ≡ before.finding.shown

-- what is known of one node more
abbrev pub IsNext : Headed → (ℕ → Item) → ℕ → List Term → List Term → Facts → Facts → Type 0
IsNext h items n old new before now = (its : Applied) × (noted : Facts) × IsNoted h items n old new before noted its × IsRaised h n new noted now its

-- nothing at all
pub record HasNothing (facts : Facts) : Type 0 where
  pub types : facts.types.items ≡ []
  pub lists : lists_of facts.invocations ≡ no_lists
  pub invoked : facts.invoked.items ≡ []
  pub raises : facts.raises.items ≡ []
  pub raising : facts.raising ≡ no_raises
  pub finding : FindsNothing facts.finding

-- Of no node yet, where these were the first terms of types. What where clauses give was found, and the first raises are kept.
pub record KnowsNothing (h : Headed) (first terms : List Term) (facts : Facts) : Type 0 where
  pub types : facts.types.items ≡ []
  pub lists : lists_of facts.invocations ≡ no_lists
  pub invoked : facts.invoked.items ≡ []
  pub raises : facts.raises.items ≡ []
  pub grows : Grows first terms
  pub found : AreHeads h (length first) → IsFinding h terms facts.finding
  pub right : AreHeads h (length first) → AreRaises terms facts.finding.words facts.raising

-- of the nodes before n, where these are the terms of types now
abbrev pub AreKnown : Headed → (ℕ → Item) → List Term → ℕ → List Term → Facts → Type 0
AreKnown h items first zero terms facts = KnowsNothing h first terms facts
AreKnown h items first (suc n) terms facts = (old : List Term) × (before : Facts) × AreKnown h items first n old before × IsNext h items n old terms before facts

-- ---- numbers that are there

-- what a file before the pass has of types is of the arena, of which there are so many
pub record HaveTypes (h : Headed) (types : ℕ) : Type 0 where
  pub heads : AreHeads h types
  pub values : (n : ℕ) → IsBelowIf types (type_id (value_in h.file n))
  pub own : (n : ℕ) → IsBelowIf types (own_type h.file n)

-- All that was found is what was looked for, types of nodes are of the arena, and what is kept of raises is right.
pub record IsSound (h : Headed) (terms : List Term) (facts : Facts) : Type 0 where
  pub finding : IsFinding h terms facts.finding
  pub types : (n : ℕ) → IsBelowIf (length terms) (type_of facts n)
  pub right : AreRaises terms facts.finding.words facts.raising
  pub sets : AreSets facts

-- ---- by the last tables

-- the children of each node stand before it
abbrev pub AreOrdered : Headed → Type 0
AreOrdered h = (n : ℕ) → AllByRecursion (λ c. c < n) (children_in h.file n)

-- The node stands for this, and raises what its row says of what its children raise.
pub record IsRowOf (h : Headed) (items : ℕ → Item) (terms : List Term) (facts : Facts) (n : ℕ) (its : Applied) : Type 0 where
  pub stands : IsAppliedTold h terms facts.finding n (stands_at h.file facts.types.items n items) its
  pub row : HaveSame (raised_told terms facts n) (row_told h.file terms facts its n)

-- of the nodes before n
pub record HaveRows (h : Headed) (items : ℕ → Item) (n : ℕ) (terms : List Term) (facts : Facts) : Type 0 where
  pub types : length facts.types.items ≡ n
  pub raises : length facts.raises.items ≡ n
  pub rows : (k : ℕ) → k < n → (its : Applied) × IsRowOf h items terms facts k its
