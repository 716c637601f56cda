-- What each node raises, by what its parts raise: the row of each kind of node, read from tables.
use Rattle.std.specs.Prelude.{◌≡◌, ◌++◌, ℕ, not, bytes_eq, if◌then◌else◌, Bool, true, false, List, [], ◌∷◌, filter, flat_map, fold, slice_get, Option, Some, None}
use Rattle.std.specs.List.{list_any}
use Rattle.clu_tree.specs.declared.node.NodeKind.{NodeKind}
use Rattle.clu_tree.specs.declared.node.NodeKind.TheVariants as kind
use Rattle.clu_syntax.specs.Kinds.{is_expression}
use Rattle.clu_syntax.specs.Splits.{is_of}
use Rattle.clu_types.specs.Arena.{type_at, types_of}
use Rattle.clu_types.specs.declared.term.Term.{Term}
use Rattle.clu_types.specs.declared.term.TypeId.{TypeId}
use Rattle.clu_settle.specs.Names.{names_of}
use Rattle.clu_bindings.specs.declared.file.File.{File}
use Rattle.clu_bindings.specs.declared.meaning.Meaning.{Meaning}
use Rattle.clu_bindings.specs.declared.meaning.Meaning.TheVariants as meaning
use Rattle.clu_bindings.specs.Readers.{children_in, kind_in, meaning_in}
use Rattle.clu_operations.specs.declared.words.NameId.{NameId}
use Rattle.clu_operations.specs.Finding.{Extends}
use Rattle.clu_operations.specs.Words.{named}
use Rattle.clu_typing.specs.declared.applied.Applied.{Applied}
use Rattle.clu_typing.specs.declared.applied.Applied.TheVariants as applied
use Rattle.clu_typing.specs.declared.facts.Facts.{Facts}
use Rattle.clu_typing.specs.declared.raising.RaisesId.{RaisesId}
use Rattle.clu_typing.specs.Facts.{operation_type, raised_at, type_of}
use Rattle.clu_typing.specs.Nodes.{has_actuals}
use Rattle.clu_typing.specs.Raised.{Raised}
use Rattle.clu_typing.specs.Raising.{AreRaises, Follows, IsSet, Told, failing, failure, invoked_by, set_told}
use Rattle.clu_typing.specs.Sets.{Has, HaveSame}

-- ---- which nodes raise what stands in them

-- statements and their parts, and expressions but for those with actual parameters
unfoldable pub is_done_as : NodeKind → Bool → Bool
is_done_as kind.Index actuals = not actuals
is_done_as kind.Except actuals = true
is_done_as kind.Resignal actuals = true
is_done_as kind.SetField actuals = true
is_done_as kind.SetIndex actuals = true
is_done_as kind.FieldE actuals = true
is_done_as kind.Init actuals = true
is_done_as kind.Assign actuals = true
is_done_as kind.CallS actuals = true
is_done_as kind.While actuals = true
is_done_as kind.For actuals = true
is_done_as kind.If actuals = true
is_done_as kind.Tagcase actuals = true
is_done_as kind.TagArm actuals = true
is_done_as kind.Return actuals = true
is_done_as kind.Yield actuals = true
is_done_as kind.Signal actuals = true
is_done_as kind.Exit actuals = true
is_done_as kind.Begin actuals = true
is_done_as kind.When actuals = true
is_done_as kind.Others actuals = true
is_done_as k actuals = is_expression k

-- a name that denotes a variable, which may have no object
abbrev pub is_variable : Meaning → Bool
is_variable (meaning.Local t) = true
is_variable (meaning.OwnOfRoutine t) = true
is_variable (meaning.OwnOfCluster t) = true
is_variable _ = false

abbrev pub tail_of : List ℕ → List ℕ
tail_of (first ∷ rest) = rest
tail_of [] = []

-- an Except or a Resignal, whose first child is the statement
abbrev pub guards_as : NodeKind → Bool
guards_as kind.Except = true
guards_as kind.Resignal = true
guards_as _ = false

-- ---- statements with handlers

-- all raises of a statement but those of these names
abbrev pub is_named : List (List ℕ) → Told → Bool
is_named names raise = list_any (bytes_eq raise.0) names

abbrev pub told_without : List (List ℕ) → List Told → List Told
told_without names raises = filter (λ raise. not (is_named names raise)) raises

-- the numbers of names that are kept
abbrev pub with_id : List NameId → Option NameId → List NameId
with_id made (Some id) = made ++ id ∷ []
with_id made None = made

abbrev pub with_number : List (List ℕ) → List NameId → List ℕ → List NameId
with_number kept made name = with_id made (named kept name)

abbrev pub numbers_behind : List (List ℕ) → List NameId → List (List ℕ) → List NameId
numbers_behind kept made names = fold (with_number kept) made names

module _ (f : File) where
  abbrev pub is_done : ℕ → Bool
  is_done n = is_done_as (kind_in f n) (has_actuals f n)

  -- a variable, or a constructor of an array or a sequence
  abbrev pub fails_as : NodeKind → ℕ → Bool
  fails_as kind.Name n = is_variable (meaning_in f n)
  fails_as kind.Elems n = true
  fails_as _ n = false

  abbrev pub fails : ℕ → Bool
  fails n = fails_as (kind_in f n) n

  abbrev pub guards : ℕ → Bool
  guards n = guards_as (kind_in f n)

  -- the statement, which is the first child, and the arms behind it
  abbrev pub statement_in : ℕ → Option ℕ
  statement_in n = slice_get (children_in f n) 0

  abbrev pub arms_in : ℕ → List ℕ
  arms_in n = tail_of (children_in f n)

  -- the children whose raises are those of the node too
  abbrev pub parts : ℕ → List ℕ
  parts n = if guards n then arms_in n else children_in f n

  abbrev pub names_at : ℕ → List (List ℕ)
  names_at n = names_of (slice_get f.syntax.now n)

  abbrev pub is_others : ℕ → Bool
  is_others n = is_of kind.Others (kind_in f n)

  -- the names of a Resignal, or of the arms of an Except
  abbrev pub taken_as : NodeKind → ℕ → List ℕ → List (List ℕ)
  taken_as kind.Resignal n arms = names_at n
  taken_as _ n arms = flat_map names_at arms

  abbrev pub taken_at : ℕ → List ℕ → List (List ℕ)
  taken_at n arms = taken_as (kind_in f n) n arms

  abbrev pub numbers_of_arms : List (List ℕ) → List NameId → List ℕ → List NameId
  numbers_of_arms kept made arms = fold (λ made arm. numbers_behind kept made (names_at arm)) made arms

  -- their numbers
  abbrev pub numbers_as : NodeKind → List (List ℕ) → ℕ → List ℕ → List NameId
  numbers_as kind.Resignal kept n arms = numbers_behind kept [] (names_at n)
  numbers_as _ kept n arms = numbers_of_arms kept [] arms

  abbrev pub numbers_taken : List (List ℕ) → ℕ → List ℕ → List NameId
  numbers_taken kept n arms = numbers_as (kind_in f n) kept n arms

  -- what of a statement isn't taken
  abbrev pub passed_on : ℕ → List ℕ → List Told → List Told
  passed_on n arms raises = if list_any is_others arms then [] else told_without (taken_at n arms) raises

-- ---- what is invoked

-- the first operation, and the one behind a comparison with `~`
abbrev pub first_operation : Facts → Applied → Option TypeId
first_operation facts (applied.Invoked first second) = operation_type facts first.operation
first_operation facts _ = None

abbrev pub second_operation : Facts → Applied → Option TypeId
second_operation facts (applied.Invoked first (Some second)) = operation_type facts second.operation
second_operation facts _ = None

abbrev pub called_in : Facts → List ℕ → Option TypeId
called_in facts (routine ∷ arguments) = type_of facts routine
called_in facts [] = None

abbrev pub invoked_told : List Term → Option TypeId → List Told
invoked_told terms (Some of) = invoked_by (type_at (types_of terms) of)
invoked_told terms None = []

module _ (f : File) (facts : Facts) where
  -- a call invokes what has the type of its first child
  abbrev pub first_as : NodeKind → Applied → ℕ → Option TypeId
  first_as kind.Call its n = called_in facts (children_in f n)
  first_as _ its n = first_operation facts its

  abbrev pub first_invoked : Applied → ℕ → Option TypeId
  first_invoked its n = first_as (kind_in f n) its n

-- ---- the row of a node

-- what is in the table
abbrev pub raised_told : List Term → Facts → ℕ → List Told
raised_told terms facts n = set_told terms facts.finding.words facts.raising (raised_at facts n)

abbrev pub failing_told : File → ℕ → List Told
failing_told f n = if fails f n then failure ∷ [] else []

module _ (f : File) (terms : List Term) (facts : Facts) where
  abbrev pub passed_from : ℕ → Option ℕ → List Told
  passed_from n (Some statement) = passed_on f n (arms_in f n) (raised_told terms facts statement)
  passed_from n None = []

  abbrev pub passed_told : ℕ → List Told
  passed_told n = if guards f n then passed_from n (statement_in f n) else []

  -- behind what its parts raise, what isn't taken, a variable without an object, and what is invoked
  abbrev pub done_told : Applied → ℕ → List Told
  done_told its n =
      (((flat_map (raised_told terms facts) (parts f n) ++ passed_told n) ++ failing_told f n)
      ++ invoked_told terms (first_invoked f facts its n)) ++ invoked_told terms (second_operation facts its)

  abbrev pub row_told : Applied → ℕ → List Told
  row_told its n = if is_done f n then done_told its n else []

-- ---- sets that are to be put together

abbrev pub with_failing : Bool → List RaisesId → List RaisesId
with_failing true list = list ++ failing ∷ []
with_failing false list = list

-- these sets tell this together, where all that is kept is right and follows what there was first
pub record AreGathered (terms : List Term) (names : List (List ℕ)) (first : Raised) (more : List (List ℕ)) (all : Raised) (list : List RaisesId) (told : List Told) : Type 0 where
  pub right : AreRaises terms more all
  pub named : Extends names more
  pub kept : Follows first all
  pub each : (one : RaisesId) → Has list one → IsSet all one
  pub raises : HaveSame (flat_map (set_told terms more all) list) told

-- Of the tables of nodes all stay but what is kept of names and raises.
pub record StayBut (old new : Facts) : Type 0 where
  pub types : new.types ≡ old.types
  pub invocations : new.invocations ≡ old.invocations
  pub invoked : new.invoked ≡ old.invoked
  pub raises : new.raises ≡ old.raises
  pub founds : new.finding.founds ≡ old.finding.founds
  pub asked : new.finding.asked ≡ old.finding.asked
  pub wished : new.finding.wished ≡ old.finding.wished
  pub given : new.finding.given ≡ old.finding.given
  pub shown : new.finding.shown ≡ old.finding.shown

-- the numbers of the sets of nodes are there
abbrev pub AreSets : Facts → Type 0
AreSets facts = (n : ℕ) → IsSet facts.raising (raised_at facts n)
