-- How sets of raises come about, and what they tell.
use Rattle.std.specs.Prelude.{◌≡◌, ◌==◌, ◌&&◌, ◌<◌, ℕ, not, codes, Bool, true, false, List, [], ◌∷◌, ◌++◌, filter, flat_map, fold, get_or, length, map, slice_get, nat_lt, if◌then◌else◌, Option, Some, None}
use Rattle.std.specs.Cmp.Lexicographic.{pointwise}
use Rattle.std.specs.List.{list_any, position_or_len}
use Rattle.std.specs.List.Sorted.{IsNonDecreasingBy}
use Rattle.indexmap.specs.IndexMap.{insert_entry}
use Rattle.clu_types.specs.CluType.{CluType, string_type, proc_of, iter_of, CluTypes, no_types, type_and, Signals, no_signals, signal_and}
use Rattle.clu_types.specs.declared.term.Term.{Term}
use Rattle.clu_types.specs.declared.term.Exception.{Exception}
use Rattle.clu_types.specs.declared.term.TypeId.{TypeId}
use Rattle.clu_types.specs.Arena.{AreBelow, type_at, types_at, types_of}
use Rattle.clu_operations.specs.declared.words.NameId.{NameId}
use Rattle.clu_operations.specs.Finding.{Extends}
use Rattle.clu_operations.specs.Words.{number_with, with_name}
use Rattle.clu_typing.specs.declared.raising.Raise.{Raise}
use Rattle.clu_typing.specs.declared.raising.RaisesId.{RaisesId}
use Rattle.clu_typing.specs.Raised.{AreAscending, Raised, is_of, nothing, objects_of, raises_of}
use Rattle.clu_typing.specs.Sets.{Has, HaveSame}

-- the set of failure alone
abbrev pub failing : RaisesId
failing = record { 0 = 1 }

-- ---- sets and lists of objects that are kept from now on; a new one stands behind the others

abbrev pub same_objects : List TypeId → List TypeId → Bool
same_objects = pointwise (λ a b. a.0 == b.0)

abbrev pub same_raises : List Raise → List Raise → Bool
same_raises = pointwise (λ a b. a.name.0 == b.name.0 && a.objects.0 == b.objects.0)

abbrev pub with_objects : List (List TypeId) → List TypeId → List (List TypeId)
with_objects all types = if list_any (same_objects types) all then all else all ++ types ∷ []

abbrev pub with_set : List (List Raise) → List Raise → List (List Raise)
with_set all set = if list_any (same_raises set) all then all else all ++ set ∷ []

-- of the raises one set is kept, which ascends
pub record IsKept (old new : Raised) (raises : List Raise) (id : RaisesId) : Type 0 where
  pub set : List Raise
  pub ascends : AreAscending set
  pub same : HaveSame set raises
  pub kept : new ≡ record { sets = with_set old.sets set; objects = old.objects; invoked = old.invoked; unions = old.unions }
  pub number : id ≡ record { 0 = position_or_len (same_raises set) old.sets }

abbrev pub no_raises : Raised
no_raises = record { sets = []; objects = []; invoked = []; unions = [] }

-- this type, by its number
abbrev pub is_type : TypeId → TypeId → Bool
is_type a b = a.0 == b.0

abbrev pub with_invoked : Raised → TypeId → RaisesId → Raised
with_invoked all of set = record { sets = all.sets; objects = all.objects; invoked = insert_entry is_type all.invoked of set; unions = all.unions }

abbrev pub same_sets : List RaisesId → List RaisesId → Bool
same_sets = pointwise (λ a b. a.0 == b.0)

abbrev pub with_union : Raised → List RaisesId → RaisesId → Raised
with_union all sets set = record { sets = all.sets; objects = all.objects; invoked = all.invoked; unions = insert_entry same_sets all.unions sets set }

-- ---- raises of the signals of a routine, behind others

-- the names that are kept, the sets, and raises that are to be one
pub record Pushed : Type 0 where
  pub names : List (List ℕ)
  pub all : Raised
  pub raises : List Raise

abbrev pub pushed : List (List ℕ) → Raised → List Raise → Pushed
pushed names all raises = record { names = names; all = all; raises = raises }

abbrev pub raise_of : List (List ℕ) → Raised → List ℕ → List TypeId → Raise
raise_of names all name types = record { name = number_with names name; objects = record { 0 = position_or_len (same_objects types) all.objects } }

abbrev pub having_objects : Raised → List TypeId → Raised
having_objects all types = record { sets = all.sets; objects = with_objects all.objects types; invoked = all.invoked; unions = all.unions }

-- the raise of a name and objects
abbrev pub IsRaised : Raised → Raised → NameId → List TypeId → Raise → Type 0
IsRaised old new name types raise = (new ≡ having_objects old types) × (raise ≡ record { name = name; objects = record { 0 = position_or_len (same_objects types) old.objects } })

abbrev pub with_signal : Pushed → Exception → Pushed
with_signal p s = record { names = with_name p.names s.name; all = having_objects p.all s.objects; raises = p.raises ++ raise_of p.names p.all s.name s.objects ∷ [] }

abbrev pub with_signals : Pushed → List Exception → Pushed
with_signals p signals = fold with_signal p signals

-- the raises of sets, one behind the other
abbrev pub with_raises : Raised → List Raise → RaisesId → List Raise
with_raises all made set = made ++ raises_of all set

-- and failure, as one set
abbrev pub pushed_by : List (List ℕ) → Raised → List Exception → Pushed
pushed_by names all signals = with_signals (pushed names all (raises_of all failing)) signals

abbrev pub IsSignalled : List (List ℕ) → List (List ℕ) → Raised → Raised → List Exception → RaisesId → Type 0
IsSignalled names more old new signals set = (more ≡ (pushed_by names old signals).names) × IsKept (pushed_by names old signals).all new (pushed_by names old signals).raises set

-- ---- what raises tell: a name and the types of objects

abbrev pub Told : Type 0
Told = List ℕ × CluTypes

abbrev pub failure : Told
failure = (codes "failure", type_and string_type no_types)

-- what a routine of this type signals; what is none signals nothing
abbrev pub signals_of : CluType → Signals
signals_of (proc_of args results ss) = ss
signals_of (iter_of args results ss) = ss
signals_of _ = no_signals

abbrev pub listed : Signals → List Told
listed no_signals = []
listed (signal_and name ts rest) = (name, ts) ∷ listed rest

-- what an invocation of what has this type raises
abbrev pub invoked_by : CluType → List Told
invoked_by t = failure ∷ listed (signals_of t)

-- a number of a set
abbrev pub IsSet : Raised → RaisesId → Type 0
IsSet all set = set.0 < length all.sets

-- the name and the objects of a raise are there
pub record IsRaise (names : List (List ℕ)) (all : Raised) (raise : Raise) : Type 0 where
  pub name : raise.name.0 < length names
  pub objects : raise.objects.0 < length all.objects

-- what are kept from now on have the numbers that they had
pub record Follows (old new : Raised) : Type 0 where
  pub sets : Extends old.sets new.sets
  pub objects : Extends old.objects new.objects

-- no name is kept twice
abbrev pub AreDistinct : List (List ℕ) → Type 0
AreDistinct names = (i j : ℕ) → i < length names → j < length names → get_or names i [] ≡ get_or names j [] → i ≡ j

module _ (terms : List Term) (names : List (List ℕ)) (all : Raised) where
  abbrev pub raise_told : Raise → Told
  raise_told raise = (get_or names raise.name.0 [], types_at (types_of terms) (objects_of all raise))

  abbrev pub set_told : RaisesId → List Told
  set_told set = map raise_told (raises_of all set)

-- the set is what an invocation of what has this type raises
pub record IsInvoked (terms : List Term) (names : List (List ℕ)) (all : Raised) (of : TypeId) (set : RaisesId) : Type 0 where
  pub within : of.0 < length terms
  pub there : IsSet all set
  pub raises : HaveSame (set_told terms names all set) (invoked_by (type_at (types_of terms) of))

-- the set is what these raise together
pub record IsUnion (all : Raised) (sets : List RaisesId) (set : RaisesId) : Type 0 where
  pub each : (one : RaisesId) → Has sets one → IsSet all one
  pub there : IsSet all set
  pub raises : HaveSame (raises_of all set) (flat_map (raises_of all) sets)

-- All that is kept is right, for the types of this arena and these names.
pub record AreRaises (terms : List Term) (names : List (List ℕ)) (all : Raised) : Type 0 where
  pub empty : slice_get all.sets 0 ≡ Some []
  pub second : 1 < length all.sets
  pub fails : HaveSame (set_told terms names all failing) (failure ∷ [])
  pub distinct : AreDistinct names
  pub within : (set : List Raise) → Has all.sets set → (raise : Raise) → Has set raise → IsRaise names all raise
  pub below : (types : List TypeId) → Has all.objects types → AreBelow (length terms) types
  pub invoked : (of : TypeId) (set : RaisesId) → Has all.invoked (of, set) → IsInvoked terms names all of set
  pub unions : (sets : List RaisesId) (set : RaisesId) → Has all.unions (sets, set) → IsUnion all sets set

-- ---- what each step leaves

-- a set that tells this
pub record IsSetOf (terms : List Term) (names more : List (List ℕ)) (old new : Raised) (told : List Told) (set : RaisesId) : Type 0 where
  pub right : AreRaises terms more new
  pub named : Extends names more
  pub kept : Follows old new
  pub there : IsSet new set
  pub raises : HaveSame (set_told terms more new set) told

-- a set of these raises
pub record IsMade (terms : List Term) (names : List (List ℕ)) (old new : Raised) (raises : List Raise) (set : RaisesId) : Type 0 where
  pub right : AreRaises terms names new
  pub kept : Follows old new
  pub there : IsSet new set
  pub same : HaveSame (raises_of new set) raises

-- the numbers of names don't fall
abbrev pub AscendByNumber : List NameId → Type 0
AscendByNumber ids = IsNonDecreasingBy (λ (id : NameId). id.0) ids

-- what none or one of them raise together
abbrev pub alone : List RaisesId → Option RaisesId
alone [] = Some nothing
alone (only ∷ []) = Some only
alone (a ∷ b ∷ more) = None

-- without the raises of these names
abbrev pub is_among : List NameId → NameId → Bool
is_among names name = list_any (λ other. name.0 == other.0) names

-- the name of a number, if there is one
abbrev pub is_at : NameId → Option NameId → Bool
is_at name (Some other) = name.0 == other.0
is_at name None = false

-- a name before the one of this number
abbrev pub is_below : ℕ → NameId → Bool
is_below name id = nat_lt id.0 name

abbrev pub has_none_of : List NameId → Raise → Bool
has_none_of names raise = not (is_among names raise.name)

-- whether one has one of these names
abbrev pub are_some : List Raise → Bool
are_some [] = false
are_some (raise ∷ raises) = true

abbrev pub has_name : List Raise → NameId → Bool
has_name raises name = are_some (filter (is_of name) raises)

abbrev pub has_some : List Raise → List NameId → Bool
has_some raises names = list_any (has_name raises) names

abbrev pub with_other : List NameId → List Raise → Raise → List Raise
with_other names made raise = if is_among names raise.name then made else made ++ raise ∷ []

abbrev pub raises_without : Raised → RaisesId → List NameId → List Raise
raises_without all set names = filter (has_none_of names) (raises_of all set)
