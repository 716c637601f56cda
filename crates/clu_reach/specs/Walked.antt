-- How far the walk over what a program reaches came, and what it noted.
use Rattle.std.specs.Prelude.{◌≡◌, ℕ, suc, ◌-◌, ◌^◌, min, Bool, true, false, codes, List, [], ◌∷◌, slice_get, Option, Some, None, option_map}
use Rattle.std.specs.Option.{option_or}
use Rattle.std.specs.List.{filter_map}
use Rattle.clu_wir.specs.Rooms.{plus}
use Rattle.clu_types.specs.Arena.{Grows}
use Rattle.clu_types.specs.declared.term.Actual.{Actual}
use Rattle.clu_types.specs.declared.term.Term.{Term}
use Rattle.clu_types.specs.declared.term.Term.TheVariants as term
use Rattle.clu_library.specs.Contents.{Contents}
use Rattle.clu_library.specs.Staleness.{IsStale}
use Rattle.clu_reach.specs.Found.{IsStaleModule}
use Rattle.clu_reach.specs.Reach.{Fate, misfit, taken, used_by, IsTaken, IsVisit, ModuleFate, goes_on, with_all, with_one, no_body_of, stale_of, misfit_of, first_of, weights}
use Rattle.clu_reach.specs.declared.denoting.Use.{Use}
use Rattle.clu_reach.specs.declared.denoting.Use.TheVariants as used
use Rattle.clu_reach.specs.declared.faults.Faults.{Faults}
use Rattle.clu_reach.specs.declared.faults.StaleModule.{StaleModule}
use Rattle.clu_reach.specs.declared.member.Member.{Member}
use Rattle.clu_reach.specs.declared.member.Member.TheVariants as member
use Rattle.clu_reach.specs.declared.origins.Kept.{Kept}
use Rattle.clu_reach.specs.declared.origins.Origin.{Origin}
use Rattle.clu_reach.specs.declared.origins.Origin.TheVariants as origin
use Rattle.clu_reach.specs.declared.reaching.Work.{Work}

-- ---- where an instance comes from

abbrev pub IsKeptAs : Kept → List ℕ → List ℕ → List Actual → Type 0
IsKeptAs kept name routine given = (kept.module ≡ name) × (kept.routine ≡ routine) × (kept.actuals.items ≡ given)

abbrev pub IsBuiltin : Origin → Type 0
IsBuiltin (origin.Module kept) = ⊥
IsBuiltin (origin.Builtin of op given) = Unit {0}

abbrev pub IsOfModule : List ℕ → List ℕ → List Actual → Origin → Type 0
IsOfModule name routine given (origin.Module kept) = IsKeptAs kept name routine given
IsOfModule name routine given (origin.Builtin of op actuals) = ⊥

abbrev pub IsOriginIn : Option Term → List ℕ → Origin → Type 0
IsOriginIn None op o = ⊥
IsOriginIn (Some (term.Cluster name given)) op o = IsOfModule name op given o
IsOriginIn (Some _) op o = IsBuiltin o

abbrev pub IsOrigin : List Term → Member → Origin → Type 0
IsOrigin types (member.Module name given) o = IsOfModule name name given o
IsOrigin types (member.Op of op) o = IsOriginIn (slice_get types of.0) op o
IsOrigin types (member.OwnSetUp of) o = IsOriginIn (slice_get types of.0) (codes "own") o
IsOrigin types (member.ForceOf of) o = ⊥

-- the origin of an instance, if there is one at a place
abbrev pub IsOriginAt : List Term → Option Member → Option Origin → Type 0
IsOriginAt types None None = Unit {0}
IsOriginAt types (Some u) (Some o) = IsOrigin types u o
IsOriginAt types _ _ = ⊥

-- ---- one step

-- which uses are instances
abbrev pub instance_of : Use → Option Member
instance_of (used.Instance u) = Some u
instance_of (used.Operation u) = None

abbrev pub instances_of : List Use → List Member
instances_of us = filter_map instance_of us

-- the list with one more, if there is one
abbrev pub listed : List Member → Option Member → List Member
listed us None = us
listed us (Some u) = with_one us u

abbrev pub name_of : StaleModule → List ℕ
name_of m = m.name

abbrev pub with_weight : ℕ → Fate → ℕ
with_weight w (taken v us) = plus w v
with_weight w _ = w

-- what was found at one instance is noted
pub record IsNoted (fate : Fate) (old new : Faults) : Type 0 where
  pub no_body : new.no_body ≡ option_or old.no_body (no_body_of fate)
  pub stale : option_map name_of new.stale ≡ option_or (option_map name_of old.stale) (stale_of fate)
  pub misfit : new.misfit ≡ option_or old.misfit (misfit_of fate)
  pub weight : new.weight ≡ with_weight old.weight fate

-- a module that is stale, by name
abbrev pub IsStaleNamed : Contents → List ℕ → Option StaleModule → Type 0
IsStaleNamed library name None = IsStale library name → ⊥
IsStaleNamed library name (Some m) = (m.name ≡ name) × IsStaleModule library m

-- something is found of which P holds, and noted; what is used is listed, and types are only added
pub record IsStep (P : Fate → Type 0) (old new : Work) : Type 0 where
  pub fate : Fate
  pub has : P fate
  pub noted : IsNoted fate old.faults.value new.faults.value
  pub members : new.reached.value.members.keys ≡ with_all old.reached.value.members.keys (used_by fate)
  pub grown : Grows old.reached.value.types new.reached.value.types

-- just this is found
abbrev pub IsFate : Fate → Fate → Type 0
IsFate fate found = found ≡ fate

abbrev pub KeptStep : Contents → Kept → Work → Work → Type 0
KeptStep library kept old new = IsStep (ModuleFate library kept.module kept.routine kept.actuals.items) old new

abbrev pub OriginStep : Contents → Origin → Work → Work → Type 0
OriginStep library (origin.Module kept) old new = KeptStep library kept old new
OriginStep library (origin.Builtin of op given) old new = IsStep IsTaken old new

-- ---- so far

-- from a place on with what is listed there, these are found, up to a place and what is listed then
unfoldable pub Arrives : Contents → List Term → ℕ → List Member → List Fate → ℕ → List Member → Type 0
Arrives library types n us [] m all = (n ≡ m) × (us ≡ all)
Arrives library types n us (fate ∷ fates) m all =
    (goes_on us n ≡ true) × IsVisit library types (slice_get us n) fate × Arrives library types (suc n) (with_all us (used_by fate)) fates m all

-- the faults are those of these fates
pub record AreFirst (fates : List Fate) (faults : Faults) : Type 0 where
  pub no_body : faults.no_body ≡ first_of no_body_of fates
  pub stale : option_map name_of faults.stale ≡ first_of stale_of fates
  pub misfit : faults.misfit ≡ first_of misfit_of fates
  pub weight : faults.weight ≡ min (weights fates) (2 ^ 64 - 1)

pub record Walked (library : Contents) (first : Member) (n : ℕ) (work : Work) : Type 0 where
  pub fates : List Fate
  pub walk : Arrives library work.reached.value.types 0 (first ∷ []) fates n work.reached.value.members.keys
  pub noted : AreFirst fates work.faults.value

-- in the end
pub record IsWalked (library : Contents) (first : Member) (work : Work) : Type 0 where
  pub last : ℕ
  pub fates : List Fate
  pub walk : Arrives library work.reached.value.types 0 (first ∷ []) fates last work.reached.value.members.keys
  pub ended : goes_on work.reached.value.members.keys last ≡ false
  pub noted : AreFirst fates work.faults.value

abbrev pub NextIs : Contents → Member → ℕ → Bool → Work → Type 0
NextIs library first n true work = Walked library first (suc n) work
NextIs library first n false work = IsWalked library first work
