-- The instances that a program reaches, what is found at each, and which refusal comes of it. What the texts of a routine's
-- uses and types denote isn't said here: one of them may denote nothing, and else they name some instances.
use Rattle.std.specs.Prelude.{◌≡◌, ℕ, suc, ◌+◌, ◌&&◌, Bool, true, false, nat_le, nat_lt, if◌then◌else◌, codes, List, [], ◌∷◌, find, fold, length, slice_get, Option, Some, None}
use Rattle.std.specs.Option.{option_or}
use Rattle.std.specs.Str.{bytes_eq}
use Rattle.indexmap.specs.IndexSet.{insert_key}
use Rattle.clu_types.specs.declared.term.Actual.{Actual}
use Rattle.clu_types.specs.declared.term.Term.{Term}
use Rattle.clu_types.specs.declared.term.Term.TheVariants as term
use Rattle.clu_library.specs.Contents.{Contents, body_of}
use Rattle.clu_library.specs.Staleness.{IsStaleBody}
use Rattle.clu_library.specs.declared.body.Body.{Body}
use Rattle.clu_object.specs.declared.object.ObjRoutine.{ObjRoutine}
use Rattle.clu_reach.specs.Tables.{fits, weight}
use Rattle.clu_reach.specs.contracts.member.MemberPartialEq.TheImpl as members
use Rattle.clu_reach.specs.declared.member.Member.{Member}
use Rattle.clu_reach.specs.declared.member.Member.TheVariants as member

-- what is found at an instance: its module has no body, a stale one, or one that doesn't fit; or it weighs so much and uses these
pub data Fate : Type 0 where
  bodiless is_stale misfit : List ℕ → Fate
  taken : ℕ → List Member → Fate

abbrev pub used_by : Fate → List Member
used_by (taken w us) = us
used_by _ = []

-- of a routine that fits: its weight is known; which of the two comes of its texts isn't said
abbrev pub UsesFate : List ℕ → ℕ → Fate → Type 0
UsesFate name w (bodiless m) = ⊥
UsesFate name w (is_stale m) = ⊥
UsesFate name w (misfit m) = m ≡ name
UsesFate name w (taken v us) = v ≡ w

abbrev pub FitFate : List ℕ → ℕ → Bool → Fate → Type 0
FitFate name w false fate = fate ≡ misfit name
FitFate name w true fate = UsesFate name w fate

abbrev pub RoutineFate : List ℕ → List Actual → Option ObjRoutine → Fate → Type 0
RoutineFate name given None fate = fate ≡ misfit name
RoutineFate name given (Some o) fate = FitFate name (weight given o) (fits o given) fate

-- the routine of a name in an object
abbrev pub routine_in : List ℕ → List ObjRoutine → Option ObjRoutine
routine_in name routines = find (λ o. bytes_eq o.name name) routines

pub data BodyFate (library : Contents) (name routine : List ℕ) (given : List Actual) (b : Body) (fate : Fate) : Type 0 where
  stale_one : IsStaleBody library.specs library.changes name b → fate ≡ is_stale name → BodyFate library name routine given b fate
  fresh_one : (IsStaleBody library.specs library.changes name b → ⊥) → RoutineFate name given (routine_in routine b.object.routines) fate
      → BodyFate library name routine given b fate

abbrev pub KeptFate : Contents → List ℕ → List ℕ → List Actual → Option Body → Fate → Type 0
KeptFate library name routine given None fate = fate ≡ bodiless name
KeptFate library name routine given (Some b) fate = BodyFate library name routine given b fate

-- a routine of a module with its actuals; the body of the module decides
abbrev pub ModuleFate : Contents → List ℕ → List ℕ → List Actual → Fate → Type 0
ModuleFate library name routine given fate = KeptFate library name routine given (body_of library name) fate

-- an operation of a built-in type is made here
abbrev pub IsTaken : Fate → Type 0
IsTaken (taken w us) = Unit {0}
IsTaken _ = ⊥

abbrev pub OperationFate : Contents → Option Term → List ℕ → Fate → Type 0
OperationFate library None op fate = ⊥
OperationFate library (Some (term.Cluster name given)) op fate = ModuleFate library name op given fate
OperationFate library (Some _) op fate = IsTaken fate

-- what is found at an instance whose types are numbers of these
abbrev pub HasFate : Contents → List Term → Member → Fate → Type 0
HasFate library types (member.Module name given) fate = ModuleFate library name name given fate
HasFate library types (member.Op of op) fate = OperationFate library (slice_get types of.0) op fate
HasFate library types (member.OwnSetUp of) fate = OperationFate library (slice_get types of.0) (codes "own") fate
HasFate library types (member.ForceOf of) fate = ⊥

-- ---- the walk: at the place n the instance that stands there is looked at, and what it uses is added at the end, each once

abbrev pub with_one : List Member → Member → List Member
with_one us u = insert_key (members.ghosts).eq us u

abbrev pub with_all : List Member → List Member → List Member
with_all us more = fold with_one us more

abbrev pub most : ℕ
most = 4096

-- it ends where there is none at the place, and as soon as more than 4,096 are listed
abbrev pub goes_on : List Member → ℕ → Bool
goes_on us n = nat_le (length us) most && nat_lt n (length us)

abbrev pub IsVisit : Contents → List Term → Option Member → Fate → Type 0
IsVisit library types None fate = ⊥
IsVisit library types (Some u) fate = HasFate library types u fate

unfoldable pub IsWalk : Contents → List Term → ℕ → List Member → List Fate → List Member → Type 0
IsWalk library types n us [] all = (goes_on us n ≡ false) × (all ≡ us)
IsWalk library types n us (fate ∷ fates) all =
    (goes_on us n ≡ true) × IsVisit library types (slice_get us n) fate × IsWalk library types (suc n) (with_all us (used_by fate)) fates all

-- the instances of the program with this first one, in the order in which they are first used, and what was found at each
abbrev pub IsReach : Contents → List Term → Member → List Member → List Fate → Type 0
IsReach library types first us fates = IsWalk library types 0 (first ∷ []) fates us

-- ---- the refusals, in their order

abbrev pub no_body_of : Fate → Option (List ℕ)
no_body_of (bodiless name) = Some name
no_body_of _ = None

abbrev pub stale_of : Fate → Option (List ℕ)
stale_of (is_stale name) = Some name
stale_of _ = None

abbrev pub misfit_of : Fate → Option (List ℕ)
misfit_of (misfit name) = Some name
misfit_of _ = None

abbrev pub weight_of : Fate → ℕ
weight_of (taken w us) = w
weight_of _ = 0

abbrev pub first_of : (Fate → Option (List ℕ)) → List Fate → Option (List ℕ)
first_of f [] = None
first_of f (fate ∷ fates) = option_or (f fate) (first_of f fates)

abbrev pub weights : List Fate → ℕ
weights [] = 0
weights (fate ∷ fates) = weight_of fate + weights fates

pub data Refusal : Type 0 where
  too_many too_large : Refusal
  no_body stale_body no_fit : List ℕ → Refusal

abbrev pub or_refused : (List ℕ → Refusal) → Option (List ℕ) → Option Refusal → Option Refusal
or_refused refusal (Some name) other = Some (refusal name)
or_refused refusal None other = other

abbrev pub by_weight : ℕ → Option Refusal
by_weight w = if nat_lt 262144 w then Some too_large else None

-- where there are not too many
abbrev pub by_fates : List Fate → Option Refusal
by_fates fates =
    or_refused no_body (first_of no_body_of fates)
    (or_refused stale_body (first_of stale_of fates) (or_refused no_fit (first_of misfit_of fates) (by_weight (weights fates))))

abbrev pub refusal_of : List Member → List Fate → Option Refusal
refusal_of us fates = if nat_lt most (length us) then Some too_many else by_fates fates
