-- Which error a program is refused with, by what it reaches.
use Rattle.std.specs.Prelude.{◌≡◌, ℕ, List, [], Option, Some, None}
use Rattle.clu_types.specs.declared.term.Term.{Term}
use Rattle.clu_library.specs.Contents.{Contents, spec_of}
use Rattle.clu_reach.specs.Reach.{Fate, IsReach, Refusal, too_many, too_large, no_body, stale_body, no_fit, by_fates, refusal_of}
use Rattle.clu_reach.specs.Starts.{IsBadStart}
use Rattle.clu_reach.specs.declared.errors.LinkError.{LinkError}
use Rattle.clu_reach.specs.declared.errors.LinkError.TheVariants as error
use Rattle.clu_reach.specs.declared.member.Member.{Member}
use Rattle.clu_reach.specs.declared.member.Member.TheVariants as member
use Rattle.clu_reach.specs.declared.reaching.Reached.{Reached}

-- what it reaches is refused so
pub record Refuses (library : Contents) (first : Member) (refusal : Option Refusal) : Type 0 where
  pub types : List Term
  pub instances : List Member
  pub fates : List Fate
  pub reach : IsReach library types first instances fates
  pub refused : refusal_of instances fates ≡ refusal

-- the error is the refusal of what the program with this first instance reaches; of memory, and of what isn't built, nothing is said
abbrev pub IsRefused : Contents → Member → LinkError → Type 0
IsRefused library first (error.NoModule name) = ⊥
IsRefused library first (error.BadStart name) = ⊥
IsRefused library first error.TooManyInstances = Refuses library first (Some too_many)
IsRefused library first (error.NoBody name) = Refuses library first (Some (no_body name))
IsRefused library first (error.Stale name by changed checked) = Refuses library first (Some (stale_body name))
IsRefused library first (error.Misfit name) = Refuses library first (Some (no_fit name))
IsRefused library first error.ProgramTooLarge = Refuses library first (Some too_large)
IsRefused library first error.Memory = Unit {0}
IsRefused library first error.NotYet = Unit {0}

-- these instances are all that it reaches, and nothing is refused
pub record IsAccepted (library : Contents) (first : Member) (reached : Reached) : Type 0 where
  pub fates : List Fate
  pub reach : IsReach library reached.types first reached.members.keys fates
  pub accepted : refusal_of reached.members.keys fates ≡ None

-- the instance with which a program starts
abbrev pub first_of_start : List ℕ → Member
first_of_start start = member.Module start []

-- the error of the program that starts with a module
abbrev pub IsRefusedFrom : Contents → List ℕ → LinkError → Type 0
IsRefusedFrom library start (error.NoModule name) = (name ≡ start) × (spec_of library start ≡ None)
IsRefusedFrom library start (error.BadStart name) = (name ≡ start) × IsBadStart (spec_of library start)
IsRefusedFrom library start e = IsRefused library (first_of_start start) e

-- what the program that starts with a module reaches is not refused
abbrev pub IsAcceptedFrom : Contents → List ℕ → Type 0
IsAcceptedFrom library start = Refuses library (first_of_start start) None

-- the error is that of a refusal by fates, and none is given only where nothing is refused by them
abbrev pub ErrorIs : Option Refusal → LinkError → Type 0
ErrorIs refusal (error.NoBody name) = refusal ≡ Some (no_body name)
ErrorIs refusal (error.Stale name by changed checked) = refusal ≡ Some (stale_body name)
ErrorIs refusal (error.Misfit name) = refusal ≡ Some (no_fit name)
ErrorIs refusal error.ProgramTooLarge = refusal ≡ Some too_large
ErrorIs refusal _ = ⊥

abbrev pub IsFirst : List Fate → Option LinkError → Type 0
IsFirst fates None = by_fates fates ≡ None
IsFirst fates (Some e) = ErrorIs (by_fates fates) e
