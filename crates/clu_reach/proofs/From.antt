-- What is refused of the program that starts with a module.
use Rattle.std.proofs.Common.{◌≡◌, ℕ, List, None, subst}
use Rattle.clu_library.specs.Contents.{Contents}
use Rattle.clu_reach.specs.Refused.{IsAccepted, IsAcceptedFrom, IsRefused, IsRefusedFrom, Refuses, first_of_start}
use Rattle.clu_reach.specs.declared.errors.LinkError.{LinkError}
use Rattle.clu_reach.specs.declared.errors.LinkError.TheVariants as error
use Rattle.clu_reach.specs.declared.member.Member.{Member}
use Rattle.clu_reach.specs.declared.reaching.Reached.{Reached}

of_start : (library : Contents) (start : List ℕ) (e : LinkError) → IsRefused library (first_of_start start) e → IsRefusedFrom library start e
of_start library start (error.NoModule name) r = elim r [ ]
of_start library start (error.BadStart name) r = elim r [ ]
of_start library start error.TooManyInstances r = r
of_start library start (error.NoBody name) r = r
of_start library start (error.Stale name by changed checked) r = r
of_start library start (error.Misfit name) r = r
of_start library start error.ProgramTooLarge r = r
of_start library start error.Memory r = r
of_start library start error.NotYet r = r

pub refused_from : (library : Contents) (first : Member) (start : List ℕ) (e : LinkError) → first ≡ first_of_start start → IsRefused library first e → IsRefusedFrom library start e
refused_from library first start e is r = of_start library start e (subst (λ (m : Member). IsRefused library m e) is r)

pub accepted_from : (library : Contents) (first : Member) (start : List ℕ) (reached : Reached) → first ≡ first_of_start start → IsAccepted library first reached → IsAcceptedFrom library start
accepted_from library first start reached is a =
    subst (λ (m : Member). Refuses library m None) is (record { types = reached.types; instances = reached.members.keys; fates = a.fates; reach = a.reach; refused = a.accepted })

pub ruleset starts = (refused_from, accepted_from)
