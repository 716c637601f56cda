-- Which refusal comes of the first faults.
use Rattle.std.proofs.Common.{◌≡◌, ◌∙◌, ℕ, ◌-◌, ◌^◌, ◌<◌, ◌≤◌, min, Bool, true, false, List, Option, Some, None, option_map, nat_lt, if◌then◌else◌, refl, ap, sym, arith}
use Rattle.std.proofs.lemmas.Bool.Decides.{nat_tests}
use Rattle.clu_reach.specs.Reach.{Fate, Refusal, too_large, no_body, stale_body, no_fit, stale_of, misfit_of, first_of, weights, or_refused, by_weight, by_fates}
use Rattle.clu_reach.specs.Refused.{ErrorIs}
use Rattle.clu_reach.specs.Walked.{AreFirst, name_of}
use Rattle.clu_reach.specs.declared.errors.LinkError.{LinkError}
use Rattle.clu_reach.specs.declared.faults.Faults.{Faults}
use Rattle.clu_reach.specs.declared.faults.StaleModule.{StaleModule}

abbrev by_all : List Fate → Option (List ℕ) → Option (List ℕ) → Option (List ℕ) → Option Refusal
by_all fates nb st mf = or_refused no_body nb (or_refused stale_body st (or_refused no_fit mf (by_weight (weights fates))))

by_faults : (fates : List Fate) (f : Faults) → AreFirst fates f → (nb st mf : Option (List ℕ)) → f.no_body ≡ nb → option_map name_of f.stale ≡ st → f.misfit ≡ mf → by_fates fates ≡ by_all fates nb st mf
by_faults fates f a nb st mf x y z =
    ap (λ (o : Option (List ℕ)). by_all fates o (first_of stale_of fates) (first_of misfit_of fates)) (sym a.no_body ∙ x)
    ∙ ap (λ (o : Option (List ℕ)). by_all fates nb o (first_of misfit_of fates)) (sym a.stale ∙ y)
    ∙ ap (λ (o : Option (List ℕ)). by_all fates nb st o) (sym a.misfit ∙ z)

above : (w v : ℕ) → w ≡ min v (2 ^ 64 - 1) → 262144 < w → 262144 < v
above w v e l = omega (arith, e, l)

within : (w v : ℕ) → w ≡ min v (2 ^ 64 - 1) → w ≤ 262144 → v ≤ 262144
within w v e l = omega (arith, e, l)

heavy : (v : ℕ) → 262144 < v → by_weight v ≡ Some too_large
heavy v l = let e : nat_lt 262144 v ≡ true = grind (arith, nat_tests, l) in ap (λ (b : Bool). let r : Option Refusal = if b then Some too_large else None in r) e

light : (v : ℕ) → v ≤ 262144 → by_weight v ≡ None
light v l = let e : nat_lt 262144 v ≡ false = grind (arith, nat_tests, l) in ap (λ (b : Bool). let r : Option Refusal = if b then Some too_large else None in r) e

pub first_no_body : (fates : List Fate) (f : Faults) (name : List ℕ) → AreFirst fates f → f.no_body ≡ Some name → by_fates fates ≡ Some (no_body name)
first_no_body fates f name a x = by_faults fates f a (Some name) (option_map name_of f.stale) f.misfit x refl refl

pub first_stale : (fates : List Fate) (f : Faults) (m : StaleModule) → AreFirst fates f → f.no_body ≡ None → f.stale ≡ Some m → by_fates fates ≡ Some (stale_body m.name)
first_stale fates f m a x y = by_faults fates f a None (Some m.name) f.misfit x (ap (option_map name_of) y) refl

pub first_misfit : (fates : List Fate) (f : Faults) (name : List ℕ) → AreFirst fates f → f.no_body ≡ None → f.stale ≡ None → f.misfit ≡ Some name → by_fates fates ≡ Some (no_fit name)
first_misfit fates f name a x y z = by_faults fates f a None None (Some name) x (ap (option_map name_of) y) z

pub first_heavy : (fates : List Fate) (f : Faults) → AreFirst fates f → f.no_body ≡ None → f.stale ≡ None → f.misfit ≡ None → 262144 < f.weight → by_fates fates ≡ Some too_large
first_heavy fates f a x y z l = by_faults fates f a None None None x (ap (option_map name_of) y) z ∙ heavy (weights fates) (above f.weight (weights fates) a.weight l)

pub first_light : (fates : List Fate) (f : Faults) → AreFirst fates f → f.no_body ≡ None → f.stale ≡ None → f.misfit ≡ None → f.weight ≤ 262144 → by_fates fates ≡ None
first_light fates f a x y z l = by_faults fates f a None None None x (ap (option_map name_of) y) z ∙ light (weights fates) (within f.weight (weights fates) a.weight l)

-- the error of one that is stale, where it is an error of that refusal
pub stale_first : (fates : List Fate) (f : Faults) (m : StaleModule) (e : LinkError) → ((r : Option Refusal) → r ≡ Some (stale_body m.name) → ErrorIs r e)
    → AreFirst fates f → f.no_body ≡ None → f.stale ≡ Some m → ErrorIs (by_fates fates) e
stale_first fates f m e says a x y = says (by_fates fates) (first_stale fates f m a x y)

pub ruleset firsts = (first_no_body, first_stale, stale_first, first_misfit, first_heavy, first_light)
