-- A region that is changed in its place.
use Rattle.std.proofs.Common.{◌≡◌, ◌∙◌, ℕ, zero, suc, ◌<◌, List, [], ◌∷◌, length, get_or, map, ap, arith, slice_set}
use Rattle.clu_wir.specs.declared.region.Arm.{Arm}
use Rattle.clu_frames.specs.declared.steps.Planned.{Planned}
use Rattle.clu_wir.specs.Adding.{Added}
use Rattle.clu_frames.specs.Regions.{added_of, changed}

abbrev pub with_arms : Planned → List Arm → Added
with_arms p arms = record { first = p.first; last = p.last; parent = p.parent; arms = arms }

pub set_changed : (change : Added → Added) (rs : List Planned) (n : ℕ) (p q : Planned) → n < length rs → p ≡ get_or rs n p → added_of q ≡ change (added_of p)
    → map added_of (slice_set rs n q) ≡ changed change n (map added_of rs)
set_changed change [] n p q lt is e = absurd (omega (arith, lt))
set_changed change (r ∷ rs) zero p q lt is e = ap (λ (a : Added). a ∷ map added_of rs) (e ∙ ap (λ (x : Planned). change (added_of x)) is)
set_changed change (r ∷ rs) (suc n) p q lt is e = ap (λ (l : List Added). added_of r ∷ l) (set_changed change rs n p q (omega (arith, lt)) is e)
