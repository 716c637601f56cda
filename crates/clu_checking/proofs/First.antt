-- The first rule and the first node that are found come first.
use Rattle.std.proofs.Common.{◌≡◌, ℕ, Bool, true, false, List, [], ◌∷◌, Option, Some, None, refl, inl, inr}
use Rattle.clu_base.specs.declared.rules.Rule.{Rule}
use Rattle.clu_checking.specs.Rules.{least}
use Rattle.clu_checking.specs.Refusals.{first_among}
use Rattle.clu_checking.specs.Order.{IsLeast, IsFirst}

least_by : (violated : Rule → Bool) (r : Rule) (rs : List Rule) (b : Bool) → violated r ≡ b → IsLeast violated rs (least violated rs)
    → IsLeast violated (r ∷ rs) (elim b [ true ↦ Some r | false ↦ least violated rs ])
least_by violated r rs true same rest = inl (same, refl)
least_by violated r rs false same rest = inr (same, rest)

pub least_is_least : (violated : Rule → Bool) (rs : List Rule) → IsLeast violated rs (least violated rs)
least_is_least violated [] = tt
least_is_least violated (r ∷ rs) = least_by violated r rs (violated r) refl (least_is_least violated rs)

first_by : (fault : ℕ → Option Rule) (n : ℕ) (ns : List ℕ) (found : Option Rule) → fault n ≡ found → IsFirst fault ns (first_among fault ns)
    → IsFirst fault (n ∷ ns) (elim found [ Some r ↦ Some (n, r) | None ↦ first_among fault ns ])
first_by fault n ns (Some r) same rest = inl (r, same, refl)
first_by fault n ns None same rest = inr (same, rest)

pub first_is_first : (fault : ℕ → Option Rule) (ns : List ℕ) → IsFirst fault ns (first_among fault ns)
first_is_first fault [] = tt
first_is_first fault (n ∷ ns) = first_by fault n ns (fault n) refl (first_is_first fault ns)
