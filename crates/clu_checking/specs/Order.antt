-- What comes first of rules and of nodes, as a relation.
use Rattle.std.specs.Prelude.{◌≡◌, ◌⊎◌, ℕ, Bool, true, false, List, [], ◌∷◌, Option, Some, None}
use Rattle.clu_base.specs.declared.rules.Rule.{Rule}

-- the answer is the first of the rules that is violated, or None if none is
abbrev pub IsLeast : (Rule → Bool) → List Rule → Option Rule → Type 0
IsLeast violated [] None = Unit {0}
IsLeast violated [] (Some r) = ⊥
IsLeast violated (r ∷ rs) answer = ((violated r ≡ true) × (answer ≡ Some r)) ⊎ ((violated r ≡ false) × IsLeast violated rs answer)

-- the answer is the first of the nodes that has a fault, with this fault, or None if none has one
abbrev pub IsFirst : (ℕ → Option Rule) → List ℕ → Option (ℕ × Rule) → Type 0
IsFirst fault [] None = Unit {0}
IsFirst fault [] (Some answer) = ⊥
IsFirst fault (n ∷ ns) answer = ((r : Rule) × (fault n ≡ Some r) × (answer ≡ Some (n, r))) ⊎ ((fault n ≡ None) × IsFirst fault ns answer)
