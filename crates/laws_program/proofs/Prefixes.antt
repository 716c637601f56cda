-- Fronts of lists.
use Rattle.std.proofs.Common.{◌≡◌, ◌∙◌, ℕ, List, [], ◌∷◌, ◌++◌, sym, ap, subst, append_assoc}
use Rattle.std.proofs.lemmas.List.{append-nil}
use Rattle.rv_machine.specs.Snapshot.{IsPrefix}

pub same_prefix : (xs ys : List ℕ) → ys ≡ xs → IsPrefix xs ys
same_prefix xs ys e = record { rest = []; parts = e ∙ sym (append-nil xs) }

pub prefix_then : {xs ys zs : List ℕ} → IsPrefix xs ys → IsPrefix ys zs → IsPrefix xs zs
prefix_then {xs} {ys} {zs} p q = record { rest = p.rest ++ q.rest; parts = q.parts ∙ ap (λ l. l ++ q.rest) p.parts ∙ append_assoc xs p.rest q.rest }

-- nothing but the empty list is a front of it
pub none_before : (x : ℕ) (xs : List ℕ) → IsPrefix (x ∷ xs) [] → ⊥
none_before x xs p = subst is_empty p.parts tt
  where
    is_empty : List ℕ → Type 0
    is_empty [] = Unit {0}
    is_empty (y ∷ ys) = ⊥
