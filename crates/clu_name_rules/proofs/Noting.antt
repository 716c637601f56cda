-- What one step after the other notes, in loops.
use Rattle.std.proofs.Common.{◌≡◌, ◌∙◌, ℕ, ◌+◌, ◌<◌, ◌≤◌, List, [], ◌∷◌, length, fold, drop, get_or, sym, ap, subst, add-one}
use Rattle.std.proofs.Math.Seq.{drop-cons}
use Rattle.std.proofs.lemmas.List.{drop_all}
use Rattle.clu_name_rules.specs.declared.repeated.Items.{Items}
use Rattle.clu_name_rules.specs.Repeated.{Note, Notes}

-- after the first i of the list: what the rest brings about from here is what all bring about
abbrev pub Goes : {X : Type 0} → (List Note → X → List Note) → List X → ℕ → Items → Items → Type 0
Goes step xs i old now = (new : Items) → Notes (λ before. fold step before (drop i xs)) now new → Notes (λ before. fold step before xs) old new

pub number_at : (xs : List ℕ) (i : ℕ) → i < length xs → drop i xs ≡ get_or xs i 0 ∷ drop (i + 1) xs
number_at xs i less = drop-cons xs i 0 less ∙ ap (λ (k : ℕ). get_or xs i 0 ∷ drop k xs) (sym (add-one i))

module _ {X : Type 0} where
  pub item_at : (xs : List X) (i : ℕ) (x : X) → i < length xs → x ≡ get_or xs i x → drop i xs ≡ x ∷ drop (i + 1) xs
  item_at xs i x less is = drop-cons xs i x less ∙ ap (λ (k : ℕ). get_or xs i x ∷ drop k xs) (sym (add-one i)) ∙ ap (λ (y : X). y ∷ drop (i + 1) xs) (sym is)

  pub stepped : (step : List Note → X → List Note) (xs : List X) (i : ℕ) (x : X) (old now next : Items) → drop i xs ≡ x ∷ drop (i + 1) xs →
      Goes step xs i old now → Notes (λ before. step before x) now next → Goes step xs (i + 1) old next
  stepped step xs i x old now next at goes one =
      λ new rest. goes new (subst (λ (ys : List X). Notes (λ before. fold step before ys) now new) (sym at) (λ nodes notes are. rest nodes (step notes x) (one nodes notes are)))

  pub ended : (step : List Note → X → List Note) (xs : List X) (i : ℕ) (old now : Items) → length xs ≤ i → Goes step xs i old now → Notes (λ before. fold step before xs) old now
  ended step xs i old now past goes = goes now (subst (λ (ys : List X). Notes (λ before. fold step before ys) now now) (sym (drop_all i xs past)) (λ nodes notes are. are))
