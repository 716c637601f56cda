-- Lists as sets: the same items, in any order and however often.
use Rattle.std.specs.Prelude.{◌≡◌, ◌⊎◌, List, [], ◌∷◌}

-- x is an item of the list
abbrev pub Has : {A : Type 0} → List A → A → Type 0
Has [] x = ⊥
Has (y ∷ ys) x = (y ≡ x) ⊎ Has ys x

pub record HaveSame {A : Type 0} (xs ys : List A) : Type 0 where
  pub first : (x : A) → Has xs x → Has ys x
  pub second : (x : A) → Has ys x → Has xs x
