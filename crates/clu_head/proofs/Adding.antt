-- Lists that are made item by item of others, while the arena grows.
use Rattle.std.proofs.Common.{◌≡◌, List, [], ◌∷◌, ◌++◌, sym, subst}
use Rattle.std.specs.List.{AllZip}
use Rattle.clu_head.specs.Adding.{Adds}

module _ {X Y : Type 0} where
  pub zip_joined : (R : X → Y → Type 0) (xs ys : List X) (ps qs : List Y) → AllZip R xs ps → AllZip R ys qs → AllZip R (xs ++ ys) (ps ++ qs)
  zip_joined R [] ys [] qs a b = b
  zip_joined R [] ys (y ∷ ps) qs a b = absurd a
  zip_joined R (x ∷ xs) ys [] qs a b = absurd a
  zip_joined R (x ∷ xs) ys (y ∷ ps) qs a b = (a.0, zip_joined R xs ys ps qs a.1 b)

  pub zip_wider : (R S : X → Y → Type 0) → ((x : X) (y : Y) → R x y → S x y) → (xs : List X) (ys : List Y) → AllZip R xs ys → AllZip S xs ys
  zip_wider R S wider [] [] a = tt
  zip_wider R S wider [] (y ∷ ys) a = absurd a
  zip_wider R S wider (x ∷ xs) [] a = absurd a
  zip_wider R S wider (x ∷ xs) (y ∷ ys) a = (wider x y a.0, zip_wider R S wider xs ys a.1)

  -- what is made so far and what is appended, each in the arena of its time
  pub adds_behind : (P Q R : X → Y → Type 0) → ((x : X) (y : Y) → P x y → R x y) → ((x : X) (y : Y) → Q x y → R x y) → (done xs : List X) (old new : List Y) → AllZip P done old → Adds Q xs old new → AllZip R (done ++ xs) new
  unfolding Adds
  adds_behind P Q R first then_ done xs old new are more =
      subst (AllZip R (done ++ xs)) (sym more.1) (zip_joined R done xs old more.0 (zip_wider P R first done old are) (zip_wider Q R then_ xs more.0 more.2))

  pub adds_one : (R : X → Y → Type 0) (x : X) (y : Y) (old new : List Y) → new ≡ old ++ y ∷ [] → R x y → Adds R (x ∷ []) old new
  unfolding Adds
  adds_one R x y old new is r = (y ∷ [], is, (r, tt))
