-- What is found of a name once an item was put at its place, or left out.
use Rattle.std.proofs.Common.{◌≡◌, ◌≢◌, ◌∙◌, ℕ, List, [], ◌∷◌, Bool, true, false, not, Option, Some, find, refl, sym, ap, true≢false}
use Rattle.std.specs.List.{filter}
use Rattle.std.specs.Str.{bytes_eq}
use Rattle.std.specs.Ordering.{is_eq}
use Rattle.std.proofs.lemmas.Slice.Eq.{bytes_eq-Decides}
use Rattle.std.specs.declared.cmp.Ordering.{Ordering}
use Rattle.std.specs.declared.cmp.Ordering.TheVariants.{Less, Equal, Greater}
use Rattle.clu_types.specs.Specs.{name_order}
use Rattle.clu_library.specs.ByName.{placed, with_item}
use Rattle.clu_library.proofs.Placed.{order_of_same}

pub differs : (m n : List ℕ) → m ≢ n → bytes_eq m n ≡ false
differs m n d = by (bytes_eq m n) refl
  where
    by : (b : Bool) → bytes_eq m n ≡ b → bytes_eq m n ≡ false
    by true e = absurd (d ((bytes_eq-Decides m n).0 e))
    by false e = e

module _ {X : Type 0} (f : X → List ℕ) where
  abbrev pub named : List ℕ → List X → Option X
  named name xs = find (λ x. bytes_eq (f x) name) xs

  -- an item of this name is found
  pub found_item : (name : List ℕ) (xs : List X) (y : X) → bytes_eq (f y) name ≡ true → named name (with_item f xs y) ≡ Some y
  found_item name [] y this = rw this refl
  found_item name (x ∷ xs) y this = by (name_order (f x) (f y)) refl (found_item name xs y this)
    where
      same : f y ≡ name
      same = (bytes_eq-Decides (f y) name).0 this

      apart : name_order (f x) (f y) ≡ Less → (b : Bool) → bytes_eq (f x) name ≡ b → b ≡ false
      apart e true equal =
          let order : is_eq (name_order (f x) (f y)) ≡ true = order_of_same (f x) (f y) (ap (bytes_eq (f x)) same ∙ equal) in
          absurd (true≢false (sym order ∙ ap is_eq e))
      apart e false equal = refl

      by : (o : Ordering) → name_order (f x) (f y) ≡ o → named name (with_item f xs y) ≡ Some y → named name (placed o y x xs (with_item f xs y)) ≡ Some y
      by Less e behind = rw (apart e (bytes_eq (f x) name) refl) behind
      by Equal e behind = rw this refl
      by Greater e behind = rw this refl

  -- of another name the same is found where those of one are left out
  pub found_left : (name gone : List ℕ) (xs : List X) → name ≢ gone → named name (filter (λ x. not (bytes_eq (f x) gone)) xs) ≡ named name xs
  found_left name gone [] d = refl
  found_left name gone (x ∷ xs) d = by (bytes_eq (f x) gone) refl (bytes_eq (f x) name) refl (found_left name gone xs d)
    where
      by : (b : Bool) → bytes_eq (f x) gone ≡ b → (h : Bool) → bytes_eq (f x) name ≡ h → named name (filter (λ x. not (bytes_eq (f x) gone)) xs) ≡ named name xs
          → named name (filter (λ x. not (bytes_eq (f x) gone)) (x ∷ xs)) ≡ named name (x ∷ xs)
      by true e true h behind = absurd (d (sym ((bytes_eq-Decides (f x) name).0 h) ∙ (bytes_eq-Decides (f x) gone).0 e))
      by true e false h behind = rw e (rw h behind)
      by false e true h behind = rw e (rw h refl)
      by false e false h behind = rw e (rw h behind)
