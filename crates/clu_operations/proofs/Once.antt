-- Names that stand once, and their numbers while more are kept.
use Rattle.std.proofs.Common.{◌≡◌, ◌∙◌, ℕ, zero, suc, ◌+◌, ◌<◌, ◌≤◌, ◌||◌, not, cond, ltb, Bool, true, false, true≢false, if◌then◌else◌, List, [], ◌∷◌, ◌++◌, length, slice_get, bytes_eq, option_map, Option, Some, None, refl, sym, ap, subst, arith, ltb-true, ltb-false, lt-ltb, le-ltb}
use Rattle.std.specs.List.{list_any, position, position_or_len}
use Rattle.std.proofs.lemmas.Option.{slice_get_within, slice_get-get_or, same_Some}
use Rattle.std.proofs.lemmas.Slice.Eq.{bytes_eq-Decides}
use Rattle.clu_base.proofs.Lists.{none_is_not, front_of, front_get}
use Rattle.clu_operations.specs.Finding.{Extends}
use Rattle.clu_operations.specs.Words.{id_of, named, is_kept, with_name, number_with, AreOnce}
use Rattle.clu_operations.specs.declared.words.NameId.{NameId}
use Rattle.clu_operations.proofs.Naming.{number_named, number_below}

-- ---- items of lists of which one begins with another

pub item_extends : {A : Type 0} (old new : List A) → Extends old new → (k : ℕ) → k < length old → slice_get new k ≡ slice_get old k
item_extends {A} old new g k lt = ap (λ (l : List A). slice_get l k) g.1 ∙ front_get old g.0 k lt

-- what stands at the end
behind : {A : Type 0} (xs : List A) (y x : A) (k : ℕ) → length xs ≤ k → slice_get (xs ++ y ∷ []) k ≡ Some x → (y ≡ x) × (k ≡ length xs)
behind [] y x zero le e = (same_Some y x e, refl)
behind [] y x (suc k) le e = none_is_not x e
behind (z ∷ xs) y x zero le e = absurd (omega (arith, le))
behind (z ∷ xs) y x (suc k) le e = let r = behind xs y x k (omega (arith, le)) e in (r.0, ap (λ (n : ℕ). suc n) r.1)

-- ---- the first item that passes a test

module _ {A : Type 0} (p : A → Bool) where
  abbrev first_at : List A → Option ℕ
  first_at [] = None
  first_at (x ∷ xs) = if p x then Some zero else option_map (λ (n : ℕ). suc n) (first_at xs)

  placed : (xs : List A) → position p xs ≡ first_at xs
  placed [] = refl
  placed (x ∷ xs) = by (p x) (position_or_len p xs) (length xs) (first_at xs) (placed xs)
    where
      shift : (n m : ℕ) (b : Bool) → ltb n m ≡ b → cond (ltb (suc n) (suc m)) (Some (suc n)) None ≡ option_map (λ (n : ℕ). suc n) (cond (ltb n m) (Some n) None)
      shift n m true e =
          let longer : ltb (suc n) (suc m) ≡ true = lt-ltb (suc n) (suc m) (omega (arith, ltb-true)) in
          ap (λ (b : Bool). cond b (Some (suc n)) None) longer ∙ ap (λ (b : Bool). option_map (λ (n : ℕ). suc n) (cond b (Some n) None)) (sym e)
      shift n m false e =
          let longer : ltb (suc n) (suc m) ≡ false = le-ltb (suc n) (suc m) (omega (arith, ltb-false)) in
          ap (λ (b : Bool). cond b (Some (suc n)) None) longer ∙ ap (λ (b : Bool). option_map (λ (n : ℕ). suc n) (cond b (Some n) None)) (sym e)

      by : (b : Bool) (n m : ℕ) (o : Option ℕ) → cond (ltb n m) (Some n) None ≡ o → cond (ltb (cond (not b) (1 + n) 0) (suc m)) (Some (cond (not b) (1 + n) 0)) None ≡ (if b then Some zero else option_map (λ (n : ℕ). suc n) o)
      by true n m o e = let first : ltb 0 (suc m) ≡ true = lt-ltb 0 (suc m) (omega arith) in ap (λ (b : Bool). cond b (Some 0) None) first
      by false n m o e =
          let one : 1 + n ≡ suc n = omega arith in
          ap (λ (k : ℕ). cond (ltb k (suc m)) (Some k) None) one ∙ shift n m (ltb n m) refl ∙ ap (option_map (λ (n : ℕ). suc n)) e

  first_item : (xs : List A) (i : ℕ) → first_at xs ≡ Some i → (x : A) × (slice_get xs i ≡ Some x) × (p x ≡ true)
  first_item [] i e = none_is_not i e
  first_item (x ∷ xs) i e = by (p x) refl (first_at xs) refl (first_item xs) e
    where
      by : (b : Bool) → p x ≡ b → (o : Option ℕ) → first_at xs ≡ o → ((k : ℕ) → first_at xs ≡ Some k → (y : A) × (slice_get xs k ≡ Some y) × (p y ≡ true)) → (if b then Some zero else option_map (λ (n : ℕ). suc n) o) ≡ Some i
          → (y : A) × (slice_get (x ∷ xs) i ≡ Some y) × (p y ≡ true)
      by true t o q rest e = (x, ap (λ (k : ℕ). slice_get (x ∷ xs) k) (sym (same_Some zero i e)), t)
      by false t (Some k) q rest e = let r = rest k q in (r.0, ap (λ (j : ℕ). slice_get (x ∷ xs) j) (sym (same_Some (suc k) i e)) ∙ r.1, r.2)
      by false t None q rest e = none_is_not i e

  first_stays : (xs ys : List A) (i : ℕ) → first_at xs ≡ Some i → first_at (xs ++ ys) ≡ Some i
  first_stays [] ys i e = none_is_not i e
  first_stays (x ∷ xs) ys i e = by (p x) (first_at xs) refl (first_stays xs ys) e
    where
      by : (b : Bool) (o : Option ℕ) → first_at xs ≡ o → ((k : ℕ) → first_at xs ≡ Some k → first_at (xs ++ ys) ≡ Some k) → (if b then Some zero else option_map (λ (n : ℕ). suc n) o) ≡ Some i
          → (if b then Some zero else option_map (λ (n : ℕ). suc n) (first_at (xs ++ ys))) ≡ Some i
      by true o q rest e = e
      by false (Some k) q rest e = ap (option_map (λ (n : ℕ). suc n)) (rest k q) ∙ e
      by false None q rest e = none_is_not i e

  first_later : (xs ys : List A) (i : ℕ) → first_at xs ≡ None → first_at (xs ++ ys) ≡ Some i → length xs ≤ i
  first_later [] ys i none e = omega arith
  first_later (x ∷ xs) ys i none e = by (p x) (first_at xs) refl (first_at (xs ++ ys)) refl (first_later xs ys) none e
    where
      by : (b : Bool) (o : Option ℕ) → first_at xs ≡ o → (u : Option ℕ) → first_at (xs ++ ys) ≡ u → ((k : ℕ) → first_at xs ≡ None → first_at (xs ++ ys) ≡ Some k → length xs ≤ k)
          → (if b then Some zero else option_map (λ (n : ℕ). suc n) o) ≡ None → (if b then Some zero else option_map (λ (n : ℕ). suc n) u) ≡ Some i → suc (length xs) ≤ i
      by true o q u r rest none e = none_is_not zero (sym none)
      by false (Some k) q u r rest none e = none_is_not (suc k) (sym none)
      by false None q (Some j) r rest none e = omega (arith, rest j q r, same_Some (suc j) i e)
      by false None q None r rest none e = none_is_not i e

  -- a new one at the end is the first where none was
  first_last : (xs : List A) (y : A) → list_any p xs ≡ false → p y ≡ true → first_at (xs ++ y ∷ []) ≡ Some (length xs)
  first_last [] y none t = ap (λ (b : Bool). if b then Some zero else None) t
  first_last (x ∷ xs) y none t = by (p x) (list_any p xs) refl none (λ e. first_last xs y e t)
    where
      by : (b more : Bool) → list_any p xs ≡ more → (b || more) ≡ false → (list_any p xs ≡ false → first_at (xs ++ y ∷ []) ≡ Some (length xs))
          → (if b then Some zero else option_map (λ (n : ℕ). suc n) (first_at (xs ++ y ∷ []))) ≡ Some (suc (length xs))
      by true more q none rest = absurd (true≢false none)
      by false true q none rest = absurd (true≢false none)
      by false false q none rest = ap (option_map (λ (n : ℕ). suc n)) (rest q)

-- ---- names by their numbers

abbrev place_of : Option NameId → Option ℕ
place_of o = option_map (λ (id : NameId). id.0) o

place_is : (o : Option ℕ) → place_of (id_of o) ≡ o
place_is (Some place) = refl
place_is None = refl

to_first : (names : List (List ℕ)) (name : List ℕ) (o : Option NameId) → named names name ≡ o → first_at (bytes_eq name) names ≡ place_of o
to_first names name o e = sym (placed (bytes_eq name) names) ∙ sym (place_is (position (bytes_eq name) names)) ∙ ap place_of e

from_first : (names : List (List ℕ)) (name : List ℕ) (o : Option ℕ) → first_at (bytes_eq name) names ≡ o → named names name ≡ id_of o
from_first names name o e = ap id_of (placed (bytes_eq name) names ∙ e)

-- the name of a number
pub named_item : (names : List (List ℕ)) (name : List ℕ) (id : NameId) → named names name ≡ Some id → slice_get names id.0 ≡ Some name
named_item names name id e =
    let r = first_item (bytes_eq name) names id.0 (to_first names name (Some id) e) in
    r.1 ∙ ap Some (sym ((bytes_eq-Decides name r.0).0 r.2))

pub named_within : (names : List (List ℕ)) (name : List ℕ) (id : NameId) → named names name ≡ Some id → id.0 < length names
named_within names name id e = slice_get_within names id.0 name (named_item names name id e)

pub named_stays : (old new : List (List ℕ)) → Extends old new → (name : List ℕ) (id : NameId) → named old name ≡ Some id → named new name ≡ Some id
named_stays old new g name id e =
    from_first new name (Some id.0) (ap (λ (l : List (List ℕ)). first_at (bytes_eq name) l) g.1 ∙ first_stays (bytes_eq name) old g.0 id.0 (to_first old name (Some id) e))

-- a name that comes later has a number behind the others
pub named_later : (old new : List (List ℕ)) → Extends old new → (name : List ℕ) (id : NameId) → named old name ≡ None → named new name ≡ Some id → length old ≤ id.0
named_later old new g name id none e =
    first_later (bytes_eq name) old g.0 id.0 (to_first old name None none) (ap (λ (l : List (List ℕ)). first_at (bytes_eq name) l) (sym g.1) ∙ to_first new name (Some id) e)

pub once_none : AreOnce []
once_none id name e = none_is_not name e

pub once_with : (names : List (List ℕ)) (name : List ℕ) → AreOnce names → AreOnce (with_name names name)
once_with names name once = by (is_kept names name) refl
  where
    one : is_kept names name ≡ false → (id : NameId) (other : List ℕ) (b : Bool) → ltb id.0 (length names) ≡ b → slice_get (names ++ name ∷ []) id.0 ≡ Some other → named (names ++ name ∷ []) other ≡ Some id
    one none id other true lt e = named_stays names (names ++ name ∷ []) (name ∷ [], refl) other id (once id other (front_of names (name ∷ []) id.0 other (omega (arith, ltb-true)) e))
    one none id other false lt e =
        let r = behind names name other id.0 (omega (arith, ltb-false)) e in
        let last : first_at (bytes_eq name) (names ++ name ∷ []) ≡ Some id.0 = first_last (bytes_eq name) names name none ((bytes_eq-Decides name name).1 refl) ∙ ap Some (sym r.1) in
        subst (λ (n : List ℕ). named (names ++ name ∷ []) n ≡ Some id) r.0 (from_first (names ++ name ∷ []) name (Some id.0) last)

    by : (b : Bool) → is_kept names name ≡ b → AreOnce (if b then names else names ++ name ∷ [])
    by true e = once
    by false e = λ id other at. one e id other (ltb id.0 (length names)) refl at

-- the name that is kept now has this number
pub number_of_name : (names : List (List ℕ)) (name : List ℕ) → AreOnce names → named (with_name names name) name ≡ Some (number_with names name)
number_of_name names name once =
    let there = slice_get-get_or (with_name names name) (number_with names name).0 [] (number_below names name) in
    once_with names name once (number_with names name) name (there ∙ ap Some (number_named names name))
