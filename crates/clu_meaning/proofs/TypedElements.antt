-- Elements and components that fit: what operations take from a list of them, or make of it, fits too.
use Rattle.std.proofs.Common.{◌≡◌, refl, subst, arith, length-set, length-drop, length-take}
use Rattle.std.proofs.lemmas.Bool.{false≢true, and_parts, and_from}
use Rattle.std.specs.Prelude.{ℕ, zero, suc, ◌-◌, ◌≤◌, ℤ, pos, negsuc, Bool, true, false, nat_lt, nat_le, List, [], ◌∷◌, ◌++◌, map, length, take, drop, replicate, slice_get, slice_set, Option, None, Some, cond, bytes_eq}
use Rattle.std.specs.Option.{option_map}
use Rattle.clu_types.specs.CluType.{CluType, char_type, Fields, no_fields, field_and}
use Rattle.clu_builtin.specs.Table.{parts_of}
use Rattle.clu_layout.specs.Objects.{Routine, Object, char_object, Objects, no_objects, object_and, listed, inside, Cell, own_type, own_types}
use Rattle.clu_layout.specs.SameType.{fits, all_fit}
use Rattle.clu_layout.specs.Places.{item_after, items_after, with_item_after, first_item, last_item, without_first, without_last}
use Rattle.clu_layout.specs.RecordOperations.{component, with_component}
use Rattle.clu_layout.specs.Primitive.{same_for_each}
use Rattle.clu_meaning.specs.Programs.{Program}
use Rattle.clu_meaning.specs.Typed.{type_of_selector, fits_in, IsTyped, AreTyped, AllTyped}

-- ---- what may be there

abbrev pub IfThere : {A : Type 0} → (A → Type 0) → Option A → Type 0
IfThere P None = Unit {0}
IfThere P (Some x) = P x

pub if_found : {A : Type 0} (P : A → Type 0) (found : Option A) (x : A) → found ≡ Some x → IfThere P found → P x
if_found P found x e h = subst (IfThere P) e h

tested : {A : Type 0} (P : A → Type 0) (b : Bool) (x : A) → P x → IfThere P (cond b (Some x) None)
tested P true x h = h
tested P false x h = tt

module _ (program : Program) (lawful : Routine → Type 0) (cells : List Cell) where
  -- ---- objects as a list and inside another

  pub listed_typed : (os : Objects) → AreTyped program lawful cells os → AllTyped program lawful cells (listed os)
  listed_typed no_objects h = tt
  listed_typed (object_and o os) h = (h.0, listed_typed os h.1)

  pub inside_typed : (os : List Object) → AllTyped program lawful cells os → AreTyped program lawful cells (inside os)
  inside_typed [] h = tt
  inside_typed (o ∷ os) h = (h.0, inside_typed os h.1)

  -- ---- elements

  -- an object that fits where this type is declared
  abbrev pub Is : CluType → Object → Type 0
  Is t o = IsTyped program lawful cells o × (fits (own_type o) t ≡ true)

  module _ (t : CluType) where
    abbrev pub Each : List Object → Type 0
    Each [] = Unit {0}
    Each (x ∷ xs) = Is t x × Each xs

    pub each_of : (xs : List Object) → AllTyped program lawful cells xs → all_fit (own_types xs) (same_for_each t xs) ≡ true → Each xs
    each_of [] h fit = tt
    each_of (x ∷ xs) h fit =
        let parts = and_parts (fits (own_type x) t) (all_fit (own_types xs) (same_for_each t xs)) fit in ((h.0, parts.0), each_of xs h.1 parts.1)

    pub each_typed : (xs : List Object) → Each xs → AllTyped program lawful cells xs
    each_typed [] h = tt
    each_typed (x ∷ xs) h = (h.0.0, each_typed xs h.1)

    pub each_fit : (xs : List Object) → Each xs → all_fit (own_types xs) (same_for_each t xs) ≡ true
    each_fit [] h = refl
    each_fit (x ∷ xs) h = and_from (fits (own_type x) t) (all_fit (own_types xs) (same_for_each t xs)) h.0.1 (each_fit xs h.1)

    pub each_append : (xs ys : List Object) → Each xs → Each ys → Each (xs ++ ys)
    each_append [] ys h k = k
    each_append (x ∷ xs) ys h k = (h.0, each_append xs ys h.1 k)

    pub each_replicate : (n : ℕ) (x : Object) → Is t x → Each (replicate n x)
    each_replicate zero x h = tt
    each_replicate (suc n) x h = (h, each_replicate n x h)

    pub each_take : (n : ℕ) (xs : List Object) → Each xs → Each (take n xs)
    each_take zero xs h = tt
    each_take (suc n) [] h = tt
    each_take (suc n) (x ∷ xs) h = (h.0, each_take n xs h.1)

    each_drop : (n : ℕ) (xs : List Object) → Each xs → Each (drop n xs)
    each_drop zero xs h = h
    each_drop (suc n) [] h = tt
    each_drop (suc n) (x ∷ xs) h = each_drop n xs h.1

    each_set : (xs : List Object) (n : ℕ) (y : Object) → Each xs → Is t y → Each (slice_set xs n y)
    each_set [] n y h k = tt
    each_set (x ∷ xs) zero y h k = (k, h.1)
    each_set (x ∷ xs) (suc n) y h k = (h.0, each_set xs n y h.1 k)

    got : (xs : List Object) (n : ℕ) → Each xs → IfThere (Is t) (slice_get xs n)
    got [] n h = tt
    got (x ∷ xs) zero h = h.0
    got (x ∷ xs) (suc n) h = got xs n h.1

    pub item_is : (xs : List Object) (before_it : ℤ) → Each xs → IfThere (Is t) (item_after xs before_it)
    item_is xs (pos n) h = got xs n h
    item_is xs (negsuc n) h = tt

    pub first_is : (xs : List Object) → Each xs → IfThere (Is t) (first_item xs)
    first_is [] h = tt
    first_is (x ∷ xs) h = h.0

    pub last_is : (xs : List Object) → Each xs → IfThere (Is t) (last_item xs)
    last_is xs h = got xs (length xs - 1) h

    -- elements for which there is room

    abbrev pub Held : ℕ → List Object → Type 0
    Held room xs = Each xs × (length xs ≤ room)

    pub stored_held : (room : ℕ) (xs : List Object) (before_it : ℤ) (y : Object) → Held room xs → Is t y → IfThere (Held room) (with_item_after xs before_it y)
    stored_held room xs (pos n) y h k = tested (Held room) (nat_lt n (length xs)) (slice_set xs n y) (each_set xs n y h.0 k, omega (arith, length-set xs n y, h.1))
    stored_held room xs (negsuc n) y h k = tt

    pub left_held : (room : ℕ) (xs : List Object) (before_it : ℤ) → Held room xs → IfThere (Held room) (items_after xs before_it)
    left_held room xs (pos n) h = tested (Held room) (nat_le n (length xs)) (drop n xs) (each_drop n xs h.0, omega (arith, length-drop n xs, h.1))
    left_held room xs (negsuc n) h = tt

    pub taken_held : (room n : ℕ) (xs : List Object) → Held room xs → Held room (take n xs)
    taken_held room n xs h = (each_take n xs h.0, omega (arith, length-take n xs, h.1))

    pub less_first_held : (room : ℕ) (xs : List Object) → Held room xs → IfThere (Held room) (without_first xs)
    less_first_held room [] h = tt
    less_first_held room (x ∷ xs) h = (h.0.1, omega (arith, h.1))

    pub less_last_held : (room : ℕ) (xs : List Object) → Held room xs → IfThere (Held room) (without_last xs)
    less_last_held room [] h = tt
    less_last_held room (x ∷ xs) h = taken_held room (length xs) (x ∷ xs) h

  pub each_char : (bytes : List ℕ) → Each char_type (map char_object bytes)
  each_char [] = tt
  each_char (c ∷ cs) = ((tt, refl), each_char cs)

  -- ---- components, one for each selector

  abbrev pub Parts : Fields → List Object → Type 0
  Parts no_fields [] = Unit {0}
  Parts (field_and s t rest) (x ∷ xs) = Is t x × Parts rest xs
  Parts _ _ = ⊥

  pub parts_from : (fs : Fields) (xs : List Object) → AllTyped program lawful cells xs → all_fit (own_types xs) (parts_of fs) ≡ true → Parts fs xs
  parts_from no_fields [] h fit = tt
  parts_from (field_and s t rest) (x ∷ xs) h fit =
      let parts = and_parts (fits (own_type x) t) (all_fit (own_types xs) (parts_of rest)) fit in ((h.0, parts.0), parts_from rest xs h.1 parts.1)
  parts_from no_fields (x ∷ xs) h fit = absurd (false≢true fit)
  parts_from (field_and s t rest) [] h fit = absurd (false≢true fit)

  pub parts_typed : (fs : Fields) (xs : List Object) → Parts fs xs → AllTyped program lawful cells xs
  parts_typed no_fields [] h = tt
  parts_typed (field_and s t rest) (x ∷ xs) h = (h.0.0, parts_typed rest xs h.1)
  parts_typed no_fields (x ∷ xs) h = absurd h
  parts_typed (field_and s t rest) [] h = absurd h

  pub parts_fit : (fs : Fields) (xs : List Object) → Parts fs xs → all_fit (own_types xs) (parts_of fs) ≡ true
  parts_fit no_fields [] h = refl
  parts_fit (field_and s t rest) (x ∷ xs) h = and_from (fits (own_type x) t) (all_fit (own_types xs) (parts_of rest)) h.0.1 (parts_fit rest xs h.1)
  parts_fit no_fields (x ∷ xs) h = absurd h
  parts_fit (field_and s t rest) [] h = absurd h

  chosen_typed : (b : Bool) (x : Object) (others : Option Object) → IsTyped program lawful cells x → IfThere (IsTyped program lawful cells) others →
      IfThere (IsTyped program lawful cells) (cond b (Some x) others)
  chosen_typed true x others h k = h
  chosen_typed false x others h k = k

  pub component_typed : (fs : Fields) (s : List ℕ) (xs : List Object) → Parts fs xs → IfThere (IsTyped program lawful cells) (component fs s xs)
  component_typed (field_and name t rest) s (x ∷ xs) h = chosen_typed (bytes_eq name s) x (component rest s xs) h.0.0 (component_typed rest s xs h.1)
  component_typed no_fields s xs h = tt
  component_typed (field_and name t rest) s [] h = tt

  replaced_if : (b : Bool) (name : List ℕ) (t : CluType) (rest : Fields) (others : Option CluType) (x y : Object) (xs : List Object) (found : Option (List Object)) →
      IsTyped program lawful cells y → fits_in (cond b (Some t) others) y ≡ true → Is t x → Parts rest xs →
      (fits_in others y ≡ true → IfThere (Parts rest) found) →
      IfThere (Parts (field_and name t rest)) (cond b (Some (y ∷ xs)) (option_map (λ ys. x ∷ ys) found))
  replaced_if true name t rest others x y xs found typed fit is parts h = ((typed, fit), parts)
  replaced_if false name t rest others x y xs None typed fit is parts h = tt
  replaced_if false name t rest others x y xs (Some ys) typed fit is parts h = (is, h fit)

  -- with another component that fits this selector's type
  pub replaced_parts : (fs : Fields) (s : List ℕ) (y : Object) (xs : List Object) → IsTyped program lawful cells y → fits_in (type_of_selector fs s) y ≡ true → Parts fs xs →
      IfThere (Parts fs) (with_component fs s y xs)
  replaced_parts (field_and name t rest) s y (x ∷ xs) typed fit h =
      replaced_if (bytes_eq name s) name t rest (type_of_selector rest s) x y xs (with_component rest s y xs) typed fit h.0 h.1
      (λ later. replaced_parts rest s y xs typed later h.1)
  replaced_parts no_fields s y xs typed fit h = tt
  replaced_parts (field_and name t rest) s y [] typed fit h = tt
