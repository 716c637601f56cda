-- A word is put into an array: an element in its place, another low bound.
use Rattle.std.proofs.Common.{◌≡◌, ℕ, zero, suc, ◌+◌, ◌-◌, ◌*◌, ◌%◌, ◌<◌, ◌≤◌, true, List, [], ◌∷◌, length, Some, slice_get, slice_set, refl, sym, ap, ◌∙◌, subst, arith, ◌≢◌, ◌⊎◌, inl, inr, ⊎_elim, mod-eq_of_lt, mod-lt, ℤ, pos, ◌+ℤ◌, ◌-ℤ◌, ◌&&◌}
use Rattle.std.proofs.lemmas.Bool.{cases_lt, cases_eq}
use lib.Arith.{digits_mod}
use Rattle.clu_layout.specs.Actions.{has_int_bounds}
use Rattle.clu_layout.specs.Places.{is_int}
use Rattle.clu_layout.specs.Objects.{Array, Object}
use Rattle.clu_representation.specs.Layout.{Image, Layout, of_cell, with_word}
use Rattle.clu_representation.specs.Shown.{At, IsInt}
use Rattle.clu_representation.specs.Held.{Cellular, IsArray, Own, distance}
use Rattle.clu_representation.proofs.Changes.{put_there}
use Rattle.clu_representation.proofs.Lists.{get_set_here, get_set_other, length_set}
use Rattle.clu_representation.proofs.OwnPuts.{own_put, put_beside, put_shows}

-- the place in the room of the element that has so many before it
pub in_room : (first i room : ℕ) → i < room → first ≤ room - 1 → ((first + i < room) × ((first + i) % room ≡ first + i)) ⊎ ((room ≤ first + i) × ((first + i) % room ≡ first + i - room))
in_room first i room l f = ⊎_elim
    (λ less. inl (less, mod-eq_of_lt less))
    (λ more.
    let split : first + i ≡ 1 * room + (first + i - room) = omega (arith, more) in
    let small : first + i - room < room = omega (arith, l, f, more) in
    inr (more, ap (λ q. q % room) split ∙ digits_mod 1 small))
    (cases_lt (first + i) room)

-- different elements have different places
pub places_apart : (first i j room : ℕ) → i < room → j < room → first ≤ room - 1 → j ≢ i → (first + j) % room ≢ (first + i) % room
places_apart first i j room l m f k = by (in_room first i room l f) (in_room first j room m f)
  where
    by : ((first + i < room) × ((first + i) % room ≡ first + i)) ⊎ ((room ≤ first + i) × ((first + i) % room ≡ first + i - room)) →
        ((first + j < room) × ((first + j) % room ≡ first + j)) ⊎ ((room ≤ first + j) × ((first + j) % room ≡ first + j - room)) → (first + j) % room ≢ (first + i) % room
    by (inl (a, p)) (inl (b, q)) e = k (omega (arith, p, q, e))
    by (inl (a, p)) (inr (b, q)) e = absurd (omega (arith, a, b, p, q, e, l, m, f))
    by (inr (a, p)) (inl (b, q)) e = absurd (omega (arith, a, b, p, q, e, l, m, f))
    by (inr (a, p)) (inr (b, q)) e = k (omega (arith, a, b, p, q, e))

header_beside : (map : Layout) (c p v at value : ℕ) → at < p → Own map c at value → Own (with_word map p v) c at value
header_beside map c p v at value l h = record { whose = h.whose; is = put_there map.word p v at (λ e. omega (arith, e, l)) ∙ h.is }

module _ (image : Image) (map : Layout) (c : ℕ) (a : Array) (h : IsArray image map c a) where
  -- where the element of a place lies
  abbrev pub element_at : ℕ → ℕ
  element_at i = h.block + distance h.first i a.room

  pub element_mine : (i : ℕ) → i < a.room → map.owner (element_at i) ≡ of_cell c
  element_mine i l = h.whole_room ((h.first + i) % a.room) (mod-lt (h.first + i) (omega (arith, l)))

  -- another element
  pub array_put : (i v : ℕ) (o : Object) → i < length a.items → At image map a.element o v →
      IsArray image (with_word map (element_at i) v) c (record a { items = slice_set a.items i o })
  array_put i v o l shown =
      let p = element_at i in
      let inside : i < a.room = omega (arith, l, h.enough) in
      let mine = element_mine i inside in
      let far : map.address c + 48 ≤ h.block = h.behind (omega (arith, inside)) in
      record {
        type_is = h.type_is;
        low = h.low;
        low_is = h.low_is;
        holds_low = header_beside map c p v (map.address c) h.low (omega (arith, far)) h.holds_low;
        size = subst (λ n. Own (with_word map p v) c (map.address c + 8) n) (sym (length_set a.items i o)) (header_beside map c p v (map.address c + 8) (length a.items) (omega (arith, far)) h.size);
        room = header_beside map c p v (map.address c + 16) a.room (omega (arith, far)) h.room;
        first = h.first;
        holds_first = header_beside map c p v (map.address c + 24) h.first (omega (arith, far)) h.holds_first;
        first_inside = h.first_inside;
        block = h.block;
        holds_block = header_beside map c p v (map.address c + 32) h.block (omega (arith, far)) h.holds_block;
        behind = h.behind;
        enough = subst (λ n. n ≤ a.room) (sym (length_set a.items i o)) h.enough;
        bounds = subst (λ n. is_int (a.low -ℤ pos 1) && is_int a.low && is_int ((a.low +ℤ pos n) -ℤ pos 1) ≡ true) (sym (length_set a.items i o)) h.bounds;
        items = λ j x there. ⊎_elim
            (λ same. subst (λ n. Cellular image (with_word map p v) c a.element x (element_at n)) (sym same)
            (subst (λ y. Cellular image (with_word map p v) c a.element y p) (sym (get_set_here a.items i o x (subst (λ n. slice_get (slice_set a.items i o) n ≡ Some x) same there)))
            (put_shows image map c p v p a.element o mine refl shown)))
            (λ other. let was = sym (get_set_other a.items i j o other) ∙ there in
            put_beside image map c p v (element_at j) a.element x mine (λ e. apart j x was other e) (h.items j x was))
            (cases_eq j i);
        whole_room = h.whole_room;
      }
    where
      apart : (j : ℕ) (x : Object) → slice_get a.items j ≡ Some x → j ≢ i → element_at j ≢ element_at i
      apart j x was other e = places_apart h.first i j a.room (omega (arith, l, h.enough)) (omega (arith, within a.items j x was, h.enough)) h.first_inside other (omega (arith, e))
        where
          within : (xs : List Object) (j : ℕ) (x : Object) → slice_get xs j ≡ Some x → j < length xs
          within [] j x e = absurd (cc e)
          within (y ∷ ys) zero x e = omega arith
          within (y ∷ ys) (suc j) x e = omega (arith, within ys j x e)

  -- another low bound
  pub low_put : (low : ℤ) (v : ℕ) → IsInt low v → has_int_bounds (record a { low = low }) ≡ true → IsArray image (with_word map (map.address c) v) c (record a { low = low })
  low_put low v n bounds = record {
    type_is = h.type_is;
    low = v;
    low_is = n;
    holds_low = own_put map c (map.address c) v h.holds_low.whose;
    size = beside 8 (length a.items) (omega arith) h.size;
    room = beside 16 a.room (omega arith) h.room;
    first = h.first;
    holds_first = beside 24 h.first (omega arith) h.holds_first;
    first_inside = h.first_inside;
    block = h.block;
    holds_block = beside 32 h.block (omega arith) h.holds_block;
    behind = h.behind;
    enough = h.enough;
    bounds = bounds;
    items = λ j x there. put_beside image map c (map.address c) v (element_at j) a.element x h.holds_low.whose
        (λ e. omega (arith, e, h.behind (omega (arith, within a.items j x there, h.enough)))) (h.items j x there);
    whole_room = h.whole_room;
  }
    where
      beside : (k value : ℕ) → 0 < k → Own map c (map.address c + k) value → Own (with_word map (map.address c) v) c (map.address c + k) value
      beside k value l o = record { whose = o.whose; is = put_there map.word (map.address c) v (map.address c + k) (λ e. omega (arith, e, l)) ∙ o.is }

      within : (xs : List Object) (j : ℕ) (x : Object) → slice_get xs j ≡ Some x → j < length xs
      within [] j x e = absurd (cc e)
      within (y ∷ ys) zero x e = omega arith
      within (y ∷ ys) (suc j) x e = omega (arith, within ys j x e)
