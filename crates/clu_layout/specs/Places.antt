-- Places in strings, sequences and arrays, and which numbers are ints and characters.
use Rattle.std.specs.Prelude.{ℕ, suc, ◌-◌, ◌^◌, ℤ, pos, negsuc, ◌+ℤ◌, ◌-ℤ◌, Bool, true, false, ◌==◌, nat_lt, nat_le, nat_eq, List, [], ◌∷◌, length, take, drop, slice_get, slice_set, Option, None, Some, if◌then◌else◌}
use Rattle.std.specs.List.{starts_with}

-- ints are -2^63 to 2^63 - 1
abbrev pub is_int : ℤ → Bool
is_int (pos n) = nat_lt n (2 ^ 63)
is_int (negsuc n) = nat_lt n (2 ^ 63)

abbrev pub is_zero : ℤ → Bool
is_zero (pos n) = n == 0
is_zero (negsuc n) = false

-- how many items an int asks for: none if it is negative
abbrev pub count_of : ℤ → ℕ
count_of (pos n) = n
count_of (negsuc n) = 0

-- the char of this number, 0 to 255
abbrev pub char_of_int : ℤ → Option ℕ
char_of_int (pos n) = if nat_lt n 256 then Some n else None
char_of_int (negsuc n) = None

-- ---- places, if the first one is `low`

abbrev pub high_of : {A : Type 0} → ℤ → List A → ℤ
high_of low xs = (low +ℤ pos (length xs)) -ℤ pos 1

-- the item that has so many others before it
abbrev pub item_after : {A : Type 0} → List A → ℤ → Option A
item_after xs (pos n) = slice_get xs n
item_after xs (negsuc n) = None

-- the items without the first so many, if there are as many
abbrev pub items_after : {A : Type 0} → List A → ℤ → Option (List A)
items_after xs (pos n) = if nat_le n (length xs) then Some (drop n xs) else None
items_after xs (negsuc n) = None

-- the items with another one in the place of the one that has so many before it
abbrev pub with_item_after : {A : Type 0} → List A → ℤ → A → Option (List A)
with_item_after xs (pos n) x = if nat_lt n (length xs) then Some (slice_set xs n x) else None
with_item_after xs (negsuc n) x = None

-- the item at a place from the first to the last
abbrev pub item_at : {A : Type 0} → ℤ → List A → ℤ → Option A
item_at low xs i = item_after xs (i -ℤ low)

-- the items with another one at a place from the first to the last
abbrev pub with_item_at : {A : Type 0} → ℤ → List A → ℤ → A → Option (List A)
with_item_at low xs i x = with_item_after xs (i -ℤ low) x

-- the items from a place on; it may be the place after the last
abbrev pub items_from : {A : Type 0} → ℤ → List A → ℤ → Option (List A)
items_from low xs i = items_after xs (i -ℤ low)

-- ---- the ends of a list

abbrev pub first_item : {A : Type 0} → List A → Option A
first_item [] = None
first_item (x ∷ xs) = Some x

abbrev pub last_item : {A : Type 0} → List A → Option A
last_item xs = slice_get xs (length xs - 1)

-- the items without the first or last one, if there is one
abbrev pub without_first : {A : Type 0} → List A → Option (List A)
without_first [] = None
without_first (x ∷ xs) = Some xs

abbrev pub without_last : {A : Type 0} → List A → Option (List A)
without_last [] = None
without_last (x ∷ xs) = Some (take (length xs) (x ∷ xs))

abbrev pub is_empty : {A : Type 0} → List A → Bool
is_empty [] = true
is_empty (x ∷ xs) = false

-- the least place, counted from `place`, at which the first list stands in the second, or 0
abbrev pub found_from : ℕ → List ℕ → List ℕ → ℕ
found_from place part [] = if nat_eq (length part) 0 then place else 0
found_from place part (c ∷ cs) = if starts_with nat_eq (c ∷ cs) part then place else found_from (suc place) part cs
