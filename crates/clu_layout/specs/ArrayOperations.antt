-- The operations of array[t]. similar, similar1, copy, elements and indexes are defined by texts. If none of the listed
-- signals comes and low - 1, low or high would leave the ints, an operation changes nothing and fails.
use Rattle.std.specs.Prelude.{ℕ, ◌*◌, max, ℤ, pos, ◌+ℤ◌, ◌-ℤ◌, ◌==◌, List, [], ◌∷◌, ◌++◌, length, take, replicate, codes}
use Rattle.std.specs.Int.{is_negative}
use Rattle.clu_types.specs.CluType.{CluType}
use Rattle.clu_builtin.specs.declared.names.Signal.TheVariants as signal
use Rattle.clu_layout.specs.Objects.{Object, Array, array_cell}
use Rattle.clu_layout.specs.Places.{high_of, count_of, item_at, with_item_at, items_from, first_item, last_item, without_first, without_last, is_empty}
use Rattle.clu_layout.specs.Actions.{Action, Primitive, gives, gives_nothing, gives_bool, gives_int, gives_size, signals_if, or_signals, either, counts, takes, with_none, with_one, with_two, with_three, with_int, with_array, with_int_bounds, changes, changes_array, new_array}
use Rattle.clu_layout.specs.PlainOperations.{Primitives, same_cell}

abbrev pub one_array : List Object → (ℕ → Array → Action) → Action
one_array os rest = with_one os (λ r. with_array r rest)

abbrev pub array_and_int : List Object → (ℕ → Array → ℤ → Action) → Action
array_and_int os rest = with_two os (λ r b. with_array r (λ c a. with_int b (λ i. rest c a i)))

-- create | (int): T | 6 words | empty, with this low bound
abbrev pub array_create : CluType → Primitive
array_create t os = with_one os (λ b. with_int b (λ low. new_array t low []))

-- new | (): T | 6 words | empty, low bound 1
abbrev pub array_new : CluType → Primitive
array_new t os = with_none os (new_array t (pos 1) [])

-- predict | (int, int): T | 6 words | create of the first; the second is not used
abbrev pub array_predict : CluType → Primitive
array_predict t os = with_two os (λ b n. with_int b (λ low. new_array t low []))

-- fill | (int, int, t): T | negative_size | 6 + n words | low bound, number of elements, and the element that
-- all of them are
abbrev pub array_fill : CluType → Primitive
array_fill t os = with_three os (λ b c x. with_int b (λ low. with_int c (λ n.
    signals_if signal.NegativeSize (is_negative n) (new_array t low (replicate (count_of n) x)))))

-- size | (T): int
abbrev pub array_size : Primitive
array_size os = one_array os (λ c a. gives_size a.items)

-- low | (T): int
abbrev pub array_low : Primitive
array_low os = one_array os (λ c a. gives_int a.low)

-- high | (T): int | low + size - 1
abbrev pub array_high : Primitive
array_high os = one_array os (λ c a. gives_int (high_of a.low a.items))

-- empty | (T): bool
abbrev pub array_empty : Primitive
array_empty os = one_array os (λ c a. gives_bool (is_empty a.items))

-- set_low | (T, int) | moves the bounds, not the elements
abbrev pub array_set_low : Primitive
array_set_low os = array_and_int os (λ c a low. changes_array c (record a { low = low }) gives_nothing)

-- fetch | (T, int): t | bounds | low to high
abbrev pub array_fetch : Primitive
array_fetch os = array_and_int os (λ c a i. or_signals signal.Bounds (item_at a.low a.items i) gives)

-- store | (T, int, t) | bounds | low to high
abbrev pub array_store : Primitive
array_store os = with_three os (λ r b x. with_array r (λ c a. with_int b (λ i.
    or_signals signal.Bounds (with_item_at a.low a.items i x) (λ xs. changes_array c (record a { items = xs }) gives_nothing))))

-- bottom | (T): t | bounds | the element at low
abbrev pub array_bottom : Primitive
array_bottom os = one_array os (λ c a. or_signals signal.Bounds (first_item a.items) gives)

-- top | (T): t | bounds | the element at high
abbrev pub array_top : Primitive
array_top os = one_array os (λ c a. or_signals signal.Bounds (last_item a.items) gives)

-- the room of an array that has used up its own: the greater of 4 and twice itself
abbrev pub more_room : Array → ℕ
more_room a = max 4 (2 * a.room)

-- the array in cell c, which is a, becomes b, which has one element more. If the room is used up, the elements that there
-- are count besides, and the new room is the cost
abbrev pub grows : ℕ → Array → Array → Action
grows c a b = either (length a.items == a.room)
    (counts (length a.items)
    (with_int_bounds b (takes (more_room a) (changes c (array_cell (record b { room = more_room a })) gives_nothing))))
    (with_int_bounds b (changes c (array_cell b) gives_nothing))

-- addh | (T, t) | if the room is used up, the new room in words | one element more at high + 1
abbrev pub array_addh : Primitive
array_addh os = with_two os (λ r x. with_array r (λ c a. grows c a (record a { items = a.items ++ x ∷ [] })))

-- addl | (T, t) | if the room is used up, the new room in words | one element more at low - 1, which becomes the low bound
abbrev pub array_addl : Primitive
array_addl os = with_two os (λ r x. with_array r (λ c a. grows c a (record a { low = a.low -ℤ pos 1; items = x ∷ a.items })))

-- remh | (T): t | bounds | takes the element at high; the room stays
abbrev pub array_remh : Primitive
array_remh os = one_array os (λ c a. or_signals signal.Bounds (last_item a.items) (λ x.
    or_signals signal.Bounds (without_last a.items) (λ xs. changes_array c (record a { items = xs }) (gives x))))

-- reml | (T): t | bounds | takes the element at low, and raises the low bound; the room stays
abbrev pub array_reml : Primitive
array_reml os = one_array os (λ c a. or_signals signal.Bounds (first_item a.items) (λ x.
    or_signals signal.Bounds (without_first a.items) (λ xs. changes_array c (record a { low = a.low +ℤ pos 1; items = xs }) (gives x))))

-- trim | (T, int, int) | negative_size, bounds | keeps the elements from the place, low to high + 1, the given count or
-- what is left; the place becomes the low bound; the room stays
abbrev pub array_trim : Primitive
array_trim os = with_three os (λ r b d. with_array r (λ c a. with_int b (λ i. with_int d (λ n.
    signals_if signal.NegativeSize (is_negative n) (or_signals signal.Bounds (items_from a.low a.items i) (λ rest.
    changes_array c (record a { low = i; items = take (count_of n) rest }) gives_nothing))))))

-- copy1 | (T): T | 6 + size words | a new array of the same elements
abbrev pub array_copy1 : Primitive
array_copy1 os = one_array os (λ c a. new_array a.element a.low a.items)

-- equal | (T, T): bool | the same array
abbrev pub array_equal : Primitive
array_equal = same_cell

abbrev pub array_primitives : CluType → Primitives
array_primitives t =
    (codes "create", array_create t) ∷
    (codes "new", array_new t) ∷
    (codes "predict", array_predict t) ∷
    (codes "fill", array_fill t) ∷
    (codes "size", array_size) ∷
    (codes "low", array_low) ∷
    (codes "high", array_high) ∷
    (codes "empty", array_empty) ∷
    (codes "set_low", array_set_low) ∷
    (codes "fetch", array_fetch) ∷
    (codes "store", array_store) ∷
    (codes "bottom", array_bottom) ∷
    (codes "top", array_top) ∷
    (codes "addh", array_addh) ∷
    (codes "addl", array_addl) ∷
    (codes "remh", array_remh) ∷
    (codes "reml", array_reml) ∷
    (codes "trim", array_trim) ∷
    (codes "copy1", array_copy1) ∷
    (codes "equal", array_equal) ∷
    []
