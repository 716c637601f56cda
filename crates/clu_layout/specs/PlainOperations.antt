-- The operations of null, of proctypes and itertypes, and of bool.
use Rattle.std.specs.Prelude.{ℕ, Bool, true, not, ◌&&◌, ◌||◌, ◌==◌, List, [], ◌∷◌, codes}
use Rattle.std.specs.Bool.{beq}
use Rattle.clu_layout.specs.Objects.{Object}
use Rattle.clu_layout.specs.SameType.{same_routine}
use Rattle.clu_layout.specs.Actions.{Action, Primitive, gives, gives_bool, with_one, with_two, with_bool, with_routine, with_cell}

-- the primitive operations of a type, by name
abbrev pub Primitives : Type 0
Primitives = List (List ℕ × Primitive)

-- copy | (T): T | the object itself
abbrev pub copy_of_immutable : Primitive
copy_of_immutable os = with_one os gives

-- similar is equal, and copy gives the object itself
abbrev pub equal_similar_copy : Primitive → Primitives
equal_similar_copy equal = (codes "equal", equal) ∷ (codes "similar", equal) ∷ (codes "copy", copy_of_immutable) ∷ []

-- equal of arrays, records and variants: whether both are the same object
abbrev pub same_cell : Primitive
same_cell os = with_two os (λ a b. with_cell a (λ c. with_cell b (λ d. gives_bool (c == d))))

-- ---- null, proctypes and itertypes

-- equal | (T, T): bool | null has one object
abbrev pub null_equal : Primitive
null_equal os = with_two os (λ a b. gives_bool true)

-- equal | (T, T): bool | whether they are the same instance, operation of a type or force of a type
abbrev pub routine_equal : Primitive
routine_equal os = with_two os (λ a b. with_routine a (λ f. with_routine b (λ g. gives_bool (same_routine f g))))

abbrev pub null_primitives : Primitives
null_primitives = equal_similar_copy null_equal

abbrev pub routine_primitives : Primitives
routine_primitives = equal_similar_copy routine_equal

-- ---- bool

abbrev pub two_bools : List Object → (Bool → Bool → Action) → Action
two_bools os rest = with_two os (λ a b. with_bool a (λ p. with_bool b (λ q. rest p q)))

-- and | (T, T): T
abbrev pub bool_and : Primitive
bool_and os = two_bools os (λ p q. gives_bool (p && q))

-- or | (T, T): T
abbrev pub bool_or : Primitive
bool_or os = two_bools os (λ p q. gives_bool (p || q))

-- not | (T): T
abbrev pub bool_not : Primitive
bool_not os = with_one os (λ a. with_bool a (λ p. gives_bool (not p)))

-- equal | (T, T): bool
abbrev pub bool_equal : Primitive
bool_equal os = two_bools os (λ p q. gives_bool (beq p q))

abbrev pub bool_primitives : Primitives
bool_primitives =
    (codes "and", bool_and) ∷
    (codes "or", bool_or) ∷
    (codes "not", bool_not) ∷
    equal_similar_copy bool_equal
