-- The operations of sequence[t]. Places count from 1, and n is the size of the result. equal, similar, copy, elements and
-- indexes are defined by texts.
use Rattle.std.specs.Prelude.{pos, List, [], ◌∷◌, ◌++◌, take, replicate, codes}
use Rattle.std.specs.Int.{is_negative}
use Rattle.clu_types.specs.CluType.{CluType}
use Rattle.clu_builtin.specs.declared.names.Signal.TheVariants as signal
use Rattle.clu_layout.specs.Objects.{Object}
use Rattle.clu_layout.specs.Places.{count_of, item_at, with_item_at, items_from, first_item, last_item, without_first, without_last, is_empty}
use Rattle.clu_layout.specs.Actions.{Action, Primitive, gives, gives_bool, gives_size, signals_if, or_signals, with_none, with_one, with_two, with_three, with_int, with_sequence, with_array, new_sequence, new_array}
use Rattle.clu_layout.specs.PlainOperations.{Primitives}

abbrev pub one_sequence : List Object → (List Object → Action) → Action
one_sequence os rest = with_one os (λ s. with_sequence s rest)

-- new | (): T | 1 word | empty
abbrev pub sequence_new : CluType → Primitive
sequence_new t os = with_none os (new_sequence t [])

-- e2s | (t): T | 2 words
abbrev pub sequence_e2s : CluType → Primitive
sequence_e2s t os = with_one os (λ x. new_sequence t (x ∷ []))

-- fill | (int, t): T | negative_size | 1 + n words | number of elements, and the element that all of them are
abbrev pub sequence_fill : CluType → Primitive
sequence_fill t os = with_two os (λ b x. with_int b (λ n.
    signals_if signal.NegativeSize (is_negative n) (new_sequence t (replicate (count_of n) x))))

-- size | (T): int
abbrev pub sequence_size : Primitive
sequence_size os = one_sequence os gives_size

-- empty | (T): bool
abbrev pub sequence_empty : Primitive
sequence_empty os = one_sequence os (λ xs. gives_bool (is_empty xs))

-- fetch | (T, int): t | bounds | 1 to size
abbrev pub sequence_fetch : Primitive
sequence_fetch os = with_two os (λ s b. with_sequence s (λ xs. with_int b (λ i.
    or_signals signal.Bounds (item_at (pos 1) xs i) gives)))

-- bottom | (T): t | bounds | the first
abbrev pub sequence_bottom : Primitive
sequence_bottom os = one_sequence os (λ xs. or_signals signal.Bounds (first_item xs) gives)

-- top | (T): t | bounds | the last
abbrev pub sequence_top : Primitive
sequence_top os = one_sequence os (λ xs. or_signals signal.Bounds (last_item xs) gives)

-- replace | (T, int, t): T | bounds | 1 + n words | another element at a place, 1 to size
abbrev pub sequence_replace : CluType → Primitive
sequence_replace t os = with_three os (λ s b x. with_sequence s (λ xs. with_int b (λ i.
    or_signals signal.Bounds (with_item_at (pos 1) xs i x) (new_sequence t))))

-- addh | (T, t): T | 1 + n words | one element more after the last
abbrev pub sequence_addh : CluType → Primitive
sequence_addh t os = with_two os (λ s x. with_sequence s (λ xs. new_sequence t (xs ++ x ∷ [])))

-- addl | (T, t): T | 1 + n words | one element more before the first
abbrev pub sequence_addl : CluType → Primitive
sequence_addl t os = with_two os (λ s x. with_sequence s (λ xs. new_sequence t (x ∷ xs)))

-- remh | (T): T | bounds | 1 + n words | without the last
abbrev pub sequence_remh : CluType → Primitive
sequence_remh t os = one_sequence os (λ xs. or_signals signal.Bounds (without_last xs) (new_sequence t))

-- reml | (T): T | bounds | 1 + n words | without the first
abbrev pub sequence_reml : CluType → Primitive
sequence_reml t os = one_sequence os (λ xs. or_signals signal.Bounds (without_first xs) (new_sequence t))

-- concat | (T, T): T | 1 + n words
abbrev pub sequence_concat : CluType → Primitive
sequence_concat t os = with_two os (λ a b. with_sequence a (λ xs. with_sequence b (λ ys. new_sequence t (xs ++ ys))))

-- subseq | (T, int, int): T | negative_size, bounds | 1 + n words | from the place, 1 to size + 1, the given count or what
-- is left
abbrev pub sequence_subseq : CluType → Primitive
sequence_subseq t os = with_three os (λ s b d. with_sequence s (λ xs. with_int b (λ i. with_int d (λ n.
    signals_if signal.NegativeSize (is_negative n)
    (or_signals signal.Bounds (items_from (pos 1) xs i) (λ rest. new_sequence t (take (count_of n) rest)))))))

-- a2s | (array[t]): T | 1 + n words
abbrev pub sequence_a2s : CluType → Primitive
sequence_a2s t os = with_one os (λ r. with_array r (λ c a. new_sequence t a.items))

-- s2a | (T): array[t] | 6 + n words | low bound 1
abbrev pub sequence_s2a : CluType → Primitive
sequence_s2a t os = one_sequence os (new_array t (pos 1))

abbrev pub sequence_primitives : CluType → Primitives
sequence_primitives t =
    (codes "new", sequence_new t) ∷
    (codes "e2s", sequence_e2s t) ∷
    (codes "fill", sequence_fill t) ∷
    (codes "size", sequence_size) ∷
    (codes "empty", sequence_empty) ∷
    (codes "fetch", sequence_fetch) ∷
    (codes "bottom", sequence_bottom) ∷
    (codes "top", sequence_top) ∷
    (codes "replace", sequence_replace t) ∷
    (codes "addh", sequence_addh t) ∷
    (codes "addl", sequence_addl t) ∷
    (codes "remh", sequence_remh t) ∷
    (codes "reml", sequence_reml t) ∷
    (codes "concat", sequence_concat t) ∷
    (codes "subseq", sequence_subseq t) ∷
    (codes "a2s", sequence_a2s t) ∷
    (codes "s2a", sequence_s2a t) ∷
    []
