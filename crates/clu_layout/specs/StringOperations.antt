-- The operations of string. Places count from 1. n is the size of the result, and w(n) is n / 8 rounded up, the words that
-- hold n bytes. chars is defined by a text.
use Rattle.std.specs.Prelude.{ℕ, ◌+◌, ◌*◌, pos, Bool, List, [], ◌∷◌, ◌++◌, map, length, take, codes}
use Rattle.std.specs.Int.{is_negative}
use Rattle.std.specs.declared.cmp.Ordering.{Ordering}
use Rattle.std.specs.Ordering.{is_lt, is_le, is_eq, is_ge, is_gt, nat_cmp}
use Rattle.std.specs.Cmp.Lexicographic.{slice_cmp}
use Rattle.clu_types.specs.CluType.{char_type}
use Rattle.clu_builtin.specs.declared.names.Signal.TheVariants as signal
use Rattle.clu_layout.specs.Objects.{Object, char_object}
use Rattle.clu_layout.specs.Places.{count_of, item_at, items_from, found_from, is_empty}
use Rattle.clu_layout.specs.Actions.{Action, Primitive, gives, gives_bool, gives_int, gives_size, signals_if, or_signals, needed, counts, with_one, with_two, with_three, with_int, with_char, with_string, with_array, bytes_of, new_string, new_array}
use Rattle.clu_layout.specs.PlainOperations.{Primitives, equal_similar_copy}

abbrev pub one_string : List Object → (List ℕ → Action) → Action
one_string os rest = with_one os (λ a. with_string a rest)

abbrev pub two_strings : List Object → (List ℕ → List ℕ → Action) → Action
two_strings os rest = with_two os (λ a b. with_string a (λ s. with_string b (λ t. rest s t)))

-- size | (T): int
abbrev pub string_size : Primitive
string_size os = one_string os gives_size

-- empty | (T): bool
abbrev pub string_empty : Primitive
string_empty os = one_string os (λ s. gives_bool (is_empty s))

-- lt, le, ge, gt, equal | (T, T): bool | by bytes, a proper prefix is less; they count the bytes of both besides
abbrev pub string_compared : (Ordering → Bool) → Primitive
string_compared holds os = two_strings os (λ s t. counts (length s + length t) (gives_bool (holds (slice_cmp nat_cmp s t))))

-- c2s | (char): T | 2 words, which is 1 + w(1)
abbrev pub string_c2s : Primitive
string_c2s os = with_one os (λ a. with_char a (λ c. new_string (c ∷ [])))

-- concat | (T, T): T | 1 + w(n) words
abbrev pub string_concat : Primitive
string_concat os = two_strings os (λ s t. new_string (s ++ t))

-- append | (T, char): T | 1 + w(n) words
abbrev pub string_append : Primitive
string_append os = with_two os (λ a b. with_string a (λ s. with_char b (λ c. new_string (s ++ c ∷ []))))

-- fetch | (T, int): char | bounds | 1 to size
abbrev pub string_fetch : Primitive
string_fetch os = with_two os (λ a b. with_string a (λ s. with_int b (λ i.
    or_signals signal.Bounds (item_at (pos 1) s i) (λ c. gives (char_object c)))))

-- rest | (T, int): T | bounds | 1 + w(n) words | from the place on; 1 to size + 1
abbrev pub string_rest : Primitive
string_rest os = with_two os (λ a b. with_string a (λ s. with_int b (λ i.
    or_signals signal.Bounds (items_from (pos 1) s i) new_string)))

-- substr | (T, int, int): T | negative_size, bounds | 1 + w(n) words | from the place, 1 to size + 1, the given count or
-- what is left
abbrev pub string_substr : Primitive
string_substr os = with_three os (λ a b c. with_string a (λ s. with_int b (λ i. with_int c (λ n.
    signals_if signal.NegativeSize (is_negative n)
    (or_signals signal.Bounds (items_from (pos 1) s i) (λ rest. new_string (take (count_of n) rest)))))))

-- indexs | (T, T): int | the least place in the second at which the first stands; 0 for none, 1 for an empty first; it
-- counts the product of both sizes, each plus 1, besides
abbrev pub string_indexs : Primitive
string_indexs os = two_strings os (λ s t. counts ((length s + 1) * (length t + 1)) (gives_int (pos (found_from 1 s t))))

-- indexc | (char, T): int | the same for a char; it counts the size of the string besides
abbrev pub string_indexc : Primitive
string_indexc os = with_two os (λ a b. with_char a (λ c. with_string b (λ t.
    counts (length t) (gives_int (pos (found_from 1 (c ∷ []) t))))))

-- s2ac | (T): array[char] | 6 + size words | low bound 1
abbrev pub string_s2ac : Primitive
string_s2ac os = one_string os (λ s. new_array char_type (pos 1) (map char_object s))

-- ac2s | (array[char]): T | 1 + w(n) words
abbrev pub string_ac2s : Primitive
string_ac2s os = with_one os (λ r. with_array r (λ c a. needed (bytes_of a.items) new_string))

abbrev pub string_primitives : Primitives
string_primitives =
    (codes "size", string_size) ∷
    (codes "empty", string_empty) ∷
    (codes "lt", string_compared is_lt) ∷
    (codes "le", string_compared is_le) ∷
    (codes "ge", string_compared is_ge) ∷
    (codes "gt", string_compared is_gt) ∷
    (codes "c2s", string_c2s) ∷
    (codes "concat", string_concat) ∷
    (codes "append", string_append) ∷
    (codes "fetch", string_fetch) ∷
    (codes "rest", string_rest) ∷
    (codes "substr", string_substr) ∷
    (codes "indexs", string_indexs) ∷
    (codes "indexc", string_indexc) ∷
    (codes "s2ac", string_s2ac) ∷
    (codes "ac2s", string_ac2s) ∷
    equal_similar_copy (string_compared is_eq)
