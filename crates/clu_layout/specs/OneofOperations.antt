-- The operations of oneof and variant. s is a tag, t its type. equal, similar and copy of oneofs, and similar, similar1
-- and copy of variants, are schemes over the tags.
use Rattle.std.specs.Prelude.{ℕ, not, List, [], ◌∷◌, ◌++◌, bytes_eq, codes}
use Rattle.clu_types.specs.CluType.{Fields}
use Rattle.clu_builtin.specs.declared.names.Signal.TheVariants as signal
use Rattle.clu_layout.specs.Objects.{Object, variant_cell}
use Rattle.clu_layout.specs.Actions.{Action, Primitive, gives, gives_nothing, gives_bool, signals_if, with_one, with_two, with_oneof, with_variant, changes, new_oneof, new_variant}
use Rattle.clu_layout.specs.PlainOperations.{Primitives, same_cell}

-- ---- oneof

abbrev pub one_oneof : List Object → (List ℕ → Object → Action) → Action
one_oneof os rest = with_one os (λ a. with_oneof a rest)

-- make_s | (t): T | 2 words
abbrev pub oneof_make : Fields → List ℕ → Primitive
oneof_make fs s os = with_one os (λ x. new_oneof fs s x)

-- is_s | (T): bool
abbrev pub oneof_is : List ℕ → Primitive
oneof_is s os = one_oneof os (λ tag x. gives_bool (bytes_eq tag s))

-- value_s | (T): t | wrong_tag | if the tag is another
abbrev pub oneof_value : List ℕ → Primitive
oneof_value s os = one_oneof os (λ tag x. signals_if signal.WrongTag (not (bytes_eq tag s)) (gives x))

abbrev pub oneof_selected : Fields → List ℕ → Primitives
oneof_selected fs s =
    (codes "make_" ++ s, oneof_make fs s) ∷
    (codes "is_" ++ s, oneof_is s) ∷
    (codes "value_" ++ s, oneof_value s) ∷
    []

-- ---- variant

abbrev pub one_variant : List Object → (ℕ → Fields → List ℕ → Object → Action) → Action
one_variant os rest = with_one os (λ r. with_variant r rest)

-- make_s | (t): T | 3 words
abbrev pub variant_make : Fields → List ℕ → Primitive
variant_make fs s os = with_one os (λ x. new_variant fs s x)

-- is_s | (T): bool
abbrev pub variant_is : List ℕ → Primitive
variant_is s os = one_variant os (λ c fs tag x. gives_bool (bytes_eq tag s))

-- value_s | (T): t | wrong_tag | if the tag is another
abbrev pub variant_value : List ℕ → Primitive
variant_value s os = one_variant os (λ c fs tag x. signals_if signal.WrongTag (not (bytes_eq tag s)) (gives x))

-- change_s | (T, t) | changes tag and value
abbrev pub variant_change : List ℕ → Primitive
variant_change s os = with_two os (λ r y. with_variant r (λ c fs tag x. changes c (variant_cell fs s y) gives_nothing))

-- copy1 | (T): T | 3 words | the same tag and value
abbrev pub variant_copy1 : Primitive
variant_copy1 os = one_variant os (λ c fs tag x. new_variant fs tag x)

abbrev pub variant_selected : Fields → List ℕ → Primitives
variant_selected fs s =
    (codes "make_" ++ s, variant_make fs s) ∷
    (codes "is_" ++ s, variant_is s) ∷
    (codes "value_" ++ s, variant_value s) ∷
    (codes "change_" ++ s, variant_change s) ∷
    []

-- equal | (T, T): bool | the same variant
abbrev pub variant_equal : Primitive
variant_equal = same_cell

abbrev pub variant_primitives : Primitives
variant_primitives =
    (codes "equal", variant_equal) ∷
    (codes "copy1", variant_copy1) ∷
    []
