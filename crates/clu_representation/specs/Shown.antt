-- When a word shows an object.
use Rattle.std.specs.Prelude.{◌≡◌, ℕ, suc, ◌+◌, ◌*◌, ◌/◌, ◌%◌, ◌<◌, ℤ, Bool, true, false, List, [], ◌∷◌, length, Option, None, Some, bytes_eq, if◌then◌else◌}
use Rattle.std.specs.Int.{byte_at, cast_unsigned, w64}
use Rattle.clu_types.specs.CluType.{CluType, array_of, record_of, variant_of, Fields, no_fields, field_and}
use Rattle.clu_layout.specs.Places.{is_int}
use Rattle.clu_layout.specs.SameType.{is_any, is_routine_type}
use Rattle.clu_layout.specs.Objects.{Stream, input_stream, output_stream, Object, null_object, bool_object, int_object, char_object, string_object, stream_object, sequence_object, struct_object, oneof_object, routine_object, reference, sealed, Objects, no_objects, object_and, listed, own_type}
use Rattle.clu_representation.specs.Layout.{Image, Layout, fixed, Fixed, IsReference}

-- types of mutable objects
abbrev pub is_mutable : CluType → Bool
is_mutable (array_of t) = true
is_mutable (record_of fs) = true
is_mutable (variant_of fs) = true
is_mutable _ = false

abbrev pub bit : Bool → ℕ
bit true = 1
bit false = 0

abbrev pub stream_number : Stream → ℕ
stream_number input_stream = 0
stream_number output_stream = 1

-- the place of a selector or tag, from 0, and its type
abbrev pub place_of_field : Fields → List ℕ → ℕ
place_of_field no_fields name = 0
place_of_field (field_and s t fs) name = if bytes_eq s name then 0 else suc (place_of_field fs name)

abbrev pub type_of_field : Fields → List ℕ → Option CluType
type_of_field no_fields name = None
type_of_field (field_and s t fs) name = if bytes_eq s name then Some t else type_of_field fs name

pub record IsInt (n : ℤ) (w : ℕ) : Type 0 where
  pub is_one : is_int n ≡ true
  pub word_is : w ≡ cast_unsigned w64 n

-- the byte of this number in a word, from the least on
abbrev pub byte_in : ℕ → ℕ → ℕ
byte_in word n = byte_at n word

-- the byte that lies so many after an address is in a word that never changes
pub record IsByte (map : Layout) (first n byte : ℕ) : Type 0 where
  pub whose : map.owner (first + 8 * (n / 8)) ≡ fixed
  pub is : byte_in (map.word (first + 8 * (n / 8))) (n % 8) ≡ byte

-- bytes from the one that lies so many after an address on
abbrev pub Bytes : Layout → ℕ → ℕ → List ℕ → Type 0
Bytes map first n [] = Unit {0}
Bytes map first n (b ∷ bs) = IsByte map first n b × Bytes map first (suc n) bs

-- a string is the address of the word of its size, after which its bytes lie
pub record IsString (map : Layout) (bytes : List ℕ) (w : ℕ) : Type 0 where
  pub size : Fixed map w (length bytes)
  pub bytes_are : Bytes map (w + 8) 0 bytes

module _ (image : Image) (map : Layout) where
  -- an object at a name of type any is the address of two words: the number of its own type, and its word
  abbrev pub InBox : CluType → (ℕ → Type 0) → ℕ → Type 0
  InBox own Shown w = Fixed map w (image.number own) × ((v : ℕ) × Fixed map (w + 8) v × Shown v)

  abbrev pub BoxedIf : Bool → CluType → (ℕ → Type 0) → ℕ → Type 0
  BoxedIf true own Shown w = InBox own Shown w
  BoxedIf false own Shown w = Shown w

  -- a word that never changes shows an object
  abbrev pub Kept : (ℕ → Type 0) → ℕ → Type 0
  Kept Shown at = (v : ℕ) × Fixed map at v × Shown v

  abbrev pub KeptIf : Option CluType → (CluType → ℕ → Type 0) → ℕ → Type 0
  KeptIf None Shown at = ⊥
  KeptIf (Some t) Shown at = Kept (Shown t) at

  abbrev mutual
    -- an object at a name of its own type
    pub Bare : Object → ℕ → Type 0
    Bare null_object w = w ≡ 0
    Bare (bool_object b) w = w ≡ bit b
    Bare (int_object n) w = IsInt n w
    Bare (char_object c) w = (w ≡ c) × (c < 256)
    Bare (string_object bytes) w = IsString map bytes w
    Bare (stream_object s) w = w ≡ stream_number s
    Bare (sequence_object t os) w = Fixed map w (length (listed os)) × Row t os (w + 8)
    Bare (struct_object fs os) w = Parts fs os (w + 8)
    Bare (oneof_object fs tag o) w = Fixed map w (place_of_field fs tag) × KeptIf (type_of_field fs tag) (λ t v. BoxedIf (is_any t) (own_type o) (λ u. Bare o u) v) (w + 8)
    Bare (routine_object r heading) w = (is_routine_type heading ≡ true) × ((w ≡ image.place r) × Fixed map (w + 8) (image.number heading))
    Bare (reference t c) w = (is_mutable t ≡ true) × IsReference map t c w
    Bare (sealed cluster given o) w = BoxedIf (is_any (image.representation cluster given)) (own_type o) (λ u. Bare o u) w

    -- elements of a type, one after the other
    pub Row : CluType → Objects → ℕ → Type 0
    Row t no_objects w = Unit {0}
    Row t (object_and o os) w = Kept (λ v. BoxedIf (is_any t) (own_type o) (λ u. Bare o u) v) w × Row t os (w + 8)

    -- the components of a struct
    pub Parts : Fields → Objects → ℕ → Type 0
    Parts no_fields no_objects w = Unit {0}
    Parts (field_and s t fs) (object_and o os) w = Kept (λ v. BoxedIf (is_any t) (own_type o) (λ u. Bare o u) v) w × Parts fs os (w + 8)
    Parts _ _ w = ⊥

  -- an object at a name of this type, with actual parameters put in
  abbrev pub At : CluType → Object → ℕ → Type 0
  At t o w = BoxedIf (is_any t) (own_type o) (λ v. Bare o v) w
