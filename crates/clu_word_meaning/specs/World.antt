-- What word code and flat code act on beside slots and the stack: bytes at addresses, the store, input and output.
use Rattle.std.specs.Prelude.{ℕ, zero, suc, ◌+◌, ◌-◌, ◌*◌, ◌/◌, ◌%◌, ◌^◌, ◌==◌, nat_lt, nat_le, List, [], ◌∷◌, ◌++◌, length, drop, if◌then◌else◌, Option, Some, None, option_map, codes}
use Rattle.std.specs.Int.{w64, from_le_bytes, to_le_bytes}
use Rattle.clu_wir.specs.declared.primitive.Primitive.{Primitive}
use Rattle.clu_wir.specs.declared.primitive.Primitive.TheVariants as primitive

pub record World : Type 0 where
  -- the bytes of what is fixed, of variables, and of the store, the free part of which is as it will be found; those from an
  -- address on can be written
  pub byte : ℕ → Option ℕ
  pub writable : ℕ
  -- the next free word of the store, which lies behind all else
  pub next : ℕ
  pub input : List ℕ
  pub output : List ℕ

abbrev pub also : {A B : Type 0} → Option A → (A → Option B) → Option B
also None f = None
also (Some a) f = f a

-- Reading: what is free can't be read.

abbrev pub byte_of : World → ℕ → Option ℕ
byte_of w a = if nat_lt a w.next then w.byte a else None

unfoldable pub bytes_of : World → ℕ → ℕ → Option (List ℕ)
bytes_of w a zero = Some []
bytes_of w a (suc n) = also (byte_of w a) (λ b. option_map (λ (bs : List ℕ). b ∷ bs) (bytes_of w (suc a) n))

abbrev pub word_in : Option (List ℕ) → Option ℕ
word_in None = None
word_in (Some bytes) = Some (from_le_bytes w64 bytes)

unfoldable pub word_of : World → ℕ → Option ℕ
word_of w a = if a % 8 == 0 then word_in (bytes_of w a 8) else None

-- a string is the number of its bytes, and these
unfoldable pub string_of : World → ℕ → Option (List ℕ)
string_of w a = also (word_of w a) (bytes_of w (a + 8))

-- Writing.

abbrev pub with_byte : (ℕ → Option ℕ) → ℕ → ℕ → ℕ → Option ℕ
with_byte byte a b at = if at == a then Some b else byte at

unfoldable pub with_bytes : (ℕ → Option ℕ) → ℕ → List ℕ → ℕ → Option ℕ
with_bytes byte a [] = byte
with_bytes byte a (b ∷ bs) = with_bytes (with_byte byte a b) (suc a) bs

-- where there are such bytes, in place of them
abbrev pub in_place : World → ℕ → List ℕ → Option (List ℕ) → Option World
in_place w a bytes None = None
in_place w a bytes (Some old) = Some (record w { byte = with_bytes w.byte a bytes })

unfoldable pub put_bytes : World → ℕ → List ℕ → Option World
put_bytes w a bytes = if nat_le w.writable a then in_place w a bytes (bytes_of w a (length bytes)) else None

unfoldable pub put_word : World → ℕ → ℕ → Option World
put_word w a n = if a % 8 == 0 then put_bytes w a (to_le_bytes w64 n) else None

-- The store: so many bytes more are taken.
abbrev pub grown : ℕ → World → World
grown bytes w = record w { next = w.next + bytes }

abbrev pub string_size : List ℕ → ℕ
string_size text = 8 + (length text + 7) / 8 * 8

-- a string at the end of the store
unfoldable pub with_string : List ℕ → World → Option World
with_string text w = also (put_word (grown (string_size text) w) w.next (length text)) (λ (v : World). put_bytes v (w.next + 8) text)

-- What primitives, and binding to type any, come to: words, and the world after it.

pub record Done : Type 0 where
  pub results : List ℕ
  pub world : World

abbrev pub came : List ℕ → Option World → Option Done
came results None = None
came results (Some world) = Some (record { results = results; world = world })

abbrev pub first_byte : List ℕ → ℕ
first_byte [] = 2 ^ 64 - 1
first_byte (b ∷ rest) = b

abbrev pub written : World → Option (List ℕ) → Option World
written w None = None
written w (Some bytes) = Some (record w { output = w.output ++ bytes })

abbrev pub bytes_to_write : World → ℕ → ℕ → Option (List ℕ)
bytes_to_write w a n = if n == 0 then Some [] else bytes_of w a n

unfoldable pub done : Option Primitive → List ℕ → World → Option Done
done (Some primitive.Allocate) (n ∷ []) w = Some (record { results = w.next ∷ []; world = grown (n * 8) w })
done (Some primitive.Write) (a ∷ n ∷ []) w = came [] (written w (bytes_to_write w a n))
done (Some primitive.TakeByte) [] w = Some (record { results = first_byte w.input ∷ []; world = record w { input = drop 1 w.input } })
done (Some primitive.PeekByte) [] w = Some (record { results = first_byte w.input ∷ []; world = w })
done (Some primitive.SaveByte) (a ∷ b ∷ []) w = came [] (put_bytes w a (b % 2 ^ 8 ∷ []))
done _ _ w = None

-- the number of the own type of an object: that of a routine type is odd, and the own one is in the object's descriptor
abbrev pub own_number : ℕ → ℕ → World → Option ℕ
own_number number word w = if number % 2 == 0 then Some number else word_of w ((word + 8) % 2 ^ 64)

abbrev pub with_pair : ℕ → World → Option ℕ → Option World
with_pair word w None = None
with_pair word w (Some number) = also (put_word (grown 16 w) w.next number) (λ (v : World). put_word v (w.next + 8) word)

-- an object of type any, whose number is 0, is one already; of another it is the number of its own type and its word
unfoldable pub bound : ℕ → ℕ → World → Option Done
bound number word w =
    if number == 0 then Some (record { results = word ∷ []; world = w }) else came (w.next ∷ []) (with_pair word w (own_number number word w))

-- What an exception becomes that a routine doesn't handle.

unfoldable pub failure_name : List ℕ
failure_name = codes "failure"

unfoldable pub unhandled_text : List ℕ → List ℕ
unhandled_text name = codes "unhandled exception: " ++ name

-- how many words a primitive takes
abbrev pub arity : Primitive → ℕ
arity primitive.Allocate = 1
arity primitive.Write = 2
arity primitive.TakeByte = 0
arity primitive.PeekByte = 0
arity primitive.SaveByte = 2
