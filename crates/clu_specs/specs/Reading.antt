-- Reading from left to right: a value with the bytes that follow it, or how many bytes are left at the fault.
use Rattle.std.specs.Prelude.{◌≡◌, ℕ, zero, suc, Bool, false, List, [], ◌∷◌, length, Result, Ok, Err, Option, Some, None, ◌-◌, ◌==◌, if◌then◌else◌}
use Rattle.clu_base.specs.declared.errors.FormatError.{FormatError}
use Rattle.clu_base.specs.declared.errors.FormatError.TheVariants as error

infixl 10 ◌>>=◌
abbrev pub ◌>>=◌ : {A B : Type 0} → Result A ℕ → (A → Result B ℕ) → Result B ℕ
(Ok x) >>= f = f x
(Err left) >>= f = Err left

-- what is read, with the bytes after it
abbrev pub Read : Type 0 → Type 0
Read A = Result (A × List ℕ) ℕ

-- what a function answered, seen by view, is what reading gives, unless memory was refused
abbrev pub Fails : {Y : Type 0} → FormatError → Result Y ℕ → Type 0
Fails error.Memory read = Unit {0}
Fails (error.Bad left) read = read ≡ Err left

abbrev pub Gives : {X Y : Type 0} → (X → Y) → Result X FormatError → Result Y ℕ → Type 0
Gives view (Ok x) read = read ≡ Ok (view x)
Gives view (Err e) read = Fails e read

-- what follows a fixed part, which is refused at its first byte that is missing or differs
unfoldable pub literal_at : List ℕ → List ℕ → Result (List ℕ) ℕ
literal_at [] bytes = Ok bytes
literal_at (m ∷ fixed) [] = Err 0
literal_at (m ∷ fixed) (b ∷ bytes) = if b == m then literal_at fixed bytes else Err (suc (length bytes))

-- what follows a mark
abbrev pub behind : ℕ → List ℕ → Option (List ℕ)
behind mark [] = None
behind mark (b ∷ bytes) = if b == mark then Some bytes else None

abbrev pub begins_with : ℕ → List ℕ → Bool
begins_with b [] = false
begins_with b (first ∷ bytes) = first == b

-- nothing more may follow
abbrev pub end_at : {A : Type 0} → A → List ℕ → Result A ℕ
end_at x bytes = if length bytes == 0 then Ok x else Err (length bytes)

abbrev pub go_on : {A : Type 0} → Option (List ℕ) → A × List ℕ → (List ℕ → Read A) → Read A
go_on None x more = Ok x
go_on (Some rest) x more = more rest

-- items in a row. `step` reads one after those that were made, and `next` tells where another follows; n bounds how many
unfoldable pub several : {A : Type 0} → (A → List ℕ → Read A) → (A → List ℕ → Option (List ℕ)) → ℕ → A → List ℕ → Read A
several step next zero made bytes = Err (length bytes)
several step next (suc n) made bytes = step made bytes >>= λ x. go_on (next x.0 x.1) x (λ rest. several step next n x.0 rest)

-- the offset in place of how many bytes are left
abbrev pub offset_of : {A : Type 0} → ℕ → Result A ℕ → Result A ℕ
offset_of len (Ok x) = Ok x
offset_of len (Err left) = Err (len - left)

-- the error of a text of so many bytes, with the offset in place of how many are left
abbrev pub offset_error : ℕ → FormatError → FormatError
offset_error len error.Memory = error.Memory
offset_error len (error.Bad left) = error.Bad (len - left)
