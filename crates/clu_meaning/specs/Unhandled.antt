-- What becomes of an exception that a routine doesn't handle.
use Rattle.std.specs.Prelude.{ℕ, List, [], ◌∷◌, ◌++◌, length, bytes_eq, codes, if◌then◌else◌}
use Rattle.clu_layout.specs.declared.store.Shape.TheVariants as shape
use Rattle.clu_layout.specs.Cost.{cost}
use Rattle.clu_layout.specs.Objects.{Object, string_object}
use Rattle.clu_meaning.specs.Computations.{Computation, takes}

abbrev pub failure : List ℕ
failure = codes "failure"

abbrev pub unhandled_text : List ℕ → List ℕ
unhandled_text name = codes "unhandled exception: " ++ name

-- the objects of failure for an exception that isn't handled: those of a failure, and a text that says any other's name
abbrev pub failure_objects : List ℕ → List Object → List Object
failure_objects name os = if bytes_eq name failure then os else string_object (unhandled_text name) ∷ []

-- the words of store that this text takes
abbrev pub text_words : List ℕ → ℕ
text_words name = if bytes_eq name failure then 0 else cost (shape.Str (length (unhandled_text name)))

-- a routine doesn't handle an exception, and makes the text
abbrev pub unhandled : {A : Type 0} → List ℕ → List Object → (List Object → Computation A) → Computation A
unhandled name os rest = takes (text_words name) (rest (failure_objects name os))
