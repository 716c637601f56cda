-- Rows of samples: what an operation of a type, for some objects, gives or signals, and what it costs.
use Prim.Native.String.{String}
use Rattle.std.specs.Prelude.{◌≡◌, ℕ, pos, negsuc, List, [], ◌∷◌, codes}
use Rattle.clu_types.specs.CluType.{CluType}
use Rattle.clu_layout.specs.Objects.{Object, int_object, string_object, reference, Cell}
use Rattle.clu_layout.specs.Actions.{World, returned, signalled}
use Rattle.clu_layout.specs.Primitive.{prim}

-- ---- objects

abbrev pub one : Object → List Object
one a = a ∷ []

abbrev pub two : Object → Object → List Object
two a b = a ∷ one b

abbrev pub three : Object → Object → Object → List Object
three a b c = a ∷ two b c

-- n, and -(n + 1)
abbrev pub int : ℕ → Object
int n = int_object (pos n)

abbrev pub below_zero : ℕ → Object
below_zero n = int_object (negsuc n)

-- the greatest int and the least one
abbrev pub max_int : Object
max_int = int 9223372036854775807

abbrev pub min_int : Object
min_int = below_zero 9223372036854775807

abbrev pub string : String → Object
string s = string_object (codes s)

-- ---- worlds

abbrev pub world : List Cell → List ℕ → List ℕ → ℕ → ℕ → World
world cells input output words work = record { cells = cells; input = input; output = output; words = words; work = work }

abbrev pub nothing : World
nothing = world [] [] [] 0 0

-- ---- rows: the type, the operation, its arguments, and what comes of it, in words of store and units of work

abbrev pub Gives : CluType → String → List Object → Object → ℕ → ℕ → Type 0
Gives T op os o words work = prim T (codes op) os nothing ≡ returned (o ∷ []) (world [] [] [] words work)

abbrev pub Signals : CluType → String → List Object → String → ℕ → Type 0
Signals T op os name work = prim T (codes op) os nothing ≡ signalled (codes name) [] (world [] [] [] 0 work)

abbrev pub Fails : CluType → String → List Object → String → ℕ → Type 0
Fails T op os text work = prim T (codes op) os nothing ≡ signalled (codes "failure") (string text ∷ []) (world [] [] [] 0 work)

-- the operation makes a mutable object in the first cell
abbrev pub Makes : CluType → String → List Object → CluType → Cell → ℕ → ℕ → Type 0
Makes T op os made cell words work =
    prim T (codes op) os nothing ≡ returned (reference made 0 ∷ []) (world (cell ∷ []) [] [] words work)

-- the same of an operation for which cell 0 holds a mutable object: it gives these objects, and there are these cells then
abbrev pub Does : Cell → CluType → String → List Object → List Object → List Cell → ℕ → ℕ → Type 0
Does cell T op os results cells words work =
    prim T (codes op) os (world (cell ∷ []) [] [] 0 0) ≡ returned results (world cells [] [] words work)

abbrev pub Refuses : Cell → CluType → String → List Object → String → ℕ → Type 0
Refuses cell T op os name work =
    prim T (codes op) os (world (cell ∷ []) [] [] 0 0) ≡ signalled (codes name) [] (world (cell ∷ []) [] [] 0 work)

-- the bounds would leave the ints: a failure, and nothing changes
abbrev pub GoesOutOfRange : Cell → CluType → String → List Object → ℕ → Type 0
GoesOutOfRange cell T op os work = prim T (codes op) os (world (cell ∷ []) [] [] 0 0)
    ≡ signalled (codes "failure") (string "bounds out of range" ∷ []) (world (cell ∷ []) [] [] 0 work)
