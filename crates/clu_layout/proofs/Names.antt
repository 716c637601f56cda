-- The primitive operations and those that are defined by texts or schemes are together those of the table of headings:
-- for each type, the names with a heading and no primitive operation, and those with an operation and no heading. Of
-- structs, records, oneofs and variants FieldNames says it.
use Rattle.std.specs.Prelude.{◌≡◌, refl, ℕ, Bool, false, ◌||◌, List, [], ◌∷◌, if◌then◌else◌, bytes_eq, codes}
use Rattle.clu_types.specs.CluType.{CluType, null_type, bool_type, int_type, char_type, string_type, any_type, stream_type, array_of, sequence_of, proc_of, iter_of, cluster_of, CluTypes, Signals, Actuals}
use Rattle.clu_builtin.specs.Table.{Table, plain_operations, bool_operations, int_operations, char_operations, string_operations, stream_operations, array_operations, sequence_operations}
use Rattle.clu_layout.specs.PlainOperations.{Primitives}
use Rattle.clu_layout.specs.Primitive.{primitives}

abbrev Names : Type 0
Names = List (List ℕ)

abbrev names_of : Primitives → Names
names_of [] = []
names_of ((name, p) ∷ rest) = name ∷ names_of rest

abbrev headed : Table → Names
headed [] = []
headed ((name, heading) ∷ rest) = name ∷ headed rest

abbrev is_among : List ℕ → Names → Bool
is_among name [] = false
is_among name (other ∷ others) = bytes_eq name other || is_among name others

-- the names of the first list that the second lacks
abbrev lacking : Names → Names → Names
lacking [] others = []
lacking (name ∷ names) others = if is_among name others then lacking names others else name ∷ lacking names others

-- each primitive operation has a heading, and these alone of the headings have no primitive operation
abbrev Covers : CluType → Table → Names → Type 0
Covers T table derived = (lacking (headed table) (names_of (primitives T)) ≡ derived) × (lacking (names_of (primitives T)) (headed table) ≡ [])

of_null : Covers null_type (plain_operations null_type) []
of_null = (refl, refl)

of_procs : (args results : CluTypes) (raised : Signals) → Covers (proc_of args results raised) (plain_operations (proc_of args results raised)) []
of_procs args results raised = (refl, refl)

of_iters : (args results : CluTypes) (raised : Signals) → Covers (iter_of args results raised) (plain_operations (iter_of args results raised)) []
of_iters args results raised = (refl, refl)

of_bool : Covers bool_type bool_operations []
of_bool = (refl, refl)

of_int : Covers int_type int_operations (codes "from_to" ∷ codes "from_to_by" ∷ [])
of_int = (refl, refl)

of_char : Covers char_type char_operations []
of_char = (refl, refl)

of_string : Covers string_type string_operations (codes "chars" ∷ [])
of_string = (refl, refl)

of_arrays : (t : CluType) → Covers (array_of t) (array_operations t)
    (codes "similar" ∷ codes "similar1" ∷ codes "copy" ∷ codes "elements" ∷ codes "indexes" ∷ [])
of_arrays t = (refl, refl)

of_sequences : (t : CluType) → Covers (sequence_of t) (sequence_operations t)
    (codes "equal" ∷ codes "similar" ∷ codes "copy" ∷ codes "elements" ∷ codes "indexes" ∷ [])
of_sequences t = (refl, refl)

of_stream : Covers stream_type stream_operations []
of_stream = (refl, refl)

of_any : primitives any_type ≡ []
of_any = refl

of_clusters : (name : List ℕ) (given : Actuals) → primitives (cluster_of name given) ≡ []
of_clusters name given = refl
