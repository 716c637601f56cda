-- The primitive operation of a type with a name, and what its invocation comes to; force; and constructors. Operations
-- that are defined by texts or schemes are not here; the head of each type's file names them.
use Rattle.std.specs.Prelude.{ℕ, ◌+◌, ℤ, Bool, true, false, ◌&&◌, ◌||◌, List, [], ◌∷◌, ◌++◌, Option, None, Some, if◌then◌else◌, bytes_eq, codes}
use Rattle.std.specs.Option.{option_map}
use Rattle.clu_types.specs.CluType.{CluType, null_type, bool_type, int_type, char_type, string_type, any_type, stream_type, array_of, sequence_of, record_of, struct_of, oneof_of, variant_of, proc_of, iter_of, cluster_of, parameter, CluTypes, no_types, type_and, Fields, no_fields, field_and, no_signals, signal_and}
use Rattle.clu_builtin.specs.Operation.{Operation, one}
use Rattle.clu_builtin.specs.Table.{operation, parts_of}
use Rattle.clu_layout.specs.declared.store.Shape.TheVariants as shape
use Rattle.clu_layout.specs.Cost.{cost}
use Rattle.clu_layout.specs.Objects.{Routine, module_routine, operation_of, force_of, Object, own_type, own_types}
use Rattle.clu_layout.specs.SameType.{same_type, is_any, is_routine_type, fits, all_fit}
use Rattle.clu_layout.specs.Actions.{World, Outcome, returned, signalled, wrong, Action, Primitive, either, gives, gives_all, signals_with, need, needed, and_then, counts, takes, with_one, with_int, makes_array, makes_sequence, makes_struct, makes_record}
use Rattle.clu_layout.specs.PlainOperations.{Primitives, null_primitives, routine_primitives, bool_primitives}
use Rattle.clu_layout.specs.NumberOperations.{int_primitives, char_primitives}
use Rattle.clu_layout.specs.StringOperations.{string_primitives}
use Rattle.clu_layout.specs.ArrayOperations.{array_primitives}
use Rattle.clu_layout.specs.SequenceOperations.{sequence_primitives}
use Rattle.clu_layout.specs.RecordOperations.{struct_selected, record_selected, record_primitives}
use Rattle.clu_layout.specs.OneofOperations.{oneof_selected, variant_selected, variant_primitives}
use Rattle.clu_layout.specs.StreamOperations.{stream_primitives}

-- ---- which operation a name denotes

-- the operations of each selector, and then those of the type
abbrev pub of_each : (List ℕ → Primitives) → Fields → Primitives → Primitives
of_each selected no_fields own = own
of_each selected (field_and s t rest) own = selected s ++ of_each selected rest own

-- the primitive operations of a type; those of selectors and tags stand first
abbrev pub primitives : CluType → Primitives
primitives null_type = null_primitives
primitives bool_type = bool_primitives
primitives int_type = int_primitives
primitives char_type = char_primitives
primitives string_type = string_primitives
primitives any_type = []
primitives stream_type = stream_primitives
primitives (array_of t) = array_primitives t
primitives (sequence_of t) = sequence_primitives t
primitives (record_of fs) = of_each record_selected fs record_primitives
primitives (struct_of fs) = of_each struct_selected fs []
primitives (oneof_of fs) = of_each (oneof_selected fs) fs []
primitives (variant_of fs) = of_each (variant_selected fs) fs variant_primitives
primitives (proc_of _ _ _) = routine_primitives
primitives (iter_of _ _ _) = routine_primitives
primitives (cluster_of _ _) = []
primitives (parameter _) = []

-- the first operation of this name in a table
abbrev pub named : Primitives → List ℕ → Option Primitive
named [] op = None
named ((name, p) ∷ rest) op = if bytes_eq name op then Some p else named rest op

-- the primitive operation of this name that a type has
abbrev pub primitive : CluType → List ℕ → Option Primitive
primitive T op = named (primitives T) op

-- ---- binding

-- an object that is bound to type any takes words for it
abbrev pub words_for : CluType → ℕ
words_for t = if is_any t then cost shape.Boxed else 0

abbrev pub words_for_all : CluTypes → ℕ
words_for_all no_types = 0
words_for_all (type_and t ts) = words_for t + words_for_all ts

-- objects are bound to names, results or components of these types: each object's own type must be included
abbrev pub binds : CluTypes → List Object → Action → Action
binds types os rest = need (all_fit (own_types os) types) (takes (words_for_all types) rest)

-- Whether an object of this own type may be an argument of an operation of T, for a formal of this type. An operation of a
-- routine type takes every routine, since `f = g` is an operation of the own type of f.
abbrev pub may_be_argument : CluType → CluType → CluType → Bool
may_be_argument T own formal = fits own formal || (is_routine_type T && is_routine_type own && is_routine_type formal)

abbrev pub may_be_arguments : CluType → CluTypes → CluTypes → Bool
may_be_arguments T no_types no_types = true
may_be_arguments T (type_and t ts) (type_and u us) = may_be_argument T t u && may_be_arguments T ts us
may_be_arguments T _ _ = false

-- arguments of an operation of T are bound to its formals
abbrev pub binds_arguments : CluType → CluTypes → List Object → Action → Action
binds_arguments T formals os rest = need (may_be_arguments T (own_types os) formals) (takes (words_for_all formals) rest)

-- what an operation gives is bound to the types of its heading's results
abbrev pub gives_results : CluTypes → List Object → Action
gives_results types os = binds types os (gives_all os)

-- ---- invocation

-- the arguments are bound to the formals, the operation counts 1 and is done, and its results are bound
abbrev pub invoked : CluType → Operation → Primitive → List Object → Action
invoked T heading p os =
    binds_arguments T heading.args os (counts 1 (and_then (p os) (gives_results heading.results)))

-- the primitive operation of T of this name is invoked
abbrev pub invocation : CluType → List ℕ → List Object → Action
invocation T op os = needed (operation T op) (λ heading. needed (primitive T op) (λ p. invoked T heading p os))

-- force[T] | (any): T | wrong_type | the object exactly if its own type is T
abbrev pub forcing : CluType → Primitive
forcing t os = with_one os (λ o. either (same_type (own_type o) t) (gives o) (signals_with (codes "wrong_type") []))

abbrev pub force_heading : CluType → Operation
force_heading t = record { iter = false; args = one any_type; results = one t; signals = signal_and (codes "wrong_type") no_types no_signals; needs = [] }

-- the type of a routine object: the heading as a proctype or itertype
abbrev pub heading_type : Operation → CluType
heading_type h = if h.iter then iter_of h.args h.results h.signals else proc_of h.args h.results h.signals

abbrev pub force_invocation : CluType → List Object → Action
force_invocation t os = invoked any_type (force_heading t) (forcing t) os

-- ---- constructors: each part is bound to the type of the element or component

abbrev pub same_for_each : CluType → List Object → CluTypes
same_for_each t [] = no_types
same_for_each t (o ∷ os) = type_and t (same_for_each t os)

-- the low bound is 1 if none is given
abbrev pub array_construction : CluType → ℤ → List Object → Action
array_construction t low xs = binds (same_for_each t xs) xs (makes_array t low xs)

-- the low bound is an object that must be an int
abbrev pub array_with_low : CluType → Object → List Object → Action
array_with_low t low xs = with_int low (λ n. array_construction t n xs)

abbrev pub sequence_construction : CluType → List Object → Action
sequence_construction t xs = binds (same_for_each t xs) xs (makes_sequence t xs)

-- the components stand in the order of the selectors
abbrev pub struct_construction : Fields → List Object → Action
struct_construction fs xs = binds (parts_of fs) xs (makes_struct fs xs)

abbrev pub record_construction : Fields → List Object → Action
record_construction fs xs = binds (parts_of fs) xs (makes_record fs xs)

-- ---- an action in a world

-- An action sees the cells and the input alone. What it writes and what it costs is added.
abbrev pub before : World → World
before w = record w { output = []; words = 0; work = 0 }

abbrev pub added : World → World → World
added w made = record made { output = w.output ++ made.output; words = w.words + made.words; work = w.work + made.work }

abbrev pub outcome_in : World → Outcome → Outcome
outcome_in w (returned os made) = returned os (added w made)
outcome_in w (signalled name os made) = signalled name os (added w made)
outcome_in w wrong = wrong

unfoldable pub done_in : World → Action → Outcome
done_in w action = outcome_in w (action (before w))

-- what a primitive operation, force and constructors come to
unfoldable pub prim : CluType → List ℕ → List Object → World → Outcome
prim T op os w = done_in w (invocation T op os)

unfoldable pub force : CluType → List Object → World → Outcome
force t os w = done_in w (force_invocation t os)

unfoldable pub make_array : CluType → ℤ → List Object → World → Outcome
make_array t low xs w = done_in w (array_construction t low xs)

unfoldable pub make_array_with_low : CluType → Object → List Object → World → Outcome
make_array_with_low t low xs w = done_in w (array_with_low t low xs)

unfoldable pub make_sequence : CluType → List Object → World → Outcome
make_sequence t xs w = done_in w (sequence_construction t xs)

unfoldable pub make_struct : Fields → List Object → World → Outcome
make_struct fs xs w = done_in w (struct_construction fs xs)

unfoldable pub make_record : Fields → List Object → World → Outcome
make_record fs xs w = done_in w (record_construction fs xs)

-- ---- routines that have no text

-- the heading of a built-in operation or of force; of an instance's routine its module says it
abbrev pub heading_of : Routine → Option Operation
heading_of (module_routine name given) = None
heading_of (operation_of T op) = operation T op
heading_of (force_of t) = Some (force_heading t)

-- what a routine that has no text comes to: a primitive operation, or force
abbrev pub without_text : Routine → Option (List Object → World → Outcome)
without_text (module_routine name given) = None
without_text (operation_of T op) = option_map (λ p os w. prim T op os w) (primitive T op)
without_text (force_of t) = Some (force t)
