-- An operation that signals changes nothing and takes no words.
use Rattle.std.proofs.Common.{◌≡◌, sym, ap, subst, ◌∙◌, append-nil, arith}
use Rattle.std.specs.Prelude.{ℕ, ◌+◌, ℤ, Bool, true, false, List, [], ◌∷◌, ◌++◌, Option, Some, None, cond, bytes_eq}
use Rattle.clu_types.specs.CluType.{CluType, null_type, bool_type, int_type, char_type, string_type, any_type, stream_type, array_of, sequence_of, record_of, struct_of, oneof_of, variant_of, proc_of, iter_of, cluster_of, parameter, Fields, no_fields, field_and}
use Rattle.clu_builtin.specs.Operation.{Operation}
use Rattle.clu_builtin.specs.Table.{operation}
use Rattle.clu_layout.specs.Objects.{Object, own_types}
use Rattle.clu_layout.specs.SameType.{all_fit}
use Rattle.clu_layout.specs.Actions.{World, Outcome, returned, signalled, wrong, Action, Primitive, need, needed, no_case, takes, counts, continued, and_then, makes_array}
use Rattle.clu_layout.specs.PlainOperations.{Primitives, null_primitives, routine_primitives, bool_primitives}
use Rattle.clu_layout.specs.NumberOperations.{int_primitives, char_primitives}
use Rattle.clu_layout.specs.StringOperations.{string_primitives}
use Rattle.clu_layout.specs.ArrayOperations.{array_primitives}
use Rattle.clu_layout.specs.SequenceOperations.{sequence_primitives}
use Rattle.clu_layout.specs.RecordOperations.{struct_selected, record_selected, record_primitives}
use Rattle.clu_layout.specs.OneofOperations.{oneof_selected, variant_selected, variant_primitives}
use Rattle.clu_layout.specs.StreamOperations.{stream_primitives}
use Rattle.clu_layout.specs.Primitive.{of_each, primitives, named, primitive, words_for_all, may_be_arguments, gives_results, invoked, invocation, forcing, force_heading, force_invocation, same_for_each, array_construction, before, outcome_in, done_in, prim, force, make_array}
use Rattle.clu_layout.proofs.UnchangedLaws.{NeverSignals, ChangesNothing, UnchangedIfSignalled, never_signalled, no_signal_gives, no_signal_no_case, no_signal_takes, unchanged_counts, unchanged}

-- ---- the operations, in the order of their tables

abbrev pub AllUnchanged : Primitives → Type 0
AllUnchanged [] = Unit {0}
AllUnchanged ((name, p) ∷ rest) = ((os : List Object) → UnchangedIfSignalled (p os)) × AllUnchanged rest

bools_unchanged : AllUnchanged bool_primitives
bools_unchanged = search unchanged depth 14

nulls_unchanged : AllUnchanged null_primitives
nulls_unchanged = search unchanged depth 14

routines_unchanged : AllUnchanged routine_primitives
routines_unchanged = search unchanged depth 14

ints_unchanged : AllUnchanged int_primitives
ints_unchanged = search unchanged depth 14 fits 4000

chars_unchanged : AllUnchanged char_primitives
chars_unchanged = search unchanged depth 14 fits 4000

strings_unchanged : AllUnchanged string_primitives
strings_unchanged = search unchanged depth 14 fits 4000

arrays_unchanged : (t : CluType) → AllUnchanged (array_primitives t)
arrays_unchanged t = search unchanged depth 14 fits 4000

sequences_unchanged : (t : CluType) → AllUnchanged (sequence_primitives t)
sequences_unchanged t = search unchanged depth 14 fits 4000

streams_unchanged : AllUnchanged stream_primitives
streams_unchanged = search unchanged depth 14 fits 4000

structs_unchanged : (s : List ℕ) → AllUnchanged (struct_selected s)
structs_unchanged s = search unchanged depth 14

records_unchanged : (s : List ℕ) → AllUnchanged (record_selected s)
records_unchanged s = search unchanged depth 14

record_unchanged : AllUnchanged record_primitives
record_unchanged = search unchanged depth 14

oneofs_unchanged : (fs : Fields) (s : List ℕ) → AllUnchanged (oneof_selected fs s)
oneofs_unchanged fs s = search unchanged depth 14

variants_unchanged : (fs : Fields) (s : List ℕ) → AllUnchanged (variant_selected fs s)
variants_unchanged fs s = search unchanged depth 14

variant_unchanged : AllUnchanged variant_primitives
variant_unchanged = search unchanged depth 14

joined_unchanged : (ps qs : Primitives) → AllUnchanged ps → AllUnchanged qs → AllUnchanged (ps ++ qs)
joined_unchanged [] qs f g = g
joined_unchanged ((name, p) ∷ ps) qs f g = (f.0, joined_unchanged ps qs f.1 g)

each_unchanged : (selected : List ℕ → Primitives) (fs : Fields) (own : Primitives) → ((s : List ℕ) → AllUnchanged (selected s)) → AllUnchanged own →
    AllUnchanged (of_each selected fs own)
each_unchanged selected no_fields own f g = g
each_unchanged selected (field_and s t rest) own f g = joined_unchanged (selected s) (of_each selected rest own) (f s) (each_unchanged selected rest own f g)

all_unchanged : (T : CluType) → AllUnchanged (primitives T)
all_unchanged null_type = nulls_unchanged
all_unchanged bool_type = bools_unchanged
all_unchanged int_type = ints_unchanged
all_unchanged char_type = chars_unchanged
all_unchanged string_type = strings_unchanged
all_unchanged any_type = tt
all_unchanged stream_type = streams_unchanged
all_unchanged (array_of t) = arrays_unchanged t
all_unchanged (sequence_of t) = sequences_unchanged t
all_unchanged (record_of fs) = each_unchanged record_selected fs record_primitives records_unchanged record_unchanged
all_unchanged (struct_of fs) = each_unchanged struct_selected fs [] structs_unchanged tt
all_unchanged (oneof_of fs) = each_unchanged (oneof_selected fs) fs [] (oneofs_unchanged fs) tt
all_unchanged (variant_of fs) = each_unchanged (variant_selected fs) fs variant_primitives (variants_unchanged fs) variant_unchanged
all_unchanged (proc_of _ _ _) = routines_unchanged
all_unchanged (iter_of _ _ _) = routines_unchanged
all_unchanged (cluster_of _ _) = tt
all_unchanged (parameter _) = tt

-- ---- whatever the type and the name

abbrev pub UnchangedIfThere : Option Primitive → Type 0
UnchangedIfThere None = Unit {0}
UnchangedIfThere (Some p) = (os : List Object) → UnchangedIfSignalled (p os)

chosen_unchanged : (here : Bool) (p : Primitive) (others : Option Primitive) → ((os : List Object) → UnchangedIfSignalled (p os)) → UnchangedIfThere others →
    UnchangedIfThere (cond here (Some p) others)
chosen_unchanged true p others f g = f
chosen_unchanged false p others f g = g

named_unchanged : (ps : Primitives) → AllUnchanged ps → (op : List ℕ) → UnchangedIfThere (named ps op)
named_unchanged [] h op = tt
named_unchanged ((name, p) ∷ ps) h op = chosen_unchanged (bytes_eq name op) p (named ps op) h.0 (named_unchanged ps h.1 op)

-- of each primitive operation: if it signals, cells, input, output and words are as before
pub primitive_unchanged : (T : CluType) (op : List ℕ) → UnchangedIfThere (primitive T op)
primitive_unchanged T op = named_unchanged (primitives T) (all_unchanged T) op

forcing_unchanged : (t : CluType) (os : List Object) → UnchangedIfSignalled (forcing t os)
forcing_unchanged t os = search unchanged

-- ---- invocations, in any world

-- if there is an exception, cells, input and output are as before, and so many words were taken
abbrev pub OnlyTook : ℕ → World → Outcome → Type 0
OnlyTook n w (returned os v) = Unit {0}
OnlyTook n w (signalled name os v) = (v.cells ≡ w.cells) × (v.input ≡ w.input) × (v.output ≡ w.output) × (v.words ≡ w.words + n)
OnlyTook n w wrong = Unit {0}

took : (n : ℕ) (w : World) (o : Outcome) → ChangesNothing (record w { words = w.words + n; work = w.work + n }) o → OnlyTook n w o
took n w (returned os v) h = tt
took n w (signalled name os v) h = h
took n w wrong h = tt

-- what is bound takes its words, and the rest takes none if it signals
bound_took : (b : Bool) (n : ℕ) (rest : Action) → UnchangedIfSignalled rest → (w : World) → OnlyTook n w (need b (takes n rest) w)
unfolding need no_case takes
bound_took true n rest h w = took n w (rest (record w { words = w.words + n; work = w.work + n })) (h.at _)
bound_took false n rest h w = tt

no_signal_need : (b : Bool) (rest : Action) → NeverSignals rest → NeverSignals (need b rest)
unfolding need
no_signal_need true rest h = h
no_signal_need false rest h = no_signal_no_case

unchanged_continued : (rest : List Object → Action) → ((os : List Object) → NeverSignals (rest os)) → (w : World) (o : Outcome) → ChangesNothing w o →
    ChangesNothing w (continued rest o)
unfolding continued
unchanged_continued rest h w (returned os v) l = never_signalled w (rest os v) ((h os).at v)
unchanged_continued rest h w (signalled name os v) l = l
unchanged_continued rest h w wrong l = tt

unchanged_and_then : (first : Action) (rest : List Object → Action) → UnchangedIfSignalled first → ((os : List Object) → NeverSignals (rest os)) →
    UnchangedIfSignalled (and_then first rest)
unfolding and_then
unchanged_and_then first rest f h = record { at = λ w. unchanged_continued rest h w (first w) (f.at w) }

invoked_took : (T : CluType) (heading : Operation) (p : Primitive) (os : List Object) → UnchangedIfSignalled (p os) → (w : World) →
    OnlyTook (words_for_all heading.args) w (invoked T heading p os w)
invoked_took T heading p os h w = bound_took (may_be_arguments T (own_types os) heading.args) (words_for_all heading.args) (counts 1 (and_then (p os) (gives_results heading.results)))
    (unchanged_counts _ _ (unchanged_and_then (p os) (gives_results heading.results) h (λ given. no_signal_need _ _ (no_signal_takes _ _ (no_signal_gives given))))) w

found_took : (T : CluType) (heading : Operation) (os : List Object) (p : Option Primitive) → UnchangedIfThere p → (w : World) →
    OnlyTook (words_for_all heading.args) w (needed p (λ q. invoked T heading q os) w)
unfolding needed no_case
found_took T heading os None h w = tt
found_took T heading os (Some q) h w = invoked_took T heading q os (h os) w

headed_took : (T : CluType) (op : List ℕ) (os : List Object) (heading : Operation) (w : World) →
    OnlyTook (words_for_all heading.args) w (needed (Some heading) (λ found. needed (primitive T op) (λ p. invoked T found p os)) w)
unfolding needed
headed_took T op os heading w = found_took T heading os (primitive T op) (primitive_unchanged T op) w

invocation_took : (T : CluType) (op : List ℕ) (os : List Object) (heading : Operation) → operation T op ≡ Some heading → (w : World) →
    OnlyTook (words_for_all heading.args) w (invocation T op os w)
invocation_took T op os heading e w = subst (λ h. OnlyTook (words_for_all heading.args) w (needed h (λ found. needed (primitive T op) (λ p. invoked T found p os)) w)) (sym e)
    (headed_took T op os heading w)

outcome_took : (n : ℕ) (w : World) (o : Outcome) → OnlyTook n (before w) o → OnlyTook n w (outcome_in w o)
outcome_took n w (returned os made) h = tt
outcome_took n w (signalled name os made) h = (h.0, h.1, ap (λ bytes. w.output ++ bytes) h.2 ∙ append-nil w.output, omega (arith, h.3))
outcome_took n w wrong h = tt

done_took : (n : ℕ) (w : World) (action : Action) → ((v : World) → OnlyTook n v (action v)) → OnlyTook n w (done_in w action)
unfolding done_in
done_took n w action h = outcome_took n w (action (before w)) (h (before w))

-- an operation that signals changes nothing, and took what binding its arguments took
pub prim_took : (T : CluType) (op : List ℕ) (os : List Object) (w : World) (heading : Operation) → operation T op ≡ Some heading →
    OnlyTook (words_for_all heading.args) w (prim T op os w)
unfolding prim
prim_took T op os w heading e = done_took (words_for_all heading.args) w (invocation T op os) (invocation_took T op os heading e)

pub force_took : (t : CluType) (os : List Object) (w : World) → OnlyTook (words_for_all (force_heading t).args) w (force t os w)
unfolding force
force_took t os w = done_took (words_for_all (force_heading t).args) w (force_invocation t os)
    (invoked_took any_type (force_heading t) (forcing t) os (forcing_unchanged t os))

-- ---- constructors

making_unchanged : (t : CluType) (low : ℤ) (xs : List Object) → UnchangedIfSignalled (makes_array t low xs)
making_unchanged t low xs = search unchanged

-- an array constructor that fails changes nothing, and took what binding its elements took
pub make_array_took : (t : CluType) (low : ℤ) (xs : List Object) (w : World) → OnlyTook (words_for_all (same_for_each t xs)) w (make_array t low xs w)
unfolding make_array
make_array_took t low xs w = done_took (words_for_all (same_for_each t xs)) w (array_construction t low xs)
    (bound_took (all_fit (own_types xs) (same_for_each t xs)) (words_for_all (same_for_each t xs)) (makes_array t low xs) (making_unchanged t low xs))
