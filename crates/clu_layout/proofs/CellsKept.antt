-- No operation takes a cell away or changes the type of what it holds.
use Rattle.std.specs.Prelude.{ℕ, ℤ, Bool, true, false, List, [], ◌∷◌, ◌++◌, Some, cond, bytes_eq}
use Rattle.clu_types.specs.CluType.{CluType, null_type, bool_type, int_type, char_type, string_type, any_type, stream_type, array_of, sequence_of, record_of, struct_of, oneof_of, variant_of, proc_of, iter_of, cluster_of, parameter, CluTypes, Fields, no_fields, field_and}
use Rattle.clu_builtin.specs.Operation.{Operation}
use Rattle.clu_builtin.specs.Table.{operation, parts_of}
use Rattle.clu_layout.specs.Objects.{Object, Cell}
use Rattle.clu_layout.specs.PlainOperations.{Primitives, null_primitives, routine_primitives, bool_primitives}
use Rattle.clu_layout.specs.NumberOperations.{int_primitives, char_primitives}
use Rattle.clu_layout.specs.StringOperations.{string_primitives}
use Rattle.clu_layout.specs.ArrayOperations.{array_primitives}
use Rattle.clu_layout.specs.SequenceOperations.{sequence_primitives}
use Rattle.clu_layout.specs.RecordOperations.{struct_selected, record_selected, record_primitives}
use Rattle.clu_layout.specs.OneofOperations.{oneof_selected, variant_selected, variant_primitives}
use Rattle.clu_layout.specs.StreamOperations.{stream_primitives}
use Rattle.clu_layout.specs.Primitive.{of_each, same_for_each, primitives, named, primitive, binds, gives_results, invoked, invocation, forcing, force_heading, force_invocation, array_construction, array_with_low, sequence_construction, struct_construction, record_construction, before, outcome_in, done_in, prim, force, make_array, make_array_with_low, make_sequence, make_struct, make_record}
use Rattle.clu_layout.specs.Actions.{World, Outcome, returned, signalled, wrong, Action, Primitive, gives_all, need, needed, continued, and_then, makes_array, makes_sequence, makes_struct, makes_record}
use Rattle.clu_layout.proofs.CellLaws.{longer_refl, KeptIn, Keeps, keeps, keeps_gives, keeps_no_case, keeps_takes, keeps_counts, keeps_needed, keeps_int}

-- ---- the operations, in the order of their tables

abbrev pub AllKeep : Primitives → Type 0
AllKeep [] = Unit {0}
AllKeep ((name, p) ∷ rest) = ((base : List Cell) (os : List Object) → Keeps base (p os)) × AllKeep rest

bools_keep : AllKeep bool_primitives
bools_keep = search keeps depth 14

nulls_keep : AllKeep null_primitives
nulls_keep = search keeps depth 14

routines_keep : AllKeep routine_primitives
routines_keep = search keeps depth 14

ints_keep : AllKeep int_primitives
ints_keep = search keeps depth 14 fits 4000

chars_keep : AllKeep char_primitives
chars_keep = search keeps depth 14 fits 4000

strings_keep : AllKeep string_primitives
strings_keep = search keeps depth 14 fits 4000

arrays_keep : (t : CluType) → AllKeep (array_primitives t)
arrays_keep t = search keeps depth 14 fits 4000

sequences_keep : (t : CluType) → AllKeep (sequence_primitives t)
sequences_keep t = search keeps depth 14 fits 4000

streams_keep : AllKeep stream_primitives
streams_keep = search keeps depth 14 fits 4000

structs_keep : (s : List ℕ) → AllKeep (struct_selected s)
structs_keep s = search keeps depth 14

records_keep : (s : List ℕ) → AllKeep (record_selected s)
records_keep s = search keeps depth 14

record_keeps : AllKeep record_primitives
record_keeps = search keeps depth 14

oneofs_keep : (fs : Fields) (s : List ℕ) → AllKeep (oneof_selected fs s)
oneofs_keep fs s = search keeps depth 14

variants_keep : (fs : Fields) (s : List ℕ) → AllKeep (variant_selected fs s)
variants_keep fs s = search keeps depth 14

variant_keeps : AllKeep variant_primitives
variant_keeps = search keeps depth 14

joined_keep : (ps qs : Primitives) → AllKeep ps → AllKeep qs → AllKeep (ps ++ qs)
joined_keep [] qs f g = g
joined_keep ((name, p) ∷ ps) qs f g = (f.0, joined_keep ps qs f.1 g)

each_keeps : (selected : List ℕ → Primitives) (fs : Fields) (own : Primitives) → ((s : List ℕ) → AllKeep (selected s)) → AllKeep own →
    AllKeep (of_each selected fs own)
each_keeps selected no_fields own f g = g
each_keeps selected (field_and s t rest) own f g = joined_keep (selected s) (of_each selected rest own) (f s) (each_keeps selected rest own f g)

all_keep : (T : CluType) → AllKeep (primitives T)
all_keep null_type = nulls_keep
all_keep bool_type = bools_keep
all_keep int_type = ints_keep
all_keep char_type = chars_keep
all_keep string_type = strings_keep
all_keep any_type = tt
all_keep stream_type = streams_keep
all_keep (array_of t) = arrays_keep t
all_keep (sequence_of t) = sequences_keep t
all_keep (record_of fs) = each_keeps record_selected fs record_primitives records_keep record_keeps
all_keep (struct_of fs) = each_keeps struct_selected fs [] structs_keep tt
all_keep (oneof_of fs) = each_keeps (oneof_selected fs) fs [] (oneofs_keep fs) tt
all_keep (variant_of fs) = each_keeps (variant_selected fs) fs variant_primitives (variants_keep fs) variant_keeps
all_keep (proc_of _ _ _) = routines_keep
all_keep (iter_of _ _ _) = routines_keep
all_keep (cluster_of _ _) = tt
all_keep (parameter _) = tt

-- ---- invocations, in any world

module _ (base : List Cell) where
  keeps_need : (b : Bool) (rest : Action) → Keeps base rest → Keeps base (need b rest)
  unfolding need
  keeps_need true rest h = h
  keeps_need false rest h = keeps_no_case base

  keeps_continued : (rest : List Object → Action) → ((os : List Object) → Keeps base (rest os)) → (o : Outcome) → KeptIn base o → KeptIn base (continued rest o)
  unfolding continued
  keeps_continued rest h (returned os w) l = (h os).at w l
  keeps_continued rest h (signalled name os w) l = l
  keeps_continued rest h wrong l = tt

  keeps_and_then : (first : Action) (rest : List Object → Action) → Keeps base first → ((os : List Object) → Keeps base (rest os)) → Keeps base (and_then first rest)
  unfolding and_then
  keeps_and_then first rest f h = record { at = λ w l. keeps_continued rest h (first w) (f.at w l) }

  keeps_bound : (types : CluTypes) (os : List Object) (rest : Action) → Keeps base rest → Keeps base (binds types os rest)
  keeps_bound types os rest h = keeps_need _ _ (keeps_takes base _ _ h)

  keeps_invoked : (T : CluType) (heading : Operation) (p : Primitive) (os : List Object) → Keeps base (p os) → Keeps base (invoked T heading p os)
  keeps_invoked T heading p os h = keeps_need _ _ (keeps_takes base _ _ (keeps_counts base _ _
      (keeps_and_then (p os) (gives_results heading.results) h (λ given. keeps_bound heading.results given (gives_all given) (keeps_gives base given)))))

  keeps_found : (T : CluType) (heading : Operation) (op : List ℕ) (os : List Object) (p : Primitive) (ps : Primitives) →
      Keeps base (invoked T heading p os) → Keeps base (needed (named ps op) (λ q. invoked T heading q os)) →
      (here : Bool) → Keeps base (needed (cond here (Some p) (named ps op)) (λ q. invoked T heading q os))
  unfolding needed
  keeps_found T heading op os p ps f g true = f
  keeps_found T heading op os p ps f g false = g

  keeps_named : (T : CluType) (heading : Operation) (op : List ℕ) (os : List Object) (ps : Primitives) → AllKeep ps →
      Keeps base (needed (named ps op) (λ p. invoked T heading p os))
  unfolding needed
  keeps_named T heading op os [] h = keeps_no_case base
  keeps_named T heading op os ((name, p) ∷ ps) h = keeps_found T heading op os p ps (keeps_invoked T heading p os (h.0 base os))
      (keeps_named T heading op os ps h.1) (bytes_eq name op)

  keeps_invocation : (T : CluType) (op : List ℕ) (os : List Object) → Keeps base (invocation T op os)
  keeps_invocation T op os = keeps_needed base (operation T op) (λ heading. needed (primitive T op) (λ p. invoked T heading p os))
      (λ heading. keeps_named T heading op os (primitives T) (all_keep T))

added_keeps : (w : World) (o : Outcome) → KeptIn w.cells o → KeptIn w.cells (outcome_in w o)
added_keeps w (returned os made) h = h
added_keeps w (signalled name os made) h = h
added_keeps w wrong h = tt

done_keeps : (w : World) (action : Action) → Keeps w.cells action → KeptIn w.cells (done_in w action)
unfolding done_in
done_keeps w action h = added_keeps w (action (before w)) (h.at (before w) (longer_refl w.cells))

pub prim_keeps : (T : CluType) (op : List ℕ) (os : List Object) (w : World) → KeptIn w.cells (prim T op os w)
unfolding prim
prim_keeps T op os w = done_keeps w (invocation T op os) (keeps_invocation w.cells T op os)

forcing_keeps : (t : CluType) (base : List Cell) (os : List Object) → Keeps base (forcing t os)
forcing_keeps t base os = search keeps

pub force_keeps : (t : CluType) (os : List Object) (w : World) → KeptIn w.cells (force t os w)
unfolding force
force_keeps t os w = done_keeps w (force_invocation t os)
    (keeps_invoked w.cells any_type (force_heading t) (forcing t) os (forcing_keeps t w.cells os))

making_keeps : (base : List Cell) (t : CluType) (low : ℤ) (xs : List Object) → Keeps base (makes_array t low xs)
making_keeps base t low xs = search keeps

array_construction_keeps : (base : List Cell) (t : CluType) (low : ℤ) (xs : List Object) → Keeps base (array_construction t low xs)
array_construction_keeps base t low xs = keeps_bound base (same_for_each t xs) xs _ (making_keeps base t low xs)

pub make_array_keeps : (t : CluType) (low : ℤ) (xs : List Object) (w : World) → KeptIn w.cells (make_array t low xs w)
unfolding make_array
make_array_keeps t low xs w = done_keeps w (array_construction t low xs) (array_construction_keeps w.cells t low xs)

pub make_array_with_low_keeps : (t : CluType) (low : Object) (xs : List Object) (w : World) → KeptIn w.cells (make_array_with_low t low xs w)
unfolding make_array_with_low
make_array_with_low_keeps t low xs w = done_keeps w (array_with_low t low xs)
    (keeps_int w.cells low (λ n. array_construction t n xs) (λ n. array_construction_keeps w.cells t n xs))

sequence_making_keeps : (base : List Cell) (t : CluType) (xs : List Object) → Keeps base (makes_sequence t xs)
sequence_making_keeps base t xs = search keeps

pub make_sequence_keeps : (t : CluType) (xs : List Object) (w : World) → KeptIn w.cells (make_sequence t xs w)
unfolding make_sequence
make_sequence_keeps t xs w = done_keeps w (sequence_construction t xs) (keeps_bound w.cells (same_for_each t xs) xs _ (sequence_making_keeps w.cells t xs))

struct_making_keeps : (base : List Cell) (fs : Fields) (xs : List Object) → Keeps base (makes_struct fs xs)
struct_making_keeps base fs xs = search keeps

pub make_struct_keeps : (fs : Fields) (xs : List Object) (w : World) → KeptIn w.cells (make_struct fs xs w)
unfolding make_struct
make_struct_keeps fs xs w = done_keeps w (struct_construction fs xs) (keeps_bound w.cells (parts_of fs) xs _ (struct_making_keeps w.cells fs xs))

record_making_keeps : (base : List Cell) (fs : Fields) (xs : List Object) → Keeps base (makes_record fs xs)
record_making_keeps base fs xs = search keeps

pub make_record_keeps : (fs : Fields) (xs : List Object) (w : World) → KeptIn w.cells (make_record fs xs w)
unfolding make_record
make_record_keeps fs xs w = done_keeps w (record_construction fs xs) (keeps_bound w.cells (parts_of fs) xs _ (record_making_keeps w.cells fs xs))
