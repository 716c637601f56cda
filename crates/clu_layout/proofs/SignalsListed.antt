-- Each exception of a primitive operation is one of its heading's signals, with objects of their types, or failure with one
-- string. The same of force and of constructors.
use Rattle.std.proofs.Common.{◌≡◌, refl, sym, subst}
use Rattle.std.proofs.lemmas.Slice.Eq.{bytes_eq-Decides}
use Rattle.std.specs.Prelude.{ℕ, ℤ, Bool, true, false, List, [], ◌∷◌, ◌++◌, Option, Some, None, cond, bytes_eq, codes}
use Rattle.clu_types.specs.CluType.{CluType, null_type, bool_type, int_type, char_type, string_type, any_type, stream_type, array_of, sequence_of, record_of, struct_of, oneof_of, variant_of, proc_of, iter_of, cluster_of, parameter, CluTypes, no_types, Fields, no_fields, field_and, Signals, no_signals}
use Rattle.clu_builtin.specs.Operation.{Operation}
use Rattle.clu_builtin.specs.Table.{SelectorTable, operation, or_else, named as headed, with_selector, of_selectors, oneof_selectors, variant_selectors}
use Rattle.clu_layout.specs.Objects.{Object}
use Rattle.clu_layout.specs.Actions.{World, Outcome, returned, signalled, wrong, Action, Primitive, needed}
use Rattle.clu_layout.specs.PlainOperations.{Primitives, null_primitives, routine_primitives, bool_primitives}
use Rattle.clu_layout.specs.NumberOperations.{int_primitives, char_primitives}
use Rattle.clu_layout.specs.StringOperations.{string_primitives}
use Rattle.clu_layout.specs.ArrayOperations.{array_primitives}
use Rattle.clu_layout.specs.SequenceOperations.{sequence_primitives}
use Rattle.clu_layout.specs.RecordOperations.{struct_get, struct_replace, struct_selected, record_get, record_set, record_copy1, record_equal, record_selected, record_primitives}
use Rattle.clu_layout.specs.OneofOperations.{oneof_make, oneof_is, oneof_value, oneof_selected, variant_make, variant_is, variant_value, variant_change, variant_copy1, variant_equal, variant_selected, variant_primitives}
use Rattle.clu_layout.specs.StreamOperations.{stream_primitives}
use Rattle.clu_layout.specs.Primitive.{of_each, primitives, named, primitive, invoked, invocation, gives_results, forcing, force_heading, force_invocation, array_construction, array_with_low, sequence_construction, struct_construction, record_construction, before, outcome_in, done_in, prim, force, make_array, make_array_with_low, make_sequence, make_struct, make_record}
use Rattle.clu_layout.proofs.ListedLaws.{may_signal, IsListed, SignalsOnly, only_need, only_and_then, only_counts, only_takes, only_gives, only_no_case, only}

-- ---- the operations, in the order of their tables

-- an operation with this heading signals at most what the heading lists
abbrev pub SignalsAsHeaded : Option Operation → Primitive → Type 0
SignalsAsHeaded None p = Unit {0}
SignalsAsHeaded (Some heading) p = (os : List Object) → SignalsOnly heading.signals (p os)

-- each operation of the table, by the heading of its name
abbrev pub AllListed : (List ℕ → Option Operation) → Primitives → Type 0
AllListed heading [] = Unit {0}
AllListed heading ((name, p) ∷ rest) = SignalsAsHeaded (heading name) p × AllListed heading rest

nulls_listed : AllListed (operation null_type) null_primitives
nulls_listed = search only depth 14 fits 4000

procs_listed : (args results : CluTypes) (ss : Signals) → AllListed (operation (proc_of args results ss)) routine_primitives
procs_listed args results ss = search only depth 14 fits 4000

iters_listed : (args results : CluTypes) (ss : Signals) → AllListed (operation (iter_of args results ss)) routine_primitives
iters_listed args results ss = search only depth 14 fits 4000

bools_listed : AllListed (operation bool_type) bool_primitives
bools_listed = search only depth 14 fits 4000

ints_listed : AllListed (operation int_type) int_primitives
ints_listed = search only depth 14 fits 4000

chars_listed : AllListed (operation char_type) char_primitives
chars_listed = search only depth 14 fits 4000

strings_listed : AllListed (operation string_type) string_primitives
strings_listed = search only depth 14 fits 4000

arrays_listed : (t : CluType) → AllListed (operation (array_of t)) (array_primitives t)
arrays_listed t = search only depth 14 fits 4000

sequences_listed : (t : CluType) → AllListed (operation (sequence_of t)) (sequence_primitives t)
sequences_listed t = search only depth 14 fits 4000

streams_listed : AllListed (operation stream_type) stream_primitives
streams_listed = search only depth 14 fits 4000

-- ---- the operations of selectors and tags

-- one that signals nothing, whatever its heading
nothing_listed : (h : Option Operation) (p : Primitive) → ((ss : Signals) (os : List Object) → SignalsOnly ss (p os)) → SignalsAsHeaded h p
nothing_listed None p f = tt
nothing_listed (Some heading) p f = f heading.signals

module _ (heading : List ℕ → Option Operation) where
  structs_listed : (s : List ℕ) → AllListed heading (struct_selected s)
  structs_listed s = (
    nothing_listed (heading (codes "get_" ++ s)) (struct_get s) (λ ss os. search only depth 14),
    (nothing_listed (heading (codes "replace_" ++ s)) (struct_replace s) (λ ss os. search only depth 14), tt),
  )

  records_listed : (s : List ℕ) → AllListed heading (record_selected s)
  records_listed s = (
    nothing_listed (heading (codes "get_" ++ s)) (record_get s) (λ ss os. search only depth 14),
    (nothing_listed (heading (codes "set_" ++ s)) (record_set s) (λ ss os. search only depth 14), tt),
  )

  record_listed : AllListed heading record_primitives
  record_listed = (
    nothing_listed (heading (codes "equal")) record_equal (λ ss os. search only depth 14),
    (nothing_listed (heading (codes "copy1")) record_copy1 (λ ss os. search only depth 14), tt),
  )

  variant_listed : AllListed heading variant_primitives
  variant_listed = (
    nothing_listed (heading (codes "equal")) variant_equal (λ ss os. search only depth 14),
    (nothing_listed (heading (codes "copy1")) variant_copy1 (λ ss os. search only depth 14), tt),
  )

-- value_s alone signals, and its heading lists wrong_tag
abbrev ListsWrongTag : Option Operation → Type 0
ListsWrongTag None = Unit {0}
ListsWrongTag (Some heading) = may_signal heading.signals (codes "wrong_tag") no_types ≡ true

abbrev SignalsWrongTag : Primitive → Type 0
SignalsWrongTag p = (ss : Signals) → may_signal ss (codes "wrong_tag") no_types ≡ true → (os : List Object) → SignalsOnly ss (p os)

wrong_tag_listed : (h : Option Operation) (p : Primitive) → ListsWrongTag h → SignalsWrongTag p → SignalsAsHeaded h p
wrong_tag_listed None p l f = tt
wrong_tag_listed (Some heading) p l f = f heading.signals l

either_lists : (a b : Option Operation) → ListsWrongTag a → ListsWrongTag b → ListsWrongTag (or_else a b)
either_lists None b f g = g
either_lists (Some heading) b f g = f

found_lists : (here : Bool) (heading : Operation) → ListsWrongTag (Some heading) → ListsWrongTag (cond here (Some heading) None)
found_lists true heading f = f
found_lists false heading f = tt

each_lists : (table : SelectorTable) (fs : Fields) (op : List ℕ) → ((s : List ℕ) (t : CluType) → ListsWrongTag (headed (with_selector s (table t)) op)) →
    ListsWrongTag (of_selectors table fs op)
each_lists table no_fields op f = tt
each_lists table (field_and s t rest) op f = either_lists (headed (with_selector s (table t)) op) (of_selectors table rest op) (f s t) (each_lists table rest op f)

oneof_heading_lists : (fs : Fields) (s : List ℕ) → ListsWrongTag (operation (oneof_of fs) (codes "value_" ++ s))
oneof_heading_lists fs s = either_lists (of_selectors (oneof_selectors (oneof_of fs)) fs (codes "value_" ++ s)) None
    (each_lists (oneof_selectors (oneof_of fs)) fs (codes "value_" ++ s) (λ tag t. found_lists (bytes_eq tag s) _ refl)) tt

variant_heading_lists : (fs : Fields) (s : List ℕ) → ListsWrongTag (operation (variant_of fs) (codes "value_" ++ s))
variant_heading_lists fs s = either_lists (of_selectors (variant_selectors (variant_of fs)) fs (codes "value_" ++ s)) None
    (each_lists (variant_selectors (variant_of fs)) fs (codes "value_" ++ s) (λ tag t. found_lists (bytes_eq tag s) _ refl)) tt

oneofs_listed : (fs : Fields) (s : List ℕ) → AllListed (operation (oneof_of fs)) (oneof_selected fs s)
oneofs_listed fs s = (
  nothing_listed (operation (oneof_of fs) (codes "make_" ++ s)) (oneof_make fs s) (λ ss os. search only depth 14),
  (
    nothing_listed (operation (oneof_of fs) (codes "is_" ++ s)) (oneof_is s) (λ ss os. search only depth 14),
    (wrong_tag_listed (operation (oneof_of fs) (codes "value_" ++ s)) (oneof_value s) (oneof_heading_lists fs s) (λ ss l os. search only depth 14), tt),
  ),
)

variants_listed : (fs : Fields) (s : List ℕ) → AllListed (operation (variant_of fs)) (variant_selected fs s)
variants_listed fs s = (
  nothing_listed (operation (variant_of fs) (codes "make_" ++ s)) (variant_make fs s) (λ ss os. search only depth 14),
  (
    nothing_listed (operation (variant_of fs) (codes "is_" ++ s)) (variant_is s) (λ ss os. search only depth 14),
    (
      wrong_tag_listed (operation (variant_of fs) (codes "value_" ++ s)) (variant_value s) (variant_heading_lists fs s) (λ ss l os. search only depth 14),
      (nothing_listed (operation (variant_of fs) (codes "change_" ++ s)) (variant_change s) (λ ss os. search only depth 14), tt),
    ),
  ),
)

-- ---- whatever the type and the name

module _ (heading : List ℕ → Option Operation) where
  joined_listed : (ps qs : Primitives) → AllListed heading ps → AllListed heading qs → AllListed heading (ps ++ qs)
  joined_listed [] qs f g = g
  joined_listed ((name, p) ∷ ps) qs f g = (f.0, joined_listed ps qs f.1 g)

  each_listed : (selected : List ℕ → Primitives) (fs : Fields) (own : Primitives) → ((s : List ℕ) → AllListed heading (selected s)) → AllListed heading own →
      AllListed heading (of_each selected fs own)
  each_listed selected no_fields own f g = g
  each_listed selected (field_and s t rest) own f g = joined_listed (selected s) (of_each selected rest own) (f s) (each_listed selected rest own f g)

all_listed : (T : CluType) → AllListed (operation T) (primitives T)
all_listed null_type = nulls_listed
all_listed bool_type = bools_listed
all_listed int_type = ints_listed
all_listed char_type = chars_listed
all_listed string_type = strings_listed
all_listed any_type = tt
all_listed stream_type = streams_listed
all_listed (array_of t) = arrays_listed t
all_listed (sequence_of t) = sequences_listed t
all_listed (record_of fs) = each_listed (operation (record_of fs)) record_selected fs record_primitives (records_listed (operation (record_of fs))) (record_listed (operation (record_of fs)))
all_listed (struct_of fs) = each_listed (operation (struct_of fs)) struct_selected fs [] (structs_listed (operation (struct_of fs))) tt
all_listed (oneof_of fs) = each_listed (operation (oneof_of fs)) (oneof_selected fs) fs [] (oneofs_listed fs) tt
all_listed (variant_of fs) = each_listed (operation (variant_of fs)) (variant_selected fs) fs variant_primitives (variants_listed fs) (variant_listed (operation (variant_of fs)))
all_listed (proc_of args results ss) = procs_listed args results ss
all_listed (iter_of args results ss) = iters_listed args results ss
all_listed (cluster_of _ _) = tt
all_listed (parameter _) = tt

abbrev ListedIfThere : Option Operation → Option Primitive → Type 0
ListedIfThere h None = Unit {0}
ListedIfThere h (Some p) = SignalsAsHeaded h p

chosen_listed : (h : Option Operation) (here : Bool) (p : Primitive) (others : Option Primitive) → (here ≡ true → SignalsAsHeaded h p) → ListedIfThere h others →
    ListedIfThere h (cond here (Some p) others)
chosen_listed h true p others f g = f refl
chosen_listed h false p others f g = g

named_listed : (heading : List ℕ → Option Operation) (ps : Primitives) → AllListed heading ps → (op : List ℕ) → ListedIfThere (heading op) (named ps op)
named_listed heading [] l op = tt
named_listed heading ((name, p) ∷ ps) l op = chosen_listed (heading op) (bytes_eq name op) p (named ps op)
    (λ same. subst (λ n. SignalsAsHeaded (heading n) p) ((bytes_eq-Decides name op).0 same) l.0) (named_listed heading ps l.1 op)

-- ---- invocations, in any world

invoked_listed : (ss : Signals) (T : CluType) (heading : Operation) (p : Primitive) (os : List Object) → SignalsOnly ss (p os) → SignalsOnly ss (invoked T heading p os)
invoked_listed ss T heading p os h = only_need ss _ _ (only_takes ss _ _ (only_counts ss _ _
    (only_and_then ss (p os) (gives_results heading.results) h (λ given. only_need ss _ _ (only_takes ss _ _ (only_gives ss given))))))

found_listed : (T : CluType) (heading : Operation) (os : List Object) (p : Option Primitive) → ListedIfThere (Some heading) p →
    SignalsOnly heading.signals (needed p (λ q. invoked T heading q os))
unfolding needed
found_listed T heading os None l = only_no_case heading.signals
found_listed T heading os (Some q) l = invoked_listed heading.signals T heading q os (l os)

headed_listed : (T : CluType) (op : List ℕ) (os : List Object) (heading : Operation) → ListedIfThere (Some heading) (primitive T op) →
    SignalsOnly heading.signals (needed (Some heading) (λ h. needed (primitive T op) (λ p. invoked T h p os)))
unfolding needed
headed_listed T op os heading l = found_listed T heading os (primitive T op) l

invocation_listed : (T : CluType) (op : List ℕ) (os : List Object) (heading : Operation) → operation T op ≡ Some heading → SignalsOnly heading.signals (invocation T op os)
invocation_listed T op os heading e = subst (λ h. SignalsOnly heading.signals (needed h (λ found. needed (primitive T op) (λ p. invoked T found p os)))) (sym e)
    (headed_listed T op os heading (subst (λ h. ListedIfThere h (primitive T op)) e (named_listed (operation T) (primitives T) (all_listed T) op)))

outcome_listed : (ss : Signals) (w : World) (o : Outcome) → IsListed ss o → IsListed ss (outcome_in w o)
outcome_listed ss w (returned os made) h = tt
outcome_listed ss w (signalled name os made) h = h
outcome_listed ss w wrong h = tt

done_listed : (ss : Signals) (w : World) (action : Action) → SignalsOnly ss action → IsListed ss (done_in w action)
unfolding done_in
done_listed ss w action h = outcome_listed ss w (action (before w)) (h.at (before w))

pub prim_signals : (T : CluType) (op : List ℕ) (os : List Object) (w : World) (heading : Operation) → operation T op ≡ Some heading →
    IsListed heading.signals (prim T op os w)
unfolding prim
prim_signals T op os w heading e = done_listed heading.signals w (invocation T op os) (invocation_listed T op os heading e)

pub force_signals : (t : CluType) (os : List Object) (w : World) → IsListed (force_heading t).signals (force t os w)
unfolding force
force_signals t os w = done_listed (force_heading t).signals w (force_invocation t os)
    (invoked_listed (force_heading t).signals any_type (force_heading t) (forcing t) os (search only))

-- ---- constructors signal nothing but failure

pub make_array_signals : (t : CluType) (low : ℤ) (xs : List Object) (w : World) → IsListed no_signals (make_array t low xs w)
unfolding make_array
make_array_signals t low xs w = done_listed no_signals w (array_construction t low xs) (search only)

pub make_array_with_low_signals : (t : CluType) (low : Object) (xs : List Object) (w : World) → IsListed no_signals (make_array_with_low t low xs w)
unfolding make_array_with_low
make_array_with_low_signals t low xs w = done_listed no_signals w (array_with_low t low xs) (search only depth 7)

pub make_sequence_signals : (t : CluType) (xs : List Object) (w : World) → IsListed no_signals (make_sequence t xs w)
unfolding make_sequence
make_sequence_signals t xs w = done_listed no_signals w (sequence_construction t xs) (search only)

pub make_struct_signals : (fs : Fields) (xs : List Object) (w : World) → IsListed no_signals (make_struct fs xs w)
unfolding make_struct
make_struct_signals fs xs w = done_listed no_signals w (struct_construction fs xs) (search only)

pub make_record_signals : (fs : Fields) (xs : List Object) (w : World) → IsListed no_signals (make_record fs xs w)
unfolding make_record
make_record_signals fs xs w = done_listed no_signals w (record_construction fs xs) (search only)
