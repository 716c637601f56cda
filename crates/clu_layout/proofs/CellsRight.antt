-- Operations and constructors leave right cells: low - 1, low and high of each array are ints and there is room for its
-- elements, and each record has as many components as selectors.
use Rattle.std.proofs.Common.{◌≡◌, refl, sym, ap, subst, ◌∙◌, arith, length-append, length-drop, length-take, length-set}
use Rattle.std.proofs.lemmas.Bool.{false≢true, and_parts, eqb-true, eqb-false}
use Rattle.std.specs.Prelude.{ℕ, suc, ◌+◌, ◌*◌, ◌≤◌, max, nat_eq, ℤ, pos, negsuc, ◌-ℤ◌, Bool, true, false, List, [], ◌∷◌, ◌++◌, length, take, drop, nat_lt, nat_le, Option, Some, None, cond, slice_set, bytes_eq}
use Rattle.std.specs.Option.{option_map}
use Rattle.clu_types.specs.CluType.{CluType, null_type, bool_type, int_type, char_type, string_type, any_type, stream_type, array_of, sequence_of, record_of, struct_of, oneof_of, variant_of, proc_of, iter_of, cluster_of, parameter, CluTypes, Fields, no_fields, field_and}
use Rattle.clu_builtin.specs.Operation.{Operation}
use Rattle.clu_builtin.specs.Table.{operation, parts_of}
use Rattle.clu_layout.specs.Objects.{Object, own_type, own_types, Array}
use Rattle.clu_layout.specs.SameType.{fits, all_fit}
use Rattle.clu_layout.specs.Places.{with_item_after, items_after, without_first, without_last, count_of}
use Rattle.clu_layout.specs.Actions.{World, Outcome, returned, signalled, wrong, Action, Primitive, gives_all, makes_array, makes_sequence, makes_struct, makes_record}
use Rattle.clu_layout.specs.PlainOperations.{Primitives, null_primitives, routine_primitives, bool_primitives}
use Rattle.clu_layout.specs.NumberOperations.{int_primitives, char_primitives}
use Rattle.clu_layout.specs.StringOperations.{string_primitives}
use Rattle.clu_layout.specs.ArrayOperations.{array_set_low, array_store, grows, array_addh, array_addl, array_remh, array_reml, array_trim, array_primitives}
use Rattle.clu_layout.specs.SequenceOperations.{sequence_primitives}
use Rattle.clu_layout.specs.RecordOperations.{with_component, struct_selected, record_set, record_selected, record_primitives}
use Rattle.clu_layout.specs.OneofOperations.{oneof_selected, variant_selected, variant_primitives}
use Rattle.clu_layout.specs.StreamOperations.{stream_primitives}
use Rattle.clu_layout.specs.Primitive.{of_each, primitives, named, primitive, binds, gives_results, invoked, invocation, forcing, force_heading, force_invocation, same_for_each, array_construction, array_with_low, sequence_construction, struct_construction, record_construction, before, outcome_in, done_in, prim, force, make_array, make_array_with_low, make_sequence, make_struct, make_record}
use Rattle.clu_layout.proofs.RightLaws.{selector_count, AllRight, RightIn, StaysRight, right_gives, right_signals_if, right_or_signals, right_either, right_or_fails, right_need, right_needed, right_and_then, right_counts, right_takes, right_changes, right_one, right_two, right_three, right_int, right_array, right_record, right}

-- ---- the lengths of what operations make of a list

abbrev IfThere : {A : Type 0} → (A → Type 0) → Option A → Type 0
IfThere P None = Unit {0}
IfThere P (Some x) = P x

abbrev AtMost : ℕ → Option (List Object) → Type 0
AtMost n found = IfThere (λ xs. length xs ≤ n) found

tested : (b : Bool) (n : ℕ) (xs : List Object) → length xs ≤ n → AtMost n (cond b (Some xs) None)
tested true n xs h = h
tested false n xs h = tt

stored : (xs : List Object) (before_it : ℤ) (x : Object) (n : ℕ) → length xs ≤ n → AtMost n (with_item_after xs before_it x)
stored xs (pos k) x n h = tested (nat_lt k (length xs)) n (slice_set xs k x) (omega (arith, length-set xs k x))
stored xs (negsuc k) x n h = tt

left_over : (xs : List Object) (before_it : ℤ) (n : ℕ) → length xs ≤ n → AtMost n (items_after xs before_it)
left_over xs (pos k) n h = tested (nat_le k (length xs)) n (drop k xs) (omega (arith, length-drop k xs))
left_over xs (negsuc k) n h = tt

taken : (k : ℕ) (xs : List Object) (n : ℕ) → length xs ≤ n → length (take k xs) ≤ n
taken k xs n h = omega (arith, length-take k xs)

less_first : (xs : List Object) (n : ℕ) → length xs ≤ n → AtMost n (without_first xs)
less_first [] n h = tt
less_first (x ∷ xs) n h = omega arith

less_last : (xs : List Object) (n : ℕ) → length xs ≤ n → AtMost n (without_last xs)
less_last [] n h = tt
less_last (x ∷ xs) n h = taken (length xs) (x ∷ xs) n h

-- ---- arrays

set_low_right : (os : List Object) → StaysRight (array_set_low os)
set_low_right os = right_two os _ (λ r b. right_array r _ (λ c a bounds room. right_int b _ (λ low. right_or_fails _ _ _ (λ new. right_changes c _ _ (new, room) (right_gives [])))))

store_right : (os : List Object) → StaysRight (array_store os)
store_right os = right_three os _ (λ r b x. right_array r _ (λ c a bounds room. right_int b _ (λ i. right_or_signals _ _ _ (λ xs e. right_or_fails _ _ _ (λ new.
    right_changes c _ _ (new, subst (AtMost a.room) e (stored a.items (i -ℤ a.low) x a.room room)) (right_gives []))))))

full_grows : (n room longer : ℕ) → nat_eq n room ≡ true → longer ≡ n + 1 → longer ≤ max 4 (2 * room)
full_grows n room longer full h = omega (arith, eqb-true n room full)

free_grows : (n room longer : ℕ) → nat_eq n room ≡ false → n ≤ room → longer ≡ n + 1 → longer ≤ room
free_grows n room longer free h k = omega (arith, eqb-false n room free)

grows_right : (c : ℕ) (a b : Array) → length b.items ≡ length a.items + 1 → b.room ≡ a.room → length a.items ≤ a.room → StaysRight (grows c a b)
grows_right c a b longer same room = right_either _ _ _
    (λ full. right_counts _ _ (right_or_fails _ _ _ (λ new. right_takes _ _ (right_changes c _ _
    (new, full_grows (length a.items) a.room (length b.items) full longer) (right_gives [])))))
    (λ free. right_or_fails _ _ _ (λ new. right_changes c _ _
    (new, subst (λ n. length b.items ≤ n) (sym same) (free_grows (length a.items) a.room (length b.items) free room longer)) (right_gives [])))

addh_right : (os : List Object) → StaysRight (array_addh os)
addh_right os = right_two os _ (λ r x. right_array r _ (λ c a bounds room. grows_right c a (record a { items = a.items ++ x ∷ [] }) (length-append a.items (x ∷ [])) refl room))

addl_right : (os : List Object) → StaysRight (array_addl os)
addl_right os = right_two os _ (λ r x. right_array r _ (λ c a bounds room. grows_right c a (record a { low = a.low -ℤ pos 1; items = x ∷ a.items }) (omega arith) refl room))

remh_right : (os : List Object) → StaysRight (array_remh os)
remh_right os = right_one os _ (λ r. right_array r _ (λ c a bounds room. right_or_signals _ _ _ (λ x e. right_or_signals _ _ _ (λ xs l. right_or_fails _ _ _ (λ new.
    right_changes c _ _ (new, subst (AtMost a.room) l (less_last a.items a.room room)) (right_gives (x ∷ [])))))))

reml_right : (os : List Object) → StaysRight (array_reml os)
reml_right os = right_one os _ (λ r. right_array r _ (λ c a bounds room. right_or_signals _ _ _ (λ x e. right_or_signals _ _ _ (λ xs l. right_or_fails _ _ _ (λ new.
    right_changes c _ _ (new, subst (AtMost a.room) l (less_first a.items a.room room)) (right_gives (x ∷ [])))))))

trim_right : (os : List Object) → StaysRight (array_trim os)
trim_right os = right_three os _ (λ r b d. right_array r _ (λ c a bounds room. right_int b _ (λ i. right_int d _ (λ n. right_signals_if _ _ _ (right_or_signals _ _ _ (λ rest l.
    right_or_fails _ _ _ (λ new. right_changes c _ _
    (new, taken (count_of n) rest a.room (subst (AtMost a.room) l (left_over a.items (i -ℤ a.low) a.room room))) (right_gives []))))))))

-- ---- records

replaced_if : (b : Bool) (x y : Object) (xs : List Object) (found : Option (List Object)) → IfThere (λ ys. length ys ≡ length xs) found →
    IfThere (λ ys. length ys ≡ suc (length xs)) (cond b (Some (y ∷ xs)) (option_map (λ ys. x ∷ ys) found))
replaced_if true x y xs found h = refl
replaced_if false x y xs None h = tt
replaced_if false x y xs (Some ys) h = ap suc h

replaced : (fs : Fields) (s : List ℕ) (y : Object) (xs : List Object) → IfThere (λ ys. length ys ≡ length xs) (with_component fs s y xs)
replaced (field_and name t rest) s y (x ∷ xs) = replaced_if (bytes_eq name s) x y xs (with_component rest s y xs) (replaced rest s y xs)
replaced (field_and name t rest) s y [] = tt
replaced no_fields s y xs = tt

set_right : (s : List ℕ) (os : List Object) → StaysRight (record_set s os)
set_right s os = right_two os _ (λ r y. right_record r _ (λ c fs xs count. right_needed _ _ (λ ys e. right_changes c _ _
    (subst (IfThere (λ zs. length zs ≡ length xs)) e (replaced fs s y xs) ∙ count) (right_gives []))))

-- what is bound to the types of all components is as many as there are selectors
as_many : (fs : Fields) (xs : List Object) → all_fit (own_types xs) (parts_of fs) ≡ true → length xs ≡ selector_count fs
as_many no_fields [] h = refl
as_many (field_and s t fs) (x ∷ xs) h = ap suc (as_many fs xs (and_parts (fits (own_type x) t) (all_fit (own_types xs) (parts_of fs)) h).1)
as_many no_fields (x ∷ xs) h = absurd (false≢true h)
as_many (field_and s t fs) [] h = absurd (false≢true h)

-- ---- the operations, in the order of their tables

abbrev pub AllStayRight : Primitives → Type 0
AllStayRight [] = Unit {0}
AllStayRight ((name, p) ∷ rest) = ((os : List Object) → StaysRight (p os)) × AllStayRight rest

bools_right : AllStayRight bool_primitives
bools_right = search right depth 14

nulls_right : AllStayRight null_primitives
nulls_right = search right depth 14

routines_right : AllStayRight routine_primitives
routines_right = search right depth 14

ints_right : AllStayRight int_primitives
ints_right = search right depth 14 fits 4000

chars_right : AllStayRight char_primitives
chars_right = search right depth 14 fits 4000

strings_right : AllStayRight string_primitives
strings_right = search right depth 14 fits 4000

arrays_right : (t : CluType) → AllStayRight (array_primitives t)
arrays_right t = search (right, set_low_right, store_right, addh_right, addl_right, remh_right, reml_right, trim_right) depth 14 fits 4000

sequences_right : (t : CluType) → AllStayRight (sequence_primitives t)
sequences_right t = search right depth 14 fits 4000

streams_right : AllStayRight stream_primitives
streams_right = search right depth 14 fits 4000

structs_right : (s : List ℕ) → AllStayRight (struct_selected s)
structs_right s = search right depth 14

records_right : (s : List ℕ) → AllStayRight (record_selected s)
records_right s = search (right, set_right s) depth 14

record_right : AllStayRight record_primitives
record_right = search right depth 14

oneofs_right : (fs : Fields) (s : List ℕ) → AllStayRight (oneof_selected fs s)
oneofs_right fs s = search right depth 14

variants_right : (fs : Fields) (s : List ℕ) → AllStayRight (variant_selected fs s)
variants_right fs s = search right depth 14

variant_right : AllStayRight variant_primitives
variant_right = search right depth 14

joined_right : (ps qs : Primitives) → AllStayRight ps → AllStayRight qs → AllStayRight (ps ++ qs)
joined_right [] qs f g = g
joined_right ((name, p) ∷ ps) qs f g = (f.0, joined_right ps qs f.1 g)

each_right : (selected : List ℕ → Primitives) (fs : Fields) (own : Primitives) → ((s : List ℕ) → AllStayRight (selected s)) → AllStayRight own →
    AllStayRight (of_each selected fs own)
each_right selected no_fields own f g = g
each_right selected (field_and s t rest) own f g = joined_right (selected s) (of_each selected rest own) (f s) (each_right selected rest own f g)

all_right : (T : CluType) → AllStayRight (primitives T)
all_right null_type = nulls_right
all_right bool_type = bools_right
all_right int_type = ints_right
all_right char_type = chars_right
all_right string_type = strings_right
all_right any_type = tt
all_right stream_type = streams_right
all_right (array_of t) = arrays_right t
all_right (sequence_of t) = sequences_right t
all_right (record_of fs) = each_right record_selected fs record_primitives records_right record_right
all_right (struct_of fs) = each_right struct_selected fs [] structs_right tt
all_right (oneof_of fs) = each_right (oneof_selected fs) fs [] (oneofs_right fs) tt
all_right (variant_of fs) = each_right (variant_selected fs) fs variant_primitives (variants_right fs) variant_right
all_right (proc_of _ _ _) = routines_right
all_right (iter_of _ _ _) = routines_right
all_right (cluster_of _ _) = tt
all_right (parameter _) = tt

-- ---- whatever the type and the name

abbrev RightIfNamed : Option Primitive → Type 0
RightIfNamed None = Unit {0}
RightIfNamed (Some p) = (os : List Object) → StaysRight (p os)

chosen_right : (here : Bool) (p : Primitive) (others : Option Primitive) → ((os : List Object) → StaysRight (p os)) → RightIfNamed others →
    RightIfNamed (cond here (Some p) others)
chosen_right true p others f g = f
chosen_right false p others f g = g

named_right : (ps : Primitives) → AllStayRight ps → (op : List ℕ) → RightIfNamed (named ps op)
named_right [] h op = tt
named_right ((name, p) ∷ ps) h op = chosen_right (bytes_eq name op) p (named ps op) h.0 (named_right ps h.1 op)

-- ---- invocations and constructors, in any world

bound_right : (types : CluTypes) (os : List Object) (rest : Action) → (all_fit (own_types os) types ≡ true → StaysRight rest) → StaysRight (binds types os rest)
bound_right types os rest h = right_need _ _ (λ fit. right_takes _ _ (h fit))

invoked_right : (T : CluType) (heading : Operation) (p : Primitive) (os : List Object) → StaysRight (p os) → StaysRight (invoked T heading p os)
invoked_right T heading p os h = right_need _ _ (λ suit. right_takes _ _ (right_counts _ _ (right_and_then (p os) (gives_results heading.results) h
    (λ given. bound_right heading.results given (gives_all given) (λ fit. right_gives given)))))

invocation_right : (T : CluType) (op : List ℕ) (os : List Object) → StaysRight (invocation T op os)
invocation_right T op os = right_needed (operation T op) _ (λ heading e. right_needed (primitive T op) _ (λ p l.
    invoked_right T heading p os (subst RightIfNamed l (named_right (primitives T) (all_right T) op) os)))

outcome_right : (w : World) (o : Outcome) → RightIn o → RightIn (outcome_in w o)
outcome_right w (returned os made) h = h
outcome_right w (signalled name os made) h = h
outcome_right w wrong h = tt

done_right : (w : World) (action : Action) → StaysRight action → AllRight w.cells → RightIn (done_in w action)
unfolding done_in
done_right w action h r = outcome_right w (action (before w)) (h.at (before w) r)

pub prim_right : (T : CluType) (op : List ℕ) (os : List Object) (w : World) → AllRight w.cells → RightIn (prim T op os w)
unfolding prim
prim_right T op os w r = done_right w (invocation T op os) (invocation_right T op os) r

pub force_right : (t : CluType) (os : List Object) (w : World) → AllRight w.cells → RightIn (force t os w)
unfolding force
force_right t os w r = done_right w (force_invocation t os) (invoked_right any_type (force_heading t) (forcing t) os (search right)) r

making_right : (t : CluType) (low : ℤ) (xs : List Object) → StaysRight (makes_array t low xs)
making_right t low xs = search right

construction_right : (t : CluType) (low : ℤ) (xs : List Object) → StaysRight (array_construction t low xs)
construction_right t low xs = bound_right (same_for_each t xs) xs _ (λ fit. making_right t low xs)

pub make_array_right : (t : CluType) (low : ℤ) (xs : List Object) (w : World) → AllRight w.cells → RightIn (make_array t low xs w)
unfolding make_array
make_array_right t low xs w r = done_right w (array_construction t low xs) (construction_right t low xs) r

pub make_array_with_low_right : (t : CluType) (low : Object) (xs : List Object) (w : World) → AllRight w.cells → RightIn (make_array_with_low t low xs w)
unfolding make_array_with_low
make_array_with_low_right t low xs w r = done_right w (array_with_low t low xs) (right_int low _ (λ n. construction_right t n xs)) r

sequence_making_right : (t : CluType) (xs : List Object) → StaysRight (makes_sequence t xs)
sequence_making_right t xs = search right

pub make_sequence_right : (t : CluType) (xs : List Object) (w : World) → AllRight w.cells → RightIn (make_sequence t xs w)
unfolding make_sequence
make_sequence_right t xs w r = done_right w (sequence_construction t xs) (bound_right (same_for_each t xs) xs _ (λ fit. sequence_making_right t xs)) r

struct_making_right : (fs : Fields) (xs : List Object) → StaysRight (makes_struct fs xs)
struct_making_right fs xs = search right

pub make_struct_right : (fs : Fields) (xs : List Object) (w : World) → AllRight w.cells → RightIn (make_struct fs xs w)
unfolding make_struct
make_struct_right fs xs w r = done_right w (struct_construction fs xs) (bound_right (parts_of fs) xs _ (λ fit. struct_making_right fs xs)) r

record_making_right : (fs : Fields) (xs : List Object) → length xs ≡ selector_count fs → StaysRight (makes_record fs xs)
record_making_right fs xs count = search right

pub make_record_right : (fs : Fields) (xs : List Object) (w : World) → AllRight w.cells → RightIn (make_record fs xs w)
unfolding make_record
make_record_right fs xs w r = done_right w (record_construction fs xs) (bound_right (parts_of fs) xs _ (λ fit. record_making_right fs xs (as_many fs xs fit))) r
