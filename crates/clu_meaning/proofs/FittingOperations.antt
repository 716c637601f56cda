-- Primitive operations are fitting, for arguments that are typed and may be bound to the formals of the heading: the types
-- that have no selectors.
use Rattle.std.proofs.Common.{◌≡◌, refl, sym, ap, subst, ◌∙◌, arith, length-append, inl, inr}
use Rattle.std.proofs.lemmas.Bool.{false≢true, and_parts, or_cases, eqb-true, eqb-false}
use Rattle.std.specs.Prelude.{ℕ, ◌+◌, ◌*◌, ◌≤◌, max, nat_eq, pos, ◌+ℤ◌, ◌-ℤ◌, true, false, ◌&&◌, ◌||◌, List, [], ◌∷◌, ◌++◌, map, length, take, drop, replicate, Option, Some, None, codes}
use Rattle.clu_types.specs.CluType.{CluType, null_type, bool_type, int_type, char_type, string_type, stream_type, array_of, sequence_of, proc_of, iter_of, CluTypes, Signals}
use Rattle.clu_builtin.specs.Operation.{Operation}
use Rattle.clu_builtin.specs.Table.{operation}
use Rattle.clu_layout.specs.Objects.{Routine, Object, bool_object, char_object, Array, Cell, array_cell, own_type, own_types}
use Rattle.clu_layout.specs.SameType.{same_type, is_any, is_routine_type, has_more_signals, fits}
use Rattle.clu_layout.specs.Places.{count_of}
use Rattle.clu_layout.specs.Actions.{Action, Primitive, gives_nothing, with_sequence, changes_array}
use Rattle.clu_layout.specs.PlainOperations.{Primitives, same_cell, null_primitives, routine_primitives, bool_primitives}
use Rattle.clu_layout.specs.NumberOperations.{int_primitives, char_primitives}
use Rattle.clu_layout.specs.StringOperations.{string_s2ac, string_primitives}
use Rattle.clu_layout.specs.ArrayOperations.{array_create, array_new, array_predict, array_fill, array_size, array_low, array_high, array_empty, array_set_low, array_fetch, array_store, array_bottom, array_top, more_room, grows, array_addh, array_addl, array_remh, array_reml, array_trim, array_copy1, array_equal, array_primitives}
use Rattle.clu_layout.specs.SequenceOperations.{sequence_new, sequence_e2s, sequence_fill, sequence_size, sequence_empty, sequence_fetch, sequence_bottom, sequence_top, sequence_replace, sequence_addh, sequence_addl, sequence_remh, sequence_reml, sequence_concat, sequence_subseq, sequence_a2s, sequence_s2a, sequence_primitives}
use Rattle.clu_layout.specs.StreamOperations.{stream_primitives}
use Rattle.clu_layout.specs.Primitive.{may_be_argument, may_be_arguments}
use Rattle.clu_layout.proofs.SameTypeLaws.{types_are}
use Rattle.clu_layout.proofs.CellLaws.{kind_at, Longer}
use Rattle.clu_meaning.specs.Programs.{Program}
use Rattle.clu_meaning.specs.Typed.{IsTyped, AllTyped, CellFits}
use Rattle.clu_meaning.proofs.TypedFacts.{typed_on}
use Rattle.clu_meaning.proofs.TypedElements.{if_found, Is, Each, each_of, each_typed, each_fit, each_append, each_replicate, item_is, first_is, last_is, Held, stored_held, left_held, taken_held, less_first_held, less_last_held, each_char}
use Rattle.clu_meaning.proofs.FittingLaws.{Fitting, fitting_gives, fitting_signals_if, fitting_or_signals, fitting_either, fitting_or_fails, fitting_counts, fitting_takes, fitting_changes, fitting_none, fitting_one, fitting_two, fitting_three, suited_one, suited_two, suited_three, fitting_int, fitting_string, fitting_cell, fitting_sequence, fitting_array, fitting_new_array, fitting_new_sequence, fitting}

-- ---- what may be an argument

more_is_routine : (own wanted : CluType) → has_more_signals own wanted ≡ true → is_routine_type wanted ≡ true
more_is_routine (proc_of ts rs few) (proc_of ts' rs' many) h = refl
more_is_routine (iter_of ts rs few) (iter_of ts' rs' many) h = refl
more_is_routine _ _ h = absurd (false≢true h)

-- what is included in a type that is neither any nor a routine type is this type
included_is : (own wanted : CluType) → is_any wanted ≡ false → is_routine_type wanted ≡ false → fits own wanted ≡ true → own ≡ wanted
included_is own wanted any routine h = elim (or_cases (same_type own wanted || is_any wanted) (has_more_signals own wanted) h) as (λ _. own ≡ wanted) [
  | inl first ↦ elim (or_cases (same_type own wanted) (is_any wanted) first) as (λ _. own ≡ wanted)
      [ inl same ↦ types_are own wanted same | inr e ↦ absurd (false≢true (sym any ∙ e)) ]
  | inr more ↦ absurd (false≢true (sym routine ∙ more_is_routine own wanted more))
]

-- an argument of an operation of a type that is no routine type is included in its formal
pub suits_fits : (T own formal : CluType) → is_routine_type T ≡ false → may_be_argument T own formal ≡ true → fits own formal ≡ true
suits_fits T own formal routine h =
    elim (or_cases (fits own formal) (is_routine_type T && is_routine_type own && is_routine_type formal) h) as (λ _. fits own formal ≡ true) [
      | inl first ↦ first
      | inr all ↦ absurd (false≢true (sym routine ∙ (and_parts (is_routine_type T) (is_routine_type own) (and_parts (is_routine_type T && is_routine_type own) (is_routine_type formal) all).0).0))
    ]

pub argument_is : (T own formal : CluType) → is_routine_type T ≡ false → is_any formal ≡ false → is_routine_type formal ≡ false → may_be_argument T own formal ≡ true → own ≡ formal
argument_is T own formal routine any plain h = included_is own formal any plain (suits_fits T own formal routine h)

-- the type of the elements
abbrev element_of : CluType → CluType
element_of (array_of t) = t
element_of (sequence_of t) = t
element_of _ = null_type

module _ (program : Program) (lawful : Routine → Type 0) where
  -- ---- what is said of an operation, by its heading

  abbrev pub FitsHeaded : CluType → Option Operation → Primitive → Type 0
  FitsHeaded T None p = Unit {0}
  FitsHeaded T (Some heading) p = (base : List Cell) (os : List Object) → AllTyped program lawful base os → may_be_arguments T (own_types os) heading.args ≡ true → Fitting program lawful base (p os)

  -- each operation of the table, by the heading of its name
  abbrev pub AllFitting : CluType → (List ℕ → Option Operation) → Primitives → Type 0
  AllFitting T heading [] = Unit {0}
  AllFitting T heading ((name, p) ∷ rest) = FitsHeaded T (heading name) p × AllFitting T heading rest

  -- whatever the heading
  abbrev pub Always : Primitive → Type 0
  Always p = (base : List Cell) (os : List Object) → AllTyped program lawful base os → Fitting program lawful base (p os)

  abbrev AllAlways : Primitives → Type 0
  AllAlways [] = Unit {0}
  AllAlways ((name, p) ∷ rest) = Always p × AllAlways rest

  pub always_fits : (T : CluType) (h : Option Operation) (p : Primitive) → Always p → FitsHeaded T h p
  always_fits T None p f = tt
  always_fits T (Some heading) p f = λ base os t s. f base os t

  all_always : (T : CluType) (heading : List ℕ → Option Operation) (ps : Primitives) → AllAlways ps → AllFitting T heading ps
  all_always T heading [] f = tt
  all_always T heading ((name, p) ∷ rest) f = (always_fits T (heading name) p f.0, all_always T heading rest f.1)

  -- ---- tables in parts

  pub joined_fit : (T : CluType) (heading : List ℕ → Option Operation) (ps qs : Primitives) → AllFitting T heading ps → AllFitting T heading qs → AllFitting T heading (ps ++ qs)
  joined_fit T heading [] qs f g = g
  joined_fit T heading ((name, p) ∷ ps) qs f g = (f.0, joined_fit T heading ps qs f.1 g)

  joined_always : (ps qs : Primitives) → AllAlways ps → AllAlways qs → AllAlways (ps ++ qs)
  joined_always [] qs f g = g
  joined_always ((name, p) ∷ ps) qs f g = (f.0, joined_always ps qs f.1 g)

  -- ---- operations without elements

  pub same_cell_fits : Always same_cell
  same_cell_fits base os t = fitting_two program lawful base os _ t (λ a b ta tb. fitting_cell program lawful base a _ (λ c. fitting_cell program lawful base b _ (λ d.
      fitting_gives program lawful base (bool_object _ ∷ []) (tt, tt))))

  nulls_always : AllAlways null_primitives
  nulls_always = search fitting depth 14

  routines_always : AllAlways routine_primitives
  routines_always = search fitting depth 14

  bools_always : AllAlways bool_primitives
  bools_always = search fitting depth 14

  ints_always : AllAlways int_primitives
  ints_always = joined_always (take 7 int_primitives) (drop 7 int_primitives) (search fitting depth 14 fits 4000)
      (joined_always (take 5 (drop 7 int_primitives)) (drop 12 int_primitives) (search fitting depth 14 fits 4000) (search fitting depth 14 fits 4000))

  chars_always : AllAlways char_primitives
  chars_always = search fitting depth 14 fits 4000

  s2ac_fits : Always string_s2ac
  s2ac_fits base os t = fitting_one program lawful base os _ t (λ a typed. fitting_string program lawful base a _ (λ s. fitting_new_array program lawful base char_type (pos 1) (map char_object s) (each_char program lawful base s)))

  strings_always : AllAlways string_primitives
  strings_always = joined_always (take 7 string_primitives) (drop 7 string_primitives) (search fitting depth 14 fits 4000)
      (joined_always (take 6 (drop 7 string_primitives)) (drop 13 string_primitives) (search fitting depth 14 fits 4000) (search (fitting, s2ac_fits) depth 14 fits 4000))

  streams_always : AllAlways stream_primitives
  streams_always = search fitting depth 14 fits 4000

  pub nulls_fit : AllFitting null_type (operation null_type) null_primitives
  nulls_fit = all_always null_type (operation null_type) null_primitives nulls_always

  pub procs_fit : (args results : CluTypes) (ss : Signals) → AllFitting (proc_of args results ss) (operation (proc_of args results ss)) routine_primitives
  procs_fit args results ss = all_always (proc_of args results ss) (operation (proc_of args results ss)) routine_primitives routines_always

  pub iters_fit : (args results : CluTypes) (ss : Signals) → AllFitting (iter_of args results ss) (operation (iter_of args results ss)) routine_primitives
  iters_fit args results ss = all_always (iter_of args results ss) (operation (iter_of args results ss)) routine_primitives routines_always

  pub bools_fit : AllFitting bool_type (operation bool_type) bool_primitives
  bools_fit = all_always bool_type (operation bool_type) bool_primitives bools_always

  pub ints_fit : AllFitting int_type (operation int_type) int_primitives
  ints_fit = all_always int_type (operation int_type) int_primitives ints_always

  pub chars_fit : AllFitting char_type (operation char_type) char_primitives
  chars_fit = all_always char_type (operation char_type) char_primitives chars_always

  pub strings_fit : AllFitting string_type (operation string_type) string_primitives
  strings_fit = all_always string_type (operation string_type) string_primitives strings_always

  pub streams_fit : AllFitting stream_type (operation stream_type) stream_primitives
  streams_fit = all_always stream_type (operation stream_type) stream_primitives streams_always

  -- ---- arrays

  module _ (base : List Cell) (c : ℕ) where
    -- an array of these elements in the place of the one that there was
    changed_array : (a : Array) (rest : Action) → kind_at base c ≡ Some (array_of a.element) → Held program lawful base a.element a.room a.items →
        Fitting program lawful base rest → Fitting program lawful base (changes_array c a rest)
    changed_array a rest kind held f = fitting_or_fails program lawful base _ _ _ (λ bounds. fitting_changes program lawful base c (array_cell a) rest kind
        (each_typed program lawful base a.element a.items held.0, each_fit program lawful base a.element a.items held.0, bounds, held.1) f)

    full_grows : (n room longer : ℕ) → nat_eq n room ≡ true → longer ≡ n + 1 → longer ≤ max 4 (2 * room)
    full_grows n room longer full h = omega (arith, eqb-true n room full)

    free_grows : (n room longer : ℕ) → nat_eq n room ≡ false → n ≤ room → longer ≡ n + 1 → longer ≤ room
    free_grows n room longer free h k = omega (arith, eqb-false n room free)

    grown : (a b : Array) → kind_at base c ≡ Some (array_of b.element) → Each program lawful base b.element b.items → length b.items ≡ length a.items + 1 → b.room ≡ a.room →
        length a.items ≤ a.room → Fitting program lawful base (grows c a b)
    grown a b kind each longer same room = fitting_either program lawful base _ _ _
        (λ full. fitting_counts program lawful base _ _ (fitting_or_fails program lawful base _ _ _ (λ bounds. fitting_takes program lawful base _ _
        (fitting_changes program lawful base c (array_cell (record b { room = more_room a })) gives_nothing kind
        (each_typed program lawful base b.element b.items each, each_fit program lawful base b.element b.items each, bounds, full_grows (length a.items) a.room (length b.items) full longer)
        (fitting_gives program lawful base [] tt)))))
        (λ free. changed_array b gives_nothing kind
        (each, subst (λ n. length b.items ≤ n) (sym same) (free_grows (length a.items) a.room (length b.items) free room longer)) (fitting_gives program lawful base [] tt))

  held_in : (cells : List Cell) (a : Array) → CellFits program lawful cells (array_cell a) → Held program lawful cells a.element a.room a.items
  held_in cells a h = (each_of program lawful cells a.element a.items h.0 h.1, h.3)

  -- an object that fits where the type of the elements is wanted, in the cells of then
  is_element : (base cells : List Cell) (t u : CluType) (x : Object) → Longer base cells → t ≡ u → IsTyped program lawful base x → fits (own_type x) t ≡ true → Is program lawful cells u x
  is_element base cells t u x l e typed fit = (typed_on program lawful base cells l x typed, subst (λ v. fits (own_type x) v ≡ true) e fit)

  set_low_fits : Always array_set_low
  set_low_fits base os t = fitting_two program lawful base os _ t (λ r b tr tb. fitting_array program lawful base r _ tr (λ cells l c a kind is cell. fitting_int program lawful cells b _ (λ low.
      changed_array cells c (record a { low = low }) gives_nothing kind (held_in cells a cell) (fitting_gives program lawful cells [] tt))))

  fetch_fits : Always array_fetch
  fetch_fits base os t = fitting_two program lawful base os _ t (λ r b tr tb. fitting_array program lawful base r _ tr (λ cells l c a kind is cell. fitting_int program lawful cells b _ (λ i.
      fitting_or_signals program lawful cells _ _ _ (λ x e. fitting_gives program lawful cells (x ∷ [])
      ((if_found (Is program lawful cells a.element) _ x e (item_is program lawful cells a.element a.items (i -ℤ a.low) (held_in cells a cell).0)).0, tt)))))

  bottom_fits : Always array_bottom
  bottom_fits base os t = fitting_one program lawful base os _ t (λ r tr. fitting_array program lawful base r _ tr (λ cells l c a kind is cell. fitting_or_signals program lawful cells _ _ _ (λ x e.
      fitting_gives program lawful cells (x ∷ []) ((if_found (Is program lawful cells a.element) _ x e (first_is program lawful cells a.element a.items (held_in cells a cell).0)).0, tt))))

  top_fits : Always array_top
  top_fits base os t = fitting_one program lawful base os _ t (λ r tr. fitting_array program lawful base r _ tr (λ cells l c a kind is cell. fitting_or_signals program lawful cells _ _ _ (λ x e.
      fitting_gives program lawful cells (x ∷ []) ((if_found (Is program lawful cells a.element) _ x e (last_is program lawful cells a.element a.items (held_in cells a cell).0)).0, tt))))

  remh_fits : Always array_remh
  remh_fits base os t = fitting_one program lawful base os _ t (λ r tr. fitting_array program lawful base r _ tr (λ cells l c a kind is cell. fitting_or_signals program lawful cells _ _ _ (λ x e.
      fitting_or_signals program lawful cells _ _ _ (λ xs k. changed_array cells c (record a { items = xs }) _ kind
      (if_found (Held program lawful cells a.element a.room) _ xs k (less_last_held program lawful cells a.element a.room a.items (held_in cells a cell)))
      (fitting_gives program lawful cells (x ∷ []) ((if_found (Is program lawful cells a.element) _ x e (last_is program lawful cells a.element a.items (held_in cells a cell).0)).0, tt))))))

  reml_fits : Always array_reml
  reml_fits base os t = fitting_one program lawful base os _ t (λ r tr. fitting_array program lawful base r _ tr (λ cells l c a kind is cell. fitting_or_signals program lawful cells _ _ _ (λ x e.
      fitting_or_signals program lawful cells _ _ _ (λ xs k. changed_array cells c (record a { low = a.low +ℤ pos 1; items = xs }) _ kind
      (if_found (Held program lawful cells a.element a.room) _ xs k (less_first_held program lawful cells a.element a.room a.items (held_in cells a cell)))
      (fitting_gives program lawful cells (x ∷ []) ((if_found (Is program lawful cells a.element) _ x e (first_is program lawful cells a.element a.items (held_in cells a cell).0)).0, tt))))))

  trim_fits : Always array_trim
  trim_fits base os t = fitting_three program lawful base os _ t (λ r b d tr tb td. fitting_array program lawful base r _ tr (λ cells l c a kind is cell. fitting_int program lawful cells b _ (λ i. fitting_int program lawful cells d _ (λ n.
      fitting_signals_if program lawful cells _ _ _ (fitting_or_signals program lawful cells _ _ _ (λ rest e.
      changed_array cells c (record a { low = i; items = take (count_of n) rest }) gives_nothing kind
      (taken_held program lawful cells a.element a.room (count_of n) rest
      (if_found (Held program lawful cells a.element a.room) _ rest e (left_held program lawful cells a.element a.room a.items (i -ℤ a.low) (held_in cells a cell))))
      (fitting_gives program lawful cells [] tt)))))))

  copy1_fits : Always array_copy1
  copy1_fits base os t = fitting_one program lawful base os _ t (λ r tr. fitting_array program lawful base r _ tr (λ cells l c a kind is cell.
      fitting_new_array program lawful cells a.element a.low a.items (held_in cells a cell).0))

  size_fits : Always array_size
  size_fits base os t = search fitting

  low_fits : Always array_low
  low_fits base os t = search fitting

  high_fits : Always array_high
  high_fits base os t = search fitting

  empty_fits : Always array_empty
  empty_fits base os t = search fitting

  equal_fits : Always array_equal
  equal_fits = same_cell_fits

  module _ (t : CluType) where
    create_fits : Always (array_create t)
    create_fits base os typed = fitting_one program lawful base os _ typed (λ b tb. fitting_int program lawful base b _ (λ low. fitting_new_array program lawful base t low [] tt))

    new_fits : Always (array_new t)
    new_fits base os typed = fitting_none program lawful base os _ (fitting_new_array program lawful base t (pos 1) [] tt)

    predict_fits : Always (array_predict t)
    predict_fits base os typed = fitting_two program lawful base os _ typed (λ b n tb tn. fitting_int program lawful base b _ (λ low. fitting_new_array program lawful base t low [] tt))

    -- of these the element is bound to its formal

    of_array : (base : List Cell) (r : Object) (a : Array) → may_be_argument (array_of t) (own_type r) (array_of t) ≡ true → own_type r ≡ array_of a.element → t ≡ a.element
    of_array base r a suit is = ap element_of (sym (argument_is (array_of t) (own_type r) (array_of t) refl refl refl suit) ∙ is)

    fill_fits : FitsHeaded (array_of t) (operation (array_of t) (codes "fill")) (array_fill t)
    fill_fits base os typed suits = suited_three program lawful base (array_of t) int_type int_type t os _ typed suits (λ b c x tb tc tx sb sc sx. fitting_int program lawful base b _ (λ low. fitting_int program lawful base c _ (λ n.
        fitting_signals_if program lawful base _ _ _ (fitting_new_array program lawful base t low (replicate (count_of n) x)
        (each_replicate program lawful base t (count_of n) x (tx, suits_fits (array_of t) (own_type x) t refl sx))))))

    store_fits : FitsHeaded (array_of t) (operation (array_of t) (codes "store")) array_store
    store_fits base os typed suits = suited_three program lawful base (array_of t) (array_of t) int_type t os _ typed suits (λ r b x tr tb tx sr sb sx.
        fitting_array program lawful base r _ tr (λ cells l c a kind is cell. fitting_int program lawful cells b _ (λ i. fitting_or_signals program lawful cells _ _ _ (λ xs e.
        changed_array cells c (record a { items = xs }) gives_nothing kind
        (if_found (Held program lawful cells a.element a.room) _ xs e (stored_held program lawful cells a.element a.room a.items (i -ℤ a.low) x (held_in cells a cell)
        (is_element base cells t a.element x l (of_array base r a sr is) tx (suits_fits (array_of t) (own_type x) t refl sx))))
        (fitting_gives program lawful cells [] tt)))))

    addh_fits : FitsHeaded (array_of t) (operation (array_of t) (codes "addh")) array_addh
    addh_fits base os typed suits = suited_two program lawful base (array_of t) (array_of t) t os _ typed suits (λ r x tr tx sr sx.
        fitting_array program lawful base r _ tr (λ cells l c a kind is cell. grown cells c a (record a { items = a.items ++ x ∷ [] }) kind
        (each_append program lawful cells a.element a.items (x ∷ []) (held_in cells a cell).0
        (is_element base cells t a.element x l (of_array base r a sr is) tx (suits_fits (array_of t) (own_type x) t refl sx), tt))
        (length-append a.items (x ∷ [])) refl (held_in cells a cell).1))

    addl_fits : FitsHeaded (array_of t) (operation (array_of t) (codes "addl")) array_addl
    addl_fits base os typed suits = suited_two program lawful base (array_of t) (array_of t) t os _ typed suits (λ r x tr tx sr sx.
        fitting_array program lawful base r _ tr (λ cells l c a kind is cell. grown cells c a (record a { low = a.low -ℤ pos 1; items = x ∷ a.items }) kind
        (is_element base cells t a.element x l (of_array base r a sr is) tx (suits_fits (array_of t) (own_type x) t refl sx), (held_in cells a cell).0)
        (omega arith) refl (held_in cells a cell).1))

    pub arrays_fit : AllFitting (array_of t) (operation (array_of t)) (array_primitives t)
    arrays_fit = joined_fit (array_of t) (operation (array_of t)) (take 4 (array_primitives t)) (drop 4 (array_primitives t))
        (search (create_fits, new_fits, predict_fits, fill_fits) depth 14 fits 4000)
        (joined_fit (array_of t) (operation (array_of t)) (take 6 (drop 4 (array_primitives t))) (drop 10 (array_primitives t))
        (search (size_fits, low_fits, high_fits, empty_fits, set_low_fits, fetch_fits) depth 14 fits 4000)
        (joined_fit (array_of t) (operation (array_of t)) (take 5 (drop 10 (array_primitives t))) (drop 15 (array_primitives t))
        (search (store_fits, bottom_fits, top_fits, addh_fits, addl_fits) depth 14 fits 4000)
        (search (remh_fits, reml_fits, trim_fits, copy1_fits, equal_fits) depth 14 fits 4000)))

  -- ---- sequences

  same : (n : ℕ) → n ≤ n
  same n = omega arith

  sequence_size_fits : Always sequence_size
  sequence_size_fits base os t = search fitting

  sequence_empty_fits : Always sequence_empty
  sequence_empty_fits base os t = search fitting

  sequence_fetch_fits : Always sequence_fetch
  sequence_fetch_fits base os t = fitting_two program lawful base os _ t (λ s b ts tb. fitting_sequence program lawful base s _ ts (λ u xs is all fit. fitting_int program lawful base b _ (λ i.
      fitting_or_signals program lawful base _ _ _ (λ x e. fitting_gives program lawful base (x ∷ [])
      ((if_found (Is program lawful base u) _ x e (item_is program lawful base u xs (i -ℤ pos 1) (each_of program lawful base u xs all fit))).0, tt)))))

  sequence_bottom_fits : Always sequence_bottom
  sequence_bottom_fits base os t = fitting_one program lawful base os _ t (λ s ts. fitting_sequence program lawful base s _ ts (λ u xs is all fit. fitting_or_signals program lawful base _ _ _ (λ x e.
      fitting_gives program lawful base (x ∷ []) ((if_found (Is program lawful base u) _ x e (first_is program lawful base u xs (each_of program lawful base u xs all fit))).0, tt))))

  sequence_top_fits : Always sequence_top
  sequence_top_fits base os t = fitting_one program lawful base os _ t (λ s ts. fitting_sequence program lawful base s _ ts (λ u xs is all fit. fitting_or_signals program lawful base _ _ _ (λ x e.
      fitting_gives program lawful base (x ∷ []) ((if_found (Is program lawful base u) _ x e (last_is program lawful base u xs (each_of program lawful base u xs all fit))).0, tt))))

  module _ (t : CluType) where
    -- the elements of a sequence that is an argument
    opened : (base : List Cell) (s : Object) (rest : List Object → Action) → IsTyped program lawful base s → may_be_argument (sequence_of t) (own_type s) (sequence_of t) ≡ true →
        ((xs : List Object) → Each program lawful base t xs → Fitting program lawful base (rest xs)) → Fitting program lawful base (with_sequence s rest)
    opened base s rest typed suit h = fitting_sequence program lawful base s rest typed (λ u xs is all fit. h xs
        (subst (λ v. Each program lawful base v xs) (ap element_of (sym is ∙ argument_is (sequence_of t) (own_type s) (sequence_of t) refl refl refl suit)) (each_of program lawful base u xs all fit)))

    sequence_new_fits : Always (sequence_new t)
    sequence_new_fits base os typed = fitting_none program lawful base os _ (fitting_new_sequence program lawful base t [] tt)

    e2s_fits : FitsHeaded (sequence_of t) (operation (sequence_of t) (codes "e2s")) (sequence_e2s t)
    e2s_fits base os typed suits = suited_one program lawful base (sequence_of t) t os _ typed suits (λ x tx sx.
        fitting_new_sequence program lawful base t (x ∷ []) ((tx, suits_fits (sequence_of t) (own_type x) t refl sx), tt))

    sequence_fill_fits : FitsHeaded (sequence_of t) (operation (sequence_of t) (codes "fill")) (sequence_fill t)
    sequence_fill_fits base os typed suits = suited_two program lawful base (sequence_of t) int_type t os _ typed suits (λ b x tb tx sb sx. fitting_int program lawful base b _ (λ n.
        fitting_signals_if program lawful base _ _ _ (fitting_new_sequence program lawful base t (replicate (count_of n) x)
        (each_replicate program lawful base t (count_of n) x (tx, suits_fits (sequence_of t) (own_type x) t refl sx)))))

    replace_fits : FitsHeaded (sequence_of t) (operation (sequence_of t) (codes "replace")) (sequence_replace t)
    replace_fits base os typed suits = suited_three program lawful base (sequence_of t) (sequence_of t) int_type t os _ typed suits (λ s b x ts tb tx ss sb sx. opened base s _ ts ss (λ xs each.
        fitting_int program lawful base b _ (λ i. fitting_or_signals program lawful base _ _ _ (λ ys e. fitting_new_sequence program lawful base t ys
        (if_found (Held program lawful base t (length xs)) _ ys e
        (stored_held program lawful base t (length xs) xs (i -ℤ pos 1) x (each, same (length xs)) (tx, suits_fits (sequence_of t) (own_type x) t refl sx))).0))))

    sequence_addh_fits : FitsHeaded (sequence_of t) (operation (sequence_of t) (codes "addh")) (sequence_addh t)
    sequence_addh_fits base os typed suits = suited_two program lawful base (sequence_of t) (sequence_of t) t os _ typed suits (λ s x ts tx ss sx. opened base s _ ts ss (λ xs each.
        fitting_new_sequence program lawful base t (xs ++ x ∷ []) (each_append program lawful base t xs (x ∷ []) each ((tx, suits_fits (sequence_of t) (own_type x) t refl sx), tt))))

    sequence_addl_fits : FitsHeaded (sequence_of t) (operation (sequence_of t) (codes "addl")) (sequence_addl t)
    sequence_addl_fits base os typed suits = suited_two program lawful base (sequence_of t) (sequence_of t) t os _ typed suits (λ s x ts tx ss sx. opened base s _ ts ss (λ xs each.
        fitting_new_sequence program lawful base t (x ∷ xs) ((tx, suits_fits (sequence_of t) (own_type x) t refl sx), each)))

    sequence_remh_fits : FitsHeaded (sequence_of t) (operation (sequence_of t) (codes "remh")) (sequence_remh t)
    sequence_remh_fits base os typed suits = suited_one program lawful base (sequence_of t) (sequence_of t) os _ typed suits (λ s ts ss. opened base s _ ts ss (λ xs each.
        fitting_or_signals program lawful base _ _ _ (λ ys e. fitting_new_sequence program lawful base t ys
        (if_found (Held program lawful base t (length xs)) _ ys e (less_last_held program lawful base t (length xs) xs (each, same (length xs)))).0)))

    sequence_reml_fits : FitsHeaded (sequence_of t) (operation (sequence_of t) (codes "reml")) (sequence_reml t)
    sequence_reml_fits base os typed suits = suited_one program lawful base (sequence_of t) (sequence_of t) os _ typed suits (λ s ts ss. opened base s _ ts ss (λ xs each.
        fitting_or_signals program lawful base _ _ _ (λ ys e. fitting_new_sequence program lawful base t ys
        (if_found (Held program lawful base t (length xs)) _ ys e (less_first_held program lawful base t (length xs) xs (each, same (length xs)))).0)))

    concat_fits : FitsHeaded (sequence_of t) (operation (sequence_of t) (codes "concat")) (sequence_concat t)
    concat_fits base os typed suits = suited_two program lawful base (sequence_of t) (sequence_of t) (sequence_of t) os _ typed suits (λ a b ta tb sa sb. opened base a _ ta sa (λ xs f. opened base b _ tb sb (λ ys g.
        fitting_new_sequence program lawful base t (xs ++ ys) (each_append program lawful base t xs ys f g))))

    subseq_fits : FitsHeaded (sequence_of t) (operation (sequence_of t) (codes "subseq")) (sequence_subseq t)
    subseq_fits base os typed suits = suited_three program lawful base (sequence_of t) (sequence_of t) int_type int_type os _ typed suits (λ s b d ts tb td ss sb sd. opened base s _ ts ss (λ xs each.
        fitting_int program lawful base b _ (λ i. fitting_int program lawful base d _ (λ n. fitting_signals_if program lawful base _ _ _ (fitting_or_signals program lawful base _ _ _ (λ rest e.
        fitting_new_sequence program lawful base t (take (count_of n) rest) (taken_held program lawful base t (length xs) (count_of n) rest
        (if_found (Held program lawful base t (length xs)) _ rest e (left_held program lawful base t (length xs) xs (i -ℤ pos 1) (each, same (length xs))))).0))))))

    a2s_fits : FitsHeaded (sequence_of t) (operation (sequence_of t) (codes "a2s")) (sequence_a2s t)
    a2s_fits base os typed suits = suited_one program lawful base (sequence_of t) (array_of t) os _ typed suits (λ r tr sr. fitting_array program lawful base r _ tr (λ cells l c a kind is cell.
        fitting_new_sequence program lawful cells t a.items
        (subst (λ v. Each program lawful cells v a.items) (ap element_of (sym is ∙ argument_is (sequence_of t) (own_type r) (array_of t) refl refl refl sr)) (held_in cells a cell).0)))

    s2a_fits : FitsHeaded (sequence_of t) (operation (sequence_of t) (codes "s2a")) (sequence_s2a t)
    s2a_fits base os typed suits = suited_one program lawful base (sequence_of t) (sequence_of t) os _ typed suits (λ s ts ss. opened base s _ ts ss (λ xs each.
        fitting_new_array program lawful base t (pos 1) xs each))

    pub sequences_fit : AllFitting (sequence_of t) (operation (sequence_of t)) (sequence_primitives t)
    sequences_fit = joined_fit (sequence_of t) (operation (sequence_of t)) (take 4 (sequence_primitives t)) (drop 4 (sequence_primitives t))
        (search (sequence_new_fits, e2s_fits, sequence_fill_fits, sequence_size_fits) depth 14 fits 4000)
        (joined_fit (sequence_of t) (operation (sequence_of t)) (take 4 (drop 4 (sequence_primitives t))) (drop 8 (sequence_primitives t))
        (search (sequence_empty_fits, sequence_fetch_fits, sequence_bottom_fits, sequence_top_fits) depth 14 fits 4000)
        (joined_fit (sequence_of t) (operation (sequence_of t)) (take 4 (drop 8 (sequence_primitives t))) (drop 12 (sequence_primitives t))
        (search (replace_fits, sequence_addh_fits, sequence_addl_fits, sequence_remh_fits) depth 14 fits 4000)
        (search (sequence_reml_fits, concat_fits, subseq_fits, a2s_fits, s2a_fits) depth 14 fits 4000)))
