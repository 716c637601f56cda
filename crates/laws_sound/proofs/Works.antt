-- Primitive operations give objects of their headings' results, for arguments of its formals: no case that applies is missing.
-- What the parts of operations say of this.
use Rattle.std.proofs.Common.{◌≡◌, refl, sym, ap, subst}
use Rattle.std.proofs.lemmas.Bool.{false≢true, and_parts, and_from}
use Rattle.std.specs.Prelude.{ℕ, ℤ, Bool, true, false, List, [], ◌∷◌, slice_get, Option, Some, None}
use Rattle.std.specs.Option.{option_map}
use Rattle.clu_types.specs.CluType.{CluType, null_type, bool_type, int_type, char_type, string_type, stream_type, array_of, sequence_of, record_of, struct_of, oneof_of, variant_of, CluTypes, no_types, Fields}
use Rattle.clu_builtin.specs.Operation.{one, two, three}
use Rattle.clu_builtin.specs.declared.names.Signal.{Signal}
use Rattle.clu_layout.specs.Objects.{Stream, input_stream, output_stream, Routine, Object, string_object, sequence_object, struct_object, oneof_object, listed, inside, Array, Cell, array_cell, record_cell, variant_cell, cell_type, own_type, own_types}
use Rattle.clu_layout.specs.SameType.{is_routine_type, fits, all_fit}
use Rattle.clu_layout.specs.StreamOperations.{reads, leaves, writes}
use Rattle.clu_layout.specs.Actions.{World, Outcome, returned, signalled, wrong, Action, gives_all, signals_with, signals_if, or_signals, either, or_fails, need, needed, counts, takes, with_none, with_one, with_two, with_three, with_int, with_bool, with_char, with_string, with_stream, with_routine, with_sequence, with_struct, with_oneof, with_cell, as_array, as_record, as_variant, with_array, with_record, with_variant, makes, changes, new_array, new_sequence, new_struct, new_record, new_oneof, new_variant}
use Rattle.clu_layout.proofs.CellLaws.{Longer, longer_refl}
use Rattle.clu_meaning.specs.Programs.{Program}
use Rattle.clu_meaning.specs.Typed.{type_of_selector, fits_in, IsTyped, AllTyped, CellFits, EachFits}
use Rattle.clu_meaning.proofs.FittingLaws.{cell_found}
use Rattle.clu_meaning.proofs.TypedElements.{listed_typed, Each, each_of, Parts, parts_from}
use Rattle.laws_sound.proofs.Shapes.{fits_itself, included_is, is_cell_type, element_of, fields_in, int_is, bool_is, string_is, char_is, stream_is, sequence_is, struct_is, oneof_is, reference_is, routine_is}

abbrev pub Done : CluTypes → Outcome → Type 0
Done results (returned os w) = all_fit (own_types os) results ≡ true
Done results (signalled name os w) = Unit {0}
Done results wrong = ⊥

module _ (program : Program) (lawful : Routine → Type 0) (base : List Cell) (results : CluTypes) where
  pub record Works (action : Action) : Type 0 where
    pub at : (w : World) → EachFits program lawful w.cells w.cells → Longer base w.cells → Done results (action w)

  pub works_gives : (os : List Object) → all_fit (own_types os) results ≡ true → Works (gives_all os)
  unfolding gives_all
  works_gives os h = record { at = λ w e l. h }

  pub works_signals : (name : List ℕ) (os : List Object) → Works (signals_with name os)
  unfolding signals_with
  works_signals name os = record { at = λ w e l. tt }

  pub works_signals_if : (s : Signal) (b : Bool) (rest : Action) → (b ≡ false → Works rest) → Works (signals_if s b rest)
  unfolding signals_if
  works_signals_if s true rest h = works_signals _ []
  works_signals_if s false rest h = h refl

  pub works_or_signals : {A : Type 0} (s : Signal) (found : Option A) (rest : A → Action) → ((x : A) → found ≡ Some x → Works (rest x)) → Works (or_signals s found rest)
  unfolding or_signals
  works_or_signals s None rest h = works_signals _ []
  works_or_signals s (Some x) rest h = h x refl

  pub works_either : (b : Bool) (first second : Action) → Works first → Works second → Works (either b first second)
  unfolding either
  works_either true first second f g = f
  works_either false first second f g = g

  pub works_or_fails : (text : List ℕ) (b : Bool) (rest : Action) → Works rest → Works (or_fails text b rest)
  unfolding or_fails
  works_or_fails text true rest h = h
  works_or_fails text false rest h = works_signals _ (string_object text ∷ [])

  pub works_need : (b : Bool) (rest : Action) → b ≡ true → Works rest → Works (need b rest)
  unfolding need
  works_need true rest e h = h
  works_need false rest e h = absurd (false≢true e)

  pub works_needed : {A : Type 0} (found : Option A) (rest : A → Action) (x : A) → found ≡ Some x → Works (rest x) → Works (needed found rest)
  unfolding needed
  works_needed found rest x e h = subst (λ o. Works (needed o rest)) (sym e) h

  pub works_counts : (n : ℕ) (rest : Action) → Works rest → Works (counts n rest)
  unfolding counts
  works_counts n rest h = record { at = λ w e l. h.at _ e l }

  pub works_takes : (n : ℕ) (rest : Action) → Works rest → Works (takes n rest)
  unfolding takes
  works_takes n rest h = record { at = λ w e l. h.at _ e l }

  pub works_leaves : (left : List ℕ) (rest : Action) → Works rest → Works (leaves left rest)
  unfolding leaves
  works_leaves left rest h = record { at = λ w e l. h.at _ e l }

  pub works_reads : (s : Stream) (rest : List ℕ → Action) → ((left : List ℕ) → Works (rest left)) → Works (reads s rest)
  unfolding reads
  works_reads input_stream rest h = record { at = λ w e l. (h w.input).at w e l }
  works_reads output_stream rest h = record { at = λ w e l. (works_signals _ (string_object _ ∷ [])).at w e l }

  pub works_writes : (s : Stream) (bytes : List ℕ) → all_fit no_types results ≡ true → Works (writes s bytes)
  unfolding writes
  works_writes input_stream bytes h = record { at = λ w e l. (works_signals _ (string_object _ ∷ [])).at w e l }
  works_writes output_stream bytes h = record { at = λ w e l. (works_gives [] h).at _ e l }

  -- ---- cells are made and changed

  pub works_makes : (cell : Cell) → all_fit (one (cell_type cell)) results ≡ true → Works (makes cell)
  unfolding makes
  works_makes cell h = record { at = λ w e l. h }

  -- what is given then doesn't depend on the cells
  pub works_changes : (c : ℕ) (cell : Cell) (os : List Object) → all_fit (own_types os) results ≡ true → Works (changes c cell (gives_all os))
  unfolding changes gives_all
  works_changes c cell os h = record { at = λ w e l. h }

  -- ---- arguments of the formals

  pub works_none : (os : List Object) (rest : Action) → all_fit (own_types os) no_types ≡ true → Works rest → Works (with_none os rest)
  unfolding with_none
  works_none [] rest s h = h
  works_none (a ∷ os) rest s h = absurd (false≢true s)

  pub works_one : (u : CluType) (os : List Object) (rest : Object → Action) → AllTyped program lawful base os → all_fit (own_types os) (one u) ≡ true →
      ((a : Object) → IsTyped program lawful base a → fits (own_type a) u ≡ true → Works (rest a)) → Works (with_one os rest)
  unfolding with_one
  works_one u (a ∷ []) rest t s h = h a t.0 (and_parts (fits (own_type a) u) true s).0
  works_one u [] rest t s h = absurd (false≢true s)
  works_one u (a ∷ b ∷ os) rest t s h = absurd (false≢true (and_parts (fits (own_type a) u) false s).1)

  pub works_two : (u v : CluType) (os : List Object) (rest : Object → Object → Action) → AllTyped program lawful base os → all_fit (own_types os) (two u v) ≡ true →
      ((a b : Object) → IsTyped program lawful base a → IsTyped program lawful base b → fits (own_type a) u ≡ true → fits (own_type b) v ≡ true → Works (rest a b)) → Works (with_two os rest)
  unfolding with_two
  works_two u v (a ∷ b ∷ []) rest t s h =
      let first = and_parts (fits (own_type a) u) (all_fit (own_types (b ∷ [])) (one v)) s in
      h a b t.0 t.1.0 first.0 (and_parts (fits (own_type b) v) true first.1).0
  works_two u v [] rest t s h = absurd (false≢true s)
  works_two u v (a ∷ []) rest t s h = absurd (false≢true (and_parts (fits (own_type a) u) false s).1)
  works_two u v (a ∷ b ∷ c ∷ os) rest t s h = absurd (false≢true (and_parts (fits (own_type b) v) false (and_parts (fits (own_type a) u) (all_fit (own_types (b ∷ c ∷ os)) (one v)) s).1).1)

  pub works_three : (u v x : CluType) (os : List Object) (rest : Object → Object → Object → Action) → AllTyped program lawful base os → all_fit (own_types os) (three u v x) ≡ true →
      ((a b c : Object) → IsTyped program lawful base a → IsTyped program lawful base b → IsTyped program lawful base c → fits (own_type a) u ≡ true → fits (own_type b) v ≡ true → fits (own_type c) x ≡ true → Works (rest a b c)) →
      Works (with_three os rest)
  unfolding with_three
  works_three u v x (a ∷ b ∷ c ∷ []) rest t s h =
      let first = and_parts (fits (own_type a) u) (all_fit (own_types (b ∷ c ∷ [])) (two v x)) s in
      let second = and_parts (fits (own_type b) v) (all_fit (own_types (c ∷ [])) (one x)) first.1 in
      h a b c t.0 t.1.0 t.1.1.0 first.0 second.0 (and_parts (fits (own_type c) x) true second.1).0
  works_three u v x [] rest t s h = absurd (false≢true s)
  works_three u v x (a ∷ []) rest t s h = absurd (false≢true (and_parts (fits (own_type a) u) false s).1)
  works_three u v x (a ∷ b ∷ []) rest t s h = absurd (false≢true (and_parts (fits (own_type b) v) false (and_parts (fits (own_type a) u) (all_fit (own_types (b ∷ [])) (two v x)) s).1).1)
  works_three u v x (a ∷ b ∷ c ∷ d ∷ os) rest t s h = absurd (false≢true (and_parts (fits (own_type c) x) false
      (and_parts (fits (own_type b) v) (all_fit (own_types (c ∷ d ∷ os)) (one x)) (and_parts (fits (own_type a) u) (all_fit (own_types (b ∷ c ∷ d ∷ os)) (two v x)) s).1).1).1)

  -- ---- what is in an argument

  pub works_int : (o : Object) (rest : ℤ → Action) → IsTyped program lawful base o → fits (own_type o) int_type ≡ true → ((n : ℤ) → Works (rest n)) → Works (with_int o rest)
  unfolding with_int
  works_int o rest t s h =
      let is = int_is program lawful base o t (included_is (own_type o) int_type refl refl s) in
      subst (λ x. Works (with_int x rest)) (sym is.1) (h is.0)

  pub works_bool : (o : Object) (rest : Bool → Action) → IsTyped program lawful base o → fits (own_type o) bool_type ≡ true → ((b : Bool) → Works (rest b)) → Works (with_bool o rest)
  unfolding with_bool
  works_bool o rest t s h =
      let is = bool_is program lawful base o t (included_is (own_type o) bool_type refl refl s) in
      subst (λ x. Works (with_bool x rest)) (sym is.1) (h is.0)

  pub works_char : (o : Object) (rest : ℕ → Action) → IsTyped program lawful base o → fits (own_type o) char_type ≡ true → ((c : ℕ) → Works (rest c)) → Works (with_char o rest)
  unfolding with_char
  works_char o rest t s h =
      let is = char_is program lawful base o t (included_is (own_type o) char_type refl refl s) in
      subst (λ x. Works (with_char x rest)) (sym is.1) (h is.0)

  pub works_string : (o : Object) (rest : List ℕ → Action) → IsTyped program lawful base o → fits (own_type o) string_type ≡ true → ((s : List ℕ) → Works (rest s)) → Works (with_string o rest)
  unfolding with_string
  works_string o rest t s h =
      let is = string_is program lawful base o t (included_is (own_type o) string_type refl refl s) in
      subst (λ x. Works (with_string x rest)) (sym is.1) (h is.0)

  pub works_stream : (o : Object) (rest : Stream → Action) → IsTyped program lawful base o → fits (own_type o) stream_type ≡ true → ((s : Stream) → Works (rest s)) → Works (with_stream o rest)
  unfolding with_stream
  works_stream o rest t s h =
      let is = stream_is program lawful base o t (included_is (own_type o) stream_type refl refl s) in
      subst (λ x. Works (with_stream x rest)) (sym is.1) (h is.0)

  pub works_routine : (o : Object) (rest : Routine → Action) → IsTyped program lawful base o → is_routine_type (own_type o) ≡ true → ((r : Routine) → Works (rest r)) → Works (with_routine o rest)
  unfolding with_routine
  works_routine o rest t s h =
      let is = routine_is program lawful base o t s in
      subst (λ x. Works (with_routine x rest)) (sym is.1) (h is.0)

  -- the elements of a sequence
  pub works_sequence : (o : Object) (t : CluType) (rest : List Object → Action) → IsTyped program lawful base o → fits (own_type o) (sequence_of t) ≡ true →
      ((xs : List Object) → Each program lawful base t xs → Works (rest xs)) → Works (with_sequence o rest)
  unfolding with_sequence
  works_sequence o t rest h s k =
      let is = sequence_is program lawful base o t h (included_is (own_type o) (sequence_of t) refl refl s) in
      let typed : IsTyped program lawful base (sequence_object t is.0) = subst (IsTyped program lawful base) is.1 h in
      subst (λ x. Works (with_sequence x rest)) (sym is.1) (k (listed is.0) (each_of program lawful base t (listed is.0) (listed_typed program lawful base is.0 typed.0) typed.1))

  -- the components of a struct
  pub works_struct : (o : Object) (fs : Fields) (rest : Fields → List Object → Action) → IsTyped program lawful base o → fits (own_type o) (struct_of fs) ≡ true →
      ((xs : List Object) → Parts program lawful base fs xs → Works (rest fs xs)) → Works (with_struct o rest)
  unfolding with_struct
  works_struct o fs rest h s k =
      let is = struct_is program lawful base o fs h (included_is (own_type o) (struct_of fs) refl refl s) in
      let typed : IsTyped program lawful base (struct_object fs is.0) = subst (IsTyped program lawful base) is.1 h in
      subst (λ x. Works (with_struct x rest)) (sym is.1) (k (listed is.0) (parts_from program lawful base fs (listed is.0) (listed_typed program lawful base is.0 typed.0) typed.1))

  -- the tag of a oneof, and what it holds
  pub works_oneof : (o : Object) (fs : Fields) (rest : List ℕ → Object → Action) → IsTyped program lawful base o → fits (own_type o) (oneof_of fs) ≡ true →
      ((tag : List ℕ) (x : Object) → IsTyped program lawful base x → fits_in (type_of_selector fs tag) x ≡ true → Works (rest tag x)) → Works (with_oneof o rest)
  unfolding with_oneof
  works_oneof o fs rest h s k =
      let is = oneof_is program lawful base o fs h (included_is (own_type o) (oneof_of fs) refl refl s) in
      let typed : IsTyped program lawful base (oneof_object fs is.0 is.1) = subst (IsTyped program lawful base) is.2 h in
      subst (λ x. Works (with_oneof x rest)) (sym is.2) (k is.0 is.1 typed.0 typed.1)

  -- a mutable object, by its cell
  pub works_cell : (o : Object) (t : CluType) (rest : ℕ → Action) → is_cell_type t ≡ true → IsTyped program lawful base o → own_type o ≡ t → ((c : ℕ) → Works (rest c)) → Works (with_cell o rest)
  unfolding with_cell
  works_cell o t rest k h e f =
      let is = reference_is program lawful base o t k h e in
      subst (λ x. Works (with_cell x rest)) (sym is.1) (f is.0)

-- ---- mutable objects are found in the cells of then

-- the type in an answer that is there
abbrev type_in : Option CluType → CluType
type_in (Some t) = t
type_in None = null_type

none_some : {A : Type 0} {x : A} → None ≡ Some x → ⊥
none_some e = subst is_none e tt
  where
    is_none : {A : Type 0} → Option A → Type 0
    is_none None = Unit {0}
    is_none (Some x) = ⊥

abbrev is_array_type : CluType → Bool
is_array_type (array_of t) = true
is_array_type _ = false

abbrev is_record_type : CluType → Bool
is_record_type (record_of fs) = true
is_record_type _ = false

abbrev is_variant_type : CluType → Bool
is_variant_type (variant_of fs) = true
is_variant_type _ = false

module _ (program : Program) (lawful : Routine → Type 0) (base : List Cell) (results : CluTypes) where
  array_done : (w : World) (t : CluType) (c : ℕ) (rest : Array → Action) → EachFits program lawful w.cells w.cells → (found : Option Cell) → slice_get w.cells c ≡ found → option_map cell_type found ≡ Some (array_of t) →
      ((a : Array) → a.element ≡ t → Each program lawful w.cells t a.items → Works program lawful w.cells results (rest a)) → Done results (as_array found rest w)
  unfolding as_array
  array_done w t c rest e (Some (array_cell a)) is k h =
      let cell : CellFits program lawful w.cells (array_cell a) = cell_found program lawful w.cells w.cells c (array_cell a) e is in
      let same : a.element ≡ t = ap (λ found. element_of (type_in found)) k in
      (h a same (subst (λ v. Each program lawful w.cells v a.items) same (each_of program lawful w.cells a.element a.items cell.0 cell.1))).at w e (longer_refl w.cells)
  array_done w t c rest e (Some (record_cell fs xs)) is k h = absurd (false≢true (ap (λ found. is_array_type (type_in found)) k))
  array_done w t c rest e (Some (variant_cell fs tag x)) is k h = absurd (false≢true (ap (λ found. is_array_type (type_in found)) k))
  array_done w t c rest e None is k h = absurd (none_some k)

  pub works_array : (o : Object) (t : CluType) (rest : ℕ → Array → Action) → IsTyped program lawful base o → fits (own_type o) (array_of t) ≡ true →
      ((cells : List Cell) → Longer base cells → (c : ℕ) (a : Array) → a.element ≡ t → Each program lawful cells t a.items → Works program lawful cells results (rest c a)) → Works program lawful base results (with_array o rest)
  unfolding with_array with_cell
  works_array o t rest h s k =
      let is = reference_is program lawful base o (array_of t) refl h (included_is (own_type o) (array_of t) refl refl s) in
      subst (λ x. Works program lawful base results (with_array x rest)) (sym is.1)
      (record { at = λ w e l. array_done w t is.0 (rest is.0) e (slice_get w.cells is.0) refl (l.at is.0 (array_of t) is.2) (k w.cells l is.0) })

  record_done : (w : World) (fs : Fields) (c : ℕ) (rest : Fields → List Object → Action) → EachFits program lawful w.cells w.cells → (found : Option Cell) → slice_get w.cells c ≡ found → option_map cell_type found ≡ Some (record_of fs) →
      ((xs : List Object) → Parts program lawful w.cells fs xs → Works program lawful w.cells results (rest fs xs)) → Done results (as_record found rest w)
  unfolding as_record
  record_done w fs c rest e (Some (record_cell gs xs)) is k h =
      let cell : CellFits program lawful w.cells (record_cell gs xs) = cell_found program lawful w.cells w.cells c (record_cell gs xs) e is in
      let same : gs ≡ fs = ap (λ found. fields_in (type_in found)) k in
      subst (λ hs. Done results (rest hs xs w)) (sym same)
      ((h xs (subst (λ hs. Parts program lawful w.cells hs xs) same (parts_from program lawful w.cells gs xs cell.0 cell.1))).at w e (longer_refl w.cells))
  record_done w fs c rest e (Some (array_cell a)) is k h = absurd (false≢true (ap (λ found. is_record_type (type_in found)) k))
  record_done w fs c rest e (Some (variant_cell gs tag x)) is k h = absurd (false≢true (ap (λ found. is_record_type (type_in found)) k))
  record_done w fs c rest e None is k h = absurd (none_some k)

  pub works_record : (o : Object) (fs : Fields) (rest : ℕ → Fields → List Object → Action) → IsTyped program lawful base o → fits (own_type o) (record_of fs) ≡ true →
      ((cells : List Cell) → Longer base cells → (c : ℕ) (xs : List Object) → Parts program lawful cells fs xs → Works program lawful cells results (rest c fs xs)) → Works program lawful base results (with_record o rest)
  unfolding with_record with_cell
  works_record o fs rest h s k =
      let is = reference_is program lawful base o (record_of fs) refl h (included_is (own_type o) (record_of fs) refl refl s) in
      subst (λ x. Works program lawful base results (with_record x rest)) (sym is.1)
      (record { at = λ w e l. record_done w fs is.0 (rest is.0) e (slice_get w.cells is.0) refl (l.at is.0 (record_of fs) is.2) (k w.cells l is.0) })

  variant_done : (w : World) (fs : Fields) (c : ℕ) (rest : Fields → List ℕ → Object → Action) → EachFits program lawful w.cells w.cells → (found : Option Cell) → slice_get w.cells c ≡ found → option_map cell_type found ≡ Some (variant_of fs) →
      ((tag : List ℕ) (x : Object) → IsTyped program lawful w.cells x → fits_in (type_of_selector fs tag) x ≡ true → Works program lawful w.cells results (rest fs tag x)) → Done results (as_variant found rest w)
  unfolding as_variant
  variant_done w fs c rest e (Some (variant_cell gs tag x)) is k h =
      let cell : CellFits program lawful w.cells (variant_cell gs tag x) = cell_found program lawful w.cells w.cells c (variant_cell gs tag x) e is in
      let same : gs ≡ fs = ap (λ found. fields_in (type_in found)) k in
      subst (λ hs. Done results (rest hs tag x w)) (sym same)
      ((h tag x cell.0 (subst (λ hs. fits_in (type_of_selector hs tag) x ≡ true) same cell.1)).at w e (longer_refl w.cells))
  variant_done w fs c rest e (Some (array_cell a)) is k h = absurd (false≢true (ap (λ found. is_variant_type (type_in found)) k))
  variant_done w fs c rest e (Some (record_cell gs xs)) is k h = absurd (false≢true (ap (λ found. is_variant_type (type_in found)) k))
  variant_done w fs c rest e None is k h = absurd (none_some k)

  pub works_variant : (o : Object) (fs : Fields) (rest : ℕ → Fields → List ℕ → Object → Action) → IsTyped program lawful base o → fits (own_type o) (variant_of fs) ≡ true →
      ((cells : List Cell) → Longer base cells → (c : ℕ) (tag : List ℕ) (x : Object) → IsTyped program lawful cells x → fits_in (type_of_selector fs tag) x ≡ true → Works program lawful cells results (rest c fs tag x)) →
      Works program lawful base results (with_variant o rest)
  unfolding with_variant with_cell
  works_variant o fs rest h s k =
      let is = reference_is program lawful base o (variant_of fs) refl h (included_is (own_type o) (variant_of fs) refl refl s) in
      subst (λ x. Works program lawful base results (with_variant x rest)) (sym is.1)
      (record { at = λ w e l. variant_done w fs is.0 (rest is.0) e (slice_get w.cells is.0) refl (l.at is.0 (variant_of fs) is.2) (k w.cells l is.0) })

-- ---- objects of one type are given

module _ (program : Program) (lawful : Routine → Type 0) (base : List Cell) where
  one_fits : (t : CluType) → all_fit (one t) (one t) ≡ true
  one_fits t = and_from (fits t t) true (fits_itself t) refl

  -- what is given as it is
  pub works_same : (t : CluType) (o : Object) → fits (own_type o) t ≡ true → Works program lawful base (one t) (gives_all (o ∷ []))
  works_same t o h = works_gives program lawful base (one t) (o ∷ []) (and_from (fits (own_type o) t) true h refl)

  pub works_new_array : (t u : CluType) (low : ℤ) (xs : List Object) → u ≡ t → Works program lawful base (one (array_of t)) (new_array u low xs)
  works_new_array t u low xs e = works_or_fails program lawful base (one (array_of t)) _ _ _ (works_counts program lawful base (one (array_of t)) _ _ (works_takes program lawful base (one (array_of t)) _ _
      (works_makes program lawful base (one (array_of t)) _ (subst (λ v. all_fit (one (array_of u)) (one (array_of v)) ≡ true) e (one_fits (array_of u))))))

  pub works_new_sequence : (t : CluType) (xs : List Object) → Works program lawful base (one (sequence_of t)) (new_sequence t xs)
  works_new_sequence t xs = works_counts program lawful base (one (sequence_of t)) _ _ (works_takes program lawful base (one (sequence_of t)) _ _ (works_gives program lawful base (one (sequence_of t)) (sequence_object t (inside xs) ∷ []) (one_fits (sequence_of t))))

  pub works_new_struct : (fs : Fields) (xs : List Object) → Works program lawful base (one (struct_of fs)) (new_struct fs xs)
  works_new_struct fs xs = works_counts program lawful base (one (struct_of fs)) _ _ (works_takes program lawful base (one (struct_of fs)) _ _ (works_gives program lawful base (one (struct_of fs)) (struct_object fs (inside xs) ∷ []) (one_fits (struct_of fs))))

  pub works_new_record : (fs : Fields) (xs : List Object) → Works program lawful base (one (record_of fs)) (new_record fs xs)
  works_new_record fs xs = works_counts program lawful base (one (record_of fs)) _ _ (works_takes program lawful base (one (record_of fs)) _ _ (works_makes program lawful base (one (record_of fs)) (record_cell fs xs) (one_fits (record_of fs))))

  pub works_new_oneof : (fs : Fields) (tag : List ℕ) (x : Object) → Works program lawful base (one (oneof_of fs)) (new_oneof fs tag x)
  works_new_oneof fs tag x = works_takes program lawful base (one (oneof_of fs)) _ _ (works_gives program lawful base (one (oneof_of fs)) (oneof_object fs tag x ∷ []) (one_fits (oneof_of fs)))

  pub works_new_variant : (fs : Fields) (tag : List ℕ) (x : Object) → Works program lawful base (one (variant_of fs)) (new_variant fs tag x)
  works_new_variant fs tag x = works_takes program lawful base (one (variant_of fs)) _ _ (works_makes program lawful base (one (variant_of fs)) (variant_cell fs tag x) (one_fits (variant_of fs)))

pub ruleset working = (works_same, works_gives, works_signals, works_signals_if, works_or_signals, works_counts, works_takes, works_leaves, works_reads, works_writes, works_int, works_bool, works_char, works_string, works_stream, works_routine)
