-- What a typed object is, by its own type.
use Rattle.std.proofs.Common.{◌≡◌, ℕ, Bool, true, false, List, [], Option, None, Some, refl, sym, ap, ap₂, subst, ◌∙◌, inl, inr}
use Rattle.std.specs.Prelude.{ℤ, ◌||◌, slice_get, if◌then◌else◌}
use Rattle.std.specs.Option.{option_map}
use Rattle.std.proofs.lemmas.Bool.{false≢true, or_cases, or_left}
use Rattle.clu_types.specs.CluType.{CluType, bool_type, int_type, char_type, string_type, stream_type, array_of, sequence_of, record_of, struct_of, oneof_of, variant_of, proc_of, iter_of, cluster_of, CluTypes, Signals, Fields, no_fields, Actuals, no_actuals}
use Rattle.clu_builtin.specs.Operation.{Operation}
use Rattle.clu_builtin.specs.Table.{operation}
use Rattle.clu_layout.specs.Objects.{Stream, Routine, module_routine, operation_of, force_of, Object, null_object, bool_object, int_object, char_object, string_object, stream_object, sequence_object, struct_object, oneof_object, routine_object, reference, sealed, Objects, Cell, array_cell, record_cell, variant_cell, cell_type, own_type}
use Rattle.clu_layout.specs.SameType.{same_type, is_any, is_routine_type, has_more_signals, fits}
use Rattle.clu_layout.specs.Primitive.{heading_type}
use Rattle.clu_layout.proofs.SameTypeLaws.{types_are, type_same, fits_included}
use Rattle.clu_types.specs.Included.{Included}
use Rattle.clu_layout.proofs.CellLaws.{kind_at}
use Rattle.clu_meaning.specs.Programs.{Program}
use Rattle.clu_meaning.specs.Binding.{Running}
use Rattle.clu_meaning.specs.Operations.{routine_type, heading_of, defined, headed}
use Rattle.clu_meaning.specs.Typed.{IsTyped}

-- ---- inclusion in a type that is neither any nor a routine type

more_is_routine : (own wanted : CluType) → has_more_signals own wanted ≡ true → is_routine_type wanted ≡ true
more_is_routine (proc_of ts rs few) (proc_of ts' rs' many) h = refl
more_is_routine (iter_of ts rs few) (iter_of ts' rs' many) h = refl
more_is_routine _ _ h = absurd (false≢true h)

pub fits_itself : (t : CluType) → fits t t ≡ true
fits_itself t = or_left _ _ (or_left _ _ (type_same t))

-- what is included in a routine type is one
pub included_routine : (own wanted : CluType) → is_routine_type wanted ≡ true → fits own wanted ≡ true → is_routine_type own ≡ true
included_routine own wanted r h = by own wanted r (fits_included own wanted h)
  where
    by : (own wanted : CluType) → is_routine_type wanted ≡ true → Included own wanted → is_routine_type own ≡ true
    by own wanted r (inl e) = ap is_routine_type e ∙ r
    by (proc_of ts rs ss) (proc_of ts' rs' ss') r (inr n) = refl
    by (iter_of ts rs ss) (iter_of ts' rs' ss') r (inr n) = refl
    by _ (proc_of ts' rs' ss') r (inr n) = absurd n
    by _ (iter_of ts' rs' ss') r (inr n) = absurd n
    by own _ r (inr n) = absurd (false≢true r)

pub included_is : (own wanted : CluType) → is_any wanted ≡ false → is_routine_type wanted ≡ false → fits own wanted ≡ true → own ≡ wanted
included_is own wanted any routine h = elim (or_cases (same_type own wanted || is_any wanted) (has_more_signals own wanted) h) as (λ _. own ≡ wanted) [
  | inl first ↦ elim (or_cases (same_type own wanted) (is_any wanted) first) as (λ _. own ≡ wanted)
      [ inl same ↦ types_are own wanted same | inr e ↦ absurd (false≢true (sym any ∙ e)) ]
  | inr more ↦ absurd (false≢true (sym routine ∙ more_is_routine own wanted more))
]

-- ---- types that differ by a test

pub differ : (test : CluType → Bool) (a b : CluType) → test a ≡ false → test b ≡ true → a ≡ b → ⊥
differ test a b off on e = false≢true (sym off ∙ ap test e ∙ on)

-- ---- what is in a type

abbrev pub element_of : CluType → CluType
element_of (array_of t) = t
element_of (sequence_of t) = t
element_of t = t

abbrev pub fields_in : CluType → Fields
fields_in (struct_of fs) = fs
fields_in (record_of fs) = fs
fields_in (oneof_of fs) = fs
fields_in (variant_of fs) = fs
fields_in _ = no_fields

abbrev cluster_in : CluType → List ℕ
cluster_in (cluster_of c given) = c
cluster_in _ = []

abbrev actuals_in : CluType → Actuals
actuals_in (cluster_of c given) = given
actuals_in _ = no_actuals

-- ---- tests of types

abbrev is_int_type : CluType → Bool
is_int_type int_type = true
is_int_type _ = false

abbrev is_string_type : CluType → Bool
is_string_type string_type = true
is_string_type _ = false

abbrev is_bool_type : CluType → Bool
is_bool_type bool_type = true
is_bool_type _ = false

abbrev is_char_type : CluType → Bool
is_char_type char_type = true
is_char_type _ = false

abbrev is_stream_type : CluType → Bool
is_stream_type stream_type = true
is_stream_type _ = false

abbrev is_sequence_type : CluType → Bool
is_sequence_type (sequence_of t) = true
is_sequence_type _ = false

abbrev is_struct_type : CluType → Bool
is_struct_type (struct_of fs) = true
is_struct_type _ = false

abbrev is_oneof_type : CluType → Bool
is_oneof_type (oneof_of fs) = true
is_oneof_type _ = false

abbrev is_cluster_type : CluType → Bool
is_cluster_type (cluster_of c given) = true
is_cluster_type _ = false

abbrev pub is_cell_type : CluType → Bool
is_cell_type (array_of t) = true
is_cell_type (record_of fs) = true
is_cell_type (variant_of fs) = true
is_cell_type _ = false

-- what is a routine type or that of a cell passes no test that none of these pass
pub off_routine : (test : CluType → Bool) → ((ts rs : CluTypes) (ss : Signals) → test (proc_of ts rs ss) ≡ false) → ((ts rs : CluTypes) (ss : Signals) → test (iter_of ts rs ss) ≡ false) →
    (t : CluType) → is_routine_type t ≡ true → test t ≡ false
off_routine test f g (proc_of ts rs ss) e = f ts rs ss
off_routine test f g (iter_of ts rs ss) e = g ts rs ss
off_routine test f g _ e = absurd (false≢true e)

pub off_cell : (test : CluType → Bool) → ((t : CluType) → test (array_of t) ≡ false) → ((fs : Fields) → test (record_of fs) ≡ false) → ((fs : Fields) → test (variant_of fs) ≡ false) →
    (t : CluType) → is_cell_type t ≡ true → test t ≡ false
off_cell test f g h (array_of t) e = f t
off_cell test f g h (record_of fs) e = g fs
off_cell test f g h (variant_of fs) e = h fs
off_cell test f g h _ e = absurd (false≢true e)

cell_is : (cell : Cell) → is_cell_type (cell_type cell) ≡ true
cell_is (array_cell a) = refl
cell_is (record_cell fs os) = refl
cell_is (variant_cell fs tag o) = refl

abbrev Holds : (CluType → Bool) → Option CluType → Type 0
Holds test (Some t) = test t ≡ true
Holds test None = Unit {0}

kinds_are : (found : Option Cell) → Holds is_cell_type (option_map cell_type found)
kinds_are (Some cell) = cell_is cell
kinds_are None = tt

heading_is : (h : Operation) (b : Bool) → h.iter ≡ b → is_routine_type (heading_type h) ≡ true
heading_is h true e = ap (λ b. is_routine_type (if b then iter_of h.args h.results h.signals else proc_of h.args h.results h.signals)) e
heading_is h false e = ap (λ b. is_routine_type (if b then iter_of h.args h.results h.signals else proc_of h.args h.results h.signals)) e

built_are : (found : Option Operation) → Holds is_routine_type (option_map heading_type found)
built_are (Some h) = heading_is h h.iter refl
built_are None = tt

typed_is : (b : Bool) (ts rs : CluTypes) (ss : Signals) → is_routine_type (routine_type b ts rs ss) ≡ true
typed_is true ts rs ss = refl
typed_is false ts rs ss = refl

run_are : (found : Option Running) → Holds is_routine_type (option_map heading_of found)
run_are (Some r) = typed_is r.definition.is_iterator _ _ _
run_are None = tt

headed_are : (program : Program) (lawful : Routine → Type 0) (r : Routine) → Holds is_routine_type (headed program r)
headed_are program lawful (module_routine m given) = run_are (defined program (module_routine m given))
headed_are program lawful (operation_of (cluster_of c given) op) = run_are (defined program (operation_of (cluster_of c given) op))
headed_are program lawful (operation_of T op) = built_are (operation T op)
headed_are program lawful (force_of t) = refl

module _ (program : Program) (lawful : Routine → Type 0) (cells : List Cell) where
  pub routine_heading : (r : Routine) (heading : CluType) → headed program r ≡ Some heading → is_routine_type heading ≡ true
  routine_heading r heading e = subst (Holds is_routine_type) e (headed_are program lawful r)

  pub reference_kind : (t : CluType) (c : ℕ) → option_map cell_type (slice_get cells c) ≡ Some t → is_cell_type t ≡ true
  reference_kind t c e = subst (Holds is_cell_type) e (kinds_are (slice_get cells c))

  pub int_is : (o : Object) → IsTyped program lawful cells o → own_type o ≡ int_type → (n : ℤ) × (o ≡ int_object n)
  int_is (int_object n) h e = (n, refl)
  int_is (routine_object r heading) h e = absurd (differ is_int_type heading int_type (off_routine is_int_type (λ ts rs ss. refl) (λ ts rs ss. refl) heading (routine_heading r heading h.0)) refl e)
  int_is (reference t c) h e = absurd (differ is_int_type t int_type (off_cell is_int_type (λ t. refl) (λ fs. refl) (λ fs. refl) t (reference_kind t c h)) refl e)
  int_is null_object h e = absurd (differ is_int_type _ _ refl refl e)
  int_is (bool_object b) h e = absurd (differ is_int_type _ _ refl refl e)
  int_is (char_object c) h e = absurd (differ is_int_type _ _ refl refl e)
  int_is (string_object s) h e = absurd (differ is_int_type _ _ refl refl e)
  int_is (stream_object s) h e = absurd (differ is_int_type _ _ refl refl e)
  int_is (sequence_object t os) h e = absurd (differ is_int_type _ _ refl refl e)
  int_is (struct_object fs os) h e = absurd (differ is_int_type _ _ refl refl e)
  int_is (oneof_object fs tag x) h e = absurd (differ is_int_type _ _ refl refl e)
  int_is (sealed c given x) h e = absurd (differ is_int_type _ _ refl refl e)

  pub bool_is : (o : Object) → IsTyped program lawful cells o → own_type o ≡ bool_type → (b : Bool) × (o ≡ bool_object b)
  bool_is (bool_object b) h e = (b, refl)
  bool_is (routine_object r heading) h e = absurd (differ is_bool_type heading bool_type (off_routine is_bool_type (λ ts rs ss. refl) (λ ts rs ss. refl) heading (routine_heading r heading h.0)) refl e)
  bool_is (reference t c) h e = absurd (differ is_bool_type t bool_type (off_cell is_bool_type (λ t. refl) (λ fs. refl) (λ fs. refl) t (reference_kind t c h)) refl e)
  bool_is null_object h e = absurd (differ is_bool_type _ _ refl refl e)
  bool_is (int_object n) h e = absurd (differ is_bool_type _ _ refl refl e)
  bool_is (char_object c) h e = absurd (differ is_bool_type _ _ refl refl e)
  bool_is (string_object s) h e = absurd (differ is_bool_type _ _ refl refl e)
  bool_is (stream_object s) h e = absurd (differ is_bool_type _ _ refl refl e)
  bool_is (sequence_object t os) h e = absurd (differ is_bool_type _ _ refl refl e)
  bool_is (struct_object fs os) h e = absurd (differ is_bool_type _ _ refl refl e)
  bool_is (oneof_object fs tag x) h e = absurd (differ is_bool_type _ _ refl refl e)
  bool_is (sealed c given x) h e = absurd (differ is_bool_type _ _ refl refl e)

  pub string_is : (o : Object) → IsTyped program lawful cells o → own_type o ≡ string_type → (s : List ℕ) × (o ≡ string_object s)
  string_is (string_object s) h e = (s, refl)
  string_is (routine_object r heading) h e = absurd (differ is_string_type heading string_type (off_routine is_string_type (λ ts rs ss. refl) (λ ts rs ss. refl) heading (routine_heading r heading h.0)) refl e)
  string_is (reference t c) h e = absurd (differ is_string_type t string_type (off_cell is_string_type (λ t. refl) (λ fs. refl) (λ fs. refl) t (reference_kind t c h)) refl e)
  string_is null_object h e = absurd (differ is_string_type _ _ refl refl e)
  string_is (int_object n) h e = absurd (differ is_string_type _ _ refl refl e)
  string_is (char_object c) h e = absurd (differ is_string_type _ _ refl refl e)
  string_is (bool_object b) h e = absurd (differ is_string_type _ _ refl refl e)
  string_is (stream_object s) h e = absurd (differ is_string_type _ _ refl refl e)
  string_is (sequence_object t os) h e = absurd (differ is_string_type _ _ refl refl e)
  string_is (struct_object fs os) h e = absurd (differ is_string_type _ _ refl refl e)
  string_is (oneof_object fs tag x) h e = absurd (differ is_string_type _ _ refl refl e)
  string_is (sealed c given x) h e = absurd (differ is_string_type _ _ refl refl e)

  pub char_is : (o : Object) → IsTyped program lawful cells o → own_type o ≡ char_type → (c : ℕ) × (o ≡ char_object c)
  char_is (char_object c) h e = (c, refl)
  char_is (routine_object r heading) h e = absurd (differ is_char_type heading char_type (off_routine is_char_type (λ ts rs ss. refl) (λ ts rs ss. refl) heading (routine_heading r heading h.0)) refl e)
  char_is (reference t c) h e = absurd (differ is_char_type t char_type (off_cell is_char_type (λ t. refl) (λ fs. refl) (λ fs. refl) t (reference_kind t c h)) refl e)
  char_is o h e = absurd (differ is_char_type (own_type o) char_type refl refl e)

  pub stream_is : (o : Object) → IsTyped program lawful cells o → own_type o ≡ stream_type → (s : Stream) × (o ≡ stream_object s)
  stream_is (stream_object s) h e = (s, refl)
  stream_is (routine_object r heading) h e = absurd (differ is_stream_type heading stream_type (off_routine is_stream_type (λ ts rs ss. refl) (λ ts rs ss. refl) heading (routine_heading r heading h.0)) refl e)
  stream_is (reference t c) h e = absurd (differ is_stream_type t stream_type (off_cell is_stream_type (λ t. refl) (λ fs. refl) (λ fs. refl) t (reference_kind t c h)) refl e)
  stream_is o h e = absurd (differ is_stream_type (own_type o) stream_type refl refl e)

  pub sequence_is : (o : Object) (t : CluType) → IsTyped program lawful cells o → own_type o ≡ sequence_of t → (xs : Objects) × (o ≡ sequence_object t xs)
  sequence_is (sequence_object u xs) t h e = (xs, ap (λ v. sequence_object v xs) (ap element_of e))
  sequence_is (routine_object r heading) t h e = absurd (differ is_sequence_type heading (sequence_of t) (off_routine is_sequence_type (λ ts rs ss. refl) (λ ts rs ss. refl) heading (routine_heading r heading h.0)) refl e)
  sequence_is (reference u c) t h e = absurd (differ is_sequence_type u (sequence_of t) (off_cell is_sequence_type (λ t. refl) (λ fs. refl) (λ fs. refl) u (reference_kind u c h)) refl e)
  sequence_is o t h e = absurd (differ is_sequence_type (own_type o) (sequence_of t) refl refl e)

  pub struct_is : (o : Object) (fs : Fields) → IsTyped program lawful cells o → own_type o ≡ struct_of fs → (xs : Objects) × (o ≡ struct_object fs xs)
  struct_is (struct_object gs xs) fs h e = (xs, ap (λ hs. struct_object hs xs) (ap fields_in e))
  struct_is (routine_object r heading) fs h e = absurd (differ is_struct_type heading (struct_of fs) (off_routine is_struct_type (λ ts rs ss. refl) (λ ts rs ss. refl) heading (routine_heading r heading h.0)) refl e)
  struct_is (reference u c) fs h e = absurd (differ is_struct_type u (struct_of fs) (off_cell is_struct_type (λ t. refl) (λ fs. refl) (λ fs. refl) u (reference_kind u c h)) refl e)
  struct_is o fs h e = absurd (differ is_struct_type (own_type o) (struct_of fs) refl refl e)

  pub oneof_is : (o : Object) (fs : Fields) → IsTyped program lawful cells o → own_type o ≡ oneof_of fs → (tag : List ℕ) × (x : Object) × (o ≡ oneof_object fs tag x)
  oneof_is (oneof_object gs tag x) fs h e = (tag, x, ap (λ hs. oneof_object hs tag x) (ap fields_in e))
  oneof_is (routine_object r heading) fs h e = absurd (differ is_oneof_type heading (oneof_of fs) (off_routine is_oneof_type (λ ts rs ss. refl) (λ ts rs ss. refl) heading (routine_heading r heading h.0)) refl e)
  oneof_is (reference u c) fs h e = absurd (differ is_oneof_type u (oneof_of fs) (off_cell is_oneof_type (λ t. refl) (λ fs. refl) (λ fs. refl) u (reference_kind u c h)) refl e)
  oneof_is o fs h e = absurd (differ is_oneof_type (own_type o) (oneof_of fs) refl refl e)

  -- what is of a cluster instance's type is sealed by it
  pub sealed_is : (o : Object) (cluster : List ℕ) (given : Actuals) → IsTyped program lawful cells o → own_type o ≡ cluster_of cluster given → (x : Object) × (o ≡ sealed cluster given x)
  sealed_is (sealed c put x) cluster given h e = (x, ap₂ (λ d xs. sealed d xs x) (ap cluster_in e) (ap actuals_in e))
  sealed_is (routine_object r heading) cluster given h e = absurd (differ is_cluster_type heading (cluster_of cluster given) (off_routine is_cluster_type (λ ts rs ss. refl) (λ ts rs ss. refl) heading (routine_heading r heading h.0)) refl e)
  sealed_is (reference u c) cluster given h e = absurd (differ is_cluster_type u (cluster_of cluster given) (off_cell is_cluster_type (λ t. refl) (λ fs. refl) (λ fs. refl) u (reference_kind u c h)) refl e)
  sealed_is o cluster given h e = absurd (differ is_cluster_type (own_type o) (cluster_of cluster given) refl refl e)

  -- what is of a mutable type is a reference to a cell of this type
  pub reference_is : (o : Object) (t : CluType) → is_cell_type t ≡ true → IsTyped program lawful cells o → own_type o ≡ t → (c : ℕ) × (o ≡ reference t c) × (kind_at cells c ≡ Some t)
  reference_is (reference u c) t k h e = (c, ap (λ v. reference v c) e, h ∙ ap Some e)
  reference_is (routine_object r heading) t k h e = absurd (false≢true (sym (off_routine is_cell_type (λ ts rs ss. refl) (λ ts rs ss. refl) heading (routine_heading r heading h.0)) ∙ ap is_cell_type e ∙ k))
  reference_is o t k h e = absurd (false≢true (ap is_cell_type e ∙ k))

  -- what is of a routine type is a routine object
  pub routine_is : (o : Object) → IsTyped program lawful cells o → is_routine_type (own_type o) ≡ true → (r : Routine) × (o ≡ routine_object r (own_type o)) × (headed program r ≡ Some (own_type o)) × lawful r
  routine_is (routine_object r heading) h e = (r, refl, h.0, h.1)
  routine_is (reference t c) h e = absurd (false≢true (sym (off_cell is_routine_type (λ t. refl) (λ fs. refl) (λ fs. refl) t (reference_kind t c h)) ∙ e))
  routine_is _ h e = absurd (false≢true e)
