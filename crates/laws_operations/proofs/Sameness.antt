-- Objects that are told apart by their words alone: of null, streams, routines, and mutable objects.
use Rattle.std.proofs.Common.{◌≡◌, ℕ, Bool, true, false, ◌&&◌, ◌==◌, List, [], ◌∷◌, Some, refl, sym, ap, ◌∙◌, subst, arith}
use Rattle.std.specs.Prelude.{codes}
use Rattle.clu_types.specs.CluType.{CluType, CluTypes, Signals, no_types, type_and, null_type, bool_type, string_type, stream_type, array_of, record_of, variant_of, proc_of, iter_of}
use Rattle.clu_layout.specs.Objects.{Stream, Object, null_object, reference, routine_object, stream_object, input_stream, output_stream, own_type, own_types}
use Rattle.clu_layout.specs.SameType.{is_routine_type, same_routine}
use Rattle.clu_layout.specs.Actions.{World, gives, gives_all, gives_bool, with_cell, with_none, with_routine, with_stream, with_two}
use Rattle.clu_layout.specs.PlainOperations.{null_equal, routine_equal, same_cell}
use Rattle.clu_layout.specs.Primitive.{may_be_argument, may_be_arguments}
use Rattle.clu_layout.specs.StreamOperations.{same_stream, stream_equal, stream_primary}
use Rattle.clu_wir.specs.Plain.{word}
use Rattle.clu_wir.specs.declared.expression.WOp.TheVariants as op
use Rattle.clu_wir.specs.Value.{View, Gives, value, meant, op_word}
use Rattle.clu_representation.specs.Layout.{Image, IsReference, Layout}
use Rattle.clu_representation.specs.Shown.{At, Bare, bit, is_mutable, stream_number}
use Rattle.clu_representation.proofs.Apart.{same_cell_word, same_word_cell}
use Rattle.laws_operations.specs.Comes.{Comes, InSlots}
use Rattle.laws_operations.specs.Rows.{Each, Placed, Right}
use Rattle.laws_operations.specs.PlainCodes.{copy_code, equal_code, plain_rows, same_object_rows, stream_rows, string_rows}
use Rattle.laws_operations.proofs.Arguments.{as_cell, as_routine, as_stream, both_true, two_objects}
use Rattle.laws_operations.proofs.Doing.{row_does, row_does_for}
use Rattle.laws_operations.proofs.Orders.{bit_word}
use Rattle.laws_operations.proofs.PlainValues.{binary_is, copies, given_bool}
use Rattle.laws_operations.proofs.Results.{never}

-- equal words of two slots, where a bool says so
pub tells : (image : Image) (map : Layout) (view : View) (u v : ℕ) (t : Bool) (w : World) → view.slot 0 ≡ Some u → view.slot 1 ≡ Some v → (u == v) ≡ t →
    Comes image map (type_and bool_type no_types) (λ x. x ≡ w) (gives_bool t w) (value view equal_code)
tells image map view u v t w p q e = given_bool image map t (op_word op.Equal u v) w (value view equal_code) (binary_is view op.Equal u v p q) (bit_word (u == v) ∙ ap bit e)

-- ---- null has one object

no_null : (t : CluType) → is_mutable t ≡ true → may_be_argument null_type t null_type ≡ true → ⊥
no_null (array_of t) m e = never (sym e)
no_null (record_of fs) m e = never (sym e)
no_null (variant_of fs) m e = never (sym e)
no_null _ m e = never (sym m)

no_null_routine : (t : CluType) → is_routine_type t ≡ true → may_be_argument null_type t null_type ≡ true → ⊥
no_null_routine (proc_of ts rs ss) m e = never (sym e)
no_null_routine (iter_of ts rs ss) m e = never (sym e)
no_null_routine _ m e = never (sym m)

null_word : (image : Image) (map : Layout) (o : Object) (u : ℕ) → Bare image map o u → may_be_argument null_type (own_type o) null_type ≡ true → u ≡ 0
null_word image map null_object u h e = h
null_word image map (reference t c) u h e = absurd (no_null t h.0 e)
null_word image map (routine_object r heading) u h e = absurd (no_null_routine heading h.0 e)
null_word image map _ u h e = never (sym e)

zero_equal : (u v : ℕ) → u ≡ 0 → v ≡ 0 → (u == v) ≡ true
zero_equal u v e f = λ i. e i == f i

nulls_equal : (image : Image) (map : Layout) (view : View) (os : List Object) → InSlots image map view (type_and null_type (type_and null_type no_types)) 0 os →
    may_be_arguments null_type (own_types os) (type_and null_type (type_and null_type no_types)) ≡ true → (w : World) →
    Comes image map (type_and bool_type no_types) (λ x. x ≡ w) (null_equal os w) (value view equal_code)
unfolding with_two
nulls_equal image map view [] h e w = absurd h
nulls_equal image map view (a ∷ []) (k, h) e w = absurd h
nulls_equal image map view (a ∷ b ∷ []) ((u, p, k), ((v, q, l), h)) e w =
    let f = both_true (may_be_argument null_type (own_type a) null_type) (may_be_argument null_type (own_type b) null_type && true) e in
    let g = both_true (may_be_argument null_type (own_type b) null_type) true f.1 in
    tells image map view u v true w p q (zero_equal u v (null_word image map a u k f.0) (null_word image map b v l g.0))
nulls_equal image map view (a ∷ b ∷ c ∷ os) (k, (l, h)) e w = absurd h

pub nulls_right : Each (Right null_type) plain_rows
nulls_right = (
  λ image map view os w around h. row_does_for image map (value view equal_code) null_type (codes "equal") os w (λ fitting v same. nulls_equal image map view os h fitting v),
  (
    λ image map view os w around h. row_does_for image map (value view equal_code) null_type (codes "similar") os w (λ fitting v same. nulls_equal image map view os h fitting v),
    (
      λ image map view os w around h. row_does image map (value view copy_code) null_type (codes "copy") os w (λ v. copies image map view null_type os v h),
      tt,
    ),
  ),
)

-- ---- routines

module _ (image : Image) (placed : Placed image) (map : Layout) (view : View) (os : List Object) where
  routines_equal : (T : CluType) → InSlots image map view (type_and T (type_and T no_types)) 0 os → ((o : Object) (u : ℕ) → At image map T o u → Bare image map o u) → (w : World) →
      Comes image map (type_and bool_type no_types) (λ x. x ≡ w) (routine_equal os w) (value view equal_code)
  routines_equal T h bare w = two_objects image map view (type_and bool_type no_types) (λ x. x ≡ w) (value view equal_code) T T
      (λ a b. with_routine a (λ f. with_routine b (λ g. gives_bool (same_routine f g)))) os w h (λ a b u v p q k l.
      as_routine (λ out. Comes image map (type_and bool_type no_types) (λ x. x ≡ w) out (value view equal_code)) tt a (λ f. with_routine b (λ g. gives_bool (same_routine f g))) w (λ f s e.
      as_routine (λ out. Comes image map (type_and bool_type no_types) (λ x. x ≡ w) out (value view equal_code)) tt b (λ g. gives_bool (same_routine f g)) w (λ g t d.
      let m = subst (λ o. Bare image map o u) e (bare a u k) in
      let n = subst (λ o. Bare image map o v) d (bare b v l) in
      tells image map view u v (same_routine f g) w p q ((λ i. m.1.0 i == n.1.0 i) ∙ placed f g))))

pub procs_right : (args results : CluTypes) (signals : Signals) → Each (Right (proc_of args results signals)) plain_rows
procs_right args results signals = (
  λ image map view os w around h. row_does image map (value view equal_code) (proc_of args results signals) (codes "equal") os w (routines_equal image around.placed map view os (proc_of args results signals) h (λ o u k. k)),
  (
    λ image map view os w around h. row_does image map (value view equal_code) (proc_of args results signals) (codes "similar") os w (routines_equal image around.placed map view os (proc_of args results signals) h (λ o u k. k)),
    (
      λ image map view os w around h. row_does image map (value view copy_code) (proc_of args results signals) (codes "copy") os w (λ v. copies image map view (proc_of args results signals) os v h),
      tt,
    ),
  ),
)

pub iters_right : (args results : CluTypes) (signals : Signals) → Each (Right (iter_of args results signals)) plain_rows
iters_right args results signals = (
  λ image map view os w around h. row_does image map (value view equal_code) (iter_of args results signals) (codes "equal") os w (routines_equal image around.placed map view os (iter_of args results signals) h (λ o u k. k)),
  (
    λ image map view os w around h. row_does image map (value view equal_code) (iter_of args results signals) (codes "similar") os w (routines_equal image around.placed map view os (iter_of args results signals) h (λ o u k. k)),
    (
      λ image map view os w around h. row_does image map (value view copy_code) (iter_of args results signals) (codes "copy") os w (λ v. copies image map view (iter_of args results signals) os v h),
      tt,
    ),
  ),
)

-- ---- streams, and copies of strings

pub strings_right : Each (Right string_type) string_rows
strings_right = (λ image map view os w around h. row_does image map (value view copy_code) string_type (codes "copy") os w (λ v. copies image map view string_type os v h), tt)

pub word_value : (view : View) (n : ℕ) → value view (word n) ≡ Gives n
unfolding meant
word_value view n = refl

primary : (image : Image) (map : Layout) (view : View) (s : Stream) (os : List Object) → InSlots image map view no_types 0 os → (w : World) →
    Comes image map (type_and stream_type no_types) (λ x. x ≡ w) (stream_primary s os w) (value view (word (stream_number s)))
unfolding with_none gives_all
primary image map view s [] h w = subst (λ x. Comes image map (type_and stream_type no_types) (λ x. x ≡ w) (gives (stream_object s) w) x) (sym (word_value view (stream_number s))) (refl, refl)
primary image map view s (a ∷ os) h w = absurd h

same_streams : (s t : Stream) → (stream_number s == stream_number t) ≡ same_stream s t
same_streams input_stream input_stream = refl
same_streams input_stream output_stream = refl
same_streams output_stream input_stream = refl
same_streams output_stream output_stream = refl

streams_equal : (image : Image) (map : Layout) (view : View) (os : List Object) → InSlots image map view (type_and stream_type (type_and stream_type no_types)) 0 os → (w : World) →
    Comes image map (type_and bool_type no_types) (λ x. x ≡ w) (stream_equal os w) (value view equal_code)
streams_equal image map view os h w = two_objects image map view (type_and bool_type no_types) (λ x. x ≡ w) (value view equal_code) stream_type stream_type
    (λ a b. with_stream a (λ s. with_stream b (λ t. gives_bool (same_stream s t)))) os w h (λ a b u v p q k l.
    as_stream (λ out. Comes image map (type_and bool_type no_types) (λ x. x ≡ w) out (value view equal_code)) tt a (λ s. with_stream b (λ t. gives_bool (same_stream s t))) w (λ s e.
    as_stream (λ out. Comes image map (type_and bool_type no_types) (λ x. x ≡ w) out (value view equal_code)) tt b (λ t. gives_bool (same_stream s t)) w (λ t d.
    let m = subst (λ o. Bare image map o u) e k in
    let n = subst (λ o. Bare image map o v) d l in
    tells image map view u v (same_stream s t) w p q ((λ i. m i == n i) ∙ same_streams s t))))

pub streams_right : Each (Right stream_type) stream_rows
streams_right = (
  λ image map view os w around h. row_does image map (value view (word 0)) stream_type (codes "primary_input") os w (primary image map view input_stream os h),
  (
    λ image map view os w around h. row_does image map (value view (word 1)) stream_type (codes "primary_output") os w (primary image map view output_stream os h),
    (
      λ image map view os w around h. row_does image map (value view equal_code) stream_type (codes "equal") os w (streams_equal image map view os h),
      tt,
    ),
  ),
)

-- ---- mutable objects

same_addresses : (map : Layout) (t t' : CluType) (c d u v : ℕ) → IsReference map t c u → IsReference map t' d v → (u == v) ≡ (c == d)
same_addresses map t t' c d u v r s = by (u == v) (c == d) refl refl
  where
    by : (p q : Bool) → (u == v) ≡ p → (c == d) ≡ q → (u == v) ≡ (c == d)
    by true true e f = e ∙ sym f
    by false false e f = e ∙ sym f
    by true false e f = absurd (apart (same_word_cell map t t' c d u v r s (equal_of u v e)) f)
      where
        equal_of : (u v : ℕ) → (u == v) ≡ true → u ≡ v
        equal_of u v e = grind arith

        apart : c ≡ d → (c == d) ≡ false → ⊥
        apart g f = grind arith
    by false true e f = absurd (apart (same_cell_word map t t' c d u v r s (equal_of c d f)) e)
      where
        equal_of : (u v : ℕ) → (u == v) ≡ true → u ≡ v
        equal_of u v e = grind arith

        apart : u ≡ v → (u == v) ≡ false → ⊥
        apart g f = grind arith

pub cells_equal : (image : Image) (map : Layout) (view : View) (T : CluType) (os : List Object) → InSlots image map view (type_and T (type_and T no_types)) 0 os →
    ((o : Object) (u : ℕ) → At image map T o u → Bare image map o u) → (w : World) →
    Comes image map (type_and bool_type no_types) (λ x. x ≡ w) (same_cell os w) (value view equal_code)
cells_equal image map view T os h bare w = two_objects image map view (type_and bool_type no_types) (λ x. x ≡ w) (value view equal_code) T T
    (λ a b. with_cell a (λ c. with_cell b (λ d. gives_bool (c == d)))) os w h (λ a b u v p q k l.
    as_cell (λ out. Comes image map (type_and bool_type no_types) (λ x. x ≡ w) out (value view equal_code)) tt a (λ c. with_cell b (λ d. gives_bool (c == d))) w (λ s c e.
    as_cell (λ out. Comes image map (type_and bool_type no_types) (λ x. x ≡ w) out (value view equal_code)) tt b (λ d. gives_bool (c == d)) w (λ t d f.
    let m = subst (λ o. Bare image map o u) e (bare a u k) in
    let n = subst (λ o. Bare image map o v) f (bare b v l) in
    tells image map view u v (c == d) w p q (same_addresses map s t c d u v m.1 n.1))))

pub arrays_equal : (t : CluType) → Each (Right (array_of t)) same_object_rows
arrays_equal t = (λ image map view os w around h. row_does image map (value view equal_code) (array_of t) (codes "equal") os w (cells_equal image map view (array_of t) os h (λ o u k. k)), tt)
