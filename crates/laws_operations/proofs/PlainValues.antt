-- Operations that are told by words alone.
use Rattle.std.proofs.Common.{◌≡◌, ℕ, Bool, true, false, not, ◌&&◌, ◌||◌, List, Some, refl, sym, subst}
use Rattle.std.specs.Prelude.{codes}
use Rattle.std.specs.Bool.{beq}
use Rattle.clu_types.specs.CluType.{CluType, no_types, type_and, bool_type}
use Rattle.clu_layout.specs.Objects.{Object}
use Rattle.clu_layout.specs.Actions.{World, gives, gives_bool}
use Rattle.clu_layout.specs.Actions as actions
use Rattle.clu_layout.specs.PlainOperations.{bool_not, copy_of_immutable, two_bools}
use Rattle.clu_wir.specs.Plain.{slot, word, binary}
use Rattle.clu_wir.specs.declared.expression.WOp.{WOp}
use Rattle.clu_wir.specs.declared.expression.WOp.TheVariants as op
use Rattle.clu_wir.specs.Value.{Value, View, Gives, value, meant, op_word}
use Rattle.clu_representation.specs.Layout.{Image, Layout}
use Rattle.clu_representation.specs.Shown.{bit}
use Rattle.laws_operations.specs.Comes.{Comes, InSlots}
use Rattle.laws_operations.specs.Rows.{Each, Right}
use Rattle.laws_operations.specs.PlainCodes.{bool_rows, copy_code, equal_code}
use Rattle.laws_operations.proofs.Arguments.{a_bool, both_bools, one_object}
use Rattle.laws_operations.proofs.Doing.{row_does}

-- an operation on the words of two slots
pub binary_is : (view : View) (o : WOp) (u v : ℕ) → view.slot 0 ≡ Some u → view.slot 1 ≡ Some v → value view (binary o (slot 0) (slot 1)) ≡ Gives (op_word o u v)
unfolding meant
binary_is view o u v p q = rw (p, q) refl

pub slot_is : (view : View) (u : ℕ) → view.slot 0 ≡ Some u → value view (slot 0) ≡ Gives u
unfolding meant
slot_is view u p = rw p refl

-- a bool is given
pub given_bool : (image : Image) (map : Layout) (t : Bool) (v : ℕ) (w : World) (value : Value) → value ≡ Gives v → v ≡ bit t →
    Comes image map (type_and bool_type no_types) (λ x. x ≡ w) (gives_bool t w) value
unfolding actions.gives_all
given_bool image map t v w value e f = subst (λ x. Comes image map (type_and bool_type no_types) (λ x. x ≡ w) (gives_bool t w) x) (sym e) (f, refl)

-- a copy of what never changes is the object itself
pub copies : (image : Image) (map : Layout) (view : View) (t : CluType) (os : List Object) (w : World) → InSlots image map view (type_and t no_types) 0 os →
    Comes image map (type_and t no_types) (λ x. x ≡ w) (copy_of_immutable os w) (value view copy_code)
unfolding actions.gives_all
copies image map view t os w h = one_object image map view (type_and t no_types) (λ x. x ≡ w) (value view copy_code) t gives os w h (λ o u p s.
    subst (λ x. Comes image map (type_and t no_types) (λ x. x ≡ w) (gives o w) x) (sym (slot_is view u p)) (s, refl))

-- ---- bool

and_words : (p q : Bool) → op_word op.And (bit p) (bit q) ≡ bit (p && q)
and_words true true = refl
and_words true false = refl
and_words false true = refl
and_words false false = refl

or_words : (p q : Bool) → op_word op.Or (bit p) (bit q) ≡ bit (p || q)
or_words true true = refl
or_words true false = refl
or_words false true = refl
or_words false false = refl

equal_words : (p q : Bool) → op_word op.Equal (bit p) (bit q) ≡ bit (beq p q)
equal_words true true = refl
equal_words true false = refl
equal_words false true = refl
equal_words false false = refl

not_word : (p : Bool) → op_word op.Xor (bit p) 1 ≡ bit (not p)
not_word true = refl
not_word false = refl

not_is : (view : View) (u : ℕ) → view.slot 0 ≡ Some u → value view (binary op.Xor (slot 0) (word 1)) ≡ Gives (op_word op.Xor u 1)
unfolding meant
not_is view u p = rw p refl

-- an operation of two bools whose word is that of the result
two_bools_right : (o : WOp) (f : Bool → Bool → Bool) → ((p q : Bool) → op_word o (bit p) (bit q) ≡ bit (f p q)) → (image : Image) (map : Layout) (view : View) (os : List Object) (v : World) →
    InSlots image map view (type_and bool_type (type_and bool_type no_types)) 0 os →
    Comes image map (type_and bool_type no_types) (λ x. x ≡ v) (two_bools os (λ p q. gives_bool (f p q)) v) (value view (binary o (slot 0) (slot 1)))
two_bools_right o f words image map view os v h =
    both_bools image map view (type_and bool_type no_types) (λ x. x ≡ v) (value view (binary o (slot 0) (slot 1))) (λ p q. gives_bool (f p q)) os v h (λ p q e g.
    given_bool image map (f p q) (op_word o (bit p) (bit q)) v (value view (binary o (slot 0) (slot 1))) (binary_is view o (bit p) (bit q) e g) (words p q))

-- the row of an operation of two bools
bools_row : (o : WOp) (f : Bool → Bool → Bool) → ((p q : Bool) → op_word o (bit p) (bit q) ≡ bit (f p q)) → (image : Image) (map : Layout) (view : View) (os : List Object) →
    InSlots image map view (type_and bool_type (type_and bool_type no_types)) 0 os → (v : World) →
    Comes image map (type_and bool_type no_types) (λ x. x ≡ v) (two_bools os (λ p q. gives_bool (f p q)) v) (value view (binary o (slot 0) (slot 1)))
bools_row o f words image map view os h v = two_bools_right o f words image map view os v h

nots : (image : Image) (map : Layout) (view : View) (os : List Object) → InSlots image map view (type_and bool_type no_types) 0 os → (v : World) →
    Comes image map (type_and bool_type no_types) (λ x. x ≡ v) (bool_not os v) (value view (binary op.Xor (slot 0) (word 1)))
nots image map view os h v =
    a_bool image map view (type_and bool_type no_types) (λ x. x ≡ v) (value view (binary op.Xor (slot 0) (word 1))) (λ p. gives_bool (not p)) os v h (λ p e.
    given_bool image map (not p) (op_word op.Xor (bit p) 1) v (value view (binary op.Xor (slot 0) (word 1))) (not_is view (bit p) e) (not_word p))

pub bools_right : Each (Right bool_type) bool_rows
bools_right = (
  λ image map view os w around h. row_does image map (value view (binary op.And (slot 0) (slot 1))) bool_type (codes "and") os w (bools_row op.And (λ p q. p && q) and_words image map view os h),
  (
    λ image map view os w around h. row_does image map (value view (binary op.Or (slot 0) (slot 1))) bool_type (codes "or") os w (bools_row op.Or (λ p q. p || q) or_words image map view os h),
    (
      λ image map view os w around h. row_does image map (value view (binary op.Xor (slot 0) (word 1))) bool_type (codes "not") os w (nots image map view os h),
      (
        λ image map view os w around h. row_does image map (value view equal_code) bool_type (codes "equal") os w (bools_row op.Equal beq equal_words image map view os h),
        (
          λ image map view os w around h. row_does image map (value view equal_code) bool_type (codes "similar") os w (bools_row op.Equal beq equal_words image map view os h),
          (
            λ image map view os w around h. row_does image map (value view copy_code) bool_type (codes "copy") os w (λ v. copies image map view bool_type os v h),
            tt,
          ),
        ),
      ),
    ),
  ),
)
