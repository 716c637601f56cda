-- What is shown stays shown.
use Rattle.std.proofs.Common.{ℕ, suc, ◌+◌, ◌*◌, ◌/◌, ◌%◌, true, false, List, [], ◌∷◌, Bool, Option, None, Some, refl, ap, ◌∙◌}
use Rattle.clu_types.specs.CluType.{CluType, Fields, no_fields, field_and}
use Rattle.clu_layout.specs.SameType.{is_any}
use Rattle.clu_layout.specs.Objects.{Object, null_object, bool_object, int_object, char_object, string_object, stream_object, sequence_object, struct_object, oneof_object, routine_object, reference, sealed, Objects, no_objects, object_and, own_type}
use Rattle.clu_representation.specs.Layout.{Image, Layout, Extends}
use Rattle.clu_representation.specs.Shown.{At, Bare, BoxedIf, Bytes, Kept, KeptIf, Parts, Row, byte_in, type_of_field}

bytes_on : (a b : Layout) → Extends a b → (first n : ℕ) (bs : List ℕ) → Bytes a first n bs → Bytes b first n bs
bytes_on a b e first n [] h = tt
bytes_on a b e first n (c ∷ cs) (h, more) =
    let f = e.fixed_stay (first + 8 * (n / 8)) (a.word (first + 8 * (n / 8))) (record { whose = h.whose; is = refl }) in
    (record { whose = f.whose; is = ap (λ v. byte_in v (n % 8)) f.is ∙ h.is }, bytes_on a b e first (suc n) cs more)

boxed_on : (image : Image) (a b : Layout) → Extends a b → (boxed : Bool) (own : CluType) (P Q : ℕ → Type 0) → ((v : ℕ) → P v → Q v) → (w : ℕ) → BoxedIf image a boxed own P w → BoxedIf image b boxed own Q w
boxed_on image a b e true own P Q f w (number, (v, there, h)) = (e.fixed_stay w _ number, (v, e.fixed_stay (w + 8) v there, f v h))
boxed_on image a b e false own P Q f w h = f w h

kept_on : (image : Image) (a b : Layout) → Extends a b → (P Q : ℕ → Type 0) → ((v : ℕ) → P v → Q v) → (at : ℕ) → Kept image a P at → Kept image b Q at
kept_on image a b e P Q f at (v, there, h) = (v, e.fixed_stay at v there, f v h)

kept_if_on : (image : Image) (a b : Layout) → Extends a b → (t : Option CluType) (P Q : CluType → ℕ → Type 0) → ((t : CluType) (v : ℕ) → P t v → Q t v) → (at : ℕ) → KeptIf image a t P at → KeptIf image b t Q at
kept_if_on image a b e None P Q f at h = h
kept_if_on image a b e (Some t) P Q f at h = kept_on image a b e (P t) (Q t) (f t) at h

module _ (image : Image) (a b : Layout) (e : Extends a b) where
  mutual
    bare_on : (o : Object) (w : ℕ) → Bare image a o w → Bare image b o w
    bare_on null_object w h = h
    bare_on (bool_object x) w h = h
    bare_on (int_object n) w h = h
    bare_on (char_object c) w h = h
    bare_on (string_object bytes) w h = record { size = e.fixed_stay w _ h.size; bytes_are = bytes_on a b e (w + 8) 0 bytes h.bytes_are }
    bare_on (stream_object s) w h = h
    bare_on (sequence_object t os) w h = (e.fixed_stay w _ h.0, row_on t os (w + 8) h.1)
    bare_on (struct_object fs os) w h = parts_on fs os (w + 8) h
    bare_on (oneof_object fs tag o) w h = (e.fixed_stay w _ h.0, kept_if_on image a b e (type_of_field fs tag) (λ t v. BoxedIf image a (is_any t) (own_type o) (λ u. Bare image a o u) v) (λ t v. BoxedIf image b (is_any t) (own_type o) (λ u. Bare image b o u) v) (λ t v k. boxed_on image a b e (is_any t) (own_type o) (λ u. Bare image a o u) (λ u. Bare image b o u) (λ u l. bare_on o u l) v k) (w + 8) h.1)
    bare_on (routine_object r heading) w (t, (at, h)) = (t, (at, e.fixed_stay (w + 8) _ h))
    bare_on (reference t c) w (m, h) = (m, e.cells_stay t c w h)
    bare_on (sealed cluster given o) w h = boxed_on image a b e (is_any (image.representation cluster given)) (own_type o) (λ u. Bare image a o u) (λ u. Bare image b o u) (λ u l. bare_on o u l) w h

    row_on : (t : CluType) (os : Objects) (w : ℕ) → Row image a t os w → Row image b t os w
    row_on t no_objects w h = tt
    row_on t (object_and o os) w h = (kept_on image a b e (λ v. BoxedIf image a (is_any t) (own_type o) (λ u. Bare image a o u) v) (λ v. BoxedIf image b (is_any t) (own_type o) (λ u. Bare image b o u) v) (λ v k. boxed_on image a b e (is_any t) (own_type o) (λ u. Bare image a o u) (λ u. Bare image b o u) (λ u l. bare_on o u l) v k) w h.0, row_on t os (w + 8) h.1)

    parts_on : (fs : Fields) (os : Objects) (w : ℕ) → Parts image a fs os w → Parts image b fs os w
    parts_on no_fields no_objects w h = tt
    parts_on (field_and s t fs) (object_and o os) w h = (kept_on image a b e (λ v. BoxedIf image a (is_any t) (own_type o) (λ u. Bare image a o u) v) (λ v. BoxedIf image b (is_any t) (own_type o) (λ u. Bare image b o u) v) (λ v k. boxed_on image a b e (is_any t) (own_type o) (λ u. Bare image a o u) (λ u. Bare image b o u) (λ u l. bare_on o u l) v k) w h.0, parts_on fs os (w + 8) h.1)
    parts_on no_fields (object_and o os) w h = h
    parts_on (field_and s t fs) no_objects w h = h

pub at_on : (image : Image) (a b : Layout) → Extends a b → (t : CluType) (o : Object) (w : ℕ) → At image a t o w → At image b t o w
at_on image a b e t o w h = boxed_on image a b e (is_any t) (own_type o) (λ v. Bare image a o v) (λ v. Bare image b o v) (λ v k. bare_on image a b e o v k) w h
