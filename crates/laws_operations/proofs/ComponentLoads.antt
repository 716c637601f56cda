-- The components of records and structs, the tags and values of oneofs and variants.
use Rattle.std.proofs.Common.{◌≡◌, ℕ, suc, ◌+◌, ◌*◌, ◌%◌, ◌^◌, ◌≤◌, Bool, true, false, not, ◌==◌, List, [], ◌∷◌, ◌++◌, Option, None, Some, slice_get, refl, sym, ap, ◌∙◌, subst, arith, bytes_eq, if◌then◌else◌}
use Rattle.std.specs.Prelude.{codes}
use Rattle.std.specs.Int.{from_bool}
use Rattle.clu_base.proofs.Lists.{same_bytes}
use Rattle.clu_types.specs.CluType.{CluType, Fields, no_fields, field_and, no_types, type_and, bool_type, oneof_of, record_of, struct_of, variant_of}
use Rattle.clu_builtin.specs.Operation.{Operation}
use Rattle.clu_builtin.specs.Table.{operation}
use Rattle.clu_builtin.specs.declared.names.Signal.TheVariants as signal
use Rattle.clu_layout.specs.Objects.{Cell, Object, Objects, array_cell, listed, no_objects, object_and, oneof_object, own_type, own_types, record_cell, reference, struct_object, variant_cell}
use Rattle.clu_layout.specs.Actions.{Action, Primitive, World, Outcome, as_record, as_variant, gives, gives_all, gives_bool, needed, no_case, signals_if, signals_with, with_oneof, with_record, with_struct, with_variant, wrong}
use Rattle.clu_layout.specs.OneofOperations.{oneof_is, oneof_value, variant_is, variant_value}
use Rattle.clu_layout.specs.PlainOperations.{same_cell}
use Rattle.clu_layout.specs.Primitive.{may_be_argument, may_be_arguments, primitive}
use Rattle.clu_layout.specs.RecordOperations.{component, record_get, struct_get}
use Rattle.clu_layout.specs.SameType.{same_fields}
use Rattle.clu_layout.proofs.SameTypeLaws.{types_are}
use Rattle.clu_wir.specs.Plain.{Expr}
use Rattle.clu_wir.specs.declared.expression.WOp.TheVariants as op
use Rattle.clu_wir.specs.declared.trap.Trap.TheVariants as trap
use Rattle.clu_wir.specs.Traps.{trap_name}
use Rattle.clu_wir.specs.Value.{Value, View, Gives, Raises, value, meant, binds, of_option, op_word, by_truth}
use Rattle.clu_representation.specs.Layout.{Fixed, Image, Layout}
use Rattle.clu_representation.specs.Shown.{At, Bare, KeptIf, Parts, bit, place_of_field, type_of_field}
use Rattle.clu_representation.specs.Held.{Cellular, CellularIf, Components, Own}
use Rattle.clu_representation.specs.Stored.{Seen}
use Rattle.laws_operations.specs.Comes.{Comes, InSlots}
use Rattle.laws_operations.specs.Rows.{Around, Each, Right, args_of, results_of, row}
use Rattle.laws_operations.specs.PlainCodes.{equal_code, same_object_rows}
use Rattle.laws_operations.specs.LoadCodes.{component_rows, get_code, is_code, tag_rows, value_code}
use Rattle.laws_operations.proofs.Arguments.{as_cell, one_fitting}
use Rattle.laws_operations.proofs.Doing.{row_does_for, tried}
use Rattle.laws_operations.proofs.Finding.{cell_is_somebodys, fixed_found, fixed_is_somebodys, found, own_found}
use Rattle.laws_operations.proofs.PlainValues.{given_bool}
use Rattle.laws_operations.proofs.Orders.{bit_word}
use Rattle.laws_operations.proofs.Sameness.{cells_equal}
use Rattle.laws_operations.proofs.Selected.{equal_heading, record_equal_does, record_equal_heading, variant_equal_does, variant_equal_heading, get_heading, is_heading, value_heading, oneof_is_does, oneof_is_heading, oneof_value_does, oneof_value_heading, record_get_does, record_get_heading, same_place, struct_get_does, struct_get_heading, variant_is_does, variant_is_heading, variant_value_does, variant_value_heading}
use Rattle.laws_operations.proofs.SequenceLoads.{fits_only}

-- ---- a row whose heading and primitive are found

pub row_found : (T : CluType) (name : List ℕ) (code : Expr) (h : Operation) (p : Primitive) → operation T name ≡ Some h → primitive T name ≡ Some p →
    ((image : Image) (map : Layout) (view : View) (os : List Object) (w : World) → Around image map view w.cells → InSlots image map view h.args 0 os → may_be_arguments T (own_types os) h.args ≡ true →
    (v : World) → v.cells ≡ w.cells → Comes image map h.results (λ x. x ≡ v) (p os v) (value view code)) →
    Right T (row name code)
row_found T name code h p e g f image map view os w around s =
    row_does_for image map (value view code) T name os w (λ fit v same.
    subst (λ b. Comes image map (results_of (operation T name)) (λ x. x ≡ v) (tried b os v) (value view code)) (sym g)
    (subst (λ a. Comes image map (results_of a) (λ x. x ≡ v) (p os v) (value view code)) (sym e)
    (f image map view os w around (subst (λ a. InSlots image map view (args_of a) 0 os) e s) (subst (λ a. may_be_arguments T (own_types os) (args_of a) ≡ true) e fit) v same)))

-- ---- what the code means

get_is : (view : View) (u n : ℕ) → view.slot 0 ≡ Some u → value view (get_code n) ≡ of_option (view.word ((op_word op.Add u ((n + 1) * 8) + 0) % 2 ^ 64))
unfolding meant
get_is view u n p = rw p refl

is_is : (view : View) (u n m : ℕ) → view.slot 0 ≡ Some u → view.word ((u + 0) % 2 ^ 64) ≡ Some m → value view (is_code n) ≡ Gives (op_word op.Equal m n)
unfolding meant
is_is view u n m p e = rw (p, e) refl

value_is : (view : View) (u n m : ℕ) → view.slot 0 ≡ Some u → view.word ((u + 0) % 2 ^ 64) ≡ Some m → value view (value_code n) ≡ by_truth (op_word op.Equal m n) (of_option (view.word ((u + 8) % 2 ^ 64))) (Raises trap.WrongTag)
unfolding meant binds
value_is view u n m p e = rw (p, e) refl

-- a word at the place of a component
get_finds : (view : View) (u n p v : ℕ) → view.slot 0 ≡ Some u → p ≡ u + 8 + 8 * n → p + 8 ≤ 2 ^ 63 → view.word p ≡ Some v → value view (get_code n) ≡ Gives v
get_finds view u n p v s e l there = get_is view u n s ∙ ap (λ a. of_option (view.word a)) (at u n p e l) ∙ ap of_option there
  where
    at : (u n p : ℕ) → p ≡ u + 8 + 8 * n → p + 8 ≤ 2 ^ 63 → (op_word op.Add u ((n + 1) * 8) + 0) % 2 ^ 64 ≡ p
    at u n p e l = omega (arith, e, l)

-- ---- components among the words

part_found : (image : Image) (map : Layout) (s : List ℕ) (x : Object) (t : CluType) (fs : Fields) (os : Objects) (at : ℕ) → Parts image map fs os at → component fs s (listed os) ≡ Some x → type_of_field fs s ≡ Some t →
    (v : ℕ) × Fixed map (at + 8 * place_of_field fs s) v × At image map t x v
part_found image map s x t no_fields os at h e g = absurd (cc g)
part_found image map s x t (field_and name u fs) no_objects at h e g = absurd (cc e)
part_found image map s x t (field_and name u fs) (object_and o os) at ((v, f, shown), more) e g = by (bytes_eq name s) e g (λ e g. part_found image map s x t fs os (at + 8) more e g)
  where
    by : (b : Bool) → (if b then Some o else component fs s (listed os)) ≡ Some x → (if b then Some u else type_of_field fs s) ≡ Some t →
        (component fs s (listed os) ≡ Some x → type_of_field fs s ≡ Some t → (v : ℕ) × Fixed map (at + 8 + 8 * place_of_field fs s) v × At image map t x v) →
        (v : ℕ) × Fixed map (at + 8 * (if b then 0 else suc (place_of_field fs s))) v × At image map t x v
    by true e g again = (v, subst (λ n. Fixed map n v) (here at) f, subst (λ a. At image map t a v) (same_object o x e) (subst (λ a. At image map a o v) (same_type u t g) shown))
      where
        here : (at : ℕ) → at ≡ at + 8 * 0
        here at = omega arith

        same_object : (a b : Object) → Some a ≡ Some b → a ≡ b
        same_object a b e = ap from e
          where
            from : Option Object → Object
            from None = a
            from (Some c) = c

        same_type : (a b : CluType) → Some a ≡ Some b → a ≡ b
        same_type a b e = ap from e
          where
            from : Option CluType → CluType
            from None = a
            from (Some c) = c
    by false e g again = let (v, f, shown) = again e g in (v, subst (λ n. Fixed map n v) (further at (place_of_field fs s)) f, shown)
      where
        further : (at n : ℕ) → at + 8 + 8 * n ≡ at + 8 * suc n
        further at n = omega arith

component_found : (image : Image) (map : Layout) (c : ℕ) (s : List ℕ) (x : Object) (t : CluType) (fs : Fields) (os : List Object) (at : ℕ) → Components image map c fs os at → component fs s os ≡ Some x → type_of_field fs s ≡ Some t →
    Cellular image map c t x (at + 8 * place_of_field fs s)
component_found image map c s x t no_fields os at h e g = absurd (cc g)
component_found image map c s x t (field_and name u fs) [] at h e g = absurd (cc e)
component_found image map c s x t (field_and name u fs) (o ∷ os) at (h, more) e g = by (bytes_eq name s) e g (λ e g. component_found image map c s x t fs os (at + 8) more e g)
  where
    by : (b : Bool) → (if b then Some o else component fs s os) ≡ Some x → (if b then Some u else type_of_field fs s) ≡ Some t →
        (component fs s os ≡ Some x → type_of_field fs s ≡ Some t → Cellular image map c t x (at + 8 + 8 * place_of_field fs s)) → Cellular image map c t x (at + 8 * (if b then 0 else suc (place_of_field fs s)))
    by true e g again = subst (λ n. Cellular image map c t x n) (here at) (subst (λ a. Cellular image map c t a at) (same_object o x e) (subst (λ a. Cellular image map c a o at) (same_type u t g) h))
      where
        here : (at : ℕ) → at ≡ at + 8 * 0
        here at = omega arith

        same_object : (a b : Object) → Some a ≡ Some b → a ≡ b
        same_object a b e = ap from e
          where
            from : Option Object → Object
            from None = a
            from (Some c) = c

        same_type : (a b : CluType) → Some a ≡ Some b → a ≡ b
        same_type a b e = ap from e
          where
            from : Option CluType → CluType
            from None = a
            from (Some c) = c
    by false e g again = subst (λ n. Cellular image map c t x n) (further at (place_of_field fs s)) (again e g)
      where
        further : (at n : ℕ) → at + 8 + 8 * n ≡ at + 8 * suc n
        further at n = omega arith

-- ---- objects that may be arguments are of the type

abbrev fields_of : CluType → Fields
fields_of (struct_of fs) = fs
fields_of (record_of fs) = fs
fields_of (oneof_of fs) = fs
fields_of (variant_of fs) = fs
fields_of t = no_fields

struct_fields : (gs fs : Fields) → may_be_argument (struct_of fs) (struct_of gs) (struct_of fs) ≡ true → gs ≡ fs
struct_fields gs fs e = ap fields_of (types_are (struct_of gs) (struct_of fs) (fits_only (same_fields gs fs) e))

oneof_fields : (gs fs : Fields) → may_be_argument (oneof_of fs) (oneof_of gs) (oneof_of fs) ≡ true → gs ≡ fs
oneof_fields gs fs e = ap fields_of (types_are (oneof_of gs) (oneof_of fs) (fits_only (same_fields gs fs) e))

pub record_fields : (gs fs : Fields) (k r : CluType) → k ≡ r → k ≡ record_of gs → may_be_argument (record_of fs) r (record_of fs) ≡ true → gs ≡ fs
record_fields gs fs k r p q e = ap fields_of (types_are (record_of gs) (record_of fs) (fits_only (same_fields gs fs) (subst (λ a. may_be_argument (record_of fs) a (record_of fs) ≡ true) (sym p ∙ q) e)))

pub variant_fields : (gs fs : Fields) (k r : CluType) → k ≡ r → k ≡ variant_of gs → may_be_argument (variant_of fs) r (variant_of fs) ≡ true → gs ≡ fs
variant_fields gs fs k r p q e = ap fields_of (types_are (variant_of gs) (variant_of fs) (fits_only (same_fields gs fs) (subst (λ a. may_be_argument (variant_of fs) a (variant_of fs) ≡ true) (sym p ∙ q) e)))

-- ---- objects that are taken apart

as_struct : (P : Outcome → Type 0) → P wrong → (o : Object) (rest : Fields → List Object → Action) (w : World) → ((fs : Fields) (xs : Objects) → o ≡ struct_object fs xs → P (rest fs (listed xs) w)) → P (with_struct o rest w)
unfolding with_struct no_case
as_struct P z (struct_object fs xs) rest w f = f fs xs refl
as_struct P z _ rest w f = z

as_oneof : (P : Outcome → Type 0) → P wrong → (o : Object) (rest : List ℕ → Object → Action) (w : World) → ((fs : Fields) (tag : List ℕ) (x : Object) → o ≡ oneof_object fs tag x → P (rest tag x w)) → P (with_oneof o rest w)
unfolding with_oneof no_case
as_oneof P z (oneof_object fs tag x) rest w f = f fs tag x refl
as_oneof P z _ rest w f = z

as_cell_record : (P : Outcome → Type 0) → P wrong → (r : Option Cell) (rest : Fields → List Object → Action) (w : World) → ((fs : Fields) (xs : List Object) → r ≡ Some (record_cell fs xs) → P (rest fs xs w)) → P (as_record r rest w)
unfolding as_record no_case
as_cell_record P z None rest w f = z
as_cell_record P z (Some (array_cell a)) rest w f = z
as_cell_record P z (Some (record_cell fs os)) rest w f = f fs os refl
as_cell_record P z (Some (variant_cell fs tag o)) rest w f = z

as_cell_variant : (P : Outcome → Type 0) → P wrong → (r : Option Cell) (rest : Fields → List ℕ → Object → Action) (w : World) → ((fs : Fields) (tag : List ℕ) (x : Object) → r ≡ Some (variant_cell fs tag x) → P (rest fs tag x w)) → P (as_variant r rest w)
unfolding as_variant no_case
as_cell_variant P z None rest w f = z
as_cell_variant P z (Some (array_cell a)) rest w f = z
as_cell_variant P z (Some (record_cell fs os)) rest w f = z
as_cell_variant P z (Some (variant_cell fs tag o)) rest w f = f fs tag o refl

pub of_cell_record : (P : Outcome → Type 0) → P wrong → (o : Object) (rest : ℕ → Fields → List Object → Action) (w : World) →
    ((t : CluType) (c : ℕ) (fs : Fields) (xs : List Object) → o ≡ reference t c → slice_get w.cells c ≡ Some (record_cell fs xs) → P (rest c fs xs w)) → P (with_record o rest w)
unfolding with_record
of_cell_record P z o rest w f = as_cell P z o (λ c w. as_record (slice_get w.cells c) (rest c) w) w (λ t c e. as_cell_record P z (slice_get w.cells c) (rest c) w (λ fs xs is. f t c fs xs e is))

pub of_cell_variant : (P : Outcome → Type 0) → P wrong → (o : Object) (rest : ℕ → Fields → List ℕ → Object → Action) (w : World) →
    ((t : CluType) (c : ℕ) (fs : Fields) (tag : List ℕ) (x : Object) → o ≡ reference t c → slice_get w.cells c ≡ Some (variant_cell fs tag x) → P (rest c fs tag x w)) → P (with_variant o rest w)
unfolding with_variant
of_cell_variant P z o rest w f = as_cell P z o (λ c w. as_variant (slice_get w.cells c) (rest c) w) w (λ t c e. as_cell_variant P z (slice_get w.cells c) (rest c) w (λ fs tag x is. f t c fs tag x e is))

-- ---- the component that is there

component_given : (image : Image) (map : Layout) (t : CluType) (r : Option Object) (w : World) (value : Value) →
    ((x : Object) → r ≡ Some x → (v : ℕ) × (value ≡ Gives v) × At image map t x v) → Comes image map (type_and t no_types) (λ x. x ≡ w) (needed r gives w) value
unfolding needed no_case gives_all
component_given image map t None w value f = tt
component_given image map t (Some x) w value f = let (v, e, shown) = f x refl in subst (λ y. Comes image map (type_and t no_types) (λ x. x ≡ w) (gives x w) y) (sym e) (shown, refl)

module _ (fs : Fields) (s : List ℕ) (t : CluType) (field : type_of_field fs s ≡ Some t) where
  struct_gets : Right (struct_of fs) (row (codes "get_" ++ s) (get_code (place_of_field fs s)))
  struct_gets = row_found (struct_of fs) (codes "get_" ++ s) (get_code (place_of_field fs s)) (get_heading (struct_of fs) t) (struct_get s) (struct_get_heading fs s t field) (struct_get_does fs s t field)
      (λ image map view os w around h fit v same.
      one_fitting image map view (type_and t no_types) (λ x. x ≡ v) (value view (get_code (place_of_field fs s))) (struct_of fs) (struct_of fs) (λ a. with_struct a (λ fs xs. needed (component fs s xs) gives)) os v h fit (λ o u p k f.
      as_struct (λ out. Comes image map (type_and t no_types) (λ x. x ≡ v) out (value view (get_code (place_of_field fs s)))) tt o (λ fs xs. needed (component fs s xs) gives) v (λ gs xs e.
      let are = struct_fields gs fs (subst (λ a. may_be_argument (struct_of fs) (own_type a) (struct_of fs) ≡ true) e f) in
      let parts = subst (λ a. Parts image map a xs (u + 8)) are (subst (λ a. Bare image map a u) e k) in
      component_given image map t (component gs s (listed xs)) v (value view (get_code (place_of_field fs s))) (λ x there.
      let (n, fix, shown) = part_found image map s x t fs xs (u + 8) parts (subst (λ a. component a s (listed xs) ≡ Some x) are there) field in
      let mine = fixed_is_somebodys map (u + 8 + 8 * place_of_field fs s) n fix in
      (n, get_finds view u (place_of_field fs s) (u + 8 + 8 * place_of_field fs s) n p refl (around.seen.below (u + 8 + 8 * place_of_field fs s) mine) (around.seen.words (u + 8 + 8 * place_of_field fs s) mine ∙ ap Some fix.is), shown)))))

  record_gets : Right (record_of fs) (row (codes "get_" ++ s) (get_code (place_of_field fs s)))
  record_gets = row_found (record_of fs) (codes "get_" ++ s) (get_code (place_of_field fs s)) (get_heading (record_of fs) t) (record_get s) (record_get_heading fs s t field) (record_get_does fs s t field)
      (λ image map view os w around h fit v same.
      one_fitting image map view (type_and t no_types) (λ x. x ≡ v) (value view (get_code (place_of_field fs s))) (record_of fs) (record_of fs) (λ r. with_record r (λ c fs xs. needed (component fs s xs) gives)) os v h fit (λ o u p k f.
      of_cell_record (λ out. Comes image map (type_and t no_types) (λ x. x ≡ v) out (value view (get_code (place_of_field fs s)))) tt o (λ c fs xs. needed (component fs s xs) gives) v (λ r c gs xs e is.
      let held = around.heap c (record_cell gs xs) (subst (λ cs. slice_get cs c ≡ Some (record_cell gs xs)) same is) in
      let shown = subst (λ b. Bare image map b u) e k in
      let are = record_fields gs fs (map.kind c) r shown.1.type_is held.0 (subst (λ a. may_be_argument (record_of fs) (own_type a) (record_of fs) ≡ true) e f) in
      component_given image map t (component gs s xs) v (value view (get_code (place_of_field fs s))) (λ x there.
      let a = map.address c + 8 + 8 * place_of_field fs s in
      let cell = component_found image map c s x t fs xs (map.address c + 8) (subst (λ a. Components image map c a xs (map.address c + 8)) are held.2) (subst (λ a. component a s xs ≡ Some x) are there) field in
      let mine = cell_is_somebodys map c a cell.whose in
      (map.word a, get_finds view u (place_of_field fs s) a (map.word a) p (ap (λ n. n + 8 + 8 * place_of_field fs s) (sym shown.1.at)) (around.seen.below a mine) (around.seen.words a mine), cell.shown)))))

-- ---- tags and values

-- what code finds of an object with a tag
record Tagged (image : Image) (map : Layout) (view : View) (fs : Fields) (tag : List ℕ) (x : Object) (u : ℕ) : Type 0 where
  tag_is : view.word ((u + 0) % 2 ^ 64) ≡ Some (place_of_field fs tag)
  its_type : CluType
  is_field : type_of_field fs tag ≡ Some its_type
  v : ℕ
  value_is : view.word ((u + 8) % 2 ^ 64) ≡ Some v
  shown : At image map its_type x v

module _ (image : Image) (map : Layout) (view : View) (fs : Fields) (s : List ℕ) (t : CluType) (field : type_of_field fs s ≡ Some t) (w : World) (u : ℕ) (p : view.slot 0 ≡ Some u) (tag : List ℕ) (x : Object)
    (it : Tagged image map view fs tag x u) where
  tests : Comes image map (type_and bool_type no_types) (λ x. x ≡ w) (gives_bool (bytes_eq tag s) w) (value view (is_code (place_of_field fs s)))
  tests = given_bool image map (bytes_eq tag s) (op_word op.Equal (place_of_field fs tag) (place_of_field fs s)) w (value view (is_code (place_of_field fs s))) (is_is view u (place_of_field fs s) (place_of_field fs tag) p it.tag_is)
      (bit_word (place_of_field fs tag == place_of_field fs s) ∙ ap bit (same_place fs tag s it.its_type t it.is_field field))

  means : value view (value_code (place_of_field fs s)) ≡ (if from_bool (bytes_eq tag s) == 0 then Raises trap.WrongTag else Gives it.v)
  means = value_is view u (place_of_field fs s) (place_of_field fs tag) p it.tag_is
      ∙ (λ i. if from_bool (same_place fs tag s it.its_type t it.is_field field i) == 0 then Raises trap.WrongTag else of_option (it.value_is i))

  gives_value : Comes image map (type_and t no_types) (λ x. x ≡ w) (signals_if signal.WrongTag (not (bytes_eq tag s)) (gives x) w) (value view (value_code (place_of_field fs s)))
  unfolding signals_if signals_with gives_all trap_name
  gives_value = by (bytes_eq tag s) refl means
    where
      same_type : (a b : CluType) → Some a ≡ Some b → a ≡ b
      same_type a b e = ap from e
        where
          from : Option CluType → CluType
          from None = a
          from (Some c) = c

      by : (b : Bool) → bytes_eq tag s ≡ b → value view (value_code (place_of_field fs s)) ≡ (if from_bool b == 0 then Raises trap.WrongTag else Gives it.v) →
          Comes image map (type_and t no_types) (λ x. x ≡ w) (signals_if signal.WrongTag (not b) (gives x) w) (value view (value_code (place_of_field fs s)))
      by true same e = subst (λ y. Comes image map (type_and t no_types) (λ x. x ≡ w) (gives x w) y) (sym e)
          (subst (λ a. At image map a x it.v) (same_type it.its_type t (sym it.is_field ∙ ap (type_of_field fs) (same_bytes tag s same) ∙ field)) it.shown, refl)
      by false other e = subst (λ y. Comes image map (type_and t no_types) (λ x. x ≡ w) (signals_if signal.WrongTag true (gives x) w) y) (sym e) (refl, refl)

plus_none : (u : ℕ) → u ≡ u + 0
plus_none u = omega arith

of_oneof : (image : Image) (map : Layout) (view : View) → Seen map view → (fs : Fields) (tag : List ℕ) (x : Object) (u : ℕ) → Bare image map (oneof_object fs tag x) u → Tagged image map view fs tag x u
of_oneof image map view seen fs tag x u (fix, rest) = by (type_of_field fs tag) refl rest
  where
    by : (r : Option CluType) → type_of_field fs tag ≡ r → KeptIf image map r (λ t v. At image map t x v) (u + 8) → Tagged image map view fs tag x u
    by None e h = absurd h
    by (Some a) e (v, f, shown) = record { tag_is = fixed_found map view seen u 0 u (place_of_field fs tag) (plus_none u) fix; its_type = a; is_field = e; v = v; value_is = fixed_found map view seen u 8 (u + 8) v refl f; shown = shown }

of_variant : (image : Image) (map : Layout) (view : View) → Seen map view → (heap_c : ℕ) (fs : Fields) (tag : List ℕ) (x : Object) (u : ℕ) → u ≡ map.address heap_c →
    (map.kind heap_c ≡ variant_of fs) × Own map heap_c (map.address heap_c) (place_of_field fs tag) × CellularIf image map heap_c (type_of_field fs tag) x (map.address heap_c + 8) → Tagged image map view fs tag x u
of_variant image map view seen c fs tag x u at (k, own, rest) = by (type_of_field fs tag) refl rest
  where
    by : (r : Option CluType) → type_of_field fs tag ≡ r → CellularIf image map c r x (map.address c + 8) → Tagged image map view fs tag x u
    by None e h = absurd h
    by (Some a) e h = record {
      tag_is = own_found map view seen u 0 c (map.address c) (place_of_field fs tag) (sym at ∙ plus_none u) own;
      its_type = a;
      is_field = e;
      v = map.word (map.address c + 8);
      value_is = found map view seen u 8 (map.address c + 8) (map.word (map.address c + 8)) (ap (λ n. n + 8) (sym at)) (cell_is_somebodys map c (map.address c + 8) h.whose) refl;
      shown = h.shown;
    }

module _ (fs : Fields) (s : List ℕ) (t : CluType) (field : type_of_field fs s ≡ Some t) where
  oneof_tests : Right (oneof_of fs) (row (codes "is_" ++ s) (is_code (place_of_field fs s)))
  oneof_tests = row_found (oneof_of fs) (codes "is_" ++ s) (is_code (place_of_field fs s)) (is_heading (oneof_of fs) t) (oneof_is s) (oneof_is_heading fs s t field) (oneof_is_does fs s t field)
      (λ image map view os w around h fit v same.
      one_fitting image map view (type_and bool_type no_types) (λ x. x ≡ v) (value view (is_code (place_of_field fs s))) (oneof_of fs) (oneof_of fs) (λ a. with_oneof a (λ tag x. gives_bool (bytes_eq tag s))) os v h fit (λ o u p k f.
      as_oneof (λ out. Comes image map (type_and bool_type no_types) (λ x. x ≡ v) out (value view (is_code (place_of_field fs s)))) tt o (λ tag x. gives_bool (bytes_eq tag s)) v (λ gs tag x e.
      let are = oneof_fields gs fs (subst (λ a. may_be_argument (oneof_of fs) (own_type a) (oneof_of fs) ≡ true) e f) in
      tests image map view fs s t field v u p tag x (of_oneof image map view around.seen fs tag x u (subst (λ a. Bare image map (oneof_object a tag x) u) are (subst (λ a. Bare image map a u) e k))))))

  oneof_values : Right (oneof_of fs) (row (codes "value_" ++ s) (value_code (place_of_field fs s)))
  oneof_values = row_found (oneof_of fs) (codes "value_" ++ s) (value_code (place_of_field fs s)) (value_heading (oneof_of fs) t) (oneof_value s) (oneof_value_heading fs s t field) (oneof_value_does fs s t field)
      (λ image map view os w around h fit v same.
      one_fitting image map view (type_and t no_types) (λ x. x ≡ v) (value view (value_code (place_of_field fs s))) (oneof_of fs) (oneof_of fs) (λ a. with_oneof a (λ tag x. signals_if signal.WrongTag (not (bytes_eq tag s)) (gives x))) os v h fit (λ o u p k f.
      as_oneof (λ out. Comes image map (type_and t no_types) (λ x. x ≡ v) out (value view (value_code (place_of_field fs s)))) tt o (λ tag x. signals_if signal.WrongTag (not (bytes_eq tag s)) (gives x)) v (λ gs tag x e.
      let are = oneof_fields gs fs (subst (λ a. may_be_argument (oneof_of fs) (own_type a) (oneof_of fs) ≡ true) e f) in
      gives_value image map view fs s t field v u p tag x (of_oneof image map view around.seen fs tag x u (subst (λ a. Bare image map (oneof_object a tag x) u) are (subst (λ a. Bare image map a u) e k))))))

  variant_tests : Right (variant_of fs) (row (codes "is_" ++ s) (is_code (place_of_field fs s)))
  variant_tests = row_found (variant_of fs) (codes "is_" ++ s) (is_code (place_of_field fs s)) (is_heading (variant_of fs) t) (variant_is s) (variant_is_heading fs s t field) (variant_is_does fs s t field)
      (λ image map view os w around h fit v same.
      one_fitting image map view (type_and bool_type no_types) (λ x. x ≡ v) (value view (is_code (place_of_field fs s))) (variant_of fs) (variant_of fs) (λ r. with_variant r (λ c fs tag x. gives_bool (bytes_eq tag s))) os v h fit (λ o u p k f.
      of_cell_variant (λ out. Comes image map (type_and bool_type no_types) (λ x. x ≡ v) out (value view (is_code (place_of_field fs s)))) tt o (λ c fs tag x. gives_bool (bytes_eq tag s)) v (λ r c gs tag x e is.
      let held = around.heap c (variant_cell gs tag x) (subst (λ cs. slice_get cs c ≡ Some (variant_cell gs tag x)) same is) in
      let shown = subst (λ b. Bare image map b u) e k in
      let are = variant_fields gs fs (map.kind c) r shown.1.type_is held.0 (subst (λ a. may_be_argument (variant_of fs) (own_type a) (variant_of fs) ≡ true) e f) in
      tests image map view fs s t field v u p tag x (subst (λ a. Tagged image map view a tag x u) are (of_variant image map view around.seen c gs tag x u shown.1.at held)))))

  variant_values : Right (variant_of fs) (row (codes "value_" ++ s) (value_code (place_of_field fs s)))
  variant_values = row_found (variant_of fs) (codes "value_" ++ s) (value_code (place_of_field fs s)) (value_heading (variant_of fs) t) (variant_value s) (variant_value_heading fs s t field) (variant_value_does fs s t field)
      (λ image map view os w around h fit v same.
      one_fitting image map view (type_and t no_types) (λ x. x ≡ v) (value view (value_code (place_of_field fs s))) (variant_of fs) (variant_of fs) (λ r. with_variant r (λ c fs tag x. signals_if signal.WrongTag (not (bytes_eq tag s)) (gives x))) os v h fit (λ o u p k f.
      of_cell_variant (λ out. Comes image map (type_and t no_types) (λ x. x ≡ v) out (value view (value_code (place_of_field fs s)))) tt o (λ c fs tag x. signals_if signal.WrongTag (not (bytes_eq tag s)) (gives x)) v (λ r c gs tag x e is.
      let held = around.heap c (variant_cell gs tag x) (subst (λ cs. slice_get cs c ≡ Some (variant_cell gs tag x)) same is) in
      let shown = subst (λ b. Bare image map b u) e k in
      let are = variant_fields gs fs (map.kind c) r shown.1.type_is held.0 (subst (λ a. may_be_argument (variant_of fs) (own_type a) (variant_of fs) ≡ true) e f) in
      gives_value image map view fs s t field v u p tag x (subst (λ a. Tagged image map view a tag x u) are (of_variant image map view around.seen c gs tag x u shown.1.at held)))))

  pub structs_right : Each (Right (struct_of fs)) (component_rows fs s)
  structs_right = (struct_gets fs s t field, tt)

  pub records_right : Each (Right (record_of fs)) (component_rows fs s)
  records_right = (record_gets fs s t field, tt)

  pub oneofs_right : Each (Right (oneof_of fs)) (tag_rows fs s)
  oneofs_right = (oneof_tests, (oneof_values, tt))

  pub variants_right : Each (Right (variant_of fs)) (tag_rows fs s)
  variants_right = (variant_tests, (variant_values, tt))

-- ---- equal of records and variants

pub records_equal : (fs : Fields) → Each (Right (record_of fs)) same_object_rows
records_equal fs = (
  row_found (record_of fs) (codes "equal") equal_code (equal_heading (record_of fs)) same_cell (record_equal_heading fs) (record_equal_does fs)
      (λ image map view os w around h fit v same. cells_equal image map view (record_of fs) os h (λ o u k. k) v),
  tt,
)

pub variants_equal : (fs : Fields) → Each (Right (variant_of fs)) same_object_rows
variants_equal fs = (
  row_found (variant_of fs) (codes "equal") equal_code (equal_heading (variant_of fs)) same_cell (variant_equal_heading fs) (variant_equal_does fs)
      (λ image map view os w around h fit v same. cells_equal image map view (variant_of fs) os h (λ o u k. k) v),
  tt,
)
