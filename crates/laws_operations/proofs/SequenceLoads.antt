-- The operations of sequences that are values and look into one.
use Rattle.std.proofs.Common.{◌≡◌, ℕ, ℤ, zero, suc, ◌+◌, ◌-◌, ◌*◌, ◌%◌, ◌^◌, ◌<◌, ◌≤◌, Bool, true, false, ◌||◌, List, [], ◌∷◌, length, Option, None, Some, slice_get, refl, sym, ap, ◌∙◌, subst, arith, pos, negsuc, ◌+ℤ◌, ◌-ℤ◌, ◌≤ℤ◌, if◌then◌else◌}
use Rattle.std.specs.Prelude.{codes}
use Rattle.std.proofs.lemmas.Int.{ints}
use Rattle.clu_types.specs.CluType.{CluType, no_types, type_and, bool_type, int_type, sequence_of}
use Rattle.clu_builtin.specs.declared.names.Signal.TheVariants as signal
use Rattle.clu_layout.specs.Objects.{Object, Objects, listed, own_type, own_types, sequence_object}
use Rattle.clu_layout.specs.Places.{is_empty, first_item, item_after, item_at, last_item}
use Rattle.clu_layout.specs.Primitive.{may_be_argument, may_be_arguments}
use Rattle.clu_layout.specs.SameType.{same_type}
use Rattle.clu_layout.specs.Actions.{Action, World, Outcome, gives, gives_all, gives_bool, gives_size, no_case, or_signals, signals_with, with_int, with_sequence, wrong}
use Rattle.clu_layout.specs.SequenceOperations.{sequence_bottom, sequence_empty, sequence_fetch, sequence_size, sequence_top}
use Rattle.clu_layout.proofs.SameTypeLaws.{types_are}
use Rattle.clu_wir.specs.declared.expression.WOp.TheVariants as op
use Rattle.clu_wir.specs.declared.trap.Trap.TheVariants as trap
use Rattle.clu_wir.specs.Traps.{trap_name}
use Rattle.clu_wir.specs.Value.{Value, View, Gives, Raises, value, meant, binds, of_option, op_word, by_truth}
use Rattle.clu_representation.specs.Layout.{Image, Layout}
use Rattle.clu_representation.specs.Shown.{At, Bare, IsInt}
use Rattle.clu_representation.specs.Stored.{Seen}
use Rattle.laws_operations.specs.Comes.{Comes, InSlots}
use Rattle.laws_operations.specs.Rows.{Each, Right}
use Rattle.laws_operations.specs.LoadCodes.{empty_code, sequence_bottom_code, sequence_fetch_code, sequence_rows, sequence_top_code, size_code}
use Rattle.laws_operations.proofs.Arguments.{as_int, one_fitting, one_object, two_fitting}
use Rattle.laws_operations.proofs.Doing.{row_does, row_does_for}
use Rattle.laws_operations.proofs.Finding.{beyond, fixed_found, fixed_is_somebodys, index_below, index_from, none_left, place_word, row_below, row_found, truth, untruth, within}
use Rattle.laws_operations.proofs.PlainValues.{given_bool}
use Rattle.laws_operations.proofs.Results.{gives_int_word, small_is_int}
use Rattle.laws_operations.proofs.StringLoads.{empty_is, size_is}
use Rattle.laws_operations.proofs.Words.{by_some, word}

as_sequence : (P : Outcome → Type 0) → P wrong → (o : Object) (rest : List Object → Action) (w : World) → ((t : CluType) (xs : Objects) → o ≡ sequence_object t xs → P (rest (listed xs) w)) → P (with_sequence o rest w)
unfolding with_sequence no_case
as_sequence P z (sequence_object t xs) rest w f = f t xs refl
as_sequence P z _ rest w f = z

-- a sequence that may be an argument has the elements of its type
pub fits_only : (b : Bool) → (b || false || false) || false ≡ true → b ≡ true
fits_only true e = refl
fits_only false e = e

pub same_elements : (s t : CluType) → may_be_argument (sequence_of t) (sequence_of s) (sequence_of t) ≡ true → s ≡ t
same_elements s t e = types_are s t (fits_only (same_type s t) e)

-- ---- what the code means

abbrev element : View → ℕ → ℕ → Value
element view u place = of_option (view.word ((op_word op.Add u (op_word op.Sll place 3) + 0) % 2 ^ 64))

abbrev fetched : View → ℕ → ℕ → ℕ → Value
fetched view u v n = by_truth (op_word op.Sltu (op_word op.Sub v 1) n) (element view u v) (Raises trap.Bounds)

fetch_is : (view : View) (u v n : ℕ) → view.slot 0 ≡ Some u → view.slot 1 ≡ Some v → view.word ((u + 0) % 2 ^ 64) ≡ Some n → value view sequence_fetch_code ≡ fetched view u v n
unfolding meant binds
fetch_is view u v n p q e = rw (p, q, e) refl

abbrev bottom : View → ℕ → ℕ → Value
bottom view u n = by_truth n (of_option (view.word ((u + 8) % 2 ^ 64))) (Raises trap.Bounds)

bottom_is : (view : View) (u n : ℕ) → view.slot 0 ≡ Some u → view.word ((u + 0) % 2 ^ 64) ≡ Some n → value view sequence_bottom_code ≡ bottom view u n
unfolding meant binds
bottom_is view u n p e = rw (p, e) refl

abbrev top : View → ℕ → ℕ → Value
top view u n = by_truth n (element view u n) (Raises trap.Bounds)

top_is : (view : View) (u n : ℕ) → view.slot 0 ≡ Some u → view.word ((u + 0) % 2 ^ 64) ≡ Some n → value view sequence_top_code ≡ top view u n
unfolding meant binds
top_is view u n p e = rw (p, e) refl

-- the element that has so many before it
element_at : (u k n : ℕ) → k < n → u + 8 + 8 * n ≤ 2 ^ 63 → (op_word op.Add u (op_word op.Sll (suc k) 3) + 0) % 2 ^ 64 ≡ u + 8 + 8 * k
element_at u k n l m = omega (arith, l, m)

fetch_finds : (view : View) (u k n w : ℕ) → k < n → u + 8 + 8 * n ≤ 2 ^ 63 → view.word (u + 8 + 8 * k) ≡ Some w → fetched view u (suc k) n ≡ Gives w
fetch_finds view u k n w l m there =
    (λ i. by_truth (op_word op.Sltu (one_less k l m i) n) (of_option (view.word (element_at u k n l m i))) (Raises trap.Bounds))
    ∙ ap (λ t. by_test t) (truth k n l) ∙ ap of_option there
  where
    by_test : Bool → Value
    by_test t = if t then Raises trap.Bounds else of_option (view.word (u + 8 + 8 * k))

    one_less : (k : ℕ) → k < n → u + 8 + 8 * n ≤ 2 ^ 63 → op_word op.Sub (suc k) 1 ≡ k
    one_less k l m = omega (arith, l, m)

fetch_traps : (view : View) (u v n m : ℕ) → op_word op.Sub v 1 ≡ m → n ≤ m → fetched view u v n ≡ Raises trap.Bounds
fetch_traps view u v n m e l =
    ap (λ x. by_truth (op_word op.Sltu x n) (element view u v) (Raises trap.Bounds)) e
    ∙ ap (λ t. if t then Raises trap.Bounds else element view u v) (untruth m n l)

module _ (image : Image) (map : Layout) (view : View) (seen : Seen map view) (t : CluType) (os : List Object) where
  abbrev Shows : Objects → ℕ → Type 0
  Shows xs u = Bare image map (sequence_object t xs) u

  size_word : (xs : Objects) (u : ℕ) → Shows xs u → view.word ((u + 0) % 2 ^ 64) ≡ Some (length (listed xs))
  size_word xs u s = fixed_found map view seen u 0 u (length (listed xs)) (plus_none u) s.0
    where
      plus_none : (u : ℕ) → u ≡ u + 0
      plus_none u = omega arith

  end : (xs : Objects) (u : ℕ) → Shows xs u → u + 8 + 8 * length (listed xs) ≤ 2 ^ 63
  end xs u s = row_below map view seen image t xs (u + 8) (seen.below u (fixed_is_somebodys map u (length (listed xs)) s.0)) s.1

  abbrev Given : World → Action → Value → Type 0
  Given w action value = Comes image map (type_and t no_types) (λ x. x ≡ w) (action w) value

  -- an element is given, or bounds
  bounds : (w : World) (value : Value) → value ≡ Raises trap.Bounds → Given w (or_signals signal.Bounds None gives) value
  unfolding or_signals signals_with trap_name
  bounds w value e = subst (λ x. Given w (or_signals signal.Bounds None gives) x) (sym e) (refl, refl)

  element_given : (xs : Objects) (u k : ℕ) (o : Object) (w : World) (value : Value) → Shows xs u → slice_get (listed xs) k ≡ Some o →
      ((v : ℕ) → view.word (u + 8 + 8 * k) ≡ Some v → value ≡ Gives v) → Given w (or_signals signal.Bounds (Some o) gives) value
  unfolding or_signals gives_all
  element_given xs u k o w value s there f =
      let (v, fix, shown) = row_found map view seen image t xs (u + 8) k o s.1 there in
      let word_is = seen.words (u + 8 + 8 * k) (fixed_is_somebodys map (u + 8 + 8 * k) v fix) ∙ ap Some fix.is in
      subst (λ x. Given w (or_signals signal.Bounds (Some o) gives) x) (sym (f v word_is)) (shown, refl)

  at_place : (xs : Objects) (u v : ℕ) (i : ℤ) (w : World) → view.slot 0 ≡ Some u → view.slot 1 ≡ Some v → Shows xs u → IsInt i v → (z : ℤ) → i -ℤ pos 1 ≡ z →
      Given w (or_signals signal.Bounds (item_after (listed xs) z) gives) (value view sequence_fetch_code)
  at_place xs u v i w p q s n (pos k) e = by (slice_get (listed xs) k) refl
    where
      is : value view sequence_fetch_code ≡ fetched view u v (length (listed xs))
      is = fetch_is view u v (length (listed xs)) p q (size_word xs u s)

      by : (r : Option Object) → slice_get (listed xs) k ≡ r → Given w (or_signals signal.Bounds r gives) (value view sequence_fetch_code)
      by (Some o) there = element_given xs u k o w (value view sequence_fetch_code) s there (λ m found.
          is ∙ ap (λ x. fetched view u x (length (listed xs))) (n.word_is ∙ place_word i k n.is_one e) ∙ fetch_finds view u k (length (listed xs)) m (within (listed xs) k o there) (end xs u s) found)
      by None there = bounds w (value view sequence_fetch_code)
          (is ∙ fetch_traps view u v (length (listed xs)) k (ap (λ x. op_word op.Sub x 1) n.word_is ∙ index_from i (pos 1) k n.is_one refl e) (beyond (listed xs) k there))
  at_place xs u v i w p q s n (negsuc k) e = bounds w (value view sequence_fetch_code)
      (fetch_is view u v (length (listed xs)) p q (size_word xs u s) ∙ fetch_traps view u v (length (listed xs)) (op_word op.Sub (word i) 1) (ap (λ x. op_word op.Sub x 1) n.word_is)
      (index_below i (pos 1) k (length (listed xs)) n.is_one refl (high (length (listed xs)) (end xs u s)) e))
    where
      high : (n : ℕ) → u + 8 + 8 * n ≤ 2 ^ 63 → (pos 1 +ℤ pos n) ≤ℤ pos (2 ^ 63)
      high n l = omega (arith, ints, l)

  first_given : (xs : Objects) (u : ℕ) (w : World) → view.slot 0 ≡ Some u → Shows xs u → (ys : List Object) → listed xs ≡ ys →
      Given w (or_signals signal.Bounds (first_item ys) gives) (value view sequence_bottom_code)
  first_given xs u w p s [] e = bounds w (value view sequence_bottom_code) (bottom_is view u (length (listed xs)) p (size_word xs u s) ∙ ap (λ ys. bottom view u (length ys)) e)
  first_given xs u w p s (o ∷ ys) e = element_given xs u 0 o w (value view sequence_bottom_code) s (ap (λ zs. slice_get zs 0) e) (λ v found.
      bottom_is view u (length (listed xs)) p (size_word xs u s) ∙ ap (λ zs. bottom view u (length zs)) e
      ∙ by_some (suc (length ys)) (of_option (view.word ((u + 8) % 2 ^ 64))) (Raises trap.Bounds) (omega arith) ∙ ap (λ n. of_option (view.word n)) (first (end xs u s)) ∙ ap of_option found)
    where
      first : u + 8 + 8 * length (listed xs) ≤ 2 ^ 63 → (u + 8) % 2 ^ 64 ≡ u + 8 + 8 * 0
      first l = omega (arith, l)

  last_given : (xs : Objects) (u : ℕ) (w : World) → view.slot 0 ≡ Some u → Shows xs u → (r : Option Object) → last_item (listed xs) ≡ r → (n : ℕ) → length (listed xs) ≡ n →
      Given w (or_signals signal.Bounds r gives) (value view sequence_top_code)
  last_given xs u w p s None e zero g = bounds w (value view sequence_top_code) (top_is view u (length (listed xs)) p (size_word xs u s) ∙ ap (top view u) g)
  last_given xs u w p s None e (suc n) g = absurd (omega (arith, beyond (listed xs) (length (listed xs) - 1) e, g))
  last_given xs u w p s (Some o) e zero g = absurd (omega (arith, within (listed xs) (length (listed xs) - 1) o e, g))
  last_given xs u w p s (Some o) e (suc n) g = element_given xs u n o w (value view sequence_top_code) s (ap (slice_get (listed xs)) (sym (less (length (listed xs)) g)) ∙ e) (λ v found.
      top_is view u (length (listed xs)) p (size_word xs u s) ∙ ap (top view u) g
      ∙ by_some (suc n) (element view u (suc n)) (Raises trap.Bounds) (omega arith) ∙ ap (λ m. of_option (view.word m)) (element_at u n (suc n) (omega arith) (subst (λ m. u + 8 + 8 * m ≤ 2 ^ 63) g (end xs u s))) ∙ ap of_option found)
    where
      less : (m : ℕ) → m ≡ suc n → m - 1 ≡ n
      less m g = omega (arith, g)

module _ (image : Image) (map : Layout) (view : View) (seen : Seen map view) (t : CluType) (os : List Object) where
  sized : InSlots image map view (type_and (sequence_of t) no_types) 0 os → (w : World) → Comes image map (type_and int_type no_types) (λ x. x ≡ w) (sequence_size os w) (value view size_code)
  sized h w = one_object image map view (type_and int_type no_types) (λ x. x ≡ w) (value view size_code) (sequence_of t) (λ a. with_sequence a gives_size) os w h (λ o u p s.
      as_sequence (λ out. Comes image map (type_and int_type no_types) (λ x. x ≡ w) out (value view size_code)) tt o gives_size w (λ s' xs e.
      let is = subst (λ a. Bare image map a u) e s in
      gives_int_word image map (pos (length (listed xs))) w (value view size_code) (small_is_int (length (listed xs)) (omega (arith, end image map view seen s' os xs u is)))
      (size_is view u (length (listed xs)) p (size_word image map view seen s' os xs u is))))

  emptied : InSlots image map view (type_and (sequence_of t) no_types) 0 os → (w : World) → Comes image map (type_and bool_type no_types) (λ x. x ≡ w) (sequence_empty os w) (value view empty_code)
  emptied h w = one_object image map view (type_and bool_type no_types) (λ x. x ≡ w) (value view empty_code) (sequence_of t) (λ a. with_sequence a (λ xs. gives_bool (is_empty xs))) os w h (λ o u p s.
      as_sequence (λ out. Comes image map (type_and bool_type no_types) (λ x. x ≡ w) out (value view empty_code)) tt o (λ xs. gives_bool (is_empty xs)) w (λ s' xs e.
      let is = subst (λ a. Bare image map a u) e s in
      given_bool image map (is_empty (listed xs)) (op_word op.Equal (length (listed xs)) 0) w (value view empty_code) (empty_is view u (length (listed xs)) p (size_word image map view seen s' os xs u is)) (none_left (listed xs))))

  -- the sequence is one of its type
  of_type : (o : Object) (s : CluType) (xs : Objects) (u : ℕ) → o ≡ sequence_object s xs → At image map (sequence_of t) o u → may_be_argument (sequence_of t) (own_type o) (sequence_of t) ≡ true → Bare image map (sequence_object t xs) u
  of_type o s xs u e h fit =
      let same = same_elements s t (subst (λ a. may_be_argument (sequence_of t) (own_type a) (sequence_of t) ≡ true) e fit) in
      subst (λ a. Bare image map (sequence_object a xs) u) same (subst (λ a. Bare image map a u) e h)

  fetches : InSlots image map view (type_and (sequence_of t) (type_and int_type no_types)) 0 os → may_be_arguments (sequence_of t) (own_types os) (type_and (sequence_of t) (type_and int_type no_types)) ≡ true → (w : World) →
      Comes image map (type_and t no_types) (λ x. x ≡ w) (sequence_fetch os w) (value view sequence_fetch_code)
  fetches h fit w = two_fitting image map view (type_and t no_types) (λ x. x ≡ w) (value view sequence_fetch_code) (sequence_of t) (sequence_of t) int_type
      (λ a b. with_sequence a (λ xs. with_int b (λ i. or_signals signal.Bounds (item_at (pos 1) xs i) gives))) os w h fit (λ a b u v p q k l f.
      as_sequence (λ out. Comes image map (type_and t no_types) (λ x. x ≡ w) out (value view sequence_fetch_code)) tt a (λ xs. with_int b (λ i. or_signals signal.Bounds (item_at (pos 1) xs i) gives)) w (λ s xs e.
      as_int (λ out. Comes image map (type_and t no_types) (λ x. x ≡ w) out (value view sequence_fetch_code)) tt b (λ i. or_signals signal.Bounds (item_at (pos 1) (listed xs) i) gives) w (λ i g.
      at_place image map view seen t os xs u v i w p q (of_type a s xs u e k f) (subst (λ o. Bare image map o v) g l) (i -ℤ pos 1) refl)))

  bottoms : InSlots image map view (type_and (sequence_of t) no_types) 0 os → may_be_arguments (sequence_of t) (own_types os) (type_and (sequence_of t) no_types) ≡ true → (w : World) →
      Comes image map (type_and t no_types) (λ x. x ≡ w) (sequence_bottom os w) (value view sequence_bottom_code)
  bottoms h fit w = one_fitting image map view (type_and t no_types) (λ x. x ≡ w) (value view sequence_bottom_code) (sequence_of t) (sequence_of t) (λ a. with_sequence a (λ xs. or_signals signal.Bounds (first_item xs) gives)) os w h fit (λ a u p k f.
      as_sequence (λ out. Comes image map (type_and t no_types) (λ x. x ≡ w) out (value view sequence_bottom_code)) tt a (λ xs. or_signals signal.Bounds (first_item xs) gives) w (λ s xs e.
      first_given image map view seen t os xs u w p (of_type a s xs u e k f) (listed xs) refl))

  tops : InSlots image map view (type_and (sequence_of t) no_types) 0 os → may_be_arguments (sequence_of t) (own_types os) (type_and (sequence_of t) no_types) ≡ true → (w : World) →
      Comes image map (type_and t no_types) (λ x. x ≡ w) (sequence_top os w) (value view sequence_top_code)
  tops h fit w = one_fitting image map view (type_and t no_types) (λ x. x ≡ w) (value view sequence_top_code) (sequence_of t) (sequence_of t) (λ a. with_sequence a (λ xs. or_signals signal.Bounds (last_item xs) gives)) os w h fit (λ a u p k f.
      as_sequence (λ out. Comes image map (type_and t no_types) (λ x. x ≡ w) out (value view sequence_top_code)) tt a (λ xs. or_signals signal.Bounds (last_item xs) gives) w (λ s xs e.
      last_given image map view seen t os xs u w p (of_type a s xs u e k f) (last_item (listed xs)) refl (length (listed xs)) refl))

pub sequences_right : (t : CluType) → Each (Right (sequence_of t)) sequence_rows
sequences_right t = (
  λ image map view os w around h. row_does image map (value view size_code) (sequence_of t) (codes "size") os w (sized image map view around.seen t os h),
  (
    λ image map view os w around h. row_does image map (value view empty_code) (sequence_of t) (codes "empty") os w (emptied image map view around.seen t os h),
    (
      λ image map view os w around h. row_does_for image map (value view sequence_fetch_code) (sequence_of t) (codes "fetch") os w (λ fit v same. fetches image map view around.seen t os h fit v),
      (
        λ image map view os w around h. row_does_for image map (value view sequence_bottom_code) (sequence_of t) (codes "bottom") os w (λ fit v same. bottoms image map view around.seen t os h fit v),
        (
          λ image map view os w around h. row_does_for image map (value view sequence_top_code) (sequence_of t) (codes "top") os w (λ fit v same. tops image map view around.seen t os h fit v),
          tt,
        ),
      ),
    ),
  ),
)
