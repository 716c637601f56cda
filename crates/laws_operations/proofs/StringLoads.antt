-- The operations of string that are values and look into one.
use Rattle.std.proofs.Common.{◌≡◌, ℕ, ℤ, suc, ◌+◌, ◌%◌, ◌^◌, ◌<◌, ◌≤◌, Bool, List, length, Option, None, Some, slice_get, refl, sym, ap, ◌∙◌, subst, arith, pos, negsuc, ◌+ℤ◌, ◌-ℤ◌, ◌≤ℤ◌, if◌then◌else◌}
use Rattle.std.specs.Prelude.{codes}
use Rattle.std.proofs.lemmas.Int.{ints}
use Rattle.clu_types.specs.CluType.{no_types, type_and, bool_type, char_type, int_type, string_type}
use Rattle.clu_builtin.specs.declared.names.Signal.TheVariants as signal
use Rattle.clu_layout.specs.Objects.{Object, char_object, string_object}
use Rattle.clu_layout.specs.Places.{is_empty, item_after, item_at}
use Rattle.clu_layout.specs.Actions.{Action, World, Outcome, gives, gives_all, gives_bool, gives_size, no_case, or_signals, signals_with, with_int, with_string, wrong}
use Rattle.clu_layout.specs.StringOperations.{string_empty, string_fetch, string_size}
use Rattle.clu_wir.specs.declared.expression.WOp.TheVariants as op
use Rattle.clu_wir.specs.declared.trap.Trap.TheVariants as trap
use Rattle.clu_wir.specs.Traps.{trap_name}
use Rattle.clu_wir.specs.Value.{Value, View, Gives, Raises, value, meant, binds, of_option, op_word, by_truth}
use Rattle.clu_representation.specs.Layout.{Image, Layout}
use Rattle.clu_representation.specs.Shown.{Bare, IsInt, IsString}
use Rattle.clu_representation.specs.Stored.{Seen}
use Rattle.laws_operations.specs.Comes.{Comes, InSlots}
use Rattle.laws_operations.specs.Rows.{Each, Right}
use Rattle.laws_operations.specs.LoadCodes.{empty_code, size_code, string_fetch_code, string_load_rows}
use Rattle.laws_operations.proofs.Arguments.{as_int, one_object, two_objects}
use Rattle.laws_operations.proofs.Doing.{row_does}
use Rattle.laws_operations.proofs.Finding.{byte_is_char, bytes_below, bytes_found, fixed_found, fixed_is_somebodys, index_below, index_from, none_left, place_word, truth, untruth, within, beyond}
use Rattle.laws_operations.proofs.PlainValues.{given_bool}
use Rattle.laws_operations.proofs.Results.{gives_int_word, small_is_int}
use Rattle.laws_operations.proofs.Words.{word}

pub as_string : (P : Outcome → Type 0) → P wrong → (o : Object) (rest : List ℕ → Action) (w : World) → ((x : List ℕ) → o ≡ string_object x → P (rest x w)) → P (with_string o rest w)
unfolding with_string no_case
as_string P z (string_object x) rest w f = f x refl
as_string P z _ rest w f = z

pub size_is : (view : View) (u n : ℕ) → view.slot 0 ≡ Some u → view.word ((u + 0) % 2 ^ 64) ≡ Some n → value view size_code ≡ Gives n
unfolding meant
size_is view u n p e = rw (p, e) refl

pub empty_is : (view : View) (u n : ℕ) → view.slot 0 ≡ Some u → view.word ((u + 0) % 2 ^ 64) ≡ Some n → value view empty_code ≡ Gives (op_word op.Equal n 0)
unfolding meant
empty_is view u n p e = rw (p, e) refl

abbrev fetched : View → ℕ → ℕ → ℕ → Value
fetched view u v n = by_truth (op_word op.Sltu (op_word op.Sub v 1) n) (of_option (view.byte (op_word op.Add (op_word op.Add u 7) v))) (Raises trap.Bounds)

fetch_is : (view : View) (u v n : ℕ) → view.slot 0 ≡ Some u → view.slot 1 ≡ Some v → view.word ((u + 0) % 2 ^ 64) ≡ Some n → value view string_fetch_code ≡ fetched view u v n
unfolding meant binds
fetch_is view u v n p q e = rw (p, q, e) refl

fetch_finds : (view : View) (u k n b : ℕ) → k < n → u + 8 + n ≤ 2 ^ 63 → view.byte (u + 8 + k) ≡ Some b → fetched view u (suc k) n ≡ Gives b
fetch_finds view u k n b l m there =
    (λ i. by_truth (op_word op.Sltu (one_less k l m i) n) (of_option (view.byte (at u k l m i))) (Raises trap.Bounds))
    ∙ ap (λ t. by_test t) (truth k n l) ∙ ap of_option there
  where
    by_test : Bool → Value
    by_test t = if t then Raises trap.Bounds else of_option (view.byte (u + 8 + k))

    one_less : (k : ℕ) → k < n → u + 8 + n ≤ 2 ^ 63 → op_word op.Sub (suc k) 1 ≡ k
    one_less k l m = omega (arith, l, m)

    at : (u k : ℕ) → k < n → u + 8 + n ≤ 2 ^ 63 → op_word op.Add (op_word op.Add u 7) (suc k) ≡ u + 8 + k
    at u k l m = omega (arith, l, m)

fetch_traps : (view : View) (u v n m : ℕ) → op_word op.Sub v 1 ≡ m → n ≤ m → fetched view u v n ≡ Raises trap.Bounds
fetch_traps view u v n m e l =
    ap (λ x. by_truth (op_word op.Sltu x n) (of_option (view.byte (op_word op.Add (op_word op.Add u 7) v))) (Raises trap.Bounds)) e
    ∙ ap (λ t. if t then Raises trap.Bounds else of_option (view.byte (op_word op.Add (op_word op.Add u 7) v))) (untruth m n l)

module _ (image : Image) (map : Layout) (view : View) (seen : Seen map view) (os : List Object) where
  size_word : (bytes : List ℕ) (u : ℕ) → IsString map bytes u → view.word ((u + 0) % 2 ^ 64) ≡ Some (length bytes)
  size_word bytes u s = fixed_found map view seen u 0 u (length bytes) (plus_none u) s.size
    where
      plus_none : (u : ℕ) → u ≡ u + 0
      plus_none u = omega arith

  string_end : (bytes : List ℕ) (u : ℕ) → IsString map bytes u → u + 8 + length bytes ≤ 2 ^ 63
  string_end bytes u s = omega (arith, bytes_below map view seen (u + 8) 0 bytes (omega (arith, seen.below u (fixed_is_somebodys map u (length bytes) s.size))) s.bytes_are)

  sized : InSlots image map view (type_and string_type no_types) 0 os → (w : World) → Comes image map (type_and int_type no_types) (λ x. x ≡ w) (string_size os w) (value view size_code)
  sized h w = one_object image map view (type_and int_type no_types) (λ x. x ≡ w) (value view size_code) string_type (λ a. with_string a gives_size) os w h (λ o u p s.
      as_string (λ out. Comes image map (type_and int_type no_types) (λ x. x ≡ w) out (value view size_code)) tt o gives_size w (λ bytes e.
      let is = subst (λ a. Bare image map a u) e s in
      gives_int_word image map (pos (length bytes)) w (value view size_code) (small_is_int (length bytes) (omega (arith, string_end bytes u is))) (size_is view u (length bytes) p (size_word bytes u is))))

  emptied : InSlots image map view (type_and string_type no_types) 0 os → (w : World) → Comes image map (type_and bool_type no_types) (λ x. x ≡ w) (string_empty os w) (value view empty_code)
  emptied h w = one_object image map view (type_and bool_type no_types) (λ x. x ≡ w) (value view empty_code) string_type (λ a. with_string a (λ s. gives_bool (is_empty s))) os w h (λ o u p s.
      as_string (λ out. Comes image map (type_and bool_type no_types) (λ x. x ≡ w) out (value view empty_code)) tt o (λ s. gives_bool (is_empty s)) w (λ bytes e.
      let is = subst (λ a. Bare image map a u) e s in
      given_bool image map (is_empty bytes) (op_word op.Equal (length bytes) 0) w (value view empty_code) (empty_is view u (length bytes) p (size_word bytes u is)) (none_left bytes)))

  -- the byte at an index, or bounds
  at_place : (bytes : List ℕ) (u v : ℕ) (i : ℤ) (w : World) → view.slot 0 ≡ Some u → view.slot 1 ≡ Some v → IsString map bytes u → IsInt i v → (z : ℤ) → i -ℤ pos 1 ≡ z →
      Comes image map (type_and char_type no_types) (λ x. x ≡ w) (or_signals signal.Bounds (item_after bytes z) (λ c. gives (char_object c)) w) (value view string_fetch_code)
  unfolding or_signals signals_with gives_all trap_name
  at_place bytes u v i w p q s n (pos k) e = by (slice_get bytes k) refl
    where
      is : value view string_fetch_code ≡ fetched view u v (length bytes)
      is = fetch_is view u v (length bytes) p q (size_word bytes u s)

      by : (r : Option ℕ) → slice_get bytes k ≡ r → Comes image map (type_and char_type no_types) (λ x. x ≡ w) (or_signals signal.Bounds r (λ c. gives (char_object c)) w) (value view string_fetch_code)
      by (Some c) there = subst (λ x. Comes image map (type_and char_type no_types) (λ x. x ≡ w) (gives (char_object c) w) x)
          (sym (is ∙ ap (λ x. fetched view u x (length bytes)) (n.word_is ∙ place_word i k n.is_one e) ∙ fetch_finds view u k (length bytes) c (within bytes k c there) (string_end bytes u s)
          (ap view.byte (sum u k) ∙ bytes_found map view seen (u + 8) 0 k c bytes s.bytes_are there)))
          ((refl, byte_is_char map view seen (u + 8) 0 k c bytes s.bytes_are there), refl)
        where
          sum : (u k : ℕ) → u + 8 + k ≡ u + 8 + (0 + k)
          sum u k = omega arith
      by None there = subst (λ x. Comes image map (type_and char_type no_types) (λ x. x ≡ w) (or_signals signal.Bounds None (λ c. gives (char_object c)) w) x)
          (sym (is ∙ fetch_traps view u v (length bytes) k (ap (λ x. op_word op.Sub x 1) n.word_is ∙ index_from i (pos 1) k n.is_one refl e) (beyond bytes k there)))
          (refl, refl)
  at_place bytes u v i w p q s n (negsuc k) e = subst (λ x. Comes image map (type_and char_type no_types) (λ x. x ≡ w) (or_signals signal.Bounds None (λ c. gives (char_object c)) w) x)
      (sym (fetch_is view u v (length bytes) p q (size_word bytes u s) ∙ fetch_traps view u v (length bytes) (op_word op.Sub (word i) 1) (ap (λ x. op_word op.Sub x 1) n.word_is)
      (index_below i (pos 1) k (length bytes) n.is_one refl (high (length bytes) (string_end bytes u s)) e)))
      (refl, refl)
    where
      high : (n : ℕ) → u + 8 + n ≤ 2 ^ 63 → (pos 1 +ℤ pos n) ≤ℤ pos (2 ^ 63)
      high n l = omega (arith, ints, l)

  fetches : InSlots image map view (type_and string_type (type_and int_type no_types)) 0 os → (w : World) → Comes image map (type_and char_type no_types) (λ x. x ≡ w) (string_fetch os w) (value view string_fetch_code)
  fetches h w = two_objects image map view (type_and char_type no_types) (λ x. x ≡ w) (value view string_fetch_code) string_type int_type
      (λ a b. with_string a (λ s. with_int b (λ i. or_signals signal.Bounds (item_at (pos 1) s i) (λ c. gives (char_object c))))) os w h (λ a b u v p q k l.
      as_string (λ out. Comes image map (type_and char_type no_types) (λ x. x ≡ w) out (value view string_fetch_code)) tt a (λ s. with_int b (λ i. or_signals signal.Bounds (item_at (pos 1) s i) (λ c. gives (char_object c)))) w (λ bytes e.
      as_int (λ out. Comes image map (type_and char_type no_types) (λ x. x ≡ w) out (value view string_fetch_code)) tt b (λ i. or_signals signal.Bounds (item_at (pos 1) bytes i) (λ c. gives (char_object c))) w (λ i g.
      at_place bytes u v i w p q (subst (λ o. Bare image map o u) e k) (subst (λ o. Bare image map o v) g l) (i -ℤ pos 1) refl)))

pub string_loads_right : Each (Right string_type) string_load_rows
string_loads_right = (
  λ image map view os w around h. row_does image map (value view size_code) string_type (codes "size") os w (sized image map view around.seen os h),
  (
    λ image map view os w around h. row_does image map (value view empty_code) string_type (codes "empty") os w (emptied image map view around.seen os h),
    (
      λ image map view os w around h. row_does image map (value view string_fetch_code) string_type (codes "fetch") os w (fetches image map view around.seen os h),
      tt,
    ),
  ),
)
