-- The operations of arrays that are values and look into one: its bounds, and its elements in the circular room.
use Rattle.std.proofs.Common.{◌≡◌, ℕ, ℤ, zero, suc, ◌+◌, ◌-◌, ◌*◌, ◌%◌, ◌^◌, ◌<◌, ◌≤◌, Bool, true, false, ◌&&◌, ◌==◌, List, [], ◌∷◌, length, Option, None, Some, slice_get, refl, sym, ap, ◌∙◌, subst, arith, pos, negsuc, ◌+ℤ◌, ◌-ℤ◌, ◌≤ℤ◌, ◌⊎◌, inl, inr, if◌then◌else◌}
use Rattle.std.specs.Prelude.{codes}
use Rattle.std.proofs.lemmas.Int.{ints}
use Rattle.clu_types.specs.CluType.{CluType, CluTypes, no_types, type_and, array_of, bool_type, int_type}
use Rattle.clu_builtin.specs.declared.names.Signal.TheVariants as signal
use Rattle.clu_layout.specs.Objects.{Array, Cell, Object, array_cell, own_type, own_types, record_cell, reference, variant_cell}
use Rattle.clu_layout.specs.Places.{is_int, high_of, is_empty, first_item, item_after, item_at, last_item}
use Rattle.clu_layout.specs.Primitive.{may_be_argument, may_be_arguments}
use Rattle.clu_layout.specs.SameType.{same_type}
use Rattle.clu_layout.specs.Actions.{Action, World, Outcome, as_array, gives, gives_all, gives_bool, gives_int, gives_size, no_case, or_signals, signals_with, with_array, with_int, wrong}
use Rattle.clu_layout.specs.ArrayOperations.{one_array, array_fetch}
use Rattle.clu_layout.proofs.SameTypeLaws.{types_are}
use Rattle.clu_wir.specs.declared.expression.WOp.TheVariants as op
use Rattle.clu_wir.specs.declared.trap.Trap.TheVariants as trap
use Rattle.clu_wir.specs.Traps.{trap_name}
use Rattle.clu_wir.specs.Value.{Value, View, Gives, Raises, value, meant, binds, of_option, op_word, by_truth, then_word}
use Rattle.clu_representation.specs.Layout.{Image, Layout}
use Rattle.clu_representation.specs.Shown.{At, Bare, IsInt}
use Rattle.clu_representation.specs.Held.{Heap, IsArray, distance}
use Rattle.clu_representation.specs.Stored.{Seen}
use Rattle.clu_representation.proofs.ArrayPuts.{in_room}
use Rattle.laws_operations.specs.Comes.{Comes, InSlots}
use Rattle.laws_operations.specs.Rows.{Each, Right}
use Rattle.laws_operations.specs.LoadCodes.{array_bottom_code, array_empty_code, array_fetch_code, array_rows, array_size_code, array_top_code, high_code, low_code}
use Rattle.laws_operations.proofs.Arguments.{as_cell, as_int, one_fitting, two_fitting}
use Rattle.laws_operations.proofs.Doing.{row_does_for}
use Rattle.laws_operations.proofs.Finding.{beyond, cell_is_somebodys, index_below, index_from, none_left, own_found, truth, untruth, within}
use Rattle.laws_operations.proofs.PlainValues.{given_bool}
use Rattle.laws_operations.proofs.Results.{gives_int_word, less_of, small_is_int}
use Rattle.laws_operations.proofs.SequenceLoads.{fits_only}
use Rattle.laws_operations.proofs.Words.{by_some, word}

-- ---- the array of a reference

as_cell_array : (P : Outcome → Type 0) → P wrong → (r : Option Cell) (rest : Array → Action) (w : World) → ((a : Array) → r ≡ Some (array_cell a) → P (rest a w)) → P (as_array r rest w)
unfolding as_array no_case
as_cell_array P z None rest w f = z
as_cell_array P z (Some (array_cell a)) rest w f = f a refl
as_cell_array P z (Some (record_cell fs os)) rest w f = z
as_cell_array P z (Some (variant_cell fs tag o)) rest w f = z

pub of_cell_array : (P : Outcome → Type 0) → P wrong → (o : Object) (rest : ℕ → Array → Action) (w : World) →
    ((t : CluType) (c : ℕ) (a : Array) → o ≡ reference t c → slice_get w.cells c ≡ Some (array_cell a) → P (rest c a w)) → P (with_array o rest w)
unfolding with_array
of_cell_array P z o rest w f = as_cell P z o (λ c w. as_array (slice_get w.cells c) (rest c) w) w (λ t c e. as_cell_array P z (slice_get w.cells c) (rest c) w (λ a is. f t c a e is))

abbrev element_of : CluType → CluType
element_of (array_of t) = t
element_of t = t

-- an array that may be an argument has elements of the type
pub same_elements : (s t : CluType) (a : Array) (k : CluType) → k ≡ s → k ≡ array_of a.element → may_be_argument (array_of t) s (array_of t) ≡ true → a.element ≡ t
same_elements s t a k e g fit =
    ap element_of (types_are (array_of a.element) (array_of t) (fits_only (same_type a.element t) (subst (λ x. may_be_argument (array_of t) x (array_of t) ≡ true) (sym e ∙ g) fit)))

-- ---- what the code means, by the words of the array

-- the words of an array that code finds
pub record Header (view : View) (u low size room first block : ℕ) : Type 0 where
  pub low_is : view.word ((u + 0) % 2 ^ 64) ≡ Some low
  pub size_is : view.word ((u + 8) % 2 ^ 64) ≡ Some size
  pub room_is : view.word ((u + 16) % 2 ^ 64) ≡ Some room
  pub first_is : view.word ((u + 24) % 2 ^ 64) ≡ Some first
  pub block_is : view.word ((u + 32) % 2 ^ 64) ≡ Some block

-- the address of the element at a place, as the code reckons it
abbrev reckoned : ℕ → ℕ → ℕ → ℕ
reckoned block p room = op_word op.Add block (op_word op.Sll (if op_word op.Sltu p room == 0 then op_word op.Sub p room else p) 3)

abbrev pub place_in : ℕ → ℕ → ℕ → ℕ → Value
place_in n room first block =
    then_word (then_word (by_truth (op_word op.Sltu (op_word op.Add first n) room) (Gives (op_word op.Add first n)) (Gives (op_word op.Sub (op_word op.Add first n) room))) (λ p. Gives (op_word op.Sll p 3)))
    (λ p. Gives (op_word op.Add block p))

abbrev loaded : View → Value → Value
loaded view address = then_word address (λ a. of_option (view.word ((a + 0) % 2 ^ 64)))

abbrev fetched : View → ℕ → ℕ → ℕ → ℕ → ℕ → Value
fetched view n size room first block = loaded view (by_truth (op_word op.Sltu n size) (place_in n room first block) (Raises trap.Bounds))

fetch_is : (view : View) (u v low size room first block : ℕ) → view.slot 0 ≡ Some u → view.slot 1 ≡ Some v → Header view u low size room first block →
    value view array_fetch_code ≡ fetched view (op_word op.Sub v low) size room first block
unfolding meant binds
fetch_is view u v low size room first block p q h = rw (p, q, h.low_is, h.size_is, h.first_is, h.block_is, h.room_is) refl

abbrev top : View → ℕ → ℕ → ℕ → ℕ → Value
top view size room first block = by_truth size (loaded view (place_in (op_word op.Sub size 1) room first block)) (Raises trap.Bounds)

top_is : (view : View) (u low size room first block : ℕ) → view.slot 0 ≡ Some u → Header view u low size room first block → value view array_top_code ≡ top view size room first block
unfolding meant binds
top_is view u low size room first block p h = rw (p, h.size_is, h.first_is, h.block_is, h.room_is) refl

abbrev bottom : View → ℕ → ℕ → ℕ → Value
bottom view size first block = by_truth size (of_option (view.word ((op_word op.Add block (op_word op.Sll first 3) + 0) % 2 ^ 64))) (Raises trap.Bounds)

bottom_is : (view : View) (u low size room first block : ℕ) → view.slot 0 ≡ Some u → Header view u low size room first block → value view array_bottom_code ≡ bottom view size first block
unfolding meant binds
bottom_is view u low size room first block p h = rw (p, h.size_is, h.first_is, h.block_is) refl

size_is : (view : View) (u n : ℕ) → view.slot 0 ≡ Some u → view.word ((u + 8) % 2 ^ 64) ≡ Some n → value view array_size_code ≡ Gives n
unfolding meant
size_is view u n p e = rw (p, e) refl

low_is : (view : View) (u n : ℕ) → view.slot 0 ≡ Some u → view.word ((u + 0) % 2 ^ 64) ≡ Some n → value view low_code ≡ Gives n
unfolding meant
low_is view u n p e = rw (p, e) refl

high_is : (view : View) (u low n : ℕ) → view.slot 0 ≡ Some u → view.word ((u + 0) % 2 ^ 64) ≡ Some low → view.word ((u + 8) % 2 ^ 64) ≡ Some n → value view high_code ≡ Gives (op_word op.Sub (op_word op.Add low n) 1)
unfolding meant binds
high_is view u low n p e g = rw (p, e, g) refl

empty_is : (view : View) (u n : ℕ) → view.slot 0 ≡ Some u → view.word ((u + 8) % 2 ^ 64) ≡ Some n → value view array_empty_code ≡ Gives (op_word op.Equal n 0)
unfolding meant
empty_is view u n p e = rw (p, e) refl

-- ---- places in the circular room

circular : (block first n room : ℕ) → n < room → first ≤ room - 1 → block + 8 * room ≤ 2 ^ 63 → reckoned block (op_word op.Add first n) room ≡ block + 8 * ((first + n) % room)
circular block first n room l f m = by (in_room first n room l f)
  where
    sum : op_word op.Add first n ≡ first + n
    sum = omega (arith, l, f, m)

    by : ((first + n < room) × ((first + n) % room ≡ first + n)) ⊎ ((room ≤ first + n) × ((first + n) % room ≡ first + n - room)) → reckoned block (op_word op.Add first n) room ≡ block + 8 * ((first + n) % room)
    by (inl (less, here)) = ap (λ q. reckoned block q room) sum ∙ ap (λ b. op_word op.Add block (op_word op.Sll (if b then op_word op.Sub (first + n) room else first + n) 3)) (truth (first + n) room less)
        ∙ omega (arith, here, less, m)
    by (inr (more, here)) = ap (λ q. reckoned block q room) sum ∙ ap (λ b. op_word op.Add block (op_word op.Sll (if b then op_word op.Sub (first + n) room else first + n) 3)) (untruth (first + n) room more)
        ∙ omega (arith, here, l, f, more, m)

pushed : (b : Bool) (p q : ℕ) (f : ℕ → ℕ) → then_word (if b then Gives q else Gives p) (λ n. Gives (f n)) ≡ Gives (f (if b then q else p))
pushed true p q f = refl
pushed false p q f = refl

pub place_is : (n room first block : ℕ) → n < room → first ≤ room - 1 → block + 8 * room ≤ 2 ^ 63 → place_in n room first block ≡ Gives (block + 8 * ((first + n) % room))
place_is n room first block l f m =
    let p = op_word op.Add first n in
    ap (λ x. then_word x (λ q. Gives (op_word op.Add block q))) (pushed (op_word op.Sltu p room == 0) p (op_word op.Sub p room) (λ q. op_word op.Sll q 3))
    ∙ ap Gives (circular block first n room l f m)

load_finds : (view : View) (address : Value) (a v : ℕ) → address ≡ Gives a → a + 8 ≤ 2 ^ 63 → view.word a ≡ Some v → loaded view address ≡ Gives v
load_finds view address a v e l there = ap (loaded view) e ∙ ap (λ n. of_option (view.word n)) (same a l) ∙ ap of_option there
  where
    same : (a : ℕ) → a + 8 ≤ 2 ^ 63 → (a + 0) % 2 ^ 64 ≡ a
    same a l = omega (arith, l)

fetch_traps : (view : View) (n size room first block : ℕ) → size ≤ n → fetched view n size room first block ≡ Raises trap.Bounds
fetch_traps view n size room first block l = ap (λ b. loaded view (if b then Raises trap.Bounds else place_in n room first block)) (untruth n size l)

fetch_finds : (view : View) (n size room first block v : ℕ) → n < size → loaded view (place_in n room first block) ≡ Gives v → fetched view n size room first block ≡ Gives v
fetch_finds view n size room first block v l e = ap (λ b. loaded view (if b then Raises trap.Bounds else place_in n room first block)) (truth n size l) ∙ e

-- ---- bounds of arrays are ints

pub third_true : (a b c : Bool) → a && b && c ≡ true → c ≡ true
third_true true true c e = e
third_true true false c e = absurd (cc e)
third_true false b c e = absurd (cc e)

pub high_fits : (low z : ℤ) (n : ℕ) → z ≡ (low +ℤ pos n) -ℤ pos 1 → is_int z ≡ true → (low +ℤ pos n) ≤ℤ pos (2 ^ 63)
high_fits low (pos m) n e h = omega (arith, ints, e, less_of m (2 ^ 63) h)
high_fits low (negsuc m) n e h = omega (arith, ints, e)

pub high_word : (low z : ℤ) (n : ℕ) → is_int low ≡ true → n < 2 ^ 61 → z ≡ (low +ℤ pos n) -ℤ pos 1 → is_int z ≡ true → op_word op.Sub (op_word op.Add (word low) n) 1 ≡ word z
high_word (pos a) (pos m) n p l e h = omega (arith, ints, less_of a (2 ^ 63) p, l, e, less_of m (2 ^ 63) h)
high_word (pos a) (negsuc m) n p l e h = omega (arith, ints, less_of a (2 ^ 63) p, l, e, less_of m (2 ^ 63) h)
high_word (negsuc a) (pos m) n p l e h = omega (arith, ints, less_of a (2 ^ 63) p, l, e, less_of m (2 ^ 63) h)
high_word (negsuc a) (negsuc m) n p l e h = omega (arith, ints, less_of a (2 ^ 63) p, l, e, less_of m (2 ^ 63) h)

module _ (image : Image) (map : Layout) (view : View) (seen : Seen map view) (c : ℕ) (a : Array) (h : IsArray image map c a) (u : ℕ) (at : u ≡ map.address c) where
  pub header : Header view u h.low (length a.items) a.room h.first h.block
  header = record {
    low_is = own_found map view seen u 0 c (map.address c) h.low (plus_none u (map.address c) at) h.holds_low;
    size_is = own_found map view seen u 8 c (map.address c + 8) (length a.items) (sym (ap (λ n. n + 8) at)) h.size;
    room_is = own_found map view seen u 16 c (map.address c + 16) a.room (sym (ap (λ n. n + 16) at)) h.room;
    first_is = own_found map view seen u 24 c (map.address c + 24) h.first (sym (ap (λ n. n + 24) at)) h.holds_first;
    block_is = own_found map view seen u 32 c (map.address c + 32) h.block (sym (ap (λ n. n + 32) at)) h.holds_block;
  }
    where
      plus_none : (u a : ℕ) → u ≡ a → a ≡ u + 0
      plus_none u a e = omega (arith, e)

  -- the room lies in the store
  pub room_end : (r : ℕ) → r ≡ a.room → 0 < r → h.block + 8 * a.room ≤ 2 ^ 63
  room_end zero e l = absurd (omega (arith, l))
  room_end (suc r) e l = omega (arith, e, seen.below (h.block + 8 * r) (cell_is_somebodys map c (h.block + 8 * r) (h.whole_room r (omega (arith, e)))))

  pub room_small : a.room < 2 ^ 61
  room_small = by a.room refl
    where
      by : (r : ℕ) → r ≡ a.room → a.room < 2 ^ 61
      by zero e = omega (arith, e)
      by (suc r) e = omega (arith, room_end (suc r) e (omega arith))

  -- an element
  record Element (i : ℕ) (t : CluType) (o : Object) : Type 0 where
    v : ℕ
    here : loaded view (place_in i a.room h.first h.block) ≡ Gives v
    raw : view.word (h.block + distance h.first i a.room) ≡ Some v
    shown : At image map t o v

  element : (i : ℕ) (t : CluType) (o : Object) → a.element ≡ t → slice_get a.items i ≡ Some o → Element i t o
  element i t o same there =
      let cell = h.items i o there in
      let p = h.block + distance h.first i a.room in
      let mine = cell_is_somebodys map c p cell.whose in
      let inside : i < a.room = omega (arith, within a.items i o there, h.enough) in
      record {
        v = map.word p;
        here = load_finds view (place_in i a.room h.first h.block) p (map.word p) (place_is i a.room h.first h.block inside h.first_inside (room_end a.room refl (omega (arith, inside)))) (seen.below p mine) (seen.words p mine);
        raw = seen.words p mine;
        shown = subst (λ t. At image map t o (map.word p)) same cell.shown;
      }

  module _ (t : CluType) (same : a.element ≡ t) (w : World) where
    abbrev Given : Action → Value → Type 0
    Given action value = Comes image map (type_and t no_types) (λ x. x ≡ w) (action w) value

    bounds : (value : Value) → value ≡ Raises trap.Bounds → Given (or_signals signal.Bounds None gives) value
    unfolding or_signals signals_with trap_name
    bounds value e = subst (λ x. Given (or_signals signal.Bounds None gives) x) (sym e) (refl, refl)

    element_given : (i : ℕ) (o : Object) (value : Value) (e : Element i t o) → value ≡ Gives e.v → Given (or_signals signal.Bounds (Some o) gives) value
    unfolding or_signals gives_all
    element_given i o value e g = subst (λ x. Given (or_signals signal.Bounds (Some o) gives) x) (sym g) (e.shown, refl)

    at_place : (v : ℕ) (i : ℤ) → view.slot 0 ≡ Some u → view.slot 1 ≡ Some v → IsInt i v → (z : ℤ) → i -ℤ a.low ≡ z →
        Given (or_signals signal.Bounds (item_after a.items z) gives) (value view array_fetch_code)
    at_place v i p q n (pos k) e = by (slice_get a.items k) refl
      where
        is : value view array_fetch_code ≡ fetched view k (length a.items) a.room h.first h.block
        is = fetch_is view u v h.low (length a.items) a.room h.first h.block p q header
            ∙ ap (λ m. fetched view m (length a.items) a.room h.first h.block) ((λ j. op_word op.Sub (n.word_is j) (h.low_is.word_is j)) ∙ index_from i a.low k n.is_one h.low_is.is_one e)

        by : (r : Option Object) → slice_get a.items k ≡ r → Given (or_signals signal.Bounds r gives) (value view array_fetch_code)
        by (Some o) there = let it = element k t o same there in
            element_given k o (value view array_fetch_code) it (is ∙ fetch_finds view k (length a.items) a.room h.first h.block it.v (within a.items k o there) it.here)
        by None there = bounds (value view array_fetch_code) (is ∙ fetch_traps view k (length a.items) a.room h.first h.block (beyond a.items k there))
    at_place v i p q n (negsuc k) e = bounds (value view array_fetch_code)
        (fetch_is view u v h.low (length a.items) a.room h.first h.block p q header
        ∙ fetch_traps view (op_word op.Sub v h.low) (length a.items) a.room h.first h.block
        (subst (λ m. length a.items ≤ m) (sym (λ j. op_word op.Sub (n.word_is j) (h.low_is.word_is j)))
        (index_below i a.low k (length a.items) n.is_one h.low_is.is_one (high_fits a.low ((a.low +ℤ pos (length a.items)) -ℤ pos 1) (length a.items) refl
        (third_true (is_int (a.low -ℤ pos 1)) (is_int a.low) (is_int (high_of a.low a.items)) h.bounds)) e)))

    first_given : view.slot 0 ≡ Some u → (ys : List Object) → a.items ≡ ys → Given (or_signals signal.Bounds (first_item ys) gives) (value view array_bottom_code)
    first_given p [] e = bounds (value view array_bottom_code) (bottom_is view u h.low (length a.items) a.room h.first h.block p header ∙ ap (λ ys. bottom view (length ys) h.first h.block) e)
    first_given p (o ∷ ys) e =
        let it = element 0 t o same (ap (λ zs. slice_get zs 0) e) in
        element_given 0 o (value view array_bottom_code) it
        (bottom_is view u h.low (length a.items) a.room h.first h.block p header ∙ ap (λ ys. bottom view (length ys) h.first h.block) e
        ∙ by_some (suc (length ys)) (of_option (view.word ((op_word op.Add h.block (op_word op.Sll h.first 3) + 0) % 2 ^ 64))) (Raises trap.Bounds) (omega arith)
        ∙ ap (λ n. of_option (view.word n)) (front (omega (arith, h.enough, ap length e)))
        ∙ ap of_option it.raw)
      where
        front : 0 < a.room → (op_word op.Add h.block (op_word op.Sll h.first 3) + 0) % 2 ^ 64 ≡ h.block + distance h.first 0 a.room
        front l = by (in_room h.first 0 a.room l h.first_inside)
          where
            end : h.block + 8 * a.room ≤ 2 ^ 63
            end = room_end a.room refl l

            by : ((h.first + 0 < a.room) × ((h.first + 0) % a.room ≡ h.first + 0)) ⊎ ((a.room ≤ h.first + 0) × ((h.first + 0) % a.room ≡ h.first + 0 - a.room)) →
                (op_word op.Add h.block (op_word op.Sll h.first 3) + 0) % 2 ^ 64 ≡ h.block + distance h.first 0 a.room
            by (inl (less, here)) = omega (arith, here, less, end)
            by (inr (more, here)) = absurd (omega (arith, more, h.first_inside, l))

    last_given : view.slot 0 ≡ Some u → (r : Option Object) → last_item a.items ≡ r → (n : ℕ) → length a.items ≡ n → Given (or_signals signal.Bounds r gives) (value view array_top_code)
    last_given p None e zero g = bounds (value view array_top_code) (top_is view u h.low (length a.items) a.room h.first h.block p header ∙ ap (λ n. top view n a.room h.first h.block) g)
    last_given p None e (suc n) g = absurd (omega (arith, beyond a.items (length a.items - 1) e, g))
    last_given p (Some o) e zero g = absurd (omega (arith, within a.items (length a.items - 1) o e, g))
    last_given p (Some o) e (suc n) g =
        let it = element n t o same (ap (slice_get a.items) (sym (less (length a.items) g)) ∙ e) in
        element_given n o (value view array_top_code) it
        (top_is view u h.low (length a.items) a.room h.first h.block p header ∙ ap (λ n. top view n a.room h.first h.block) g
        ∙ by_some (suc n) (loaded view (place_in (op_word op.Sub (suc n) 1) a.room h.first h.block)) (Raises trap.Bounds) (omega arith)
        ∙ ap (λ m. loaded view (place_in m a.room h.first h.block)) (one_less n (omega (arith, g, h.enough, room_small))) ∙ it.here)
      where
        less : (m : ℕ) → m ≡ suc n → m - 1 ≡ n
        less m g = omega (arith, g)

        one_less : (n : ℕ) → suc n < 2 ^ 61 → op_word op.Sub (suc n) 1 ≡ n
        one_less n l = omega (arith, l)

  -- ---- bounds and size

  sized : (w : World) → view.slot 0 ≡ Some u → Comes image map (type_and int_type no_types) (λ x. x ≡ w) (gives_size a.items w) (value view array_size_code)
  sized w p = gives_int_word image map (pos (length a.items)) w (value view array_size_code) (small_is_int (length a.items) (omega (arith, h.enough, room_small))) (size_is view u (length a.items) p header.size_is)

  lowest : (w : World) → view.slot 0 ≡ Some u → Comes image map (type_and int_type no_types) (λ x. x ≡ w) (gives_int a.low w) (value view low_code)
  lowest w p = gives_int_word image map a.low w (value view low_code) h.low_is.is_one (low_is view u h.low p header.low_is ∙ ap Gives h.low_is.word_is)

  highest : (w : World) → view.slot 0 ≡ Some u → Comes image map (type_and int_type no_types) (λ x. x ≡ w) (gives_int (high_of a.low a.items) w) (value view high_code)
  highest w p =
      let int = third_true (is_int (a.low -ℤ pos 1)) (is_int a.low) (is_int (high_of a.low a.items)) h.bounds in
      gives_int_word image map (high_of a.low a.items) w (value view high_code) int
      (high_is view u h.low (length a.items) p header.low_is header.size_is ∙ ap (λ n. Gives (op_word op.Sub (op_word op.Add n (length a.items)) 1)) h.low_is.word_is
      ∙ ap Gives (high_word a.low (high_of a.low a.items) (length a.items) h.low_is.is_one (omega (arith, h.enough, room_small)) refl int))

  emptied : (w : World) → view.slot 0 ≡ Some u → Comes image map (type_and bool_type no_types) (λ x. x ≡ w) (gives_bool (is_empty a.items) w) (value view array_empty_code)
  emptied w p = given_bool image map (is_empty a.items) (op_word op.Equal (length a.items) 0) w (value view array_empty_code) (empty_is view u (length a.items) p header.size_is) (none_left a.items)

-- ---- the rows

module _ (image : Image) (map : Layout) (view : View) (seen : Seen map view) (cells : List Cell) (heap : Heap image map cells) (t : CluType) (os : List Object) where
  abbrev Fits : CluTypes → Type 0
  Fits types = may_be_arguments (array_of t) (own_types os) types ≡ true

  -- an operation of an array alone
  of_array : (results : CluTypes) (value : Value) (rest : ℕ → Array → Action) → InSlots image map view (type_and (array_of t) no_types) 0 os → Fits (type_and (array_of t) no_types) → (w : World) → w.cells ≡ cells →
      ((c : ℕ) (a : Array) (h : IsArray image map c a) (u : ℕ) → u ≡ map.address c → a.element ≡ t → view.slot 0 ≡ Some u → Comes image map results (λ x. x ≡ w) (rest c a w) value) →
      Comes image map results (λ x. x ≡ w) (one_array os rest w) value
  of_array results value rest s fit w same f = one_fitting image map view results (λ x. x ≡ w) value (array_of t) (array_of t) (λ r. with_array r rest) os w s fit (λ o u p k g.
      of_cell_array (λ out. Comes image map results (λ x. x ≡ w) out value) tt o rest w (λ r c a e is.
      let is_here = heap c (array_cell a) (subst (λ cs. slice_get cs c ≡ Some (array_cell a)) same is) in
      let shown = subst (λ b. Bare image map b u) e k in
      f c a is_here u shown.1.at (same_elements r t a (map.kind c) shown.1.type_is is_here.type_is (subst (λ b. may_be_argument (array_of t) (own_type b) (array_of t) ≡ true) e g)) p))

  fetches : InSlots image map view (type_and (array_of t) (type_and int_type no_types)) 0 os → Fits (type_and (array_of t) (type_and int_type no_types)) → (w : World) → w.cells ≡ cells →
      Comes image map (type_and t no_types) (λ x. x ≡ w) (array_fetch os w) (value view array_fetch_code)
  fetches s fit w same = two_fitting image map view (type_and t no_types) (λ x. x ≡ w) (value view array_fetch_code) (array_of t) (array_of t) int_type
      (λ r b. with_array r (λ c a. with_int b (λ i. or_signals signal.Bounds (item_at a.low a.items i) gives))) os w s fit (λ o b u v p q k l g.
      of_cell_array (λ out. Comes image map (type_and t no_types) (λ x. x ≡ w) out (value view array_fetch_code)) tt o (λ c a. with_int b (λ i. or_signals signal.Bounds (item_at a.low a.items i) gives)) w (λ r c a e is.
      let is_here = heap c (array_cell a) (subst (λ cs. slice_get cs c ≡ Some (array_cell a)) same is) in
      let shown = subst (λ b. Bare image map b u) e k in
      as_int (λ out. Comes image map (type_and t no_types) (λ x. x ≡ w) out (value view array_fetch_code)) tt b (λ i. or_signals signal.Bounds (item_at a.low a.items i) gives) w (λ i d.
      at_place image map view seen c a is_here u shown.1.at t (same_elements r t a (map.kind c) shown.1.type_is is_here.type_is (subst (λ b. may_be_argument (array_of t) (own_type b) (array_of t) ≡ true) e g)) w
      v i p q (subst (λ o. Bare image map o v) d l) (i -ℤ a.low) refl)))

pub arrays_right : (t : CluType) → Each (Right (array_of t)) array_rows
arrays_right t = (
  λ image map view os w around s. row_does_for image map (value view array_size_code) (array_of t) (codes "size") os w (λ fit v same. of_array image map view around.seen w.cells around.heap t os (type_and int_type no_types) (value view array_size_code) (λ c a. gives_size a.items) s fit v same
      (λ c a h u at k p. sized image map view around.seen c a h u at v p)),
  (
    λ image map view os w around s. row_does_for image map (value view low_code) (array_of t) (codes "low") os w (λ fit v same. of_array image map view around.seen w.cells around.heap t os (type_and int_type no_types) (value view low_code) (λ c a. gives_int a.low) s fit v same
        (λ c a h u at k p. lowest image map view around.seen c a h u at v p)),
    (
      λ image map view os w around s. row_does_for image map (value view high_code) (array_of t) (codes "high") os w (λ fit v same. of_array image map view around.seen w.cells around.heap t os (type_and int_type no_types) (value view high_code) (λ c a. gives_int (high_of a.low a.items)) s fit v same
          (λ c a h u at k p. highest image map view around.seen c a h u at v p)),
      (
        λ image map view os w around s. row_does_for image map (value view array_empty_code) (array_of t) (codes "empty") os w (λ fit v same. of_array image map view around.seen w.cells around.heap t os (type_and bool_type no_types) (value view array_empty_code) (λ c a. gives_bool (is_empty a.items)) s fit v same
            (λ c a h u at k p. emptied image map view around.seen c a h u at v p)),
        (
          λ image map view os w around s. row_does_for image map (value view array_fetch_code) (array_of t) (codes "fetch") os w (λ fit v same. fetches image map view around.seen w.cells around.heap t os s fit v same),
          (
            λ image map view os w around s. row_does_for image map (value view array_bottom_code) (array_of t) (codes "bottom") os w (λ fit v same. of_array image map view around.seen w.cells around.heap t os (type_and t no_types) (value view array_bottom_code) (λ c a. or_signals signal.Bounds (first_item a.items) gives) s fit v same
                (λ c a h u at k p. first_given image map view around.seen c a h u at t k v p a.items refl)),
            (
              λ image map view os w around s. row_does_for image map (value view array_top_code) (array_of t) (codes "top") os w (λ fit v same. of_array image map view around.seen w.cells around.heap t os (type_and t no_types) (value view array_top_code) (λ c a. or_signals signal.Bounds (last_item a.items) gives) s fit v same
                  (λ c a h u at k p. last_given image map view around.seen c a h u at t k v p (last_item a.items) refl (length a.items) refl)),
              tt,
            ),
          ),
        ),
      ),
    ),
  ),
)
