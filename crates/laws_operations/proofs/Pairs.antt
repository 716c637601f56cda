-- Operations that make an object of two words: c2s, e2s, and make_s of oneofs.
use Rattle.std.proofs.Common.{◌≡◌, ℕ, suc, ◌+◌, ◌*◌, ◌/◌, ◌%◌, ◌^◌, ◌<◌, ◌≤◌, Bool, true, false, ◌&&◌, ◌==◌, nat_le, nat_lt, List, [], ◌∷◌, ◌++◌, None, Some, refl, sym, ap, ◌∙◌, subst, arith, bytes_eq, if◌then◌else◌}
use Rattle.std.specs.Prelude.{codes}
use Rattle.std.specs.Option.{option_map}
use Rattle.clu_types.specs.CluType.{CluType, CluTypes, Fields, no_fields, field_and, no_types, type_and, char_type, oneof_of, sequence_of, string_type}
use Rattle.clu_builtin.specs.Operation.{Operation, one, quiet}
use Rattle.clu_builtin.specs.Table.{of_selectors, oneof_selectors, operation, or_else}
use Rattle.clu_layout.specs.Objects.{Object, no_objects, object_and, oneof_object, sequence_object, string_object}
use Rattle.clu_layout.specs.Actions.{World, Outcome, returned, signalled, wrong, counts, gives_all, new_oneof, new_sequence, new_string, takes, with_char, with_one}
use Rattle.clu_layout.specs.OneofOperations.{oneof_make, oneof_selected}
use Rattle.clu_layout.specs.Primitive.{prim, primitive, words_for_all}
use Rattle.clu_wir.specs.Plain.{Stmts, slot, word}
use Rattle.clu_wir.specs.Value.{View, Gives, value, meant}
use Rattle.clu_word_meaning.specs.World.{grown, put_word}
use Rattle.clu_word_meaning.specs.World as memory
use Rattle.clu_word_meaning.specs.Words.{State, counted, ended, exec_all, put_slot, stores, turned, view, with_slots, with_world}
use Rattle.clu_word_meaning.specs.Words as meaning
use Rattle.clu_representation.specs.Layout.{Extends, Fixed, Image, Layout, SameCell, fixed, of_cell, with_word}
use Rattle.clu_representation.specs.Held.{Heap}
use Rattle.clu_representation.specs.Shown.{At, Bare, IsByte, KeptIf, byte_in, place_of_field, type_of_field}
use Rattle.clu_representation.specs.Stored.{Somebodys, Stored, WordPut, frozen, is_new, with_new_words}
use Rattle.clu_representation.proofs.Changes.{put_here, put_there}
use Rattle.clu_representation.proofs.Heaps.{heap_kept}
use Rattle.clu_representation.proofs.StaysShown.{at_on}
use Rattle.clu_representation.proofs.Taking.{Stays, stays_extends, stays_same, stored_frozen, words_taken}
use Rattle.clu_representation.proofs.Writing.{put_stored}
use Rattle.laws_operations.specs.Comes.{InSlots}
use Rattle.laws_operations.specs.Rows.{args_of, results_of}
use Rattle.laws_operations.specs.Steps.{HasRoom, Made, MadeOf, Makes, MakesOneofs, MakesRight, Place, c2s_row, e2s_row, pair_code}
use Rattle.laws_operations.proofs.Arguments.{as_char}
use Rattle.laws_operations.proofs.Doing.{doing, nothing_after, tried}
use Rattle.laws_operations.proofs.Invoking.{Returns, bound_in, returns_of}
use Rattle.laws_operations.proofs.Running.{allocate_step, leave_step, put_step}
use Rattle.laws_operations.proofs.Selected.{first_one, found}
use Rattle.laws_operations.proofs.Puts.{slot_value}
use Rattle.laws_operations.proofs.Sameness.{word_value}

-- ---- what the code does

-- an object of two words is made at the end of the store
record Pair (map : Layout) (place : Place) (n x : ℕ) (st : State) : Type 0 where
  now : State
  later : Layout
  goes : (k : ℕ) → exec_all place.linked place.entries place.body place.live (pair_code n) (4 + k) st ≡ ended (meaning.returned (st.world.next ∷ [])) k now
  extends : Extends map later
  same : (c : ℕ) → SameCell c map later
  stored : Stored later now.world
  first : Fixed later st.world.next n
  second : Fixed later (st.world.next + 8) x
  input_kept : now.world.input ≡ st.world.input
  output_kept : now.world.output ≡ st.world.output
  next : now.world.next ≡ st.world.next + 16
  steps : now.meters.steps ≡ st.meters.steps + 9
  most : now.meters.most ≡ st.meters.most

all_three : (x y z : Bool) → x ≡ true → y ≡ true → z ≡ true → x && y && z ≡ true
all_three x y z p q r = λ i. p i && q i && r i

new_place : (from at : ℕ) → at % 8 ≡ 0 → from ≤ at → at < from + 8 * 2 → is_new from 2 at ≡ true
new_place from at e l m = all_three (at % 8 == 0) (nat_le from at) (nat_lt at (from + 8 * 2)) (whole at e) (more from at l) (less at (from + 8 * 2) m)
  where
    whole : (a : ℕ) → a % 8 ≡ 0 → (a % 8 == 0) ≡ true
    whole a e = grind arith

    more : (a b : ℕ) → a ≤ b → nat_le a b ≡ true
    more a b l = grind arith

    less : (a b : ℕ) → a < b → nat_lt a b ≡ true
    less a b l = grind arith

module _ (map : Layout) (place : Place) (n x : ℕ) (st : State) (s : Stored map st.world) (here : st.slots 0 ≡ Some x) (x_fits : x < 2 ^ 64) (n_fits : n < 2 ^ 64) (room : st.world.next + 16 ≤ s.limit) where
  abbrev grew : memory.World
  grew = grown (8 * 2) st.world

  abbrev taken : Layout
  taken = with_new_words map st.world.next 2 (of_cell 0)

  taken_stored : Stored taken grew
  taken_stored = (words_taken map st.world 2 (of_cell 0) s room).2

  first_new : is_new st.world.next 2 st.world.next ≡ true
  first_new = new_place st.world.next st.world.next s.aligned (omega arith) (omega arith)

  second_new : is_new st.world.next 2 (st.world.next + 8) ≡ true
  second_new = new_place st.world.next (st.world.next + 8) (on st.world.next s.aligned) (omega arith) (omega arith)
    where
      on : (m : ℕ) → m % 8 ≡ 0 → (m + 8) % 8 ≡ 0
      on m e = omega (arith, e)

  mine : (p : ℕ) → is_new st.world.next 2 p ≡ true → taken.owner p ≡ of_cell 0
  mine p e = ap (λ t. if t then of_cell 0 else map.owner p) e

  one_put : WordPut taken grew st.world.next n
  one_put = put_stored taken grew st.world.next 0 n taken_stored (mine st.world.next first_new) n_fits

  abbrev with_one_word : Layout
  with_one_word = with_word taken st.world.next n

  two_put : WordPut with_one_word one_put.after (st.world.next + 8) x
  two_put = put_stored with_one_word one_put.after (st.world.next + 8) 0 x one_put.stored (mine (st.world.next + 8) second_new) x_fits

  abbrev with_both : Layout
  with_both = with_word with_one_word (st.world.next + 8) x

  abbrev pair_later : Layout
  pair_later = frozen st.world.next 2 with_both

  -- what was somebody's isn't new
  not_new : (p : ℕ) → Somebodys (map.owner p) → is_new st.world.next 2 p ≡ false
  not_new p k = by (is_new st.world.next 2 p) refl
    where
      by : (t : Bool) → is_new st.world.next 2 p ≡ t → is_new st.world.next 2 p ≡ false
      by true e = absurd (k (s.free p (after (nat_le st.world.next p) refl e)))
        where
          after : (t : Bool) → nat_le st.world.next p ≡ t → is_new st.world.next 2 p ≡ true → st.world.next ≤ p
          after true l e = more st.world.next p l
            where
              more : (a b : ℕ) → nat_le a b ≡ true → a ≤ b
              more a b l = grind arith
          after false l e = absurd (cc (sym (second_false (p % 8 == 0) (nat_le st.world.next p) (nat_lt p (st.world.next + 8 * 2)) l) ∙ e))
            where
              second_false : (x y z : Bool) → y ≡ false → x && y && z ≡ false
              second_false true y z e = λ i. e i && z
              second_false false y z e = refl
      by false e = e

  stays : Stays map pair_later
  stays = record {
    words = λ p k. (
      ap (λ t. if t then fixed else (if t then of_cell 0 else map.owner p)) (not_new p k),
      put_there with_one_word.word (st.world.next + 8) x p (λ e. k (s.free p (omega (arith, e)))) ∙ put_there taken.word st.world.next n p (λ e. k (s.free p (omega (arith, e)))) ∙ ap (λ t. if t then 0 else map.word p) (not_new p k),
    );
    address = λ c. refl;
    kind = λ c. refl;
  }

  abbrev st1 : State
  st1 = with_slots (put_slot 1 st.world.next) (stores (grown (2 * 8) st.world).next (with_world (grown (2 * 8) st.world) (counted 2 (counted 1 (turned st)))))

  abbrev st2 : State
  st2 = with_world one_put.after (counted 1 (counted 1 (turned st1)))

  abbrev st3 : State
  st3 = with_world two_put.after (counted 1 (counted 1 (turned st2)))

  abbrev pair_now : State
  pair_now = counted 1 (counted 1 (turned st3))

  below : st.world.next + 16 ≤ 2 ^ 63
  below = omega (arith, room, s.limited)

  pair_goes : (k : ℕ) → exec_all place.linked place.entries place.body place.live (pair_code n) (4 + k) st ≡ ended (meaning.returned (st.world.next ∷ [])) k pair_now
  pair_goes k =
      ap (λ turns. exec_all place.linked place.entries place.body place.live (pair_code n) turns st) (four k)
      ∙ allocate_step place.linked place.entries place.body place.live st (suc (suc (suc k))) 1 2 (word 2) _ (word_value (view place.linked st.slots st.world) 2)
      ∙ put_step place.linked place.entries place.body place.live st1 (suc (suc k)) 0 st.world.next n (slot 1) (word n) _ one_put.after (word_value (view place.linked st1.slots st1.world) n) (slot_value (view place.linked st1.slots st1.world) 1 st.world.next refl)
      (ap (λ p. put_word grew p n) (at_first st.world.next below) ∙ one_put.is)
      ∙ put_step place.linked place.entries place.body place.live st2 (suc k) 8 st.world.next x (slot 1) (slot 0) _ two_put.after (slot_value (view place.linked st2.slots st2.world) 0 x here) (slot_value (view place.linked st2.slots st2.world) 1 st.world.next refl)
      (ap (λ p. put_word one_put.after p x) (at_second st.world.next below) ∙ two_put.is)
      ∙ leave_step place.linked place.entries place.body place.live st3 k st.world.next (slot 1) _ (slot_value (view place.linked st3.slots st3.world) 1 st.world.next refl)
    where
      four : (k : ℕ) → 4 + k ≡ suc (suc (suc (suc k)))
      four k = omega arith

      at_first : (m : ℕ) → m + 16 ≤ 2 ^ 63 → (m + 0) % 2 ^ 64 ≡ m
      at_first m l = omega (arith, l)

      at_second : (m : ℕ) → m + 16 ≤ 2 ^ 63 → (m + 8) % 2 ^ 64 ≡ m + 8
      at_second m l = omega (arith, l)

  pair : Pair map place n x st
  pair = record {
    now = pair_now;
    later = pair_later;
    goes = pair_goes;
    extends = stays_extends map pair_later stays;
    same = stays_same map pair_later stays;
    stored = stored_frozen with_both two_put.after st.world.next 2 0 two_put.stored mine;
    first = record {
      whose = ap (λ t. if t then fixed else with_both.owner st.world.next) first_new;
      is = put_there with_one_word.word (st.world.next + 8) x st.world.next (λ e. omega (arith, e)) ∙ put_here taken.word st.world.next n;
    };
    second = record { whose = ap (λ t. if t then fixed else with_both.owner (st.world.next + 8)) second_new; is = put_here with_one_word.word (st.world.next + 8) x };
    input_kept = two_put.input_same ∙ one_put.input_same;
    output_kept = two_put.output_same ∙ one_put.output_same;
    next = two_put.next_same ∙ one_put.next_same;
    steps = nine st.meters.steps;
    most = refl;
  }
    where
      nine : (m : ℕ) → 1 + (1 + (1 + (1 + (1 + (1 + (2 + (1 + m))))))) ≡ m + 9
      nine m = omega arith

-- ---- what it makes

-- how the operation leaves the world in which it makes an object of two words
record Leaves (w after : World) : Type 0 where
  cells : after.cells ≡ w.cells
  input : after.input ≡ w.input
  output : after.output ≡ w.output
  words : w.words + 2 ≤ after.words
  work : w.work + 1 ≤ after.work

module _ (image : Image) (map : Layout) (place : Place) (n x : ℕ) (st : State) (s : Stored map st.world) (w after : World) (heap : Heap image map w.cells) (leaves : Leaves w after)
    (here : st.slots 0 ≡ Some x) (x_fits : x < 2 ^ 64) (n_fits : n < 2 ^ 64) (room : st.world.next + 8 * after.words ≤ s.limit + 8 * w.words) where
  enough : st.world.next + 16 ≤ s.limit
  enough = omega (arith, room, leaves.words)

  made : (t : CluType) (o : Object) → ((p : Pair map place n x st) → At image p.later t o st.world.next) → Made image map t place (pair_code n) st o w after
  made t o shows =
      let p = pair map place n x st s here x_fits n_fits enough in
      record {
        used = 4;
        now = p.now;
        v = st.world.next;
        later = p.later;
        goes = p.goes;
        extends = p.extends;
        stored = p.stored;
        heap = subst (λ cs. Heap image p.later cs) (sym leaves.cells) (heap_kept image map p.later w.cells p.extends p.same heap);
        shown = shows p;
        input_kept = p.input_kept;
        output_kept = p.output_kept;
        input_same = leaves.input;
        output_same = leaves.output;
        store = omega (arith, p.next, leaves.words);
        steps = omega (arith, p.steps, leaves.work);
        most = p.most;
      }

-- ---- the rows

module _ (image : Image) (map : Layout) (place : Place) (code : Stmts) (w : World) (st : State) (limit : ℕ) where
  -- with room for what it takes
  abbrev Q : CluTypes → List Object → World → Type 0
  Q types os after = st.world.next + 8 * after.words ≤ limit + 8 * w.words → MadeOf image map types place code st os w after

  with_room : (types : CluTypes) (out : Outcome) → HasRoom limit st w out → Returns (Q types) out → Makes image map types place code st w out
  with_room types (returned os after) room h = h room
  with_room types (signalled name os after) room h = h
  with_room types wrong room h = tt

pub one_argument : (P : Outcome → Type 0) (image : Image) (map : Layout) (view : View) (t : CluType) (rest : Object → World → Outcome) (os : List Object) (w : World) → InSlots image map view (type_and t no_types) 0 os →
    ((o : Object) (u : ℕ) → view.slot 0 ≡ Some u → At image map t o u → P (rest o w)) → P (with_one os rest w)
unfolding with_one
one_argument P image map view t rest [] w h f = absurd h
one_argument P image map view t rest (o ∷ []) w ((u, p, k), h) f = f o u p k
one_argument P image map view t rest (o ∷ b ∷ os) w (k, h) f = absurd h

-- a string of one char
char_shown : (image : Image) (later : Layout) (a c : ℕ) → c < 256 → Fixed later a 1 → Fixed later (a + 8) c → Bare image later (string_object (c ∷ [])) a
char_shown image later a c l f g = record { size = f; bytes_are = (is_byte, tt) }
  where
    there : (a : ℕ) → a + 8 ≡ a + 8 + 8 * (0 / 8)
    there a = omega arith

    low : (c : ℕ) → c < 256 → c % 256 ≡ c
    low c l = omega (arith, l)

    is_byte : IsByte later (a + 8) 0 c
    is_byte = record {
      whose = subst (λ p. later.owner p ≡ fixed) (there a) g.whose;
      is = subst (λ p. byte_in (later.word p) 0 ≡ c) (there a) (ap (λ v. byte_in v 0) g.is ∙ low c l);
    }

pub c2s_right : MakesRight string_type c2s_row
unfolding counts takes gives_all
c2s_right image map place os w st s heap small slots room =
    with_room image map place (pair_code 1) w st s.limit (one string_type) (prim string_type (codes "c2s") os w) room
    (returns_of (Q image map place (pair_code 1) w st s.limit) string_type (codes "c2s") os w (λ fit.
    one_argument (λ out. Returns (λ rs after. Q image map place (pair_code 1) w st s.limit (one string_type) rs (bound_in w after 0)) out) image map (view place.linked st.slots st.world) char_type
    (λ a. with_char a (λ c. new_string (c ∷ []))) os (doing w 0) slots (λ o u p k.
    as_char (λ out. Returns (λ rs after. Q image map place (pair_code 1) w st s.limit (one string_type) rs (bound_in w after 0)) out) tt o (λ c. new_string (c ∷ [])) (doing w 0) (λ c e more.
    let char = subst (λ a. Bare image map a u) e k in
    made image map place 1 u st s w (bound_in w (record (doing w 0) { words = 0 + 0 + 2; work = 0 + 0 + 1 + 1 + 2 }) 0) heap
    (record { cells = refl; input = refl; output = nothing_after w.output; words = omega arith; work = omega arith })
    p (small 0 u p) (omega arith) more string_type (string_object (c ∷ []))
    (λ it. char_shown image it.later st.world.next c char.1 it.first (subst (λ v. Fixed it.later (st.world.next + 8) v) char.0 it.second))))))

-- ---- a sequence of one element

pub e2s_right : (t : CluType) → MakesRight (sequence_of t) e2s_row
unfolding counts takes gives_all
e2s_right t image map place os w st s heap small slots room =
    with_room image map place (pair_code 1) w st s.limit (one (sequence_of t)) (prim (sequence_of t) (codes "e2s") os w) room
    (returns_of (Q image map place (pair_code 1) w st s.limit) (sequence_of t) (codes "e2s") os w (λ fit.
    one_argument (λ out. Returns (λ rs after. Q image map place (pair_code 1) w st s.limit (one (sequence_of t)) rs (bound_in w after 0)) out) image map (view place.linked st.slots st.world) t
    (λ x. new_sequence t (x ∷ [])) os (doing w (words_for_all (one t))) slots (λ o u p k more.
    made image map place 1 u st s w (bound_in w (record (doing w (words_for_all (one t))) { words = 0 + words_for_all (one t) + 2; work = 0 + words_for_all (one t) + 1 + 1 + 2 }) 0) heap
    (record { cells = refl; input = refl; output = nothing_after w.output; words = omega arith; work = omega arith })
    p (small 0 u p) (omega arith) more (sequence_of t) (sequence_object t (object_and o no_objects))
    (λ it. (it.first, ((u, it.second, at_on image map it.later it.extends t o u k), tt))))))

-- ---- make_s of oneofs

abbrev make_heading : CluType → CluType → Operation
make_heading T t = record { iter = false; args = one t; results = one T; signals = quiet; needs = [] }

oneof_makes : (T : CluType) (s : List ℕ) (fs : Fields) → of_selectors (oneof_selectors T) fs (codes "make_" ++ s) ≡ option_map (make_heading T) (type_of_field fs s)
oneof_makes T s no_fields = refl
oneof_makes T s (field_and name t fs) = by (bytes_eq name s) (oneof_makes T s fs)
  where
    by : (b : Bool) → of_selectors (oneof_selectors T) fs (codes "make_" ++ s) ≡ option_map (make_heading T) (type_of_field fs s) →
        or_else (if b then Some (make_heading T t) else None) (of_selectors (oneof_selectors T) fs (codes "make_" ++ s)) ≡ option_map (make_heading T) (if b then Some t else type_of_field fs s)
    by true again = refl
    by false again = again

module _ (fs : Fields) (s : List ℕ) (t : CluType) (field : type_of_field fs s ≡ Some t) where
  make_found : operation (oneof_of fs) (codes "make_" ++ s) ≡ Some (make_heading (oneof_of fs) t)
  make_found = first_one _ None (make_heading (oneof_of fs)) (type_of_field fs s) t (oneof_makes (oneof_of fs) s fs) field

  make_does : primitive (oneof_of fs) (codes "make_" ++ s) ≡ Some (oneof_make fs s)
  make_does = found (oneof_selected fs) [] (λ s. codes "make_" ++ s) (oneof_make fs) (record { here = λ name s rest. refl }) fs s t field

  oneof_shown : (image : Image) (later : Layout) (a u : ℕ) (o : Object) → At image later t o u → Fixed later a (place_of_field fs s) → Fixed later (a + 8) u → Bare image later (oneof_object fs s o) a
  oneof_shown image later a u o k f g = (f, subst (λ r. KeptIf image later r (λ t v. At image later t o v) (a + 8)) (sym field) (u, g, k))

  -- with the heading that is found
  found_right : (image : Image) (map : Layout) (place : Place) (os : List Object) (w : World) (st : State) (store : Stored map st.world) → Heap image map w.cells → ((n v : ℕ) → st.slots n ≡ Some v → v < 2 ^ 64) →
      place_of_field fs s < 2 ^ 64 → InSlots image map (view place.linked st.slots st.world) (one t) 0 os →
      Returns (λ rs after. Q image map place (pair_code (place_of_field fs s)) w st store.limit (one (oneof_of fs)) rs (bound_in w after 0)) (oneof_make fs s os (doing w (words_for_all (one t))))
  unfolding takes gives_all
  found_right image map place os w st store heap small fits slots =
      one_argument (λ out. Returns (λ rs after. Q image map place (pair_code (place_of_field fs s)) w st store.limit (one (oneof_of fs)) rs (bound_in w after 0)) out) image map (view place.linked st.slots st.world) t
      (λ x. new_oneof fs s x) os (doing w (words_for_all (one t))) slots (λ o u p k more.
      made image map place (place_of_field fs s) u st store w (bound_in w (record (doing w (words_for_all (one t))) { words = 0 + words_for_all (one t) + 2; work = 0 + words_for_all (one t) + 1 + 2 }) 0) heap
      (record { cells = refl; input = refl; output = nothing_after w.output; words = omega arith; work = omega arith })
      p (small 0 u p) fits more (oneof_of fs) (oneof_object fs s o)
      (λ it. oneof_shown image it.later st.world.next u o (at_on image map it.later it.extends t o u k) it.first it.second))

pub make_right : MakesOneofs
make_right fs s t field fits image map place os w st store heap small slots room =
    with_room image map place (pair_code (place_of_field fs s)) w st store.limit (results_of (operation (oneof_of fs) (codes "make_" ++ s))) (prim (oneof_of fs) (codes "make_" ++ s) os w) room
    (returns_of (Q image map place (pair_code (place_of_field fs s)) w st store.limit) (oneof_of fs) (codes "make_" ++ s) os w (λ fit.
    subst (λ b. Returns (λ rs after. Q image map place (pair_code (place_of_field fs s)) w st store.limit (results_of (operation (oneof_of fs) (codes "make_" ++ s))) rs (bound_in w after (words_for_all (results_of (operation (oneof_of fs) (codes "make_" ++ s))))))
    (tried b os (doing w (words_for_all (args_of (operation (oneof_of fs) (codes "make_" ++ s))))))) (sym (make_does fs s t field))
    (subst (λ h. Returns (λ rs after. Q image map place (pair_code (place_of_field fs s)) w st store.limit (results_of h) rs (bound_in w after (words_for_all (results_of h)))) (oneof_make fs s os (doing w (words_for_all (args_of h)))))
    (sym (make_found fs s t field))
    (found_right fs s t field image map place os w st store heap small fits (subst (λ h. InSlots image map (view place.linked st.slots st.world) (args_of h) 0 os) (make_found fs s t field) slots)))))
