-- The two operations that put a word: store of arrays and set_s of records.
use Rattle.std.proofs.Common.{◌≡◌, ℕ, ℤ, ◌+◌, ◌*◌, ◌%◌, ◌^◌, ◌<◌, ◌≤◌, Bool, true, false, ◌&&◌, nat_lt, List, [], ◌∷◌, ◌++◌, length, Option, None, Some, slice_get, slice_set, refl, sym, ap, ◌∙◌, subst, arith, pos, negsuc, ◌+ℤ◌, ◌-ℤ◌, bytes_eq, if◌then◌else◌}
use Rattle.std.specs.Prelude.{codes}
use Rattle.std.specs.Option.{option_map}
use Rattle.clu_types.specs.CluType.{CluType, Fields, no_fields, field_and, no_types, type_and, array_of, int_type, record_of}
use Rattle.clu_builtin.specs.Operation.{Operation, two, none, quiet}
use Rattle.clu_builtin.specs.Table.{of_selectors, operation, or_else, record_selectors}
use Rattle.clu_builtin.specs.declared.names.Signal.TheVariants as signal
use Rattle.clu_layout.specs.Objects.{Array, Object, array_cell, own_type, own_types, record_cell}
use Rattle.clu_layout.specs.Places.{is_int, high_of, with_item_after, with_item_at}
use Rattle.clu_layout.specs.Actions.{Action, Primitive, World, Outcome, returned, signalled, wrong, and_then, changes, changes_array, continued, counts, gives_all, gives_nothing, has_int_bounds, need, needed, no_case, or_fails, or_signals, signals_with, takes, with_array, with_int, with_record, with_three, with_two}
use Rattle.clu_layout.specs.Primitive.{before, done_in, gives_results, invoked, may_be_argument, may_be_arguments, outcome_in, prim, primitive, words_for_all}
use Rattle.clu_layout.specs.RecordOperations.{record_primitives, record_selected, record_set, with_component}
use Rattle.clu_wir.specs.Plain.{Expr, slot, word, binary}
use Rattle.clu_wir.specs.Traps.{trap_name}
use Rattle.clu_wir.specs.declared.expression.WOp.TheVariants as op
use Rattle.clu_wir.specs.declared.trap.Trap.TheVariants as trap
use Rattle.clu_wir.specs.Value.{View, Gives, Raises, value, meant, binds, op_word, by_truth}
use Rattle.clu_representation.specs.Layout.{Image, Layout, of_cell, with_word}
use Rattle.clu_representation.specs.Shown.{At, Bare, IsInt, place_of_field, type_of_field}
use Rattle.clu_representation.specs.Held.{Heap, IsArray, distance}
use Rattle.clu_representation.proofs.ArrayPuts.{element_mine}
use Rattle.clu_representation.proofs.Lists.{length_set}
use Rattle.clu_representation.proofs.Whole.{component_mine, component_put, element_put}
use Rattle.laws_operations.specs.Comes.{Exception, InSlots}
use Rattle.laws_operations.specs.LoadCodes.{at_index}
use Rattle.laws_operations.specs.Puts.{PutComes, PutRight, PutRow, set_row, store_row}
use Rattle.laws_operations.specs.Rows.{args_of, results_of}
use Rattle.clu_representation.specs.Stored.{Seen}
use Rattle.clu_word_meaning.specs.Levels.{deed_done, entered}
use Rattle.clu_word_meaning.specs.Words.{by_value, continue_either_way, either_way, gives, sees, valued, with_state, worlds}
use Rattle.laws_operations.specs.Puts.{PutsInTwoSteps}
use Rattle.laws_operations.proofs.Arguments.{as_int, both_true}
use Rattle.laws_operations.proofs.ArrayLoads.{Header, header, high_fits, of_cell_array, place_in, place_is, room_end, same_elements, third_true}
use Rattle.laws_operations.proofs.ComponentLoads.{of_cell_record, record_fields}
use Rattle.laws_operations.proofs.Doing.{left_so, nothing_after, tried}
use Rattle.laws_operations.proofs.Finding.{cell_is_somebodys, index_below, index_from, truth, untruth}
use Rattle.laws_operations.proofs.Results.{less_of, not_less_of}
use Rattle.laws_operations.proofs.Selected.{first_one, found}

-- ---- the invocation

-- what the operation comes to once its arguments are bound
record Inner (image : Image) (map : Layout) (view : View) (row : PutRow) (w after : World) : Type 0 where
  a : ℕ
  v : ℕ
  p : ℕ
  c : ℕ
  address_is : value view row.address ≡ Gives a
  word_is : value view row.put ≡ Gives v
  at : (a + row.bytes) % 2 ^ 64 ≡ p
  mine : map.owner p ≡ of_cell c
  heap : Heap image (with_word map p v) after.cells
  same : after ≡ record w { cells = after.cells }

abbrev InComes : Image → Layout → View → PutRow → World → Outcome → Type 0
InComes image map view row w (returned [] after) = Inner image map view row w after
InComes image map view row w (returned (o ∷ os) after) = ⊥
InComes image map view row w (signalled name os after) = Exception name os (value view row.address) × (after ≡ w)
InComes image map view row w wrong = Unit {0}

module _ (image : Image) (map : Layout) (view : View) (row : PutRow) where
  done_put : (w : World) (n : ℕ) (out : Outcome) → InComes image map view row (record w { output = []; words = 0 + n; work = 0 + n + 1 }) out →
      PutComes image map view row w (outcome_in w (continued (gives_results no_types) out))
  unfolding continued need takes gives_all
  done_put w n (returned [] after) h = record {
    a = h.a;
    v = h.v;
    p = h.p;
    c = h.c;
    address_is = h.address_is;
    word_is = h.word_is;
    at = h.at;
    mine = h.mine;
    heap = h.heap;
    input = ap (λ (x : World). x.input) h.same;
    output = ap (λ (x : World). w.output ++ x.output) h.same ∙ nothing_after w.output;
    words = omega arith;
    work = omega (arith, ap (λ (x : World). x.work) h.same);
  }
  done_put w n (returned (o ∷ os) after) h = absurd h
  done_put w n (signalled name os after) (h, e) = (h, left_so w after n e)
  done_put w n wrong h = tt

  put_invoked : (T : CluType) (h : Operation) (p : Primitive) (os : List Object) (w : World) → h.results ≡ no_types → (t : Bool) → may_be_arguments T (own_types os) h.args ≡ t →
      (may_be_arguments T (own_types os) h.args ≡ true → (v : World) → v.cells ≡ w.cells → InComes image map view row v (p os v)) →
      PutComes image map view row w (outcome_in w (need t (takes (words_for_all h.args) (counts 1 (and_then (p os) (gives_results h.results)))) (before w)))
  unfolding need no_case takes counts and_then
  put_invoked T h p os w r true e f =
      let n = words_for_all h.args in
      let v = record w { output = []; words = 0 + n; work = 0 + n + 1 } in
      subst (λ ts. PutComes image map view row w (outcome_in w (continued (gives_results ts) (p os v)))) (sym r) (done_put w n (p os v) (f e v refl))
  put_invoked T h p os w r false e f = tt

  put_rows : (T : CluType) (a : Option Operation) (b : Option Primitive) (os : List Object) (w : World) → results_of a ≡ no_types →
      (may_be_arguments T (own_types os) (args_of a) ≡ true → (v : World) → v.cells ≡ w.cells → InComes image map view row v (tried b os v)) →
      PutComes image map view row w (outcome_in w (needed a (λ h. needed b (λ p. invoked T h p os)) (before w)))
  unfolding needed no_case
  put_rows T None b os w r f = tt
  put_rows T (Some h) None os w r f = tt
  put_rows T (Some h) (Some p) os w r f = put_invoked T h p os w r (may_be_arguments T (own_types os) h.args) refl f

  puts_for : (T : CluType) (op : List ℕ) (os : List Object) (w : World) → results_of (operation T op) ≡ no_types →
      (may_be_arguments T (own_types os) (args_of (operation T op)) ≡ true → (v : World) → v.cells ≡ w.cells → InComes image map view row v (tried (primitive T op) os v)) →
      PutComes image map view row w (prim T op os w)
  unfolding prim done_in
  puts_for T op os w r f = put_rows T (operation T op) (primitive T op) os w r f

-- ---- store of arrays

pub slot_value : (view : View) (n u : ℕ) → view.slot n ≡ Some u → value view (slot n) ≡ Gives u
unfolding meant
slot_value view n u e = rw e refl

index_is : (view : View) (u v low size room first block : ℕ) → view.slot 0 ≡ Some u → view.slot 1 ≡ Some v → Header view u low size room first block →
    value view at_index ≡ by_truth (op_word op.Sltu (op_word op.Sub v low) size) (place_in (op_word op.Sub v low) room first block) (Raises trap.Bounds)
unfolding meant binds
index_is view u v low size room first block p q h = rw (p, q, h.low_is, h.size_is, h.first_is, h.block_is, h.room_is) refl

three_objects : (image : Image) (map : Layout) (view : View) (P : Outcome → Type 0) (T r s t : CluType) (rest : Object → Object → Object → Action) (os : List Object) (w : World) →
    InSlots image map view (type_and r (type_and s (type_and t no_types))) 0 os → may_be_arguments T (own_types os) (type_and r (type_and s (type_and t no_types))) ≡ true →
    ((a b c : Object) (u v x : ℕ) → view.slot 0 ≡ Some u → view.slot 1 ≡ Some v → view.slot 2 ≡ Some x → At image map r a u → At image map s b v → At image map t c x → may_be_argument T (own_type a) r ≡ true → P (rest a b c w)) → P (with_three os rest w)
unfolding with_three
three_objects image map view P T r s t rest [] w h e f = absurd h
three_objects image map view P T r s t rest (a ∷ []) w (h, i) e f = absurd i
three_objects image map view P T r s t rest (a ∷ b ∷ []) w (h, (i, j)) e f = absurd j
three_objects image map view P T r s t rest (a ∷ b ∷ c ∷ []) w ((u, p, k), ((v, q, l), ((x, o, m), h))) e f =
    f a b c u v x p q o k l m (both_true (may_be_argument T (own_type a) r) (may_be_argument T (own_type b) s && (may_be_argument T (own_type c) t && true)) e).0
three_objects image map view P T r s t rest (a ∷ b ∷ c ∷ d ∷ os) w (h, (i, (j, k))) e f = absurd k

module _ (image : Image) (map : Layout) (view : View) (seen : Seen map view) (w : World) (heap : Heap image map w.cells) (c : ℕ) (a : Array) (is : slice_get w.cells c ≡ Some (array_cell a)) (u v x : ℕ)
    (p : view.slot 0 ≡ Some u) (q : view.slot 1 ≡ Some v) (r : view.slot 2 ≡ Some x) (at : u ≡ map.address c) (o : Object) (shown : At image map a.element o x) where
  held : IsArray image map c a
  held = heap c (array_cell a) is

  its_place : (k : ℕ) → op_word op.Sub v held.low ≡ k → value view at_index ≡ by_truth (op_word op.Sltu k (length a.items)) (place_in k a.room held.first held.block) (Raises trap.Bounds)
  its_place k e = index_is view u v held.low (length a.items) a.room held.first held.block p q (header image map view seen c a held u at)
      ∙ ap (λ k. by_truth (op_word op.Sltu k (length a.items)) (place_in k a.room held.first held.block) (Raises trap.Bounds)) e

  misses : (k : ℕ) → op_word op.Sub v held.low ≡ k → length a.items ≤ k → InComes image map view store_row w (or_signals signal.Bounds None (λ xs. changes_array c (record a { items = xs }) gives_nothing) w)
  unfolding or_signals signals_with trap_name
  misses k e l = subst (λ y. Exception (codes "bounds") [] y × (w ≡ w)) (sym (its_place k e ∙ ap (λ b. if b then Raises trap.Bounds else place_in k a.room held.first held.block) (untruth k (length a.items) l))) (refl, refl)

  stores : (k : ℕ) → op_word op.Sub v held.low ≡ k → k < length a.items → InComes image map view store_row w (or_signals signal.Bounds (Some (slice_set a.items k o)) (λ xs. changes_array c (record a { items = xs }) gives_nothing) w)
  unfolding or_signals or_fails changes gives_all
  stores k e l =
      let inside : k < a.room = omega (arith, l, held.enough) in
      let there = held.block + distance held.first k a.room in
      let mine = element_mine image map c a held k inside in
      let bounds : has_int_bounds (record a { items = slice_set a.items k o }) ≡ true =
      subst (λ n. is_int (a.low -ℤ pos 1) && is_int a.low && is_int ((a.low +ℤ pos n) -ℤ pos 1) ≡ true) (sym (length_set a.items k o)) held.bounds in
      subst (λ b. InComes image map view store_row w (or_fails (codes "bounds out of range") b (changes c (array_cell (record a { items = slice_set a.items k o })) gives_nothing) w)) (sym bounds)
      (record {
        a = there;
        v = x;
        p = there;
        c = c;
        address_is = its_place k e ∙ ap (λ b. if b then Raises trap.Bounds else place_in k a.room held.first held.block) (truth k (length a.items) l)
            ∙ place_is k a.room held.first held.block inside held.first_inside (room_end image map view seen c a held u at a.room refl (omega (arith, inside)));
        word_is = slot_value view 2 x r;
        at = whole there (seen.below there (cell_is_somebodys map c there mine));
        mine = mine;
        heap = element_put image map w.cells c a held k o x heap l shown;
        same = refl;
      })
    where
      whole : (n : ℕ) → n + 8 ≤ 2 ^ 63 → (n + 0) % 2 ^ 64 ≡ n
      whole n l = omega (arith, l)

  stored_at : (i z : ℤ) → IsInt i v → i -ℤ a.low ≡ z → InComes image map view store_row w (or_signals signal.Bounds (with_item_after a.items z o) (λ xs. changes_array c (record a { items = xs }) gives_nothing) w)
  stored_at i (pos k) n e = by (nat_lt k (length a.items)) refl
    where
      place : op_word op.Sub v held.low ≡ k
      place = (λ j. op_word op.Sub (n.word_is j) (held.low_is.word_is j)) ∙ index_from i a.low k n.is_one held.low_is.is_one e

      by : (t : Bool) → nat_lt k (length a.items) ≡ t → InComes image map view store_row w (or_signals signal.Bounds (if t then Some (slice_set a.items k o) else None) (λ xs. changes_array c (record a { items = xs }) gives_nothing) w)
      by true l = stores k place (less_of k (length a.items) l)
      by false l = misses k place (not_less_of k (length a.items) l)
  stored_at i (negsuc k) n e = misses (op_word op.Sub v held.low) refl
      (subst (λ m. length a.items ≤ m) (sym (λ j. op_word op.Sub (n.word_is j) (held.low_is.word_is j)))
      (index_below i a.low k (length a.items) n.is_one held.low_is.is_one (high_fits a.low ((a.low +ℤ pos (length a.items)) -ℤ pos 1) (length a.items) refl
      (third_true (is_int (a.low -ℤ pos 1)) (is_int a.low) (is_int (high_of a.low a.items)) held.bounds)) e))

pub store_right : (t : CluType) → PutRight (array_of t) store_row
store_right t image map view os w around s = puts_for image map view store_row (array_of t) (codes "store") os w refl (λ fit v same.
    let heap = subst (λ cs. Heap image map cs) (sym same) around.heap in
    three_objects image map view (λ out. InComes image map view store_row v out) (array_of t) (array_of t) int_type t
    (λ r b x. with_array r (λ c a. with_int b (λ i. or_signals signal.Bounds (with_item_at a.low a.items i x) (λ xs. changes_array c (record a { items = xs }) gives_nothing)))) os v s fit (λ o b x u i y p q r k l m g.
    of_cell_array (λ out. InComes image map view store_row v out) tt o (λ c a. with_int b (λ i. or_signals signal.Bounds (with_item_at a.low a.items i x) (λ xs. changes_array c (record a { items = xs }) gives_nothing))) v (λ kind c a e is.
    let shown = subst (λ b. Bare image map b u) e k in
    let element = same_elements kind t a (map.kind c) shown.1.type_is (heap c (array_cell a) is).type_is (subst (λ b. may_be_argument (array_of t) (own_type b) (array_of t) ≡ true) e g) in
    as_int (λ out. InComes image map view store_row v out) tt b (λ i. or_signals signal.Bounds (with_item_at a.low a.items i x) (λ xs. changes_array c (record a { items = xs }) gives_nothing)) v (λ n d.
    stored_at image map view around.seen v heap c a is u i y p q r shown.1.at x (subst (λ a. At image map a x y) (sym element) m) n (n -ℤ a.low) (subst (λ o. Bare image map o i) d l) refl))))

-- ---- set_s of records

abbrev set_heading : CluType → CluType → Operation
set_heading T t = record { iter = false; args = two T t; results = none; signals = quiet; needs = [] }

record_sets : (T : CluType) (s : List ℕ) (fs : Fields) → of_selectors (record_selectors T) fs (codes "set_" ++ s) ≡ option_map (set_heading T) (type_of_field fs s)
record_sets T s no_fields = refl
record_sets T s (field_and name t fs) = by (bytes_eq name s) (record_sets T s fs)
  where
    by : (b : Bool) → of_selectors (record_selectors T) fs (codes "set_" ++ s) ≡ option_map (set_heading T) (type_of_field fs s) →
        or_else (if b then Some (set_heading T t) else None) (of_selectors (record_selectors T) fs (codes "set_" ++ s)) ≡ option_map (set_heading T) (if b then Some t else type_of_field fs s)
    by true again = refl
    by false again = again

abbrev set_address : ℕ → Expr
set_address n = binary op.Add (slot 0) (word ((n + 1) * 8))

pub two_given : (image : Image) (map : Layout) (view : View) (P : Outcome → Type 0) (T r s : CluType) (rest : Object → Object → Action) (os : List Object) (w : World) →
    InSlots image map view (type_and r (type_and s no_types)) 0 os → may_be_arguments T (own_types os) (type_and r (type_and s no_types)) ≡ true →
    ((a b : Object) (u v : ℕ) → view.slot 0 ≡ Some u → view.slot 1 ≡ Some v → At image map r a u → At image map s b v → may_be_argument T (own_type a) r ≡ true → P (rest a b w)) → P (with_two os rest w)
unfolding with_two
two_given image map view P T r s rest [] w h e f = absurd h
two_given image map view P T r s rest (a ∷ []) w (h, i) e f = absurd i
two_given image map view P T r s rest (a ∷ b ∷ []) w ((u, p, k), ((v, q, l), h)) e f = f a b u v p q k l (both_true (may_be_argument T (own_type a) r) (may_be_argument T (own_type b) s && true) e).0
two_given image map view P T r s rest (a ∷ b ∷ c ∷ os) w (h, (i, j)) e f = absurd j

set_is : (view : View) (u n : ℕ) → view.slot 0 ≡ Some u → value view (set_address n) ≡ Gives (op_word op.Add u ((n + 1) * 8))
unfolding meant
set_is view u n p = rw p refl

module _ (fs : Fields) (s : List ℕ) (t : CluType) (field : type_of_field fs s ≡ Some t) where
  set_found : operation (record_of fs) (codes "set_" ++ s) ≡ Some (set_heading (record_of fs) t)
  set_found = first_one _ None (set_heading (record_of fs)) (type_of_field fs s) t (record_sets (record_of fs) s fs) field

  set_does : primitive (record_of fs) (codes "set_" ++ s) ≡ Some (record_set s)
  set_does = found record_selected record_primitives (λ s. codes "set_" ++ s) record_set (record { here = λ name s rest. refl }) fs s t field

  module _ (image : Image) (map : Layout) (view : View) (seen : Seen map view) (w : World) (heap : Heap image map w.cells) (c : ℕ) (os : List Object) (is : slice_get w.cells c ≡ Some (record_cell fs os)) (u x : ℕ)
      (p : view.slot 0 ≡ Some u) (q : view.slot 1 ≡ Some x) (at : u ≡ map.address c) (y : Object) (shown : At image map t y x) where
    sets : (r : Option (List Object)) → with_component fs s y os ≡ r → InComes image map view (set_row fs s) w (needed r (λ ys. changes c (record_cell fs ys) gives_nothing) w)
    unfolding needed no_case changes gives_all
    sets None e = tt
    sets (Some ys) e =
        let place = map.address c + 8 + 8 * place_of_field fs s in
        let mine = component_mine image map c s y fs os ys (map.address c + 8) (heap c (record_cell fs os) is).2 e in
        record {
          a = place;
          v = x;
          p = place;
          c = c;
          address_is = set_is view u (place_of_field fs s) p ∙ ap Gives (sum u (map.address c) (place_of_field fs s) at (seen.below place (cell_is_somebodys map c place mine)));
          word_is = slot_value view 1 x q;
          at = whole place (seen.below place (cell_is_somebodys map c place mine));
          mine = mine;
          heap = component_put image map w.cells c fs os ys s y t x heap is e field shown;
          same = refl;
        }
      where
        whole : (n : ℕ) → n + 8 ≤ 2 ^ 63 → (n + 0) % 2 ^ 64 ≡ n
        whole n l = omega (arith, l)

        sum : (u b n : ℕ) → u ≡ b → b + 8 + 8 * n + 8 ≤ 2 ^ 63 → op_word op.Add u ((n + 1) * 8) ≡ b + 8 + 8 * n
        sum u b n e l = omega (arith, e, l)

  pub set_right : PutRight (record_of fs) (set_row fs s)
  set_right image map view os w around h =
      puts_for image map view (set_row fs s) (record_of fs) (codes "set_" ++ s) os w (ap results_of set_found) (λ fit v same.
      let heap = subst (λ cs. Heap image map cs) (sym same) around.heap in
      subst (λ b. InComes image map view (set_row fs s) v (tried b os v)) (sym set_does)
      (two_given image map view (λ out. InComes image map view (set_row fs s) v out) (record_of fs) (record_of fs) t (λ r y. with_record r (λ c fs xs. needed (with_component fs s y xs) (λ ys. changes c (record_cell fs ys) gives_nothing))) os v
      (subst (λ a. InSlots image map view (args_of a) 0 os) set_found h) (subst (λ a. may_be_arguments (record_of fs) (own_types os) (args_of a) ≡ true) set_found fit) (λ o y u x p q k m g.
      of_cell_record (λ out. InComes image map view (set_row fs s) v out) tt o (λ c fs xs. needed (with_component fs s y xs) (λ ys. changes c (record_cell fs ys) gives_nothing)) v (λ kind c gs xs e is.
      let shown = subst (λ b. Bare image map b u) e k in
      let are = record_fields gs fs (map.kind c) kind shown.1.type_is (heap c (record_cell gs xs) is).0 (subst (λ a. may_be_argument (record_of fs) (own_type a) (record_of fs) ≡ true) e g) in
      subst (λ a. InComes image map view (set_row fs s) v (needed (with_component a s y xs) (λ ys. changes c (record_cell a ys) gives_nothing) v)) (sym are)
      (sets image map view around.seen v heap c xs (subst (λ a. slice_get v.cells c ≡ Some (record_cell a xs)) are is) u x p q shown.1.at y m (with_component fs s y xs) refl)))))

-- ---- entered

pub two_steps : PutsInTwoSteps
unfolding entered deed_done valued by_value sees either_way continue_either_way worlds with_state gives
two_steps l entries address put bytes live body ws turns st a v after e g h = rw (e, g, h) refl
