-- What the machine holds stays held: where registers alone change, where a word of the stack is written, at another step.
use Rattle.std.proofs.Common.{◌≡◌, ◌∙◌, ◌≢◌, ℕ, pos, ◌+◌, ◌-◌, ◌*◌, ◌^◌, ◌<◌, ◌≤◌, ◌==◌, Bool, true, false, length, get_or, Option, Some, None, refl, ap, sym, subst, arith}
use Rattle.std.specs.Prelude.{if◌then◌else◌, min, nat_lt}
use Rattle.std.specs.Int.{w64, w8}
use Rattle.std.proofs.lemmas.Bool.Decides.{nat_tests}
use Rattle.std.proofs.lemmas.Bool.{eqb-true}
use Rattle.clu_wir.specs.Value.{View}
use Rattle.clu_wir.specs.declared.hole.HoleKind.{HoleKind}
use Rattle.clu_wir.specs.declared.hole.HoleKind.TheVariants as kind
use Rattle.clu_word_meaning.specs.World.{World, byte_of, word_of}
use Rattle.clu_flat_meaning.specs.Image.{Image}
use Rattle.clu_flat_meaning.specs.Machine.{Machine, put_at, view_of}
use Rattle.rv_machine.specs.State.{State, image_start, read_at, register, stack_start}
use Rattle.rv_machine.specs.Steps.{advanced}
use Rattle.rv_machine.specs.Values.{sum, unsigned}
use Rattle.rv_select.specs.declared.register.Register.TheVariants as name
use Rattle.rv_select.specs.Slots.{slot_distance, word_distance}
use Rattle.laws_selection.specs.Evaluating.{Bounded, IsCell, Sees}
use Rattle.laws_selection.specs.Fitting.{Travels, the_value, the_words}
use Rattle.laws_selection.specs.Fixed.{Cell}
use Rattle.laws_selection.specs.Holding.{Fixed, Held, Sized, reads, stack_end, store_end}
use Rattle.laws_selection.specs.Registers.{stays}
use Rattle.laws_selection.specs.Running.{Done, Same}
use Rattle.laws_selection.specs.Standing.{Linked, Standing}
use Rattle.laws_selection.proofs.Memory.{Fine, OnStack, below_read, other_word_read, same_word_read, stack_length, with_stack}
use Rattle.laws_selection.proofs.Reading.{WordOf, read_eight, some_same, word_bytes, word_small}
use Rattle.laws_selection.proofs.Running.{read_same}

pub below_end : (m : State) → (length m.stack ≤ 0x4000000) → stack_end m < 2 ^ 64
below_end m l = omega arith

pub stays_all : (kept : ℕ) → (stays kept name.Zero ≡ true) × (stays kept name.Top ≡ true) × (stays kept name.Store ≡ true) × (stays kept name.StoreEnd ≡ true) × (stays kept name.StackEnd ≡ true) × (stays kept name.Table ≡ true) × (stays kept name.Frame ≡ true) × (stays kept name.Value ≡ true) × (stays kept name.Words ≡ true)
unfolding stays
stays_all kept = (refl, refl, refl, refl, refl, refl, refl, refl, refl)

apart : (k n : ℕ) → (k == n) ≡ false → 8 * k ≢ 8 * n
apart k n e same = let equal : k ≡ n = omega (arith, same) in absurd (grind (arith, nat_tests, e, equal))

module _ (image : Image) (m : State) (standing : Standing image m) where
  abbrev Held' : Machine → State → Type 0
  Held' = Held image m

  pub fine_of : (s : State) → Fixed m s → Fine s
  fine_of s f =
      let low = standing.area in
      record {
        machine = record {
          code = subst (λ c. length c ≤ 16793600) (sym f.code) standing.sound.code;
          image = subst (λ n. n ≤ 0xff00000) (sym f.image) standing.sound.image;
          store = subst (λ n. n ≤ 0x10000000) (sym f.store) standing.sound.store;
          stack = subst (λ n. n ≤ 0x4000000) (sym f.stack) standing.sound.stack;
          writable = subst (λ n. image_start ≤ n) (sym f.start) standing.sound.writable;
          registers = f.registers;
        };
        data_below = subst (λ n. n ≤ stack_start) (sym f.start) (omega arith);
      }

  pub on_stack : (s : State) (n : ℕ) → Fixed m s → image.bottom ≤ n → 8 * n + 8 ≤ stack_end m → OnStack s (8 * n)
  on_stack s n f low high =
      let begins = standing.bottom in
      let count = f.stack in
      record { low = omega arith; high = omega arith; aligned = omega arith }

  -- Registers alone change.

  pub record Registers (d : Machine) (t : State) : Type 0 where
    pub zero : register t 0 ≡ 0
    pub store_end : register t 4 ≡ store_end m
    pub stack_end : register t 8 ≡ stack_end m
    pub frame : register t 18 ≡ 8 * d.fp
    pub top : register t 2 ≡ 8 * d.top
    pub table : register t 9 ≡ d.who.table
    pub store : register t 3 ≡ d.world.next
    pub value : reads image the_value d.who.body d.pc d.mode ≡ true → register t 10 ≡ d.value
    pub words : reads image the_words d.who.body d.pc d.mode ≡ true → register t 11 ≡ d.words

  pub held_registers : (c d : Machine) (s t : State) → Held' c s → Same s t → d.stack ≡ c.stack → d.world ≡ c.world → Sized image m d → Registers d t → Held' d t
  held_registers c d s t h e same_stack same_world sized g =
      let f = h.fixed in
      record {
        fixed = record {
          code = e.code ∙ f.code;
          start = e.start ∙ f.start;
          image = ap length e.image ∙ f.image;
          store = ap length e.store ∙ f.store;
          stack = ap length e.stack ∙ f.stack;
          registers = e.registers ∙ f.registers;
          zero = g.zero;
          store_end = g.store_end;
          stack_end = g.stack_end;
          read = λ w a l. read_same w s t a e ∙ f.read w a l;
        };
        sized = sized;
        frame = g.frame;
        top = g.top;
        table = g.table;
        store = g.store;
        value = g.value;
        words = g.words;
        stack = λ n low high. read_same w64 s t (8 * n) e ∙ h.stack n low high ∙ ap (λ (x : ℕ → ℕ). Some (x n)) (sym same_stack);
        byte = λ a b low is. read_same w8 s t a e ∙ h.byte a b low (ap (λ (v : World). v.byte a) (sym same_world) ∙ is);
      }

  -- an evaluation leaves it
  pub held_done : (kept : ℕ) (c : Machine) (s t : State) → Done kept s t → Held' c s → Held' c t
  held_done kept c s t d h =
      let k = stays_all kept in
      held_registers c c s t h d.same refl refl h.sized (record {
        zero = d.stays name.Zero k.0 ∙ h.fixed.zero;
        top = d.stays name.Top k.1 ∙ h.top;
        store = d.stays name.Store k.2 ∙ h.store;
        store_end = d.stays name.StoreEnd k.3 ∙ h.fixed.store_end;
        stack_end = d.stays name.StackEnd k.4 ∙ h.fixed.stack_end;
        table = d.stays name.Table k.5 ∙ h.table;
        frame = d.stays name.Frame k.6 ∙ h.frame;
        value = λ r. d.stays name.Value k.7 ∙ h.value r;
        words = λ r. d.stays name.Words k.8 ∙ h.words r;
      })

  -- at another step
  pub sized_at : (c : Machine) (pc clock : ℕ) → Sized image m c → Sized image m (record c { pc = pc; clock = clock })
  sized_at c pc clock z = record {
    table = z.table;
    back = z.back;
    caller = z.caller;
    value = z.value;
    words = z.words;
    frame = z.frame;
    top = z.top;
    peak = z.peak;
    stack = z.stack;
    byte = z.byte;
    writable = z.writable;
    next = z.next;
  }

  pub held_at : (c : Machine) (pc clock : ℕ) (s : State) → ((t : Travels) → reads image t c.who.body pc c.mode ≡ true → reads image t c.who.body c.pc c.mode ≡ true) → Held' c s → Held' (record c { pc = pc; clock = clock }) s
  held_at c pc clock s r h = record {
    fixed = h.fixed;
    sized = sized_at c pc clock h.sized;
    frame = h.frame;
    top = h.top;
    table = h.table;
    store = h.store;
    value = λ e. h.value (r the_value e);
    words = λ e. h.words (r the_words e);
    stack = h.stack;
    byte = h.byte;
  }

  -- whatever the address
  pub held_moved : (c : Machine) (s : State) (pc : ℕ) → Held' c s → Held' c (record s { pc = pc })
  held_moved c s pc h = held_registers c c s (record s { pc = pc }) h (record { code = refl; image = refl; store = refl; stack = refl; start = refl; registers = refl }) refl refl h.sized
      (record { zero = h.fixed.zero; store_end = h.fixed.store_end; stack_end = h.fixed.stack_end; frame = h.frame; top = h.top; table = h.table; store = h.store; value = h.value; words = h.words })

  -- A word of the stack is written.

  abbrev pub with_word_at : Machine → ℕ → ℕ → Machine
  with_word_at c n w = record c { stack = put_at n w c.stack }

  fixed_put : (s : State) (n w : ℕ) → Fixed m s → OnStack s (8 * n) → Fixed m (advanced (with_stack s (8 * n) w))
  fixed_put s n w f on =
      let low = standing.area in
      record {
        code = f.code;
        start = f.start;
        image = f.image;
        store = f.store;
        stack = stack_length s (8 * n) w on ∙ f.stack;
        registers = f.registers;
        zero = f.zero;
        store_end = f.store_end;
        stack_end = f.stack_end;
        read = λ v a l. below_read v s (8 * n) w a on (omega (arith, l, low)) ∙ f.read v a l;
      }

  stack_put : (c : Machine) (s : State) (n w k : ℕ) → Held' c s → image.bottom ≤ n → 8 * n + 8 ≤ stack_end m → w < 2 ^ 64 → image.bottom ≤ k → 8 * k + 8 ≤ stack_end m → (b : Bool) → (k == n) ≡ b →
      read_at w64 (with_stack s (8 * n) w) (8 * k) ≡ Some (if b then w else c.stack k)
  stack_put c s n w k h low high small below above true e =
      let same : k ≡ n = eqb-true k n e in
      ap (λ j. read_at w64 (with_stack s (8 * n) w) (8 * j)) same ∙ same_word_read s (8 * n) w (fine_of s h.fixed) (on_stack s n h.fixed low high) small
  stack_put c s n w k h low high small below above false e =
      let other = apart k n e in
      other_word_read s (8 * n) w (8 * k) (fine_of s h.fixed) (on_stack s n h.fixed low high) (on_stack s k h.fixed below above) other ∙ h.stack k below above

  pub put_small : (stack : ℕ → ℕ) (n w k : ℕ) → ((j : ℕ) → stack j < 2 ^ 64) → w < 2 ^ 64 → (b : Bool) → (if b then w else stack k) < 2 ^ 64
  put_small stack n w k all small true = small
  put_small stack n w k all small false = all k

  pub sized_put : (c : Machine) (n w : ℕ) → w < 2 ^ 64 → Sized image m c → Sized image m (with_word_at c n w)
  sized_put c n w small z = record {
    table = z.table;
    back = z.back;
    caller = z.caller;
    value = z.value;
    words = z.words;
    frame = z.frame;
    top = z.top;
    peak = z.peak;
    stack = λ k. put_small c.stack n w k z.stack small (k == n);
    byte = z.byte;
    writable = z.writable;
    next = z.next;
  }

  pub held_put : (c : Machine) (s : State) (n w : ℕ) → Held' c s → image.bottom ≤ n → 8 * n + 8 ≤ stack_end m → w < 2 ^ 64 → Held' (with_word_at c n w) (advanced (with_stack s (8 * n) w))
  held_put c s n w h low high small =
      let on = on_stack s n h.fixed low high in
      let room = standing.sound.store in
      record {
        fixed = fixed_put s n w h.fixed on;
        sized = sized_put c n w small h.sized;
        frame = h.frame;
        top = h.top;
        table = h.table;
        store = h.store;
        value = h.value;
        words = h.words;
        stack = λ k below above. stack_put c s n w k h low high small below above (k == n) refl;
        byte = λ a b below is. below_read w8 s (8 * n) w a on (omega (arith, below, room)) ∙ h.byte a b below is;
      }

  -- What is seen.

  -- a word of the world
  pub word_read : (c : Machine) (s : State) (a v : ℕ) → Held' c s → word_of c.world a ≡ Some v → read_at w64 s a ≡ Some v
  word_read c s a v h e = of_bytes (word_bytes c.world a v e)
    where
      byte_there : (x b : ℕ) → byte_of c.world x ≡ Some b → (x < c.world.next) × (c.world.byte x ≡ Some b)
      byte_there x b e = by (nat_lt x c.world.next) refl e
        where
          by : (t : Bool) → nat_lt x c.world.next ≡ t → (if t then c.world.byte x else None) ≡ Some b → (x < c.world.next) × (c.world.byte x ≡ Some b)
          by true q e = (grind (arith, nat_tests, q), e)
          by false q e = absurd (cc)

      of_bytes : WordOf c.world a v → read_at w64 s a ≡ Some v
      of_bytes x =
          let room = standing.sound.store in
          let end = h.sized.next.1 in
          let last = (byte_there (a + 7) (get_or x.bytes 7 0) (x.row.each 7 (omega arith))).0 in
          read_eight s (fine_of s h.fixed) a x.bytes x.aligned (omega (arith, last, end, room)) (λ i l. let y = byte_there (a + i) (get_or x.bytes i 0) (x.row.each i l) in let below = y.0 in h.byte (a + i) (get_or x.bytes i 0) (omega (arith, below, end)) y.1)
          ∙ ap Some (sym x.is)

  pub world_small : (c : Machine) (a v : ℕ) → Sized image m c → word_of c.world a ≡ Some v → v < 2 ^ 64
  world_small c a v z e = of_bytes (word_bytes c.world a v e)
    where
      byte_small : (x b : ℕ) → byte_of c.world x ≡ Some b → b < 256
      byte_small x b e = by (nat_lt x c.world.next) e
        where
          by : (t : Bool) → (if t then c.world.byte x else None) ≡ Some b → b < 256
          by true e = z.byte x b e
          by false e = absurd (cc)

      of_bytes : WordOf c.world a v → v < 2 ^ 64
      of_bytes x = subst (λ n. n < 2 ^ 64) (sym x.is) (word_small x.bytes (λ i l. byte_small (a + i) (get_or x.bytes i 0) (x.row.each i l)))

  pub byte_read : (c : Machine) (s : State) (a b : ℕ) → Held' c s → byte_of c.world a ≡ Some b → (read_at w8 s a ≡ Some b) × (b < 2 ^ 8)
  byte_read c s a b h e = by (nat_lt a c.world.next) refl e
    where
      by : (t : Bool) → nat_lt a c.world.next ≡ t → (if t then c.world.byte a else None) ≡ Some b → (read_at w8 s a ≡ Some b) × (b < 2 ^ 8)
      by true q e = let end = h.sized.next.1 in (h.byte a b (grind (arith, nat_tests, q, end)) e, h.sized.byte a b e)
      by false q e = absurd (cc)

  -- where a word of the frame, and a slot is
  pub word_there : (c : Machine) (s : State) (n : ℕ) → Held' c s → 8 * (c.fp + n) + 8 ≤ stack_end m → sum (register s 18) (unsigned (word_distance n)) ≡ 8 * (c.fp + n)
  word_there c s n h high =
      let small = standing.sound.stack in
      ap (λ f. sum f (unsigned (word_distance n))) h.frame ∙ grind (arith, nat_tests)

  pub slot_is : (n : ℕ) → n < 2 ^ 28 → slot_distance n ≡ word_distance (4 + n)
  slot_is n low = let least : min (n + 4) (2 ^ 32 - 1) ≡ 4 + n = grind (arith, nat_tests) in ap (λ k. pos (k * 8)) least

  pub slot_there : (c : Machine) (s : State) (n : ℕ) → Held' c s → n < 2 ^ 28 → 8 * (c.fp + 4 + n) + 8 ≤ stack_end m → sum (register s 18) (unsigned (slot_distance n)) ≡ 8 * (c.fp + 4 + n)
  slot_there c s n h low high =
      let same : c.fp + 4 + n ≡ c.fp + (4 + n) = omega arith in
      ap (λ d. sum (register s 18) (unsigned d)) (slot_is n low) ∙ word_there c s (4 + n) h (omega (arith, high)) ∙ ap (λ k. 8 * k) (sym same)

  -- the slots of the frame alone
  abbrev pub own_slots : ℕ → Machine → ℕ → Option ℕ
  own_slots frame c = λ n. if nat_lt n frame then Some (c.stack (c.fp + 4 + n)) else None

  abbrev pub seen : ℕ → Machine → View
  seen frame c = view_of image (own_slots frame c) c.who.table c.world

  module _ (frame : ℕ) (small : frame < 2 ^ 28) where
    slot_read : (c : Machine) (s : State) (n v : ℕ) → Held' c s → image.bottom ≤ c.fp → 8 * (c.fp + (4 + frame)) ≤ stack_end m → own_slots frame c n ≡ Some v →
        read_at w64 s (sum (register s 18) (unsigned (slot_distance n))) ≡ Some v
    slot_read c s n v h low high e = by (nat_lt n frame) refl e
      where
        by : (t : Bool) → nat_lt n frame ≡ t → (if t then Some (c.stack (c.fp + 4 + n)) else None) ≡ Some v → read_at w64 s (sum (register s 18) (unsigned (slot_distance n))) ≡ Some v
        by true q e =
            let inside : n < frame = grind (arith, nat_tests, q) in
            ap (read_at w64 s) (slot_there c s n h (omega (arith, inside, small)) (omega (arith, inside, high))) ∙ h.stack (c.fp + 4 + n) (omega (arith, low)) (omega (arith, inside, high)) ∙ e
        by false q e = absurd (cc)

    cell_is : (c : Machine) (s : State) (kind : HoleKind) (cell v : ℕ) → Held' c s → Cell m c.who.table kind cell v → IsCell kind cell s v
    cell_is c s kind.Regions cell v h x = x
    cell_is c s kind.Runtime cell v h x = x
    cell_is c s kind.Code cell v h x = x
    cell_is c s kind.TypeCell cell v h x = ap (sum cell) h.table ∙ x
    cell_is c s _ cell v h x = ap (λ t. read_at w64 s (sum cell t)) h.table ∙ h.fixed.read w64 (sum cell c.who.table) x.fixed ∙ x.read

    pub sees_held : (c : Machine) (s : State) (cells : HoleKind → ℕ → ℕ) → Held' c s → Linked m image cells c.who.table → image.bottom ≤ c.fp → 8 * (c.fp + (4 + frame)) ≤ stack_end m → Sees (seen frame c) m.code cells false s
    sees_held c s cells h linked low high = record {
      code = h.fixed.code;
      registers = h.fixed.registers;
      zero = h.fixed.zero;
      slot = λ n v e. slot_read c s n v h low high e;
      word = λ a v e. word_read c s a v h e;
      byte = λ a b e. (byte_read c s a b h e).0;
      cell = λ kind number v e. cell_is c s kind (cells kind number) v h (linked.cell kind number v e);
    }

    pub seen_bounded : (c : Machine) (s : State) (cells : HoleKind → ℕ → ℕ) → Held' c s → Linked m image cells c.who.table → Bounded (seen frame c)
    seen_bounded c s cells h linked = record {
      slot = λ n v e. slot_small n v (nat_lt n frame) e;
      hole = λ kind n v e. linked.words kind n v e;
      word = λ a v e. world_small c a v h.sized e;
      byte = λ a b e. (byte_read c s a b h e).1;
    }
      where
        slot_small : (n v : ℕ) (t : Bool) → (if t then Some (c.stack (c.fp + 4 + n)) else None) ≡ Some v → v < 2 ^ 64
        slot_small n v true e = subst (λ k. k < 2 ^ 64) (some_same _ v e) (h.sized.stack (c.fp + 4 + n))
        slot_small n v false e = absurd (cc)
