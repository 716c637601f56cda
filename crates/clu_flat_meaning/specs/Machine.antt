-- What flat code does: one step at a time over the words of one stack and the world.
--
-- The stack is words by their numbers: the word of number n is at the address 8 * n. The place of a frame and the top of the
-- stack are numbers of words; where they are saved in the stack, or travel, they stand there as addresses.
use Rattle.std.specs.Prelude.{◌≡◌, ℕ, zero, suc, ◌+◌, ◌-◌, ◌*◌, ◌/◌, ◌%◌, ◌^◌, ◌==◌, max, nat_lt, nat_le, ◌&&◌, ℤ, pos, negsuc, Bool, true, false, List, [], ◌∷◌, Option, None, Some, if◌then◌else◌, option_map, slice_get}
use Rattle.clu_wir.specs.Numbers.{primitives}
use Rattle.clu_wir.specs.Plain.{Deed, Expr, gives_value, puts_word}
use Rattle.clu_wir.specs.Value.{Gives, Raises, Stuck, Value, View, value}
use Rattle.clu_wir.specs.declared.primitive.Primitive.{Primitive}
use Rattle.clu_frames.specs.Plain.{Step}
use Rattle.clu_frames.specs.Plain as flat
use Rattle.clu_word_meaning.specs.World.{Done, World, also, arity, bound, byte_of, done, put_word, string_of, unhandled_text, with_string, word_of}
use Rattle.clu_flat_meaning.specs.Image.{Body, Descriptor, Entry, FlatArm, FlatRegion, Image, Instance, at_deed, at_end, at_step}

-- The machine.

pub data Ended : Type 0 where
  returned : Ended
  failed : List ℕ → Ended
  store_full stack_full : Ended

-- it runs; the arm of an exception is searched, which was raised at the step; it has ended; no rule says how it goes on
pub data Mode : Type 0 where
  running searching wrong : Mode
  ended : Ended → Mode

pub record Machine : Type 0 where
  -- the running instance, the number of the step, the place of the frame, and the top of the stack
  pub who : Instance
  pub pc : ℕ
  pub fp : ℕ
  pub top : ℕ
  -- what travels: the return address and the caller's link table of a call, a value, and the address of words
  pub back : ℕ
  pub caller : ℕ
  pub value : ℕ
  pub words : ℕ
  pub stack : ℕ → ℕ
  pub world : World
  pub mode : Mode
  -- the highest top of a frame or a record so far
  pub peak : ℕ
  -- counted alone: the steps, the most of the store, and the highest top of the stack so far
  pub clock : ℕ
  pub used : ℕ
  pub high : ℕ

-- Parts of steps.

abbrev pub goes_wrong : Machine → Machine
goes_wrong c = record c { mode = wrong }

abbrev pub stops : Ended → Machine → Machine
stops how c = record c { mode = ended how }

unfoldable pub or_wrong : {A : Type 0} → Option A → (A → Machine) → Machine → Machine
or_wrong None f c = goes_wrong c
or_wrong (Some a) f c = f a

unfoldable pub where_so : Bool → Machine → Machine → Machine
where_so true d c = d
where_so false d c = goes_wrong c

-- where there is room for what is taken
unfoldable pub where_room : Bool → Ended → Machine → Machine → Machine
where_room true how d c = d
where_room false how d c = stops how c

abbrev pub goes_to : ℕ → Machine → Machine
goes_to pc c = record c { pc = pc; clock = suc c.clock }

abbrev pub next : Machine → Machine
next c = record c { pc = suc c.pc; clock = suc c.clock }

abbrev pub put_at : ℕ → ℕ → (ℕ → ℕ) → ℕ → ℕ
put_at to w stack = λ n. if n == to then w else stack n

abbrev pub put_in : ℕ → ℕ → Machine → Machine
put_in slot w c = record c { stack = put_at (c.fp + 4 + slot) w c.stack }

abbrev pub address_of : ℕ → ℕ
address_of n = 8 * n

-- the number of the word at an address
abbrev pub number_at : ℕ → ℕ
number_at a = a / 8

abbrev pub is_address : ℕ → Bool
is_address a = a % 8 == 0

abbrev pub slot_address : Machine → ℕ → ℕ
slot_address c slot = address_of (c.fp + 4 + slot)

-- Labels.

abbrev pub is_label : ℕ → Step → Bool
is_label l (flat.Label n) = n == l
is_label l _ = false

unfoldable pub place_of : List Step → ℕ → ℕ
place_of [] l = 0
place_of (step ∷ rest) l = if is_label l step then 0 else suc (place_of rest l)

abbrev pub at_offset : ℕ → ℤ → ℕ
at_offset a (pos n) = (a + n) % 2 ^ 64
at_offset a (negsuc n) = (a + 2 ^ 64 - suc n) % 2 ^ 64

-- The arm of a name: of the innermost region round the step that has an arm of the name, or else one for all others.

abbrev pub is_round : ℕ → FlatRegion → Bool
is_round n r = nat_le r.first n && nat_le n r.last

abbrev pub or_else : {A : Type 0} → Option A → Option A → Option A
or_else None other = other
or_else (Some a) other = Some a

unfoldable pub arm_named : ℕ → List FlatArm → Option FlatArm
arm_named name [] = None
arm_named name (a ∷ rest) = if a.name == name then Some a else arm_named name rest

abbrev pub arm_in : ℕ → FlatRegion → Option FlatArm
arm_in name r = or_else (arm_named name r.arms) (arm_named 0 r.arms)

-- outer regions come first
unfoldable pub arm_from : Option FlatArm → List FlatRegion → ℕ → ℕ → Option FlatArm
arm_from outside [] n name = outside
arm_from outside (r ∷ rs) n name = arm_from (or_else (if is_round n r then arm_in name r else None) outside) rs n name

abbrev pub arm_at : List FlatRegion → ℕ → ℕ → Option FlatArm
arm_at regions n name = arm_from None regions n name

-- Words side by side from a number on.

unfoldable pub put_all : ℕ → List ℕ → (ℕ → ℕ) → ℕ → ℕ
put_all to [] stack = stack
put_all to (w ∷ ws) stack = put_all (suc to) ws (put_at to w stack)

unfoldable pub row_of : (ℕ → ℕ) → ℕ → ℕ → List ℕ
row_of stack from zero = []
row_of stack from (suc n) = stack from ∷ row_of stack (suc from) n

module _ (image : Image) where
  -- a word that is fixed, or one of the stack below a number
  abbrev pub word_below : ℕ → (ℕ → ℕ) → ℕ → Option ℕ
  word_below end stack a = if nat_lt a (address_of image.bottom) then image.fixed a else (if is_address a && nat_lt (number_at a) end then Some (stack (number_at a)) else None)

  unfoldable pub words_below : ℕ → (ℕ → ℕ) → ℕ → ℕ → Option (List ℕ)
  words_below end stack a zero = Some []
  words_below end stack a (suc n) = also (word_below end stack a) (λ w. also (words_below end stack (a + 8) n) (λ ws. Some (w ∷ ws)))

  -- a word that travelled: what is above the top stays until something is pushed
  abbrev pub travelled : Machine → ℕ → Option ℕ
  travelled c n = word_below c.peak c.stack (c.words + 8 * n)

  -- What expressions see.

  abbrev pub slots_at : Machine → ℕ → Option ℕ
  slots_at c = λ n. Some (c.stack (c.fp + 4 + n))

  abbrev pub view_of : (ℕ → Option ℕ) → ℕ → World → View
  view_of slots table world = record { slot = slots; hole = image.hole table; word = word_of world; byte = byte_of world }

  -- what an expression raises is raised at its step
  unfoldable pub by_word : Value → (ℕ → Machine → Machine) → Machine → Machine
  by_word (Gives w) f c = f w c
  by_word (Raises t) f c = record c { clock = suc c.clock; mode = searching; value = image.trap_name t; words = image.trap_objects t }
  by_word Stuck f c = goes_wrong c

  abbrev pub with_word : Expr → (ℕ → Machine → Machine) → Machine → Machine
  with_word e f c = by_word (value (view_of (slots_at c) c.who.table c.world) e) f c

  -- the frame is one of the stack
  abbrev pub is_frame : Body → Machine → Bool
  is_frame b c = nat_le image.bottom c.fp && nat_le (c.fp + (4 + b.frame)) c.peak

  -- Where a return address leads: back to the step, to the call before it, or to the body of the loop, which is after the jump
  -- at which the call returns.

  unfoldable pub returns : Option Entry → Machine → Machine
  returns (Some (at_step body step)) c = record c { who = record { body = body; table = c.who.table }; pc = step; clock = suc c.clock }
  returns (Some at_end) c = record c { mode = ended returned; clock = suc c.clock }
  returns _ c = goes_wrong c

  unfoldable pub to_call : Option Entry → Machine → Machine
  to_call (Some (at_step body step)) c = record c { who = record { body = body; table = c.who.table }; pc = step - 1; mode = searching; clock = suc c.clock }
  to_call _ c = record c { mode = searching; clock = suc c.clock }

  unfoldable pub to_body : Option Entry → Machine → Machine
  to_body (Some (at_step body step)) c = record c { who = record { body = body; table = c.who.table }; pc = suc step; clock = suc c.clock }
  to_body _ c = goes_wrong c

  -- the caller's frame and link table, which stand in the running one
  abbrev pub callers : Machine → Machine
  callers c = record c { who = record c.who { table = c.stack (c.fp + 2) }; fp = number_at (c.stack (c.fp + 1)) }

  -- the frame is taken away, and the machine goes on at the return address
  abbrev pub leaving : (Option Entry → Machine → Machine) → Machine → Machine
  leaving on c = where_so (is_address (c.stack (c.fp + 1))) (on (image.entry (c.stack c.fp)) (record (callers c) { top = c.fp; high = max c.high c.fp })) c

  -- one result is the value that travels, several are words
  unfoldable pub with_results : ℕ → ℕ → Machine → Machine
  with_results slot zero c = c
  with_results slot (suc zero) c = record c { value = c.stack (c.fp + 4 + slot) }
  with_results slot (suc (suc n)) c = record c { words = slot_address c slot }

  -- What changes the world.

  abbrev pub done_at : ℕ → Done → Machine → Machine
  done_at slot d c =
      where_room (image.has_store d.world.next) store_full
      (next (record c { stack = put_all (c.fp + 4 + slot) d.results c.stack; world = d.world; used = max c.used d.world.next })) c

  unfoldable pub puts_world : Option World → Machine → Machine
  puts_world None c = goes_wrong c
  puts_world (Some w) c = next (record c { world = w })

  unfoldable pub does : ℕ → Option Done → Machine → Machine
  does slot None c = goes_wrong c
  does slot (Some d) c = done_at slot d c

  unfoldable pub does_primitive : Option Primitive → ℕ → Machine → Machine
  does_primitive None slot c = goes_wrong c
  does_primitive (Some p) slot c = does slot (done (Some p) (row_of c.stack (c.fp + 4 + slot) (arity p)) c.world) c

  -- Calls. The slots of a routine without a frame are its arguments; what it raises is raised at its call.

  abbrev pub leaf_slots : ℕ → Machine → ℕ → Option ℕ
  leaf_slots slot c = λ n. if nat_lt (c.fp + 4 + slot + n) c.peak then Some (c.stack (c.fp + 4 + slot + n)) else None

  abbrev pub leaf_value : ℕ → ℕ → Machine → Expr → Value
  leaf_value table slot c e = value (view_of (leaf_slots slot c) table c.world) e

  unfoldable pub does_deed : Deed → ℕ → ℕ → Machine → Machine
  does_deed (gives_value e) table slot c = by_word (leaf_value table slot c e) (λ w c. next (record c { value = w })) c
  does_deed (puts_word address bytes e) table slot c =
      by_word (leaf_value table slot c e) (λ w c. by_word (leaf_value table slot c address) (λ a c. puts_world (put_word c.world ((a + bytes) % 2 ^ 64) w) c) c) c

  abbrev pub calling : ℕ → Machine → Machine
  calling slot c = record c { back = image.address c.who.body (suc c.pc); caller = c.who.table; value = slot_address c slot }

  unfoldable pub called : Entry → ℕ → ℕ → Machine → Machine
  called (at_step body step) table slot c = record (calling slot c) { who = record { body = body; table = table }; pc = step; clock = suc c.clock }
  called (at_deed deed) table slot c = does_deed deed table slot (calling slot c)
  called at_end table slot c = goes_wrong c

  unfoldable pub invoked : Option Descriptor → ℕ → Machine → Machine
  invoked None slot c = goes_wrong c
  invoked (Some d) slot c = called d.entry d.table slot c

  -- the first step of a routine makes its frame, and copies its arguments
  abbrev pub framed : ℕ → Machine → ℕ → ℕ
  framed top c = put_at (c.top + 3) (address_of top) (put_at (c.top + 2) c.caller (put_at (c.top + 1) (address_of c.fp) (put_at c.top c.back c.stack)))

  unfoldable pub entered : ℕ → Option (List ℕ) → Machine → Machine
  entered top None c = goes_wrong c
  entered top (Some ws) c =
      next (record c { fp = c.top; top = top; peak = max c.peak top; high = max c.high top; stack = put_all (c.top + 4) ws (framed top c) })

  abbrev pub enters : ℕ → ℕ → Machine → Machine
  enters arguments top c =
      where_room (image.has_stack top) stack_full
      (where_so (nat_le image.bottom c.top) (entered top (words_below c.top c.stack c.value arguments) c) c) c

  -- Iterators: a record stands above the frame of one that waits.

  unfoldable pub handed_out : ℕ → ℕ → Machine → Machine
  handed_out slot zero c = c
  handed_out slot (suc n) c = record c { words = slot_address c slot }

  abbrev pub recorded : Machine → ℕ → ℕ
  recorded c = put_at (c.top + 2) c.who.table (put_at (c.top + 1) (address_of c.fp) (put_at c.top (image.address c.who.body (suc c.pc)) c.stack))

  abbrev pub yielding : Machine → Machine
  yielding c = record (callers c) { value = address_of (c.top + 3); top = c.top + 3; peak = max c.peak (c.top + 3); high = max c.high (c.top + 3); stack = recorded c }

  abbrev pub yields : ℕ → ℕ → Machine → Machine
  yields slot count c =
      where_room (image.has_stack (c.top + 3)) stack_full
      (where_so (nat_le image.bottom c.top && is_address (c.stack (c.fp + 1))) (to_body (image.entry (c.stack c.fp)) (yielding (handed_out slot count c))) c) c

  -- the record below a top is taken off
  abbrev pub is_record : ℕ → Machine → Bool
  is_record a c = is_address a && (nat_le (image.bottom + 3) (number_at a) && (nat_le (number_at a) c.peak && is_address (c.stack (number_at a - 2))))

  abbrev pub resuming : ℕ → Machine → Machine
  resuming low c =
      returns (image.entry (c.stack low))
      (record c { top = low; high = max c.high low; fp = number_at (c.stack (low + 1)); who = record c.who { table = c.stack (low + 2) } })

  abbrev pub resumes : ℕ → Machine → Machine
  resumes a c = where_so (is_record a c) (resuming (number_at a - 3) c) c

  abbrev pub cut_to : ℕ → Machine → Machine
  cut_to a c = where_so (is_address a) (next (record c { top = number_at a; high = max c.high (number_at a) })) c

  -- Exceptions.

  abbrev pub excepted : ℕ → Machine → Machine
  excepted slot c = record c { value = c.stack (c.fp + 4 + slot); words = slot_address c (slot + 1) }

  abbrev pub branches : Bool → Bool → List Step → ℕ → Machine → Machine
  branches true true code label c = next c
  branches true false code label c = goes_to (place_of code label) c
  branches false true code label c = goes_to (place_of code label) c
  branches false false code label c = next c

  -- A step of running code.
  unfoldable pub on_step : Body → Step → Machine → Machine
  on_step b (flat.Set to e) c = with_word e (λ w c. next (put_in to w c)) c
  on_step b (flat.Put address bytes e) c = with_word e (λ w c. with_word address (λ a c. puts_world (put_word c.world (at_offset a bytes) w) c) c) c
  on_step b (flat.Label label) c = next c
  on_step b (flat.Jump label) c = goes_to (place_of b.code label) c
  on_step b (flat.Branch e sense label) c = with_word e (λ w c. branches (w == 0) sense b.code label c) c
  on_step b (flat.Enter arguments) c = enters arguments (c.top + (4 + b.frame)) c
  on_step b (flat.Bind number e to) c = with_word number (λ n c. with_word e (λ w c. does to (bound n w c.world) c) c) c
  on_step b (flat.Invoke routine slot) c = with_word routine (λ d c. invoked (image.descriptor d) slot c) c
  on_step b (flat.Yield slot count) c = yields slot count c
  on_step b (flat.Resume slot) c = resumes (c.stack (c.fp + 4 + slot)) c
  on_step b (flat.Take to) c = next (put_in to c.value c)
  on_step b (flat.Result to number) c = or_wrong (travelled c number) (λ w. next (put_in to w c)) c
  on_step b (flat.Cut mark) c = cut_to (c.stack (c.fp + mark)) c
  on_step b (flat.Leave slot count) c = leaving returns (with_results slot count c)
  on_step b (flat.Raise slot) c = record (excepted slot c) { mode = searching; clock = suc c.clock }
  on_step b (flat.Signal slot) c = leaving to_call (excepted slot c)
  on_step b flat.Pass c = leaving to_call c
  on_step b (flat.Prim number slot) c = does_primitive (slice_get primitives number) slot c

  -- the first step of a routine still has its caller's frame
  abbrev pub stands : Body → Step → Machine → Bool
  stands b (flat.Enter arguments) c = true
  stands b _ c = is_frame b c

  -- A step of the search: to the arm of the frame's routine that takes the exception, or else out of the frame, as failure.

  unfoldable pub at_arm : FlatArm → ℕ → Machine → Machine
  at_arm arm a c = where_so (is_address a) (record c { mode = running; pc = arm.target; top = number_at a; high = max c.high (number_at a); clock = suc c.clock }) c

  abbrev pub passing : Machine → Machine
  passing c = where_so (is_address (c.stack (c.fp + 1))) (to_call (image.entry (c.stack c.fp)) (callers c)) c

  -- the text is made in the store, and its address stands where the frame was
  unfoldable pub failing : Option World → Machine → Machine
  failing None c = goes_wrong c
  failing (Some w) c =
      where_room (image.has_store w.next) store_full
      (where_so (is_address (c.stack (c.fp + 1))) (to_call (image.entry (c.stack c.fp)) (record (callers c) {
        value = image.failure;
        words = address_of c.fp;
        stack = put_at c.fp c.world.next c.stack;
        world = w;
        used = max c.used w.next;
      })) c) c

  unfoldable pub outward : Bool → Option (List ℕ) → Machine → Machine
  outward true name c = passing c
  outward false None c = goes_wrong c
  outward false (Some name) c = failing (with_string (unhandled_text name) c.world) c

  unfoldable pub on_arm : Option FlatArm → Machine → Machine
  on_arm (Some arm) c = at_arm arm (c.stack (c.fp + arm.mark)) c
  on_arm None c = outward (c.value == image.failure) (image.name_of c.value) c

  -- outside all routines the run ends with the text of failure
  abbrev pub last_text : Machine → Option (List ℕ)
  last_text c = if c.value == image.failure then also (word_below c.peak c.stack c.words) (string_of c.world) else option_map unhandled_text (image.name_of c.value)

  unfoldable pub at_bottom : Option (List ℕ) → Machine → Machine
  at_bottom None c = goes_wrong c
  at_bottom (Some text) c = record c { mode = ended (failed text); clock = suc c.clock }

  unfoldable pub searches : Body → Machine → Machine
  searches b c = where_so (is_frame b c) (on_arm (arm_at (image.regions c.who.table) c.pc c.value) c) c

  -- One step.

  unfoldable pub on_found : Body → Option Step → Machine → Machine
  on_found b (Some step) c = where_so (stands b step c) (on_step b step c) c
  on_found b None c = goes_wrong c

  unfoldable pub in_body : (Body → Machine → Machine) → Option Body → Machine → Machine
  in_body f (Some b) c = f b c
  in_body f None c = goes_wrong c

  unfoldable pub in_frame : Bool → Machine → Machine
  in_frame true c = at_bottom (last_text c) c
  in_frame false c = in_body searches (image.body c.who.body) c

  unfoldable pub on_mode : Mode → Machine → Machine
  on_mode running c = in_body (λ b c. on_found b (slice_get b.code c.pc) c) (image.body c.who.body) c
  on_mode searching c = in_frame (c.fp == 0) c
  on_mode wrong c = c
  on_mode (ended how) c = c

  unfoldable pub stepped : Machine → Machine
  stepped c = on_mode c.mode c

  unfoldable pub run : ℕ → Machine → Machine
  run zero c = c
  run (suc n) c = run n (stepped c)

  -- Where a program starts: the procedure whose code is a body is called from no frame; its end returns to an address.
  abbrev pub started : ℕ → Instance → World → Machine
  started end who world = record {
    who = who;
    pc = 0;
    fp = 0;
    top = image.bottom;
    back = end;
    caller = 0;
    value = address_of image.bottom;
    words = 0;
    stack = λ n. 0;
    world = world;
    mode = running;
    peak = image.bottom;
    clock = 0;
    used = world.next;
    high = image.bottom;
  }

-- The second machine is a later one of the first.
pub record Comes (image : Image) (c d : Machine) : Type 0 where
  pub steps : ℕ
  pub come : run image steps c ≡ d
