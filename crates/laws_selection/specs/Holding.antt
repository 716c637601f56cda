-- The machine holds what flat code sees, and is where flat code is.
use Rattle.std.specs.Prelude.{◌≡◌, ◌⊎◌, ℕ, suc, ◌+◌, ◌*◌, ◌^◌, ◌<◌, ◌≤◌, Bool, true, false, drop, length, Option, Some, None}
use Rattle.std.specs.Int.{Width, byte_len, w64, w8}
use Rattle.clu_flat_meaning.specs.Image.{Body, Image}
use Rattle.clu_flat_meaning.specs.Machine.{Ended, Machine, Mode, ended, failed, returned, running, searching, stack_full, store_full, wrong}
use Rattle.rv_machine.specs.declared.trap.Trap.TheVariants as trap
use Rattle.rv_machine.specs.Calls.{range_of}
use Rattle.rv_machine.specs.State.{State, read_at, register, stack_start, store_start}
use Rattle.rv_machine.specs.Steps.{Stops, next}
use Rattle.rv_select.specs.declared.parts.Part.TheVariants as part
use Rattle.laws_selection.specs.Fitting.{Travels, is_read, the_value, the_words}
use Rattle.laws_selection.specs.Growing.{address}
use Rattle.laws_selection.specs.Running.{Reaches}
use Rattle.laws_selection.specs.Standing.{Standing, words_before}

abbrev pub stack_end : State → ℕ
stack_end m = stack_start + length m.stack

abbrev pub store_end : State → ℕ
store_end m = store_start + length m.store

-- what no step changes
pub record Fixed (m s : State) : Type 0 where
  pub code : s.code ≡ m.code
  pub start : s.data_start ≡ m.data_start
  pub image : length s.image ≡ length m.image
  pub store : length s.store ≡ length m.store
  pub stack : length s.stack ≡ length m.stack
  pub registers : length s.registers ≡ 32
  pub zero : register s 0 ≡ 0
  pub store_end : register s 4 ≡ store_end m
  pub stack_end : register s 8 ≡ stack_end m
  pub read : (w : Width) (a : ℕ) → a + byte_len w ≤ m.data_start → read_at w s a ≡ read_at w m a

-- words are words, bytes are bytes, and all lies where the machine has memory
pub record Sized (image : Image) (m : State) (c : Machine) : Type 0 where
  pub table : c.who.table < 2 ^ 64
  pub back : c.back < 2 ^ 64
  pub caller : c.caller < 2 ^ 64
  pub value : c.value < 2 ^ 64
  pub words : c.words < 2 ^ 64
  pub frame : 8 * c.fp < 2 ^ 64
  pub top : 8 * c.top ≤ stack_end m
  pub peak : 8 * c.peak ≤ stack_end m
  pub stack : (n : ℕ) → c.stack n < 2 ^ 64
  pub byte : (a b : ℕ) → c.world.byte a ≡ Some b → b < 2 ^ 8
  pub writable : c.world.writable ≡ m.data_start
  pub next : (store_start ≤ c.world.next) × (c.world.next ≤ store_end m)

-- whether what travels is read from where the machine is on
abbrev pub is_read_from : Travels → Option Body → ℕ → Bool
is_read_from t None pc = false
is_read_from t (Some b) pc = is_read t (drop pc b.code)

abbrev pub reads : Image → Travels → ℕ → ℕ → Mode → Bool
reads image t body pc running = is_read_from t (image.body body) pc
reads image t body pc searching = true
reads image t body pc _ = false

pub record Held (image : Image) (m : State) (c : Machine) (s : State) : Type 0 where
  pub fixed : Fixed m s
  pub sized : Sized image m c
  pub frame : register s 18 ≡ 8 * c.fp
  pub top : register s 2 ≡ 8 * c.top
  pub table : register s 9 ≡ c.who.table
  pub store : register s 3 ≡ c.world.next
  pub value : reads image the_value c.who.body c.pc c.mode ≡ true → register s 10 ≡ c.value
  pub words : reads image the_words c.who.body c.pc c.mode ≡ true → register s 11 ≡ c.words
  pub stack : (n : ℕ) → image.bottom ≤ n → 8 * n + 8 ≤ stack_end m → read_at w64 s (8 * n) ≡ Some (c.stack n)
  pub byte : (a b : ℕ) → a < store_end m → c.world.byte a ≡ Some b → read_at w8 s a ≡ Some b

-- Where the machine is.

-- at the place of a step; where a routine begins, with what its call gave
pub record Runs (image : Image) (c : Machine) (s : State) : Type 0 where
  pub code : Body
  pub there : image.body c.who.body ≡ Some code
  pub inside : c.pc ≤ length code.code
  pub pc : s.pc ≡ image.address c.who.body c.pc
  pub back : c.pc ≡ 0 → register s 1 ≡ c.back
  pub caller : c.pc ≡ 0 → register s 7 ≡ c.caller

-- the return address is after one of the words of the step
pub record Within (image : Image) (m : State) (standing : Standing image m) (c : Machine) (s : State) : Type 0 where
  pub code : Body
  pub there : image.body c.who.body ≡ Some code
  pub word : ℕ
  pub low : words_before code c.pc ≤ word
  pub high : word < words_before code (suc c.pc)
  pub back : register s 1 ≡ address (standing.routine c.who.body code there) (suc word)

-- where the search for an arm begins, outside of all frames or at a step
pub record Searches (image : Image) (m : State) (standing : Standing image m) (c : Machine) (s : State) : Type 0 where
  pub pc : (s.pc ≡ address (standing.part part.Search) 0) ⊎ (s.pc ≡ address (standing.part part.Search) 1)
  pub within : (c.fp ≡ 0) ⊎ Within image m standing c s

-- at the call of the environment that ends the run
pub record Calls (call : ℕ) (s : State) : Type 0 where
  pub stops : next s ≡ Stops trap.Call s
  pub number : register s 17 ≡ call

abbrev pub Ends : Ended → State → Type 0
Ends returned s = Calls 0 s
Ends (failed text) s = Calls 1 s × (range_of s ≡ Some text)
Ends store_full s = Calls 2 s
Ends stack_full s = Calls 3 s

abbrev pub IsAt : (image : Image) (m : State) → Standing image m → Machine → State → Mode → Type 0
IsAt image m standing c s running = Held image m c s × Runs image c s
IsAt image m standing c s searching = Held image m c s × Searches image m standing c s
IsAt image m standing c s (ended how) = Ends how s
IsAt image m standing c s wrong = Unit {0}

-- from a state the machine comes to where flat code is
pub record Arrives (image : Image) (m : State) (standing : Standing image m) (d : Machine) (s : State) : Type 0 where
  pub state : State
  pub reaches : Reaches s state
  pub at : IsAt image m standing d state d.mode
