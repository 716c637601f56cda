-- What a call in flat code comes to: the machine is back where the routine was called, as word code says.
use Rattle.std.specs.Prelude.{◌≡◌, ◌<◌, ◌≤◌, ◌+◌, ◌*◌, ℕ, suc, List, [], ◌∷◌, length, Some, slice_get}
use Rattle.clu_word_meaning.specs.Words.{Ending, Result, Slots, State, caller_of, ended, normal, out_of_turns, raised, through}
use Rattle.clu_flat_meaning.specs.Image.{Body, Image, Instance}
use Rattle.clu_flat_meaning.specs.Machine.{Comes, Machine, Mode, running, searching, word_below}

-- words that travel: they stand above a number, or are fixed, so that what is put below it doesn't change them
pub record Carries (image : Image) (from : ℕ) (ws : List ℕ) (c : Machine) : Type 0 where
  pub at : (i w : ℕ) → slice_get ws i ≡ Some w → (s : ℕ → ℕ) → ((n : ℕ) → from ≤ n → s n ≡ c.stack n) → word_below image c.peak s (c.words + 8 * i) ≡ Some w

-- results: one is the value that travels
abbrev pub Brings : Image → ℕ → List ℕ → Machine → Type 0
Brings image from [] c = Unit {0}
Brings image from (w ∷ []) c = c.value ≡ w
Brings image from (w ∷ v ∷ ws) c = Carries image from (w ∷ v ∷ ws) c

pub record Excepts (image : Image) (from : ℕ) (name ws : List ℕ) (c : Machine) : Type 0 where
  pub named : image.name_of c.value ≡ Some name
  pub words : Carries image from ws c

-- the frames and records of the stack were within the most live words, and the store within its meter
abbrev pub Within : State → Machine → Type 0
Within st c = (c.peak ≤ st.meters.most) × (c.used ≤ st.meters.store) × (c.clock ≤ st.meters.steps) × (c.high ≤ st.meters.most) × (c.top ≤ c.high)

-- the machine comes back to where a routine was called: the caller, its frame, and the top of the stack as it was
pub record Backs (image : Image) (inv : (ℕ → ℕ) → List Slots → Type 0) (caller : ℕ) (link : Instance) (last high : ℕ) (c : Machine) (at : ℕ) (into : Mode) (brought : Machine → Type 0) (st : State) : Type 0 where
  pub machine : Machine
  pub comes : Comes image c machine
  pub pc : machine.pc ≡ at
  pub who : machine.who ≡ link
  pub frame : machine.fp ≡ caller
  pub mode : machine.mode ≡ into
  pub brings : brought machine
  pub below : inv machine.stack st.outer
  pub world : machine.world ≡ st.world
  pub pay : st.meters.spent ≤ machine.clock
  pub within : Within st machine
  pub room : high ≤ machine.peak
  -- where an exception is searched, what was left may still be on the stack
  pub top : into ≡ running → machine.top ≡ last

pub record Spends (image : Image) (c : Machine) (st : State) : Type 0 where
  pub machine : Machine
  pub comes : Comes image c machine
  -- it runs in code that is there
  pub there : (body : Body) × (image.body machine.who.body ≡ Some body)
  pub output : machine.world.output ≡ st.world.output
  pub mode : machine.mode ≡ running
  pub pay : st.meters.spent ≤ machine.clock
  pub within : Within st machine

-- What is true of the stack below a routine that was called and of the slots of the loops' routines there, and where what the body
-- of its loop ended with lands.
pub record Context : Type 1 where
  pub inv : (ℕ → ℕ) → List Slots → Type 0
  pub out : Ending → State → Machine → Type 0
  pub site : ℕ
  pub caller : ℕ
  pub link : Instance
  -- the top of the stack where it was called, and the end of the caller's frame
  pub last : ℕ
  pub high : ℕ

module _ (image : Image) (k : Context) where
  -- what a call comes to
  abbrev pub Called : Machine → Result (List ℕ) → Type 0
  Called c (normal given turns st) = Backs image k.inv k.caller k.link k.last k.high c (suc k.site) running (Brings image k.last given) st
  Called c (ended (raised name ws) turns st) = Backs image k.inv k.caller k.link k.last k.high c k.site searching (Excepts image k.last name ws) st
  Called c (ended (through e) turns st) = (d : Machine) × Comes image c d × k.out e (caller_of st) d
  Called c (ended _ turns st) = Unit {0}
  Called c (out_of_turns st) = Spends image c st

  -- a machine at a call, with the arguments in its slots
  pub record AtCall (slot : ℕ) (ws : List ℕ) (st : State) (c : Machine) : Type 0 where
    pub pc : c.pc ≡ k.site
    pub who : c.who ≡ k.link
    pub mode : c.mode ≡ running
    pub frame : c.fp ≡ k.caller
    pub top : c.top ≡ k.last
    pub words : (i w : ℕ) → slice_get ws i ≡ Some w → c.stack (c.fp + 4 + slot + i) ≡ w
    pub inside : c.fp + 4 + slot + length ws ≤ k.high
    pub deep : image.bottom ≤ c.fp
    pub room : k.high ≤ c.peak
    pub below : k.inv c.stack st.outer
    pub world : c.world ≡ st.world
    -- the call is a step
    pub pay : st.meters.spent ≤ suc c.clock
    pub within : Within st c
    pub more : suc c.clock ≤ st.meters.steps

-- where a routine is called that is no iterator, what is below its frame stays as it is
abbrev pub calling_from : ℕ → Machine → Context
calling_from high c = record { inv = λ s outer. (i : ℕ) → i < c.top → s i ≡ c.stack i; out = λ e st d. Unit {0}; site = c.pc; caller = c.fp; link = c.who; last = c.top; high = high }
