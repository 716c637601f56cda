-- How a state of word code and its outcomes are seen in flat code on one stack.
use Rattle.std.proofs.Common.{◌≡◌, ◌⊎◌, ℕ, suc, ◌+◌, ◌^◌, ◌<◌, ◌≤◌, List, length, Option, Some, None, slice_get}
use Rattle.clu_frames.specs.declared.surroundings.Turns.{Turns}
use Rattle.clu_frames.specs.Flattening.{Guarding, Made, Round}
use Rattle.clu_wir.specs.Plain.{Expr}
use Rattle.clu_wir.specs.Plain as plain
use Rattle.clu_wir.specs.Value.{Gives, Raises, Stuck, Value, value}
use Rattle.clu_word_meaning.specs.Words.{Ending, Linked, Result, Slots, State, broken, caller_of, continued, ended, exited, normal, out_of_turns, puts, raised, returned, signalled, through, view, with_slots, wrong}
use Rattle.clu_flat_meaning.specs.Image.{Body, FlatArm, FlatRegion, Image, Instance, at_step}
use Rattle.clu_flat_meaning.specs.Machine.{Comes, Machine, Mode, address_of, arm_at, number_at, place_of, running, searching, slots_at, view_of}
use Rattle.laws_frames.specs.Calls.{Backs, Brings, Excepts, Spends, Within}
use Rattle.laws_frames.specs.Promises.{Honest}

-- A routine that runs in its frame: the image, the code, the instance and what it knows, how many slots it names; the place of
-- its frame; what is true of the stack below; where what a loop's body ended with lands, while it passes; the arm of a name in a
-- region.
pub record Place : Type 1 where
  pub image : Image
  pub shape : Body
  pub me : Instance
  pub linked : Linked
  pub base : ℕ
  pub fp : ℕ
  -- where it was called: the place of the Invoke, the caller's frame and the caller
  pub site : ℕ
  pub caller : ℕ
  pub link : Instance
  -- the end of the caller's frame
  pub high : ℕ
  pub inv : (ℕ → ℕ) → List Slots → Type 0
  pub out : Ending → State → Machine → Type 0
  pub seek : Option ℕ → ℕ → Option FlatArm

module _ (p : Place) where
  abbrev pub regions : List FlatRegion
  regions = p.image.regions p.me.table

  -- the first word of the frame that no slot of word code has
  abbrev pub beyond : ℕ
  beyond = p.fp + 4 + p.base

  -- the state as the machine has it
  pub record SeesBy (slack : ℕ → ℕ) (st : State) (c : Machine) : Type 0 where
    pub slots : (n w : ℕ) → n < p.base → st.slots n ≡ Some w → c.stack (p.fp + 4 + n) ≡ w
    pub below : p.inv c.stack st.outer
    pub world : c.world ≡ st.world
    pub who : c.who ≡ p.me
    pub frame : c.fp ≡ p.fp
    pub room : p.fp + 4 + p.shape.frame ≤ c.peak
    -- a step for each turn
    pub pay : st.meters.spent ≤ slack c.clock
    pub within : Within st c

  abbrev pub Sees : State → Machine → Type 0
  Sees st c = SeesBy (λ n. n) st c

  -- the next step is to pay a turn
  abbrev pub Owes : State → Machine → Type 0
  Owes st c = SeesBy suc st c

  -- what statements leave of an earlier stack: the foot, marks, and what stands above the frame
  pub record Keeps (work top : ℕ) (s now : ℕ → ℕ) : Type 0 where
    pub foot : (i : ℕ) → i < 4 → now (p.fp + i) ≡ s (p.fp + i)
    pub marks : (i : ℕ) → p.base ≤ i → i < work → now (p.fp + 4 + i) ≡ s (p.fp + 4 + i)
    pub above : (i : ℕ) → p.fp + 4 + p.shape.frame ≤ i → i < top → now i ≡ s i

  -- the machine comes to a place with this top of the stack, in this state
  pub record ArrivesBy (slack : ℕ → ℕ) (work bound : ℕ) (s : ℕ → ℕ) (c : Machine) (at last : ℕ) (st : State) : Type 0 where
    pub machine : Machine
    pub comes : Comes p.image c machine
    pub pc : machine.pc ≡ at
    pub top : machine.top ≡ last
    pub mode : machine.mode ≡ running
    pub sees : SeesBy slack st machine
    pub keeps : Keeps work bound s machine.stack

  abbrev pub Arrives : ℕ → ℕ → (ℕ → ℕ) → Machine → ℕ → ℕ → State → Type 0
  Arrives work bound s c at last st = ArrivesBy (λ n. n) work bound s c at last st

  -- an exception is searched from a place of a region, with the frame as it is; what is above it doesn't matter
  pub record Seeks (work top : ℕ) (s : ℕ → ℕ) (c : Machine) (region : Option ℕ) (name objects : List ℕ) (st : State) : Type 0 where
    pub machine : Machine
    pub comes : Comes p.image c machine
    pub mode : machine.mode ≡ searching
    pub home : arm_at regions machine.pc machine.value ≡ p.seek region machine.value
    pub excepts : Excepts p.image beyond name objects machine
    pub sees : Sees st machine
    pub keeps : Keeps work top s machine.stack

  -- the frame was left, to where the routine was called, or the caller where an exception is searched
  abbrev pub Leaves : Machine → ℕ → Mode → (Machine → Type 0) → State → Type 0
  Leaves c at into brought st = Backs p.image p.inv p.caller p.link p.fp p.high c at into brought st

  abbrev pub cut_top : Option ℕ → (ℕ → ℕ) → ℕ → ℕ
  cut_top None s top = top
  cut_top (Some mark) s top = number_at (s (p.fp + mark))

  -- the label of the end may have to pay for a Break that has no step: a choice that only leaves its loop is one Branch
  abbrev pub AtEnd : Option Turns → ℕ → ℕ → (ℕ → ℕ) → Machine → State → Type 0
  AtEnd None work top s c st = Unit {0}
  AtEnd (Some t) work top s c st = ArrivesBy suc work top s c (place_of p.shape.code t.end) (cut_top t.cut s top) st

  abbrev pub AtNext : Option Turns → ℕ → ℕ → (ℕ → ℕ) → Machine → State → Type 0
  AtNext None work top s c st = Unit {0}
  AtNext (Some t) work top s c st = Arrives work top s c (place_of p.shape.code t.next) top st

  abbrev pub AtSlots : Option (List ℕ) → ℕ → ℕ → List ℕ → ℕ → ℕ → (ℕ → ℕ) → Machine → State → Type 0
  AtSlots None label mark ws work top s c st = Unit {0}
  AtSlots (Some slots) label mark ws work top s c st = length slots ≡ length ws → Arrives work top s c (place_of p.shape.code label) (number_at (s (p.fp + mark))) (with_slots (puts slots ws) st)

  abbrev pub AtArm : Option Guarding → ℕ → List ℕ → ℕ → ℕ → (ℕ → ℕ) → Machine → State → Type 0
  AtArm None arm ws work top s c st = Unit {0}
  AtArm (Some g) arm ws work top s c st = AtSlots (slice_get g.slots arm) (g.label + arm) g.mark ws work top s c st

  -- where each ending lands
  abbrev pub Lands : Round → ℕ → (ℕ → ℕ) → Machine → Ending → State → Type 0
  Lands round top s c broken st = AtEnd round.turns round.work top s c st
  Lands round top s c continued st = AtNext round.turns round.work top s c st
  Lands round top s c (returned ws) st = Leaves c (suc p.site) running (Brings p.image p.fp ws) st
  Lands round top s c (signalled name ws) st = Leaves c p.site searching (Excepts p.image p.fp name ws) st
  Lands round top s c (raised name ws) st = Seeks round.work top s c round.region name ws st
  Lands round top s c (exited inside arm ws) st = AtArm (slice_get round.guards inside) arm ws round.work top s c st
  Lands round top s c (through e) st = (c' : Machine) × Comes p.image c c' × p.out e (caller_of st) c'
  Lands round top s c wrong st = Unit {0}

  abbrev pub Outcome : Round → ℕ → ℕ → (ℕ → ℕ) → Machine → Result (Unit {0}) → Type 0
  Outcome round at top s c (normal u turns st) = Arrives round.work top s c at top st
  Outcome round at top s c (ended e turns st) = Lands round top s c e st
  Outcome round at top s c (out_of_turns st) = Spends p.image c st

  -- a word of the frame is the address of a top that the stack has had
  pub record IsTop (mark high : ℕ) (s : ℕ → ℕ) : Type 0 where
    pub address : s (p.fp + mark) ≡ address_of (number_at (s (p.fp + mark)))
    pub low : number_at (s (p.fp + mark)) ≤ high

  abbrev pub CutTop : Option ℕ → (ℕ → ℕ) → ℕ → Type 0
  CutTop None s high = Unit {0}
  CutTop (Some mark) s high = IsTop mark high s

  -- the top that leaving the loop cuts back to
  abbrev pub CutLow : Option Turns → (ℕ → ℕ) → ℕ → Type 0
  CutLow None s high = Unit {0}
  CutLow (Some t) s high = CutTop t.cut s high

  abbrev pub GuardsLow : List Guarding → (ℕ → ℕ) → ℕ → Type 0
  GuardsLow guards s high = (k : ℕ) (g : Guarding) → slice_get guards k ≡ Some g → IsTop g.mark high s

  -- where a statement begins
  pub record StartsBy (slack : ℕ → ℕ) (live : ℕ) (round : Round) (m : Made) (st : State) (c : Machine) : Type 0 where
    pub pc : c.pc ≡ length m.code
    pub mode : c.mode ≡ running
    pub top : p.fp + 4 + p.shape.frame ≤ c.top
    pub room : round.work ≤ p.shape.frame
    pub mark : c.stack (p.fp + round.mark) ≡ address_of c.top
    pub site : c.stack p.fp ≡ p.image.address p.link.body (suc p.site)
    pub caller : c.stack (p.fp + 1) ≡ address_of p.caller
    pub link : c.stack (p.fp + 2) ≡ p.link.table
    -- the stack in use is at most the live words
    pub low : c.top ≤ live
    pub cut : CutLow round.turns c.stack c.top
    pub guards : GuardsLow round.guards c.stack c.top
    pub sees : SeesBy slack st c

  abbrev pub Starts : ℕ → Round → Made → State → Machine → Type 0
  Starts live round m st c = StartsBy (λ n. n) live round m st c

  -- the turn of the statement is spent
  abbrev pub Begins : ℕ → Round → Made → State → Machine → Type 0
  Begins live round m st c = StartsBy suc live round m st c

  -- the word of the frame that is a mark: of the foot, or a slot for work that is in use
  abbrev pub IsMark : ℕ → ℕ → Type 0
  IsMark work mark = (mark < 4) ⊎ ((p.base + 4 ≤ mark) × (mark < work + 4))

  abbrev pub CutFits : ℕ → Option ℕ → Type 0
  CutFits work None = Unit {0}
  CutFits work (Some mark) = IsMark work mark

  abbrev pub TurnsFit : ℕ → Option Turns → Type 0
  TurnsFit work None = Unit {0}
  TurnsFit work (Some t) = CutFits work t.cut

  pub record Fit (round : Round) : Type 0 where
    pub work : p.base ≤ round.work
    pub mark : IsMark round.work round.mark
    pub turns : TurnsFit round.work round.turns
    pub guards : (k : ℕ) (g : Guarding) → slice_get round.guards k ≡ Some g → IsMark round.work g.mark

  pub record Home (region : Option ℕ) (at : ℕ) : Type 0 where
    pub finds : (v : ℕ) → arm_at regions at v ≡ p.seek region v

  -- the value in word code, if it isn't stuck, is that in flat code
  abbrev pub Agree : Value → Value → Type 0
  Agree (Gives w) v = v ≡ Gives w
  Agree (Raises t) v = v ≡ Raises t
  Agree Stuck v = Unit {0}

  pub record Laws (Good : Expr → Type 0) : Type 0 where
    -- the words that are live where the statements stand
    pub live : ℕ
    pub honest : Honest p.image p.linked
    pub at_me : p.image.body p.me.body ≡ Some p.shape
    -- where a return leads
    pub leads : p.image.entry (p.image.address p.link.body (suc p.site)) ≡ Some (at_step p.link.body (suc p.site))
    pub local : (s now : ℕ → ℕ) (outer : List Slots) → ((i : ℕ) → i < p.fp → now i ≡ s i) → p.inv s outer → p.inv now outer
    pub small : p.base ≤ p.shape.frame
    pub deep : p.image.bottom ≤ p.fp
    pub high : p.high ≤ p.fp
    -- slots have numbers of 32 bits
    pub few : p.base < 2 ^ 32
    pub slot_good : (n : ℕ) → Good (plain.slot n) → n < p.base
    pub agrees : (e : Expr) → Good e → (st : State) (c : Machine) → Owes st c →
        Agree (value (view p.linked st.slots st.world) e) (value (view_of p.image (slots_at p.image c) c.who.table c.world) e)

  -- the same where so many words are live
  abbrev pub laws_at : {Good : Expr → Type 0} → Laws Good → ℕ → Laws Good
  laws_at laws live = record laws { live = live }
