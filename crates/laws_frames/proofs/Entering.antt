-- What is asked of a routine that is called, and of the body of a loop to which an iterator yields.
use Rattle.std.proofs.Common.{◌≡◌, ℕ, suc, ◌+◌, ◌-◌, ◌<◌, ◌≤◌, List, ◌∷◌, Some, length}
use Rattle.clu_word_meaning.specs.Words.{Body, Entry, Result, Slots, State, caller_of, continued, counted_twice, ended, normal, out_of_turns, wrong}
use Rattle.clu_flat_meaning.specs.Image.{Image, Instance, at_step}
use Rattle.clu_flat_meaning.specs.Machine.{Comes, Machine, address_of, invoked, number_at, running, words_below}
use Rattle.laws_frames.specs.Calls.{AtCall, Called, Carries, Context, Spends, Within}

module _ (image : Image) (k : Context) where
  -- back in the iterator, after its yield: the record is taken off, and its frames are as they were
  pub record Resumes (d : Machine) (st : State) : Type 0 where
    pub machine : Machine
    pub comes : Comes image d machine
    pub back : (body step : ℕ) → image.entry (d.stack (d.top - 3)) ≡ Some (at_step body step) → (machine.who.body ≡ body) × (machine.pc ≡ step)
    pub frame : machine.fp ≡ number_at (d.stack (d.top - 2))
    pub table : machine.who.table ≡ d.stack (d.top - 1)
    pub top : machine.top ≡ d.top - 3
    pub mode : machine.mode ≡ running
    pub same : (i : ℕ) → k.last ≤ i → i < d.top → machine.stack i ≡ d.stack i
    pub below : k.inv machine.stack (st.slots ∷ st.outer)
    pub world : machine.world ≡ st.world
    pub pay : st.meters.spent ≤ machine.clock
    pub within : Within (counted_twice st) machine

  abbrev pub Yielded : Machine → Result (Unit {0}) → Type 0
  Yielded d (normal u turns st) = Resumes d st
  Yielded d (ended continued turns st) = Resumes d st
  Yielded d (ended wrong turns st) = Unit {0}
  Yielded d (ended e turns st) = (d' : Machine) × Comes image d d' × k.out e st d'
  Yielded d (out_of_turns st) = Spends image d st

  -- a machine that was yielded to: a record stands on the top of the stack, whose address travels
  pub record AtBody (ws : List ℕ) (st : State) (d : Machine) : Type 0 where
    pub pc : d.pc ≡ suc (suc k.site)
    pub who : d.who ≡ k.link
    pub frame : d.fp ≡ k.caller
    pub mode : d.mode ≡ running
    pub top : k.last + 3 ≤ d.top
    pub value : d.value ≡ address_of d.top
    pub words : Carries image k.last ws d
    pub below : k.inv d.stack st.outer
    pub world : d.world ≡ st.world
    pub pay : st.meters.spent ≤ d.clock
    pub within : Within st d
    pub room : d.top ≤ d.peak
    -- the record can be taken off
    pub back : (body : ℕ) × (step : ℕ) × (image.entry (d.stack (d.top - 3)) ≡ Some (at_step body step))
    pub saved : (n : ℕ) × (d.stack (d.top - 2) ≡ address_of n)

  pub record BodyOk (body : Body) : Type 0 where
    pub runs : (now : ℕ) (turns : ℕ) (st : State) (ws : List ℕ) (d : Machine) → d.top ≤ now → AtBody ws st d → Yielded d (body now ws turns (caller_of st))

  -- a machine that was called
  pub record AtEntry (is : Instance) (ws : List ℕ) (st : State) (c : Machine) : Type 0 where
    pub pc : c.pc ≡ 0
    pub who : c.who ≡ is
    pub mode : c.mode ≡ running
    pub back : c.back ≡ image.address k.link.body (suc k.site)
    pub frame : c.fp ≡ k.caller
    pub link : c.caller ≡ k.link.table
    pub top : c.top ≡ k.last
    pub words : words_below image c.top c.stack c.value (length ws) ≡ Some ws
    pub below : k.inv c.stack st.outer
    pub world : c.world ≡ st.world
    -- the call itself was a step
    pub pay : st.meters.spent ≤ c.clock
    pub within : Within st c

  pub record Local : Type 0 where
    -- what is below depends on the words below alone
    pub on : (s now : ℕ → ℕ) (outer : List Slots) → ((i : ℕ) → i < k.last → now i ≡ s i) → k.inv s outer → k.inv now outer
    pub deep : image.bottom ≤ k.last
    -- where its end leads
    pub leads : image.entry (image.address k.link.body (suc k.site)) ≡ Some (at_step k.link.body (suc k.site))
    pub high : k.high ≤ k.last

-- A routine with a frame does for its instance what an entry means, for every caller and every body.
pub record FrameOk (image : Image) (who : Instance) (entry : Entry) : Type 1 where
  pub runs : (k : Context) → Local image k → (live : ℕ) → k.last ≤ live → (body : Body) → BodyOk image k body → (ws : List ℕ) (turns : ℕ) (st : State) (c : Machine) → AtEntry image k who ws st c →
      Called image k c (entry live body ws turns st)

-- The same of what a descriptor leads to, from the call on.
pub record EntryOk (image : Image) (w : ℕ) (entry : Entry) : Type 1 where
  pub runs : (k : Context) → Local image k → (live : ℕ) → k.last ≤ live → (body : Body) → BodyOk image k body → (ws : List ℕ) (turns : ℕ) (st : State) (c : Machine) (slot : ℕ) → AtCall image k slot ws st c →
      Called image k (invoked image (image.descriptor w) slot c) (entry live body ws turns st)
