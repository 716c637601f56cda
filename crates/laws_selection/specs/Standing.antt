-- What the linker shows of an image: that the machine, as a run starts it, has in its code and in the memory that no step writes
-- what an image of flat code says. Nothing is said of runs.
use Rattle.std.specs.Prelude.{◌≡◌, ◌≢◌, ℕ, suc, ◌+◌, ◌*◌, ◌%◌, ◌^◌, ◌<◌, ◌≤◌, ◌==◌, Bool, true, List, [], ◌∷◌, codes, length, map, take, if◌then◌else◌, Some, nat_le, nat_lt, ◌&&◌, ◌||◌, pos}
use Rattle.std.specs.List.{flat_map, list_all}
use Rattle.clu_wir.specs.Numbers.{trap_number}
use Rattle.clu_wir.specs.Plain.{Deed, gives_value, puts_word}
use Rattle.clu_wir.specs.declared.hole.HoleKind.{HoleKind}
use Rattle.clu_wir.specs.declared.hole.HoleKind.TheVariants as kind
use Rattle.clu_wir.specs.declared.region.Arm.{Arm}
use Rattle.clu_wir.specs.declared.trap.Trap.{Trap}
use Rattle.clu_handlers.specs.declared.region.Cut.{Cut}
use Rattle.clu_handlers.specs.Cuts.{no_region}
use Rattle.clu_handlers.specs.Regions.{are_nested}
use Rattle.clu_handlers.specs.declared.region.Region.{Region as StepRegion}
use Rattle.clu_object.specs.declared.object.Region.{Region}
use Rattle.rv_isa.specs.declared.instr.Instr.TheVariants as instr
use Rattle.rv_isa.specs.declared.op.Op.TheVariants as op
use Rattle.rv_machine.specs.State.{IsSound, State, stack_start, store_start}
use Rattle.rv_select.specs.declared.parts.Part.{Part}
use Rattle.rv_select.specs.declared.parts.Part.TheVariants as part
use Rattle.rv_select.specs.declared.register.Register.TheVariants.{Back, Caller, Table, Zero}
use Rattle.rv_select.specs.Evaluation.{part_of}
use Rattle.rv_select.specs.Finished.{all_onto, all_starts, blank, is_landed, steps_onto}
use Rattle.rv_select.specs.Mapped.{mapped_regions}
use Rattle.rv_select.specs.Operands.{unbound}
use Rattle.rv_select.specs.Parts.{part_number}
use Rattle.rv_select.specs.Runtime.{answer_onto, binding_onto, start_onto, traps_onto}
use Rattle.rv_select.specs.Searching.{search_onto}
use Rattle.rv_select.specs.Selection.{store_onto}
use Rattle.rv_select.specs.Tables.{IsTable}
use Rattle.rv_select.specs.Written.{Onto, Written, copy_onto, in_turn, jalr_onto}
use Rattle.clu_word_meaning.specs.World.{failure_name}
use Rattle.clu_flat_meaning.specs.Image.{Body, Descriptor, Entry, FlatArm, FlatRegion, Image, at_deed, at_end, at_step}
use Rattle.laws_selection.specs.Running.{At, Code}
use Rattle.laws_selection.specs.Growing.{Stands, address}
use Rattle.laws_selection.specs.Fixed.{Cell, String, Word, Words}

-- The words that are written.

-- all of a body, and how many of them stand before a step
abbrev pub body_words : Body → Written
body_words b = all_onto b.frame b.code

abbrev pub words_before : Body → ℕ → ℕ
words_before b step = length (steps_onto b.frame (take step b.code) (blank (length b.code))).code

abbrev pub deed_onto : Deed → Onto
deed_onto (gives_value given) = answer_onto (part_of given)
deed_onto (puts_word address bytes given) = store_onto (part_of address) (pos bytes) (part_of given) (unbound true)

abbrev pub deed_words : Deed → Written
deed_words deed = in_turn (deed_onto deed ∷ copy_onto Table Caller ∷ jalr_onto Zero Back (pos 0) ∷ []) (blank 0)

abbrev pub part_words : Part → Written
part_words part.Start = start_onto (blank 0)
part_words part.Search = search_onto (blank 18)
part_words part.Bind = binding_onto (blank 2)
part_words part.Trap = traps_onto (blank 0)

-- the part at which a run starts calls its procedure in the word before this address
abbrev pub first_return : (Part → ℕ) → ℕ
first_return addresses = address (addresses part.Start) 9

-- Regions of steps as flat code has them, by the word of each name.

abbrev pub arm_word : (List ℕ → ℕ) → Arm → ℕ
arm_word word a = if length a.name == 0 then 0 else word a.name

abbrev pub flat_arm : (List ℕ → ℕ) → Arm → FlatArm
flat_arm word a = record { name = arm_word word a; target = a.target; mark = a.mark }

abbrev pub flat_region : (List ℕ → ℕ) → StepRegion → FlatRegion
flat_region word r = record { first = r.first; last = r.last; arms = map (flat_arm word) r.arms.items }

abbrev pub names_of : (List ℕ → ℕ) → List Region → List ℕ
names_of word rs = flat_map (λ (r : Region). map (arm_word word) r.arms) rs

-- an arm begins at a step, not the first, and its mark is a word of the frame
abbrev pub arm_fits : Body → Arm → Bool
arm_fits b a = nat_lt 0 a.target && (nat_le a.target (length b.code) && nat_lt a.mark (4 + b.frame))

-- a cut is at a word, and names one of so many regions, or none
abbrev pub cut_fits : ℕ → Cut → Bool
cut_fits count c = nat_lt c.from (2 ^ 32) && (nat_lt c.region count || c.region == no_region)

-- What stands in the code.

-- words from an address on, which 32 bits hold, with what their holes give
pub record Placed (m : State) (part : Part → ℕ) (runtime base : ℕ) (w : Written) : Type 0 where
  pub cells : HoleKind → ℕ → ℕ
  pub stands : Stands w m.code base cells
  pub landed : is_landed w ≡ true
  pub room : base + 4 * length w.code < 2 ^ 32
  -- of the runtime: the addresses of its parts, and of its table
  pub parts : (p : Part) → cells kind.Runtime (part_number p) ≡ part p
  pub table : cells kind.Regions 0 ≡ runtime

-- the link table of an instance: what the holes of its code are there
pub record Linked (m : State) (image : Image) (cells : HoleKind → ℕ → ℕ) (table : ℕ) : Type 0 where
  pub small : table < 2 ^ 64
  pub cell : (kind : HoleKind) (number v : ℕ) → image.hole table kind number ≡ Some v → Cell m table kind (cells kind number) v
  pub words : (kind : HoleKind) (number v : ℕ) → image.hole table kind number ≡ Some v → v < 2 ^ 64

-- the regions of a routine in its table, whose address is the first word of the link table
pub record Guarded (m : State) (image : Image) (word : List ℕ → ℕ) (b : Body) (base table : ℕ) : Type 0 where
  pub steps : List StepRegion
  pub regions : image.regions table ≡ map (flat_region word) steps
  pub nested : are_nested steps ≡ true
  pub few : length steps < 2 ^ 12
  pub inside : list_all (λ (r : StepRegion). list_all (arm_fits b) r.arms.items) steps ≡ true
  pub at : ℕ
  pub linked : Word m table at
  pub words : List ℕ
  pub is_table : IsTable (mapped_regions (all_starts b.frame b.code) steps) base at (names_of word (mapped_regions (all_starts b.frame b.code) steps)) words
  pub cuts : list_all (cut_fits (length (mapped_regions (all_starts b.frame b.code) steps))) is_table.cuts ≡ true
  pub there : Words m at words

-- where a return address leads: the place after a step that has words
pub record After (image : Image) (body step a : ℕ) : Type 0 where
  pub before : ℕ
  pub next : step ≡ suc before
  pub code : Body
  pub there : image.body body ≡ Some code
  pub inside : before < length code.code
  pub words : words_before code before < words_before code step
  pub address_is : image.address body step ≡ a

-- the call of the environment that ends a run
pub record Returns (code : Code) (a : ℕ) : Type 0 where
  pub aligned : a % 4 ≡ 0
  pub low : a < 2 ^ 32
  pub number : At code a (instr.Imm op.Addi 17 0 (pos 0))
  pub call : At code (a + 4) instr.Ecall

abbrev pub Leads : State → Image → Entry → ℕ → Type 0
Leads m image (at_step body step) a = After image body step a
Leads m image at_end a = Returns m.code a
Leads m image (at_deed deed) a = Unit {0}

-- a routine begins at its first step
pub record Starts (image : Image) (is_instance : ℕ → ℕ → Bool) (table a body step : ℕ) : Type 0 where
  pub first : step ≡ 0
  pub code : Body
  pub there : image.body body ≡ Some code
  pub address_is : image.address body 0 ≡ a
  pub instance : is_instance body table ≡ true

-- a routine without a frame
pub record Bare (m : State) (image : Image) (part : Part → ℕ) (runtime table a : ℕ) (deed : Deed) : Type 0 where
  pub placed : Placed m part runtime a (deed_words deed)
  pub linked : Linked m image placed.cells table

-- what a descriptor leads to
abbrev pub Begins : State → Image → (Part → ℕ) → ℕ → (ℕ → ℕ → Bool) → ℕ → ℕ → Entry → Type 0
Begins m image part runtime is_instance table a (at_step body step) = Starts image is_instance table a body step
Begins m image part runtime is_instance table a (at_deed deed) = Bare m image part runtime table a deed
Begins m image part runtime is_instance table a at_end = Unit {0}

pub record Described (m : State) (image : Image) (part : Part → ℕ) (runtime : ℕ) (is_instance : ℕ → ℕ → Bool) (d : ℕ) (x : Descriptor) : Type 0 where
  pub at : ℕ
  pub enters : Word m d at
  pub table : Word m (d + 16) x.table
  pub begins : Begins m image part runtime is_instance x.table at x.entry

pub record Standing (image : Image) (m : State) : Type 0 where
  -- the memory
  pub sound : IsSound m
  pub area : m.data_start ≤ store_start
  pub eights : length m.stack % 8 ≡ 0
  pub least : 4096 ≤ length m.stack
  pub bottom : 8 * image.bottom ≡ stack_start
  pub stack : (top : ℕ) → image.has_stack top ≡ nat_le (8 * top) (stack_start + length m.stack)
  pub store : (next : ℕ) → image.has_store next ≡ nat_le next (store_start + length m.store)
  -- the runtime: its parts, and its table, which has the name of failure, the text before the names of others, and of each
  -- trap the name and a word
  pub part : Part → ℕ
  pub runtime : ℕ
  pub parts : (p : Part) → Placed m part runtime (part p) (part_words p)
  pub failure : Word m runtime image.failure
  pub unhandled : ℕ
  pub prefix : Word m (runtime + 8) unhandled
  pub prefix_text : String m unhandled (codes "unhandled exception: ")
  pub traps : (t : Trap) → Word m (runtime + 24 + 16 * trap_number t) (image.trap_name t)
  pub objects : (t : Trap) → image.trap_objects t ≡ runtime + 32 + 16 * trap_number t
  -- where a program starts: the descriptor of a procedure, and the address at which that returns
  pub start : ℕ
  pub starts : Word m (runtime + 16) start
  pub ends : image.entry (first_return part) ≡ Some at_end
  -- routines
  pub routine : (number : ℕ) (b : Body) → image.body number ≡ Some b → ℕ
  pub placed : (number : ℕ) (b : Body) (is : image.body number ≡ Some b) → Placed m part runtime (routine number b is) (body_words b)
  pub places : (number : ℕ) (b : Body) (is : image.body number ≡ Some b) (step : ℕ) → step ≤ length b.code →
      image.address number step ≡ address (routine number b is) (words_before b step)
  -- instances: link tables, and regions with their arms by the words of names
  pub is_instance : ℕ → ℕ → Bool
  pub linked : (number : ℕ) (b : Body) (is : image.body number ≡ Some b) (table : ℕ) → is_instance number table ≡ true →
      Linked m image (placed number b is).cells table
  pub word : List ℕ → ℕ
  pub guarded : (number : ℕ) (b : Body) (is : image.body number ≡ Some b) (table : ℕ) → is_instance number table ≡ true →
      Guarded m image word b (routine number b is) table
  pub some : (name : List ℕ) → name ≢ [] → (word name ≢ 0) × (word name < 2 ^ 64)
  -- descriptors: where the routine begins, and the link table
  pub descriptor : (d : ℕ) (x : Descriptor) → image.descriptor d ≡ Some x → Described m image part runtime is_instance d x
  -- return addresses
  pub entry : (a : ℕ) (e : Entry) → image.entry a ≡ Some e → Leads m image e a
  pub leads : (number : ℕ) (b : Body) → image.body number ≡ Some b → (step : ℕ) → step < length b.code →
      words_before b step < words_before b (suc step) →
      image.entry (image.address number (suc step)) ≡ Some (at_step number (suc step))
  -- names, and words that are fixed
  pub name : (v : ℕ) (text : List ℕ) → image.name_of v ≡ Some text → String m v text
  pub short : (v : ℕ) (text : List ℕ) → image.name_of v ≡ Some text → length text ≤ 200
  pub failure_is : image.name_of image.failure ≡ Some failure_name
  pub fixed : (a w : ℕ) → image.fixed a ≡ Some w → Word m a w
