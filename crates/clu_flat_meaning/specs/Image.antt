-- An image: bodies of code, what addresses lead to, and what holes, names and traps are.
use Rattle.std.specs.Prelude.{ℕ, Bool, List, Option}
use Rattle.clu_wir.specs.Plain.{Deed}
use Rattle.clu_wir.specs.declared.hole.HoleKind.{HoleKind}
use Rattle.clu_wir.specs.declared.trap.Trap.{Trap}
use Rattle.clu_frames.specs.Plain.{Step}

-- an arm by the word of its name, 0 for all others; the step at which it begins, and the word of the frame with its mark
pub record FlatArm : Type 0 where
  pub name : ℕ
  pub target : ℕ
  pub mark : ℕ

-- the steps from the first to the last, and the arms; outer regions come before those inside them
pub record FlatRegion : Type 0 where
  pub first : ℕ
  pub last : ℕ
  pub arms : List FlatArm

-- the code of a routine, which all its instances share, and how many slots its frame has
pub record Body : Type 0 where
  pub code : List Step
  pub frame : ℕ

-- an instance of a routine: the number of its code, and the address of its link table
pub record Instance : Type 0 where
  pub body : ℕ
  pub table : ℕ

-- what an address of code leads to: a step of a body, a routine without a frame, or the end of the run
pub data Entry : Type 0 where
  at_step : ℕ → ℕ → Entry
  at_deed : Deed → Entry
  at_end : Entry

-- what is at the address of a descriptor: where its routine begins, and the link table of the instance
pub record Descriptor : Type 0 where
  pub entry : Entry
  pub table : ℕ

pub record Image : Type 0 where
  pub body : ℕ → Option Body
  -- the address of a step of a body, and what an address leads to
  pub address : ℕ → ℕ → ℕ
  pub entry : ℕ → Option Entry
  pub descriptor : ℕ → Option Descriptor
  -- by the address of a link table: the words of its holes, and the regions of its routine
  pub hole : ℕ → HoleKind → ℕ → Option ℕ
  pub regions : ℕ → List FlatRegion
  -- the string at the address of a name; the words of a trap, and the address of its objects; the name of failure; words that
  -- are fixed
  pub name_of : ℕ → Option (List ℕ)
  pub trap_name : Trap → ℕ
  pub trap_objects : Trap → ℕ
  pub failure : ℕ
  pub fixed : ℕ → Option ℕ
  -- the number of the first word of the stack; whether the stack may grow to a number, and the store to an address
  pub bottom : ℕ
  pub has_stack : ℕ → Bool
  pub has_store : ℕ → Bool
