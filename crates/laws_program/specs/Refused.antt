-- Images that stand for no program, or not for some, each by one part of what it is to stand for one.
use Rattle.std.specs.Prelude.{◌≡◌, ◌≤◌, ℕ, List, [], ◌∷◌}
use Rattle.rv_isa.specs.Image.{Contents, AreBytes, contents}
use Rattle.rv_machine.specs.Limits.{Sizes, IsLimits}
use Rattle.clu_meaning.specs.Programs.{Program}
use Rattle.clu_meaning.specs.Run.{run}
use Rattle.laws_program.specs.Observed.{Region, store, stack, running, taken, size_of}
use Rattle.laws_program.specs.Stands.{bytes_of, observed}

-- ---- images

-- one instruction, which goes to itself: JAL x0, 0
abbrev pub spinning : Contents
spinning = contents 0 (0x6f ∷ []) [] []

-- a region is found full at once: ADDI x17, x0, 2, or 3 for the stack, then ECALL
abbrev pub full_at_once : Region → Contents
full_at_once store = contents 0 (0x200893 ∷ 0x73 ∷ []) [] []
full_at_once stack = contents 0 (0x300893 ∷ 0x73 ∷ []) [] []

-- the first byte of the image is written: ADDI x17, x0, 4, then LUI x10, 0x10, ADDI x11, x0, 1 and ECALL
abbrev pub writes_a_byte : Contents
writes_a_byte = contents 0 (0x400893 ∷ 0x10537 ∷ 0x100593 ∷ 0x73 ∷ []) [] []

-- a call that there isn't: ADDI x17, x0, 9, then ECALL
abbrev pub bad_call : Contents
bad_call = contents 0 (0x900893 ∷ 0x73 ∷ []) [] []

-- an image that goes on and writes nothing, whatever it is given
abbrev pub IsSilent : Contents → Type 0
IsSilent image = (sizes : Sizes) (input : List ℕ) (k : ℕ) → observed image sizes input k ≡ record { output = []; outcome = running }

-- ---- programs

-- the program writes something, with these limits and this input
pub record Writes (program : Program) (name : List ℕ) : Type 0 where
  pub sizes : Sizes
  pub limits : IsLimits sizes
  pub input : List ℕ
  pub bytes : AreBytes input
  pub turns : ℕ
  pub byte : ℕ
  pub rest : List ℕ
  pub output : (run program name input turns).output ≡ byte ∷ rest

-- and its meter of a region is within the limit until then
pub record WritesWithin (region : Region) (program : Program) (name : List ℕ) : Type 0 where
  pub writes : Writes program name
  pub within : bytes_of (taken (run program name writes.input writes.turns) region) ≤ size_of writes.sizes region
