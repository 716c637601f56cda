-- The start of a run.
use Rattle.std.specs.Prelude.{◌≡◌, ℕ, ◌+◌, ◌*◌, ◌^◌, ◌<◌, ◌≤◌, Some}
use Rattle.std.specs.Int.{w64, w8}
use Rattle.clu_word_meaning.specs.World.{World}
use Rattle.clu_flat_meaning.specs.Image.{Image, at_step}
use Rattle.clu_flat_meaning.specs.Machine.{started}
use Rattle.rv_machine.specs.State.{State, read_at, register, stack_start, store_start}
use Rattle.rv_select.specs.declared.parts.Part.TheVariants as part
use Rattle.laws_selection.specs.Growing.{address}
use Rattle.laws_selection.specs.Holding.{Arrives, stack_end, store_end}
use Rattle.laws_selection.specs.Standing.{Standing}

-- the machine as a run starts it, with the world of flat code
pub record Fresh (image : Image) (m : State) (standing : Standing image m) (world : World) : Type 0 where
  pub pc : m.pc ≡ address (standing.part part.Start) 0
  pub zero : register m 0 ≡ 0
  pub words : register m 11 ≡ 0
  pub top : register m 2 ≡ stack_start
  pub store : register m 3 ≡ store_start
  pub store_high : register m 4 ≡ store_end m
  pub stack_high : register m 8 ≡ stack_end m
  pub stack : (n : ℕ) → image.bottom ≤ n → 8 * n + 8 ≤ stack_end m → read_at w64 m (8 * n) ≡ Some 0
  pub byte : (a b : ℕ) → a < store_end m → world.byte a ≡ Some b → read_at w8 m a ≡ Some b
  pub small : (a b : ℕ) → world.byte a ≡ Some b → b < 2 ^ 8
  pub writable : world.writable ≡ m.data_start
  pub next : world.next ≡ store_start

-- the machine reaches the first step of the procedure at which the program starts, called from no frame
abbrev pub StartFollows : Type 0
StartFollows =
    (image : Image) (m : State) (standing : Standing image m) (world : World) → Fresh image m standing world → (body table : ℕ) →
    image.descriptor standing.start ≡ Some (record { entry = at_step body 0; table = table }) →
    Arrives image m standing
    (started image (address (standing.part part.Start) 9) (record { body = body; table = table }) world) m
