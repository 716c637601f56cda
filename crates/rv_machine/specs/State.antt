-- What the machine is made of, apart from its input and output: registers, pc, code and memory.
use Rattle.std.specs.Prelude.{ℕ, ◌+◌, ◌-◌, ◌%◌, ◌≤◌, ◌≡◌, Bool, ◌&&◌, ◌==◌, nat_le, if◌then◌else◌, List, ◌++◌, length, take, drop, slice_index, slice_set, Option, Some, None}
use Rattle.std.specs.Option.{option_map}
use Rattle.std.specs.Int.{Width, byte_len, from_le_bytes, to_le_bytes}
use Rattle.rv_isa.specs.declared.instr.Instr.{Instr}
use Rattle.rv_machine.specs.declared.memory.Location.{Location}
use Rattle.rv_machine.specs.declared.memory.Location.TheVariants.{Image, Store, Stack}

-- `code` is what the words of the code part decode to, None for a word in no row of the table. The
-- bytes of `image` begin with the code and the fixed part, which can't be written; the data begins at
-- the address `data_start`.
pub record State : Type 0 where
  pub pc : ℕ
  pub registers : List ℕ
  pub code : List (Option Instr)
  pub data_start : ℕ
  pub image : List ℕ
  pub store : List ℕ
  pub stack : List ℕ

-- where the regions begin
abbrev pub image_start : ℕ
image_start = 0x10000

abbrev pub store_start : ℕ
store_start = 0x10000000

abbrev pub stack_start : ℕ
stack_start = 0x20000000

-- the regions don't meet
pub record IsSound (s : State) : Type 0 where
  pub code : length s.code ≤ 16793600
  pub image : length s.image ≤ 0xff00000
  pub store : length s.store ≤ 0x10000000
  pub stack : length s.stack ≤ 0x4000000
  pub writable : image_start ≤ s.data_start
  pub registers : length s.registers ≡ 32

abbrev pub register : State → ℕ → ℕ
register s r = slice_index s.registers r

-- a write to x0 does nothing
abbrev pub with_register : State → ℕ → ℕ → State
with_register s r n = if r == 0 then s else record s { registers = slice_set s.registers r n }

abbrev pub is_inside : ℕ → List ℕ → ℕ → ℕ → Bool
is_inside start bytes at count = nat_le start at && nat_le (at + count) (start + length bytes)

-- the region in which the `count` bytes at an address lie, and the offset there; at least one byte
abbrev pub location_of : State → ℕ → ℕ → Option Location
location_of s at count = if is_inside image_start s.image at count then Some (Image (at - image_start))
    else (if is_inside store_start s.store at count then Some (Store (at - store_start))
    else (if is_inside stack_start s.stack at count then Some (Stack (at - stack_start)) else None))

abbrev pub region : State → Location → List ℕ
region s (Image offset) = s.image
region s (Store offset) = s.store
region s (Stack offset) = s.stack

abbrev pub offset_of : Location → ℕ
offset_of (Image offset) = offset
offset_of (Store offset) = offset
offset_of (Stack offset) = offset

-- a load or a store is aligned to its size and lies inside one region
abbrev pub accessed : State → ℕ → ℕ → Option Location
accessed s at size = if at % size == 0 then location_of s at size else None

abbrev pub number_at : Width → List ℕ → ℕ → ℕ
number_at w bytes at = from_le_bytes w (drop at bytes)

abbrev pub with_number : Width → List ℕ → ℕ → ℕ → List ℕ
with_number w bytes at n = take at bytes ++ to_le_bytes w n ++ drop (at + byte_len w) bytes

-- the number at an address, where it may be read
abbrev pub read_at : Width → State → ℕ → Option ℕ
read_at w s at = option_map (λ l. number_at w (region s l) (offset_of l)) (accessed s at (byte_len w))

abbrev pub with_written : Width → State → ℕ → Location → State
with_written w s n (Image offset) = record s { image = with_number w s.image offset n }
with_written w s n (Store offset) = record s { store = with_number w s.store offset n }
with_written w s n (Stack offset) = record s { stack = with_number w s.stack offset n }

-- a store lies in the data, the store region or the stack region as well
abbrev pub stored : State → ℕ → ℕ → Option Location
stored s at size = if nat_le s.data_start at then accessed s at size else None

-- the state with the number at an address, where it may be written
abbrev pub written_at : Width → State → ℕ → ℕ → Option State
written_at w s at n = option_map (with_written w s n) (stored s at (byte_len w))
