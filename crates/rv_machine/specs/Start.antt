-- The machine as a run starts it.
use Rattle.std.specs.Prelude.{ℕ, ◌+◌, ◌*◌, ◌%◌, ◌==◌, if◌then◌else◌, List, [], ◌∷◌, ◌++◌, length, map, replicate}
use Rattle.std.specs.List.{flat_map}
use Rattle.std.specs.Int.{to_le_bytes, w32}
use Rattle.rv_isa.specs.Decoded.{decoded}
use Rattle.rv_isa.specs.Image.{Contents}
use Rattle.rv_machine.specs.Limits.{Sizes}
use Rattle.rv_machine.specs.State.{State, image_start, store_start, stack_start}

-- the code in bytes; a gap of four zeros brings what follows to a multiple of 8
abbrev pub code_bytes : List ℕ → List ℕ
code_bytes words = flat_map (to_le_bytes w32) words ++ (if length words % 2 == 0 then [] else replicate 4 0)

abbrev pub image_bytes : Contents → List ℕ
image_bytes i = code_bytes i.code ++ i.fixed ++ i.area

-- x2 and x8 hold the start and the end of the stack region, x3 and x4 those of the store region
abbrev pub first_registers : Sizes → List ℕ
first_registers sizes = 0 ∷ 0 ∷ stack_start ∷ store_start ∷ (store_start + sizes.store) ∷ 0 ∷ 0 ∷ 0 ∷ (stack_start + sizes.stack) ∷ replicate 23 0

abbrev pub started : Contents → Sizes → State
started i sizes = record {
  pc = image_start + 4 * i.entry;
  registers = first_registers sizes;
  code = map decoded i.code;
  data_start = image_start + length (code_bytes i.code) + length i.fixed;
  image = image_bytes i;
  store = replicate sizes.store 0;
  stack = replicate sizes.stack 0;
}
