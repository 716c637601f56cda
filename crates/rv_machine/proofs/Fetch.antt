-- The row at the pc is the instruction that the hart fetches.
use Rattle.std.proofs.Common.{◌≡◌, ◌∙◌, ℕ, ◌+◌, ◌-◌, ◌/◌, ◌%◌, ◌^◌, ◌<◌, ◌≤◌, false, List, length, get_or, map, refl, ap, Some, arith}
use Rattle.std.specs.Prelude.{slice_get, option_map, nat_lt}
use Rattle.std.proofs.lemmas.Bool.Decides.{nat_tests}
use Rattle.std.proofs.lemmas.List.{length-map}
use Rattle.std.proofs.lemmas.Option.{slice_get-map, slice_get_read}
use Rattle.rv_machine.specs.declared.row.Row.{Row}
use Rattle.rv_machine.specs.Rows.{instr_by, instr_of}
use Rattle.rv_machine.specs.State.{State, image_start}
use Rattle.rv_machine.specs.Steps.{at_pc, fetched, next}

instr_at : (rows : List Row) (n i : ℕ) (row : Row) → n ≡ length rows → i < n → row ≡ get_or rows i row → slice_get (map instr_of rows) i ≡ Some (instr_by row.code row.rd row.rs1 row.rs2 row.imm)
unfolding instr_of
instr_at rows n i row e h r = slice_get-map instr_of rows i ∙ ap (option_map instr_of) (slice_get_read rows n i row e h r)

-- the place of the pc in the code, where the difference wraps: a pc below the code is far after it
abbrev pub place_of : ℕ → ℕ
place_of pc = (pc + (2 ^ 64 - 0x10000)) % 2 ^ 64 / 4

pub next_is : (s : State) (rows : List Row) (n pc : ℕ) (row : Row) → s.code ≡ map instr_of rows → n ≡ length rows → length (map instr_of rows) ≤ 16793600 → pc < 2 ^ 64 → place_of pc < n → row ≡ get_or rows (place_of pc) row → next (at_pc pc s) ≡ fetched (Some (instr_by row.code row.rd row.rs1 row.rs2 row.imm)) (at_pc pc s)
unfolding next
next_is s rows n pc row code e small fits inside r =
    let few : n ≤ 16793600 = omega (arith, e, length-map rows instr_of) in
    let above : image_start ≤ pc = omega arith in
    let test : nat_lt pc image_start ≡ false = grind (arith, nat_tests) in
    let place : (pc - image_start) / 4 ≡ place_of pc = omega arith in
    rw (test, code, place, instr_at rows n (place_of pc) row e inside r) refl
