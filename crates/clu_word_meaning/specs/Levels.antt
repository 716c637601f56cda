-- Routines that are entered, at each level: whatever is called goes on at the level below. What a program means with so many
-- turns is what its first routine means at a level above that number.
use Rattle.std.specs.Prelude.{ℕ, zero, suc, ◌+◌, ◌%◌, ◌^◌, List, [], ◌∷◌, length, Option, None, Some, slice_get}
use Rattle.std.specs.Str.{bytes_eq}
use Rattle.clu_wir.specs.Plain.{Deed, Stmts, gives_value, puts_word}
use Rattle.clu_word_meaning.specs.World.{World, failure_name, put_word, unhandled_text, with_string}
use Rattle.clu_word_meaning.specs.Words.{Computation, Ending, Entry, Linked, Result, Slots, State, counted, either, either_way, ended, ends, exec_all, gives, goes_wrong, is_same, need, no_body, out_of_turns, raised, returned, rises, sees, signalled, spends_a_turn, stores, through, valued, with_slots, with_state, with_world, worlds, wrong}

-- a routine in word code, of an instance
pub record WordRoutine : Type 0 where
  pub args : ℕ
  pub slots : ℕ
  pub nodes : ℕ
  pub body : Stmts
  pub linked : Linked

-- what the address of a descriptor leads to: a routine with a frame, or without
pub data Callee : Type 0 where
  framed : WordRoutine → Callee
  bare : Linked → Deed → Callee

-- an exception that a routine doesn't handle becomes failure, with a text in the store that says so
unfoldable pub fails_as : ℕ → Option World → Computation (List ℕ)
fails_as text None turns st = ended wrong turns st
fails_as text (Some world) turns st = ended (raised failure_name (text ∷ [])) turns (counted 1 (stores world.next (with_world world st)))

unfoldable pub fails : List ℕ → List ℕ → Computation (List ℕ)
fails name ws =
    either (bytes_eq name failure_name) (with_state (counted 1) (ends (raised name ws)))
    (sees (λ st. fails_as st.world.next (with_string (unhandled_text name) st.world)))

unfoldable pub routine_ending : Ending → Computation (List ℕ)
routine_ending (returned ws) = gives ws
routine_ending (signalled name ws) = ends (raised name ws)
routine_ending (raised name ws) = fails name ws
routine_ending (through e) = ends (through e)
routine_ending _ = goes_wrong

-- the arguments are the first slots
abbrev pub arguments : List ℕ → Slots
arguments ws = λ n. slice_get ws n

-- the words that are live in a routine
abbrev pub inside : ℕ → WordRoutine → ℕ
inside live r = live + (16 + (r.nodes + r.nodes))

abbrev pub entering : ℕ → List ℕ → State → State
entering now ws st = rises now (with_slots (λ s. arguments ws) st)

abbrev pub enters : (ℕ → Entry) → WordRoutine → Entry
enters entries r live body ws =
    need (is_same r.args (length ws)) (spends_a_turn (with_state (entering (inside live r) ws)
    (either_way (exec_all r.linked entries body (inside live r) r.body) (λ done. with_state (counted 1) (gives [])) routine_ending)))

-- A routine without a frame has its arguments for slots. It calls none, so the step of its call is all.
unfoldable pub deed_done : Linked → (ℕ → Entry) → Deed → Computation (List ℕ)
deed_done l entries (gives_value e) = valued l entries e (λ w. gives (w ∷ []))
deed_done l entries (puts_word address bytes e) =
    valued l entries e (λ w. valued l entries address (λ a. sees (λ st. either_way (worlds (put_word st.world ((a + bytes) % 2 ^ 64) w)) (λ done. gives []) ends)))

unfoldable pub entered : (ℕ → Entry) → Option Callee → Entry
entered entries (Some (framed r)) live body ws turns st = enters entries r live body ws turns st
entered entries (Some (bare l deed)) live body ws turns st = with_state (with_slots (λ s. arguments ws)) (deed_done l entries deed) turns st
entered entries None live body ws turns st = goes_wrong turns st

abbrev pub no_entries : ℕ → Entry
no_entries w live body ws = goes_wrong

-- below all levels a routine with a frame has no turns
unfoldable pub unentered : Option Callee → Entry
unentered (Some (framed r)) live body ws turns st = out_of_turns st
unentered (Some (bare l deed)) live body ws turns st = with_state (with_slots (λ s. arguments ws)) (deed_done l no_entries deed) turns st
unentered None live body ws turns st = goes_wrong turns st

unfoldable pub level : (ℕ → Option Callee) → ℕ → ℕ → Entry
level program zero w live body ws turns st = unentered (program w) live body ws turns st
level program (suc n) w live body ws turns st = entered (level program n) (program w) live body ws turns st

-- The whole program: the procedure at which it starts is called with no arguments, where so many words of the stack are live.

abbrev pub begun_in : World → State
begun_in world = record { slots = λ n. None; outer = []; world = world; meters = record { most = 0; store = world.next; steps = 0; spent = 0 } }

abbrev pub run : (ℕ → Option Callee) → ℕ → ℕ → World → ℕ → Result (List ℕ)
run program start live world turns = level program (suc turns) start live no_body [] turns (begun_in world)
