-- What word code means: its statements over slots and the world. It is put together as the meaning of CLU programs is: a
-- computation begins with so many turns left, in a state, and has a result; and a loop over an iterator hands its body to the
-- iterator.
use Rattle.std.specs.Prelude.{ℕ, zero, suc, ◌+◌, ◌%◌, ◌^◌, ◌==◌, nat_le, max, Bool, true, false, List, [], ◌∷◌, length, Option, None, Some, if◌then◌else◌, slice_get}
use Rattle.std.specs.List.{list_any}
use Rattle.std.specs.Str.{bytes_eq}
use Rattle.clu_wir.specs.Numbers.{primitives}
use Rattle.clu_wir.specs.Plain.{Arms, Expr, Stmt, Stmts, arm_and, no_arms, no_stmts, stmt_and}
use Rattle.clu_wir.specs.Plain as plain
use Rattle.clu_wir.specs.Traps.{trap_name}
use Rattle.clu_wir.specs.Value.{Gives, Raises, Stuck, Value, View, value}
use Rattle.clu_wir.specs.declared.hole.HoleKind.{HoleKind}
use Rattle.clu_wir.specs.declared.trap.Trap.{Trap}
use Rattle.clu_word_meaning.specs.World.{Done, World, bound, byte_of, done, put_word, word_of}

-- The state.

abbrev pub Slots : Type 0
Slots = ℕ → Option ℕ

-- what is counted: the most live words so far, and the next free word of the store at its highest
pub record Meters : Type 0 where
  pub most : ℕ
  pub store : ℕ
  -- an upper bound on the steps of flat code
  pub steps : ℕ
  -- the turns that were spent
  pub spent : ℕ

-- the slots of the running routine; if this is an iterator, those of the routine whose loop called it, and so on
pub record State : Type 0 where
  pub slots : Slots
  pub outer : List Slots
  pub world : World
  pub meters : Meters

pub data Ending : Type 0 where
  broken continued : Ending
  returned : List ℕ → Ending
  signalled raised : List ℕ → List ℕ → Ending
  exited : ℕ → ℕ → List ℕ → Ending
  through : Ending → Ending
  wrong : Ending

pub data Result (A : Type 0) : Type 0 where
  normal : A → ℕ → State → Result A
  ended : Ending → ℕ → State → Result A
  out_of_turns : State → Result A

abbrev pub Computation : Type 0 → Type 0
Computation A = ℕ → State → Result A

-- What computations are put together from

unfoldable pub gives : {A : Type 0} → A → Computation A
gives a turns st = normal a turns st

unfoldable pub ends : {A : Type 0} → Ending → Computation A
ends e turns st = ended e turns st

abbrev pub goes_wrong : {A : Type 0} → Computation A
goes_wrong = ends wrong

unfoldable pub continue_either_way : {A B : Type 0} → (A → Computation B) → (Ending → Computation B) → Result A → Result B
continue_either_way f g (normal a turns st) = f a turns st
continue_either_way f g (ended e turns st) = g e turns st
continue_either_way f g (out_of_turns st) = out_of_turns st

unfoldable pub either_way : {A B : Type 0} → Computation A → (A → Computation B) → (Ending → Computation B) → Computation B
either_way first f g turns st = continue_either_way f g (first turns st)

abbrev pub and_then : {A B : Type 0} → Computation A → (A → Computation B) → Computation B
and_then first rest = either_way first rest ends

abbrev pub counted : ℕ → State → State
counted n st = record st { meters = record st.meters { steps = n + st.meters.steps } }

abbrev pub counted_twice : State → State
counted_twice st = counted 1 (counted 1 st)

abbrev pub with_steps : ℕ → State → State
with_steps n st = record st { meters = record st.meters { steps = n } }

abbrev pub paid : State → State
paid st = counted 1 (record st { meters = record st.meters { spent = suc st.meters.spent } })

-- so many words live
abbrev pub rises : ℕ → State → State
rises now st = record st { meters = record st.meters { most = max st.meters.most now } }

-- so many words of the store
abbrev pub stores : ℕ → State → State
stores n st = record st { meters = record st.meters { store = max st.meters.store n } }

unfoldable pub spends_a_turn : {A : Type 0} → Computation A → Computation A
spends_a_turn rest zero st = out_of_turns (counted 1 st)
spends_a_turn rest (suc turns) st = rest turns (paid st)

-- the turn of a statement, which has no step of its own
abbrev pub turned : State → State
turned st = record st { meters = record st.meters { spent = suc st.meters.spent } }

unfoldable pub takes_a_turn : Computation (Unit {0}) → Computation (Unit {0})
takes_a_turn rest zero st = out_of_turns st
takes_a_turn rest (suc turns) st = rest turns (turned st)

-- a statement that begins with the first of its list, before any step
abbrev pub is_around : Stmt → Bool
is_around (plain.guard inner arms) = true
is_around (plain.resignal inner names) = true
is_around _ = false

unfoldable pub need : {A : Type 0} → Bool → Computation A → Computation A
need true rest = rest
need false rest = goes_wrong

unfoldable pub either : {A : Type 0} → Bool → Computation A → Computation A → Computation A
either true first second = first
either false first second = second

unfoldable pub sees : {A : Type 0} → (State → Computation A) → Computation A
sees rest turns st = rest st turns st

unfoldable pub with_state : {A : Type 0} → (State → State) → Computation A → Computation A
with_state f rest turns st = rest turns (f st)

-- each statement spends a turn before it runs; where a list is round it, the first in the list does
abbrev pub at_start : Stmt → Computation (Unit {0}) → Computation (Unit {0})
at_start s f = either (is_around s) f (takes_a_turn f)

-- behind a list of a choice
abbrev pub closes : Computation (Unit {0}) → Computation (Unit {0})
closes f = either_way f (λ done. with_state counted_twice (gives tt)) ends

-- the list of an arm
abbrev pub listed : Computation (Unit {0}) → Computation (Unit {0})
listed f = with_state (counted 1) (closes f)

abbrev pub guard_done : Computation (Unit {0})
guard_done = with_state counted_twice (gives tt)

abbrev pub chosen : ℕ → Computation (Unit {0}) → Computation (Unit {0}) → Computation (Unit {0})
chosen w zero_case other = with_state (counted 1) (either (w == 0) (closes zero_case) (closes other))

-- Slots and frames

abbrev pub put_slot : ℕ → ℕ → Slots → Slots
put_slot to w slots = λ n. if n == to then Some w else slots n

unfoldable pub puts : List ℕ → List ℕ → Slots → Slots
puts [] ws slots = slots
puts (to ∷ tos) [] slots = slots
puts (to ∷ tos) (w ∷ ws) slots = puts tos ws (put_slot to w slots)

abbrev pub with_slots : (Slots → Slots) → State → State
with_slots f st = record st { slots = f st.slots }

abbrev pub with_world : World → State → State
with_world w st = record st { world = w }

abbrev pub no_slots : Slots
no_slots n = None

abbrev pub first_of : List Slots → Slots
first_of [] = no_slots
first_of (slots ∷ rest) = slots

abbrev pub rest_of : List Slots → List Slots
rest_of [] = []
rest_of (slots ∷ rest) = rest

-- of the routine that a call begins
abbrev pub begun : List Slots → State → State
begun outer st = record st { slots = no_slots; outer = outer }

abbrev pub called_from : State → State
called_from st = record st { slots = no_slots; outer = st.slots ∷ st.outer }

abbrev pub caller_of : State → State
caller_of st = record st { slots = first_of st.outer; outer = rest_of st.outer }

abbrev pub back_to : Slots → State → State
back_to slots st = record st { slots = slots; outer = st.slots ∷ st.outer }

abbrev pub as_before : State → State → State
as_before saved st = record st { slots = saved.slots; outer = saved.outer }

-- Endings

unfoldable pub turn_ending : Computation (Unit {0}) → Ending → Computation (Unit {0})
turn_ending again broken = with_state (counted 1) (gives tt)
turn_ending again continued = again
turn_ending again e = ends e

-- what a call ends with, besides its results
unfoldable pub call_ending : Ending → Computation (Unit {0})
call_ending (raised name ws) = ends (raised name ws)
call_ending _ = goes_wrong

-- what an iterator ends with: an exception of its own, or what the loop's body ended with, which passed it
unfoldable pub loop_ending : Ending → Computation (Unit {0})
loop_ending (raised name ws) = ends (raised name ws)
loop_ending (through broken) = with_state (counted 1) (gives tt)
loop_ending (through e) = ends e
loop_ending _ = goes_wrong

unfoldable pub body_ending : Ending → Computation (Unit {0})
body_ending continued = with_state counted_twice (gives tt)
body_ending wrong = goes_wrong
body_ending e = ends (through e)

unfoldable pub resignals : List (List ℕ) → Ending → Computation (Unit {0})
resignals names (raised name ws) = either (list_any (bytes_eq name) names) (with_state counted_twice (ends (signalled name ws))) (ends (raised name ws))
resignals names e = ends e

-- what a guard does at an ending: an exception by its name and words, an exit of this guard by its arm's number
unfoldable pub handled : (List ℕ → List ℕ → Computation (Unit {0})) → (ℕ → List ℕ → Computation (Unit {0})) → Ending → Computation (Unit {0})
handled raise exit (raised name ws) = raise name ws
handled raise exit (exited zero arm ws) = exit arm ws
handled raise exit (exited (suc inside) arm ws) = ends (exited inside arm ws)
handled raise exit e = ends e

-- What stands round a routine: what the linker knows, and what is called

-- what a body is given by the iterator that called it, behind the number of words that are then live
abbrev pub Body : Type 0
Body = ℕ → List ℕ → Computation (Unit {0})

-- a routine that is entered: the words that are live where it is called, what it yields to, and its arguments. An exception that
-- it ends with is raised where it was called; and what the body ended with passes it
abbrev pub Entry : Type 0
Entry = ℕ → Body → List ℕ → Computation (List ℕ)

abbrev pub no_body : Body
no_body now ws = goes_wrong

-- what the linker knows of an instance: the words of holes, the words of names, and the words that a trap carries
pub record Linked : Type 0 where
  pub hole : HoleKind → ℕ → Option ℕ
  pub name_word : List ℕ → ℕ
  pub trap_words : Trap → List ℕ

abbrev pub view : Linked → Slots → World → View
view l slots world = record { slot = slots; hole = l.hole; word = word_of world; byte = byte_of world }

unfoldable pub worlds : Option World → Computation (Unit {0})
worlds None turns st = ended wrong turns st
worlds (Some world) turns st = normal tt turns (with_world world st)

unfoldable pub does : Option Done → Computation (List ℕ)
does None turns st = ended wrong turns st
does (Some d) turns st = normal d.results turns (stores d.world.next (with_world d.world st))

abbrev pub is_same : ℕ → ℕ → Bool
is_same a b = a == b

-- so many turns of a loop at most; each but the first spends one
unfoldable pub loop_at : ℕ → Computation (Unit {0}) → Computation (Unit {0})
loop_at zero body turns st = out_of_turns (counted 1 st)
loop_at (suc n) body turns st =
    either_way body (λ done. spends_a_turn (loop_at n body)) (turn_ending (spends_a_turn (loop_at n body))) turns (counted 1 st)

abbrev pub loops : Computation (Unit {0}) → Computation (Unit {0})
loops body turns st = loop_at (suc turns) body turns st

module _ (l : Linked) (entries : ℕ → Entry) where
  unfoldable pub by_value : {A : Type 0} → Value → (ℕ → Computation A) → Computation A
  by_value (Gives w) f = f w
  by_value (Raises t) f = ends (raised (trap_name t) (l.trap_words t))
  by_value Stuck f = goes_wrong

  unfoldable pub valued : {A : Type 0} → Expr → (ℕ → Computation A) → Computation A
  valued e f turns st = by_value (value (view l st.slots st.world) e) f turns (counted 1 st)

  -- from left to right
  unfoldable pub values : {A : Type 0} → List Expr → (List ℕ → Computation A) → Computation A
  values [] f = f []
  values (e ∷ es) f = valued e (λ w. values es (λ ws. f (w ∷ ws)))

  -- words into slots
  abbrev pub takes : List ℕ → List ℕ → Computation (Unit {0})
  takes slots ws = need (is_same (length slots) (length ws)) (with_state (with_slots (puts slots ws)) (gives tt))

  abbrev pub calls : ℕ → ℕ → List ℕ → List ℕ → Computation (Unit {0})
  calls live w ws results =
      sees (λ before. either_way (with_state (begun []) (entries w live no_body ws))
      (λ given. with_state (λ st. counted (length results) (as_before before st)) (takes results given))
      (λ e. with_state (as_before before) (call_ending e)))

  abbrev pub iterates : ℕ → ℕ → List ℕ → Body → Computation (Unit {0})
  iterates live w ws body =
      either_way (with_state called_from (entries w live body ws))
      (λ given. with_state (λ st. counted_twice (caller_of st)) (gives tt))
      (λ e. with_state caller_of (loop_ending e))

  -- an iterator's record counts 16 words
  abbrev pub yields : ℕ → Body → List ℕ → Computation (Unit {0})
  yields live body ws =
      with_state (counted 1) (sees (λ before. either_way (with_state (λ st. caller_of (rises (live + 16) st)) (body (live + 16) ws))
      (λ done. with_state (λ st. counted_twice (back_to before.slots st)) (gives tt))
      (λ e. with_state (back_to before.slots) (body_ending e))))

  -- the words of an exception, or of an arm that takes all names its name, go into the arm's slots
  -- the first words into slots; an arm leaves the words that it has no slots for
  abbrev pub takes_first : List ℕ → List ℕ → Computation (Unit {0})
  takes_first slots ws = need (nat_le (length slots) (length ws)) (with_state (with_slots (puts slots ws)) (gives tt))

  unfoldable pub into_arm : Bool → List ℕ → List ℕ → List ℕ → Computation (Unit {0}) → Computation (Unit {0})
  into_arm true [] name ws rest = rest
  into_arm true (slot ∷ slots) name ws rest = with_state (counted 1) (and_then (takes (slot ∷ slots) (l.name_word name ∷ [])) (λ done. rest))
  into_arm false slots name ws rest = with_state (counted (length slots)) (and_then (takes_first slots ws) (λ done. rest))

  module _ (body : Body) where
    unfoldable mutual
      pub exec : ℕ → Stmt → Computation (Unit {0})
      exec live (plain.set slot e) = valued e (λ w. with_state (with_slots (put_slot slot w)) (gives tt))
      exec live (plain.put address bytes e) = valued e (λ w. valued address (λ a. sees (λ st. worlds (put_word st.world ((a + bytes) % 2 ^ 64) w))))
      exec live (plain.call routine es results) = values es (λ ws. valued routine (λ w. calls live w ws results))
      exec live (plain.prim number es results) =
          values es (λ ws. with_state (counted (suc (length results))) (sees (λ st. either_way (does (done (slice_get primitives number) ws st.world)) (takes results) ends)))
      exec live (plain.bind number e slot) = valued number (λ n. valued e (λ w. sees (λ st. either_way (does (bound n w st.world)) (takes (slot ∷ [])) ends)))
      exec live (plain.choose e first other) = valued e (λ w. chosen w (exec_all live other) (exec_all live first))
      exec live (plain.loop inner) = loops (exec_all live inner)
      exec live plain.break_loop = with_state counted_twice (ends broken)
      exec live plain.next_turn = with_state (counted 1) (ends continued)
      exec live (plain.iterate routine es items inner) =
          values es (λ ws. valued routine (λ w. iterates live w ws (λ now given. with_state (counted (suc (length items))) (and_then (takes items given) (λ done. exec_all now inner)))))
      exec live (plain.yield_words es) = values es (yields live body)
      exec live (plain.raise_name name es) = with_state (counted 1) (values es (λ ws. with_state (counted 1) (ends (raised name ws))))
      exec live (plain.signal_name name es) = with_state (counted 1) (values es (λ ws. with_state (counted 1) (ends (signalled name ws))))
      exec live (plain.exit_to inside arm es) = values es (λ ws. with_state (counted (suc (suc (length ws)))) (ends (exited inside arm ws)))
      exec live (plain.guard inner arms) =
          either_way (exec_all live inner) (λ done. guard_done) (handled (λ name ws. named_arm live arms name ws (other_arm live arms name ws)) (numbered_arm live arms))
      exec live (plain.resignal inner names) = either_way (exec_all live inner) (λ done. guard_done) (resignals names)
      exec live (plain.leave_with es) = values es (λ ws. with_state (counted 1) (ends (returned ws)))

      pub exec_all : ℕ → Stmts → Computation (Unit {0})
      exec_all live no_stmts = gives tt
      exec_all live (stmt_and s rest) = and_then (at_start s (exec live s)) (λ done. exec_all live rest)

      -- the first arm of a name, or else the rest
      pub named_arm : ℕ → Arms → List ℕ → List ℕ → Computation (Unit {0}) → Computation (Unit {0})
      named_arm live no_arms name ws rest = rest
      named_arm live (arm_and names others slots inner more) name ws rest =
          either (list_any (λ (n : List ℕ). bytes_eq n name) names) (with_state (counted 1) (into_arm others slots name ws (listed (exec_all live inner)))) (named_arm live more name ws rest)

      -- the first arm of all others
      pub other_arm : ℕ → Arms → List ℕ → List ℕ → Computation (Unit {0})
      other_arm live no_arms name ws = ends (raised name ws)
      other_arm live (arm_and names others slots inner more) name ws = either others (with_state (counted 1) (into_arm true slots name ws (listed (exec_all live inner)))) (other_arm live more name ws)

      pub numbered_arm : ℕ → Arms → ℕ → List ℕ → Computation (Unit {0})
      numbered_arm live no_arms n ws = goes_wrong
      numbered_arm live (arm_and names others slots inner more) zero ws = and_then (takes slots ws) (λ done. listed (exec_all live inner))
      numbered_arm live (arm_and names others slots inner more) (suc n) ws = numbered_arm live more n ws
