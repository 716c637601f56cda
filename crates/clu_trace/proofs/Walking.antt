-- Steps down the stack, and what a look keeps.
use Rattle.std.proofs.Common.{◌≡◌, ℕ, zero, suc, Bool, true, false, cond, List, Option, Some, None, refl, sym, ap, subst}
use Rattle.clu_trace.specs.Traces.{Watched, is_raised, raised, watched}
use Rattle.clu_trace.specs.declared.map.TraceMap.{TraceMap}
use Rattle.clu_trace.specs.declared.place.Place.{Place}
use Rattle.clu_trace.specs.Walk.{entries_after, go_on, place_after, walk}
use Rattle.rv_machine.specs.State.{State}

pub one_down : (room : ℕ) (map : TraceMap) (bytes : ℕ) (s : State) (n k : ℕ) (entries : List ℕ) (p q : Place)
    → n ≡ suc k → place_after bytes s p ≡ Some q → walk room map bytes s n entries p ≡ walk room map bytes s k (entries_after room map bytes s entries p) q
one_down room map bytes s n k entries p q is below =
    let P : ℕ → Type 0 = λ m. walk room map bytes s m entries p ≡ walk room map bytes s k (entries_after room map bytes s entries p) q in
    subst P (sym is) (ap (go_on (walk room map bytes s k) (entries_after room map bytes s entries p)) below)

pub at_bottom : (room : ℕ) (map : TraceMap) (bytes : ℕ) (s : State) (n k : ℕ) (entries : List ℕ) (p : Place)
    → n ≡ suc k → place_after bytes s p ≡ None → walk room map bytes s n entries p ≡ entries_after room map bytes s entries p
at_bottom room map bytes s n k entries p is none =
    let P : ℕ → Type 0 = λ m. walk room map bytes s m entries p ≡ entries_after room map bytes s entries p in
    subst P (sym is) (ap (go_on (walk room map bytes s k) (entries_after room map bytes s entries p)) none)

-- a look changes neither the map nor the bytes of the stack
looked_cases : (test : Bool) (t : Watched) (s : State) → (cond test (raised t s) t).map ≡ t.map
looked_cases true t s = refl
looked_cases false t s = refl

pub looked_map : (t : Watched) (s : State) → (watched t s).map ≡ t.map
looked_map t s = looked_cases (is_raised t s) t s

looked_sizes : (test : Bool) (t : Watched) (s : State) → (cond test (raised t s) t).stack ≡ t.stack
looked_sizes true t s = refl
looked_sizes false t s = refl

pub looked_stack : (t : Watched) (s : State) → (watched t s).stack ≡ t.stack
looked_stack t s = looked_sizes (is_raised t s) t s
