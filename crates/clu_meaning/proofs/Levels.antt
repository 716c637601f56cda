-- A run with more turns goes on from one with fewer.
use Rattle.std.proofs.Common.{◌≡◌, ℕ, zero, suc, ◌+◌, List, [], ◌∷◌, refl, sym, subst, arith}
use Rattle.clu_layout.specs.Objects.{Object, string_object}
use Rattle.clu_meaning.specs.Programs.{Program}
use Rattle.clu_meaning.specs.Computations.{Ending, returned, signalled, raised}
use Rattle.clu_meaning.specs.Binding.{Running}
use Rattle.clu_meaning.specs.Calls.{in_procedure, Level}
use Rattle.clu_meaning.specs.Run.{level, first_state, fails_with, start_ending, starts, begins, result_of_run}
use Rattle.clu_meaning.specs.More.{Later, state_of, GoesOn}
use Rattle.clu_meaning.proofs.Combining.{Goes, later_same, goes_gives, goes_ends, goes_either_way, goes_spends, goes_need, goes_needed, goes_enters}
use Rattle.clu_meaning.proofs.Going.{AllGo, goes_unhandled, goes_executes}
use Rattle.clu_meaning.proofs.Executed.{goes_exec_all}

-- with the same level and no more turns
same_level : (program : Program) (n : ℕ) → AllGo 0 n (level program n) (level program n)
unfolding level
same_level program zero round body = record { follows = λ turns st. later_same st; grows = λ turns st. later_same st; same = λ turns l st. refl; fewer = λ turns st. omega arith }
same_level program (suc n) round body =
    let now = goes_exec_all program 0 n (level program n) (level program n) (same_level program n) round body in
    record { follows = now.follows; grows = now.grows; same = now.same; fewer = now.fewer }

higher_level : (program : Program) (k n m : ℕ) → m ≡ n + k → AllGo k n (level program n) (level program m)
unfolding level
higher_level program k zero m e round body = record {
  follows = λ turns st. (same_level program m round body).grows (turns + k) st;
  grows = (same_level program m round body).grows;
  same = λ turns l st. absurd (omega (arith, l));
  fewer = (same_level program m round body).fewer;
}
higher_level program k (suc n) m e round body =
    let now = goes_exec_all program k n (level program n) (level program (n + k)) (higher_level program k n (n + k) refl) round body in
    let s : suc (n + k) ≡ m = omega (arith, e) in
    subst (λ l. Goes k (suc n) (level program (suc n) round body) (level program l round body)) s
    (record { follows = now.follows; grows = now.grows; same = now.same; fewer = now.fewer })

goes_fails_with : {k b : ℕ} (os : List Object) → Goes k b (fails_with os) (fails_with os)
unfolding fails_with
goes_fails_with [] = goes_ends _
goes_fails_with (string_object text ∷ []) = goes_gives _
goes_fails_with _ = goes_ends _

goes_start_ending : {k b : ℕ} (e : Ending) → Goes k b (start_ending e) (start_ending e)
unfolding start_ending
goes_start_ending (returned os) = goes_gives _
goes_start_ending (signalled name os) = goes_fails_with _
goes_start_ending (raised name os) = goes_unhandled name os goes_fails_with
goes_start_ending _ = goes_ends _

goes_starts : (k b : ℕ) (low low' : Level) → AllGo k b low low' → (r : Running) → Goes k (suc b) (starts low r) (starts low' r)
goes_starts k b low low' lows r = goes_need _ (goes_spends (goes_either_way (goes_enters _ _ (goes_executes k b low low' lows (in_procedure r) [])) (λ done. goes_gives _) goes_start_ending))

goes_begins : (program : Program) (start : List ℕ) (n k : ℕ) → Goes k (suc n) (begins program (level program n) start) (begins program (level program (n + k)) start)
goes_begins program start n k =
    goes_needed {f = starts (level program n)} {f' = starts (level program (n + k))} _
    (goes_starts k n (level program n) (level program (n + k)) (higher_level program k n (n + k) refl))

-- the run with k turns more goes on from this one
pub more_turns : (program : Program) (start input : List ℕ) (n k : ℕ) → GoesOn k (result_of_run program start input n) (result_of_run program start input (n + k))
more_turns program start input n k = (goes_begins program start n k).follows n (first_state input)

-- more levels than turns change nothing
pub more_levels : (program : Program) (start input : List ℕ) (n k : ℕ) → begins program (level program (n + k)) start n (first_state input) ≡ result_of_run program start input n
more_levels program start input n k = sym ((goes_begins program start n k).same n (omega arith) (first_state input))

-- a run only adds to its output, and its meters only rise
pub only_grows : (program : Program) (start input : List ℕ) (n : ℕ) → Later (first_state input) (state_of (result_of_run program start input n))
only_grows program start input n =
    (goes_needed {f = starts (level program n)} {f' = starts (level program n)} _ (goes_starts 0 n (level program n) (level program n) (same_level program n))).grows n (first_state input)
