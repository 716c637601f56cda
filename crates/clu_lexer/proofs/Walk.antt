-- The longest token, found by one walk of the automaton.
use Rattle.std.proofs.Common.{◌≡◌, ℕ, ◌+◌, ◌-◌, ◌<◌, ◌≤◌, List, [], ◌∷◌, ◌++◌, length, take, drop, get_or, refl, ap, ◌∙◌, arith, Option, Some, None, MatchOption, inl, inr}
use Rattle.std.proofs.lemmas.List.{take_more}
use Rattle.std.proofs.lemmas.Bool.{cases_lt}
use Rattle.std.proofs.Math.Seq.{take-add}
use Rattle.clu_base.specs.declared.tokens.Kind.{Kind}
use Rattle.clu_lexer.specs.declared.scanner.State.{State}
use Rattle.clu_lexer.specs.declared.scanner.State.TheVariants as state
use Rattle.clu_lexer.specs.Scanner.{next, accepts, run, class_of, IsLongest, NoToken}

pub run-append : (s : State) (xs ys : List ℕ) → run s (xs ++ ys) ≡ run (run s xs) ys
run-append s [] ys = refl
run-append s (x ∷ xs) ys = run-append (next s x) xs ys

-- the state after m bytes
abbrev pub state_after : List ℕ → ℕ → State
state_after bytes m = run state.Start (take m bytes)

pub state_more : (bytes : List ℕ) (m : ℕ) → m < length bytes → state_after bytes (m + 1) ≡ next (state_after bytes m) (get_or bytes m 0)
state_more bytes m below = ap (run state.Start) (take_more bytes m 0 below) ∙ run-append state.Start (take m bytes) (get_or bytes m 0 ∷ [])

run_stopped : (bs : List ℕ) → run state.Stop bs ≡ state.Stop
run_stopped [] = refl
run_stopped (b ∷ bs) = run_stopped bs

-- where the automaton has stopped it stays so
pub stopped : (bytes : List ℕ) (m n : ℕ) → m ≤ n → state_after bytes m ≡ state.Stop → state_after bytes n ≡ state.Stop
stopped bytes m n le is =
    let split : n ≡ m + (n - m) = omega arith in
    let parts : take n bytes ≡ take m bytes ++ take (n - m) (drop m bytes) = ap (λ k. take k bytes) split ∙ take-add m (n - m) bytes in
    ap (run state.Start) parts ∙ run-append state.Start (take m bytes) (take (n - m) (drop m bytes)) ∙ ap (λ s. run s (take (n - m) (drop m bytes))) is ∙ run_stopped (take (n - m) (drop m bytes))

-- the longest token among the first `at` bytes
abbrev pub Best : List ℕ → ℕ → Option (Kind × ℕ) → Type 0
Best bytes at None = (m : ℕ) → m ≤ at → class_of (take m bytes) ≡ None
Best bytes at (Some t) = (t.1 ≤ at) × (class_of (take t.1 bytes) ≡ Some t.0) × ((m : ℕ) → t.1 < m → m ≤ at → class_of (take m bytes) ≡ None)

pub best_none : (bytes : List ℕ) → Best bytes 0 None
unfolding class_of
best_none bytes m le = let none : m ≡ 0 = omega arith in rw none

pub class_after : (bytes : List ℕ) (m : ℕ) (s : State) → state_after bytes m ≡ s → class_of (take m bytes) ≡ accepts s
unfolding class_of
class_after bytes m s is = ap accepts is

pub best_kept : (bytes : List ℕ) (at : ℕ) (best : Option (Kind × ℕ)) → Best bytes at best → class_of (take (at + 1) bytes) ≡ None → Best bytes (at + 1) best
best_kept bytes at None known here = λ m le. elim (cases_lt m (at + 1)) [ inl less ↦ known m (omega arith) | inr more ↦ (let same : m ≡ at + 1 = omega arith in rw same here) ]
best_kept bytes at (Some t) known here = (omega (arith, known.0), known.1, λ m above le. elim (cases_lt m (at + 1)) [ inl less ↦ known.2 m above (omega arith) | inr more ↦ (let same : m ≡ at + 1 = omega arith in rw same here) ])

pub best_new : (bytes : List ℕ) (at : ℕ) (kind : Kind) → class_of (take (at + 1) bytes) ≡ Some kind → Best bytes (at + 1) (Some (kind, at + 1))
best_new bytes at kind here = (omega arith, here, λ m above le. absurd (omega arith))

none_stopped : (bytes : List ℕ) (at : ℕ) → state_after bytes at ≡ state.Stop → (m : ℕ) → at ≤ m → class_of (take m bytes) ≡ None
none_stopped bytes at is m le = class_after bytes m state.Stop (stopped bytes at m le is)

-- what is best among all bytes is the answer
pub answer : (bytes : List ℕ) (at : ℕ) (best : Option (Kind × ℕ)) → Best bytes at best → at ≤ length bytes → ((m : ℕ) → at < m → m ≤ length bytes → class_of (take m bytes) ≡ None) → MatchOption best (NoToken class_of bytes) (λ t. IsLongest class_of bytes t.0 t.1)
answer bytes at None known le rest = λ m within. elim (cases_lt at m) [ inl less ↦ rest m less within | inr more ↦ known m more ]
answer bytes at (Some t) known le rest =
    record {
      within = omega (arith, known.0);
      is = known.1;
      longest = λ m above within. elim (cases_lt at m) [ inl less ↦ rest m less within | inr more ↦ known.2 m above more ];
    }

-- the walk stops after the byte at `at`
pub answer_stopped : (bytes : List ℕ) (at : ℕ) (best : Option (Kind × ℕ)) → Best bytes at best → at < length bytes → next (state_after bytes at) (get_or bytes at 0) ≡ state.Stop → MatchOption best (NoToken class_of bytes) (λ t. IsLongest class_of bytes t.0 t.1)
answer_stopped bytes at best known below stop =
    answer bytes at best known (omega arith) (λ m above within. none_stopped bytes (at + 1) (state_more bytes at below ∙ stop) m (omega arith))

-- the walk comes to the end
pub answer_whole : (bytes : List ℕ) (best : Option (Kind × ℕ)) → Best bytes (length bytes) best → MatchOption best (NoToken class_of bytes) (λ t. IsLongest class_of bytes t.0 t.1)
answer_whole bytes best known = answer bytes (length bytes) best known (omega arith) (λ m above within. absurd (omega arith))
