-- A program with more turns has written no less, and one that has ended stays as it is.
use Rattle.std.proofs.Common.{◌≡◌, ◌∙◌, ◌≤◌, ◌+◌, ◌-◌, ℕ, true, List, refl, sym, ap, subst, arith}
use Rattle.std.proofs.lemmas.Bool.{false≢true}
use Rattle.rv_machine.specs.Snapshot.{IsPrefix}
use Rattle.clu_meaning.specs.Programs.{Program}
use Rattle.clu_meaning.specs.State.{State}
use Rattle.clu_meaning.specs.Computations.{Result, normal, ended, out_of_turns}
use Rattle.clu_meaning.specs.More.{state_of, GoesOn}
use Rattle.clu_meaning.specs.Run.{Progress, still_running, Seen, seen, seen_of, result_of_run, run}
use Rattle.clu_meaning.proofs.Levels.{more_turns}
use Rattle.laws_program.specs.Observed.{Region, store, stack, is_over, outcome_meant, taken}
use Rattle.laws_program.proofs.Prefixes.{same_prefix}

pub record Grown (sooner later : Seen) : Type 0 where
  pub output : IsPrefix sooner.output later.output
  pub words : (region : Region) → taken sooner region ≤ taken later region

-- what is seen of a run has the output and the meters of its state
record Has (m : Seen) (st : State) : Type 0 where
  output : m.output ≡ st.world.output
  store : m.store ≡ st.world.words
  stack : m.stack ≡ st.stack.most

has : (r : Result Progress) → Has (seen_of r) (state_of r)
has (normal a turns st) = record { output = refl; store = refl; stack = refl }
has (ended e turns st) = record { output = refl; store = refl; stack = refl }
has (out_of_turns st) = record { output = refl; store = refl; stack = refl }

same_grown : (m n : Seen) → n ≡ m → Grown m n
same_grown m n e = record {
  output = same_prefix _ _ (ap (λ (s : Seen). s.output) e);
  words = λ region. omega (arith, ap (λ (s : Seen). taken s region) e);
}

grown_by : (k : ℕ) (r more : Result Progress) → GoesOn k r more → Grown (seen_of r) (seen_of more)
grown_by k (normal a turns st) more g = same_grown _ _ (ap seen_of g)
grown_by k (ended e turns st) more g = same_grown _ _ (ap seen_of g)
grown_by k (out_of_turns st) more g = record { output = record { rest = g.more; parts = h.output ∙ g.output }; words = words }
  where
    h : Has (seen_of more) (state_of more)
    h = has more

    words : (region : Region) → taken (seen still_running st) region ≤ taken (seen_of more) region
    words store = subst (λ n. st.world.words ≤ n) (sym h.store) g.words
    words stack = subst (λ n. st.stack.most ≤ n) (sym h.stack) g.most

stays_by : (k : ℕ) (r more : Result Progress) → GoesOn k r more → is_over (outcome_meant (seen_of r).progress) ≡ true → seen_of more ≡ seen_of r
stays_by k (normal a turns st) more g over = ap seen_of g
stays_by k (ended e turns st) more g over = ap seen_of g
stays_by k (out_of_turns st) more g over = absurd (false≢true over)

module _ (program : Program) (name input : List ℕ) where
  abbrev on : ℕ → Result Progress
  on = result_of_run program name input

  pub grown : (n m : ℕ) → n ≤ m → Grown (run program name input n) (run program name input m)
  grown n m l = subst (λ i. Grown (run program name input n) (run program name input i)) (omega (arith, l))
      (grown_by (m - n) (on n) (on (n + (m - n))) (more_turns program name input n (m - n)))

  pub stays : (n m : ℕ) → n ≤ m → is_over (outcome_meant (run program name input n).progress) ≡ true → run program name input m ≡ run program name input n
  stays n m l over = subst (λ i. run program name input i ≡ run program name input n) (omega (arith, l))
      (stays_by (m - n) (on n) (on (n + (m - n))) (more_turns program name input n (m - n)) over)
