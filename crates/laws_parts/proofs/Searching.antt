-- The machine in the part that searches for an arm, by the numbers of its words.
use Rattle.std.proofs.Common.{◌≡◌, ◌∙◌, ℕ, suc, ℤ, pos, ◌+◌, ◌-◌, ◌%◌, ◌^◌, ◌<◌, ◌==◌, Bool, true, false, List, length, slice_get, Some, refl, ap, arith}
use Rattle.std.specs.Prelude.{slice_index, slice_set, if◌then◌else◌}
use Rattle.std.specs.Int.{w64}
use Rattle.std.proofs.lemmas.Bool.Decides.{nat_tests}
use Rattle.rv_isa.specs.declared.instr.Instr.TheVariants as instr
use Rattle.rv_isa.specs.declared.op.Op.{Op}
use Rattle.rv_isa.specs.declared.op.Op.TheVariants as op
use Rattle.rv_machine.specs.State.{State, with_register, read_at}
use Rattle.rv_machine.specs.Steps.{Next, Goes, next, word_of, jalr_target}
use Rattle.rv_machine.specs.Values.{sum, value_of, is_taken, unsigned}
use Rattle.rv_select.specs.Finished.{bytes_between}
use Rattle.laws_selection.specs.Running.{run, then_next}
use Rattle.laws_selection.proofs.Running.{run_more, imm_goes, three_goes, load_goes, branch_goes, branch_passes, jal_goes, jalr_goes}
use Rattle.laws_selection.specs.Growing.{address}
use Rattle.laws_selection.proofs.Evaluating.{next_address}
use Rattle.laws_parts.specs.Search.{is_hole, search_code}
use Rattle.laws_parts.specs.Part.{Runs, Stood, place}

pub runs_none : (s : State) → Runs 0 s s
unfolding run
runs_none s = record { come = refl }

pub runs_step : {n : ℕ} {s t u : State} → next s ≡ Goes t → Runs n t u → Runs (suc n) s u
unfolding run
runs_step {n} e f = record { come = ap (λ x. then_next x (run n)) e ∙ f.come }

pub runs_then : {n m : ℕ} {s t u : State} → Runs n s t → Runs m t u → Runs (n + m) s u
runs_then {n} {m} {s} {t} {u} e f = record { come = run_more n m s ∙ ap (λ x. then_next x (run m)) e.come ∙ f.come }

pub lands : (base k p : ℕ) → k < 2 ^ 32 → p < 2 ^ 32 → sum (address base k) (unsigned (bytes_between k p)) ≡ address base p
lands base k p sk sp = grind arith

pub aligned : (base p : ℕ) → base % 4 ≡ 0 → (address base p % 4 == 0) ≡ true
aligned base p e = grind (arith, nat_tests)

pub read_here : (m : State) (pc : ℕ) (xs : List ℕ) (a : ℕ) → read_at w64 (record m { pc = pc; registers = xs }) a ≡ read_at w64 m a
read_here m pc xs a = refl

abbrev pub filled : List ℕ → ℕ → ℕ → List ℕ
filled xs r n = if r == 0 then xs else slice_set xs r n

module _ (m : State) (base table : ℕ) (stood : Stood m.code base table) where
  abbrev pub S : ℕ → List ℕ → State
  S k xs = place m base k xs

  goes_on : (k : ℕ) (xs : List ℕ) (rd n : ℕ) → (x : Next) → x ≡ Goes (record (with_register (S k xs) rd n) { pc = sum (with_register (S k xs) rd n).pc 4 }) → x ≡ Goes (S (suc k) (filled xs rd n))
  goes_on k xs rd n x e = e ∙ ap Goes (by (rd == 0) refl)
    where
      by : (b : Bool) → (rd == 0) ≡ b → record (with_register (S k xs) rd n) { pc = sum (with_register (S k xs) rd n).pc 4 } ≡ S (suc k) (filled xs rd n)
      by true e = rw (e, next_address base k) refl
      by false e = rw (e, next_address base k) refl

  pub imm : (k : ℕ) (xs : List ℕ) (o : Op) (rd rs : ℕ) (number : ℤ) → slice_get search_code k ≡ Some (instr.Imm o rd rs number) → is_hole k ≡ false →
      next (S k xs) ≡ Goes (S (suc k) (filled xs rd (value_of o (slice_index xs rs) (word_of number))))
  imm k xs o rd rs number e f = goes_on k xs rd _ _ (imm_goes (S k xs) o rd rs number (stood.plain k _ e f))

  pub lui : (k : ℕ) (xs : List ℕ) (rd : ℕ) (number : ℤ) → slice_get search_code k ≡ Some (instr.Upper op.Lui rd number) → is_hole k ≡ false → next (S k xs) ≡ Goes (S (suc k) (filled xs rd (word_of number)))
  lui k xs rd number e f = goes_on k xs rd _ _ (Rattle.laws_selection.proofs.Running.upper_goes (S k xs) op.Lui rd number (stood.plain k _ e f))

  pub three : (k : ℕ) (xs : List ℕ) (o : Op) (rd a b : ℕ) → slice_get search_code k ≡ Some (instr.Three o rd a b) → is_hole k ≡ false →
      next (S k xs) ≡ Goes (S (suc k) (filled xs rd (value_of o (slice_index xs a) (slice_index xs b))))
  three k xs o rd a b e f = goes_on k xs rd _ _ (three_goes (S k xs) o rd a b (stood.plain k _ e f))

  pub ld : (k : ℕ) (xs : List ℕ) (rd rs : ℕ) (number : ℤ) (w : ℕ) → slice_get search_code k ≡ Some (instr.Load op.Ld rd rs number) → is_hole k ≡ false →
      read_at w64 m (sum (slice_index xs rs) (word_of number)) ≡ Some w → next (S k xs) ≡ Goes (S (suc k) (filled xs rd w))
  ld k xs rd rs number w e f r = goes_on k xs rd w _ (load_goes (S k xs) rd rs number w (stood.plain k _ e f) r)

  pub hop : (k p : ℕ) (xs : List ℕ) (rd : ℕ) → slice_get search_code k ≡ Some (instr.Jal rd (bytes_between k p)) → is_hole k ≡ false → k < 2 ^ 32 → p < 2 ^ 32 →
      next (S k xs) ≡ Goes (S p (filled xs rd (address base (suc k))))
  hop k p xs rd e f sk sp =
      let to = lands base k p sk sp in
      jal_goes (S k xs) rd (bytes_between k p) (stood.plain k _ e f) (ap (λ a. a % 4 == 0) to ∙ aligned base p stood.aligned)
      ∙ ap Goes (by (rd == 0) refl)
    where
      by : (b : Bool) → (rd == 0) ≡ b → record (with_register (S k xs) rd (sum (address base k) 4)) { pc = sum (address base k) (word_of (bytes_between k p)) } ≡ S p (filled xs rd (address base (suc k)))
      by true e = rw (e, lands base k p sk sp) refl
      by false e = rw (e, lands base k p sk sp, next_address base k) refl

  pub turns : (k p : ℕ) (xs : List ℕ) (o : Op) (a b : ℕ) → slice_get search_code k ≡ Some (instr.Branch o a b (bytes_between k p)) → is_hole k ≡ false → k < 2 ^ 32 → p < 2 ^ 32 →
      is_taken o (slice_index xs a) (slice_index xs b) ≡ true → next (S k xs) ≡ Goes (S p xs)
  turns k p xs o a b e f sk sp t =
      let to = lands base k p sk sp in
      branch_goes (S k xs) o a b (bytes_between k p) (stood.plain k _ e f) t (ap (λ a. a % 4 == 0) to ∙ aligned base p stood.aligned)
      ∙ ap (λ pc. Goes (record m { pc = pc; registers = xs })) to

  pub passes : (k : ℕ) (xs : List ℕ) (o : Op) (a b : ℕ) (number : ℤ) → slice_get search_code k ≡ Some (instr.Branch o a b number) → is_hole k ≡ false →
      is_taken o (slice_index xs a) (slice_index xs b) ≡ false → next (S k xs) ≡ Goes (S (suc k) xs)
  passes k xs o a b number e f t =
      branch_passes (S k xs) o a b number (stood.plain k _ e f) t ∙ ap (λ pc. Goes (record m { pc = pc; registers = xs })) (next_address base k)

  pub jumps : (k : ℕ) (xs : List ℕ) (rs to : ℕ) → slice_get search_code k ≡ Some (instr.Jalr 0 rs (pos 0)) → is_hole k ≡ false → slice_index xs rs ≡ to → to < 2 ^ 64 → to % 4 ≡ 0 →
      next (S k xs) ≡ Goes (record m { pc = to; registers = xs })
  jumps k xs rs to e f is small even =
      let at : jalr_target (S k xs) rs (word_of (pos 0)) ≡ to = ap (λ n. let a = sum n (word_of (pos 0)) in a - a % 2) is ∙ grind arith in
      jalr_goes (S k xs) 0 rs (pos 0) (stood.plain k _ e f) (ap (λ a. a % 4 == 0) at ∙ grind (arith, nat_tests)) ∙ ap (λ pc. Goes (record m { pc = pc; registers = xs })) at

  -- the two words of a hole
  pub hole : (k : ℕ) (xs : List ℕ) → is_hole k ≡ true → is_hole (suc k) ≡ true → length xs ≡ 32 → Runs 2 (S k xs) (S (suc (suc k)) (slice_set (slice_set xs 5 (unsigned (stood.high k))) 5 table))
  hole k xs e f l = runs_step x1 (runs_step x2 (runs_none _))
    where
      x1 : next (S k xs) ≡ Goes (S (suc k) (slice_set xs 5 (unsigned (stood.high k))))
      x1 = goes_on k xs 5 _ _ (Rattle.laws_selection.proofs.Running.upper_goes (S k xs) op.Lui 5 (stood.high k) (stood.upper k e f))

      there : slice_index (slice_set xs 5 (unsigned (stood.high k))) 5 ≡ unsigned (stood.high k)
      there = Rattle.std.proofs.lemmas.List.get_or-set_same xs 5 (unsigned (stood.high k)) 0 (rw l (omega arith))

      x2 : next (S (suc k) (slice_set xs 5 (unsigned (stood.high k)))) ≡ Goes (S (suc (suc k)) (slice_set (slice_set xs 5 (unsigned (stood.high k))) 5 table))
      x2 = goes_on (suc k) (slice_set xs 5 (unsigned (stood.high k))) 5 _ _ (imm_goes (S (suc k) (slice_set xs 5 (unsigned (stood.high k)))) op.Addi 5 5 (stood.low k) (stood.adds k e f))
          ∙ ap (λ n. Goes (S (suc (suc k)) (slice_set (slice_set xs 5 (unsigned (stood.high k))) 5 n))) (ap (λ n. sum n (unsigned (stood.low k))) there ∙ stood.whole k)
