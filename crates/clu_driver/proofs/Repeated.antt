-- Texts that are written one after the other.
use Rattle.std.proofs.Common.{◌≡◌, ◌≤◌, ◌+◌, ℕ, zero, suc, List, ◌++◌, Option, refl, sym, ap, ◌∙◌, subst, arith, inl, inr, add-one, Result, Ok, Err, OnErr}
use Rattle.std.proofs.Math.Nat.{eq-or-lt_of_le}
use Rattle.clu_base.proofs.Written.{appended-append, appended-nil, grew_behind, grew_first}
use Rattle.clu_base.specs.Outside.{GrewWithin, appended}
use Rattle.clu_driver.specs.Generated.{repeated}

-- between two texts: the first n are written, and the count of faults did not fall
pub record WrittenTexts (text : ℕ → List ℕ) (start now : Option (List ℕ)) (faults_at_start faults n : ℕ) : Type 0 where
  pub grew : now ≡ appended start (repeated text n)
  pub counts : faults_at_start ≤ faults

pub none_written : (text : ℕ → List ℕ) (start : Option (List ℕ)) → start ≡ appended start (repeated text 0)
unfolding repeated
none_written text start = sym (appended-nil start)

pub one_more : (text : ℕ → List ℕ) (n : ℕ) (start now new : Option (List ℕ)) → now ≡ appended start (repeated text n) → new ≡ appended now (text (n + 1)) → new ≡ appended start (repeated text (n + 1))
unfolding repeated
one_more text n start now new before after =
    rw (add-one n) (after ∙ ap (λ (o : Option (List ℕ)). appended o (text (n + 1))) before ∙ appended-append start (repeated text n) (text (n + 1)) ∙ rw (add-one n) refl)

-- what grew within the first texts grew within all of them
pub grew_more : (text : ℕ → List ℕ) (k n : ℕ) (old new : Option (List ℕ)) → k ≤ n → GrewWithin old new (repeated text k) → GrewWithin old new (repeated text n)
unfolding repeated
grew_more text k zero old new le grew = let none : k ≡ zero = omega (arith, le) in let P : ℕ → Type 0 = λ m. GrewWithin old new (repeated text m) in subst P none grew
grew_more text k (suc n) old new le grew = elim (eq-or-lt_of_le le) [
  | inr before ↦ grew_first old new (repeated text n) (text (suc n)) (grew_more text k n old new (omega (arith, before)) grew)
  | inl last ↦ let P : ℕ → Type 0 = λ m. GrewWithin old new (repeated text m) in subst P last grew
]

-- what grew within one more text grew within all of them
pub grew_next : (text : ℕ → List ℕ) (n all : ℕ) (start now new : Option (List ℕ)) → n + 1 ≤ all → now ≡ appended start (repeated text n) → GrewWithin now new (text (n + 1)) → GrewWithin start new (repeated text all)
unfolding repeated
grew_next text n all start now new le before grew =
    let whole : GrewWithin start new (repeated text n ++ text (n + 1)) = grew_behind start now new (repeated text n) (text (n + 1)) before grew in
    let is : repeated text n ++ text (n + 1) ≡ repeated text (n + 1) = rw (add-one n) refl in
    let P : List ℕ → Type 0 = λ bytes. GrewWithin start new bytes in
    grew_more text (n + 1) all start new le (subst P is whole)

-- what holds anyway holds after an error
pub on_err : {T E : Type 0} (r : Result T E) (P : Type 0) → P → OnErr r P
on_err (Ok value) P p = tt
on_err (Err error) P p = p
