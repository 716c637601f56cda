-- Laws of what a sink has written.
use Rattle.std.proofs.Common.{◌≡◌, ℕ, ◌+◌, ◌≤◌, List, [], ◌++◌, take, drop, length, Option, Some, None, refl, sym, ap, ◌∙◌, arith, append-nil, length-append}
use Rattle.std.proofs.Math.Seq.{take-add, take-append-add}
use Rattle.std.proofs.lemmas.List.{append_assoc, take-append-le}
use Rattle.clu_base.specs.Outside.{appended, GrewWithin}

pub appended-nil : (o : Option (List ℕ)) → appended o [] ≡ o
unfolding appended
appended-nil None = refl
appended-nil (Some xs) = ap Some (append-nil xs)

pub appended-append : (o : Option (List ℕ)) (a b : List ℕ) → appended (appended o a) b ≡ appended o (a ++ b)
unfolding appended
appended-append None a b = refl
appended-append (Some xs) a b = ap Some (append_assoc xs a b)

-- what one more write adds to the first bytes of a piece
pub appended-take : (o : Option (List ℕ)) (bytes : List ℕ) (m n : ℕ) → appended (appended o (take m bytes)) (take n (drop m bytes)) ≡ appended o (take (m + n) bytes)
appended-take o bytes m n = appended-append o (take m bytes) (take n (drop m bytes)) ∙ ap (appended o) (sym (take-add m n bytes))

-- what grew within the first part grew within the whole
pub grew_first : (old new : Option (List ℕ)) (a b : List ℕ) → GrewWithin old new a → GrewWithin old new (a ++ b)
grew_first old new a b g =
    let longer : length (a ++ b) ≡ length a + length b = length-append a b in
    let in_first : g.count ≤ length a = g.within in
    record {
      count = g.count;
      within = omega (arith, longer, in_first);
      grew = g.grew ∙ ap (appended old) (sym (take-append-le g.count a b g.within));
    }

-- what grew within the second part after the first was written grew within the whole
pub grew_behind : (old middle new : Option (List ℕ)) (a b : List ℕ) → middle ≡ appended old a → GrewWithin middle new b → GrewWithin old new (a ++ b)
grew_behind old middle new a b first g =
    let longer : length (a ++ b) ≡ length a + length b = length-append a b in
    let in_second : g.count ≤ length b = g.within in
    record {
      count = length a + g.count;
      within = omega (arith, longer, in_second);
      grew = g.grew ∙ ap (λ (m : Option (List ℕ)). appended m (take g.count b)) first ∙ appended-append old a (take g.count b) ∙ ap (appended old) (sym (take-append-add a b g.count));
    }

pub ruleset laws = (appended-nil, appended-append, appended-take, grew_first, grew_behind)

-- between two calls of a sink: the first n bytes are written, and the count of faults did not fall
pub record WrittenSoFar (start now : Option (List ℕ)) (faults_at_start faults : ℕ) (bytes : List ℕ) (n : ℕ) : Type 0 where
  pub within : n ≤ length bytes
  pub grew : now ≡ appended start (take n bytes)
  pub counts : faults_at_start ≤ faults
