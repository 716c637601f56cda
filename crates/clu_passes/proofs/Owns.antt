-- The place that is noted of a node is that of its first declaration.
use Rattle.std.proofs.Common.{◌≡◌, ◌∙◌, ℕ, suc, ◌+◌, ◌<◌, ◌≤◌, ◌⊎◌, ◌&&◌, ◌==◌, inl, inr, nat_lt, Bool, true, false, if◌then◌else◌, List, [], ◌∷◌, length, get_or, set, replicate, refl, sym, ap, subst, arith, lt-ltb, le-ltb, eqb-true}
use Rattle.std.proofs.Math.Bool.{and-false}
use Rattle.std.proofs.lemmas.Bool.{eqb-false}
use Rattle.std.proofs.lemmas.List.{length-set, get_or-set_same, get_or-set_other, get_or-replicate, length-replicate}
use Rattle.clu_names.specs.declared.scopes.Declared.{Declared}
use Rattle.clu_name_rules.specs.Own.{noted, noted_from, own_places}
use Rattle.clu_passes.specs.Owns.{first_from}

-- what is noted of a node before the place k: a place before it, or none
abbrev IsNoted : ℕ → ℕ → ℕ → Type 0
IsNoted none k place = (place < k) ⊎ (place ≡ none)

pub size_if : (own : List ℕ) (n k : ℕ) (b : Bool) → length (if b then set own n k else own) ≡ length own
size_if own n k true = length-set own n k
size_if own n k false = refl

other_if : (own : List ℕ) (n m k : ℕ) → (m ≡ n → ⊥) → (b : Bool) → get_or (if b then set own n k else own) m 0 ≡ get_or own m 0
other_if own n m k apart true = get_or-set_other own n m k 0 apart
other_if own n m k apart false = refl

module _ (none m : ℕ) where
  -- the place that is noted in the end
  abbrev place_after : ℕ → List Declared → ℕ → ℕ
  place_after k ds place = if nat_lt place k then place else first_from k ds m none

  kept_before : (k : ℕ) (ds : List Declared) (place : ℕ) → place < k → place_after k ds place ≡ place
  kept_before k ds place less = ap (λ (b : Bool). if b then place else first_from k ds m none) (lt-ltb place k less)

  found_after : (k : ℕ) (ds : List Declared) (place : ℕ) → k ≤ place → place_after k ds place ≡ first_from k ds m none
  found_after k ds place most = ap (λ (b : Bool). if b then place else first_from k ds m none) (le-ltb place k most)

  abbrev GoesOn : ℕ → List Declared → List ℕ → Type 0
  GoesOn k ds own = m < length own → IsNoted none k (get_or own m 0) → get_or (noted_from k ds own) m 0 ≡ place_after k ds (get_or own m 0)

  pub noted_at : (ds : List Declared) (k : ℕ) (own : List ℕ) → m < length own → IsNoted none k (get_or own m 0) → k + length ds ≤ none → get_or (noted_from k ds own) m 0 ≡ place_after k ds (get_or own m 0)
  noted_at [] k own inside is most =
      elim is [
        | inl before ↦ sym (kept_before k [] (get_or own m 0) before)
        | inr at ↦ at ∙ sym (found_after k [] (get_or own m 0) (omega (arith, at, most)))
      ]
  noted_at (d ∷ ds) k own inside is most =
      let next : List ℕ = noted d.node k own in
      by (λ within noted_next. noted_at ds (suc k) next within noted_next (omega (arith, most))) (d.node == m) refl
    where
      place : ℕ
      place = get_or own m 0

      after : List ℕ
      after = noted d.node k own

      test : Bool
      test = nat_lt d.node (length own) && nat_lt k (get_or own d.node 0)

      rest : GoesOn (suc k) ds (noted d.node k own) → (next : ℕ) → get_or after m 0 ≡ next → IsNoted none (suc k) next → get_or (noted_from (suc k) ds after) m 0 ≡ place_after (suc k) ds next
      rest goes next at noted_next =
          let size : length after ≡ length own = size_if own d.node k test in
          goes (omega (arith, size, inside)) (subst (IsNoted none (suc k)) (sym at) noted_next)
          ∙ ap (place_after (suc k) ds) at

      before_all : GoesOn (suc k) ds (noted d.node k own) → get_or after m 0 ≡ place → place < k → get_or (noted_from (suc k) ds after) m 0 ≡ place_after k (d ∷ ds) place
      before_all goes at less = rest goes place at (inl (omega (arith, less))) ∙ kept_before (suc k) ds place (omega (arith, less)) ∙ sym (kept_before k (d ∷ ds) place less)

      by : GoesOn (suc k) ds (noted d.node k own) → (b : Bool) → (d.node == m) ≡ b → get_or (noted_from (suc k) ds after) m 0 ≡ place_after k (d ∷ ds) place
      by goes true e =
          let same : d.node ≡ m = eqb-true d.node m e in
          let its : get_or own d.node 0 ≡ place = ap (λ (n : ℕ). get_or own n 0) same in
          elim is [
            | inl less ↦
                let late : nat_lt k (get_or own d.node 0) ≡ false = le-ltb k (get_or own d.node 0) (omega (arith, its, less)) in
                before_all goes (ap (λ (b : Bool). get_or (if b then set own d.node k else own) m 0) (ap (λ (b : Bool). nat_lt d.node (length own) && b) late ∙ and-false (nat_lt d.node (length own)))) less
            | inr at ↦
                let there : nat_lt d.node (length own) ≡ true = lt-ltb d.node (length own) (omega (arith, same, inside)) in
                let early : nat_lt k (get_or own d.node 0) ≡ true = lt-ltb k (get_or own d.node 0) (omega (arith, its, at, most)) in
                let made : get_or after m 0 ≡ k =
                ap (λ (b : Bool). get_or (if b && nat_lt k (get_or own d.node 0) then set own d.node k else own) m 0) there
                ∙ ap (λ (b : Bool). get_or (if b then set own d.node k else own) m 0) early
                ∙ ap (λ (n : ℕ). get_or (set own d.node k) n 0) (sym same)
                ∙ get_or-set_same own d.node k 0 (omega (arith, same, inside)) in
                rest goes k made (inl (omega arith)) ∙ kept_before (suc k) ds k (omega arith)
                ∙ sym (found_after k (d ∷ ds) place (omega (arith, at, most)) ∙ ap (λ (b : Bool). if b then k else first_from (suc k) ds m none) e)
          ]
      by goes false e =
          let apart : m ≡ d.node → ⊥ = λ is. eqb-false d.node m e (sym is) in
          let kept : get_or after m 0 ≡ place = other_if own d.node m k apart test in
          elim is [
            | inl less ↦ before_all goes kept less
            | inr at ↦
                rest goes place kept (inr at) ∙ found_after (suc k) ds place (omega (arith, at, most))
                ∙ sym (found_after k (d ∷ ds) place (omega (arith, at, most)) ∙ ap (λ (b : Bool). if b then k else first_from (suc k) ds m none) e)
          ]

-- the place that is noted of a node is that of its first declaration, or the number of all where it has none
pub own_first : (ds : List Declared) (nodes m : ℕ) → m < nodes → get_or (own_places ds nodes) m 0 ≡ first_from 0 ds m (length ds)
own_first ds nodes m inside =
    let begun : get_or (replicate nodes (length ds)) m 0 ≡ length ds = get_or-replicate nodes m (length ds) 0 inside in
    let size : length (replicate nodes (length ds)) ≡ nodes = length-replicate nodes (length ds) in
    noted_at (length ds) m ds 0 (replicate nodes (length ds)) (omega (arith, size, inside)) (inr begun) (omega arith)
    ∙ found_after (length ds) m 0 ds (get_or (replicate nodes (length ds)) m 0) (omega arith)
