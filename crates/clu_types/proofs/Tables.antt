-- The table of the numbers made so far, while the arena grows.
use Rattle.std.proofs.Common.{◌≡◌, ◌≢◌, ℕ, ◌+◌, ◌<◌, ◌≤◌, Bool, true, false, List, [], length, Option, None, Some, IsSome, unwrap_or, refl, sym, ap, ◌∙◌, arith, subst}
use borrow.Author.Tests.{ltb-true, ltb-false}
use Rattle.std.proofs.Math.Dec.{ltb}
use Rattle.std.proofs.lemmas.List.{append-nil}
use Rattle.clu_types.specs.CluType.{Actuals}
use Rattle.clu_types.specs.Arena.{type_at, types_of, actuals_at, ActualsBelow, PartsBelow, Grows}
use Rattle.clu_types.specs.Substituted.{substituted}
use Rattle.clu_types.specs.Renumbered.{Numbers, number_in}
use Rattle.clu_types.specs.Carried.{PartsAll, IsNeeded, IsMade, IsPut, IsFirstFrom, AreNeeded, ArePartsMade}
use Rattle.clu_types.specs.declared.term.TypeId.{TypeId}
use Rattle.clu_types.specs.declared.term.Actual.{Actual}
use Rattle.clu_types.specs.declared.term.Term.{Term}
use Rattle.clu_types.proofs.AllParts.{parts_both, parts_known}
use Rattle.clu_types.proofs.Arenas.{types_grown}
use Rattle.clu_types.proofs.Carrying.{grows_on, length_grows, given_grown}
use Rattle.clu_types.proofs.Needing.{has_none, put_stays, put_only}

-- the entries are of the numbers that are needed, and those below n are numbers of the arena
pub record AreMade (from : List Term) (given : List Actual) (old now : List Term) (needed table : Numbers) (n : ℕ) : Type 0 where
  pub grows : Grows old now
  pub stay : (k : ℕ) → IsSome (needed k) → IsSome (table k)
  pub only : (k : ℕ) → IsSome (table k) → IsSome (needed k)
  pub each : (id : TypeId) → id.0 < n → IsNeeded needed id → IsMade (types_of from) (actuals_at (types_of old) given) now table id

pub made_first : (from : List Term) (given : List Actual) (old : List Term) (needed : Numbers) → AreMade from given old old needed needed 0
made_first from given old needed = record { grows = ([], sym (append-nil old)); stay = λ k some. some; only = λ k some. some; each = λ id lt some. absurd (omega arith) }

module _ (from : List Term) (given : List Actual) (old now : List Term) (needed table : Numbers) (next : ℕ)
    (in_given : ActualsBelow (length old) given) (made : AreMade from given old now needed table next) where
  -- all below a number from next on have theirs, if none is needed from next up to it
  all_made : (n : ℕ) → ((k : ℕ) → next ≤ k → k < n → table k ≡ None) → (id : TypeId) → id.0 < n → IsNeeded needed id → IsMade (types_of from) (actuals_at (types_of old) given) now table id
  all_made n none id lt some = by (ltb id.0 next) refl
    where
      by : (b : Bool) → ltb id.0 next ≡ b → IsMade (types_of from) (actuals_at (types_of old) given) now table id
      by true less = made.each id (omega (arith, ltb-true)) some
      by false less = has_none (table id.0) (none id.0 (omega (arith, ltb-false)) lt) (made.stay id.0 some)

  -- so have the parts of a type that are needed and before it
  parts_made : (n : ℕ) → ((k : ℕ) → next ≤ k → k < n → table k ≡ None) → (part : Term) → PartsAll (IsNeeded needed) part → PartsBelow n part → PartsAll (IsMade (types_of from) (actuals_at (types_of now) given) now table) part
  parts_made n none part some b =
      let Front : TypeId → Type 0 = λ id. id.0 < n in
      let Here : TypeId → Type 0 = IsMade (types_of from) (actuals_at (types_of old) given) now table in
      let all : PartsAll Here part = parts_both Front (IsNeeded needed) Here (all_made n none) part (parts_known n Front (λ id lt. lt) part b) some in
      subst (λ (g : Actuals). PartsAll (IsMade (types_of from) g now table) part) (sym (given_grown old now made.grows given in_given)) all

  pub part_made : (t n : ℕ) → AreNeeded from t needed → IsFirstFrom table next (Some n) → ArePartsMade from given now table n
  part_made t n known first part e = let h = known.of_parts n part e (made.only n first.1) in parts_made n first.2 part h.0 h.1

  pub whole_made : (t : ℕ) → AreNeeded from t needed → IsFirstFrom table next None → ArePartsMade from given now table t
  whole_made t known none whole e = let h = known.of_whole whole e in parts_made t (λ k le lt. none k le) whole h.0 h.1

  -- the next number gets its entry
  pub made_next : (n : ℕ) (newer : List Term) (id : TypeId) (after : Numbers) → IsFirstFrom table next (Some n) → IsPut table after n id → Grows now newer → id.0 < length newer
      → type_at (types_of newer) id ≡ substituted (actuals_at (types_of now) given) (type_at (types_of from) (record { 0 = n }))
      → AreMade from given old newer needed after (n + 1)
  made_next n newer id after first put g within of_type =
      record { grows = grows_on old now newer made.grows g; stay = λ k some. put_stays table after n id put k (made.stay k some); only = only; each = each }
    where
      Newer : TypeId → Type 0
      Newer = IsMade (types_of from) (actuals_at (types_of old) given) newer after

      only : (k : ℕ) → IsSome (after k) → IsSome (needed k)
      only k some = by (ltb k n) refl
        where
          apart : k ≢ n → IsSome (needed k)
          apart other = made.only k (put_only table after n id put k other some)

          at : (b : Bool) → ltb n k ≡ b → n ≤ k → IsSome (needed k)
          at true less le = apart (omega (arith, ltb-true))
          at false less le = let here : n ≡ k = omega (arith, ltb-false, le) in subst (λ (k : ℕ). IsSome (needed k)) here (made.only n first.1)

          by : (b : Bool) → ltb k n ≡ b → IsSome (needed k)
          by true less = apart (omega (arith, ltb-true))
          by false less = at (ltb n k) refl (omega (arith, ltb-false))

      earlier : (one : TypeId) → one.0 < n → IsNeeded needed one → Newer one
      earlier one lt some =
          let before = all_made n first.2 one lt some in
          let other : one.0 ≢ n = omega (arith, lt) in
          let same : number_in after one ≡ number_in table one = ap (λ (o : Option TypeId). unwrap_or o one) (put.other one.0 other) in
          record {
            within = rw same (omega (arith, before.within, length_grows now newer g));
            of_type = rw same (types_grown now newer g (number_in table one) before.within ∙ before.of_type);
          }

      last : (one : TypeId) → n ≡ one.0 → Newer one
      last one here =
          let same : number_in after one ≡ id = ap (λ (o : Option TypeId). unwrap_or o one) (ap after (sym here) ∙ put.here) in
          record {
            within = rw same within;
            of_type = rw same (of_type ∙ ap (λ (g : Actuals). substituted g (type_at (types_of from) (record { 0 = n }))) (given_grown old now made.grows given in_given) ∙ ap (λ (i : ℕ). substituted (actuals_at (types_of old) given) (type_at (types_of from) (record { 0 = i }))) here);
          }

      each : (one : TypeId) → one.0 < n + 1 → IsNeeded needed one → Newer one
      each one lt some = by (ltb one.0 n) refl
        where
          by : (b : Bool) → ltb one.0 n ≡ b → Newer one
          by true e = earlier one (omega (arith, ltb-true)) some
          by false e = last one (omega (arith, ltb-false))
