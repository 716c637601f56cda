-- V18 and V20 by what is asked at a node and not met.
use Rattle.std.proofs.Common.{◌≡◌, ◌∙◌, ◌⊎◌, inl, inr, ℕ, zero, suc, ◌<◌, ◌&&◌, ◌||◌, not, Bool, true, false, List, [], ◌∷◌, Contains, length, map, get_or, Option, refl, sym, ap, subst, arith}
use Rattle.std.specs.List.{list_any}
use Rattle.std.proofs.lemmas.Bool.{true≢false, and_parts, and_from}
use Rattle.clu_base.proofs.Bools.{same_truth}
use Rattle.clu_types.specs.CluType.{CluType}
use Rattle.clu_checking.specs.Files.{File}
use Rattle.clu_checking.specs.Headings.{specification}
use Rattle.clu_checking.specs.Operations.{Asked, is_met, where_at}
use Rattle.clu_checking.specs.Invocations.{asks_at}
use Rattle.clu_checking.specs.ExpressionRules.{v18, v20}
use Rattle.clu_operations.specs.Told.{Ask, Told}
use Rattle.clu_type_rules.specs.Meeting.{SomeUnmet, AreUnmet}
use Rattle.clu_type_rules.specs.declared.unmet.Unmet.{Unmet}
use Rattle.clu_passes.specs.Met.{asked_told, TellCounted}
use Rattle.clu_passes.proofs.Meeting.{met_same}

module _ {X : Type 0} where
  head_or_tail : (x : X) (xs : List X) (m : X) → Contains (x ∷ xs) m → (x ≡ m) ⊎ Contains xs m
  head_or_tail x xs m h = by h.0 h.1 h.2
    where
      by : (k : ℕ) → k < length (x ∷ xs) → get_or (x ∷ xs) k m ≡ m → (x ≡ m) ⊎ Contains xs m
      by zero lt is = inl is
      by (suc k) lt is = inr (k, omega (arith, lt), is)

  some_true : (p : X → Bool) (xs : List X) → list_any p xs ≡ true → (x : X) × Contains xs x × (p x ≡ true)
  some_true p [] e = absurd (true≢false (sym e))
  some_true p (x ∷ xs) e = by (p x) refl e (some_true p xs)
    where
      by : (b : Bool) → p x ≡ b → (b || list_any p xs) ≡ true → (list_any p xs ≡ true → (y : X) × Contains xs y × (p y ≡ true)) → (y : X) × Contains (x ∷ xs) y × (p y ≡ true)
      by true is e rest = (x, (0, omega arith, refl), is)
      by false is e rest = let r = rest e in (r.0, (suc r.1.0, omega (arith, r.1.1), r.1.2), r.2)

  true_some : (p : X → Bool) (xs : List X) (x : X) → Contains xs x → p x ≡ true → list_any p xs ≡ true
  true_some p [] x h e = absurd (omega (arith, h.1))
  true_some p (y ∷ xs) x h e = elim (head_or_tail y xs x h) [
    | inl is ↦ ap (λ (b : Bool). b || list_any p xs) (ap p is ∙ e)
    | inr there ↦ ap (λ (b : Bool). p y || b) (true_some p xs x there e) ∙ or_true (p y)
  ]
    where
      or_true : (b : Bool) → (b || true) ≡ true
      or_true true = refl
      or_true false = refl

not_true : (b : Bool) → not b ≡ true → b ≡ true → ⊥
not_true true e is = absurd (true≢false (sym e))
not_true false e is = absurd (true≢false (sym is))

true_not : (b : Bool) → (b ≡ true → ⊥) → not b ≡ true
true_not true never = absurd (never refl)
true_not false never = refl

told_list : (asks : List Ask) (x : Asked) → Contains (map asked_told asks) x → (a : Ask) × Contains asks a × (asked_told a ≡ x)
told_list [] x h = absurd (omega (arith, h.1))
told_list (a ∷ asks) x h = elim (head_or_tail (asked_told a) (map asked_told asks) x h) [
  | inl is ↦ (a, (0, omega arith, refl), is)
  | inr there ↦ (let r = told_list asks x there in (r.0, (suc r.1.0, omega (arith, r.1.1), r.1.2), r.2))
]

pub list_told : (asks : List Ask) (a : Ask) → Contains asks a → Contains (map asked_told asks) (asked_told a)
list_told [] a h = absurd (omega (arith, h.1))
list_told (b ∷ asks) a h = elim (head_or_tail b asks a h) [
  | inl is ↦ subst (λ (x : Ask). Contains (map asked_told (b ∷ asks)) (asked_told x)) is (0, omega arith, refl)
  | inr there ↦ (let r = list_told asks a there in (suc r.0, omega (arith, r.1), r.2))
]

module _ (f : File) (n : ℕ) (found : CluType → List ℕ → CluType → Option Told) (tell : TellCounted (where_at f n) (specification f) found) (asks : List Ask) (asked : map asked_told asks ≡ asks_at f n) where
  -- one that is asked by a clause of this kind is not met
  abbrev broken : (Bool → Bool) → Asked → Bool
  broken kind a = kind a.in_set && not (is_met f n a)

  to_bit : (kind : Bool → Bool) (its : Bool) → ((b : Bool) → kind b ≡ true → b ≡ its) → list_any (broken kind) (map asked_told asks) ≡ true → SomeUnmet found its asks
  to_bit kind its only e =
      let r = some_true (broken kind) (map asked_told asks) e in
      let q = told_list asks r.0 r.1 in (
        q.0,
        q.1,
        ap (λ (x : Asked). x.in_set) q.2 ∙ only r.0.in_set (and_parts (kind r.0.in_set) (not (is_met f n r.0)) r.2).0,
        λ m. not_true (is_met f n r.0) (and_parts (kind r.0.in_set) (not (is_met f n r.0)) r.2).1
            (ap (is_met f n) (sym q.2) ∙ (met_same (where_at f n) (specification f) found tell q.0).0 m),
      )

  from_bit : (kind : Bool → Bool) (its : Bool) → kind its ≡ true → SomeUnmet found its asks → list_any (broken kind) (map asked_told asks) ≡ true
  from_bit kind its of h =
      true_some (broken kind) (map asked_told asks) (asked_told h.0) (list_told asks h.0 h.1)
      (and_from (kind h.0.in_set) (not (is_met f n (asked_told h.0))) (ap kind h.2 ∙ of)
      (true_not (is_met f n (asked_told h.0)) (λ e. h.3 ((met_same (where_at f n) (specification f) found tell h.0).1 e))))

  only_not : (b : Bool) → not b ≡ true → b ≡ false
  only_not true e = absurd (true≢false (sym e))
  only_not false e = refl

  module _ (u : Unmet) (are : AreUnmet found asks u) where
    pub v18_is : v18 f n ≡ u.by_has
    v18_is =
        same_truth (v18 f n) u.by_has
        (λ e. are.by_has.1 (to_bit not false only_not (ap (list_any (broken not)) asked ∙ e)))
        (λ e. sym (ap (list_any (broken not)) asked) ∙ from_bit not false refl (are.by_has.0 e))

    pub v20_is : v20 f n ≡ u.by_in
    v20_is =
        same_truth (v20 f n) u.by_in
        (λ e. are.by_in.1 (to_bit (λ b. b) true (λ b is. is) (ap (list_any (broken (λ b. b))) asked ∙ e)))
        (λ e. sym (ap (list_any (broken (λ b. b))) asked) ∙ from_bit (λ b. b) true refl (are.by_in.0 e))
