-- The least module whose specification isn't sound.
use Rattle.std.proofs.Common.{◌≡◌, ◌≢◌, ◌↔◌, ℕ, ◌+◌, ◌<◌, ◌≤◌, zero, suc, Bool, true, false, not, true≢false, List, [], ◌∷◌, Contains, find, length, slice_get, Option, Some, None, Result, Ok, Err, IfOk, IsTrue, refl, sym, ap, ◌∙◌, subst, arith}
use Rattle.std.proofs.Math.Bool.{cond}
use Rattle.std.proofs.Math.Dec.{ltb}
use borrow.Author.Tests.{ltb-true, ltb-false}
use Rattle.std.specs.Ordering.{ordering_reverse, is_lt}
use Rattle.std.specs.Str.{bytes_eq}
use Rattle.std.specs.List.{list_any}
use Rattle.std.proofs.lemmas.Cmp.{nat_list_cmp_total}
use Rattle.std.proofs.lemmas.Option.{none-some, slice_get_within, same_Some}
use Rattle.std.proofs.lemmas.Slice.Eq.{bytes_eq-Decides}
use Rattle.std.specs.declared.cmp.Ordering.TheVariants.{Less}
use Rattle.indexmap.proofs.CallerLemmas.{Contains-list_any}
use Rattle.clu_base.specs.declared.errors.Memory.{Memory}
use Rattle.clu_types.specs.Specs.{name_order, ComeAfter, AreAscending}
use Rattle.clu_types.specs.declared.spec.Spec.{Spec}
use Rattle.clu_sound.specs.Sound.{IsSound}
use Rattle.clu_library.specs.Contents.{Contents, spec_of}
use Rattle.clu_library.specs.Unmet.{IsUnmet, IsLeastUnmet, TellsUnmet, IsAmiss}
use Rattle.clu_library.proofs.Closing.{listed}
use Rattle.clu_library.proofs.Firsts.{found_passes, apart}

-- ---- lists

find_place : {X : Type 0} (p : X → Bool) (xs : List X) (y : X) → find p xs ≡ Some y → (k : ℕ) × (slice_get xs k ≡ Some y)
find_place p [] y e = absurd (none-some y e)
find_place {X} p (x ∷ xs) y e = by (p x) e (find_place p xs y)
  where
    by : (b : Bool) → cond b (Some x) (find p xs) ≡ Some y → (find p xs ≡ Some y → (k : ℕ) × (slice_get xs k ≡ Some y)) → (k : ℕ) × (slice_get (x ∷ xs) k ≡ Some y)
    by true e further = (0, e)
    by false e further = let r = further e in (suc r.0, r.1)

after_at : (name : List ℕ) (xs : List Spec) (k : ℕ) (y : Spec) → ComeAfter name xs → slice_get xs k ≡ Some y → name_order name y.name ≡ Less
after_at name [] k y a e = absurd (none-some y e)
after_at name (x ∷ xs) zero y a e = ap (λ (s : Spec). name_order name s.name) (sym (same_Some x y e)) ∙ a.0
after_at name (x ∷ xs) (suc k) y a e = after_at name xs k y a.1 e

ascending_at : (xs : List Spec) (i k : ℕ) (x y : Spec) → AreAscending xs → i < k → slice_get xs i ≡ Some x → slice_get xs k ≡ Some y → name_order x.name y.name ≡ Less
ascending_at [] i k x y a lt e f = absurd (none-some x e)
ascending_at (z ∷ xs) zero zero x y a lt e f = absurd (omega (arith, lt))
ascending_at (z ∷ xs) (suc i) zero x y a lt e f = absurd (omega (arith, lt))
ascending_at (z ∷ xs) zero (suc k) x y a lt e f = subst (λ (s : Spec). name_order s.name y.name ≡ Less) (same_Some z x e) (after_at z.name xs k y a.0 f)
ascending_at (z ∷ xs) (suc i) (suc k) x y a lt e f = ascending_at xs i k x y a.1 (omega (arith, lt)) e f

found_at : (xs : List Spec) (i : ℕ) (x : Spec) → AreAscending xs → slice_get xs i ≡ Some x → find (λ (s : Spec). bytes_eq s.name x.name) xs ≡ Some x
found_at [] i x a e = absurd (none-some x e)
found_at (z ∷ xs) zero x a e = let same : bytes_eq z.name x.name ≡ true = (bytes_eq-Decides z.name x.name).1 (ap (λ (s : Spec). s.name) (same_Some z x e)) in rw same e
found_at (z ∷ xs) (suc i) x a e = let other : bytes_eq z.name x.name ≡ false = apart z.name x.name (after_at z.name xs i x a.0 e) in rw other (found_at xs i x a.1 e)

greater : (m n : List ℕ) → name_order m n ≡ Less → name_order n m ≡ Less → ⊥
greater m n first second = true≢false (sym (ap is_lt second) ∙ ap is_lt (nat_list_cmp_total.antisymm n m ∙ ap ordering_reverse first))

-- ---- the modules that were looked at

module _ (library : Contents) (besides : List (List ℕ)) where
  -- none of the first n is amiss
  abbrev pub NoneTo : ℕ → Type 0
  NoneTo n = (k : ℕ) (s : Spec) → k < n → slice_get library.specs k ≡ Some s → IsAmiss library.specs besides s → ⊥

  -- where such a module is among the kept ones
  place : (m : List ℕ) → IsUnmet library besides m → (s : Spec) × (s.name ≡ m) × IsAmiss library.specs besides s × ((k : ℕ) × (slice_get library.specs k ≡ Some s))
  place m u =
      let named : u.0.name ≡ m = (bytes_eq-Decides u.0.name m).0 (found_passes (λ (s : Spec). bytes_eq s.name m) library.specs u.0 u.1) in
      (u.0, named, (λ c. u.2 (subst (λ (n : List ℕ). Contains besides n) named c), u.3), find_place (λ (s : Spec). bytes_eq s.name m) library.specs u.0 u.1)

  pub none_first : NoneTo 0
  none_first k s lt = absurd (omega (arith, lt))

  pub none_more : (n : ℕ) (s : Spec) → Some s ≡ slice_get library.specs n → (IsAmiss library.specs besides s → ⊥) → NoneTo n → NoneTo (n + 1)
  none_more n s at this before k t lt e = by (ltb k n) refl
    where
      by : (b : Bool) → ltb k n ≡ b → IsAmiss library.specs besides t → ⊥
      by true less = before k t (omega (arith, ltb-true)) e
      by false last =
          let here : k ≡ n = omega (arith, ltb-false, lt) in
          subst (λ (x : Spec). IsAmiss library.specs besides x → ⊥) (same_Some s t (at ∙ ap (slice_get library.specs) (sym here) ∙ e)) this

  past : (xs : List Spec) (n : ℕ) → None ≡ slice_get xs n → (k : ℕ) (s : Spec) → slice_get xs k ≡ Some s → k < n
  past [] n e k s f = absurd (none-some s f)
  past (x ∷ xs) zero e k s f = absurd (none-some x e)
  past (x ∷ xs) (suc n) e zero s f = omega arith
  past (x ∷ xs) (suc n) e (suc k) s f = omega (arith, past xs n e k s f)

  pub none_at_all : (n : ℕ) → None ≡ slice_get library.specs n → NoneTo n → TellsUnmet library besides None
  none_at_all n e before m u = let p = place m u in before p.3.0 p.0 (past library.specs n e p.3.0 p.0 p.3.1) p.3.1 p.2

  pub least_at : (n : ℕ) (s : Spec) (name : List ℕ) → AreAscending library.specs → Some s ≡ slice_get library.specs n → IsAmiss library.specs besides s → NoneTo n → name ≡ s.name → TellsUnmet library besides (Some name)
  least_at n s name ascending at amiss before is = subst (λ (m : List ℕ). TellsUnmet library besides (Some m)) (sym is) (record { unmet = (s, found_at library.specs n s ascending (sym at), amiss.0, amiss.1); least = least })
    where
      least : (m : List ℕ) → IsUnmet library besides m → name_order m s.name ≢ Less
      least m u less = by (ltb p.3.0 n) refl (ltb n p.3.0) refl
        where
          p : (t : Spec) × (t.name ≡ m) × IsAmiss library.specs besides t × ((k : ℕ) × (slice_get library.specs k ≡ Some t))
          p = place m u

          lower : name_order p.0.name s.name ≡ Less
          lower = subst (λ (n : List ℕ). name_order n s.name ≡ Less) (sym p.1) less

          by : (a : Bool) → ltb p.3.0 n ≡ a → (b : Bool) → ltb n p.3.0 ≡ b → ⊥
          by true earlier b f = before p.3.0 p.0 (omega (arith, ltb-true)) p.3.1 p.2
          by false e true later = greater s.name p.0.name (ascending_at library.specs n p.3.0 s p.0 ascending (omega (arith, ltb-true)) (sym at) p.3.1) lower
          by false e false f =
              let here : n ≡ p.3.0 = omega (arith, ltb-false) in
              let same : s ≡ p.0 = same_Some s p.0 (at ∙ ap (slice_get library.specs) here ∙ p.3.1) in
              let itself : name_order s.name s.name ≡ Less = subst (λ (t : Spec). name_order t.name s.name ≡ Less) (sym same) lower in
              greater s.name s.name itself itself

  -- the same by what was found of the n-th
  pub none_next : (n : ℕ) (s : Spec) (b : Bool) → Some s ≡ slice_get library.specs n → IsTrue b ↔ IsAmiss library.specs besides s → b ≡ false → NoneTo n → NoneTo (n + 1)
  none_next n s b at is fails before = none_more n s at (λ a. true≢false (sym (is.1 a) ∙ fails)) before

  pub least_next : (n : ℕ) (s : Spec) (b : Bool) (name : List ℕ) → AreAscending library.specs → Some s ≡ slice_get library.specs n → IsTrue b ↔ IsAmiss library.specs besides s → b ≡ true → NoneTo n → name ≡ s.name → TellsUnmet library besides (Some name)
  least_next n s b name ascending at is holds before same = least_at n s name ascending at (is.0 holds) before same

pub ruleset tellings = (none_first, none_next, none_at_all, least_next)

-- ---- one specification

pub among : (names : List (List ℕ)) (name : List ℕ) (r : Bool) → r ≡ list_any (bytes_eq name) names → IsTrue r ↔ Contains names name
among names name r e = (λ t. Contains-list_any bytes_eq (λ m n. (bytes_eq-Decides m n).0) names name (sym e ∙ t), λ c. e ∙ listed names name c)

pub not_sound : (P : Type 0) (b : Bool) → IsTrue b ↔ P → IsTrue (not b) ↔ (P → ⊥)
not_sound P true h = (λ t. absurd (true≢false (sym t)), λ n. absurd (n (h.0 refl)))
not_sound P false h = (λ t p. true≢false (sym (h.1 p)), λ n. refl)

pub amiss_outside : (specs : List Spec) (besides : List (List ℕ)) (s : Spec) → (Contains besides s.name → ⊥) → (r : Result Bool Memory) → IfOk r (λ b. IsTrue b ↔ (IsSound specs s → ⊥)) → IfOk r (λ b. IsTrue b ↔ IsAmiss specs besides s)
amiss_outside specs besides s outside (Ok b) h = (λ t. (outside, h.0 t), λ a. h.1 a.1)
amiss_outside specs besides s outside (Err e) h = h

pub amiss_among : (specs : List Spec) (besides : List (List ℕ)) (s : Spec) → Contains besides s.name → IsTrue false ↔ IsAmiss specs besides s
amiss_among specs besides s there = (λ t. absurd (true≢false (sym t)), λ a. absurd (a.0 there))
