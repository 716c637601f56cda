-- What is reached is closed: each that is listed was looked at, and what it uses is listed.
use Rattle.std.proofs.Common.{◌≡◌, ◌∙◌, ◌⊎◌, inl, inr, ⊎_elim, ℕ, zero, suc, ◌<◌, ◌≤◌, Bool, true, false, ◌&&◌, ◌||◌, true≢false, if◌then◌else◌, List, [], ◌∷◌, ◌++◌, length, Option, Some, slice_get, nat_le, nat_lt, refl, ap, sym, subst, arith}
use Rattle.std.proofs.lemmas.Bool.Decides.{nat_tests}
use Rattle.std.proofs.lemmas.Option.{same_Some, none-some}
use Rattle.std.proofs.lemmas.Slice.Eq.{bytes_eq-Decides}
use Rattle.std.specs.List.{list_any}
use Rattle.clu_types.specs.CluType.{CluType}
use Rattle.clu_specs.specs.Seen.{Used, use_text}
use Rattle.clu_library.specs.Contents.{Contents}
use Rattle.clu_link_meaning.specs.Walk.{with_one, with_all, goes_on, most}
use Rattle.clu_link_meaning.specs.Same.{same_used}
use Rattle.clu_link_meaning.specs.Reach.{Fate, used_by, Made, HasFate, IsVisit, IsWalk}
use Rattle.laws_link.specs.Reached.{Fated}
use Rattle.laws_link.proofs.CodeWords.{get_front}

module _ {X : Type 0} (eq : X → X → Bool) where
  abbrev pub Lists : List X → X → Type 0
  Lists xs x = list_any (eq x) xs ≡ true

  any_front : (x : X) (xs more : List X) → Lists xs x → Lists (xs ++ more) x
  any_front x [] more e = absurd (true≢false (sym e))
  any_front x (y ∷ ys) more e = by (any_front x ys more) (eq x y) e
    where
      by : (Lists ys x → Lists (ys ++ more) x) → (b : Bool) → b || list_any (eq x) ys ≡ true → b || list_any (eq x) (ys ++ more) ≡ true
      by on true d = refl
      by on false d = on d

  any_last : (x : X) (xs : List X) → eq x x ≡ true → Lists (xs ++ x ∷ []) x
  any_last x [] e = ap (λ b. b || false) e
  any_last x (y ∷ ys) e = by (any_last x ys e) (eq x y)
    where
      by : Lists (ys ++ x ∷ []) x → (b : Bool) → b || list_any (eq x) (ys ++ x ∷ []) ≡ true
      by on true = refl
      by on false = on

  one_more : (xs : List X) (x : X) → (more : List X) × (with_one eq xs x ≡ xs ++ more)
  one_more xs x = by (list_any (eq x) xs)
    where
      by : (b : Bool) → (more : List X) × ((if b then xs else xs ++ x ∷ []) ≡ xs ++ more)
      by true = ([], sym (end xs))
        where
          end : (zs : List X) → zs ++ [] ≡ zs
          end [] = refl
          end (z ∷ zs) = ap (λ k. z ∷ k) (end zs)
      by false = (x ∷ [], refl)

  one_there : (xs : List X) (x : X) → eq x x ≡ true → Lists (with_one eq xs x) x
  one_there xs x e = by (list_any (eq x) xs) refl
    where
      by : (b : Bool) → list_any (eq x) xs ≡ b → list_any (eq x) (if b then xs else xs ++ x ∷ []) ≡ true
      by true h = h
      by false h = any_last x xs e

  joined : (xs ys zs : List X) → (xs ++ ys) ++ zs ≡ xs ++ (ys ++ zs)
  joined [] ys zs = refl
  joined (x ∷ xs) ys zs = ap (λ k. x ∷ k) (joined xs ys zs)

  nothing_more : (zs : List X) → zs ≡ zs ++ []
  nothing_more [] = refl
  nothing_more (z ∷ zs) = ap (λ k. z ∷ k) (nothing_more zs)

  -- the list grows at its end alone
  pub all_more : (xs ys : List X) → (more : List X) × (with_all eq xs ys ≡ xs ++ more)
  all_more xs [] = ([], nothing_more xs)
  all_more xs (y ∷ ys) =
      let o = one_more xs y in
      let r = all_more (with_one eq xs y) ys in
      (o.0 ++ r.0, r.1 ∙ ap (λ k. k ++ r.0) o.1 ∙ joined xs o.0 r.0)

  any_more : (x : X) (xs zs : List X) → ((more : List X) × (zs ≡ xs ++ more)) → Lists xs x → Lists zs x
  any_more x xs zs m e = subst (λ k. Lists k x) (sym m.1) (any_front x xs m.0 e)

  all_there : (reflexive : (x : X) → eq x x ≡ true) (xs ys : List X) (j : ℕ) (v : X) → slice_get ys j ≡ Some v → Lists (with_all eq xs ys) v
  all_there reflexive xs [] j v e = absurd (none-some v e)
  all_there reflexive xs (y ∷ ys) zero v e =
      subst (Lists (with_all eq (with_one eq xs y) ys)) (same_Some y v e) (any_more y (with_one eq xs y) (with_all eq (with_one eq xs y) ys) (all_more (with_one eq xs y) ys) (one_there xs y (reflexive y)))
  all_there reflexive xs (y ∷ ys) (suc j) v e = all_there reflexive (with_one eq xs y) ys j v e

used_same : (u : Used) → same_used u u ≡ true
used_same u = (bytes_eq-Decides (use_text u) (use_text u)).1 refl

module _ (made : CluType → List ℕ → Option Made) (library : Contents) where
  pub walk_more : (fs : List Fate) (n : ℕ) (us all : List Used) → IsWalk made library n us fs all → (more : List Used) × (all ≡ us ++ more)
  walk_more [] n us all w = ([], w.1 ∙ nothing_more same_used us)
  walk_more (f ∷ fs) n us all w =
      let r = walk_more fs (suc n) (with_all same_used us (used_by f)) all w.2 in
      let a = all_more same_used us (used_by f) in
      (a.0 ++ r.0, r.1 ∙ ap (λ k. k ++ r.0) a.1 ∙ joined same_used us a.0 r.0)

  pub here_on : (us : List Used) (n : ℕ) → goes_on us n ≡ true → n < length us
  here_on us n e = by (nat_le (length us) most) e
    where
      by : (b : Bool) → b && nat_lt n (length us) ≡ true → n < length us
      by true d = grind (arith, nat_tests, d)
      by false d = absurd (true≢false (sym d))

  off : (us : List Used) (n : ℕ) → goes_on us n ≡ false → length us ≤ most → length us ≤ n
  off us n e l = by (nat_le (length us) most) refl e
    where
      by : (b : Bool) → nat_le (length us) most ≡ b → b && nat_lt n (length us) ≡ false → length us ≤ n
      by true h d = grind (arith, nat_tests, d)
      by false h d = grind (arith, nat_tests, h, l)

  visit_of : (o : Option Used) (f : Fate) (u : Used) → o ≡ Some u → IsVisit made library o f → HasFate made library u f
  visit_of o f u e v = subst (λ (x : Option Used). IsVisit made library x f) e v

  past : {X : Type 0} (xs : List X) (i : ℕ) (x : X) → slice_get xs i ≡ Some x → i < length xs
  past [] i x e = absurd (none-some x e)
  past (y ∷ ys) zero x e = omega arith
  past (y ∷ ys) (suc i) x e = let r : i < length ys = past ys i x e in omega (arith, r)

  fated : (fs : List Fate) (n : ℕ) (us all : List Used) → IsWalk made library n us fs all → length all ≤ most → (i : ℕ) (u : Used) → n ≤ i → slice_get all i ≡ Some u → Fated made library all u
  fated [] n us all w l i u ni e =
      let short : length us ≤ n = off us n w.0 (subst (λ k. length k ≤ most) w.1 l) in
      let r : i < length us = past us i u (subst (λ k. slice_get k i ≡ Some u) w.1 e) in
      absurd (omega (arith, short, r, ni))
  fated (f ∷ fs) n us all w l i u ni e = by (λ m. fated fs (suc n) (with_all same_used us (used_by f)) all w.2 l i u m e) (split n i ni)
    where
      split : (a b : ℕ) → a ≤ b → (a ≡ b) ⊎ (suc a ≤ b)
      split zero zero k = inl refl
      split zero (suc b) k = inr (omega arith)
      split (suc a) zero k = absurd (omega (arith, k))
      split (suc a) (suc b) k = ⊎_elim (λ (s : a ≡ b). inl (ap suc s)) (λ (m : suc a ≤ b). inr (omega (arith, m))) (split a b (omega (arith, k)))

      by : (suc n ≤ i → Fated made library all u) → (n ≡ i) ⊎ (suc n ≤ i) → Fated made library all u
      by on (inr m) = on m
      by on (inl s) = record {
        fate = f;
        has = visit_of (slice_get us n) f u (at (walk_more (f ∷ fs) n us all w)) w.1;
        uses = λ j v g. any_more same_used v (with_all same_used us (used_by f)) all (walk_more fs (suc n) (with_all same_used us (used_by f)) all w.2) (all_there same_used used_same us (used_by f) j v g);
      }
        where
          at : ((more : List Used) × (all ≡ us ++ more)) → slice_get us n ≡ Some u
          at m = sym (get_front us m.0 n (here_on us n w.0)) ∙ ap (λ k. slice_get k n) (sym m.1) ∙ subst (λ k. slice_get all k ≡ Some u) (sym s) e

  -- each that is reached was looked at, and what it uses is reached, unless there are too many
  pub all_fated : (fs : List Fate) (us all : List Used) → IsWalk made library 0 us fs all → length all ≤ most → (i : ℕ) (u : Used) → slice_get all i ≡ Some u → Fated made library all u
  all_fated fs us all w l i u e = fated fs 0 us all w l i u (omega arith) e
