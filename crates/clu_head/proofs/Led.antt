-- A table that is filled in the order in which equates come after those that they name has at each place the set to which the
-- equate there leads.
use Rattle.std.proofs.Common.{◌≡◌, ◌∙◌, ◌↔◌, ◌⊎◌, inl, inr, ℕ, zero, suc, ◌+◌, ◌<◌, ◌≤◌, nat_lt, Bool, true, false, if◌then◌else◌, List, [], ◌∷◌, ◌++◌, map, set, fold, length, drop, replicate, Option, Some, None, refl, ap, sym, subst, arith, length-set}
use Rattle.std.proofs.lemmas.List.{length-replicate}
use Rattle.std.specs.Prelude.{slice_get}
use Rattle.std.proofs.lemmas.Bool.{cases_lt, lt-ltb, true≢false, cases_Bool, cases_eq}
use Rattle.std.proofs.lemmas.Option.{none-some, same_Some, slice_get_past, slice_get_within}
use Rattle.clu_base.proofs.Lists.{some_at, mapped_at}
use Rattle.clu_circles.specs.declared.states.Span.{Span}
use Rattle.clu_circles.specs.Circles.{Leads, LeadsFor, AreCircles}
use Rattle.clu_head.specs.declared.sets.Said.{Said}
use Rattle.clu_head.specs.declared.sets.Said.TheVariants as said
use Rattle.clu_head.specs.Sets.{target_of, AreOne, kept, kept_at, led_by, led, set_led, with_set}

-- ---- tables

set_here : {X : Type 0} (xs : List X) (k : ℕ) (y : X) → k < length xs → slice_get (set xs k y) k ≡ Some y
set_here [] k y less = absurd (omega (arith, less))
set_here (x ∷ xs) zero y less = refl
set_here (x ∷ xs) (suc k) y less = set_here xs k y (omega (arith, less))

set_there : {X : Type 0} (xs : List X) (j k : ℕ) (y : X) → (j ≡ k → ⊥) → slice_get (set xs j y) k ≡ slice_get xs k
set_there [] j k y apart = refl
set_there (x ∷ xs) zero zero y apart = absurd (apart refl)
set_there (x ∷ xs) zero (suc k) y apart = refl
set_there (x ∷ xs) (suc j) zero y apart = refl
set_there (x ∷ xs) (suc j) (suc k) y apart = set_there xs j k y (λ e. apart (ap suc e))

mapped_from : {X Y : Type 0} (f : X → Y) (xs : List X) (k : ℕ) (y : Y) → slice_get (map f xs) k ≡ Some y → (x : X) × (slice_get xs k ≡ Some x) × (f x ≡ y)
mapped_from f [] k y e = absurd (none-some y e)
mapped_from f (x ∷ xs) zero y e = (x, refl, same_Some (f x) y e)
mapped_from f (x ∷ xs) (suc k) y e = mapped_from f xs k y e

first_left : (xs : List ℕ) (i x : ℕ) (rest : List ℕ) → drop i xs ≡ x ∷ rest → slice_get xs i ≡ Some x
first_left [] zero x rest e = absurd (cc)
first_left [] (suc i) x rest e = absurd (cc)
first_left (y ∷ xs) zero x rest e = let same : y ≡ x = cc in ap Some same
first_left (y ∷ xs) (suc i) x rest e = first_left xs i x rest e

others_left : (xs : List ℕ) (i x : ℕ) (rest : List ℕ) → drop i xs ≡ x ∷ rest → drop (suc i) xs ≡ rest
others_left [] zero x rest e = absurd (cc)
others_left [] (suc i) x rest e = absurd (cc)
others_left (y ∷ xs) zero x rest e = cc
others_left (y ∷ xs) (suc i) x rest e = others_left xs i x rest e

none_left : (xs : List ℕ) (i : ℕ) → drop i xs ≡ [] → length xs ≤ i
none_left [] i e = omega arith
none_left (x ∷ xs) zero e = absurd (cc)
none_left (x ∷ xs) (suc i) e = let less : length xs ≤ i = none_left xs i e in omega (arith, less)

-- ---- one target for each

target_same : (many t : ℕ) → t < many → target_of many (said.Same t) ≡ Some t
target_same many t less = ap (λ (b : Bool). if b then Some t else None) (lt-ltb t many less)

same_target : (many : ℕ) (s : Said) (t : ℕ) → target_of many s ≡ Some t → s ≡ said.Same t
same_target many said.Nothing t e = absurd (none-some t e)
same_target many (said.Set n) t e = absurd (none-some t e)
same_target many (said.Same p) t e = by (nat_lt p many) e
  where
    by : (b : Bool) → (if b then Some p else None) ≡ Some t → said.Same p ≡ said.Same t
    by true e = ap said.Same (same_Some p t e)
    by false e = absurd (none-some t e)

module _ (all : List Said) (spans : List Span) (one : AreOne spans (length all)) (many : length spans ≡ length all) where
  abbrev targets : List (Option ℕ)
  targets = map (target_of (length all)) all

  leads_same : (k t : ℕ) → slice_get all k ≡ Some (said.Same t) → t < length all → Leads targets spans k t
  leads_same k t at less = record {
    span = record { from = k; to = k + 1 };
    place = k;
    its = one k (slice_get_within all k (said.Same t) at);
    onward = omega arith;
    before = omega arith;
    there = mapped_at (target_of (length all)) all k (said.Same t) at ∙ ap Some (target_same (length all) t less);
  }

  same_leads : (k t : ℕ) → Leads targets spans k t → slice_get all k ≡ Some (said.Same t)
  same_leads k t l =
      let less : k < length all = subst (λ (n : ℕ). k < n) many (slice_get_within spans k l.span l.its) in
      let its : record { from = k; to = k + 1 } ≡ l.span = same_Some (record { from = k; to = k + 1 }) l.span (sym (one k less) ∙ l.its) in
      let from : k ≡ l.span.from = ap (λ (s : Span). s.from) its in
      let to : k + 1 ≡ l.span.to = ap (λ (s : Span). s.to) its in
      let here : l.place ≡ k = omega (arith, from, to, l.onward, l.before) in
      let found = mapped_from (target_of (length all)) all k (Some t) (ap (slice_get targets) (sym here) ∙ l.there) in
      found.1 ∙ ap Some (same_target (length all) found.0 t found.2)

  -- ---- enough steps

  past_none : (steps k : ℕ) → length all ≤ k → led all steps k ≡ None
  unfolding led
  past_none zero k past = refl
  past_none (suc steps) k past = ap (led_by (led all steps)) (slice_get_past all k past)

  stable_by : (steps : ℕ) (o : Option Said) → ((p : ℕ) → o ≡ Some (said.Same p) → led all steps p ≡ led all (suc steps) p) → led_by (led all steps) o ≡ led_by (led all (suc steps)) o
  stable_by steps None same = refl
  stable_by steps (Some said.Nothing) same = refl
  stable_by steps (Some (said.Set n)) same = refl
  stable_by steps (Some (said.Same p)) same = same p refl

  stable_if : (steps p : ℕ) → (p < length all → led all steps p ≡ led all (suc steps) p) → led all steps p ≡ led all (suc steps) p
  stable_if steps p same = elim (cases_lt p (length all)) [
    | inl less ↦ same less
    | inr past ↦ past_none steps p past ∙ sym (past_none (suc steps) p past)
  ]

  stable : (steps k : ℕ) → (LeadsFor targets spans steps k → ⊥) → led all steps k ≡ led all (suc steps) k
  unfolding led LeadsFor
  stable zero k ends = absurd (ends tt)
  stable (suc steps) k ends = stable_by steps (slice_get all k) (λ p at. stable_if steps p (λ less. stable steps p (λ far. ends (p, leads_same k p at less, far))))

  circular_none : (steps k : ℕ) → LeadsFor targets spans steps k → led all steps k ≡ None
  unfolding led LeadsFor
  circular_none zero k far = refl
  circular_none (suc steps) k far = ap (led_by (led all steps)) (same_leads k far.0 far.1) ∙ circular_none steps far.0 far.2

  -- ---- the table

  module _ (order : List ℕ) (circular : List Bool) (circles : AreCircles targets spans order circular)
      (exactly : (k : ℕ) → k < length spans → (slice_get circular k ≡ Some true) ↔ LeadsFor targets spans (length spans) k) where
    abbrev IsSoFar : ℕ → List (Option ℕ) → ℕ → Type 0
    IsSoFar i sets k = (kept_at sets k ≡ set_led all k) ⊎ ((kept_at sets k ≡ None) × ((q : ℕ) → q < i → slice_get order q ≡ Some k → ⊥))

    straight_ends : (k : ℕ) → k < length all → slice_get circular k ≡ Some false → LeadsFor targets spans (length all) k → ⊥
    straight_ends k less is far =
        let inside : k < length spans = omega (arith, less, many) in
        let far_there : LeadsFor targets spans (length spans) k = subst (λ (n : ℕ). LeadsFor targets spans n k) (sym many) far in
        true≢false (same_Some true false (sym ((exactly k inside).1 far_there) ∙ is))

    -- what is found at the place i of the order
    found_by : (steps i k : ℕ) (sets : List (Option ℕ)) → length all ≡ suc steps → slice_get order i ≡ Some k → (LeadsFor targets spans (suc steps) k → ⊥)
        → ((j : ℕ) → IsSoFar i sets j) → length sets ≡ length all → (o : Option Said) → slice_get all k ≡ o → led_by (kept_at sets) o ≡ led_by (led all steps) o
    unfolding LeadsFor
    found_by steps i k sets size at ends so_far long None is = refl
    found_by steps i k sets size at ends so_far long (Some said.Nothing) is = refl
    found_by steps i k sets size at ends so_far long (Some (said.Set n)) is = refl
    found_by steps i k sets size at ends so_far long (Some (said.Same p)) is = elim (cases_lt p (length all)) [
      | inl less ↦
          let leads = leads_same k p is less in
          let before = circles.after i k p at leads in
          let ended : led all steps p ≡ led all (length all) p = stable steps p (λ far. ends (p, leads, far)) ∙ ap (λ (n : ℕ). led all n p) (sym size) in
          elim (so_far p) [
            | inl done ↦ done ∙ sym ended
            | inr left ↦ absurd (left.1 before.0 before.1 before.2)
          ]
      | inr past ↦ ap kept (slice_get_past sets p (omega (arith, past, long))) ∙ sym (past_none steps p past)
    ]

    found : (steps i k : ℕ) (sets : List (Option ℕ)) → length all ≡ steps → k < length all → slice_get order i ≡ Some k → ((j : ℕ) → IsSoFar i sets j) → length sets ≡ length all → led_by (kept_at sets) (slice_get all k) ≡ set_led all k
    unfolding led
    found zero i k sets size less at so_far long = absurd (omega (arith, size, less))
    found (suc steps) i k sets size less at so_far long =
        let ends : LeadsFor targets spans (suc steps) k → ⊥ = subst (λ (n : ℕ). LeadsFor targets spans n k → ⊥) size (straight_ends k less (circles.straight i k at)) in
        found_by steps i k sets size at ends so_far long (slice_get all k) refl ∙ ap (λ (n : ℕ). led all n k) (sym size)

    written : (sets : List (Option ℕ)) (k : ℕ) → length sets ≡ length all → k < length all → with_set all sets k ≡ set sets k (led_by (kept_at sets) (slice_get all k))
    unfolding with_set
    written sets k long less = rw (lt-ltb k (length sets) (omega (arith, long, less)), lt-ltb k (length all) less) refl

    inside_order : (i k : ℕ) → slice_get order i ≡ Some k → k < length all
    inside_order i k at = let less : k < length circular = slice_get_within circular k false (circles.straight i k at) in omega (arith, less, circles.size, many)

    next : (i k : ℕ) (sets : List (Option ℕ)) → slice_get order i ≡ Some k → ((j : ℕ) → IsSoFar i sets j) → length sets ≡ length all → (j : ℕ) → IsSoFar (suc i) (with_set all sets k) j
    next i k sets at so_far long j =
        let less : k < length all = inside_order i k at in
        let value : Option ℕ = led_by (kept_at sets) (slice_get all k) in
        subst (λ (s : List (Option ℕ)). IsSoFar (suc i) s j) (sym (written sets k long less)) (elim (cases_eq k j) [
          | inl same ↦ inl (subst (λ (m : ℕ). kept_at (set sets k value) m ≡ set_led all m) same
              (ap kept (set_here sets k value (omega (arith, long, less))) ∙ found (length all) i k sets refl less at so_far long))
          | inr apart ↦
              let kept_so : kept_at (set sets k value) j ≡ kept_at sets j = ap kept (set_there sets k j value apart) in
              elim (so_far j) [
                | inl done ↦ inl (kept_so ∙ done)
                | inr left ↦ inr (
                  kept_so ∙ left.0,
                  λ q before is. elim (cases_lt q i) [
                    | inl earlier ↦ left.1 q earlier is
                    | inr last ↦ let here : q ≡ i = omega (arith, before, last) in apart (same_Some k j (sym at ∙ ap (slice_get order) (sym here) ∙ is))
                  ],
                )
              ]
        ])

    as_long : (i k : ℕ) (sets : List (Option ℕ)) → slice_get order i ≡ Some k → length sets ≡ length all → length (with_set all sets k) ≡ length all
    as_long i k sets at long = ap length (written sets k long (inside_order i k at)) ∙ length-set sets k (led_by (kept_at sets) (slice_get all k)) ∙ long

    at_end : (i : ℕ) (sets : List (Option ℕ)) → length order ≤ i → ((j : ℕ) → IsSoFar i sets j) → length sets ≡ length all → (k : ℕ) → kept_at sets k ≡ set_led all k
    at_end i sets past so_far long k = elim (so_far k) [
      | inl done ↦ done
      | inr left ↦ elim (cases_lt k (length all)) [
        | inr outside ↦ left.0 ∙ sym (past_none (length all) k outside)
        | inl less ↦
            let bit = some_at circular k (omega (arith, less, circles.size, many)) in
            elim (cases_Bool bit.0) [
              | inl is ↦
                  let far : LeadsFor targets spans (length spans) k = (exactly k (omega (arith, less, many))).0 (bit.1 ∙ ap Some is) in
                  left.0 ∙ sym (ap (λ (n : ℕ). led all n k) (sym many) ∙ circular_none (length spans) k far)
              | inr is ↦
                  let stands = circles.listed k (bit.1 ∙ ap Some is) in
                  absurd (left.1 stands.0 (let within : stands.0 < length order = slice_get_within order stands.0 k stands.1 in omega (arith, within, past)) stands.1)
            ]
      ]
    ]

    filled : (rest : List ℕ) (i : ℕ) (sets : List (Option ℕ)) → drop i order ≡ rest → ((j : ℕ) → IsSoFar i sets j) → length sets ≡ length all → (k : ℕ) → kept_at (fold (with_set all) sets rest) k ≡ set_led all k
    filled [] i sets left so_far long k = at_end i sets (none_left order i left) so_far long k
    filled (p ∷ rest) i sets left so_far long k =
        let at : slice_get order i ≡ Some p = first_left order i p rest left in
        filled rest (suc i) (with_set all sets p) (others_left order i p rest left) (next i p sets at so_far long) (as_long i p sets at long) k

    pub all_filled : (sets : List (Option ℕ)) → length sets ≡ length all → ((k : ℕ) → kept_at sets k ≡ None) → (k : ℕ) → kept_at (fold (with_set all) sets order) k ≡ set_led all k
    all_filled sets long none k = filled order 0 sets refl (λ j. inr (none j, λ q before is. omega (arith, before))) long k

-- what a loop adds
pub one_more : (spans new : List Span) (n : ℕ) (span : Span) → length spans ≡ n → AreOne spans n → span ≡ record { from = n; to = n + 1 } → new ≡ spans ++ span ∷ [] → AreOne new (n + 1)
one_more spans new n span size one is grown k less = ap (λ (ss : List Span). slice_get ss k) grown ∙ elim (cases_lt k n) [
  | inl before ↦ front spans (span ∷ []) k (omega (arith, before, size)) ∙ one k before
  | inr last ↦
      let here : k ≡ length spans = omega (arith, less, last, size) in
      let at : k ≡ n = here ∙ size in
      ap (slice_get (spans ++ span ∷ [])) here ∙ behind spans span ∙ ap Some (is ∙ ap (λ (m : ℕ). record { from = m; to = m + 1 }) (sym at))
]
  where
    front : (xs ys : List Span) (i : ℕ) → i < length xs → slice_get (xs ++ ys) i ≡ slice_get xs i
    front [] ys i l = absurd (omega (arith, l))
    front (x ∷ xs) ys zero l = refl
    front (x ∷ xs) ys (suc i) l = front xs ys i (omega (arith, l))

    behind : (xs : List Span) (x : Span) → slice_get (xs ++ x ∷ []) (length xs) ≡ Some x
    behind [] x = refl
    behind (y ∷ xs) x = behind xs x

pub none_yet : (sets : List (Option ℕ)) (many : ℕ) → sets ≡ replicate many None → (k : ℕ) → kept_at sets k ≡ None
none_yet sets many is k = ap (λ (s : List (Option ℕ)). kept_at s k) is ∙ nothing many k
  where
    nothing : (n k : ℕ) → kept_at (replicate n None) k ≡ None
    nothing zero k = refl
    nothing (suc n) zero = refl
    nothing (suc n) (suc k) = nothing n k

-- the same of what a program made of them
pub sets_found : (all said : List Said) (many : ℕ) (targets : List (Option ℕ)) (spans : List Span) (order : List ℕ) (circular : List Bool)
    → said ≡ all → many ≡ length said → targets ≡ map (target_of many) said → length spans ≡ many → AreOne spans many → AreCircles targets spans order circular
    → ((k : ℕ) → k < length spans → (slice_get circular k ≡ Some true) ↔ LeadsFor targets spans (length spans) k)
    → (k : ℕ) → kept_at (fold (with_set said) (replicate (length said) None) order) k ≡ set_led all k
sets_found all said many targets spans order circular is size targets_are long one circles exactly k =
    let its : targets ≡ map (target_of (length said)) said = targets_are ∙ ap (λ (n : ℕ). map (target_of n) said) size in
    let filled_so : kept_at (fold (with_set said) (replicate (length said) None) order) k ≡ set_led said k =
    all_filled said spans (subst (AreOne spans) size one) (long ∙ size) order circular (subst (λ (ts : List (Option ℕ)). AreCircles ts spans order circular) its circles)
    (subst (λ (ts : List (Option ℕ)). (j : ℕ) → j < length spans → (slice_get circular j ≡ Some true) ↔ LeadsFor ts spans (length spans) j) its exactly)
    (replicate (length said) None) (length-replicate (length said) None) (none_yet (replicate (length said) None) (length said) refl) k in
    filled_so ∙ ap (λ (ss : List Said). set_led ss k) is
