-- The whole stack is circular.
use Rattle.std.proofs.Common.{◌≡◌, ◌∙◌, ℕ, suc, ◌<◌, false, List, [], ◌∷◌, ◌++◌, length, Option, Some, refl, ap, sym, subst, inl, inr, arith}
use Rattle.std.specs.Prelude.{slice_get}
use Rattle.std.proofs.lemmas.Option.{none-some, slice_get_within}
use Rattle.std.proofs.lemmas.Bool.{true≢false}
use Rattle.clu_circles.specs.declared.states.Span.{Span}
use Rattle.clu_circles.specs.declared.states.State.{State}
use Rattle.clu_circles.specs.declared.states.State.TheVariants as state
use Rattle.clu_circles.specs.declared.states.Begun.{Begun}
use Rattle.clu_circles.specs.Circles.{Leads}
use Rattle.clu_circles.specs.Search.{IsSearch, GoesOn, Opens, marked, left_in, is_straight}
use Rattle.clu_circles.proofs.Places.{push_cases, push_length, there}
use Rattle.clu_circles.proofs.Marks.{new_circular, begun_straight, begun_circular, straight_circular, one_state, same_number, left_closed, marked_length, marked_still, marked_hit, marked_from, marked_other, open_there}
use Rattle.clu_circles.proofs.Entering.{leads_there}

module _ (targets : List (Option ℕ)) (spans : List Span) where
  -- each of the stack becomes circular
  hit : (states : List State) (stack : List Begun) (j : ℕ) (b : Begun) → IsSearch targets spans states stack → slice_get stack j ≡ Some b → slice_get (marked states stack) b.number ≡ Some state.Circular
  hit states stack j b s e = marked_hit states stack j b e (slice_get_within states b.number state.Begun (s.stacked j b e))

  -- the target at which the search stands is circular too
  target_hit : (states : List State) (stack : List Begun) (t : ℕ) (t_state : State) → IsSearch targets spans states stack → slice_get states t ≡ Some t_state → (slice_get states t ≡ Some state.New → ⊥) → is_straight (slice_get states t) ≡ false → slice_get (marked states stack) t ≡ Some state.Circular
  target_hit states stack t state.New s e old found = absurd (old e)
  target_hit states stack t state.Begun s e old found = let b = s.begun t e in same_number (marked states stack) b.1.number t state.Circular b.3 (hit states stack b.0 b.1 s b.2)
  target_hit states stack t state.Straight s e old found = absurd (true≢false (sym (ap is_straight e) ∙ found))
  target_hit states stack t state.Circular s e old found = marked_still states stack t e

  -- each of the stack leads to something circular
  circle : (states : List State) (stack : List Begun) (top : Begun) (place t j : ℕ) (b : Begun) → IsSearch targets spans states (stack ++ top ∷ []) → Opens targets spans states top place t → t < length spans → (slice_get states t ≡ Some state.New → ⊥) →
      slice_get (stack ++ top ∷ []) j ≡ Some b → (u : ℕ) × Leads targets spans b.number u × (slice_get (marked states (stack ++ top ∷ [])) u ≡ Some state.Circular)
  circle states stack top place t j b s opens inside old e = elim (push_cases stack top b j e) [
    | inl x ↦
        let l : j < length stack = x.0 in
        let size : length (stack ++ top ∷ []) ≡ suc (length stack) = push_length stack top in
        let next = there (stack ++ top ∷ []) (suc j) (omega (arith, l, size)) in
        (next.0.number, s.linked j b next.0 e next.1, hit states (stack ++ top ∷ []) (suc j) next.0 s next.1)
    | inr x ↦
        let size : length states ≡ length spans = s.size in
        let one = there states t (omega (arith, size, inside)) in
        (t, subst (λ (z : Begun). Leads targets spans z.number t) x.1 (leads_there targets spans states stack top place t s opens), target_hit states (stack ++ top ∷ []) t one.0 s one.1 old (open_there states targets place t opens.opened.found).1)
  ]

  pub closed : (states : List State) (stack : List Begun) (top : Begun) (place t : ℕ) → IsSearch targets spans states (stack ++ top ∷ []) → Opens targets spans states top place t → t < length spans → (slice_get states t ≡ Some state.New → ⊥) →
      IsSearch targets spans (marked states (stack ++ top ∷ [])) []
  closed states stack top place t s opens inside old = record {
    size = marked_length states (stack ++ top ∷ []) ∙ s.size;
    circles = λ k e. elim (marked_from states (stack ++ top ∷ []) k state.Circular e) [
      | inl x ↦ let c = circle states stack top place t x.1 x.2 s opens inside old x.3 in (c.0, subst (λ (z : ℕ). Leads targets spans z c.0) x.4 c.1, c.2)
      | inr x ↦ let c = s.circles k x in (c.0, c.1, marked_still states (stack ++ top ∷ []) c.0 c.2)
    ];
    begun = λ k e. elim (marked_from states (stack ++ top ∷ []) k state.Begun e) [
      | inl x ↦ absurd (begun_circular x.0)
      | inr x ↦ let b = s.begun k x in absurd (begun_circular (one_state (marked states (stack ++ top ∷ [])) k state.Begun state.Circular e (same_number (marked states (stack ++ top ∷ [])) b.1.number k state.Circular b.3 (hit states (stack ++ top ∷ []) b.0 b.1 s b.2))))
    ];
    stacked = λ j b e. absurd (none-some b e);
    apart = λ i j b c e f same. absurd (none-some b e);
    looked = λ j b span e f. absurd (none-some b e);
    linked = λ j b c e f. absurd (none-some b e);
  }

  less : (states : List State) (stack : List Begun) (top : Begun) → IsSearch targets spans states (stack ++ top ∷ []) → left_in (marked states (stack ++ top ∷ [])) < left_in states
  less states [] top s = left_closed states top [] (s.stacked 0 top refl)
  less states (b ∷ stack) top s = left_closed states b (stack ++ top ∷ []) (s.stacked 0 b refl)

  pub closed_on : (states : List State) (stack : List Begun) (top : Begun) → IsSearch targets spans states (stack ++ top ∷ []) → GoesOn states (marked states (stack ++ top ∷ []))
  closed_on states stack top s = record {
    straight = λ k e. elim (marked_from states (stack ++ top ∷ []) k state.Straight e) [ inl x ↦ absurd (straight_circular x.0) | inr x ↦ x ];
    kept = λ k e. marked_other states (stack ++ top ∷ []) k state.Straight e (λ j b h same. begun_straight (one_state states k state.Begun state.Straight (same_number states b.number k state.Begun same (s.stacked j b h)) e));
    fewer = λ k e. elim (marked_from states (stack ++ top ∷ []) k state.New e) [ inl x ↦ absurd (new_circular x.0) | inr x ↦ x ];
    less = less states stack top s;
  }
