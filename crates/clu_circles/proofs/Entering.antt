-- A number comes onto the stack, or its place in its targets goes on.
use Rattle.std.proofs.Common.{◌≡◌, ◌∙◌, ℕ, suc, ◌+◌, ◌<◌, ◌≤◌, List, [], ◌∷◌, ◌++◌, length, set, Option, Some, refl, ap, sym, subst, inl, inr, arith, length-set}
use Rattle.std.specs.Prelude.{slice_get}
use Rattle.std.proofs.lemmas.Option.{none-some, same_Some, slice_get_within}
use Rattle.std.proofs.lemmas.Bool.{cases_lt}
use Rattle.clu_circles.specs.declared.states.Span.{Span}
use Rattle.clu_circles.specs.declared.states.State.{State}
use Rattle.clu_circles.specs.declared.states.State.TheVariants as state
use Rattle.clu_circles.specs.declared.states.Begun.{Begun}
use Rattle.clu_circles.specs.Circles.{Leads}
use Rattle.clu_circles.specs.Search.{IsSearch, GoesOn, Opens, IsOpenAt, left_in, begun_at}
use Rattle.clu_circles.proofs.Places.{set_here, set_cases, push_old, push_last, push_cases, push_length}
use Rattle.clu_circles.proofs.Marks.{new_begun, new_straight, new_circular, begun_straight, begun_circular, one_state, same_number, kept, left_set, straight_kept, open_there}

module _ (targets : List (Option ℕ)) (spans : List Span) where
  -- a new number, to which the last of the stack leads, comes onto it
  pub entered : (states : List State) (stack : List Begun) (n : ℕ) (span : Span) → IsSearch targets spans states stack → slice_get states n ≡ Some state.New → slice_get spans n ≡ Some span →
      ((j : ℕ) (b : Begun) → slice_get stack j ≡ Some b → suc j ≡ length stack → Leads targets spans b.number n) →
      IsSearch targets spans (set states n state.Begun) (stack ++ record { number = n; next = span.from } ∷ [])
  entered states stack n span s new its link =
      let one : Begun = record { number = n; next = span.from } in
      let fresh : (i : ℕ) (b : Begun) → slice_get stack i ≡ Some b → b.number ≡ n → ⊥ = λ i b e same. new_begun (one_state states n state.New state.Begun new (same_number states b.number n state.Begun same (s.stacked i b e))) in
      record {
        size = length-set states n state.Begun ∙ s.size;
        circles = λ k e. elim (set_cases states n k state.Begun state.Circular e) [
          | inl x ↦ absurd (begun_circular (sym x.1))
          | inr x ↦ let c = s.circles k x.1 in (c.0, c.1, kept states n c.0 state.New state.Circular state.Begun new c.2 new_circular)
        ];
        begun = λ k e. elim (set_cases states n k state.Begun state.Begun e) [
          | inl x ↦ (length stack, one, push_last stack one, x.0)
          | inr x ↦ let b = s.begun k x.1 in (b.0, b.1, push_old stack one b.1 b.0 b.2, b.3)
        ];
        stacked = λ j c e. elim (push_cases stack one c j e) [
          | inl x ↦ kept states n c.number state.New state.Begun state.Begun new (s.stacked j c x.1) new_begun
          | inr x ↦ subst (λ (z : Begun). slice_get (set states n state.Begun) z.number ≡ Some state.Begun) x.1 (set_here states n state.Begun (slice_get_within states n state.New new))
        ];
        apart = λ i j b c e f same. elim (push_cases stack one b i e) [
          | inl x ↦ elim (push_cases stack one c j f) [
            | inl y ↦ s.apart i j b c x.1 y.1 same
            | inr y ↦ absurd (fresh i b x.1 (same ∙ sym (ap (λ (z : Begun). z.number) y.1)))
          ]
          | inr x ↦ elim (push_cases stack one c j f) [
            | inl y ↦ absurd (fresh j c y.1 (sym same ∙ sym (ap (λ (z : Begun). z.number) x.1)))
            | inr y ↦ x.0 ∙ sym y.0
          ]
        ];
        looked = λ j b other e f. elim (push_cases stack one b j e) [
          | inl x ↦ let l = s.looked j b other x.1 f in (l.0, straight_kept states (set states n state.Begun) targets other.from b.next (λ t e. kept states n t state.New state.Straight state.Begun new e new_straight) l.1)
          | inr x ↦
              let is : span ≡ other = same_Some span other (sym its ∙ ap (λ (z : Begun). slice_get spans z.number) x.1 ∙ f) in
              let begins : other.from ≡ b.next = ap (λ (z : Span). z.from) (sym is) ∙ ap (λ (z : Begun). z.next) x.1 in
              (omega (arith, begins), λ i low high. absurd (omega (arith, begins, low, high)))
        ];
        linked = λ j b c e f. elim (push_cases stack one c (suc j) f) [
          | inl y ↦ elim (push_cases stack one b j e) [
            | inl x ↦ s.linked j b c x.1 y.1
            | inr x ↦ let l : j ≡ length stack = x.0 in let m : suc j < length stack = y.0 in absurd (omega (arith, l, m))
          ]
          | inr y ↦ elim (push_cases stack one b j e) [
            | inl x ↦ subst (λ (z : Begun). Leads targets spans b.number z.number) y.1 (link j b x.1 y.0)
            | inr x ↦ let l : j ≡ length stack = x.0 in let m : suc j ≡ length stack = y.0 in absurd (omega (arith, l, m))
          ]
        ];
      }

  pub begins : (states : List State) (n : ℕ) (span : Span) → IsSearch targets spans states [] → slice_get states n ≡ Some state.New → slice_get spans n ≡ Some span → IsSearch targets spans (set states n state.Begun) ([] ++ begun_at n (slice_get spans n) ∷ [])
  begins states n span s new its =
      subst (λ (z : Option Span). IsSearch targets spans (set states n state.Begun) ([] ++ begun_at n z ∷ [])) (sym its)
      (entered states [] n span s new its (λ j b e size. absurd (none-some b e)))

  -- the last of the stack has looked at its targets up to a place
  pub moved : (states : List State) (stack : List Begun) (top : Begun) (span : Span) (place t : ℕ) → IsSearch targets spans states (stack ++ top ∷ []) → slice_get spans top.number ≡ Some span → IsOpenAt states targets top.next span.to place t →
      IsSearch targets spans states (stack ++ record { number = top.number; next = place } ∷ [])
  moved states stack top span place t s its opened =
      let now : Begun = record { number = top.number; next = place } in
      let before : (i : ℕ) (c : Begun) → slice_get (stack ++ now ∷ []) i ≡ Some c → (d : Begun) × (slice_get (stack ++ top ∷ []) i ≡ Some d) × (d.number ≡ c.number) = λ i c e. elim (push_cases stack now c i e) [
        | inl x ↦ (c, push_old stack top c i x.1, refl)
        | inr x ↦ (top, ap (slice_get (stack ++ top ∷ [])) x.0 ∙ push_last stack top, ap (λ (z : Begun). z.number) x.1)
      ] in
      record {
        size = s.size;
        circles = s.circles;
        begun = λ k e. let b = s.begun k e in elim (push_cases stack top b.1 b.0 b.2) [
          | inl x ↦ (b.0, b.1, push_old stack now b.1 b.0 x.1, b.3)
          | inr x ↦ (length stack, now, push_last stack now, ap (λ (z : Begun). z.number) x.1 ∙ b.3)
        ];
        stacked = λ j c e. let d = before j c e in same_number states d.0.number c.number state.Begun d.2 (s.stacked j d.0 d.1);
        apart = λ i j b c e f same. let x = before i b e in let y = before j c f in s.apart i j x.0 y.0 x.1 y.1 (x.2 ∙ same ∙ sym y.2);
        looked = λ j b other e f. elim (push_cases stack now b j e) [
          | inl x ↦ s.looked j b other (push_old stack top b j x.1) f
          | inr x ↦
              let l = s.looked (length stack) top other (push_last stack top) (ap (λ (z : Begun). slice_get spans z.number) x.1 ∙ f) in
              let first : other.from ≤ top.next = l.0 in
              let next : place ≡ b.next = ap (λ (z : Begun). z.next) x.1 in
              let on : top.next ≤ place = opened.onward in (
                omega (arith, first, next, on),
                λ i low high. elim (cases_lt i top.next) [
                  | inl less ↦ l.1 i low less
                  | inr more ↦ opened.straight i (omega (arith, more)) (omega (arith, high, next))
                ],
              )
        ];
        linked = λ j b c e f. let x = before j b e in let y = before (suc j) c f in
            subst (λ (z : ℕ). Leads targets spans z c.number) x.2 (subst (λ (z : ℕ). Leads targets spans x.0.number z) y.2 (s.linked j x.0 y.0 x.1 y.1));
      }

  -- the target at which the search of the top stands is one to which it leads
  pub leads_there : (states : List State) (stack : List Begun) (top : Begun) (place t : ℕ) → IsSearch targets spans states (stack ++ top ∷ []) → Opens targets spans states top place t → Leads targets spans top.number t
  leads_there states stack top place t s opens =
      let l = s.looked (length stack) top opens.span (push_last stack top) opens.its in
      let first : opens.span.from ≤ top.next = l.0 in
      let on : top.next ≤ place = opens.opened.onward in
      record { span = opens.span; place = place; its = opens.its; onward = omega (arith, first, on); before = opens.opened.before; there = (open_there states targets place t opens.opened.found).0 }

  pub deeper : (states : List State) (stack : List Begun) (top : Begun) (place t : ℕ) (span : Span) → IsSearch targets spans states (stack ++ top ∷ []) → Opens targets spans states top place t → slice_get states t ≡ Some state.New → slice_get spans t ≡ Some span →
      IsSearch targets spans (set states t state.Begun) ((stack ++ record { number = top.number; next = place } ∷ []) ++ begun_at t (slice_get spans t) ∷ [])
  deeper states stack top place t span s opens new its =
      let now : Begun = record { number = top.number; next = place } in
      let lead : Leads targets spans top.number t = leads_there states stack top place t s opens in
      subst (λ (z : Option Span). IsSearch targets spans (set states t state.Begun) ((stack ++ now ∷ []) ++ begun_at t z ∷ [])) (sym its)
      (entered states (stack ++ now ∷ []) t span (moved states stack top opens.span place t s opens.its opens.opened) new its
      (λ j b e size. elim (push_cases stack now b j e) [
        | inl x ↦ let l : j < length stack = x.0 in let m : length (stack ++ now ∷ []) ≡ suc (length stack) = push_length stack now in absurd (omega (arith, l, m, size))
        | inr x ↦ subst (λ (z : Begun). Leads targets spans z.number t) x.1 lead
      ]))

  pub deeper_on : (states : List State) (t : ℕ) → slice_get states t ≡ Some state.New → GoesOn states (set states t state.Begun)
  deeper_on states t new =
      let left : left_in (set states t state.Begun) + 2 ≡ left_in states + 1 = left_set states t state.New state.Begun new in
      record {
        straight = λ k e. elim (set_cases states t k state.Begun state.Straight e) [ inl x ↦ absurd (begun_straight (sym x.1)) | inr x ↦ x.1 ];
        kept = λ k e. kept states t k state.New state.Straight state.Begun new e new_straight;
        fewer = λ k e. elim (set_cases states t k state.Begun state.New e) [ inl x ↦ absurd (new_begun x.1) | inr x ↦ x.1 ];
        less = omega (arith, left);
      }
