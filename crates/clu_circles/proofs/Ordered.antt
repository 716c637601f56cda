-- A number that leads to straight ones alone comes into the order; the beginning and the end of the search.
use Rattle.std.proofs.Common.{◌≡◌, ◌∙◌, ℕ, suc, ◌+◌, ◌<◌, Bool, true, false, List, [], ◌∷◌, ◌++◌, length, map, set, replicate, Option, Some, refl, ap, sym, subst, inl, inr, arith, length-set}
use Rattle.std.specs.Prelude.{slice_get}
use Rattle.std.proofs.lemmas.Option.{none-some, same_Some, slice_get_within}
use Rattle.std.proofs.lemmas.List.{length-replicate}
use Rattle.std.proofs.lemmas.Bool.{cases_lt, cases_eq, true≢false}
use Rattle.clu_circles.specs.declared.states.Span.{Span}
use Rattle.clu_circles.specs.declared.states.State.{State}
use Rattle.clu_circles.specs.declared.states.State.TheVariants as state
use Rattle.clu_circles.specs.declared.states.Begun.{Begun}
use Rattle.clu_circles.specs.Circles.{Leads, AreCircles}
use Rattle.clu_circles.specs.Search.{IsSearch, IsOrdered, GoesOn, AreStraight, Fewer, left_in, is_circular}
use Rattle.clu_circles.proofs.Places.{set_here, set_there, set_cases, push_old, push_last, push_cases, of_many, map_there, map_from, map_length}
use Rattle.clu_circles.proofs.Marks.{new_begun, new_straight, new_circular, begun_straight, begun_circular, straight_circular, one_state, same_number, kept, left_set, straight_kept, straight_target}

-- what is straight stays so where another number becomes straight
still : (states : List State) (n k : ℕ) → slice_get states k ≡ Some state.Straight → slice_get (set states n state.Straight) k ≡ Some state.Straight
still states n k e = elim (cases_eq n k) [
  | inl same ↦ subst (λ (z : ℕ). slice_get (set states n state.Straight) z ≡ Some state.Straight) same (set_here states n state.Straight (subst (λ (z : ℕ). z < length states) (sym same) (slice_get_within states k state.Straight e)))
  | inr other ↦ set_there states n k state.Straight other ∙ e
]

module _ (targets : List (Option ℕ)) (spans : List Span) where
  on_top : (states : List State) (stack : List Begun) (top : Begun) → IsSearch targets spans states (stack ++ top ∷ []) → slice_get states top.number ≡ Some state.Begun
  on_top states stack top s = s.stacked (length stack) top (push_last stack top)

  pub top_inside : (states : List State) (stack : List Begun) (top : Begun) → IsSearch targets spans states (stack ++ top ∷ []) → top.number < length spans
  top_inside states stack top s =
      let size : length states ≡ length spans = s.size in
      let l : top.number < length states = slice_get_within states top.number state.Begun (on_top states stack top s) in
      omega (arith, size, l)

  pub finished : (states : List State) (stack : List Begun) (top : Begun) → IsSearch targets spans states (stack ++ top ∷ []) → IsSearch targets spans (set states top.number state.Straight) stack
  finished states stack top s =
      let on : slice_get states top.number ≡ Some state.Begun = on_top states stack top s in
      record {
        size = length-set states top.number state.Straight ∙ s.size;
        circles = λ k e. elim (set_cases states top.number k state.Straight state.Circular e) [
          | inl x ↦ absurd (straight_circular (sym x.1))
          | inr x ↦ let c = s.circles k x.1 in (c.0, c.1, kept states top.number c.0 state.Begun state.Circular state.Straight on c.2 begun_circular)
        ];
        begun = λ k e. elim (set_cases states top.number k state.Straight state.Begun e) [
          | inl x ↦ absurd (begun_straight x.1)
          | inr x ↦ let b = s.begun k x.1 in elim (push_cases stack top b.1 b.0 b.2) [
            | inl y ↦ (b.0, b.1, y.1, b.3)
            | inr y ↦ absurd (x.0 (ap (λ (z : Begun). z.number) y.1 ∙ b.3))
          ]
        ];
        stacked = λ j c e. set_there states top.number c.number state.Straight (λ same.
            let h : length stack ≡ j = s.apart (length stack) j top c (push_last stack top) (push_old stack top c j e) same in
            let l : j < length stack = slice_get_within stack j c e in
            omega (arith, h, l)) ∙ s.stacked j c (push_old stack top c j e);
        apart = λ i j b c e f. s.apart i j b c (push_old stack top b i e) (push_old stack top c j f);
        looked = λ j b span e f. let l = s.looked j b span (push_old stack top b j e) f in (l.0, straight_kept states (set states top.number state.Straight) targets span.from b.next (λ t x. still states top.number t x) l.1);
        linked = λ j b c e f. s.linked j b c (push_old stack top b j e) (push_old stack top c (suc j) f);
      }

  pub finished_order : (states : List State) (stack : List Begun) (top : Begun) (order : List ℕ) (span : Span) → IsSearch targets spans states (stack ++ top ∷ []) → IsOrdered targets spans states order → slice_get spans top.number ≡ Some span → AreStraight states targets top.next span.to →
      IsOrdered targets spans (set states top.number state.Straight) (order ++ top.number ∷ [])
  finished_order states stack top order span s o its all =
      let n : ℕ = top.number in
      let on : slice_get states n ≡ Some state.Begun = on_top states stack top s in
      let never : (p k : ℕ) → slice_get order p ≡ Some k → n ≡ k → ⊥ = λ p k e same. begun_straight (one_state states k state.Begun state.Straight (same_number states n k state.Begun same on) (o.straight p k e)) in
      let reach : (k t : ℕ) → n ≡ k → Leads targets spans k t → slice_get states t ≡ Some state.Straight = λ k t same lead.
      let own : slice_get spans n ≡ Some lead.span = ap (slice_get spans) same ∙ lead.its in
      let is : span ≡ lead.span = same_Some span lead.span (sym its ∙ own) in
      let l = s.looked (length stack) top lead.span (push_last stack top) own in
      let to : span.to ≡ lead.span.to = ap (λ (z : Span). z.to) is in
      let high : lead.place < lead.span.to = lead.before in
      elim (cases_lt lead.place top.next) [
        | inl less ↦ straight_target states targets lead.place t (l.1 lead.place lead.onward less) lead.there
        | inr more ↦ straight_target states targets lead.place t (all lead.place (omega (arith, more)) (omega (arith, to, high))) lead.there
      ] in
      record {
        listed = λ k e. elim (set_cases states n k state.Straight state.Straight e) [
          | inl x ↦ (length order, push_last order n ∙ ap (λ (z : ℕ). Some z) x.0)
          | inr x ↦ let p = o.listed k x.1 in (p.0, push_old order n k p.0 p.1)
        ];
        straight = λ p k e. elim (push_cases order n k p e) [
          | inl x ↦ still states n k (o.straight p k x.1)
          | inr x ↦ subst (λ (z : ℕ). slice_get (set states n state.Straight) z ≡ Some state.Straight) x.1 (set_here states n state.Straight (slice_get_within states n state.Begun on))
        ];
        after = λ p k t e lead. elim (push_cases order n k p e) [
          | inl x ↦ let q = o.after p k t x.1 lead in (q.0, q.1, push_old order n t q.0 q.2)
          | inr x ↦
              let q = o.listed t (reach k t x.1 lead) in
              let l : q.0 < length order = slice_get_within order q.0 t q.1 in
              let size : p ≡ length order = x.0 in
              (q.0, omega (arith, l, size), push_old order n t q.0 q.1)
        ];
        once = λ p q k e f. elim (push_cases order n k p e) [
          | inl x ↦ elim (push_cases order n k q f) [
            | inl y ↦ o.once p q k x.1 y.1
            | inr y ↦ absurd (never p k x.1 y.1)
          ]
          | inr x ↦ elim (push_cases order n k q f) [
            | inl y ↦ absurd (never q k y.1 x.1)
            | inr y ↦ x.0 ∙ sym y.0
          ]
        ];
      }

  pub finished_fewer : (states : List State) (n : ℕ) → Fewer states (set states n state.Straight)
  finished_fewer states n k e = elim (set_cases states n k state.Straight state.New e) [ inl x ↦ absurd (new_straight x.1) | inr x ↦ x.1 ]

  pub finished_less : (states : List State) (stack : List Begun) (top : Begun) → IsSearch targets spans states (stack ++ top ∷ []) → left_in (set states top.number state.Straight) < left_in states
  finished_less states stack top s =
      let left : left_in (set states top.number state.Straight) + 1 ≡ left_in states + 0 = left_set states top.number state.Begun state.Straight (on_top states stack top s) in
      omega (arith, left)

  -- the order stays where nothing else becomes straight
  pub order_kept : (old new : List State) (order : List ℕ) → IsOrdered targets spans old order → GoesOn old new → IsOrdered targets spans new order
  order_kept old new order o g = record {
    listed = λ k e. o.listed k (g.straight k e);
    straight = λ p k e. g.kept k (o.straight p k e);
    after = o.after;
    once = o.once;
  }

  -- and where a number begins that was new
  pub order_begun : (states : List State) (n : ℕ) (order : List ℕ) → slice_get states n ≡ Some state.New → IsOrdered targets spans states order → IsOrdered targets spans (set states n state.Begun) order
  order_begun states n order new o = record {
    listed = λ k e. elim (set_cases states n k state.Begun state.Straight e) [ inl x ↦ absurd (begun_straight (sym x.1)) | inr x ↦ o.listed k x.1 ];
    straight = λ p k e. kept states n k state.New state.Straight state.Begun new (o.straight p k e) new_straight;
    after = o.after;
    once = o.once;
  }

  -- ---- the beginning: all are new

  pub started : (states : List State) → states ≡ replicate (length spans) state.New → IsSearch targets spans states []
  started states all = record {
    size = ap (λ (z : List State). length z) all ∙ length-replicate (length spans) state.New;
    circles = λ k e. absurd (new_circular (sym (of_many (length spans) k state.New state.Circular (ap (λ (z : List State). slice_get z k) (sym all) ∙ e))));
    begun = λ k e. absurd (new_begun (sym (of_many (length spans) k state.New state.Begun (ap (λ (z : List State). slice_get z k) (sym all) ∙ e))));
    stacked = λ j b e. absurd (none-some b e);
    apart = λ i j b c e f same. absurd (none-some b e);
    looked = λ j b span e f. absurd (none-some b e);
    linked = λ j b c e f. absurd (none-some b e);
  }

  pub started_order : (states : List State) → states ≡ replicate (length spans) state.New → IsOrdered targets spans states []
  started_order states all = record {
    listed = λ k e. absurd (new_straight (sym (of_many (length spans) k state.New state.Straight (ap (λ (z : List State). slice_get z k) (sym all) ∙ e))));
    straight = λ p k e. absurd (none-some k e);
    after = λ p k t e lead. absurd (none-some k e);
    once = λ p q k e f. absurd (none-some k e);
  }

  -- ---- the end: none is new, and none is begun

  as_circular : (s : State) → is_circular s ≡ true → s ≡ state.Circular
  as_circular state.New e = absurd (true≢false (sym e))
  as_circular state.Begun e = absurd (true≢false (sym e))
  as_circular state.Straight e = absurd (true≢false (sym e))
  as_circular state.Circular e = refl

  in_order : (states : List State) (order : List ℕ) (k : ℕ) (s : State) → IsSearch targets spans states [] → IsOrdered targets spans states order → (slice_get states k ≡ Some state.New → ⊥) → slice_get states k ≡ Some s → is_circular s ≡ false → (p : ℕ) × (slice_get order p ≡ Some k)
  in_order states order k state.New s o old e f = absurd (old e)
  in_order states order k state.Begun s o old e f = let b = s.begun k e in absurd (none-some b.1 b.2)
  in_order states order k state.Straight s o old e f = o.listed k e
  in_order states order k state.Circular s o old e f = absurd (true≢false f)

  pub ended : (states : List State) (order : List ℕ) (circular : List Bool) → IsSearch targets spans states [] → IsOrdered targets spans states order → ((k : ℕ) → k < length spans → slice_get states k ≡ Some state.New → ⊥) → circular ≡ map is_circular states → AreCircles targets spans order circular
  ended states order circular s o seen are =
      let read : (k : ℕ) (b : Bool) → slice_get circular k ≡ Some b → (x : State) × (slice_get states k ≡ Some x) × (is_circular x ≡ b) = λ k b e. map_from is_circular states k b (ap (λ (z : List Bool). slice_get z k) (sym are) ∙ e) in
      let written : (k : ℕ) (x : State) → slice_get states k ≡ Some x → slice_get circular k ≡ Some (is_circular x) = λ k x e. ap (λ (z : List Bool). slice_get z k) are ∙ map_there is_circular states k x e in
      record {
        size = ap (λ (z : List Bool). length z) are ∙ map_length is_circular states ∙ s.size;
        circles = λ k e.
            let x = read k true e in
            let c = s.circles k (x.1 ∙ ap (λ (z : State). Some z) (as_circular x.0 x.2)) in
            (c.0, c.1, written c.0 state.Circular c.2);
        listed = λ k e.
            let x = read k false e in
            let l : k < length states = slice_get_within states k x.0 x.1 in
            let size : length states ≡ length spans = s.size in
            in_order states order k x.0 s o (seen k (omega (arith, l, size))) x.1 x.2;
        straight = λ p k e. written k state.Straight (o.straight p k e);
        after = o.after;
        once = o.once;
      }
