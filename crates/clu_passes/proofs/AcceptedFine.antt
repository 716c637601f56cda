-- Of an accepted file no type is refused, and nothing is lost at its expressions, nor at its types but `cvt`.
use Rattle.std.proofs.Common.{◌≡◌, ◌∙◌, ℕ, zero, suc, ◌+◌, ◌<◌, ◌≤◌, ◌||◌, Bool, true, false, length, is_some, Option, Some, None, refl, sym, ap, arith}
use Rattle.std.specs.List.{range_with_len}
use Rattle.std.proofs.lemmas.Bool.{true≢false}
use Rattle.std.proofs.lemmas.Option.{none-some}
use Rattle.clu_base.specs.declared.rules.Rule.{Rule}
use Rattle.clu_syntax.specs.Kinds.{is_expression, is_type}
use Rattle.clu_checking.specs.Files.{File, kind_in}
use Rattle.clu_checking.specs.Refusals.{Fault, Walk, fault_at, first_among, first_on, heading_refusal, headings, is_no_type_at, refusal, refused_at, refused_by, rest}
use Rattle.clu_declares.proofs.Around.{there}
use Rattle.clu_passes.specs.Clear.{IsClear}
use Rattle.clu_passes.specs.Losing.{walk_of}
use Rattle.clu_passes.specs.Lost.{is_cvt_at, lost}
use Rattle.clu_passes.specs.Notes.{HaveParents}
use Rattle.clu_passes.specs.Trees.{IsFileOfTree}
use Rattle.clu_passes.proofs.HeadingsFine.{none_among}
use Rattle.clu_passes.proofs.LostNodes.{plain_itself}
use Rattle.clu_passes.proofs.NoCvt.{kept_there}
use Rattle.clu_passes.proofs.RefusedFaults.{refused_faulty}

module _ (f : File) where
  -- ---- no fault at any node

  -- what is told of no fault is that there is none
  none_first : (fault : ℕ → Option Rule) (a len : ℕ) → a + len ≤ length f.nodes → refused_at f (first_among fault (range_with_len a len)) ≡ None → first_among fault (range_with_len a len) ≡ None
  none_first fault a zero all e = refl
  none_first fault a (suc len) all e = by (fault a) refl e (none_first fault (a + 1) len (omega (arith, all)))
    where
      by : (o : Option Rule) → fault a ≡ o → refused_at f (elim o [ Some r ↦ Some (a, r) | None ↦ first_among fault (range_with_len (a + 1) len) ]) ≡ None
          → (refused_at f (first_among fault (range_with_len (a + 1) len)) ≡ None → first_among fault (range_with_len (a + 1) len) ≡ None)
          → ◌≡◌ {A = Option Fault} (elim (fault a) [ Some r ↦ Some (a, r) | None ↦ first_among fault (range_with_len (a + 1) len) ]) None
      by (Some r) is e later = let m = there f.nodes a (omega (arith, all)) in absurd (none-some (record { rule = r; place = m.0.place }) (sym e ∙ ap (refused_by f r) m.1))
      by None is e later = ap (λ (o : Option Rule). elim o [ Some r ↦ Some (a, r) | None ↦ first_among fault (range_with_len (a + 1) len) ]) is ∙ later e

  -- a file that is accepted has none in its headings
  pub accepted_headings : refusal f ≡ None → heading_refusal f ≡ None
  accepted_headings none = by (first_on f headings) refl
    where
      by : (o : Option Fault) → first_on f headings ≡ o → heading_refusal f ≡ None
      by None e = ap (refused_at f) e
      by (Some fault) e =
          ap (refused_at f) e
          ∙ sym (ap (λ (o : Option Fault). refused_at f (elim o [ Some found ↦ Some found | None ↦ first_on f rest ])) e)
          ∙ none

  accepted_rest : refusal f ≡ None → refused_at f (first_on f rest) ≡ None
  accepted_rest none =
      sym (ap (λ (o : Option Fault). refused_at f (elim o [ Some found ↦ Some found | None ↦ first_on f rest ])) (none_first (fault_at f headings) 0 (length f.nodes) (omega arith) (accepted_headings none)))
      ∙ none

  pub faultless : refusal f ≡ None → (w : Walk) (n : ℕ) → n < length f.nodes → fault_at f w n ≡ None
  faultless none headings n inside = none_among f (fault_at f headings) 0 (length f.nodes) (omega arith) (accepted_headings none) n (omega arith) (omega (arith, inside))
  faultless none rest n inside = none_among f (fault_at f rest) 0 (length f.nodes) (omega arith) (accepted_rest none) n (omega arith) (omega (arith, inside))

  pub accepted_clear : refusal f ≡ None → (n : ℕ) → n < length f.nodes → is_no_type_at f n ≡ false
  accepted_clear none n inside = by (is_no_type_at f n) refl
    where
      by : (b : Bool) → is_no_type_at f n ≡ b → is_no_type_at f n ≡ false
      by false is = is
      by true is = absurd (true≢false (sym (refused_faulty f n is) ∙ ap is_some (faultless none (walk_of f n) n inside)))

  -- ---- nothing is lost

  module _ (of : IsFileOfTree f) (parents : HaveParents f) (none : refusal f ≡ None) where
    pub accepted_kept : (n : ℕ) → n < length f.nodes → (is_expression (kind_in f n) || is_type (kind_in f n)) ≡ true → is_cvt_at f n ≡ false → lost f n ≡ false
    accepted_kept n inside const apart =
        let clear : IsClear f n = record {
          low = 0;
          from = record { own = omega arith; brackets = λ p up is. omega arith; above = λ p q up over is. omega arith };
          clear = λ m low less. accepted_clear none m (omega (arith, inside, less));
        } in
        kept_there f of parents n inside clear const apart (plain_itself f n (accepted_clear none n inside))
