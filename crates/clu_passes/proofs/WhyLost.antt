-- Why the value of a node is lost, where that of none of its children is: it is a word, or it names an equate that leads to a circle or in
-- which a type is refused.
use Rattle.std.proofs.Common.{◌≡◌, ◌∙◌, ◌⊎◌, ℕ, suc, ◌<◌, ◌||◌, Bool, true, false, List, [], ◌∷◌, length, inl, inr, refl, sym, ap}
use Rattle.std.specs.Prelude.{slice_get}
use Rattle.std.specs.List.{AllByRecursion}
use Rattle.std.proofs.lemmas.Bool.{true≢false}
use Rattle.clu_syntax.specs.Splits.{children_of}
use Rattle.clu_checking.specs.Files.{File, kind_in}
use Rattle.clu_checking.specs.Equates.{is_circular}
use Rattle.clu_checking.specs.Refusals.{is_bad_of, is_no_type_at, rules_of_types}
use Rattle.clu_base.specs.declared.rules.Rule.TheVariants as rule
use Rattle.clu_settle.specs.declared.meanings.Meaning.{Meaning}
use Rattle.clu_settle.specs.declared.meanings.Meaning.TheVariants as meaning
use Rattle.clu_settle.specs.Names.{meaning_in}
use Rattle.clu_settle.specs.Lost as lost
use Rattle.clu_settle.specs.Lost.{IsLost, is_source}
use Rattle.clu_passes.specs.Trees.{IsFileOfTree}
use Rattle.clu_passes.proofs.LostRefused.{AreNotLost, HasEquate, IsSideOf, NotLost, any_decided, bad_named, bad_refused, bad_there, both, circle_there, has_equate, meanings, one_step, refused_by}

module _ (f : File) (of : IsFileOfTree f) where
  -- the equate leads to a circle, or a type is refused in it
  abbrev pub IsOdd : ℕ → Type 0
  IsOdd e = (is_circular f e ≡ true) ⊎ ((is_circular f e ≡ false) × (is_bad_of f (rules_of_types f) e ≡ true))

  pub record NamesOdd (n : ℕ) : Type 0 where
    pub right : ℕ
    pub its : HasEquate f of n right
    pub why : IsOdd its.equate

  -- so a type is refused at the name
  pub odd_refused : (n : ℕ) → NamesOdd n → is_no_type_at f n ≡ true
  odd_refused n x = by x.why
    where
      by : IsOdd x.its.equate → is_no_type_at f n ≡ true
      by (inl circle) = refused_by f of n 2 rule.CircularEquate refl (circle_there f of (kind_in f n) n x.right x.its refl circle)
      by (inr bad) = bad_refused f of n (bad_there f of (kind_in f n) n x.right x.its refl (bad_named f of n x.right x.its bad.0 bad.1))

  odd_or_found : (e right : ℕ) → IsSideOf f of e right → IsOdd e ⊎ NotLost f of right
  odd_or_found e right side = by (is_circular f e) refl
    where
      by : (b : Bool) → is_circular f e ≡ b → IsOdd e ⊎ NotLost f of right
      by true is = inl (inl is)
      by false is = elim (any_decided f of e right side is refl) [
        | inl bad ↦ inl (inr (is, bad))
        | inr found ↦ inr found
      ]

  -- of an equate of which the right side is lost
  pub odd_equate : (e right : ℕ) → IsSideOf f of e right → IsLost f.nodes (meanings f of) right → IsOdd e
  odd_equate e right side gone = elim (odd_or_found e right side) [
    | inl odd ↦ odd
    | inr found ↦ absurd (true≢false (sym (gone found.0) ∙ found.1))
  ]

  all_found : (cs : List ℕ) → AllByRecursion (λ (c : ℕ). NotLost f of c) cs → AreNotLost f of cs
  all_found [] each = (0, refl)
  all_found (c ∷ cs) each = both f of (c ∷ []) cs (each.0.0, ap (λ (b : Bool). b || false) each.0.1) (all_found cs each.1)

  module _ (n : ℕ) (inside : n < length f.nodes) (found : AllByRecursion (λ (c : ℕ). NotLost f of c) (children_of (slice_get f.nodes n))) (gone : IsLost f.nodes (meanings f of) n) where
    sides : (m : Meaning) → meaning_in (slice_get (meanings f of) n) ≡ m → NamesOdd n ⊎ AreNotLost f of (lost.right_side m)
    sides (meaning.Equate right) e =
        let x : HasEquate f of n right = has_equate f of n right inside e in
        elim (odd_or_found x.equate right x.side_of) [
          | inl odd ↦ inl (record { right = right; its = x; why = odd })
          | inr one ↦ inr (one.0, ap (λ (b : Bool). b || false) one.1)
        ]
    sides meaning.Other e = inr (0, refl)
    sides _ e = inr (0, refl)

    pub why_lost : (is_source (slice_get f.nodes n) ≡ true) ⊎ NamesOdd n
    why_lost = by (is_source (slice_get f.nodes n)) refl
      where
        by : (b : Bool) → is_source (slice_get f.nodes n) ≡ b → (is_source (slice_get f.nodes n) ≡ true) ⊎ NamesOdd n
        by true is = inl is
        by false is = elim (sides (meaning_in (slice_get (meanings f of) n)) refl) [
          | inl x ↦ inr x
          | inr beside ↦
              let all : AreNotLost f of (lost.made_from f.nodes (meanings f of) n) = both f of (children_of (slice_get f.nodes n)) (lost.right_side (meaning_in (slice_get (meanings f of) n))) (all_found (children_of (slice_get f.nodes n)) found) beside in
              absurd (true≢false (sym (gone (suc all.0)) ∙ one_step f.nodes (meanings f of) all.0 n is all.1))
        ]
