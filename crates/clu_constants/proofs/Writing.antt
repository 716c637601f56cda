-- The text of a place, written part by part.
use Rattle.std.proofs.Common.{◌≡◌, ◌<◌, ◌∙◌, ℕ, ◌+◌, All, List, [], ◌∷◌, ◌++◌, length, append_assoc, ap, sym, arith}
use Rattle.std.proofs.lemmas.List.Elements.{All-push}
use Rattle.std.proofs.lemmas.List.Sums.{fold-append}
use Rattle.clu_base.specs.declared.constants.Const.{Const}
use Rattle.clu_constants.proofs.Listed.{length_both}
use Rattle.clu_constants.specs.Held.{HasBytes, text_at, text_left, steps_at, steps_left}

module _ (constants : List Const) where
  pub left_push : (places : List ℕ) (p : ℕ) → text_left constants (places ++ p ∷ []) ≡ text_at constants p ++ text_left constants places
  left_push places p = fold-append (λ text place. text_at constants place ++ text) [] places (p ∷ [])

  pub steps_push : (places : List ℕ) (p : ℕ) → steps_left constants (places ++ p ∷ []) ≡ steps_left constants places + steps_at constants p
  steps_push places p = fold-append (λ steps place. steps + steps_at constants place) 0 places (p ∷ [])

  -- a place whose text is that of two
  module _ (next a b : ℕ) (is : text_at constants next ≡ text_at constants a ++ text_at constants b) (some_a : HasBytes constants a) (some_b : HasBytes constants b) where
    pub two_left : (left : List ℕ) → text_left constants (left ++ b ∷ [] ++ a ∷ []) ≡ text_at constants next ++ text_left constants left
    two_left left =
        left_push (left ++ b ∷ []) a ∙ ap (λ (l : List ℕ). text_at constants a ++ l) (left_push left b)
        ∙ sym (append_assoc (text_at constants a) (text_at constants b) (text_left constants left)) ∙ ap (λ (l : List ℕ). l ++ text_left constants left) (sym is)

    pub two_fewer : (left : List ℕ) → steps_left constants (left ++ b ∷ [] ++ a ∷ []) < steps_left constants left + steps_at constants next
    two_fewer left =
        omega (
          arith,
          steps_push (left ++ b ∷ []) a,
          steps_push left b,
          ap {B = ℕ} length is,
          length_both (text_at constants a) (text_at constants b),
          some_a,
          some_b,
        )

    pub two_some : (left : List ℕ) → All (HasBytes constants) left → All (HasBytes constants) (left ++ b ∷ [] ++ a ∷ [])
    two_some left all = All-push (HasBytes constants) (left ++ b ∷ []) a (All-push (HasBytes constants) left b all some_b) some_a

  pub one_fewer : (next steps : ℕ) → HasBytes constants next → steps < steps + steps_at constants next
  one_fewer next steps some = omega (arith, some)
