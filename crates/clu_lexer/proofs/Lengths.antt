-- A text spells words of its own length alone.
use Rattle.std.proofs.Common.{◌≡◌, ◌∙◌, ℕ, suc, false, List, [], ◌∷◌, length, refl, ap, ◌==◌, ◌&&◌}
use Rattle.std.proofs.Math.Bool.{and-false}
use Rattle.std.specs.Char.{to_ascii_lowercase}
use Rattle.clu_lexer.specs.Symbols.{spells}

pub spells-other : (word text : List ℕ) → (length word ≡ length text → ⊥) → spells word text ≡ false
spells-other [] [] differ = absurd (differ refl)
spells-other [] (t ∷ text) differ = refl
spells-other (w ∷ word) [] differ = refl
spells-other (w ∷ word) (t ∷ text) differ =
    ap (λ b. (w == to_ascii_lowercase t) && b) (spells-other word text (λ e. differ (ap suc e)))
    ∙ and-false (w == to_ascii_lowercase t)
