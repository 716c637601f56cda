-- Nodes before one are before each later one.
use Rattle.std.proofs.Common.{ℕ, ◌<◌, ◌≤◌, List, [], ◌∷◌, arith}
use Rattle.std.specs.Prelude.{All}
use Rattle.std.proofs.lemmas.List.Elements.{All-nil, All-cons, All-head, All-tail}
use Rattle.clu_syntax.specs.Parts.{AreBefore}

pub before_more : (m n : ℕ) (cs : List ℕ) → m ≤ n → AreBefore m cs → AreBefore n cs
before_more m n [] l all = All-nil (λ c. c < n)
before_more m n (c ∷ cs) l all =
    let first : c < m = All-head (λ c. c < m) c cs all in
    All-cons (λ c. c < n) c cs (omega (arith, first, l)) (before_more m n cs l (All-tail (λ c. c < m) c cs all))
