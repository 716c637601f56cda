-- Fronts of texts.

use Rattle.std.proofs.Common.{◌≡◌, ℕ, zero, suc, ◌+◌, ◌-◌, ◌<◌, ◌≤◌, ◌⊎◌, ◌↔◌, Bool, true, false, IsTrue, IsFalse, List, [], ◌∷◌, ◌++◌, length, refl, sym, ap, ◌∙◌, arith, inl, inr, append_assoc, append-nil, length-append, take, drop, get_or}
use Rattle.std.proofs.lemmas.Bool.{false≢true}
use Rattle.std.proofs.lemmas.List.{append_cancel_left, nil_from_length}
use Rattle.std.proofs.Math.Seq.{take-length}
use Rattle.clu_asm.specs.Places.{IsFront}

pub front_all : (a : List ℕ) → IsFront a a
front_all a = ([], sym (append-nil a))

pub front_nil : (a : List ℕ) → IsFront [] a
front_nil a = (a, refl)

-- a front of a text is one of a longer text
pub front_more : (cut t u : List ℕ) → IsFront cut t → IsFront cut (t ++ u)
front_more cut t u f = (f.0 ++ u, ap (λ (x : List ℕ). x ++ u) f.1 ∙ append_assoc cut f.0 u)

-- a front of a front
pub front_of : (a b c : List ℕ) → IsFront a b → IsFront b c → IsFront a c
front_of a b c f g = (f.0 ++ g.0, g.1 ∙ ap (λ (x : List ℕ). x ++ g.0) f.1 ∙ append_assoc a f.0 g.0)

-- a front that goes on into a second text
pub front_past : (cut t left u : List ℕ) → cut ≡ t ++ left → IsFront left u → IsFront cut (t ++ u)
front_past cut t left u e f =
    (f.0, ap (λ (x : List ℕ). t ++ x) f.1 ∙ sym (append_assoc t left f.0) ∙ ap (λ (x : List ℕ). x ++ f.0) (sym e))

-- behind the same text
pub front_behind : (t cut u : List ℕ) → IsFront cut u → IsFront (t ++ cut) (t ++ u)
front_behind t cut u f = front_past (t ++ cut) t cut u refl f

pub front_cancel : (t cut u : List ℕ) → IsFront (t ++ cut) (t ++ u) → IsFront cut u
front_cancel t cut u f = (f.0, append_cancel_left t u (cut ++ f.0) (f.1 ∙ append_assoc t cut f.0))

-- a front of two texts ends in the first, or goes on into the second
pub front_split : (cut t u : List ℕ) → IsFront cut (t ++ u) → IsFront cut t ⊎ ((left : List ℕ) × (cut ≡ t ++ left) × IsFront left u)
front_split [] t u f = inl (front_nil t)
front_split (b ∷ cut) [] u f = inr (b ∷ cut, refl, f)
front_split (b ∷ cut) (c ∷ t) u f =
    let head : c ≡ b = cc (f.1) in
    let tail : t ++ u ≡ cut ++ f.0 = cc (f.1) in
    elim (front_split cut t u (f.0, tail)) [
      | inl g ↦ inl (g.0, ap (λ (x : ℕ). x ∷ t) head ∙ ap (λ (x : List ℕ). b ∷ x) g.1)
      | inr g ↦ inr (g.0, ap (λ (x : List ℕ). b ∷ x) g.1 ∙ ap (λ (x : ℕ). x ∷ (t ++ g.0)) (sym head), g.2)
    ]

pub front_length : (cut t : List ℕ) → IsFront cut t → length cut ≤ length t
front_length cut t f = omega (arith, length-append cut f.0, ap length f.1)

-- a front as long as the text
pub front_whole : (cut t : List ℕ) → IsFront cut t → length t ≤ length cut → cut ≡ t
front_whole cut t f le =
    let none : f.0 ≡ [] = nil_from_length f.0 (omega (arith, length-append cut f.0, ap length f.1, le)) in
    sym (append-nil cut) ∙ ap (λ (x : List ℕ). cut ++ x) (sym none) ∙ sym f.1

-- ---- tests

pub yes : {P : Type 0} → P → IsTrue true ↔ P
yes p = (λ t. p, λ q. refl)

pub no : {P : Type 0} → (P → ⊥) → IsTrue false ↔ P
no n = (λ t. absurd (false≢true t), λ p. absurd (n p))

pub both : {P Q R : Type 0} → P ↔ Q → Q ↔ R → P ↔ R
both f g = (λ p. g.0 (f.0 p), λ r. f.1 (g.1 r))

pub not_so : {P : Type 0} (r : Bool) → IsFalse r → IsTrue r ↔ P → P → ⊥
not_so r f i p = false≢true (sym f ∙ i.1 p)

pub neither : {P : Type 0} (r : Bool) → (IsTrue r → ⊥) → (P → ⊥) → IsTrue r ↔ P
neither r n m = (λ t. absurd (n t), λ p. absurd (m p))

-- ---- a list and its first item, as slices have them

pub in_two : {A : Type 0} (xs : List A) (d : A) → 1 ≤ length xs → xs ≡ get_or xs 0 d ∷ take (length xs - 1) (drop 1 xs)
in_two [] d h = absurd (omega (arith, h))
in_two {A} (x ∷ xs) d h =
    let n : length (x ∷ xs) - 1 ≡ length xs = omega arith in
    ap (λ (l : List A). x ∷ l) (sym (ap (λ (k : ℕ). take k xs) n ∙ take-length xs))
