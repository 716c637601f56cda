-- Fronts of entries: a front of a decimal is a decimal of a lesser number.

use Rattle.std.proofs.Common.{◌≡◌, ◌↔◌, ◌⊎◌, ℕ, zero, suc, ◌+◌, ◌/◌, ◌%◌, ◌^◌, ◌<◌, ◌≤◌, List, [], ◌∷◌, ◌++◌, length, codes, decimal, Bool, true, false, IsTrue, is_some, Option, Some, None, IfSome, refl, sym, ap, subst, ◌∙◌, arith, inl, inr, append-nil}
use Rattle.std.proofs.lemmas.Bool.{false≢true}
use Rattle.std.proofs.lemmas.Fmt.{decimal_by_steps, decimal_step, decimal_digit}
use Rattle.rv_isa.specs.Image.{max_words}
use Rattle.clu_asm.specs.Places.{IsFront}
use Rattle.clu_asm.specs.CutLines.{EntryBegins}
use Rattle.clu_asm.proofs.FrontLemmas.{front_all, front_more, front_split}

-- the fronts of a text, but for the empty one, are decimals of numbers up to n
abbrev HasLess : ℕ → List ℕ → Type 0
HasLess n ds = (b : ℕ) (cut : List ℕ) → IsFront (b ∷ cut) ds → (m : ℕ) × (m ≤ n) × (b ∷ cut ≡ decimal m)

abbrev Steps : ℕ → List ℕ → Type 0
Steps n ds = n < 2 ^ 64 → (ds ≡ decimal n) × HasLess n ds

front_one : (b c : ℕ) (cut : List ℕ) → IsFront (b ∷ cut) (c ∷ []) → b ∷ cut ≡ c ∷ []
front_one b c [] f = let same : c ≡ b = cc (f.1) in ap (λ (x : ℕ). x ∷ []) (sym same)
front_one b c (d ∷ cut) f = absurd (cc (f.1))

less_one : (n : ℕ) → n < 10 → Steps n ((48 + n) ∷ [])
less_one n lt = λ l. (sym (decimal_digit n lt), λ b cut f. (n, omega arith, front_one b (48 + n) cut f ∙ sym (decimal_digit n lt)))

less_more : (n : ℕ) (ds : List ℕ) → 10 ≤ n → Steps (n / 10) ds → Steps n (ds ++ (48 + n % 10) ∷ [])
less_more n ds ten p = λ l. (whole l, λ b cut f. by l b cut (front_split (b ∷ cut) ds ((48 + n % 10) ∷ []) f))
  where
    whole : n < 2 ^ 64 → ds ++ (48 + n % 10) ∷ [] ≡ decimal n
    whole l = ap (λ (x : List ℕ). x ++ (48 + n % 10) ∷ []) (p (omega (arith, l))).0 ∙ sym (decimal_step n ten l)

    past : n < 2 ^ 64 → (b : ℕ) (cut left : List ℕ) → b ∷ cut ≡ ds ++ left → IsFront left ((48 + n % 10) ∷ []) → (m : ℕ) × (m ≤ n) × (b ∷ cut ≡ decimal m)
    past l b cut [] e f = let short = (p (omega (arith, l))).1 b cut (subst (IsFront (b ∷ cut)) (e ∙ append-nil ds) (front_all (b ∷ cut))) in (short.0, omega (arith, short.1), short.2)
    past l b cut (c ∷ left) e f = (n, omega arith, e ∙ ap (λ (x : List ℕ). ds ++ x) (front_one c (48 + n % 10) left f) ∙ whole l)

    by : n < 2 ^ 64 → (b : ℕ) (cut : List ℕ) → IsFront (b ∷ cut) ds ⊎ ((left : List ℕ) × (b ∷ cut ≡ ds ++ left) × IsFront left ((48 + n % 10) ∷ [])) → (m : ℕ) × (m ≤ n) × (b ∷ cut ≡ decimal m)
    by l b cut (inl f) = let short = (p (omega (arith, l))).1 b cut f in (short.0, omega (arith, short.1), short.2)
    by l b cut (inr g) = past l b cut g.0 g.1 g.2

decimal_front : (n b : ℕ) (cut : List ℕ) → n < 2 ^ 64 → IsFront (b ∷ cut) (decimal n) → (m : ℕ) × (m ≤ n) × (b ∷ cut ≡ decimal m)
decimal_front n b cut lt f = ((decimal_by_steps Steps less_one less_more n lt) lt).1 b cut f

-- a cut entry ends in the word, or is one
pub entry_begun : (cut : List ℕ) → EntryBegins cut → IsFront cut (codes "entry ") ⊎ ((n : ℕ) × (n < max_words) × (cut ≡ codes "entry " ++ decimal n))
unfolding EntryBegins
entry_begun cut o = elim (front_split cut (codes "entry ") (decimal o.0) o.2) [
  | inl f ↦ inl f
  | inr g ↦ past g.0 g.1 g.2
]
  where
    past : (left : List ℕ) → cut ≡ codes "entry " ++ left → IsFront left (decimal o.0) → IsFront cut (codes "entry ") ⊎ ((n : ℕ) × (n < max_words) × (cut ≡ codes "entry " ++ decimal n))
    past [] e f = inl (subst (IsFront cut) e (front_all cut))
    past (b ∷ left) e f =
        let m = decimal_front o.0 b left (omega (arith, o.1)) f in
        inr (m.0, omega (arith, o.1, m.1), e ∙ ap (λ (x : List ℕ). codes "entry " ++ x) m.2)

pub entry_within : (cut : List ℕ) → IsFront cut (codes "entry ") → EntryBegins cut
unfolding EntryBegins
entry_within cut f = (0, omega arith, front_more cut (codes "entry ") (decimal 0) f)

entry_whole : (cut : List ℕ) (n : ℕ) → n < max_words → cut ≡ codes "entry " ++ decimal n → EntryBegins cut
unfolding EntryBegins
entry_whole cut n lt e = (n, lt, subst (IsFront cut) e (front_all cut))

pub entry_so : (cut : List ℕ) (o : Option ℕ) (r : Bool) → r ≡ is_some o → (IsFront cut (codes "entry ") → ⊥) → IfSome o (λ n. cut ≡ codes "entry " ++ decimal n) → IfSome o (λ n. n < max_words)
    → ((n : ℕ) → n < max_words → cut ≡ codes "entry " ++ decimal n → o ≡ Some n) → IsTrue r ↔ EntryBegins cut
entry_so cut None r e outside text bound only = (λ t. absurd (false≢true (sym e ∙ t)), λ b. absurd (back (entry_begun cut b)))
  where
    back : IsFront cut (codes "entry ") ⊎ ((n : ℕ) × (n < max_words) × (cut ≡ codes "entry " ++ decimal n)) → ⊥
    back (inl f) = outside f
    back (inr x) = let read = only x.0 x.1 x.2 in cc (read)
entry_so cut (Some n) r e outside text bound only = (λ t. entry_whole cut n bound text, λ b. e)
