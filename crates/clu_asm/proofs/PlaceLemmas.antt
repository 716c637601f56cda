-- Where a byte first stands in a text.

use Rattle.std.proofs.Common.{◌≡◌, ℕ, zero, suc, ◌+◌, ◌-◌, ◌<◌, ◌≤◌, ◌==◌, ◌≢◌, ◌⊎◌, Bool, true, false, cond, List, [], ◌∷◌, ◌++◌, length, take, drop, refl, sym, ap, ◌∙◌, arith, inl, inr, length-append, length-drop, append_assoc}
use Rattle.std.proofs.lemmas.Bool.{eqb-true, cases_eq, ne_eqb}
use Rattle.std.proofs.lemmas.Bool.Decides.{Decides-eqb}
use Rattle.std.proofs.Math.Seq.{take-append_seam, take-length}
use Rattle.clu_asm.specs.Places.{place, before, after, IsFree}
use Rattle.clu_asm.specs.AssemblyText.{line}

place_cons : (mark b : ℕ) (rest : List ℕ) → place mark (b ∷ rest) ≡ cond (b == mark) 0 (suc (place mark rest))
unfolding place
place_cons mark b rest = refl

place_nil : (mark : ℕ) → place mark [] ≡ 0
unfolding place
place_nil mark = refl

same_byte : (b : ℕ) → (b == b) ≡ true
same_byte b = (Decides-eqb b b).1 refl

-- at the byte, and at another
place_here : (mark : ℕ) (rest : List ℕ) → place mark (mark ∷ rest) ≡ 0
place_here mark rest = place_cons mark mark rest ∙ rw (same_byte mark) refl

place_on : (mark b : ℕ) (rest : List ℕ) → b ≢ mark → place mark (b ∷ rest) ≡ suc (place mark rest)
place_on mark b rest n = place_cons mark b rest ∙ rw (ne_eqb b mark n) refl

-- a text with the byte in it is what stands before it, the byte, and what stands after it
pub place_splits : (mark : ℕ) (text : List ℕ) → place mark text < length text → text ≡ before mark text ++ mark ∷ after mark text
place_splits mark [] h = absurd (omega (arith, h))
place_splits mark (b ∷ rest) h = elim (cases_eq b mark) [
  | inl e ↦ (let at : place mark (b ∷ rest) ≡ 0 = rw e (place_here mark rest) in rw at (rw e refl))
  | inr n ↦
      let at : place mark (b ∷ rest) ≡ suc (place mark rest) = place_on mark b rest n in
      let inner = place_splits mark rest (omega (arith, at, h)) in
      let next : suc (place mark rest) + 1 ≡ suc (place mark rest + 1) = omega arith in
      rw (at, next) (ap (λ (l : List ℕ). b ∷ l) inner)
]

-- what stands before the first such byte has none
pub before_free : (mark : ℕ) (text : List ℕ) → place mark text ≤ length text → IsFree mark (before mark text)
before_free mark [] h = rw (place_nil mark) (place_nil mark)
before_free mark (b ∷ rest) h = elim (cases_eq b mark) [
  | inl e ↦ (let at : place mark (b ∷ rest) ≡ 0 = rw e (place_here mark rest) in rw at (place_nil mark))
  | inr n ↦
      let at : place mark (b ∷ rest) ≡ suc (place mark rest) = place_on mark b rest n in
      let inner = before_free mark rest (omega (arith, at, h)) in
      rw at (place_on mark b (take (place mark rest) rest) n ∙ ap suc inner)
]

-- in a text without such a byte, and then such a byte, that one is the first
pub place_after : (mark : ℕ) (text rest : List ℕ) → IsFree mark text → place mark (text ++ mark ∷ rest) ≡ length text
place_after mark [] rest h = place_here mark rest
place_after mark (b ∷ text) rest h = elim (cases_eq b mark) [
  | inl e ↦ (let at : place mark (b ∷ text) ≡ 0 = rw e (place_here mark text) in absurd (omega (arith, at, h)))
  | inr n ↦
      let at : place mark (b ∷ text) ≡ suc (place mark text) = place_on mark b text n in
      place_on mark b (text ++ mark ∷ rest) n ∙ ap suc (place_after mark text rest (omega (arith, at, h)))
]

pub free_nil : (mark : ℕ) → IsFree mark []
free_nil mark = place_nil mark

pub free_cons : (mark b : ℕ) (text : List ℕ) → b ≢ mark → IsFree mark text → IsFree mark (b ∷ text)
free_cons mark b text n h = place_on mark b text n ∙ ap suc h

pub free_append : (mark : ℕ) (text other : List ℕ) → IsFree mark text → IsFree mark other → IsFree mark (text ++ other)
free_append mark [] other h g = g
free_append mark (b ∷ text) other h g = elim (cases_eq b mark) [
  | inl e ↦ (let at : place mark (b ∷ text) ≡ 0 = rw e (place_here mark text) in absurd (omega (arith, at, h)))
  | inr n ↦
      let at : place mark (b ∷ text) ≡ suc (place mark text) = place_on mark b text n in
      free_cons mark b (text ++ other) n (free_append mark text other (omega (arith, at, h)) g)
]

drop_after : (text : List ℕ) (mark : ℕ) (rest : List ℕ) → drop (length text + 1) (text ++ mark ∷ rest) ≡ rest
drop_after [] mark rest = refl
drop_after (b ∷ text) mark rest = let e : length (b ∷ text) + 1 ≡ suc (length text + 1) = omega arith in rw e (drop_after text mark rest)

-- the two parts of a text with the byte in it
pub before_is : (mark : ℕ) (text rest : List ℕ) → IsFree mark text → before mark (text ++ mark ∷ rest) ≡ text
before_is mark text rest h = ap (λ (n : ℕ). take n (text ++ mark ∷ rest)) (place_after mark text rest h) ∙ take-append_seam text (mark ∷ rest)

pub after_is : (mark : ℕ) (text rest : List ℕ) → IsFree mark text → after mark (text ++ mark ∷ rest) ≡ rest
after_is mark text rest h = ap (λ (n : ℕ). drop (n + 1) (text ++ mark ∷ rest)) (place_after mark text rest h) ∙ drop_after text mark rest

drop_past : (text : List ℕ) → drop (length text + 1) text ≡ []
drop_past [] = refl
drop_past (b ∷ text) = let e : length (b ∷ text) + 1 ≡ suc (length text + 1) = omega arith in rw e (drop_past text)

-- the two parts of a text without it
pub before_none : (mark : ℕ) (text : List ℕ) → IsFree mark text → before mark text ≡ text
before_none mark text h = ap (λ (n : ℕ). take n text) h ∙ take-length text

pub after_none : (mark : ℕ) (text : List ℕ) → IsFree mark text → after mark text ≡ []
after_none mark text h = ap (λ (n : ℕ). drop (n + 1) text) h ∙ drop_past text

-- a first line, as the slices of a text have it
pub line_splits : (at : ℕ) (text : List ℕ) → at ≡ place 10 text → at < length text → text ≡ line (take at text) ++ take (length text - (at + 1)) (drop (at + 1) text)
line_splits at text e h =
    let all : take (length text - (at + 1)) (drop (at + 1) text) ≡ drop (at + 1) text = ap (λ (n : ℕ). take n (drop (at + 1) text)) (sym (length-drop (at + 1) text)) ∙ take-length (drop (at + 1) text) in
    let splits : text ≡ before 10 text ++ 10 ∷ after 10 text = place_splits 10 text (omega (arith, e, h)) in
    let split : text ≡ take at text ++ 10 ∷ drop (at + 1) text = rw (← e) at splits in
    rw all (split ∙ sym (append_assoc (take at text) (10 ∷ []) (drop (at + 1) text)))

pub line_free : (at : ℕ) (text : List ℕ) → at ≡ place 10 text → at < length text → IsFree 10 (take at text)
line_free at text e h = rw e (before_free 10 text (omega (arith, e, h)))
