-- Words side by side are put one after the other, and read so.
use Rattle.std.proofs.Common.{◌≡◌, ◌∙◌, ℕ, zero, suc, ◌+◌, ◌*◌, ◌<◌, ◌≤◌, ◌==◌, Bool, true, false, List, [], ◌∷◌, ◌++◌, length, take, get_or, Option, Some, None, refl, ap, sym, subst, arith}
use Rattle.std.specs.Prelude.{if◌then◌else◌}
use Rattle.std.proofs.lemmas.Bool.Decides.{nat_tests}
use Rattle.clu_word_meaning.specs.World.{also}
use Rattle.clu_flat_meaning.specs.Image.{Image}
use Rattle.clu_flat_meaning.specs.Machine.{put_all, put_at, word_below, words_below}
use Rattle.laws_selection.proofs.Reading.{some_same}

-- the last of them comes last
pub put_last : (to : ℕ) (ws : List ℕ) (w : ℕ) (stack : ℕ → ℕ) → put_all to (ws ++ w ∷ []) stack ≡ put_at (to + length ws) w (put_all to ws stack)
unfolding put_all
put_last to [] w stack = let same : to + 0 ≡ to = omega arith in ap (λ k. put_at k w stack) (sym same)
put_last to (v ∷ vs) w stack = let same : suc to + length vs ≡ to + suc (length vs) = omega arith in put_last (suc to) vs w (put_at to v stack) ∙ ap (λ k. put_at k w (put_all (suc to) vs (put_at to v stack))) same

pub take_last : (ws : List ℕ) (n : ℕ) → n < length ws → take (suc n) ws ≡ take n ws ++ get_or ws n 0 ∷ []
take_last [] n l = absurd (omega arith)
take_last (w ∷ ws) zero l = refl
take_last (w ∷ ws) (suc n) l = ap (λ (xs : List ℕ). w ∷ xs) (take_last ws n (omega (arith, l)))

pub take_count : (ws : List ℕ) (n : ℕ) → n ≤ length ws → length (take n ws) ≡ n
take_count ws zero l = refl
take_count [] (suc n) l = absurd (omega arith)
take_count (w ∷ ws) (suc n) l = ap suc (take_count ws n (omega (arith, l)))

pub take_whole : (ws : List ℕ) → take (length ws) ws ≡ ws
take_whole [] = refl
take_whole (w ∷ ws) = ap (λ (xs : List ℕ). w ∷ xs) (take_whole ws)

-- what is put from a number on leaves what is below
put_below : (b : Bool) (n to w : ℕ) (x : ℕ) → (n == to) ≡ b → n < to → (if b then w else x) ≡ x
put_below true n to w x e l = absurd (grind (arith, nat_tests, e, l))
put_below false n to w x e l = refl

pub all_below : (ws : List ℕ) (to n : ℕ) (stack : ℕ → ℕ) → n < to → put_all to ws stack n ≡ stack n
unfolding put_all
all_below [] to n stack l = refl
all_below (w ∷ ws) to n stack l = all_below ws (suc to) n (put_at to w stack) (omega (arith, l)) ∙ put_below (n == to) n to w (stack n) refl l

module _ (image : Image) (end : ℕ) (stack : ℕ → ℕ) where
  pub record Below (a n : ℕ) (ws : List ℕ) : Type 0 where
    pub count : length ws ≡ n
    pub each : (i : ℕ) → i < n → word_below image end stack (a + 8 * i) ≡ Some (get_or ws i 0)

  pub words_are : (n a : ℕ) (ws : List ℕ) → words_below image end stack a n ≡ Some ws → Below a n ws
  unfolding words_below
  words_are zero a ws e = subst (λ (xs : List ℕ). Below a 0 xs) (some_same [] ws e) (record { count = refl; each = λ i l. absurd (omega arith) })
  words_are (suc n) a ws e = by (words_are n (a + 8)) (word_below image end stack a) (words_below image end stack (a + 8) n) refl refl e
    where
      more : (w : ℕ) (vs : List ℕ) → word_below image end stack a ≡ Some w → Below (a + 8) n vs → Below a (suc n) (w ∷ vs)
      more w vs first rest = record { count = ap suc rest.count; each = each }
        where
          each : (i : ℕ) → i < suc n → word_below image end stack (a + 8 * i) ≡ Some (get_or (w ∷ vs) i 0)
          each zero l = let same : a + 8 * 0 ≡ a = omega arith in ap (word_below image end stack) same ∙ first
          each (suc i) l = let same : a + 8 * suc i ≡ a + 8 + 8 * i = omega arith in ap (word_below image end stack) same ∙ rest.each i (omega (arith, l))

      by : ((vs : List ℕ) → words_below image end stack (a + 8) n ≡ Some vs → Below (a + 8) n vs) → (o : Option ℕ) (p : Option (List ℕ)) → word_below image end stack a ≡ o → words_below image end stack (a + 8) n ≡ p → also o (λ w. also p (λ vs. Some (w ∷ vs))) ≡ Some ws → Below a (suc n) ws
      by rest None p q r e = absurd (cc)
      by rest (Some w) None q r e = absurd (cc)
      by rest (Some w) (Some vs) q r e = subst (λ (xs : List ℕ). Below a (suc n) xs) (some_same (w ∷ vs) ws e) (more w vs q (rest vs r))
