-- An expression that names slots of a frame alone means the same where no others are seen.
use Rattle.std.proofs.Common.{◌≡◌, ◌∙◌, ℕ, ◌+◌, ◌%◌, ◌^◌, true, List, [], ◌∷◌, ◌++◌, Option, refl, ap, ap₂}
use Rattle.std.specs.Prelude.{◌&&◌, nat_lt}
use Rattle.clu_wir.specs.Plain.{Expr, Exprs}
use Rattle.clu_wir.specs.Plain as tree
use Rattle.clu_wir.specs.Value.{Gives, Raises, Stuck, Value, View, binds, by_truth, meant, of_option, op_word, then_word}
use Rattle.laws_selection.specs.Fitting.{are_inside, is_inside}
use Rattle.laws_selection.proofs.Growing.{and_true}

then_same : (x y : Value) (f g : ℕ → Value) → x ≡ y → ((n : ℕ) → f n ≡ g n) → then_word x f ≡ then_word y g
then_same x y f g e h = ap (λ (z : Value). then_word z f) e ∙ by y
  where
    by : (z : Value) → then_word z f ≡ then_word z g
    by (Gives n) = h n
    by (Raises t) = refl
    by Stuck = refl

module _ (v : View) (slots : ℕ → Option ℕ) (frame : ℕ) (same : (n : ℕ) → nat_lt n frame ≡ true → v.slot n ≡ slots n) where
  abbrev u : View
  u = record v { slot = slots }

  mutual
    unfolding meant binds

    pub inside_same : (e : Expr) (ws : List ℕ) → is_inside frame e ≡ true → meant v e ws ≡ meant u e ws
    inside_same (tree.slot n) ws i = ap of_option (same n i)
    inside_same (tree.word w) ws i = refl
    inside_same (tree.hole kind number) ws i = refl
    inside_same (tree.load e bytes) ws i = then_same (meant v e ws) (meant u e ws) (λ a. of_option (v.word ((a + bytes) % 2 ^ 64))) (λ a. of_option (v.word ((a + bytes) % 2 ^ 64))) (inside_same e ws i) (λ n. refl)
    inside_same (tree.byte e) ws i = then_same (meant v e ws) (meant u e ws) (λ a. of_option (v.byte a)) (λ a. of_option (v.byte a)) (inside_same e ws i) (λ n. refl)
    inside_same (tree.binary o left right) ws i =
        let both = and_true (is_inside frame left) (is_inside frame right) i in
        then_same (meant v left ws) (meant u left ws) (λ a. then_word (meant v right ws) (λ b. Gives (op_word o a b))) (λ a. then_word (meant u right ws) (λ b. Gives (op_word o a b))) (inside_same left ws both.0)
        (λ a. then_same (meant v right ws) (meant u right ws) (λ b. Gives (op_word o a b)) (λ b. Gives (op_word o a b)) (inside_same right ws both.1) (λ n. refl))
    inside_same (tree.choice e first other) ws i =
        let both = and_true (is_inside frame e) (is_inside frame first && is_inside frame other) i in
        let sides = and_true (is_inside frame first) (is_inside frame other) both.1 in
        then_same (meant v e ws) (meant u e ws) (λ c. by_truth c (meant v first ws) (meant v other ws)) (λ c. by_truth c (meant u first ws) (meant u other ws)) (inside_same e ws both.0)
        (λ c. ap₂ (by_truth c) (inside_same first ws sides.0) (inside_same other ws sides.1))
    inside_same (tree.check e trap last) ws i =
        let both = and_true (is_inside frame e) (is_inside frame last) i in
        then_same (meant v e ws) (meant u e ws) (λ c. by_truth c (meant v last ws) (Raises trap)) (λ c. by_truth c (meant u last ws) (Raises trap)) (inside_same e ws both.0)
        (λ c. ap (λ (x : Value). by_truth c x (Raises trap)) (inside_same last ws both.1))
    inside_same (tree.binding es e) ws i =
        let both = and_true (are_inside frame es) (is_inside frame e) i in
        binds_same es ws [] (meant v e) (meant u e) both.0 (λ xs. inside_same e xs both.1)
    inside_same (tree.bound n) ws i = refl

    binds_same : (es : Exprs) (ws new : List ℕ) (f g : List ℕ → Value) → are_inside frame es ≡ true → ((xs : List ℕ) → f xs ≡ g xs) → binds v es ws new f ≡ binds u es ws new g
    binds_same tree.no_exprs ws new f g i h = h new
    binds_same (tree.expr_and e es) ws new f g i h =
        let both = and_true (is_inside frame e) (are_inside frame es) i in
        then_same (meant v e ws) (meant u e ws) (λ w. binds v es ws (new ++ w ∷ []) f) (λ w. binds u es ws (new ++ w ∷ []) g) (inside_same e ws both.0)
        (λ w. binds_same es ws (new ++ w ∷ []) f g both.1 h)
