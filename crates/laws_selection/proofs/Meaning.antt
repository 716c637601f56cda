-- What an expression means, with the meanings of those that are bound as a list.
use Rattle.std.proofs.Common.{◌≡◌, ◌∙◌, ℕ, ◌+◌, ◌%◌, ◌^◌, List, [], ◌∷◌, ◌++◌, slice_get, refl, ap, ap₂}
use Rattle.clu_wir.specs.Plain.{Expr, Exprs}
use Rattle.clu_wir.specs.Plain as tree
use Rattle.clu_wir.specs.Value.{Gives, Raises, Stuck, Value, View, binds, by_truth, meant, of_option, op_word, then_word}

-- an expression with the words that are bound round it
abbrev pub Meant : Type 0
Meant = List ℕ → Value

-- values one after the other, then the last with their words bound
abbrev pub with_words : List Meant → List ℕ → List ℕ → Meant → Value
with_words [] bound words body = body words
with_words (v ∷ vs) bound words body = then_word (v bound) (λ w. with_words vs bound (words ++ w ∷ []) body)

abbrev mutual
  pub said : View → Expr → Meant
  said view (tree.slot n) bound = of_option (view.slot n)
  said view (tree.word n) bound = Gives n
  said view (tree.hole kind number) bound = of_option (view.hole kind number)
  said view (tree.load address bytes) bound = then_word (said view address bound) (λ a. of_option (view.word ((a + bytes) % 2 ^ 64)))
  said view (tree.byte address) bound = then_word (said view address bound) (λ a. of_option (view.byte a))
  said view (tree.binary o left right) bound = then_word (said view left bound) (λ a. then_word (said view right bound) (λ b. Gives (op_word o a b)))
  said view (tree.choice condition first other) bound = then_word (said view condition bound) (λ c. by_truth c (said view first bound) (said view other bound))
  said view (tree.check condition trap last) bound = then_word (said view condition bound) (λ c. by_truth c (said view last bound) (Raises trap))
  said view (tree.binding values body) bound = with_words (all_said view values) bound [] (said view body)
  said view (tree.bound number) bound = of_option (slice_get bound number)

  pub all_said : View → Exprs → List Meant
  all_said view tree.no_exprs = []
  all_said view (tree.expr_and e es) = said view e ∷ all_said view es

then_same : (x y : Value) (f g : ℕ → Value) → x ≡ y → ((n : ℕ) → f n ≡ g n) → then_word x f ≡ then_word y g
then_same x y f g e h = ap (λ (z : Value). then_word z f) e ∙ by y
  where
    by : (z : Value) → then_word z f ≡ then_word z g
    by (Gives n) = h n
    by (Raises t) = refl
    by Stuck = refl

truth_same : (c : ℕ) (x y z w : Value) → x ≡ z → y ≡ w → by_truth c x y ≡ by_truth c z w
truth_same c x y z w e f = ap₂ (by_truth c) e f

mutual
  unfolding meant binds

  pub said_is : (view : View) (e : Expr) (ws : List ℕ) → meant view e ws ≡ said view e ws
  said_is view (tree.slot n) ws = refl
  said_is view (tree.word n) ws = refl
  said_is view (tree.hole kind n) ws = refl
  said_is view (tree.load a bytes) ws = then_same (meant view a ws) (said view a ws) _ _ (said_is view a ws) (λ n. refl)
  said_is view (tree.byte a) ws = then_same (meant view a ws) (said view a ws) _ _ (said_is view a ws) (λ n. refl)
  said_is view (tree.binary o l r) ws =
      then_same (meant view l ws) (said view l ws) _ _ (said_is view l ws) (λ a. then_same (meant view r ws) (said view r ws) _ _ (said_is view r ws) (λ b. refl))
  said_is view (tree.choice c first other) ws =
      then_same (meant view c ws) (said view c ws) _ _ (said_is view c ws) (λ n. truth_same n (meant view first ws) (meant view other ws) (said view first ws) (said view other ws) (said_is view first ws) (said_is view other ws))
  said_is view (tree.check c trap p) ws =
      then_same (meant view c ws) (said view c ws) _ _ (said_is view c ws) (λ n. truth_same n (meant view p ws) (Raises trap) (said view p ws) (Raises trap) (said_is view p ws) refl)
  said_is view (tree.binding es e) ws = binds_is view es ws [] (meant view e) (said view e) (λ x. said_is view e x)
  said_is view (tree.bound n) ws = refl

  binds_is : (view : View) (es : Exprs) (ws new : List ℕ) (f g : Meant) → ((x : List ℕ) → f x ≡ g x) → binds view es ws new f ≡ with_words (all_said view es) ws new g
  binds_is view tree.no_exprs ws new f g h = h new
  binds_is view (tree.expr_and e es) ws new f g h = then_same (meant view e ws) (said view e ws) _ _ (said_is view e ws) (λ w. binds_is view es ws (new ++ w ∷ []) f g h)
