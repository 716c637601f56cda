-- Whole expressions.
use Rattle.std.proofs.Common.{◌≡◌, ◌∙◌, ℕ, ℤ, pos, negsuc, ◌+◌, ◌%◌, ◌^◌, ◌<◌, Bool, true, false, List, [], ◌∷◌, length, Option, Some, None, refl, ap, sym, subst, arith}
use Rattle.std.specs.Prelude.{◌&&◌, if◌then◌else◌, unwrap_or, int_le, int_lt}
use Rattle.std.specs.Int.{w64, cast_signed}
use Rattle.std.proofs.lemmas.Bool.Decides.{nat_tests}
use Rattle.std.proofs.lemmas.Int.{of_z-to_z}
use Rattle.clu_wir.specs.Plain.{Expr, Exprs}
use Rattle.clu_wir.specs.Plain as tree
use Rattle.clu_wir.specs.Costs.{known_words}
use Rattle.clu_wir.specs.Rooms.{all_words_of, plus}
use Rattle.clu_wir.specs.declared.expression.WOp.{WOp}
use Rattle.clu_wir.specs.declared.expression.WOp.TheVariants as operation
use Rattle.clu_wir.specs.declared.hole.HoleKind.{HoleKind}
use Rattle.clu_wir.specs.declared.trap.Trap.{Trap}
use Rattle.rv_machine.specs.Values.{sum, unsigned}
use Rattle.rv_select.specs.declared.operand.Scope.{Scope}
use Rattle.rv_select.specs.Combining.{small}
use Rattle.rv_select.specs.Evaluation.{Part, Sum, binary, part_of, parts_of, small_word, sum_with}
use Rattle.rv_select.specs.Written.{Written}
use Rattle.laws_selection.specs.Sized.{are_sized, is_sized}
use Rattle.clu_wir.specs.Value.{Gives, Raises, Stuck, Value, View, op_word, then_word}
use Rattle.laws_selection.proofs.Meaning.{Meant, all_said, said}
use Rattle.laws_selection.specs.Running.{Code}
use Rattle.laws_selection.specs.Evaluating.{Bounded, Traps}
use Rattle.laws_selection.proofs.Growing.{Stood, and_true}
use Rattle.laws_selection.proofs.Bounds.{op_small}
use Rattle.laws_selection.proofs.Known.{number_adds, numbers}
use Rattle.laws_selection.proofs.Immediate.{by_number, by_number_adds}
use Rattle.laws_selection.proofs.Parts.{Agrees, Good, adds_of, binary_good, bound_good, gives_of, slot_good, word_good}
use Rattle.laws_selection.proofs.Loads.{SumOf, Sums, byte_good, hole_good, load_good}
use Rattle.laws_selection.proofs.Checking.{Jumps, check_good, check_jumps}
use Rattle.laws_selection.proofs.Choosing.{choice_good}
use Rattle.laws_selection.proofs.Binding.{AllGood, within_good, within_jumps}
use Rattle.laws_selection.proofs.Conditions.{binary_jumps, plain_jumps}
use Rattle.laws_selection.proofs.Shorting.{choice_jumps}

small_is : (z y : ℤ) → small z ≡ Some y → (y ≡ z) × ((n : ℕ) → y ≡ negsuc n → n < 2048)
small_is z y e = by (int_le (negsuc 2047) z && int_lt z (pos 2048)) refl e
  where
    low : (z : ℤ) (n : ℕ) → (int_le (negsuc 2047) z && int_lt z (pos 2048)) ≡ true → z ≡ negsuc n → n < 2048
    low z n t is = let first : int_le (negsuc 2047) (negsuc n) ≡ true = subst (λ x. int_le (negsuc 2047) x ≡ true) is (and_true (int_le (negsuc 2047) z) (int_lt z (pos 2048)) t).0 in grind arith

    by : (c : Bool) → (int_le (negsuc 2047) z && int_lt z (pos 2048)) ≡ c → (if c then Some z else None) ≡ Some y → (y ≡ z) × ((n : ℕ) → y ≡ negsuc n → n < 2048)
    by true t e = let same : y ≡ z = ap (λ (o : Option ℤ). unwrap_or o z) (sym e) in (same, λ n is. low z n t (sym same ∙ is))
    by false t e = absurd (cc)

module _ (view : View) (image : Code) (base : ℕ) (W : Written) (hole : HoleKind → ℕ → ℕ) (stands : Stood W image base hole) (trap_address : Trap → ℕ) (few : length W.code < 2 ^ 32)
    (bounded : Bounded view) (traps : Traps hole trap_address) where
  abbrev Good' : Part → Meant → Type 0
  Good' = Good view image base W hole stands false trap_address

  abbrev Jumps' : Part → Meant → Type 0
  Jumps' = Jumps view image base W hole stands trap_address few

  -- an address to which a small number is added last
  module _ (o : WOp) (l r : Part) {ml mr : Meant} (gl : Good' l ml) (gr : Good' r mr) (g : Good' (binary o l r) (λ bound. then_word (ml bound) (λ a. then_word (mr bound) (λ b. Gives (op_word o a b))))) where
    abbrev SumOf' : Scope → Sum → Type 0
    SumOf' = SumOf view image base W hole stands false trap_address bounded (binary o l r) g

    sum_by : (sc : Scope) (k : Option ℕ) (y : ℤ) (b : Sum) → o ≡ operation.Add → r.known sc ≡ k → small_word k ≡ Some y → sum_with (Some y) l sc ≡ Some b → SumOf' sc b
    sum_by sc None y b add known e is = absurd (cc)
    sum_by sc (Some word) y b add known e is =
        let x = small_is (cast_signed w64 word) y e in
        subst (SumOf' sc) (ap (λ (q : Option Sum). unwrap_or q b) is) (record {
          inner = ml;
          sum_adds = λ w. adds_of view image base W hole stands false trap_address l gl sc w;
          sum_gives = λ bound w s scoped h f. gives_of view image base W hole stands false trap_address l gl sc bound w s scoped h f;
          so = λ bound s scoped. told bound (ml bound) (mr bound) refl (gr.known sc bound s word scoped known) (λ n q. gr.small bound n scoped.small q) x.0;
          least = x.1;
        })
      where
        word_is : (n : ℕ) → word ≡ n → n < 2 ^ 64 → y ≡ cast_signed w64 word → (a : ℕ) → op_word o a n ≡ sum a (unsigned y)
        word_is n same low is a = ap (λ (p : WOp). op_word p a n) add ∙ ap (λ m. sum a m) (sym (ap unsigned (is ∙ ap (cast_signed w64) same) ∙ of_z-to_z w64 n low))

        told : (bound : List ℕ) (p q : Value) → mr bound ≡ q → Agrees word q → ((n : ℕ) → q ≡ Gives n → n < 2 ^ 64) → y ≡ cast_signed w64 word →
            (c : Bool) × (then_word p (λ a. then_word q (λ b. Gives (op_word o a b))) ≡ then_word p (λ a. if c then Gives (sum a (unsigned y)) else Stuck))
        told bound p (Gives n) z a low is = (true, same_then p (λ a'. Gives (op_word o a' n)) (λ a'. Gives (sum a' (unsigned y))) (λ a'. ap Gives (word_is n a (low n refl) is a')))
          where
            same_then : (p : Value) (f h : ℕ → Value) → ((n : ℕ) → f n ≡ h n) → then_word p f ≡ then_word p h
            same_then (Gives n) f h e = e n
            same_then (Raises t) f h e = refl
            same_then Stuck f h e = refl
        told bound p (Raises t) z a low is = absurd a
        told bound p Stuck z a low is = (false, refl)

  binary_sums : (o : WOp) (l r : Part) {ml mr : Meant} (gl : Good' l ml) (gr : Good' r mr) (g : Good' (binary o l r) (λ bound. then_word (ml bound) (λ a. then_word (mr bound) (λ b. Gives (op_word o a b))))) → Sums view image base W hole stands false trap_address bounded (binary o l r) g
  binary_sums operation.Add l r gl gr g sc b e = by (small_word (r.known sc)) refl e
    where
      by : (k : Option ℤ) → small_word (r.known sc) ≡ k → sum_with k l sc ≡ Some b → SumOf view image base W hole stands false trap_address bounded (binary operation.Add l r) g sc b
      by None is e = absurd (cc)
      by (Some y) is e = sum_by operation.Add l r gl gr g sc (r.known sc) y b refl refl is e
  binary_sums _ l r gl gr g sc b e = absurd (cc)

  -- all that is said of an expression
  pub record Evaluates (p : Part) (m : Meant) : Type 0 where
    pub good : Good' p m
    pub jumps : Jumps' p m
    pub sums : Sums view image base W hole stands false trap_address bounded p good

  no_sums : (p : Part) {m : Meant} (g : Good' p m) → ((sc : Scope) → p.sum sc ≡ None) → Sums view image base W hole stands false trap_address bounded p g
  no_sums p g none sc b e = absurd (cc (none sc))

  mutual
    -- EVALUATION
    pub evaluates : (e : Expr) → is_sized e ≡ true → Evaluates (part_of e) (said view e)
    evaluates (tree.slot n) e =
        let g = slot_good view image base W hole stands false trap_address bounded n in
        record { good = g; jumps = plain_jumps view image base W hole stands trap_address few (part_of (tree.slot n)) g (λ sense t sc. refl); sums = no_sums (part_of (tree.slot n)) g (λ sc. refl) }
    evaluates (tree.word n) e =
        let g = word_good view image base W hole stands false trap_address n (known_words n) (grind (arith, nat_tests)) in
        record { good = g; jumps = plain_jumps view image base W hole stands trap_address few (part_of (tree.word n)) g (λ sense t sc. refl); sums = no_sums (part_of (tree.word n)) g (λ sc. refl) }
    evaluates (tree.hole k n) e =
        let g = hole_good view image base W hole stands false trap_address bounded k n in
        record { good = g; jumps = plain_jumps view image base W hole stands trap_address few (part_of (tree.hole k n)) g (λ sense t sc. refl); sums = no_sums (part_of (tree.hole k n)) g (λ sc. refl) }
    evaluates (tree.load a bytes) e =
        let x = evaluates a e in
        let g = load_good view image base W hole stands false trap_address bounded (part_of a) x.good x.sums bytes in
        record { good = g; jumps = plain_jumps view image base W hole stands trap_address few (part_of (tree.load a bytes)) g (λ sense t sc. refl); sums = no_sums (part_of (tree.load a bytes)) g (λ sc. refl) }
    evaluates (tree.byte a) e =
        let x = evaluates a e in
        let g = byte_good view image base W hole stands false trap_address bounded (part_of a) x.good in
        record { good = g; jumps = plain_jumps view image base W hole stands trap_address few (part_of (tree.byte a)) g (λ sense t sc. refl); sums = no_sums (part_of (tree.byte a)) g (λ sc. refl) }
    evaluates (tree.binary o l r) e =
        let is = and_true (is_sized l) (is_sized r) e in
        let x = evaluates l is.0 in
        let y = evaluates r is.1 in
        let g = binary_good view image base W hole stands false trap_address (numbers view image base W hole stands false) number_adds (by_number view image base W hole stands false trap_address) (by_number_adds view image base W hole stands false trap_address) op_small o (part_of l) (part_of r) x.good y.good in
        record {
          good = g;
          jumps = binary_jumps view image base W hole stands trap_address few o (part_of l) (part_of r) x.good y.good x.jumps y.jumps g;
          sums = binary_sums o (part_of l) (part_of r) x.good y.good g;
        }
    evaluates (tree.choice c first other) e =
        let is = and_true (is_sized c) (is_sized first && is_sized other) e in
        let sides = and_true (is_sized first) (is_sized other) is.1 in
        let x = evaluates c is.0 in
        let y = evaluates first sides.0 in
        let z = evaluates other sides.1 in
        let g = choice_good view image base W hole stands trap_address few (part_of c) (part_of first) (part_of other) x.good x.jumps y.good z.good in
        record { good = g; jumps = choice_jumps view image base W hole stands trap_address few (part_of c) (part_of first) (part_of other) x.good x.jumps y.good y.jumps z.good z.jumps g; sums = no_sums (part_of (tree.choice c first other)) g (λ sc. refl) }
    evaluates (tree.check c trap p) e =
        let is = and_true (is_sized c) (is_sized p) e in
        let x = evaluates c is.0 in
        let y = evaluates p is.1 in
        let g = check_good view image base W hole stands trap_address few traps (part_of c) trap x.good x.jumps (part_of p) y.good in
        record { good = g; jumps = check_jumps view image base W hole stands trap_address few traps (part_of c) trap x.good x.jumps (part_of p) y.good y.jumps; sums = no_sums (part_of (tree.check c trap p)) g (λ sc. refl) }
    evaluates (tree.binding values body) e =
        let is = and_true (are_sized values) (is_sized body) e in
        let gs = all_evaluate values is.0 in
        let y = evaluates body is.1 in
        let ps = parts_of values in
        let words = plus (all_words_of (Rattle.std.proofs.Common.map (λ (p : Part). p.words) ps)) (part_of body).words in
        let g = within_good view image base W hole stands trap_address few ps (all_said view values) gs (part_of body) y.good words in
        record { good = g; jumps = within_jumps view image base W hole stands trap_address few ps (all_said view values) gs (part_of body) y.good y.jumps words; sums = no_sums (part_of (tree.binding values body)) g (λ sc. refl) }
    evaluates (tree.bound n) e =
        let g = bound_good view image base W hole stands false trap_address n in
        record { good = g; jumps = plain_jumps view image base W hole stands trap_address few (part_of (tree.bound n)) g (λ sense t sc. refl); sums = no_sums (part_of (tree.bound n)) g (λ sc. refl) }

    all_evaluate : (es : Exprs) → are_sized es ≡ true → AllGood view image base W hole stands trap_address few (parts_of es) (all_said view es)
    all_evaluate tree.no_exprs e = tt
    all_evaluate (tree.expr_and x xs) e = let is = and_true (is_sized x) (are_sized xs) e in ((evaluates x is.0).good, all_evaluate xs is.1)
