-- Expressions as conditions: operations, and choices that are a conjunction or a disjunction.
use Rattle.std.proofs.Common.{◌≡◌, ◌∙◌, ◌⊎◌, inl, inr, ℕ, ◌^◌, ◌<◌, ◌==◌, Bool, true, false, not, List, length, slice_get, Option, Some, None, refl, ap, sym, subst, arith}
use Rattle.std.specs.Prelude.{if◌then◌else◌, ◌&&◌, ◌||◌, bit_xor}
use Rattle.std.specs.Int.{from_bool}
use Rattle.std.proofs.lemmas.Bool.Decides.{nat_tests}
use Rattle.std.proofs.lemmas.Bool.{eqb-true}
use Rattle.clu_wir.specs.declared.expression.WOp.{WOp}
use Rattle.clu_wir.specs.declared.expression.WOp.TheVariants as operation
use Rattle.clu_wir.specs.declared.hole.HoleKind.{HoleKind}
use Rattle.clu_wir.specs.declared.trap.Trap.{Trap}
use Rattle.rv_machine.specs.State.{State}
use Rattle.rv_select.specs.declared.conditions.Comparison.{Comparison}
use Rattle.rv_select.specs.declared.conditions.Target.{Target}
use Rattle.rv_select.specs.declared.knowing.Way.{Way}
use Rattle.rv_select.specs.declared.knowing.Way.TheVariants as way
use Rattle.rv_select.specs.declared.operand.Operand.{Operand}
use Rattle.rv_select.specs.declared.operand.Scope.{Scope}
use Rattle.rv_select.specs.Evaluation.{Part, at_of, binary, binary_plain, compare_onto, is_comparison, is_known, is_opposite, is_told, is_word, jump_by, onto_of, operands_onto, plain_jump, right_scope, same, way_of}
use Rattle.rv_select.specs.Written.{Onto, Written}
use Rattle.clu_wir.specs.Value.{Gives, Raises, Stuck, Value, View, op_word, then_word}
use Rattle.laws_selection.proofs.Meaning.{Meant}
use Rattle.laws_selection.specs.Running.{Code}
use Rattle.laws_selection.specs.Growing.{Adds, Front}
use Rattle.laws_selection.specs.Evaluating.{Gave, Here, Outcome, Raised, Scoped, Turned, Went, is_so}
use Rattle.laws_selection.proofs.Running.{done_same, done_then, reaches_same, reaches_then}
use Rattle.laws_selection.proofs.Growing.{Stood, adds_same, adds_then, front_adds}
use Rattle.laws_selection.proofs.Combining.{Numbers, done_scope, holds_done}
use Rattle.laws_selection.proofs.Jumping.{IsComparison}
use Rattle.laws_selection.proofs.Known.{number_adds, numbers}
use Rattle.laws_selection.proofs.Parts.{Agrees, Good, adds_of, gives_of, raised_in, scoped_then}
use Rattle.laws_selection.proofs.Checking.{Jumps, compared_adds, compared_goes, jump_of_adds, plain_adds, plain_turns, turns_of}

and_true : (a b : Bool) → (a && b) ≡ true → (a ≡ true) × (b ≡ true)
and_true true b e = (refl, e)
and_true false b e = absurd (cc)

or_true : (a b : Bool) → (a || b) ≡ true → (a ≡ true) ⊎ (b ≡ true)
or_true true b e = inl refl
or_true false b e = inr e

known_word : (k : Option ℕ) (word : ℕ) → is_word k word ≡ true → k ≡ Some word
known_word None word e = absurd (cc)
known_word (Some n) word e = ap Some (eqb-true n word e)

so_bool : (b : Bool) → is_so (from_bool b) ≡ b
so_bool true = refl
so_bool false = refl

two : (a : ℕ) → a < 2 → (a ≡ 0) ⊎ (a ≡ 1)
two a h = grind arith

same_not : (x y : Bool) → same (not x) y ≡ same x (not y)
same_not true true = refl
same_not true false = refl
same_not false true = refl
same_not false false = refl

equal_zero : (a : ℕ) (sense : Bool) → same (not sense) (is_so a) ≡ same sense (is_so (op_word operation.Equal a 0))
equal_zero a sense = same_not sense (is_so a) ∙ ap (same sense) (by (a == 0) ∙ sym (so_bool (a == 0)))
  where
    by : (b : Bool) → not (not b) ≡ b
    by true = refl
    by false = refl

xor_one : (a : ℕ) (sense : Bool) → a < 2 → same (not sense) (is_so a) ≡ same sense (is_so (op_word operation.Xor a 1))
xor_one a sense h = by (two a h)
  where
    by : (a ≡ 0) ⊎ (a ≡ 1) → same (not sense) (is_so a) ≡ same sense (is_so (bit_xor a 1))
    by (inl e) = subst (λ n. same (not sense) (is_so n) ≡ same sense (is_so (bit_xor n 1))) (sym e) (same_not sense false)
    by (inr e) = subst (λ n. same (not sense) (is_so n) ≡ same sense (is_so (bit_xor n 1))) (sym e) (same_not sense true)

zero_equal : (b : ℕ) (sense : Bool) → same (same sense false) (is_so b) ≡ same sense (is_so (op_word operation.Equal 0 b))
zero_equal b sense = by sense (0 == b) (b == 0) (grind (arith, nat_tests))
  where
    by : (x c d : Bool) → c ≡ d → same (same x false) (not d) ≡ same x (is_so (from_bool c))
    by true true d e = ap (λ (y : Bool). same false (not y)) (sym e)
    by true false d e = ap (λ (y : Bool). same false (not y)) (sym e)
    by false true d e = ap (λ (y : Bool). same true (not y)) (sym e)
    by false false d e = ap (λ (y : Bool). same true (not y)) (sym e)

one_equal : (b : ℕ) (sense : Bool) → b < 2 → same (same sense true) (is_so b) ≡ same sense (is_so (op_word operation.Equal 1 b))
one_equal b sense h = by (two b h)
  where
    by : (b ≡ 0) ⊎ (b ≡ 1) → same (same sense true) (is_so b) ≡ same sense (is_so (op_word operation.Equal 1 b))
    by (inl e) = subst (λ n. same (same sense true) (is_so n) ≡ same sense (is_so (op_word operation.Equal 1 n))) (sym e) refl
    by (inr e) = subst (λ n. same (same sense true) (is_so n) ≡ same sense (is_so (op_word operation.Equal 1 n))) (sym e) refl

is_one : (k : Option ℕ) → is_word k 0 ≡ true → is_word k 1 ≡ false
is_one None e = absurd (cc)
is_one (Some n) e = let z : n ≡ 0 = eqb-true n 0 e in ap (λ m. m == 1) z

compares : (o : WOp) → is_comparison o ≡ true → IsComparison o
compares operation.Slt e = tt
compares operation.Sltu e = tt
compares operation.Equal e = tt
compares _ e = absurd (cc)

module _ (view : View) (image : Code) (base : ℕ) (W : Written) (hole : HoleKind → ℕ → ℕ) (stands : Stood W image base hole) (trap_address : Trap → ℕ) (few : length W.code < 2 ^ 32) where
  abbrev Here' : Written → State → Type 0
  Here' = Here view image base hole false

  abbrev Scoped' : Scope → List ℕ → State → Type 0
  Scoped' = Scoped false

  abbrev Outcome' : ℕ → Written → Written → State → Operand → Value → Type 0
  Outcome' = Outcome view image base hole false trap_address

  abbrev Raised' : Written → Written → State → Trap → Type 0
  Raised' = Raised base trap_address

  abbrev Good' : Part → Meant → Type 0
  Good' = Good view image base W hole stands false trap_address

  abbrev Jumps' : Part → Meant → Type 0
  Jumps' = Jumps view image base W hole stands trap_address few

  abbrev Went' : ℕ → Written → State → Bool → ℕ → Type 0
  Went' = Went view image base hole false

  abbrev Turned' : ℕ → Written → Written → State → Bool → ℕ → Value → Type 0
  Turned' = Turned view image base hole trap_address

  abbrev nums : Numbers view image base W hole stands false
  nums = numbers view image base W hole stands false

  -- an expression whose word is compared with 0
  pub plain_jumps : (p : Part) {m : Meant} → Good' p m → ((sense : Bool) (t : Target) (sc : Scope) → p.jump sense t sc ≡ plain_jump p sense t sc) → Jumps' p m
  plain_jumps p {m} g is = record {
    adds = λ sense t sc w. subst (λ (f : Onto). Adds w (f w)) (sym (is sense t sc)) (plain_adds view image base W hole stands trap_address few p g sense t sc w);
    turns = λ sense t sc bound w s place scoped h f there low.
        subst (λ (onto : Onto). Turned' sc.kept w (onto w) s sense place (m bound)) (sym (is sense t sc))
        (plain_turns view image base W hole stands trap_address few p g sense t sc bound w s place scoped h (subst (λ (onto : Onto). Front (onto w) W) (is sense t sc) f) there low);
  }

  -- Operations.

  module _ (o : WOp) (l r : Part) {ml mr : Meant} (gl : Good' l ml) (gr : Good' r mr) (jl : Jumps' l ml) (jr : Jumps' r mr) (g : Good' (binary o l r) (λ bound. then_word (ml bound) (λ a. then_word (mr bound) (λ b. Gives (op_word o a b))))) where
    abbrev meaning : Value → Value → Value
    meaning x y = then_word x (λ a. then_word y (λ b. Gives (op_word o a b)))

    went_as : (kept : ℕ) (v : Written) (s : State) (so to : Bool) (place : ℕ) → so ≡ to → Went' kept v s so place → Went' kept v s to place
    went_as kept v s so to place e x = subst (λ b. Went' kept v s b place) e x

    -- the right word is known, and tells the opposite of the left one
    left_turns : (kept : ℕ) (w v : Written) (s : State) (sense : Bool) (place k : ℕ) (x y : Value) → Agrees k y → ((a b : ℕ) → x ≡ Gives a → b ≡ k → same (not sense) (is_so a) ≡ same sense (is_so (op_word o a b))) → Turned' kept w v s (not sense) place x → Turned' kept w v s sense place (meaning x y)
    left_turns kept w v s sense place k (Gives a) (Gives b) e h t = went_as kept v s (same (not sense) (is_so a)) (same sense (is_so (op_word o a b))) place (h a b refl (sym e)) t
    left_turns kept w v s sense place k (Gives a) (Raises q) e h t = absurd e
    left_turns kept w v s sense place k (Gives a) Stuck e h t = tt
    left_turns kept w v s sense place k (Raises q) y e h t = t
    left_turns kept w v s sense place k Stuck y e h t = tt

    -- the left word is known
    right_turns : (kept : ℕ) (w v : Written) (s : State) (sense c : Bool) (place k : ℕ) (x y : Value) → Agrees k x → ((a b : ℕ) → a ≡ k → y ≡ Gives b → same (same sense c) (is_so b) ≡ same sense (is_so (op_word o a b))) → Turned' kept w v s (same sense c) place y → Turned' kept w v s sense place (meaning x y)
    right_turns kept w v s sense c place k (Gives a) (Gives b) e h t = went_as kept v s (same (same sense c) (is_so b)) (same sense (is_so (op_word o a b))) place (h a b (sym e) refl) t
    right_turns kept w v s sense c place k (Gives a) (Raises q) e h t = t
    right_turns kept w v s sense c place k (Gives a) Stuck e h t = tt
    right_turns kept w v s sense c place k (Raises q) y e h t = absurd e
    right_turns kept w v s sense c place k Stuck y e h t = tt

    record Opposite (sc : Scope) : Type 0 where
      number : ℕ
      known : r.known sc ≡ Some number
      is : (bound : List ℕ) (sense : Bool) (a b : ℕ) → ml bound ≡ Gives a → b ≡ number → same (not sense) (is_so a) ≡ same sense (is_so (op_word o a b))

    record Told (sc : Scope) : Type 0 where
      number : ℕ
      known : l.known sc ≡ Some number
      is : (bound : List ℕ) (sense : Bool) (a b : ℕ) → a ≡ number → mr bound ≡ Gives b → same (same sense (is_known l 1 sc)) (is_so b) ≡ same sense (is_so (op_word o a b))

  opposite_of : (o : WOp) (l r : Part) {ml mr : Meant} (gl : Good' l ml) (gr : Good' r mr) (jl : Jumps' l ml) (jr : Jumps' r mr) (g : Good' (binary o l r) (λ bound. then_word (ml bound) (λ a. then_word (mr bound) (λ b. Gives (op_word o a b))))) (sc : Scope) → is_opposite o l r sc ≡ true → Opposite o l r gl gr jl jr g sc
  opposite_of operation.Equal l r gl gr jl jr g sc e = record { number = 0; known = known_word (r.known sc) 0 e; is = λ bound sense a b p q. equal_zero a sense ∙ ap (λ n. same sense (is_so (op_word operation.Equal a n))) (sym q) }
  opposite_of operation.Xor l r gl gr jl jr g sc e =
      let x = and_true (is_known r 1 sc) l.is_truth e in
      record { number = 1; known = known_word (r.known sc) 1 x.0; is = λ bound sense a b p q. xor_one a sense (gl.truth x.1 bound a p) ∙ ap (λ n. same sense (is_so (op_word operation.Xor a n))) (sym q) }
  opposite_of _ l r gl gr jl jr g sc e = absurd (cc)

  told_of : (o : WOp) (l r : Part) {ml mr : Meant} (gl : Good' l ml) (gr : Good' r mr) (jl : Jumps' l ml) (jr : Jumps' r mr) (g : Good' (binary o l r) (λ bound. then_word (ml bound) (λ a. then_word (mr bound) (λ b. Gives (op_word o a b))))) (sc : Scope) → is_told o l r sc ≡ true → Told o l r gl gr jl jr g sc
  told_of operation.Equal l r {ml} {mr} gl gr jl jr g sc e = by (or_true (is_known l 0 sc) (is_known l 1 sc && r.is_truth) e)
    where
      by : (is_known l 0 sc ≡ true) ⊎ ((is_known l 1 sc && r.is_truth) ≡ true) → Told operation.Equal l r gl gr jl jr g sc
      by (inl z) = record {
        number = 0;
        known = known_word (l.known sc) 0 z;
        is = λ bound sense a b p q. ap (λ c. same (same sense c) (is_so b)) (is_one (l.known sc) z) ∙ zero_equal b sense ∙ ap (λ n. same sense (is_so (op_word operation.Equal n b))) (sym p);
      }
      by (inr z) =
          let x = and_true (is_known l 1 sc) r.is_truth z in
          record {
            number = 1;
            known = known_word (l.known sc) 1 x.0;
            is = λ bound sense a b p q. ap (λ c. same (same sense c) (is_so b)) x.0 ∙ one_equal b sense (gr.truth x.1 bound b q) ∙ ap (λ n. same sense (is_so (op_word operation.Equal n b))) (sym p);
          }
  told_of _ l r gl gr jl jr g sc e = absurd (cc)

  module _ (o : WOp) (l r : Part) {ml mr : Meant} (gl : Good' l ml) (gr : Good' r mr) (jl : Jumps' l ml) (jr : Jumps' r mr) (g : Good' (binary o l r) (λ bound. then_word (ml bound) (λ a. then_word (mr bound) (λ b. Gives (op_word o a b))))) where
    abbrev both_meant : Meant
    both_meant bound = then_word (ml bound) (λ a. then_word (mr bound) (λ b. Gives (op_word o a b)))

    abbrev comparison : Scope → Comparison
    comparison sc = record { op = o; left = at_of l sc; right = at_of r (right_scope l sc) }

    compare_adds : (sense : Bool) (t : Target) (sc : Scope) (w : Written) → Adds w (compare_onto o l r sense t sc w)
    compare_adds sense t sc w =
        let a = onto_of l sc w in
        let b = onto_of r (right_scope l sc) a in
        adds_then w a _ (adds_of view image base W hole stands false trap_address l gl sc w) (adds_then a b _ (adds_of view image base W hole stands false trap_address r gr (right_scope l sc) a) (compared_adds view image base W hole stands trap_address few (comparison sc) sense t sc b))

    -- two words in registers
    compare_right : IsComparison o → (sense : Bool) (t : Target) (sc : Scope) (w : Written) (s : State) (place a : ℕ) → Front (compare_onto o l r sense t sc w) W → slice_get W.labels t.label ≡ Some (Some place) → place < 2 ^ 32 → (x : Gave view image base hole false sc.kept (onto_of l sc w) s (at_of l sc) a) →
        (y : Value) → Outcome' (right_scope l sc).kept (onto_of l sc w) (operands_onto l r sc w) x.state (at_of r (right_scope l sc)) y → Turned' sc.kept w (compare_onto o l r sense t sc w) s sense place (then_word y (λ b. Gives (op_word o a b)))
    compare_right is sense t sc w s place a f there low x (Gives b) y =
        let kept = holds_done view image base W hole stands false nums number_adds sc (at_of l sc) x.state y.state a x.placed y.done x.holds in
        let z = compared_goes view image base W hole stands trap_address few (comparison sc) sense t sc (operands_onto l r sc w) y.state a b place is x.placed y.placed y.here kept y.holds f there low in
        record { state = z.state; reaches = reaches_then x.reaches (reaches_then y.reaches z.reaches); done = done_then x.done (done_then (done_scope view image base W hole stands false nums number_adds sc (at_of l sc) y.done) z.done); sees = z.sees; pc = z.pc }
    compare_right is sense t sc w s place a f there low x (Raises q) y =
        raised_in view image base W hole stands false trap_address sc.kept w (onto_of l sc w) (operands_onto l r sc w) (compare_onto o l r sense t sc w) (adds_of view image base W hole stands false trap_address l gl sc w)
        (compared_adds view image base W hole stands trap_address few (comparison sc) sense t sc (operands_onto l r sc w)) x.reaches x.done y
    compare_right is sense t sc w s place a f there low x Stuck y = tt

    compare_left : IsComparison o → (sense : Bool) (t : Target) (sc : Scope) (bound : List ℕ) (w : Written) (s : State) (place : ℕ) → Scoped' sc bound s → Front (compare_onto o l r sense t sc w) W → slice_get W.labels t.label ≡ Some (Some place) → place < 2 ^ 32 →
        (x : Value) → Outcome' sc.kept w (onto_of l sc w) s (at_of l sc) x → Turned' sc.kept w (compare_onto o l r sense t sc w) s sense place (then_word x (λ a. then_word (mr bound) (λ b. Gives (op_word o a b))))
    compare_left is sense t sc bound w s place scoped f there low (Gives a) x =
        let u = operands_onto l r sc w in
        let inner = scoped_then view image base W hole stands false trap_address sc bound s x.state (at_of l sc) x.done scoped in
        compare_right is sense t sc w s place a f there low x (mr bound)
        (gives_of view image base W hole stands false trap_address r gr (right_scope l sc) bound (onto_of l sc w) x.state inner x.here (front_adds u _ W (compared_adds view image base W hole stands trap_address few (comparison sc) sense t sc u) f))
    compare_left is sense t sc bound w s place scoped f there low (Raises q) x =
        let a = onto_of l sc w in
        let b = onto_of r (right_scope l sc) a in
        raised_in view image base W hole stands false trap_address sc.kept w w a (compare_onto o l r sense t sc w) (adds_same w)
        (adds_then a b _ (adds_of view image base W hole stands false trap_address r gr (right_scope l sc) a) (compared_adds view image base W hole stands trap_address few (comparison sc) sense t sc b)) (reaches_same s) (done_same sc.kept s) x
    compare_left is sense t sc bound w s place scoped f there low Stuck x = tt

    way_adds : (y : Way) (sense : Bool) (t : Target) (sc : Scope) (w : Written) → Adds w (jump_by y o l r (plain_jump (binary_plain o l r) sense t sc) sense t sc w)
    way_adds way.Left sense t sc w = jump_of_adds view image base W hole stands trap_address few l jl (not sense) t sc w
    way_adds (way.Right c) sense t sc w = jump_of_adds view image base W hole stands trap_address few r jr (same sense c) t sc w
    way_adds way.Both sense t sc w = compare_adds sense t sc w
    way_adds way.Word sense t sc w = plain_adds view image base W hole stands trap_address few (binary o l r) g sense t sc w

    abbrev Turns : Bool → Target → Scope → List ℕ → Written → State → ℕ → Way → Type 0
    Turns sense t sc bound w s place y =
        Front (jump_by y o l r (plain_jump (binary_plain o l r) sense t sc) sense t sc w) W → Turned' sc.kept w (jump_by y o l r (plain_jump (binary_plain o l r) sense t sc) sense t sc w) s sense place (both_meant bound)

    binary_turns : (sense : Bool) (t : Target) (sc : Scope) (bound : List ℕ) (w : Written) (s : State) (place : ℕ) → Scoped' sc bound s → Here' w s → slice_get W.labels t.label ≡ Some (Some place) → place < 2 ^ 32 →
        Front (jump_by (way_of o l r sc) o l r (plain_jump (binary_plain o l r) sense t sc) sense t sc w) W →
        Turned' sc.kept w (jump_by (way_of o l r sc) o l r (plain_jump (binary_plain o l r) sense t sc) sense t sc w) s sense place (both_meant bound)
    binary_turns sense t sc bound w s place scoped h there low = first (is_opposite o l r sc) refl
      where
        third : (c : Bool) → is_comparison o ≡ c → Turns sense t sc bound w s place (if c then way.Both else way.Word)
        third true e f =
            let a = onto_of l sc w in
            let b = onto_of r (right_scope l sc) a in
            let fb = front_adds b _ W (compared_adds view image base W hole stands trap_address few (comparison sc) sense t sc b) f in
            compare_left (compares o e) sense t sc bound w s place scoped f there low (ml bound)
            (gives_of view image base W hole stands false trap_address l gl sc bound w s scoped h (front_adds a b W (adds_of view image base W hole stands false trap_address r gr (right_scope l sc) a) fb))
        third false e f = plain_turns view image base W hole stands trap_address few (binary o l r) g sense t sc bound w s place scoped h f there low

        second : (c : Bool) → is_told o l r sc ≡ c → Turns sense t sc bound w s place (if c then way.Right (is_known l 1 sc) else (if is_comparison o then way.Both else way.Word))
        second true e f =
            let x = told_of o l r gl gr jl jr g sc e in
            right_turns o l r gl gr jl jr g sc.kept w _ s sense (is_known l 1 sc) place x.number (ml bound) (mr bound) (gl.known sc bound s x.number scoped x.known) (λ a b p q. x.is bound sense a b p q)
            (turns_of view image base W hole stands trap_address few r gr jr (same sense (is_known l 1 sc)) t sc bound w s place scoped h f there low)
        second false e f = third (is_comparison o) refl f

        first : (c : Bool) → is_opposite o l r sc ≡ c → Turns sense t sc bound w s place (if c then way.Left else (if is_told o l r sc then way.Right (is_known l 1 sc) else (if is_comparison o then way.Both else way.Word)))
        first true e f =
            let x = opposite_of o l r gl gr jl jr g sc e in
            left_turns o l r gl gr jl jr g sc.kept w _ s sense place x.number (ml bound) (mr bound) (gr.known sc bound s x.number scoped x.known) (λ a b p q. x.is bound sense a b p q)
            (turns_of view image base W hole stands trap_address few l gl jl (not sense) t sc bound w s place scoped h f there low)
        first false e f = second (is_told o l r sc) refl f

    pub binary_jumps : Jumps' (binary o l r) both_meant
    binary_jumps = record {
      adds = λ sense t sc w. way_adds (way_of o l r sc) sense t sc w;
      turns = λ sense t sc bound w s place scoped h f there low. binary_turns sense t sc bound w s place scoped h there low f;
    }
