-- Conditions, and checks that raise traps.
use Rattle.std.proofs.Common.{◌≡◌, ◌∙◌, ℕ, suc, pos, ◌-◌, ◌%◌, ◌^◌, ◌<◌, ◌≤◌, ◌==◌, Bool, true, false, not, List, [], ◌∷◌, length, slice_get, Option, Some, None, refl, ap, sym, subst, arith}
use Rattle.std.specs.Prelude.{if◌then◌else◌}
use Rattle.std.specs.Int.{from_bool}
use Rattle.std.proofs.lemmas.List.{get_or-set_same, get_or-set_other, length-set}
use Rattle.clu_wir.specs.declared.expression.WOp.TheVariants as operation
use Rattle.clu_wir.specs.declared.hole.HoleKind.{HoleKind}
use Rattle.clu_wir.specs.declared.hole.HoleKind.TheVariants as kind
use Rattle.clu_wir.specs.declared.trap.Trap.{Trap}
use Rattle.rv_isa.specs.declared.instr.Instr.TheVariants as instr
use Rattle.rv_machine.specs.State.{State, register}
use Rattle.rv_machine.specs.Values.{sum}
use Rattle.rv_machine.specs.Steps.{word_of}
use Rattle.rv_select.specs.declared.conditions.Comparison.{Comparison}
use Rattle.rv_select.specs.declared.conditions.Target.{Target}
use Rattle.rv_select.specs.declared.operand.Operand.{Operand}
use Rattle.rv_select.specs.declared.operand.Operand.TheVariants.{Known}
use Rattle.rv_select.specs.declared.operand.Scope.{Scope}
use Rattle.rv_select.specs.declared.parts.TheConstants.{TRAP_ENTRY}
use Rattle.rv_select.specs.declared.register.Register.{Register}
use Rattle.rv_select.specs.declared.register.Register.TheVariants as name
use Rattle.rv_select.specs.Registers.{register_number}
use Rattle.rv_select.specs.Combining.{left_at, registers_onto, right_at}
use Rattle.rv_select.specs.Conditions.{always_onto, compared_onto, near}
use Rattle.rv_select.specs.Evaluation.{Part, at_of, check_onto, checked, is_held, jump_known, jump_of, onto_of, plain_jump, raising_onto, same, trap_distance, trap_onto, trap_to}
use Rattle.rv_select.specs.Written.{Onto, Written, copy_onto, emitted, fresh, hole_onto, in_turn}
use Rattle.clu_wir.specs.Value.{Gives, Raises, Stuck, Value, View, by_truth, op_word, then_word}
use Rattle.laws_selection.proofs.Meaning.{Meant}
use Rattle.laws_selection.specs.Registers.{stays}
use Rattle.laws_selection.specs.Running.{At, Code, Done, Reaches}
use Rattle.laws_selection.specs.Growing.{Adds, Front, Sound, address}
use Rattle.laws_selection.specs.Evaluating.{Here, HoldsWord, IsPlaced, Outcome, Raised, Scoped, Traps, Turned, Went, is_so}
use Rattle.laws_selection.proofs.Running.{done_same, done_then, jalr_goes, reaches_one, reaches_same, reaches_then, same_then}
use Rattle.laws_selection.proofs.Growing.{Stood, adds_same, adds_then, emitted_adds, emitted_length, extends_longer, fresh_adds, fresh_label, fresh_length, front_adds, front_placed, hole_adds, hole_length, placed_adds, placed_length, placed_there, referred_adds, sound_then}
use Rattle.laws_selection.proofs.Evaluating.{hole_puts, next_address}
use Rattle.laws_selection.proofs.Combining.{registers_adds, registers_give}
use Rattle.laws_selection.proofs.Jumping.{IsComparison, go_goes, jump_adds, jump_goes}
use Rattle.laws_selection.proofs.Known.{number_adds, numbers}
use Rattle.laws_selection.proofs.Parts.{Agrees, Good, adds_of, gives_of, longer, outcome_then, raised_in, raised_within, scoped_same}

abbrev pub Either : Bool → Type 0 → Type 0 → Type 0
Either true a b = a
Either false a b = b

first_spare : Unit {0} → stays 0 name.First ≡ false
unfolding stays
first_spare u = refl

module _ (view : View) (image : Code) (base : ℕ) (W : Written) (hole : HoleKind → ℕ → ℕ) (stands : Stood W image base hole) (trap_address : Trap → ℕ) (few : length W.code < 2 ^ 32) where
  abbrev Here' : Written → State → Type 0
  Here' = Here view image base hole false

  abbrev Went' : ℕ → Written → State → Bool → ℕ → Type 0
  Went' = Went view image base hole false

  abbrev Scoped' : Scope → List ℕ → State → Type 0
  Scoped' = Scoped false

  abbrev Outcome' : ℕ → Written → Written → State → Operand → Value → Type 0
  Outcome' = Outcome view image base hole false trap_address

  abbrev Raised' : Written → Written → State → Trap → Type 0
  Raised' = Raised base trap_address

  abbrev Good' : Part → Meant → Type 0
  Good' = Good view image base W hole stands false trap_address

  -- Conditions.

  abbrev Turned' : ℕ → Written → Written → State → Bool → ℕ → Value → Type 0
  Turned' = Turned view image base hole trap_address

  pub record Jumps (p : Part) (m : Meant) : Type 0 where
    pub adds : (sense : Bool) (t : Target) (sc : Scope) (w : Written) → Adds w (p.jump sense t sc w)
    pub turns : (sense : Bool) (t : Target) (sc : Scope) (bound : List ℕ) (w : Written) (s : State) (place : ℕ) → Scoped' sc bound s → Here' w s → Front (p.jump sense t sc w) W →
        slice_get W.labels t.label ≡ Some (Some place) → place < 2 ^ 32 → Turned' sc.kept w (p.jump sense t sc w) s sense place (m bound)

  -- of two words in registers
  pub compared_adds : (c : Comparison) (sense : Bool) (t : Target) (sc : Scope) (w : Written) → Adds w (compared_onto c sense t sc w)
  unfolding compared_onto
  compared_adds c sense t sc w = adds_then w _ _ (registers_adds view image base W hole stands false (numbers view image base W hole stands false) number_adds c.left c.right sc w)
      (jump_adds view image base W hole stands false few c.op (left_at c.left c.right sc) (right_at c.left c.right sc) sense t _)

  pub compared_goes : (c : Comparison) (sense : Bool) (t : Target) (sc : Scope) (w : Written) (s : State) (a b place : ℕ) → IsComparison c.op → IsPlaced c.left → IsPlaced c.right → Here' w s → HoldsWord c.left s a → HoldsWord c.right s b →
      Front (compared_onto c sense t sc w) W → slice_get W.labels t.label ≡ Some (Some place) → place < 2 ^ 32 → Went' sc.kept (compared_onto c sense t sc w) s (same sense (is_so (op_word c.op a b))) place
  unfolding compared_onto
  compared_goes c sense t sc w s a b place is p q h l r f there small =
      let v = registers_onto c.left c.right sc w in
      let x = registers_give view image base W hole stands false (numbers view image base W hole stands false) number_adds c.left c.right sc w s a b p q h l r (front_adds v _ W (jump_adds view image base W hole stands false few c.op (left_at c.left c.right sc) (right_at c.left c.right sc) sense t v) f) in
      let y = jump_goes view image base W hole stands false few sc.kept v x.state c.op (left_at c.left c.right sc) (right_at c.left c.right sc) a b sense t place is x.here f there small x.left_is x.right_is in
      record { state = y.state; reaches = reaches_then x.reaches y.reaches; done = done_then x.done y.done; sees = y.sees; pc = y.pc }

  so_word : (sense : Bool) (a : ℕ) → same (not sense) (is_so (op_word operation.Equal a 0)) ≡ same sense (is_so a)
  so_word sense a = by sense (a == 0)
    where
      by : (x y : Bool) → same (not x) (is_so (from_bool y)) ≡ same x (not y)
      by true true = refl
      by true false = refl
      by false true = refl
      by false false = refl

  abbrev zero_test : Operand → Comparison
  zero_test word = record { op = operation.Equal; left = word; right = Known 0 }

  -- an expression whose word is compared with 0
  module _ (p : Part) {m : Meant} (g : Good' p m) where
    plain_by : (sense : Bool) (t : Target) (sc : Scope) (bound : List ℕ) (w : Written) (s : State) (place : ℕ) → Front (plain_jump p sense t sc w) W → slice_get W.labels t.label ≡ Some (Some place) → place < 2 ^ 32 →
        (x : Value) → Outcome' sc.kept w (onto_of p sc w) s (at_of p sc) x → Turned' sc.kept w (plain_jump p sense t sc w) s sense place x
    plain_by sense t sc bound w s place f there small (Gives c) x =
        let y = compared_goes (zero_test (at_of p sc)) (not sense) t sc (onto_of p sc w) x.state c 0 place tt x.placed (search arith) x.here x.holds refl f there small in
        record {
          state = y.state;
          reaches = reaches_then x.reaches y.reaches;
          done = done_then x.done y.done;
          sees = y.sees;
          pc = y.pc ∙ ap (λ b. address base (if b then place else length (plain_jump p sense t sc w).code)) (so_word sense c);
        }
    plain_by sense t sc bound w s place f there small (Raises r) x =
        raised_in view image base W hole stands false trap_address sc.kept w w (onto_of p sc w) (plain_jump p sense t sc w) (adds_same w) (compared_adds (zero_test (at_of p sc)) (not sense) t sc (onto_of p sc w)) (reaches_same s) (done_same sc.kept s) x
    plain_by sense t sc bound w s place f there small Stuck x = tt

    pub plain_adds : (sense : Bool) (t : Target) (sc : Scope) (w : Written) → Adds w (plain_jump p sense t sc w)
    plain_adds sense t sc w = adds_then w (onto_of p sc w) _ (adds_of view image base W hole stands false trap_address p g sc w) (compared_adds (zero_test (at_of p sc)) (not sense) t sc (onto_of p sc w))

    pub plain_turns : (sense : Bool) (t : Target) (sc : Scope) (bound : List ℕ) (w : Written) (s : State) (place : ℕ) → Scoped' sc bound s → Here' w s → Front (plain_jump p sense t sc w) W → slice_get W.labels t.label ≡ Some (Some place) → place < 2 ^ 32 →
        Turned' sc.kept w (plain_jump p sense t sc w) s sense place (m bound)
    plain_turns sense t sc bound w s place scoped h f there small =
        plain_by sense t sc bound w s place f there small (m bound)
        (gives_of view image base W hole stands false trap_address p g sc bound w s scoped h (front_adds (onto_of p sc w) _ W (compared_adds (zero_test (at_of p sc)) (not sense) t sc (onto_of p sc w)) f))

  -- Traps.

  trap_adds : (link : Register) (t : Trap) (w : Written) → Adds w (trap_to link t w)
  trap_adds link t w = adds_then w (hole_onto name.First kind.Runtime 3 w) _ (hole_adds name.First kind.Runtime 3 w) (emitted_adds _ _)

  pub trap_onto_adds : (t : Trap) (b : Bool) (w : Written) → Adds w (trap_onto t b w)
  unfolding trap_onto
  trap_onto_adds t true w = adds_then w (copy_onto name.Table name.Caller w) _ (emitted_adds _ w) (trap_adds name.Zero t _)
  trap_onto_adds t false w = trap_adds name.Back t w

  -- the three words of a trap
  trap_raises : (w : Written) (s : State) (t : Trap) → Traps hole trap_address → Here' w s → Front (trap_to name.Back t w) W → Raised' w (trap_to name.Back t w) s t
  trap_raises w s t traps h f =
      let w3 = hole_onto name.First kind.Runtime 3 w in
      let j = instr.Jalr 1 5 (trap_distance t (pos 0) TRAP_ENTRY) in
      let f3 = front_adds w3 (emitted j w3) W (emitted_adds j w3) f in
      let x = hole_puts view image base W hole stands false 0 w s name.First kind.Runtime 3 h f3 (first_spare tt) in
      let s2 = x.state in
      let at3 : At s2.code s2.pc j = subst (λ c. At c s2.pc j) (sym x.here.sees.code) (subst (λ a. At image a j) (sym x.here.pc) (stands.plain j w3 x.here.sound f)) in
      let to : (let a = sum (register s2 5) (word_of (trap_distance t (pos 0) TRAP_ENTRY)) in a - a % 2) ≡ trap_address t = ap (λ n. let a = sum n (word_of (trap_distance t (pos 0) TRAP_ENTRY)) in a - a % 2) x.holds ∙ traps.lands t in
      let go = jalr_goes s2 1 5 (trap_distance t (pos 0) TRAP_ENTRY) at3 (ap (λ a. a % 4 == 0) to ∙ traps.aligned t) in
      let long : length w3.code ≡ suc (suc (length w.code)) = hole_length name.First kind.Runtime 3 w in
      record {
        state = _;
        reaches = reaches_then x.reaches (reaches_one s2 _ go);
        same = same_then x.done.same (record { code = refl; image = refl; store = refl; stack = refl; start = refl; registers = length-set s2.registers 1 (sum s2.pc 4) });
        stays = λ r q d. get_or-set_other s2.registers 1 (register_number r) (sum s2.pc 4) 0 d ∙ x.done.stays r q;
        pc = to;
        word = length w3.code;
        low = rw long (omega arith);
        high = rw (emitted_length j w3) (omega arith);
        back = get_or-set_same s2.registers 1 (sum s2.pc 4) 0 (rw (x.here.sees.registers) (omega arith)) ∙ ap (λ a. sum a 4) x.here.pc ∙ next_address base (length w3.code);
      }

  -- Checks.

  trap_onto_is : (t : Trap) (b : Bool) → b ≡ false → (w : Written) → trap_onto t b w ≡ trap_to name.Back t w
  unfolding trap_onto
  trap_onto_is t false e w = refl
  trap_onto_is t true e w = absurd (cc)

  pub jump_known_adds : (k : Option ℕ) (onto : Onto) (sense : Bool) (t : Target) (w : Written) → Adds w (onto w) → Adds w (jump_known k onto sense t w)
  jump_known_adds None onto sense t w a = a
  jump_known_adds (Some n) onto sense t w a = by (same sense (is_so n))
    where
      by : (so : Bool) → Adds w (always_onto t so w)
      by true = referred_adds _ t.label w
      by false = adds_same w

  always_goes : (kept : ℕ) (w : Written) (s : State) (t : Target) (place : ℕ) (so : Bool) → Here' w s → Front (always_onto t so w) W → slice_get W.labels t.label ≡ Some (Some place) → place < 2 ^ 32 → Went' kept (always_onto t so w) s so place
  always_goes kept w s t place true h f there small = go_goes view image base W hole stands false few kept w s t.label place h f there small
  always_goes kept w s t place false h f there small = record { state = s; reaches = reaches_same s; done = done_same kept s; sees = h.sees; pc = h.pc }

  known_turns : (kept : ℕ) (w : Written) (s : State) (sense : Bool) (t : Target) (place n : ℕ) (x : Value) → Agrees n x → Here' w s → Front (always_onto t (same sense (is_so n)) w) W →
      slice_get W.labels t.label ≡ Some (Some place) → place < 2 ^ 32 → Turned' kept w (always_onto t (same sense (is_so n)) w) s sense place x
  known_turns kept w s sense t place n (Gives c) a h f there small = subst (λ d. Went' kept (always_onto t (same sense (is_so n)) w) s (same sense (is_so d)) place) a (always_goes kept w s t place (same sense (is_so n)) h f there small)
  known_turns kept w s sense t place n (Raises r) a h f there small = absurd a
  known_turns kept w s sense t place n Stuck a h f there small = tt

  pub turns_of : (p : Part) {m : Meant} → Good' p m → Jumps p m → (sense : Bool) (t : Target) (sc : Scope) (bound : List ℕ) (w : Written) (s : State) (place : ℕ) → Scoped' sc bound s → Here' w s → Front (jump_of p sense t sc w) W →
      slice_get W.labels t.label ≡ Some (Some place) → place < 2 ^ 32 → Turned' sc.kept w (jump_of p sense t sc w) s sense place (m bound)
  turns_of p {m} g j sense t sc bound w s place scoped h f there small = by (p.known sc) refl f
    where
      by : (k : Option ℕ) → p.known sc ≡ k → Front (jump_known k (p.jump sense t sc) sense t w) W → Turned' sc.kept w (jump_known k (p.jump sense t sc) sense t w) s sense place (m bound)
      by None e f = j.turns sense t sc bound w s place scoped h f there small
      by (Some n) e f = known_turns sc.kept w s sense t place n (m bound) (g.known sc bound s n scoped e) h f there small

  pub jump_of_adds : (p : Part) {m : Meant} → Jumps p m → (sense : Bool) (t : Target) (sc : Scope) (w : Written) → Adds w (jump_of p sense t sc w)
  jump_of_adds p j sense t sc w = jump_known_adds (p.known sc) (p.jump sense t sc) sense t w (j.adds sense t sc w)

  -- what raises a trap in front of other words
  pub raised_first : (kept : ℕ) (w v u : Written) (s : State) (t : Trap) → length v.code ≤ length u.code → Raised' w v s t → Raised' w u s t
  raised_first kept w v u s t l r = raised_within view image base W hole stands false trap_address kept w w v u (omega arith) l (reaches_same s) (done_same kept s) r

  module _ (traps : Traps hole trap_address) (c : Part) (trap : Trap) {mc : Meant} (gc : Good' c mc) (jc : Jumps c mc) where
    abbrev jumped_at : Scope → Written → Written
    jumped_at sc w = jump_of c true (near (length w.labels)) sc (fresh w)

    abbrev raised_at : Scope → Written → Written
    raised_at sc w = trap_onto trap sc.is_leaf (jumped_at sc w)

    -- its words, one after the other
    record Checks (sc : Scope) (w : Written) : Type 0 where
      front3 : Front (raised_at sc w) W
      front2 : Front (jumped_at sc w) W
      over : slice_get W.labels (length w.labels) ≡ Some (Some (length (raised_at sc w).code))
      short : length (raised_at sc w).code < 2 ^ 32

    checks_are : (sc : Scope) (w : Written) → Front (raising_onto c trap sc w) W → Checks sc w
    checks_are sc w f =
        let l = length w.labels in
        let a2 = jump_of_adds c jc true (near l) sc (fresh w) in
        let a3 = trap_onto_adds trap sc.is_leaf (jumped_at sc w) in
        let a13 = adds_then (fresh w) (jumped_at sc w) (raised_at sc w) a2 a3 in
        let is = fresh_label w in
        let first = is.0 in
        let count = a13.count in
        let f3 = front_placed (raised_at sc w) W l (a13.below l is.0 ∙ is.1) f in
        let few' = few in
        let whole = extends_longer (raised_at sc w) W f3.extends in
        record { front3 = f3; front2 = front_adds (jumped_at sc w) (raised_at sc w) W a3 f3; over = placed_there (raised_at sc w) W l (omega arith) f; short = omega arith }

    raising_adds : (sc : Scope) (w : Written) → Adds w (raising_onto c trap sc w)
    raising_adds sc w =
        placed_adds w (raised_at sc w) (length w.labels)
        (adds_then w (fresh w) (raised_at sc w) (fresh_adds w) (adds_then (fresh w) (jumped_at sc w) (raised_at sc w) (jump_of_adds c jc true (near (length w.labels)) sc (fresh w)) (trap_onto_adds trap sc.is_leaf (jumped_at sc w)))) (omega arith)

    pub check_adds : (sc : Scope) (w : Written) → Adds w (check_onto c trap sc w)
    check_adds sc w = by (is_held (c.known sc))
      where
        by : (b : Bool) → Adds w (if b then w else raising_onto c trap sc w)
        by true = adds_same w
        by false = raising_adds sc w

    -- the machine goes on behind the check where it holds
    pub record Passed (sc : Scope) (v : Written) (s : State) : Type 0 where
      pub state : State
      pub reaches : Reaches s state
      pub here : Here' v state
      pub done : Done sc.kept s state

    abbrev pub Tested : Scope → Written → Written → State → Value → Type 0
    Tested sc w v s (Gives n) = Either (n == 0) (Raised' w v s trap) (Passed sc v s)
    Tested sc w v s (Raises t) = Raised' w v s t
    Tested sc w v s Stuck = Unit {0}

    same_true : (b : Bool) → same true b ≡ b
    same_true true = refl
    same_true false = refl

    same_words : (sc : Scope) (w : Written) → length (raising_onto c trap sc w).code ≡ length (raised_at sc w).code
    same_words sc w = placed_length (length w.labels) (raised_at sc w)

    truth_by : (sc : Scope) (w : Written) (s : State) → sc.is_leaf ≡ false → Sound w → Checks sc w → (so : Bool) →
        Went' sc.kept (jumped_at sc w) s (not so) (length (raised_at sc w).code) → Either so (Raised' w (raising_onto c trap sc w) s trap) (Passed sc (raising_onto c trap sc w) s)
    truth_by sc w s leaf sound checks false x =
        record {
          state = x.state;
          reaches = x.reaches;
          done = x.done;
          here = record { sound = sound_then w (raising_onto c trap sc w) (raising_adds sc w).extends sound; pc = x.pc ∙ ap (address base) (sym (same_words sc w)); sees = x.sees };
        }
    truth_by sc w s leaf sound checks true x =
        let u = jumped_at sc w in
        let a = adds_then w (fresh w) u (fresh_adds w) (jump_of_adds c jc true (near (length w.labels)) sc (fresh w)) in
        let is = trap_onto_is trap sc.is_leaf leaf u in
        let r = trap_raises u x.state trap traps (record { sound = sound_then w u a.extends sound; pc = x.pc; sees = x.sees }) (subst (λ v. Front v W) is checks.front3) in
        let same' = same_words sc w in
        raised_within view image base W hole stands false trap_address sc.kept w u (raised_at sc w) (raising_onto c trap sc w) (longer w u a) (subst (λ n. length (raised_at sc w).code ≤ n) (sym same') (omega arith))
        x.reaches x.done (subst (λ v. Raised' u v x.state trap) (sym is) r)

    raising_by : (sc : Scope) (w : Written) (s : State) → sc.is_leaf ≡ false → Sound w → Checks sc w → (x : Value) → Turned' sc.kept (fresh w) (jumped_at sc w) s true (length (raised_at sc w).code) x → Tested sc w (raising_onto c trap sc w) s x
    raising_by sc w s leaf sound checks (Gives n) x = truth_by sc w s leaf sound checks (n == 0) (subst (λ so. Went' sc.kept (jumped_at sc w) s so (length (raised_at sc w).code)) (same_true (is_so n)) x)
    raising_by sc w s leaf sound checks (Raises t) x =
        let same' = same_words sc w in
        let more = longer (jumped_at sc w) (raised_at sc w) (trap_onto_adds trap sc.is_leaf (jumped_at sc w)) in
        raised_within view image base W hole stands false trap_address sc.kept w (fresh w) (jumped_at sc w) (raising_onto c trap sc w) (longer w (fresh w) (fresh_adds w)) (subst (λ n. length (jumped_at sc w).code ≤ n) (sym same') more) (reaches_same s) (done_same sc.kept s) x
    raising_by sc w s leaf sound checks Stuck x = tt

    raising_gives : (sc : Scope) (bound : List ℕ) (w : Written) (s : State) → Scoped' sc bound s → Here' w s → Front (raising_onto c trap sc w) W → Tested sc w (raising_onto c trap sc w) s (mc bound)
    raising_gives sc bound w s scoped h f =
        let checks = checks_are sc w f in
        let start : Here' (fresh w) s = record { sound = sound_then w (fresh w) (fresh_adds w).extends h.sound; pc = h.pc ∙ ap (address base) (sym (fresh_length w)); sees = h.sees } in
        raising_by sc w s scoped.leaf h.sound checks (mc bound)
        (turns_of c gc jc true (near (length w.labels)) sc bound (fresh w) s (length (raised_at sc w).code) scoped start checks.front2 checks.over checks.short)

    -- a condition that is known to hold
    held_by : (k : Option ℕ) → is_held k ≡ true → (sc : Scope) (w : Written) (s : State) (x : Value) → ((n : ℕ) → k ≡ Some n → Agrees n x) → Here' w s → Tested sc w w s x
    held_by None e sc w s x a h = absurd (cc)
    held_by (Some n) e sc w s (Gives m) a h = by (m == 0) (ap (λ k. not (k == 0)) (sym (a n refl)) ∙ e)
      where
        by : (b : Bool) → not b ≡ true → Either b (Raised' w w s trap) (Passed sc w s)
        by true e = absurd (cc)
        by false e = record { state = s; reaches = reaches_same s; here = h; done = done_same sc.kept s }
    held_by (Some n) e sc w s (Raises t) a h = absurd (a n refl)
    held_by (Some n) e sc w s Stuck a h = tt

    -- CHECK
    pub check_tests : (sc : Scope) (bound : List ℕ) (w : Written) (s : State) → Scoped' sc bound s → Here' w s → Front (check_onto c trap sc w) W → Tested sc w (check_onto c trap sc w) s (mc bound)
    check_tests sc bound w s scoped h f = by (is_held (c.known sc)) refl f
      where
        by : (b : Bool) → is_held (c.known sc) ≡ b → Front (if b then w else raising_onto c trap sc w) W → Tested sc w (if b then w else raising_onto c trap sc w) s (mc bound)
        by true e f = held_by (c.known sc) e sc w s (mc bound) (λ n is. gc.known sc bound s n scoped is) h
        by false e f = raising_gives sc bound w s scoped h f

    module _ (p : Part) {mp : Meant} (gp : Good' p mp) where
      abbrev pub check_meant : Meant
      check_meant bound = then_word (mc bound) (λ n. by_truth n (mp bound) (Raises trap))

      abbrev check_at : Scope → Onto
      check_at sc = in_turn (check_onto c trap sc ∷ onto_of p sc ∷ [])

      word_by : (sc : Scope) (bound : List ℕ) (w : Written) (s : State) → Scoped' sc bound s → Front (check_at sc w) W → (so : Bool) → Either so (Raised' w (check_onto c trap sc w) s trap) (Passed sc (check_onto c trap sc w) s) →
          Outcome' sc.kept w (check_at sc w) s (at_of p sc) (if so then Raises trap else mp bound)
      word_by sc bound w s scoped f true x =
          raised_first sc.kept w (check_onto c trap sc w) (check_at sc w) s trap (longer (check_onto c trap sc w) (check_at sc w) (adds_of view image base W hole stands false trap_address p gp sc (check_onto c trap sc w))) x
      word_by sc bound w s scoped f false x =
          let v = check_onto c trap sc w in
          outcome_then view image base W hole stands false trap_address sc.kept w v (check_at sc w) (at_of p sc) (check_adds sc w) x.reaches x.done (mp bound)
          (gives_of view image base W hole stands false trap_address p gp sc bound v x.state (scoped_same view image base W hole stands false trap_address sc bound s x.state x.done scoped) x.here f)

      checked_by : (sc : Scope) (bound : List ℕ) (w : Written) (s : State) → Scoped' sc bound s → Front (check_at sc w) W → (x : Value) → Tested sc w (check_onto c trap sc w) s x → Outcome' sc.kept w (check_at sc w) s (at_of p sc) (then_word x (λ n. by_truth n (mp bound) (Raises trap)))
      checked_by sc bound w s scoped f (Gives n) x = word_by sc bound w s scoped f (n == 0) x
      checked_by sc bound w s scoped f (Raises t) x =
          raised_first sc.kept w (check_onto c trap sc w) (check_at sc w) s t (longer (check_onto c trap sc w) (check_at sc w) (adds_of view image base W hole stands false trap_address p gp sc (check_onto c trap sc w))) x
      checked_by sc bound w s scoped f Stuck x = tt

      check_gives : (sc : Scope) (bound : List ℕ) (w : Written) (s : State) → Scoped' sc bound s → Here' w s → Front (check_at sc w) W → Outcome' sc.kept w (check_at sc w) s (at_of p sc) (check_meant bound)
      check_gives sc bound w s scoped h f =
          checked_by sc bound w s scoped f (mc bound) (check_tests sc bound w s scoped h (front_adds (check_onto c trap sc w) (check_at sc w) W (adds_of view image base W hole stands false trap_address p gp sc (check_onto c trap sc w)) f))

      check_small : (x y : Value) (n : ℕ) → ((k : ℕ) → y ≡ Gives k → k < 2 ^ 64) → then_word x (λ m. by_truth m y (Raises trap)) ≡ Gives n → n < 2 ^ 64
      check_small (Gives m) y n h e = by (m == 0) e
        where
          by : (b : Bool) → (if b then Raises trap else y) ≡ Gives n → n < 2 ^ 64
          by true e = absurd (cc)
          by false e = h n e
      check_small (Raises t) y n h e = absurd (cc)
      check_small Stuck y n h e = absurd (cc)

      pub check_good : Good' (checked c trap p) check_meant
      check_good = record {
        known = λ sc bound s k h e. absurd (cc);
        adds = λ sc w. adds_then w (check_onto c trap sc w) (check_at sc w) (check_adds sc w) (adds_of view image base W hole stands false trap_address p gp sc (check_onto c trap sc w));
        gives = λ sc bound w s scoped h f. check_gives sc bound w s scoped h f;
        small = λ bound n h e. check_small (mc bound) (mp bound) n (λ k is. gp.small bound k h is) e;
        ready = λ sc bound s o h e. absurd (cc);
        truth = λ t bound n e. absurd (cc);
      }

      -- as a condition
      module _ (jp : Jumps p mp) where
        turn_by : (sense : Bool) (t : Target) (sc : Scope) (bound : List ℕ) (w : Written) (s : State) (place : ℕ) → Scoped' sc bound s → Front (jump_of p sense t sc (check_onto c trap sc w)) W → slice_get W.labels t.label ≡ Some (Some place) → place < 2 ^ 32 →
            (so : Bool) → Either so (Raised' w (check_onto c trap sc w) s trap) (Passed sc (check_onto c trap sc w) s) → Turned' sc.kept w (jump_of p sense t sc (check_onto c trap sc w)) s sense place (if so then Raises trap else mp bound)
        turn_by sense t sc bound w s place scoped f there small true x =
            raised_first sc.kept w (check_onto c trap sc w) (jump_of p sense t sc (check_onto c trap sc w)) s trap (longer _ _ (jump_of_adds p jp sense t sc (check_onto c trap sc w))) x
        turn_by sense t sc bound w s place scoped f there small false x =
            turned_then sc.kept w (check_onto c trap sc w) (jump_of p sense t sc (check_onto c trap sc w)) sense place (check_adds sc w) x.reaches x.done (mp bound)
            (turns_of p gp jp sense t sc bound (check_onto c trap sc w) x.state place (scoped_same view image base W hole stands false trap_address sc bound s x.state x.done scoped) x.here f there small)
          where
            turned_then : (kept : ℕ) (w u v : Written) {s t : State} (sense : Bool) (place : ℕ) → Adds w u → Reaches s t → Done kept s t → (x : Value) → Turned' kept u v t sense place x → Turned' kept w v s sense place x
            turned_then kept w u v sense place a r d (Gives n) x = record { state = x.state; reaches = reaches_then r x.reaches; done = done_then d x.done; sees = x.sees; pc = x.pc }
            turned_then kept w u v sense place a r d (Raises t) x = raised_in view image base W hole stands false trap_address kept w u v v a (adds_same v) r d x
            turned_then kept w u v sense place a r d Stuck x = tt

        turns_by : (sense : Bool) (t : Target) (sc : Scope) (bound : List ℕ) (w : Written) (s : State) (place : ℕ) → Scoped' sc bound s → Front (jump_of p sense t sc (check_onto c trap sc w)) W → slice_get W.labels t.label ≡ Some (Some place) → place < 2 ^ 32 →
            (x : Value) → Tested sc w (check_onto c trap sc w) s x → Turned' sc.kept w (jump_of p sense t sc (check_onto c trap sc w)) s sense place (then_word x (λ n. by_truth n (mp bound) (Raises trap)))
        turns_by sense t sc bound w s place scoped f there small (Gives n) x = turn_by sense t sc bound w s place scoped f there small (n == 0) x
        turns_by sense t sc bound w s place scoped f there small (Raises r) x =
            raised_first sc.kept w (check_onto c trap sc w) (jump_of p sense t sc (check_onto c trap sc w)) s r (longer _ _ (jump_of_adds p jp sense t sc (check_onto c trap sc w))) x
        turns_by sense t sc bound w s place scoped f there small Stuck x = tt

        pub check_jumps : Jumps (checked c trap p) check_meant
        check_jumps = record {
          adds = λ sense t sc w. adds_then w (check_onto c trap sc w) _ (check_adds sc w) (jump_of_adds p jp sense t sc (check_onto c trap sc w));
          turns = λ sense t sc bound w s place scoped h f there small. turns_by sense t sc bound w s place scoped f there small (mc bound)
              (check_tests sc bound w s scoped h (front_adds (check_onto c trap sc w) _ W (jump_of_adds p jp sense t sc (check_onto c trap sc w)) f));
        }
