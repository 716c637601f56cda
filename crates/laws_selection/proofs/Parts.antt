-- What the words of an expression do: slots, known and bound words, loads and operations.
use Rattle.std.proofs.Common.{◌≡◌, ◌∙◌, ℕ, ℤ, ◌^◌, ◌<◌, ◌≤◌, Bool, true, false, List, [], ◌∷◌, length, slice_get, Option, Some, None, refl, ap, ap₂, sym, subst, arith}
use Rattle.std.specs.Prelude.{if◌then◌else◌, unwrap_or}
use Rattle.std.specs.Int.{from_bool}
use Rattle.std.proofs.lemmas.List.{length-append}
use Rattle.clu_wir.specs.declared.expression.WOp.{WOp}
use Rattle.clu_wir.specs.declared.expression.WOp.TheVariants as operation
use Rattle.clu_wir.specs.declared.trap.Trap.{Trap}
use Rattle.clu_wir.specs.declared.hole.HoleKind.{HoleKind}
use Rattle.rv_isa.specs.declared.op.Op.{Op}
use Rattle.rv_machine.specs.State.{State}
use Rattle.rv_select.specs.declared.operand.Operand.{Operand}
use Rattle.rv_select.specs.declared.operand.Operand.TheVariants.{At as In, Known}
use Rattle.rv_select.specs.declared.operand.Scope.{Scope}
use Rattle.rv_select.specs.declared.register.Register.{Register}
use Rattle.rv_select.specs.declared.register.Register.TheVariants as name
use Rattle.rv_select.specs.Operands.{free, has_free, keeping, known_onto, taking}
use Rattle.rv_select.specs.Combining.{combined_by, combined_onto, known_number}
use Rattle.rv_select.specs.Evaluation.{Part, at_known, at_of, binary, both_known, bound_at, bound_word, compared, is_comparison, onto_of, operands_onto, plain, right_scope, slot_onto, unless_known}
use Rattle.rv_select.specs.Slots.{load_at_onto, load_slot_onto, slot_distance, word_distance}
use Rattle.rv_select.specs.Written.{Onto, Written, in_turn}
use Rattle.clu_wir.specs.Value.{Gives, Raises, Stuck, Value, View, of_option, op_word, then_word}
use Rattle.laws_selection.proofs.Meaning.{Meant}
use Rattle.laws_selection.specs.Registers.{is_far, stays}
use Rattle.laws_selection.proofs.Registers.{stays_any}
use Rattle.laws_selection.specs.Running.{Code, Done, Reaches}
use Rattle.laws_selection.proofs.Running.{done_same, done_then, reaches_same, reaches_then, same_then}
use Rattle.laws_selection.specs.Growing.{Adds, Front}
use Rattle.laws_selection.proofs.Growing.{Stood}
use Rattle.laws_selection.proofs.Growing.{adds_same, adds_then, front_adds, taking_adds, tested}
use Rattle.laws_selection.proofs.Fitting.{Spare, spare_free}
use Rattle.laws_selection.proofs.Numbers.{IsRanged}
use Rattle.laws_selection.specs.Evaluating.{Bounded, Gave, Here, HoldsWord, IsPlaced, Outcome, Raised, Scoped, slot_at, slot_base}
use Rattle.laws_selection.proofs.Evaluating.{gave_same, here_tested, load_at_adds, load_at_gives}
use Rattle.laws_selection.proofs.Combining.{Numbers, by_registers_adds, by_registers_gives, done_scope, holds_done, keeps_more}

pub longer : (w v : Written) → Adds w v → length w.code ≤ length v.code
longer w v a = rw a.extends.code (omega (arith, length-append w.code a.extends.words))

compared_is : (o : WOp) (a b k : ℕ) → compared o a b ≡ Some k → op_word o a b ≡ k
compared_is operation.Slt a b k e = ap (λ x. unwrap_or x 0) e
compared_is operation.Sltu a b k e = ap (λ x. unwrap_or x 0) e
compared_is operation.Equal a b k e = ap (λ x. unwrap_or x 0) e
compared_is _ a b k e = absurd (cc)

abbrev pub Agrees : ℕ → Value → Type 0
Agrees k (Gives n) = k ≡ n
Agrees k (Raises t) = ⊥
Agrees k Stuck = Unit {0}

abbrev pub AreSmall : List ℕ → Type 0
AreSmall bound = (k v : ℕ) → slice_get bound k ≡ Some v → v < 2 ^ 64

module _ (view : View) (image : Code) (base : ℕ) (W : Written) (hole : HoleKind → ℕ → ℕ) (stands : Stood W image base hole) (is_leaf : Bool) (trap_address : Trap → ℕ) where
  abbrev pub Gives' : ℕ → Written → State → Operand → ℕ → Type 0
  Gives' = Gave view image base hole is_leaf

  abbrev pub Here' : Written → State → Type 0
  Here' = Here view image base hole is_leaf

  abbrev Raised' : Written → Written → State → Trap → Type 0
  Raised' = Raised base trap_address

  abbrev Outcome' : ℕ → Written → Written → State → Operand → Value → Type 0
  Outcome' = Outcome view image base hole is_leaf trap_address

  abbrev Scoped' : Scope → List ℕ → State → Type 0
  Scoped' = Scoped is_leaf

  -- what was raised in a part, behind other words and before others
  pub raised_within : (kept : ℕ) (w u x v : Written) {s t : State} {trap : Trap} → length w.code ≤ length u.code → length x.code ≤ length v.code → Reaches s t → Done kept s t → Raised' u x t trap → Raised' w v s trap
  raised_within kept w u x v first last reaches done r =
      let low = r.low in
      let high = r.high in
      record {
        state = r.state;
        reaches = reaches_then reaches r.reaches;
        same = same_then done.same r.same;
        stays = λ q h d. r.stays q h d ∙ done.stays q (stays_any kept q h);
        pc = r.pc;
        word = r.word;
        low = omega arith;
        high = omega arith;
        back = r.back;
      }

  pub raised_in : (kept : ℕ) (w u x v : Written) {s t : State} {trap : Trap} → Adds w u → Adds x v → Reaches s t → Done kept s t → Raised' u x t trap → Raised' w v s trap
  raised_in kept w u x v a b reaches done r = raised_within kept w u x v (longer w u a) (longer x v b) reaches done r

  still : (sc : Scope) (o : Operand) (s t : State) (v : ℕ) → ((r : Register) → o ≡ In r → stays sc.kept r ≡ true) → Done sc.kept s t → HoldsWord o s v → HoldsWord o t v
  still sc (In r) s t v k d h = d.stays r (k r refl) ∙ h
  still sc (Known w) s t v k d h = h

  pub scoped_then : (sc : Scope) (bound : List ℕ) (s t : State) (o : Operand) → Done sc.kept s t → Scoped' sc bound s → Scoped' (keeping o sc) bound t
  scoped_then sc bound s t o d h = record {
    leaf = h.leaf;
    small = h.small;
    placed = h.placed;
    held = λ n v e. let x = h.held n v e in (x.0, x.1, still sc x.0 s t v x.4 d x.2, x.3, λ r is. keeps_more o sc r (x.4 r is));
  }

  pub scoped_same : (sc : Scope) (bound : List ℕ) (s t : State) → Done sc.kept s t → Scoped' sc bound s → Scoped' sc bound t
  scoped_same sc bound s t d h = record {
    leaf = h.leaf;
    small = h.small;
    placed = h.placed;
    held = λ n v e. let x = h.held n v e in (x.0, x.1, still sc x.0 s t v x.4 d x.2, x.3, x.4);
  }

  -- behind other words
  pub outcome_then : (kept : ℕ) (w u v : Written) {s t : State} (o : Operand) → Adds w u → Reaches s t → Done kept s t → (x : Value) → Outcome' kept u v t o x → Outcome' kept w v s o x
  outcome_then kept w u v o a r d (Gives n) x = record { state = x.state; reaches = reaches_then r x.reaches; here = x.here; done = done_then d x.done; holds = x.holds; placed = x.placed }
  outcome_then kept w u v o a r d (Raises t) x = raised_in kept w u v v a (adds_same v) r d x
  outcome_then kept w u v o a r d Stuck x = tt

  -- a word that is there already
  pub record IsReady (o : Operand) (s : State) (x : Value) : Type 0 where
    pub placed : IsPlaced o
    pub holds : (n : ℕ) → x ≡ Gives n → HoldsWord o s n
    pub calm : (t : Trap) → x ≡ Raises t → ⊥

  -- what an expression becomes does what it means
  pub record Good (p : Part) (m : Meant) : Type 0 where
    pub known : (sc : Scope) (bound : List ℕ) (s : State) (k : ℕ) → Scoped' sc bound s → p.known sc ≡ Some k → Agrees k (m bound)
    pub adds : (sc : Scope) (w : Written) → Adds w (p.onto sc w)
    pub gives : (sc : Scope) (bound : List ℕ) (w : Written) (s : State) → Scoped' sc bound s → Here' w s → Front (p.onto sc w) W → Outcome' sc.kept w (p.onto sc w) s (p.at sc) (m bound)
    pub small : (bound : List ℕ) (n : ℕ) → AreSmall bound → m bound ≡ Gives n → n < 2 ^ 64
    pub ready : (sc : Scope) (bound : List ℕ) (s : State) (o : Operand) → Scoped' sc bound s → p.ready sc ≡ Some o → IsReady o s (m bound)
    pub truth : p.is_truth ≡ true → (bound : List ℕ) (n : ℕ) → m bound ≡ Gives n → n < 2

  adds_by : (k : Option ℕ) (onto : Onto) (w : Written) → Adds w (onto w) → Adds w (unless_known k onto w)
  adds_by None onto w a = a
  adds_by (Some n) onto w a = adds_same w

  pub adds_of : (p : Part) {m : Meant} → Good p m → (sc : Scope) (w : Written) → Adds w (onto_of p sc w)
  adds_of p g sc w = adds_by (p.known sc) (p.onto sc) w (g.adds sc w)

  agreed : (kept : ℕ) (w : Written) (s : State) (n : ℕ) → Here' w s → (x : Value) → ((m : ℕ) → x ≡ Gives m → m < 2 ^ 64) → Agrees n x → Outcome' kept w w s (Known n) x
  agreed kept w s n h (Gives m) small e = gave_same view image base W hole stands is_leaf kept w s (Known n) m h e (subst (λ k. k < 2 ^ 64) (sym e) (small m refl))
  agreed kept w s n h (Raises t) small e = absurd e
  agreed kept w s n h Stuck small e = tt

  given_by : (kept : ℕ) (onto : Onto) (o : Operand) (w : Written) (s : State) (x : Value) (k : Option ℕ) → ((n : ℕ) → k ≡ Some n → Agrees n x) → ((m : ℕ) → x ≡ Gives m → m < 2 ^ 64) → Here' w s →
      (Front (onto w) W → Outcome' kept w (onto w) s o x) → Front (unless_known k onto w) W → Outcome' kept w (unless_known k onto w) s (at_known k o) x
  given_by kept onto o w s x None e small h f g = f g
  given_by kept onto o w s x (Some n) e small h f g = agreed kept w s n h x small (e n refl)

  pub gives_of : (p : Part) {m : Meant} → Good p m → (sc : Scope) (bound : List ℕ) (w : Written) (s : State) → Scoped' sc bound s → Here' w s → Front (onto_of p sc w) W →
      Outcome' sc.kept w (onto_of p sc w) s (at_of p sc) (m bound)
  gives_of p {m} g sc bound w s scoped h f =
      given_by sc.kept (p.onto sc) (p.at sc) w s (m bound) (p.known sc) (λ n e. g.known sc bound s n scoped e) (λ n e. g.small bound n scoped.small e) h (g.gives sc bound w s scoped h) f

  -- Slots.

  slot_is : (slot : ℕ) (sc : Scope) (b : Bool) → b ≡ is_leaf → (w : Written) → (if b then load_at_onto (free sc) name.Value (word_distance slot) (taking sc w) else load_slot_onto (free sc) slot (taking sc w)) ≡ load_at_onto (free sc) (slot_base b) (slot_at b slot) (taking sc w)
  slot_is slot sc true l w = refl
  slot_is slot sc false l w = refl

  base_near : (b : Bool) → is_far (slot_base b) ≡ false
  base_near true = refl
  base_near false = refl

  slot_ranged : (b : Bool) (slot : ℕ) → IsRanged (slot_at b slot)
  slot_ranged true slot = tt
  slot_ranged false slot = tt

  slot_by : (slot : ℕ) (sc : Scope) (w : Written) → sc.is_leaf ≡ is_leaf → slot_onto slot sc w ≡ load_at_onto (free sc) (slot_base is_leaf) (slot_at is_leaf slot) (taking sc w)
  unfolding slot_onto
  slot_by slot sc w e = slot_is slot sc sc.is_leaf e w ∙ ap (λ b. load_at_onto (free sc) (slot_base b) (slot_at b slot) (taking sc w)) e

  loads_add : (to from : Register) (d : ℤ) (sc : Scope) (w : Written) → Adds w (load_at_onto to from d (taking sc w))
  loads_add to from d sc w = adds_then w (taking sc w) _ (taking_adds sc w) (load_at_adds view image base W hole stands is_leaf to from d (taking sc w))

  slot_adds : (slot : ℕ) (sc : Scope) (w : Written) → Adds w (slot_onto slot sc w)
  unfolding slot_onto
  slot_adds slot sc w = by sc.is_leaf
    where
      by : (b : Bool) → Adds w (if b then load_at_onto (free sc) name.Value (word_distance slot) (taking sc w) else load_slot_onto (free sc) slot (taking sc w))
      by true = loads_add (free sc) name.Value (word_distance slot) sc w
      by false = loads_add (free sc) name.Frame (slot_distance slot) sc w

  -- a register that is taken is free
  pub taken : (sc : Scope) (w : Written) → Front (taking sc w) W → Spare sc.kept (free sc)
  taken sc w f = spare_free sc (tested (has_free sc) w W stands.fits f)

  pub here_taking : (sc : Scope) (w : Written) (s : State) → Here' w s → Here' (taking sc w) s
  here_taking sc w s h = here_tested view image base W hole stands is_leaf (has_free sc) w s h

  slot_gives : (slot : ℕ) (sc : Scope) (w : Written) (s : State) → sc.is_leaf ≡ is_leaf → Here' w s → Front (slot_onto slot sc w) W → (v : Option ℕ) → v ≡ view.slot slot →
      Outcome' sc.kept w (slot_onto slot sc w) s (In (free sc)) (of_option v)
  slot_gives slot sc w s leaf h f None e = tt
  slot_gives slot sc w s leaf h f (Some n) e =
      let f' = subst (λ x. Front x W) (slot_by slot sc w leaf) f in
      let v = taking sc w in
      let spare = taken sc w (front_adds v _ W (load_at_adds view image base W hole stands is_leaf (free sc) (slot_base is_leaf) (slot_at is_leaf slot) v) f') in
      subst (λ x. Gives' sc.kept x s (In (free sc)) n) (sym (slot_by slot sc w leaf))
      (load_at_gives view image base W hole stands is_leaf sc.kept v s (free sc) (slot_base is_leaf) (slot_at is_leaf slot) n (here_taking sc w s h) f' (base_near is_leaf) spare.spare spare.near (slot_ranged is_leaf slot)
      (h.sees.slot slot n (sym e)))

  pub of_small : (v : Option ℕ) (n : ℕ) → ((k : ℕ) → v ≡ Some k → k < 2 ^ 64) → of_option v ≡ Gives n → n < 2 ^ 64
  of_small None n h e = absurd (cc)
  of_small (Some k) n h e = subst (λ m. m < 2 ^ 64) (cc) (h k refl)

  pub slot_good : Bounded view → (slot : ℕ) → Good (plain 3 (λ s. None) (λ s. In (free s)) (slot_onto slot)) (λ bound. of_option (view.slot slot))
  slot_good bounded slot = record {
    known = λ sc bound s k h e. absurd (cc);
    adds = λ sc w. slot_adds slot sc w;
    gives = λ sc bound w s scoped h f. slot_gives slot sc w s scoped.leaf h f (view.slot slot) refl;
    small = λ bound n h e. of_small (view.slot slot) n (bounded.slot slot) e;
    ready = λ sc bound s o h e. absurd (cc);
    truth = λ t bound n e. absurd (cc);
  }

  -- Known and bound words.

  pub word_good : (word words : ℕ) → word < 2 ^ 64 → Good (record (plain words (λ s. Some word) (λ s. Known word) (λ s w. w)) { ready = λ s. Some (Known word) }) (λ bound. Gives word)
  word_good word words small = record {
    known = λ sc bound s k h e. ap (λ o. unwrap_or o 0) (sym e);
    adds = λ sc w. adds_same w;
    gives = λ sc bound w s scoped h f. gave_same view image base W hole stands is_leaf sc.kept w s (Known word) word h refl small;
    small = λ bound n h e. subst (λ m. m < 2 ^ 64) (cc) small;
    ready = λ sc bound s o h e. subst (λ (q : Operand). IsReady q s (Gives word)) (ap (λ x. unwrap_or x (Known word)) e) (record { placed = small; holds = λ n is. cc; calm = λ t is. absurd (cc) });
    truth = λ t bound n e. absurd (cc);
  }

  known_bound : (o : Operand) (s : State) (v k : ℕ) → HoldsWord o s v → bound_word (Some o) ≡ Some k → k ≡ v
  known_bound (Known w) s v k h e = ap (λ x. unwrap_or x 0) (sym e) ∙ h
  known_bound (In r) s v k h e = absurd (cc)

  bound_known : (sc : Scope) (bound : List ℕ) (s : State) (number k : ℕ) → Scoped' sc bound s → (v : Option ℕ) → v ≡ slice_get bound number → bound_word (slice_get sc.bound number) ≡ Some k → Agrees k (of_option v)
  bound_known sc bound s number k h None e b = tt
  bound_known sc bound s number k h (Some v) e b = let x = h.held number v (sym e) in known_bound x.0 s v k x.2 (ap bound_word (sym x.1) ∙ b)

  bound_gives : (sc : Scope) (bound : List ℕ) (w : Written) (s : State) (number : ℕ) → Scoped' sc bound s → Here' w s → (v : Option ℕ) → v ≡ slice_get bound number → Outcome' sc.kept w w s (bound_at (slice_get sc.bound number)) (of_option v)
  bound_gives sc bound w s number h here None e = tt
  bound_gives sc bound w s number h here (Some v) e =
      let x = h.held number v (sym e) in
      subst (λ (o : Option Operand). Gives' sc.kept w s (bound_at o) v) (sym x.1) (gave_same view image base W hole stands is_leaf sc.kept w s x.0 v here x.2 x.3)

  bound_ready : (sc : Scope) (bound : List ℕ) (s : State) (number : ℕ) (o : Operand) → Scoped' sc bound s → slice_get sc.bound number ≡ Some o → (v : Option ℕ) → v ≡ slice_get bound number → IsReady o s (of_option v)
  bound_ready sc bound s number o h e None is = record { placed = h.placed number o e; holds = λ n q. absurd (cc); calm = λ t q. absurd (cc) }
  bound_ready sc bound s number o h e (Some v) is =
      let x = h.held number v (sym is) in
      let same : x.0 ≡ o = ap (λ q. unwrap_or q o) (sym x.1 ∙ e) in
      record { placed = h.placed number o e; holds = λ n q. subst (λ (p : Operand). HoldsWord p s n) same (subst (λ m. HoldsWord x.0 s m) (cc) x.2); calm = λ t q. absurd (cc) }

  pub bound_good : (number : ℕ) → Good (record (plain 1 (λ s. bound_word (slice_get s.bound number)) (λ s. bound_at (slice_get s.bound number)) (λ s w. w)) { ready = λ s. slice_get s.bound number }) (λ bound. of_option (slice_get bound number))
  bound_good number = record {
    known = λ sc bound s k h e. bound_known sc bound s number k h (slice_get bound number) refl e;
    adds = λ sc w. adds_same w;
    gives = λ sc bound w s scoped h f. bound_gives sc bound w s number scoped h (slice_get bound number) refl;
    small = λ bound n h e. of_small (slice_get bound number) n (h number) e;
    ready = λ sc bound s o h e. bound_ready sc bound s number o h e (slice_get bound number) refl;
    truth = λ t bound n e. absurd (cc);
  }

  -- Operations.

  module _ (numbers : Numbers view image base W hole stands is_leaf) (number_adds : (to : Register) (word : ℕ) (w : Written) → Adds w (known_onto to word w)) where
    -- an operation whose right word is a number in the instruction
    abbrev pub ByNumber : Type 0
    ByNumber = (o : WOp) (left right : Operand) (sc : Scope) (w : Written) (s : State) (a b : ℕ) (n : Op × ℤ) → known_number o right ≡ Some n → IsPlaced left → IsPlaced right → a < 2 ^ 64 → b < 2 ^ 64 → Here' w s → HoldsWord left s a → HoldsWord right s b →
        Spare sc.kept (free sc) → Front (combined_by o left right sc (Some n) w) W → Gives' sc.kept (combined_by o left right sc (Some n) w) s (In (free sc)) (op_word o a b)

    module _ (by_number : ByNumber) (by_number_adds : (o : WOp) (left right : Operand) (sc : Scope) (n : Op × ℤ) (w : Written) → Adds w (combined_by o left right sc (Some n) w)) (ops : (o : WOp) (a b : ℕ) → a < 2 ^ 64 → b < 2 ^ 64 → op_word o a b < 2 ^ 64) where
      combined_by_gives : (o : WOp) (left right : Operand) (sc : Scope) (w : Written) (s : State) (a b : ℕ) (n : Option (Op × ℤ)) → known_number o right ≡ n → IsPlaced left → IsPlaced right → a < 2 ^ 64 → b < 2 ^ 64 → Here' w s → HoldsWord left s a → HoldsWord right s b →
          Spare sc.kept (free sc) → Front (combined_by o left right sc n w) W → Gives' sc.kept (combined_by o left right sc n w) s (In (free sc)) (op_word o a b)
      combined_by_gives o left right sc w s a b None e p q sa sb h l r spare f = by_registers_gives view image base W hole stands is_leaf numbers number_adds o left right sc w s a b p q sa sb h l r spare f
      combined_by_gives o left right sc w s a b (Some n) e p q sa sb h l r spare f = by_number o left right sc w s a b n e p q sa sb h l r spare f

      combined_by_adds : (o : WOp) (left right : Operand) (sc : Scope) (w : Written) (n : Option (Op × ℤ)) → Adds w (combined_by o left right sc n w)
      combined_by_adds o left right sc w None = by_registers_adds view image base W hole stands is_leaf numbers number_adds o left right sc w
      combined_by_adds o left right sc w (Some n) = by_number_adds o left right sc n w

      pub combined_gives : (o : WOp) (left right : Operand) (sc : Scope) (w : Written) (s : State) (a b : ℕ) → IsPlaced left → IsPlaced right → a < 2 ^ 64 → b < 2 ^ 64 → Here' w s → HoldsWord left s a → HoldsWord right s b →
          Front (combined_onto o left right sc w) W → Gives' sc.kept (combined_onto o left right sc w) s (In (free sc)) (op_word o a b)
      unfolding combined_onto
      combined_gives o left right sc w s a b p q sa sb h l r f =
          let v = taking sc w in
          let spare = taken sc w (front_adds v _ W (combined_by_adds o left right sc v (known_number o right)) f) in
          combined_by_gives o left right sc v s a b (known_number o right) refl p q sa sb (here_taking sc w s h) l r spare f

      pub combined_adds : (o : WOp) (left right : Operand) (sc : Scope) (w : Written) → Adds w (combined_onto o left right sc w)
      unfolding combined_onto
      combined_adds o left right sc w = adds_then w (taking sc w) _ (taking_adds sc w) (combined_by_adds o left right sc (taking sc w) (known_number o right))

      abbrev binary_onto : WOp → Part → Part → Scope → Onto
      binary_onto o l r sc = in_turn (operands_onto l r sc ∷ combined_onto o (at_of l sc) (at_of r (right_scope l sc)) sc ∷ [])

      abbrev pub binary_meant : WOp → Meant → Meant → Meant
      binary_meant o ml mr bound = then_word (ml bound) (λ a. then_word (mr bound) (λ b. Gives (op_word o a b)))

      module _ (o : WOp) (l r : Part) {ml mr : Meant} (gl : Good l ml) (gr : Good r mr) where
        -- behind the left word
        right_then : (sc : Scope) (bound : List ℕ) (w : Written) (s : State) (a : ℕ) → Scoped' sc bound s → Front (binary_onto o l r sc w) W → ml bound ≡ Gives a → (x : Gives' sc.kept (onto_of l sc w) s (at_of l sc) a) →
            (y : Value) → mr bound ≡ y → Outcome' (right_scope l sc).kept (onto_of l sc w) (operands_onto l r sc w) x.state (at_of r (right_scope l sc)) y →
            Outcome' sc.kept w (binary_onto o l r sc w) s (In (free sc)) (then_word y (λ b. Gives (op_word o a b)))
        right_then sc bound w s a scoped f la x (Gives b) rb y =
            let left = at_of l sc in
            let right = at_of r (right_scope l sc) in
            let kept = holds_done view image base W hole stands is_leaf numbers number_adds sc left x.state y.state a x.placed y.done x.holds in
            let z = combined_gives o left right sc (operands_onto l r sc w) y.state a b x.placed y.placed (gl.small bound a scoped.small la) (gr.small bound b scoped.small rb) y.here kept y.holds f in
            record {
              state = z.state;
              reaches = reaches_then x.reaches (reaches_then y.reaches z.reaches);
              here = z.here;
              done = done_then x.done (done_then (done_scope view image base W hole stands is_leaf numbers number_adds sc left y.done) z.done);
              holds = z.holds;
              placed = z.placed;
            }
        right_then sc bound w s a scoped f la x (Raises t) rb y =
            raised_in sc.kept w (onto_of l sc w) (operands_onto l r sc w) (binary_onto o l r sc w)
            (adds_of l gl sc w) (combined_adds o (at_of l sc) (at_of r (right_scope l sc)) sc (operands_onto l r sc w)) x.reaches x.done y
        right_then sc bound w s a scoped f la x Stuck rb y = tt

        rest_adds : (sc : Scope) (w : Written) → Adds (onto_of l sc w) (binary_onto o l r sc w)
        rest_adds sc w = adds_then (onto_of l sc w) (operands_onto l r sc w) (binary_onto o l r sc w) (adds_of r gr (right_scope l sc) (onto_of l sc w)) (combined_adds o (at_of l sc) (at_of r (right_scope l sc)) sc (operands_onto l r sc w))

        left_then : (sc : Scope) (bound : List ℕ) (w : Written) (s : State) → Scoped' sc bound s → Front (binary_onto o l r sc w) W →
            (x : Value) → ml bound ≡ x → Outcome' sc.kept w (onto_of l sc w) s (at_of l sc) x →
            Outcome' sc.kept w (binary_onto o l r sc w) s (In (free sc)) (then_word x (λ a. then_word (mr bound) (λ b. Gives (op_word o a b))))
        left_then sc bound w s scoped f (Gives a) la x =
            let inner = scoped_then sc bound s x.state (at_of l sc) x.done scoped in
            let fr = front_adds (operands_onto l r sc w) (binary_onto o l r sc w) W (combined_adds o (at_of l sc) (at_of r (right_scope l sc)) sc (operands_onto l r sc w)) f in
            right_then sc bound w s a scoped f la x (mr bound) refl (gives_of r gr (right_scope l sc) bound (onto_of l sc w) x.state inner x.here fr)
        left_then sc bound w s scoped f (Raises t) la x =
            raised_in sc.kept w w (onto_of l sc w) (binary_onto o l r sc w) (adds_same w) (rest_adds sc w) (reaches_same s) (done_same sc.kept s) x
        left_then sc bound w s scoped f Stuck la x = tt

        binary_gives : (sc : Scope) (bound : List ℕ) (w : Written) (s : State) → Scoped' sc bound s → Here' w s → Front (binary_onto o l r sc w) W →
            Outcome' sc.kept w (binary_onto o l r sc w) s (In (free sc)) (binary_meant o ml mr bound)
        binary_gives sc bound w s scoped h f =
            left_then sc bound w s scoped f (ml bound) refl (gives_of l gl sc bound w s scoped h (front_adds (onto_of l sc w) (binary_onto o l r sc w) W (rest_adds sc w) f))

        both_by : (a b : Option ℕ) (k : ℕ) (x y : Value) → both_known o a b ≡ Some k → ((n : ℕ) → a ≡ Some n → Agrees n x) → ((n : ℕ) → b ≡ Some n → Agrees n y) → Agrees k (then_word x (λ a. then_word y (λ b. Gives (op_word o a b))))
        both_by (Some a) (Some b) k (Gives m) (Gives n) e p q = sym (compared_is o m n k (ap₂ (compared o) (sym (p a refl)) (sym (q b refl)) ∙ e))
        both_by (Some a) (Some b) k (Raises t) y e p q = absurd (p a refl)
        both_by (Some a) (Some b) k Stuck y e p q = tt
        both_by (Some a) (Some b) k (Gives m) (Raises t) e p q = absurd (q b refl)
        both_by (Some a) (Some b) k (Gives m) Stuck e p q = tt
        both_by None b k x y e p q = absurd (cc)
        both_by (Some a) None k x y e p q = absurd (cc)

        both_small : (x y : Value) (n : ℕ) → ((k : ℕ) → x ≡ Gives k → k < 2 ^ 64) → ((k : ℕ) → y ≡ Gives k → k < 2 ^ 64) → then_word x (λ a. then_word y (λ b. Gives (op_word o a b))) ≡ Gives n → n < 2 ^ 64
        both_small (Gives a) (Gives b) n p q e = subst (λ m. m < 2 ^ 64) (cc) (ops o a b (p a refl) (q b refl))
        both_small (Gives a) (Raises t) n p q e = absurd (cc)
        both_small (Gives a) Stuck n p q e = absurd (cc)
        both_small (Raises t) y n p q e = absurd (cc)
        both_small Stuck y n p q e = absurd (cc)

        bool_small : (b : Bool) → from_bool b < 2
        bool_small true = omega arith
        bool_small false = omega arith

        compared_truth : (o : WOp) → is_comparison o ≡ true → (a b : ℕ) → op_word o a b < 2
        compared_truth operation.Slt e a b = bool_small _
        compared_truth operation.Sltu e a b = bool_small _
        compared_truth operation.Equal e a b = bool_small _
        compared_truth _ e a b = absurd (cc)

        both_truth : (o : WOp) → is_comparison o ≡ true → (x y : Value) (n : ℕ) → then_word x (λ a. then_word y (λ b. Gives (op_word o a b))) ≡ Gives n → n < 2
        both_truth o t (Gives a) (Gives b) n e = subst (λ m. m < 2) (cc) (compared_truth o t a b)
        both_truth o t (Gives a) (Raises r) n e = absurd (cc)
        both_truth o t (Gives a) Stuck n e = absurd (cc)
        both_truth o t (Raises r) y n e = absurd (cc)
        both_truth o t Stuck y n e = absurd (cc)

        pub binary_good : Good (binary o l r) (binary_meant o ml mr)
        binary_good = record {
          known = λ sc bound s k h e. both_by (l.known sc) (r.known sc) k (ml bound) (mr bound) e (λ n is. gl.known sc bound s n h is) (λ n is. gr.known sc bound s n h is);
          adds = λ sc w. adds_then w (onto_of l sc w) (binary_onto o l r sc w) (adds_of l gl sc w) (rest_adds sc w);
          gives = λ sc bound w s scoped h f. binary_gives sc bound w s scoped h f;
          small = λ bound n h e. both_small (ml bound) (mr bound) n (λ k is. gl.small bound k h is) (λ k is. gr.small bound k h is) e;
          ready = λ sc bound s q h e. absurd (cc);
          truth = λ t bound n e. both_truth o t (ml bound) (mr bound) n e;
        }
