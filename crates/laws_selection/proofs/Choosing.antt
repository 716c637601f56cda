-- Choices: two sides that meet, or one that is there already.
use Rattle.std.proofs.Common.{◌≡◌, ◌∙◌, ℕ, pos, ◌^◌, ◌<◌, ◌≤◌, ◌==◌, Bool, true, false, not, List, length, slice_get, Option, Some, None, refl, ap, sym, subst, arith}
use Rattle.std.specs.Prelude.{if◌then◌else◌, nat_lt}
use Rattle.std.proofs.lemmas.Bool.{eqb-true}
use Rattle.clu_wir.specs.declared.hole.HoleKind.{HoleKind}
use Rattle.clu_wir.specs.declared.trap.Trap.{Trap}
use Rattle.clu_wir.specs.Rooms.{plus}
use Rattle.rv_isa.specs.declared.instr.Instr.TheVariants as instr
use Rattle.rv_isa.specs.declared.op.Op.TheVariants as op
use Rattle.rv_machine.specs.State.{State, register}
use Rattle.rv_machine.specs.Values.{sum}
use Rattle.rv_select.specs.declared.knowing.TheConstants.{REACH}
use Rattle.rv_select.specs.declared.operand.Operand.{Operand}
use Rattle.rv_select.specs.declared.operand.Operand.TheVariants.{At as In, Known}
use Rattle.rv_select.specs.declared.operand.Scope.{Scope}
use Rattle.rv_select.specs.declared.register.Register.{Register}
use Rattle.rv_select.specs.Registers.{register_number}
use Rattle.rv_select.specs.Operands.{free, keeping, put_onto, taking}
use Rattle.rv_select.specs.Conditions.{far, near}
use Rattle.rv_select.specs.Evaluation.{Part, at_of, choice, choice_onto, jump_of, onto_of, ready_first, ready_side, same, sides_onto}
use Rattle.rv_select.specs.Written.{Written, copy_onto, fresh, go_onto, placed}
use Rattle.clu_wir.specs.Value.{Gives, Raises, Stuck, Value, View, by_truth, then_word}
use Rattle.laws_selection.proofs.Meaning.{Meant}
use Rattle.laws_selection.specs.Registers.{is_far, stays}
use Rattle.laws_selection.specs.Running.{Code, Done, Reaches}
use Rattle.laws_selection.specs.Growing.{Adds, Front, Sound, address}
use Rattle.laws_selection.specs.Evaluating.{Gave, Here, HoldsWord, IsPlaced, Outcome, Scoped, Turned, Went, is_so}
use Rattle.laws_selection.proofs.Registers.{stays_own}
use Rattle.laws_selection.proofs.Running.{done_same, done_then, imm_goes, reaches_same, reaches_then}
use Rattle.laws_selection.proofs.Growing.{Stood, adds_same, adds_then, emitted_adds, extends_longer, fresh_adds, fresh_label, fresh_length, front_adds, front_placed, placed_adds, placed_count, placed_length, placed_other, placed_sound, placed_there, referred_adds, sound_then, taking_adds}
use Rattle.laws_selection.proofs.Fitting.{Spare}
use Rattle.laws_selection.proofs.Evaluating.{Puts, puts}
use Rattle.laws_selection.proofs.Combining.{Numbers, done_scope, holds_done}
use Rattle.laws_selection.proofs.Jumping.{go_goes}
use Rattle.laws_selection.proofs.Known.{number_adds, numbers}
use Rattle.laws_selection.proofs.Parts.{Good, IsReady, adds_of, gives_of, here_taking, longer, outcome_then, raised_within, scoped_same, scoped_then, taken}
use Rattle.laws_selection.proofs.Checking.{Jumps, jump_of_adds, turns_of}

module _ (view : View) (image : Code) (base : ℕ) (W : Written) (hole : HoleKind → ℕ → ℕ) (stands : Stood W image base hole) (trap_address : Trap → ℕ) (few : length W.code < 2 ^ 32) where
  abbrev Here' : Written → State → Type 0
  Here' = Here view image base hole false

  abbrev Gave' : ℕ → Written → State → Operand → ℕ → Type 0
  Gave' = Gave view image base hole false

  abbrev Scoped' : Scope → List ℕ → State → Type 0
  Scoped' = Scoped false

  abbrev Outcome' : ℕ → Written → Written → State → Operand → Value → Type 0
  Outcome' = Outcome view image base hole false trap_address

  abbrev Good' : Part → Meant → Type 0
  Good' = Good view image base W hole stands false trap_address

  abbrev Jumps' : Part → Meant → Type 0
  Jumps' = Jumps view image base W hole stands trap_address few

  abbrev Puts' : ℕ → Written → State → Register → ℕ → Type 0
  Puts' = Puts view image base W hole stands false

  pub put_adds : (o : Operand) (to : Register) (w : Written) → Adds w (put_onto o to w)
  unfolding put_onto
  put_adds (In r) to w = by (register_number r == register_number to)
    where
      by : (c : Bool) → Adds w (if c then w else copy_onto to r w)
      by true = adds_same w
      by false = emitted_adds _ w
  put_adds (Known k) to w = number_adds to k w

  copied : (kept : ℕ) (w : Written) (s : State) (r to : Register) → Here' w s → stays kept to ≡ false → (c : Bool) → (register_number r == register_number to) ≡ c →
      Front (if c then w else copy_onto to r w) W → Puts' kept (if c then w else copy_onto to r w) s to (if c then register s (register_number r) else sum (register s (register_number r)) 0)
  copied kept w s r to h spare true q f = record { state = s; reaches = reaches_same s; here = h; done = done_same kept s; holds = ap (register s) (sym (eqb-true (register_number r) (register_number to) q)) }
  copied kept w s r to h spare false q f =
      puts view image base W hole stands false kept w s to (sum (register s (register_number r)) 0) (instr.Imm op.Addi (register_number to) (register_number r) (pos 0)) h f spare
      (λ at. imm_goes s op.Addi (register_number to) (register_number r) (pos 0) at)

  whole_word : (n : ℕ) → n < 2 ^ 64 → sum n 0 ≡ n
  whole_word n h = omega arith

  -- a word into a register, whatever it is
  pub record PutsSome (kept : ℕ) (v : Written) (s : State) (o : Operand) (to : Register) : Type 0 where
    pub number : ℕ
    pub put : Puts' kept v s to number
    pub is : (n : ℕ) → n < 2 ^ 64 → HoldsWord o s n → number ≡ n

  pub put_some : (kept : ℕ) (w : Written) (s : State) (o : Operand) (to : Register) → IsPlaced o → Here' w s → Front (put_onto o to w) W → stays kept to ≡ false → is_far to ≡ false → PutsSome kept (put_onto o to w) s o to
  unfolding put_onto
  put_some kept w s (In r) to p h f spare near = by (register_number r == register_number to) refl f
    where
      by : (c : Bool) → (register_number r == register_number to) ≡ c → Front (if c then w else copy_onto to r w) W → PutsSome kept (if c then w else copy_onto to r w) s (In r) to
      by true q f = record { number = register s (register_number r); put = copied kept w s r to h spare true q f; is = λ n small e. e }
      by false q f = record { number = sum (register s (register_number r)) 0; put = copied kept w s r to h spare false q f; is = λ n small e. ap (λ m. sum m 0) e ∙ whole_word n small }
  put_some kept w s (Known k) to p h f spare near =
      let x = numbers view image base W hole stands false kept w s to k p h f spare near in
      record { number = k; put = record { state = x.state; reaches = x.reaches; here = x.here; done = x.done; holds = x.holds }; is = λ n small e. e }

  -- a word into a register
  pub put_gives : (kept : ℕ) (w : Written) (s : State) (o : Operand) (to : Register) (n : ℕ) → IsPlaced o → n < 2 ^ 64 → Here' w s → HoldsWord o s n → Front (put_onto o to w) W → stays kept to ≡ false → is_far to ≡ false → Gave' kept (put_onto o to w) s (In to) n
  put_gives kept w s o to n p small h e f spare near =
      let x = put_some kept w s o to p h f spare near in
      let y = x.put in
      record { state = y.state; reaches = y.reaches; here = y.here; done = y.done; holds = y.holds ∙ x.is n small e; placed = near }

  -- a side of a choice
  side_adds : (p : Part) {m : Meant} → Good' p m → (sc : Scope) (w : Written) → Adds w (put_onto (at_of p sc) (free sc) (onto_of p sc w))
  side_adds p g sc w = adds_then w (onto_of p sc w) _ (adds_of view image base W hole stands false trap_address p g sc w) (put_adds (at_of p sc) (free sc) (onto_of p sc w))

  module _ (p : Part) {m : Meant} (g : Good' p m) where
    side_by : (sc : Scope) (bound : List ℕ) (w : Written) (s : State) → Spare sc.kept (free sc) → Scoped' sc bound s → Front (put_onto (at_of p sc) (free sc) (onto_of p sc w)) W →
        (x : Value) → m bound ≡ x → Outcome' sc.kept w (onto_of p sc w) s (at_of p sc) x → Outcome' sc.kept w (put_onto (at_of p sc) (free sc) (onto_of p sc w)) s (In (free sc)) x
    side_by sc bound w s spare scoped f (Gives n) e x =
        let y = put_gives sc.kept (onto_of p sc w) x.state (at_of p sc) (free sc) n x.placed (g.small bound n scoped.small e) x.here x.holds f spare.spare spare.near in
        record { state = y.state; reaches = reaches_then x.reaches y.reaches; here = y.here; done = done_then x.done y.done; holds = y.holds; placed = spare.near }
    side_by sc bound w s spare scoped f (Raises t) e x =
        raised_within view image base W hole stands false trap_address sc.kept w w (onto_of p sc w) _ (omega arith) (longer _ _ (put_adds (at_of p sc) (free sc) (onto_of p sc w))) (reaches_same s) (done_same sc.kept s) x
    side_by sc bound w s spare scoped f Stuck e x = tt

    pub side_gives : (sc : Scope) (bound : List ℕ) (w : Written) (s : State) → Spare sc.kept (free sc) → Scoped' sc bound s → Here' w s → Front (put_onto (at_of p sc) (free sc) (onto_of p sc w)) W →
        Outcome' sc.kept w (put_onto (at_of p sc) (free sc) (onto_of p sc w)) s (In (free sc)) (m bound)
    side_gives sc bound w s spare scoped h f =
        side_by sc bound w s spare scoped f (m bound) refl (gives_of view image base W hole stands false trap_address p g sc bound w s scoped h (front_adds (onto_of p sc w) _ W (put_adds (at_of p sc) (free sc) (onto_of p sc w)) f))

  ended : (kept : ℕ) (w v : Written) (l : ℕ) (s : State) (o : Operand) (x : Value) → Outcome' kept w v s o x → Outcome' kept w (placed l v) s o x
  ended kept w v l s o (Gives n) x = record {
    state = x.state;
    reaches = x.reaches;
    done = x.done;
    holds = x.holds;
    placed = x.placed;
    here = record { sound = placed_sound l v x.here.sound; pc = x.here.pc ∙ ap (address base) (sym (placed_length l v)); sees = x.here.sees };
  }
  ended kept w v l s o (Raises t) x = raised_within view image base W hole stands false trap_address kept w w v (placed l v) (omega arith) (subst (λ n. length v.code ≤ n) (sym (placed_length l v)) (omega arith)) (reaches_same s) (done_same kept s) x
  ended kept w v l s o Stuck x = tt

  -- a side from which it goes on behind the other one
  abbrev nums : Numbers view image base W hole stands false
  nums = numbers view image base W hole stands false

  moved : (sc : Scope) (w v u : Written) (s : State) (x : Value) → is_far (free sc) ≡ false → length v.code ≤ length u.code → Sound u →
      ((t : State) → Here' v t → Went view image base hole false (keeping (In (free sc)) sc).kept u t true (length u.code)) → Outcome' sc.kept w v s (In (free sc)) x → Outcome' sc.kept w u s (In (free sc)) x
  moved sc w v u s (Gives n) near more sound go x =
      let y = go x.state x.here in
      record {
        state = y.state;
        reaches = reaches_then x.reaches y.reaches;
        here = record { sound = sound; pc = y.pc; sees = y.sees };
        done = done_then x.done (done_scope view image base W hole stands false nums number_adds sc (In (free sc)) y.done);
        holds = holds_done view image base W hole stands false nums number_adds sc (In (free sc)) x.state y.state n near y.done x.holds;
        placed = near;
      }
  moved sc w v u s (Raises t) near more sound go x = raised_within view image base W hole stands false trap_address sc.kept w w v u (omega arith) more (reaches_same s) (done_same sc.kept s) x
  moved sc w v u s Stuck near more sound go x = tt

  module _ (c first other : Part) {mc mf mo : Meant} (gc : Good' c mc) (jc : Jumps' c mc) (gf : Good' first mf) (go : Good' other mo) where
    abbrev l_of : Written → ℕ
    l_of w = length w.labels

    abbrev e_of : Written → ℕ
    e_of w = length (fresh w).labels

    abbrev v0 : Written → Written
    v0 w = fresh (fresh w)

    abbrev v1 : Scope → Written → Written
    v1 sc w = jump_of c false (far (l_of w)) sc (v0 w)

    abbrev v3 : Scope → Written → Written
    v3 sc w = put_onto (at_of first sc) (free sc) (onto_of first sc (v1 sc w))

    abbrev v4 : Scope → Written → Written
    v4 sc w = go_onto (e_of w) (v3 sc w)

    abbrev v5 : Scope → Written → Written
    v5 sc w = placed (l_of w) (v4 sc w)

    abbrev v7 : Scope → Written → Written
    v7 sc w = put_onto (at_of other sc) (free sc) (onto_of other sc (v5 sc w))

    abbrev v8 : Scope → Written → Written
    v8 sc w = placed (e_of w) (v7 sc w)

    a01 : (w : Written) → Adds w (v0 w)
    a01 w = adds_then w (fresh w) (v0 w) (fresh_adds w) (fresh_adds (fresh w))

    a13 : (sc : Scope) (w : Written) → Adds (v0 w) (v1 sc w)
    a13 sc w = jump_of_adds view image base W hole stands trap_address few c jc false (far (l_of w)) sc (v0 w)

    a14 : (sc : Scope) (w : Written) → Adds (v1 sc w) (v4 sc w)
    a14 sc w = adds_then (v1 sc w) (v3 sc w) (v4 sc w) (side_adds first gf sc (v1 sc w)) (referred_adds _ (e_of w) (v3 sc w))

    a57 : (sc : Scope) (w : Written) → Adds (v5 sc w) (v7 sc w)
    a57 sc w = side_adds other go sc (v5 sc w)

    record Words' (sc : Scope) (w : Written) : Type 0 where
      front7 : Front (v7 sc w) W
      front5 : Front (v5 sc w) W
      front4 : Front (v4 sc w) W
      front3 : Front (v3 sc w) W
      front1 : Front (v1 sc w) W
      over : slice_get W.labels (l_of w) ≡ Some (Some (length (v4 sc w).code))
      over_short : length (v4 sc w).code < 2 ^ 32
      end : slice_get W.labels (e_of w) ≡ Some (Some (length (v7 sc w).code))
      end_short : length (v7 sc w).code < 2 ^ 32

    words_are : (sc : Scope) (w : Written) → Front (v8 sc w) W → Words' sc w
    words_are sc w f =
        let x = fresh_label w in
        let y = fresh_label (fresh w) in
        let x0 = x.0 in let y0 = y.0 in
        let a04 = adds_then (v0 w) (v1 sc w) (v4 sc w) (a13 sc w) (a14 sc w) in
        let c4 = a04.count in
        let c5 : length (v5 sc w).labels ≡ length (v4 sc w).labels = placed_count (l_of w) (v4 sc w) in
        let c7 = (a57 sc w).count in
        let e4 : slice_get (v4 sc w).labels (e_of w) ≡ Some None = a04.below (e_of w) y.0 ∙ y.1 in
        let e5 : slice_get (v5 sc w).labels (e_of w) ≡ Some None = placed_other (l_of w) (e_of w) (v4 sc w) (λ is. absurd (omega arith)) ∙ e4 in
        let e7 : slice_get (v7 sc w).labels (e_of w) ≡ Some None = (a57 sc w).below (e_of w) (omega arith) ∙ e5 in
        let f7 = front_placed (v7 sc w) W (e_of w) e7 f in
        let f5 = front_adds (v5 sc w) (v7 sc w) W (a57 sc w) f7 in
        let l0 : slice_get (v0 w).labels (l_of w) ≡ Some None = (fresh_adds (fresh w)).below (l_of w) x.0 ∙ x.1 in
        let l4 : slice_get (v4 sc w).labels (l_of w) ≡ Some None = a04.below (l_of w) (omega arith) ∙ l0 in
        let f4 = front_placed (v4 sc w) W (l_of w) l4 f5 in
        let f3 = front_adds (v3 sc w) (v4 sc w) W (referred_adds _ (e_of w) (v3 sc w)) f4 in
        let few' = few in
        let n4 = extends_longer (v4 sc w) W f4.extends in
        let n7 = extends_longer (v7 sc w) W f7.extends in
        record {
          front7 = f7;
          front5 = f5;
          front4 = f4;
          front3 = f3;
          front1 = front_adds (v1 sc w) (v3 sc w) W (side_adds first gf sc (v1 sc w)) f3;
          over = placed_there (v4 sc w) W (l_of w) (omega arith) f5;
          over_short = omega arith;
          end = placed_there (v7 sc w) W (e_of w) (omega arith) f;
          end_short = omega arith;
        }

    record Sounds (sc : Scope) (w : Written) : Type 0 where
      sound1 : Sound (v1 sc w)
      sound5 : Sound (v5 sc w)
      sound8 : Sound (v8 sc w)

    sounds : (sc : Scope) (w : Written) → Sound w → Sounds sc w
    sounds sc w s =
        let s1 = sound_then w (v1 sc w) (adds_then w (v0 w) (v1 sc w) (a01 w) (a13 sc w)).extends s in
        let s5 = placed_sound (l_of w) (v4 sc w) (sound_then (v1 sc w) (v4 sc w) (a14 sc w).extends s1) in
        record { sound1 = s1; sound5 = s5; sound8 = placed_sound (e_of w) (v7 sc w) (sound_then (v5 sc w) (v7 sc w) (a57 sc w).extends s5) }

    abbrev choice_meant : Meant
    choice_meant bound = then_word (mc bound) (λ n. by_truth n (mf bound) (mo bound))

    lengths : (sc : Scope) (w : Written) → (length w.code ≤ length (v1 sc w).code) × (length (v1 sc w).code ≤ length (v4 sc w).code) × (length (v4 sc w).code ≤ length (v7 sc w).code) × (length (v8 sc w).code ≡ length (v7 sc w).code) × (length (v3 sc w).code ≤ length (v4 sc w).code)
    lengths sc w = (
      longer w (v1 sc w) (adds_then w (v0 w) (v1 sc w) (a01 w) (a13 sc w)),
      longer (v1 sc w) (v4 sc w) (a14 sc w),
      subst (λ n. n ≤ length (v7 sc w).code) (placed_length (l_of w) (v4 sc w)) (longer (v5 sc w) (v7 sc w) (a57 sc w)),
      placed_length (e_of w) (v7 sc w),
      longer (v3 sc w) (v4 sc w) (referred_adds _ (e_of w) (v3 sc w)),
    )

    -- behind other words, told by their number
    later : (kept : ℕ) (w u v : Written) {s t : State} (o : Operand) → length w.code ≤ length u.code → Reaches s t → Done kept s t → (x : Value) → Outcome' kept u v t o x → Outcome' kept w v s o x
    later kept w u v o a r d (Gives n) x = record { state = x.state; reaches = reaches_then r x.reaches; here = x.here; done = done_then d x.done; holds = x.holds; placed = x.placed }
    later kept w u v o a r d (Raises t) x = raised_within view image base W hole stands false trap_address kept w u v v a (omega arith) r d x
    later kept w u v o a r d Stuck x = tt

    sided : (sc : Scope) (bound : List ℕ) (w : Written) (s : State) (n : ℕ) → Spare sc.kept (free sc) → Scoped' sc bound s → Sounds sc w → Words' sc w → (z : Bool) → (n == 0) ≡ z → Went view image base hole false sc.kept (v1 sc w) s z (length (v4 sc w).code) →
        Outcome' sc.kept w (v8 sc w) s (In (free sc)) (if z then mo bound else mf bound)
    sided sc bound w s n spare scoped sound words true q x =
        let le = lengths sc w in
        let a = le.0 in let b = le.1 in
        let five : length (v5 sc w).code ≡ length (v4 sc w).code = placed_length (l_of w) (v4 sc w) in
        let h : Here' (v5 sc w) x.state = record { sound = sound.sound5; pc = x.pc ∙ ap (address base) (sym five); sees = x.sees } in
        let y = side_gives other go sc bound (v5 sc w) x.state spare (scoped_same view image base W hole stands false trap_address sc bound s x.state x.done scoped) h words.front7 in
        later sc.kept w (v5 sc w) (v8 sc w) (In (free sc)) (omega arith) x.reaches x.done (mo bound) (ended sc.kept (v5 sc w) (v7 sc w) (e_of w) x.state (In (free sc)) (mo bound) y)
    sided sc bound w s n spare scoped sound words false q x =
        let le = lengths sc w in
        let b = le.2 in let c8 = le.3 in let d = le.4 in
        let h : Here' (v1 sc w) x.state = record { sound = sound.sound1; pc = x.pc; sees = x.sees } in
        let y = side_gives first gf sc bound (v1 sc w) x.state spare (scoped_same view image base W hole stands false trap_address sc bound s x.state x.done scoped) h words.front3 in
        later sc.kept w (v1 sc w) (v8 sc w) (In (free sc)) le.0 x.reaches x.done (mf bound)
        (moved sc (v1 sc w) (v3 sc w) (v8 sc w) x.state (mf bound) spare.near (omega arith) sound.sound8
        (λ t k. let j = go_goes view image base W hole stands false few (keeping (In (free sc)) sc).kept (v3 sc w) t (e_of w) (length (v7 sc w).code) k words.front4 words.end words.end_short in
        record { state = j.state; reaches = j.reaches; done = j.done; sees = j.sees; pc = j.pc ∙ ap (address base) (sym c8) }) y)

    same_false : (b : Bool) → same false (not b) ≡ b
    same_false true = refl
    same_false false = refl

    turned : (sc : Scope) (bound : List ℕ) (w : Written) (s : State) → Spare sc.kept (free sc) → Scoped' sc bound s → Sounds sc w → Words' sc w → (x : Value) → Turned view image base hole trap_address sc.kept (v0 w) (v1 sc w) s false (length (v4 sc w).code) x →
        Outcome' sc.kept w (v8 sc w) s (In (free sc)) (then_word x (λ n. by_truth n (mf bound) (mo bound)))
    turned sc bound w s spare scoped sound words (Gives n) x = sided sc bound w s n spare scoped sound words (n == 0) refl (subst (λ z. Went view image base hole false sc.kept (v1 sc w) s z (length (v4 sc w).code)) (same_false (n == 0)) x)
    turned sc bound w s spare scoped sound words (Raises t) x =
        let le = lengths sc w in let a = le.1 in let b = le.2 in let d = le.3 in
        raised_within view image base W hole stands false trap_address sc.kept w (v0 w) (v1 sc w) (v8 sc w) (longer w (v0 w) (a01 w)) (omega arith) (reaches_same s) (done_same sc.kept s) x
    turned sc bound w s spare scoped sound words Stuck x = tt

    -- where neither side is there already
    both_sides : (sc : Scope) (bound : List ℕ) (w : Written) (s : State) → Spare sc.kept (free sc) → Scoped' sc bound s → Here' w s → Front (sides_onto None c first other (l_of w) (e_of w) sc (v0 w)) W →
        Outcome' sc.kept w (sides_onto None c first other (l_of w) (e_of w) sc (v0 w)) s (In (free sc)) (choice_meant bound)
    both_sides sc bound w s spare scoped h f =
        let words = words_are sc w f in
        let start : Here' (v0 w) s = record { sound = sound_then w (v0 w) (a01 w).extends h.sound; pc = h.pc ∙ ap (address base) (sym (fresh_length w) ∙ sym (fresh_length (fresh w))); sees = h.sees } in
        turned sc bound w s spare scoped (sounds sc w h.sound) words (mc bound)
        (turns_of view image base W hole stands trap_address few c gc jc false (far (l_of w)) sc bound (v0 w) s (length (v4 sc w).code) scoped start words.front1 words.over words.over_short)

  -- One side is there already, and the other one is evaluated where it isn't wanted.
  module _ (c p : Part) {mc mp : Meant} (gc : Good' c mc) (jc : Jumps' c mc) (gp : Good' p mp) where
    abbrev r0 : Operand → Scope → Written → Written
    r0 o sc u = put_onto o (free sc) u

    abbrev inner : Scope → Scope
    inner sc = keeping (In (free sc)) sc

    abbrev r1 : Operand → Bool → ℕ → Scope → Written → Written
    r1 o z e sc u = jump_of c z (near e) (inner sc) (r0 o sc u)

    abbrev r3 : Operand → Bool → ℕ → Scope → Written → Written
    r3 o z e sc u = put_onto (at_of p sc) (free sc) (onto_of p sc (r1 o z e sc u))

    abbrev r4 : Operand → Bool → ℕ → Scope → Written → Written
    r4 o z e sc u = placed e (r3 o z e sc u)

    ready_to_adds : (o : Operand) (z : Bool) (e : ℕ) (sc : Scope) (u : Written) → Adds u (r3 o z e sc u)
    ready_to_adds o z e sc u =
        adds_then u (r0 o sc u) (r3 o z e sc u) (put_adds o (free sc) u)
        (adds_then (r0 o sc u) (r1 o z e sc u) (r3 o z e sc u) (jump_of_adds view image base W hole stands trap_address few c jc z (near e) (inner sc) (r0 o sc u)) (side_adds p gp sc (r1 o z e sc u)))

    abbrev chosen : Bool → ℕ → Value → Value → Value
    chosen z n x y = if same z (is_so n) then x else y

    record Fronts (o : Operand) (z : Bool) (e : ℕ) (sc : Scope) (u : Written) : Type 0 where
      front3 : Front (r3 o z e sc u) W
      end : slice_get W.labels e ≡ Some (Some (length (r3 o z e sc u).code))
      short : length (r3 o z e sc u).code < 2 ^ 32

    fronts_are : (o : Operand) (z : Bool) (e : ℕ) (sc : Scope) (u : Written) → e < length u.labels → slice_get u.labels e ≡ Some None → Front (r4 o z e sc u) W → Fronts o z e sc u
    fronts_are o z e sc u inside none f =
        let a = ready_to_adds o z e sc u in
        let count = a.count in
        let f3 = front_placed (r3 o z e sc u) W e (a.below e inside ∙ none) f in
        let whole = extends_longer (r3 o z e sc u) W f3.extends in
        record { front3 = f3; end = placed_there (r3 o z e sc u) W e (omega arith) f; short = omega (arith, few) }

    ended_at : (o : Operand) (z : Bool) (e : ℕ) (sc : Scope) (u : Written) (s t : State) (n : ℕ) (x : Value) → Spare sc.kept (free sc) → Sound u → Reaches s t → Done sc.kept s t → IsReady view image base W hole stands false trap_address o s x → ((k : ℕ) → x ≡ Gives k → k < 2 ^ 64) →
        ((k : ℕ) → k < 2 ^ 64 → HoldsWord o s k → n ≡ k) → register t (register_number (free sc)) ≡ n → Went view image base hole false (inner sc).kept (r1 o z e sc u) t true (length (r3 o z e sc u).code) → Outcome' sc.kept u (r4 o z e sc u) s (In (free sc)) x
    ended_at o z e sc u s t n (Gives k) spare sound reaches done ready small is holds y =
        let there : register y.state (register_number (free sc)) ≡ k = y.done.stays (free sc) (stays_own sc.kept (free sc) spare.near) ∙ holds ∙ is k (small k refl) (ready.holds k refl) in
        record {
          state = y.state;
          reaches = reaches_then reaches y.reaches;
          here = record { sound = placed_sound e (r3 o z e sc u) (sound_then u (r3 o z e sc u) (ready_to_adds o z e sc u).extends sound); pc = y.pc ∙ ap (address base) (sym (placed_length e (r3 o z e sc u))); sees = y.sees };
          done = done_then done (done_scope view image base W hole stands false nums number_adds sc (In (free sc)) y.done);
          holds = there;
          placed = spare.near;
        }
    ended_at o z e sc u s t n (Raises r) spare sound reaches done ready small is holds y = absurd (ready.calm r refl)
    ended_at o z e sc u s t n Stuck spare sound reaches done ready small is holds y = tt

    later' : (kept : ℕ) (w u v : Written) {s t : State} (o : Operand) → length w.code ≤ length u.code → Reaches s t → Done kept s t → (x : Value) → Outcome' kept u v t o x → Outcome' kept w v s o x
    later' kept w u v o a r d (Gives n) x = record { state = x.state; reaches = reaches_then r x.reaches; here = x.here; done = done_then d x.done; holds = x.holds; placed = x.placed }
    later' kept w u v o a r d (Raises t) x = raised_within view image base W hole stands false trap_address kept w u v v a (omega arith) r d x
    later' kept w u v o a r d Stuck x = tt

    decided : (o : Operand) (z : Bool) (e : ℕ) (sc : Scope) (bound : List ℕ) (u : Written) (s t : State) (n : ℕ) (x : Value) → Spare sc.kept (free sc) → Scoped' sc bound s → Sound u → Fronts o z e sc u → Reaches s t → Done sc.kept s t → IsReady view image base W hole stands false trap_address o s x → ((k : ℕ) → x ≡ Gives k → k < 2 ^ 64) →
        ((k : ℕ) → k < 2 ^ 64 → HoldsWord o s k → n ≡ k) → register t (register_number (free sc)) ≡ n → (so : Bool) → Went view image base hole false (inner sc).kept (r1 o z e sc u) t so (length (r3 o z e sc u).code) →
        Outcome' sc.kept u (r4 o z e sc u) s (In (free sc)) (if so then x else mp bound)
    decided o z e sc bound u s t n x spare scoped sound fronts reaches done ready small is holds true y = ended_at o z e sc u s t n x spare sound reaches done ready small is holds y
    decided o z e sc bound u s t n x spare scoped sound fronts reaches done ready small is holds false y =
        let a1 = adds_then u (r0 o sc u) (r1 o z e sc u) (put_adds o (free sc) u) (jump_of_adds view image base W hole stands trap_address few c jc z (near e) (inner sc) (r0 o sc u)) in
        let d = done_then done (done_scope view image base W hole stands false nums number_adds sc (In (free sc)) y.done) in
        let h : Here' (r1 o z e sc u) y.state = record { sound = sound_then u (r1 o z e sc u) a1.extends sound; pc = y.pc; sees = y.sees } in
        let q = side_gives p gp sc bound (r1 o z e sc u) y.state spare (scoped_same view image base W hole stands false trap_address sc bound s y.state d scoped) h fronts.front3 in
        later' sc.kept u (r1 o z e sc u) (r4 o z e sc u) (In (free sc)) (longer u (r1 o z e sc u) a1) (reaches_then reaches y.reaches) d (mp bound)
        (ended sc.kept (r1 o z e sc u) (r3 o z e sc u) e y.state (In (free sc)) (mp bound) q)

    decided_by : (o : Operand) (z : Bool) (e : ℕ) (sc : Scope) (bound : List ℕ) (u : Written) (s t : State) (n : ℕ) (x : Value) → Spare sc.kept (free sc) → Scoped' sc bound s → Sound u → Fronts o z e sc u → Reaches s t → Done sc.kept s t → IsReady view image base W hole stands false trap_address o s x → ((k : ℕ) → x ≡ Gives k → k < 2 ^ 64) →
        ((k : ℕ) → k < 2 ^ 64 → HoldsWord o s k → n ≡ k) → register t (register_number (free sc)) ≡ n → (y : Value) → Turned view image base hole trap_address (inner sc).kept (r0 o sc u) (r1 o z e sc u) t z (length (r3 o z e sc u).code) y →
        Outcome' sc.kept u (r4 o z e sc u) s (In (free sc)) (then_word y (λ m. chosen z m x (mp bound)))
    decided_by o z e sc bound u s t n x spare scoped sound fronts reaches done ready small is holds (Gives m) y = decided o z e sc bound u s t n x spare scoped sound fronts reaches done ready small is holds (same z (is_so m)) y
    decided_by o z e sc bound u s t n x spare scoped sound fronts reaches done ready small is holds (Raises r) y =
        let more = longer (r1 o z e sc u) (r3 o z e sc u) (side_adds p gp sc (r1 o z e sc u)) in
        raised_within view image base W hole stands false trap_address sc.kept u (r0 o sc u) (r1 o z e sc u) (r4 o z e sc u) (longer u (r0 o sc u) (put_adds o (free sc) u))
        (subst (λ k. length (r1 o z e sc u).code ≤ k) (sym (placed_length e (r3 o z e sc u))) more) reaches done y
    decided_by o z e sc bound u s t n x spare scoped sound fronts reaches done ready small is holds Stuck y = tt

    ready_gives : (o : Operand) (z : Bool) (e : ℕ) (sc : Scope) (bound : List ℕ) (u : Written) (s : State) (x : Value) → Spare sc.kept (free sc) → Scoped' sc bound s → Here' u s → e < length u.labels → slice_get u.labels e ≡ Some None → IsReady view image base W hole stands false trap_address o s x → ((k : ℕ) → x ≡ Gives k → k < 2 ^ 64) →
        Front (r4 o z e sc u) W → Outcome' sc.kept u (r4 o z e sc u) s (In (free sc)) (then_word (mc bound) (λ m. chosen z m x (mp bound)))
    ready_gives o z e sc bound u s x spare scoped h inside none ready small f =
        let fronts = fronts_are o z e sc u inside none f in
        let front1 = front_adds (r1 o z e sc u) (r3 o z e sc u) W (side_adds p gp sc (r1 o z e sc u)) fronts.front3 in
        let front0 = front_adds (r0 o sc u) (r1 o z e sc u) W (jump_of_adds view image base W hole stands trap_address few c jc z (near e) (inner sc) (r0 o sc u)) front1 in
        let a = put_some sc.kept u s o (free sc) ready.placed h front0 spare.spare spare.near in
        let b = a.put in
        let inside' = scoped_then view image base W hole stands false trap_address sc bound s b.state (In (free sc)) b.done scoped in
        decided_by o z e sc bound u s b.state a.number x spare scoped h.sound fronts b.reaches b.done ready small a.is b.holds (mc bound)
        (turns_of view image base W hole stands trap_address few c gc jc z (near e) (inner sc) bound (r0 o sc u) b.state (length (r3 o z e sc u).code) inside' b.here front1 fronts.end fronts.short)

  -- IF
  module _ (c first other : Part) {mc mf mo : Meant} (gc : Good' c mc) (jc : Jumps' c mc) (gf : Good' first mf) (go : Good' other mo) where
    abbrev pub if_meant : Meant
    if_meant bound = then_word (mc bound) (λ n. by_truth n (mf bound) (mo bound))

    -- the words after the two labels
    abbrev body : Option (Operand × Bool) → Scope → Written → Written
    body r sc w = sides_onto r c first other (length w.labels) (length (fresh w).labels) sc (fresh (fresh w))

    first_is : (n : ℕ) (x y : Value) → (if same true (is_so n) then x else y) ≡ by_truth n x y
    first_is n x y = by (n == 0)
      where
        by : (b : Bool) → (if same true (not b) then x else y) ≡ (if b then y else x)
        by true = refl
        by false = refl

    other_is : (n : ℕ) (x y : Value) → (if same false (is_so n) then y else x) ≡ by_truth n x y
    other_is n x y = by (n == 0)
      where
        by : (b : Bool) → (if same false (not b) then y else x) ≡ (if b then y else x)
        by true = refl
        by false = refl

    word_is : (z : Value) (f g : ℕ → Value) → ((n : ℕ) → f n ≡ g n) → then_word z f ≡ then_word z g
    word_is (Gives n) f g h = h n
    word_is (Raises t) f g h = refl
    word_is Stuck f g h = refl

    sides_adds : (r : Option (Operand × Bool)) (sc : Scope) (w : Written) → Adds w (body r sc w)
    sides_adds None sc w =
        let v0 = fresh (fresh w) in
        let l = length w.labels in
        let e = length (fresh w).labels in
        let v1 = jump_of c false (far l) sc v0 in
        let v3 = put_onto (at_of first sc) (free sc) (onto_of first sc v1) in
        let v4 = go_onto e v3 in
        let v5 = placed l v4 in
        let v7 = put_onto (at_of other sc) (free sc) (onto_of other sc v5) in
        let a0 = adds_then w (fresh w) v0 (fresh_adds w) (fresh_adds (fresh w)) in
        let a1 = adds_then w v0 v1 a0 (jump_of_adds view image base W hole stands trap_address few c jc false (far l) sc v0) in
        let a4 = adds_then w v3 v4 (adds_then w v1 v3 a1 (side_adds first gf sc v1)) (referred_adds _ e v3) in
        let a5 = placed_adds w v4 l a4 (omega arith) in
        let one = (fresh_label w).0 in
        placed_adds w v7 e (adds_then w v5 v7 a5 (side_adds other go sc v5)) (omega arith)
    sides_adds (Some (o, true)) sc w =
        let e = length (fresh w).labels in
        let v0 = fresh (fresh w) in
        let one = (fresh_label w).0 in
        placed_adds w _ e (adds_then w v0 _ (adds_then w (fresh w) v0 (fresh_adds w) (fresh_adds (fresh w))) (ready_to_adds c other gc jc go o true e sc v0)) (omega arith)
    sides_adds (Some (o, false)) sc w =
        let e = length (fresh w).labels in
        let v0 = fresh (fresh w) in
        let one = (fresh_label w).0 in
        placed_adds w _ e (adds_then w v0 _ (adds_then w (fresh w) v0 (fresh_adds w) (fresh_adds (fresh w))) (ready_to_adds c first gc jc gf o false e sc v0)) (omega arith)

    -- what is said of a ready side
    abbrev Sided : Option (Operand × Bool) → State → List ℕ → Type 0
    Sided None s bound = Unit {0}
    Sided (Some (o, true)) s bound = IsReady view image base W hole stands false trap_address o s (mf bound)
    Sided (Some (o, false)) s bound = IsReady view image base W hole stands false trap_address o s (mo bound)

    sides_give : (r : Option (Operand × Bool)) (sc : Scope) (bound : List ℕ) (w : Written) (s : State) → Sided r s bound → Spare sc.kept (free sc) → Scoped' sc bound s → Here' w s → Front (body r sc w) W → Outcome' sc.kept w (body r sc w) s (In (free sc)) (if_meant bound)
    sides_give None sc bound w s sided spare scoped h f = both_sides c first other gc jc gf go sc bound w s spare scoped h f
    sides_give (Some (o, true)) sc bound w s ready spare scoped h f =
        let v0 = fresh (fresh w) in
        let e = length (fresh w).labels in
        let a0 = adds_then w (fresh w) v0 (fresh_adds w) (fresh_adds (fresh w)) in
        let start : Here' v0 s = record { sound = sound_then w v0 a0.extends h.sound; pc = h.pc ∙ ap (address base) (sym (fresh_length w) ∙ sym (fresh_length (fresh w))); sees = h.sees } in
        let y = fresh_label (fresh w) in
        subst (λ x. Outcome' sc.kept w (body (Some (o, true)) sc w) s (In (free sc)) x) (word_is (mc bound) _ _ (λ n. first_is n (mf bound) (mo bound)))
        (outcome_then view image base W hole stands false trap_address sc.kept w v0 (body (Some (o, true)) sc w) (In (free sc)) a0 (reaches_same s) (done_same sc.kept s) _
        (ready_gives c other gc jc go o true e sc bound v0 s (mf bound) spare scoped start y.0 y.1 ready (λ k is. gf.small bound k scoped.small is) f))
    sides_give (Some (o, false)) sc bound w s ready spare scoped h f =
        let v0 = fresh (fresh w) in
        let e = length (fresh w).labels in
        let a0 = adds_then w (fresh w) v0 (fresh_adds w) (fresh_adds (fresh w)) in
        let start : Here' v0 s = record { sound = sound_then w v0 a0.extends h.sound; pc = h.pc ∙ ap (address base) (sym (fresh_length w) ∙ sym (fresh_length (fresh w))); sees = h.sees } in
        let y = fresh_label (fresh w) in
        subst (λ x. Outcome' sc.kept w (body (Some (o, false)) sc w) s (In (free sc)) x) (word_is (mc bound) _ _ (λ n. other_is n (mf bound) (mo bound)))
        (outcome_then view image base W hole stands false trap_address sc.kept w v0 (body (Some (o, false)) sc w) (In (free sc)) a0 (reaches_same s) (done_same sc.kept s) _
        (ready_gives c first gc jc gf o false e sc bound v0 s (mo bound) spare scoped start y.0 y.1 ready (λ k is. go.small bound k scoped.small is) f))

    first_sided : (a b : Option Operand) (sc : Scope) (bound : List ℕ) (s : State) → ((o : Operand) → a ≡ Some o → IsReady view image base W hole stands false trap_address o s (mf bound)) → ((o : Operand) → b ≡ Some o → IsReady view image base W hole stands false trap_address o s (mo bound)) → Sided (ready_first a b) s bound
    first_sided (Some o) b sc bound s p q = p o refl
    first_sided None (Some o) sc bound s p q = q o refl
    first_sided None None sc bound s p q = tt

    side_sided : (sc : Scope) (bound : List ℕ) (s : State) → Scoped' sc bound s → Sided (ready_side c first other sc) s bound
    side_sided sc bound s scoped = by (nat_lt REACH (plus c.words (plus first.words other.words)))
      where
        by : (b : Bool) → Sided (if b then None else ready_first (first.ready sc) (other.ready sc)) s bound
        by true = tt
        by false = first_sided (first.ready sc) (other.ready sc) sc bound s (λ o e. gf.ready sc bound s o scoped e) (λ o e. go.ready sc bound s o scoped e)

    choice_gives : (sc : Scope) (bound : List ℕ) (w : Written) (s : State) → Scoped' sc bound s → Here' w s → Front (choice_onto c first other sc w) W → Outcome' sc.kept w (choice_onto c first other sc w) s (In (free sc)) (if_meant bound)
    unfolding fresh
    choice_gives sc bound w s scoped h f =
        let v = taking sc w in
        let r = ready_side c first other sc in
        let spare = taken view image base W hole stands false trap_address sc w (front_adds v (body r sc v) W (sides_adds r sc v) f) in
        outcome_then view image base W hole stands false trap_address sc.kept w v (choice_onto c first other sc w) (In (free sc)) (taking_adds sc w) (reaches_same s) (done_same sc.kept s) (if_meant bound)
        (sides_give r sc bound v s (side_sided sc bound s scoped) spare scoped (here_taking view image base W hole stands false trap_address sc w s h) f)

    if_small : (x y z : Value) (n : ℕ) → ((k : ℕ) → y ≡ Gives k → k < 2 ^ 64) → ((k : ℕ) → z ≡ Gives k → k < 2 ^ 64) → then_word x (λ m. by_truth m y z) ≡ Gives n → n < 2 ^ 64
    if_small (Gives m) y z n p q e = by (m == 0) e
      where
        by : (b : Bool) → (if b then z else y) ≡ Gives n → n < 2 ^ 64
        by true e = q n e
        by false e = p n e
    if_small (Raises t) y z n p q e = absurd (cc)
    if_small Stuck y z n p q e = absurd (cc)

    pub choice_adds : (sc : Scope) (w : Written) → Adds w (choice_onto c first other sc w)
    unfolding fresh
    choice_adds sc w = adds_then w (taking sc w) _ (taking_adds sc w) (sides_adds (ready_side c first other sc) sc (taking sc w))

    pub choice_good : Good' (choice c first other) if_meant
    choice_good = record {
      known = λ sc bound s k h e. absurd (cc);
      adds = λ sc w. choice_adds sc w;
      gives = λ sc bound w s scoped h f. choice_gives sc bound w s scoped h f;
      small = λ bound n h e. if_small (mc bound) (mf bound) (mo bound) n (λ k is. gf.small bound k h is) (λ k is. go.small bound k h is) e;
      ready = λ sc bound s o h e. absurd (cc);
      truth = λ t bound n e. absurd (cc);
    }
