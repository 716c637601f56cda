-- Two words in registers, and an operation on them.
use Rattle.std.proofs.Common.{◌≡◌, ◌∙◌, ◌≢◌, ℕ, pos, ◌+◌, ◌-◌, ◌%◌, ◌^◌, ◌<◌, ◌==◌, Bool, true, false, refl, ap, ap₂, sym, subst, arith}
use Rattle.std.specs.Prelude.{if◌then◌else◌, nat_lt}
use Rattle.std.specs.Int.{from_bool}
use Rattle.std.proofs.lemmas.Bool.Decides.{nat_tests}
use Rattle.std.proofs.lemmas.Bool.{eqb-true}
use Rattle.clu_wir.specs.declared.expression.WOp.{WOp}
use Rattle.clu_wir.specs.declared.expression.WOp.TheVariants as operation
use Rattle.clu_wir.specs.declared.hole.HoleKind.{HoleKind}
use Rattle.rv_isa.specs.declared.instr.Instr.TheVariants as instr
use Rattle.rv_isa.specs.declared.op.Op.TheVariants as op
use Rattle.rv_machine.specs.State.{State, register}
use Rattle.rv_machine.specs.Steps.{Goes}
use Rattle.rv_machine.specs.Values.{value_of, bit as truth}
use Rattle.rv_select.specs.declared.operand.Operand.{Operand}
use Rattle.rv_select.specs.declared.operand.Operand.TheVariants.{At as In, Known}
use Rattle.rv_select.specs.declared.operand.Scope.{Scope}
use Rattle.rv_select.specs.declared.register.Register.{Register}
use Rattle.rv_select.specs.declared.register.Register.TheVariants as name
use Rattle.rv_select.specs.Registers.{register_number}
use Rattle.rv_select.specs.Operations.{instruction_of}
use Rattle.rv_select.specs.Operands.{free, has_free, keeping, known_onto, register_of, register_onto, taking}
use Rattle.rv_select.specs.Combining.{beside_left, by_registers_onto, left_at, registers_onto, right_at, told_onto}
use Rattle.rv_select.specs.Written.{Written, three_onto}
use Rattle.clu_wir.specs.Value.{View, op_word}
use Rattle.laws_selection.specs.Registers.{is_far, stays}
use Rattle.laws_selection.proofs.Registers.{stays_more, stays_none, stays_own}
use Rattle.laws_selection.specs.Running.{Code, Done, Reaches}
use Rattle.laws_selection.proofs.Running.{done_less, done_same, done_then, imm_goes, reaches_same, reaches_then, with_word}
use Rattle.laws_selection.specs.Growing.{Adds, Front}
use Rattle.laws_selection.proofs.Growing.{Stood}
use Rattle.laws_selection.proofs.Growing.{adds_same, adds_then, emitted_adds, front_adds, taking_adds, tested}
use Rattle.laws_selection.specs.Evaluating.{Gave, Here, HoldsWord, IsPlaced}
use Rattle.laws_selection.proofs.Evaluating.{Puts, gave_same, here_tested, puts, three_gives}
use Rattle.laws_selection.proofs.Fitting.{Spare, spare_free}

by_truth : (b : Bool) → truth b ≡ from_bool b
by_truth true = refl
by_truth false = refl

equal_true : (a b : ℕ) → a < 2 ^ 64 → b < 2 ^ 64 → (c : Bool) → c ≡ (a == b) → truth (nat_lt ((a + 2 ^ 64 - b) % 2 ^ 64) 1) ≡ from_bool c
equal_true a b p q true e = let same : a ≡ b = grind (arith, nat_tests) in let t : nat_lt ((a + 2 ^ 64 - b) % 2 ^ 64) 1 ≡ true = grind (arith, nat_tests) in rw t refl
equal_true a b p q false e = let other : a ≢ b = λ s. grind (arith, nat_tests) in let t : nat_lt ((a + 2 ^ 64 - b) % 2 ^ 64) 1 ≡ false = grind (arith, nat_tests) in rw t refl

-- what the instruction gives, and what is told of it
abbrev told : WOp → ℕ → ℕ
told operation.Equal n = truth (nat_lt n 1)
told _ n = n

op_is : (o : WOp) (a b : ℕ) → a < 2 ^ 64 → b < 2 ^ 64 → told o (value_of (instruction_of o) a b) ≡ op_word o a b
op_is operation.Equal a b p q = equal_true a b p q (a == b) refl
op_is operation.Slt a b p q = by_truth _
op_is operation.Sltu a b p q = by_truth _
op_is _ a b p q = refl

pub keeps_more : (o : Operand) (sc : Scope) (r : Register) → stays sc.kept r ≡ true → stays (keeping o sc).kept r ≡ true
keeps_more (In q) sc r h = stays_more sc.kept r q h
keeps_more (Known k) sc r h = stays_none sc.kept r h

pub register_placed : (o : Operand) (to : Register) → IsPlaced o → is_far to ≡ false → is_far (register_of o to) ≡ false
register_placed (In r) to p f = p
register_placed (Known k) to p f = by (k == 0)
  where
    by : (c : Bool) → is_far (if c then name.Zero else to) ≡ false
    by true = refl
    by false = f

module _ (view : View) (image : Code) (base : ℕ) (W : Written) (hole : HoleKind → ℕ → ℕ) (stands : Stood W image base hole) (is_leaf : Bool) where
  -- a known word goes into any register but that of far addresses
  abbrev pub Numbers : Type 0
  Numbers = (kept : ℕ) (w : Written) (s : State) (to : Register) (word : ℕ) → word < 2 ^ 64 → Here view image base hole is_leaf w s → Front (known_onto to word w) W → stays kept to ≡ false → is_far to ≡ false →
      Gave view image base hole is_leaf kept (known_onto to word w) s (In to) word

  module _ (numbers : Numbers) (number_adds : (to : Register) (word : ℕ) (w : Written) → Adds w (known_onto to word w)) where
    abbrev Gave' : ℕ → Written → State → Operand → ℕ → Type 0
    Gave' = Gave view image base hole is_leaf

    abbrev Puts' : ℕ → Written → State → Register → ℕ → Type 0
    Puts' = Puts view image base W hole stands is_leaf

    abbrev Here' : Written → State → Type 0
    Here' = Here view image base hole is_leaf

    pub register_adds : (o : Operand) (to : Register) (w : Written) → Adds w (register_onto o to w)
    unfolding register_onto
    register_adds (In r) to w = adds_same w
    register_adds (Known k) to w = by (k == 0)
      where
        by : (c : Bool) → Adds w (if c then w else known_onto to k w)
        by true = adds_same w
        by false = number_adds to k w

    known_gives : (kept : ℕ) (w : Written) (s : State) (k : ℕ) (to : Register) → k < 2 ^ 64 → Here' w s → stays kept to ≡ false → is_far to ≡ false → (c : Bool) → (k == 0) ≡ c →
        Front (if c then w else known_onto to k w) W → Gave' kept (if c then w else known_onto to k w) s (In (if c then name.Zero else to)) k
    known_gives kept w s k to small h spare near true e f = gave_same view image base W hole stands is_leaf kept w s (In name.Zero) k h (h.sees.zero ∙ sym (eqb-true k 0 e)) refl
    known_gives kept w s k to small h spare near false e f = numbers kept w s to k small h f spare near

    -- a word into a register, if it is in none
    pub register_gives : (kept : ℕ) (w : Written) (s : State) (o : Operand) (to : Register) (n : ℕ) → IsPlaced o → Here' w s → HoldsWord o s n → Front (register_onto o to w) W → stays kept to ≡ false → is_far to ≡ false →
        Gave' kept (register_onto o to w) s (In (register_of o to)) n
    unfolding register_onto
    register_gives kept w s (In r) to n small h p f spare near = gave_same view image base W hole stands is_leaf kept w s (In r) n h p small
    register_gives kept w s (Known k) to n small h p f spare near = subst (λ m. Gave' kept (register_onto (Known k) to w) s (In (register_of (Known k) to)) m) p (known_gives kept w s k to small h spare near (k == 0) refl f)

    -- what is held still is where registers stay
    pub holds_done : (sc : Scope) (o : Operand) (s t : State) (n : ℕ) → IsPlaced o → Done (keeping o sc).kept s t → HoldsWord o s n → HoldsWord o t n
    holds_done sc (In r) s t n p d h = d.stays r (stays_own sc.kept r p) ∙ h
    holds_done sc (Known k) s t n p d h = h

    pub done_scope : (sc : Scope) (o : Operand) {s t : State} → Done (keeping o sc).kept s t → Done sc.kept s t
    done_scope sc o d = done_less sc.kept (keeping o sc).kept (λ r h. keeps_more o sc r h) d

    pub registers_adds : (left right : Operand) (sc : Scope) (w : Written) → Adds w (registers_onto left right sc w)
    registers_adds left right sc w =
        let a = register_onto left (free (keeping right sc)) (taking (keeping right sc) w) in
        let b = taking (keeping (In (left_at left right sc)) sc) a in
        adds_then w a _ (adds_then w (taking (keeping right sc) w) a (taking_adds (keeping right sc) w) (register_adds left (free (keeping right sc)) (taking (keeping right sc) w)))
        (adds_then a b _ (taking_adds (keeping (In (left_at left right sc)) sc) a) (register_adds right (beside_left left right sc) b))

    here_taking : (s' : Scope) (w : Written) (s : State) → Here' w s → Here' (taking s' w) s
    here_taking s' w s h = here_tested view image base W hole stands is_leaf (has_free s') w s h

    -- a register that is taken is free
    pub taken : (s' : Scope) (w : Written) → Front (taking s' w) W → Spare s'.kept (free s')
    taken s' w f = spare_free s' (tested (has_free s') w W stands.fits f)

    -- two words in registers
    pub record Both (left right : Operand) (sc : Scope) (v : Written) (s : State) (a b : ℕ) : Type 0 where
      pub state : State
      pub reaches : Reaches s state
      pub here : Here' v state
      pub done : Done sc.kept s state
      pub left_is : register state (register_number (left_at left right sc)) ≡ a
      pub right_is : register state (register_number (right_at left right sc)) ≡ b

    pub registers_give : (left right : Operand) (sc : Scope) (w : Written) (s : State) (a b : ℕ) → IsPlaced left → IsPlaced right → Here' w s → HoldsWord left s a → HoldsWord right s b →
        Front (registers_onto left right sc w) W → Both left right sc (registers_onto left right sc w) s a b
    registers_give left right sc w s a b p q h l r f =
        let near = free (keeping right sc) in
        let inner = keeping (In (left_at left right sc)) sc in
        let w0 = taking (keeping right sc) w in
        let v = register_onto left near w0 in
        let v1 = taking inner v in
        let f1 = front_adds v1 _ W (register_adds right (beside_left left right sc) v1) f in
        let fv = front_adds v v1 W (taking_adds inner v) f1 in
        let first = taken (keeping right sc) w (front_adds w0 v W (register_adds left near w0) fv) in
        let second = taken inner v f1 in
        let x = register_gives (keeping right sc).kept w0 s left near a p (here_taking (keeping right sc) w s h) l fv first.spare first.near in
        let still = holds_done sc right s x.state b q x.done r in
        let y = register_gives inner.kept v1 x.state right (beside_left left right sc) b q (here_taking inner v x.state x.here) still f second.spare second.near in
        record {
          state = y.state;
          reaches = reaches_then x.reaches y.reaches;
          here = y.here;
          done = done_then (done_scope sc right x.done) (done_scope sc (In (left_at left right sc)) y.done);
          left_is = holds_done sc (In (left_at left right sc)) x.state y.state a (register_placed left near p first.near) y.done x.holds;
          right_is = y.holds;
        }

    told_adds : (o : WOp) (to : Register) (w : Written) → Adds w (told_onto o to w)
    told_adds operation.Equal to w = emitted_adds _ w
    told_adds _ to w = adds_same w

    told_gives : (kept : ℕ) (w : Written) (s : State) (o : WOp) (to : Register) (n : ℕ) → Here' w s → register s (register_number to) ≡ n → Front (told_onto o to w) W → stays kept to ≡ false → Puts' kept (told_onto o to w) s to (told o n)
    told_gives kept w s operation.Equal to n h e f spare =
        puts view image base W hole stands is_leaf kept w s to _ (instr.Imm op.Sltiu (register_number to) (register_number to) (pos 1)) h f spare
        (λ at. imm_goes s op.Sltiu (register_number to) (register_number to) (pos 1) at ∙ ap (λ m. Goes (with_word s to (truth (nat_lt m 1)))) e)
    told_gives kept w s _ to n h e f spare = record { state = s; reaches = reaches_same s; here = h; done = done_same kept s; holds = e }

    pub by_registers_adds : (o : WOp) (left right : Operand) (sc : Scope) (w : Written) → Adds w (by_registers_onto o left right sc w)
    by_registers_adds o left right sc w = adds_then w _ _ (registers_adds left right sc w) (adds_then _ _ _ (emitted_adds _ _) (told_adds o (free sc) _))

    -- an operation between registers
    pub by_registers_gives : (o : WOp) (left right : Operand) (sc : Scope) (w : Written) (s : State) (a b : ℕ) → IsPlaced left → IsPlaced right → a < 2 ^ 64 → b < 2 ^ 64 → Here' w s → HoldsWord left s a → HoldsWord right s b →
        Spare sc.kept (free sc) → Front (by_registers_onto o left right sc w) W → Gave' sc.kept (by_registers_onto o left right sc w) s (In (free sc)) (op_word o a b)
    by_registers_gives o left right sc w s a b p q small_a small_b h l r to_spare f =
        let v = registers_onto left right sc w in
        let u = three_onto (instruction_of o) (free sc) (left_at left right sc) (right_at left right sc) v in
        let fu = front_adds u (told_onto o (free sc) u) W (told_adds o (free sc) u) f in
        let x = registers_give left right sc w s a b p q h l r (front_adds v u W (emitted_adds _ v) fu) in
        let y = three_gives view image base W hole stands is_leaf sc.kept v x.state (instruction_of o) (free sc) (left_at left right sc) (right_at left right sc) x.here fu to_spare.spare in
        let given : value_of (instruction_of o) (register x.state (register_number (left_at left right sc))) (register x.state (register_number (right_at left right sc))) ≡ value_of (instruction_of o) a b = ap₂ (value_of (instruction_of o)) x.left_is x.right_is in
        let z = told_gives sc.kept u y.state o (free sc) (value_of (instruction_of o) a b) y.here (y.holds ∙ given) f to_spare.spare in
        record {
          state = z.state;
          reaches = reaches_then x.reaches (reaches_then y.reaches z.reaches);
          here = z.here;
          done = done_then x.done (done_then y.done z.done);
          holds = z.holds ∙ op_is o a b small_a small_b;
          placed = to_spare.near;
        }
